-- What a report shares is cached and has equal bytes.
use Rattle.std.proofs.Common.{◌≡◌, ℕ, ◌+◌, ◌<◌, Bool, true, false, List, [], ◌∷◌, map, Some, None, refl, sym, ap, subst, arith}
use Rattle.std.specs.Prelude.{nat_eq, Option, All, option_map, unwrap_or}
use Rattle.std.specs.List.{flat_map}
use Rattle.std.proofs.lemmas.List.Concat.{flat_map-cons}
use Rattle.std.proofs.lemmas.List.Elements.{All-nil, All-cons, All-append}
use Rattle.std.proofs.lemmas.Bool.Decides.{nat_tests}
use Rattle.place_words.specs.Different.{is_among}
use Rattle.volume_model.specs.declared.sequence.Sequence.{Sequence}
use Rattle.volume_model.specs.Cache.{is_cached}
use Rattle.volume_model.specs.Lines.{share_line}
use Rattle.volume_model.specs.Machine.{Machine, Rules, block_at, held}
use Rattle.volume_model.specs.Point.{share_lines}
use Rattle.volume_model.specs.ReportLaws.{HasEqualBytes, SharedBytesAreEqual}
use Rattle.volume_model.specs.Selection.{IsSequence}
use Rattle.volume_model.specs.Sharing.{and_then, same_bytes, matches, dirty_places, selected, numbers_of}
use Rattle.volume_model.specs.Whole.{IsWhole}
use Rattle.volume_model.proofs.Order.{second_of}
use Rattle.volume_model.proofs.ReportOrder.{report_lines_are}
use Rattle.volume_model.proofs.SharedPlaces.{AllIn, selected_in}

both_tests : (t : Bool) (f : Unit {0} → Bool) → and_then t f ≡ true → (t ≡ true) × (f tt ≡ true)
both_tests true f e = (refl, e)
both_tests false f e = cc

pub same_is : (xs ys : List ℕ) → same_bytes xs ys ≡ true → xs ≡ ys
same_is [] [] e = refl
same_is [] (y ∷ ys) e = cc
same_is (x ∷ xs) [] e = cc
same_is (x ∷ xs) (y ∷ ys) e =
    let two = both_tests (nat_eq x y) (λ _. same_bytes xs ys) e in
    let first : x ≡ y = one x y two.0 in
    λ i. first i ∷ same_is xs ys two.1 i
  where
    one : (x y : ℕ) → nat_eq x y ≡ true → x ≡ y
    one x y e = grind (arith, nat_tests)

held_same : (bytes : List ℕ) (o : Option (List ℕ)) → unwrap_or (option_map (same_bytes bytes) o) false ≡ true → o ≡ Some bytes
held_same bytes None e = cc
held_same bytes (Some found) e = ap Some (sym (same_is bytes found e))

pub matches_bytes : (m : Machine) (number place block : ℕ) → matches m number place block ≡ true → (is_cached m.cache block ≡ true) × (held m block ≡ Some (block_at m.tree (number, place)))
matches_bytes m number place block e =
    let two = both_tests (is_cached m.cache block) (λ _. unwrap_or (option_map (same_bytes (block_at m.tree (number, place))) (held m block)) false) e in
    (two.0, held_same (block_at m.tree (number, place)) (held m block) two.1)

line_equal : (m : Machine) (number : ℕ) (q : Sequence) → IsSequence (matches m number) (dirty_places m number) q → HasEqualBytes m (share_line number q)
line_equal m number q is k below = matches_bytes m number (q.first + k) (q.block + k) (second_of (is_among (dirty_places m number) (q.first + k)) _ (is.1 k below))

number_equal : (m : Machine) (number : ℕ) (qs : List Sequence) → AllIn (matches m number) (dirty_places m number) qs → All (HasEqualBytes m) (map (share_line number) qs)
number_equal m number [] all = All-nil (HasEqualBytes m)
number_equal m number (q ∷ qs) all = All-cons (HasEqualBytes m) (share_line number q) (map (share_line number) qs) (line_equal m number q all.0) (number_equal m number qs all.1)

numbers_equal : (r : Rules) (m : Machine) → 0 < r.threshold → IsWhole m → (ns : List ℕ) → All (HasEqualBytes m) (flat_map (λ number. map (share_line number) (selected r m number)) ns)
numbers_equal r m positive whole [] = All-nil (HasEqualBytes m)
numbers_equal r m positive whole (n ∷ ns) =
    subst (All (HasEqualBytes m)) (sym (flat_map-cons (λ number. map (share_line number) (selected r m number)) n ns))
    (All-append (HasEqualBytes m) (map (share_line n) (selected r m n)) (flat_map (λ number. map (share_line number) (selected r m number)) ns)
    (number_equal m n (selected r m n) (selected_in r m n positive whole))
    (numbers_equal r m positive whole ns))

pub shares_equal : (r : Rules) (m : Machine) → 0 < r.threshold → IsWhole m → All (HasEqualBytes m) (share_lines r m)
shares_equal r m positive whole = numbers_equal r m positive whole (numbers_of m.dirty)

pub shared_bytes_are_equal : SharedBytesAreEqual
shared_bytes_are_equal r m report is = subst (All (HasEqualBytes m)) (sym (report_lines_are.shares r m report is)) (shares_equal r m is.positive is.whole)
