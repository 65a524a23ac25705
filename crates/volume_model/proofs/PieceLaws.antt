-- The pieces of a file are its kept and dirty places, by place, in the longest stretches.
use Rattle.std.proofs.Common.{◌≡◌, ℕ, zero, suc, ◌+◌, ◌≤◌, Bool, true, false, cond, List, [], ◌∷◌, ◌++◌, map, filter, Some, None, refl, sym, ap, subst, ◌∙◌, arith, add-zero}
use Rattle.std.specs.Prelude.{◌&&◌, nat_eq, nat_le, Option}
use Rattle.std.specs.List.{flat_map}
use Rattle.std.proofs.lemmas.Bool.Decides.{nat_tests}
use Rattle.std.proofs.lemmas.List.Concat.{flat_map-cons}
use Rattle.tree_model.specs.declared.reply.Piece.{Piece}
use Rattle.tree_model.specs.declared.reply.Piece.TheVariants.{Placed, Dirty}
use Rattle.place_words.specs.Different.{span}
use Rattle.volume_model.specs.Laws.{IsJoined, singles, AreByPlace, PiecesAre}
use Rattle.volume_model.specs.Machine.{Machine}
use Rattle.volume_model.specs.Pieces.{place_of, joined, in_front, with_piece, all_joined, by_place, all_by_place, kept_pieces, dirty_pieces, single_pieces}
use Rattle.volume_model.specs.Places.{Spot, Places}

-- ---- of one place

abbrev IsSingle : Piece → Type 0
IsSingle (Placed place length block) = length ≡ 1
IsSingle (Dirty place length) = length ≡ 1

abbrev AllSingle : List Piece → Type 0
AllSingle [] = Unit {0}
AllSingle (p ∷ ps) = IsSingle p × AllSingle ps

single_is : (p : Piece) → IsSingle p → singles p ≡ p ∷ []
single_is (Placed place length block) s =
    ap (λ (n : ℕ). map (λ (k : ℕ). Placed (place + k) 1 (block + k)) (span 0 n)) s ∙ (λ i. Placed (add-zero place i) (sym s i) (add-zero block i) ∷ [])
single_is (Dirty place length) s = ap (λ (n : ℕ). map (λ (k : ℕ). Dirty (place + k) 1) (span 0 n)) s ∙ (λ i. Dirty (add-zero place i) (sym s i) ∷ [])

all_append : (ps qs : List Piece) → AllSingle ps → AllSingle qs → AllSingle (ps ++ qs)
all_append [] qs a b = b
all_append (p ∷ ps) qs a b = (a.0, all_append ps qs a.1 b)

kept_single : (es : Places) → AllSingle (map (λ (e : Spot × ℕ). Placed e.0.1 1 e.1) es)
kept_single [] = tt
kept_single (e ∷ es) = (refl, kept_single es)

dirty_single : (ss : List Spot) → AllSingle (map (λ (s : Spot). Dirty s.1 1) ss)
dirty_single [] = tt
dirty_single (s ∷ ss) = (refl, dirty_single ss)

by_place_single : (p : Piece) (ps : List Piece) → IsSingle p → AllSingle ps → AllSingle (by_place p ps)
by_place_single p [] one all = (one, tt)
by_place_single p (q ∷ qs) one all = by (nat_le (place_of p) (place_of q)) (by_place_single p qs one all.1)
  where
    by : (t : Bool) → AllSingle (by_place p qs) → AllSingle (cond t (p ∷ q ∷ qs) (q ∷ by_place p qs))
    by true more = (one, all)
    by false more = (all.0, more)

all_by_place_single : (ps : List Piece) → AllSingle ps → AllSingle (all_by_place ps)
all_by_place_single [] all = tt
all_by_place_single (p ∷ ps) all = by_place_single p (all_by_place ps) all.0 (all_by_place_single ps all.1)

pieces_single : (m : Machine) (number : ℕ) → AllSingle (single_pieces m number)
pieces_single m number =
    all_by_place_single (kept_pieces m number ++ dirty_pieces m number)
    (all_append (kept_pieces m number) (dirty_pieces m number)
    (kept_single (filter (λ (e : Spot × ℕ). nat_eq e.0.0 number) m.kept))
    (dirty_single (filter (λ (s : Spot). nat_eq s.0 number) m.dirty)))

-- ---- two that are joined have the places of both

shifted : (f g : ℕ → Piece) → ((k : ℕ) → f (k + 1) ≡ g k) → (from n : ℕ) → map f (span (from + 1) n) ≡ map g (span from n)
shifted f g same from zero = refl
shifted f g same from (suc n) = λ i. same from i ∷ shifted f g same (from + 1) n i

both_singles : (p q both : Piece) → IsSingle p → joined p q ≡ Some both → singles both ≡ p ∷ singles q
both_singles (Placed place length block) (Placed next more after) both s e = by (nat_eq (place + length) next && nat_eq (block + length) after) refl e
  where
    by : (t : Bool) → (nat_eq (place + length) next && nat_eq (block + length) after) ≡ t → cond t (Some (Placed place (length + more) block)) None ≡ Some both → singles both ≡ Placed place length block ∷ singles (Placed next more after)
    by true is e =
        let own : Placed place (length + more) block ≡ both = cc in
        let one : length ≡ 1 = s in
        let at : place + length ≡ next = grind (arith, nat_tests) in
        let to : block + length ≡ after = grind (arith, nat_tests) in
        let count : length + more ≡ suc more = omega (arith, one) in
        let f : ℕ → Piece = λ (k : ℕ). Placed (place + k) 1 (block + k) in
        let g : ℕ → Piece = λ (k : ℕ). Placed (next + k) 1 (after + k) in
        let same : (k : ℕ) → f (k + 1) ≡ g k = λ k. (let x : place + (k + 1) ≡ next + k = omega (arith, one, at) in let y : block + (k + 1) ≡ after + k = omega (arith, one, to) in λ i. Placed (x i) 1 (y i)) in
        ap singles (sym own) ∙ ap (λ (n : ℕ). map f (span 0 n)) count ∙ (λ i. Placed (add-zero place i) (sym one i) (add-zero block i) ∷ shifted f g same 0 more i)
    by false is e = cc
both_singles (Placed place length block) (Dirty next more) both s e = cc
both_singles (Dirty place length) (Placed next more after) both s e = cc
both_singles (Dirty place length) (Dirty next more) both s e = by (nat_eq (place + length) next) refl e
  where
    by : (t : Bool) → nat_eq (place + length) next ≡ t → cond t (Some (Dirty place (length + more))) None ≡ Some both → singles both ≡ Dirty place length ∷ singles (Dirty next more)
    by true is e =
        let own : Dirty place (length + more) ≡ both = cc in
        let one : length ≡ 1 = s in
        let at : place + length ≡ next = grind (arith, nat_tests) in
        let count : length + more ≡ suc more = omega (arith, one) in
        let f : ℕ → Piece = λ (k : ℕ). Dirty (place + k) 1 in
        let g : ℕ → Piece = λ (k : ℕ). Dirty (next + k) 1 in
        let same : (k : ℕ) → f (k + 1) ≡ g k = λ k. (let x : place + (k + 1) ≡ next + k = omega (arith, one, at) in λ i. Dirty (x i) 1) in
        ap singles (sym own) ∙ ap (λ (n : ℕ). map f (span 0 n)) count ∙ (λ i. Dirty (add-zero place i) (sym one i) ∷ shifted f g same 0 more i)
    by false is e = cc

in_front_places : (p q : Piece) (qs : List Piece) (o : Option Piece) → IsSingle p → joined p q ≡ o → flat_map singles (in_front o p q qs) ≡ p ∷ flat_map singles (q ∷ qs)
in_front_places p q qs None s e = flat_map-cons singles p (q ∷ qs) ∙ ap (λ (xs : List Piece). xs ++ flat_map singles (q ∷ qs)) (single_is p s)
in_front_places p q qs (Some both) s e =
    flat_map-cons singles both qs ∙ ap (λ (xs : List Piece). xs ++ flat_map singles qs) (both_singles p q both s e) ∙ ap (λ (xs : List Piece). p ∷ xs) (sym (flat_map-cons singles q qs))

joined_places : (ps : List Piece) → AllSingle ps → flat_map singles (all_joined ps) ≡ ps
joined_places [] all = refl
joined_places (p ∷ ps) all = with_places (all_joined ps) ∙ ap (λ (xs : List Piece). p ∷ xs) (joined_places ps all.1)
  where
    with_places : (qs : List Piece) → flat_map singles (with_piece p qs) ≡ p ∷ flat_map singles qs
    with_places [] = flat_map-cons singles p [] ∙ (λ i. single_is p all.0 i ++ [])
    with_places (q ∷ qs) = in_front_places p q qs (joined p q) all.0 refl

-- ---- no two that follow each other can be joined

same_choice : {A : Type 0} (t u : Bool) (a b : A) → t ≡ u → cond t (Some a) None ≡ None → cond u (Some b) None ≡ None
same_choice true true a b e none = cc
same_choice true false a b e none = refl
same_choice false true a b e none = cc
same_choice false false a b e none = refl

joined_end : (p q both r : Piece) → joined p q ≡ Some both → joined q r ≡ None → joined both r ≡ None
joined_end (Placed place length block) (Placed next more after) both r e none = by (nat_eq (place + length) next && nat_eq (block + length) after) refl e
  where
    end : place + length ≡ next → block + length ≡ after → (r : Piece) → joined (Placed next more after) r ≡ None → joined (Placed place (length + more) block) r ≡ None
    end at to (Placed far most last) none =
        let x : next + more ≡ place + (length + more) = omega (arith, at) in
        let y : after + more ≡ block + (length + more) = omega (arith, to) in
        same_choice _ _ (Placed next (more + most) after) (Placed place (length + more + most) block) (λ i. nat_eq (x i) far && nat_eq (y i) last) none
    end at to (Dirty far most) none = refl

    by : (t : Bool) → (nat_eq (place + length) next && nat_eq (block + length) after) ≡ t → cond t (Some (Placed place (length + more) block)) None ≡ Some both → joined both r ≡ None
    by true is e =
        let own : Placed place (length + more) block ≡ both = cc in
        let at : place + length ≡ next = grind (arith, nat_tests) in
        let to : block + length ≡ after = grind (arith, nat_tests) in
        subst (λ (b : Piece). joined b r ≡ None) own (end at to r none)
    by false is e = cc
joined_end (Placed place length block) (Dirty next more) both r e none = cc
joined_end (Dirty place length) (Placed next more after) both r e none = cc
joined_end (Dirty place length) (Dirty next more) both r e none = by (nat_eq (place + length) next) refl e
  where
    end : place + length ≡ next → (r : Piece) → joined (Dirty next more) r ≡ None → joined (Dirty place (length + more)) r ≡ None
    end at (Placed far most last) none = refl
    end at (Dirty far most) none =
        let x : next + more ≡ place + (length + more) = omega (arith, at) in
        same_choice _ _ (Dirty next (more + most)) (Dirty place (length + more + most)) (λ i. nat_eq (x i) far) none

    by : (t : Bool) → nat_eq (place + length) next ≡ t → cond t (Some (Dirty place (length + more))) None ≡ Some both → joined both r ≡ None
    by true is e =
        let own : Dirty place (length + more) ≡ both = cc in
        let at : place + length ≡ next = grind (arith, nat_tests) in
        subst (λ (b : Piece). joined b r ≡ None) own (end at r none)
    by false is e = cc

in_front_joined : (p q : Piece) (qs : List Piece) (o : Option Piece) → joined p q ≡ o → IsJoined (q ∷ qs) → IsJoined (in_front o p q qs)
in_front_joined p q qs None e are = (e, are)
in_front_joined p q [] (Some both) e are = tt
in_front_joined p q (r ∷ rs) (Some both) e are = (joined_end p q both r e are.0, are.1)

all_joined_joined : (ps : List Piece) → IsJoined (all_joined ps)
all_joined_joined [] = tt
all_joined_joined (p ∷ ps) = with_joined (all_joined ps) (all_joined_joined ps)
  where
    with_joined : (qs : List Piece) → IsJoined qs → IsJoined (with_piece p qs)
    with_joined [] are = tt
    with_joined (q ∷ qs) are = in_front_joined p q qs (joined p q) refl are

-- ---- by their places

least : (a b : ℕ) → nat_le a b ≡ true → a ≤ b
least a b e = grind (arith, nat_tests)

above : (a b : ℕ) → nat_le a b ≡ false → b ≤ a
above a b e = grind (arith, nat_tests)

behind_first : (q p : Piece) (qs : List Piece) → place_of q ≤ place_of p → AreByPlace (q ∷ qs) → AreByPlace (q ∷ by_place p qs)
behind_first q p [] le are = (le, tt)
behind_first q p (r ∷ rs) le are = by (nat_le (place_of p) (place_of r)) refl (λ less. behind_first r p rs less are.1)
  where
    by : (t : Bool) → nat_le (place_of p) (place_of r) ≡ t → (place_of r ≤ place_of p → AreByPlace (r ∷ by_place p rs)) → AreByPlace (q ∷ cond t (p ∷ r ∷ rs) (r ∷ by_place p rs))
    by true is more = (le, (least _ _ is, are.1))
    by false is more = (are.0, more (above _ _ is))

with_by_place : (p : Piece) (ps : List Piece) → AreByPlace ps → AreByPlace (by_place p ps)
with_by_place p [] are = tt
with_by_place p (q ∷ qs) are = by (nat_le (place_of p) (place_of q)) refl
  where
    by : (t : Bool) → nat_le (place_of p) (place_of q) ≡ t → AreByPlace (cond t (p ∷ q ∷ qs) (q ∷ by_place p qs))
    by true is = (least _ _ is, are)
    by false is = behind_first q p qs (above _ _ is) are

all_are_by_place : (ps : List Piece) → AreByPlace (all_by_place ps)
all_are_by_place [] = tt
all_are_by_place (p ∷ ps) = with_by_place p (all_by_place ps) (all_are_by_place ps)

pub pieces_are : PiecesAre
pieces_are = record {
  places = λ m number. joined_places (single_pieces m number) (pieces_single m number);
  by_place = λ m number. all_are_by_place (kept_pieces m number ++ dirty_pieces m number);
  longest = λ m number. all_joined_joined (single_pieces m number);
}
