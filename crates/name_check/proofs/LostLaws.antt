-- The first number that is lost, and which numbers are used.
use Rattle.std.proofs.Common.{◌≡◌, ℕ, zero, suc, ◌+◌, ◌<◌, ◌≤◌, Bool, true, false, List, [], ◌∷◌, ◌++◌, length, take, map, get_or, Some, None, refl, sym, ap, ◌∙◌, arith}
use Rattle.std.specs.Prelude.{nat_eq, ◌||◌, ◌&&◌, not, if◌then◌else◌}
use Rattle.std.specs.Cmp.{nat_cmp_total}
use Rattle.std.specs.FinSet as set
use Rattle.std.specs.Ordering.{nat_cmp, eq_by_cmp}
use Rattle.std.proofs.lemmas.Bool.{eqb-true, eqb-false}
use Rattle.std.proofs.lemmas.Bool.Decides.{nat_tests}
use Rattle.std.proofs.lemmas.List.{take_more}
use Rattle.block_format.specs.declared.inode.Inode.{Inode}
use Rattle.place_words.specs.Rising.{Rising, AllUnder}
use Rattle.image_model.specs.Nodes.{is_lost, lost_finding, or_behind, numbers_named, reached_in, tree_finding}
use Rattle.image_model.specs.Seen.{Seen}
use Rattle.image_model.specs.Slots.{inode_of}
use Rattle.image_model.specs.Walk.{is_used}
use Rattle.image_model.specs.declared.finding.Finding.TheVariants.{NotATree}
use Rattle.name_check.specs.Lost.{IsFirstLost, TellsLost, is_lost_by}
use Rattle.name_check.specs.declared.lost.Marks.{Marks}

module _ (s : Seen) (named reached : List ℕ) where
  none_of : (k from : ℕ) → ((n : ℕ) → from ≤ n → n < from + k → is_lost s named reached n ≡ false) → lost_finding s named reached from k ≡ None
  none_of zero from fine = refl
  none_of (suc k) from fine =
      ap (λ (t : Bool). or_behind t (NotATree from) (λ _. lost_finding s named reached (from + 1) k)) (fine from (omega arith) (omega arith))
      ∙ none_of k (from + 1) (λ n le lt. fine n (omega (arith, le)) (omega (arith, lt)))

  first_of_them : (k from n : ℕ) → from ≤ n → n < from + k → is_lost s named reached n ≡ true → ((m : ℕ) → from ≤ m → m < n → is_lost s named reached m ≡ false)
      → lost_finding s named reached from k ≡ Some (NotATree n)
  first_of_them zero from n le lt lost before = absurd (omega (arith, le, lt))
  first_of_them (suc k) from n le lt lost before = by (nat_eq from n) refl (λ less. first_of_them k (from + 1) n less (omega (arith, lt)) lost (λ m from_le m_lt. before m (omega (arith, from_le)) m_lt))
    where
      by : (t : Bool) → nat_eq from n ≡ t → (from + 1 ≤ n → lost_finding s named reached (from + 1) k ≡ Some (NotATree n)) → lost_finding s named reached from (suc k) ≡ Some (NotATree n)
      by true is more =
          let same : from ≡ n = eqb-true from n is in
          ap (λ (t : Bool). or_behind t (NotATree from) (λ _. lost_finding s named reached (from + 1) k)) (ap (is_lost s named reached) same ∙ lost) ∙ ap (λ (m : ℕ). Some (NotATree m)) same
      by false is more =
          let ne = eqb-false from n is in
          ap (λ (t : Bool). or_behind t (NotATree from) (λ _. lost_finding s named reached (from + 1) k)) (before from (omega arith) (omega (arith, le, ne))) ∙ more (omega (arith, le, ne))

-- ---- the finding

pub tree_none : (s : Seen) (marks : Marks) → TellsLost s marks → ((n : ℕ) → 1 ≤ n → n ≤ 65535 → is_lost_by marks n ≡ false) → tree_finding s ≡ None
unfolding tree_finding
tree_none s marks tells fine =
    none_of s (numbers_named s s.nodes) (reached_in s (length s.nodes)) 65535 1
    (λ n le lt. let most : n ≤ 65535 = omega (arith, lt) in sym (tells n le most) ∙ fine n le most)

pub tree_found : (s : Seen) (marks : Marks) (number : ℕ) → TellsLost s marks → IsFirstLost marks number → tree_finding s ≡ Some (NotATree number)
unfolding tree_finding
tree_found s marks number tells first =
    let from = first.from in let at_most = first.at_most in
    first_of_them s (numbers_named s s.nodes) (reached_in s (length s.nodes)) 65535 1 number from (omega (arith, at_most))
    (sym (tells number from at_most) ∙ first.lost)
    (λ n le lt. sym (tells n le (omega (arith, lt, at_most))) ∙ first.before n le lt)

-- ---- used numbers

abbrev Nodes : Type 0
Nodes = List (ℕ × Inode)

abbrev Numbers : Type 0
Numbers = set.FinSet nat_cmp

tied : (q n : ℕ) → eq_by_cmp nat_cmp q n ≡ nat_eq n q
tied q n = grind (arith, nat_tests)

pub written : (old : Numbers) (m n : ℕ) (present : Bool) → set.contains (if present then set.insert old m else set.remove old m) n ≡ (if nat_eq m n then present else set.contains old n)
written old m n true =
    set.contains-insert nat_cmp_total old m n ∙ ap (λ (b : Bool). b || set.contains old n) (tied n m)
    ∙ elim (nat_eq m n) as (λ b. (b || set.contains old n) ≡ (if b then true else set.contains old n)) [ true ↦ refl | false ↦ refl ]
written old m n false =
    set.contains-remove nat_cmp_total old m n ∙ ap (λ (b : Bool). not b && set.contains old n) (tied n m)
    ∙ elim (nat_eq m n) as (λ b. (not b && set.contains old n) ≡ (if b then false else set.contains old n)) [ true ↦ refl | false ↦ refl ]

apart : (x y : ℕ) → y < x → nat_eq x y ≡ false
apart x y less = grind (arith, nat_tests)

pub far_apart : (used : Numbers) (m n : ℕ) (present : Bool) → 65535 < m → n ≤ 65535 → set.contains used n ≡ (if nat_eq m n then present else set.contains used n)
far_apart used m n present far at_most = sym (ap (λ (t : Bool). if t then present else set.contains used n) (apart m n (omega (arith, far, at_most))))

inode_push : (xs : Nodes) (m : ℕ) (x : Inode) (n : ℕ) → AllUnder m (map (λ node. node.0) xs) → inode_of (xs ++ (m, x) ∷ []) n ≡ (if nat_eq m n then x else inode_of xs n)
inode_push [] m x n under = refl
inode_push (y ∷ ys) m x n under = by (nat_eq y.0 n) refl (inode_push ys m x n under.1)
  where
    by : (t : Bool) → nat_eq y.0 n ≡ t → inode_of (ys ++ (m, x) ∷ []) n ≡ (if nat_eq m n then x else inode_of ys n)
        → (if t then y.1 else inode_of (ys ++ (m, x) ∷ []) n) ≡ (if nat_eq m n then x else (if t then y.1 else inode_of ys n))
    by true is more =
        let less = under.0 in let same = eqb-true y.0 n is in
        sym (ap (λ (t : Bool). if t then x else y.1) (apart m n (omega (arith, less, same))))
    by false is more = more

under_more : (m n : ℕ) → m ≤ n → (ns : List ℕ) → AllUnder m ns → AllUnder n ns
under_more m n le [] all = tt
under_more m n le (x ∷ xs) all = let a = all.0 in (omega (arith, a, le), under_more m n le xs all.1)

taken_under : (from k : ℕ) (nodes : Nodes) (d : ℕ × Inode) → Rising from (map (λ node. node.0) nodes) → k < length nodes
    → (from ≤ (get_or nodes k d).0) × AllUnder (get_or nodes k d).0 (map (λ node. node.0) (take k nodes))
taken_under from k [] d rise lt = absurd (omega (arith, lt))
taken_under from zero (node ∷ nodes) d rise lt = (rise.0, tt)
taken_under from (suc k) (node ∷ nodes) d rise lt =
    let more = taken_under (node.0 + 1) k nodes d rise.1 (omega (arith, lt)) in
    let a = rise.0 in let b = more.0 in (omega (arith, a, b), (omega (arith, b), more.1))

pub used_more : (nodes : Nodes) (k : ℕ) (d : ℕ × Inode) (old new : Numbers) (n : ℕ) → Rising 0 (map (λ node. node.0) nodes) → k < length nodes
    → set.contains new n ≡ (if nat_eq (get_or nodes k d).0 n then is_used (get_or nodes k d).1 else set.contains old n) → set.contains old n ≡ is_used (inode_of (take k nodes) n)
    → set.contains new n ≡ is_used (inode_of (take (k + 1) nodes) n)
used_more nodes k d old new n rise lt now before =
    now ∙ ap (λ (b : Bool). if nat_eq (get_or nodes k d).0 n then is_used (get_or nodes k d).1 else b) before
    ∙ by (nat_eq (get_or nodes k d).0 n)
    ∙ ap is_used (sym (ap (λ (xs : Nodes). inode_of xs n) (take_more nodes k d lt) ∙ inode_push (take k nodes) (get_or nodes k d).0 (get_or nodes k d).1 n (taken_under 0 k nodes d rise lt).1))
  where
    by : (t : Bool) → (if t then is_used (get_or nodes k d).1 else is_used (inode_of (take k nodes) n)) ≡ is_used (if t then (get_or nodes k d).1 else inode_of (take k nodes) n)
    by true = refl
    by false = refl
