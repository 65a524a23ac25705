-- A cut and changes of a leaf are those of the map.
use Rattle.std.proofs.Common.{◌≡◌, ◌<◌, ◌≤◌, ℕ, ◌+◌, ◌*◌, ◌/◌, ◌%◌, ◌==◌, List, [], ◌∷◌, length, refl, ap, sym, ◌∙◌, arith, Bool, true, false, cond, ◌⊎◌, ◌-◌, inl, inr, ⊎_elim}
use Rattle.std.proofs.lemmas.Bool.{cases_eq, cases_lt}
use Rattle.std.specs.Prelude.{nat_lt, slice_index, slice_set, if◌then◌else◌}
use Rattle.std.proofs.lemmas.List.{get_or-set_same, get_or-set_other, length-set}
use Rattle.std.proofs.lemmas.Bool.Decides.{nat_tests}
use Rattle.vol_numbers.specs.declared.runs.Change.{Change}
use Rattle.block_tree.specs.Edit.{cut_at, changed_at, portion, with_changes, IsLeafBefore}

pub cond_same : (a b : ℕ) (x y : ℕ) → a ≡ b → (if a == b then x else y) ≡ x
cond_same a b x y e = grind (arith, nat_tests)

pub cond_other : (a b : ℕ) (x y : ℕ) → (a ≡ b → ⊥) → (if a == b then x else y) ≡ y
cond_other a b x y ne = grind (arith, nat_tests)

-- one change of the leaf k
leaf_changed : (k place block : ℕ) (old : ℕ → ℕ) (ptrs : List ℕ) → length ptrs ≡ 1024 → IsLeafBefore old k ptrs
    → (length (if place / 1024 == k then slice_set ptrs (place % 1024) block else ptrs) ≡ 1024)
    × IsLeafBefore (λ p. if p == place then block else old p) k (if place / 1024 == k then slice_set ptrs (place % 1024) block else ptrs)
leaf_changed k place block old ptrs len is = by_test (place / 1024 == k) refl
  where
    by_test : (t : Bool) → (place / 1024 == k) ≡ t → (length (if t then slice_set ptrs (place % 1024) block else ptrs) ≡ 1024)
        × IsLeafBefore (λ p. if p == place then block else old p) k (if t then slice_set ptrs (place % 1024) block else ptrs)
    by_test true e =
        let at : place / 1024 ≡ k = grind (arith, nat_tests, e) in (
          length-set ptrs (place % 1024) block ∙ len,
          λ i lt. ⊎_elim
              (λ same. ap (λ (j : ℕ). slice_index (slice_set ptrs (place % 1024) block) j) same
              ∙ (get_or-set_same ptrs (place % 1024) block 0 (omega arith) ∙ sym (cond_same (1024 * k + i) place block (old (1024 * k + i)) (omega arith))))
              (λ other. get_or-set_other ptrs (place % 1024) i block 0 other ∙ (is i lt ∙ sym (cond_other (1024 * k + i) place block (old (1024 * k + i)) (λ e. other (omega arith)))))
              (cases_eq i (place % 1024)),
        )
    by_test false e =
        let at : place / 1024 ≡ k → ⊥ = λ is. grind (arith, nat_tests, e, is) in
        (len, λ i lt. is i lt ∙ sym (cond_other (1024 * k + i) place block (old (1024 * k + i)) (λ same. at (omega arith))))

pub leaf_edited : (k : ℕ) (changes : List Change) (old : ℕ → ℕ) (ptrs : List ℕ) → length ptrs ≡ 1024 → IsLeafBefore old k ptrs
    → (i : ℕ) → i < 1024 → slice_index (with_changes (portion k changes) ptrs) i ≡ changed_at changes old (1024 * k + i)
leaf_edited k [] old ptrs len is i lt = is i lt
leaf_edited k (c ∷ cs) old ptrs len is i lt =
    let next = leaf_changed k c.place c.block old ptrs len is in
    ap (λ (v : List ℕ). slice_index v i) (one_step (c.place / 1024 == k)) ∙ leaf_edited k cs _ _ next.0 next.1 i lt
  where
    one_step : (t : Bool) → with_changes (cond t (c ∷ portion k cs) (portion k cs)) ptrs ≡ with_changes (portion k cs) (if t then slice_set ptrs (c.place % 1024) c.block else ptrs)
    one_step true = refl
    one_step false = refl

-- a place after changes depends on what it had alone
changed_same : (cs : List Change) (f g : ℕ → ℕ) (p : ℕ) → f p ≡ g p → changed_at cs f p ≡ changed_at cs g p
changed_same [] f g p e = e
changed_same (c ∷ cs) f g p e = changed_same cs (λ q. if q == c.place then c.block else f q) (λ q. if q == c.place then c.block else g q) p (ap (λ (x : ℕ). if p == c.place then c.block else x) e)

-- and on the changes in its leaf
pub changed_portion : (k p : ℕ) (cs : List Change) (old : ℕ → ℕ) → p / 1024 ≡ k → changed_at (portion k cs) old p ≡ changed_at cs old p
changed_portion k p [] old is = refl
changed_portion k p (c ∷ cs) old is = by_test (c.place / 1024 == k) refl (changed_portion k p cs (λ q. if q == c.place then c.block else old q) is)
  where
    by_test : (t : Bool) → (c.place / 1024 == k) ≡ t → changed_at (portion k cs) (λ q. if q == c.place then c.block else old q) p ≡ changed_at (c ∷ cs) old p
        → changed_at (cond t (c ∷ portion k cs) (portion k cs)) old p ≡ changed_at (c ∷ cs) old p
    by_test true e rest = rest
    by_test false e rest =
        let other : p ≡ c.place → ⊥ = λ same. (let there : c.place / 1024 ≡ k = omega (arith, same, is) in grind (arith, nat_tests, e, there)) in
        changed_same (portion k cs) old (λ q. if q == c.place then c.block else old q) p (sym (cond_other p c.place c.block (old p) other)) ∙ rest

pub changed_sorted : (xs ys : List Change) → ((k : ℕ) → portion k xs ≡ portion k ys) → (old : ℕ → ℕ) (p : ℕ) → changed_at xs old p ≡ changed_at ys old p
changed_sorted xs ys same old p = sym (changed_portion (p / 1024) p xs old refl) ∙ (ap (λ (cs : List Change). changed_at cs old p) (same (p / 1024)) ∙ changed_portion (p / 1024) p ys old refl)

-- a place of a leaf that has no change
pub changed_elsewhere : (k p : ℕ) (changes : List Change) (old : ℕ → ℕ) → portion k changes ≡ [] → p / 1024 ≡ k → changed_at changes old p ≡ old p
changed_elsewhere k p changes old none is = sym (changed_portion k p changes old is) ∙ ap (λ (cs : List Change). changed_at cs old p) none

-- a place below the cut, and one past it
pub kept_below : (cut : ℕ) (old : ℕ → ℕ) (p : ℕ) → p < cut → cut_at cut old p ≡ old p
kept_below cut old p lt = ap (λ (t : Bool). if t then old p else 0) (let t : nat_lt p cut ≡ true = grind (arith, nat_tests, lt) in t)

pub cut_off : (cut : ℕ) (old : ℕ → ℕ) (p : ℕ) → cut ≤ p → cut_at cut old p ≡ 0
cut_off cut old p le = ap (λ (t : Bool). if t then old p else 0) (let t : nat_lt p cut ≡ false = grind (arith, nat_tests, le) in t)

-- an entry after a cut is the old one, or none
pub cut_entry : (k cut : ℕ) (was ptrs : List ℕ) → ((old : ℕ → ℕ) → (i : ℕ) → i < 1024 → slice_index was i ≡ old (1024 * k + i) → slice_index ptrs i ≡ cut_at cut old (1024 * k + i))
    → (i : ℕ) → i < 1024 → (slice_index ptrs i ≡ slice_index was i) ⊎ (slice_index ptrs i ≡ 0)
cut_entry k cut was ptrs each i lt =
    let old : ℕ → ℕ = λ p. slice_index was (p - 1024 * k) in
    let at : 1024 * k + i - 1024 * k ≡ i = omega arith in
    let is : slice_index was (1024 * k + i - 1024 * k) ≡ slice_index was i = ap (λ (j : ℕ). slice_index was j) at in
    ⊎_elim
    (λ below. inl (each old i lt (sym is) ∙ (kept_below cut old (1024 * k + i) below ∙ is)))
    (λ past. inr (each old i lt (sym is) ∙ cut_off cut old (1024 * k + i) past))
    (cases_lt (1024 * k + i) cut)
