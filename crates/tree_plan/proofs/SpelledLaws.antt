-- Pages that are spelled, with the changes that lead to them.
use Rattle.std.proofs.Common.{◌≡◌, ℕ, suc, ◌+◌, ◌-◌, ◌*◌, ◌<◌, ◌≤◌, Bool, true, false, cond, List, [], ◌∷◌, ◌++◌, map, take, replicate, refl, sym, ap, subst, ◌∙◌, arith}
use Rattle.std.specs.Prelude.{◌==◌, ◌||◌, nat_eq, All, Option, Some, None}
use Rattle.std.proofs.lemmas.Bool.{eqb-true}
use Rattle.std.proofs.lemmas.Bool.Decides.{nat_tests}
use Rattle.std.proofs.lemmas.List.{drop-replicate, take-replicate}
use Rattle.vol_numbers.specs.declared.runs.Change.{Change}
use Rattle.vol_numbers.specs.declared.runs.Page.{Page}
use Rattle.block_format.specs.Slot.{slot_part, slot_bytes}
use Rattle.block_format.specs.declared.slot.Slot.{Slot}
use Rattle.block_tree.specs.Edit.{changed_at}
use Rattle.block_tree.specs.Notes.{page_blocks, change_blocks}
use Rattle.block_tree.specs.Tree.{block_in}
use Rattle.block_tree.proofs.Rise.{places_in}
use Rattle.place_words.specs.Different.{is_among}
use Rattle.place_words.specs.Rising.{Rising}
use Rattle.point_model.specs.Holding.{slot_or}
use Rattle.tree_plan.specs.Pages.{part_with, AreSpelled}
use Rattle.tree_plan.proofs.TreeLaws.{AllSome, none_below}

-- ---- one page

pub part_or : (f : Option Slot) (s : Slot) → part_with f (slot_bytes s) ≡ slot_bytes (slot_or f s)
part_or None s = refl
part_or (Some slot) s = refl

-- a slot of a block of zeros
pub zero_part : (total j : ℕ) → 256 * j + 256 ≤ total → slot_part j (replicate total 0) ≡ replicate 256 0
zero_part total j le =
    let e : (256 * j + 256) - 256 * j ≡ 256 = omega arith in
    ap (take ((256 * j + 256) - 256 * j)) (drop-replicate (256 * j) total 0) ∙ ap (λ (k : ℕ). take k (replicate (total - 256 * j) 0)) e ∙ take-replicate 256 (total - 256 * j) 0 (omega (arith, le))

-- ---- the changes as pairs

abbrev pub pairs_of : List Change → List (ℕ × ℕ)
pairs_of changes = map (λ (c : Change). (c.place, c.block)) changes

pub blocks_of_pairs : (changes : List Change) → map (λ (e : ℕ × ℕ). e.1) (pairs_of changes) ≡ change_blocks changes
blocks_of_pairs [] = refl
blocks_of_pairs (c ∷ cs) = ap (λ (l : List ℕ). c.block ∷ l) (blocks_of_pairs cs)

same_test : (a b : ℕ) → (a == b) ≡ (b == a)
same_test a b = by (a == b) refl (b == a) refl
  where
    by : (t : Bool) → (a == b) ≡ t → (u : Bool) → (b == a) ≡ u → t ≡ u
    by true is true also = refl
    by false is false also = refl
    by true is false also = absurd (grind (arith, nat_tests))
    by false is true also = absurd (grind (arith, nat_tests))

-- where places rise, a place has the block of its change, else what it had
pub changed_in : (m : ℕ) (changes : List Change) (old : ℕ → ℕ) (p : ℕ) → Rising m (places_in (pairs_of changes)) → AllSome (pairs_of changes)
    → changed_at changes old p ≡ cond (block_in (pairs_of changes) p == 0) (old p) (block_in (pairs_of changes) p)
changed_in m [] old p rising some = refl
changed_in m (c ∷ cs) old p rising some =
    changed_in (c.place + 1) cs (λ q. cond (q == c.place) c.block (old q)) p rising.1 some.1 ∙ by (c.place == p) refl
  where
    by : (t : Bool) → (c.place == p) ≡ t
        → cond (block_in (pairs_of cs) p == 0) (cond (p == c.place) c.block (old p)) (block_in (pairs_of cs) p)
        ≡ cond (cond (c.place == p) c.block (block_in (pairs_of cs) p) == 0) (old p) (cond (c.place == p) c.block (block_in (pairs_of cs) p))
    by true is =
        let e : c.place ≡ p = eqb-true c.place p is in
        let none : block_in (pairs_of cs) p ≡ 0 = none_below (c.place + 1) p (omega (arith, e)) (pairs_of cs) rising.1 in
        (λ i. cond (none i == 0) (cond ((same_test p c.place ∙ is) i) c.block (old p)) (none i))
        ∙ sym ((λ i. cond (cond (is i) c.block (block_in (pairs_of cs) p) == 0) (old p) (cond (is i) c.block (block_in (pairs_of cs) p))) ∙ ap (λ (t : Bool). cond t (old p) c.block) some.0)
    by false is =
        (λ i. cond (block_in (pairs_of cs) p == 0) (cond ((same_test p c.place ∙ is) i) c.block (old p)) (block_in (pairs_of cs) p))
        ∙ sym (λ i. cond (cond (is i) c.block (block_in (pairs_of cs) p) == 0) (old p) (cond (is i) c.block (block_in (pairs_of cs) p)))

-- a place that isn't among those of pairs has no block there
pub none_among : (pairs : List (ℕ × ℕ)) (p : ℕ) → is_among (places_in pairs) p ≡ false → block_in pairs p ≡ 0
none_among [] p out = refl
none_among (e ∷ es) p out = by (nat_eq e.0 p) out (none_among es p)
  where
    by : (t : Bool) → (t || is_among (places_in es) p) ≡ false → (is_among (places_in es) p ≡ false → block_in es p ≡ 0) → cond t e.1 (block_in es p) ≡ 0
    by true out more = cc
    by false out more = more out

-- one that is among them has one
pub some_among : (pairs : List (ℕ × ℕ)) (p : ℕ) → AllSome pairs → is_among (places_in pairs) p ≡ true → (block_in pairs p == 0) ≡ false
some_among [] p some among = cc
some_among (e ∷ es) p some among = by (nat_eq e.0 p) among (some_among es p some.1)
  where
    by : (t : Bool) → (t || is_among (places_in es) p) ≡ true → (is_among (places_in es) p ≡ true → (block_in es p == 0) ≡ false) → (cond t e.1 (block_in es p) == 0) ≡ false
    by true among more = some.0
    by false among more = more among

-- ---- spelled pages

module _ (Spells : ℕ → List ℕ → Type 0) where
  pub spelled_push : (ps : List ℕ) (qs : List Page) (cs : List Change) (p : ℕ) (q : Page) (c : Change) → AreSpelled Spells ps qs cs → c.place ≡ p → c.block ≡ q.at → 0 < q.at → Spells p q.block.bytes
      → AreSpelled Spells (ps ++ p ∷ []) (qs ++ q ∷ []) (cs ++ c ∷ [])
  spelled_push [] [] [] p q c all place block some spells = (place, block, some, spells, tt)
  spelled_push (x ∷ ps) (y ∷ qs) (z ∷ cs) p q c all place block some spells = (all.0, all.1, all.2, all.3, spelled_push ps qs cs p q c all.4 place block some spells)
  spelled_push [] [] (z ∷ cs) p q c all place block some spells = absurd all
  spelled_push [] (y ∷ qs) [] p q c all place block some spells = absurd all
  spelled_push [] (y ∷ qs) (z ∷ cs) p q c all place block some spells = absurd all
  spelled_push (x ∷ ps) [] [] p q c all place block some spells = absurd all
  spelled_push (x ∷ ps) [] (z ∷ cs) p q c all place block some spells = absurd all
  spelled_push (x ∷ ps) (y ∷ qs) [] p q c all place block some spells = absurd all

  pub spelled_places : (ps : List ℕ) (qs : List Page) (cs : List Change) → AreSpelled Spells ps qs cs → places_in (pairs_of cs) ≡ ps
  spelled_places [] [] [] all = refl
  spelled_places (x ∷ ps) (y ∷ qs) (z ∷ cs) all = λ i. all.0 i ∷ spelled_places ps qs cs all.4 i
  spelled_places [] [] (z ∷ cs) all = absurd all
  spelled_places [] (y ∷ qs) [] all = absurd all
  spelled_places [] (y ∷ qs) (z ∷ cs) all = absurd all
  spelled_places (x ∷ ps) [] [] all = absurd all
  spelled_places (x ∷ ps) [] (z ∷ cs) all = absurd all
  spelled_places (x ∷ ps) (y ∷ qs) [] all = absurd all

  pub spelled_blocks : (ps : List ℕ) (qs : List Page) (cs : List Change) → AreSpelled Spells ps qs cs → change_blocks cs ≡ page_blocks qs
  spelled_blocks [] [] [] all = refl
  spelled_blocks (x ∷ ps) (y ∷ qs) (z ∷ cs) all = λ i. all.1 i ∷ spelled_blocks ps qs cs all.4 i
  spelled_blocks [] [] (z ∷ cs) all = absurd all
  spelled_blocks [] (y ∷ qs) [] all = absurd all
  spelled_blocks [] (y ∷ qs) (z ∷ cs) all = absurd all
  spelled_blocks (x ∷ ps) [] [] all = absurd all
  spelled_blocks (x ∷ ps) [] (z ∷ cs) all = absurd all
  spelled_blocks (x ∷ ps) (y ∷ qs) [] all = absurd all

  pub spelled_some : (ps : List ℕ) (qs : List Page) (cs : List Change) → AreSpelled Spells ps qs cs → AllSome (pairs_of cs)
  spelled_some [] [] [] all = tt
  spelled_some (x ∷ ps) (y ∷ qs) (z ∷ cs) all = (positive z.block y.at all.1 all.2, spelled_some ps qs cs all.4)
    where
      positive : (a b : ℕ) → a ≡ b → 0 < b → (a == 0) ≡ false
      positive a b e lt = grind (arith, nat_tests)
  spelled_some [] [] (z ∷ cs) all = absurd all
  spelled_some [] (y ∷ qs) [] all = absurd all
  spelled_some [] (y ∷ qs) (z ∷ cs) all = absurd all
  spelled_some (x ∷ ps) [] [] all = absurd all
  spelled_some (x ∷ ps) [] (z ∷ cs) all = absurd all
  spelled_some (x ∷ ps) (y ∷ qs) [] all = absurd all

  -- in an image in which the pages stand, the block of a place that is written spells it
  pub spelled_at : (read : ℕ → List ℕ) (m : ℕ) (ps : List ℕ) (qs : List Page) (cs : List Change) (p : ℕ) → AreSpelled Spells ps qs cs → All (λ (q : Page). read q.at ≡ q.block.bytes) qs
      → is_among ps p ≡ true → Spells p (read (block_in (pairs_of cs) p))
  spelled_at read m [] [] [] p all stand among = cc
  spelled_at read m (x ∷ ps) (y ∷ qs) (z ∷ cs) p all stand among =
      by (nat_eq z.place p) refl (nat_eq x p) refl among (spelled_at read m ps qs cs p all.4 (λ k d lt. stand (suc k) d (omega (arith, lt))))
    where
      same : nat_eq z.place p ≡ nat_eq x p
      same = ap (λ (k : ℕ). nat_eq k p) all.0

      by : (t : Bool) → nat_eq z.place p ≡ t → (u : Bool) → nat_eq x p ≡ u → (u || is_among ps p) ≡ true → (is_among ps p ≡ true → Spells p (read (block_in (pairs_of cs) p)))
          → Spells p (read (cond t z.block (block_in (pairs_of cs) p)))
      by true is true also among more =
          let e : x ≡ p = eqb-true x p also in
          subst (Spells p) (sym (ap read all.1 ∙ stand 0 y (omega arith))) (subst (λ (k : ℕ). Spells k y.block.bytes) e all.3)
      by false is false also among more = more among
      by true is false also among more = let never : true ≡ false = sym is ∙ same ∙ also in cc
      by false is true also among more = let never : false ≡ true = sym is ∙ same ∙ also in cc
  spelled_at read m [] [] (z ∷ cs) p all stand among = absurd all
  spelled_at read m [] (y ∷ qs) [] p all stand among = absurd all
  spelled_at read m [] (y ∷ qs) (z ∷ cs) p all stand among = absurd all
  spelled_at read m (x ∷ ps) [] [] p all stand among = absurd all
  spelled_at read m (x ∷ ps) [] (z ∷ cs) p all stand among = absurd all
  spelled_at read m (x ∷ ps) (y ∷ qs) [] p all stand among = absurd all
