-- A cut that leaves no place past a size.
use Rattle.std.proofs.Common.{◌≡◌, ℕ, ◌<◌, ◌≤◌, Bool, true, false, cond, List, [], ◌∷◌, refl, sym, ap, ◌∙◌, arith}
use Rattle.std.specs.Prelude.{◌==◌, nat_lt, min}
use Rattle.std.proofs.lemmas.Bool.Decides.{nat_tests}
use Rattle.vol_numbers.specs.declared.block.Block.{Block}
use Rattle.vol_numbers.specs.declared.runs.Change.{Change}
use Rattle.block_format.specs.declared.inode.Inode.{Inode}
use Rattle.block_tree.specs.Edit.{changed_at, cut_at}
use Rattle.point_model.specs.NodePlan.{block_of_place}
use Rattle.tree_plan.specs.Trees.{EndsAt}

-- what changes make of a place is known from what it had
pub changed_like : (cs : List Change) (f g : ℕ → ℕ) (p : ℕ) → f p ≡ g p → changed_at cs f p ≡ changed_at cs g p
changed_like [] f g p same = same
changed_like (c ∷ cs) f g p same =
    changed_like cs (λ q. cond (q == c.place) c.block (f q)) (λ q. cond (q == c.place) c.block (g q)) p (ap (cond (p == c.place) c.block) same)

true_lt : (a b : ℕ) → nat_lt a b ≡ true → a < b
true_lt a b is = grind (arith, nat_tests)

false_le : (a b : ℕ) → nat_lt a b ≡ false → b ≤ a
false_le a b is = grind (arith, nat_tests)

-- where no place past the blocks outlives the cut, the cut may be as low as these
cut_within : (old : List Block) (was : Inode) (cut blocks p : ℕ) → EndsAt old was cut blocks → p < 1048576
    → cut_at (min cut blocks) (block_of_place old was) p ≡ cut_at cut (block_of_place old was) p
cut_within old was cut blocks p ends small = by (nat_lt p (min cut blocks)) refl (nat_lt p cut) refl
  where
    lower : (a b : ℕ) → p < min a b → a ≤ p → p < p
    lower a b lt le = omega (arith, lt, le)

    past : (a b : ℕ) → p < a → min a b ≤ p → b ≤ p
    past a b lt le = omega (arith, lt, le)

    by : (t : Bool) → nat_lt p (min cut blocks) ≡ t → (u : Bool) → nat_lt p cut ≡ u → cond t (block_of_place old was p) 0 ≡ cond u (block_of_place old was p) 0
    by true is true also = refl
    by false is false also = refl
    by true is false also = absurd (omega (arith, lower cut blocks (true_lt p (min cut blocks) is) (false_le p cut also)))
    by false is true also =
        let lt = true_lt p cut also in
        sym (ends p lt (past cut blocks lt (false_le p (min cut blocks) is)) small)

pub map_within : (old : List Block) (was : Inode) (cut low blocks : ℕ) (changes : List Change) (at : ℕ → ℕ) → low ≡ min cut blocks → EndsAt old was cut blocks
    → ((p : ℕ) → p < 1048576 → at p ≡ changed_at changes (cut_at low (block_of_place old was)) p) → (p : ℕ) → p < 1048576 → at p ≡ changed_at changes (cut_at cut (block_of_place old was)) p
map_within old was cut low blocks changes at is ends places p small =
    places p small ∙ changed_like changes (cut_at low (block_of_place old was)) (cut_at cut (block_of_place old was)) p
    (ap (λ (k : ℕ). cut_at k (block_of_place old was) p) is ∙ cut_within old was cut blocks p ends small)
