-- The order of two paths that are alike so far, where one of them ends.
use Rattle.std.proofs.Common.{◌≡◌, ℕ, ◌<◌, ◌≤◌, [], length, drop, ◌∙◌}
use Rattle.std.proofs.lemmas.List.{at_drop_more, at_drop_all}
use Rattle.std.specs.declared.cmp.Ordering.TheVariants.{Less, Equal, Greater}
use Rattle.tree_model.specs.Path.{Path, path_cmp}

pub other_ends : (a b : Path) (i : ℕ) → i < length a → length b ≤ i → path_cmp (drop i a) (drop i b) ≡ Greater
other_ends a b i m e = at_drop_all (λ y. path_cmp (drop i a) y) b i e ∙ at_drop_more (λ x. path_cmp x []) a i [] m

pub other_goes_on : (a b : Path) (i : ℕ) → length a ≤ i → i < length b → path_cmp (drop i a) (drop i b) ≡ Less
other_goes_on a b i e m = at_drop_all (λ x. path_cmp x (drop i b)) a i e ∙ at_drop_more (λ y. path_cmp [] y) b i [] m

pub both_end : (a b : Path) (i : ℕ) → length a ≤ i → length b ≤ i → path_cmp (drop i a) (drop i b) ≡ Equal
both_end a b i e f = at_drop_all (λ x. path_cmp x (drop i b)) a i e ∙ at_drop_all (λ y. path_cmp [] y) b i f
