-- The trees of the states that a course passes.
use Rattle.std.proofs.Common.{◌≡◌, ◌∙◌, inl, inr, ⊎_elim, ◌⊎◌, ℕ, ◌+◌, ◌≤◌, List, [], ◌∷◌, ◌++◌, length, take, refl, sym, ap, subst, arith, append_assoc, length-append}
use Rattle.std.specs.Prelude.{Option, None, Some}
use Rattle.std.specs.List.{flat_map}
use Rattle.std.proofs.lemmas.List.{take_all, take-append-le}
use Rattle.std.proofs.Math.Seq.{take-append-add}
use Rattle.vol_numbers.specs.declared.block.Block.{Block}
use Rattle.tree_model.specs.declared.command.Command.{Command}
use Rattle.tree_model.specs.declared.report.Report.{Report}
use Rattle.tree_model.specs.Tree.{Tree}
use Rattle.tree_model.specs.Step.{step}
use Rattle.volume_model.specs.Legal.{when_answered}
use Rattle.volume_model.specs.Done.{done, all_done}
use Rattle.volume_model.specs.Machine.{Machine, Rules}
use Rattle.session_model.specs.Course.{Course, Exchange, Last, acknowledged, accepted_by, accepted_last, report_last, after, before_last, next_by, state_after, tree_after}
use Rattle.session_model.specs.Given.{report_in}
use Rattle.session_model.specs.Stages.{IsOneOf, StandsForOne, StandsForPrefix, last_stages, stages, stages_by, passed, passed_from}

pub one_left : (xs ys : List Machine) (m : Machine) → IsOneOf xs m → IsOneOf (xs ++ ys) m
one_left [] ys m is = absurd is
one_left (x ∷ xs) ys m is = ⊎_elim (λ e. inl e) (λ later. inr (one_left xs ys m later)) is

pub one_right : (xs ys : List Machine) (m : Machine) → IsOneOf ys m → IsOneOf (xs ++ ys) m
one_right [] ys m is = is
one_right (x ∷ xs) ys m is = inr (one_right xs ys m is)

pub one_either : (xs ys : List Machine) (m : Machine) → IsOneOf (xs ++ ys) m → IsOneOf xs m ⊎ IsOneOf ys m
one_either [] ys m is = inr is
one_either (x ∷ xs) ys m is = ⊎_elim (λ e. inl (inl e)) (λ later. ⊎_elim (λ a. inl (inr a)) (λ b. inr b) (one_either xs ys m later)) is

tree_append : (tree : Tree) (a b : List Command) → tree_after tree (a ++ b) ≡ tree_after (tree_after tree a) b
tree_append tree [] b = refl
tree_append tree (c ∷ a) b = tree_append (step tree c).1 a b

pub when_tree : (r : Rules) (m : Machine) (report : Option Report) → (when_answered r m report).tree ≡ m.tree
when_tree r m None = refl
when_tree r m (Some report) = refl

done_tree : (m : Machine) (cs : List Command) → (all_done m cs).tree ≡ tree_after m.tree cs
done_tree m [] = refl
done_tree m (c ∷ cs) = done_tree (done m c) cs

after_tree : (r : Rules) (m : Machine) (report : Option Report) (cs : List Command) → (after r m report cs).tree ≡ tree_after m.tree cs
after_tree r m report cs = done_tree (when_answered r m report) cs ∙ ap (λ (t : Tree). tree_after t cs) (when_tree r m report)

pub state_tree : (r : Rules) (m : Machine) (es : List Exchange) → (state_after r m es).tree ≡ tree_after m.tree (flat_map accepted_by es)
state_tree r m [] = refl
state_tree r m (e ∷ es) =
    state_tree r (next_by r m e) es ∙ ap (λ (t : Tree). tree_after t (flat_map accepted_by es)) (after_tree r m (report_in e.answer) (accepted_by e))
    ∙ sym (tree_append m.tree (accepted_by e) (flat_map accepted_by es))

-- the tree is that after some first changes
record IsAfterSome (start : Tree) (changes : List Command) (tree : Tree) : Type 0 where
  count : ℕ
  at_most : count ≤ length changes
  is : tree ≡ tree_after start (take count changes)

none_of : (start : Tree) (changes : List Command) (tree : Tree) → tree ≡ start → IsAfterSome start changes tree
none_of start changes tree e = record { count = 0; at_most = omega arith; is = e }

all_of : (start : Tree) (changes : List Command) (tree : Tree) → tree ≡ tree_after start changes → IsAfterSome start changes tree
all_of start changes tree e = record {
  count = length changes;
  at_most = omega arith;
  is = e ∙ ap (λ (l : List Command). tree_after start l) (sym (take_all (length changes) changes (omega arith)));
}

-- what holds of each of three holds of one of them
pub of_three : (a b c s : Machine) (P : Machine → Type 0) → P a → P b → P c → IsOneOf (a ∷ b ∷ c ∷ []) s → P s
of_three a b c s P pa pb pc (inl e) = subst P (sym e) pa
of_three a b c s P pa pb pc (inr (inl e)) = subst P (sym e) pb
of_three a b c s P pa pb pc (inr (inr (inl e))) = subst P (sym e) pc
of_three a b c s P pa pb pc (inr (inr (inr bad))) = absurd bad

stage_some : (r : Rules) (m : Machine) (report : Option Report) (cs : List Command) (s : Machine) → IsOneOf (stages r m report cs) s → IsAfterSome m.tree cs s.tree
stage_some r m report cs s is =
    of_three m (when_answered r m report) (after r m report cs) s (λ (x : Machine). IsAfterSome m.tree cs x.tree)
    (none_of m.tree cs m.tree refl)
    (none_of m.tree cs (when_answered r m report).tree (when_tree r m report))
    (all_of m.tree cs (after r m report cs).tree (after_tree r m report cs))
    is

some_left : (start : Tree) (a b : List Command) (tree : Tree) → IsAfterSome start a tree → IsAfterSome start (a ++ b) tree
some_left start a b tree some = record {
  count = some.count;
  at_most = omega (arith, some.at_most, length-append a b);
  is = some.is ∙ ap (λ (l : List Command). tree_after start l) (sym (take-append-le some.count a b some.at_most));
}

later_is : (start mid : Tree) (a b : List Command) (tree : Tree) (k : ℕ) → mid ≡ tree_after start a → tree ≡ tree_after mid (take k b) → tree ≡ tree_after start (take (length a + k) (a ++ b))
later_is start mid a b tree k e is = is ∙ ap (λ (t : Tree). tree_after t (take k b)) e ∙ sym (tree_append start a (take k b)) ∙ ap (λ (l : List Command). tree_after start l) (sym (take-append-add a b k))

some_later : (start mid : Tree) (a b : List Command) (tree : Tree) → mid ≡ tree_after start a → IsAfterSome mid b tree → IsAfterSome start (a ++ b) tree
some_later start mid a b tree e some = record {
  count = length a + some.count;
  at_most = omega (arith, some.at_most, length-append a b);
  is = later_is start mid a b tree some.count e some.is;
}

passed_some : (r : Rules) (m : Machine) (es : List Exchange) (last : Last) (s : Machine) → IsOneOf (passed_from r m es last) s
    → IsAfterSome m.tree (flat_map accepted_by es ++ accepted_last r (state_after r m es) last) s.tree
passed_some r m [] last s is = stage_some r m (report_last last) (accepted_last r m last) s is
passed_some r m (e ∷ es) last s is =
    let rest = flat_map accepted_by es ++ accepted_last r (state_after r (next_by r m e) es) last in
    subst (λ (l : List Command). IsAfterSome m.tree l s.tree) (sym (append_assoc (accepted_by e) (flat_map accepted_by es) (accepted_last r (state_after r (next_by r m e) es) last)))
    (⊎_elim (λ here. some_left m.tree (accepted_by e) rest s.tree (stage_some r m (report_in e.answer) (accepted_by e) s here))
    (λ later. some_later m.tree (next_by r m e).tree (accepted_by e) rest s.tree (after_tree r m (report_in e.answer) (accepted_by e)) (passed_some r (next_by r m e) es last s later))
    (one_either (stages_by r m e) (passed_from r (next_by r m e) es last) s is))

pub prefix_of : (r : Rules) (c : Course) (image : List Block) → StandsForOne (passed r c) image → StandsForPrefix r c (passed r c) 0 image
prefix_of r c image one = let some = passed_some r c.start c.told c.last one.state one.is_one in record {
  state = one.state;
  is_one = one.is_one;
  stands = one.stands;
  count = some.count;
  at_least = omega arith;
  at_most = some.at_most;
  tree = some.is;
}

pub last_prefix : (r : Rules) (c : Course) (image : List Block) → StandsForOne (last_stages r (before_last r c) c.last) image
    → StandsForPrefix r c (last_stages r (before_last r c) c.last) (length (acknowledged c)) image
last_prefix r c image one =
    let before = before_last r c in
    let some = stage_some r before (report_last c.last) (accepted_last r before c.last) one.state one.is_one in
    record {
      state = one.state;
      is_one = one.is_one;
      stands = one.stands;
      count = length (acknowledged c) + some.count;
      at_least = omega arith;
      at_most = omega (arith, some.at_most, length-append (acknowledged c) (accepted_last r before c.last));
      tree = later_is c.start.tree before.tree (acknowledged c) (accepted_last r before c.last) one.state.tree some.count (state_tree r c.start c.told) some.is;
    }
