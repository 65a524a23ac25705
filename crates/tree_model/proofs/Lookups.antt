-- What stands at each path after a change, by what stood there before.
use Rattle.std.proofs.Common.{◌≡◌, ℕ, List, [], ◌∷◌, ◌++◌, length, true, false, not, refl, sym, ap, ◌∙◌, Some, None, cond, inl, inr, suc, arith}
use Rattle.std.proofs.lemmas.List.{append_cancel_left}
use Rattle.std.specs.Prelude.{Option, ◌⊎◌, is_some, max, nat_eq}
use Rattle.std.specs.List.{cons_option}
use Rattle.std.proofs.lemmas.Bool.{eqb-true}
use Rattle.std.specs.FinMap.Entries.{find-where_key}
use Rattle.tree_model.specs.declared.node.Node.{Node}
use Rattle.tree_model.specs.declared.node.Content.{Content}
use Rattle.tree_model.specs.declared.node.Content.TheVariants.{File, Directory}
use Rattle.tree_model.specs.Path.{Path, path_cmp, strip}
use Rattle.tree_model.specs.Tree.{Tree, node_at, without, with_width, with_content_width, widened, new_path, renamed, moved_onto, entries_of, entry_below}
use Rattle.tree_model.specs.Shape.{came_from, after_rename}
use Rattle.tree_model.proofs.Paths.{same_path, same_test}
use Rattle.tree_model.proofs.AttemptLaws.{put_at}
use Rattle.tree_model.proofs.Fronts.{tie, tie_is, tie_same, test_fails, strip_is, strip_back, strip_none}

pub without_at : (tree : Tree) (path q : Path) → node_at (without tree path) q ≡ cond (not (tie path q)) (node_at tree q) None
without_at tree path q = find-where_key path_cmp (λ x. not (tie path x)) q (λ x e. ap (λ y. not (tie path y)) (sym (same_path q x e))) tree

-- nothing stands at the path or below it
abbrev pub IsClear : Path → Tree → Type 0
IsClear to tree = (rest : Path) → node_at tree (to ++ rest) ≡ None

pub clear_head : (to : Path) (e : Path × Node) (es : Tree) → IsClear to (e ∷ es) → (r : Path) → e.0 ≡ to ++ r → ⊥
clear_head to e es clear r is =
    let there : node_at (e ∷ es) (to ++ r) ≡ Some e.1 = ap (λ b. cond b (Some e.1) (node_at es (to ++ r))) (tie_same (to ++ r) e.0 (sym is)) in
    let none : node_at (e ∷ es) (to ++ r) ≡ None = clear r in
    cc

pub clear_tail : (to : Path) (e : Path × Node) (es : Tree) → IsClear to (e ∷ es) → IsClear to es
clear_tail to e es clear r =
    elim (tie (to ++ r) e.0) as (λ b. cond b (Some e.1) (node_at es (to ++ r)) ≡ None → node_at es (to ++ r) ≡ None) [ true ↦ λ n. cc | false ↦ λ n. n ] (clear r)

-- how the new path of a path is one of two
pub record Went (from to k : Path) : Type 0 where
  pub rest : Path
  pub was : k ≡ from ++ rest
  pub is : new_path from to k ≡ to ++ rest

pub record Stayed (from to k : Path) : Type 0 where
  pub none : strip from k ≡ None
  pub is : new_path from to k ≡ k

pub new_is : (from to k : Path) → Went from to k ⊎ Stayed from to k
new_is from to k =
    elim (strip from k) as (λ o. strip from k ≡ o → Went from to k ⊎ Stayed from to k) [
      | Some r ↦ λ e. inl (record { rest = r; was = strip_is from k r e; is = ap (λ o. renamed to o k) e })
      | None ↦ λ e. inr (record { none = e; is = ap (λ o. renamed to o k) e })
    ] refl

module _ (from to k q : Path) where
  ties_below : (r : Path) → q ≡ to ++ r → ((x : Path) → k ≡ to ++ x → ⊥) → tie q (new_path from to k) ≡ tie (from ++ r) k
  ties_below r e clear =
      elim (new_is from to k) [
        | inl w ↦ same_test _ _
            (λ t. let same : r ≡ w.rest = append_cancel_left to r w.rest (sym e ∙ tie_is _ _ t ∙ w.is) in tie_same (from ++ r) k (ap (λ x. from ++ x) same ∙ sym w.was))
            (λ t. let same : r ≡ w.rest = append_cancel_left from r w.rest (tie_is _ _ t ∙ w.was) in tie_same q (new_path from to k) (e ∙ ap (λ x. to ++ x) same ∙ sym w.is))
        | inr s ↦ same_test _ _
            (λ t. absurd (clear r (sym s.is ∙ sym (tie_is _ _ t) ∙ e)))
            (λ t. absurd (strip_none from k r s.none (sym (tie_is _ _ t))))
      ]

  ties_left : (r : Path) → strip to q ≡ None → strip from q ≡ Some r → tie q (new_path from to k) ≡ false
  ties_left r e f = test_fails _ (λ t.
      elim (new_is from to k) [
        | inl w ↦ strip_none to q w.rest e (tie_is _ _ t ∙ w.is)
        | inr s ↦ let none : strip from q ≡ None = ap (λ x. strip from x) (tie_is _ _ t ∙ s.is) ∙ s.none in cc
      ])

  ties_other : strip to q ≡ None → strip from q ≡ None → tie q (new_path from to k) ≡ tie q k
  ties_other e f =
      elim (new_is from to k) [
        | inl w ↦ same_test _ _
            (λ t. absurd (strip_none to q w.rest e (tie_is _ _ t ∙ w.is)))
            (λ t. absurd (strip_none from q w.rest f (tie_is _ _ t ∙ w.was)))
        | inr s ↦ ap (λ x. tie q x) s.is
      ]

one_moved_at : (from to : Path) (e : Path × Node) (es : Tree) → IsClear to (e ∷ es) → (q : Path)
    → cond (tie q (new_path from to e.0)) (Some e.1) (after_rename (node_at es) from to q) ≡ after_rename (node_at (e ∷ es)) from to q
one_moved_at from to e es clear q =
    elim (strip to q) as (λ o. strip to q ≡ o → cond (tie q (new_path from to e.0)) (Some e.1) (came_from (node_at es) from o (strip from q) q) ≡ came_from (node_at (e ∷ es)) from o (strip from q) q) [
      | Some r ↦ λ is. ap (λ b. cond b (Some e.1) (node_at es (from ++ r))) (ties_below from to e.0 q r (strip_is to q r is) (clear_head to e es clear))
      | None ↦ λ none.
          elim (strip from q) as (λ o. strip from q ≡ o → cond (tie q (new_path from to e.0)) (Some e.1) (came_from (node_at es) from None o q) ≡ came_from (node_at (e ∷ es)) from None o q) [
            | Some r ↦ λ left. ap (λ b. cond b (Some e.1) None) (ties_left from to e.0 q r none left)
            | None ↦ λ kept. ap (λ b. cond b (Some e.1) (node_at es q)) (ties_other from to e.0 q none kept)
          ] refl
    ] refl

nothing_moved : (from to q : Path) → None ≡ after_rename (node_at []) from to q
nothing_moved from to q =
    elim (strip to q) as (λ o. None ≡ came_from (node_at []) from o (strip from q) q) [
      | Some r ↦ refl
      | None ↦ elim (strip from q) as (λ o. None ≡ came_from (node_at []) from None o q) [ Some r ↦ refl | None ↦ refl ]
    ]

-- every path that began with one begins with the other, and nothing else moves
pub moved_at : (from to : Path) (tree : Tree) → IsClear to tree → (q : Path) → node_at (moved_onto from to tree []) q ≡ after_rename (node_at tree) from to q
moved_at from to [] clear q = nothing_moved from to q
moved_at from to (e ∷ es) clear q =
    put_at (moved_onto from to es []) (new_path from to e.0) e.1 q
    ∙ ap (λ o. cond (tie q (new_path from to e.0)) (Some e.1) o) (moved_at from to es (clear_tail to e es clear) q)
    ∙ one_moved_at from to e es clear q

-- ---- entries

no_entry_here : (path : Path) (name : List ℕ) (e : Path × Node) → entry_below (strip path e.0) e.1 ≡ None → tie (path ++ name ∷ []) e.0 ≡ false
no_entry_here path name e none = test_fails _ (λ t.
    let is : strip path e.0 ≡ Some (name ∷ []) = ap (λ x. strip path x) (sym (tie_is _ _ t)) ∙ strip_back path (name ∷ []) in
    let some : is_some (entry_below (strip path e.0) e.1) ≡ true = ap (λ o. is_some (entry_below o e.1)) is in
    let isnt : is_some (entry_below (strip path e.0) e.1) ≡ false = ap (λ o. is_some o) none in
    cc)

-- a directory without entries has no node below it
pub no_entry : (tree : Tree) (path : Path) (name : List ℕ) → nat_eq (length (entries_of tree path)) 0 ≡ true → node_at tree (path ++ name ∷ []) ≡ None
no_entry [] path name h = refl
no_entry (e ∷ es) path name h =
    elim (entry_below (strip path e.0) e.1) as (λ o. entry_below (strip path e.0) e.1 ≡ o → nat_eq (length (cons_option o (entries_of es path))) 0 ≡ true → node_at (e ∷ es) (path ++ name ∷ []) ≡ None) [
      | Some entry ↦ λ is n. let zeros : suc (length (entries_of es path)) ≡ 0 = eqb-true _ _ n in absurd (omega arith)
      | None ↦ λ none n. ap (λ b. cond b (Some e.1) (node_at es (path ++ name ∷ []))) (no_entry_here path name e none) ∙ no_entry es path name n
    ] refl h

-- ---- a directory widened

content_other : (n : ℕ) (tree : Tree) (p q : Path) (number : ℕ) (c : Content) → tie q p ≡ false → node_at (with_content_width n tree p number c) q ≡ node_at tree q
content_other n tree p q number (File bytes) e = refl
content_other n tree p q number (Directory width) e =
    let wide : Node = record { number = number; content = Directory (max width n) } in
    put_at tree p wide q ∙ ap (λ b. cond b (Some wide) (node_at tree q)) e

width_other : (n : ℕ) (tree : Tree) (p q : Path) (o : Option Node) → tie q p ≡ false → node_at (with_width n tree p o) q ≡ node_at tree q
width_other n tree p q None e = refl
width_other n tree p q (Some node) e = content_other n tree p q node.number node.content e

pub widened_other : (tree : Tree) (p q : Path) → tie q p ≡ false → node_at (widened tree p) q ≡ node_at tree q
widened_other tree p q e = width_other (length (entries_of tree p)) tree p q (node_at tree p) e
