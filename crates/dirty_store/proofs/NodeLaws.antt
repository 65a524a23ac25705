-- What is staged of nodes, in the words of a sorted map and of a finite map.
use Rattle.std.proofs.Common.{◌≡◌, ℕ, Bool, true, false, cond, List, [], ◌∷◌, refl, sym, ap, ◌∙◌}
use Rattle.std.specs.Prelude.{◌&&◌, Option, Some, None, IsSome, Result, Ok, Err, OnOk, OnErr}
use Rattle.std.specs.Ordering.{is_eq, is_lt, eq_by_cmp, nat_cmp, match_ordering}
use Rattle.std.specs.declared.cmp.Ordering.{Ordering}
use Rattle.std.specs.declared.cmp.Ordering.TheVariants.{Less, Equal, Greater}
use Rattle.std.specs.Cmp.{nat_cmp_total, tied_itself}
use Rattle.std.specs.FinMap.{find, put, is_sorted, nat_cmp-IsAntisymmetric}
use Rattle.std.specs.FinMap.Entries.{by_order, below_all, is_sorted-put, find-put, same_entries}
use Rattle.std.specs.Map.{remove_entry}
use Rattle.std.specs.BTreeMap.{insert_entry, is_at}
use Rattle.volume_model.proofs.Order.{T_true, true_T, first_of, second_of}
use Rattle.dirty_store.specs.declared.node_change.NodeChange.{NodeChange}
use Rattle.dirty_store.specs.Undo.{node_back}
use Rattle.dirty_store.proofs.Places.{equal_of}

-- what cannot have failed has succeeded
pub succeeded : {A E : Type 0} {P Q : Type 0} (r : Result A E) → OnOk r P → OnErr r Q → (Q → ⊥) → P
succeeded (Ok x) p q never = p
succeeded (Err e) p q never = absurd (never q)

pub none_or_some : {A : Type 0} (o : Option A) → IsSome o → o ≡ None → ⊥
none_or_some None some none = cc
none_or_some (Some x) some none = cc

module _ {X : Type 0} where
  pub insert_put : (es : List (ℕ × X)) (k : ℕ) (v : X) → insert_entry nat_cmp es k v ≡ put nat_cmp k v es
  insert_put [] k v = refl
  insert_put (e ∷ es) k v = by (nat_cmp k e.0) (insert_put es k v)
    where
      by : (o : Ordering) → insert_entry nat_cmp es k v ≡ put nat_cmp k v es
          → match_ordering o ((k, v) ∷ e ∷ es) ((e.0, v) ∷ es) (e ∷ insert_entry nat_cmp es k v) ≡ by_order o ((k, v) ∷ e ∷ es) ((e.0, v) ∷ es) (e ∷ put nat_cmp k v es)
      by Less more = refl
      by Equal more = refl
      by Greater more = ap (λ (r : List (ℕ × X)). e ∷ r) more

  below_left : (x k : ℕ) (es : List (ℕ × X)) → below_all nat_cmp x es ≡ true → below_all nat_cmp x (remove_entry (is_at (nat_cmp k)) es) ≡ true
  below_left x k [] below = refl
  below_left x k (e ∷ es) below = by (is_at (nat_cmp k) e.0) (below_left x k es (second_of _ _ below))
    where
      by : (b : Bool) → below_all nat_cmp x (remove_entry (is_at (nat_cmp k)) es) ≡ true
          → below_all nat_cmp x (cond b es (e ∷ remove_entry (is_at (nat_cmp k)) es)) ≡ true
      by true more = second_of (is_lt (nat_cmp x e.0)) (below_all nat_cmp x es) below
      by false more = λ i. first_of (is_lt (nat_cmp x e.0)) (below_all nat_cmp x es) below i && more i

  pub removed_sorted : (k : ℕ) (es : List (ℕ × X)) → is_sorted nat_cmp es ≡ true → is_sorted nat_cmp (remove_entry (is_at (nat_cmp k)) es) ≡ true
  removed_sorted k [] sorted = refl
  removed_sorted k (e ∷ es) sorted = by (is_at (nat_cmp k) e.0) (removed_sorted k es (second_of _ _ sorted))
    where
      by : (b : Bool) → is_sorted nat_cmp (remove_entry (is_at (nat_cmp k)) es) ≡ true → is_sorted nat_cmp (cond b es (e ∷ remove_entry (is_at (nat_cmp k)) es)) ≡ true
      by true more = second_of (below_all nat_cmp e.0 es) (is_sorted nat_cmp es) sorted
      by false more = λ i. below_left e.0 k es (first_of (below_all nat_cmp e.0 es) (is_sorted nat_cmp es) sorted) i && more i

  pub put_sorted : (k : ℕ) (v : X) (es : List (ℕ × X)) → is_sorted nat_cmp es ≡ true → is_sorted nat_cmp (put nat_cmp k v es) ≡ true
  put_sorted k v es sorted = T_true _ (is_sorted-put nat_cmp nat_cmp_total k v es (true_T _ sorted))

  -- a new entry that is taken away again
  removed-put : (k : ℕ) (v : X) (es : List (ℕ × X)) → find nat_cmp k es ≡ None → remove_entry (is_at (nat_cmp k)) (put nat_cmp k v es) ≡ es
  removed-put k v [] none = ap (λ b. cond b [] ((k, v) ∷ [])) (ap is_eq (tied_itself nat_cmp_total k))
  removed-put k v (e ∷ es) none = by (nat_cmp k e.0) refl none (removed-put k v es)
    where
      by : (o : Ordering) → nat_cmp k e.0 ≡ o → cond (is_eq o) (Some e.1) (find nat_cmp k es) ≡ None → (find nat_cmp k es ≡ None → remove_entry (is_at (nat_cmp k)) (put nat_cmp k v es) ≡ es)
          → remove_entry (is_at (nat_cmp k)) (by_order o ((k, v) ∷ e ∷ es) ((e.0, v) ∷ es) (e ∷ put nat_cmp k v es)) ≡ e ∷ es
      by Less at is more = ap (λ b. cond b (e ∷ es) ((k, v) ∷ remove_entry (is_at (nat_cmp k)) (e ∷ es))) (ap is_eq (tied_itself nat_cmp_total k))
      by Equal at is more = cc
      by Greater at is more =
          ap (λ b. cond b (put nat_cmp k v es) (e ∷ remove_entry (is_at (nat_cmp k)) (put nat_cmp k v es))) (ap is_eq at) ∙ ap (λ (r : List (ℕ × X)). e ∷ r) (more is)

  -- an entry that has its value again
  put-put : (k : ℕ) (v w : X) (es : List (ℕ × X)) → is_sorted nat_cmp es ≡ true → find nat_cmp k es ≡ Some w → put nat_cmp k w (put nat_cmp k v es) ≡ es
  put-put k v w es sorted some =
      same_entries nat_cmp nat_cmp_total nat_cmp-IsAntisymmetric _ es (true_T _ (put_sorted k w _ (put_sorted k v es sorted))) (true_T _ sorted)
      (λ q. find-put nat_cmp nat_cmp_total q k w (put nat_cmp k v es) ∙ ap (cond (eq_by_cmp nat_cmp q k) (Some w)) (find-put nat_cmp nat_cmp_total q k v es) ∙ by q (eq_by_cmp nat_cmp q k) refl)
    where
      by : (q : ℕ) (b : Bool) → eq_by_cmp nat_cmp q k ≡ b → cond b (Some w) (cond b (Some v) (find nat_cmp q es)) ≡ find nat_cmp q es
      by q true is = sym some ∙ ap (λ x. find nat_cmp x es) (sym (nat_cmp-IsAntisymmetric q k (equal_of _ is)))
      by q false is = refl

pub node_back_sorted : (k : ℕ) (was : Option NodeChange) (nodes : List (ℕ × NodeChange)) → is_sorted nat_cmp nodes ≡ true → is_sorted nat_cmp (node_back k was nodes) ≡ true
node_back_sorted k None nodes sorted = removed_sorted k nodes sorted
node_back_sorted k (Some node) nodes sorted = put_sorted k node nodes sorted

-- what is put back after a node is staged is what was there
pub node_back-put : (k : ℕ) (node : NodeChange) (nodes : List (ℕ × NodeChange)) → is_sorted nat_cmp nodes ≡ true → node_back k (find nat_cmp k nodes) (put nat_cmp k node nodes) ≡ nodes
node_back-put k node nodes sorted = by (find nat_cmp k nodes) refl
  where
    by : (o : Option NodeChange) → find nat_cmp k nodes ≡ o → node_back k o (put nat_cmp k node nodes) ≡ nodes
    by None is = removed-put k node nodes is
    by (Some was) is = put-put k node was nodes sorted is
