-- A change that the tree doesn't refuse has a record: it doesn't speak of the root.
use Rattle.std.proofs.Common.{◌≡◌, ◌∙◌, ℕ, Bool, true, false, List, [], ◌∷◌, Option, Some, None, refl, sym, ap, subst}
use Rattle.std.specs.Prelude.{Result, Ok, Err, not, is_some}
use Rattle.std.specs.Result.{result_err}
use Rattle.op_log.specs.Record.{IsLogged}
use Rattle.tree_model.proofs.Accepted.{is_file, walked}
use Rattle.tree_model.specs.Path.{Path, is_root, parent_of}
use Rattle.tree_model.specs.Shape.{IsTree, shape_of}
use Rattle.tree_model.specs.Step.{◌>>=◌, refuse_if, walk, bytes_of, is_change, refusal_of}
use Rattle.tree_model.specs.Tree.{Tree, is_directory, holds_entries, node_at}
use Rattle.tree_model.specs.declared.command.Command.{Command}
use Rattle.tree_model.specs.declared.command.Command.TheVariants.{Mkdir, Create, Write, Truncate, Remove, Rename, Read, List as ListOf, Stat, Layout, Space, Checkpoint, End}
use Rattle.tree_model.specs.declared.node.Node.{Node}
use Rattle.tree_model.specs.declared.refusal.Refusal.{Refusal}
use Rattle.tree_model.specs.declared.refusal.Refusal.TheVariants.{NotADirectory, Exists}

refused : {e : Refusal} → Some e ≡ None → ⊥
refused is = cc

-- what isn't refused passed its first step, and isn't refused behind it
passes : {A B : Type 0} (r : Result A Refusal) (f : A → Result B Refusal) → result_err (r >>= f) ≡ None → ((x : A) → r ≡ Ok x → result_err (f x) ≡ None → ⊥) → ⊥
passes (Ok x) f none rest = rest x refl none
passes (Err e) f none rest = cc

abbrev is_of_directory : Option (ℕ × Bool) → Bool
is_of_directory None = false
is_of_directory (Some shape) = shape.1

-- what holds of the path of a command that isn't refused, and of no root's
not_root : (P : Path → Type 0) (path : Path) → P path → (P [] → ⊥) → path ≡ [] → ⊥
not_root P path is never e = never (subst P e is)

module _ (tree : Tree) (sound : IsTree tree) where
  -- the root has no bytes
  root_bytes : {A : Type 0} (f : Node → List ℕ → Result A Refusal) → result_err (walk tree [] >>= λ node. (bytes_of node.content >>= f node)) ≡ None → ⊥
  root_bytes f none =
      passes (walk tree []) (λ (node : Node). bytes_of node.content >>= f node) none (λ node is rest.
      passes (bytes_of node.content) (f node) rest (λ bytes has _.
      let directory : holds_entries node.content ≡ true = ap is_of_directory (sym (ap shape_of (walked tree [] node is)) ∙ sound.shape.root) in
      let file : holds_entries node.content ≡ false = ap holds_entries (is_file node.content bytes has) in
      cc))

  -- the path that is renamed isn't the root
  from_root : (to : Path) → refusal_of tree (Rename [] to) ≡ None → ⊥
  from_root to none =
      passes (walk tree []) _ none (λ node _ a. passes (refuse_if (is_root to) Exists) _ a (λ _ _ b. passes (walk tree (parent_of to)) _ b (λ parent _ c.
      passes (refuse_if (not (is_directory parent)) NotADirectory) _ c (λ _ _ d. passes (refuse_if (is_some (node_at tree to)) Exists) _ d (λ _ _ e. refused e)))))

  pub is_logged : (command : Command) → is_change command ≡ true → refusal_of tree command ≡ None → IsLogged command
  is_logged (Mkdir path) is none = not_root (λ (p : Path). refusal_of tree (Mkdir p) ≡ None) path none (λ n. refused n)
  is_logged (Create path) is none = not_root (λ (p : Path). refusal_of tree (Create p) ≡ None) path none (λ n. refused n)
  is_logged (Write path offset []) is none = cc
  is_logged (Write path offset (byte ∷ bytes)) is none = (not_root (λ (p : Path). refusal_of tree (Write p offset (byte ∷ bytes)) ≡ None) path none (λ n. root_bytes _ n), λ e. cc)
  is_logged (Truncate path size) is none = not_root (λ (p : Path). refusal_of tree (Truncate p size) ≡ None) path none (λ n. root_bytes _ n)
  is_logged (Remove path) is none = not_root (λ (p : Path). refusal_of tree (Remove p) ≡ None) path none (λ n. passes (walk tree []) _ n (λ node _ rest. refused rest))
  is_logged (Rename from to) is none = (
    not_root (λ (p : Path). refusal_of tree (Rename p to) ≡ None) from none (λ n. from_root to n),
    not_root (λ (p : Path). refusal_of tree (Rename from p) ≡ None) to none (λ n. passes (walk tree from) _ n (λ node _ rest. refused rest)),
  )
  is_logged (Read path offset len) is none = cc
  is_logged (ListOf path) is none = cc
  is_logged (Stat path) is none = cc
  is_logged (Layout path) is none = cc
  is_logged Space is none = cc
  is_logged Checkpoint is none = cc
  is_logged End is none = cc
