-- What is known where a command is accepted: each of its tests passed.
use Rattle.std.proofs.Common.{◌≡◌, ℕ, List, [], ◌∷◌, ◌++◌, true, false, not, refl, sym, ap, ◌∙◌, Some, None, append_assoc, append-nil}
use Rattle.std.specs.Prelude.{Result, Ok, Err, Option, Bool, is_some}
use Rattle.tree_model.specs.declared.node.Node.{Node}
use Rattle.tree_model.specs.declared.node.Content.{Content}
use Rattle.tree_model.specs.declared.node.Content.TheVariants.{File, Directory}
use Rattle.tree_model.specs.declared.refusal.Refusal.{Refusal}
use Rattle.tree_model.specs.declared.refusal.Refusal.TheVariants.{NotFound, NotADirectory}
use Rattle.tree_model.specs.declared.reply.Reply.{Reply}
use Rattle.tree_model.specs.Path.{Path}
use Rattle.tree_model.specs.Tree.{Tree, node_at, is_directory}
use Rattle.tree_model.specs.Step.{◌>>=◌, refuse_if, or_refuse, walk, walk_from, bytes_of}
use Rattle.tree_model.proofs.AttemptLaws.{Accepts}

pub with_ok : {A : Type 0} (P : Reply → Tree → Type 0) (r : Result A Refusal) (f : A → Result (Reply × Tree) Refusal) → ((x : A) → r ≡ Ok x → Accepts P (f x)) → Accepts P (r >>= f)
with_ok P (Ok x) f h = h x refl
with_ok P (Err e) f h = tt

pub passed : (b : Bool) (refusal : Refusal) (u : ℕ) → refuse_if b refusal ≡ Ok u → b ≡ false
passed true refusal u e = cc
passed false refusal u e = refl

pub held : (b : Bool) (refusal : Refusal) (u : ℕ) → refuse_if (not b) refusal ≡ Ok u → b ≡ true
held true refusal u e = refl
held false refusal u e = cc

pub there : {A : Type 0} (o : Option A) (refusal : Refusal) (x : A) → or_refuse o refusal ≡ Ok x → o ≡ Some x
there None refusal x e = cc
there (Some y) refusal x e = cc

both_ok : {A B : Type 0} (r : Result A Refusal) (f : A → Result B Refusal) (y : B) → (r >>= f) ≡ Ok y → (x : A) × (r ≡ Ok x) × (f x ≡ Ok y)
both_ok (Ok x) f y e = (x, refl, e)
both_ok (Err refusal) f y e = cc

walked_from : (tree : Tree) (at names : Path) (node : Node) → walk_from tree at names ≡ Ok node → node_at tree (at ++ names) ≡ Some node
walked_from tree at [] node e = ap (λ p. node_at tree p) (append-nil at) ∙ there _ NotFound node e
walked_from tree at (name ∷ names) node e =
    let on : ℕ → Result Node Refusal = λ _. walk_from tree (at ++ name ∷ []) names in
    let first = both_ok (or_refuse (node_at tree at) NotFound) (λ (n : Node). refuse_if (not (is_directory n)) NotADirectory >>= on) node e in
    let next = both_ok (refuse_if (not (is_directory first.0)) NotADirectory) on node first.2 in
    ap (λ p. node_at tree p) (sym (append_assoc at (name ∷ []) names)) ∙ walked_from tree (at ++ name ∷ []) names node next.2

-- a walk that comes to its end gives the node at the path
pub walked : (tree : Tree) (path : Path) (node : Node) → walk tree path ≡ Ok node → node_at tree path ≡ Some node
walked tree path node e = walked_from tree [] path node e

pub is_file : (content : Content) (bytes : List ℕ) → bytes_of content ≡ Ok bytes → content ≡ File bytes
is_file (File old) bytes e = cc
is_file (Directory width) bytes e = cc

pub nothing : {A : Type 0} (o : Option A) (refusal : Refusal) (u : ℕ) → refuse_if (is_some o) refusal ≡ Ok u → o ≡ None
nothing None refusal u e = refl
nothing (Some x) refusal u e = cc
