-- What a table says of a node is what the tree says.
use Rattle.std.proofs.Common.{◌≡◌, Some, refl, sym, ap, ◌∙◌}
use Rattle.std.specs.Prelude.{Result, Ok, Err}
use Rattle.tree_model.specs.Path.{Path}
use Rattle.tree_model.specs.Shape.{IsTree}
use Rattle.tree_model.specs.Step.{◌>>=◌, walk, stat, size_of}
use Rattle.tree_model.specs.Tree.{Tree, node_at, kind_of}
use Rattle.tree_model.specs.declared.node.Node.{Node}
use Rattle.tree_model.specs.declared.node.Content.{Content}
use Rattle.tree_model.specs.declared.node.Content.TheVariants as contents
use Rattle.tree_model.specs.declared.refusal.Refusal.{Refusal}
use Rattle.tree_model.specs.declared.reply.Reply.TheVariants.{Stat}
use Rattle.tree_model.proofs.Accepted.{walked}
use Rattle.node_table.specs.Found.{found, found_of}
use Rattle.node_table.specs.Held.{AreDirectories, Nodes, HoldsNodes, held, info_of, slots_of}
use Rattle.node_table.specs.Listing.{kind_in, size_in, stat_of}
use Rattle.node_table.specs.Walks.{look}
use Rattle.node_table.specs.declared.held.FoundNode.{FoundNode}
use Rattle.node_table.proofs.ReadyLaws.{directory_held}
use Rattle.node_table.proofs.RefusalLaws.{count_same}
use Rattle.node_table.proofs.WalkLaws.{look_is}

pub same_kinds : (c : Content) → kind_in (info_of c) ≡ kind_of c
same_kinds (contents.File bytes) = refl
same_kinds (contents.Directory width) = refl

module _ (nodes : Nodes) (tree : Tree) (h : IsTree tree) (holds : HoldsNodes nodes tree) where
  size_is : AreDirectories nodes → (path : Path) (node : Node) → node_at tree path ≡ Some node → (c : Content) → node.content ≡ c → size_in nodes node.number (info_of c) ≡ size_of tree path c
  size_is directories path node is (contents.File bytes) kind = refl
  size_is directories path node is (contents.Directory width) kind =
      let directory : node_at tree path ≡ Some (record { number = node.number; content = contents.Directory width }) = is ∙ (λ i. Some (record { number = node.number; content = kind i })) in
      count_same nodes tree h holds directories path (record { number = node.number; content = contents.Directory width }) directory (slots_of (held nodes node.number))
      (directory_held nodes tree h holds path (record { number = node.number; content = contents.Directory width }) directory refl)

  pub stat_there : AreDirectories nodes → (path : Path) (f : FoundNode) → look nodes path ≡ Ok f → stat tree path ≡ Ok (stat_of nodes f, tree)
  stat_there directories path f e = by (walk tree path) refl (sym (look_is nodes tree h holds path) ∙ e)
    where
      by : (r : Result Node Refusal) → walk tree path ≡ r → found r ≡ Ok f → stat tree path ≡ Ok (stat_of nodes f, tree)
      by (Err refusal) is same = cc
      by (Ok node) is same =
          let one : found_of node ≡ f = cc in
          ap (λ r. r >>= (λ (n : Node). Ok (Stat (kind_of n.content) n.number (size_of tree path n.content), tree))) is
          ∙ (λ i. Ok (Stat (sym (same_kinds node.content) i) node.number (sym (size_is directories path node (walked tree path node is) node.content refl) i), tree))
          ∙ ap (λ (g : FoundNode). Ok (stat_of nodes g, tree)) one

  pub stat_refused : (path : Path) (refusal : Refusal) → look nodes path ≡ Err refusal → stat tree path ≡ Err refusal
  stat_refused path refusal e = by (walk tree path) refl (sym (look_is nodes tree h holds path) ∙ e)
    where
      by : (r : Result Node Refusal) → walk tree path ≡ r → found r ≡ Err refusal → stat tree path ≡ Err refusal
      by (Ok node) is same = cc
      by (Err other) is same =
          let one : other ≡ refusal = cc in
          ap (λ r. r >>= (λ (n : Node). Ok (Stat (kind_of n.content) n.number (size_of tree path n.content), tree))) is ∙ ap Err one
