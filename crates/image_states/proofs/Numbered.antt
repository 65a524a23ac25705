-- The bytes of the file that has a number, as they are seen.
use Rattle.std.proofs.Common.{◌≡◌, ℕ, Bool, true, false, cond, List, [], ◌∷◌, take, Some, refl, sym, ap, subst, ◌∙◌, arith}
use Rattle.std.specs.Prelude.{◌||◌, nat_eq}
use Rattle.std.specs.List.{AllByRecursion}
use Rattle.std.proofs.lemmas.Bool.Decides.{nat_tests}
use Rattle.vol_numbers.specs.declared.block.Block.{Block}
use Rattle.root_switch.specs.Current.{root_of_image}
use Rattle.block_format.specs.Inode.{blocks_of}
use Rattle.block_format.specs.declared.inode.Inode.{Inode}
use Rattle.block_format.specs.declared.inode.Inode.TheVariants.{Unused, File, Directory}
use Rattle.block_tree.specs.Tree.{index_at, blocks_in}
use Rattle.tree_model.specs.Path.{Path}
use Rattle.tree_model.specs.Tree.{Tree}
use Rattle.tree_model.specs.declared.node.Node.{Node}
use Rattle.tree_model.specs.declared.node.Content.TheVariants as tree
use Rattle.place_words.specs.Different.{is_among}
use Rattle.volume_model.specs.Machine.{Stored, bytes_in, bytes_numbered}
use Rattle.image_model.specs.Seen.{Seen, seen}
use Rattle.image_model.specs.Slots.{inode_of}
use Rattle.image_model.specs.Stands.{Stands, node_of, bytes_from}
use Rattle.image_model.specs.Walk.{is_used, blocks_inodes}
use Rattle.image_model.proofs.NodePlaces.{AllUsed, nodes_used, used_among}
use Rattle.image_model.proofs.TreeNodes.{keys, Leads, all_lead, keys_used}

-- the bytes of a file by its inode, none of another node
abbrev pub seen_bytes : Seen → ℕ → Inode → List ℕ
seen_bytes s n Unused = []
seen_bytes s n (File size height ptr) = take size (bytes_from s.contents n 0 (blocks_of size))
seen_bytes s n (Directory width height ptr) = []

node_bytes : (s : Seen) (n : ℕ) (x : Inode) (node : Node) → node_of s n x ≡ Some node → bytes_in node.content ≡ seen_bytes s n x
node_bytes s n Unused node is = cc
node_bytes s n (File size height ptr) node is =
    let e : record { number = n; content = tree.File (take size (bytes_from s.contents n 0 (blocks_of size))) } ≡ node = cc in
    sym (ap (λ (x : Node). bytes_in x.content) e)
node_bytes s n (Directory width height ptr) node is =
    let e : record { number = n; content = tree.Directory width } ≡ node = cc in
    sym (ap (λ (x : Node). bytes_in x.content) e)

unused_bytes : (s : Seen) (n : ℕ) (x : Inode) → is_used x ≡ false → [] ≡ seen_bytes s n x
unused_bytes s n Unused e = refl
unused_bytes s n (File size height ptr) e = cc
unused_bytes s n (Directory width height ptr) e = cc

module _ (image : List Block) (s : Stored) (stands : Stands image s) where
  among : (es : Tree) → AllByRecursion (λ (e : Path × Node). Leads (seen image) e.0 e.1) es → (n : ℕ)
      → bytes_numbered n es ≡ cond (is_among (keys es) n) (seen_bytes (seen image) n (inode_of (seen image).nodes n)) []
  among [] all n = refl
  among (e ∷ es) all n = by (nat_eq e.1.number n) refl (among es all.1 n)
    where
      by : (t : Bool) → nat_eq e.1.number n ≡ t → bytes_numbered n es ≡ cond (is_among (keys es) n) (seen_bytes (seen image) n (inode_of (seen image).nodes n)) []
          → cond t (bytes_in e.1.content) (bytes_numbered n es) ≡ cond (t || is_among (keys es) n) (seen_bytes (seen image) n (inode_of (seen image).nodes n)) []
      by true is more =
          let same : e.1.number ≡ n = grind (arith, nat_tests) in
          node_bytes (seen image) n (inode_of (seen image).nodes n) e.1 (subst (λ (k : ℕ). node_of (seen image) k (inode_of (seen image).nodes k) ≡ Some e.1) same all.0.inode)
      by false is more = more

  all_used : AllUsed (seen image).nodes
  unfolding seen
  all_used = nodes_used (blocks_inodes (blocks_in image) 0 (index_at (blocks_in image) (root_of_image image).inode_index))

  -- the bytes with a number are those of its inode
  pub numbered : (n : ℕ) → bytes_numbered n s.tree ≡ seen_bytes (seen image) n (inode_of (seen image).nodes n)
  numbered n =
      among s.tree (all_lead (seen image) s.tree stands.shows.ordered stands.shows.tree stands.sound.named) n
      ∙ ap (λ (t : Bool). cond t (seen_bytes (seen image) n (inode_of (seen image).nodes n)) []) (keys_used (seen image) s.tree stands.shows.ordered stands.shows.tree stands.sound.named all_used n ∙ sym (used_among (seen image).nodes all_used n))
      ∙ by (is_used (inode_of (seen image).nodes n)) refl
    where
      by : (t : Bool) → is_used (inode_of (seen image).nodes n) ≡ t → cond t (seen_bytes (seen image) n (inode_of (seen image).nodes n)) [] ≡ seen_bytes (seen image) n (inode_of (seen image).nodes n)
      by true e = refl
      by false e = unused_bytes (seen image) n (inode_of (seen image).nodes n) e
