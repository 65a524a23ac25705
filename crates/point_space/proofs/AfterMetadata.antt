-- The metadata that a point leaves depends on which places there are.
use Rattle.std.proofs.Common.{◌≡◌, ℕ, ◌+◌, length, refl, sym, ◌∙◌}
use Rattle.std.specs.Prelude.{sum_by}
use Rattle.place_words.specs.Different.{up}
use Rattle.point_space.specs.Laws.{AfterMetadataIs}
use Rattle.point_space.proofs.NodeMetas.{index_same}
use Rattle.tree_model.specs.Path.{Path}
use Rattle.tree_model.specs.Tree.{Tree}
use Rattle.tree_model.specs.declared.node.Content.{Content}
use Rattle.tree_model.specs.declared.node.Content.TheVariants.{File, Directory}
use Rattle.tree_model.specs.declared.node.Node.{Node}
use Rattle.volume_model.specs.Places.{Places, places_of}
use Rattle.volume_model.specs.Point.{placed_after}
use Rattle.volume_model.specs.Short.{kept_and_dirty}
use Rattle.volume_model.specs.Space.{content_blocks, inode_blocks, metadata_blocks}
use Rattle.volume_model.proofs.PointSpace.{has, has_place, after_has, long_as}

module _ (p q : Places) (same : (n k : ℕ) → has p n k ≡ has q n k) where
  content_same : (n : ℕ) (content : Content) → content_blocks p n content ≡ content_blocks q n content
  content_same n (File bytes) = index_same (up (length bytes) 4096) (places_of p n) (places_of q n) (λ k. has_place p n k ∙ same n k ∙ sym (has_place q n k))
  content_same n (Directory width) = refl

  metadata_same : (tree : Tree) → metadata_blocks tree p ≡ metadata_blocks tree q
  metadata_same tree = λ i. 1 + inode_blocks tree + sum_by (λ (e : Path × Node). content_same e.1.number e.1.content i) tree

pub after_metadata_is : AfterMetadataIs
after_metadata_is r m fresh positive whole may =
    metadata_same (placed_after r m fresh) (kept_and_dirty m) (after_has r m fresh positive whole (long_as r m fresh may)) m.tree
