-- The blocks of metadata that a plan leaves.
use Rattle.std.proofs.Common.{◌≡◌, ℕ, ◌+◌, ◌≤◌, List, [], ◌∷◌, ◌++◌, map, refl, ap, ◌∙◌, arith}
use Rattle.vol_numbers.specs.declared.block.Block.{Block}
use Rattle.block_format.specs.Inode.{pointer_of}
use Rattle.block_format.specs.declared.inode.Inode.{Inode}
use Rattle.block_format.specs.declared.inode.Inode.TheVariants.{Unused, File, Directory}
use Rattle.block_tree.specs.Tree.{blocks_in, pairs_below, indexes_below, pointers_below}
use Rattle.image_model.specs.Met.{index, page, content, metas}
use Rattle.image_model.specs.Planned.{height_in}
use Rattle.image_model.proofs.NodeWalk.{metas_append}
use Rattle.place_words.specs.Different.{times}
use Rattle.point_model.specs.NodePlan.{node_pointers, node_metas, PointersArePlanned}

pub metas_index : (bs : List ℕ) → metas (map index bs) ≡ bs
metas_index [] = refl
metas_index (b ∷ bs) = ap (λ (l : List ℕ). b ∷ l) (metas_index bs)

pub metas_content : (n : ℕ) (pairs : List (ℕ × ℕ)) → metas (map (λ (e : ℕ × ℕ). content n e.0 e.1) pairs) ≡ []
metas_content n [] = refl
metas_content n (e ∷ es) = metas_content n es

metas_page : (n : ℕ) (pairs : List (ℕ × ℕ)) → metas (map (λ (e : ℕ × ℕ). page n e.0 e.1) pairs) ≡ map (λ (e : ℕ × ℕ). e.1) pairs
metas_page n [] = refl
metas_page n (e ∷ es) = ap (λ (l : List ℕ). e.1 ∷ l) (metas_page n es)

pub times_append : (b : ℕ) (xs ys : List ℕ) → times b (xs ++ ys) ≡ times b xs + times b ys
times_append b [] ys = omega arith
times_append b (x ∷ xs) ys = omega (arith, times_append b xs ys)

module _ (image : List Block) (n : ℕ) where
  -- a directory's metadata is all that its pointers lead to
  pub metas_directory : (width height ptr : ℕ) → node_metas image n (Directory width height ptr) ≡ pointers_below (blocks_in image) height ptr
  metas_directory width height ptr =
      metas_append (map index (indexes_below (blocks_in image) height ptr)) (map (λ (e : ℕ × ℕ). page n e.0 e.1) (pairs_below (blocks_in image) height ptr))
      ∙ (λ i. metas_index (indexes_below (blocks_in image) height ptr) i ++ metas_page n (pairs_below (blocks_in image) height ptr) i)

  -- a file's are its index blocks
  pub metas_file : (b size height ptr : ℕ) → times b (node_metas image n (File size height ptr)) ≡ times b (indexes_below (blocks_in image) height ptr)
  metas_file b size height ptr =
      ap (times b) (metas_append (map index (indexes_below (blocks_in image) height ptr)) (map (λ (e : ℕ × ℕ). content n e.0 e.1) (pairs_below (blocks_in image) height ptr)))
      ∙ times_append b (metas (map index (indexes_below (blocks_in image) height ptr))) (metas (map (λ (e : ℕ × ℕ). content n e.0 e.1) (pairs_below (blocks_in image) height ptr)))
      ∙ (λ i. times b (metas_index (indexes_below (blocks_in image) height ptr) i) + times b (metas_content n (pairs_below (blocks_in image) height ptr) i))
      ∙ plus_none (times b (indexes_below (blocks_in image) height ptr))
    where
      plus_none : (k : ℕ) → k + 0 ≡ k
      plus_none k = omega arith

  -- index blocks are metadata, whatever the node is
  pub indexes_meta : (b : ℕ) (x : Inode) → times b (indexes_below (blocks_in image) (height_in x) (pointer_of x)) ≤ times b (node_metas image n x)
  indexes_meta b Unused = omega arith
  indexes_meta b (File size height ptr) = omega (arith, metas_file b size height ptr)
  indexes_meta b (Directory width height ptr) =
      omega (arith, ap (times b) (metas_directory width height ptr), times_append b (indexes_below (blocks_in image) height ptr) (map (λ (e : ℕ × ℕ). e.1) (pairs_below (blocks_in image) height ptr)))

-- what a removed number owes
pub removed_pointers : (old new : List Block) (n : ℕ) (was : Inode) (dropped : List ℕ) → dropped ≡ node_pointers old was → PointersArePlanned old new n was Unused [] dropped []
removed_pointers old new n was dropped is = record {
  balance = λ b. omega (arith, ap (times b) is);
  metas = λ b. omega arith;
}

-- an empty file's
pub empty_pointers : (old new : List Block) (n size : ℕ) (was : Inode) (dropped : List ℕ) → dropped ≡ node_pointers old was → PointersArePlanned old new n was (File size 0 0) [] dropped []
empty_pointers old new n size was dropped is = record {
  balance = λ b. omega (arith, ap (times b) is);
  metas = λ b. omega arith;
}

-- and a file's
pub file_pointers : (old new : List Block) (n size height ptr : ℕ) (was : Inode) (added dropped taken : List ℕ)
    → ((b : ℕ) → times b (node_pointers old was) + times b added ≡ times b (node_pointers new (File size height ptr)) + times b dropped)
    → ((b : ℕ) → times b (indexes_below (blocks_in new) height ptr) ≤ times b (indexes_below (blocks_in old) (height_in was) (pointer_of was)) + times b taken)
    → PointersArePlanned old new n was (File size height ptr) added dropped taken
file_pointers old new n size height ptr was added dropped taken balance indexes = record {
  balance = balance;
  metas = λ b. omega (arith, metas_file new n b size height ptr, indexes b, indexes_meta old n b was);
}
