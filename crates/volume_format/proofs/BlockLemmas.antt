-- The numbers of a block, one by one, and the bytes of an inode block.
use Rattle.std.proofs.Common.{◌≡◌, ◌∙◌, ◌+◌, ◌<◌, ℕ, suc, List, [], ◌∷◌, length, get_or, refl, ap, arith}
use Rattle.block_tree.specs.Planned.{pointers_of}
use Rattle.image_model.specs.Fresh.{fresh_inode}
use Rattle.image_model.specs.Planned.{inodes_bytes}
use Rattle.volume_format.specs.Blocks.{inode_block}

-- numbers each of which is the count of its block are the counts
pub counts-each : (counts : ℕ → ℕ) (b : ℕ) (xs : List ℕ) → ((k : ℕ) → k < length xs → get_or xs k 0 ≡ counts (b + k)) → xs ≡ pointers_of counts b (length xs)
unfolding pointers_of
counts-each counts b [] each = refl
counts-each counts b (x ∷ xs) each =
    let here : b + 0 ≡ b = omega arith in
    let head : x ≡ counts b = each 0 (omega arith) ∙ ap counts here in
    let tail : xs ≡ pointers_of counts (b + 1) (length xs) = counts-each counts (b + 1) xs (λ k lt.
    let there : b + suc k ≡ b + 1 + k = omega arith in
    each (suc k) (omega arith) ∙ ap counts there) in
    λ i. head i ∷ tail i

-- a directory's kind, and zeros else
pub inodes_spelled : inode_block.bytes ≡ inodes_bytes fresh_inode 0 64
unfolding inodes_bytes
inodes_spelled = refl
