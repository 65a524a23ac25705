-- Of private functions: numbers of nodes and of their blocks, on whatever a disk reads.
use Rattle.std.specs.Prelude.{◌≡◌, ◌≤◌, ◌<◌, ℕ, ◌+◌, List, [], ◌∷◌, ◌++◌, map}
use Rattle.place_words.specs.Rising.{Rising}
use Rattle.block_format.specs.declared.inode.Inode.{Inode}
use Rattle.block_format.specs.declared.inode.Inode.TheVariants.{Unused, File, Directory}
use Rattle.image_walk.specs.declared.node_block.NodeBlock.{NodeBlock}
use Rattle.image_walk.specs.declared.reached.Reached.{Reached}

-- A node that is used: its number is no 0, and its size or its width is within the limit.
abbrev pub IsNode : ℕ × Inode → Type 0
IsNode (n, Unused) = ⊥
IsNode (n, File size height ptr) = (1 ≤ n) × (size ≤ 4294967296)
IsNode (n, Directory width height ptr) = (1 ≤ n) × (width ≤ 65534)

-- The numbers of nodes rise from one on and are below another, and each is used and within its limit.
abbrev pub NodesRise : ℕ → ℕ → List (ℕ × Inode) → Type 0
NodesRise low high [] = Unit {0}
NodesRise low high (node ∷ nodes) = (low ≤ node.0) × (node.0 < high) × IsNode node × NodesRise (node.0 + 1) high nodes

-- such nodes were put behind the others
pub record NodesGrow (low high : ℕ) (old new : List (ℕ × Inode)) : Type 0 where
  pub more : List (ℕ × Inode)
  pub is : new ≡ old ++ more
  pub rise : NodesRise low high more

-- each is a block of one node, on a disk of this size
abbrev pub AllOwn : ℕ → ℕ → List NodeBlock → Type 0
AllOwn size n [] = Unit {0}
AllOwn size n (b ∷ bs) = (b.number ≡ n) × (b.block < size) × AllOwn size n bs

-- such blocks were put behind the others
pub record BlocksGrow (size n : ℕ) (old new : List NodeBlock) : Type 0 where
  pub more : List NodeBlock
  pub is : new ≡ old ++ more
  pub own : AllOwn size n more

-- of a node alone pages and last blocks were kept
pub record KeepsOf (size n : ℕ) (old new : Reached) : Type 0 where
  pub pages : BlocksGrow size n old.pages.items new.pages.items
  pub lasts : BlocksGrow size n old.lasts.items new.lasts.items

-- The numbers never fall, are from one on and below another, and each block is on a disk of this size.
abbrev pub Ordered : ℕ → ℕ → ℕ → List NodeBlock → Type 0
Ordered size low high [] = Unit {0}
Ordered size low high (b ∷ bs) = (low ≤ b.number) × (b.number < high) × (b.block < size) × Ordered size b.number high bs

-- what was kept comes before all nodes that are left
pub record InOrder (size : ℕ) (left : List (ℕ × Inode)) (reached : Reached) : Type 0 where
  pub next : ℕ
  pub rise : Rising next (map (λ node. node.0) left)
  pub pages : Ordered size 0 next reached.pages.items
  pub lasts : Ordered size 0 next reached.lasts.items
