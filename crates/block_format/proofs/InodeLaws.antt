-- An inode is read as it was spelled.
use Rattle.std.proofs.Common.{◌≡◌, ◌<◌, ℕ, ◌*◌, ◌/◌, ◌^◌, IsTrue, List, ◌++◌, length, drop, refl, ap, ◌∙◌, arith, replicate}
use Rattle.byteorder.specs.Endian.{little_bytes, little_number}
use Rattle.byteorder.specs.Numbers.{little_number-reads_back}
use Rattle.block_format.specs.declared.inode.Inode.{Inode}
use Rattle.block_format.specs.declared.inode.Inode.TheVariants.{Unused, File, Directory}
use Rattle.block_format.specs.Inode.{inode_in, inode_bytes, inode_shape, pointer_of, node_bytes, IsInode}
use Rattle.std.proofs.lemmas.Bool.Decides.{nat_tests}

-- the pointer and the size in the bytes of a node
node_ptr : (kind height ptr size : ℕ) → ptr < 2 ^ 32 → little_number 4 (drop 4 (node_bytes kind height ptr size)) ≡ ptr
node_ptr kind height ptr size lt = little_number-reads_back 4 ptr (little_bytes 8 size ++ replicate 48 0) lt

node_size : (kind height ptr size : ℕ) → size < 2 ^ 64 → little_number 8 (drop 8 (node_bytes kind height ptr size)) ≡ size
node_size kind height ptr size lt = little_number-reads_back 8 size (replicate 48 0) lt

file_size : (size height ptr : ℕ) → IsTrue (inode_shape (File size height ptr)) → size < 2 ^ 64
file_size size height ptr shape = grind (arith, nat_tests)

directory_width : (width height ptr : ℕ) → IsTrue (inode_shape (Directory width height ptr)) → width < 2 ^ 16
directory_width width height ptr shape = grind (arith, nat_tests)

pub inode_in-bytes : (inode : Inode) → IsTrue (inode_shape inode) → pointer_of inode < 2 ^ 32 → inode_in (inode_bytes inode) ≡ inode
unfolding inode_in
inode_in-bytes Unused shape lt = refl
inode_in-bytes (File size height ptr) shape lt =
    let bound = file_size size height ptr shape in
    λ i. File (node_size 1 height ptr size (omega arith) i) height (node_ptr 1 height ptr size lt i)
inode_in-bytes (Directory width height ptr) shape lt =
    let bound = directory_width width height ptr shape in
    let width_is : little_number 8 (drop 8 (node_bytes 2 height ptr (256 * width))) / 256 ≡ width = omega (arith, node_size 2 height ptr (256 * width) (omega arith)) in
    λ i. Directory (width_is i) height (node_ptr 2 height ptr (256 * width) lt i)

-- each inode has one spelling, and each spelling one inode
pub inode_in-spelled : (inode : Inode) (bytes : List ℕ) → IsInode inode bytes → inode_in bytes ≡ inode
inode_in-spelled inode bytes is = ap inode_in is.spelled ∙ inode_in-bytes inode is.shape is.number

-- an inode has 64 bytes
pub length-inode_bytes : (inode : Inode) → length (inode_bytes inode) ≡ 64
length-inode_bytes Unused = refl
length-inode_bytes (File size height ptr) = refl
length-inode_bytes (Directory width height ptr) = refl
