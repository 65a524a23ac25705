-- A file without a tail stands in the blocks below its inode.
use Rattle.std.proofs.Common.{◌≡◌, ℕ, zero, suc, ◌+◌, ◌-◌, ◌*◌, ◌<◌, ◌≤◌, Bool, true, false, not, cond, List, [], ◌∷◌, ◌++◌, length, take, drop, replicate, Some, None, refl, sym, ap, subst, ◌∙◌, arith}
use Rattle.std.specs.Prelude.{◌==◌, ◌&&◌, nat_le, Contains}
use Rattle.std.specs.List.{list_all}
use Rattle.std.proofs.lemmas.Bool.{eqb-true}
use Rattle.std.proofs.lemmas.Bool.Decides.{nat_tests}
use Rattle.std.proofs.lemmas.List.{length-take, length-drop, length-replicate, take_at, take-take, take-append-le, take-append-drop, drop-take, take_all}
use Rattle.vol_numbers.specs.declared.block.Block.{Block}
use Rattle.block_format.specs.Inode.{blocks_of}
use Rattle.block_format.specs.declared.inode.Inode.{Inode}
use Rattle.block_format.specs.declared.inode.Inode.TheVariants.{Unused, File, Directory}
use Rattle.block_tree.specs.Tree.{block_below, blocks_in}
use Rattle.tree_model.specs.declared.node.Content.TheVariants as tree
use Rattle.image_model.specs.Met.{NoFaults}
use Rattle.image_model.specs.Nodes.{has_tail}
use Rattle.image_model.specs.Reading.{FilesStand}
use Rattle.image_model.specs.Seen.{Seen, SeenBlock, seen}
use Rattle.image_model.specs.Slots.{held_at, inode_of}
use Rattle.image_model.specs.Standing.{some_block, file_block, as_block, PlaceStands}
use Rattle.image_model.specs.Stands.{node_of, bytes_from, layout_in}
use Rattle.image_model.specs.Walk.{is_used}
use Rattle.image_model.proofs.Area.{no_faults}
use Rattle.image_model.proofs.FileLaws.{drop_twice, tail_filled}
use Rattle.image_model.proofs.HeldLaws.{tree_is_held}
use Rattle.image_model.proofs.NumberHeld.{bytes_held, held_from, held_here, file_found}
use Rattle.image_model.proofs.SpaceLaws.{held_length, file_length, node_there}
use Rattle.image_model.proofs.StandingTree.{content_is, file_same, apart}

-- the bytes of a place, with zeros up to the end of a block
abbrev piece : List SeenBlock → ℕ → ℕ → List ℕ
piece held n place = take 4096 (held_at held n place ++ replicate 4096 0)

zeros_are : (xs : List ℕ) → list_all (λ b. b == 0) xs ≡ true → xs ≡ replicate (length xs) 0
zeros_are [] all = refl
zeros_are (x ∷ xs) all = by (x == 0) refl all (zeros_are xs)
  where
    by : (t : Bool) → (x == 0) ≡ t → (t && list_all (λ b. b == 0) xs) ≡ true → (list_all (λ b. b == 0) xs ≡ true → xs ≡ replicate (length xs) 0) → x ∷ xs ≡ 0 ∷ replicate (length xs) 0
    by true is all more = let e : x ≡ 0 = eqb-true x 0 is in λ i. e i ∷ more all i
    by false is all more = cc

zeros_all : (m : ℕ) → list_all (λ b. b == 0) (replicate m 0) ≡ true
zeros_all zero = refl
zeros_all (suc m) = zeros_all m

zeros_behind : (k m : ℕ) → list_all (λ b. b == 0) (drop k (replicate m 0)) ≡ true
zeros_behind zero m = zeros_all m
zeros_behind (suc k) zero = refl
zeros_behind (suc k) (suc m) = zeros_behind k m

-- the first bytes, filled up with zeros where only zeros follow
filled_is : (k : ℕ) (xs : List ℕ) → length xs ≡ 4096 → list_all (λ b. b == 0) (drop k xs) ≡ true → take k xs ++ replicate (4096 - length (take k xs)) 0 ≡ xs
filled_is k xs long all =
    let rest : 4096 - length (take k xs) ≡ length (drop k xs) = omega (arith, long, length-take k xs, length-drop k xs) in
    ap (λ (m : ℕ). take k xs ++ replicate m 0) rest ∙ ap (λ (ys : List ℕ). take k xs ++ ys) (sym (zeros_are (drop k xs) all)) ∙ take-append-drop k xs

drop_here : (xs ys : List ℕ) (n : ℕ) → length xs ≡ n → drop n (xs ++ ys) ≡ ys
drop_here [] ys n long = ap (λ (k : ℕ). drop k ys) (sym long)
drop_here (x ∷ xs) ys n long =
    let e : n ≡ suc (n - 1) = omega (arith, long) in
    ap (λ (k : ℕ). drop k (x ∷ (xs ++ ys))) e ∙ drop_here xs ys (n - 1) (omega (arith, long))

-- the bytes of the places from a later one on
from_later : (held : List SeenBlock) (n place p k : ℕ) → drop (4096 * p) (bytes_from held n place (p + k)) ≡ bytes_from held n (place + p) k
from_later held n place zero k = let e : zero + k ≡ k = omega arith in let f : place + zero ≡ place = omega arith in λ i. bytes_from held n (sym f i) (e i)
from_later held n place (suc p) k =
    let e : suc p + k ≡ suc (p + k) = omega arith in
    let f : 4096 + 4096 * p ≡ 4096 * suc p = omega arith in
    let g : (place + 1) + p ≡ place + suc p = omega arith in
    (λ i. drop (sym f i) (bytes_from held n place (e i)))
    ∙ sym (drop_twice 4096 (4096 * p) (bytes_from held n place (suc (p + k))))
    ∙ ap (drop (4096 * p)) (drop_here (piece held n place) (bytes_from held n (place + 1) (p + k)) 4096 (held_length (held_at held n place)))
    ∙ from_later held n (place + 1) p k ∙ ap (λ (q : ℕ). bytes_from held n q k) g

module _ (held : List SeenBlock) (n size : ℕ) where
  abbrev bytes : List ℕ
  bytes = take size (bytes_from held n 0 (blocks_of size))

  -- what is left of the bytes from a place on
  left_is : (p : ℕ) → p < blocks_of size → drop (4096 * p) bytes ≡ take (size - 4096 * p) (piece held n p ++ bytes_from held n (p + 1) (blocks_of size - suc p))
  left_is p lt =
      let e : size ≡ 4096 * p + (size - 4096 * p) = omega (arith, lt) in
      let f : blocks_of size ≡ p + suc (blocks_of size - suc p) = omega (arith, lt) in
      let g : 0 + p ≡ p = omega arith in
      ap (λ (m : ℕ). drop (4096 * p) (take m (bytes_from held n 0 (blocks_of size)))) e ∙ drop-take (4096 * p) (size - 4096 * p) (bytes_from held n 0 (blocks_of size))
      ∙ ap (take (size - 4096 * p)) (ap (λ (b : ℕ). drop (4096 * p) (bytes_from held n 0 b)) f ∙ from_later held n 0 p (suc (blocks_of size - suc p)) ∙ ap (λ (q : ℕ). bytes_from held n q (suc (blocks_of size - suc p))) g)

  -- the part of a place that isn't the last one is all of it
  full_part : (p : ℕ) → p < blocks_of size → 4096 ≤ size - 4096 * p → take 4096 (drop (4096 * p) bytes) ≡ piece held n p
  full_part p lt le =
      ap (take 4096) (left_is p lt) ∙ take-take 4096 (size - 4096 * p) (piece held n p ++ bytes_from held n (p + 1) (blocks_of size - suc p)) le
      ∙ take_at (piece held n p) (bytes_from held n (p + 1) (blocks_of size - suc p)) 4096 (held_length (held_at held n p))

  -- the part of the last one is what the size says
  last_part : (p : ℕ) → p < blocks_of size → size - 4096 * p ≤ 4096 → take 4096 (drop (4096 * p) bytes) ≡ take (size - 4096 * p) (piece held n p)
  last_part p lt le =
      let long = held_length (held_at held n p) in
      ap (take 4096) (left_is p lt) ∙ take_all 4096 _ (omega (arith, le, length-take (size - 4096 * p) (piece held n p ++ bytes_from held n (p + 1) (blocks_of size - suc p))))
      ∙ take-append-le (size - 4096 * p) (piece held n p) (bytes_from held n (p + 1) (blocks_of size - suc p)) (omega (arith, le, long))

  -- the block of a place of the file is the piece of it, where the last one has zeros behind the end
  pub block_is : (p : ℕ) → p < blocks_of size → list_all (λ b. b == 0) (drop (size - 4096 * p) (piece held n p)) ≡ true → file_block bytes p ≡ piece held n p
  block_is p lt zeros = by (nat_le 4096 (size - 4096 * p)) refl
    where
      by : (t : Bool) → nat_le 4096 (size - 4096 * p) ≡ t → file_block bytes p ≡ piece held n p
      by true is =
          let le : 4096 ≤ size - 4096 * p = grind (arith, nat_tests) in
          let none : list_all (λ b. b == 0) (drop 4096 (piece held n p)) ≡ true = ap (list_all (λ b. b == 0)) (sym (ap (drop 4096) (append_none (piece held n p))) ∙ drop_here (piece held n p) [] 4096 (held_length (held_at held n p))) in
          let whole : take 4096 (piece held n p) ≡ piece held n p = take_all 4096 (piece held n p) (omega (arith, held_length (held_at held n p))) in
          ap (λ (part : List ℕ). part ++ replicate (4096 - length part) 0) (full_part p lt le ∙ sym whole) ∙ filled_is 4096 (piece held n p) (held_length (held_at held n p)) none
        where
          append_none : (xs : List ℕ) → xs ++ [] ≡ xs
          append_none [] = refl
          append_none (x ∷ xs) = ap (λ (ys : List ℕ). x ∷ ys) (append_none xs)
      by false is =
          let le : size - 4096 * p ≤ 4096 = grind (arith, nat_tests) in
          ap (λ (part : List ℕ). part ++ replicate (4096 - length part) 0) (last_part p lt le) ∙ filled_is (size - 4096 * p) (piece held n p) (held_length (held_at held n p)) zeros

module _ (image : List Block) (n size height ptr : ℕ) (none : NoFaults (seen image).met) (is : inode_of (seen image).nodes n ≡ File size height ptr)
    (clean : has_tail (seen image) (n, File size height ptr) ≡ false) where
  abbrev hs : List SeenBlock
  hs = (seen image).contents

  held_is : (p : ℕ) → held_at hs n p ≡ bytes_held (held_here (blocks_in image) n p (some_block (block_below (blocks_in image) height ptr p)))
  held_is p = held_from hs n p ∙ ap bytes_held (file_found image n size height ptr p none is)

  block_at : ℕ → ℕ
  block_at p = block_below (blocks_in image) height ptr p

  not_false : (t : Bool) → not t ≡ false → t ≡ true
  not_false true e = refl
  not_false false e = cc

  -- behind the end of a place that may be the last one there are zeros
  held_zeros : (p : ℕ) → p < blocks_of size → list_all (λ b. b == 0) (drop (size - 4096 * p) (piece hs n p)) ≡ true
  held_zeros p lt = by (nat_le 4096 (size - 4096 * p)) refl
    where
      none_left : (k : ℕ) (xs : List ℕ) → length xs ≤ k → list_all (λ b. b == 0) (drop k xs) ≡ true
      none_left zero [] le = refl
      none_left zero (x ∷ xs) le = absurd (omega (arith, le))
      none_left (suc k) [] le = refl
      none_left (suc k) (x ∷ xs) le = none_left k xs (omega (arith, le))

      by : (t : Bool) → nat_le 4096 (size - 4096 * p) ≡ t → list_all (λ b. b == 0) (drop (size - 4096 * p) (piece hs n p)) ≡ true
      by true e = let le : 4096 ≤ size - 4096 * p = grind (arith, nat_tests) in none_left (size - 4096 * p) (piece hs n p) (omega (arith, held_length (held_at hs n p), le))
      by false e =
          let lt_size : size - 4096 * p < 4096 = grind (arith, nat_tests) in
          let last : p ≡ blocks_of size - 1 = omega (arith, lt, lt_size) in
          tail_filled (size - 4096 * p) 4096 4096 (held_at hs n p)
          ∙ subst (λ (q : ℕ). list_all (λ b. b == 0) (drop (size - 4096 * q) (take 4096 (held_at hs n q))) ≡ true) (sym last) (not_false _ clean)

  pub place_stands : (p : ℕ) → p < blocks_of size → PlaceStands (blocks_in image) (block_below (blocks_in image) height ptr p) (file_block (take size (bytes_from hs n 0 (blocks_of size))) p)
  place_stands p lt = record { hole = λ e. hole e; spelled = λ e. spelled e }
    where
      held_or : (t : Bool) → (block_below (blocks_in image) height ptr p == 0) ≡ t
          → piece hs n p ≡ as_block (bytes_held (held_here (blocks_in image) n p (cond t None (Some (block_below (blocks_in image) height ptr p)))))
      held_or t e = ap as_block (held_is p ∙ ap (λ (t : Bool). bytes_held (held_here (blocks_in image) n p (cond t None (Some (block_below (blocks_in image) height ptr p))))) e)

      hole : (block_below (blocks_in image) height ptr p == 0) ≡ true → file_block (take size (bytes_from hs n 0 (blocks_of size))) p ≡ replicate 4096 0
      hole e = block_is hs n size p lt (held_zeros p lt) ∙ held_or true e ∙ take_all 4096 (replicate 4096 0) (omega (arith, length-replicate {A = ℕ} 4096 0))

      spelled : (block_below (blocks_in image) height ptr p == 0) ≡ false → as_block (blocks_in image (block_below (blocks_in image) height ptr p)) ≡ file_block (take size (bytes_from hs n 0 (blocks_of size))) p
      spelled e = sym (block_is hs n size p lt (held_zeros p lt) ∙ held_or false e)

-- the inode of a file's node, and its bytes
inode_by : (s : Seen) (n : ℕ) (bytes : List ℕ) (x : Inode) → node_of s n x ≡ Some (record { number = n; content = tree.File bytes })
    → (size : ℕ) × (height : ℕ) × (ptr : ℕ) × (x ≡ File size height ptr) × (take size (bytes_from s.contents n 0 (blocks_of size)) ≡ bytes)
inode_by s n bytes Unused e = cc
inode_by s n bytes (File size height ptr) e = (size, height, ptr, refl, file_same _ _ (content_is n _ _ e))
inode_by s n bytes (Directory w height ptr) e = absurd (apart bytes w (sym (content_is n _ _ e)))

pub files_stand : FilesStand
files_stand image s path n bytes standing found =
    let held = (tree_is_held image s standing).inodes path _ found in
    let x = inode_by (seen image) n bytes (inode_of (seen image).nodes n) held in
    let size = x.0 in
    let is : inode_of (seen image).nodes n ≡ File size x.1 x.2 = x.3 in
    let none = no_faults (layout_in image) (seen image).met (seen image).met standing.sound.pointers in
    let used : is_used (inode_of (seen image).nodes n) ≡ true = ap is_used is in
    let among : Contains (seen image).nodes (n, File size x.1 x.2) = subst (λ (i : Inode). Contains (seen image).nodes (n, i)) is (node_there (seen image).nodes n used) in
    let clean = standing.sound.tails (n, File size x.1 x.2) among in
    let long : length bytes ≡ size = ap (λ (xs : List ℕ). length xs) (sym x.4) ∙ file_length (seen image).contents n size in
    let each : (p : ℕ) → p < blocks_of (length bytes) → PlaceStands (blocks_in image) (block_below (blocks_in image) x.1 x.2 p) (file_block bytes p) =
    λ p lt. subst (λ (xs : List ℕ). PlaceStands (blocks_in image) (block_below (blocks_in image) x.1 x.2 p) (file_block xs p)) x.4 (place_stands image n size x.1 x.2 none is clean p (omega (arith, lt, long))) in
    record {
      height = x.1;
      ptr = x.2;
      is = is ∙ ap (λ (m : ℕ). File m x.1 x.2) (sym long);
      stands = each;
    }
