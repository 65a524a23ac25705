-- A file that stands in its blocks is what is seen of it.
use Rattle.std.proofs.Common.{◌≡◌, ℕ, zero, suc, ◌+◌, ◌-◌, ◌*◌, ◌<◌, ◌≤◌, Bool, true, false, not, cond, List, [], ◌∷◌, ◌++◌, length, take, drop, replicate, Some, None, refl, sym, ap, subst, ◌∙◌, arith, length-append, length-drop, append_assoc}
use Rattle.std.specs.Prelude.{◌==◌, ◌&&◌, nat_le, nat_lt, option_map}
use Rattle.std.specs.List.{list_all}
use Rattle.std.proofs.lemmas.Bool.Decides.{nat_tests}
use Rattle.std.proofs.lemmas.List.{append-nil, length-take, length-replicate, take_at, drop_at, take-append-drop, replicate-append-replicate}
use Rattle.vol_numbers.specs.declared.block.Block.{Block}
use Rattle.root_switch.specs.Current.{root_of_image}
use Rattle.block_format.specs.Inode.{blocks_of}
use Rattle.block_format.specs.declared.inode.Inode.{Inode}
use Rattle.block_format.specs.declared.inode.Inode.TheVariants.{File}
use Rattle.block_tree.specs.Tree.{block_in, block_below, pairs_below, blocks_in}
use Rattle.block_tree.proofs.Pairs.{pairs_are}
use Rattle.tree_model.specs.declared.node.Content.TheVariants as tree
use Rattle.image_model.specs.Spelling.{FileIsSeen, PlacesAreSeen}
use Rattle.image_model.specs.Met.{NoFaults}
use Rattle.image_model.specs.Nodes.{has_tail, AllBelow, blocks_in_node}
use Rattle.image_model.specs.Seen.{SeenBlock, seen}
use Rattle.image_model.specs.Slots.{held_at, inode_of}
use Rattle.image_model.specs.Standing.{some_block, file_block, FileStands}
use Rattle.image_model.specs.Stands.{bytes_from}
use Rattle.image_model.specs.Walk.{nodes_at}
use Rattle.image_model.proofs.NodeWalk.{pairs_of_node, walk_good}
use Rattle.image_model.proofs.NumberHeld.{bytes_held, held_from, held_here, file_found, find_from}
use Rattle.image_model.proofs.SpaceLaws.{below_at}

take_whole : (xs : List ℕ) (n : ℕ) → length xs ≡ n → take n xs ≡ xs
take_whole xs n is = ap (take n) (sym (append-nil xs)) ∙ take_at xs [] n is

pub drop_twice : (n m : ℕ) (xs : List ℕ) → drop m (drop n xs) ≡ drop (n + m) xs
drop_twice zero m xs = let e : zero + m ≡ m = omega arith in ap (λ (k : ℕ). drop k xs) (sym e)
drop_twice (suc n) m [] = drop_none m ∙ sym (drop_none (suc n + m))
  where
    drop_none : (k : ℕ) → drop {A = ℕ} k [] ≡ []
    drop_none zero = refl
    drop_none (suc k) = refl
drop_twice (suc n) m (x ∷ xs) = let e : suc n + m ≡ suc (n + m) = omega arith in drop_twice n m xs ∙ ap (λ (k : ℕ). drop k (x ∷ xs)) (sym e)

none_left : (xs : List ℕ) → length xs ≤ 0 → xs ≡ []
none_left [] le = refl
none_left (x ∷ xs) le = absurd (omega (arith, le))

block_length : (bytes : List ℕ) (place : ℕ) → length (file_block bytes place) ≡ 4096
block_length bytes place =
    let part = take 4096 (drop (4096 * place) bytes) in
    omega (arith, length-append part (replicate (4096 - length part) 0), length-take 4096 (drop (4096 * place) bytes), length-replicate {A = ℕ} (4096 - length part) 0)

-- the blocks of these places, one behind the other
joined : List ℕ → ℕ → ℕ → List ℕ
joined bytes place zero = []
joined bytes place (suc k) = file_block bytes place ++ joined bytes (place + 1) k

take_short : (n : ℕ) (xs : List ℕ) → length xs ≤ n → take n xs ≡ xs
take_short zero xs le = sym (none_left xs le)
take_short (suc n) [] le = refl
take_short (suc n) (x ∷ xs) le = ap (λ (ys : List ℕ). x ∷ ys) (take_short n xs (omega (arith, le)))

-- so many bytes from the front, filled up with zeros
abbrev front : List ℕ → List ℕ
front rest = take 4096 rest ++ replicate (4096 - length (take 4096 rest)) 0

-- in front of zeros, bytes that fit a block have zeros behind them
short_front : (rest more : List ℕ) (n left : ℕ) → length rest ≤ 4096 → more ≡ replicate n 0 → (4096 - length rest) + n ≡ left → front rest ++ more ≡ rest ++ replicate left 0
short_front rest more n left le zeros all =
    (λ i. (take_short 4096 rest le i ++ replicate (4096 - length (take_short 4096 rest le i)) 0) ++ zeros i)
    ∙ append_assoc rest (replicate (4096 - length rest) 0) (replicate n 0)
    ∙ ap (λ (xs : List ℕ). rest ++ xs) (replicate-append-replicate (4096 - length rest) n 0 ∙ ap (λ (m : ℕ). replicate m 0) all)

-- in front of the others, the first bytes of more than fit a block are the first bytes
long_front : (rest more : List ℕ) (left : ℕ) → 4096 < length rest → more ≡ drop 4096 rest ++ replicate left 0 → front rest ++ more ≡ rest ++ replicate left 0
long_front rest more left lt is =
    let full : 4096 - length (take 4096 rest) ≡ 0 = omega (arith, lt, length-take 4096 rest) in
    (λ i. (take 4096 rest ++ replicate (full i) 0) ++ is i)
    ∙ ap (λ (xs : List ℕ). xs ++ (drop 4096 rest ++ replicate left 0)) (append-nil (take 4096 rest))
    ∙ sym (append_assoc (take 4096 rest) (drop 4096 rest) (replicate left 0))
    ∙ ap (λ (xs : List ℕ). xs ++ replicate left 0) (take-append-drop 4096 rest)

-- are the bytes from there on, and zeros
joined_is : (bytes : List ℕ) (place k : ℕ) → length (drop (4096 * place) bytes) ≤ 4096 * k
    → joined bytes place k ≡ drop (4096 * place) bytes ++ replicate (4096 * k - length (drop (4096 * place) bytes)) 0
unfolding joined
joined_is bytes place zero le =
    let none = none_left (drop (4096 * place) bytes) (omega (arith, le)) in
    let left : 4096 * zero - length (drop (4096 * place) bytes) ≡ 0 = omega arith in
    sym ((λ i. none i ++ replicate (left i) 0))
joined_is bytes place (suc k) le = by (nat_le (length (drop (4096 * place) bytes)) 4096) refl (joined_is bytes (place + 1) k (omega (arith, le, shorter)))
  where
    next : drop (4096 * (place + 1)) bytes ≡ drop 4096 (drop (4096 * place) bytes)
    next = let e : 4096 * (place + 1) ≡ 4096 * place + 4096 = omega arith in ap (λ (n : ℕ). drop n bytes) e ∙ sym (drop_twice (4096 * place) 4096 bytes)

    shorter : length (drop (4096 * (place + 1)) bytes) ≡ length (drop (4096 * place) bytes) - 4096
    shorter = omega (arith, length-drop (4096 * (place + 1)) bytes, length-drop (4096 * place) bytes)

    by : (t : Bool) → nat_le (length (drop (4096 * place) bytes)) 4096 ≡ t
        → joined bytes (place + 1) k ≡ drop (4096 * (place + 1)) bytes ++ replicate (4096 * k - length (drop (4096 * (place + 1)) bytes)) 0
        → file_block bytes place ++ joined bytes (place + 1) k ≡ drop (4096 * place) bytes ++ replicate (4096 * suc k - length (drop (4096 * place) bytes)) 0
    by true is more =
        let short : length (drop (4096 * place) bytes) ≤ 4096 = grind (arith, nat_tests) in
        let none : drop (4096 * (place + 1)) bytes ≡ [] = none_left _ (omega (arith, shorter, short)) in
        let left : 4096 * k - length (drop (4096 * (place + 1)) bytes) ≡ 4096 * k = omega (arith, shorter, short) in
        let zeros : joined bytes (place + 1) k ≡ replicate (4096 * k) 0 = more ∙ (λ i. none i ++ replicate (left i) 0) in
        short_front (drop (4096 * place) bytes) (joined bytes (place + 1) k) (4096 * k) _ short zeros (omega (arith, short))
    by false is more =
        let long : 4096 < length (drop (4096 * place) bytes) = grind (arith, nat_tests) in
        let left : 4096 * k - length (drop (4096 * (place + 1)) bytes) ≡ 4096 * suc k - length (drop (4096 * place) bytes) = omega (arith, shorter, long) in
        let rest : joined bytes (place + 1) k ≡ drop 4096 (drop (4096 * place) bytes) ++ replicate (4096 * suc k - length (drop (4096 * place) bytes)) 0 = more ∙ (λ i. next i ++ replicate (left i) 0) in
        long_front (drop (4096 * place) bytes) (joined bytes (place + 1) k) _ long rest

all_zeros : (m : ℕ) → list_all (λ b. b == 0) (replicate m 0) ≡ true
all_zeros zero = refl
all_zeros (suc m) = all_zeros m

-- behind the end there are zeros
tail_zeros : (bytes : List ℕ) (last : ℕ) → length bytes - 4096 * last ≤ 4096 → list_all (λ b. b == 0) (drop (length bytes - 4096 * last) (file_block bytes last)) ≡ true
tail_zeros bytes last le =
    let part = take 4096 (drop (4096 * last) bytes) in
    let long : length part ≡ length bytes - 4096 * last = omega (arith, le, length-take 4096 (drop (4096 * last) bytes), length-drop (4096 * last) bytes) in
    ap (list_all (λ b. b == 0)) (drop_at part (replicate (4096 - length part) 0) (length bytes - 4096 * last) long) ∙ all_zeros (4096 - length part)

tail_hole : (k : ℕ) → list_all (λ b. b == 0) (drop k []) ≡ true
tail_hole zero = refl
tail_hole (suc k) = refl

zeros_front : (k n m : ℕ) → list_all (λ b. b == 0) (drop k (take n (replicate m 0))) ≡ true
zeros_front k zero m = tail_hole k
zeros_front k (suc n) zero = tail_hole k
zeros_front zero (suc n) (suc m) = zeros_front zero n m
zeros_front (suc k) (suc n) (suc m) = zeros_front k n m

-- zeros behind bytes don't change whether all from one on are zeros
pub tail_filled : (k n m : ℕ) (xs : List ℕ) → list_all (λ b. b == 0) (drop k (take n (xs ++ replicate m 0))) ≡ list_all (λ b. b == 0) (drop k (take n xs))
tail_filled k zero m xs = refl
tail_filled k (suc n) m [] = zeros_front k (suc n) m ∙ sym (tail_hole k)
tail_filled zero (suc n) m (x ∷ xs) = ap (λ (t : Bool). (x == 0) && t) (tail_filled zero n m xs)
tail_filled (suc k) (suc n) m (x ∷ xs) = tail_filled k n m xs

module _ (image : List Block) (n : ℕ) (bytes : List ℕ) (height ptr : ℕ) (none : NoFaults (seen image).met) (is : inode_of (seen image).nodes n ≡ File (length bytes) height ptr)
    (stands : FileStands (blocks_in image) bytes height ptr) where
  abbrev hs : List SeenBlock
  hs = (seen image).contents

  held_is : (p : ℕ) → held_at hs n p ≡ bytes_held (held_here (blocks_in image) n p (some_block (block_below (blocks_in image) height ptr p)))
  held_is p = held_from hs n p ∙ ap bytes_held (file_found image n (length bytes) height ptr p none is)

  -- at a place there is its block, or none where it is all zeros
  piece : (p : ℕ) → p < blocks_of (length bytes) → take 4096 (held_at hs n p ++ replicate 4096 0) ≡ file_block bytes p
  piece p lt = ap (λ (xs : List ℕ). take 4096 (xs ++ replicate 4096 0)) (held_is p) ∙ by (block_below (blocks_in image) height ptr p == 0) refl
    where
      by : (t : Bool) → (block_below (blocks_in image) height ptr p == 0) ≡ t
          → take 4096 (bytes_held (held_here (blocks_in image) n p (cond t None (Some (block_below (blocks_in image) height ptr p)))) ++ replicate 4096 0) ≡ file_block bytes p
      by true e = take_whole (replicate 4096 0) 4096 (length-replicate {A = ℕ} 4096 0) ∙ sym ((stands p lt).hole e)
      by false e = (stands p lt).spelled e

  pieces : (place k : ℕ) → place + k ≤ blocks_of (length bytes) → bytes_from hs n place k ≡ joined bytes place k
  unfolding joined
  pieces place zero le = refl
  pieces place (suc k) le = λ i. piece place (omega (arith, le)) i ++ pieces (place + 1) k (omega (arith, le)) i

  whole : take (length bytes) (bytes_from hs n 0 (blocks_of (length bytes))) ≡ bytes
  whole =
      ap (take (length bytes)) (pieces 0 (blocks_of (length bytes)) (omega arith) ∙ joined_is bytes 0 (blocks_of (length bytes)) (omega arith))
      ∙ take_at bytes (replicate (4096 * blocks_of (length bytes) - length bytes) 0) (length bytes) refl

  -- a file of no bytes has no block
  no_block : length bytes ≡ 0 → block_below (blocks_in image) height ptr 0 ≡ 0
  unfolding seen
  no_block zero_long =
      let read = blocks_in image in
      let met = walk_good read (root_of_image image).inode_index none in
      let below : AllBelow (blocks_of (length bytes)) (pairs_below read height ptr) = subst (λ (x : Inode). AllBelow (blocks_in_node x) (pairs_of_node read x)) is (below_at read (nodes_at read (root_of_image image).inode_index) met.nodes n) in
      let blocks : blocks_of (length bytes) ≡ 0 = omega (arith, zero_long) in
      sym (pairs_are read height ptr 0) ∙ empty_pairs (pairs_below read height ptr) (subst (λ (b : ℕ). AllBelow b (pairs_below read height ptr)) blocks below)
    where
      empty_pairs : (es : List (ℕ × ℕ)) → AllBelow 0 es → block_in es 0 ≡ 0
      empty_pairs [] all = refl
      empty_pairs (e ∷ es) all = let lt = all.0 in absurd (grind (arith, nat_tests))

  -- the last place
  abbrev last : ℕ
  last = blocks_of (length bytes) - 1

  no_tail : has_tail (seen image) (n, File (length bytes) height ptr) ≡ false
  no_tail = ap not (ap (λ (xs : List ℕ). list_all (λ b. b == 0) (drop (length bytes - 4096 * last) (take 4096 xs))) (held_is last) ∙ by (block_below (blocks_in image) height ptr last == 0) refl)
    where
      by : (t : Bool) → (block_below (blocks_in image) height ptr last == 0) ≡ t
          → list_all (λ b. b == 0) (drop (length bytes - 4096 * last) (take 4096 (bytes_held (held_here (blocks_in image) n last (cond t None (Some (block_below (blocks_in image) height ptr last))))))) ≡ true
      by true e = tail_hole (length bytes - 4096 * last)
      by false e = some_bytes (nat_lt 0 (length bytes)) refl
        where
          some_bytes : (u : Bool) → nat_lt 0 (length bytes) ≡ u → list_all (λ b. b == 0) (drop (length bytes - 4096 * last) (take 4096 (blocks_in image (block_below (blocks_in image) height ptr last)))) ≡ true
          some_bytes true u_is =
              let long : 0 < length bytes = grind (arith, nat_tests) in
              sym (tail_filled (length bytes - 4096 * last) 4096 4096 (blocks_in image (block_below (blocks_in image) height ptr last)))
              ∙ ap (λ (xs : List ℕ). list_all (λ b. b == 0) (drop (length bytes - 4096 * last) xs)) ((stands last (omega (arith, long))).spelled e) ∙ tail_zeros bytes last (omega arith)
          some_bytes false u_is =
              let short : length bytes ≡ 0 = grind (arith, nat_tests) in
              let at_zero : last ≡ 0 = omega (arith, short) in
              let none_there : (block_below (blocks_in image) height ptr last == 0) ≡ true = (λ i. block_below (blocks_in image) height ptr (at_zero i) == 0) ∙ ap (λ (b : ℕ). b == 0) (no_block short) in
              cc

pub file_is_seen : FileIsSeen
file_is_seen image n bytes height ptr none is stands =
    (ap (λ (xs : List ℕ). Some (record { number = n; content = tree.File xs })) (whole image n bytes height ptr none is stands), no_tail image n bytes height ptr none is stands)

pub places_are_seen : PlacesAreSeen
places_are_seen image n size height ptr place none is =
    find_from (seen image).contents n place ∙ ap (λ o. option_map (λ (h : SeenBlock). h.block) o) (file_found image n size height ptr place none is) ∙ by (block_below (blocks_in image) height ptr place == 0)
  where
    by : (t : Bool) → option_map (λ (h : SeenBlock). h.block) (held_here (blocks_in image) n place (cond t None (Some (block_below (blocks_in image) height ptr place)))) ≡ cond t None (Some (block_below (blocks_in image) height ptr place))
    by true = refl
    by false = refl
