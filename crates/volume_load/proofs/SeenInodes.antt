-- The blocks behind an inode index spell the inodes that are seen, where no fault is met in them.
use Rattle.std.proofs.Common.{◌≡◌, ℕ, zero, suc, ◌+◌, ◌-◌, ◌*◌, ◌≤◌, ◌<◌, Bool, true, false, cond, List, [], ◌∷◌, ◌++◌, length, take, drop, Some, None, refl, sym, ap, subst, ◌∙◌, arith}
use Rattle.std.specs.Prelude.{◌==◌, ◌&&◌, slice_index}
use Rattle.std.specs.List.{flat_map}
use Rattle.std.proofs.lemmas.Bool.Decides.{nat_tests}
use Rattle.std.proofs.lemmas.List.{get_or-take, get_or-drop}
use Rattle.vol_numbers.specs.declared.block.Block.{Block}
use Rattle.block_format.specs.Inode.{inode_at, inode_in, inode_part, is_inode}
use Rattle.block_format.specs.declared.inode.Inode.{Inode}
use Rattle.block_format.specs.declared.inode.Inode.TheVariants.{Unused}
use Rattle.block_tree.specs.Tree.{Blocks, blocks_in, index_at}
use Rattle.image_model.specs.Met.{NoFaults}
use Rattle.image_model.specs.Seen.{seen}
use Rattle.image_model.specs.Slots.{inode_of as inode_among}
use Rattle.image_model.specs.Stands.{Stands, layout_in}
use Rattle.image_model.specs.Walk.{is_used, is_good, inodes_from, blocks_inodes, nodes_of, nodes_at, walk, entries_met, blocks_met, root_met, node_met}
use Rattle.image_model.proofs.Area.{no_faults}
use Rattle.image_model.proofs.FileLaws.{drop_twice}
use Rattle.image_model.proofs.InodesRead.{AllFine, blocks_fine}
use Rattle.image_model.proofs.InodesSeen.{unused_is}
use Rattle.image_model.proofs.InodeWalk.{used_split}
use Rattle.image_model.proofs.NodePlaces.{numbers, blocks_rise}
use Rattle.image_model.proofs.PlanLaws.{unused_below}
use Rattle.image_model.proofs.TreeLaws.{first_faults, other_faults}
use Rattle.inode_file.specs.Inodes.{inode_of, block_of, SpellsInodeAt, SpellsInodes}
use Rattle.place_words.specs.Rising.{Rising, AllUnder}
use Rattle.place_words.proofs.Rising.{rising_less}
use Rattle.root_switch.specs.Current.{root_of_image}
use Rattle.volume_model.specs.Machine.{Stored}
use Rattle.volume_load.specs.Known.{HasInodes}

-- ---- the inodes of one block

-- those behind the first
abbrev behind_first : ℕ → ℕ → List ℕ → List (ℕ × Inode)
behind_first m n bytes = nodes_of (inodes_from m (n + 1) (drop 64 bytes))

rise : (m n : ℕ) (bytes : List ℕ) → Rising n (numbers (nodes_of (inodes_from m n bytes)))
unfolding inodes_from
rise zero n bytes = tt
rise (suc m) n bytes = by (is_used (inode_in (take 64 bytes))) (rise m (n + 1) (drop 64 bytes))
  where
    by : (t : Bool) → Rising (n + 1) (numbers (behind_first m n bytes)) → Rising n (numbers (cond t ((n, inode_in (take 64 bytes)) ∷ behind_first m n bytes) (behind_first m n bytes)))
    by true all = (omega arith, all)
    by false all = rising_less n (n + 1) (omega arith) _ all

under : (m n : ℕ) (bytes : List ℕ) → AllUnder (n + m) (numbers (nodes_of (inodes_from m n bytes)))
unfolding inodes_from
under zero n bytes = tt
under (suc m) n bytes = by (is_used (inode_in (take 64 bytes))) (subst (λ (k : ℕ). AllUnder k (numbers (behind_first m n bytes))) (omega arith) (under m (n + 1) (drop 64 bytes)))
  where
    by : (t : Bool) → AllUnder (n + suc m) (numbers (behind_first m n bytes)) → AllUnder (n + suc m) (numbers (cond t ((n, inode_in (take 64 bytes)) ∷ behind_first m n bytes) (behind_first m n bytes)))
    by true all = (omega arith, all)
    by false all = all

and_first : (a b : Bool) → (a && b) ≡ true → a ≡ true
and_first true b e = refl
and_first false b e = e

-- good bytes are an inode's
spelled_good : (n : ℕ) (bytes : List ℕ) → is_good (n, bytes) ≡ true → inode_at bytes ≡ Some (inode_in bytes)
spelled_good n bytes good = ap (λ (t : Bool). cond t (Some (inode_in bytes)) None) (and_first (is_inode bytes) _ good)

-- the first inode of a block
first_is : (m n : ℕ) (bytes : List ℕ) → inode_among (nodes_of (inodes_from (suc m) n bytes)) n ≡ inode_in (take 64 bytes)
unfolding inodes_from
first_is m n bytes = by (is_used (inode_in (take 64 bytes))) refl
  where
    by : (t : Bool) → is_used (inode_in (take 64 bytes)) ≡ t → inode_among (cond t ((n, inode_in (take 64 bytes)) ∷ behind_first m n bytes) (behind_first m n bytes)) n ≡ inode_in (take 64 bytes)
    by true used = let same : (n == n) ≡ true = grind (arith, nat_tests) in ap (λ (t : Bool). cond t (inode_in (take 64 bytes)) (inode_among (behind_first m n bytes) n)) same
    by false used = unused_below (behind_first m n bytes) n (rise m (n + 1) (drop 64 bytes)) ∙ unused_is (inode_in (take 64 bytes)) used

-- any other is among those behind it
later_is : (m n q : ℕ) (bytes : List ℕ) → n < q → inode_among (nodes_of (inodes_from (suc m) n bytes)) q ≡ inode_among (behind_first m n bytes) q
unfolding inodes_from
later_is m n q bytes lt = by (is_used (inode_in (take 64 bytes)))
  where
    by : (t : Bool) → inode_among (cond t ((n, inode_in (take 64 bytes)) ∷ behind_first m n bytes) (behind_first m n bytes)) q ≡ inode_among (behind_first m n bytes) q
    by true = let apart : (n == q) ≡ false = grind (arith, nat_tests) in ap (λ (t : Bool). cond t (inode_in (take 64 bytes)) (inode_among (behind_first m n bytes) q)) apart
    by false = refl

-- each spells that of its number
piece_spells : (m n : ℕ) (bytes : List ℕ) → AllFine (inodes_from m n bytes) → (j : ℕ) → j < m → inode_at (take 64 (drop (64 * j) bytes)) ≡ Some (inode_among (nodes_of (inodes_from m n bytes)) (n + j))
unfolding inodes_from
piece_spells zero n bytes fine j lt = absurd (omega (arith, lt))
piece_spells (suc m) n bytes fine zero lt =
    let e : n + 0 ≡ n = omega arith in
    spelled_good n (take 64 bytes) fine.0 ∙ ap (λ (x : Inode). Some x) (sym (first_is m n bytes) ∙ ap (λ (q : ℕ). inode_among (nodes_of (inodes_from (suc m) n bytes)) q) (sym e))
piece_spells (suc m) n bytes fine (suc j) lt =
    let more = piece_spells m (n + 1) (drop 64 bytes) fine.1 j (omega (arith, lt)) in
    let far : 64 + 64 * j ≡ 64 * suc j = omega arith in
    let next : n + 1 + j ≡ n + suc j = omega arith in
    ap (λ (xs : List ℕ). inode_at (take 64 xs)) (sym (drop_twice 64 (64 * j) bytes ∙ ap (λ (k : ℕ). drop k bytes) far))
    ∙ more ∙ ap (λ (q : ℕ). Some (inode_among (behind_first m n bytes) q)) next ∙ ap (λ (x : Inode). Some x) (sym (later_is m n (n + suc j) bytes (omega arith)))

-- ---- one block behind the other

in_front : (bound n : ℕ) (xs ys : List (ℕ × Inode)) → n < bound → Rising bound (numbers ys) → inode_among (xs ++ ys) n ≡ inode_among xs n
in_front bound n [] ys lt rising = unused_below ys n (rising_less (n + 1) bound (omega (arith, lt)) (numbers ys) rising)
in_front bound n (x ∷ xs) ys lt rising = ap (λ (i : Inode). cond (x.0 == n) x.1 i) (in_front bound n xs ys lt rising)

behind : (bound n : ℕ) (xs ys : List (ℕ × Inode)) → bound ≤ n → AllUnder bound (numbers xs) → inode_among (xs ++ ys) n ≡ inode_among ys n
behind bound n [] ys le below = refl
behind bound n (x ∷ xs) ys le below =
    let lt = below.0 in
    let apart : (x.0 == n) ≡ false = grind (arith, nat_tests) in
    ap (λ (t : Bool). cond t x.1 (inode_among (xs ++ ys) n)) apart ∙ behind bound n xs ys le below.1

fine_front : (xs ys : List (ℕ × List ℕ)) → AllFine (xs ++ ys) → AllFine xs
fine_front [] ys fine = tt
fine_front (x ∷ xs) ys fine = (fine.0, fine_front xs ys fine.1)

fine_behind : (xs ys : List (ℕ × List ℕ)) → AllFine (xs ++ ys) → AllFine ys
fine_behind [] ys fine = fine
fine_behind (x ∷ xs) ys fine = fine_behind xs ys fine.1

part_is : (j : ℕ) (bytes : List ℕ) → inode_part j bytes ≡ take 64 (drop (64 * j) bytes)
part_is j bytes = let e : (64 * j + 64) - 64 * j ≡ 64 = omega arith in ap (λ (n : ℕ). take n (drop (64 * j) bytes)) e

-- the inodes of the first block, if there is one
abbrev own : Blocks → ℕ → ℕ → List (ℕ × List ℕ)
own read n e = cond (e == 0) [] (inodes_from 64 n (read e))

own_under : (read : Blocks) (n e : ℕ) → AllUnder (n + 64) (numbers (nodes_of (own read n e)))
own_under read n e = by (e == 0)
  where
    by : (t : Bool) → AllUnder (n + 64) (numbers (nodes_of (cond t [] (inodes_from 64 n (read e)))))
    by true = tt
    by false = under 64 n (read e)

module _ (read : Blocks) where
  first_spells : (n e : ℕ) (es : List ℕ) → AllFine (own read n e ++ blocks_inodes read (n + 64) es) → (j : ℕ) → j < 64
      → SpellsInodeAt read e j (inode_among (nodes_of (own read n e ++ blocks_inodes read (n + 64) es)) (n + j))
  first_spells n zero es fine j lt =
      let none : (zero == 0) ≡ true = grind (arith, nat_tests) in
      ap (λ (t : Bool). inode_among (nodes_of (cond t [] (inodes_from 64 n (read zero)) ++ blocks_inodes read (n + 64) es)) (n + j)) none
      ∙ unused_below (nodes_of (blocks_inodes read (n + 64) es)) (n + j) (rising_less (n + j + 1) (n + 64) (omega (arith, lt)) _ (blocks_rise read (n + 64) es))
  first_spells n (suc b) es fine j lt =
      let some : (suc b == 0) ≡ false = grind (arith, nat_tests) in
      let mine = inodes_from 64 n (read (suc b)) in
      let rest = blocks_inodes read (n + 64) es in
      let all : AllFine mine = fine_front mine rest (subst (λ (t : Bool). AllFine (cond t [] mine ++ rest)) some fine) in
      ap inode_at (part_is j (read (suc b))) ∙ piece_spells 64 n (read (suc b)) all j lt
      ∙ ap (λ (x : Inode). Some x) (sym (
      ap (λ (t : Bool). inode_among (nodes_of (cond t [] mine ++ rest)) (n + j)) some
      ∙ ap (λ (ns : List (ℕ × Inode)). inode_among ns (n + j)) (used_split mine rest)
      ∙ in_front (n + 64) (n + j) (nodes_of mine) (nodes_of rest) (omega (arith, lt)) (blocks_rise read (n + 64) es)))

  -- the block at each position
  blocks_spell : (n : ℕ) (es : List ℕ) → AllFine (blocks_inodes read n es) → (k j : ℕ) → j < 64
      → SpellsInodeAt read (slice_index es k) j (inode_among (nodes_of (blocks_inodes read n es)) (n + 64 * k + j))
  blocks_spell n [] fine k j lt = refl
  blocks_spell n (e ∷ es) fine zero j lt =
      let at : n + j ≡ n + 64 * 0 + j = omega arith in
      subst (λ (q : ℕ). SpellsInodeAt read e j (inode_among (nodes_of (blocks_inodes read n (e ∷ es))) q)) at (first_spells n e es fine j lt)
  blocks_spell n (e ∷ es) fine (suc k) j lt =
      let at : n + 64 + 64 * k + j ≡ n + 64 * suc k + j = omega arith in
      let rest = blocks_inodes read (n + 64) es in
      subst (λ (x : Inode). SpellsInodeAt read (slice_index es k) j x)
      (sym (ap (λ (ns : List (ℕ × Inode)). inode_among ns (n + 64 * suc k + j)) (used_split (own read n e) rest)
      ∙ behind (n + 64) (n + 64 * suc k + j) (nodes_of (own read n e)) (nodes_of rest) (omega arith) (own_under read n e)
      ∙ ap (λ (q : ℕ). inode_among (nodes_of rest) q) (sym at)))
      (blocks_spell (n + 64) es (fine_behind (own read n e) rest fine) k j lt)

-- ---- an image that stands

entry_is : (inodes : List Inode) (k j : ℕ) → j < 64 → inode_of (block_of inodes k) j ≡ inode_of inodes (64 * k + j)
entry_is inodes k j lt = get_or-take 64 (drop (64 * k) inodes) j Unused lt ∙ get_or-drop (64 * k) inodes j Unused

-- no fault is met in the inode blocks
none_there : (read : Blocks) (at : ℕ) → NoFaults (walk read at) → NoFaults (blocks_met read 0 (index_at read at))
unfolding walk
none_there read at none =
    let es = index_at read at in
    let nodes = nodes_of (blocks_inodes read 0 es) in
    first_faults (blocks_met read 0 es) (root_met nodes ++ flat_map (node_met read) nodes) (other_faults (entries_met es) (blocks_met read 0 es ++ (root_met nodes ++ flat_map (node_met read) nodes)) none.1)

-- The inodes that are seen stand in the blocks.
pub seen_spelled : (image : List Block) (s : Stored) → Stands image s → (inodes : List Inode) → length inodes ≡ 65536 → HasInodes (seen image).nodes inodes → SpellsInodes (blocks_in image) (root_of_image image).inode_index inodes
unfolding seen
seen_spelled image s stands inodes many has =
    let read : Blocks = blocks_in image in
    let at : ℕ = (root_of_image image).inode_index in
    let fine = blocks_fine read 0 (index_at read at) (none_there read at (no_faults (layout_in image) (walk read at) (walk read at) stands.sound.pointers)) in
    record {
      many = many;
      each = λ k below j lt.
          let number : 0 + 64 * k + j ≡ 64 * k + j = omega arith in
          subst (λ (x : Inode). SpellsInodeAt read (slice_index (index_at read at) k) j x)
          (ap (inode_among (nodes_at read at)) number ∙ sym (entry_is inodes k j lt ∙ has (64 * k + j)))
          (blocks_spell read 0 (index_at read at) fine k j lt);
    }
