-- Inode blocks in which no fault is met have the inodes that are seen.
use Rattle.std.proofs.Common.{◌≡◌, ℕ, zero, suc, ◌+◌, ◌*◌, ◌^◌, ◌<◌, ◌≤◌, Bool, true, false, cond, List, [], ◌∷◌, ◌++◌, length, take, drop, replicate, refl, sym, ap, subst, ◌∙◌, arith}
use Rattle.std.specs.Prelude.{◌==◌, ◌&&◌, bytes_eq}
use Rattle.std.specs.List.{list_any, AllByRecursion, flat_map}
use Rattle.std.proofs.lemmas.Bool.Decides.{nat_tests}
use Rattle.std.proofs.lemmas.List.{take-append-drop, length-drop, take_all}
use Rattle.std.proofs.lemmas.List.Concat.{flat_map-cons}
use Rattle.std.proofs.lemmas.Slice.Eq.{bytes_eq-Decides}
use Rattle.byteorder.specs.Endian.{little_bytes, little_number}
use Rattle.byteorder.specs.Numbers.{little_from-bytes}
use Rattle.block_format.specs.Inode.{inode_bytes, inode_in, inode_shape, pointer_of}
use Rattle.block_format.specs.declared.inode.Inode.{Inode}
use Rattle.block_format.specs.declared.inode.Inode.TheVariants.{Unused, File, Directory}
use Rattle.block_tree.specs.Tree.{Blocks}
use Rattle.place_words.specs.Rising.{Rising, AllUnder}
use Rattle.place_words.proofs.Rising.{rising_less}
use Rattle.image_model.specs.Met.{Met, not_inode, NoFaults}
use Rattle.image_model.specs.Walk.{is_used, is_good, is_pointer_wrong, bad_met, block_met, blocks_met, inodes_from, blocks_inodes, nodes_of}
use Rattle.image_model.specs.Planned.{inodes_bytes, used_from, GroupStands, InodesStand}
use Rattle.image_model.specs.Slots.{inode_of}
use Rattle.image_model.proofs.InodesSeen.{unused_is}
use Rattle.image_model.proofs.InodeWalk.{used_split, fault_none, good_none, some_used}
use Rattle.image_model.proofs.NodePlaces.{numbers, blocks_rise}
use Rattle.image_model.proofs.PlanLaws.{unused_below}
use Rattle.image_model.proofs.TreeLaws.{first_faults, other_faults}

-- ---- each inode is within the rules

abbrev pub AllFine : List (ℕ × List ℕ) → Type 0
AllFine xs = AllByRecursion (λ (x : ℕ × List ℕ). is_good x ≡ true) xs

all_fine : (xs : List (ℕ × List ℕ)) → NoFaults (flat_map bad_met xs) → AllFine xs
all_fine [] none = tt
all_fine ((n, bytes) ∷ xs) none =
    let parts : NoFaults (bad_met (n, bytes) ++ flat_map bad_met xs) = subst NoFaults (flat_map-cons bad_met (n, bytes) xs) none in
    let here = fault_none (is_good (n, bytes)) (is_pointer_wrong (n, bytes)) n (pointer_of (inode_in bytes)) (first_faults (bad_met (n, bytes)) (flat_map bad_met xs) parts) in
    (here.0, all_fine xs (other_faults (bad_met (n, bytes)) (flat_map bad_met xs) parts))

fine_append : (xs ys : List (ℕ × List ℕ)) → AllFine xs → AllFine ys → AllFine (xs ++ ys)
fine_append [] ys a b = b
fine_append (x ∷ xs) ys a b = (a.0, fine_append xs ys a.1 b)

abbrev blank : ℕ → List (ℕ × List ℕ) → List Met
blank n xs = cond (list_any (λ (x : ℕ × List ℕ). is_used (inode_in x.1)) xs) [] (not_inode n ∷ [])

-- in the blocks one behind the other
pub blocks_fine : (read : Blocks) (n : ℕ) (es : List ℕ) → NoFaults (blocks_met read n es) → AllFine (blocks_inodes read n es)
blocks_fine read n [] none = tt
blocks_fine read n (e ∷ es) none = by (e == 0) none (blocks_fine read (n + 64) es)
  where
    by : (t : Bool) → NoFaults (cond t [] (block_met n (inodes_from 64 n (read e))) ++ blocks_met read (n + 64) es) → (NoFaults (blocks_met read (n + 64) es) → AllFine (blocks_inodes read (n + 64) es))
        → AllFine (cond t [] (inodes_from 64 n (read e)) ++ blocks_inodes read (n + 64) es)
    by true none more = more none
    by false none more =
        let inodes = inodes_from 64 n (read e) in
        let here = first_faults (block_met n inodes) (blocks_met read (n + 64) es) none in
        fine_append inodes (blocks_inodes read (n + 64) es) (all_fine inodes (first_faults (flat_map bad_met inodes) (blank n inodes) here)) (more (other_faults (block_met n inodes) (blocks_met read (n + 64) es) none))

and_parts : (a b : Bool) → (a && b) ≡ true → (a ≡ true) × (b ≡ true)
and_parts true b e = (refl, e)
and_parts false b e = cc

-- it is spelled
fine_spelled : (n : ℕ) (bytes : List ℕ) → is_good (n, bytes) ≡ true → inode_bytes (inode_in bytes) ≡ bytes
fine_spelled n bytes good = (bytes_eq-Decides (inode_bytes (inode_in bytes)) bytes).0 (and_parts (inode_shape (inode_in bytes)) _ (and_parts (inode_shape (inode_in bytes) && bytes_eq (inode_bytes (inode_in bytes)) bytes) _ good).0).1

-- ---- pointers are small

four_small : (x : ℕ) (rest : List ℕ) → little_number 4 (little_bytes 4 x ++ rest) < 2 ^ 32
four_small x rest = omega (arith, little_from-bytes 4 0 x rest)

file_ptr : (a b p c d q : ℕ) → File a b p ≡ File c d q → p ≡ q
file_ptr a b p c d q e = cc

directory_ptr : (a b p c d q : ℕ) → Directory a b p ≡ Directory c d q → p ≡ q
directory_ptr a b p c d q e = cc

ptr_small : (x : Inode) → inode_in (inode_bytes x) ≡ x → pointer_of x < 2 ^ 32
unfolding inode_in
ptr_small Unused is = omega arith
ptr_small (File size height ptr) is = omega (arith, file_ptr _ _ _ size height ptr is, four_small ptr (little_bytes 8 size ++ replicate 48 0))
ptr_small (Directory width height ptr) is = omega (arith, directory_ptr _ _ _ width height ptr is, four_small ptr (little_bytes 8 (256 * width) ++ replicate 48 0))

abbrev AllSmall : List (ℕ × Inode) → Type 0
AllSmall nodes = AllByRecursion (λ (node : ℕ × Inode). pointer_of node.1 < 2 ^ 32) nodes

pub nodes_small : (xs : List (ℕ × List ℕ)) → AllFine xs → AllSmall (nodes_of xs)
nodes_small [] fine = tt
nodes_small ((n, bytes) ∷ xs) fine = by (is_used (inode_in bytes)) (nodes_small xs fine.1)
  where
    by : (t : Bool) → AllSmall (nodes_of xs) → AllSmall (cond t ((n, inode_in bytes) ∷ nodes_of xs) (nodes_of xs))
    by true more = (ptr_small (inode_in bytes) (ap inode_in (fine_spelled n bytes fine.0)), more)
    by false more = more

pub small_at : (nodes : List (ℕ × Inode)) → AllSmall nodes → (n : ℕ) → pointer_of (inode_of nodes n) < 2 ^ 32
small_at [] small n = omega arith
small_at (node ∷ nodes) small n = by (node.0 == n) (small_at nodes small.1 n)
  where
    by : (t : Bool) → pointer_of (inode_of nodes n) < 2 ^ 32 → pointer_of (cond t node.1 (inode_of nodes n)) < 2 ^ 32
    by true more = small.0
    by false more = more

-- ---- inodes by number are those of the blocks

abbrev Agree : (ℕ → Inode) → List (ℕ × List ℕ) → Type 0
Agree inode xs = AllByRecursion (λ (x : ℕ × List ℕ). inode x.0 ≡ inode_in x.1) xs

agree_within : (f g : ℕ → Inode) (m k : ℕ) (bytes : List ℕ) → ((j : ℕ) → k ≤ j → j < k + m → f j ≡ g j) → Agree g (inodes_from m k bytes) → Agree f (inodes_from m k bytes)
unfolding inodes_from
agree_within f g zero k bytes same agree = tt
agree_within f g (suc m) k bytes same agree = (same k (omega arith) (omega arith) ∙ agree.0, agree_within f g m (k + 1) (drop 64 bytes) (λ j le lt. same j (omega (arith, le)) (omega (arith, lt))) agree.1)

inodes_rise : (m n : ℕ) (bytes : List ℕ) → Rising n (numbers (nodes_of (inodes_from m n bytes)))
unfolding inodes_from
inodes_rise zero n bytes = tt
inodes_rise (suc m) n bytes = by (is_used (inode_in (take 64 bytes))) (inodes_rise m (n + 1) (drop 64 bytes))
  where
    by : (t : Bool) → Rising (n + 1) (numbers (nodes_of (inodes_from m (n + 1) (drop 64 bytes)))) → Rising n (numbers (cond t ((n, inode_in (take 64 bytes)) ∷ nodes_of (inodes_from m (n + 1) (drop 64 bytes))) (nodes_of (inodes_from m (n + 1) (drop 64 bytes)))))
    by true all = (omega arith, all)
    by false all = rising_less n (n + 1) (omega arith) _ all

inodes_under : (m n : ℕ) (bytes : List ℕ) → AllUnder (n + m) (numbers (nodes_of (inodes_from m n bytes)))
unfolding inodes_from
inodes_under zero n bytes = tt
inodes_under (suc m) n bytes = by (is_used (inode_in (take 64 bytes))) (subst (λ (k : ℕ). AllUnder k (numbers (nodes_of (inodes_from m (n + 1) (drop 64 bytes))))) (omega arith) (inodes_under m (n + 1) (drop 64 bytes)))
  where
    by : (t : Bool) → AllUnder (n + suc m) (numbers (nodes_of (inodes_from m (n + 1) (drop 64 bytes)))) → AllUnder (n + suc m) (numbers (cond t ((n, inode_in (take 64 bytes)) ∷ nodes_of (inodes_from m (n + 1) (drop 64 bytes))) (nodes_of (inodes_from m (n + 1) (drop 64 bytes)))))
    by true all = (omega arith, all)
    by false all = all

-- the nodes behind the first inode of a block
abbrev behind_first : ℕ → ℕ → List ℕ → List (ℕ × Inode)
behind_first m n bytes = nodes_of (inodes_from m (n + 1) (drop 64 bytes))

-- those of a block by number
agree_own : (m n : ℕ) (bytes : List ℕ) → Agree (inode_of (nodes_of (inodes_from m n bytes))) (inodes_from m n bytes)
unfolding inodes_from
agree_own zero n bytes = tt
agree_own (suc m) n bytes = by (is_used (inode_in (take 64 bytes))) refl (agree_own m (n + 1) (drop 64 bytes))
  where
    by : (t : Bool) → is_used (inode_in (take 64 bytes)) ≡ t → Agree (inode_of (behind_first m n bytes)) (inodes_from m (n + 1) (drop 64 bytes))
        → (inode_of (cond t ((n, inode_in (take 64 bytes)) ∷ (behind_first m n bytes)) (behind_first m n bytes)) n ≡ inode_in (take 64 bytes)) × Agree (inode_of (cond t ((n, inode_in (take 64 bytes)) ∷ (behind_first m n bytes)) (behind_first m n bytes))) (inodes_from m (n + 1) (drop 64 bytes))
    by true used more = (
      let same : (n == n) ≡ true = grind (arith, nat_tests) in ap (λ (t : Bool). cond t (inode_in (take 64 bytes)) (inode_of (behind_first m n bytes) n)) same,
      agree_within (inode_of ((n, inode_in (take 64 bytes)) ∷ (behind_first m n bytes))) (inode_of (behind_first m n bytes)) m (n + 1) (drop 64 bytes) (λ j le lt. let apart : (n == j) ≡ false = grind (arith, nat_tests) in ap (λ (t : Bool). cond t (inode_in (take 64 bytes)) (inode_of (behind_first m n bytes) j)) apart) more,
    )
    by false used more = (unused_below (behind_first m n bytes) n (inodes_rise m (n + 1) (drop 64 bytes)) ∙ unused_is (inode_in (take 64 bytes)) used, more)

-- the bytes are the spelling of these inodes
bytes_are : (inode : ℕ → Inode) (m n : ℕ) (bytes : List ℕ) → length bytes ≡ 64 * m → AllFine (inodes_from m n bytes) → Agree inode (inodes_from m n bytes) → bytes ≡ inodes_bytes inode n m
unfolding inodes_from inodes_bytes
bytes_are inode zero n [] long fine agree = refl
bytes_are inode zero n (b ∷ bytes) long fine agree = absurd (omega (arith, long))
bytes_are inode (suc m) n bytes long fine agree =
    let here : take 64 bytes ≡ inode_bytes (inode n) = sym (fine_spelled n (take 64 bytes) fine.0) ∙ ap inode_bytes (sym agree.0) in
    let more = bytes_are inode m (n + 1) (drop 64 bytes) (omega (arith, long, length-drop 64 bytes)) fine.1 agree.1 in
    sym (take-append-drop 64 bytes) ∙ (λ i. here i ++ more i)

nodes_are : (inode : ℕ → Inode) (m n : ℕ) (bytes : List ℕ) → Agree inode (inodes_from m n bytes) → used_from inode n m ≡ nodes_of (inodes_from m n bytes)
unfolding inodes_from used_from
nodes_are inode zero n bytes agree = refl
nodes_are inode (suc m) n bytes agree =
    (λ i. cond (is_used (agree.0 i)) ((n, agree.0 i) ∷ []) [] ++ nodes_are inode m (n + 1) (drop 64 bytes) agree.1 i) ∙ by (is_used (inode_in (take 64 bytes)))
  where
    by : (t : Bool) → cond t ((n, inode_in (take 64 bytes)) ∷ []) [] ++ nodes_of (inodes_from m (n + 1) (drop 64 bytes)) ≡ cond t ((n, inode_in (take 64 bytes)) ∷ nodes_of (inodes_from m (n + 1) (drop 64 bytes))) (nodes_of (inodes_from m (n + 1) (drop 64 bytes)))
    by true = refl
    by false = refl

none_used : (inode : ℕ → Inode) (n m : ℕ) → ((j : ℕ) → n ≤ j → j < n + m → inode j ≡ Unused) → used_from inode n m ≡ []
unfolding used_from
none_used inode n zero none = refl
none_used inode n (suc m) none = λ i. cond (is_used (none n (omega arith) (omega arith) i)) ((n, none n (omega arith) (omega arith) i) ∷ []) [] ++ none_used inode (n + 1) m (λ j le lt. none j (omega (arith, le)) (omega (arith, lt))) i

take_whole : (bytes : List ℕ) → length bytes ≡ 4096 → take 4096 bytes ≡ bytes
take_whole bytes long = take_all 4096 bytes (omega (arith, long))

-- ---- one block behind the other

in_front : (bound n : ℕ) (xs ys : List (ℕ × Inode)) → n < bound → Rising bound (numbers ys) → inode_of (xs ++ ys) n ≡ inode_of xs n
in_front bound n [] ys lt rising = unused_below ys n (rising_less (n + 1) bound (omega (arith, lt)) (numbers ys) rising)
in_front bound n (x ∷ xs) ys lt rising = ap (λ (i : Inode). cond (x.0 == n) x.1 i) (in_front bound n xs ys lt rising)

behind : (bound n : ℕ) (xs ys : List (ℕ × Inode)) → bound ≤ n → AllUnder bound (numbers xs) → inode_of (xs ++ ys) n ≡ inode_of ys n
behind bound n [] ys le under = refl
behind bound n (x ∷ xs) ys le under =
    let lt = under.0 in
    let apart : (x.0 == n) ≡ false = grind (arith, nat_tests) in
    ap (λ (t : Bool). cond t x.1 (inode_of (xs ++ ys) n)) apart ∙ behind bound n xs ys le under.1

module _ (read : Blocks) (whole : (b : ℕ) → length (read b) ≡ 4096) (inode : ℕ → Inode) where
  abbrev Same : ℕ → List (ℕ × Inode) → Type 0
  Same k nodes = (n : ℕ) → 64 * k ≤ n → inode n ≡ inode_of nodes n

  -- what the first block says, and those behind it
  group : (t : Bool) (k e : ℕ) (es : List ℕ) → (e == 0) ≡ t → NoFaults (cond t [] (block_met (64 * k) (inodes_from 64 (64 * k) (read e))))
      → Same k (nodes_of (cond t [] (inodes_from 64 (64 * k) (read e))) ++ nodes_of (blocks_inodes read (64 * k + 64) es)) → GroupStands read inode k e × Same (k + 1) (nodes_of (blocks_inodes read (64 * k + 64) es))
  group true k e es is none same = (
    record {
      absent = λ a. none_used inode (64 * k) 64 (λ j le lt. same j le ∙ unused_below (nodes_of (blocks_inodes read (64 * k + 64) es)) j (rising_less (j + 1) (64 * k + 64) (omega (arith, lt)) _ (blocks_rise read (64 * k + 64) es)));
      spelled = λ a. absurd (never a);
      some = λ a. absurd (never a);
    },
    λ n le. same n (omega (arith, le)),
  )
    where
      never : (e == 0) ≡ false → ⊥
      never a = cc
  group false k e es is none same = (
    record {
      absent = λ a. absurd (never a);
      spelled = λ a. take_whole (read e) (whole e) ∙ bytes_are inode 64 (64 * k) (read e) (omega (arith, whole e)) (all_fine (inodes_from 64 (64 * k) (read e)) (first_faults (flat_map bad_met (inodes_from 64 (64 * k) (read e))) (blank (64 * k) (inodes_from 64 (64 * k) (read e))) none)) agree;
      some = λ a. subst (λ (nodes : List (ℕ × Inode)). 1 ≤ length nodes) (sym (nodes_are inode 64 (64 * k) (read e) agree)) (some_used (inodes_from 64 (64 * k) (read e)) used);
    },
    λ n le. same n (omega (arith, le)) ∙ behind (64 * k + 64) n (nodes_of (inodes_from 64 (64 * k) (read e))) (nodes_of (blocks_inodes read (64 * k + 64) es)) (omega (arith, le)) (inodes_under 64 (64 * k) (read e)),
  )
    where
      never : (e == 0) ≡ true → ⊥
      never a = cc

      used : list_any (λ (x : ℕ × List ℕ). is_used (inode_in x.1)) (inodes_from 64 (64 * k) (read e)) ≡ true
      used = (good_none (list_any (λ (x : ℕ × List ℕ). is_used (inode_in x.1)) (inodes_from 64 (64 * k) (read e))) (64 * k) (other_faults (flat_map bad_met (inodes_from 64 (64 * k) (read e))) (blank (64 * k) (inodes_from 64 (64 * k) (read e))) none)).0

      agree : Agree inode (inodes_from 64 (64 * k) (read e))
      agree = agree_within inode (inode_of (nodes_of (inodes_from 64 (64 * k) (read e)))) 64 (64 * k) (read e)
          (λ j le lt. same j le ∙ in_front (64 * k + 64) j (nodes_of (inodes_from 64 (64 * k) (read e))) (nodes_of (blocks_inodes read (64 * k + 64) es)) lt (blocks_rise read (64 * k + 64) es)) (agree_own 64 (64 * k) (read e))

  pub inodes_stand : (k : ℕ) (es : List ℕ) → NoFaults (blocks_met read (64 * k) es) → Same k (nodes_of (blocks_inodes read (64 * k) es)) → InodesStand read inode k es
  inodes_stand k [] none same = tt
  inodes_stand k (e ∷ es) none same =
      let next : 64 * k + 64 ≡ 64 * (k + 1) = omega arith in
      let here = cond (e == 0) [] (inodes_from 64 (64 * k) (read e)) in
      let first = cond (e == 0) [] (block_met (64 * k) (inodes_from 64 (64 * k) (read e))) in
      let both = group (e == 0) k e es refl (first_faults first (blocks_met read (64 * k + 64) es) none) (λ n le. same n le ∙ ap (λ (nodes : List (ℕ × Inode)). inode_of nodes n) (used_split here (blocks_inodes read (64 * k + 64) es))) in (
        both.0,
        inodes_stand (k + 1) es (subst (λ (n : ℕ). NoFaults (blocks_met read n es)) next (other_faults first (blocks_met read (64 * k + 64) es) none))
            (subst (λ (m : ℕ). Same (k + 1) (nodes_of (blocks_inodes read m es))) next both.1),
      )
