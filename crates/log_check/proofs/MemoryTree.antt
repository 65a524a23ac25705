-- Nodes and directories of which none is lost make a tree, whatever image they were read from.
use Rattle.std.proofs.Common.{◌≡◌, ℕ, suc, ◌+◌, ◌≤◌, Bool, true, false, List, [], ◌∷◌, drop, replicate, map, Some, None, refl, sym, ap, subst, ◌∙◌, arith}
use Rattle.std.specs.Prelude.{◌||◌, nat_eq, Option, Contains}
use Rattle.std.specs.List.{list_all}
use Rattle.std.proofs.lemmas.Bool.Decides.{nat_tests}
use Rattle.std.proofs.lemmas.List.{drop_at}
use Rattle.block_format.specs.declared.inode.Inode.{Inode}
use Rattle.block_format.specs.declared.inode.Inode.TheVariants as inodes
use Rattle.block_format.specs.declared.slot.Slot.{Slot}
use Rattle.block_format.specs.declared.slot.Slot.TheVariants.{Unused, Entry}
use Rattle.dir_slots.specs.Slots.{IsDirectory}
use Rattle.held_list.specs.Held.{slots_at}
use Rattle.held_list.specs.declared.held.Held.{Held as Directories}
use Rattle.place_words.specs.Different.{is_among}
use Rattle.place_words.specs.Rising.{Rising}
use Rattle.place_words.proofs.Rising.{rising_less}
use Rattle.image_model.specs.Nodes.{is_empty, has_twin}
use Rattle.image_model.specs.Seen.{Seen}
use Rattle.image_model.specs.Slots.{slots_of, inode_of}
use Rattle.image_model.specs.Sound.{IsNamed}
use Rattle.image_model.specs.Walk.{is_used, is_directory}
use Rattle.image_model.proofs.DirectoryLaws.{no_twin, all_empty}
use Rattle.image_model.proofs.Entries.{entries_in}
use Rattle.image_model.proofs.HeldLaws.{held as held_by_nodes}
use Rattle.image_model.proofs.NamedLaws.{NodesKnown, named_where_none}
use Rattle.image_model.proofs.Naming.{AllIn}
use Rattle.image_model.proofs.NodePlaces.{numbers, AllUsed, used_among}
use Rattle.image_model.proofs.SpaceLaws.{node_there}
use Rattle.image_model.proofs.StandingTree.{HasLimit, HasNoneBehind, known_tree}
use Rattle.image_model.proofs.TreeBuilt.{tree_exists}
use Rattle.name_check.specs.Seeing.{HoldsDirectories, directory_numbers}
use Rattle.node_table.specs.Held.{Nodes}
use Rattle.log_check.specs.Accepting.{HoldsATree}
use Rattle.image_walk.specs.Left.{IsWithin}
use Rattle.log_check.specs.Holding.{AreNodes, IsTableOf, FindsNoneLost}
use Rattle.log_check.proofs.MemorySeen.{AllFit, filled, fits_append, memory_seen, memory_slots, seen_slots}
use Rattle.log_check.proofs.TableLaws.{distinct, no_directory, some_directory, as_wide, holds_each}

-- the directories' numbers rise with the nodes'
rising_directories : (n : ℕ) (nodes : List (ℕ × Inode)) → Rising n (numbers nodes) → Rising n (directory_numbers nodes)
rising_directories n [] rising = tt
rising_directories n ((m, inodes.Unused) ∷ nodes) rising = rising_less n (m + 1) (let le = rising.0 in omega (arith, le)) (directory_numbers nodes) (rising_directories (m + 1) nodes rising.1)
rising_directories n ((m, inodes.File size height ptr) ∷ nodes) rising = rising_less n (m + 1) (let le = rising.0 in omega (arith, le)) (directory_numbers nodes) (rising_directories (m + 1) nodes rising.1)
rising_directories n ((m, inodes.Directory width height ptr) ∷ nodes) rising = (rising.0, rising_directories (m + 1) nodes rising.1)

-- numbers that rise from one on are not below it
rising_above : (n : ℕ) (xs : List ℕ) → Rising n xs → (k : ℕ) → is_among xs k ≡ true → n ≤ k
rising_above n [] rising k among = cc
rising_above n (x ∷ xs) rising k among = by (nat_eq x k) refl among (rising_above (x + 1) xs rising.1 k)
  where
    by : (t : Bool) → nat_eq x k ≡ t → (t || is_among xs k) ≡ true → (is_among xs k ≡ true → x + 1 ≤ k) → n ≤ k
    by true same among more = let e : x ≡ k = grind (arith, nat_tests) in let le = rising.0 in omega (arith, e, le)
    by false apart among more = let le = rising.0 in omega (arith, le, more among)

-- the entries of slots that fit are within the limits
fit_in : (d : ℕ) (ss : List Slot) → AllFit ss → AllIn (entries_in d ss)
fit_in d [] fits = tt
fit_in d (Unused ∷ ss) fits = fit_in d ss (λ i. fits (suc i))
fit_in d (Entry number name ∷ ss) fits = (((fits 0).0, (fits 0).1), fit_in d ss (λ i. fits (suc i)))

used_within : (x : Inode) → IsWithin x → is_used x ≡ true
used_within inodes.Unused is = absurd is
used_within (inodes.File size height ptr) is = refl
used_within (inodes.Directory width height ptr) is = refl

limit_within : (x : Inode) → IsWithin x → HasLimit x
limit_within inodes.Unused is = absurd is
limit_within (inodes.File size height ptr) is = is
limit_within (inodes.Directory width height ptr) is = is

all_used : (nodes : List (ℕ × Inode)) → ((n : ℕ) (x : Inode) → Contains nodes (n, x) → IsWithin x) → AllUsed nodes
all_used [] all = tt
all_used (node ∷ nodes) all = (used_within node.1 (all node.0 node.1 (0, omega arith, refl)), all_used nodes (λ n x there. all n x (suc there.0, omega (arith, there.1), there.2)))

module _ (nodes : List (ℕ × Inode)) (directories : List Directories) (are : AreNodes nodes directories) (valid : (n : ℕ) (ss : List Slot) → slots_at directories n ≡ Some ss → IsDirectory ss) where
  abbrev s : Seen
  s = memory_seen nodes directories

  rising : Rising 1 (map (λ h. h.number) directories)
  rising = subst (Rising 1) (sym are.numbers) (rising_directories 1 nodes are.rising)

  slots_are : (n : ℕ) → slots_of s n ≡ seen_slots n (slots_at directories n)
  slots_are n = memory_slots n 1 directories rising (λ k ss at. (valid k ss at).fits)

  holds : HoldsDirectories s directories
  holds = record {
    numbers = are.numbers;
    slots = λ n ss at. (filled ss, slots_are n ∙ ap (seen_slots n) at);
    widths = are.widths;
    others = λ n none. slots_are n ∙ ap (seen_slots n) none;
  }

  within : (n : ℕ) → is_used (inode_of nodes n) ≡ true → (n ≤ 65535) × IsWithin (inode_of nodes n)
  within n used = are.each n (inode_of nodes n) (node_there nodes n used)

  entries : (d : ℕ) (o : Option (List Slot)) → slots_at directories d ≡ o → AllIn (entries_in d (seen_slots d o)) × (has_twin (seen_slots d o) ≡ false)
  entries d None at = (tt, refl)
  entries d (Some ss) at = (fit_in d _ (fits_append ss (filled ss) (valid d ss at).fits), no_twin ss (filled ss) (valid d ss at).names)

  known : NodesKnown s
  known = record {
    distinct = distinct nodes directories are;
    used = all_used nodes (λ n x there. (are.each n x there).1);
    limits = λ n used. (rising_above 1 (numbers nodes) are.rising n (sym (used_among nodes (all_used nodes (λ m x there. (are.each m x there).1)) n) ∙ used), (within n used).0);
    root = are.root;
    others = λ n no. slots_are n ∙ ap (seen_slots n) (no_directory nodes directories are n no);
    entries = λ d. subst (λ (ss : List Slot). AllIn (entries_in d ss)) (sym (slots_are d)) (entries d (slots_at directories d) refl).0;
    no_twins = λ d. ap has_twin (slots_are d) ∙ (entries d (slots_at directories d) refl).1;
  }

  limited : (n : ℕ) → HasLimit (inode_of nodes n)
  limited n = by (inode_of nodes n) refl
    where
      by : (x : Inode) → inode_of nodes n ≡ x → HasLimit x
      by inodes.Unused is = tt
      by (inodes.File size height ptr) is = subst HasLimit is (limit_within (inode_of nodes n) (within n (ap is_used is)).1)
      by (inodes.Directory width height ptr) is = subst HasLimit is (limit_within (inode_of nodes n) (within n (ap is_used is)).1)

  behind : (n : ℕ) → HasNoneBehind s n (inode_of nodes n)
  behind n = by (inode_of nodes n) refl
    where
      by : (x : Inode) → inode_of nodes n ≡ x → HasNoneBehind s n x
      by inodes.Unused is = tt
      by (inodes.File size height ptr) is = tt
      by (inodes.Directory width height ptr) is =
          let own = some_directory nodes directories are n (ap is_directory is) in
          let wide = as_wide nodes directories are n width height ptr own.0 is own.1 in
          ap (λ (ss : List Slot). list_all is_empty (drop width ss)) (slots_are n ∙ ap (seen_slots n) own.1)
          ∙ ap (list_all is_empty) (drop_at own.0 (replicate (filled own.0) Unused) width wide) ∙ all_empty (filled own.0)

  pub a_tree : (table : Nodes) → IsTableOf nodes directories table → FindsNoneLost nodes directories → HoldsATree table
  a_tree table is none =
      let named : IsNamed s = named_where_none s known (none s refl holds) in
      let tree = tree_exists s named in
      record {
        tree = tree.0;
        is_tree = known_tree s known limited behind named tree.0 tree.1 tree.2;
        holds = holds_each nodes directories are table is s tree.0 refl holds (held_by_nodes s tree.0 tree.2 named);
      }
