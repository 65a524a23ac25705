-- The table that is made of nodes and directories, and the trees that it holds.
use Rattle.std.proofs.Common.{◌≡◌, ℕ, Bool, true, false, cond, List, [], ◌∷◌, ◌++◌, length, take, map, Some, None, refl, sym, ap, subst, ◌∙◌, arith}
use Rattle.std.specs.Prelude.{◌==◌, ◌||◌, nat_eq, Option, is_some, Contains}
use Rattle.std.specs.Option.{option_map}
use Rattle.std.proofs.lemmas.Bool.{eqb-true}
use Rattle.std.proofs.lemmas.Bool.Decides.{nat_tests}
use Rattle.block_format.specs.Inode.{blocks_of}
use Rattle.block_format.specs.declared.inode.Inode.{Inode}
use Rattle.block_format.specs.declared.inode.Inode.TheVariants as inodes
use Rattle.block_format.specs.declared.slot.Slot.{Slot}
use Rattle.dir_slots.specs.Slots.{number_in, IsDirectory}
use Rattle.held_list.specs.Held.{slots_at}
use Rattle.held_list.specs.declared.held.Held.{Held as Directories}
use Rattle.place_words.specs.Different.{is_among, Distinct}
use Rattle.place_words.proofs.Rising.{rising_distinct}
use Rattle.tree_model.specs.Tree.{Tree}
use Rattle.tree_model.specs.declared.node.Node.{Node}
use Rattle.tree_model.specs.declared.node.Content.TheVariants as tree
use Rattle.image_model.specs.Holds.{HoldsTree}
use Rattle.image_model.specs.Seen.{Seen}
use Rattle.image_model.specs.Slots.{slots_of, inode_of}
use Rattle.image_model.specs.Stands.{node_of, bytes_from}
use Rattle.image_model.specs.Walk.{is_used, is_directory}
use Rattle.image_model.proofs.DirectoryLaws.{numbers_same}
use Rattle.image_model.proofs.NodePlaces.{numbers}
use Rattle.image_model.proofs.SpaceLaws.{file_length, node_there}
use Rattle.name_check.specs.Seeing.{HoldsDirectories, directory_numbers}
use Rattle.node_table.specs.Held.{Nodes, HoldsNodes, AreDirectories, info, info_of, slots_of as slots_held}
use Rattle.node_table.specs.declared.held.HeldNode.{HeldNode}
use Rattle.node_table.specs.declared.held.HeldNode.TheVariants.{Directory}
use Rattle.node_table.specs.declared.held.NodeInfo.TheVariants as infos
use Rattle.log_check.specs.Holding.{AreNodes, IsTableOf, HoldsEachTree, node_held}

-- ---- which numbers are directories'

or_first : (a b : Bool) → a ≡ true → (a || b) ≡ true
or_first true b e = refl
or_first false b e = cc

or_second : (a b : Bool) → b ≡ true → (a || b) ≡ true
or_second true b e = refl
or_second false b e = e

same_number : (m n : ℕ) → (m == n) ≡ true → nat_eq m n ≡ true
same_number m n e = e

-- a directory that is there has its number among them
pub slots_among : (hs : List Directories) (n : ℕ) (ss : List Slot) → slots_at hs n ≡ Some ss → is_among (map (λ h. h.number) hs) n ≡ true
slots_among [] n ss is = cc
slots_among (h ∷ hs) n ss is = by (h.number == n) refl is (slots_among hs n ss)
  where
    by : (t : Bool) → (h.number == n) ≡ t → cond t (Some h.slots) (slots_at hs n) ≡ Some ss → (slots_at hs n ≡ Some ss → is_among (map (λ h. h.number) hs) n ≡ true) → (nat_eq h.number n || is_among (map (λ h. h.number) hs) n) ≡ true
    by true same is more = or_first (nat_eq h.number n) _ (same_number h.number n same)
    by false apart is more = or_second (nat_eq h.number n) _ (more is)

-- a number that is among them has a directory
pub among_slots : (hs : List Directories) (n : ℕ) → is_among (map (λ h. h.number) hs) n ≡ true → (ss : List Slot) × (slots_at hs n ≡ Some ss)
among_slots [] n among = cc
among_slots (h ∷ hs) n among = by (h.number == n) refl among (among_slots hs n)
  where
    by : (t : Bool) → (h.number == n) ≡ t → (t || is_among (map (λ h. h.number) hs) n) ≡ true → (is_among (map (λ h. h.number) hs) n ≡ true → (ss : List Slot) × (slots_at hs n ≡ Some ss)) → (ss : List Slot) × (cond t (Some h.slots) (slots_at hs n) ≡ Some ss)
    by true same among more = (h.slots, refl)
    by false apart among more = more among

-- the numbers of directories are those of nodes
among_nodes : (nodes : List (ℕ × Inode)) (n : ℕ) → is_among (directory_numbers nodes) n ≡ true → is_among (numbers nodes) n ≡ true
among_nodes [] n among = among
among_nodes ((m, inodes.Unused) ∷ nodes) n among = or_second (nat_eq m n) _ (among_nodes nodes n among)
among_nodes ((m, inodes.File size height ptr) ∷ nodes) n among = or_second (nat_eq m n) _ (among_nodes nodes n among)
among_nodes ((m, inodes.Directory width height ptr) ∷ nodes) n among = by (nat_eq m n) among (among_nodes nodes n)
  where
    by : (t : Bool) → (t || is_among (directory_numbers nodes) n) ≡ true → (is_among (directory_numbers nodes) n ≡ true → is_among (numbers nodes) n ≡ true) → (t || is_among (numbers nodes) n) ≡ true
    by true among more = refl
    by false among more = more among

directory_among : (nodes : List (ℕ × Inode)) → Distinct (numbers nodes) → (n : ℕ) → is_among (directory_numbers nodes) n ≡ true → is_directory (inode_of nodes n) ≡ true
directory_among [] distinct n among = cc
directory_among ((m, inodes.Unused) ∷ nodes) distinct n among = by (m == n) refl (directory_among nodes distinct.1 n among)
  where
    by : (t : Bool) → (m == n) ≡ t → is_directory (inode_of nodes n) ≡ true → is_directory (cond t inodes.Unused (inode_of nodes n)) ≡ true
    by true same more = let e : m ≡ n = eqb-true m n same in let there = among_nodes nodes n among in let out : is_among (numbers nodes) n ≡ false = subst (λ (k : ℕ). is_among (numbers nodes) k ≡ false) e distinct.0 in cc
    by false apart more = more
directory_among ((m, inodes.File size height ptr) ∷ nodes) distinct n among = by (m == n) refl (directory_among nodes distinct.1 n among)
  where
    by : (t : Bool) → (m == n) ≡ t → is_directory (inode_of nodes n) ≡ true → is_directory (cond t (inodes.File size height ptr) (inode_of nodes n)) ≡ true
    by true same more = let e : m ≡ n = eqb-true m n same in let there = among_nodes nodes n among in let out : is_among (numbers nodes) n ≡ false = subst (λ (k : ℕ). is_among (numbers nodes) k ≡ false) e distinct.0 in cc
    by false apart more = more
directory_among ((m, inodes.Directory width height ptr) ∷ nodes) distinct n among = by (m == n) refl among (directory_among nodes distinct.1 n)
  where
    by : (t : Bool) → (m == n) ≡ t → (t || is_among (directory_numbers nodes) n) ≡ true → (is_among (directory_numbers nodes) n ≡ true → is_directory (inode_of nodes n) ≡ true)
        → is_directory (cond t (inodes.Directory width height ptr) (inode_of nodes n)) ≡ true
    by true same among more = refl
    by false apart among more = more among

among_directories : (nodes : List (ℕ × Inode)) (n : ℕ) → is_directory (inode_of nodes n) ≡ true → is_among (directory_numbers nodes) n ≡ true
among_directories [] n is = cc
among_directories ((m, inodes.Unused) ∷ nodes) n is = by (m == n) is (among_directories nodes n)
  where
    by : (t : Bool) → is_directory (cond t inodes.Unused (inode_of nodes n)) ≡ true → (is_directory (inode_of nodes n) ≡ true → is_among (directory_numbers nodes) n ≡ true) → is_among (directory_numbers nodes) n ≡ true
    by true is more = cc
    by false is more = more is
among_directories ((m, inodes.File size height ptr) ∷ nodes) n is = by (m == n) is (among_directories nodes n)
  where
    by : (t : Bool) → is_directory (cond t (inodes.File size height ptr) (inode_of nodes n)) ≡ true → (is_directory (inode_of nodes n) ≡ true → is_among (directory_numbers nodes) n ≡ true) → is_among (directory_numbers nodes) n ≡ true
    by true is more = cc
    by false is more = more is
among_directories ((m, inodes.Directory width height ptr) ∷ nodes) n is = by (m == n) refl is (among_directories nodes n)
  where
    by : (t : Bool) → (m == n) ≡ t → is_directory (cond t (inodes.Directory width height ptr) (inode_of nodes n)) ≡ true → (is_directory (inode_of nodes n) ≡ true → is_among (directory_numbers nodes) n ≡ true)
        → (nat_eq m n || is_among (directory_numbers nodes) n) ≡ true
    by true same is more = or_first (nat_eq m n) _ (same_number m n same)
    by false apart is more = or_second (nat_eq m n) _ (more is)

-- ---- nodes and directories

module _ (nodes : List (ℕ × Inode)) (directories : List Directories) (are : AreNodes nodes directories) where
  pub distinct : Distinct (numbers nodes)
  distinct = rising_distinct 1 (numbers nodes) are.rising

  -- a number that is no directory's has none
  pub no_directory : (n : ℕ) → is_directory (inode_of nodes n) ≡ false → slots_at directories n ≡ None
  no_directory n not_one = by (slots_at directories n) refl
    where
      by : (o : Option (List Slot)) → slots_at directories n ≡ o → slots_at directories n ≡ None
      by None is = is
      by (Some ss) is =
          let among : is_among (directory_numbers nodes) n ≡ true = ap (λ (ns : List ℕ). is_among ns n) (sym are.numbers) ∙ slots_among directories n ss is in
          let yes = directory_among nodes distinct n among in
          cc

  -- a directory's number has one
  pub some_directory : (n : ℕ) → is_directory (inode_of nodes n) ≡ true → (ss : List Slot) × (slots_at directories n ≡ Some ss)
  some_directory n is = among_slots directories n (ap (λ (ns : List ℕ). is_among ns n) are.numbers ∙ among_directories nodes n is)

  pub as_wide : (n width height ptr : ℕ) (ss : List Slot) → inode_of nodes n ≡ inodes.Directory width height ptr → slots_at directories n ≡ Some ss → length ss ≡ width
  as_wide n width height ptr ss is at = are.widths n width height ptr ss (subst (λ (x : Inode). Contains nodes (n, x)) is (node_there nodes n (ap is_used is))) at

  -- ---- the table

  module _ (table : Nodes) (is : IsTableOf nodes directories table) (s : Seen) (t : Tree) (seen_nodes : s.nodes ≡ nodes) (holds : HoldsDirectories s directories) (tree_held : HoldsTree s t) where
    info_there : (n : ℕ) (x : Inode) (node : Node) → inode_of nodes n ≡ x → node_of s n x ≡ Some node → option_map info (node_held directories n x) ≡ Some (info_of node.content)
    info_there n inodes.Unused node at of = cc
    info_there n (inodes.File size height ptr) node at of =
        let e : record { number = n; content = tree.File (take size (bytes_from s.contents n 0 (blocks_of size))) } ≡ node = cc in
        ap (λ (k : ℕ). Some (infos.File k)) (sym (file_length s.contents n size)) ∙ ap (λ (x : Node). Some (info_of x.content)) e
    info_there n (inodes.Directory width height ptr) node at of =
        let e : record { number = n; content = tree.Directory width } ≡ node = cc in
        let own = some_directory n (ap is_directory at) in
        ap (λ (o : Option (List Slot)). option_map info (option_map (λ ss. Directory ss) o)) own.1
        ∙ ap (λ (k : ℕ). Some (infos.Directory k)) (as_wide n width height ptr own.0 at own.1) ∙ ap (λ (x : Node). Some (info_of x.content)) e

    slots_there : (n : ℕ) (x : Inode) → inode_of nodes n ≡ x → (name : List ℕ) → number_in (slots_held (node_held directories n x)) name ≡ number_in (slots_of s n) name
    slots_there n inodes.Unused at name = ap (λ (ss : List Slot). number_in ss name) (sym (holds.others n (no_directory n (ap is_directory at))))
    slots_there n (inodes.File size height ptr) at name = ap (λ (ss : List Slot). number_in ss name) (sym (holds.others n (no_directory n (ap is_directory at))))
    slots_there n (inodes.Directory width height ptr) at name =
        let own = some_directory n (ap is_directory at) in
        let saw = holds.slots n own.0 own.1 in
        ap (λ (o : Option (List Slot)). number_in (slots_held (option_map (λ ss. Directory ss) o)) name) own.1
        ∙ sym (numbers_same own.0 saw.0 name) ∙ ap (λ (ss : List Slot). number_in ss name) (sym saw.1)

    used_there : (n : ℕ) (x : Inode) → is_some (node_held directories n x) ≡ true → is_used x ≡ true
    used_there n inodes.Unused some = cc
    used_there n (inodes.File size height ptr) some = refl
    used_there n (inodes.Directory width height ptr) some = refl

    inode_same : (n : ℕ) → inode_of s.nodes n ≡ inode_of nodes n
    inode_same n = ap (λ (ns : List (ℕ × Inode)). inode_of ns n) seen_nodes

    pub holds_tree : HoldsNodes table t
    holds_tree = record {
      each = λ path node at.
          let of = subst (λ (x : Inode). node_of s node.number x ≡ Some node) (inode_same node.number) (tree_held.inodes path node at) in
          ap (option_map info) (is node.number) ∙ info_there node.number (inode_of nodes node.number) node refl of;
      slots = λ path node name at.
          ap (λ (o : Option HeldNode). number_in (slots_held o) name) (is node.number) ∙ slots_there node.number (inode_of nodes node.number) refl name ∙ tree_held.slots path node name at;
      others = λ n some. tree_held.others n (ap is_used (inode_same n) ∙ used_there n (inode_of nodes n) (ap is_some (sym (is n)) ∙ some));
    }

  pub holds_each : (table : Nodes) → IsTableOf nodes directories table → HoldsEachTree nodes directories table
  holds_each table is s t seen_nodes holds tree_held = holds_tree table is s t seen_nodes holds tree_held

-- a directory of the table is the one that is held under its number
pub each_directory : (nodes : List (ℕ × Inode)) (directories : List Directories) (table : Nodes) → IsTableOf nodes directories table
    → ((n : ℕ) (ss : List Slot) → slots_at directories n ≡ Some ss → IsDirectory ss) → AreDirectories table
each_directory nodes directories table is valid n ss held = by (inode_of nodes n) (sym (is n) ∙ held)
  where
    found : (o : Option (List Slot)) → option_map (λ x. Directory x) o ≡ Some (Directory ss) → o ≡ Some ss
    found None e = cc
    found (Some x) e = let same : x ≡ ss = cc in ap (λ (y : List Slot). Some y) same

    by : (x : Inode) → node_held directories n x ≡ Some (Directory ss) → IsDirectory ss
    by inodes.Unused e = cc
    by (inodes.File size height ptr) e = cc
    by (inodes.Directory width height ptr) e = valid n ss (found (slots_at directories n) e)

-- ---- node by node

pub inode_behind : (front : List (ℕ × Inode)) (node : ℕ × Inode) (n : ℕ) → is_among (numbers front) node.0 ≡ false → inode_of (front ++ node ∷ []) n ≡ cond (nat_eq n node.0) node.1 (inode_of front n)
inode_behind [] node n out = by (node.0 == n) refl
  where
    by : (t : Bool) → (node.0 == n) ≡ t → cond t node.1 inodes.Unused ≡ cond (nat_eq n node.0) node.1 inodes.Unused
    by true is = let same : nat_eq n node.0 ≡ true = grind (arith, nat_tests) in ap (λ (u : Bool). cond u node.1 inodes.Unused) (sym same)
    by false is = let apart : nat_eq n node.0 ≡ false = grind (arith, nat_tests) in ap (λ (u : Bool). cond u node.1 inodes.Unused) (sym apart)
inode_behind (first ∷ front) node n out = by (nat_eq first.0 node.0) refl out (first.0 == n) refl (λ rest. inode_behind front node n rest)
  where
    by : (u : Bool) → nat_eq first.0 node.0 ≡ u → (u || is_among (numbers front) node.0) ≡ false → (t : Bool) → (first.0 == n) ≡ t
        → (is_among (numbers front) node.0 ≡ false → inode_of (front ++ node ∷ []) n ≡ cond (nat_eq n node.0) node.1 (inode_of front n)) → cond t first.1 (inode_of (front ++ node ∷ []) n) ≡ cond (nat_eq n node.0) node.1 (cond t first.1 (inode_of front n))
    by true same out t is more = cc
    by false apart out true is more = let other : nat_eq n node.0 ≡ false = grind (arith, nat_tests) in ap (λ (u : Bool). cond u node.1 first.1) (sym other)
    by false apart out false is more = more out
