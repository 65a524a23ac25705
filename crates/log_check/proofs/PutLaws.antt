-- Nodes that are put into a table, one after the other.
use Rattle.std.proofs.Common.{◌≡◌, ◌≢◌, ℕ, zero, suc, ◌+◌, ◌≤◌, ◌<◌, Bool, true, false, cond, List, [], ◌∷◌, ◌++◌, length, take, Some, None, refl, sym, ap, subst, ◌∙◌, arith}
use Rattle.std.specs.Prelude.{◌==◌, ◌||◌, nat_eq, Option, Contains, slice_index_or}
use Rattle.std.proofs.lemmas.Bool.{eqb-true}
use Rattle.std.proofs.lemmas.Bool.Decides.{nat_tests}
use Rattle.std.proofs.lemmas.List.{take_all}
use Rattle.block_format.specs.declared.inode.Inode.{Inode}
use Rattle.block_format.specs.declared.inode.Inode.TheVariants as inodes
use Rattle.block_format.specs.declared.slot.Slot.{Slot}
use Rattle.dir_slots.specs.Slots.{IsDirectory}
use Rattle.held_list.specs.Held.{slots_at}
use Rattle.held_list.specs.declared.held.Held.{Held as Directories}
use Rattle.place_words.specs.Different.{is_among, Distinct}
use Rattle.place_words.specs.Rising.{Rising}
use Rattle.image_model.specs.Slots.{inode_of}
use Rattle.image_model.specs.Walk.{is_used, is_directory}
use Rattle.image_model.proofs.NodePlaces.{numbers}
use Rattle.node_table.specs.Held.{Nodes, held}
use Rattle.node_table.specs.declared.held.HeldNode.{HeldNode}
use Rattle.node_table.specs.declared.held.HeldNode.TheVariants.{File, Directory}
use Rattle.image_walk.specs.Left.{IsWithin}
use Rattle.log_check.specs.Holding.{AreNodes, IsTableOf, node_held}
use Rattle.log_check.proofs.AcceptLemmas.{take_next}
use Rattle.log_check.proofs.TableLaws.{distinct, no_directory, some_directory, inode_behind}

abbrev InodeList : Type 0
InodeList = List (ℕ × Inode)

-- the node at a place
abbrev pub node_in : InodeList → ℕ → ℕ × Inode
node_in nodes i = slice_index_or nodes i (0, inodes.Unused)

one_default : (nodes : InodeList) (i : ℕ) (d e : ℕ × Inode) → i < length nodes → slice_index_or nodes i d ≡ slice_index_or nodes i e
one_default [] i d e lt = absurd (omega (arith, lt))
one_default (node ∷ nodes) zero d e lt = refl
one_default (node ∷ nodes) (suc i) d e lt = one_default nodes i d e (omega (arith, lt))

there : (nodes : InodeList) (i : ℕ) → i < length nodes → Contains nodes (node_in nodes i)
there nodes i lt = (i, lt, one_default nodes i (node_in nodes i) (0, inodes.Unused) lt)

rising_at : (m : ℕ) (nodes : InodeList) → Rising m (numbers nodes) → (i : ℕ) → i < length nodes → m ≤ (node_in nodes i).0
rising_at m [] rising i lt = absurd (omega (arith, lt))
rising_at m (node ∷ nodes) rising zero lt = rising.0
rising_at m (node ∷ nodes) rising (suc i) lt = let le = rising.0 in omega (arith, le, rising_at (node.0 + 1) nodes rising.1 i (omega (arith, lt)))

or_second : (a b : Bool) → b ≡ true → (a || b) ≡ true
or_second true b e = refl
or_second false b e = e

among_at : (nodes : InodeList) (i : ℕ) → i < length nodes → is_among (numbers nodes) (node_in nodes i).0 ≡ true
among_at [] i lt = absurd (omega (arith, lt))
among_at (node ∷ nodes) zero lt = let same : nat_eq node.0 node.0 ≡ true = grind (arith, nat_tests) in ap (λ (t : Bool). t || is_among (numbers nodes) node.0) same
among_at (node ∷ nodes) (suc i) lt = or_second (nat_eq node.0 (node_in nodes i).0) _ (among_at nodes i (omega (arith, lt)))

inode_at : (nodes : InodeList) → Distinct (numbers nodes) → (i : ℕ) → i < length nodes → inode_of nodes (node_in nodes i).0 ≡ (node_in nodes i).1
inode_at [] apart i lt = absurd (omega (arith, lt))
inode_at (node ∷ nodes) apart zero lt = let same : (node.0 == node.0) ≡ true = grind (arith, nat_tests) in ap (λ (t : Bool). cond t node.1 (inode_of nodes node.0)) same
inode_at (node ∷ nodes) apart (suc i) lt = by (node.0 == (node_in nodes i).0) refl (among_at nodes i (omega (arith, lt))) (inode_at nodes apart.1 i (omega (arith, lt)))
  where
    by : (t : Bool) → (node.0 == (node_in nodes i).0) ≡ t → is_among (numbers nodes) (node_in nodes i).0 ≡ true → inode_of nodes (node_in nodes i).0 ≡ (node_in nodes i).1
        → cond t node.1 (inode_of nodes (node_in nodes i).0) ≡ (node_in nodes i).1
    by true same among more =
        let e : node.0 ≡ (node_in nodes i).0 = eqb-true node.0 (node_in nodes i).0 same in
        let out : is_among (numbers nodes) (node_in nodes i).0 ≡ false = subst (λ (k : ℕ). is_among (numbers nodes) k ≡ false) e apart.0 in
        cc
    by false other among more = more

not_before : (m : ℕ) (nodes : InodeList) → Rising m (numbers nodes) → (i : ℕ) → i < length nodes → is_among (numbers (take i nodes)) (node_in nodes i).0 ≡ false
not_before m [] rising i lt = absurd (omega (arith, lt))
not_before m (node ∷ nodes) rising zero lt = refl
not_before m (node ∷ nodes) rising (suc i) lt =
    let above = rising_at (node.0 + 1) nodes rising.1 i (omega (arith, lt)) in
    let apart : nat_eq node.0 (node_in nodes i).0 ≡ false = grind (arith, nat_tests) in
    ap (λ (t : Bool). t || is_among (numbers (take i nodes)) (node_in nodes i).0) apart ∙ not_before (node.0 + 1) nodes rising.1 i (omega (arith, lt))

-- ---- the node that comes next

module _ (nodes : InodeList) (directories : List Directories) (are : AreNodes nodes directories) (i : ℕ) (lt : i < length nodes) where
  within : ((node_in nodes i).0 ≤ 65535) × IsWithin (node_in nodes i).1
  within = are.each (node_in nodes i).0 (node_in nodes i).1 (there nodes i lt)

  pub at_least : 1 ≤ (node_in nodes i).0
  at_least = rising_at 1 nodes are.rising i lt

  pub at_most : (node_in nodes i).0 ≤ 65535
  at_most = within.0

  pub some_held : (x : HeldNode) × (node_held directories (node_in nodes i).0 (node_in nodes i).1 ≡ Some x)
  some_held = by (node_in nodes i).1 within.1 (inode_at nodes (distinct nodes directories are) i lt)
    where
      by : (x : Inode) → IsWithin x → inode_of nodes (node_in nodes i).0 ≡ x → (h : HeldNode) × (node_held directories (node_in nodes i).0 x ≡ Some h)
      by inodes.Unused is at = absurd is
      by (inodes.File size height ptr) is at = (File size, refl)
      by (inodes.Directory width height ptr) is at =
          let own = some_directory nodes directories are (node_in nodes i).0 (ap is_directory at) in
          (Directory own.0, ap (λ (o : Option (List Slot)). node_of_slots o) own.1)
        where
          node_of_slots : Option (List Slot) → Option HeldNode
          node_of_slots None = None
          node_of_slots (Some ss) = Some (Directory ss)

  pub used_here : is_used (node_in nodes i).1 ≡ true
  used_here = by (node_in nodes i).1 within.1
    where
      by : (x : Inode) → IsWithin x → is_used x ≡ true
      by inodes.Unused is = absurd is
      by (inodes.File size height ptr) is = refl
      by (inodes.Directory width height ptr) is = refl

  pub more : take (i + 1) nodes ≡ take i nodes ++ node_in nodes i ∷ []
  more = take_next i nodes (node_in nodes i) lt (one_default nodes i (0, inodes.Unused) (node_in nodes i) lt)

  pub inode_more : (n : ℕ) → inode_of (take (i + 1) nodes) n ≡ cond (nat_eq n (node_in nodes i).0) (node_in nodes i).1 (inode_of (take i nodes) n)
  inode_more n = ap (λ (ns : InodeList). inode_of ns n) more ∙ inode_behind (take i nodes) (node_in nodes i) n (not_before 1 nodes are.rising i lt)

  module _ (old new : ℕ → Option HeldNode) (set : (n : ℕ) → new n ≡ cond (nat_eq n (node_in nodes i).0) (node_held directories (node_in nodes i).0 (node_in nodes i).1) (old n)) where
    pub next_put : ((n : ℕ) → is_used (inode_of (take i nodes) n) ≡ true → old n ≡ node_held directories n (inode_of (take i nodes) n))
        → (n : ℕ) → is_used (inode_of (take (i + 1) nodes) n) ≡ true → new n ≡ node_held directories n (inode_of (take (i + 1) nodes) n)
    next_put put n used = set n ∙ by (nat_eq n (node_in nodes i).0) refl (ap is_used (sym (inode_more n)) ∙ used) ∙ ap (node_held directories n) (sym (inode_more n))
      where
        by : (t : Bool) → nat_eq n (node_in nodes i).0 ≡ t → is_used (cond t (node_in nodes i).1 (inode_of (take i nodes) n)) ≡ true
            → cond t (node_held directories (node_in nodes i).0 (node_in nodes i).1) (old n) ≡ node_held directories n (cond t (node_in nodes i).1 (inode_of (take i nodes) n))
        by true same is = let e : (node_in nodes i).0 ≡ n = grind (arith, nat_tests) in ap (λ (k : ℕ). node_held directories k (node_in nodes i).1) e
        by false apart is = put n is

    pub next_others : ((n : ℕ) → is_used (inode_of (take i nodes) n) ≢ true → n ≢ 1 → old n ≡ None) → (n : ℕ) → is_used (inode_of (take (i + 1) nodes) n) ≢ true → n ≢ 1 → new n ≡ None
    next_others others n unused not_root = set n ∙ by (nat_eq n (node_in nodes i).0) (λ is. unused (ap is_used (inode_more n) ∙ is))
      where
        by : (t : Bool) → is_used (cond t (node_in nodes i).1 (inode_of (take i nodes) n)) ≢ true → cond t (node_held directories (node_in nodes i).0 (node_in nodes i).1) (old n) ≡ None
        by true never = absurd (never used_here)
        by false never = others n never not_root

  pub next_valid : ((n : ℕ) (slots : List Slot) → is_directory (inode_of (take i nodes) n) ≡ true → slots_at directories n ≡ Some slots → IsDirectory slots)
      → ((slots : List Slot) → is_directory (node_in nodes i).1 ≡ true → slots_at directories (node_in nodes i).0 ≡ Some slots → IsDirectory slots)
      → (n : ℕ) (slots : List Slot) → is_directory (inode_of (take (i + 1) nodes) n) ≡ true → slots_at directories n ≡ Some slots → IsDirectory slots
  next_valid valid own n slots is at = by (nat_eq n (node_in nodes i).0) refl (ap is_directory (sym (inode_more n)) ∙ is)
    where
      by : (t : Bool) → nat_eq n (node_in nodes i).0 ≡ t → is_directory (cond t (node_in nodes i).1 (inode_of (take i nodes) n)) ≡ true → IsDirectory slots
      by true same is = let e : n ≡ (node_in nodes i).0 = grind (arith, nat_tests) in own slots is (subst (λ (k : ℕ). slots_at directories k ≡ Some slots) e at)
      by false apart is = valid n slots is at

-- ---- all of them

directory_used : (x : Inode) → is_directory x ≡ true → is_used x ≡ true
directory_used inodes.Unused e = cc
directory_used (inodes.File size height ptr) e = refl
directory_used (inodes.Directory width height ptr) e = refl

unused_none : (directories : List Directories) (n : ℕ) (x : Inode) → is_used x ≡ false → None ≡ node_held directories n x
unused_none directories n inodes.Unused e = refl
unused_none directories n (inodes.File size height ptr) e = cc
unused_none directories n (inodes.Directory width height ptr) e = cc

module _ (nodes : InodeList) (directories : List Directories) (are : AreNodes nodes directories) (i : ℕ) (le : length nodes ≤ i) where
  whole : take i nodes ≡ nodes
  whole = take_all i nodes le

  pub all_put : (table : Nodes) → ((n : ℕ) → is_used (inode_of (take i nodes) n) ≡ true → held table n ≡ node_held directories n (inode_of (take i nodes) n))
      → ((n : ℕ) → is_used (inode_of (take i nodes) n) ≢ true → n ≢ 1 → held table n ≡ None) → IsTableOf nodes directories table
  all_put table put others n = by (is_used (inode_of nodes n)) refl
    where
      here : inode_of (take i nodes) n ≡ inode_of nodes n
      here = ap (λ (ns : InodeList). inode_of ns n) whole

      by : (t : Bool) → is_used (inode_of nodes n) ≡ t → held table n ≡ node_held directories n (inode_of nodes n)
      by true is = put n (ap is_used here ∙ is) ∙ ap (node_held directories n) here
      by false is =
          others n (λ used. let clash : true ≡ false = sym used ∙ ap is_used here ∙ is in cc)
          (λ one. let root : is_used (inode_of nodes n) ≡ true = ap (λ (k : ℕ). is_used (inode_of nodes k)) one ∙ directory_used (inode_of nodes 1) are.root in cc)
          ∙ unused_none directories n (inode_of nodes n) is

  pub all_valid : ((n : ℕ) (slots : List Slot) → is_directory (inode_of (take i nodes) n) ≡ true → slots_at directories n ≡ Some slots → IsDirectory slots)
      → (n : ℕ) (slots : List Slot) → slots_at directories n ≡ Some slots → IsDirectory slots
  all_valid valid n slots at = by (is_directory (inode_of nodes n)) refl
    where
      by : (t : Bool) → is_directory (inode_of nodes n) ≡ t → IsDirectory slots
      by true is = valid n slots (ap (λ (ns : InodeList). is_directory (inode_of ns n)) whole ∙ is) at
      by false is = let none = no_directory nodes directories are n is in cc
