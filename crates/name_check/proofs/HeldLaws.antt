-- Directories that are held of nodes, in order.
use Rattle.std.proofs.Common.{◌≡◌, ℕ, zero, suc, ◌+◌, ◌<◌, ◌≤◌, Bool, true, false, cond, List, [], ◌∷◌, ◌++◌, length, take, drop, map, get_or, Option, Some, None, refl, sym, ap, subst, ◌∙◌, arith}
use Rattle.std.specs.Prelude.{nat_eq, Contains}
use Rattle.std.proofs.lemmas.Bool.{eqb-true, eq-eqb}
use Rattle.std.proofs.lemmas.Bool.Decides.{nat_tests}
use Rattle.std.proofs.lemmas.List.{take_more, map-append, get_or_default}
use Rattle.block_format.specs.declared.inode.Inode.{Inode}
use Rattle.block_format.specs.declared.inode.Inode.TheVariants.{Unused, File, Directory}
use Rattle.block_format.specs.declared.slot.Slot.{Slot}
use Rattle.block_tree.specs.Tree.{Blocks}
use Rattle.held_list.specs.Held.{AllBelow, slots_at}
use Rattle.held_list.specs.declared.held.Held.{Held}
use Rattle.place_words.specs.Rising.{Rising, AllUnder}
use Rattle.image_model.specs.Nodes.{first_node, is_bad_directory, directory_finding}
use Rattle.image_model.specs.Seen.{Seen, SeenBlock as Blocks_held}
use Rattle.image_model.specs.Slots.{slots_of, inode_of}
use Rattle.image_model.specs.Walk.{is_directory}
use Rattle.image_model.specs.declared.finding.Finding.{Finding}
use Rattle.image_model.specs.declared.finding.Finding.TheVariants.{BadDirectory}
use Rattle.image_walk.specs.Blocks.{blocks_held}
use Rattle.name_check.specs.Directories.{IsRead, FindsBad, AreHeld, AreWide, is_bad, pages_seen}
use Rattle.image_walk.specs.Left.{HasOwners}
use Rattle.name_check.specs.Seeing.{HoldsDirectories, FindsInNodes, directory_numbers}
use Rattle.image_walk.specs.declared.node_block.NodeBlock.{NodeBlock}
use Rattle.name_check.specs.declared.fault.NameFault.{NameFault}
use Rattle.name_check.specs.declared.fault.NameFault.TheVariants.{Found, Device, OutOfMemory}
use Rattle.name_check.proofs.FirstLaws.{found_there}

abbrev Nodes : Type 0
Nodes = List (ℕ × Inode)

abbrev none : ℕ × Inode
none = (0, Unused)

-- a node at a place is one of the nodes
pub node_there : (nodes : Nodes) (k : ℕ) (x : Inode) → k < length nodes → (get_or nodes k none).1 ≡ x → Contains nodes ((get_or nodes k none).0, x)
node_there nodes k x lt is =
    (k, lt, get_or_default nodes k ((get_or nodes k none).0, x) none lt ∙ (λ i. ((get_or nodes k none).0, is i)))

-- ---- numbers

numbers_append : (xs ys : Nodes) → directory_numbers (xs ++ ys) ≡ directory_numbers xs ++ directory_numbers ys
numbers_append [] ys = refl
numbers_append ((n, Unused) ∷ xs) ys = numbers_append xs ys
numbers_append ((n, File size height ptr) ∷ xs) ys = numbers_append xs ys
numbers_append ((n, Directory width height ptr) ∷ xs) ys = ap (λ (ns : List ℕ). n ∷ ns) (numbers_append xs ys)

numbers_of_none : (n : ℕ) (x : Inode) → is_directory x ≡ false → directory_numbers ((n, x) ∷ []) ≡ []
numbers_of_none n Unused is = refl
numbers_of_none n (File size height ptr) is = refl
numbers_of_none n (Directory width height ptr) is = let e : true ≡ false = is in cc

append_none : (ns : List ℕ) → ns ++ [] ≡ ns
append_none [] = refl
append_none (n ∷ ns) = ap (λ (ms : List ℕ). n ∷ ms) (append_none ns)

module _ (nodes : Nodes) (k : ℕ) (lt : k < length nodes) where
  abbrev node : ℕ × Inode
  node = get_or nodes k none

  pub numbers_more : (held : List Held) (slots : List Slot) (width height ptr : ℕ) → node.1 ≡ Directory width height ptr → map (λ h. h.number) held ≡ directory_numbers (take k nodes)
      → map (λ h. h.number) (held ++ record { number = node.0; slots = slots } ∷ []) ≡ directory_numbers (take (k + 1) nodes)
  numbers_more held slots width height ptr is same =
      map-append (λ (h : Held). h.number) held (record { number = node.0; slots = slots } ∷ [])
      ∙ ap (λ (ns : List ℕ). ns ++ node.0 ∷ []) same
      ∙ sym (ap directory_numbers (take_more nodes k none lt) ∙ numbers_append (take k nodes) (node ∷ []) ∙ ap (λ (x : Inode). directory_numbers (take k nodes) ++ directory_numbers ((node.0, x) ∷ [])) is)

  pub numbers_other : (held : List Held) → is_directory node.1 ≡ false → map (λ h. h.number) held ≡ directory_numbers (take k nodes) → map (λ h. h.number) held ≡ directory_numbers (take (k + 1) nodes)
  numbers_other held is same =
      same ∙ sym (ap directory_numbers (take_more nodes k none lt) ∙ numbers_append (take k nodes) (node ∷ []) ∙ ap (λ (ns : List ℕ). directory_numbers (take k nodes) ++ ns) (numbers_of_none node.0 node.1 is) ∙ append_none _)

under_more : (m n : ℕ) → m ≤ n → (ns : List ℕ) → AllUnder m ns → AllUnder n ns
under_more m n le [] all = tt
under_more m n le (x ∷ xs) all = let a = all.0 in (omega (arith, a, le), under_more m n le xs all.1)

all_below : (n : ℕ) (held : List Held) → AllUnder n (map (λ h. h.number) held) → AllBelow n held
all_below n [] all = tt
all_below n (h ∷ hs) all = (all.0, all_below n hs all.1)

numbers_under : (from k : ℕ) (nodes : Nodes) → Rising from (map (λ node. node.0) nodes) → k < length nodes → (from ≤ (get_or nodes k none).0) × AllUnder (get_or nodes k none).0 (directory_numbers (take k nodes))
numbers_under from k [] rise lt = absurd (omega (arith, lt))
numbers_under from zero (node ∷ nodes) rise lt = (rise.0, tt)
numbers_under from (suc k) ((n, Unused) ∷ nodes) rise lt =
    let more = numbers_under (n + 1) k nodes rise.1 (omega (arith, lt)) in
    let a = rise.0 in let b = more.0 in (omega (arith, a, b), more.1)
numbers_under from (suc k) ((n, File size height ptr) ∷ nodes) rise lt =
    let more = numbers_under (n + 1) k nodes rise.1 (omega (arith, lt)) in
    let a = rise.0 in let b = more.0 in (omega (arith, a, b), more.1)
numbers_under from (suc k) ((n, Directory width height ptr) ∷ nodes) rise lt =
    let more = numbers_under (n + 1) k nodes rise.1 (omega (arith, lt)) in
    let a = rise.0 in let b = more.0 in (omega (arith, a, b), (omega (arith, b), more.1))

pub held_below : (nodes : Nodes) (k : ℕ) (held : List Held) → Rising 0 (map (λ node. node.0) nodes) → k < length nodes → map (λ h. h.number) held ≡ directory_numbers (take k nodes) → AllBelow (get_or nodes k none).0 held
held_below nodes k held rise lt same = all_below (get_or nodes k none).0 held (subst (λ (ns : List ℕ). AllUnder (get_or nodes k none).0 ns) (sym same) (numbers_under 0 k nodes rise lt).1)

-- ---- how wide they are

behind_apart : (from n : ℕ) (nodes : Nodes) (x : Inode) → Rising from (map (λ node. node.0) nodes) → Contains nodes (n, x) → from ≤ n
behind_apart from n [] x rise (k, lt, is) = absurd (omega (arith, lt))
behind_apart from n (node ∷ nodes) x rise (zero, lt, is) = let e : node.0 ≡ n = ap (λ (p : ℕ × Inode). p.0) is in let a = rise.0 in omega (arith, e, a)
behind_apart from n (node ∷ nodes) x rise (suc k, lt, is) = let more = behind_apart (node.0 + 1) n nodes x rise.1 (k, omega (arith, lt), is) in let a = rise.0 in omega (arith, more, a)

width_of : Inode → ℕ
width_of Unused = 0
width_of (File size height ptr) = 0
width_of (Directory width height ptr) = width

pub found_wide : (from : ℕ) (nodes : Nodes) (held : List Held) (n width height ptr : ℕ) (slots : List Slot) → Rising from (map (λ node. node.0) nodes) → AreWide nodes held
    → Contains nodes (n, Directory width height ptr) → slots_at held n ≡ Some slots → length slots ≡ width
unfolding width_of
found_wide from [] held n width height ptr slots rise are (k, lt, is) e = absurd (omega (arith, lt))
found_wide from ((m, Unused) ∷ xs) held n width height ptr slots rise are (zero, lt, is) e = let t : false ≡ true = ap (λ (p : ℕ × Inode). is_directory p.1) is in cc
found_wide from ((m, Unused) ∷ xs) held n width height ptr slots rise are (suc k, lt, is) e = found_wide (m + 1) xs held n width height ptr slots rise.1 are (k, omega (arith, lt), is) e
found_wide from ((m, File s he p) ∷ xs) held n width height ptr slots rise are (zero, lt, is) e = let t : false ≡ true = ap (λ (p : ℕ × Inode). is_directory p.1) is in cc
found_wide from ((m, File s he p) ∷ xs) held n width height ptr slots rise are (suc k, lt, is) e = found_wide (m + 1) xs held n width height ptr slots rise.1 are (k, omega (arith, lt), is) e
found_wide from ((m, Directory w he p) ∷ xs) [] n width height ptr slots rise are has e = absurd are
found_wide from ((m, Directory w he p) ∷ xs) (h ∷ hs) n width height ptr slots rise are (zero, lt, is) e =
    let number : m ≡ n = ap (λ (p : ℕ × Inode). p.0) is in
    let wide : w ≡ width = ap (λ (p : ℕ × Inode). width_of p.1) is in
    let same : nat_eq h.number n ≡ true = eq-eqb h.number n (are.0 ∙ number) in
    let there : Some h.slots ≡ Some slots = sym (ap (λ (t : Bool). cond t (Some h.slots) (slots_at hs n)) same) ∙ e in
    let slots_are : h.slots ≡ slots = grind arith in
    ap length (sym slots_are) ∙ are.1 ∙ wide
found_wide from ((m, Directory w he p) ∷ xs) (h ∷ hs) n width height ptr slots rise are (suc k, lt, is) e =
    let behind = behind_apart (m + 1) n xs (Directory width height ptr) rise.1 (k, omega (arith, lt), is) in
    let number = are.0 in
    let apart : nat_eq h.number n ≡ false = grind (arith, nat_tests) in
    found_wide (m + 1) xs hs n width height ptr slots rise.1 are.2 (k, omega (arith, lt), is) (sym (ap (λ (t : Bool). cond t (Some h.slots) (slots_at hs n)) apart) ∙ e)

wide_append : (xs : Nodes) (n width height ptr : ℕ) (held : List Held) (slots : List Slot) → AreWide xs held → length slots ≡ width
    → AreWide (xs ++ (n, Directory width height ptr) ∷ []) (held ++ record { number = n; slots = slots } ∷ [])
wide_append [] n width height ptr [] slots are wide = (refl, wide, refl)
wide_append [] n width height ptr (h ∷ hs) slots are wide = absurd (let e : h ∷ hs ≡ [] = are in cc)
wide_append ((m, Unused) ∷ xs) n width height ptr held slots are wide = wide_append xs n width height ptr held slots are wide
wide_append ((m, File s he p) ∷ xs) n width height ptr held slots are wide = wide_append xs n width height ptr held slots are wide
wide_append ((m, Directory w he p) ∷ xs) n width height ptr [] slots are wide = absurd are
wide_append ((m, Directory w he p) ∷ xs) n width height ptr (h ∷ hs) slots are wide = (are.0, are.1, wide_append xs n width height ptr hs slots are.2 wide)

wide_none : (xs : Nodes) (n : ℕ) (x : Inode) (held : List Held) → is_directory x ≡ false → AreWide xs held → AreWide (xs ++ (n, x) ∷ []) held
wide_none [] n Unused held is are = are
wide_none [] n (File size height ptr) held is are = are
wide_none [] n (Directory width height ptr) held is are = cc
wide_none ((m, Unused) ∷ xs) n x held is are = wide_none xs n x held is are
wide_none ((m, File s he p) ∷ xs) n x held is are = wide_none xs n x held is are
wide_none ((m, Directory w he p) ∷ xs) n x [] is are = absurd are
wide_none ((m, Directory w he p) ∷ xs) n x (h ∷ hs) is are = (are.0, are.1, wide_none xs n x hs is are.2)

pub wide_more : (nodes : Nodes) (k : ℕ) (held : List Held) (slots : List Slot) (width height ptr : ℕ) → k < length nodes → (get_or nodes k none).1 ≡ Directory width height ptr
    → AreWide (take k nodes) held → length slots ≡ width → AreWide (take (k + 1) nodes) (held ++ record { number = (get_or nodes k none).0; slots = slots } ∷ [])
wide_more nodes k held slots width height ptr lt is are wide =
    let n = (get_or nodes k none).0 in
    let more = held ++ record { number = n; slots = slots } ∷ [] in
    subst (λ (xs : Nodes). AreWide xs more) (sym (take_more nodes k none lt))
    (subst (λ (x : Inode). AreWide (take k nodes ++ (n, x) ∷ []) more) (sym is) (wide_append (take k nodes) n width height ptr held slots are wide))

pub wide_other : (nodes : Nodes) (k : ℕ) (held : List Held) → k < length nodes → is_directory (get_or nodes k none).1 ≡ false → AreWide (take k nodes) held → AreWide (take (k + 1) nodes) held
wide_other nodes k held lt is are =
    subst (λ (xs : Nodes). AreWide xs held) (sym (take_more nodes k none lt)) (wide_none (take k nodes) (get_or nodes k none).0 (get_or nodes k none).1 held is are)

-- ---- what is held

module _ (read : Blocks) (pages : List NodeBlock) where
  held_append : (xs : Nodes) (n width height ptr : ℕ) (held : List Held) (slots : List Slot) → AreHeld read pages xs held → IsRead read pages n width slots
      → AreHeld read pages (xs ++ (n, Directory width height ptr) ∷ []) (held ++ record { number = n; slots = slots } ∷ [])
  held_append [] n width height ptr [] slots are is = (refl, is, refl)
  held_append [] n width height ptr (h ∷ hs) slots are is = absurd (let e : h ∷ hs ≡ [] = are in cc)
  held_append ((m, Unused) ∷ xs) n width height ptr held slots are is = held_append xs n width height ptr held slots are is
  held_append ((m, File s he p) ∷ xs) n width height ptr held slots are is = held_append xs n width height ptr held slots are is
  held_append ((m, Directory w he p) ∷ xs) n width height ptr [] slots are is = absurd are
  held_append ((m, Directory w he p) ∷ xs) n width height ptr (h ∷ hs) slots are is = (are.0, are.1, held_append xs n width height ptr hs slots are.2 is)

  other_append : (xs : Nodes) (n : ℕ) (x : Inode) (held : List Held) → is_directory x ≡ false → AreHeld read pages xs held → AreHeld read pages (xs ++ (n, x) ∷ []) held
  other_append [] n Unused held is are = are
  other_append [] n (File size height ptr) held is are = are
  other_append [] n (Directory width height ptr) held is are = let e : true ≡ false = is in cc
  other_append ((m, Unused) ∷ xs) n x held is are = other_append xs n x held is are
  other_append ((m, File s he p) ∷ xs) n x held is are = other_append xs n x held is are
  other_append ((m, Directory w he p) ∷ xs) n x [] is are = absurd are
  other_append ((m, Directory w he p) ∷ xs) n x (h ∷ hs) is are = (are.0, are.1, other_append xs n x hs is are.2)

  pub held_more : (nodes : Nodes) (k : ℕ) (held : List Held) (slots : List Slot) (width height ptr : ℕ) → k < length nodes → (get_or nodes k none).1 ≡ Directory width height ptr
      → AreHeld read pages (take k nodes) held → IsRead read pages (get_or nodes k none).0 width slots → AreHeld read pages (take (k + 1) nodes) (held ++ record { number = (get_or nodes k none).0; slots = slots } ∷ [])
  held_more nodes k held slots width height ptr lt is are good =
      subst (λ (xs : Nodes). AreHeld read pages xs (held ++ record { number = (get_or nodes k none).0; slots = slots } ∷ []))
      (sym (take_more nodes k none lt ∙ (λ i. take k nodes ++ ((get_or nodes k none).0, is i) ∷ [])))
      (held_append (take k nodes) (get_or nodes k none).0 width height ptr held slots are good)

  pub held_other : (nodes : Nodes) (k : ℕ) (held : List Held) → k < length nodes → is_directory (get_or nodes k none).1 ≡ false → AreHeld read pages (take k nodes) held → AreHeld read pages (take (k + 1) nodes) held
  held_other nodes k held lt is are = subst (λ (xs : Nodes). AreHeld read pages xs held) (sym (take_more nodes k none lt)) (other_append (take k nodes) (get_or nodes k none).0 (get_or nodes k none).1 held is are)

  pub other_fine : (n : ℕ) (x : Inode) → is_directory x ≡ false → is_bad read pages (n, x) ≡ false
  other_fine n Unused is = refl
  other_fine n (File size height ptr) is = refl
  other_fine n (Directory width height ptr) is = let e : true ≡ false = is in cc

  found_read : (nodes : Nodes) (held : List Held) (n : ℕ) (slots : List Slot) → AreHeld read pages nodes held → slots_at held n ≡ Some slots → (width : ℕ) × IsRead read pages n width slots
  found_read [] held n slots are is = let e : None ≡ Some slots = ap (λ (hs : List Held). slots_at hs n) (sym are) ∙ is in cc
  found_read ((m, Unused) ∷ xs) held n slots are is = found_read xs held n slots are is
  found_read ((m, File s he p) ∷ xs) held n slots are is = found_read xs held n slots are is
  found_read ((m, Directory w he p) ∷ xs) [] n slots are is = absurd are
  found_read ((m, Directory w he p) ∷ xs) (h ∷ hs) n slots are is = by (nat_eq h.number n) refl is (found_read xs hs n slots are.2)
    where
      by : (t : Bool) → nat_eq h.number n ≡ t → cond t (Some h.slots) (slots_at hs n) ≡ Some slots → (slots_at hs n ≡ Some slots → (width : ℕ) × IsRead read pages n width slots) → (width : ℕ) × IsRead read pages n width slots
      by true same e more =
          let number : m ≡ n = sym are.0 ∙ eqb-true h.number n same in
          let slots_are : h.slots ≡ slots = grind arith in
          (w, subst (λ (j : ℕ). IsRead read pages j w slots) number (subst (λ (ss : List Slot). IsRead read pages m w ss) slots_are are.1))
      by false same e more = more e

  found_not : (nodes : Nodes) (held : List Held) (n : ℕ) → AreHeld read pages nodes held → slots_at held n ≡ None → is_directory (inode_of nodes n) ≡ false
  found_not [] held n are is = refl
  found_not ((m, Unused) ∷ xs) held n are is = by (nat_eq m n) (found_not xs held n are is)
    where
      by : (t : Bool) → is_directory (inode_of xs n) ≡ false → is_directory (cond t Unused (inode_of xs n)) ≡ false
      by true more = refl
      by false more = more
  found_not ((m, File s he p) ∷ xs) held n are is = by (nat_eq m n) (found_not xs held n are is)
    where
      by : (t : Bool) → is_directory (inode_of xs n) ≡ false → is_directory (cond t (File s he p) (inode_of xs n)) ≡ false
      by true more = refl
      by false more = more
  found_not ((m, Directory w he p) ∷ xs) [] n are is = absurd are
  found_not ((m, Directory w he p) ∷ xs) (h ∷ hs) n are is = by (nat_eq h.number n) (ap (λ (j : ℕ). nat_eq j n) (sym are.0)) is (found_not xs hs n are.2)
    where
      by : (t : Bool) → nat_eq m n ≡ t → cond t (Some h.slots) (slots_at hs n) ≡ None → (slots_at hs n ≡ None → is_directory (inode_of xs n) ≡ false) → is_directory (cond (nat_eq m n) (Directory w he p) (inode_of xs n)) ≡ false
      by true same e more = cc
      by false same e more = ap (λ (t : Bool). is_directory (cond t (Directory w he p) (inode_of xs n))) same ∙ more e

  wide_of : (nodes : Nodes) (held : List Held) → AreHeld read pages nodes held → AreWide nodes held
  wide_of [] held are = are
  wide_of ((m, Unused) ∷ xs) held are = wide_of xs held are
  wide_of ((m, File s he p) ∷ xs) held are = wide_of xs held are
  wide_of ((m, Directory w he p) ∷ xs) [] are = are
  wide_of ((m, Directory w he p) ∷ xs) (h ∷ hs) are = (are.0, are.1.wide, wide_of xs hs are.2)

  are_seen : (s : Seen) → s.pages ≡ blocks_held read pages → (n : ℕ) → slots_of s n ≡ slots_of (pages_seen read pages) n
  are_seen s same n = ap (λ (hs : List Blocks_held). slots_of (record { met = []; nodes = []; pages = hs; contents = []; kept = [] }) n) same

  pub all_held : (nodes : Nodes) (held : List Held) (s : Seen) → Rising 0 (map (λ node. node.0) nodes) → map (λ h. h.number) held ≡ directory_numbers nodes → AreHeld read pages nodes held → s.nodes ≡ nodes → s.pages ≡ blocks_held read pages → HasOwners s → HoldsDirectories s held
  all_held nodes held s rise numbers are same same_pages owners = record {
    numbers = numbers ∙ ap directory_numbers (sym same);
    slots = λ n slots is. let good = found_read nodes held n slots are is in (good.1.seen.0, are_seen s same_pages n ∙ good.1.seen.1);
    widths = λ n width height ptr slots has is. found_wide 0 nodes held n width height ptr slots rise (wide_of nodes held are) (subst (λ (xs : Nodes). Contains xs (n, Directory width height ptr)) same has) is;
    others = λ n is. owners n (ap (λ (xs : Nodes). is_directory (inode_of xs n)) same ∙ found_not nodes held n are is);
  }

  -- what is found first among the nodes is what is found in what is seen
  pub nodes_seen : (nodes : Nodes) (s : Seen) → s.nodes ≡ nodes → s.pages ≡ blocks_held read pages → first_node (is_bad read pages) BadDirectory nodes ≡ directory_finding s
  nodes_seen nodes s same same_pages =
      ap (first_node (is_bad read pages) BadDirectory) (sym same)
      ∙ ap (λ (hs : List Blocks_held). first_node (λ node. is_bad_directory (record { met = []; nodes = []; pages = hs; contents = []; kept = [] }) node) BadDirectory s.nodes) (sym same_pages)

  pub finds : (nodes : Nodes) (k width height ptr : ℕ) (s : Seen) (fault : NameFault) → k < length nodes → (get_or nodes k none).1 ≡ Directory width height ptr → FindsBad read pages (get_or nodes k none).0 width fault
      → first_node (is_bad read pages) BadDirectory (drop k nodes) ≡ first_node (is_bad read pages) BadDirectory nodes → s.nodes ≡ nodes → s.pages ≡ blocks_held read pages → FindsInNodes s fault
  finds nodes k width height ptr s (Found f) lt is bad rest same same_pages =
      let there : is_bad read pages (get_or nodes k none) ≡ true = (λ i. is_bad read pages ((get_or nodes k none).0, is i)) ∙ bad.1 height ptr in
      sym (ap (λ (x : Finding). let o : Option Finding = Some x in o) bad.0 ∙ found_there (is_bad read pages) BadDirectory nodes k none lt there rest ∙ nodes_seen nodes s same same_pages)
  finds nodes k width height ptr s Device lt is bad rest same same_pages = tt
  finds nodes k width height ptr s OutOfMemory lt is bad rest same same_pages = tt

  pub read_fine : (nodes : Nodes) (k width height ptr : ℕ) (slots : List Slot) → (get_or nodes k none).1 ≡ Directory width height ptr → IsRead read pages (get_or nodes k none).0 width slots → is_bad read pages (get_or nodes k none) ≡ false
  read_fine nodes k width height ptr slots is good = (λ i. is_bad read pages ((get_or nodes k none).0, is i)) ∙ good.good height ptr

pub no_directory : (x : Inode) → ((width height ptr : ℕ) → x ≡ Directory width height ptr → ⊥) → is_directory x ≡ false
no_directory Unused never = refl
no_directory (File size height ptr) never = refl
no_directory (Directory width height ptr) never = absurd (never width height ptr refl)
