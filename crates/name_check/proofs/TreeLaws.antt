-- What is named and reached in what is seen, as the directories that are held have it.
use Rattle.std.proofs.Common.{◌≡◌, ℕ, zero, suc, ◌+◌, ◌<◌, ◌≤◌, Bool, false, cond, List, [], ◌∷◌, ◌++◌, length, map, replicate, Option, Some, None, refl, sym, ap, ◌∙◌, arith}
use Rattle.std.specs.Prelude.{nat_eq, nat_lt, ◌==◌, ◌||◌, ◌&&◌, not, flat_map, filter_map}
use Rattle.std.specs.FinSet as set
use Rattle.std.proofs.lemmas.Bool.{eq-eqb, lt-ltb, ne_eqb}
use Rattle.std.proofs.lemmas.Bool.Decides.{nat_tests}
use Rattle.std.proofs.lemmas.List.{append-nil, length-map}
use Rattle.std.proofs.lemmas.List.Elements.{filter_map-append}
use Rattle.block_format.specs.declared.inode.Inode.{Inode}
use Rattle.block_format.specs.declared.inode.Inode.TheVariants.{Unused, File, Directory}
use Rattle.block_format.specs.declared.slot.Slot.{Slot}
use Rattle.block_format.specs.declared.slot.Slot.TheVariants as slot
use Rattle.held_list.specs.Held.{slots_at}
use Rattle.held_list.specs.declared.held.Held.{Held}
use Rattle.place_words.specs.Rising.{Rising}
use Rattle.image_model.specs.Nodes.{number_named, numbers_named, reached_in, is_root_named, is_unused_named, is_not_named_once, is_lost}
use Rattle.image_model.specs.Seen.{Seen}
use Rattle.image_model.specs.Slots.{slots_of, inode_of}
use Rattle.image_model.specs.Walk.{is_used}
use Rattle.name_check.specs.Lost.{TellsLost, times_marked}
use Rattle.name_check.specs.Names.{HasNamed, numbers_in, numbers_by, times}
use Rattle.name_check.specs.Reaching.{is_among, numbers_of, named_at, reached_from}
use Rattle.name_check.specs.Seeing.{HoldsDirectories, directory_numbers}
use Rattle.name_check.specs.declared.lost.Marks.{Marks}

abbrev Nodes : Type 0
Nodes = List (ℕ × Inode)

-- ---- what a number's directory names

names_none : (k : ℕ) → filter_map number_named (replicate k slot.Unused) ≡ []
names_none zero = refl
names_none (suc k) = names_none k

pub named_seen : (s : Seen) (held : List Held) (holds : HoldsDirectories s held) (n : ℕ) → filter_map number_named (slots_of s n) ≡ named_at held n
named_seen s held holds n = by (slots_at held n) refl
  where
    by : (o : Option (List Slot)) → slots_at held n ≡ o → filter_map number_named (slots_of s n) ≡ named_at held n
    by None is = ap (filter_map number_named) (holds.others n is) ∙ ap numbers_of (sym is)
    by (Some slots) is =
        let there = holds.slots n slots is in
        ap (filter_map number_named) there.1 ∙ filter_map-append number_named slots (replicate there.0 slot.Unused)
        ∙ ap (λ (ns : List ℕ). numbers_in slots ++ ns) (names_none there.0) ∙ append-nil (numbers_in slots) ∙ ap numbers_of (sym is)

-- ---- what all directories name

-- a node whose number is below all others has no directory among theirs
absent : (n from : ℕ) (nodes : Nodes) (held : List Held) → n < from → Rising from (map (λ node. node.0) nodes) → map (λ h. h.number) held ≡ directory_numbers nodes → slots_at held n ≡ None
absent n from [] [] lt rise same = refl
absent n from [] (h ∷ hs) lt rise same = absurd (let e : h.number ∷ map (λ (x : Held). x.number) hs ≡ [] = same in cc)
absent n from ((m, Unused) ∷ nodes) held lt rise same = let a = rise.0 in absent n (m + 1) nodes held (omega (arith, a, lt)) rise.1 same
absent n from ((m, File size height ptr) ∷ nodes) held lt rise same = let a = rise.0 in absent n (m + 1) nodes held (omega (arith, a, lt)) rise.1 same
absent n from ((m, Directory width height ptr) ∷ nodes) [] lt rise same = refl
absent n from ((m, Directory width height ptr) ∷ nodes) (h ∷ hs) lt rise same =
    let a = rise.0 in
    let number : h.number ≡ m = cc in
    let rest : map (λ (x : Held). x.number) hs ≡ directory_numbers nodes = cc in
    ap (λ (t : Bool). cond t (Some h.slots) (slots_at hs n)) (let ne : nat_eq h.number n ≡ false = apart h.number n (omega (arith, number, a, lt)) in ne)
    ∙ absent n (m + 1) nodes hs (omega (arith, a, lt)) rise.1 rest
  where
    apart : (x y : ℕ) → y < x → nat_eq x y ≡ false
    apart x y less = grind (arith, nat_tests)

-- a directory that stands before all nodes names nothing of theirs
skip : (h : Held) (hs : List Held) (from : ℕ) (nodes : Nodes) → h.number < from → Rising from (map (λ node. node.0) nodes)
    → flat_map (λ node. named_at (h ∷ hs) node.0) nodes ≡ flat_map (λ node. named_at hs node.0) nodes
skip h hs from [] lt rise = refl
skip h hs from (node ∷ nodes) lt rise =
    let a = rise.0 in
    let ne : nat_eq h.number node.0 ≡ false = apart h.number node.0 (omega (arith, a, lt)) in
    (λ i. numbers_of (cond (ne i) (Some h.slots) (slots_at hs node.0)) ++ skip h hs (node.0 + 1) nodes (omega (arith, a, lt)) rise.1 i)
  where
    apart : (x y : ℕ) → x < y → nat_eq x y ≡ false
    apart x y less = grind (arith, nat_tests)

all_named : (from : ℕ) (nodes : Nodes) (held : List Held) → Rising from (map (λ node. node.0) nodes) → map (λ h. h.number) held ≡ directory_numbers nodes
    → flat_map (λ node. named_at held node.0) nodes ≡ numbers_by held
all_named from [] [] rise same = refl
all_named from [] (h ∷ hs) rise same = absurd (let e : h.number ∷ map (λ (x : Held). x.number) hs ≡ [] = same in cc)
all_named from ((m, Unused) ∷ nodes) held rise same =
    ap (λ (o : Option (List Slot)). numbers_of o ++ flat_map (λ node. named_at held node.0) nodes) (absent m (m + 1) nodes held (omega arith) rise.1 same) ∙ all_named (m + 1) nodes held rise.1 same
all_named from ((m, File size height ptr) ∷ nodes) held rise same =
    ap (λ (o : Option (List Slot)). numbers_of o ++ flat_map (λ node. named_at held node.0) nodes) (absent m (m + 1) nodes held (omega arith) rise.1 same) ∙ all_named (m + 1) nodes held rise.1 same
all_named from ((m, Directory width height ptr) ∷ nodes) [] rise same = absurd (let e : [] ≡ m ∷ directory_numbers nodes = same in cc)
all_named from ((m, Directory width height ptr) ∷ nodes) (h ∷ hs) rise same =
    let number : h.number ≡ m = cc in
    let rest : map (λ (x : Held). x.number) hs ≡ directory_numbers nodes = cc in
    ap (λ (t : Bool). numbers_of (cond t (Some h.slots) (slots_at hs m)) ++ flat_map (λ (node : ℕ × Inode). named_at (h ∷ hs) node.0) nodes) (eq-eqb h.number m number)
    ∙ ap (λ (ns : List ℕ). numbers_in h.slots ++ ns) (skip h hs (m + 1) nodes (omega (arith, number)) rise.1 ∙ all_named (m + 1) nodes hs rise.1 rest)

-- ---- what is seen

module _ (s : Seen) (held : List Held) (holds : HoldsDirectories s held) (rise : Rising 0 (map (λ node. node.0) s.nodes)) where
  pub named_are : numbers_named s s.nodes ≡ numbers_by held
  named_are = (λ i. flat_map (λ (node : ℕ × Inode). named_seen s held holds node.0 i) s.nodes) ∙ all_named 0 s.nodes held rise holds.numbers

  pub reached_are : (k : ℕ) → reached_in s k ≡ reached_from held k
  reached_are zero = refl
  reached_are (suc k) = (λ i. reached_are k i ++ flat_map (λ (n : ℕ). named_seen s held holds n i) (reached_are k i))

few_directories : (nodes : Nodes) → length (directory_numbers nodes) ≤ length nodes
few_directories [] = omega arith
few_directories ((n, Unused) ∷ nodes) = let less = few_directories nodes in omega (arith, less)
few_directories ((n, File size height ptr) ∷ nodes) = let less = few_directories nodes in omega (arith, less)
few_directories ((n, Directory width height ptr) ∷ nodes) = let less = few_directories nodes in omega (arith, less)

few_held : (s : Seen) (held : List Held) → HoldsDirectories s held → length held ≤ length s.nodes
few_held s held holds =
    let less = few_directories s.nodes in
    let same : length held ≡ length (directory_numbers s.nodes) = sym (length-map held (λ (h : Held). h.number)) ∙ ap length holds.numbers in
    omega (arith, less, same)

-- ---- marks

many : (t : ℕ) → times_marked (nat_lt 0 (suc (suc t))) (nat_lt 1 (suc (suc t))) ≡ 2
many t = (λ i. times_marked (lt-ltb 0 (suc (suc t)) (omega arith) i) (lt-ltb 1 (suc (suc t)) (omega arith) i))

marked_some : (t : ℕ) → nat_lt 0 (times_marked (nat_lt 0 t) (nat_lt 1 t)) ≡ nat_lt 0 t
marked_some zero = refl
marked_some (suc zero) = refl
marked_some (suc (suc t)) = ap (nat_lt 0) (many t) ∙ sym (lt-ltb 0 (suc (suc t)) (omega arith))

marked_once : (t : ℕ) → (times_marked (nat_lt 0 t) (nat_lt 1 t) == 1) ≡ (t == 1)
marked_once zero = refl
marked_once (suc zero) = refl
marked_once (suc (suc t)) = ap (λ (m : ℕ). m == 1) (many t) ∙ sym (ne_eqb (suc (suc t)) 1 (λ e. omega (arith, e)))

-- what is told of a number by how often it is named, as far as the marks have it
lost_by_times : (n t : ℕ) (used reached : Bool) →
    (is_root_named n (times_marked (nat_lt 0 t) (nat_lt 1 t)) || is_unused_named used (times_marked (nat_lt 0 t) (nat_lt 1 t)) || is_not_named_once used n (times_marked (nat_lt 0 t) (nat_lt 1 t)) || (used && not reached))
    ≡ (is_root_named n t || is_unused_named used t || is_not_named_once used n t || (used && not reached))
lost_by_times n t used reached =
    (λ i. (n == 1 && marked_some t i) || (not used && marked_some t i) || (used && nat_lt 1 n && not (marked_once t i)) || (used && not reached))

pub marks_tell : (s : Seen) (held : List Held) (marks : Marks) → HoldsDirectories s held → Rising 0 (map (λ node. node.0) s.nodes)
    → ((n : ℕ) → n ≤ 65535 → set.contains marks.used n ≡ is_used (inode_of s.nodes n)) → HasNamed marks.naming (numbers_by held)
    → ((k n : ℕ) → length held ≤ k → set.contains marks.reached n ≡ is_among (reached_from held k) n) → TellsLost s marks
marks_tell s held marks holds rise used naming reached n from at_most =
    (λ i. tell (naming.once n i) (naming.again n i) (used n at_most i) (reached (length s.nodes) n (few_held s held holds) i))
    ∙ lost_by_times n (times n (numbers_by held)) (is_used (inode_of s.nodes n)) (is_among (reached_from held (length s.nodes)) n)
    ∙ (λ i. whole (sym (named_are s held holds rise) i) (sym (reached_are s held holds rise (length s.nodes)) i))
  where
    tell : Bool → Bool → Bool → Bool → Bool
    tell once again used reached = is_root_named n (times_marked once again) || is_unused_named used (times_marked once again) || is_not_named_once used n (times_marked once again) || (used && not reached)

    whole : List ℕ → List ℕ → Bool
    whole named found = is_lost s named found n
