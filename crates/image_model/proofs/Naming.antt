-- The entries of directories, and what they lead to.
use Rattle.std.proofs.Common.{◌≡◌, ℕ, ◌+◌, ◌≤◌, Bool, true, false, not, cond, List, [], ◌∷◌, ◌++◌, length, map, Some, None, refl, sym, ap, subst, ◌∙◌, arith}
use Rattle.std.specs.Prelude.{◌==◌, ◌&&◌, ◌||◌, nat_eq, nat_le, Option, option_and_then, Contains, count_by, reverse, bytes_eq}
use Rattle.std.specs.List.{list_any, list_all, flat_map, filter_map, AllByRecursion}
use Rattle.std.proofs.lemmas.Bool.{eqb-true}
use Rattle.std.proofs.lemmas.Bool.Decides.{nat_tests}
use Rattle.std.proofs.lemmas.List.{map-append, reverse-append, reverse-reverse}
use Rattle.std.proofs.lemmas.List.Concat.{flat_map-cons}
use Rattle.std.proofs.lemmas.List.Sums.{sum_by-cons}
use Rattle.vol_numbers.specs.Layout.{Layout}
use Rattle.block_format.specs.declared.inode.Inode.{Inode}
use Rattle.block_format.specs.declared.inode.Inode.TheVariants.{Unused, File, Directory}
use Rattle.block_format.specs.declared.slot.Slot.{Slot}
use Rattle.block_format.specs.declared.slot.Slot.TheVariants as slots
use Rattle.block_tree.specs.Tree.{Blocks, index_at, nonzero}
use Rattle.place_words.specs.Different.{is_among, Distinct}
use Rattle.dir_slots.specs.Slots.{number_in}
use Rattle.tree_model.specs.Path.{Path, name_eq}
use Rattle.image_model.proofs.Entries.{Entry, is_of, entry_at, leads, times_named, NamesOnce, entries_in, entries_of}
use Rattle.image_model.specs.Met.{Met, index}
use Rattle.image_model.specs.Nodes.{has_twin, is_bad_directory, is_entry_name, is_slot_spelled, number_named, numbers_named}
use Rattle.image_model.specs.Planned.{node_trees}
use Rattle.image_model.specs.Seen.{Seen, SeenBlock, seen_from, all_held, page_held}
use Rattle.image_model.specs.Slots.{slot_pieces, slots_of, slots_from, inode_of, number_along}
use Rattle.image_model.specs.Sound.{AllGood}
use Rattle.image_model.specs.Walk.{is_used, is_directory, nodes_at, blocks_inodes}
use Rattle.image_model.proofs.Area.{no_faults}
use Rattle.image_model.proofs.NodePlaces.{numbers_distinct, nodes_used, used_among, directory_pairs, pages_at, is_of as is_of_number}
use Rattle.image_model.proofs.NodeWalk.{WalkMet, walk_good}
use Rattle.image_model.proofs.Paths.{one_path, same_bytes, bytes_itself, name_itself, same_eq}
use Rattle.image_model.proofs.PlanLaws.{nodes_limits}
use Rattle.image_model.proofs.SpaceLaws.{node_there}

-- ---- slots and entries

-- what the slots of a directory have under a name, its entries have
pub in_entries : (d : ℕ) (ss : List Slot) (name : List ℕ) → entry_at (entries_in d ss) d name ≡ number_in ss name
in_entries d [] name = refl
in_entries d (slots.Unused ∷ ss) name = in_entries d ss name
in_entries d (slots.Entry number other ∷ ss) name =
    let same : (d == d) ≡ true = grind (arith, nat_tests) in
    (λ i. cond (same i && name_eq other name) (Some number) (entry_at (entries_in d ss) d name)) ∙ (λ i. cond (same_eq other name i) (Some number) (in_entries d ss name i))

-- entries of another directory don't count
pub other_entries : (c d : ℕ) → (c == d) ≡ false → (ss : List Slot) (rest : List Entry) (name : List ℕ) → entry_at (entries_in c ss ++ rest) d name ≡ entry_at rest d name
other_entries c d apart [] rest name = refl
other_entries c d apart (slots.Unused ∷ ss) rest name = other_entries c d apart ss rest name
other_entries c d apart (slots.Entry number other ∷ ss) rest name = ap (λ (t : Bool). cond (t && name_eq other name) (Some number) (entry_at (entries_in c ss ++ rest) d name)) apart ∙ other_entries c d apart ss rest name

or_else : {A : Type 0} → Option A → Option A → Option A
or_else None b = b
or_else (Some x) b = Some x

front_entries : (es rest : List Entry) (d : ℕ) (name : List ℕ) → entry_at (es ++ rest) d name ≡ or_else (entry_at es d name) (entry_at rest d name)
unfolding or_else
front_entries [] rest d name = refl
front_entries (e ∷ es) rest d name = by (is_of d name e) (front_entries es rest d name)
  where
    by : (t : Bool) → entry_at (es ++ rest) d name ≡ or_else (entry_at es d name) (entry_at rest d name) → cond t (Some e.number) (entry_at (es ++ rest) d name) ≡ or_else (cond t (Some e.number) (entry_at es d name)) (entry_at rest d name)
    by true more = refl
    by false more = more

or_none : {A : Type 0} (o : Option A) → or_else o None ≡ o
unfolding or_else
or_none None = refl
or_none (Some x) = refl

module _ (s : Seen) where
  pub no_entry : (d : ℕ) (name : List ℕ) (nodes : List (ℕ × Inode)) → is_among (map (λ (node : ℕ × Inode). node.0) nodes) d ≡ false → entry_at (entries_of s nodes) d name ≡ None
  no_entry d name [] out = refl
  no_entry d name (node ∷ nodes) out = by (nat_eq node.0 d) refl out (no_entry d name nodes)
    where
      by : (t : Bool) → nat_eq node.0 d ≡ t → (t || is_among (map (λ (node : ℕ × Inode). node.0) nodes) d) ≡ false
          → (is_among (map (λ (node : ℕ × Inode). node.0) nodes) d ≡ false → entry_at (entries_of s nodes) d name ≡ None) → entry_at (entries_of s (node ∷ nodes)) d name ≡ None
      by true is out more = cc
      by false is out more =
          ap (λ (es : List Entry). entry_at es d name) (flat_map-cons (λ (node : ℕ × Inode). entries_in node.0 (slots_of s node.0)) node nodes)
          ∙ other_entries node.0 d is (slots_of s node.0) (entries_of s nodes) name ∙ more out

  -- what a directory's slots have under a name, all entries have, where each directory with slots is a node
  pub entries_right : (nodes : List (ℕ × Inode)) → Distinct (map (λ (node : ℕ × Inode). node.0) nodes) → (d : ℕ) (name : List ℕ)
      → (is_among (map (λ (node : ℕ × Inode). node.0) nodes) d ≡ false → number_in (slots_of s d) name ≡ None) → entry_at (entries_of s nodes) d name ≡ number_in (slots_of s d) name
  entries_right [] distinct d name none = sym (none refl)
  entries_right (node ∷ nodes) distinct d name none = by (nat_eq node.0 d) refl none (entries_right nodes distinct.1 d name)
    where
      whole : entry_at (entries_of s (node ∷ nodes)) d name ≡ entry_at (entries_in node.0 (slots_of s node.0) ++ entries_of s nodes) d name
      whole = ap (λ (es : List Entry). entry_at es d name) (flat_map-cons (λ (node : ℕ × Inode). entries_in node.0 (slots_of s node.0)) node nodes)

      by : (t : Bool) → nat_eq node.0 d ≡ t → ((t || is_among (map (λ (node : ℕ × Inode). node.0) nodes) d) ≡ false → number_in (slots_of s d) name ≡ None)
          → ((is_among (map (λ (node : ℕ × Inode). node.0) nodes) d ≡ false → number_in (slots_of s d) name ≡ None) → entry_at (entries_of s nodes) d name ≡ number_in (slots_of s d) name)
          → entry_at (entries_of s (node ∷ nodes)) d name ≡ number_in (slots_of s d) name
      by true is none more =
          let e : node.0 ≡ d = grind (arith, nat_tests) in
          let out : is_among (map (λ (node : ℕ × Inode). node.0) nodes) d ≡ false = subst (λ (k : ℕ). is_among (map (λ (node : ℕ × Inode). node.0) nodes) k ≡ false) e distinct.0 in
          whole ∙ ap (λ (k : ℕ). entry_at (entries_in k (slots_of s k) ++ entries_of s nodes) d name) e
          ∙ front_entries (entries_in d (slots_of s d)) (entries_of s nodes) d name
          ∙ (λ i. or_else (in_entries d (slots_of s d) name i) (no_entry d name nodes out i)) ∙ or_none (number_in (slots_of s d) name)
      by false is none more = whole ∙ other_entries node.0 d is (slots_of s node.0) (entries_of s nodes) name ∙ more none

  -- ---- paths from their ends

  pub last_step : (path : Path) (n : ℕ) (name : List ℕ) → number_along s n (path ++ name ∷ []) ≡ option_and_then (λ d. number_in (slots_of s d) name) (number_along s n path)
  last_step [] n name = by (number_in (slots_of s n) name)
    where
      by : (o : Option ℕ) → option_and_then (λ m. Some m) o ≡ o
      by None = refl
      by (Some m) = refl
  last_step (first ∷ path) n name = by (number_in (slots_of s n) first) (λ m. last_step path m name)
    where
      by : (o : Option ℕ) → ((m : ℕ) → number_along s m (path ++ name ∷ []) ≡ option_and_then (λ d. number_in (slots_of s d) name) (number_along s m path))
          → option_and_then (λ m. number_along s m (path ++ name ∷ [])) o ≡ option_and_then (λ d. number_in (slots_of s d) name) (option_and_then (λ m. number_along s m path) o)
      by None more = refl
      by (Some m) more = more m

  module _ (es : List Entry) (right : (d : ℕ) (name : List ℕ) → entry_at es d name ≡ number_in (slots_of s d) name) where
    pub leads_right : (up : Path) → leads es up ≡ number_along s 1 (reverse up)
    leads_right [] = refl
    leads_right (name ∷ up) =
        (λ i. option_and_then (λ d. right d name i) (leads_right up i)) ∙ sym (last_step (reverse up) 1 name) ∙ ap (number_along s 1) (sym (reverse-append (name ∷ []) up))

    pub along_leads : (path : Path) → number_along s 1 path ≡ leads es (reverse path)
    along_leads path = ap (number_along s 1) (sym (reverse-reverse path)) ∙ sym (leads_right (reverse path))

    pub paths_once : NamesOnce es → (p q : Path) (n : ℕ) → number_along s 1 p ≡ Some n → number_along s 1 q ≡ Some n → p ≡ q
    paths_once once p q n a b =
        sym (reverse-reverse p) ∙ ap reverse (one_path es once (reverse p) (reverse q) n (sym (along_leads p) ∙ a) (sym (along_leads q) ∙ b)) ∙ reverse-reverse q

-- ---- numbers that are named

names_in : (d : ℕ) (ss : List Slot) → filter_map number_named ss ≡ map (λ (e : Entry). e.number) (entries_in d ss)
names_in d [] = refl
names_in d (slots.Unused ∷ ss) = names_in d ss
names_in d (slots.Entry number name ∷ ss) = ap (λ (ns : List ℕ). number ∷ ns) (names_in d ss)

pub names_are : (s : Seen) (nodes : List (ℕ × Inode)) → numbers_named s nodes ≡ map (λ (e : Entry). e.number) (entries_of s nodes)
names_are s [] = refl
names_are s (node ∷ nodes) =
    flat_map-cons (λ (node : ℕ × Inode). filter_map number_named (slots_of s node.0)) node nodes
    ∙ (λ i. names_in node.0 (slots_of s node.0) i ++ names_are s nodes i)
    ∙ sym (map-append (λ (e : Entry). e.number) (entries_in node.0 (slots_of s node.0)) (entries_of s nodes))
    ∙ ap (map (λ (e : Entry). e.number)) (sym (flat_map-cons (λ (node : ℕ × Inode). entries_in node.0 (slots_of s node.0)) node nodes))

pub times_mapped : (es : List Entry) (n : ℕ) → count_by (λ m. m == n) (map (λ (e : Entry). e.number) es) ≡ times_named es n
times_mapped [] n = refl
times_mapped (e ∷ es) n =
    sum_by-cons (λ (m : ℕ). cond (m == n) 1 0) e.number (map (λ (e : Entry). e.number) es) ∙ ap (λ (k : ℕ). cond (e.number == n) 1 0 + k) (times_mapped es n) ∙ sym (sum_by-cons (λ (e : Entry). cond (e.number == n) 1 0) e es)

or_parts : (a b : Bool) → (a || b) ≡ false → (a ≡ false) × (b ≡ false)
or_parts true b e = cc
or_parts false b e = (refl, e)

-- ---- slots without twins

pub found_name : (ss : List Slot) (name : List ℕ) (n : ℕ) → number_in ss name ≡ Some n → list_any (is_entry_name name) ss ≡ true
found_name [] name n found = cc
found_name (slots.Unused ∷ ss) name n found = found_name ss name n found
found_name (slots.Entry number other ∷ ss) name n found = by (bytes_eq other name) refl found (found_name ss name n)
  where
    later : (a b : Bool) → b ≡ true → (a || b) ≡ true
    later true b e = refl
    later false b e = e

    by : (t : Bool) → bytes_eq other name ≡ t → cond t (Some number) (number_in ss name) ≡ Some n → (number_in ss name ≡ Some n → list_any (is_entry_name name) ss ≡ true) → (name_eq name other || list_any (is_entry_name name) ss) ≡ true
    by true is found more = let e = same_bytes other name is in ap (λ (t : Bool). t || list_any (is_entry_name name) ss) (ap (name_eq name) e ∙ name_itself name)
    by false is found more = later (name_eq name other) _ (more found)

abbrev pub AllNamed : List Slot → List ℕ → Type 0
AllNamed ss ns = AllByRecursion (λ (n : ℕ). (name : List ℕ) × (number_in ss name ≡ Some n)) ns

behind_entry : (number : ℕ) (other : List ℕ) (ss : List Slot) → list_any (is_entry_name other) ss ≡ false → (ns : List ℕ) → AllNamed ss ns → AllNamed (slots.Entry number other ∷ ss) ns
behind_entry number other ss none [] all = tt
behind_entry number other ss none (n ∷ ns) all = ((all.0.0, by (bytes_eq other all.0.0) refl), behind_entry number other ss none ns all.1)
  where
    by : (t : Bool) → bytes_eq other all.0.0 ≡ t → cond t (Some number) (number_in ss all.0.0) ≡ Some n
    by true is =
        let e = same_bytes other all.0.0 is in
        let twin : list_any (is_entry_name other) ss ≡ true = found_name ss other n (ap (number_in ss) e ∙ all.0.1) in
        cc
    by false is = all.0.1

pub all_named : (ss : List Slot) → has_twin ss ≡ false → AllNamed ss (filter_map number_named ss)
all_named [] none = tt
all_named (slots.Unused ∷ ss) none = unused_more (filter_map number_named ss) (all_named ss none)
  where
    unused_more : (ns : List ℕ) → AllNamed ss ns → AllNamed (slots.Unused ∷ ss) ns
    unused_more [] all = tt
    unused_more (n ∷ ns) all = (all.0, unused_more ns all.1)
all_named (slots.Entry number name ∷ ss) none =
    let parts = or_parts (list_any (is_entry_name name) ss) (has_twin ss) none in
    ((name, ap (λ (t : Bool). cond t (Some number) (number_in ss name)) (bytes_itself name)), behind_entry number name ss parts.0 (filter_map number_named ss) (all_named ss parts.1))

-- ---- numbers are within their limits

abbrev pub AllIn : List Entry → Type 0
AllIn es = AllByRecursion (λ (e : Entry). (1 ≤ e.number) × (e.number ≤ 65535)) es

pub in_append : (xs ys : List Entry) → AllIn xs → AllIn ys → AllIn (xs ++ ys)
in_append [] ys a b = b
in_append (x ∷ xs) ys a b = (a.0, in_append xs ys a.1 b)

pub out_times : (es : List Entry) → AllIn es → (n : ℕ) → 1 ≤ times_named es n → (1 ≤ n) × (n ≤ 65535)
out_times [] all n some = absurd (omega arith)
out_times (e ∷ es) all n some = by (e.number == n) refl (out_times es all.1 n)
  where
    by : (t : Bool) → (e.number == n) ≡ t → (1 ≤ times_named es n → (1 ≤ n) × (n ≤ 65535)) → (1 ≤ n) × (n ≤ 65535)
    by true is more = let same : e.number ≡ n = eqb-true e.number n is in (omega (arith, same, all.0.0), omega (arith, same, all.0.1))
    by false is more = let weight : Bool → ℕ = λ t. cond t 1 0 in more (omega (arith, some, ap weight is, sum_by-cons (λ (x : Entry). cond (x.number == n) 1 0) e es))

four_parts : (a b c d : Bool) → (((a && b) && c) && d) ≡ true → (a ≡ true) × (b ≡ true)
four_parts true true c d e = (refl, refl)
four_parts true false c d e = cc
four_parts false b c d e = cc

pub and_parts : (a b : Bool) → (a && b) ≡ true → (a ≡ true) × (b ≡ true)
and_parts true b e = (refl, e)
and_parts false b e = cc

pub spelled_in : (d : ℕ) (pieces : List (Slot × List ℕ)) → list_all (λ (p : Slot × List ℕ). is_slot_spelled p.0 p.1) pieces ≡ true → AllIn (entries_in d (map (λ (p : Slot × List ℕ). p.0) pieces))
spelled_in d [] all = tt
spelled_in d ((slots.Unused, bytes) ∷ pieces) all = spelled_in d pieces (and_parts _ _ all).1
spelled_in d ((slots.Entry number name, bytes) ∷ pieces) all =
    let parts = and_parts (is_slot_spelled (slots.Entry number name) bytes) (list_all (λ (p : Slot × List ℕ). is_slot_spelled p.0 p.1) pieces) all in
    let limits = four_parts (nat_le 1 number) (nat_le number 65535) _ _ parts.0 in
    ((let low = limits.0 in grind (arith, nat_tests), let high = limits.1 in grind (arith, nat_tests)), spelled_in d pieces parts.1)

-- ---- pages of a number

pub no_pieces : (pages : List SeenBlock) (n : ℕ) → count_by (λ h. h.number == n) pages ≡ 0 → slot_pieces pages n ≡ []
no_pieces [] n none = refl
no_pieces (h ∷ pages) n none = by (h.number == n) refl (no_pieces pages n)
  where
    cons : count_by (λ (h : SeenBlock). h.number == n) (h ∷ pages) ≡ cond (h.number == n) 1 0 + count_by (λ (h : SeenBlock). h.number == n) pages
    cons = sum_by-cons (λ (h : SeenBlock). cond (h.number == n) 1 0) h pages

    by : (t : Bool) → (h.number == n) ≡ t → (count_by (λ (h : SeenBlock). h.number == n) pages ≡ 0 → slot_pieces pages n ≡ []) → (cond t (slots_from 16 h.bytes) [] ++ slot_pieces pages n) ≡ []
    by true is more = let weight : Bool → ℕ = λ t. cond t 1 0 in absurd (omega (arith, none, cons, ap weight is))
    by false is more = more (omega (arith, none, cons))

pub bad_parts : (a b c d : Bool) → (((not a || not b) || not c) || d) ≡ false → (b ≡ true) × (d ≡ false)
bad_parts true true true d e = (refl, e)
bad_parts true true false d e = cc
bad_parts true false c d e = cc
bad_parts false b c d e = cc

-- ---- an image whose pointers and directories are sound

module _ (read : Blocks) (at : ℕ) (homes : List ℕ) (count : ℕ) (g : Layout)
    (pointers : AllGood g (seen_from read at homes count).met (seen_from read at homes count).met)
    (directories : (node : ℕ × Inode) → Contains (seen_from read at homes count).nodes node → is_bad_directory (seen_from read at homes count) node ≡ false) where
  abbrev s : Seen
  s = seen_from read at homes count

  abbrev nodes : List (ℕ × Inode)
  nodes = nodes_at read at

  pub met : WalkMet read at
  met = walk_good read at (no_faults g s.met s.met pointers)

  -- only directories have slots
  pub pages_of : (n : ℕ) → count_by (is_of_number n) s.pages ≡ length (directory_pairs read (inode_of nodes n))
  pages_of n = ap (λ (ms : List Met). count_by (is_of_number n) (all_held (page_held read) ms)) met.is ∙ skip_index (nonzero (index_at read at)) ∙ pages_at read n nodes (numbers_distinct read at)
    where
      skip_index : (bs : List ℕ) → count_by (is_of_number n) (all_held (page_held read) (map index bs ++ flat_map (node_trees read) nodes)) ≡ count_by (is_of_number n) (all_held (page_held read) (flat_map (node_trees read) nodes))
      skip_index [] = refl
      skip_index (b ∷ bs) = skip_index bs

  pub no_slots : (d : ℕ) → length (directory_pairs read (inode_of nodes d)) ≡ 0 → slots_of s d ≡ []
  no_slots d zero_pairs = ap (map (λ (p : Slot × List ℕ). p.0)) (no_pieces s.pages d (pages_of d ∙ zero_pairs))

  -- a number is a directory, or has no slots
  pub directory_fine : (d : ℕ) → (x : Inode) → inode_of nodes d ≡ x → AllIn (entries_in d (slots_of s d)) × (has_twin (slots_of s d) ≡ false)
  directory_fine d Unused is = let e = no_slots d (ap (λ (x : Inode). length (directory_pairs read x)) is) in (subst (λ (ss : List Slot). AllIn (entries_in d ss)) (sym e) tt, ap has_twin e)
  directory_fine d (File size height ptr) is = let e = no_slots d (ap (λ (x : Inode). length (directory_pairs read x)) is) in (subst (λ (ss : List Slot). AllIn (entries_in d ss)) (sym e) tt, ap has_twin e)
  directory_fine d (Directory width height ptr) is =
      let used : is_used (inode_of nodes d) ≡ true = ap is_used is in
      let there : Contains nodes (d, Directory width height ptr) = subst (λ (x : Inode). Contains nodes (d, x)) is (node_there nodes d used) in
      let fine = bad_parts _ _ _ _ (directories (d, Directory width height ptr) there) in
      (spelled_in d (slot_pieces s.pages d) fine.0, fine.1)

  pub all_in : (ns : List (ℕ × Inode)) → AllIn (entries_of s ns)
  all_in [] = tt
  all_in (node ∷ ns) = subst AllIn (sym (flat_map-cons (λ (node : ℕ × Inode). entries_in node.0 (slots_of s node.0)) node ns)) (in_append _ _ (directory_fine node.0 (inode_of nodes node.0) refl).0 (all_in ns))

  pub right : (d : ℕ) (name : List ℕ) → entry_at (entries_of s nodes) d name ≡ number_in (slots_of s d) name
  right d name = entries_right s nodes (numbers_distinct read at) d name (λ out. ap (λ (ss : List Slot). number_in ss name) (no_slots d (unused_pairs (inode_of nodes d) (used_among nodes (nodes_used (blocks_inodes read 0 (index_at read at))) d ∙ out))))
    where
      unused_pairs : (x : Inode) → is_used x ≡ false → length (directory_pairs read x) ≡ 0
      unused_pairs Unused e = refl
      unused_pairs (File size height ptr) e = cc
      unused_pairs (Directory width height ptr) e = cc

  -- the root is used
  pub root_used : is_used (inode_of nodes 1) ≡ true
  root_used = used_among nodes (nodes_used (blocks_inodes read 0 (index_at read at))) 1 ∙ root_among nodes met.root
    where
      root_among : (ns : List (ℕ × Inode)) → list_any (λ (node : ℕ × Inode). node.0 == 1 && is_directory node.1) ns ≡ true → is_among (map (λ (node : ℕ × Inode). node.0) ns) 1 ≡ true
      root_among [] any = cc
      root_among (node ∷ ns) any = by (node.0 == 1) (is_directory node.1) any (root_among ns)
        where
          by : (t u : Bool) → ((t && u) || list_any (λ (node : ℕ × Inode). node.0 == 1 && is_directory node.1) ns) ≡ true → (list_any (λ (node : ℕ × Inode). node.0 == 1 && is_directory node.1) ns ≡ true → is_among (map (λ (node : ℕ × Inode). node.0) ns) 1 ≡ true)
              → (t || is_among (map (λ (node : ℕ × Inode). node.0) ns) 1) ≡ true
          by true u any more = refl
          by false u any more = more any

  pub used_limits : (n : ℕ) → is_used (inode_of nodes n) ≡ true → (1 ≤ n) × (n ≤ 65535)
  used_limits n used = nodes_limits read at met.shapes n (sym (used_among nodes (nodes_used (blocks_inodes read 0 (index_at read at))) n) ∙ used)
