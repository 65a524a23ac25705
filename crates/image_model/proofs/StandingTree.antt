-- What an image stands for is a tree, in all that is asked of a tree.
use Rattle.std.proofs.Common.{◌≡◌, ℕ, zero, suc, ◌≤◌, Bool, true, false, not, cond, List, [], ◌∷◌, ◌++◌, length, drop, take, map, Some, None, refl, sym, ap, subst, ◌∙◌, arith}
use Rattle.std.specs.Prelude.{◌==◌, ◌&&◌, ◌||◌, nat_eq, nat_le, ◌*◌, Option, option_and_then, Contains, count_by}
use Rattle.std.specs.List.{AllByRecursion, cons_option, list_any, list_all, filter_map}
use Rattle.std.proofs.lemmas.Bool.{eqb-true}
use Rattle.std.proofs.lemmas.Bool.Decides.{nat_tests}
use Rattle.vol_numbers.specs.Layout.{Layout, count_blocks}
use Rattle.root_switch.specs.Current.{root_of_image}
use Rattle.block_format.specs.Inode.{blocks_of, inode_shape, node_fits}
use Rattle.block_format.specs.declared.inode.Inode.{Inode}
use Rattle.block_format.specs.declared.inode.Inode.TheVariants.{Unused, File, Directory}
use Rattle.block_format.specs.declared.slot.Slot.{Slot}
use Rattle.block_format.specs.declared.slot.Slot.TheVariants as slots
use Rattle.block_tree.specs.Tree.{Blocks, blocks_in}
use Rattle.place_words.specs.Different.{is_among, Distinct}
use Rattle.place_words.proofs.Counting.{distinct_count}
use Rattle.place_words.proofs.Totals.{different_part}
use Rattle.dir_slots.specs.Slots.{number_in}
use Rattle.tree_model.specs.Order.{IsOrdered}
use Rattle.tree_model.specs.Path.{Path, strip}
use Rattle.tree_model.specs.Shape.{IsShape, IsTree, shape_of, shape_at}
use Rattle.tree_model.specs.Tree.{Tree, node_at, is_directory as is_directory_node, entry_below, entries_of, kind_of}
use Rattle.tree_model.specs.declared.node.Node.{Node}
use Rattle.tree_model.specs.declared.node.Content.{Content}
use Rattle.tree_model.specs.declared.node.Content.TheVariants as tree
use Rattle.tree_model.specs.declared.reply.Entry.{Entry}
use Rattle.tree_model.proofs.Fronts.{strip_is}
use Rattle.image_model.specs.Trees.{StandingTree}
use Rattle.image_model.specs.Nodes.{is_empty, is_slot_spelled, has_twin, number_named}
use Rattle.image_model.specs.Seen.{Seen, seen, seen_from}
use Rattle.image_model.specs.Slots.{slot_pieces, slots_of, inode_of, number_along}
use Rattle.image_model.specs.Sound.{IsNamed, IsSound}
use Rattle.image_model.specs.Stands.{bytes_from, node_of, node_along, layout_in}
use Rattle.image_model.specs.Walk.{is_used, is_directory, nodes_at}
use Rattle.image_model.proofs.InodeWalk.{HasShapes}
use Rattle.image_model.proofs.NameExact.{number_among, different_most}
use Rattle.image_model.proofs.NamedLaws.{NodesKnown}
use Rattle.image_model.proofs.Naming.{met, last_step}
use Rattle.image_model.proofs.NodesSeen.{known}
use Rattle.image_model.proofs.NodePlaces.{numbers, numbers_distinct, directory_pairs}
use Rattle.image_model.proofs.NodeWalk.{WalkMet}
use Rattle.image_model.proofs.SpaceLaws.{file_length, node_there}
use Rattle.image_model.proofs.TreeNodes.{keys, Leads, leads, all_lead, keys_distinct}

-- ---- nodes

pub shape_there : (ns : List (ℕ × Inode)) → HasShapes ns → (n : ℕ) → is_used (inode_of ns n) ≡ true → inode_shape (inode_of ns n) ≡ true
shape_there [] shapes n used = cc
shape_there (node ∷ ns) shapes n used = by (node.0 == n) used (shape_there ns shapes.1 n)
  where
    by : (t : Bool) → is_used (cond t node.1 (inode_of ns n)) ≡ true → (is_used (inode_of ns n) ≡ true → inode_shape (inode_of ns n) ≡ true) → inode_shape (cond t node.1 (inode_of ns n)) ≡ true
    by true used more = shapes.0.0
    by false used more = more used

pub first_test : (a b : Bool) → (a && b) ≡ true → a ≡ true
first_test true b e = refl
first_test false b e = cc

abbrev pub node_with : ℕ → Content → Node
node_with n c = record { number = n; content = c }

pub content_is : (n : ℕ) (c d : Content) → Some (node_with n c) ≡ Some (node_with n d) → c ≡ d
content_is n c d e = let same : node_with n c ≡ node_with n d = cc in ap (λ (x : Node). x.content) same

pub file_same : (a b : List ℕ) → tree.File a ≡ tree.File b → a ≡ b
file_same a b e = cc

pub width_same : (v w : ℕ) → tree.Directory v ≡ tree.Directory w → v ≡ w
width_same v w e = cc

pub apart : (bytes : List ℕ) (w : ℕ) → tree.File bytes ≡ tree.Directory w → ⊥
apart bytes w e = cc

-- a file's size, or a directory's width, is within the limit
abbrev pub HasLimit : Inode → Type 0
HasLimit Unused = Unit {0}
HasLimit (File size height ptr) = size ≤ 4294967296
HasLimit (Directory width height ptr) = width ≤ 65534

-- of a directory's node the width, and of a file's the size, are within their limits
wide : (s : Seen) (n : ℕ) (x : Inode) (width : ℕ) → HasLimit x → node_of s n x ≡ Some (record { number = n; content = tree.Directory width }) → (is_directory x ≡ true) × (width ≤ 65534)
wide s n Unused width shape is = cc
wide s n (File size height ptr) width shape is = absurd (apart (take size (bytes_from s.contents n 0 (blocks_of size))) width (content_is n _ _ is))
wide s n (Directory w height ptr) width shape is =
    let same : w ≡ width = width_same w width (content_is n _ _ is) in
    (refl, omega (arith, same, shape))

long : (s : Seen) (n : ℕ) (x : Inode) (bytes : List ℕ) → HasLimit x → node_of s n x ≡ Some (record { number = n; content = tree.File bytes }) → length bytes ≤ 4294967296
long s n Unused bytes shape is = cc
long s n (File size height ptr) bytes shape is =
    let same : take size (bytes_from s.contents n 0 (blocks_of size)) ≡ bytes = file_same _ _ (content_is n _ _ is) in
    omega (arith, ap (λ (xs : List ℕ). length xs) same, file_length s.contents n size, shape)
long s n (Directory w height ptr) bytes shape is = absurd (apart bytes w (sym (content_is n _ _ is)))

directory_shape : (s : Seen) (n : ℕ) (x : Inode) → is_directory x ≡ true → shape_of (node_of s n x) ≡ Some (n, true)
directory_shape s n Unused d = cc
directory_shape s n (File size height ptr) d = cc
directory_shape s n (Directory width height ptr) d = refl

-- ---- paths

along_split : (s : Seen) (front rest : Path) (n : ℕ) → number_along s n (front ++ rest) ≡ option_and_then (λ d. number_along s d rest) (number_along s n front)
along_split s [] rest n = refl
along_split s (name ∷ front) rest n = by (number_in (slots_of s n) name) (λ m. along_split s front rest m)
  where
    by : (o : Option ℕ) → ((m : ℕ) → number_along s m (front ++ rest) ≡ option_and_then (λ d. number_along s d rest) (number_along s m front))
        → option_and_then (λ m. number_along s m (front ++ rest)) o ≡ option_and_then (λ d. number_along s d rest) (option_and_then (λ m. number_along s m front) o)
    by None more = refl
    by (Some m) more = more m

some_before : (o : Option ℕ) (f : ℕ → Option ℕ) (n : ℕ) → option_and_then f o ≡ Some n → (d : ℕ) × (o ≡ Some d) × (f d ≡ Some n)
some_before None f n is = cc
some_before (Some d) f n is = (d, refl, is)

some_shape : (o : Option Node) (x : ℕ × Bool) → shape_of o ≡ Some x → (node : Node) × (o ≡ Some node) × (node.number ≡ x.0)
some_shape None x is = cc
some_shape (Some node) x is = let e : (node.number, is_directory_node node) ≡ x = cc in (node, refl, ap (λ (y : ℕ × Bool). y.0) e)

-- ---- entries

abbrev entry_of : Path → Path × Node → Option Entry
entry_of path e = entry_below (strip path e.0) e.1

abbrev entry_numbers : Path → Tree → List ℕ
entry_numbers path es = map (λ (x : Entry). x.number) (filter_map (entry_of path) es)

-- an entry has the number of its node, one name further
entry_is : (path : Path) (e : Path × Node) (x : Entry) → entry_of path e ≡ Some x → (name : List ℕ) × (e.0 ≡ path ++ name ∷ []) × (x.number ≡ e.1.number)
entry_is path e x is = by (strip path e.0) refl is
  where
    by : (o : Option Path) → strip path e.0 ≡ o → entry_below o e.1 ≡ Some x → (name : List ℕ) × (e.0 ≡ path ++ name ∷ []) × (x.number ≡ e.1.number)
    by None at is = cc
    by (Some []) at is = cc
    by (Some (name ∷ [])) at is = let same : record { kind = kind_of e.1.content; number = e.1.number; name = name } ≡ x = cc in (name, strip_is path e.0 (name ∷ []) at, sym (ap (λ (y : Entry). y.number) same))
    by (Some (name ∷ next ∷ names)) at is = cc

or_either : (a b c d : Bool) → (a ≡ true → c ≡ true) → (b ≡ true → d ≡ true) → (a || b) ≡ true → (c || d) ≡ true
or_either true b true d f g e = refl
or_either true b false d f g e = let bad : false ≡ true = f refl in cc
or_either false b true d f g e = refl
or_either false b false d f g e = g e

or_later : (a b : Bool) → b ≡ true → (a || b) ≡ true
or_later true b e = refl
or_later false b e = e

among_keys : (path : Path) (es : Tree) (k : ℕ) → is_among (entry_numbers path es) k ≡ true → is_among (keys es) k ≡ true
among_keys path [] k among = among
among_keys path (e ∷ es) k among = by (entry_of path e) refl (among_keys path es k) among
  where
    by : (o : Option Entry) → entry_of path e ≡ o → (is_among (entry_numbers path es) k ≡ true → is_among (keys es) k ≡ true) → is_among (map (λ (x : Entry). x.number) (cons_option o (filter_map (entry_of path) es))) k ≡ true → is_among (keys (e ∷ es)) k ≡ true
    by None is more among = or_later (nat_eq e.1.number k) _ (more among)
    by (Some x) is more among = or_either (nat_eq x.number k) _ (nat_eq e.1.number k) _ (λ same. ap (λ (n : ℕ). nat_eq n k) (sym (entry_is path e x is).2) ∙ same) more among

numbers_apart : (path : Path) (es : Tree) → Distinct (keys es) → Distinct (entry_numbers path es)
numbers_apart path [] distinct = tt
numbers_apart path (e ∷ es) distinct = by (entry_of path e) refl (numbers_apart path es distinct.1)
  where
    out : (n : ℕ) → n ≡ e.1.number → (t : Bool) → is_among (entry_numbers path es) n ≡ t → is_among (entry_numbers path es) n ≡ false
    out n same true is = let there : is_among (keys es) e.1.number ≡ true = subst (λ (k : ℕ). is_among (keys es) k ≡ true) same (among_keys path es n is) in let no = distinct.0 in cc
    out n same false is = is

    by : (o : Option Entry) → entry_of path e ≡ o → Distinct (entry_numbers path es) → Distinct (map (λ (x : Entry). x.number) (cons_option o (filter_map (entry_of path) es)))
    by None is more = more
    by (Some x) is more = (out x.number (entry_is path e x is).2 _ refl, more)

-- where all slots from a width on are empty, no more numbers are named
named_most : (ss : List Slot) (width : ℕ) → list_all is_empty (drop width ss) ≡ true → length (filter_map number_named ss) ≤ width
named_most [] width empty = omega arith
named_most (slots.Unused ∷ ss) zero empty = named_most ss zero empty
named_most (slots.Entry number name ∷ ss) zero empty = cc
named_most (slots.Unused ∷ ss) (suc width) empty = omega (arith, named_most ss width empty)
named_most (slots.Entry number name ∷ ss) (suc width) empty = omega (arith, named_most ss width empty)

third_test : (a b c d : Bool) → (((a || b) || not c) || d) ≡ false → c ≡ true
third_test a b true d e = refl
third_test true b false d e = cc
third_test false true false d e = cc
third_test false false false d e = cc

-- ---- nodes that are known

-- no entry of a directory comes behind its width
abbrev pub HasNoneBehind : Seen → ℕ → Inode → Type 0
HasNoneBehind s n Unused = Unit {0}
HasNoneBehind s n (File size height ptr) = Unit {0}
HasNoneBehind s n (Directory width height ptr) = list_all is_empty (drop width (slots_of s n)) ≡ true

module _ (s : Seen) (facts : NodesKnown s) (limited : (n : ℕ) → HasLimit (inode_of s.nodes n)) (behind : (n : ℕ) → HasNoneBehind s n (inode_of s.nodes n)) (named : IsNamed s)
    (t : Tree) (ordered : IsOrdered t) (same : (path : Path) → node_at t path ≡ node_along s path) where
  abbrev nodes : List (ℕ × Inode)
  nodes = s.nodes

  lead : (path : Path) (node : Node) → node_at t path ≡ Some node → Leads s path node
  lead path node is = leads s path node (sym (same path) ∙ is)

  used : (path : Path) (node : Node) → node_at t path ≡ Some node → is_used (inode_of nodes node.number) ≡ true
  used path node is = named.used path node.number (lead path node is).number

  directory_at : (path : Path) (d : ℕ) → number_along s 1 path ≡ Some d → is_directory (inode_of nodes d) ≡ true → shape_at t path ≡ Some (d, true)
  directory_at path d along is = ap shape_of (same path ∙ ap (option_and_then (λ n. node_of s n (inode_of s.nodes n))) along) ∙ directory_shape s d (inode_of nodes d) is

  has_slots : (d : ℕ) (name : List ℕ) (n : ℕ) → number_in (slots_of s d) name ≡ Some n → is_directory (inode_of nodes d) ≡ true
  has_slots d name n found = by (is_directory (inode_of nodes d)) refl
    where
      by : (u : Bool) → is_directory (inode_of nodes d) ≡ u → is_directory (inode_of nodes d) ≡ true
      by true is = is
      by false is = let none : number_in (slots_of s d) name ≡ None = ap (λ (ss : List Slot). number_in ss name) (facts.others d is) in cc

  shape : IsShape (shape_at t)
  shape = record {
    root = directory_at [] 1 refl facts.root;
    fronts = λ front name rest x is.
        let node = some_shape (node_at t (front ++ name ∷ rest)) x is in
        let along = sym (along_split s front (name ∷ rest) 1) ∙ (lead (front ++ name ∷ rest) node.0 node.1).number in
        let d = some_before (number_along s 1 front) (λ d. number_along s d (name ∷ rest)) node.0.number along in
        let next = some_before (number_in (slots_of s d.0) name) (λ m. number_along s m rest) node.0.number d.2 in
        (d.0, directory_at front d.0 d.1 (has_slots d.0 name next.0 next.1));
    one_path = λ p q number a b is other.
        let m = some_shape (node_at t p) (number, a) is in
        let n = some_shape (node_at t q) (number, b) other in
        named.one_path p q number ((lead p m.0 m.1).number ∙ ap (λ (k : ℕ). Some k) m.2) ((lead q n.0 n.1).number ∙ ap (λ (k : ℕ). Some k) n.2);
    numbered = λ path x is.
        let node = some_shape (node_at t path) x is in
        let limits = facts.limits node.0.number (used path node.0 node.1) in
        (omega (arith, node.2, limits.0), omega (arith, node.2, limits.1));
  }

  -- the entries of a directory are named in its slots
  entries_named : (path : Path) (n : ℕ) → number_along s 1 path ≡ Some n → (es : Tree) → AllByRecursion (λ (e : Path × Node). Leads s e.0 e.1) es → (k : ℕ) → is_among (entry_numbers path es) k ≡ true
      → is_among (filter_map number_named (slots_of s n)) k ≡ true
  entries_named path n along [] all k among = cc
  entries_named path n along (e ∷ es) all k among = by (entry_of path e) refl (entries_named path n along es all.1 k) among
    where
      here : (x : Entry) → entry_of path e ≡ Some x → is_among (filter_map number_named (slots_of s n)) x.number ≡ true
      here x is =
          let entry = entry_is path e x is in
          let led = sym (last_step s path 1 entry.0) ∙ ap (number_along s 1) (sym entry.1) ∙ all.0.number in
          let found : number_in (slots_of s n) entry.0 ≡ Some e.1.number = sym (ap (option_and_then (λ d. number_in (slots_of s d) entry.0)) along) ∙ led in
          number_among (slots_of s n) entry.0 x.number (found ∙ ap (λ (m : ℕ). Some m) (sym entry.2))

      either : (u : Bool) (x : Entry) → entry_of path e ≡ Some x → nat_eq x.number k ≡ u → (is_among (entry_numbers path es) k ≡ true → is_among (filter_map number_named (slots_of s n)) k ≡ true) → (u || is_among (entry_numbers path es) k) ≡ true
          → is_among (filter_map number_named (slots_of s n)) k ≡ true
      either true x is equal more among = let e : x.number ≡ k = grind (arith, nat_tests) in subst (λ (m : ℕ). is_among (filter_map number_named (slots_of s n)) m ≡ true) e (here x is)
      either false x is equal more among = more among

      by : (o : Option Entry) → entry_of path e ≡ o → (is_among (entry_numbers path es) k ≡ true → is_among (filter_map number_named (slots_of s n)) k ≡ true) → is_among (map (λ (x : Entry). x.number) (cons_option o (filter_map (entry_of path) es))) k ≡ true → is_among (filter_map number_named (slots_of s n)) k ≡ true
      by None is more among = more among
      by (Some x) is more among = either (nat_eq x.number k) x is refl more among

  numbers_long : (xs : List Entry) → length (map (λ (x : Entry). x.number) xs) ≡ length xs
  numbers_long [] = refl
  numbers_long (x ∷ xs) = ap suc (numbers_long xs)

  entries_fit : (path : Path) (number width : ℕ) → node_at t path ≡ Some (record { number = number; content = tree.Directory width }) → (length (entries_of t path) ≤ width) × (width ≤ 65534)
  entries_fit path number width is =
      let led = lead path (record { number = number; content = tree.Directory width }) is in
      let fits = wide s number (inode_of nodes number) width (limited number) led.inode in
      let empty = empty_from (inode_of nodes number) led.inode (behind number) in
      let named_here = filter_map number_named (slots_of s number) in
      let apart = distinct_count (entry_numbers path t) (numbers_apart path t (keys_distinct s t ordered same named)) in
      let part = different_part (entry_numbers path t) named_here (entries_named path number led.number t (all_lead s t ordered same named)) in
      (omega (arith, numbers_long (entries_of t path), apart, part, different_most named_here, named_most (slots_of s number) width empty), fits.1)
    where
      empty_from : (x : Inode) → node_of s number x ≡ Some (record { number = number; content = tree.Directory width }) → HasNoneBehind s number x → list_all is_empty (drop width (slots_of s number)) ≡ true
      empty_from Unused is none = cc
      empty_from (File size height ptr) is none = absurd (apart (take size (bytes_from s.contents number 0 (blocks_of size))) width (content_is number _ _ is))
      empty_from (Directory w height ptr) is none =
          let equal : w ≡ width = width_same w width (content_is number _ _ is) in
          subst (λ (k : ℕ). list_all is_empty (drop k (slots_of s number)) ≡ true) equal none

  pub known_tree : IsTree t
  known_tree = record {
    ordered = ordered;
    shape = shape;
    widths = entries_fit;
    sizes = λ path number bytes is.
        let led = lead path (record { number = number; content = tree.File bytes }) is in
        long s number (inode_of nodes number) bytes (limited number) led.inode;
  }

-- ---- an image that is sound

shape_limit : (x : Inode) → inode_shape x ≡ true → HasLimit x
shape_limit Unused shape = tt
shape_limit (File size height ptr) shape = let low : nat_le size 4294967296 ≡ true = first_test (nat_le size 4294967296) (node_fits size height ptr) shape in grind (arith, nat_tests)
shape_limit (Directory width height ptr) shape = let low : nat_le width 65534 ≡ true = first_test (nat_le width 65534) (node_fits (256 * width) height ptr) shape in grind (arith, nat_tests)

module _ (read : Blocks) (at : ℕ) (homes : List ℕ) (count : ℕ) (g : Layout) (sound : IsSound g (seen_from read at homes count)) (t : Tree) (ordered : IsOrdered t)
    (same : (path : Path) → node_at t path ≡ node_along (seen_from read at homes count) path) where
  abbrev seen_here : Seen
  seen_here = seen_from read at homes count

  abbrev nodes_here : List (ℕ × Inode)
  nodes_here = nodes_at read at

  walked : WalkMet read at
  walked = met read at homes count g sound.pointers sound.directories

  limited_here : (n : ℕ) → HasLimit (inode_of nodes_here n)
  limited_here n = by (is_used (inode_of nodes_here n)) refl
    where
      unused : (x : Inode) → is_used x ≡ false → HasLimit x
      unused Unused e = tt
      unused (File size height ptr) e = cc
      unused (Directory width height ptr) e = cc

      by : (u : Bool) → is_used (inode_of nodes_here n) ≡ u → HasLimit (inode_of nodes_here n)
      by true is = shape_limit (inode_of nodes_here n) (shape_there nodes_here walked.shapes n is)
      by false is = unused (inode_of nodes_here n) is

  behind_here : (n : ℕ) → HasNoneBehind seen_here n (inode_of nodes_here n)
  behind_here n = by (inode_of nodes_here n) refl
    where
      by : (x : Inode) → inode_of nodes_here n ≡ x → HasNoneBehind seen_here n x
      by Unused is = tt
      by (File size height ptr) is = tt
      by (Directory w height ptr) is =
          let there : Contains nodes_here (n, Directory w height ptr) = subst (λ (x : Inode). Contains nodes_here (n, x)) is (node_there nodes_here n (ap is_used is)) in
          third_test (not (count_by (λ h. h.number == n) seen_here.pages == blocks_of (256 * w))) (not (list_all (λ p. is_slot_spelled p.0 p.1) (slot_pieces seen_here.pages n))) (list_all is_empty (drop w (slots_of seen_here n)))
          (has_twin (slots_of seen_here n)) (sound.directories (n, Directory w height ptr) there)

  pub is_tree : IsTree t
  is_tree = known_tree seen_here (known read at homes count g sound.pointers sound.directories) limited_here behind_here sound.named t ordered same

pub standing_tree : StandingTree
unfolding seen
standing_tree image s stands =
    is_tree (blocks_in image) (root_of_image image).inode_index (root_of_image image).homes (count_blocks (layout_in image)) (layout_in image) stands.sound s.tree stands.shows.ordered stands.shows.tree
