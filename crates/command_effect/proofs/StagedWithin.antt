-- Staging the effect of a change keeps what is staged within the rules: numbers, dirty places and the sizes of files.
use Rattle.std.proofs.Common.{◌≡◌, ℕ, ◌+◌, ◌*◌, ◌/◌, ◌<◌, ◌≤◌, Bool, true, false, cond, List, [], ◌∷◌, ◌++◌, length, map, Some, None, refl, sym, ap, subst, ◌∙◌, arith}
use Rattle.std.specs.Prelude.{◌&&◌, ◌||◌, filter, is_some, nat_eq, nat_le, max, All, Option, if◌then◌else◌}
use Rattle.std.specs.FinMap.{find, put}
use Rattle.std.specs.FinMap.Entries.{by_order}
use Rattle.std.specs.Ordering.{nat_cmp}
use Rattle.std.specs.declared.cmp.Ordering.{Ordering}
use Rattle.std.specs.declared.cmp.Ordering.TheVariants.{Less, Equal, Greater}
use Rattle.std.proofs.lemmas.Bool.{eqb-true}
use Rattle.std.proofs.lemmas.Bool.Decides.{nat_tests}
use Rattle.std.proofs.lemmas.List.Elements.{All-nil, All-cons, All-head, All-tail, All-append}
use Rattle.vol_numbers.specs.declared.block.Block.{Block}
use Rattle.block_format.specs.Inode.{blocks_of}
use Rattle.block_format.specs.declared.inode.Inode.{Inode}
use Rattle.block_format.specs.declared.inode.Inode.TheVariants as inodes
use Rattle.block_format.specs.declared.slot.Slot.{Slot}
use Rattle.dirty_store.specs.Entries.{Entries, all_put, cut_at, uncut}
use Rattle.dirty_store.specs.Laws.{dirty_spots, touched_with, first_of_two}
use Rattle.dirty_store.specs.Numbers.{numbers_in, staged_numbers}
use Rattle.dirty_store.specs.Overlay.{Overlay, node_of, node_after, cut_of, forgotten, touched_entries, slot_entries, staged}
use Rattle.dirty_store.specs.declared.effect.Effect.{Effect}
use Rattle.dirty_store.specs.declared.effect.SlotChange.{SlotChange}
use Rattle.dirty_store.specs.declared.effect.Touched.{Touched}
use Rattle.dirty_store.specs.declared.node_change.NodeChange.{NodeChange}
use Rattle.dirty_store.proofs.SlotLaws.{own_node, other_node}
use Rattle.dirty_store.proofs.StagedLaws.{cut_is, other_is}
use Rattle.node_table.specs.Changes.{Does, IsMade, IsSized, IsRemoved, IsRenamed, IsChangeWithin, IsNumber}
use Rattle.node_table.specs.Held.{Nodes, held, slots_of}
use Rattle.node_table.specs.declared.change.Change.{Change}
use Rattle.node_table.specs.declared.change.Change.TheVariants.{Made, Sized, Removed, Renamed}
use Rattle.node_table.specs.declared.held.HeldNode.{HeldNode}
use Rattle.node_table.specs.declared.held.HeldNode.TheVariants.{File, Directory}
use Rattle.point_model.specs.Holding.{staged_or, as_node}
use Rattle.point_model.specs.NodeChanges.{number_of, slot_changes, CutsFor}
use Rattle.point_model.proofs.ChangeFollows.{NodeFollows, set_here, renamed_follows}
use Rattle.point_plan.specs.State.{size_in}
use Rattle.command_effect.specs.Effects.{CutsToSize}
use Rattle.command_effect.proofs.StagedTable.{inode_over}
use Rattle.tree_model.specs.Path.{Path}
use Rattle.tree_model.specs.declared.command.Command.{Command}
use Rattle.tree_model.specs.declared.command.Command.TheVariants.{Mkdir, Create, Write, Truncate, Remove, Rename, Read, List as ListOf, Stat, Layout, Space, Checkpoint, End}
use Rattle.volume_model.specs.Done.{Cut, is_cut}
use Rattle.volume_model.specs.Places.{Spot, spot_cmp, spot_eq, has_spot}
use Rattle.volume_model.proofs.PlacesTold.{tie_is}

-- ---- numbers

module _ (P : ℕ → Type 0) where
  put_numbers : {T : Type 0} → (s : Spot) (item : T) (es : Entries T) → P s.0 → All P (numbers_in es) → All P (numbers_in (put spot_cmp s item es))
  put_numbers s item [] here all = All-cons P s.0 [] here all
  put_numbers {T} s item (e ∷ es) here all = by (spot_cmp s e.0) (put_numbers s item es here (All-tail P e.0.0 (numbers_in es) all))
    where
      by : (r : Ordering) → All P (numbers_in (put spot_cmp s item es)) → All P (numbers_in (by_order r ((s, item) ∷ e ∷ es) ((e.0, item) ∷ es) (e ∷ put spot_cmp s item es)))
      by Less more = All-cons P s.0 (numbers_in (e ∷ es)) here all
      by Equal more = all
      by Greater more = All-cons P e.0.0 (numbers_in (put spot_cmp s item es)) (All-head P e.0.0 (numbers_in es) all) more

  all_put_numbers : {T : Type 0} → (new es : Entries T) → All P (numbers_in new) → All P (numbers_in es) → All P (numbers_in (all_put new es))
  all_put_numbers [] es first all = all
  all_put_numbers (e ∷ new) es first all =
      all_put_numbers new (put spot_cmp e.0 e.1 es) (All-tail P e.0.0 (numbers_in new) first) (put_numbers e.0 e.1 es (All-head P e.0.0 (numbers_in new) first) all)

  kept_numbers : {T : Type 0} → (test : Spot × T → Bool) (es : Entries T) → All P (numbers_in es) → All P (numbers_in (filter test es))
  kept_numbers test [] all = all
  kept_numbers {T} test (e ∷ es) all = by (test e) (kept_numbers test es (All-tail P e.0.0 (numbers_in es) all))
    where
      by : (t : Bool) → All P (numbers_in (filter test es)) → All P (numbers_in (cond t (e ∷ filter test es) (filter test es)))
      by true more = All-cons P e.0.0 (numbers_in (filter test es)) (All-head P e.0.0 (numbers_in es) all) more
      by false more = more

  put_node_number : (n : ℕ) (node : NodeChange) (ns : List (ℕ × NodeChange)) → P n → All P (map (λ e. e.0) ns) → All P (map (λ e. e.0) (put nat_cmp n node ns))
  put_node_number n node [] here all = All-cons P n [] here all
  put_node_number n node (e ∷ es) here all = by (nat_cmp n e.0) (put_node_number n node es here (All-tail P e.0 (map (λ e. e.0) es) all))
    where
      by : (r : Ordering) → All P (map (λ e. e.0) (put nat_cmp n node es)) → All P (map (λ e. e.0) (by_order r ((n, node) ∷ e ∷ es) ((e.0, node) ∷ es) (e ∷ put nat_cmp n node es)))
      by Less more = All-cons P n (map (λ e. e.0) (e ∷ es)) here all
      by Equal more = all
      by Greater more = All-cons P e.0 (map (λ e. e.0) (put nat_cmp n node es)) (All-head P e.0 (map (λ e. e.0) es) all) more

  touched_numbers : (n : ℕ) (ts : List Touched) → P n → All P (numbers_in (touched_entries n ts))
  touched_numbers n [] here = All-nil P
  touched_numbers n (t ∷ ts) here = All-cons P n (numbers_in (touched_entries n ts)) here (touched_numbers n ts here)

  front : (xs ys : List ℕ) → All P (xs ++ ys) → All P xs
  front [] ys all = All-nil P
  front (x ∷ xs) ys all = All-cons P x xs (All-head P x (xs ++ ys) all) (front xs ys (All-tail P x (xs ++ ys) all))

  back : (xs ys : List ℕ) → All P (xs ++ ys) → All P ys
  back [] ys all = all
  back (x ∷ xs) ys all = back xs ys (All-tail P x (xs ++ ys) all)

  pub numbers_after : (o : Overlay) (e : Effect) → P e.number → All P (numbers_in (slot_entries e.slots)) → All P (staged_numbers o) → All P (staged_numbers (staged o e))
  numbers_after o e here slots all =
      let blocks = front (numbers_in o.blocks) (map (λ n. n.0) o.nodes ++ numbers_in o.slots) all in
      let rest = back (numbers_in o.blocks) (map (λ n. n.0) o.nodes ++ numbers_in o.slots) all in
      All-append P (numbers_in (staged o e).blocks) (map (λ n. n.0) (staged o e).nodes ++ numbers_in (staged o e).slots)
      (all_put_numbers (touched_entries e.number e.touched) (uncut (cut_of e) o.blocks) (touched_numbers e.number e.touched here) (kept_numbers _ o.blocks blocks))
      (All-append P (map (λ n. n.0) (staged o e).nodes) (numbers_in (staged o e).slots)
      (put_node_number e.number (node_after e.inode e.cut_to (node_of o e.number)) o.nodes here (front (map (λ n. n.0) o.nodes) (numbers_in o.slots) rest))
      (all_put_numbers (slot_entries e.slots) (uncut (forgotten e) o.slots) slots (kept_numbers _ o.slots (back (map (λ n. n.0) o.nodes) (numbers_in o.slots) rest))))

-- the numbers of a change are within the rules, and so are those of its slots
pub number_within : (change : Change) → IsChangeWithin change → IsNumber (number_of change)
number_within (Made parent slot number) within = within.2
number_within (Sized number size) within = within.0
number_within (Removed parent slot number) within = within.2
number_within (Renamed number from from_slot to to_slot) within = within.0

pub slots_within : (change : Change) (name : List ℕ) → IsChangeWithin change → All IsNumber (numbers_in (slot_entries (slot_changes change name)))
slots_within (Made parent slot number) name within = All-cons IsNumber parent [] within.0 (All-nil IsNumber)
slots_within (Sized number size) name within = All-nil IsNumber
slots_within (Removed parent slot number) name within = All-cons IsNumber parent [] within.0 (All-nil IsNumber)
slots_within (Renamed number from from_slot to to_slot) name within = All-cons IsNumber from (to ∷ []) within.1 (All-cons IsNumber to [] within.3 (All-nil IsNumber))

-- ---- sizes

-- a file's size, and 0 of any other
abbrev pub size_held : Option HeldNode → ℕ
size_held None = 0
size_held (Some (File size)) = size
size_held (Some (Directory slots)) = 0

pub size_is : (x : Inode) (slots : List Slot) → size_in x ≡ size_held (as_node x slots)
size_is inodes.Unused slots = refl
size_is (inodes.File size height ptr) slots = refl
size_is (inodes.Directory width height ptr) slots = refl

size_follows : (before after : Option HeldNode) (touched : ℕ → Bool) → NodeFollows before after touched → size_held after ≡ size_held before
size_follows None after touched f = sym (ap size_held (f.kind inodes.Unused refl))
size_follows (Some (File size)) after touched f = sym (ap size_held (f.kind (inodes.File size 0 0) refl))
size_follows (Some (Directory slots)) after touched f = sym (ap size_held (f.kind (inodes.Directory 0 0 0) refl))

-- The size stays within the greatest, and a place that was below it and isn't cut off is so after.
pub record SizeFollows (before after : Option HeldNode) (number : ℕ) (cut : Option ℕ) : Type 0 where
  pub within : size_held before ≤ 4294967296 → size_held after ≤ 4294967296
  pub places : (p : ℕ) → is_cut (cut_at number cut) (number, p) ≡ false → p < blocks_of (size_held before) → p < blocks_of (size_held after)

cut_all : (number p : ℕ) → is_cut (cut_at number (Some 0)) (number, p) ≡ true
cut_all number p = grind (arith, nat_tests)

not_cut : (number blocks p : ℕ) → is_cut (cut_at number (Some blocks)) (number, p) ≡ false → p < blocks
not_cut number blocks p is = grind (arith, nat_tests)

module _ (before after : Nodes) (cut : Option ℕ) where
  -- a number that is cut to no block and has no byte
  no_byte : (number : ℕ) (now : Option HeldNode) → held after number ≡ now → size_held now ≡ 0 → cut ≡ Some 0 → SizeFollows (held before number) (held after number) number cut
  no_byte number now is none gone = record {
    within = λ le. omega (arith, ap size_held is, none);
    places = λ p not below. absurd (never p not);
  }
    where
      never : (p : ℕ) → is_cut (cut_at number cut) (number, p) ≡ false → ⊥
      never p not = let clash : true ≡ false = sym (cut_all number p) ∙ sym (ap (λ (c : Option ℕ). is_cut (cut_at number c) (number, p)) gone) ∙ not in cc

  of_made : (path : Path) (fresh : HeldNode) (change : Change) → size_held (Some fresh) ≡ 0 → IsMade path fresh change before after → CutsFor change cut
      → SizeFollows (held before (number_of change)) (held after (number_of change)) (number_of change) cut
  of_made path fresh (Made parent slot number) none m cuts = no_byte number (Some fresh) (set_here m.between after number (Some fresh) m.node) none cuts
  of_made path fresh (Sized number size) none m cuts = absurd m
  of_made path fresh (Removed parent slot number) none m cuts = absurd m
  of_made path fresh (Renamed number from from_slot to to_slot) none m cuts = absurd m

  of_sized : (path : Path) (size_after : ℕ → ℕ) (change : Change) → IsSized path size_after change before after → IsChangeWithin change
      → ((number was p : ℕ) → is_cut (cut_at number cut) (number, p) ≡ false → p < blocks_of was → p < blocks_of (size_after was))
      → SizeFollows (held before (number_of change)) (held after (number_of change)) (number_of change) cut
  of_sized path size_after (Sized number size) m within grows =
      let was : size_held (held before number) ≡ m.before = ap size_held m.was in
      let now : size_held (held after number) ≡ size = ap size_held (set_here before after number (Some (File size)) m.node) in
      record {
        within = λ le. omega (arith, now, within.1);
        places = λ p not below.
            subst (λ (s : ℕ). p < blocks_of s) (sym (now ∙ m.size_is)) (grows number m.before p not (subst (λ (s : ℕ). p < blocks_of s) was below));
      }
  of_sized path size_after (Made parent slot number) m within grows = absurd m
  of_sized path size_after (Removed parent slot number) m within grows = absurd m
  of_sized path size_after (Renamed number from from_slot to to_slot) m within grows = absurd m

  of_removed : (path : Path) (change : Change) → IsRemoved path change before after → CutsFor change cut → SizeFollows (held before (number_of change)) (held after (number_of change)) (number_of change) cut
  of_removed path (Removed parent slot number) m cuts = no_byte number None (set_here m.between after number None m.node) refl cuts
  of_removed path (Made parent slot number) m cuts = absurd m
  of_removed path (Sized number size) m cuts = absurd m
  of_removed path (Renamed number from from_slot to to_slot) m cuts = absurd m

  of_renamed : (from to : Path) (change : Change) → IsRenamed from to change before after → SizeFollows (held before (number_of change)) (held after (number_of change)) (number_of change) cut
  of_renamed from to (Renamed number parent slot into into_slot) m =
      let same = size_follows (held before number) (held after number) _ (renamed_follows from to number parent slot into into_slot before after m).own in
      record {
        within = λ le. omega (arith, same, le);
        places = λ p not below. subst (λ (s : ℕ). p < blocks_of s) (sym same) below;
      }
  of_renamed from to (Made parent slot number) m = absurd m
  of_renamed from to (Sized number size) m = absurd m
  of_renamed from to (Removed parent slot number) m = absurd m

  pub size_after : (command : Command) (change : Change) → Does command change before after → IsChangeWithin change → CutsFor change cut → CutsToSize command cut
      → SizeFollows (held before (number_of change)) (held after (number_of change)) (number_of change) cut
  size_after (Mkdir path) change m within cuts to = of_made path (Directory []) change refl m cuts
  size_after (Create path) change m within cuts to = of_made path (File 0) change refl m cuts
  size_after (Write path offset bytes) change m within cuts to =
      of_sized path (λ was. max was (offset + length bytes)) change m within (λ number was p not below. more was (offset + length bytes) p below)
    where
      more : (a b p : ℕ) → p < blocks_of a → p < blocks_of (max a b)
      more a b p below = omega (arith, below)
  size_after (Truncate path size) change m within cuts to =
      of_sized path (λ _. size) change m within (λ number was p not below. not_cut number (blocks_of size) p (subst (λ (c : Option ℕ). is_cut (cut_at number c) (number, p) ≡ false) to not))
  size_after (Remove path) change m within cuts to = of_removed path change m cuts
  size_after (Rename from to) change m within cuts cut_is = of_renamed from to change m
  size_after (Read path offset len) change m within cuts to = absurd m
  size_after (ListOf path) change m within cuts to = absurd m
  size_after (Stat path) change m within cuts to = absurd m
  size_after (Layout path) change m within cuts to = absurd m
  size_after Space change m within cuts to = absurd m
  size_after Checkpoint change m within cuts to = absurd m
  size_after End change m within cuts to = absurd m

-- ---- dirty places

has_is : {T : Type 0} → (es : Entries T) (spot : Spot) → has_spot (map (λ e. e.0) es) spot ≡ is_some (find spot_cmp spot es)
has_is [] spot = refl
has_is (e ∷ es) spot = by (spot_eq e.0 spot) (has_is es spot) ∙ sym (ap (λ (t : Bool). is_some (cond t (Some e.1) (find spot_cmp spot es))) (tie_is spot e.0))
  where
    by : (t : Bool) → has_spot (map (λ e. e.0) es) spot ≡ is_some (find spot_cmp spot es) → (t || has_spot (map (λ e. e.0) es) spot) ≡ is_some (cond t (Some e.1) (find spot_cmp spot es))
    by true more = refl
    by false more = more

-- a place that is touched is one of those
touched_below : (ts : List Touched) (place limit : ℕ) (block : Block) → All (λ t. t.place < limit) ts → touched_with ts place ≡ Some block → place < limit
touched_below [] place limit block all is = cc
touched_below (t ∷ ts) place limit block all is =
    by (touched_with ts place) refl (nat_eq t.place place) refl (λ b. touched_below ts place limit b (All-tail (λ t. t.place < limit) t ts all))
  where
    by : (later : Option Block) → touched_with ts place ≡ later → (u : Bool) → nat_eq t.place place ≡ u → ((b : Block) → touched_with ts place ≡ Some b → place < limit) → place < limit
    by (Some b) later u here more = more b later
    by None later true here more =
        let first : t.place < limit = All-head (λ (t : Touched). t.place < limit) t ts all in
        omega (arith, first, eqb-true t.place place here)
    by None later false here more = let never : None ≡ Some block = sym (λ i. first_of_two (later i) (cond (here i) (Some t.block) None)) ∙ is in cc

module _ (inode : ℕ → Inode) (o : Overlay) (e : Effect) where
  inode_other : (n : ℕ) → nat_eq n e.number ≡ false → inode_over inode (staged o e) n ≡ inode_over inode o n
  inode_other n is = ap (λ c. staged_or c (inode n)) (other_node o e n is)

  inode_own : (n : ℕ) → nat_eq n e.number ≡ true → inode_over inode (staged o e) n ≡ e.inode
  inode_own n is = (λ i. staged_or (node_of (staged o e) (eqb-true n e.number is i)) (inode (eqb-true n e.number is i))) ∙ ap (λ c. staged_or c (inode e.number)) (own_node o e)

  pub sizes_after : (size_in (inode_over inode o e.number) ≤ 4294967296 → size_in e.inode ≤ 4294967296) → ((n : ℕ) → size_in (inode_over inode o n) ≤ 4294967296) → (n : ℕ) → size_in (inode_over inode (staged o e) n) ≤ 4294967296
  sizes_after here each n = by (nat_eq n e.number) refl
    where
      by : (t : Bool) → nat_eq n e.number ≡ t → size_in (inode_over inode (staged o e) n) ≤ 4294967296
      by true is = omega (arith, ap size_in (inode_own n is), here (each e.number))
      by false is = omega (arith, ap size_in (inode_other n is), each n)

  module _ (touched : All (λ t. t.place < blocks_of (size_in e.inode)) e.touched)
      (stays : (p : ℕ) → is_cut (cut_of e) (e.number, p) ≡ false → p < blocks_of (size_in (inode_over inode o e.number)) → p < blocks_of (size_in e.inode))
      (each : (spot : Spot) → has_spot (dirty_spots o) spot ≡ true → spot.1 < blocks_of (size_in (inode_over inode o spot.0))) where
    -- a place that was dirty, and isn't cut off
    left : (spot : Spot) → is_cut (cut_of e) spot ≡ false → has_spot (dirty_spots o) spot ≡ true → spot.1 < blocks_of (size_in (inode_over inode (staged o e) spot.0))
    left spot not was = by (nat_eq spot.0 e.number) refl
      where
        by : (t : Bool) → nat_eq spot.0 e.number ≡ t → spot.1 < blocks_of (size_in (inode_over inode (staged o e) spot.0))
        by true is =
            let same : spot.0 ≡ e.number = eqb-true spot.0 e.number is in
            let there : spot.1 < blocks_of (size_in (inode_over inode o e.number)) = subst (λ (n : ℕ). spot.1 < blocks_of (size_in (inode_over inode o n))) same (each spot was) in
            let here : is_cut (cut_of e) (e.number, spot.1) ≡ false = (λ i. is_cut (cut_of e) (sym same i, spot.1)) ∙ not in
            subst (λ (x : Inode). spot.1 < blocks_of (size_in x)) (sym (inode_own spot.0 is)) (stays spot.1 here there)
        by false is = subst (λ (x : Inode). spot.1 < blocks_of (size_in x)) (sym (inode_other spot.0 is)) (each spot was)

    -- a place that is cut off and not touched isn't dirty
    not_dirty : (spot : Spot) (c : Option ℕ) → e.cut_to ≡ c → is_cut (cut_at e.number c) spot ≡ true → (spot.0 ≡ e.number → touched_with e.touched spot.1 ≡ None) → find spot_cmp spot (staged o e).blocks ≡ None
    not_dirty spot None cut is none = cc
    not_dirty spot (Some blocks) cut is none = by (nat_eq spot.0 e.number) refl (nat_le blocks spot.1) refl is
      where
        by : (t : Bool) → nat_eq spot.0 e.number ≡ t → (u : Bool) → nat_le blocks spot.1 ≡ u → (t && u) ≡ true → find spot_cmp spot (staged o e).blocks ≡ None
        by true own true past also =
            let same : spot.0 ≡ e.number = eqb-true spot.0 e.number own in
            let le : blocks ≤ spot.1 = grind (arith, nat_tests) in
            (λ i. find spot_cmp (same i, spot.1) (staged o e).blocks) ∙ cut_is o e spot.1 blocks cut le (none same)
        by true own false past also = cc
        by false own u past also = cc

    pub places_after : (spot : Spot) → has_spot (dirty_spots (staged o e)) spot ≡ true → spot.1 < blocks_of (size_in (inode_over inode (staged o e) spot.0))
    places_after spot is = by (nat_eq spot.0 e.number) refl (touched_with e.touched spot.1) refl
      where
        found : is_some (find spot_cmp spot (staged o e).blocks) ≡ true
        found = sym (has_is (staged o e).blocks spot) ∙ is

        rest : (spot.0 ≡ e.number → touched_with e.touched spot.1 ≡ None) → (t : Bool) → is_cut (cut_of e) spot ≡ t → spot.1 < blocks_of (size_in (inode_over inode (staged o e) spot.0))
        rest none true gone = let never : true ≡ false = sym found ∙ ap is_some (not_dirty spot e.cut_to refl gone none) in cc
        rest none false kept = left spot kept (has_is o.blocks spot ∙ ap is_some (sym (other_is o e spot kept none)) ∙ found)

        by : (t : Bool) → nat_eq spot.0 e.number ≡ t → (b : Option Block) → touched_with e.touched spot.1 ≡ b → spot.1 < blocks_of (size_in (inode_over inode (staged o e) spot.0))
        by true own (Some block) with_block =
            subst (λ (x : Inode). spot.1 < blocks_of (size_in x)) (sym (inode_own spot.0 own)) (touched_below e.touched spot.1 (blocks_of (size_in e.inode)) block touched with_block)
        by true own None without = rest (λ same. without) (is_cut (cut_of e) spot) refl
        by false own b with_block = rest (λ same. absurd (apart spot.0 e.number same own)) (is_cut (cut_of e) spot) refl
          where
            apart : (a b : ℕ) → a ≡ b → nat_eq a b ≡ false → ⊥
            apart a b e is = grind (arith, nat_tests)
