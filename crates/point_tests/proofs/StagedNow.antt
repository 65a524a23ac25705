-- What is staged is within the rules of a volume, where each staged number is.
use Rattle.std.proofs.Common.{◌≡◌, ◌<◌, ◌≤◌, ◌∙◌, ℕ, zero, suc, ◌+◌, Bool, true, false, cond, IsTrue, List, [], ◌∷◌, ◌++◌, map, filter, length, Option, Some, None, refl, sym, ap, subst, arith}
use Rattle.std.specs.Prelude.{◌&&◌, ◌||◌, ◌==◌, All, max, nat_eq, nat_le, nat_lt}
use Rattle.std.specs.FinMap.{find, nat_cmp-IsAntisymmetric}
use Rattle.std.specs.Ordering.{eq_by_cmp, nat_cmp}
use Rattle.std.proofs.lemmas.Bool.Decides.{nat_tests}
use Rattle.vol_numbers.specs.declared.runs.Run.{Run}
use Rattle.block_format.specs.Inode.{blocks_of, inode_shape, node_fits}
use Rattle.block_format.specs.declared.inode.Inode.{Inode}
use Rattle.block_format.specs.declared.inode.Inode.TheVariants.{Unused, File, Directory}
use Rattle.block_format.specs.declared.slot.Slot.{Slot}
use Rattle.consistency_point.proofs.ListLaws.{all_among, all_of, among_append, among_left, among_right}
use Rattle.dir_slots.specs.Slots.{IsDirectory}
use Rattle.dirty_store.specs.Entries.{Entries}
use Rattle.dirty_store.specs.Laws.{dirty_spots}
use Rattle.dirty_store.specs.Numbers.{AreOnce, numbers_in, staged_numbers}
use Rattle.dirty_store.specs.Overlay.{Overlay, clean, dirty_places, least_cut, node_of, width_of}
use Rattle.dirty_store.specs.Runs.{AreRunsOf, places_in}
use Rattle.dirty_store.specs.declared.node_change.NodeChange.{NodeChange}
use Rattle.dirty_store.proofs.Places.{equal_of}
use Rattle.held_list.specs.Held.{slots_at}
use Rattle.held_list.specs.declared.held.Held.{Held}
use Rattle.inode_file.specs.Inodes.{IsTable, inode_of}
use Rattle.tree_plan.specs.Pages.{slots_or_none}
use Rattle.place_words.specs.Different.{is_among, span}
use Rattle.point_model.specs.Holding.{staged_or}
use Rattle.point_plan.specs.State.{IsStagedWithin, inode_in, left_in, size_in, slots_in}
use Rattle.point_plan.specs.declared.state.PointState.{PointState}
use Rattle.volume_model.specs.Places.{Spot, has_spot}
use Rattle.point_tests.specs.Within.{IsNumberWithin}
use Rattle.point_tests.proofs.SlotsNow.{directory_now, none_directory}

-- ---- of a number that isn't staged

left_none : (a b : Bool) → (a || b) ≡ false → a ≡ false
left_none true b e = cc
left_none false b e = refl

right_none : (a b : Bool) → (a || b) ≡ false → b ≡ false
right_none true b e = cc
right_none false b e = e

no_node : (nodes : List (ℕ × NodeChange)) (n : ℕ) → is_among (map (λ e. e.0) nodes) n ≡ false → find nat_cmp n nodes ≡ None
no_node [] n out = refl
no_node (e ∷ es) n out = ap (λ (t : Bool). cond t (Some e.1) (find nat_cmp n es)) (by (eq_by_cmp nat_cmp n e.0) refl) ∙ no_node es n (right_none _ _ out)
  where
    by : (b : Bool) → eq_by_cmp nat_cmp n e.0 ≡ b → b ≡ false
    by true tied =
        let same : n ≡ e.0 = nat_cmp-IsAntisymmetric n e.0 (equal_of _ tied) in
        let never : nat_eq e.0 n ≡ false = left_none _ _ out in
        absurd (grind (arith, nat_tests))
    by false tied = refl

no_width : (es : Entries Slot) (n : ℕ) → is_among (numbers_in es) n ≡ false → width_of es n ≡ 0
no_width [] n out = refl
no_width (e ∷ es) n out = ap (λ (t : Bool). cond t (max (e.0.1 + 1) (width_of es n)) (width_of es n)) (left_none _ _ out) ∙ no_width es n (right_none _ _ out)

module _ (o : Overlay) (n : ℕ) (out : is_among (staged_numbers o) n ≡ false) where
  behind : (is_among (map (λ e. e.0) o.nodes) n || is_among (numbers_in o.slots) n) ≡ false
  behind =
      sym (among_append (map (λ e. e.0) o.nodes) (numbers_in o.slots) n)
      ∙ right_none (is_among (numbers_in o.blocks) n) (is_among (map (λ e. e.0) o.nodes ++ numbers_in o.slots) n) (sym (among_append (numbers_in o.blocks) (map (λ e. e.0) o.nodes ++ numbers_in o.slots) n) ∙ out)

  unstaged_node : node_of o n ≡ None
  unstaged_node = no_node o.nodes n (left_none _ _ behind)

  unstaged_width : width_of o.slots n ≡ 0
  unstaged_width = no_width o.slots n (right_none _ _ behind)

-- ---- directories

at_directory : (hs : List Held) (n : ℕ) → All (λ (h : Held). IsDirectory h.slots) hs → IsDirectory (slots_or_none (slots_at hs n))
at_directory [] n all = none_directory
at_directory (h ∷ hs) n all = by (h.number == n) (at_directory hs n (λ k d lt. all (suc k) d (omega (arith, lt))))
  where
    by : (t : Bool) → IsDirectory (slots_or_none (slots_at hs n)) → IsDirectory (slots_or_none (cond t (Some h.slots) (slots_at hs n)))
    by true later = all 0 h (omega arith)
    by false later = later

left_directory : (s : PointState) (n : ℕ) → All (λ (h : Held). IsDirectory h.slots) s.directories → IsDirectory (left_in s n)
left_directory s n all = by (least_cut (node_of s.dirty.overlay n) == 0)
  where
    by : (t : Bool) → IsDirectory (cond t [] (slots_or_none (slots_at s.directories n)))
    by true = none_directory
    by false = at_directory s.directories n all

-- ---- sizes

none_at_most : 0 ≤ 4294967296
none_at_most = omega arith

shape_size : (inode : Inode) → IsTrue (inode_shape inode) → size_in inode ≤ 4294967296
shape_size Unused shape = none_at_most
shape_size (File size height ptr) shape = by (nat_le size 4294967296) (node_fits size height ptr) refl shape
  where
    by : (t u : Bool) → nat_le size 4294967296 ≡ t → IsTrue (t && u) → size ≤ 4294967296
    by true u is shape = grind (arith, nat_tests)
    by false u is shape = cc
shape_size (Directory width height ptr) shape = none_at_most

-- ---- dirty places

or_cases : {P : Type 0} (a b : Bool) → (a || b) ≡ true → (a ≡ true → P) → (b ≡ true → P) → P
or_cases true b is first second = first refl
or_cases false b is first second = second is

or_first : (a b : Bool) → a ≡ true → (a || b) ≡ true
or_first true b is = refl
or_first false b is = cc

or_second : (a b : Bool) → b ≡ true → (a || b) ≡ true
or_second true b is = refl
or_second false b is = is

and_first : (a b : Bool) → (a && b) ≡ true → a ≡ true
and_first true b is = refl
and_first false b is = cc

-- the number of a dirty place is staged
spot_number : {T : Type 0} → (es : Entries T) (n p : ℕ) → has_spot (map (λ e. e.0) es) (n, p) ≡ true → is_among (numbers_in es) n ≡ true
spot_number [] n p is = cc
spot_number {T} (e ∷ es) n p is =
    or_cases (nat_eq e.0.0 n && nat_eq e.0.1 p) (has_spot (map (λ e. e.0) es) (n, p)) is
    (λ here. or_first (nat_eq e.0.0 n) (is_among (numbers_in es) n) (and_first _ _ here))
    (λ later. or_second (nat_eq e.0.0 n) (is_among (numbers_in es) n) (spot_number es n p later))

-- a dirty place is one of its number's
spot_place : {T : Type 0} → (es : Entries T) (n p : ℕ) → has_spot (map (λ e. e.0) es) (n, p) ≡ true → is_among (dirty_places es n) p ≡ true
spot_place [] n p is = cc
spot_place {T} (e ∷ es) n p is = by (nat_eq e.0.0 n) is (spot_place es n p)
  where
    by : (t : Bool) → ((t && nat_eq e.0.1 p) || has_spot (map (λ e. e.0) es) (n, p)) ≡ true → (has_spot (map (λ e. e.0) es) (n, p) ≡ true → is_among (dirty_places es n) p ≡ true)
        → is_among (map (λ e. e.0.1) (cond t (e ∷ filter (λ e. nat_eq e.0.0 n) es) (filter (λ e. nat_eq e.0.0 n) es))) p ≡ true
    by true is later =
        or_cases (nat_eq e.0.1 p) (has_spot (map (λ e. e.0) es) (n, p)) is
        (λ here. or_first (nat_eq e.0.1 p) (is_among (dirty_places es n) p) here)
        (λ more. or_second (nat_eq e.0.1 p) (is_among (dirty_places es n) p) (later more))
    by false is later = later is

span_below : (first many p end : ℕ) → first + many ≤ end → is_among (span first many) p ≡ true → p < end
span_below first zero p end le is = cc
span_below first (suc many) p end le is =
    or_cases (nat_eq first p) (is_among (span (first + 1) many) p) is (λ here. grind (arith, nat_tests)) (λ more. span_below (first + 1) many p end (omega (arith, le)) more)

runs_below : (runs : List Run) (p end : ℕ) → All (λ (r : Run). r.first + r.length ≤ end) runs → is_among (places_in runs) p ≡ true → p < end
runs_below [] p end all is = cc
runs_below (r ∷ rs) p end all is =
    or_cases (is_among (span r.first r.length) p) (is_among (places_in rs) p) (sym (among_append (span r.first r.length) (places_in rs) p) ∙ is)
    (λ here. span_below r.first r.length p end (all 0 r (omega arith)) here)
    (λ more. runs_below rs p end (λ k d lt. all (suc k) d (omega (arith, lt))) more)

pub places_below : (o : Overlay) (n end : ℕ) (runs : List Run) → AreRunsOf (dirty_places o.blocks n) runs → All (λ (r : Run). r.first + r.length ≤ end) runs
    → (p : ℕ) → has_spot (dirty_spots o) (n, p) ≡ true → p < end
places_below o n end runs are all p is = runs_below runs p end all (ap (λ (ps : List ℕ). is_among ps p) are.places_are ∙ spot_place o.blocks n p is)

-- what holds of the numbers below one and of it holds of those up to it
pub next_one : (P : ℕ → Type 0) (k : ℕ) → ((i : ℕ) → i < k → P i) → P k → (i : ℕ) → i < k + 1 → P i
next_one P k before here i lt = by (nat_lt i k) refl
  where
    by : (t : Bool) → nat_lt i k ≡ t → P i
    by true is = before i (grind (arith, nat_tests))
    by false is = let same : k ≡ i = grind (arith, nat_tests) in subst P same here

-- ---- all of it

module _ (s : PointState) (once : List ℕ) (are : AreOnce (staged_numbers s.dirty.overlay) once) (all : All (IsNumberWithin s) once) (dirs : All (λ (h : Held). IsDirectory h.slots) s.directories) (table : IsTable s.inodes) where
  of_staged : (n : ℕ) → is_among (staged_numbers s.dirty.overlay) n ≡ true → IsNumberWithin s n
  of_staged n is = all_among (IsNumberWithin s) once n all (are.each n ∙ is)

  directory_of : (n : ℕ) → IsDirectory (slots_in s n)
  directory_of n = by (is_among (staged_numbers s.dirty.overlay) n) refl
    where
      by : (t : Bool) → is_among (staged_numbers s.dirty.overlay) n ≡ t → IsDirectory (slots_in s n)
      by true is = (of_staged n is).directory
      by false is =
          let none : width_of s.dirty.overlay.slots n ≡ 0 = unstaged_width s.dirty.overlay n is in
          directory_now (left_in s n) s.dirty.overlay n (left_directory s n dirs) (omega (arith, none)) (λ k lt. absurd (omega (arith, lt, none)))

  size_of : (n : ℕ) → size_in (inode_in s n) ≤ 4294967296
  size_of n = by (is_among (staged_numbers s.dirty.overlay) n) refl
    where
      by : (t : Bool) → is_among (staged_numbers s.dirty.overlay) n ≡ t → size_in (inode_in s n) ≤ 4294967296
      by true is = (of_staged n is).size
      by false is =
          subst (λ (c : Option NodeChange). size_in (staged_or c (inode_of s.inodes.inodes n)) ≤ 4294967296) (sym (unstaged_node s.dirty.overlay n is)) (shape_size (inode_of s.inodes.inodes n) (table.shape n))

  pub staged_within : IsStagedWithin s
  staged_within = record {
    numbers = all_of (λ n. (1 ≤ n) × (n ≤ 65535)) (staged_numbers s.dirty.overlay) once (λ b is. are.each b ∙ is) (λ k d lt. (all k d lt).node);
    directories = directory_of;
    places = λ spot is. (of_staged spot.0 (among_left (numbers_in s.dirty.overlay.blocks) _ spot.0 (spot_number s.dirty.overlay.blocks spot.0 spot.1 is))).places spot.1 is;
    sizes = size_of;
  }

-- ---- a fresh volume

-- nothing is staged, and the root directory is empty
pub fresh_within : (s : PointState) → s.dirty.overlay ≡ clean → s.directories ≡ record { number = 1; slots = [] } ∷ [] → IsTable s.inodes → IsStagedWithin s
fresh_within s none root table =
    staged_within s [] (subst (λ (o : Overlay). AreOnce (staged_numbers o) []) (sym none) (record { rises = tt; each = λ n. refl })) (λ k d lt. absurd (omega (arith, lt)))
    (subst (λ (hs : List Held). All (λ (h : Held). IsDirectory h.slots) hs) (sym root) alone) table
  where
    alone : All (λ (h : Held). IsDirectory h.slots) (record { number = 1; slots = [] } ∷ [])
    alone zero d lt = none_directory
    alone (suc k) d lt = absurd (omega (arith, lt))
