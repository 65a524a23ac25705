-- Look-ups in places, and the bytes that a disk block held.
use Rattle.std.proofs.Common.{◌≡◌, ℕ, suc, ◌+◌, ◌≤◌, Bool, true, false, cond, List, [], ◌∷◌, length, Some, refl, sym, ap, subst, ◌∙◌, arith}
use Rattle.std.specs.Prelude.{◌||◌, nat_eq}
use Rattle.std.specs.List.{AllByRecursion}
use Rattle.std.specs.Ordering.{ordering_reverse, eq_by_cmp, is_lt, is_eq}
use Rattle.std.specs.declared.cmp.Ordering.{Ordering}
use Rattle.std.specs.declared.cmp.Ordering.TheVariants.{Less, Equal, Greater}
use Rattle.std.specs.Cmp.{tied_itself}
use Rattle.std.specs.FinMap.{find}
use Rattle.std.specs.FinMap.Entries.{below_all}
use Rattle.std.proofs.lemmas.Bool.Decides.{nat_tests}
use Rattle.place_words.specs.Different.{different, is_among, Distinct}
use Rattle.tree_model.specs.Tree.{Tree}
use Rattle.volume_model.specs.Machine.{Machine, block_at, held}
use Rattle.volume_model.specs.Places.{Spot, Places, spot_cmp, has_spot, spots_of, blocks_of, is_block, InOrder}
use Rattle.volume_model.proofs.Cached.{found_block}
use Rattle.volume_model.proofs.Order.{first_of, second_of, spot_total}
use Rattle.volume_model.proofs.PlacesTold.{find_none, same_by_cmp}
use Rattle.state_laws.specs.Files.{HasSameBytes}

pub same_number : (a b : ℕ) → nat_eq a b ≡ true → a ≡ b
same_number a b e = grind (arith, nat_tests)

-- ---- entries

abbrev pub AllEntries : (Spot → ℕ → Type 0) → Places → Type 0
AllEntries Q es = AllByRecursion (λ (e : Spot × ℕ). Q e.0 e.1) es

-- what holds of each entry holds of what is found
pub found_entry : (Q : Spot → ℕ → Type 0) (es : Places) (spot : Spot) (block : ℕ) → AllEntries Q es → find spot_cmp spot es ≡ Some block → Q spot block
found_entry Q [] spot block all e = cc
found_entry Q (e ∷ es) spot block all is = by (eq_by_cmp spot_cmp spot e.0) refl is (found_entry Q es spot block all.1)
  where
    here : spot ≡ e.0 → e.1 ≡ block → Q spot block
    here a b = subst (λ (n : ℕ). Q spot n) b (subst (λ (s : Spot). Q s e.1) (sym a) all.0)

    some_is : Some e.1 ≡ Some block → e.1 ≡ block
    some_is e = cc

    by : (t : Bool) → eq_by_cmp spot_cmp spot e.0 ≡ t → cond t (Some e.1) (find spot_cmp spot es) ≡ Some block → (find spot_cmp spot es ≡ Some block → Q spot block) → Q spot block
    by true tie found later = here (same_by_cmp spot e.0 tie) (some_is found)
    by false tie found later = later found

pub found_spot : (es : Places) (spot : Spot) (block : ℕ) → find spot_cmp spot es ≡ Some block → has_spot (spots_of es) spot ≡ true
found_spot es spot block is = by (has_spot (spots_of es) spot) refl
  where
    by : (t : Bool) → has_spot (spots_of es) spot ≡ t → t ≡ true
    by true e = refl
    by false e = let none = find_none spot es e in cc

-- ---- places in order are found

less : (o : Ordering) → is_lt o ≡ true → o ≡ Less
less Less e = refl
less Equal e = cc
less Greater e = cc

abbrev Found : Places → Places → Type 0
Found whole es = AllEntries (λ (s : Spot) (b : ℕ). find spot_cmp s whole ≡ Some b) es

found_behind : (e : Spot × ℕ) (es fs : Places) → below_all spot_cmp e.0 fs ≡ true → Found es fs → Found (e ∷ es) fs
found_behind e es [] below found = tt
found_behind e es (f ∷ fs) below found =
    let before : spot_cmp e.0 f.0 ≡ Less = less _ (first_of _ _ below) in
    let apart : spot_cmp f.0 e.0 ≡ Greater = spot_total.antisymm f.0 e.0 ∙ ap ordering_reverse before in
    (ap (λ (o : Ordering). cond (is_eq o) (Some e.1) (find spot_cmp f.0 es)) apart ∙ found.0, found_behind e es fs (second_of _ _ below) found.1)

pub all_found : (es : Places) → InOrder es → Found es es
all_found [] ordered = tt
all_found (e ∷ es) ordered = (
  ap (λ (o : Ordering). cond (is_eq o) (Some e.1) (find spot_cmp e.0 es)) (tied_itself spot_total e.0),
  found_behind e es es (first_of _ _ ordered) (all_found es (second_of _ _ ordered)),
)

-- a place that has this block
pub record HasBlock (placed : Places) (block : ℕ) : Type 0 where
  pub spot : Spot
  pub found : find spot_cmp spot placed ≡ Some block

block_in : (placed es : Places) (block : ℕ) → Found placed es → is_block es block ≡ true → HasBlock placed block
block_in placed [] block found is = cc
block_in placed (e ∷ es) block found is = by (nat_eq e.1 block) refl is (block_in placed es block found.1)
  where
    by : (t : Bool) → nat_eq e.1 block ≡ t → (t || is_block es block) ≡ true → (is_block es block ≡ true → HasBlock placed block) → HasBlock placed block
    by true same is more = record { spot = e.0; found = subst (λ (n : ℕ). find spot_cmp e.0 placed ≡ Some n) (same_number e.1 block same) found.0 }
    by false same is more = more is

pub block_spot : (placed : Places) (block : ℕ) → InOrder placed → is_block placed block ≡ true → HasBlock placed block
block_spot placed block ordered is = block_in placed placed block (all_found placed ordered) is

-- ---- the bytes that a block held

held_scan : (m : Machine) (bytes : List ℕ) (block : ℕ) (es : Places) → AllEntries (λ (s : Spot) (b : ℕ). b ≡ block → block_at m.stored_tree s ≡ bytes) es → is_block es block ≡ true
    → held (record m { stored_places = es }) block ≡ Some bytes
held_scan m bytes block [] all is = cc
held_scan m bytes block (e ∷ es) all is = by (nat_eq e.1 block) refl is (held_scan m bytes block es all.1)
  where
    by : (t : Bool) → nat_eq e.1 block ≡ t → (t || is_block es block) ≡ true → (is_block es block ≡ true → held (record m { stored_places = es }) block ≡ Some bytes)
        → cond t (Some (block_at m.stored_tree e.0)) (held (record m { stored_places = es }) block) ≡ Some bytes
    by true same is more = ap Some (all.0 (same_number e.1 block same))
    by false same is more = more is

same_entries : (tree : Tree) (placed es : Places) (bytes : List ℕ) (block : ℕ) → ((s : Spot) → find spot_cmp s placed ≡ Some block → block_at tree s ≡ bytes) → Found placed es → AllEntries (λ (s : Spot) (b : ℕ). b ≡ block → block_at tree s ≡ bytes) es
same_entries tree placed [] bytes block same found = tt
same_entries tree placed (e ∷ es) bytes block same found = (λ is. same e.0 (found.0 ∙ ap Some is), same_entries tree placed es bytes block same found.1)

-- where places with one block have the same bytes, the block held those of each of them
pub held_is : (m : Machine) → InOrder m.stored_places → HasSameBytes m.stored_tree m.stored_places → (spot : Spot) (block : ℕ) → find spot_cmp spot m.stored_places ≡ Some block
    → held m block ≡ Some (block_at m.stored_tree spot)
held_is m ordered same spot block found =
    held_scan m (block_at m.stored_tree spot) block m.stored_places
    (same_entries m.stored_tree m.stored_places m.stored_places (block_at m.stored_tree spot) block (λ s other. same s spot block other found) (all_found m.stored_places ordered))
    (found_block spot m.stored_places block found)

-- ---- blocks that are all different

different_less : (ns : List ℕ) → different ns ≤ length ns
different_less [] = omega arith
different_less (n ∷ ns) = by (is_among ns n) (different_less ns)
  where
    by : (t : Bool) → different ns ≤ length ns → cond t (different ns) (different ns + 1) ≤ suc (length ns)
    by true le = omega (arith, le)
    by false le = omega (arith, le)

pub all_different : (ns : List ℕ) → different ns ≡ length ns → Distinct ns
all_different [] e = tt
all_different (n ∷ ns) e = by (is_among ns n) refl e (all_different ns)
  where
    by : (t : Bool) → is_among ns n ≡ t → cond t (different ns) (different ns + 1) ≡ suc (length ns) → (different ns ≡ length ns → Distinct ns) → Distinct (n ∷ ns)
    by true is e rest = absurd (omega (arith, e, different_less ns))
    by false is e rest = (is, rest (omega (arith, e)))

-- then a block is of one place
pub one_spot : (es : Places) (a b : Spot) (block : ℕ) → Distinct (blocks_of es) → find spot_cmp a es ≡ Some block → find spot_cmp b es ≡ Some block → a ≡ b
one_spot [] a b block once f g = cc
one_spot (e ∷ es) a b block once f g = by (eq_by_cmp spot_cmp a e.0) (eq_by_cmp spot_cmp b e.0) refl refl f g (one_spot es a b block once.1)
  where
    some_is : Some e.1 ≡ Some block → e.1 ≡ block
    some_is e = cc

    not_both : e.1 ≡ block → is_block es block ≡ true → a ≡ b
    not_both here later = let again : is_block es e.1 ≡ true = subst (λ (n : ℕ). is_block es n ≡ true) (sym here) later in let never : true ≡ false = sym again ∙ once.0 in cc

    by : (t u : Bool) → eq_by_cmp spot_cmp a e.0 ≡ t → eq_by_cmp spot_cmp b e.0 ≡ u → cond t (Some e.1) (find spot_cmp a es) ≡ Some block → cond u (Some e.1) (find spot_cmp b es) ≡ Some block
        → (find spot_cmp a es ≡ Some block → find spot_cmp b es ≡ Some block → a ≡ b) → a ≡ b
    by true true s t f g rest = same_by_cmp a e.0 s ∙ sym (same_by_cmp b e.0 t)
    by true false s t f g rest = not_both (some_is f) (found_block b es block g)
    by false true s t f g rest = not_both (some_is g) (found_block a es block f)
    by false false s t f g rest = rest f g
