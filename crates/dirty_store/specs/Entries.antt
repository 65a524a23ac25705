-- Lists of what stands at spots, in the order of the spots, each spot once. A spot is a node's number and a place in the node.
use Rattle.std.specs.Prelude.{◌<◌, ℕ, ◌+◌, IsTrue, not, List, [], ◌∷◌, filter, if◌then◌else◌, Option, Some, None, is_some}
use Rattle.std.specs.Option.{option_map}
use Rattle.std.specs.FinMap.{put, is_sorted}
use Rattle.volume_model.specs.Places.{Spot, spot_cmp, spot_eq}
use Rattle.volume_model.specs.Done.{Cut, is_cut}

abbrev pub Entries : Type 0 → Type 0
Entries T = List (Spot × T)

-- each place is within a node of the greatest size
abbrev pub AreWithin : {T : Type 0} → Entries T → Type 0
AreWithin [] = Unit {0}
AreWithin (e ∷ es) = (e.0.1 < 1048576) × AreWithin es

-- in order, each spot once, and within the greatest size
pub record AreKept {T : Type 0} (entries : Entries T) : Type 0 where
  pub in_order : IsTrue (is_sorted spot_cmp entries)
  pub within : AreWithin entries

-- all entries but that of a spot
abbrev pub without : {T : Type 0} → Spot → Entries T → Entries T
without spot entries = filter (λ e. not (spot_eq e.0 spot)) entries

-- a cut of a node, where there is one
abbrev pub cut_at : ℕ → Option ℕ → Option Cut
cut_at number blocks = option_map (λ n. record { number = number; blocks = n }) blocks

-- the entries that a cut leaves
abbrev pub uncut : {T : Type 0} → Option Cut → Entries T → Entries T
uncut cut entries = filter (λ e. not (is_cut cut e.0)) entries

-- the entries that a cut takes away
abbrev pub cut_away : {T : Type 0} → Option Cut → Entries T → Entries T
cut_away cut entries = filter (λ e. is_cut cut e.0) entries

-- with these put, each in its turn
abbrev pub all_put : {T : Type 0} → Entries T → Entries T → Entries T
all_put [] entries = entries
all_put (e ∷ es) entries = all_put es (put spot_cmp e.0 e.1 entries)

-- with this at a spot, or with nothing there
abbrev pub set_back : {T : Type 0} → Spot → Option T → Entries T → Entries T
set_back spot None entries = without spot entries
set_back spot (Some item) entries = put spot_cmp spot item entries

-- with what each of these spots had before, or nothing, the last of them first
abbrev pub put_back : {T : Type 0} → Entries (Option T) → Entries T → Entries T
put_back [] entries = entries
put_back (e ∷ es) entries = set_back e.0 e.1 (put_back es entries)

-- how many of these had something
abbrev pub there : {T : Type 0} → Entries (Option T) → ℕ
there [] = 0
there (e ∷ es) = (if is_some e.1 then 1 else 0) + there es
