-- Places of files, and the blocks of the disk that they have.
use Rattle.std.specs.Prelude.{ℕ, Bool, IsTrue, ◌&&◌, List, [], ◌∷◌, filter, map, nat_eq}
use Rattle.std.specs.List.{list_any}
use Rattle.std.specs.Ordering.{nat_cmp, ordering_then}
use Rattle.std.specs.FinMap.{put, is_sorted}
use Rattle.std.specs.declared.cmp.Ordering.{Ordering}
use Rattle.std.specs.declared.cmp.Ordering.TheVariants.{Less, Equal, Greater}
use Rattle.place_words.specs.Different.{is_among}

-- a file's number, and a place of 4,096 bytes in it
abbrev pub Spot : Type 0
Spot = ℕ × ℕ

abbrev pub spot_eq : Spot → Spot → Bool
spot_eq a b = nat_eq a.0 b.0 && nat_eq a.1 b.1

-- by number, and then by place
abbrev pub spot_cmp : Spot → Spot → Ordering
spot_cmp a b = ordering_then (nat_cmp a.0 b.0) (nat_cmp a.1 b.1)

abbrev pub has_spot : List Spot → Spot → Bool
has_spot spots spot = list_any (λ s. spot_eq s spot) spots

-- where a spot goes, by how it compares with the first of these, behind which it comes to the rest
abbrev pub by_order : Ordering → Spot → Spot → List Spot → List Spot → List Spot
by_order Less spot s ss rest = spot ∷ s ∷ ss
by_order Equal spot s ss rest = s ∷ ss
by_order Greater spot s ss rest = s ∷ rest

-- in order, each spot once
abbrev pub with_spot : Spot → List Spot → List Spot
with_spot spot [] = spot ∷ []
with_spot spot (s ∷ ss) = by_order (spot_cmp spot s) spot s ss (with_spot spot ss)

abbrev pub with_spots : List Spot → List Spot → List Spot
with_spots [] spots = spots
with_spots (s ∷ ss) spots = with_spots ss (with_spot s spots)

-- ---- with blocks

-- spots with their blocks
abbrev pub Places : Type 0
Places = List (Spot × ℕ)

-- whether they are in order, each spot once
abbrev pub InOrder : Places → Type 0
InOrder placed = IsTrue (is_sorted spot_cmp placed)

-- spots with no block yet
abbrev pub unplaced : List Spot → Places
unplaced spots = map (λ s. (s, 0)) spots

abbrev pub spots_of : Places → List Spot
spots_of placed = map (λ e. e.0) placed

-- the blocks, with repeats
abbrev pub blocks_of : Places → List ℕ
blocks_of placed = map (λ e. e.1) placed

-- whether it is the block of a place
abbrev pub is_block : Places → ℕ → Bool
is_block placed block = is_among (blocks_of placed) block

-- the places of one node
abbrev pub places_of : Places → ℕ → List ℕ
places_of placed number = map (λ e. e.0.1) (filter (λ e. nat_eq e.0.0 number) placed)

-- the places with some of them set anew
abbrev pub all_put : Places → Places → Places
all_put [] placed = placed
all_put (e ∷ es) placed = all_put es (put spot_cmp e.0 e.1 placed)
