-- The pieces of a file's layout: its kept places and its dirty ones, by place, in stretches as long as they can be.
use Rattle.std.specs.Prelude.{ℕ, ◌+◌, ◌&&◌, if◌then◌else◌, List, [], ◌∷◌, ◌++◌, filter, map, nat_eq, nat_le, Option, Some, None}
use Rattle.tree_model.specs.declared.reply.Piece.{Piece}
use Rattle.tree_model.specs.declared.reply.Piece.TheVariants.{Placed, Dirty}
use Rattle.volume_model.specs.Machine.{Machine}

abbrev pub place_of : Piece → ℕ
place_of (Placed place length block) = place
place_of (Dirty place length) = place

-- two that are adjacent as one: adjacent places at adjacent blocks, or adjacent dirty places
abbrev pub joined : Piece → Piece → Option Piece
joined (Placed place length block) (Placed next more after) =
    if nat_eq (place + length) next && nat_eq (block + length) after then Some (Placed place (length + more) block) else None
joined (Placed place length block) (Dirty next more) = None
joined (Dirty place length) (Placed next more after) = None
joined (Dirty place length) (Dirty next more) = if nat_eq (place + length) next then Some (Dirty place (length + more)) else None

-- two pieces in front of others, joined where they can be
abbrev pub in_front : Option Piece → Piece → Piece → List Piece → List Piece
in_front None p q qs = p ∷ q ∷ qs
in_front (Some both) p q qs = both ∷ qs

abbrev pub with_piece : Piece → List Piece → List Piece
with_piece p [] = p ∷ []
with_piece p (q ∷ qs) = in_front (joined p q) p q qs

-- each piece joined to what comes behind it, where it can be
abbrev pub all_joined : List Piece → List Piece
all_joined [] = []
all_joined (p ∷ ps) = with_piece p (all_joined ps)

-- ---- of one place each

abbrev pub by_place : Piece → List Piece → List Piece
by_place p [] = p ∷ []
by_place p (q ∷ qs) = if nat_le (place_of p) (place_of q) then p ∷ q ∷ qs else q ∷ by_place p qs

abbrev pub all_by_place : List Piece → List Piece
all_by_place [] = []
all_by_place (p ∷ ps) = by_place p (all_by_place ps)

abbrev pub kept_pieces : Machine → ℕ → List Piece
kept_pieces m number = map (λ e. Placed e.0.1 1 e.1) (filter (λ e. nat_eq e.0.0 number) m.kept)

abbrev pub dirty_pieces : Machine → ℕ → List Piece
dirty_pieces m number = map (λ s. Dirty s.1 1) (filter (λ s. nat_eq s.0 number) m.dirty)

-- a file's kept and dirty places, by place, one piece each
abbrev pub single_pieces : Machine → ℕ → List Piece
single_pieces m number = all_by_place (kept_pieces m number ++ dirty_pieces m number)

-- the pieces of the file with this number
abbrev pub pieces : Machine → ℕ → List Piece
pieces m number = all_joined (single_pieces m number)
