-- The lines of a report: adjacent places of a file at adjacent blocks.
use Rattle.std.specs.Prelude.{ℕ, ◌+◌, Bool, true, false, not, ◌&&◌, ◌||◌, if◌then◌else◌, List, [], ◌∷◌, filter, map, nat_eq, nat_le, nat_lt, sum_by}
use Rattle.std.specs.List.{flat_map}
use Rattle.tree_model.specs.declared.report.Line.{Line}
use Rattle.tree_model.specs.declared.report.LineKind.{LineKind}
use Rattle.tree_model.specs.declared.report.LineKind.TheVariants.{Fresh, Share}
use Rattle.place_words.specs.Different.{span}
use Rattle.volume_model.specs.declared.sequence.Sequence.{Sequence}
use Rattle.volume_model.specs.Places.{Spot, Places}

abbrev pub share_line : ℕ → Sequence → Line
share_line number q = record { kind = Share; number = number; place = q.first; length = q.length; block = q.block }

-- the places of a line with their blocks
abbrev pub line_places : Line → Places
line_places l = map (λ k. ((l.number, l.place + k), l.block + k)) (span 0 l.length)

abbrev pub lines_places : List Line → Places
lines_places lines = flat_map line_places lines

-- ---- of fresh blocks

-- whether a line begins behind this place, at the next block
abbrev pub goes_on : Spot × ℕ → Line → Bool
goes_on e l = nat_eq e.0.0 l.number && nat_eq (e.0.1 + 1) l.place && nat_eq (e.1 + 1) l.block

abbrev pub fresh_line : Spot × ℕ → ℕ → Line
fresh_line e length = record { kind = Fresh; number = e.0.0; place = e.0.1; length = length; block = e.1 }

-- one place more in front: the first line is longer by it, or it has a line of its own
abbrev pub with_fresh : Spot × ℕ → List Line → List Line
with_fresh e [] = fresh_line e 1 ∷ []
with_fresh e (l ∷ ls) = if goes_on e l then fresh_line e (l.length + 1) ∷ ls else fresh_line e 1 ∷ l ∷ ls

-- the longest stretches of adjacent places at adjacent blocks
abbrev pub fresh_lines : Places → List Line
fresh_lines [] = []
fresh_lines (e ∷ es) = with_fresh e (fresh_lines es)

-- ---- of a whole report

abbrev pub kind_is_fresh : LineKind → Bool
kind_is_fresh Fresh = true
kind_is_fresh Share = false

abbrev pub is_fresh : Line → Bool
is_fresh l = kind_is_fresh l.kind

-- by number and place
abbrev pub comes_first : Line → Line → Bool
comes_first a b = nat_lt a.number b.number || (nat_eq a.number b.number && nat_le a.place b.place)

abbrev pub with_line : Line → List Line → List Line
with_line l [] = l ∷ []
with_line l (m ∷ ms) = if comes_first l m then l ∷ m ∷ ms else m ∷ with_line l ms

abbrev pub in_order : List Line → List Line
in_order [] = []
in_order (l ∷ ls) = with_line l (in_order ls)

-- how many blocks lines have
abbrev pub line_blocks : List Line → ℕ
line_blocks lines = sum_by (λ l. l.length) lines

abbrev pub fresh_only : List Line → List Line
fresh_only lines = filter is_fresh lines

abbrev pub share_only : List Line → List Line
share_only lines = filter (λ l. not (is_fresh l)) lines
