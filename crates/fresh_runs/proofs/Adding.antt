-- Steps that add spots with their blocks.
use Rattle.std.proofs.Common.{◌≡◌, ◌≤◌, ◌<◌, ℕ, zero, suc, ◌+◌, List, [], ◌∷◌, ◌++◌, length, map, take, get_or, refl, sym, ap, subst, ◌∙◌, append_assoc, arith}
use Rattle.std.proofs.lemmas.List.{append-nil, map-append, length-append}
use Rattle.vol_numbers.specs.declared.runs.Change.{Change}
use Rattle.vol_numbers.specs.declared.runs.Run.{Run}
use Rattle.place_words.specs.Different.{span}
use Rattle.run_allocator.specs.Runs.{numbers_from, numbers_of}
use Rattle.run_allocator.proofs.RunLaws.{length-numbers_from}
use Rattle.tree_model.specs.declared.report.Line.{Line}
use Rattle.volume_model.specs.Lines.{line_places, lines_places}
use Rattle.volume_model.specs.Places.{Spot, Places}
use Rattle.volume_model.specs.Point.{placed_at}
use Rattle.fresh_runs.specs.Fresh.{as_changes}
use Rattle.fresh_runs.specs.Inside.{Adds, AreBlockRuns, AreStretches, spots_from}
use Rattle.fresh_runs.proofs.Growing.{span_append}

pub placed_append : (ss ts : List Spot) (bs cs : List ℕ) → length bs ≡ length ss → placed_at (ss ++ ts) (bs ++ cs) ≡ placed_at ss bs ++ placed_at ts cs
placed_append [] ts [] cs same = refl
placed_append [] ts (b ∷ bs) cs same = absurd (omega (arith, same))
placed_append (s ∷ ss) ts [] cs same = absurd (omega (arith, same))
placed_append (s ∷ ss) ts (b ∷ bs) cs same = ap (λ (es : Places). (s, b) ∷ es) (placed_append ss ts bs cs (omega (arith, same)))

pub changes_append : (ps qs : Places) → as_changes (ps ++ qs) ≡ as_changes ps ++ as_changes qs
changes_append [] qs = refl
changes_append (p ∷ ps) qs = ap (λ (cs : List Change). let c : Change = record { place = p.0.1; block = p.1 } in c ∷ cs) (changes_append ps qs)

pub adds_none : (lines : List Line) (changes : List Change) → Adds [] [] lines lines changes changes
adds_none lines changes = record { lines = sym (append-nil (lines_places lines)); changes = sym (append-nil changes); stretches = λ are. are }

pub adds_more : (ss ts : List Spot) (bs cs : List ℕ) (first second third : List Line) (before between after : List Change) → length bs ≡ length ss
    → Adds ss bs first second before between → Adds ts cs second third between after → Adds (ss ++ ts) (bs ++ cs) first third before after
adds_more ss ts bs cs first second third before between after same one two =
    let both = placed_append ss ts bs cs same in
    record {
      lines = two.lines ∙ ap (λ (es : Places). es ++ placed_at ts cs) one.lines ∙ append_assoc (lines_places first) (placed_at ss bs) (placed_at ts cs) ∙ ap (λ (es : Places). lines_places first ++ es) (sym both);
      changes = two.changes ∙ ap (λ (xs : List Change). xs ++ as_changes (placed_at ts cs)) one.changes ∙ append_assoc before (as_changes (placed_at ss bs)) (as_changes (placed_at ts cs))
          ∙ ap (λ (xs : List Change). before ++ xs) (sym (ap as_changes both ∙ changes_append (placed_at ss bs) (placed_at ts cs)));
      stretches = λ are. two.stretches (one.stretches are);
    }

pub length-spots_from : (number place n : ℕ) → length (spots_from number place n) ≡ n
length-spots_from number place zero = refl
length-spots_from number place (suc n) = ap suc (length-spots_from number (place + 1) n)

-- ---- a piece

piece : (number place block from n : ℕ) → map (λ (k : ℕ). ((number, place + k), block + k)) (span from n) ≡ placed_at (spots_from number (place + from) n) (numbers_from (block + from) n)
piece number place block from zero = refl
piece number place block from (suc n) =
    ap (λ (es : Places). ((number, place + from), block + from) ∷ es)
    (piece number place block (from + 1) n ∙ ap (λ (x : ℕ). placed_at (spots_from number x n) (numbers_from (block + (from + 1)) n)) (moved place from) ∙ ap (λ (x : ℕ). placed_at (spots_from number (place + from + 1) n) (numbers_from x n)) (moved block from))
  where
    moved : (a b : ℕ) → a + (b + 1) ≡ a + b + 1
    moved a b = omega arith

pub line_placed : (l : Line) → line_places l ≡ placed_at (spots_from l.number l.place l.length) (numbers_from l.block l.length)
line_placed l = piece l.number l.place l.block 0 l.length ∙ ap (λ (x : ℕ). placed_at (spots_from l.number x l.length) (numbers_from (l.block + 0) l.length)) (none l.place) ∙ ap (λ (x : ℕ). placed_at (spots_from l.number l.place l.length) (numbers_from x l.length)) (none l.block)
  where
    none : (x : ℕ) → x + 0 ≡ x
    none x = omega arith

pub span_next : (from n : ℕ) → span from (n + 1) ≡ span from n ++ (from + n) ∷ []
span_next from zero = ap (λ (x : ℕ). x ∷ []) (plus_none from)
  where
    plus_none : (x : ℕ) → x ≡ x + 0
    plus_none x = omega arith
span_next from (suc n) = ap (span from) (one_out n) ∙ ap (λ (l : List ℕ). from ∷ l) (span_next (from + 1) n) ∙ ap (λ (x : ℕ). from ∷ (span (from + 1) n ++ x ∷ [])) (shifted from n)
  where
    one_out : (k : ℕ) → suc k + 1 ≡ suc (k + 1)
    one_out k = omega arith

    shifted : (x k : ℕ) → x + 1 + k ≡ x + suc k
    shifted x k = omega arith

pub changes_step : (l : Line) (k : ℕ) → as_changes (line_places (record l { length = k + 1 })) ≡ as_changes (line_places (record l { length = k })) ++ record { place = l.place + k; block = l.block + k } ∷ []
changes_step l k =
    let f : ℕ → Spot × ℕ = λ j. ((l.number, l.place + j), l.block + j) in
    ap (λ (xs : List ℕ). as_changes (map f xs)) (span_next 0 k)
    ∙ ap as_changes (map-append f (span 0 k) ((0 + k) ∷ []))
    ∙ changes_append (map f (span 0 k)) (f (0 + k) ∷ [])
    ∙ ap (λ (x : ℕ). as_changes (map f (span 0 k)) ++ as_changes (f x ∷ [])) (let same : 0 + k ≡ k = omega arith in same)

-- a line and its changes are a step
pub line_adds : (l : Line) (was is : List Line) (before after : List Change) → lines_places is ≡ lines_places was ++ line_places l → (AreStretches was → AreStretches is)
    → after ≡ before ++ as_changes (line_places l) → Adds (spots_from l.number l.place l.length) (numbers_from l.block l.length) was is before after
line_adds l was is before after places stretches changes = record {
  lines = places ∙ ap (λ (es : Places). lines_places was ++ es) (line_placed l);
  changes = changes ∙ ap (λ (es : Places). before ++ as_changes es) (line_placed l);
  stretches = stretches;
}

-- ---- pieces of a run

spots_parts : (number from a b : ℕ) → spots_from number from (a + b) ≡ spots_from number from a ++ spots_from number (from + a) b
spots_parts number from a b = ap (map (λ p. (number, p))) (span_append from a b) ∙ map-append (λ p. (number, p)) (span from a) (span (from + a) b)

numbers_more : (rs : List Run) (r : Run) → numbers_of (rs ++ r ∷ []) ≡ numbers_of rs ++ numbers_from r.first r.length
numbers_more [] r = append-nil (numbers_from r.first r.length)
numbers_more (q ∷ rs) r = ap (λ (xs : List ℕ). numbers_from q.first q.length ++ xs) (numbers_more rs r) ∙ sym (append_assoc (numbers_from q.first q.length) (numbers_of rs) (numbers_from r.first r.length))

-- The pieces of a run so far: the next place, and what they add.
pub record ArePieces (number first : ℕ) (pieces : List Run) (place : ℕ) (was is : List Line) (before after : List Change) : Type 0 where
  pub next : place ≡ first + length (numbers_of pieces)
  pub adds : Adds (spots_from number first (length (numbers_of pieces))) (numbers_of pieces) was is before after

pub no_pieces : (number first : ℕ) (lines : List Line) (changes : List Change) → ArePieces number first [] first lines lines changes changes
no_pieces number first lines changes = record { next = omega arith; adds = adds_none lines changes }

pub one_piece : (number first : ℕ) (rs : List Run) (r : Run) (place after_it : ℕ) (one two three : List Line) (before between after : List Change) → after_it ≡ place + r.length → ArePieces number first rs place one two before between
    → Adds (spots_from number place r.length) (numbers_from r.first r.length) two three between after → ArePieces number first (rs ++ r ∷ []) after_it one three before after
one_piece number first rs r place after_it one two three before between after is pieces step =
    let many = length (numbers_of rs) in
    let longer : length (numbers_of (rs ++ r ∷ [])) ≡ many + r.length =
    ap (λ (xs : List ℕ). length xs) (numbers_more rs r) ∙ length-append (numbers_of rs) (numbers_from r.first r.length) ∙ ap (λ (k : ℕ). many + k) (length-numbers_from r.first r.length) in
    let moved = subst (λ (p : ℕ). Adds (spots_from number p r.length) (numbers_from r.first r.length) two three between after) pieces.next step in
    let both = adds_more (spots_from number first many) (spots_from number (first + many) r.length) (numbers_of rs) (numbers_from r.first r.length) one two three before between after
    (sym (length-spots_from number first many)) pieces.adds moved in
    let spots : spots_from number first (length (numbers_of (rs ++ r ∷ []))) ≡ spots_from number first many ++ spots_from number (first + many) r.length = ap (spots_from number first) longer ∙ spots_parts number first many r.length in
    record {
      next = omega (arith, is, pieces.next, longer);
      adds = subst (λ (ss : List Spot). Adds ss (numbers_of (rs ++ r ∷ [])) one three before after) (sym spots)
          (subst (λ (bs : List ℕ). Adds (spots_from number first many ++ spots_from number (first + many) r.length) bs one three before after) (sym (numbers_more rs r)) both);
    }

pub pieces_within : (rs : List Run) (i : ℕ) (r : Run) → i < length rs → length (numbers_of (take i rs)) + (get_or rs i r).length ≤ length (numbers_of rs)
pieces_within [] i r lt = absurd (omega (arith, lt))
pieces_within (q ∷ rs) zero r lt = omega (arith, length-append (numbers_from q.first q.length) (numbers_of rs), length-numbers_from q.first q.length)
pieces_within (q ∷ rs) (suc i) r lt =
    omega (arith, pieces_within rs i r (omega (arith, lt)), length-append (numbers_from q.first q.length) (numbers_of rs), length-append (numbers_from q.first q.length) (numbers_of (take i rs)))

pub block_run_at : (rs : List Run) (i : ℕ) (r : Run) → i < length rs → AreBlockRuns rs → (1 ≤ (get_or rs i r).length) × ((get_or rs i r).first + (get_or rs i r).length ≤ 65536)
block_run_at [] i r lt are = absurd (omega (arith, lt))
block_run_at (q ∷ rs) zero r lt are = (are.0, are.1)
block_run_at (q ∷ rs) (suc i) r lt are = block_run_at rs i r (omega (arith, lt)) are.2

pub take_end : {X : Type 0} → (xs : List X) (i : ℕ) → length xs ≤ i → take i xs ≡ xs
take_end [] zero le = refl
take_end [] (suc i) le = refl
take_end (x ∷ xs) zero le = absurd (omega (arith, le))
take_end {X} (x ∷ xs) (suc i) le = ap (λ (ys : List X). x ∷ ys) (take_end xs i (omega (arith, le)))

pub all_pieces : (number first : ℕ) (items rs : List Run) (i n place : ℕ) (was is : List Line) (before after : List Change) → items ≡ rs → length items ≤ i → length (numbers_of rs) ≡ n
    → ArePieces number first (take i items) place was is before after → Adds (spots_from number first n) (numbers_of rs) was is before after
all_pieces number first items rs i n place was is before after same end many pieces =
    let all = subst (λ (xs : List Run). ArePieces number first xs place was is before after) (take_end items i end ∙ same) pieces in
    subst (λ (k : ℕ). Adds (spots_from number first k) (numbers_of rs) was is before after) many all.adds
