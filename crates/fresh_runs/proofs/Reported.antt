-- Fresh lines of all dirty places make a report of a point.
use Rattle.std.proofs.Common.{◌≡◌, ◌≤◌, ◌<◌, ℕ, zero, suc, ◌+◌, Bool, true, false, not, cond, List, [], ◌∷◌, ◌++◌, length, map, filter, refl, sym, ap, subst, ◌∙◌, arith}
use Rattle.std.specs.Prelude.{◌&&◌, ◌||◌, nat_eq, option_map, sum_by, unwrap_or}
use Rattle.std.specs.List.{list_all, flat_map}
use Rattle.std.proofs.lemmas.List.{length-map, length-append}
use Rattle.std.proofs.lemmas.List.Concat.{flat_map-cons}
use Rattle.std.proofs.lemmas.List.Sums.{sum_by-cons}
use Rattle.std.proofs.lemmas.Bool.Decides.{nat_tests}
use Rattle.place_words.specs.Different.{different, is_among, span, times}
use Rattle.place_words.proofs.Counting.{among_times, distinct_count, times_among}
use Rattle.run_allocator.specs.Runs.{Ascends}
use Rattle.tree_model.specs.declared.report.Line.{Line}
use Rattle.tree_model.specs.declared.report.Report.{Report}
use Rattle.volume_model.specs.declared.sequence.Sequence.{Sequence}
use Rattle.volume_model.specs.Cache.{CacheList, cached_blocks, is_cached}
use Rattle.volume_model.specs.Lines.{fresh_lines, fresh_only, is_fresh, line_blocks, line_places, lines_places, share_line, share_only}
use Rattle.volume_model.specs.Machine.{Machine, Rules, block_at, free_of, held}
use Rattle.volume_model.specs.Places.{Spot, Places, blocks_of, has_spot, spots_of}
use Rattle.volume_model.specs.Point.{IsPoint, after_point, fresh_in, fresh_spots, is_unused, lines_of, may_be_fresh, next_point, placed_at, report_of, share_lines}
use Rattle.volume_model.specs.ReportLaws.{IsReport}
use Rattle.volume_model.specs.Selection.{Picks, by_place}
use Rattle.volume_model.specs.Sharing.{and_then, dirty_places, matches, numbers_of, same_bytes, selected}
use Rattle.volume_model.specs.Whole.{IsWhole}
use Rattle.volume_model.proofs.LineLaws.{AllFresh, all_fresh, points_exist, spots_for}
use Rattle.volume_model.proofs.Order.{second_of}
use Rattle.volume_model.proofs.ReportOrder.{report_lines_are}
use Rattle.volume_model.proofs.SharingLaws.{selected_is}
use Rattle.fresh_runs.specs.Fresh.{blocks_in, IsPartedInto}
use Rattle.fresh_runs.specs.Laws.{AreFreshLines, AreUnused, FreshIsReported, NothingIsShared, fresh_report}
use Rattle.fresh_runs.proofs.Parting.{distinct_of_times}
use Rattle.fresh_runs.proofs.Taking.{times_once}

-- ---- with no share line, all dirty places get fresh blocks

all_kept : (ss : List Spot) → filter (λ (s : Spot). not (has_spot [] s)) ss ≡ ss
all_kept [] = refl
all_kept (s ∷ ss) = ap (λ (xs : List Spot). s ∷ xs) (all_kept ss)

all_fresh_spots : (r : Rules) (m : Machine) → share_lines r m ≡ [] → spots_for r m ≡ m.dirty
all_fresh_spots r m none = ap (λ (ls : List Line). fresh_spots m (lines_places ls)) none ∙ all_kept m.dirty

placed_again : (es : Places) → placed_at (spots_of es) (blocks_of es) ≡ es
placed_again [] = refl
placed_again (e ∷ es) = ap (λ (xs : Places). e ∷ xs) (placed_again es)

-- ---- the blocks may be fresh

all_pass : (test : ℕ → Bool) (ns : List ℕ) → ((n : ℕ) → is_among ns n ≡ true → test n ≡ true) → list_all test ns ≡ true
all_pass test [] each = refl
all_pass test (n ∷ ns) each =
    both (test n) (list_all test ns) (each n (ap (λ (t : Bool). t || is_among ns n) (let t : nat_eq n n ≡ true = grind (arith, nat_tests) in t)))
    (all_pass test ns (λ k among. each k (ap (λ (t : Bool). nat_eq n k || t) among ∙ or_true (nat_eq n k))))
  where
    or_true : (t : Bool) → (t || true) ≡ true
    or_true true = refl
    or_true false = refl

    both : (a b : Bool) → a ≡ true → b ≡ true → (a && b) ≡ true
    both true b e f = f
    both false b e f = cc

may : (r : Rules) (m : Machine) (fresh free left : List ℕ) → spots_for r m ≡ m.dirty → length fresh ≡ length m.dirty → AreUnused m free → IsPartedInto free fresh left → may_be_fresh r m fresh ≡ true
may r m fresh free left spots long unused parted =
    all (nat_eq (length fresh) (length (spots_for r m))) (nat_eq (different fresh) (length fresh)) (list_all (is_unused m) fresh)
    (let same : length fresh ≡ length (spots_for r m) = long ∙ ap (λ (ss : List Spot). length ss) (sym spots) in grind (arith, nat_tests))
    (let same : different fresh ≡ length fresh = distinct_count fresh (distinct_of_times fresh (λ b. omega (arith, parted b, times_once 1 b free unused.ascend))) in grind (arith, nat_tests))
    (all_pass (is_unused m) fresh (λ b among. unused.unused b (times_among b free (omega (arith, parted b, among_times b fresh among)))))
  where
    all : (a b c : Bool) → a ≡ true → b ≡ true → c ≡ true → (a && b && c) ≡ true
    all true true c e f g = g
    all true false c e f g = cc
    all false b c e f g = cc

-- ---- the lines

only_fresh : (ls : List Line) → AllFresh ls → fresh_only ls ≡ ls
only_fresh [] all = refl
only_fresh (l ∷ ls) all = ap (λ (t : Bool). cond t (l ∷ fresh_only ls) (fresh_only ls)) all.0 ∙ ap (λ (xs : List Line). l ∷ xs) (only_fresh ls all.1)

none_shared : (ls : List Line) → share_only ls ≡ [] → fresh_only ls ≡ ls
none_shared [] none = refl
none_shared (l ∷ ls) none = by (is_fresh l) none (λ later. none_shared ls later)
  where
    by : (t : Bool) → cond (not t) (l ∷ share_only ls) (share_only ls) ≡ [] → (share_only ls ≡ [] → fresh_only ls ≡ ls) → cond t (l ∷ fresh_only ls) (fresh_only ls) ≡ l ∷ ls
    by true none later = ap (λ (xs : List Line). l ∷ xs) (later none)
    by false none later = cc

lines_fresh : (m : Machine) (lines : List Line) → AreFreshLines m lines → AllFresh lines
lines_fresh m lines are = subst AllFresh (sym are.longest) (all_fresh (lines_places lines))

fresh_long : (m : Machine) (lines : List Line) → AreFreshLines m lines → length (blocks_in lines) ≡ length m.dirty
fresh_long m lines are =
    length-map (lines_places lines) (λ e. e.1) ∙ sym (length-map (lines_places lines) (λ e. e.0)) ∙ ap (λ (ss : List Spot). length ss) are.spots

reported : (r : Rules) (m : Machine) (lines : List Line) (free left : List ℕ) → 0 < r.threshold → IsWhole m → share_lines r m ≡ [] → AreFreshLines m lines
    → AreUnused m free → IsPartedInto free (blocks_in lines) left → IsReport r m (fresh_report r m lines)
reported r m lines free left positive whole none are unused parted =
    let fresh = blocks_in lines in
    let spots = all_fresh_spots r m none in
    let exists = points_exist r m fresh whole.dirty_in_order (may r m fresh free left spots (fresh_long m lines are) unused parted) in
    let is : IsReport r m (report_of r m fresh) = record { positive = positive; whole = whole; point = exists.0 } in
    let all = lines_of r m fresh in
    let shares : share_only all ≡ [] = report_lines_are.shares r m (report_of r m fresh) is ∙ none in
    let placed : placed_at (spots_for r m) (fresh_in (report_of r m fresh)) ≡ lines_places lines =
    (λ i. placed_at ((spots ∙ sym are.spots) i) (exists.1 i)) ∙ placed_again (lines_places lines) in
    let only : fresh_only all ≡ lines = report_lines_are.fresh r m (report_of r m fresh) is ∙ ap fresh_lines placed ∙ sym are.longest in
    let same : all ≡ lines = sym (none_shared all shares) ∙ only in
    let reports : report_of r m fresh ≡ fresh_report r m lines =
    λ i. record { number = next_point m; fresh = line_blocks (only i); shared = line_blocks (shares i); free = free_of (after_point r m fresh); lines = same i } in
    subst (IsReport r m) reports is

told : (r : Rules) (m : Machine) (lines : List Line) → AreFreshLines m lines → fresh_in (fresh_report r m lines) ≡ blocks_in lines
told r m lines are = ap blocks_in (only_fresh lines (lines_fresh m lines are))

length-span : (from n : ℕ) → length (span from n) ≡ n
length-span from zero = refl
length-span from (suc n) = ap suc (length-span (from + 1) n)

lines_many : (ls : List Line) → line_blocks ls ≡ length (lines_places ls)
lines_many [] = refl
lines_many (l ∷ ls) =
    let own : length (line_places l) ≡ l.length = length-map (span 0 l.length) (λ k. ((l.number, l.place + k), l.block + k)) ∙ length-span 0 l.length in
    sum_by-cons (λ (l : Line). l.length) l ls
    ∙ omega (arith, lines_many ls, own, ap (λ (es : Places). length es) (flat_map-cons line_places l ls), length-append (line_places l) (lines_places ls))

many : (m : Machine) (lines : List Line) → AreFreshLines m lines → line_blocks lines ≡ length m.dirty
many m lines are = lines_many lines ∙ sym (length-map (lines_places lines) (λ e. e.0)) ∙ ap (λ (ss : List Spot). length ss) are.spots

pub fresh_is_reported : FreshIsReported
fresh_is_reported = record { report = reported; told = told; many = many }

-- ---- an empty cache

never : (m : Machine) (number place block : ℕ) → m.cache ≡ [] → matches m number place block ≡ false
never m number place block empty = ap (λ (cache : CacheList). and_then (is_cached cache block) (λ _. unwrap_or (option_map (same_bytes (block_at m.tree (number, place))) (held m block)) false)) empty

none_picked : (m : Machine) (number threshold : ℕ) (places : List ℕ) (picked : List Sequence) → m.cache ≡ [] → Picks (matches m number) threshold places picked → picked ≡ []
none_picked m number threshold places [] empty picks = refl
none_picked m number threshold places (q ∷ qs) empty picks =
    let is = picks.0.sequence in
    let match = second_of (is_among places (q.first + 0)) (matches m number (q.first + 0) (q.block + 0)) (is.1 0 is.0) in
    absurd (let no : true ≡ false = sym match ∙ never m number (q.first + 0) (q.block + 0) empty in cc)

none_selected : (r : Rules) (m : Machine) (number : ℕ) → 0 < r.threshold → IsWhole m → m.cache ≡ [] → selected r m number ≡ []
none_selected r m number positive whole empty =
    let is = selected_is r m number positive whole.dirty_in_order in
    is.sorted ∙ ap by_place (none_picked m number r.threshold (dirty_places m number) is.picked empty is.one_by_one)

no_lines : (r : Rules) (m : Machine) (numbers : List ℕ) → ((number : ℕ) → selected r m number ≡ []) → flat_map (λ number. map (share_line number) (selected r m number)) numbers ≡ []
no_lines r m [] none = refl
no_lines r m (n ∷ ns) none =
    flat_map-cons (λ number. map (share_line number) (selected r m number)) n ns ∙ (λ i. map (share_line n) (none n i) ++ no_lines r m ns none i)

pub nothing_is_shared : NothingIsShared
nothing_is_shared r m positive whole empty = no_lines r m (numbers_of m.dirty) (λ number. none_selected r m number positive whole empty)
