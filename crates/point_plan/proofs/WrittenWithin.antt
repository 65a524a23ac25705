-- What a plan writes lies within the disk, and each of its lines is a fresh one.
use Rattle.std.proofs.Common.{◌≡◌, ℕ, ◌+◌, ◌/◌, ◌<◌, ◌≤◌, Bool, true, cond, List, [], ◌∷◌, ◌++◌, refl, sym, ap, subst, ◌∙◌, arith}
use Rattle.std.specs.Prelude.{All}
use Rattle.block_tree.specs.Notes.{page_blocks}
use Rattle.fresh_runs.specs.Fresh.{blocks_in as blocks_told}
use Rattle.place_words.specs.Different.{times}
use Rattle.point_plan.specs.Free.{free_now}
use Rattle.point_plan.specs.Gathered.{IsGathered, pages_in}
use Rattle.point_plan.specs.Planning.{IsLineWithin, IsPlanWithin, blocks_written}
use Rattle.point_plan.specs.PutFrom.{IsPutFrom}
use Rattle.point_plan.specs.PutTogether.{made_plan}
use Rattle.point_plan.specs.State.{IsOfSize, inode_in, size_in}
use Rattle.point_plan.specs.declared.gathering.Gathered.{Gathered}
use Rattle.point_plan.specs.declared.planned.Plan.{Plan}
use Rattle.point_plan.specs.declared.state.PointState.{PointState}
use Rattle.point_plan.proofs.AreaLaws.{all_counted, free_in_area}
use Rattle.point_plan.proofs.LinesWithin.{lines_within}
use Rattle.point_plan.proofs.Times.{times_append}
use Rattle.tree_model.specs.declared.report.Line.{Line}
use Rattle.volume_model.proofs.LineLaws.{AllFresh, all_fresh}
use Rattle.volume_model.specs.Lines.{fresh_only, lines_places}
use Rattle.volume_model.specs.Places.{Spot, has_spot, spots_of}
use Rattle.volume_model.specs.Point.{fresh_in}

only_fresh : (ls : List Line) → AllFresh ls → fresh_only ls ≡ ls
only_fresh [] all = refl
only_fresh (l ∷ ls) all = ap (λ (t : Bool). cond t (l ∷ fresh_only ls) (fresh_only ls)) all.0 ∙ ap (λ (xs : List Line). l ∷ xs) (only_fresh ls all.1)

module _ (blocks : ℕ) (s after : PointState) (g : Gathered) (plan : Plan) (sized : IsOfSize blocks s) (gathered : IsGathered s g) (put : IsPutFrom s after g plan) where
  lines_fresh : fresh_only g.lines ≡ g.lines
  lines_fresh = only_fresh g.lines (subst AllFresh (sym gathered.longest) (all_fresh (lines_places g.lines)))

  abbrev made : Plan
  made = made_plan g put.rewritten plan.root 0

  -- each block is written no more often than it is free
  free_most : (b : ℕ) → times b (blocks_written made) ≤ times b (free_now s)
  free_most b =
      let one = times_append b (pages_in g.nodes ++ page_blocks put.rewritten.pages) (fresh_in made.report) in
      let two = times_append b (pages_in g.nodes) (page_blocks put.rewritten.pages) in
      let three = times_append b (pages_in g.nodes) g.left in
      let four : times b g.left ≡ times b (page_blocks put.rewritten.pages) + times b put.inodes.rest = ap (times b) (sym put.inodes.taken) ∙ times_append b (page_blocks put.rewritten.pages) put.inodes.rest in
      let five : times b (fresh_in made.report) ≡ times b (blocks_told g.lines) = ap (λ (ls : List Line). times b (blocks_told ls)) lines_fresh in
      omega (arith, one, two, three, four, five, gathered.parted b)

  made_blocks : All (λ b. b < blocks) (blocks_written made)
  made_blocks = all_counted (λ b. b < blocks) (free_now s) (blocks_written made) (λ b among. let at = free_in_area s b among in omega (arith, at.1, sized.size)) free_most

  told_below : All (λ b. b < blocks) (blocks_told g.lines)
  told_below = all_counted (λ b. b < blocks) (free_now s) (blocks_told g.lines) (λ b among. let at = free_in_area s b among in omega (arith, at.1, sized.size)) (λ b. omega (arith, gathered.parted b))

  -- a dirty place is one of a file, which has at most 1048576 of them
  near : (spot : Spot) → has_spot (spots_of (lines_places g.lines)) spot ≡ true → spot.1 < 1048576
  near spot has = small spot.1 (size_in (inode_in s spot.0)) (sized.staged.places spot (subst (λ (ss : List Spot). has_spot ss spot ≡ true) gathered.spots has)) (sized.staged.sizes spot.0)
    where
      small : (place size : ℕ) → place < (size + 4095) / 4096 → size ≤ 4294967296 → place < 1048576
      small place size lt le = omega (arith, lt, le)

  pub within : IsPlanWithin blocks plan
  within = record {
    blocks = subst (λ (p : Plan). All (λ b. b < blocks) (blocks_written p)) (sym put.is) made_blocks;
    lines = subst (λ (p : Plan). All (IsLineWithin blocks) p.report.lines) (sym put.is) (lines_within blocks g.lines gathered.longest near told_below);
    fresh = subst (λ (p : Plan). fresh_only p.report.lines ≡ p.report.lines) (sym put.is) lines_fresh;
  }
