-- What stands stays while other blocks are written.
use Rattle.std.proofs.Common.{◌≡◌, ◌<◌, ◌≤◌, ◌+◌, ℕ, zero, suc, true, List, [], ◌∷◌, ◌++◌, length, map, get_or, refl, sym, ap, subst, ◌∙◌, ⊎_elim, arith}
use Rattle.std.specs.Prelude.{◌||◌, nat_eq, All, Bool}
use Rattle.std.proofs.lemmas.Bool.{cases_eq}
use Rattle.std.proofs.lemmas.Bool.Decides.{nat_tests}
use Rattle.vol_numbers.specs.declared.runs.Page.{Page}
use Rattle.block_tree.specs.Notes.{Stand, page_blocks}
use Rattle.block_tree.specs.Tree.{blocks_in}
use Rattle.count_pairs.specs.Writing.{ChangesOnly}
use Rattle.count_pairs.proofs.ChangeLaws.{bytes_kept}
use Rattle.dirty_store.specs.Overlay.{Overlay}
use Rattle.disk_model.specs.Disk.{State}
use Rattle.place_words.specs.Different.{Distinct, is_among, span}
use Rattle.point_plan.specs.Carries.{LineStands}
use Rattle.point_plan.specs.Planning.{blocks_written}
use Rattle.point_plan.specs.declared.planned.Plan.{Plan}
use Rattle.point_plan.specs.declared.planned_node.PlannedNode.{PlannedNode}
use Rattle.tree_model.specs.declared.report.Line.{Line}
use Rattle.volume_model.specs.Lines.{line_places, lines_places, fresh_only}
use Rattle.volume_model.specs.Places.{Places, blocks_of}
use Rattle.consistency_point.specs.Writing.{IsBlockOf, IsOneOf, IsPageOf, PlanStands, blocks_of_lines, blocks_of_nodes}
use Rattle.consistency_point.proofs.ListLaws.{among_left, among_part, among_right, apart, distinct_left, distinct_part, distinct_right, or_right, parts_apart, same_item}
use Rattle.consistency_point.proofs.PageLaws.{among_at}

-- what changes some blocks changes those of more
pub weaker : {P Q : ℕ → Type 0} {before after : State} → ((b : ℕ) → Q b → P b) → ChangesOnly Q before after → ChangesOnly P before after
weaker within changes = record {
  as_long = changes.as_long;
  others = λ b none. changes.others b (λ q. none (within b q));
  others_unsynced = λ b none. changes.others_unsynced b (λ q. none (within b q));
  stay_unsynced = changes.stay_unsynced;
  changed_unsynced = changes.changed_unsynced;
}

-- pages whose blocks aren't changed stand
pub stand_kept : {P : ℕ → Type 0} {before after : State} (pages : List Page) → ChangesOnly P before after → ((b : ℕ) → is_among (page_blocks pages) b ≡ true → ¬ P b)
    → Stand pages (blocks_in before.contents) → Stand pages (blocks_in after.contents)
stand_kept pages changes none stand = record { each = λ k d lt. bytes_kept (get_or pages k d).at changes (none (get_or pages k d).at (among_at pages k d lt)) ∙ stand.each k d lt }

-- ---- lines

-- one of so many blocks from one on
counted_among : (number place block from n k : ℕ) → from ≤ k → k < from + n
    → is_among (blocks_of (map (λ (j : ℕ). ((number, place + j), block + j)) (span from n))) (block + k) ≡ true
counted_among number place block from zero k le lt = absurd (omega (arith, le, lt))
counted_among number place block from (suc n) k le lt = ⊎_elim
    (λ same.
    let here : nat_eq (block + from) (block + k) ≡ true = grind (arith, nat_tests) in
    ap (λ (t : Bool). t || is_among (blocks_of (map (λ (j : ℕ). ((number, place + j), block + j)) (span (from + 1) n))) (block + k)) here)
    (λ other. or_right (nat_eq (block + from) (block + k)) _ (counted_among number place block (from + 1) n k (omega (arith, le, other)) (omega (arith, lt))))
    (cases_eq from k)

pub line_among : (l : Line) (k : ℕ) → k < l.length → is_among (blocks_of (line_places l)) (l.block + k) ≡ true
line_among l k lt = counted_among l.number l.place l.block 0 l.length k (omega arith) (omega (arith, lt))

pub block_among : (l : Line) (b : ℕ) → IsBlockOf l b → is_among (blocks_of (line_places l)) b ≡ true
block_among l b is = subst (λ (c : ℕ). is_among (blocks_of (line_places l)) c ≡ true) (sym is.2) (line_among l is.0 is.1)

-- a line whose blocks aren't changed stands
pub line_kept : {P : ℕ → Type 0} {before after : State} (o : Overlay) (l : Line) → ChangesOnly P before after → ((b : ℕ) → is_among (blocks_of (line_places l)) b ≡ true → ¬ P b)
    → LineStands o (blocks_in before.contents) l → LineStands o (blocks_in after.contents) l
line_kept o l changes none stands k staged lt found = bytes_kept (l.block + k) changes (none (l.block + k) (line_among l k lt)) ∙ stands k staged lt found

-- ---- node after node, and line after line

module _ (nodes : List PlannedNode) (i : ℕ) (d : PlannedNode) (pages : List Page) (lt : i < length nodes) (is : pages ≡ (get_or nodes i d).pages) where
  pub node_within : (b : ℕ) → IsPageOf pages b → IsOneOf (blocks_of_nodes nodes) b
  node_within b one = among_part (λ (p : PlannedNode). page_blocks p.pages) nodes i d b lt (ap (λ (ps : List Page). is_among (page_blocks ps) b) (sym is) ∙ one)

  pub node_distinct : Distinct (blocks_of_nodes nodes) → Distinct (page_blocks pages)
  node_distinct distinct = subst (λ (ps : List Page). Distinct (page_blocks ps)) (sym is) (distinct_part (λ (p : PlannedNode). page_blocks p.pages) nodes i d distinct lt)

  pub nodes_more : {before after : State} → Distinct (blocks_of_nodes nodes) → ChangesOnly (IsPageOf pages) before after → Stand pages (blocks_in after.contents)
      → ((k : ℕ) (e : PlannedNode) → k < i → Stand (get_or nodes k e).pages (blocks_in before.contents)) → (k : ℕ) (e : PlannedNode) → k < i + 1 → Stand (get_or nodes k e).pages (blocks_in after.contents)
  nodes_more {before} {after} distinct changes here so_far k e below = ⊎_elim
      (λ same.
      let own : pages ≡ (get_or nodes k e).pages = is ∙ ap (λ (p : PlannedNode). p.pages) (same_item nodes i d e lt ∙ ap (λ (j : ℕ). get_or nodes j e) (sym same)) in
      subst (λ (ps : List Page). Stand ps (blocks_in after.contents)) own here)
      (λ other.
      let less : k < i = omega (arith, below, other) in
      stand_kept (get_or nodes k e).pages changes
      (λ b there one. parts_apart (λ (p : PlannedNode). page_blocks p.pages) nodes k i e d b distinct less lt there (ap (λ (ps : List Page). is_among (page_blocks ps) b) (sym is) ∙ one))
      (so_far k e less))
      (cases_eq k i)

module _ (lines : List Line) (i : ℕ) (d line : Line) (lt : i < length lines) (is : line ≡ get_or lines i d) where
  pub line_within : (b : ℕ) → IsBlockOf line b → IsOneOf (blocks_of_lines lines) b
  line_within b one = among_part (λ (l : Line). blocks_of (line_places l)) lines i d b lt (ap (λ (l : Line). is_among (blocks_of (line_places l)) b) (sym is) ∙ block_among line b one)

  pub lines_more : (o : Overlay) {before after : State} → Distinct (blocks_of_lines lines) → ChangesOnly (IsBlockOf line) before after → LineStands o (blocks_in after.contents) line
      → ((k : ℕ) (e : Line) → k < i → LineStands o (blocks_in before.contents) (get_or lines k e)) → (k : ℕ) (e : Line) → k < i + 1 → LineStands o (blocks_in after.contents) (get_or lines k e)
  lines_more o {before} {after} distinct changes here so_far k e below = ⊎_elim
      (λ same.
      let own : line ≡ get_or lines k e = is ∙ same_item lines i d e lt ∙ ap (λ (j : ℕ). get_or lines j e) (sym same) in
      subst (LineStands o (blocks_in after.contents)) own here)
      (λ other.
      let less : k < i = omega (arith, below, other) in
      line_kept o (get_or lines k e) changes
      (λ b there one. parts_apart (λ (l : Line). blocks_of (line_places l)) lines k i e d b distinct less lt there (ap (λ (l : Line). is_among (blocks_of (line_places l)) b) (sym is) ∙ block_among line b one))
      (so_far k e less))
      (cases_eq k i)

-- ---- all that a plan writes

blocks_append : (xs ys : Places) → blocks_of (xs ++ ys) ≡ blocks_of xs ++ blocks_of ys
blocks_append [] ys = refl
blocks_append (x ∷ xs) ys = ap (λ (bs : List ℕ). x.1 ∷ bs) (blocks_append xs ys)

lines_blocks : (lines : List Line) → blocks_of (lines_places lines) ≡ blocks_of_lines lines
lines_blocks [] = refl
lines_blocks (l ∷ ls) = blocks_append (line_places l) (lines_places ls) ∙ ap (λ (bs : List ℕ). blocks_of (line_places l) ++ bs) (lines_blocks ls)

module _ (plan : Plan) (fresh : fresh_only plan.report.lines ≡ plan.report.lines) where
  abbrev nodes : List ℕ
  nodes = blocks_of_nodes plan.nodes

  abbrev inodes : List ℕ
  inodes = page_blocks plan.inode_pages

  abbrev lines : List ℕ
  lines = blocks_of_lines plan.report.lines

  pub written_is : blocks_written plan ≡ (nodes ++ inodes) ++ lines
  written_is = ap (λ (bs : List ℕ). (nodes ++ inodes) ++ bs) (ap (λ (ls : List Line). blocks_of (lines_places ls)) fresh ∙ lines_blocks plan.report.lines)

  one_of : (b : ℕ) → is_among ((nodes ++ inodes) ++ lines) b ≡ true → IsOneOf (blocks_written plan) b
  one_of b is = ap (λ (bs : List ℕ). is_among bs b) written_is ∙ is

  pub of_node : (b : ℕ) → IsOneOf nodes b → IsOneOf (blocks_written plan) b
  of_node b is = one_of b (among_left (nodes ++ inodes) lines b (among_left nodes inodes b is))

  pub of_inodes : (b : ℕ) → IsOneOf inodes b → IsOneOf (blocks_written plan) b
  of_inodes b is = one_of b (among_left (nodes ++ inodes) lines b (among_right nodes inodes b is))

  pub of_line : (b : ℕ) → IsOneOf lines b → IsOneOf (blocks_written plan) b
  of_line b is = one_of b (among_right (nodes ++ inodes) lines b is)

  module _ (distinct : Distinct (blocks_written plan)) where
    parts : Distinct ((nodes ++ inodes) ++ lines)
    parts = subst Distinct written_is distinct

    pub nodes_distinct : Distinct nodes
    nodes_distinct = distinct_left nodes inodes (distinct_left (nodes ++ inodes) lines parts)

    pub inodes_distinct : Distinct inodes
    inodes_distinct = distinct_right nodes inodes (distinct_left (nodes ++ inodes) lines parts)

    pub lines_distinct : Distinct lines
    lines_distinct = distinct_right (nodes ++ inodes) lines parts

    -- the pages of nodes, then those of inodes, and then the lines: all stand
    pub plan_stands : (o : Overlay) {s1 s2 s3 : State} → ChangesOnly (IsPageOf plan.inode_pages) s1 s2 → ChangesOnly (IsOneOf lines) s2 s3
        → All (λ (p : PlannedNode). Stand p.pages (blocks_in s1.contents)) plan.nodes → Stand plan.inode_pages (blocks_in s2.contents) → All (LineStands o (blocks_in s3.contents)) plan.report.lines
        → PlanStands o plan (blocks_in s3.contents)
    plan_stands o {s1} {s2} {s3} second third node_pages inode_pages line_blocks = record {
      nodes = λ k d lt.
          let pages = (get_or plan.nodes k d).pages in
          let here : (b : ℕ) → is_among (page_blocks pages) b ≡ true → IsOneOf nodes b = λ b is. among_part (λ (p : PlannedNode). page_blocks p.pages) plan.nodes k d b lt is in
          stand_kept pages third (λ b is one. apart (nodes ++ inodes) lines b parts (among_left nodes inodes b (here b is)) one)
          (stand_kept pages second (λ b is one. apart nodes inodes b (distinct_left (nodes ++ inodes) lines parts) (here b is) one) (node_pages k d lt));
      inode_pages = stand_kept plan.inode_pages third (λ b is one. apart (nodes ++ inodes) lines b parts (among_right nodes inodes b is) one) inode_pages;
      lines = line_blocks;
    }
