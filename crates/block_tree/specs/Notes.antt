-- What a rewriting notes.
use Rattle.std.specs.Prelude.{◌≡◌, ◌≤◌, ℕ, ◌+◌, ◌-◌, ◌==◌, if◌then◌else◌, List, [], ◌∷◌, ◌++◌, map, All}
use Rattle.vol_numbers.specs.Layout.{Layout}
use Rattle.vol_numbers.specs.declared.runs.Page.{Page}
use Rattle.vol_numbers.specs.declared.runs.Change.{Change}
use Rattle.block_format.specs.Index.{IsPointer}
use Rattle.block_tree.specs.Tree.{Blocks, nonzero}
use Rattle.block_tree.specs.Pages.{IsIndexPage}
use Rattle.block_tree.specs.Edit.{portion}
use Rattle.block_tree.specs.declared.plan.Rewritten.{Rewritten}
use Rattle.place_words.specs.Different.{times, total, span}

-- the free blocks that are left, the pages to be written, and the pointers that come and that go, with repeats
pub record Noted : Type 0 where
  pub free : List ℕ
  pub pages : List Page
  pub added : List ℕ
  pub dropped : List ℕ

abbrev pub no_notes : List ℕ → Noted
no_notes free = record { free = free; pages = []; added = []; dropped = [] }

-- what a plan has, and the free blocks that are left
abbrev pub notes_in : Rewritten → List ℕ → Noted
notes_in w free = record { free = free; pages = w.pages; added = w.added; dropped = w.dropped }

-- the blocks that the pages are for
abbrev pub page_blocks : List Page → List ℕ
page_blocks pages = map (λ (p : Page). p.at) pages

-- each page stands in its block
pub record Stand (pages : List Page) (read : Blocks) : Type 0 where
  pub each : All (λ (p : Page). read p.at ≡ p.block.bytes) pages

-- how many pointers lead to a block
abbrev pub refs : ℕ → List ℕ → ℕ
refs b xs = times b (nonzero xs)

-- how many pages are for a block
abbrev pub paged : ℕ → Noted → ℕ
paged b n = times b (page_blocks n.pages)

-- The pointers of before, with those that were added and without those that were dropped, are the pointers of after.
pub record Settles (before after : List ℕ) (m n : Noted) : Type 0 where
  pub each : (b : ℕ) → times b (nonzero before) + times b n.added + times b m.dropped ≡ times b (nonzero after) + times b m.added + times b n.dropped

-- The blocks of new pages are taken from the free ones, in order, and no page is lost.
pub record Takes (m n : Noted) : Type 0 where
  pub in_order : page_blocks n.pages ++ n.free ≡ page_blocks m.pages ++ m.free
  pub grows : (read : Blocks) → Stand n.pages read → Stand m.pages read

-- the blocks of changes
abbrev pub change_blocks : List Change → List ℕ
change_blocks changes = map (λ (c : Change). c.block) changes

-- What is added besides is, number by number, the block of a new page or of a change.
pub record Uses (changes : List Change) (m n : Noted) : Type 0 where
  pub each : (b : ℕ) → times b n.added + paged b m ≤ times b m.added + paged b n + times b (change_blocks changes)

-- how often a block is that of a change in one of the leaves from one on and below another
abbrev pub leaves_use : ℕ → List Change → ℕ → ℕ → ℕ
leaves_use b changes k end = total (λ j. times b (change_blocks (portion j changes))) (span k (end - k))

-- The same of the changes in the leaves from 1 up to one.
pub record LeavesUse (changes : List Change) (end : ℕ) (m n : Noted) : Type 0 where
  pub each : (b : ℕ) → times b n.added + paged b m ≤ times b m.added + paged b n + leaves_use b changes 1 end

-- how often, place by place, there is a pointer to a block where there was another one
abbrev pub brought : ℕ → List ℕ → List ℕ → ℕ
brought b [] ptrs = 0
brought b (w ∷ was) [] = 0
brought b (w ∷ was) (p ∷ ptrs) = (if p == w then 0 else refs b (p ∷ [])) + brought b was ptrs

-- Each page is in the grammar of an index block, and each free block is one of the area.
pub record AreSound (g : Layout) (n : Noted) : Type 0 where
  pub pages : All (IsIndexPage g) n.pages
  pub free : All (IsPointer g) n.free
