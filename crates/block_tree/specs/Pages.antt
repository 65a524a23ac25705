-- Pages that are planned.
use Rattle.std.specs.Prelude.{ℕ, List, All}
use Rattle.vol_numbers.specs.Layout.{Layout}
use Rattle.vol_numbers.specs.declared.runs.Page.{Page}
use Rattle.vol_numbers.specs.declared.runs.Change.{Change}
use Rattle.block_format.specs.Index.{IsPointer, SpellsIndex}

-- The page is in the grammar of an index block: it spells pointers, each of them 0 or to a block of the area.
pub record IsIndexPage (g : Layout) (page : Page) : Type 0 where
  pub ptrs : List ℕ
  pub spells : SpellsIndex g ptrs page.block.bytes

-- the changes lead nowhere or into the area
abbrev pub LeadInto : Layout → List Change → Type 0
LeadInto g changes = All (λ (c : Change). IsPointer g c.block) changes
