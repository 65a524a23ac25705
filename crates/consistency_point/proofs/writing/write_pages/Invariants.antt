use Rattle.std.proofs.Common.{◌≡◌, ◌<◌, ℕ, IsTrue, get_or}
use Rattle.vol_numbers.specs.declared.runs.Page.{Page}
use Rattle.disk_model.specs.Past.{Adds}
use Rattle.block_tree.specs.Notes.{page_blocks}
use Rattle.block_tree.specs.Tree.{blocks_in}
use Rattle.count_pairs.specs.Writing.{ChangesOnly}
use Rattle.place_words.specs.Different.{Distinct}
use Rattle.consistency_point.specs.Writing.{IsPageOf}
use Rattle.consistency_point.proofs.writing.write_pages.Given as goal

abbrev pub invariant-loop-page : goal.invariant-loop-page
invariant-loop-page g l = record {
  stand : IsTrue g.D.Disk.tells → Distinct (page_blocks l.pages) → (k : ℕ) (d : Page) → k < l.page-index → blocks_in (g.D.Disk.state l.disk).contents (get_or l.pages k d).at ≡ (get_or l.pages k d).block.bytes;
  changes : IsTrue g.D.Disk.tells → ChangesOnly (IsPageOf l.pages) (g.D.Disk.state l.fn.disk) (g.D.Disk.state l.disk);
  during : IsTrue g.D.Disk.tells → Adds (g.D.Disk.past l.fn.disk) (g.D.Disk.past l.disk) (ChangesOnly (IsPageOf l.pages) (g.D.Disk.state l.fn.disk));
  fixed : g.D.Disk.fixed l.disk ≡ g.D.Disk.fixed l.fn.disk;
  given : g.D.Disk.given l.disk ≡ g.D.Disk.given l.fn.disk;
  faults : g.D.Disk.faults l.disk ≡ g.D.Disk.faults l.fn.disk;
}
