use Rattle.std.proofs.Common.{◌≡◌, ◌≤◌, ℕ, IsTrue, true, length, drop}
use Rattle.std.specs.Prelude.{◌&&◌, ◌||◌}
use Rattle.disk_model.specs.Past.{Adds}
use Rattle.place_words.specs.Different.{is_among}
use Rattle.sequence_rule.specs.Matches.{holds}
use Rattle.sequence_rule.proofs.matching.holding.Given as goal

-- those that were found, and those that hold the bytes among what is still to come, are all
abbrev pub invariant-loop-at : goal.invariant-loop-at
invariant-loop-at g l = record {
  kin : (at : ℕ) → is_among l.blocks at ≡ true → is_among l.kin at ≡ true;
  holding : IsTrue g.D.Disk.tells → (at : ℕ) → (is_among l.blocks at || (is_among (drop l.at-index l.kin) at && holds (g.D.Disk.state l.fn.disk).contents at l.block))
      ≡ (is_among l.kin at && holds (g.D.Disk.state l.fn.disk).contents at l.block);
  few : length l.blocks ≤ l.at-index;
  same : IsTrue g.D.Disk.tells → g.D.Disk.state l.disk ≡ g.D.Disk.state l.fn.disk;
  moments : IsTrue g.D.Disk.tells → Adds (g.D.Disk.past l.fn.disk) (g.D.Disk.past l.disk) (λ s. s ≡ g.D.Disk.state l.fn.disk);
  fixed : g.D.Disk.fixed l.disk ≡ g.D.Disk.fixed l.fn.disk;
  given : (g.D.Disk.given l.fn.disk).count ≤ (g.D.Disk.given l.disk).count;
  faults : g.D.Disk.faults l.disk ≡ g.D.Disk.faults l.fn.disk;
}
