use Rattle.std.proofs.Common.{◌≡◌, ◌+◌, drop}
use Rattle.content_model.specs.Kin.{place_in}
use Rattle.content_model.proofs.kin_list.place_in.Given as goal

abbrev pub invariant-loop-i : goal.invariant-loop-i
invariant-loop-i l = l.i + place_in l.block (drop l.i l.blocks) ≡ place_in l.block l.blocks
