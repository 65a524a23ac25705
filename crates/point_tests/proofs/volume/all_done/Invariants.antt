use Rattle.mem_disk.specs.Told.{size_of}
use Rattle.point_plan.specs.State.{IsOfSize}
use Rattle.point_tests.proofs.volume.all_done.Given as goal

abbrev pub invariant-loop-act : goal.invariant-loop-act
invariant-loop-act l = IsOfSize (size_of l.volume.disk.disk) l.volume.state
