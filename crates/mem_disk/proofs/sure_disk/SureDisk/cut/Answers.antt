use Rattle.std.proofs.Common.{refl, arith}
use Rattle.std.proofs.lemmas.List.Elements.{recursion_from_All}
use Rattle.disk_model.specs.Disk.{is_among}
use Rattle.disk_model.specs.declared.pick.Pick.{Pick}
use Rattle.std.proofs.Common.{◌≡◌, true}
use Rattle.mem_disk.specs.Memory.{told}
use Rattle.mem_disk.proofs.MemoryLemmas.{open_within, none_open, picked_image}
use Rattle.mem_disk.proofs.sure_disk.SureDisk.cut.Goals as goal

pub put_all-requires : goal.put_all-requires
put_all-requires c k d lt = omega (arith, c.args.self.now.paired, open_within c.args.self.now.flags.items _ (c.if-not-are_unsynced.ensures.0 refl k d lt))

pub returns-clause-synced : goal.returns-clause-synced
returns-clause-synced c = none_open 0 c.close_all.new.flags.items c.close_all.ensures.closed

pub returns-clause-image : goal.returns-clause-image
returns-clause-image c =
    let old = told (c.args.self.now.cells.items, c.args.self.now.flags.items) in
    rw c.put_all.ensures.picked (picked_image old c.args.picks.now c.args.self.now.cells.items
    (recursion_from_All (λ (pick : Pick). is_among old.unsynced pick.at ≡ true) c.args.picks.now (c.if-not-are_unsynced.ensures.0 refl))
    (record { as_long = refl; agrees = λ at closed. refl }))
