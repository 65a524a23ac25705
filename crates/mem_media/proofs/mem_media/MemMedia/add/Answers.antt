use Rattle.std.proofs.Common.{◌≡◌, ap, refl}
use Rattle.mem_disk.specs.Told.{state_of}
use Rattle.mem_media.specs.Named.{past_since}
use Rattle.mem_disk.specs.declared.mem_disk.MemDisk.{MemDisk}
use Rattle.disk_model.specs.Past.{Past, Adds, Keeps}
use Rattle.disk_model.proofs.Moments.{adds_none}
use Rattle.mem_media.proofs.MediaLemmas.{not_current, same_moments}
use Rattle.mem_media.proofs.mem_media.MemMedia.add.Goals as goal

pub returns-in-Some-clause-added : goal.returns-in-Some-clause-added
returns-in-Some-clause-added c = let sets = rw c.in-Some.is at (c.disk.follows.holds c.args.disk) in sets.image

pub returns-in-Some-clause-others : goal.returns-in-Some-clause-others
returns-in-Some-clause-others c = let sets = rw c.in-Some.is at (c.disk.follows.holds c.args.disk) in sets.others

pub returns-in-Some-clause-current : goal.returns-in-Some-clause-current
returns-in-Some-clause-current c = let sets = rw c.in-Some.is at (c.disk.follows.holds c.args.disk) in sets.current

pub returns-in-Some-clause-state : goal.returns-in-Some-clause-state
returns-in-Some-clause-state c ne =
    let sets = rw c.in-Some.is at (c.disk.follows.holds c.args.disk) in
    ap (λ (d : MemDisk). state_of d) (sets.not_open (not_current _ c.args.name.now ne))

pub returns-in-Some-clause-faults : goal.returns-in-Some-clause-faults
returns-in-Some-clause-faults c = let sets = rw c.in-Some.is at (c.disk.follows.holds c.args.disk) in sets.faults

pub returns-in-Some-clause-given : goal.returns-in-Some-clause-given
returns-in-Some-clause-given c = let sets = rw c.in-Some.is at (c.disk.follows.holds c.args.disk) in sets.given

pub returns-in-Some-clause-told : goal.returns-in-Some-clause-told
returns-in-Some-clause-told c ne =
    let sets = rw c.in-Some.is at (c.disk.follows.holds c.args.disk) in
    same_moments (λ (p : Past). p.is_told ≡ (past_since c.args.self.now).is_told) sets (not_current _ c.args.name.now ne) refl

pub returns-in-Some-clause-moments : goal.returns-in-Some-clause-moments
returns-in-Some-clause-moments c ne =
    let sets = rw c.in-Some.is at (c.disk.follows.holds c.args.disk) in
    same_moments (λ (p : Past). Adds (past_since c.args.self.now) p (λ s. ⊥)) sets (not_current _ c.args.name.now ne) (adds_none _ _)

pub returns-in-Some-clause-keeps : goal.returns-in-Some-clause-keeps
returns-in-Some-clause-keeps c ne =
    let sets = rw c.in-Some.is at (c.disk.follows.holds c.args.disk) in
    same_moments (λ (p : Past). Keeps (past_since c.args.self.now) p) sets (not_current _ c.args.name.now ne) (λ is t s le stood. stood)
