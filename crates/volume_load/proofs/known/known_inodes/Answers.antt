use Rattle.std.proofs.Common.{Bool, sym, subst}
use Rattle.vol_numbers.specs.Geometry.{layout_of}
use Rattle.disk_model.specs.Disk.{State}
use Rattle.block_format.specs.declared.inode.Inode.{Inode}
use Rattle.block_tree.specs.Tree.{blocks_in}
use Rattle.fs_check.specs.Cause.{HasFaultCause}
use Rattle.fs_check.specs.declared.fault.CheckFault.{CheckFault}
use Rattle.fs_check.specs.declared.fault.CheckFault.TheVariants.{OutOfMemory}
use Rattle.inode_file.specs.Inodes.{InodeTable}
use Rattle.inode_file.specs.Loading.{HasDamage, IsWhole}
use Rattle.volume_load.specs.Known.{IsNoFinding}
use Rattle.volume_load.proofs.FoundLaws.{none_damaged, nothing_found, sound_of, tree_cause}
use Rattle.volume_load.proofs.NumberLaws.{whole_among}
use Rattle.volume_load.proofs.known.known_inodes.Goals as goal

pub returns-in-Some-clause-found : goal.returns-in-Some-clause-found
returns-in-Some-clause-found g c tells is = c.in-Some.ensures (sound_of (g.D.Disk.state c.args.disk.now).contents c.args.body.now c.args.nodes.now is)

pub returns-in_err-inodes-clause-found : goal.returns-in_err-inodes-clause-found
returns-in_err-inodes-clause-found g c tells is = nothing_found _ OutOfMemory c.from_residual.ensures.1 tt

pub of_inodes-requires-clause-index : goal.of_inodes-requires-clause-index
of_inodes-requires-clause-index g c = c.in-None.ensures.index_in

pub of_inodes-requires-clause-inodes : goal.of_inodes-requires-clause-inodes
of_inodes-requires-clause-inodes g c n =
    let lay = layout_of c.args.body.now.geometry in
    subst (λ (x : Inode). IsWhole lay x) (sym (c.in_ok-inodes.ensures.each n)) (whole_among lay c.args.nodes.now c.in-None.ensures.whole n)

pub returns-in-Err-clause-found : goal.returns-in-Err-clause-found
returns-in-Err-clause-found g c tells is =
    let image = (g.D.Disk.state c.args.disk.now).contents in
    let body = c.args.body.now in
    let lay = layout_of body.geometry in
    let fault = c.in-Err.fault in
    let old = g.D.Disk.given c.args.disk.now in
    let new = g.D.Disk.given c.of_inodes.new.disk in
    let here = subst (λ (st : State). HasDamage lay g.D.Disk.tells (blocks_in st.contents) body.inode_index old new fault) (c.in-Err.ensures.same tells) c.in-Err.ensures.damaged in
    let damage = subst (λ (t : Bool). HasDamage lay t (blocks_in image) body.inode_index old new fault) tells here in
    subst IsNoFinding (sym c.as_check_fault.ensures)
    (none_damaged image body c.args.nodes.now is c.requires.grammar.valid c.in_ok-inodes.inodes.items c.in_ok-inodes.ensures.many c.in_ok-inodes.ensures.each c.not_damaged.ensures old new fault damage)

pub returns-in-Err-clause-cause : goal.returns-in-Err-clause-cause
returns-in-Err-clause-cause g c = subst (λ (f : CheckFault). HasFaultCause (g.D.Disk.faults c.args.disk.now) (g.D.Disk.faults c.of_inodes.new.disk) f) (sym c.as_check_fault.ensures) (tree_cause InodeTable _ _ c.in-Err.fault c.in-Err.ensures.cause)
