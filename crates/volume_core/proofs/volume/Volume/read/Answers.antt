-- The bytes that are read are those of the file that the path leads to.
use Rattle.std.proofs.Common.{ℕ, List, refl, subst, sym}
use Rattle.disk_model.specs.Disk.{State}
use Rattle.node_table.specs.Held.{HoldsNodes}
use Rattle.tree_model.specs.declared.command.Command.TheVariants.{Read}
use Rattle.tree_model.specs.declared.refusal.Refusal.{Refusal}
use Rattle.tree_model.specs.declared.reply.Reply.TheVariants.{Refused}
use Rattle.volume_core.specs.Answers.{IsReplyTo}
use Rattle.volume_core.specs.Memory.{Memory}
use Rattle.volume_core.proofs.InsideLaws.{files_inside, layout_inside, nodes_inside}
use Rattle.volume_core.proofs.LookLaws.{not_counted}
use Rattle.volume_core.proofs.ReadLaws.{data_is, fault_is, no_file, not_found, not_found_counts, number_within, size_within}
use Rattle.volume_core.proofs.volume.Volume.read.Goals as goal

pub returns-in-Err-clause-reply : goal.returns-in-Err-clause-reply
returns-in-Err-clause-reply g c tells r m is =
    not_found m c.args.path.now c.args.offset c.args.length c.in-Err.refusal
    (c.in-Err.ensures m.tree is.holds.holds.coherent.tree (nodes_inside r m (g.D.Disk.state c.args.disk.now) _ c.args.self.now c.self.view_is is c.table_holds_tree.ensures _ c.requires.fits))

pub returns-in-Err-clause-cause : goal.returns-in-Err-clause-cause
returns-in-Err-clause-cause g c =
    let some = c.requires.fits.tree in
    not_counted (g.D.Disk.faults c.args.disk.now) (g.D.Disk.faults c.args.disk.now) (Refused c.in-Err.refusal) (not_found_counts some.tree c.args.path.now c.in-Err.refusal (c.in-Err.ensures some.tree some.is_tree (subst (λ (v : Memory). HoldsNodes v.nodes some.tree) (sym c.self.view_is) some.holds))) refl

pub returns-in_default-clause-reply : goal.returns-in_default-clause-reply
returns-in_default-clause-reply g c tells r m is =
    no_file m c.args.path.now c.args.offset c.args.length c.in-Ok.found
    (c.in-Ok.ensures m.tree is.holds.holds.coherent.tree (nodes_inside r m (g.D.Disk.state c.args.disk.now) _ c.args.self.now c.self.view_is is c.table_holds_tree.ensures _ c.requires.fits)) c.in_default.not-File

pub read_bytes-requires-clause-number : goal.read_bytes-requires-clause-number
read_bytes-requires-clause-number g c =
    let some = c.requires.fits.tree in
    number_within some.tree c.args.path.now c.in-Ok.found some.is_tree (c.in-Ok.ensures some.tree some.is_tree (subst (λ (v : Memory). HoldsNodes v.nodes some.tree) (sym c.self.view_is) some.holds))

pub read_bytes-requires-clause-largest : goal.read_bytes-requires-clause-largest
read_bytes-requires-clause-largest g c =
    let some = c.requires.fits.tree in
    size_within some.tree c.args.path.now c.in-Ok.found c.in-File.size some.is_tree (c.in-Ok.ensures some.tree some.is_tree (subst (λ (v : Memory). HoldsNodes v.nodes some.tree) (sym c.self.view_is) some.holds)) c.in-File.is

pub returns-in-Ok-read_bytes-clause-reply : goal.returns-in-Ok-read_bytes-clause-reply
returns-in-Ok-read_bytes-clause-reply g c tells r m is =
    let s : State = g.D.Disk.state c.args.disk.now in
    data_is c.read_is_data.ensures m c.args.path.now c.args.offset c.args.length c.in-Ok.found c.in-File.size c.in-Ok-read_bytes.bytes is.holds.holds.coherent.tree
    (c.in-Ok.ensures m.tree is.holds.holds.coherent.tree (nodes_inside r m s _ c.args.self.now c.self.view_is is c.table_holds_tree.ensures _ c.requires.fits)) c.in-File.is
    (c.in-Ok-read_bytes.ensures.read tells r m (files_inside r m s _ c.args.self.now c.self.view_is is))

pub returns-in-Err-read_bytes-clause-reply : goal.returns-in-Err-read_bytes-clause-reply
returns-in-Err-read_bytes-clause-reply g c tells r m is =
    let s : State = g.D.Disk.state c.args.disk.now in
    subst (λ (x : Refusal). IsReplyTo m (Read c.args.path.now c.args.offset c.args.length) (Refused x)) (sym c.refusal_by.ensures)
    (fault_is (List ℕ) m c.args.path.now c.args.offset c.args.length c.in-Err-read_bytes.fault
    (c.in-Err-read_bytes.ensures.sound tells r m (files_inside r m s _ c.args.self.now c.self.view_is is) (layout_inside r m s _ c.args.self.now c.self.view_is is (g.D.Disk.fixed c.args.disk.now).size c.requires.fits)))
