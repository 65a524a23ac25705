use Rattle.std.proofs.Common.{ℕ, List, map, sym, subst}
use Rattle.block_format.specs.declared.inode.Inode.{Inode}
use Rattle.image_walk.specs.Left.{AreWithin}
use Rattle.place_words.specs.Rising.{Rising}
use Rattle.volume_load.specs.Known.{HasInodes, IsOfImage}
use Rattle.volume_load.specs.Last.{FitsLast, HoldsLast}
use Rattle.volume_load.proofs.FitLaws.{fits_last}
use Rattle.volume_load.proofs.LastLaws.{holds_last, of_image, told_nothing}
use Rattle.volume_load.proofs.loading.with_inodes.Goals as goal

pub known_inodes-requires-clause-rising : goal.known_inodes-requires-clause-rising
known_inodes-requires-clause-rising g c = subst (λ (ns : List (ℕ × Inode)). Rising 1 (map (λ (node : ℕ × Inode). node.0) ns)) (sym c.as_slice-nodes.ensures) c.requires.are.rising

pub known_inodes-requires-clause-numbers : goal.known_inodes-requires-clause-numbers
known_inodes-requires-clause-numbers g c = subst AreWithin (sym c.as_slice-nodes.ensures) c.requires.are.each

pub returns-in_err-inodes-clause-verdict : goal.returns-in_err-inodes-clause-verdict
returns-in_err-inodes-clause-verdict g c tells loaded =
    let image = (g.D.Disk.state c.args.disk.now).contents in
    let e = c.args.examined in
    let fault = c.in_err-inodes.field-0.0 in
    told_nothing image _ _ fault c.from_residual.ensures.1
    (c.in_err-inodes.ensures.found tells (subst (λ (ns : List (ℕ × Inode)). IsOfImage image e.current.body ns) (sym c.as_slice-nodes.ensures) (of_image image e loaded _ c.requires)))

pub returns-clause-verdict : goal.returns-clause-verdict
returns-clause-verdict g c tells loaded =
    let image = (g.D.Disk.state c.args.disk.now).contents in
    let e = c.args.examined in
    let t = c.in_ok-inodes.inodes in
    let i = c.in_ok-inodes.ensures in
    let has = subst (λ (ns : List (ℕ × Inode)). HasInodes ns t.inodes) c.as_slice-nodes.ensures i.inodes in
    subst (HoldsLast image) (sym c.rested.ensures.is)
    (holds_last image e loaded _ c.requires t i.whole.inodes has i.unchanged i.index (i.pointers tells) c.standing_is_mountable.ensures c.always_coherent.ensures c.at_rest.ensures c.clean_nodes_are.ensures _ c.rested.ensures.clean)

pub returns-clause-fits : goal.returns-clause-fits
returns-clause-fits g c =
    let e = c.args.examined in
    let t = c.in_ok-inodes.inodes in
    let i = c.in_ok-inodes.ensures in
    let has = subst (λ (ns : List (ℕ × Inode)). HasInodes ns t.inodes) c.as_slice-nodes.ensures i.inodes in
    subst (FitsLast (g.D.Disk.fixed c.args.disk.now).size) (sym c.rested.ensures.is) (fits_last _ e c.requires t i.whole i.within i.unchanged i.index has _ c.rested.ensures.clean)
