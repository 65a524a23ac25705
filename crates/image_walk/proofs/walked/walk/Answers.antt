use Rattle.std.proofs.Common.{◌∙◌, ◌++◌, ◌*◌, [], List, ℕ, map, arith, ap, sym, subst}
use Rattle.vol_numbers.specs.Geometry.{layout_of}
use Rattle.vol_numbers.specs.Layout.{count_blocks}
use Rattle.block_tree.specs.Tree.{blocks_in}
use Rattle.image_model.specs.Walk.{nodes_at, walk}
use Rattle.block_format.specs.declared.inode.Inode.{Inode}
use Rattle.place_words.specs.Rising.{Rising}
use Rattle.image_walk.specs.Blocks.{AreOnDisk, NeverFall, blocks_held}
use Rattle.image_walk.specs.Kept.{all_lasts, pages_of}
use Rattle.image_walk.specs.Left.{AreWithin, HaveWidths, OfSeen, SeesEnds}
use Rattle.image_walk.specs.declared.node_block.NodeBlock.{NodeBlock}
use Rattle.image_walk.proofs.LeftLaws.{pages_seen, owners_seen, ends_seen}
use Rattle.image_walk.proofs.OrderLaws.{are_within, all_rise, have_widths, never_fall, on_disk}
use Rattle.image_walk.specs.declared.marks.Mark.{Mark}
use Rattle.image_walk.specs.Marks.{Says, SaysUpTo}
use Rattle.image_walk.proofs.MarkLaws.{says_nothing}
use Rattle.image_walk.proofs.WholeLaws.{found_first, says_exact}
use Rattle.image_walk.proofs.FewPointers.{few_pointers, few_indexes}
use Rattle.image_walk.proofs.walked.walk.Goals as goal

pub returns-in_err-walk_parts-clause-found : goal.returns-in_err-walk_parts-clause-found
returns-in_err-walk_parts-clause-found g c tells =
    let lay = layout_of c.args.g.now in
    let read = blocks_in (g.D.Disk.state c.args.disk.now).contents in
    let none : SaysUpTo c.in_ok-walking.walking.reached.marks [] = subst (λ (ms : List Mark). SaysUpTo ms []) (sym c.in_ok-walking.ensures.marks) (says_nothing (1024 * count_blocks lay)) in
    found_first lay c.in_ok-walking.walking.reached.marks (walk read c.args.at) _ c.in_err-walk_parts.field-0.0 c.from_residual-in_err-walk_parts.ensures.1 none (c.in_err-walk_parts.ensures.walked tells)

pub returns-clause-found : goal.returns-clause-found
returns-clause-found g c tells =
    let lay = layout_of c.args.g.now in
    let none : SaysUpTo c.in_ok-walking.walking.reached.marks [] = subst (λ (ms : List Mark). SaysUpTo ms []) (sym c.in_ok-walking.ensures.marks) (says_nothing (1024 * count_blocks lay)) in
    (c.in_ok-walk_parts.ensures.walked tells).marks.fine [] none

pub returns-clause-marks : goal.returns-clause-marks
returns-clause-marks g c tells =
    let lay = layout_of c.args.g.now in
    let read = blocks_in (g.D.Disk.state c.args.disk.now).contents in
    let none : SaysUpTo c.in_ok-walking.walking.reached.marks [] = subst (λ (ms : List Mark). SaysUpTo ms []) (sym c.in_ok-walking.ensures.marks) (says_nothing (1024 * count_blocks lay)) in
    let passes = c.in_ok-walk_parts.ensures.walked tells in
    subst (λ (ms : List Mark). Says ms (walk read c.args.at)) (sym c.end.ensures.marks)
    (says_exact c.walk_parts.new.walking.reached.marks (walk read c.args.at) (few_pointers lay read c.args.at c.args.g.now.valid.blocks_at_most (passes.marks.fine [] none)) (passes.marks.says [] none))

pub returns-clause-pages : goal.returns-clause-pages
returns-clause-pages g c tells homes many =
    let read = blocks_in (g.D.Disk.state c.args.disk.now).contents in
    let passes = c.in_ok-walk_parts.ensures.walked tells in
    pages_seen read (walk read c.args.at) ∙ ap (blocks_held read) (sym (c.end.ensures.pages ∙ (passes.pages ∙ ap (λ (bs : List NodeBlock). bs ++ pages_of (walk read c.args.at)) c.in_ok-walking.ensures.pages)))

pub returns-clause-owners : goal.returns-clause-owners
returns-clause-owners g c ok tells = owners_seen (blocks_in (g.D.Disk.state c.args.disk.now).contents) c.args.at

pub returns-clause-ends : goal.returns-clause-ends
returns-clause-ends g c tells =
    let read = blocks_in (g.D.Disk.state c.args.disk.now).contents in
    let passes = c.in_ok-walk_parts.ensures.walked tells in
    subst (λ (bs : List NodeBlock). OfSeen read c.args.at (SeesEnds read bs))
    (sym (c.end.ensures.lasts ∙ (passes.kept ∙ ap (λ (bs : List NodeBlock). bs ++ all_lasts read (nodes_at read c.args.at)) c.in_ok-walking.ensures.lasts)))
    (ends_seen read c.args.at)

pub returns-clause-numbers : goal.returns-clause-numbers
returns-clause-numbers g c = subst (λ (xs : List (ℕ × Inode)). Rising 1 (map (λ (node : ℕ × Inode). node.0) xs)) (sym c.end.ensures.nodes) (all_rise 0 65536 _ c.in_ok-walk_parts.ensures.rise)

pub returns-clause-widths : goal.returns-clause-widths
returns-clause-widths g c = subst HaveWidths (sym c.end.ensures.nodes) (have_widths _ (are_within 0 65536 _ (omega arith) c.in_ok-walk_parts.ensures.rise))

pub returns-clause-order : goal.returns-clause-order
returns-clause-order g c =
    let order = c.in_ok-walk_parts.ensures.order in
    (subst NeverFall (sym c.end.ensures.pages) (never_fall _ 0 order.next _ order.pages), subst NeverFall (sym c.end.ensures.lasts) (never_fall _ 0 order.next _ order.lasts))

pub returns-clause-on_disk : goal.returns-clause-on_disk
returns-clause-on_disk g c =
    let order = c.in_ok-walk_parts.ensures.order in
    subst (λ (size : ℕ). AreOnDisk size c.end.result.pages × AreOnDisk size c.end.result.lasts) c.requires
    (subst (AreOnDisk (layout_of c.args.g.now).blocks) (sym c.end.ensures.pages) (on_disk _ 0 order.next _ order.pages), subst (AreOnDisk (layout_of c.args.g.now).blocks) (sym c.end.ensures.lasts) (on_disk _ 0 order.next _ order.lasts))

pub returns-clause-within : goal.returns-clause-within
returns-clause-within g c = subst AreWithin (sym c.end.ensures.nodes) (are_within 0 65536 _ (omega arith) c.in_ok-walk_parts.ensures.rise)

pub returns-clause-few : goal.returns-clause-few
returns-clause-few g c tells =
    let lay = layout_of c.args.g.now in
    let none : SaysUpTo c.in_ok-walking.walking.reached.marks [] = subst (λ (ms : List Mark). SaysUpTo ms []) (sym c.in_ok-walking.ensures.marks) (says_nothing (1024 * count_blocks lay)) in
    few_indexes lay (blocks_in (g.D.Disk.state c.args.disk.now).contents) c.args.at ((c.in_ok-walk_parts.ensures.walked tells).marks.fine [] none)
