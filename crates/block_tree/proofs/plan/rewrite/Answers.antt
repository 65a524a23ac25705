use Rattle.std.proofs.Common.{◌≤◌, ◌≡◌, ◌∙◌, ℕ, List, ap, arith, ◌+◌}
use Rattle.vol_numbers.specs.Geometry.{layout_of}
use Rattle.block_format.specs.Inode.{blocks_of, height_of}
use Rattle.place_words.specs.Different.{times, is_among}
use Rattle.place_words.proofs.Counting.{times_none}
use Rattle.block_tree.specs.Tree.{blocks_in}
use Rattle.block_tree.specs.Notes.{page_blocks, change_blocks}
use Rattle.block_tree.specs.Order.{leaves_then_top}
use Rattle.block_tree.proofs.PartLaws.{parts_stay, parts_full, whole_full, pointers_listed, tree_counted}
use Rattle.block_tree.proofs.OrderLaws.{turn_paged, order_times}
use Rattle.block_tree.proofs.UseLaws.{among_either}
use Rattle.block_tree.proofs.PlanLaws.{apart_front, turn_begun}
use Rattle.block_tree.proofs.plan.rewrite.Goals as goal

pub plan_changes-requires-clause-changes : goal.plan_changes-requires-clause-changes
plan_changes-requires-clause-changes g c k d lt = omega (arith, c.requires.changes k d lt, c.height_for.ensures.covers)

pub returns-clause-map : goal.returns-clause-map
returns-clause-map g c tells after stand stays p lt =
    let read = blocks_in (g.D.Disk.state c.args.disk.now).contents in
    let root = c.args.root.now in
    let w = c.in_ok-made.made in
    let made = c.in_ok-made.ensures.rewritten tells in
    made.places after stand (parts_stay read after root.height root.ptr stays) p lt

pub returns-clause-pointers : goal.returns-clause-pointers
returns-clause-pointers g c tells after stand stays b =
    let read = blocks_in (g.D.Disk.state c.args.disk.now).contents in
    let root = c.args.root.now in
    let w = c.in_ok-made.made in
    let made = c.in_ok-made.ensures.rewritten tells in
    omega (
      arith,
      (made.settles after stand (parts_stay read after root.height root.ptr stays)).each b,
      ap (λ (v : List ℕ). times b v) (pointers_listed read root.height root.ptr),
      ap (λ (v : List ℕ). times b v) (pointers_listed after w.root.height w.root.ptr),
    )

pub returns-clause-full : goal.returns-clause-full
returns-clause-full g c tells after stand stays was_full =
    let read = blocks_in (g.D.Disk.state c.args.disk.now).contents in
    let root = c.args.root.now in
    let w = c.in_ok-made.made in
    let made = c.in_ok-made.ensures.rewritten tells in
    whole_full after w.root.height w.root.ptr (made.full after stand (parts_stay read after root.height root.ptr stays) (parts_full read root.height root.ptr was_full))

pub returns-clause-count : goal.returns-clause-count
returns-clause-count g c tells after stand stays was_full =
    let read = blocks_in (g.D.Disk.state c.args.disk.now).contents in
    let root = c.args.root.now in
    let w = c.in_ok-made.made in
    let made = c.in_ok-made.ensures.rewritten tells in
    let full = whole_full after w.root.height w.root.ptr (made.full after stand (parts_stay read after root.height root.ptr stays) (parts_full read root.height root.ptr was_full)) in
    let height : w.root.height ≡ height_of (blocks_of c.args.size) = c.in_ok-made.ensures.height ∙ c.height_for.ensures.is in
    tree_counted after w.root (blocks_of c.args.size) height full

pub returns-clause-indexes : goal.returns-clause-indexes
returns-clause-indexes g c tells after stand stays b =
    let read = blocks_in (g.D.Disk.state c.args.disk.now).contents in
    let root = c.args.root.now in
    let w = c.in_ok-made.made in
    let made = c.in_ok-made.ensures.rewritten tells in
    omega (arith, made.indexes after stand (parts_stay read after root.height root.ptr stays) b)

pub returns-clause-pages : goal.returns-clause-pages
returns-clause-pages g c tells after stand stays b =
    let read = blocks_in (g.D.Disk.state c.args.disk.now).contents in
    let root = c.args.root.now in
    let w = c.in_ok-made.made in
    let made = c.in_ok-made.ensures.rewritten tells in
    omega (arith, turn_paged b (made.in_turn after stand (parts_stay read after root.height root.ptr stays)), order_times b after w.root.height w.root.ptr)

pub returns-clause-in_order : goal.returns-clause-in_order
returns-clause-in_order g c tells after stand stays =
    let read = blocks_in (g.D.Disk.state c.args.disk.now).contents in
    let root = c.args.root.now in
    let w = c.in_ok-made.made in
    let made = c.in_ok-made.ensures.rewritten tells in
    turn_begun (leaves_then_top after w.root) c.args.free.now w c.plan_changes.new.free (made.in_turn after stand (parts_stay read after root.height root.ptr stays))

pub returns-clause-kept : goal.returns-clause-kept
returns-clause-kept g c tells after stand stays high k lt =
    let read = blocks_in (g.D.Disk.state c.args.disk.now).contents in
    let root = c.args.root.now in
    let w = c.in_ok-made.made in
    let made = c.in_ok-made.ensures.rewritten tells in
    made.kept after stand (parts_stay read after root.height root.ptr stays) high k lt

pub returns-clause-kept_top : goal.returns-clause-kept_top
returns-clause-kept_top g c tells after stand stays =
    let read = blocks_in (g.D.Disk.state c.args.disk.now).contents in
    let root = c.args.root.now in
    let w = c.in_ok-made.made in
    let made = c.in_ok-made.ensures.rewritten tells in
    made.kept_top after stand (parts_stay read after root.height root.ptr stays)

pub returns-clause-top : goal.returns-clause-top
returns-clause-top g c tells two some none =
    let w = c.in_ok-made.made in
    (c.in_ok-made.ensures.rewritten tells).top two some (times_none w.root.ptr (page_blocks w.pages) none)

pub returns-clause-apart : goal.returns-clause-apart
returns-clause-apart g c b none = apart_front (page_blocks c.in_ok-made.made.pages) c.plan_changes.new.free b (ap (λ (v : List ℕ). is_among v b) c.in_ok-made.ensures.taken ∙ none)

pub returns-clause-written : goal.returns-clause-written
returns-clause-written g c lead all =
    let layout = layout_of c.args.g.now in
    let w = c.in_ok-made.made in
    let sound = c.in_ok-made.ensures.sound lead all in
    sound.0

pub returns-clause-begins : goal.returns-clause-begins
returns-clause-begins g c lead all =
    let layout = layout_of c.args.g.now in
    let w = c.in_ok-made.made in
    let sound = c.in_ok-made.ensures.sound lead all in
    record {
      height = omega (arith, c.in_ok-made.ensures.height, c.height_for.ensures.at_most);
      ptr = sound.1;
    }

pub returns-clause-used : goal.returns-clause-used
returns-clause-used g c b =
    let used : times b c.in_ok-made.made.added ≤ times b (page_blocks c.in_ok-made.made.pages) + times b (change_blocks c.args.changes.now) = omega (arith, c.in_ok-made.ensures.used.each b) in
    used

pub returns-clause-added : goal.returns-clause-added
returns-clause-added g c tells b among =
    let used : times b c.in_ok-made.made.added ≤ times b (page_blocks c.in_ok-made.made.pages) + times b (change_blocks c.args.changes.now) = omega (arith, c.in_ok-made.ensures.used.each b) in
    among_either b c.in_ok-made.made.added (page_blocks c.in_ok-made.made.pages) (change_blocks c.args.changes.now) used among
