use Rattle.std.proofs.Common.{◌≡◌, ◌∙◌, ℕ, true, sym, subst, arith, set}
use Rattle.std.specs.Prelude.{IsTrue, slice_index, nat_lt}
use Rattle.std.proofs.lemmas.List.{get_or-set_same, get_or-set_other}
use Rattle.block_format.specs.Index.{IsPointer}
use Rattle.vol_numbers.specs.Geometry.{layout_of}
use Rattle.disk_model.specs.Disk.{State}
use Rattle.block_tree.specs.Tree.{blocks_in}
use Rattle.block_tree.specs.Leaf.{AreLeavesRewritten, IsFirstRewritten}
use Rattle.block_tree.specs.Opened.{first_of}
use Rattle.block_tree.proofs.RoomLaws.{whole_room}
use Rattle.block_tree.proofs.OrderLaws.{turn_all}
use Rattle.block_tree.proofs.LeafLaws.{takes_then}
use Rattle.block_tree.proofs.UseLaws.{uses_all}
use Rattle.block_tree.proofs.SoundLaws.{all_first}
use Rattle.block_tree.proofs.ClosingLaws.{leaves_done, emptied_leaf, low_power}
use Rattle.place_words.specs.Different.{is_among}
use Rattle.block_tree.specs.Root.{tree_indexes}
use Rattle.block_tree.specs.Causes.{IsBlockOf, IsBlockAmong}
use Rattle.block_tree.proofs.DamageLaws.{damage_like, opened_among, rest_among}
use Rattle.block_tree.proofs.rewriting.rewrite_leaves.Goals as goal

pub rewrite_rest-requires-clause-leaves : goal.rewrite_rest-requires-clause-leaves
rewrite_rest-requires-clause-leaves g c j some lt =
    subst (λ (t : ℕ). IsPointer (layout_of c.args.g.now) t) (sym (get_or-set_other c.in_ok-opened.opened.leaves.ptrs 0 j c.in_ok-first.first 0 (λ e. omega (arith, e, some))))
    (c.in_ok-opened.ensures.leaves j 0 (omega (arith, lt)))

pub rewrite_rest-requires-clause-free : goal.rewrite_rest-requires-clause-free
rewrite_rest-requires-clause-free g c = omega (arith, whole_room c.args.edit.now.changes.now c.args.edit.now.cut_to c.end_of-end.result, c.in_ok-first.ensures.room, c.requires.free)

pub returns-clause-leaves : goal.returns-clause-leaves
returns-clause-leaves g c tells =
    let edit = c.args.edit.now in
    let read = blocks_in (g.D.Disk.state c.args.disk.now).contents in
    let root = c.args.root.now in
    let leaves = c.in_ok-opened.opened.leaves.ptrs in
    let new = c.in_ok-first.first in
    let over = nat_lt edit.height 2 in
    let at_open : g.D.Disk.state c.open_tree.new.disk ≡ g.D.Disk.state c.args.disk.now = c.in_ok-opened.ensures.same tells in
    let at_first : g.D.Disk.state c.rewrite_first.new.disk ≡ g.D.Disk.state c.args.disk.now = c.in_ok-first.ensures.same tells ∙ at_open in
    let first = subst (λ (s : State). IsFirstRewritten (blocks_in s.contents) edit.changes.now edit.cut_to (slice_index leaves 0) (first_of (blocks_in s.contents) root (slice_index leaves 0)) new c.args.notes.now c.rewrite_first.new.notes)
    at_open (c.in_ok-first.ensures.rewritten tells) in
    let rest = subst (λ (s : State). AreLeavesRewritten (blocks_in s.contents) edit.changes.now edit.cut_to over c.end_of-end.result (set leaves 0 new) c.rewrite_rest.new.leaves.ptrs c.rewrite_first.new.notes c.rewrite_rest.new.notes)
    at_first (c.in_ok-rewrite_rest.ensures.rewritten tells) in
    leaves_done (c.in_ok-opened.ensures.opened tells) (omega arith) new c.in_ok-rewrite_rest.ensures.takes over c.end_of-end.result c.rewrite_rest.new.leaves.ptrs rest
    (λ ne.
    let low = c.end_of-end.ensures.low ne in
    (low.0, λ j some lt. emptied_leaf read root edit.changes.now edit.cut_to edit.height j (c.requires.fits tells) c.requires.changes (low_power edit.height low.1) some lt))
    c.end_of-end.ensures.at_most first

pub returns-clause-in_turn : goal.returns-clause-in_turn
returns-clause-in_turn g c tells =
    turn_all c.rewrite_rest.new.leaves.ptrs c.end_of-end.result c.in_ok-first.first (omega (arith, c.in_ok-rewrite_rest.ensures.long))
    (c.in_ok-rewrite_rest.ensures.first ∙ get_or-set_same c.in_ok-opened.opened.leaves.ptrs 0 c.in_ok-first.first 0 (omega arith))
    (c.in_ok-first.ensures.rewritten tells).in_turn (c.in_ok-rewrite_rest.ensures.rewritten tells).in_turn

pub returns-clause-takes : goal.returns-clause-takes
returns-clause-takes g c = takes_then c.in_ok-first.ensures.takes c.in_ok-rewrite_rest.ensures.takes

pub returns-clause-uses : goal.returns-clause-uses
returns-clause-uses g c = uses_all c.end_of-end.result c.in_ok-first.ensures.uses c.in_ok-rewrite_rest.ensures.uses

pub returns-clause-sound : goal.returns-clause-sound
returns-clause-sound g c lead sound =
    let layout = layout_of c.args.g.now in
    let first = c.in_ok-first.ensures.sound lead sound in
    let rest = c.in_ok-rewrite_rest.ensures.sound lead first.0 in
    let at_first : slice_index c.rewrite_rest.new.leaves.ptrs 0 ≡ c.in_ok-first.first = c.in_ok-rewrite_rest.ensures.first ∙ get_or-set_same c.in_ok-opened.opened.leaves.ptrs 0 c.in_ok-first.first 0 (omega arith) in
    (rest.0, c.in_ok-opened.ensures.top, all_first layout c.rewrite_rest.new.leaves.ptrs c.in_ok-rewrite_rest.ensures.long (subst (λ (x : ℕ). IsPointer layout x) (sym at_first) first.1) (λ j some lt. rest.1 j some lt))

pub returns-in_err-first-clause-among : goal.returns-in_err-first-clause-among
returns-in_err-first-clause-among g c =
    let read = blocks_in (g.D.Disk.state c.args.disk.now).contents in
    let leaves = c.in_ok-opened.opened.leaves.ptrs in
    damage_like c.from_residual-in_err-first.result c.in_err-first.field-0.0 (IsBlockOf (slice_index leaves 0)) (λ b. IsTrue g.D.Disk.tells → is_among (tree_indexes read c.args.root.now) b ≡ true)
    c.from_residual-in_err-first.ensures.1 c.in_err-first.ensures.read (λ b of tells. opened_among (c.in_ok-opened.ensures.opened tells) 0 b (omega arith) of)

pub returns-in_err-rewrite_rest-clause-among : goal.returns-in_err-rewrite_rest-clause-among
returns-in_err-rewrite_rest-clause-among g c =
    let read = blocks_in (g.D.Disk.state c.args.disk.now).contents in
    let leaves = c.in_ok-opened.opened.leaves.ptrs in
    damage_like c.from_residual-in_err-rewrite_rest.result c.in_err-rewrite_rest.field-0.0 (IsBlockAmong 1 (set leaves 0 c.in_ok-first.first)) (λ b. IsTrue g.D.Disk.tells → is_among (tree_indexes read c.args.root.now) b ≡ true)
    c.from_residual-in_err-rewrite_rest.ensures.1 c.in_err-rewrite_rest.ensures.read (λ b among tells. rest_among (c.in_ok-opened.ensures.opened tells) c.in_ok-first.first b among)
