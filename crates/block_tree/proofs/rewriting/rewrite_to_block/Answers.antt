use Rattle.std.proofs.Common.{◌≡◌, ◌<◌, ◌≤◌, ◌∙◌, ℕ, List, [], ◌∷◌, true, refl, ap, sym, subst, arith, set, length}
use Rattle.std.proofs.lemmas.List.{get_or-set_other}
use Rattle.std.specs.Prelude.{IsTrue, slice_index, nat_lt}
use Rattle.vol_numbers.specs.Geometry.{layout_of}
use Rattle.vol_numbers.specs.declared.runs.Page.{Page}
use Rattle.disk_model.specs.Disk.{State}
use Rattle.block_format.specs.Index.{IsPointer}
use Rattle.place_words.specs.Different.{times}
use Rattle.block_tree.specs.Tree.{blocks_in}
use Rattle.block_tree.specs.Root.{block_at}
use Rattle.block_tree.specs.Edit.{IsEmptied}
use Rattle.block_tree.specs.Notes.{Noted, Settles, page_blocks}
use Rattle.block_tree.specs.Leaf.{AreLeavesRewritten}
use Rattle.block_tree.specs.Opened.{IsGivenWay, IsTreeRewritten, first_of}
use Rattle.block_tree.specs.declared.root.TreeRoot.{TreeRoot}
use Rattle.block_tree.proofs.RoomLaws.{rest_room}
use Rattle.block_tree.proofs.OrderLaws.{turn_pages}
use Rattle.block_tree.proofs.LeafLaws.{takes_like, stand_same}
use Rattle.block_tree.proofs.UseLaws.{uses_none, uses_then, uses_all}
use Rattle.block_tree.proofs.SoundLaws.{sound_same}
use Rattle.block_tree.proofs.ClosingLaws.{block_settles, block_indexes, block_in_turn, tree_block, settles_remove, emptied_leaf}
use Rattle.place_words.specs.Different.{is_among}
use Rattle.block_tree.specs.Root.{tree_indexes}
use Rattle.block_tree.specs.Causes.{IsBlockOf, IsBlockAmong}
use Rattle.block_tree.proofs.DamageLaws.{damage_like, opened_among, rest_among}
use Rattle.block_tree.proofs.rewriting.rewrite_to_block.Goals as goal

pub rewrite_rest-requires-clause-leaves : goal.rewrite_rest-requires-clause-leaves
rewrite_rest-requires-clause-leaves g c j some lt =
    subst (λ (t : ℕ). IsPointer (layout_of c.args.g.now) t) (sym (get_or-set_other c.in_ok-opened.opened.leaves.ptrs 0 j 0 0 (λ e. omega (arith, e, some))))
    (c.in_ok-opened.ensures.leaves j 0 (omega (arith, lt)))

pub rewrite_rest-requires-clause-free : goal.rewrite_rest-requires-clause-free
rewrite_rest-requires-clause-free g c = omega (arith, rest_room c.args.edit.now.changes.now c.args.edit.now.cut_to c.end_of.result, c.requires.free, ap length c.in_ok-ptr.ensures.free)

low : (height : ℕ) → height ≡ 0 → IsTrue (nat_lt height 2)
low height e = rw e refl

pub returns-clause-rewritten : goal.returns-clause-rewritten
returns-clause-rewritten g c tells =
    let edit = c.args.edit.now in
    let read = blocks_in (g.D.Disk.state c.args.disk.now).contents in
    let root = c.args.root.now in
    let leaves = c.in_ok-opened.opened.leaves.ptrs in
    let top = c.in_ok-opened.opened.top in
    let over = nat_lt edit.height 2 in
    let is_over = low edit.height c.requires.height in
    let end = c.end_of.result in
    let at_open : g.D.Disk.state c.open_tree.new.disk ≡ g.D.Disk.state c.args.disk.now = c.in_ok-opened.ensures.same tells in
    let at_first : g.D.Disk.state c.give_way.new.disk ≡ g.D.Disk.state c.args.disk.now = c.in_ok-ptr.ensures.same tells ∙ at_open in
    let opened = c.in_ok-opened.ensures.opened tells in
    let given = subst (λ (s : State). IsGivenWay edit.changes.now edit.cut_to (slice_index leaves 0) (first_of (blocks_in s.contents) root (slice_index leaves 0)) c.in_ok-ptr.ptr c.args.notes.now c.give_way.new.notes)
    at_open (c.in_ok-ptr.ensures.given tells) in
    let rest = subst (λ (s : State). AreLeavesRewritten (blocks_in s.contents) edit.changes.now edit.cut_to over end (set leaves 0 0) c.rewrite_rest.new.leaves.ptrs c.give_way.new.notes c.rewrite_rest.new.notes)
    at_first (c.in_ok-rewrite_rest.ensures.rewritten tells) in
    let removed : Settles (top ∷ []) [] c.rewrite_rest.new.notes c.remove.new.self = rw c.in_ok-remove.ensures (settles_remove top c.rewrite_rest.new.notes) in
    let emptied : (j : ℕ) → 1 ≤ j → j < 1024 → IsEmptied edit.changes.now edit.cut_to (block_at read root) j = λ j some lt. emptied_leaf read root edit.changes.now edit.cut_to 0 j (c.requires.fits tells) c.requires.changes (omega arith) some lt in
    let pages : c.remove.new.self.pages ≡ c.rewrite_rest.new.notes.pages = ap (λ (n : Noted). n.pages) c.in_ok-remove.ensures in
    let tree = tree_block given.long (given.places (block_at read root) opened.first_places) (c.requires.fits tells) c.requires.changes
    (λ after stand stays.
    block_settles opened (omega arith) 0 c.in_ok-rewrite_rest.ensures.takes over end c.rewrite_rest.new.leaves.ptrs rest
    (λ ne. ((c.end_of.ensures.low ne).0, emptied)) c.end_of.ensures.at_most given.ptrs is_over refl given.settles emptied removed after
    (stand_same c.rewrite_rest.new.notes c.remove.new.self after pages stand) stays)
    (λ b.
    omega (
      arith,
      block_indexes opened (omega arith) 0 c.in_ok-rewrite_rest.ensures.takes over end c.rewrite_rest.new.leaves.ptrs rest
          (λ ne. ((c.end_of.ensures.low ne).0, emptied)) c.end_of.ensures.at_most refl b,
      ap (λ (ps : List Page). times b (page_blocks ps)) pages,
      ap (λ (ps : List Page). times b (page_blocks ps)) c.in_ok-ptr.ensures.pages,
    ))
    (turn_pages c.give_way.new.notes c.rewrite_rest.new.notes c.args.notes.now c.remove.new.self (sym c.in_ok-ptr.ensures.pages) pages
    (block_in_turn opened (omega arith) 0 c.in_ok-rewrite_rest.ensures.takes over end c.rewrite_rest.new.leaves.ptrs rest (λ ne. ((c.end_of.ensures.low ne).0, emptied)) c.end_of.ensures.at_most is_over refl emptied)) in
    subst (λ (p : ℕ). let new : TreeRoot = record { height = 0; ptr = p } in IsTreeRewritten read root edit.changes.now edit.cut_to new c.args.notes.now c.remove.new.self) given.is tree

pub returns-clause-takes : goal.returns-clause-takes
returns-clause-takes g c =
    takes_like (sym c.in_ok-ptr.ensures.pages) (sym c.in_ok-ptr.ensures.free) (ap (λ (n : Noted). n.pages) c.in_ok-remove.ensures) (ap (λ (n : Noted). n.free) c.in_ok-remove.ensures) c.in_ok-rewrite_rest.ensures.takes

pub returns-clause-uses : goal.returns-clause-uses
returns-clause-uses g c =
    uses_then (uses_all c.end_of.result c.in_ok-ptr.ensures.uses c.in_ok-rewrite_rest.ensures.uses)
    (uses_none [] c.rewrite_rest.new.notes c.remove.new.self (ap (λ (n : Noted). n.pages) c.in_ok-remove.ensures) (ap (λ (n : Noted). n.added) c.in_ok-remove.ensures))

pub returns-clause-sound : goal.returns-clause-sound
returns-clause-sound g c lead sound =
    let layout = layout_of c.args.g.now in
    let begun = sound_same layout c.args.notes.now c.give_way.new.notes c.in_ok-ptr.ensures.pages c.in_ok-ptr.ensures.free sound in
    let rest = c.in_ok-rewrite_rest.ensures.sound lead begun in
    (sound_same layout c.rewrite_rest.new.notes c.remove.new.self (ap (λ (n : Noted). n.pages) c.in_ok-remove.ensures) (ap (λ (n : Noted). n.free) c.in_ok-remove.ensures) rest.0, c.in_ok-ptr.ensures.pointer lead)

pub returns-in_err-ptr-clause-among : goal.returns-in_err-ptr-clause-among
returns-in_err-ptr-clause-among g c =
    let read = blocks_in (g.D.Disk.state c.args.disk.now).contents in
    let leaves = c.in_ok-opened.opened.leaves.ptrs in
    damage_like c.from_residual-in_err-ptr.result c.in_err-ptr.field-0.0 (IsBlockOf (slice_index leaves 0)) (λ b. IsTrue g.D.Disk.tells → is_among (tree_indexes read c.args.root.now) b ≡ true)
    c.from_residual-in_err-ptr.ensures.1 c.in_err-ptr.ensures.read (λ b of tells. opened_among (c.in_ok-opened.ensures.opened tells) 0 b (omega arith) of)

pub returns-in_err-rewrite_rest-clause-among : goal.returns-in_err-rewrite_rest-clause-among
returns-in_err-rewrite_rest-clause-among g c =
    let read = blocks_in (g.D.Disk.state c.args.disk.now).contents in
    let leaves = c.in_ok-opened.opened.leaves.ptrs in
    damage_like c.from_residual-in_err-rewrite_rest.result c.in_err-rewrite_rest.field-0.0 (IsBlockAmong 1 (set leaves 0 0)) (λ b. IsTrue g.D.Disk.tells → is_among (tree_indexes read c.args.root.now) b ≡ true)
    c.from_residual-in_err-rewrite_rest.ensures.1 c.in_err-rewrite_rest.ensures.read (λ b among tells. rest_among (c.in_ok-opened.ensures.opened tells) 0 b among)
