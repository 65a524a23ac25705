use Rattle.std.proofs.Common.{◌≡◌, ◌≤◌, ◌+◌, ◌∙◌, ◌++◌, ◌∷◌, List, ℕ, map, arith, refl, sym, ap, subst}
use Rattle.std.specs.List.{flat_map}
use Rattle.vol_numbers.specs.Geometry.{layout_of}
use Rattle.disk_model.specs.Disk.{State}
use Rattle.block_format.specs.declared.inode.Inode.{Inode}
use Rattle.block_tree.specs.Tree.{blocks_in, index_at}
use Rattle.image_model.specs.Met.{index}
use Rattle.image_model.specs.Walk.{entries_met, blocks_met, blocks_inodes, root_met, node_met, nodes_of, nodes_at}
use Rattle.image_walk.specs.Going.{Goes, EndsBy}
use Rattle.image_walk.specs.Kept.{all_lasts}
use Rattle.image_walk.specs.Reads.{metadata_count}
use Rattle.image_walk.specs.Trees.{PassesOver}
use Rattle.image_walk.proofs.TreeLaws.{passes_err}
use Rattle.image_walk.proofs.OrderLaws.{on_ok, root_there, grown, order_start, all_rise}
use Rattle.place_words.specs.Rising.{Rising}
use Rattle.place_words.proofs.Rising.{rising_less}
use Rattle.image_walk.specs.declared.marks.Mark.{Mark}
use Rattle.image_walk.proofs.WholeLaws.{index_ends, inodes_end, root_ends, parts_over}
use Rattle.image_walk.proofs.ReadsLaws.{passed_on, walk_counted}
use Rattle.image_walk.proofs.walked.walk_parts.Goals as goal

pub returns-in_err-entries-clause-walked : goal.returns-in_err-entries-clause-walked
returns-in_err-entries-clause-walked g c tells =
    let read = blocks_in (g.D.Disk.state c.args.disk.now).contents in
    passes_err _ _ _ _ _ c.from_residual.result c.in_err-entries.field-0.0 c.from_residual.ensures.1
    (index_ends (layout_of c.args.g.now) read c.args.at (index_at read c.args.at) refl c.args.walking.now.reached.marks c.in_err-entries.field-0.0 (c.in_err-entries.ensures.walked tells))

pub returns-in_err-walk_inodes-clause-walked : goal.returns-in_err-walk_inodes-clause-walked
returns-in_err-walk_inodes-clause-walked g c tells =
    let lay = layout_of c.args.g.now in
    let read = blocks_in (g.D.Disk.state c.args.disk.now).contents in
    let es : List ℕ = c.in_ok-entries.entries in
    let marks = c.args.walking.now.reached.marks in
    let m = c.walk_index.new.marks in
    let e : index_at read c.args.at ≡ es = c.in_ok-entries.ensures.entries tells in
    passes_err _ _ _ _ _ c.from_residual-in_err-walk_inodes.result c.in_err-walk_inodes.field-0.0 c.from_residual-in_err-walk_inodes.ensures.1
    (inodes_end lay read c.args.at es e marks m c.in_err-walk_inodes.field-0.0
    (subst (λ (xs : List ℕ). Goes lay marks m (index c.args.at ∷ entries_met xs)) e (c.in_ok-entries.ensures.walked tells))
    (subst (λ (s : State). EndsBy lay m (blocks_met (blocks_in s.contents) 0 es) c.in_err-walk_inodes.field-0.0) (c.in_ok-entries.ensures.same tells) (c.in_err-walk_inodes.ensures.walked tells m)))

pub returns-in_err-walk_root-clause-walked : goal.returns-in_err-walk_root-clause-walked
returns-in_err-walk_root-clause-walked g c tells =
    let lay = layout_of c.args.g.now in
    let read = blocks_in (g.D.Disk.state c.args.disk.now).contents in
    let es : List ℕ = c.in_ok-entries.entries in
    let marks = c.args.walking.now.reached.marks in
    let m = c.walk_index.new.marks in
    let e : index_at read c.args.at ≡ es = c.in_ok-entries.ensures.entries tells in
    let items : List (ℕ × Inode) = c.walk_inodes.new.nodes.items in
    let old : List (ℕ × Inode) = c.args.walking.now.nodes.items in
    let are : items ≡ nodes_at read c.args.at =
    subst (λ (s : State). items ≡ old ++ nodes_of (blocks_inodes (blocks_in s.contents) 0 es)) (c.in_ok-entries.ensures.same tells) (c.in_ok-walk_inodes.ensures.nodes tells)
    ∙ (ap (λ (xs : List (ℕ × Inode)). xs ++ nodes_of (blocks_inodes read 0 es)) c.requires.nodes ∙ ap (λ (xs : List ℕ). nodes_of (blocks_inodes read 0 xs)) (sym e)) in
    passes_err _ _ _ _ _ c.from_residual-in_err-walk_root.result c.in_err-walk_root.field-0.0 c.from_residual-in_err-walk_root.ensures.1
    (root_ends lay read c.args.at es e marks m items c.in_err-walk_root.field-0.0 are
    (subst (λ (xs : List ℕ). Goes lay marks m (index c.args.at ∷ entries_met xs)) e (c.in_ok-entries.ensures.walked tells))
    (subst (λ (s : State). Goes lay m m (blocks_met (blocks_in s.contents) 0 es)) (c.in_ok-entries.ensures.same tells) (c.in_ok-walk_inodes.ensures.walked tells m))
    (subst (λ (xs : List (ℕ × Inode)). EndsBy lay m (root_met xs) c.in_err-walk_root.field-0.0) c.deref.ensures.value (c.in_err-walk_root.ensures.walked lay m)))

pub returns-clause-walked : goal.returns-clause-walked
returns-clause-walked g c tells =
    let lay = layout_of c.args.g.now in
    let read = blocks_in (g.D.Disk.state c.args.disk.now).contents in
    let es : List ℕ = c.in_ok-entries.entries in
    let marks = c.args.walking.now.reached.marks in
    let m = c.walk_index.new.marks in
    let mid = record c.args.walking.now.reached { marks = m } in
    let e : index_at read c.args.at ≡ es = c.in_ok-entries.ensures.entries tells in
    let items : List (ℕ × Inode) = c.walk_inodes.new.nodes.items in
    let old : List (ℕ × Inode) = c.args.walking.now.nodes.items in
    let are : items ≡ nodes_at read c.args.at =
    subst (λ (s : State). items ≡ old ++ nodes_of (blocks_inodes (blocks_in s.contents) 0 es)) (c.in_ok-entries.ensures.same tells) (c.in_ok-walk_inodes.ensures.nodes tells)
    ∙ (ap (λ (xs : List (ℕ × Inode)). xs ++ nodes_of (blocks_inodes read 0 es)) c.requires.nodes ∙ ap (λ (xs : List ℕ). nodes_of (blocks_inodes read 0 xs)) (sym e)) in
    let same = c.in_ok-walk_inodes.ensures.same tells ∙ c.in_ok-entries.ensures.same tells in
    parts_over lay read c.args.at es e c.args.walking.now.reached mid c.walk_trees.new.reached items c.walk_trees.result are
    (subst (λ (xs : List ℕ). Goes lay marks m (index c.args.at ∷ entries_met xs)) e (c.in_ok-entries.ensures.walked tells)) refl refl
    (subst (λ (s : State). Goes lay m m (blocks_met (blocks_in s.contents) 0 es)) (c.in_ok-entries.ensures.same tells) (c.in_ok-walk_inodes.ensures.walked tells m))
    (subst (λ (xs : List (ℕ × Inode)). Goes lay m m (root_met xs)) c.deref.ensures.value (c.in_ok-walk_root.ensures.walked lay m))
    (subst (λ (s : State). PassesOver lay mid c.walk_trees.new.reached (flat_map (node_met (blocks_in s.contents)) items) (all_lasts (blocks_in s.contents) items) c.walk_trees.result) same
    (subst (λ (xs : List (ℕ × Inode)). let r = blocks_in (g.D.Disk.state c.walk_inodes.new.disk).contents in PassesOver lay mid c.walk_trees.new.reached (flat_map (node_met r) xs) (all_lasts r xs) c.walk_trees.result) c.deref-2.ensures.value (c.walk_trees.ensures.walked tells)))

pub walk_trees-requires-clause-order : goal.walk_trees-requires-clause-order
walk_trees-requires-clause-order g c =
    let rise = grown 0 65536 c.args.walking.now.nodes.items c.walk_inodes.new.nodes.items c.requires.nodes c.in_ok-walk_inodes.ensures.grows in
    let same : c.deref-2.result.now ≡ c.walk_inodes.new.nodes.items = c.deref-2.ensures.value in
    order_start _ _ _ (rising_less 0 1 (omega arith) _ (subst (λ (xs : List (ℕ × Inode)). Rising 1 (map (λ (node : ℕ × Inode). node.0) xs)) (sym same) (all_rise 0 65536 _ rise))) c.requires.pages c.requires.lasts

pub returns-clause-root : goal.returns-clause-root
returns-clause-root g c =
    let lay = layout_of c.args.g.now in
    let rise = grown 0 65536 c.args.walking.now.nodes.items c.walk_inodes.new.nodes.items c.requires.nodes c.in_ok-walk_inodes.ensures.grows in
    on_ok c.walk_trees.result _ (root_there lay c.walk_inodes.new.nodes.items (all_rise 0 65536 _ rise)
    (subst (λ (xs : List (ℕ × Inode)). (marks : List Mark) → Goes lay marks marks (root_met xs)) c.deref.ensures.value (c.in_ok-walk_root.ensures.walked lay)))

pub returns-clause-reads : goal.returns-clause-reads
returns-clause-reads g c =
    let read = blocks_in (g.D.Disk.state c.args.disk.now).contents in
    let es : List ℕ = c.in_ok-entries.entries in
    let items : List (ℕ × Inode) = c.walk_inodes.new.nodes.items in
    let old : List (ℕ × Inode) = c.args.walking.now.nodes.items in
    passed_on c.walk_trees.result _ _ c.walk_trees.ensures.reads
    (λ reads tells.
    let e : index_at read c.args.at ≡ es = c.in_ok-entries.ensures.entries tells in
    let are : items ≡ nodes_at read c.args.at =
    subst (λ (s : State). items ≡ old ++ nodes_of (blocks_inodes (blocks_in s.contents) 0 es)) (c.in_ok-entries.ensures.same tells) (c.in_ok-walk_inodes.ensures.nodes tells)
    ∙ (ap (λ (xs : List (ℕ × Inode)). xs ++ nodes_of (blocks_inodes read 0 es)) c.requires.nodes ∙ ap (λ (xs : List ℕ). nodes_of (blocks_inodes read 0 xs)) (sym e)) in
    let same = c.in_ok-walk_inodes.ensures.same tells ∙ c.in_ok-entries.ensures.same tells in
    let count : ℕ = (g.D.Disk.given c.walk_inodes.new.disk).count in
    let trees =
    subst (λ (s : State). (g.D.Disk.given c.walk_trees.new.disk).count ≤ count + metadata_count (flat_map (node_met (blocks_in s.contents)) items)) same
    (subst (λ (xs : List (ℕ × Inode)). (g.D.Disk.given c.walk_trees.new.disk).count ≤ count + metadata_count (flat_map (node_met (blocks_in (g.D.Disk.state c.walk_inodes.new.disk).contents)) xs)) c.deref-2.ensures.value (reads tells)) in
    omega (arith, trees, c.in_ok-walk_inodes.ensures.reads, c.in_ok-entries.ensures.reads, walk_counted read c.args.at es items e are))
