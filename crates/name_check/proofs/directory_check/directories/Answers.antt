use Rattle.std.proofs.Common.{◌≡◌, ◌∙◌, ◌+◌, ◌++◌, map, List, [], ◌∷◌, take, get_or, sym, ap, subst, arith}
use Rattle.std.specs.Prelude.{IsTrue}
use Rattle.std.proofs.lemmas.List.{take_all}
use Rattle.std.proofs.lemmas.Result.{err_from_is_err_and}
use Rattle.disk_model.specs.Disk.{State}
use Rattle.disk_model.specs.Past.{Adds}
use Rattle.disk_model.proofs.Moments.{adds_read}
use Rattle.block_format.specs.declared.inode.Inode.TheVariants.{Unused}
use Rattle.block_tree.specs.Tree.{blocks_in}
use Rattle.held_list.specs.declared.held.Held.{Held}
use Rattle.image_model.specs.declared.finding.Finding.TheVariants.{BadDirectory}
use Rattle.name_check.specs.Directories.{is_bad, IsRead, FindsBad, AreHeld, AreWide}
use Rattle.name_check.specs.Seeing.{directory_numbers}
use Rattle.name_check.proofs.FirstLaws.{fine_there}
use Rattle.name_check.proofs.HeldLaws.{node_there, held_below, numbers_more, numbers_other, held_more, held_other, other_fine, all_held, found_wide, wide_more, wide_other, finds, read_fine, no_directory}
use Rattle.name_check.proofs.OnceLaws.{own_count, directories_once, numbers_next}
use Rattle.name_check.proofs.directory_check.directories.Goals as goal
use Rattle.name_check.proofs.directory_check.directories.Goals.{in-Directory+in_ok-slots+in_ok-push, in_default}

pub read_directory-requires-clause-width : goal.read_directory-requires-clause-width
read_directory-requires-clause-width g c =
    c.requires.widths _ c.in-Directory.width c.in-Directory.height c.in-Directory.ptr (node_there c.args.nodes.now c.loop-node.node-index _ c.loop-node-test.true c.in-Directory.is)

pub returns-in_err-slots-clause-found : goal.returns-in_err-slots-clause-found
returns-in_err-slots-clause-found g c =
    let p = err_from_is_err_and c.from_residual.result c.from_residual.ensures.1 in
    let read = blocks_in (g.D.Disk.state c.args.disk.now).contents in
    let pages = c.args.pages.now in
    let nodes = c.args.nodes.now in
    let k = c.loop-node.node-index in
    rw (p.1, p.2) (λ tells s same same_pages.
    finds read pages nodes k c.in-Directory.width c.in-Directory.height c.in-Directory.ptr s c.in_err-slots.field-0.0 c.loop-node-test.true c.in-Directory.is
    (subst (λ (st : State). FindsBad (blocks_in st.contents) pages (get_or nodes k (0, Unused)).0 c.in-Directory.width c.in_err-slots.field-0.0) (c.loop-node.invariant.same tells) (c.in_err-slots.ensures.bad tells))
    (c.loop-node.invariant.none tells) same same_pages)

pub push-requires : goal.push-requires
push-requires g c = held_below c.args.nodes.now c.loop-node.node-index c.loop-node.held c.requires.nodes c.loop-node-test.true c.loop-node.invariant.numbers

pub returns-clause-held : goal.returns-clause-held
returns-clause-held g c tells s same same_pages owners =
    let read = blocks_in (g.D.Disk.state c.args.disk.now).contents in
    let nodes = c.args.nodes.now in
    let whole : take c.loop-node.node-index nodes ≡ nodes = take_all c.loop-node.node-index nodes c.loop-node-test.false in
    all_held read c.args.pages.now nodes c.loop-node.held s c.requires.nodes
    (c.loop-node.invariant.numbers ∙ ap directory_numbers whole)
    (subst (λ xs. AreHeld read c.args.pages.now xs c.loop-node.held) whole (c.loop-node.invariant.held tells)) same same_pages owners

pub loop-node-preserved : goal.loop-node-preserved
loop-node-preserved g c =
    let read = blocks_in (g.D.Disk.state c.args.disk.now).contents in
    let pages = c.args.pages.now in
    let nodes = c.args.nodes.now in
    let k = c.loop-node.node-index in
    let inv = c.loop-node.invariant in
    let lt = c.loop-node-test.true in
    elim c.match-node.branch [
      | in-Directory+in_ok-slots+in_ok-push w ↦ (
          let now : c.match-node.held ≡ c.loop-node.held ++ record { number = (get_or nodes k (0, Unused)).0; slots = w.in_ok-slots.slots } ∷ [] = w.held-is ∙ w.in_ok-push.ensures.pushed in
          let good : IsTrue g.D.Disk.tells → IsRead read pages (get_or nodes k (0, Unused)).0 w.in-Directory.width w.in_ok-slots.slots =
          λ tells. subst (λ (st : State). IsRead (blocks_in st.contents) pages (get_or nodes k (0, Unused)).0 w.in-Directory.width w.in_ok-slots.slots) (inv.same tells) (w.in_ok-slots.ensures.read tells) in
          record {
            none = λ tells. fine_there (is_bad read pages) BadDirectory nodes k (0, Unused) lt (read_fine read pages nodes k _ _ _ _ w.in-Directory.is (good tells)) (inv.none tells);
            numbers = subst (λ (held : List Held). map (λ h. h.number) held ≡ directory_numbers (take (k + 1) nodes)) (sym now) (numbers_more nodes k lt c.loop-node.held w.in_ok-slots.slots _ _ _ w.in-Directory.is inv.numbers);
            wide = subst (λ (held : List Held). AreWide (take (k + 1) nodes) held) (sym now) (wide_more nodes k c.loop-node.held w.in_ok-slots.slots _ _ _ lt w.in-Directory.is inv.wide w.in_ok-slots.ensures.wide);
            held = λ tells. subst (λ (held : List Held). AreHeld read pages (take (k + 1) nodes) held) (sym now) (held_more read pages nodes k c.loop-node.held w.in_ok-slots.slots _ _ _ lt w.in-Directory.is (inv.held tells) (good tells));
            reads = (
                let now = ap (λ d. (g.D.Disk.given d).count) w.disk-is in
                let next = numbers_next (own_count pages) nodes k (0, Unused) lt in
                omega (arith, now, next, inv.reads, w.in_ok-slots.ensures.reads));
            same = λ tells. ap (λ d. g.D.Disk.state d) w.disk-is ∙ w.in_ok-slots.ensures.same tells ∙ inv.same tells;
            moments = λ tells. subst (λ d. Adds (g.D.Disk.past c.args.disk.now) (g.D.Disk.past d) (λ s. s ≡ g.D.Disk.state c.args.disk.now)) (sym w.disk-is) (adds_read (inv.moments tells) (inv.same tells) (w.in_ok-slots.ensures.moments tells));
            fixed = ap (λ d. g.D.Disk.fixed d) w.disk-is ∙ w.in_ok-slots.ensures.fixed ∙ inv.fixed;
            faults = ap (λ d. g.D.Disk.faults d) w.disk-is ∙ w.in_ok-slots.ensures.cause ∙ inv.faults;
          })
      | in_default w ↦ (
          let other = no_directory _ w.in_default.not-Directory in
          record {
            none = λ tells. fine_there (is_bad read pages) BadDirectory nodes k (0, Unused) lt (other_fine read pages _ _ other) (inv.none tells);
            numbers = subst (λ (held : List Held). map (λ h. h.number) held ≡ directory_numbers (take (k + 1) nodes)) (sym w.held-is) (numbers_other nodes k lt c.loop-node.held other inv.numbers);
            wide = subst (λ (held : List Held). AreWide (take (k + 1) nodes) held) (sym w.held-is) (wide_other nodes k c.loop-node.held lt other inv.wide);
            held = λ tells. subst (λ (held : List Held). AreHeld read pages (take (k + 1) nodes) held) (sym w.held-is) (held_other read pages nodes k c.loop-node.held lt other (inv.held tells));
            reads = (
                let now = ap (λ d. (g.D.Disk.given d).count) w.disk-is in
                let next = numbers_next (own_count pages) nodes k (0, Unused) lt in
                omega (arith, now, next, inv.reads));
            same = λ tells. ap (λ d. g.D.Disk.state d) w.disk-is ∙ inv.same tells;
            moments = λ tells. subst (λ d. Adds (g.D.Disk.past c.args.disk.now) (g.D.Disk.past d) (λ s. s ≡ g.D.Disk.state c.args.disk.now)) (sym w.disk-is) (inv.moments tells);
            fixed = ap (λ d. g.D.Disk.fixed d) w.disk-is ∙ inv.fixed;
            faults = ap (λ d. g.D.Disk.faults d) w.disk-is ∙ inv.faults;
          })
    ]

pub returns-clause-widths : goal.returns-clause-widths
returns-clause-widths g c n width height ptr slots has is =
    let whole : take c.loop-node.node-index c.args.nodes.now ≡ c.args.nodes.now = take_all c.loop-node.node-index c.args.nodes.now c.loop-node-test.false in
    found_wide 0 c.args.nodes.now c.loop-node.held n width height ptr slots c.requires.nodes (subst (λ xs. AreWide xs c.loop-node.held) whole c.loop-node.invariant.wide) has is

pub returns-clause-numbers : goal.returns-clause-numbers
returns-clause-numbers g c = c.loop-node.invariant.numbers ∙ ap directory_numbers (take_all c.loop-node.node-index c.args.nodes.now c.loop-node-test.false)

pub returns-clause-reads : goal.returns-clause-reads
returns-clause-reads g c = directories_once _ _ _ c.args.pages.now c.args.nodes.now c.requires.nodes c.loop-node.invariant.reads
