use Rattle.std.proofs.Common.{◌≡◌, ◌∙◌, refl, sym, ap, subst, List, length, IsTrue, arith}
use Rattle.block_tree.specs.Tree.{blocks_in}
use Rattle.dir_slots.specs.Pages.{pages_for}
use Rattle.image_walk.specs.Blocks.{AreOnDisk}
use Rattle.name_check.specs.Directories.{HaveBytes, IsRead, FindsBad}
use Rattle.image_walk.specs.declared.node_block.NodeBlock.{NodeBlock}
use Rattle.name_check.proofs.BadLaws.{all_read, all_bad, wrong_count_is_bad, if_ok_under, if_err_under}
use Rattle.name_check.proofs.RunLaws.{own_on_disk}
use Rattle.name_check.proofs.OnceLaws.{own_times, on_ok}
use Rattle.name_check.proofs.directory_check.read_directory.Goals as goal

pub read_pages-requires : goal.read_pages-requires
read_pages-requires g c = subst (λ (bs : List NodeBlock). AreOnDisk (g.D.Disk.fixed c.args.disk.now).size bs) (sym c.of_number-own.ensures)
    (λ k lt. own_on_disk (g.D.Disk.fixed c.args.disk.now).size c.args.pages.now c.args.number k c.requires.size lt)

pub returns-then-own-from-clause-bad : goal.returns-then-own-from-clause-bad
returns-then-own-from-clause-bad g c tells =
    let many : c.from.result ≡ pages_for c.args.width = c.from.ensures ∙ c.div_ceil.ensures ∙ omega arith in (
      refl,
      wrong_count_is_bad (blocks_in (g.D.Disk.state c.args.disk.now).contents) c.args.pages.now c.args.number c.args.width
          (λ same. c.if-own-from.true (ap length c.of_number-own.ensures ∙ same ∙ sym many)),
    )

pub returns-clause-read : goal.returns-clause-read
returns-clause-read g c =
    let read = blocks_in (g.D.Disk.state c.args.disk.now).contents in
    if_ok_under (IsTrue g.D.Disk.tells) c.spelled.result (IsRead read c.args.pages.now c.args.number c.args.width)
    (λ tells. all_read read c.args.pages.now c.args.number c.args.width c.in_ok-blocks.blocks c.spelled.result
    (subst (λ (bs : List NodeBlock). HaveBytes read bs c.in_ok-blocks.blocks) c.of_number-own.ensures (c.in_ok-blocks.ensures.bytes tells)) c.spelled.ensures.spelled c.spelled.ensures.width)

pub returns-clause-bad : goal.returns-clause-bad
returns-clause-bad g c =
    let read = blocks_in (g.D.Disk.state c.args.disk.now).contents in
    if_err_under (IsTrue g.D.Disk.tells) c.spelled.result (FindsBad read c.args.pages.now c.args.number c.args.width)
    (λ tells. all_bad read c.args.pages.now c.args.number c.args.width c.in_ok-blocks.blocks c.spelled.result
    (subst (λ (bs : List NodeBlock). HaveBytes read bs c.in_ok-blocks.blocks) c.of_number-own.ensures (c.in_ok-blocks.ensures.bytes tells)) c.requires.width c.spelled.ensures.bad)

pub returns-clause-reads : goal.returns-clause-reads
returns-clause-reads g c =
    let many = ap length c.of_number-own.ensures ∙ own_times c.args.number c.args.pages.now in
    on_ok c.spelled.result _ (omega (arith, many, c.in_ok-blocks.ensures.reads))
