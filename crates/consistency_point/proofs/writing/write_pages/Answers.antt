use Rattle.std.proofs.Common.{◌≡◌, ◌<◌, ◌∙◌, ℕ, [], get_or, ap, sym, arith, ⊎_elim}
use Rattle.std.proofs.lemmas.Bool.{cases_eq}
use Rattle.vol_numbers.specs.declared.runs.Page.{Page}
use Rattle.disk_model.specs.Disk.{State}
use Rattle.disk_model.proofs.Moments.{adds_then}
use Rattle.block_tree.specs.Notes.{page_blocks}
use Rattle.block_tree.specs.Tree.{blocks_in}
use Rattle.place_words.specs.Different.{is_among}
use Rattle.count_pairs.proofs.ChangeLaws.{bytes_kept, changes_then}
use Rattle.consistency_point.specs.Writing.{IsPageOf}
use Rattle.consistency_point.proofs.PageLaws.{among_at, blocks_apart, same_page}
use Rattle.consistency_point.proofs.writing.write_pages.Goals as goal

abbrev no_page : Page
no_page = record { at = 0; block = record { bytes = [] } }

pub loop-page-preserved : goal.loop-page-preserved
loop-page-preserved g c =
    let inv = c.loop-page.invariant in
    let one = c.write_at.ensures in
    let pages = c.args.pages.now in
    let i = c.loop-page.page-index in
    let here : Page = get_or pages i no_page in
    let after : State = g.D.Disk.state c.write_at.new.disk in
    let within : (b : ℕ) → b ≡ here.at → IsPageOf pages b = λ b e. ap (λ (k : ℕ). is_among (page_blocks pages) k) e ∙ among_at pages i no_page c.loop-page-test.true in
    record {
      stand = λ tells distinct k d lt. ⊎_elim
          (λ same.
          let own : get_or pages k d ≡ here = ap (λ (j : ℕ). get_or pages j d) same ∙ same_page pages i d no_page c.loop-page-test.true in
          ap (λ (p : Page). blocks_in after.contents p.at) own ∙ c.in_ok-write_at.ensures.stands tells ∙ ap (λ (p : Page). p.block.bytes) (sym own))
          (λ other.
          let below : k < i = omega (arith, lt, other) in
          bytes_kept (get_or pages k d).at (one.changes tells) (blocks_apart pages k i d no_page distinct below c.loop-page-test.true) ∙ inv.stand tells distinct k d below)
          (cases_eq k i);
      changes = λ tells. changes_then (inv.changes tells) (one.changes tells) within;
      during = λ tells. adds_then (inv.during tells) one.during (λ s during. changes_then (inv.changes tells) during within);
      fixed = one.fixed ∙ inv.fixed;
      given = one.given ∙ inv.given;
      faults = c.in_ok-write_at.ensures.cause ∙ inv.faults;
    }

pub returns-in_err-write_at-clause-changes : goal.returns-in_err-write_at-clause-changes
returns-in_err-write_at-clause-changes g c = λ tells.
    let pages = c.args.pages.now in
    let i = c.loop-page.page-index in
    let here : Page = get_or pages i no_page in
    let within : (b : ℕ) → b ≡ here.at → IsPageOf pages b = λ b e. ap (λ (k : ℕ). is_among (page_blocks pages) k) e ∙ among_at pages i no_page c.loop-page-test.true in
    changes_then (c.loop-page.invariant.changes tells) (c.write_at.ensures.changes tells) within

pub returns-in_err-write_at-clause-during : goal.returns-in_err-write_at-clause-during
returns-in_err-write_at-clause-during g c = λ tells.
    let pages = c.args.pages.now in
    let i = c.loop-page.page-index in
    let here : Page = get_or pages i no_page in
    let within : (b : ℕ) → b ≡ here.at → IsPageOf pages b = λ b e. ap (λ (k : ℕ). is_among (page_blocks pages) k) e ∙ among_at pages i no_page c.loop-page-test.true in
    adds_then (c.loop-page.invariant.during tells) c.write_at.ensures.during (λ s during. changes_then (c.loop-page.invariant.changes tells) during within)
