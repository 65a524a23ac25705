use Rattle.std.proofs.Common.{◌≡◌, ◌<◌, ◌∙◌, ◌++◌, ◌∷◌, [], ap, sym, subst, refl, arith, true, false}
use Rattle.vol_numbers.specs.declared.runs.Page.{Page}
use Rattle.block_tree.specs.Notes.{Noted}
use Rattle.block_tree.specs.Renewal.{IsRenewed}
use Rattle.block_tree.specs.Tree.{nonzero}
use Rattle.block_tree.proofs.RenewalLaws.{renewed_none, renewed_kept, renewed_fresh}
use Rattle.block_tree.proofs.renewal.renew.Goals as goal

pub returns-then-leads_nowhere : goal.returns-then-leads_nowhere
returns-then-leads_nowhere c = rw c.in_ok-remove.ensures (renewed_none c.args.old c.args.was.now.ptrs c.args.index.now.ptrs c.args.notes.now (c.if-leads_nowhere.ensures.0 refl))

pub returns-then-is_kept : goal.returns-then-is_kept
returns-then-is_kept c =
    let is = c.if-is_kept.ensures.0 refl in
    let not_none : nonzero c.args.index.now.ptrs ≡ [] → ⊥ = λ none. let t : false ≡ true = c.if-leads_nowhere.ensures.1 none in cc in
    renewed_kept c.args.old c.args.was.now.ptrs c.args.index.now.ptrs c.args.notes.now is.0 is.1 not_none

pub returns : goal.returns
returns c =
    let other : 0 < c.args.old → c.args.index.now.ptrs ≡ c.args.was.now.ptrs → ⊥ = λ some same. let t : false ≡ true = c.if-is_kept.ensures.1 (some, same) in cc in
    let not_none : nonzero c.args.index.now.ptrs ≡ [] → ⊥ = λ is. let t : false ≡ true = c.if-leads_nowhere.ensures.1 is in cc in
    let m = c.args.notes.now in
    let at = c.in_ok-at.at in
    let left = c.write.new.self.free in
    let removed = c.in_ok-remove-2.ensures in
    let page : Page = record { at = at; block = c.spelled.result } in
    let lowest : m.free ≡ at ∷ left = sym (ap (λ (n : Noted). n.free) removed) ∙ c.in_ok-at.ensures.lowest in
    let noted : c.write.new.self ≡ record { free = left; pages = m.pages ++ page ∷ []; added = m.added ++ at ∷ []; dropped = m.dropped ++ nonzero (c.args.old ∷ []) } =
    c.in_ok-at.ensures.noted ∙ ap (λ (n : Noted). let w : Noted = record { free = left; pages = n.pages ++ page ∷ []; added = n.added ++ at ∷ []; dropped = n.dropped } in w) removed in
    subst (λ (n : Noted). IsRenewed c.args.old c.args.was.now.ptrs c.args.index.now.ptrs at m n) (sym noted)
    (renewed_fresh c.args.old c.args.was.now.ptrs c.args.index.now.ptrs m at left c.spelled.result c.in_ok-at.ensures.positive lowest c.spelled.ensures.reads_back c.spelled.ensures.spelled (omega arith) other not_none)
