use Rattle.std.proofs.Common.{◌≡◌, ◌∙◌, ◌<◌, ◌++◌, ℕ, List, length, get_or, take, ap, subst}
use Rattle.held_list.specs.declared.held.Held.{Held}
use Rattle.name_check.specs.Names.{HasNamed, numbers_in, numbers_by}
use Rattle.name_check.proofs.NamingLaws.{numbers_by_more}
use Rattle.name_check.proofs.naming.all_names.Goals as goal

pub loop-held-preserved : goal.loop-held-preserved
loop-held-preserved c =
    let k = c.loop-held.held-index in
    let held = c.args.directories.now in
    let here : c.held-item.result ≡ get_or held k c.held-item.result = c.held-item.is ∙ ap (λ (hs : List Held). get_or hs k c.held-item.result) c.as_slice-held-items.ensures.is in
    let lt : k < length held = subst (λ (hs : List Held). k < length hs) c.as_slice-held-items.ensures.is c.loop-held-test.true in
    subst (λ (ns : List ℕ). HasNamed c.put_all.new.self ns)
    (ap (λ (ns : List ℕ). numbers_by (take k held) ++ ns) (c.deref.ensures.value ∙ c.in_ok-numbers.ensures.named ∙ ap (λ (h : Held). numbers_in h.slots) here) ∙ numbers_by_more held k c.held-item.result lt)
    (c.put_all.ensures (numbers_by (take k held)) c.loop-held.invariant)
