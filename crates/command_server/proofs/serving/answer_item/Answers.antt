use Rattle.std.proofs.Common.{◌≡◌, ◌∙◌, refl, sym, subst, Ok}
use Rattle.std.proofs.lemmas.Bool.{false≢true}
use Rattle.command_text.specs.Reading.{ReadsNext}
use Rattle.command_text.specs.Text.{next}
use Rattle.command_text.specs.declared.item.Item.{Item}
use Rattle.command_text.specs.declared.item.Item.TheVariants.{Ended}
use Rattle.command_server.proofs.StepLemmas.{given_of, nothing_read, stopped_at, said}
use Rattle.command_server.proofs.serving.answer_item.Goals as goal

pub returns-then-is_ended-clause-session : goal.returns-then-is_ended-clause-session
returns-then-is_ended-clause-session g c text behind from to read =
    nothing_read read.told c.requires.fits (
      refl,
      λ told. subst (λ (i : Item). ReadsNext (next text) behind (Ok i)) (c.is_ended.ensures.0 c.if-is_ended.true) (read.comes told),
    )

pub returns-in-Ok-clause-session : goal.returns-in-Ok-clause-session
returns-in-Ok-clause-session g c text behind from to read =
    let not_ended : c.args.item.now ≡ Ended → ⊥ = λ is. false≢true (sym c.if-is_ended.false ∙ c.is_ended.ensures.1 is) in
    said read.told (λ told. given_of (next text) behind c.args.item.now not_ended (read.comes told))
    c.in-Ok.answer c.answer_to.new.volume c.in-Ok.ensures.legal c.in-Ok.ensures.kept c.in-Ok.ensures.fits c.in-Ok.ensures.during c.say.result c.say.ensures.says

pub returns-in-Err-clause-session : goal.returns-in-Err-clause-session
returns-in-Err-clause-session g c text behind from to read =
    let not_ended : c.args.item.now ≡ Ended → ⊥ = λ is. false≢true (sym c.if-is_ended.false ∙ c.is_ended.ensures.1 is) in
    stopped_at read.told (λ told. given_of (next text) behind c.args.item.now not_ended (read.comes told))
    c.in-Err.field-0 c.in-Err.ensures.legal c.in-Err.ensures.during c.in-Err.ensures.left c.in-Err.ensures.unsynced
