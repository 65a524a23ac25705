use Rattle.std.proofs.Common.{◌≡◌, ◌<◌, ◌+◌, ◌∙◌, List, length, drop, get_or, sym, ap, subst}
use Rattle.std.proofs.lemmas.Bool.{eq-eqb}
use Rattle.std.proofs.lemmas.List.{drop_more}
use Rattle.image_model.specs.Slots.{held_at}
use Rattle.image_walk.specs.declared.node_block.NodeBlock.{NodeBlock}
use Rattle.image_walk.specs.Blocks.{blocks_held}
use Rattle.name_check.proofs.RunLaws.{own, held_own, own_at, own_on_disk, this_place}
use Rattle.name_check.proofs.blocks.block_at.Goals as goal

pub loop-there-init : goal.loop-there-init
loop-there-init c = λ read. held_own read c.args.blocks.now c.args.number c.args.place

pub returns-then-from-place-clause-some : goal.returns-then-from-place-clause-some
returns-then-from-place-clause-some c read =
    let run = own c.args.number c.args.blocks.now in
    let k = c.loop-there.there-index in
    let none : NodeBlock = record { number = 0; place = 0; block = 0 } in
    let same : c.of_number-there-items.result.now ≡ run = c.of_number-there-items.ensures in
    let within : k < length run = subst (λ (bs : List NodeBlock). k < length bs) same c.loop-there-test.true in
    let place : (get_or run k none).place ≡ c.args.place = ap (λ (bs : List NodeBlock). (get_or bs k none).place) (sym same) ∙ sym c.from.ensures ∙ c.if-from-place.true in
    sym (c.loop-there.invariant read)
    ∙ ap (λ (bs : List NodeBlock). held_at (blocks_held read bs) c.args.number c.args.place) (drop_more run k none within)
    ∙ this_place read (get_or run k none) (drop (k + 1) run) c.args.number c.args.place (own_at c.args.blocks.now c.args.number k none within) (eq-eqb _ _ place)
    ∙ ap (λ (bs : List NodeBlock). read (get_or bs k none).block) (sym same)

pub returns-then-from-place-clause-disk : goal.returns-then-from-place-clause-disk
returns-then-from-place-clause-disk c size all =
    let run = own c.args.number c.args.blocks.now in
    let k = c.loop-there.there-index in
    let none : NodeBlock = record { number = 0; place = 0; block = 0 } in
    let same : c.of_number-there-items.result.now ≡ run = c.of_number-there-items.ensures in
    let within : k < length run = subst (λ (bs : List NodeBlock). k < length bs) same c.loop-there-test.true in
    subst (λ (bs : List NodeBlock). (get_or bs k none).block < size) (sym same) (own_on_disk size c.args.blocks.now c.args.number k all within)
