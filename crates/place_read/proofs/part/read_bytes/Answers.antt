use Rattle.std.proofs.Common.{◌≡◌, ◌<◌, ◌∙◌, ℕ, List, [], ap, arith, length}
use Rattle.block_tree.proofs.DamageLaws.{damage_like}
use Rattle.place_read.proofs.PartLaws.{part_is}
use Rattle.place_read.proofs.part.read_bytes.Goals as goal
use Rattle.place_read.proofs.part.read_bytes.Goals.{then-part-end+in_ok-push_places, else-part-end}
use Rattle.volume_model.specs.Machine.{bytes_numbered}

pub returns-clause-read : goal.returns-clause-read
returns-clause-read g c tells r m holds sized =
    let content : List ℕ = bytes_numbered c.args.part.now.number m.tree in
    c.from_vec.ensures
    ∙ elim c.if-part-end.branch [
      | then-part-end+in_ok-push_places w ↦ (
          ap (λ v. v.items) w.bytes-is
          ∙ part_is content w.push_places.new.bytes.items c.args.part.now.offset c.args.part.now.length (omega (arith, w.in_ok-push_places.ensures.many, sized)) (w.in_ok-push_places.ensures.read tells r m holds))
      | else-part-end w ↦ (
          let none : length c.new-bytes.result.items ≡ 0 = ap length c.new-bytes.ensures.items in
          ap (λ v. v.items) w.bytes-is
          ∙ part_is content c.new-bytes.result.items c.args.part.now.offset c.args.part.now.length (omega (arith, none, sized, c.end.ensures)) (λ i lt. absurd (omega (arith, lt, none))))
    ]

pub returns-in_err-push_places-clause-sound : goal.returns-in_err-push_places-clause-sound
returns-in_err-push_places-clause-sound g c tells r m holds layout =
    damage_like c.from_residual.result c.in_err-push_places.field-0.0 (λ b. ⊥) (λ b. ⊥) c.from_residual.ensures.1 (c.in_err-push_places.ensures.sound tells r m holds layout) (λ b is. is)
