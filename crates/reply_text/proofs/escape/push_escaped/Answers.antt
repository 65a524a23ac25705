use Rattle.std.proofs.Common.{◌∙◌, arith}
use Rattle.std.proofs.lemmas.List.Elements.{All-from_get_or}
use Rattle.reply_text.specs.Telling.{IsByte}
use Rattle.reply_text.proofs.EscapeLemmas.{encode_is}
use Rattle.reply_text.proofs.escape.push_escaped.Goals as goal

pub returns : goal.returns
returns c =
    let same = c.percent_encode.ensures.text ∙ encode_is c.escapes.result c.args.name.now c.escapes.ensures in
    record {
      text = rw same at c.append_to.ensures.ok;
      bytes = All-from_get_or IsByte c.args.name.now 0 (λ i within. omega (arith, c.type_inv.name i));
    }
