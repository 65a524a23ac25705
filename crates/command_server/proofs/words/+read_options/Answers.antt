use Rattle.std.proofs.Common.{◌∙◌}
use Rattle.command_server.proofs.WordLemmas.{with_options-two}
use Rattle.command_server.proofs.words.+read_options.Goals as goal

pub returns-in_ok-next-in-len2-up : goal.returns-in_ok-next-in-len2-up
returns-in_ok-next-in-len2-up t c =
    c.read_options.ensures ∙ with_options-two c.args.words.now c.args.options c.in_ok-next-in-len2-up.next _ c.in-len2-up.len_at_least c.in_ok-next-in-len2-up.ensures
