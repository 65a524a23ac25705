use Rattle.command_text.proofs.ReadBackLemmas.{reads_back}
use Rattle.command_text.proofs.print.print_command.Goals as goal

pub returns-in-Ok-put_spelling-clause-reads_back : goal.returns-in-Ok-put_spelling-clause-reads_back
returns-in-Ok-put_spelling-clause-reads_back g c = reads_back c.args.command.now c.in-Ok.ensures.command
