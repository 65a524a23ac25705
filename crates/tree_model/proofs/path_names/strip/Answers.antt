use Rattle.tree_model.proofs.Strips.{strip_either}
use Rattle.tree_model.proofs.path_names.strip.Goals as goal

pub returns : goal.returns
returns c = strip_either (λ rest. rest.now) c.strip_prefix.result c.args.front.now c.args.path.now c.strip_prefix.ensures.cases
