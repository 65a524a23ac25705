-- What an attempt at a command says, and the check before it.
use Rattle.std.specs.Prelude.{◌≡◌, Result, Ok, Err}
use Rattle.tree_model.specs.declared.refusal.Refusal.{Refusal}
use Rattle.tree_model.specs.declared.reply.Reply.{Reply}
use Rattle.plain_tree.specs.declared.plain_step.StepFault.{StepFault}
use Rattle.plain_tree.specs.declared.plain_step.StepFault.TheVariants as faults
use Rattle.tree_model.specs.Tree.{Tree}

-- From old to new with this result, where the definition answers so. Want of memory changes nothing.
abbrev pub Attempts : Tree → Tree → Result Reply StepFault → Result (Reply × Tree) Refusal → Type 0
Attempts old new (Ok reply) answer = answer ≡ Ok (reply, new)
Attempts old new (Err (faults.Refused refusal)) answer = (answer ≡ Err refusal) × (new ≡ old)
Attempts old new (Err faults.Memory) answer = new ≡ old

-- Refused as the definition refuses; else the definition gives the reply and the tree that come of what was found.
abbrev pub Permits : {A : Type 0} → Result A Refusal → Result (Reply × Tree) Refusal → (A → Reply × Tree) → Type 0
Permits (Ok found) answer done = answer ≡ Ok (done found)
Permits (Err refusal) answer done = answer ≡ Err refusal
