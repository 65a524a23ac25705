use Rattle.std.proofs.Common.{subst, sym, List}
use Rattle.held_list.specs.declared.held.Held.{Held}
use Rattle.held_list.specs.Held.{AllBelow}
use Rattle.held_list.proofs.OrderLaws.{one_more}
use Rattle.held_list.proofs.list.HeldList.push.Goals as goal

pub invariant_of-self-2 : goal.invariant_of-self-2
invariant_of-self-2 c =
    let below : AllBelow c.args.number c.self.inside.items.items = subst (λ (held : List Held). AllBelow c.args.number held) (sym c.self.view_is) c.requires in
    rw c.in_ok-push.ensures.items (one_more _ _ c.self.invariant below)
