use Rattle.point_plan.proofs.Together.{are_free, is_report, once, stands}
use Rattle.point_plan.proofs.plan_laws.put_together_is_plan.Goals as goal

pub returns : goal.returns
returns c = λ r m old blocks s after g w root free put long. record {
  report = is_report r m old blocks s after g w root free put;
  free = are_free r m old blocks s after g w root free put;
  once = once r m old blocks s after g w root free put;
  stands = stands r m old blocks s after g w root free put c.planned_stands.ensures long;
}
