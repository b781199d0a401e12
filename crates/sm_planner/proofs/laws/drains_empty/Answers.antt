use Rattle.sm_planner.proofs.law.Drained.{leaving_known, is_emptied, is_spread_after}
use Rattle.sm_planner.proofs.law.Usable.{plan_is_usable}
use Rattle.sm_planner.proofs.laws.drains_empty.Goals as goal

pub returns : goal.returns
returns c = λ b v moves plan known leave by. record {
  empty = is_emptied b v known moves leave plan by;
  spread = is_spread_after b v known moves leave plan by;
  usable = λ leads numbers setup scene. plan_is_usable b leads numbers moves plan setup scene (leaving_known b v known moves leave) by;
}
