use Rattle.sm_planner.proofs.law.Existing.{rule_answers}
use Rattle.sm_planner.proofs.laws.rule_answers_once.Goals as goal

pub returns : goal.returns
returns c = rule_answers
