use Rattle.std.proofs.Common.{◌≡◌, ◌++◌, drop}
use Rattle.serde_json.specs.Data.{object}
use Rattle.sm_plan_text.specs.PlanTexts.{scalars_said, tokens_of}
use Rattle.sm_plan_text.proofs.Written.{members_left}
use Rattle.sm_plan_text.proofs.writing.write_object.Given as goal

abbrev pub invariant-loop-member : goal.invariant-loop-member
invariant-loop-member l = record {
  tokens : l.out.tokens ++ members_left (drop l.member-index l.members) ≡ l.fn.out.tokens ++ tokens_of (object (scalars_said l.members));
  before : l.out.before ≡ l.fn.out.before;
}
