use Rattle.std.proofs.Common.{◌-◌, length}
use Rattle.json.specs.Json.{value}
use Rattle.sm_plan_text.specs.Rules.{HasIds}
use Rattle.sm_plan_text.specs.declared.limits.TheConstants.{MOST_DEPTH}
use Rattle.sm_plan_text.proofs.EntriesRead.{HaveRead}
use Rattle.sm_plan_text.proofs.outline.read_list.Given as goal

abbrev pub invariant-entries : goal.invariant-entries
invariant-entries g l = HaveRead (g.T.Entry.faults_of l.scope l.member) (g.T.Entry.value l.scope) (HasIds l.scope) (value (MOST_DEPTH - 1)) l.initial.reader l.reader l.faults.lowest l.values.items

abbrev pub decreases-entries : goal.decreases-entries
decreases-entries g l = length l.reader
