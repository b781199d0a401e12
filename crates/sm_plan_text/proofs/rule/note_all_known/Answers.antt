use Rattle.std.proofs.Common.{◌∙◌}
use Rattle.sm_plan_text.specs.Tables.{entry_faults}
use Rattle.sm_plan_text.proofs.WalkLemmas.{flat_step}
use Rattle.sm_plan_text.proofs.rule.note_all_known.Goals as goal

pub loop-item-preserved : goal.loop-item-preserved
loop-item-preserved c =
    flat_step (entry_faults c.args.member c.args.names.now) c.args.items.now c.loop-item.item-index c.item-item.result _ _ c.loop-item-test.true c.item-item.is c.note_known.ensures ∙ c.loop-item.invariant
