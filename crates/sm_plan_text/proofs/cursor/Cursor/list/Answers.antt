use Rattle.std.proofs.Common.{◌++◌, ◌∷◌, [], ◌∙◌, ap}
use Rattle.json_tree.specs.View.{view}
use Rattle.sm_plan_text.proofs.WalkLemmas.{mapped_step, walked_step}
use Rattle.sm_plan_text.proofs.PlanLemmas.{none_before}
use Rattle.sm_plan_text.proofs.cursor.Cursor.list.Goals as goal

pub loop-item-preserved : goal.loop-item-preserved
loop-item-preserved g c =
    let scope = c.args.self.now.scope in
    let items = c.entries-items.result.now in
    let i = c.loop-item.item-index in
    let item = c.item-item.result in
    record {
      list = λ few none. mapped_step (g.T.Entry.value scope) items i item [] c.loop-item.list.items _ c.loop-item-test.true c.item-item.is
          (c.in_ok-push.ensures.items ∙ ap (λ read. c.loop-item.list.items ++ read ∷ []) (c.in_ok-read.ensures.value few none))
          (c.loop-item.invariant.list few (none_before _ _ (g.T.Entry.faults_of scope c.args.member (view item)) c.in_ok-read.ensures.faults none));
      faults = walked_step (λ _ entry. g.T.Entry.faults_of scope c.args.member entry) items i item _ _ c.loop-item-test.true c.item-item.is c.in_ok-read.ensures.faults ∙ c.loop-item.invariant.faults;
    }
