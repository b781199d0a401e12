use Rattle.std.proofs.Common.{◌≡◌, take, drop, map, [], None}
use Rattle.json_tree.specs.View.{view}
use Rattle.sm_plan_text.specs.Faults.{noted}
use Rattle.sm_plan_text.specs.Values.{entries_in}
use Rattle.sm_plan_text.specs.Tables.{walked}
use Rattle.sm_plan_text.specs.Rules.{HasIds}
use Rattle.sm_plan_text.proofs.cursor.Cursor.list.Given as goal

abbrev pub invariant-loop-item : goal.invariant-loop-item
invariant-loop-item g l = record {
  list : HasIds l.self.scope → l.faults.lowest ≡ None → l.list.items ≡ map (g.T.Entry.value l.self.scope) (take l.item-index (map view l.items));
  faults : noted l.faults.lowest (walked (λ _ entry. g.T.Entry.faults_of l.self.scope l.member entry) (take l.item-index (map view l.items)) (drop l.item-index (map view l.items)))
      ≡ noted l.fn.faults.lowest (walked (λ _ entry. g.T.Entry.faults_of l.self.scope l.member entry) [] (entries_in l.member (view l.self.tree.now)));
}
