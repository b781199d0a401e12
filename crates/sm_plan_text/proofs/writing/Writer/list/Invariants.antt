use Rattle.std.proofs.Common.{◌≡◌, ◌++◌, drop, map}
use Rattle.sm_placement.specs.Setup.{names_of_servers, names_of_shards}
use Rattle.sm_plan_text.specs.PlanTexts.{list_data, tokens_of}
use Rattle.sm_plan_text.proofs.Written.{items_left}
use Rattle.sm_plan_text.proofs.writing.Writer.list.Given as goal

abbrev pub invariant-loop-item : goal.invariant-loop-item
invariant-loop-item g l = record {
  tokens : l.out.tokens ++ items_left (g.T.PlanPart.written_as (names_of_shards l.self.config.now) (names_of_servers l.self.config.now) l.self.retries) (drop l.item-index l.items)
      ≡ l.fn.out.tokens ++ tokens_of (list_data (map (g.T.PlanPart.written_as (names_of_shards l.self.config.now) (names_of_servers l.self.config.now) l.self.retries) l.items));
  before : l.out.before ≡ l.fn.out.before;
}
