use Rattle.std.proofs.Common.{◌≡◌, ◌++◌, false, drop, map}
use Rattle.json_tree.specs.View.{view}
use Rattle.sm_plan_text.specs.Tables.{texts_found, has_double_key}
use Rattle.sm_plan_text.proofs.KeyLemmas.{held}
use Rattle.sm_plan_text.proofs.rule.has_double_key.Given as goal

abbrev pub invariant-loop-entry : goal.invariant-loop-entry
invariant-loop-entry l = record {
  rest : has_double_key (held (λ key. map (λ s. s.now) key.items) l.keys.keys ++ map (texts_found l.members) (drop l.entry-index (map view l.entries))) ≡ has_double_key (map (texts_found l.members) (map view l.entries));
  single : has_double_key (held (λ key. map (λ s. s.now) key.items) l.keys.keys) ≡ false;
}
