use Rattle.std.proofs.Common.{◌≡◌, ◌++◌, drop, map, option_map}
use Rattle.json_tree.specs.View.{view}
use Rattle.sm_plan_text.specs.Tables.{texts_found}
use Rattle.sm_plan_text.proofs.rule.key_of.Given as goal

abbrev pub invariant-loop-member : goal.invariant-loop-member
invariant-loop-member l = option_map (λ rest. map (λ s. s.now) l.texts.items ++ rest) (texts_found (drop l.member-index l.members) (view l.entry)) ≡ texts_found l.members (view l.entry)
