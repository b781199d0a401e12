use Rattle.std.proofs.Common.{rules, tests, ◌∙◌}
use Rattle.std.specs.Str.{bytes_eq}
use Rattle.std.proofs.lemmas.Iterator.{YieldsList-from_slice}
use Rattle.std.proofs.lemmas.Iterator.Search.{any_from_yields_List}
use Rattle.sm_plan_text.specs.Members.{text_of}
use Rattle.sm_plan_text.specs.Rules.{member_of}
use Rattle.sm_plan_text.proofs.RuleLemmas.{any_rule}
use Rattle.sm_plan_text.proofs.rule.has_rule.Goals as goal

pub returns : goal.returns
returns c =
    any_from_yields_List (λ rule. bytes_eq c.args.key.now (text_of (member_of rule))) _ _ c.any.result c.any.ensures.ran (YieldsList-from_slice c.args.rules.now cc) (λ x b q k. search (rules, tests)) ∙
    any_rule c.args.key.now c.args.rules.now
