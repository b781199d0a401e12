use Rattle.std.proofs.Common.{rules, tests, ◌∙◌, ℕ, List, map, not, option_map}
use Rattle.std.specs.List.{cons_option}
use Rattle.std.proofs.lemmas.Iterator.{YieldsList-from_slice}
use Rattle.std.proofs.lemmas.Iterator.Search.{any_from_yields_List}
use Rattle.sm_plan_text.specs.Members.{text_of}
use Rattle.sm_plan_text.specs.Tables.{is_among}
use Rattle.sm_plan_text.specs.Rules.{member_of}
use Rattle.sm_plan_text.proofs.ObjectLemmas.{any_key}
use Rattle.sm_plan_text.proofs.rule.has_unknown.Goals as goal

pub returns : goal.returns
returns c =
    let known : List (List ℕ) = cons_option (option_map text_of c.args.word) (map (λ rule. text_of (member_of rule)) c.args.rules.now) in
    any_from_yields_List (λ m. not (is_among known m.0.now)) _ _ c.any.result c.any.ensures.ran (YieldsList-from_slice c.args.members.now cc) (λ x b q k. search (rules, tests)) ∙
    any_key known c.args.members.now
