use Rattle.std.proofs.Common.{◌≡◌, ◌∙◌, [], map, Some, None, option_map, OnOk, ap, sym, subst}
use Rattle.json_tree.specs.View.{view}
use Rattle.sm_plan_text.specs.Faults.{noted, answered}
use Rattle.sm_plan_text.specs.Values.{found, entries, items_of, entries_found}
use Rattle.sm_plan_text.specs.Tables.{walked}
use Rattle.sm_plan_text.specs.Rules.{HasIds}
use Rattle.sm_plan_text.specs.Outlines.{IsKept}
use Rattle.sm_plan_text.proofs.PlanLemmas.{none_at_all}
use Rattle.sm_plan_text.proofs.cursor.Cursor.list_or_early.Goals as goal

pub returns-in_default-clause-faults : goal.returns-in_default-clause-faults
returns-in_default-clause-faults g c = λ whole is.
    let scope = c.args.self.now.scope in
    let here = found c.args.member (view c.args.self.now.tree.now) in
    let same : whole ≡ here = subst (λ early. IsKept (λ _ entry. g.T.Entry.faults_of scope c.args.member entry) (g.T.Entry.value scope) (HasIds scope) early here whole) c.in_default.is is in
    subst (λ o. OnOk c.list_or_none.result (c.list_or_none.new.faults.lowest ≡ noted c.args.faults.now.lowest (walked (λ _ entry. g.T.Entry.faults_of scope c.args.member entry) [] (entries_found o))))
    (sym same) c.list_or_none.ensures.faults

pub returns-clause-list : goal.returns-clause-list
returns-clause-list g c = λ whole is few none.
    let scope = c.args.self.now.scope in
    let here = found c.args.member (view c.args.self.now.tree.now) in
    let kept = subst (λ early. IsKept (λ _ entry. g.T.Entry.faults_of scope c.args.member entry) (g.T.Entry.value scope) (HasIds scope) early here whole) c.in-Some.is is in
    let faults = walked (λ _ entry. g.T.Entry.faults_of scope c.args.member entry) [] (entries kept.0) in
    let faultless : c.in-Some.early.faults.lowest ≡ None = kept.3.faults ∙ ap answered (none_at_all _ _ faults (c.append.ensures faults kept.3.faults) none) in
    ap Some (kept.3.values few faultless) ∙ sym (ap (λ o. option_map (map (g.T.Entry.value scope)) (option_map items_of o)) kept.2)
