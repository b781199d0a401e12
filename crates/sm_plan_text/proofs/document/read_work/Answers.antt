use Rattle.std.proofs.Common.{◌≡◌, ◌∙◌, ℕ, List, [], ap, sym, subst}
use Rattle.serde_json.specs.Data.{Data}
use Rattle.json_tree.specs.View.{view}
use Rattle.sm_plan_text.specs.declared.fault.TextFault.{TextFault}
use Rattle.sm_plan_text.specs.declared.member.Member.TheVariants as members
use Rattle.sm_plan_text.specs.Faults.{noted}
use Rattle.sm_plan_text.specs.Values.{found, entries_in, entries_found}
use Rattle.sm_plan_text.specs.Tables.{walked}
use Rattle.sm_plan_text.specs.Parcels.{HaveIds}
use Rattle.sm_plan_text.specs.Calls.{call_faults, call_in}
use Rattle.sm_plan_text.specs.Plans.{faults_within, plan_faults}
use Rattle.sm_plan_text.specs.Events.{event_faults, event_in}
use Rattle.sm_plan_text.specs.Moves.{move_faults}
use Rattle.sm_plan_text.specs.Outlines.{IsKept, calls_of, events_of}
use Rattle.sm_plan_text.proofs.WalkLemmas.{none_walked}
use Rattle.sm_plan_text.proofs.PlanLemmas.{none_before}
use Rattle.sm_plan_text.proofs.document.read_work.Goals as goal
use Rattle.sm_plan_text.proofs.document.read_work.Goals.{in-Some, in-None}

early_lists : (c : goal.In_ok-list) → c.match-early.calls ≡ (calls_of c.args.early, events_of c.args.early)
early_lists c =
    elim c.match-early.branch [
      | in-Some w ↦ w.calls-is ∙ ap (λ early. (calls_of early, events_of early)) (sym w.in-Some.is)
      | in-None w ↦ w.calls-is ∙ ap (λ early. (calls_of early, events_of early)) (sym w.in-None.is)
    ]

pub returns-clause-faults : goal.returns-clause-faults
returns-clause-faults c = λ calls events kept.
    let d : Data = view c.args.cursor.now.tree.now in
    let N : List (List ℕ) = c.args.cursor.now.scope.shards.now in
    let S : List (List ℕ) = c.args.cursor.now.scope.servers.now in
    let of_plan : List TextFault = faults_within (plan_faults members.Plan N S []) (found members.Plan d) in
    let of_plans : List TextFault = walked (plan_faults members.Plans N S) [] (entries_in members.Plans d) in
    let of_events : List TextFault = walked (event_faults N S) [] (entries_found events) in
    let of_moves : List TextFault = walked (move_faults N S) [] (entries_in members.Moves d) in
    let lists = early_lists c in
    let calls_kept = subst (λ early. IsKept (call_faults N S) (call_in N S) (HaveIds N S) early (found members.Calls d) calls) (sym (ap (λ p. p.0) lists)) kept.0 in
    let events_kept = subst (λ early. IsKept (event_faults N S) (event_in N S) (HaveIds N S) early (found members.Events d) events) (sym (ap (λ p. p.1) lists)) kept.1 in
    c.in_ok-list.ensures.faults ∙ none_walked c.list_or_none-2.new.faults.lowest [] (entries_in members.Asks d) ∙
    c.in_ok-list_or_none-2.ensures.faults ∙ ap (λ f. noted f of_moves)
    (c.in_ok-list_or_early-2.ensures.faults events events_kept ∙ ap (λ f. noted f of_events)
    (c.in_ok-list_or_none.ensures.faults ∙ ap (λ f. noted f of_plans)
    (c.in_ok-inner.ensures.faults ∙ ap (λ f. noted f of_plan) (c.in_ok-list_or_early.ensures.faults calls calls_kept))))

pub returns-clause-work : goal.returns-clause-work
returns-clause-work c = λ calls events kept few none.
    let d : Data = view c.args.cursor.now.tree.now in
    let N : List (List ℕ) = c.args.cursor.now.scope.shards.now in
    let S : List (List ℕ) = c.args.cursor.now.scope.servers.now in
    let lists = early_lists c in
    let calls_kept = subst (λ early. IsKept (call_faults N S) (call_in N S) (HaveIds N S) early (found members.Calls d) calls) (sym (ap (λ p. p.0) lists)) kept.0 in
    let events_kept = subst (λ early. IsKept (event_faults N S) (event_in N S) (HaveIds N S) early (found members.Events d) events) (sym (ap (λ p. p.1) lists)) kept.1 in
    let to_moves = none_before _ _ (walked (λ _ _. []) [] (entries_in members.Asks d)) c.in_ok-list.ensures.faults none in
    let to_events = none_before _ _ (walked (move_faults N S) [] (entries_in members.Moves d)) c.in_ok-list_or_none-2.ensures.faults to_moves in
    let to_plans = none_before _ _ (walked (event_faults N S) [] (entries_found events)) (c.in_ok-list_or_early-2.ensures.faults events events_kept) to_events in
    let to_plan = none_before _ _ (walked (plan_faults members.Plans N S) [] (entries_in members.Plans d)) c.in_ok-list_or_none.ensures.faults to_plans in
    let to_calls = none_before _ _ (faults_within (plan_faults members.Plan N S []) (found members.Plan d)) c.in_ok-inner.ensures.faults to_plan in
    record {
      limit = c.number.ensures;
      log = c.number_or.ensures;
      calls = c.in_ok-list_or_early.ensures.list calls calls_kept few to_calls;
      plan = c.in_ok-inner.ensures.value few to_plan;
      plans = c.in_ok-list_or_none.ensures.list few to_plans;
      events = c.in_ok-list_or_early-2.ensures.list events events_kept few to_events;
      moves = c.in_ok-list_or_none-2.ensures.list few to_moves;
      drain = c.server_found.ensures;
      asks = c.in_ok-list.ensures.list few none;
    }
