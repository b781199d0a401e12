use Rattle.std.proofs.Common.{◌≡◌, ◌∙◌, ◌++◌, ℕ, cond, List, [], unwrap_or, ap, sym}
use Rattle.serde_json.specs.Data.{Data}
use Rattle.json_tree.specs.View.{view}
use Rattle.sm_plan_text.specs.declared.fault.TextFault.{TextFault}
use Rattle.sm_plan_text.specs.declared.member.Member.TheVariants as members
use Rattle.sm_plan_text.specs.Faults.{noted}
use Rattle.sm_plan_text.specs.Values.{found, number_in, entries_in}
use Rattle.sm_plan_text.specs.Tables.{own_faults, walked}
use Rattle.sm_plan_text.specs.Parcels.{parcel_faults}
use Rattle.sm_plan_text.specs.Instructions.{instr_faults}
use Rattle.sm_plan_text.specs.Plans.{faults_within, stream_table}
use Rattle.sm_plan_code.specs.declared.limits.TheConstants.{MOST_CALLS}
use Rattle.sm_plan_text.proofs.DocumentLemmas.{two_noted}
use Rattle.sm_plan_text.proofs.PlanLemmas.{none_before}
use Rattle.sm_plan_text.proofs.plan.StreamEntry.read.Goals as goal
use Rattle.sm_plan_text.proofs.plan.StreamEntry.read.Goals.{then-cursor, else-cursor}

pub returns-clause-faults : goal.returns-clause-faults
returns-clause-faults c =
    let d : Data = view c.args.cursor.now.tree.now in
    let N : List (List ℕ) = c.args.cursor.now.scope.shards.now in
    let S : List (List ℕ) = c.args.cursor.now.scope.servers.now in
    let own : List TextFault = own_faults c.args.cursor.now.member (stream_table c.args.cursor.now.scope.retries) d in
    let held : List TextFault = faults_within (parcel_faults members.Holds N S []) (found members.Holds d) in
    let code : List TextFault = walked (instr_faults N S c.args.cursor.now.scope.signals) [] (entries_in members.Code d) in
    let to_own = c.in_ok-note_own.ensures ∙ ap (λ rows. noted c.args.faults.now.lowest (own_faults c.args.cursor.now.member rows d)) (c.stream_rules.ensures c.args.cursor.now.scope) in
    let to_held = two_noted _ _ _ own held to_own c.in_ok-held.ensures.faults in
    two_noted _ _ _ (own ++ held) code to_held c.in_ok-code.ensures.faults

pub returns-clause-value : goal.returns-clause-value
returns-clause-value c = λ few none.
    let d : Data = view c.args.cursor.now.tree.now in
    let N : List (List ℕ) = c.args.cursor.now.scope.shards.now in
    let S : List (List ℕ) = c.args.cursor.now.scope.servers.now in
    let to_held = none_before _ _ (walked (instr_faults N S c.args.cursor.now.scope.signals) [] (entries_in members.Code d)) c.in_ok-code.ensures.faults none in
    let held = c.in_ok-held.ensures.value few to_held in
    let retries : c.if-cursor.retries ≡ cond c.args.cursor.now.scope.retries (number_in members.Retries MOST_CALLS d) 0 = elim c.if-cursor.branch [
      | then-cursor w ↦ w.retries-is ∙ w.number-retries.ensures ∙ sym (ap (λ b. cond b (number_in members.Retries MOST_CALLS d) 0) w.if-cursor.true)
      | else-cursor w ↦ w.retries-is ∙ sym (ap (λ b. cond b (number_in members.Retries MOST_CALLS d) 0) w.if-cursor.false)
    ] in
    λ k. record {
      budget = c.number-budget.ensures k;
      retries = retries k;
      holds = (c.unwrap_or-holds.ensures ∙ (λ j. unwrap_or (held j) (c.in_ok-empty.ensures j))) k;
      code = c.in_ok-code.ensures.list few none k;
    }
