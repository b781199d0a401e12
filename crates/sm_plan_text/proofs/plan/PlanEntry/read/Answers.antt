use Rattle.std.proofs.Common.{◌≡◌, ◌∙◌, ◌++◌, ℕ, List, [], length, map, ap, sym, subst}
use Rattle.std.proofs.lemmas.List.{length-map}
use Rattle.serde_json.specs.Data.{Data}
use Rattle.json_tree.specs.View.{view}
use Rattle.sm_plan_code.specs.Plan.{PlanModel, IsPlan}
use Rattle.sm_plan_text.specs.declared.fault.TextFault.{TextFault}
use Rattle.sm_plan_text.specs.declared.member.Member.TheVariants as members
use Rattle.sm_plan_text.specs.Faults.{noted}
use Rattle.sm_plan_text.specs.Values.{entries_in}
use Rattle.sm_plan_text.specs.Tables.{own_faults, walked}
use Rattle.sm_plan_text.specs.Parcels.{parcel_faults}
use Rattle.sm_plan_text.specs.Plans.{knows_retries, stream_faults, stream_in, plan_table, plan_faults, plan_in, signal_count_in}
use Rattle.sm_plan_text.proofs.DocumentLemmas.{two_noted}
use Rattle.sm_plan_text.proofs.PlanLemmas.{none_before, none_at_all}
use Rattle.sm_plan_text.proofs.FaultlessPlan.{plan_good}
use Rattle.sm_plan_text.proofs.plan.PlanEntry.read.Goals as goal

pub returns-clause-faults : goal.returns-clause-faults
returns-clause-faults c =
    let d : Data = view c.args.cursor.now.tree.now in
    let N : List (List ℕ) = c.args.cursor.now.scope.shards.now in
    let S : List (List ℕ) = c.args.cursor.now.scope.servers.now in
    let count : length c.entries.result.now ≡ signal_count_in d = sym (length-map c.entries.result.now view) ∙ ap length c.entries.ensures in
    let own : List TextFault = own_faults c.args.cursor.now.member plan_table d in
    let of_signals : List TextFault = walked (parcel_faults members.Signals N S) [] (entries_in members.Signals d) in
    let of_streams : List TextFault = walked (stream_faults N S (signal_count_in d) (knows_retries d)) [] (entries_in members.Streams d) in
    let to_signals = two_noted _ _ _ own of_signals c.in_ok-note_own.ensures c.in_ok-signals.ensures.faults in
    two_noted _ _ _ (own ++ of_signals) of_streams to_signals
    (c.in_ok-streams.ensures.faults ∙ (λ j. noted c.list.new.faults.lowest (walked (stream_faults N S (count j) (c.knows_retries.ensures j)) [] (entries_in members.Streams d))))

pub returns-clause-value : goal.returns-clause-value
returns-clause-value c = λ few none.
    let d : Data = view c.args.cursor.now.tree.now in
    let N : List (List ℕ) = c.args.cursor.now.scope.shards.now in
    let S : List (List ℕ) = c.args.cursor.now.scope.servers.now in
    let count : length c.entries.result.now ≡ signal_count_in d = sym (length-map c.entries.result.now view) ∙ ap length c.entries.ensures in
    let faults : List TextFault = plan_faults c.args.cursor.now.member N S [] d in
    let faultless : faults ≡ [] = none_at_all _ _ faults (returns-clause-faults c) none in
    let to_signals = none_before _ _ (walked (stream_faults N S (length c.entries.result.now) c.knows_retries.result) [] (entries_in members.Streams d)) c.in_ok-streams.ensures.faults none in
    let parts : ◌≡◌ {A = PlanModel} (record { budget = c.number.result; streams = c.in_ok-streams.streams.items; signals = c.in_ok-signals.signals.items }) (plan_in N S d) = λ k. record {
      budget = c.number.ensures k;
      streams = (c.in_ok-streams.ensures.list few none ∙ (λ j. map (stream_in N S (count j) (c.knows_retries.ensures j)) (entries_in members.Streams d))) k;
      signals = c.in_ok-signals.ensures.list few to_signals k;
    } in
    c.plan_of.ensures (subst IsPlan (sym parts) (plan_good c.args.cursor.now.member N S d few faultless).plan) ∙ parts
