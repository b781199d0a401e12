use Rattle.std.proofs.Common.{◌≡◌, refl}
use Rattle.serde_json.specs.Data.{Data}
use Rattle.json_tree.specs.View.{view}
use Rattle.sm_plan_text.specs.declared.member.Member.TheVariants as members
use Rattle.sm_plan_text.specs.Parcels.{lead_word, crown_table, lead_worded, crown_by}
use Rattle.sm_plan_text.proofs.RuleLemmas.{worded_faults_noted, worded_value}
use Rattle.sm_plan_text.proofs.parcel.CrownEntry.read.Goals as goal

pub returns-clause-faults : goal.returns-clause-faults
returns-clause-faults c =
    let scope = c.args.cursor.now.scope in
    worded_faults_noted c.args.cursor.now.member members.Lead lead_word (crown_table scope.shards.now scope.servers.now) scope (view c.args.cursor.now.tree.now) c.text-word.result.now c.rules_of.result c.args.faults.now.lowest _
    refl c.text-word.ensures (c.rules_of.ensures scope) c.in_ok-note_worded.ensures

pub returns-clause-value : goal.returns-clause-value
returns-clause-value c = λ few none.
    let scope = c.args.cursor.now.scope in
    let d : Data = view c.args.cursor.now.tree.now in
    worded_value (λ o. (record { shard = c.shard.result; lead = c.lead_of.result; listed = c.server_found.result }) ≡ crown_by scope.shards.now scope.servers.now d o) (λ w. c.lead_of.result ≡ lead_worded scope.servers.now d w) c.args.cursor.now.member members.Lead lead_word (crown_table scope.shards.now scope.servers.now) d c.text-word.result.now _ _
    refl c.text-word.ensures (λ w h. λ k. record { shard = c.shard.ensures k; lead = h k; listed = c.server_found.ensures k }) c.lead_of.ensures (returns-clause-faults c) none
