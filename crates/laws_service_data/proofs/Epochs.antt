-- Over reopenings whoever executes requests has all that was acknowledged.
use Rattle.std.proofs.Common.{ap, ◌∙◌, List, [], ◌∷◌}
use Rattle.sm_server.specs.Call.{LeadsWhereLed}
use Rattle.laws_data.specs.Shard.{Shard, all_left}
use Rattle.laws_data.specs.Laws.{AcknowledgedWritesStay}
use Rattle.laws_service_data.specs.Epochs.{Anew, Epoch, EpochEvent, ExecutesOverReopenings, KeepRules, KeepsRules, OpensAnew, Within, epoch_comes, epochs_run, opened_anew}
use Rattle.laws_service_data.proofs.Laws.{IsOnward, executes_onward, onward_here, onward_more, onward_run}
use Rattle.laws_service_data.proofs.Opening.{joined_opens}
use Rattle.laws_service_data.proofs.Runs.{IsJoint, data_on, joint, joint_opening, joint_run}

-- whoever serves leads or waits, and the data have gone on
record IsGoing (w : Shard) (x : Epoch) : Type 0 where
  pub together : IsJoint x.setup x.number x.joined
  pub onward : IsOnward w x.joined.shard

going_next : LeadsWhereLed → (w : Shard) (x : Epoch) (e : EpochEvent) → IsGoing w x → KeepsRules x e → IsGoing w (epoch_comes x e)
going_next led w x (Within j) g k = record {
  together = joint_run led x.setup x.number x.joined (j ∷ []) g.together k.0 (k.1, tt);
  onward = onward_run w x.number (j ∷ []) x.joined (k.1, tt) g.onward;
}
going_next led w x (Anew setup number fleet acts) g k = record {
  together = joint_opening setup number (opened_anew x.joined fleet acts) k.2;
  onward = onward_more w x.joined.shard g.onward acts k.0 k.1;
}

going_on : LeadsWhereLed → (w : Shard) (x : Epoch) (es : List EpochEvent) → IsGoing w x → KeepRules x es → IsGoing w (epochs_run es x)
going_on led w x [] g k = g
going_on led w x (e ∷ es) g k = going_on led w (epoch_comes x e) es (going_next led w x e g k.0) k.1

-- whoever executes a request has all
pub executes_over_reopenings : LeadsWhereLed → AcknowledgedWritesStay → ExecutesOverReopenings
executes_over_reopenings led stay x es e acts v r kept last q =
    let k = joint led x.setup x.number x.joined r in
    let g = going_on led x.joined.shard x es (record { together = k; onward = onward_here x.joined.shard }) kept in
    executes_onward stay x.joined.shard k.shard (epochs_run es x).setup (epochs_run es x).number (epochs_run es x).joined g.together g.onward e acts v last q

-- a fleet opens anew
pub opens_anew : LeadsWhereLed → OpensAnew
opens_anew led x setup p room number u acts r may unnamed leads opening primary =
    let w = all_left acts x.joined.shard in
    let o = joined_opens setup p room number w opening (data_on x.joined.shard acts (joint led x.setup x.number x.joined r).shard may) leads.1 (ap (p.cells number) leads.0 ∙ primary) in
    (o.0, (may, unnamed, o.1))
