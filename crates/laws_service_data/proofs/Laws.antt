-- The laws: what was acknowledged is in the copy of whoever executes requests.
use Rattle.std.proofs.Common.{◌≡◌, ◌≤◌, ℕ, inl, inr, refl, sym, ap, ◌∙◌, subst, true, false, List, [], ◌∷◌, ◌++◌, Option, Some, None, is_some}
use Rattle.std.specs.Prelude.{◌==◌, Bool}
use Rattle.std.specs.List.{AllByRecursion}
use Rattle.sm_server.specs.declared.call.Cell.{Cell}
use Rattle.sm_server.specs.declared.call.Cell.TheVariants.{Absent, Prepared, Secondary, Primary, Forwarding}
use Rattle.sm_server.specs.declared.call.Role.TheVariants as role
use Rattle.sm_server.specs.declared.call.Call.{Call}
use Rattle.sm_server.specs.declared.call.Call.TheVariants.{Add, Change, Drop, PrepareAdd, PrepareDrop}
use Rattle.sm_server.specs.Call.{LeadsWhereLed}
use Rattle.sm_placement.specs.Setup.{Setup}
use Rattle.sm_agent.specs.declared.request.Routing.TheVariants as routing
use Rattle.sm_copies.specs.Lists.{ListEntry}
use Rattle.laws_network.specs.Fleet.{Committed, FleetEvent, FleetOutcome, Judged, Routed, Silent, fleet_comes}
use Rattle.laws_data.specs.Shard.{Acknowledges, Changes, Chooses, Copies, Ends, Event, Executes, Follows, Goes, Hands, Hears, Joins, Leave, Loses, Lowers, IsShardReached, MayHappenInTurn, Raises, Releases, Removes, Restarts, Shard, Stays, Succeeds, Takes, Tells, all_left, names}
use Rattle.laws_data.specs.Laws.{AcknowledgedWritesStay}
use Rattle.laws_service_data.specs.Joined.{Joined, JoinedEvent, OfData, OfFleet, joined_comes, joined_run}
use Rattle.laws_service_data.specs.Duties.{BecomesPrimary, ForOrder, ForRequest, ForShard, IsAskedFor, IsExecuted, KeepDuties, KeepsDuties, TakesOver, cell_at, has_cause}
use Rattle.laws_service_data.specs.Laws.{ExecutesWithAll, LeadsWith, ServingLeads}
use Rattle.laws_service_data.proofs.Leading.{left_append}
use Rattle.laws_service_data.proofs.Runs.{IsJoint, executing, in_turn, joint, joint_run}

-- whoever serves leads, or waits
pub serving_leads : LeadsWhereLed → ServingLeads
serving_leads led setup s x r = (joint led setup s x r).leads

-- ---- no event names the shard as lost

abbrev AreUnnamed : List Event → Type 0
AreUnnamed = AllByRecursion (λ e. names e ≡ false)

unnamed_itself : (e : Event) → has_cause e ≡ false → names e ≡ false
unnamed_itself (Copies s) c = refl
unnamed_itself (Follows s list) c = refl
unnamed_itself (Tells s) c = refl
unnamed_itself (Hears which) c = refl
unnamed_itself (Acknowledges list) c = refl
unnamed_itself (Leave s) c = refl
unnamed_itself (Stays s) c = refl
unnamed_itself (Loses s) c = refl
unnamed_itself (Restarts view) c = refl
unnamed_itself (Raises needed) c = refl
unnamed_itself (Lowers needed) c = refl
unnamed_itself (Releases s others) c = refl
unnamed_itself (Takes s source) c = refl
unnamed_itself (Executes write) c = refl
unnamed_itself (Joins s) c = refl
unnamed_itself (Goes s) c = refl
unnamed_itself (Hands s) c = refl
unnamed_itself (Removes gone needed) c = refl
unnamed_itself (Changes s view answered) c = refl
unnamed_itself (Ends number) c = refl
unnamed_itself (Succeeds s view former) c = refl
unnamed_itself (Chooses choice) c = absurd (cc)

both : (es fs : List Event) → AreUnnamed es → AreUnnamed fs → AreUnnamed (es ++ fs)
both [] fs a b = b
both (e ∷ es) fs a b = (a.0, both es fs a.1 b)

none_unnamed : (acts : List Event) → acts ≡ [] → AreUnnamed acts
none_unnamed acts d = subst AreUnnamed (sym d) tt

one_unnamed : (acts : List Event) (e : Event) → acts ≡ e ∷ [] → names e ≡ false → AreUnnamed acts
one_unnamed acts e d n = subst AreUnnamed (sym d) (n, tt)

unnamed_takes : (w : Shard) (v : ℕ) (acts : List Event) → TakesOver w v acts → AreUnnamed acts
unnamed_takes w v acts (inl d) = one_unnamed acts (Hands v) d refl
unnamed_takes w v acts (inr d) = none_unnamed acts d.0

unnamed_executed : (acts : List Event) → IsExecuted acts → AreUnnamed acts
unnamed_executed acts (inl d) = one_unnamed acts (Executes d.0) d.1 refl
unnamed_executed acts (inr d) = none_unnamed acts d

unnamed_becomes : (v number : ℕ) (acts : List Event) → BecomesPrimary v number acts → AreUnnamed acts
unnamed_becomes v number acts (inl d) = one_unnamed acts (Changes v number d.0) d.1 refl
unnamed_becomes v number acts (inr d) = one_unnamed acts (Succeeds v number d.0) d.1 refl

unnamed_request : (w : Shard) (v : ℕ) (c : Cell) (acts : List Event) → ForRequest w v c acts → AreUnnamed acts
unnamed_request w v Absent acts d = unnamed_executed acts d
unnamed_request w v Secondary acts d = unnamed_executed acts d
unnamed_request w v Primary acts d = unnamed_executed acts d
unnamed_request w v (Forwarding x n) acts d = unnamed_executed acts d
unnamed_request w v (Prepared x n) acts d = subst AreUnnamed (sym d.4) (both d.0 d.1 (unnamed_takes w v d.0 d.2) (unnamed_executed d.1 d.3))

unnamed_order : (w : Shard) (v n : ℕ) (call : Call) (c : Cell) (acts : List Event) → ForOrder w v n call c acts → AreUnnamed acts
unnamed_order w v n (PrepareAdd a k) c acts d = one_unnamed acts (Joins v) d refl
unnamed_order w v n (PrepareDrop a k) c acts d = none_unnamed acts d
unnamed_order w v n (Add role.Primary) (Prepared a k) acts d = unnamed_takes w v acts d
unnamed_order w v n (Add role.Primary) Absent acts d = absurd d
unnamed_order w v n (Add role.Primary) Secondary acts d = absurd d
unnamed_order w v n (Add role.Primary) Primary acts d = absurd d
unnamed_order w v n (Add role.Primary) (Forwarding a k) acts d = absurd d
unnamed_order w v n (Add role.Secondary) c acts d = one_unnamed acts (Joins v) d refl
unnamed_order w v n (Change from role.Primary) c acts d = unnamed_becomes v n acts d
unnamed_order w v n (Change from role.Secondary) c acts d = one_unnamed acts (Ends n) d refl
unnamed_order w v n Drop Primary acts d = subst AreUnnamed (sym d.1) (refl, (refl, (refl, tt)))
unnamed_order w v n Drop Absent acts d = one_unnamed acts (Goes v) d refl
unnamed_order w v n Drop Secondary acts d = one_unnamed acts (Goes v) d refl
unnamed_order w v n Drop (Prepared a k) acts d = one_unnamed acts (Goes v) d refl
unnamed_order w v n Drop (Forwarding a k) acts d = one_unnamed acts (Goes v) d refl

by_shard : (b : Bool) (duty : Type 0) (acts : List Event) → (duty → AreUnnamed acts) → ForShard b duty acts → AreUnnamed acts
by_shard true duty acts h d = h d
by_shard false duty acts h d = none_unnamed acts d

unnamed_asked : (s : ℕ) (x : Joined) (acts : List Event) (o : FleetOutcome) → IsAskedFor s x acts o → AreUnnamed acts
unnamed_asked s x acts (Committed o) d = by_shard (o.call.shard == s) _ acts (unnamed_order x.shard o.call.server o.number o.call.call (cell_at x.fleet s o.call.server) acts) d
unnamed_asked s x acts (Routed r v routing.Execute) d = by_shard (r == s) _ acts (λ h. unnamed_request x.shard v (cell_at x.fleet s v) acts h.0) d
unnamed_asked s x acts (Routed r v (routing.PassOn to handover cut)) d = none_unnamed acts d
unnamed_asked s x acts (Routed r v routing.NotHere) d = none_unnamed acts d
unnamed_asked s x acts (Routed r v routing.NotYet) d = none_unnamed acts d
unnamed_asked s x acts (Judged l v) d = none_unnamed acts d
unnamed_asked s x acts Silent d = none_unnamed acts d

-- ---- all that is done with the data

-- The data have gone on, and no event has named the shard.
pub record IsOnward (w new : Shard) : Type 0 where
  pub acts : List Event
  pub may : MayHappenInTurn w acts
  pub unnamed : AreUnnamed acts
  pub is : all_left acts w ≡ new

-- they have not yet
pub onward_here : (w : Shard) → IsOnward w w
onward_here w = record { acts = []; may = tt; unnamed = tt; is = refl }

-- they go on further
pub onward_more : (w new : Shard) → IsOnward w new → (acts : List Event) → MayHappenInTurn new acts → AreUnnamed acts → IsOnward w (all_left acts new)
onward_more w new o acts m n = record {
  acts = o.acts ++ acts;
  may = in_turn w o.acts acts o.may (subst (λ (z : Shard). MayHappenInTurn z acts) (sym o.is) m);
  unnamed = both o.acts acts o.unnamed n;
  is = left_append o.acts acts w ∙ ap (all_left acts) o.is;
}

-- so they do along joined events
pub onward_run : (w : Shard) (s : ℕ) (js : List JoinedEvent) (x : Joined) → KeepDuties s x js → IsOnward w x.shard → IsOnward w (joined_run js x).shard
onward_run w s [] x k o = o
onward_run w s (OfFleet e acts ∷ js) x k o =
    onward_run w s js (joined_comes x (OfFleet e acts)) k.1 (onward_more w x.shard o acts k.0.1 (unnamed_asked s x acts (fleet_comes x.fleet e).0 k.0.0))
onward_run w s (OfData event ∷ js) x k o =
    onward_run w s js (joined_comes x (OfData event)) k.1 (onward_more w x.shard o (event ∷ []) (k.0.1, tt) (unnamed_itself event k.0.0, tt))

-- a copy that is there
copy_there : (o : Option (List ListEntry)) → is_some o ≡ true → (copy : List ListEntry) × (o ≡ Some copy)
copy_there (Some copy) e = (copy, refl)
copy_there None e = absurd (cc)

-- whoever executes a request has all that was acknowledged before the data went on
pub executes_onward : AcknowledgedWritesStay → (w : Shard) → IsShardReached w → (setup : Setup) (s : ℕ) (y : Joined) → IsJoint setup s y → IsOnward w y.shard → (e : FleetEvent) (acts : List Event) (v : ℕ)
    → KeepsDuties s y (OfFleet e acts) → (fleet_comes y.fleet e).0 ≡ Routed s v routing.Execute → LeadsWith (all_left acts y.shard) v w.acknowledged
executes_onward stay w r setup s y k o e acts v kept q =
    let here = executing setup s y k e acts kept v q in
    let later = all_left acts y.shard in
    let copy = copy_there (later.copies v) here.1 in
    let t = onward_more w y.shard o acts kept.1 (unnamed_asked s y acts (fleet_comes y.fleet e).0 kept.0) in
    record {
      leading = here.0;
      copy = copy.0;
      copy_is = copy.1;
      has_all = stay w t.acts copy.0 r t.may t.unnamed
          (subst (λ (z : Shard). z.ended ≤ z.view) (sym t.is) here.0.1)
          (subst (λ (z : Shard). z.copies z.primary ≡ Some copy.0) (sym t.is) (ap (λ u. later.copies u) here.0.0 ∙ copy.1));
    }

-- whoever executes a request has all
pub executes_with_all : LeadsWhereLed → AcknowledgedWritesStay → ExecutesWithAll
executes_with_all led stay setup s v x js e acts r fit kept last q =
    let k = joint led setup s x r in
    executes_onward stay x.shard k.shard setup s (joined_run js x) (joint_run led setup s x js k fit kept)
    (onward_run x.shard s js x kept (onward_here x.shard)) e acts v last q
