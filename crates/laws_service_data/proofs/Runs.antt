-- Wherever events lead, whoever serves the shard leads its data, or waits to take over.
use Rattle.std.proofs.Common.{◌≡◌, ◌≢◌, ℕ, inl, inr, refl, sym, ap, ◌∙◌, subst, Bool, true, false, List, [], ◌∷◌, ◌++◌}
use Rattle.std.specs.Prelude.{◌==◌, if◌then◌else◌}
use Rattle.std.proofs.Math.Path.{fun_ext}
use Rattle.std.proofs.lemmas.Bool.{eq-eqb, eqb-false, eqb-true}
use Rattle.sm_server.specs.Call.{LeadsWhereLed, led_to}
use Rattle.sm_placement.specs.Setup.{Setup}
use Rattle.sm_verifier.proofs.OnePlace.{put2_cases}
use Rattle.sm_agent.specs.declared.request.Routing.TheVariants as routing
use Rattle.laws_network.specs.Net.{Order}
use Rattle.laws_network.specs.Fleet.{Committed, Fleet, FleetEvent, FleetOutcome, Judged, Routed, Silent, fleet_comes, fleet_run, has_lost, held_cells}
use Rattle.laws_network.specs.FleetLaws.{AllFleetFit, FleetFits, IsFleetReached}
use Rattle.laws_network.proofs.Deliveries.{shade_of}
use Rattle.laws_network.proofs.Described.{IsDescribed, net_described}
use Rattle.laws_network.proofs.FleetSafety.{executes_at_one_server, fleet_is_safe}
use Rattle.laws_network.proofs.OfFleet.{net_of}
use Rattle.laws_network.proofs.Reaching.{fleet_shadow}
use Rattle.laws_data.specs.Shard.{Event, IsShardReached, MayHappenInTurn, Shard, all_left, left_by, new_shard}
use Rattle.laws_service_data.specs.Joined.{Joined, JoinedEvent, OfData, OfFleet, fleet_events, joined_comes, joined_run}
use Rattle.laws_service_data.specs.Duties.{ForOrder, ForRequest, ForShard, HasCopy, IsAskedFor, IsLeading, KeepDuties, KeepsDuties, cell_at}
use Rattle.laws_service_data.specs.Laws.{IsJoinedOpening, IsJoinedReached, LeadsOrWaits}
use Rattle.laws_service_data.proofs.Committing.{EachLeads, OneServes, commits}
use Rattle.laws_service_data.proofs.Held.{Commits, IsHeldChange, MovesHeld, Stays, moves_held}
use Rattle.laws_service_data.proofs.Leading.{leads_as_primary, leads_still, left_append, request_leads, waits_still}

-- ---- one event more

run_append : (es fs : List FleetEvent) (f : Fleet) → fleet_run (es ++ fs) f ≡ fleet_run fs (fleet_run es f)
run_append [] fs f = refl
run_append (e ∷ es) fs f = run_append es fs (fleet_comes f e).1

fits_append : (setup : Setup) (es fs : List FleetEvent) (f : Fleet) → AllFleetFit setup f es → AllFleetFit setup (fleet_run es f) fs → AllFleetFit setup f (es ++ fs)
fits_append setup [] fs f a b = b
fits_append setup (e ∷ es) fs f a b = (a.0, fits_append setup es fs (fleet_comes f e).1 a.1 b)

-- a fleet that events lead to, after one more
pub fleet_next : (setup : Setup) (f : Fleet) (e : FleetEvent) → IsFleetReached setup f → FleetFits setup f e → IsFleetReached setup (fleet_comes f e).1
fleet_next setup f e r fit = record {
  first = r.first;
  opening = r.opening;
  events = r.events ++ e ∷ [];
  fit = fits_append setup r.events (e ∷ []) r.first r.fit (subst (λ g. AllFleetFit setup g (e ∷ [])) r.state (fit, tt));
  state = ap (fleet_run (e ∷ [])) r.state ∙ sym (run_append r.events (e ∷ []) r.first);
}

-- what is allowed in turn, with what is allowed behind it
pub in_turn : (w : Shard) (es fs : List Event) → MayHappenInTurn w es → MayHappenInTurn (all_left es w) fs → MayHappenInTurn w (es ++ fs)
in_turn w [] fs a b = b
in_turn w (e ∷ es) fs a b = (a.0, in_turn (left_by w e) es fs a.1 b)

-- data that events lead to from data that are reached
pub data_on : (w : Shard) (es : List Event) → IsShardReached w → MayHappenInTurn w es → IsShardReached (all_left es w)
data_on w es r a = record {
  servers = r.servers;
  replicas = r.replicas;
  primary = r.primary;
  needed = r.needed;
  events = r.events ++ es;
  enough = r.enough;
  allowed = in_turn (new_shard r.servers r.replicas r.primary r.needed) r.events es r.allowed (subst (λ (z : Shard). MayHappenInTurn z es) (sym r.is) a);
  is = left_append r.events es (new_shard r.servers r.replicas r.primary r.needed) ∙ ap (all_left es) r.is;
}

-- ---- what holds all the time

-- Events lead to the fleet and to the data, and whoever serves leads or waits.
pub record IsJoint (setup : Setup) (s : ℕ) (x : Joined) : Type 0 where
  pub fleet : IsFleetReached setup x.fleet
  pub shard : IsShardReached x.shard
  pub leads : EachLeads x.shard (held_cells x.fleet s)

-- a lead describes what servers have of a shard
pub described : (setup : Setup) (s : ℕ) (f : Fleet) → IsFleetReached setup f → IsDescribed (held_cells f s)
described setup s f r = let k = fleet_shadow setup f r in net_described setup (shade_of f k).net (net_of f k) s

-- one server serves it at most
pub one_serves : (setup : Setup) (s : ℕ) (f : Fleet) → IsFleetReached setup f → OneServes (held_cells f s)
one_serves setup s f r x y a b = (fleet_is_safe setup f r).held.serving s x y a b

-- the cell of a server that has its slots
pub known_cell : (f : Fleet) (s v : ℕ) → has_lost f v ≡ false → held_cells f s v ≡ cell_at f s v
known_cell f s v h = ap (λ b. if b then f.had s v else ((f.servers v).slots s).cell) h

-- whoever executes a request leads then, and has a copy
pub executing : (setup : Setup) (s : ℕ) (x : Joined) → IsJoint setup s x → (e : FleetEvent) (acts : List Event) → KeepsDuties s x (OfFleet e acts) → (v : ℕ) → (fleet_comes x.fleet e).0 ≡ Routed s v routing.Execute
    → IsLeading (all_left acts x.shard) v × HasCopy (all_left acts x.shard) v
executing setup s x k e acts kept v q =
    let one = executes_at_one_server setup x.fleet k.fleet e s v q in
    let asked : IsAskedFor s x acts (Routed s v routing.Execute) = subst (IsAskedFor s x acts) q kept.0 in
    let d = subst (λ b. ForShard b (ForRequest x.shard v (cell_at x.fleet s v) acts × HasCopy (all_left acts x.shard) v) acts) (eq-eqb s s refl) asked in
    (request_leads x.shard v (cell_at x.fleet s v) acts d.0 kept.1 (subst (LeadsOrWaits x.shard v) (known_cell x.fleet s v one.0) (k.leads v one.1)), d.1)

module _ (led : LeadsWhereLed) (setup : Setup) (s : ℕ) (x : Joined) (k : IsJoint setup s x) (e : FleetEvent) (acts : List Event) (fit : FleetFits setup x.fleet e) (kept : KeepsDuties s x (OfFleet e acts)) where
  abbrev f : Fleet
  f = x.fleet

  abbrev new : Fleet
  new = (fleet_comes x.fleet e).1

  abbrev w : Shard
  w = x.shard

  abbrev later : Shard
  later = all_left acts x.shard

  there : IsFleetReached setup new
  there = fleet_next setup x.fleet e k.fleet fit

  -- nothing is done with the data
  nothing_done : acts ≡ [] → EachLeads later (held_cells f s)
  nothing_done d = subst (λ (z : List Event). EachLeads (all_left z w) (held_cells f s)) (sym d) k.leads

  -- all have what they had
  same_row : EachLeads later (held_cells f s) → ((v : ℕ) → held_cells new s v ≡ held_cells f s v) → EachLeads later (held_cells new s)
  same_row l same = subst (EachLeads later) (sym (fun_ext same)) l

  stays : (o : FleetOutcome) → (fleet_comes x.fleet e).0 ≡ o → ((p : Order) → o ≢ Committed p) → IsAskedFor s x acts o → EachLeads later (held_cells f s)
  stays (Committed p) q none asked = absurd (none p refl)
  stays (Judged l v) q none asked = nothing_done asked
  stays Silent q none asked = nothing_done asked
  stays (Routed r v (routing.PassOn to handover cut)) q none asked = nothing_done asked
  stays (Routed r v routing.NotHere) q none asked = nothing_done asked
  stays (Routed r v routing.NotYet) q none asked = nothing_done asked
  stays (Routed r v routing.Execute) q none asked = by_shard (r == s) refl asked
    where
      by_shard : (b : Bool) → (r == s) ≡ b → ForShard b (ForRequest w v (cell_at f s v) acts × HasCopy later v) acts → EachLeads later (held_cells f s)
      by_shard false t d = nothing_done d
      by_shard true t d = λ u h.
          let own = q ∙ ap (λ z. Routed z v routing.Execute) (eqb-true r s t) in
          let one = executes_at_one_server setup x.fleet k.fleet e s v own in
          subst (λ z. LeadsOrWaits later z (held_cells f s z)) (sym (one.2 u h))
          (leads_as_primary later v (held_cells f s v) (executing setup s x k e acts kept v own).0)

  committed : (o : Order) → (fleet_comes x.fleet e).0 ≡ Committed o → IsHeldChange f new o → EachLeads later (held_cells new s)
  committed o q c = by_shard (o.call.shard == s) refl (subst (IsAskedFor s x acts) q kept.0)
    where
      by_shard : (b : Bool) → (o.call.shard == s) ≡ b → ForShard b (ForOrder w o.call.server o.number o.call.call (cell_at f s o.call.server) acts) acts → EachLeads later (held_cells new s)
      by_shard false t d = same_row (nothing_done d) (λ v. c.held s v ∙ elim (put2_cases (held_cells f) o.call.shard o.call.server c.next s v) [
        | inl h ↦ absurd (eqb-false o.call.shard s t (sym h.0))
        | inr h ↦ h.1
      ])
      by_shard true t d =
          let own : o.call.shard ≡ s = eqb-true o.call.shard s t in
          commits w (held_cells f s) (held_cells new s) o.call.server o.number c.next (record {
            here = c.held s o.call.server ∙ elim (put2_cases (held_cells f) o.call.shard o.call.server c.next s o.call.server) [
              | inl h ↦ h.2
              | inr h ↦ absurd (h.0 (sym own, refl))
            ];
            there = λ v apart. c.held s v ∙ elim (put2_cases (held_cells f) o.call.shard o.call.server c.next s v) [
              | inl h ↦ absurd (apart h.1)
              | inr h ↦ h.1
            ];
          }) (described setup s f k.fleet) (one_serves setup s f k.fleet) (one_serves setup s new there) k.leads
          o.call.call (cell_at f s o.call.server) (known_cell f s o.call.server c.known)
          ((led o.call.call (cell_at f s o.call.server) c.next).0 (ap (led_to o.call.call) (sym (known_cell f s o.call.server c.known)) ∙ (ap (λ r. led_to o.call.call (held_cells f r o.call.server)) (sym own) ∙ c.led)))
          acts d kept.1

  -- what happens to the fleet leaves whoever serves leading or waiting
  of_fleet : EachLeads later (held_cells new s)
  of_fleet = go (moves_held setup x.fleet k.fleet e)
    where
      go : MovesHeld x.fleet (fleet_comes x.fleet e) → EachLeads later (held_cells new s)
      go (Stays none same) = same_row (stays (fleet_comes x.fleet e).0 refl none kept.0) (same s)
      go (Commits o q c) = committed o q c

  -- so all of it holds after the event
  pub joint_next : IsJoint setup s (joined_comes x (OfFleet e acts))
  joint_next = record { fleet = there; shard = data_on x.shard acts k.shard kept.1; leads = of_fleet }

-- what servers do by themselves does so, too
pub joint_data : (setup : Setup) (s : ℕ) (x : Joined) (event : Event) → IsJoint setup s x → KeepsDuties s x (OfData event) → IsJoint setup s (joined_comes x (OfData event))
joint_data setup s x event k kept = record {
  fleet = k.fleet;
  shard = data_on x.shard (event ∷ []) k.shard (kept.1, tt);
  leads = λ v h. waits_still x.shard (left_by x.shard event) v (held_cells x.fleet s v) (λ u l. leads_still x.shard u event kept.0 kept.1 l) (k.leads v h);
}

-- so does each list of events
pub joint_run : LeadsWhereLed → (setup : Setup) (s : ℕ) (x : Joined) (js : List JoinedEvent) → IsJoint setup s x → AllFleetFit setup x.fleet (fleet_events js) → KeepDuties s x js → IsJoint setup s (joined_run js x)
joint_run led setup s x [] k fit kept = k
joint_run led setup s x (OfFleet e acts ∷ js) k fit kept = joint_run led setup s (joined_comes x (OfFleet e acts)) js (joint_next led setup s x k e acts fit.0 kept.0) fit.1 kept.1
joint_run led setup s x (OfData event ∷ js) k fit kept = joint_run led setup s (joined_comes x (OfData event)) js (joint_data setup s x event k kept.0) fit kept.1

-- and so it is at an opening
pub joint_opening : (setup : Setup) (s : ℕ) (x : Joined) → IsJoinedOpening setup s x → IsJoint setup s x
joint_opening setup s x o = record {
  fleet = record { first = x.fleet; opening = o.fleet; events = []; fit = tt; state = refl };
  shard = o.shard;
  leads = λ v h. leads_as_primary x.shard v (held_cells x.fleet s v) (o.leading v h);
}

-- wherever events lead, whoever serves leads or waits
pub joint : LeadsWhereLed → (setup : Setup) (s : ℕ) (x : Joined) → IsJoinedReached setup s x → IsJoint setup s x
joint led setup s x r = subst (IsJoint setup s) (sym r.state) (joint_run led setup s r.first r.events (joint_opening setup s r.first r.opening) r.fit r.kept)
