-- Servers that keep their duties keep the rule on orders' numbers, too.
use Rattle.std.proofs.Common.{◌≡◌, ◌≤◌, ◌⊎◌, ℕ, refl, sym, ◌∙◌, inl, inr, subst, arith, Bool, true, false, Option, Some, None, List, [], ◌∷◌, ◌++◌}
use Rattle.std.specs.Prelude.{◌==◌, slice_get}
use Rattle.std.specs.List.{AllByRecursion}
use Rattle.std.proofs.lemmas.Bool.{eqb-true}
use Rattle.sm_server.specs.declared.call.Cell.{Cell}
use Rattle.sm_server.specs.declared.call.Cell.TheVariants.{Absent, Forwarding, Prepared, Primary, Secondary}
use Rattle.sm_server.specs.declared.call.Role.TheVariants as role
use Rattle.sm_server.specs.declared.call.Call.{Call}
use Rattle.sm_server.specs.declared.call.Call.TheVariants.{Add, Change, Drop, PrepareAdd, PrepareDrop}
use Rattle.sm_server.specs.Call.{LeadsWhereLed}
use Rattle.sm_placement.specs.Setup.{Setup}
use Rattle.sm_agent.specs.declared.request.Routing.TheVariants as routing
use Rattle.laws_network.specs.Net.{Order}
use Rattle.laws_network.specs.Fleet.{Committed, Fleet, FleetEvent, FleetOutcome, Judged, Routed, Silent, fleet_comes}
use Rattle.laws_network.specs.FleetLaws.{AllFleetFit, FleetFits, IsFleetReached}
use Rattle.laws_data.specs.Shard.{Acknowledges, Changes, Chooses, Copies, Ends, Event, Executes, Follows, Goes, Hands, Hears, IsLater, Joins, Leave, Loses, Lowers, MayHappen, MayHappenInTurn, Raises, Releases, Removes, Restarts, Shard, Stays, Succeeds, Takes, Tells, Word, all_left, left_by, with_heard}
use Rattle.laws_data.specs.Laws.{EnoughHaveThem}
use Rattle.laws_service_data.specs.Joined.{Joined, JoinedEvent, OfData, OfFleet, fleet_events, joined_comes, joined_run}
use Rattle.laws_service_data.specs.Duties.{BecomesPrimary, ForOrder, ForRequest, ForShard, HasCopy, IsAskedFor, IsExecuted, KeepDuties, KeepsDuties, TakesOver, cell_at, has_cause}
use Rattle.laws_service_data.specs.Laws.{IsJoinedOpening}
use Rattle.laws_service_data.specs.Epochs.{Anew, Epoch, EpochEvent, KeepRules, Within, epoch_comes, opened_anew}
use Rattle.laws_service_data.specs.LeadNumbers.{CommitsOfLead, IsOfLead}
use Rattle.laws_service_data.specs.NumbersLater.{DutiesSuffice, IsAboveViews, KeepDutiesIfLater, KeepRulesIfLater, KeepSettledIfLater, KeepsDutiesIfLater, MayHappenIfLater, MayHappenInTurnIfLater, NumbersAreLater, RulesSuffice, SettledSuffices}
use Rattle.laws_service_data.specs.Reopened.{KeepSettled}
use Rattle.laws_service_data.proofs.LeadNumbers.{IsFleetBehind, behind_opening, behind_stays, lead_is_highest, lead_is_later, reached_opening}
use Rattle.laws_service_data.proofs.Reopened.{keeps_rules}
use Rattle.laws_service_data.proofs.Runs.{IsJoint, fleet_next, joint_opening, joint_run}

-- ---- events that leave views and ends

-- whether an event makes no view, and ends none
abbrev is_plain : Event → Bool
is_plain (Restarts view) = false
is_plain (Changes s view answered) = false
is_plain (Chooses choice) = false
is_plain (Ends number) = false
is_plain (Succeeds s view former) = false
is_plain _ = true

abbrev ArePlain : List Event → Type 0
ArePlain = AllByRecursion (λ e. is_plain e ≡ true)

-- the view, and the last end, are the same
abbrev HasSame : Shard → Shard → Type 0
HasSame w new = (new.view ≡ w.view) × (new.ended ≡ w.ended)

heard_same : (w : Shard) (o : Option Word) → HasSame w (with_heard w o)
heard_same w None = (refl, refl)
heard_same w (Some word) = (refl, refl)

plain_same : (w : Shard) (e : Event) → is_plain e ≡ true → HasSame w (left_by w e)
plain_same w (Executes write) p = (refl, refl)
plain_same w (Copies s) p = (refl, refl)
plain_same w (Follows s list) p = (refl, refl)
plain_same w (Tells s) p = (refl, refl)
plain_same w (Hears which) p = heard_same w (slice_get w.words which)
plain_same w (Acknowledges list) p = (refl, refl)
plain_same w (Joins s) p = (refl, refl)
plain_same w (Leave s) p = (refl, refl)
plain_same w (Goes s) p = (refl, refl)
plain_same w (Stays s) p = (refl, refl)
plain_same w (Loses s) p = (refl, refl)
plain_same w (Hands s) p = (refl, refl)
plain_same w (Raises needed) p = (refl, refl)
plain_same w (Lowers needed) p = (refl, refl)
plain_same w (Removes gone needed) p = (refl, refl)
plain_same w (Releases s others) p = (refl, refl)
plain_same w (Takes s source) p = (refl, refl)
plain_same w (Restarts view) p = absurd (cc)
plain_same w (Changes s view answered) p = absurd (cc)
plain_same w (Chooses choice) p = absurd (cc)
plain_same w (Ends number) p = absurd (cc)
plain_same w (Succeeds s view former) p = absurd (cc)

plain_may : (w : Shard) (e : Event) → is_plain e ≡ true → MayHappenIfLater w e → MayHappen w e
plain_may w (Executes write) p m = m
plain_may w (Copies s) p m = m
plain_may w (Follows s list) p m = m
plain_may w (Tells s) p m = m
plain_may w (Hears which) p m = m
plain_may w (Acknowledges list) p m = m
plain_may w (Joins s) p m = m
plain_may w (Leave s) p m = m
plain_may w (Goes s) p m = m
plain_may w (Stays s) p m = m
plain_may w (Loses s) p m = m
plain_may w (Hands s) p m = m
plain_may w (Raises needed) p m = m
plain_may w (Lowers needed) p m = m
plain_may w (Removes gone needed) p m = m
plain_may w (Releases s others) p m = m
plain_may w (Takes s source) p m = m
plain_may w (Restarts view) p m = absurd (cc)
plain_may w (Changes s view answered) p m = absurd (cc)
plain_may w (Chooses choice) p m = absurd (cc)
plain_may w (Ends number) p m = absurd (cc)
plain_may w (Succeeds s view former) p m = absurd (cc)

-- so is all that servers do by themselves
plain_itself : (e : Event) → has_cause e ≡ false → is_plain e ≡ true
plain_itself (Copies s) c = refl
plain_itself (Follows s list) c = refl
plain_itself (Tells s) c = refl
plain_itself (Hears which) c = refl
plain_itself (Acknowledges list) c = refl
plain_itself (Leave s) c = refl
plain_itself (Stays s) c = refl
plain_itself (Loses s) c = refl
plain_itself (Raises needed) c = refl
plain_itself (Lowers needed) c = refl
plain_itself (Releases s others) c = refl
plain_itself (Takes s source) c = refl
plain_itself (Executes write) c = refl
plain_itself (Joins s) c = refl
plain_itself (Goes s) c = refl
plain_itself (Hands s) c = refl
plain_itself (Removes gone needed) c = refl
plain_itself (Restarts view) c = absurd (cc)
plain_itself (Changes s view answered) c = absurd (cc)
plain_itself (Chooses choice) c = absurd (cc)
plain_itself (Ends number) c = absurd (cc)
plain_itself (Succeeds s view former) c = absurd (cc)

-- they are allowed in turn, and leave views and ends
plain_acts : (w : Shard) (acts : List Event) → ArePlain acts → MayHappenInTurnIfLater w acts → MayHappenInTurn w acts × HasSame w (all_left acts w)
plain_acts w [] p m = (tt, (refl, refl))
plain_acts w (e ∷ es) p m =
    let a = plain_same w e p.0 in
    let b = plain_acts (left_by w e) es p.1 m.1 in
    ((plain_may w e p.0 m.0, b.0), (b.1.0 ∙ a.0, b.1.1 ∙ a.1))

-- ---- what is done for an order, or a request

-- by this event a view begins under a number, or ends
abbrev IsUnder : ℕ → Event → Type 0
IsUnder n (Changes s view answered) = view ≡ n
IsUnder n (Succeeds s view former) = view ≡ n
IsUnder n (Ends number) = number ≡ n
IsUnder n _ = ⊥

-- the first of these does, and no other
record IsLed (n : ℕ) (acts : List Event) : Type 0 where
  pub first : Event
  pub rest : List Event
  pub is : acts ≡ first ∷ rest
  pub under : IsUnder n first
  pub plain : ArePlain rest

none_plain : (acts : List Event) → acts ≡ [] → ArePlain acts
none_plain acts d = subst ArePlain (sym d) tt

one_plain : (acts : List Event) (e : Event) → acts ≡ e ∷ [] → is_plain e ≡ true → ArePlain acts
one_plain acts e d p = subst ArePlain (sym d) (p, tt)

both_plain : (es fs : List Event) → ArePlain es → ArePlain fs → ArePlain (es ++ fs)
both_plain [] fs a b = b
both_plain (e ∷ es) fs a b = (a.0, both_plain es fs a.1 b)

plain_takes : (w : Shard) (v : ℕ) (acts : List Event) → TakesOver w v acts → ArePlain acts
plain_takes w v acts (inl d) = one_plain acts (Hands v) d refl
plain_takes w v acts (inr d) = none_plain acts d.0

plain_executed : (acts : List Event) → IsExecuted acts → ArePlain acts
plain_executed acts (inl d) = one_plain acts (Executes d.0) d.1 refl
plain_executed acts (inr d) = none_plain acts d

plain_request : (w : Shard) (v : ℕ) (c : Cell) (acts : List Event) → ForRequest w v c acts → ArePlain acts
plain_request w v Absent acts d = plain_executed acts d
plain_request w v Secondary acts d = plain_executed acts d
plain_request w v Primary acts d = plain_executed acts d
plain_request w v (Forwarding x n) acts d = plain_executed acts d
plain_request w v (Prepared x n) acts d = subst ArePlain (sym d.4) (both_plain d.0 d.1 (plain_takes w v d.0 d.2) (plain_executed d.1 d.3))

led_becomes : (v n : ℕ) (acts : List Event) → BecomesPrimary v n acts → IsLed n acts
led_becomes v n acts (inl d) = record { first = Changes v n d.0; rest = []; is = d.1; under = refl; plain = tt }
led_becomes v n acts (inr d) = record { first = Succeeds v n d.0; rest = []; is = d.1; under = refl; plain = tt }

-- for an order all is plain, or the order is one for the lead
for_order : (w : Shard) (v n : ℕ) (call : Call) (c : Cell) (acts : List Event) → ForOrder w v n call c acts → ArePlain acts ⊎ (IsOfLead call c × IsLed n acts)
for_order w v n (PrepareAdd a k) c acts d = inl (one_plain acts (Joins v) d refl)
for_order w v n (PrepareDrop a k) c acts d = inl (none_plain acts d)
for_order w v n (Add role.Primary) (Prepared a k) acts d = inl (plain_takes w v acts d)
for_order w v n (Add role.Primary) Absent acts d = absurd d
for_order w v n (Add role.Primary) Secondary acts d = absurd d
for_order w v n (Add role.Primary) Primary acts d = absurd d
for_order w v n (Add role.Primary) (Forwarding a k) acts d = absurd d
for_order w v n (Add role.Secondary) c acts d = inl (one_plain acts (Joins v) d refl)
for_order w v n (Change from role.Primary) c acts d = inr (tt, led_becomes v n acts d)
for_order w v n (Change from role.Secondary) c acts d = inr (tt, record { first = Ends n; rest = []; is = d; under = refl; plain = tt })
for_order w v n Drop Primary acts d = inr (tt, record { first = Ends n; rest = Releases v d.0 ∷ Goes v ∷ []; is = d.1; under = refl; plain = (refl, (refl, tt)) })
for_order w v n Drop Absent acts d = inl (one_plain acts (Goes v) d refl)
for_order w v n Drop Secondary acts d = inl (one_plain acts (Goes v) d refl)
for_order w v n Drop (Prepared a k) acts d = inl (one_plain acts (Goes v) d refl)
for_order w v n Drop (Forwarding a k) acts d = inl (one_plain acts (Goes v) d refl)

-- an event under a later number may happen, and no view and no end is above that number then
under_may : (w : Shard) (n : ℕ) (e : Event) → IsUnder n e → IsLater w n → MayHappenIfLater w e → MayHappen w e × ((left_by w e).view ≤ n) × ((left_by w e).ended ≤ n)
under_may w n (Changes s view answered) u l m =
    let a = l.1 in
    (m (subst (IsLater w) (sym u) l), omega arith, omega arith)
under_may w n (Succeeds s view former) u l m =
    let a = l.1 in
    (m (subst (IsLater w) (sym u) l), omega arith, omega arith)
under_may w n (Ends number) u l m =
    let a = l.0 in
    (m (subst (IsLater w) (sym u) l), omega arith, omega arith)
under_may w n (Executes write) u l m = absurd u
under_may w n (Copies s) u l m = absurd u
under_may w n (Follows s list) u l m = absurd u
under_may w n (Tells s) u l m = absurd u
under_may w n (Hears which) u l m = absurd u
under_may w n (Acknowledges list) u l m = absurd u
under_may w n (Joins s) u l m = absurd u
under_may w n (Leave s) u l m = absurd u
under_may w n (Goes s) u l m = absurd u
under_may w n (Stays s) u l m = absurd u
under_may w n (Loses s) u l m = absurd u
under_may w n (Hands s) u l m = absurd u
under_may w n (Restarts view) u l m = absurd u
under_may w n (Raises needed) u l m = absurd u
under_may w n (Lowers needed) u l m = absurd u
under_may w n (Removes gone needed) u l m = absurd u
under_may w n (Chooses choice) u l m = absurd u
under_may w n (Releases s others) u l m = absurd u
under_may w n (Takes s source) u l m = absurd u

-- all are allowed in turn, with no view and no end above a number
abbrev AreAllowed : Shard → ℕ → List Event → Type 0
AreAllowed w n acts = MayHappenInTurn w acts × ((all_left acts w).view ≤ n) × ((all_left acts w).ended ≤ n)

led_acts : (w : Shard) (n : ℕ) (acts : List Event) → IsLed n acts → IsLater w n → MayHappenInTurnIfLater w acts → AreAllowed w n acts
led_acts w n acts d l m =
    let k = subst (MayHappenInTurnIfLater w) d.is m in
    let a = under_may w n d.first d.under l k.0 in
    let b = plain_acts (left_by w d.first) d.rest d.plain k.1 in
    let view = a.1 in
    let ended = a.2 in
    let same_view = b.1.0 in
    let same_end = b.1.1 in
    subst (AreAllowed w n) (sym d.is) ((a.0, b.0), omega arith, omega arith)

plainly : (w : Shard) (n : ℕ) (acts : List Event) → w.view ≤ n → w.ended ≤ n → ArePlain acts → MayHappenInTurnIfLater w acts → AreAllowed w n acts
plainly w n acts view ended p m =
    let b = plain_acts w acts p m in
    let same_view = b.1.0 in
    let same_end = b.1.1 in
    (b.0, omega arith, omega arith)

-- ---- what holds all the time

-- Events lead to the fleet, and no view and no end is above the numbers of its orders.
pub record IsBelowNumbers (setup : Setup) (s : ℕ) (x : Joined) : Type 0 where
  pub fleet : IsFleetReached setup x.fleet
  pub top : ℕ
  pub view : x.shard.view ≤ top
  pub ended : x.shard.ended ≤ top
  pub behind : IsFleetBehind setup x.fleet s top

-- so it is of an order's shard
behind_here : (setup : Setup) (s : ℕ) (x : Joined) (k : IsBelowNumbers setup s x) (o : Order) → o.call.shard ≡ s → IsFleetBehind setup x.fleet o.call.shard k.top
behind_here setup s x k o own = subst (λ r. IsFleetBehind setup x.fleet r k.top) (sym own) k.behind

-- the number of an order for the lead is later
later : (setup : Setup) (s : ℕ) (x : Joined) → IsBelowNumbers setup s x → (e : FleetEvent) (o : Order) → CommitsOfLead x.fleet e o → o.call.shard ≡ s → IsLater x.shard o.number
later setup s x k e o h own =
    let l = lead_is_later setup x.fleet k.fleet e k.top o h (behind_here setup s x k o own) in
    let view = k.view in
    let ended = k.ended in
    (omega arith, omega arith)

module _ (setup : Setup) (s : ℕ) (x : Joined) (k : IsBelowNumbers setup s x) (e : FleetEvent) (fit : FleetFits setup x.fleet e) where
  abbrev new : Fleet
  new = (fleet_comes x.fleet e).1

  there : IsFleetReached setup new
  there = fleet_next setup x.fleet e k.fleet fit

  still : IsFleetBehind setup new s k.top
  still = behind_stays setup x.fleet k.fleet e fit there s k.top k.behind

  highest : (o : Order) → CommitsOfLead x.fleet e o → o.call.shard ≡ s → IsFleetBehind setup new s o.number
  highest o h own = subst (λ r. IsFleetBehind setup new r o.number) own (lead_is_highest setup x.fleet k.fleet e k.top o h (behind_here setup s x k o own))

  module _ (acts : List Event) (m : MayHappenInTurnIfLater x.shard acts) where
    abbrev IsKept : Type 0
    IsKept = MayHappenInTurn x.shard acts × IsBelowNumbers setup s (joined_comes x (OfFleet e acts))

    by_plain : ArePlain acts → IsKept
    by_plain p =
        let a = plainly x.shard k.top acts k.view k.ended p m in
        (a.0, record { fleet = there; top = k.top; view = a.1; ended = a.2; behind = still })

    by_order : (o : Order) → (fleet_comes x.fleet e).0 ≡ Committed o → (b : Bool) → (o.call.shard == s) ≡ b → ForShard b (ForOrder x.shard o.call.server o.number o.call.call (cell_at x.fleet s o.call.server) acts) acts → IsKept
    by_order o q false t d = by_plain (none_plain acts d)
    by_order o q true t d =
        let own : o.call.shard ≡ s = eqb-true o.call.shard s t in
        elim (for_order x.shard o.call.server o.number o.call.call (cell_at x.fleet s o.call.server) acts d) [
          | inl p ↦ by_plain p
          | inr l ↦
              let h : CommitsOfLead x.fleet e o = record { commits = q; lead = subst (λ r. IsOfLead o.call.call (cell_at x.fleet r o.call.server)) (sym own) l.0 } in
              let a = led_acts x.shard o.number acts l.1 (later setup s x k e o h own) m in
              (a.0, record { fleet = there; top = o.number; view = a.1; ended = a.2; behind = highest o h own })
        ]

    by_request : (r v : ℕ) (b : Bool) → ForShard b (ForRequest x.shard v (cell_at x.fleet s v) acts × HasCopy (all_left acts x.shard) v) acts → IsKept
    by_request r v false d = by_plain (none_plain acts d)
    by_request r v true d = by_plain (plain_request x.shard v (cell_at x.fleet s v) acts d.0)

    by_outcome : (o : FleetOutcome) → (fleet_comes x.fleet e).0 ≡ o → IsAskedFor s x acts o → IsKept
    by_outcome (Committed o) q d = by_order o q (o.call.shard == s) refl d
    by_outcome (Routed r v routing.Execute) q d = by_request r v (r == s) d
    by_outcome (Routed r v (routing.PassOn to handover cut)) q d = by_plain (none_plain acts d)
    by_outcome (Routed r v routing.NotHere) q d = by_plain (none_plain acts d)
    by_outcome (Routed r v routing.NotYet) q d = by_plain (none_plain acts d)
    by_outcome (Judged l v) q d = by_plain (none_plain acts d)
    by_outcome Silent q d = by_plain (none_plain acts d)

-- the duties are kept at an event, and so it is after it
kept_next : (setup : Setup) (s : ℕ) (x : Joined) (j : JoinedEvent) → IsBelowNumbers setup s x → AllFleetFit setup x.fleet (fleet_events (j ∷ [])) → KeepsDutiesIfLater s x j
    → KeepsDuties s x j × IsBelowNumbers setup s (joined_comes x j)
kept_next setup s x (OfFleet e acts) k fit d =
    let z = by_outcome setup s x k e fit.0 acts d.1 (fleet_comes x.fleet e).0 refl d.0 in
    ((d.0, z.0), z.1)
kept_next setup s x (OfData event) k fit d =
    let same = plain_same x.shard event (plain_itself event d.0) in
    let view = k.view in
    let ended = k.ended in
    let same_view = same.0 in
    let same_end = same.1 in
    (d, record { fleet = k.fleet; top = k.top; view = omega arith; ended = omega arith; behind = k.behind })

-- so they are along a list of events
kept_run : (setup : Setup) (s : ℕ) (js : List JoinedEvent) (x : Joined) → IsBelowNumbers setup s x → AllFleetFit setup x.fleet (fleet_events js) → KeepDutiesIfLater s x js
    → KeepDuties s x js × IsBelowNumbers setup s (joined_run js x)
kept_run setup s [] x k fit d = (tt, k)
kept_run setup s (OfFleet e acts ∷ js) x k fit d =
    let a = kept_next setup s x (OfFleet e acts) k (fit.0, tt) d.0 in
    let b = kept_run setup s js (joined_comes x (OfFleet e acts)) a.1 fit.1 d.1 in
    ((a.0, b.0), b.1)
kept_run setup s (OfData event ∷ js) x k fit d =
    let a = kept_next setup s x (OfData event) k tt d.0 in
    let b = kept_run setup s js (joined_comes x (OfData event)) a.1 fit d.1 in
    ((a.0, b.0), b.1)

-- at an opening no order has come yet
opens_below : (setup : Setup) (s : ℕ) (x : Joined) → IsJoinedOpening setup s x → IsAboveViews x → IsBelowNumbers setup s x
opens_below setup s x o a = record {
  fleet = reached_opening setup x.fleet o.fleet;
  top = x.fleet.start.base;
  view = a.view;
  ended = a.ended;
  behind = behind_opening setup x.fleet s o.fleet;
}

-- ---- the laws

-- the number of an order for the lead that is committed is a later one
pub numbers_later : NumbersAreLater
numbers_later setup s x js e o opening above fit kept h own =
    later setup s (joined_run js x) (kept_run setup s js x (opens_below setup s x opening above) fit kept).1 e o h own

-- who keeps all rules but that on numbers keeps that, too
pub duties_suffice : DutiesSuffice
duties_suffice setup s x js opening above fit kept = (kept_run setup s js x (opens_below setup s x opening above) fit kept).0

-- so it is over reopenings
rules_from : (es : List EpochEvent) (x : Epoch) → IsBelowNumbers x.setup x.number x.joined → KeepRulesIfLater x es → KeepRules x es
rules_from [] x k d = tt
rules_from (Within j ∷ es) x k d =
    let a = kept_next x.setup x.number x.joined j k d.0.0 d.0.1 in
    ((d.0.0, a.0), rules_from es (epoch_comes x (Within j)) a.1 d.1)
rules_from (Anew setup number fleet acts ∷ es) x k d =
    ((d.0.0, d.0.1, d.0.2), rules_from es (epoch_comes x (Anew setup number fleet acts)) (opens_below setup number (opened_anew x.joined fleet acts) d.0.2 d.0.3) d.1)

-- who keeps all rules but that on numbers keeps that over reopenings, too
pub rules_suffice : RulesSuffice
rules_suffice x es opening above d = rules_from es x (opens_below x.setup x.number x.joined opening above) d

-- and where a reopening settles the shard
settled_from : LeadsWhereLed → EnoughHaveThem → (es : List EpochEvent) (x : Epoch) → IsJoint x.setup x.number x.joined → IsBelowNumbers x.setup x.number x.joined → KeepSettledIfLater x es → KeepSettled x es
settled_from led have [] x j k d = tt
settled_from led have (Within event ∷ es) x j k d =
    let a = kept_next x.setup x.number x.joined event k d.0.0 d.0.1 in
    let there = joint_run led x.setup x.number x.joined (event ∷ []) j d.0.0 (a.0, tt) in
    ((d.0.0, a.0), settled_from led have es (epoch_comes x (Within event)) there a.1 d.1)
settled_from led have (Anew setup number fleet acts ∷ es) x j k d =
    let h = keeps_rules x setup number fleet acts j d.0.0 have in
    let next = opened_anew x.joined fleet acts in
    (d.0.0, settled_from led have es (epoch_comes x (Anew setup number fleet acts)) (joint_opening setup number next h.2) (opens_below setup number next h.2 d.0.1) d.1)

-- and over those that settle the shard
pub settled_suffices : LeadsWhereLed → EnoughHaveThem → SettledSuffices
settled_suffices led have x es opening above d =
    settled_from led have es x (joint_opening x.setup x.number x.joined opening) (opens_below x.setup x.number x.joined opening above) d
