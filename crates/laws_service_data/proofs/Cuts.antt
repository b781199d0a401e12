-- From the cut of an old owner on its list stays, as long as it leads.
use Rattle.std.proofs.Common.{◌≡◌, ◌≢◌, ◌⊎◌, ℕ, refl, sym, ap, ◌∙◌, inl, inr, subst, Bool, true, false, List, [], ◌∷◌, Option, Some, None, ◌≤◌, length, arith}
use Rattle.std.specs.Prelude.{◌==◌, slice_get}
use Rattle.std.proofs.lemmas.Bool.{cases_eq, eqb-true}
use Rattle.sm_server.specs.declared.call.Cell.{Cell}
use Rattle.sm_server.specs.declared.call.Cell.TheVariants.{Absent, Prepared, Secondary, Primary, Forwarding}
use Rattle.sm_server.specs.declared.call.Role.TheVariants as role
use Rattle.sm_server.specs.declared.call.Call.{Call}
use Rattle.sm_server.specs.declared.call.Call.TheVariants.{Add, Change, Drop, PrepareAdd, PrepareDrop}
use Rattle.sm_server.specs.Call.{Leads, LeadsWhereLed, led_to}
use Rattle.sm_placement.specs.Setup.{Setup}
use Rattle.sm_agent.specs.declared.request.Routing.TheVariants as routing
use Rattle.laws_network.specs.Net.{Order}
use Rattle.laws_network.specs.Fleet.{Committed, FleetEvent, FleetOutcome, Judged, Routed, Silent, fleet_comes, held_cells}
use Rattle.laws_network.proofs.FleetSafety.{executes_at_one_server}
use Rattle.laws_data.specs.Shard.{Acknowledges, Changes, Chooses, Copies, Ends, Event, Executes, Follows, Goes, Hands, Hears, Joins, Leave, Loses, Lowers, MayHappen, MayHappenInTurn, Raises, Releases, Removes, Restarts, Shard, Stays, Succeeds, Takes, Tells, Word, all_left, left_by, with_heard}
use Rattle.sm_placement.specs.Sums.{put}
use Rattle.sm_placement.proofs.Sums.{put-apart, put-here}
use Rattle.sm_copies.specs.Lists.{ListEntry, begins}
use Rattle.sm_copies.proofs.Lists.{begins-length, begins-whole}
use Rattle.laws_network.specs.FleetLaws.{AllFleetFit}
use Rattle.laws_service_data.specs.Joined.{Joined, JoinedEvent, OfData, OfFleet, fleet_events, joined_comes, joined_run}
use Rattle.laws_service_data.specs.Duties.{ForOrder, ForRequest, ForShard, HasCopy, IsAskedFor, IsLeading, KeepDuties, KeepsDuties, TakesOver, cell_at, has_cause}
use Rattle.laws_service_data.specs.Laws.{CutEndsWrites, ForwardsAlong, ReachedCutHasAll}
use Rattle.laws_service_data.proofs.Held.{Commits, IsHeldChange, MovesHeld, Stays as StaysAll, moves_held}
use Rattle.laws_service_data.proofs.Leading.{becomes_primary}
use Rattle.laws_service_data.proofs.Rows.{AsNewOwner, AsPrimary, IsServingAs, serving_as}
use Rattle.laws_service_data.proofs.Runs.{IsJoint, executing, joint, joint_data, joint_next, known_cell}

-- the list of the view stays
abbrev IsSameList : Shard → Shard → Type 0
IsSameList w new = (new.view ≡ w.view) × (new.lists w.view ≡ w.lists w.view)

heard_same : (w : Shard) (o : Option Word) → IsSameList w (with_heard w o)
heard_same w None = (refl, refl)
heard_same w (Some word) = (refl, refl)

-- what servers do by themselves leaves the list
own_same : (w : Shard) (e : Event) → has_cause e ≡ false → IsSameList w (left_by w e)
own_same w (Copies s) c = (refl, refl)
own_same w (Follows s list) c = (refl, refl)
own_same w (Tells s) c = (refl, refl)
own_same w (Hears which) c = heard_same w (slice_get w.words which)
own_same w (Acknowledges list) c = (refl, refl)
own_same w (Leave s) c = (refl, refl)
own_same w (Stays s) c = (refl, refl)
own_same w (Loses s) c = (refl, refl)
own_same w (Raises needed) c = (refl, refl)
own_same w (Lowers needed) c = (refl, refl)
own_same w (Releases s others) c = (refl, refl)
own_same w (Takes s source) c = (refl, refl)
own_same w (Executes write) c = absurd (cc)
own_same w (Joins s) c = absurd (cc)
own_same w (Goes s) c = absurd (cc)
own_same w (Hands s) c = absurd (cc)
own_same w (Removes gone needed) c = absurd (cc)
own_same w (Changes s view answered) c = absurd (cc)
own_same w (Chooses choice) c = absurd (cc)
own_same w (Ends number) c = absurd (cc)
own_same w (Restarts view) c = absurd (cc)
own_same w (Succeeds s view former) c = absurd (cc)

-- Something that holds of the data after each order that makes no secondary primary.
record IsKeptBy (w : Shard) (P : Shard → Type 0) : Type 0 where
  pub nothing : P w
  pub joins : (v : ℕ) → P (left_by w (Joins v))
  pub hands : (v : ℕ) → P (left_by w (Hands v))
  pub ends : (n : ℕ) → P (left_by w (Ends n))
  pub goes : (v : ℕ) → P (left_by w (Goes v))
  pub goes_as_primary : (v n : ℕ) (others : ℕ → Bool) → P (all_left (Ends n ∷ Releases v others ∷ Goes v ∷ []) w)

by_acts : (w : Shard) (P : Shard → Type 0) (acts these : List Event) → acts ≡ these → P (all_left these w) → P (all_left acts w)
by_acts w P acts these e h = subst (λ (d : List Event). P (all_left d w)) (sym e) h

-- an order leaves it so, unless by it a secondary becomes primary
order_keeps : (w : Shard) (P : Shard → Type 0) → IsKeptBy w P → (v n : ℕ) (call : Call) (cell next : Cell) (acts : List Event) → Leads call cell next → ForOrder w v n call cell acts → MayHappenInTurn w acts
    → (IsLeading (all_left acts w) v → cell ≡ Secondary → ⊥) → P (all_left acts w)
order_keeps w P h v n (PrepareAdd a k) cell next acts led d m never = by_acts w P acts (Joins v ∷ []) d (h.joins v)
order_keeps w P h v n (PrepareDrop a k) cell next acts led d m never = by_acts w P acts [] d h.nothing
order_keeps w P h v n (Add role.Primary) cell next acts (inl q) d m never = absurd (subst (λ x. ForOrder w v n (Add role.Primary) x acts) q.0 d)
order_keeps w P h v n (Add role.Primary) cell next acts (inr q) d m never = takes (subst (λ x. ForOrder w v n (Add role.Primary) x acts) q.0.2 d)
  where
    takes : TakesOver w v acts → P (all_left acts w)
    takes (inl e) = by_acts w P acts (Hands v ∷ []) e (h.hands v)
    takes (inr e) = by_acts w P acts [] e.0 h.nothing
order_keeps w P h v n (Add role.Secondary) cell next acts led d m never = by_acts w P acts (Joins v ∷ []) d (h.joins v)
order_keeps w P h v n (Change role.Primary role.Primary) cell next acts led d m never = absurd (led.0 refl)
order_keeps w P h v n (Change role.Secondary role.Primary) cell next acts led d m never = absurd (never (becomes_primary w v n acts d m) led.1)
order_keeps w P h v n (Change from role.Secondary) cell next acts led d m never = by_acts w P acts (Ends n ∷ []) d (h.ends n)
order_keeps w P h v n Drop Primary next acts led d m never = by_acts w P acts (Ends n ∷ Releases v d.0 ∷ Goes v ∷ []) d.1 (h.goes_as_primary v n d.0)
order_keeps w P h v n Drop Absent next acts led d m never = by_acts w P acts (Goes v ∷ []) d (h.goes v)
order_keeps w P h v n Drop Secondary next acts led d m never = by_acts w P acts (Goes v ∷ []) d (h.goes v)
order_keeps w P h v n Drop (Prepared a k) next acts led d m never = by_acts w P acts (Goes v ∷ []) d (h.goes v)
order_keeps w P h v n Drop (Forwarding a k) next acts led d m never = by_acts w P acts (Goes v ∷ []) d (h.goes v)

module _ (led : LeadsWhereLed) (setup : Setup) (s u to number : ℕ) (x : Joined) (k : IsJoint setup s x) (e : FleetEvent) (acts : List Event) (kept : KeepsDuties s x (OfFleet e acts))
    (forwards : held_cells x.fleet s u ≡ Forwarding to number) (leads : IsLeading (all_left acts x.shard) u) (P : Shard → Type 0) (h : IsKeptBy x.shard P) where
  abbrev Same : Type 0
  Same = P (all_left acts x.shard)

  -- who executes a request would lead, too
  not_executing : (v : ℕ) → (fleet_comes x.fleet e).0 ≡ Routed s v routing.Execute → ⊥
  not_executing v q = by_serving (serving_as (held_cells x.fleet s) v (executes_at_one_server setup x.fleet k.fleet e s v q).1)
    where
      same : v ≡ u
      same = sym (executing setup s x k e acts kept v q).0.0 ∙ leads.0

      here : held_cells x.fleet s v ≡ Forwarding to number
      here = ap (held_cells x.fleet s) same ∙ forwards

      by_serving : IsServingAs (held_cells x.fleet s) v → ⊥
      by_serving (AsPrimary h) = absurd (let z : Primary ≡ Forwarding to number = sym h ∙ here in cc)
      by_serving (AsNewOwner a n h f) = absurd (let z : Prepared a n ≡ Forwarding to number = sym h ∙ here in cc)

  nothing : acts ≡ [] → Same
  nothing d = by_acts x.shard P acts [] d h.nothing

  not_committed : (o : FleetOutcome) → (fleet_comes x.fleet e).0 ≡ o → ((p : Order) → o ≢ Committed p) → IsAskedFor s x acts o → Same
  not_committed (Committed p) q none a = absurd (none p refl)
  not_committed (Judged l v) q none a = nothing a
  not_committed Silent q none a = nothing a
  not_committed (Routed r v (routing.PassOn b n cut)) q none a = nothing a
  not_committed (Routed r v routing.NotHere) q none a = nothing a
  not_committed (Routed r v routing.NotYet) q none a = nothing a
  not_committed (Routed r v routing.Execute) q none a = by_shard (r == s) refl a
    where
      by_shard : (b : Bool) → (r == s) ≡ b → ForShard b (ForRequest x.shard v (cell_at x.fleet s v) acts × HasCopy (all_left acts x.shard) v) acts → Same
      by_shard false t d = nothing d
      by_shard true t d = absurd (not_executing v (q ∙ ap (λ z. Routed z v routing.Execute) (eqb-true r s t)))

  committed : (o : Order) → (fleet_comes x.fleet e).0 ≡ Committed o → IsHeldChange x.fleet (fleet_comes x.fleet e).1 o → Same
  committed o q c = by_shard (o.call.shard == s) refl (subst (IsAskedFor s x acts) q kept.0)
    where
      by_shard : (b : Bool) → (o.call.shard == s) ≡ b → ForShard b (ForOrder x.shard o.call.server o.number o.call.call (cell_at x.fleet s o.call.server) acts) acts → Same
      by_shard false t d = nothing d
      by_shard true t d =
          let own : o.call.shard ≡ s = eqb-true o.call.shard s t in
          order_keeps x.shard P h o.call.server o.number o.call.call (cell_at x.fleet s o.call.server) c.next acts
          ((led o.call.call (cell_at x.fleet s o.call.server) c.next).0 (ap (led_to o.call.call) (sym (known_cell x.fleet s o.call.server c.known)) ∙ (ap (λ r. led_to o.call.call (held_cells x.fleet r o.call.server)) (sym own) ∙ c.led)))
          d kept.1
          (λ l q.
          let same : o.call.server ≡ u = sym l.0 ∙ leads.0 in
          absurd (let z : Secondary ≡ Forwarding to number = sym q ∙ (sym (known_cell x.fleet s o.call.server c.known) ∙ (ap (held_cells x.fleet s) same ∙ forwards)) in cc))

  -- what is kept is kept by each event
  keeps : Same
  keeps = go (moves_held setup x.fleet k.fleet e)
    where
      go : MovesHeld x.fleet (fleet_comes x.fleet e) → Same
      go (StaysAll none same) = not_committed (fleet_comes x.fleet e).0 refl none kept.0
      go (Commits o q c) = committed o q c

-- the list stays
pub cut_ends_writes : LeadsWhereLed → CutEndsWrites
cut_ends_writes led setup s u to number x (OfData event) r kept forwards leads = own_same x.shard event kept.0
cut_ends_writes led setup s u to number x (OfFleet e acts) r kept forwards leads =
    keeps led setup s u to number x (joint led setup s x r) e acts kept forwards leads (IsSameList x.shard) (record {
      nothing = (refl, refl);
      joins = λ v. (refl, refl);
      hands = λ v. (refl, refl);
      ends = λ n. (refl, refl);
      goes = λ v. (refl, refl);
      goes_as_primary = λ v n others. (refl, refl);
    })

-- ---- what the old owner has it had

-- the copy that a server has it had before
abbrev HadIt : ℕ → Shard → Shard → Type 0
HadIt u w new = (copy : List ListEntry) → new.copies u ≡ Some copy → w.copies u ≡ Some copy

-- what a function has at a place after it was changed at one
put_cases : {A : Type 0} (f : ℕ → A) (k : ℕ) (x : A) (s : ℕ) (y : A) → put f k x s ≡ y → ((s ≡ k) × (x ≡ y)) ⊎ ((s ≢ k) × (f s ≡ y))
put_cases f k x s y h = elim (cases_eq s k) [
  | inl e ↦ inl (e, sym (put-here f k x s e) ∙ h)
  | inr d ↦ inr (d, sym (put-apart f k x s d) ∙ h)
]

-- a copy that was deleted is not there
not_deleted : (copies : ℕ → Option (List ListEntry)) (s u : ℕ) (copy : List ListEntry) → put copies s None u ≡ Some copy → copies u ≡ Some copy
not_deleted copies s u copy e = elim (put_cases copies s None u (Some copy) e) [
  | inl p ↦ absurd (let z : ◌≡◌ {A = Option (List ListEntry)} None (Some copy) = p.1 in cc)
  | inr p ↦ p.1
]

heard_had : (w : Shard) (u : ℕ) (o : Option Word) → HadIt u w (with_heard w o)
heard_had w u None = λ copy e. e
heard_had w u (Some word) = λ copy e. e

-- a primary that follows itself has what it had
follows_itself : (w : Shard) (u s : ℕ) (list : List ListEntry) → MayHappen w (Follows s list) → IsLeading w u → HadIt u w (left_by w (Follows s list))
follows_itself w u s list a l copy e = elim (put_cases w.copies s (Some list) u (Some copy) e) [
  | inl p ↦
      let same : list ≡ copy = (let z : Some list ≡ Some copy = p.1 in cc) in
      let source : w.copies u ≡ Some a.1 = ap w.copies (sym l.0) ∙ a.3 in
      let own : a.0 ≡ a.1 = (let z : Some a.0 ≡ Some a.1 = sym a.2 ∙ (ap w.copies (sym p.0) ∙ source) in cc) in
      let short : length list ≤ length a.1 = begins-length list a.1 a.5 in
      let long : length a.1 ≤ length list = subst (λ (c : List ListEntry). length c ≤ length list) own a.6 in
      let whole : list ≡ a.1 = begins-whole list a.1 a.5 (omega arith) in
      source ∙ ap (λ (c : List ListEntry). let z : Option (List ListEntry) = Some c in z) (sym whole ∙ same)
  | inr p ↦ p.1
]

-- so has one that makes its copy anew
copies_itself : (w : Shard) (u s : ℕ) → IsLeading w u → HadIt u w (left_by w (Copies s))
copies_itself w u s l copy e = elim (put_cases w.copies s (w.copies w.primary) u (Some copy) e) [
  | inl p ↦ ap w.copies (sym l.0) ∙ p.1
  | inr p ↦ p.1
]

own_had : (w : Shard) (u : ℕ) (e : Event) → has_cause e ≡ false → MayHappen w e → IsLeading w u → HadIt u w (left_by w e)
own_had w u (Copies s) c a l = copies_itself w u s l
own_had w u (Follows s list) c a l = follows_itself w u s list a l
own_had w u (Tells s) c a l = λ copy e. e
own_had w u (Hears which) c a l = heard_had w u (slice_get w.words which)
own_had w u (Acknowledges list) c a l = λ copy e. e
own_had w u (Leave s) c a l = λ copy e. e
own_had w u (Stays s) c a l = λ copy e. e
own_had w u (Loses s) c a l = λ copy e. not_deleted w.copies s u copy e
own_had w u (Raises needed) c a l = λ copy e. e
own_had w u (Lowers needed) c a l = λ copy e. e
own_had w u (Releases s others) c a l = λ copy e. e
own_had w u (Takes s source) c a l = absurd (let b = a.3 in let d = l.1 in omega arith)
own_had w u (Executes write) c a l = absurd (cc)
own_had w u (Joins s) c a l = absurd (cc)
own_had w u (Goes s) c a l = absurd (cc)
own_had w u (Hands s) c a l = absurd (cc)
own_had w u (Removes gone needed) c a l = absurd (cc)
own_had w u (Changes s view answered) c a l = absurd (cc)
own_had w u (Chooses choice) c a l = absurd (cc)
own_had w u (Ends number) c a l = absurd (cc)
own_had w u (Restarts view) c a l = absurd (cc)
own_had w u (Succeeds s view former) c a l = absurd (cc)

-- whoever leads all along leads first
leads_first : (s u : ℕ) (x : Joined) (js : List JoinedEvent) → ForwardsAlong s u x js → IsLeading x.shard u
leads_first s u x [] along = along
leads_first s u x (j ∷ js) along = along.3

-- an event leaves it what it had, or nothing
had_before : LeadsWhereLed → (setup : Setup) (s u to number : ℕ) (x : Joined) (j : JoinedEvent) → IsJoint setup s x → KeepsDuties s x j → held_cells x.fleet s u ≡ Forwarding to number
    → IsLeading x.shard u → IsLeading (joined_comes x j).shard u → HadIt u x.shard (joined_comes x j).shard
had_before led setup s u to number x (OfData event) k kept forwards l leads = own_had x.shard u event kept.0 kept.1 l
had_before led setup s u to number x (OfFleet e acts) k kept forwards l leads =
    keeps led setup s u to number x k e acts kept forwards leads (HadIt u x.shard) (record {
      nothing = λ copy q. q;
      joins = λ v copy q. q;
      hands = λ v copy q. q;
      ends = λ n copy q. q;
      goes = λ v copy q. not_deleted x.shard.copies v u copy q;
      goes_as_primary = λ v n others copy q. not_deleted x.shard.copies v u copy q;
    })

had_all_along : LeadsWhereLed → (setup : Setup) (s u : ℕ) (x : Joined) (js : List JoinedEvent) → IsJoint setup s x → AllFleetFit setup x.fleet (fleet_events js) → KeepDuties s x js → ForwardsAlong s u x js
    → HadIt u x.shard (joined_run js x).shard × IsLeading (joined_run js x).shard u
had_all_along led setup s u x [] k fit kept along = (λ copy q. q, along)
had_all_along led setup s u x (OfFleet e acts ∷ js) k fit kept along =
    let rest = had_all_along led setup s u (joined_comes x (OfFleet e acts)) js (joint_next led setup s x k e acts fit.0 kept.0) fit.1 kept.1 along.4 in
    (λ copy q. had_before led setup s u along.0 along.1 x (OfFleet e acts) k kept.0 along.2 along.3 (leads_first s u (joined_comes x (OfFleet e acts)) js along.4) copy (rest.0 copy q), rest.1)
had_all_along led setup s u x (OfData event ∷ js) k fit kept along =
    let rest = had_all_along led setup s u (joined_comes x (OfData event)) js (joint_data setup s x event k kept.0) fit kept.1 along.4 in
    (λ copy q. had_before led setup s u along.0 along.1 x (OfData event) k kept.0 along.2 along.3 (leads_first s u (joined_comes x (OfData event)) js along.4) copy (rest.0 copy q), rest.1)

-- whoever has reached the cut may take over
pub reached_cut : LeadsWhereLed → (setup : Setup) (s u v : ℕ) (x : Joined) (js : List JoinedEvent) (list source copy : List ListEntry) → IsJoint setup s x → AllFleetFit setup x.fleet (fleet_events js) → KeepDuties s x js
    → ForwardsAlong s u x js → x.shard.copies u ≡ Some list → (joined_run js x).shard.copies u ≡ Some source → (joined_run js x).shard.copies v ≡ Some copy → begins copy source ≡ true → length list ≤ length copy
    → MayHappen (joined_run js x).shard (Hands v)
reached_cut led setup s u v x js list source copy k fit kept along at_cut there here begun long =
    let h = had_all_along led setup s u x js k fit kept along in
    let same : list ≡ source = (let z : Some list ≡ Some source = sym at_cut ∙ h.0 source there in cc) in
    let short : length copy ≤ length source = begins-length copy source begun in
    let reached : length source ≤ length copy = subst (λ (c : List ListEntry). length c ≤ length copy) same long in
    let whole : copy ≡ source = begins-whole copy source begun (omega arith) in
    (source, ap (joined_run js x).shard.copies h.1.0 ∙ there, here ∙ ap (λ (c : List ListEntry). let z : Option (List ListEntry) = Some c in z) whole, h.1.1)

-- so it may wherever events lead
pub reached_cut_has_all : LeadsWhereLed → ReachedCutHasAll
reached_cut_has_all led setup s u v x js list source copy r fit kept along at_cut there here begun long =
    reached_cut led setup s u v x js list source copy (joint led setup s x r) fit kept along at_cut there here begun long
