-- Where a fleet opens on what was settled, whoever serves the shard leads its data.
use Rattle.std.proofs.Common.{◌≡◌, ℕ, arith, inl, inr, refl, sym, ap, ◌∙◌, subst, true, false, List, [], ◌∷◌}
use Rattle.std.specs.List.{AllByRecursion}
use Rattle.std.proofs.Math.Path.{fun_ext}
use Rattle.std.proofs.lemmas.Bool.{cases_lt, false≢true}
use Rattle.sm_server.specs.declared.call.Cell.{Cell}
use Rattle.sm_server.specs.declared.call.Cell.TheVariants.{Primary}
use Rattle.sm_server.specs.Call.{LeadsWhereLed}
use Rattle.sm_placement.specs.Setup.{Setup, sizes_of}
use Rattle.sm_placement.specs.Place.{Place}
use Rattle.sm_placement.specs.Rows.{serves, serves_as}
use Rattle.sm_placement.specs.SafePlace.{IsServing}
use Rattle.sm_placement.specs.Lead.{Describes, IsPlain, is_at_rest}
use Rattle.sm_placement.specs.declared.lead.Lead.{Lead}
use Rattle.sm_placement.specs.declared.lead.Lead.TheVariants.{Gone, At, Ready, Handing, Handed}
use Rattle.sm_placement.proofs.Leads.{one_serves}
use Rattle.sm_protocol.specs.Laws.{IsOpening}
use Rattle.laws_network.specs.Fleet.{Fleet, held_cells}
use Rattle.laws_network.specs.FleetLaws.{IsFleetOpening, IsFleetReached, held_place}
use Rattle.laws_network.specs.Reopening.{Settlement}
use Rattle.laws_network.specs.ReopeningLaws.{IsKnownAs, Keeps, MaySettle}
use Rattle.laws_network.proofs.FleetSafety.{fleet_is_safe}
use Rattle.sm_reopening.specs.declared.ongoing.OngoingReopening.{OngoingReopening}
use Rattle.sm_reopening.specs.Ongoing.{net_reopening, past_state}
use Rattle.laws_data.specs.Laws.{AcknowledgedWritesStay, EnoughHaveThem}
use Rattle.laws_data.specs.Shard.{Event, MayHappenInTurn, Shard, all_left, names}
use Rattle.laws_service_data.specs.Duties.{IsLeading}
use Rattle.laws_service_data.specs.Laws.{LeadsOrWaits}
use Rattle.laws_service_data.specs.Epochs.{Anew, Epoch, EpochEvent, KeepRules, KeepsRules, Within, epoch_comes, opened_anew}
use Rattle.laws_service_data.specs.Reopened.{ChoosesPrimary, ExecutesAsSettled, FollowsSettlement, IsReopened, KeepSettled, KeepsPrimary, SettledLeads, StaysWithout, SucceedsFormer}
use Rattle.laws_service_data.proofs.Choosing.{may_choose, may_succeed}
use Rattle.laws_service_data.proofs.Epochs.{executes_over_reopenings}
use Rattle.laws_service_data.proofs.Rows.{AsNewOwner, AsPrimary, IsServingAs, primary_serves, serving_as}
use Rattle.laws_service_data.proofs.Runs.{IsJoint, data_on, joint, joint_opening, joint_run}

-- ---- who serves in a fleet that opens

-- where no handover is under way, who serves is the primary
serves_at_rest : (lead : Lead) (row : ℕ → Cell) → is_at_rest lead ≡ true → Describes lead 0 row → (v : ℕ) → serves row v ≡ true → row v ≡ Primary
serves_at_rest Gone row r d v s = by_serving (serving_as row v s)
  where
    by_serving : IsServingAs row v → row v ≡ Primary
    by_serving (AsPrimary h) = h
    by_serving (AsNewOwner a n h f) = absurd (subst IsPlain h (d v))
serves_at_rest (At u) row r d v s = ap row (one_serves (At u) 0 row d v u s (primary_serves row u d.0)) ∙ d.0
serves_at_rest (Ready u w) row r d v s = absurd (cc)
serves_at_rest (Handing u w) row r d v s = absurd (cc)
serves_at_rest (Handed u w) row r d v s = absurd (cc)

-- so it is on a settled placement
serves_settled : (setup : Setup) (p : Place) (room : ℕ) → IsOpening setup p room → (k v : ℕ) → serves (p.cells k) v ≡ true → p.cells k v ≡ Primary
serves_settled setup p room o k v s = elim (cases_lt k (sizes_of setup).shards) [
  | inl l ↦ let d = o.settled.leads k l in serves_at_rest d.0 (p.cells k) d.1 d.2 v s
  | inr l ↦ absurd (false≢true (sym (ap (serves_as (p.cells k) v) (o.placement.no_shard k v l)) ∙ s))
]

module _ (setup : Setup) (number k : ℕ) (f : Fleet) (st : Settlement) (opening : IsFleetOpening setup f) (cells : (v : ℕ) → held_cells f number v ≡ st.place.cells k v) where
  reached : IsFleetReached setup f
  reached = record { first = f; opening = opening; events = []; fit = tt; state = refl }

  -- who serves is the one that is settled as the primary
  serves_alone : (u v : ℕ) → st.place.cells k u ≡ Primary → IsServing (held_place f) number v → u ≡ v
  serves_alone u v primary h = (fleet_is_safe setup f reached).held.serving number u v (primary_serves (held_cells f number) u (cells u ∙ primary)) h

  -- who serves is settled as the primary
  serves_primary : IsOpening st.setup st.place st.room → (v : ℕ) → IsServing (held_place f) number v → st.place.cells k v ≡ Primary
  serves_primary o v h = serves_settled st.setup st.place st.room o k v (subst (λ (row : ℕ → Cell). serves row v ≡ true) (fun_ext cells) h)

-- a primary stays
primary_stays : (r : OngoingReopening) (st : Settlement) → MaySettle (net_reopening r) (past_state r) st → (k u : ℕ) → IsKnownAs (net_reopening r) (past_state r) k u Primary → st.place.cells k u ≡ Primary
primary_stays r st m k u (inl t) = subst (λ c. Keeps c (st.place.cells k u)) t.3 (m.kept k u t.0 t.1 t.2)
primary_stays r st m k u (inr c) = m.carried k u c.0 ∙ c.1

-- ---- what is done with the data

abbrev AreUnnamed : List Event → Type 0
AreUnnamed = AllByRecursion (λ e. names e ≡ false)

-- Whatever is settled keeps the rules: what is done is allowed, names nothing, and leaves whoever serves leading.
record IsRight (x : Epoch) (number : ℕ) (f : Fleet) (acts : List Event) : Type 0 where
  pub may : MayHappenInTurn x.joined.shard acts
  pub unnamed : AreUnnamed acts
  pub leading : (v : ℕ) → IsServing (held_place f) number v → IsLeading (all_left acts x.joined.shard) v

module _ (x : Epoch) (setup : Setup) (number : ℕ) (f : Fleet) (acts : List Event) (k : IsJoint x.setup x.number x.joined) (h : IsReopened x setup number f acts) where
  abbrev w : Shard
  w = x.joined.shard

  abbrev place : Place
  place = h.settlement.place

  -- the primary that is left leads, as before
  keeps : KeepsPrimary h.reopening x.number w acts → IsRight x number f acts
  keeps c = subst (IsRight x number f) (sym c.is) (record {
    may = (c.may, tt);
    unnamed = (refl, tt);
    leading = λ v s. subst (IsLeading w) (serves_alone setup number x.number f h.settlement h.opening h.cells c.primary v (primary_stays h.reopening h.settlement h.may.allowed x.number c.primary c.left) s) led;
  })
    where
      held : held_cells x.joined.fleet x.number c.primary ≡ Primary
      held = h.knows c.primary Primary c.left

      led : IsLeading w c.primary
      led = subst (LeadsOrWaits w c.primary) held (k.leads c.primary (primary_serves (held_cells x.joined.fleet x.number) c.primary held))

  -- the primary that is chosen leads
  chooses : EnoughHaveThem → ChoosesPrimary h.reopening place x.number w acts → IsRight x number f acts
  chooses have c = subst (IsRight x number f) (sym c.is) (record {
    may = (may_choose have h.reopening h.settlement x.number w acts k.shard h.may c, tt);
    unnamed = (refl, tt);
    leading = λ v s. (serves_alone setup number x.number f h.settlement h.opening h.cells c.primary v c.settled s, let l = c.later.1 in omega arith);
  })

  -- the one that succeeds the former primary leads
  succeeds : SucceedsFormer h.reopening place x.number w acts → IsRight x number f acts
  succeeds c = subst (IsRight x number f) (sym c.is) (record {
    may = (may_succeed h.reopening h.settlement x.number w acts h.may c, tt);
    unnamed = (refl, tt);
    leading = λ v s. (serves_alone setup number x.number f h.settlement h.opening h.cells c.primary v c.settled s, let l = c.later.1 in omega arith);
  })

  -- without a primary nobody serves
  without : StaysWithout place x.number acts → IsRight x number f acts
  without c = subst (IsRight x number f) (sym c.1) (record {
    may = tt;
    unnamed = tt;
    leading = λ v s. absurd (c.0 v (serves_primary setup number x.number f h.settlement h.opening h.cells h.may.allowed.opening v s));
  })

  is_right : EnoughHaveThem → FollowsSettlement h.reopening place x.number w acts → IsRight x number f acts
  is_right have (inl c) = keeps c
  is_right have (inr (inl c)) = chooses have c
  is_right have (inr (inr (inl c))) = succeeds c
  is_right have (inr (inr (inr c))) = without c

  -- so the rules are kept
  pub keeps_rules : EnoughHaveThem → KeepsRules x (Anew setup number f acts)
  keeps_rules have =
      let r = is_right have h.follows in
      (r.may, r.unnamed, record { fleet = h.opening; shard = data_on w acts k.shard r.may; leading = r.leading })

-- whatever is settled keeps the rules
pub settled_leads : LeadsWhereLed → EnoughHaveThem → SettledLeads
settled_leads led have x setup number f acts r h = keeps_rules x setup number f acts (joint led x.setup x.number x.joined r) h have

-- so it does each time
keep_rules : LeadsWhereLed → EnoughHaveThem → (x : Epoch) (es : List EpochEvent) → IsJoint x.setup x.number x.joined → KeepSettled x es → KeepRules x es
keep_rules led have x [] k kept = tt
keep_rules led have x (Within j ∷ es) k kept =
    (kept.0, keep_rules led have (epoch_comes x (Within j)) es (joint_run led x.setup x.number x.joined (j ∷ []) k kept.0.0 (kept.0.1, tt)) kept.1)
keep_rules led have x (Anew setup number f acts ∷ es) k kept =
    let h = keeps_rules x setup number f acts k kept.0 have in
    (h, keep_rules led have (epoch_comes x (Anew setup number f acts)) es (joint_opening setup number (opened_anew x.joined f acts) h.2) kept.1)

-- whoever executes a request has all
pub executes_as_settled : LeadsWhereLed → AcknowledgedWritesStay → EnoughHaveThem → ExecutesAsSettled
executes_as_settled led stay have x es e acts v r kept last q =
    executes_over_reopenings led stay x es e acts v r (keep_rules led have x es (joint led x.setup x.number x.joined r) kept) last q
