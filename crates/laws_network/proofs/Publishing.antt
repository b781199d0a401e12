-- Streams that stand before publications: each has its shard's crown, so no two publish one shard, and what one is to publish stays the
-- same whatever else happens.
use Rattle.std.proofs.Common.{◌≡◌, ℕ, ◌+◌, ◌≤◌, ◌⊎◌, refl, sym, ap, ◌∙◌, inl, inr, subst, arith, Bool, true, false, Option, Some, None, Ok, List}
use Rattle.std.specs.Prelude.{if◌then◌else◌, slice_get, slice_index_or}
use Rattle.sm_placement.specs.declared.lead.Lead.{Lead}
use Rattle.sm_placement.specs.Setup.{Sizes}
use Rattle.sm_placement.specs.Sums.{bit}
use Rattle.sm_reservation.specs.Rights.{Rights}
use Rattle.sm_reservation.specs.Hold.{Hold}
use Rattle.sm_reservation.specs.Amounts.{OfCrown, count, is_crown}
use Rattle.sm_reservation.specs.Pool.{leads_of}
use Rattle.sm_reservation.specs.declared.stream_id.StreamId.{StreamId}
use Rattle.sm_reservation.proofs.Truths.{same_lead_self, same_server_self, true_crown}
use Rattle.sm_plan_code.specs.declared.instruction.Instr.{Instr}
use Rattle.sm_plan_code.specs.declared.instruction.Instr.TheVariants.{Publish, Unlist}
use Rattle.sm_plan_code.specs.After.{after, decided, lead_held, publish_line, unlist_line, to_list}
use Rattle.sm_plan_code.specs.Plan.{PlanModel}
use Rattle.sm_verifier.specs.Step.{parcels_of}
use Rattle.sm_verifier.specs.Stream.{hold_before, no_stream, stream_at}
use Rattle.sm_protocol.specs.State.{Progress, Start, State, held, hold_of_stream, is_begun, plan_at, progress_of, reach, set_progress}
use Rattle.sm_protocol.specs.Steps.{Outcome}
use Rattle.sm_protocol.specs.Happens.{Happening, Lose, Step, happens}
use Rattle.sm_protocol.specs.declared.event.Passage.TheVariants.{LostAfter, LostBefore, Through}
use Rattle.sm_protocol.proofs.Invariant.{IsKept}
use Rattle.sm_protocol.proofs.Cases.{IsBefore, OfKnownSteps, of_known_happens}
use Rattle.sm_protocol.proofs.Courses.{some_same}
use Rattle.sm_protocol.proofs.Holds.{share}
use Rattle.sm_protocol.proofs.Keeping.{begun}
use Rattle.sm_protocol.proofs.LogRoom.{begun_parts, begun_stays, of_call, plan_before}
use Rattle.sm_protocol.proofs.Numbers.{each_stream, goes_on, one_stream}
use Rattle.sm_protocol.proofs.Steps.{leads_are}
use Rattle.sm_protocol.proofs.Trials.{scene, two_shares}
use Rattle.sm_protocol.proofs.Tries.{turn}
use Rattle.laws_network.specs.World.{publication_by, publication_now}

-- ---- what a stream publishes

-- the stream stands before a publication that lists this server, or none, for the shard
pub record IsPublishing (w : State) (id : StreamId) (s : ℕ) (server : Option ℕ) : Type 0 where
  pub instr : Instr
  pub before : IsBefore w id (Some instr)
  pub now : publication_by w (Some instr) ≡ Some (s, server)

-- the stream has the shard's crown, where its hold goes through
crown_by : (c : Sizes) (signals : ℕ → Rights) (w : State) (i : Instr) (s : ℕ) (server : Option ℕ) (h h' : Hold) → publication_by w (Some i) ≡ Some (s, server) → after c signals i h ≡ Ok h' →
    (lead : Lead) × (listed : Option ℕ) × (h.crowns s ≡ Some (lead, listed))
crown_by c signals w (Publish r) s server h h' p e = go (h.crowns r) refl
  where
    same : r ≡ s
    same = ap (λ (q : ℕ × Option ℕ). q.0) (some_same _ _ p)

    go : (o : Option (Lead × Option ℕ)) → h.crowns r ≡ o → (lead : Lead) × (listed : Option ℕ) × (h.crowns s ≡ Some (lead, listed))
    go (Some x) f = (x.0, x.1, ap h.crowns (sym same) ∙ f)
    go None f = absurd (let z : decided (publish_line r h (lead_held None)) ≡ Ok h' = subst (λ o. decided (publish_line r h (lead_held o)) ≡ Ok h') f e in cc)
crown_by c signals w (Unlist r) s server h h' p e = go (h.crowns r) refl
  where
    same : r ≡ s
    same = ap (λ (q : ℕ × Option ℕ). q.0) (some_same _ _ p)

    go : (o : Option (Lead × Option ℕ)) → h.crowns r ≡ o → (lead : Lead) × (listed : Option ℕ) × (h.crowns s ≡ Some (lead, listed))
    go (Some x) f = (x.0, x.1, ap h.crowns (sym same) ∙ f)
    go None f = absurd (let z : decided (unlist_line r h (lead_held None)) ≡ Ok h' = subst (λ o. decided (unlist_line r h (lead_held o)) ≡ Ok h') f e in cc)
crown_by c signals w _ s server h h' p e = absurd (cc)

module _ (w : State) (v : IsKept w) (unmade : (id : StreamId) → (progress_of w id).ahead ≡ false) where
  abbrev own : StreamId → Hold
  own id = hold_of_stream w id.plan id.stream

  now_is : (id : StreamId) → hold_before (stream_at w.sizes (plan_at w id.plan) id.stream) (progress_of w id).at ≡ own id
  now_is id = ap (λ q. hold_before (stream_at w.sizes (plan_at w id.plan) id.stream) (reach (progress_of w id).at q)) (sym (unmade id))

  -- the crown of a stream that publishes says the shard's lead, and who is listed
  pub crown_of : (id : StreamId) (s : ℕ) (server : Option ℕ) → IsPublishing w id s server → (lead : Lead) × (listed : Option ℕ) × ((own id).crowns s ≡ Some (lead, listed)) × (leads_of w.sizes w.place s ≡ lead)
  crown_of id s server p =
      let c = crown_by w.sizes (parcels_of (plan_at w id.plan).signals) w p.instr s server _ _ p.now (turn w v id p.instr p.before).leaves in
      let e : (own id).crowns s ≡ Some (c.0, c.1) = ap (λ (h : Hold). h.crowns s) (sym (now_is id)) ∙ c.2 in
      (c.0, c.1, e, leads_are w v s ∙ (true_crown w.sizes w.place v.leads (own id) (scene w v id (begun w id p.before.begun) p.before.running).truth s c.0 c.1 e).0)

  -- no two streams publish one shard
  pub one_publisher : (a b : StreamId) (s : ℕ) (x y : Option ℕ) → IsPublishing w a s x → IsPublishing w b s y → a ≡ b
  one_publisher a b s x y p q = elim (one_stream a b) [
    | inl e ↦ e
    | inr n ↦
        let c = crown_of a s x p in
        let d = crown_of b s y q in
        let l = true_crown w.sizes w.place v.leads (own a) (scene w v a (begun w a p.before.begun) p.before.running).truth s c.0 c.1 c.2 in
        let m = true_crown w.sizes w.place v.leads (own b) (scene w v b (begun w b q.before.begun) q.before.running).truth s d.0 d.1 d.2 in
        let here : bit (is_crown c.0 c.1 ((own a).crowns s)) ≡ 1 = rw (c.2, same_lead_self c.0, same_server_self c.1) refl in
        let other : (own b).crowns s ≡ Some (c.0, c.1) = d.2 ∙ ap (λ z. Some (z, d.1)) (sym m.0 ∙ l.0) ∙ ap (λ z. Some (c.0, z)) (sym m.1 ∙ l.1) in
        let there : bit (is_crown c.0 c.1 ((own b).crowns s)) ≡ 1 = rw (other, same_lead_self c.0, same_server_self c.1) refl in
        let r = OfCrown s c.0 c.1 in
        let g : share w a r (progress_of w a) ≡ count (own a) r = rw (p.before.running) refl in
        let h : share w b r (progress_of w b) ≡ count (own b) r = rw (q.before.running) refl in
        let ba = begun w a p.before.begun in
        let bb = begun w b q.before.begun in
        let t = two_shares w a b r ba.plan ba.stream bb.plan bb.stream n in
        let f : held w r + 0 ≤ bit (is_crown c.0 c.1 (Some (v.leads s, w.place.listed s))) = v.fits r in
        let most : bit (is_crown c.0 c.1 (Some (v.leads s, w.place.listed s))) ≤ 1 = bit_small _ in
        absurd (omega arith)
  ]
    where
      bit_small : (b : Bool) → bit b ≤ 1
      bit_small true = omega arith
      bit_small false = omega arith

-- ---- what else happens

-- the event is neither a step over a publication, nor a lost call
abbrev pub IsElse : State → Happening → Type 0
IsElse w (Step id) = publication_now w id ≡ None
IsElse w (Lose id after) = ⊥
IsElse w _ = Unit {0}

-- the stream stands where it stood
abbrev StandsBy : State → StreamId → Progress → Type 0
StandsBy w id z = (z.at ≡ (progress_of w id).at) × (z.done ≡ (progress_of w id).done)

-- no entry changes, and no stream that publishes goes on
pub record LeavesMap (w new : State) : Type 0 where
  pub listed : new.place.listed ≡ w.place.listed
  pub version : new.place.version ≡ w.place.version
  pub streams : (id : StreamId) (s : ℕ) (server : Option ℕ) → IsPublishing w id s server → (is_begun new id ≡ true) × (plan_at new id.plan ≡ plan_at w id.plan) × StandsBy w id (progress_of new id)

module _ (w : State) where
  put_stands : (id : StreamId) (y : Progress) → ((publication_now w id ≡ None) ⊎ StandsBy w id y) → (j : StreamId) (s : ℕ) (server : Option ℕ) → IsPublishing w j s server → StandsBy w j (set_progress w id y j.plan j.stream)
  put_stands id y own j s server p = each_stream (goes_on w id y) (λ k z. k ≡ j → StandsBy w j z)
      (λ e. elim own [
        | inl n ↦ absurd (let a : publication_now w j ≡ Some (s, server) = ap (publication_by w) p.before.next_is ∙ p.now in let b : publication_now w j ≡ None = ap (publication_now w) (sym e) ∙ n in cc)
        | inr h ↦ subst (λ k. StandsBy w k y) e h
      ])
      (λ k n e. subst (λ a. StandsBy w a (progress_of w k)) e (refl, refl)) j refl

  map_same : LeavesMap w w
  map_same = record { listed = refl; version = refl; streams = λ j s server p. (p.before.begun, refl, (refl, refl)) }

  -- a stream before no publication stands before none
  none_next : (id : StreamId) (i : Instr) → IsBefore w id (Some i) → publication_now w id ≡ None → publication_by w (Some i) ≡ None
  none_next id i b e = ap (publication_by w) (sym b.next_is) ∙ e

  abbrev LeavesBy : StreamId → Outcome × State → Type 0
  LeavesBy id o = publication_now w id ≡ None → LeavesMap w o.1

  goes_past : (new : State) (id : StreamId) (y : Progress) → publication_now w id ≡ None → new.place.listed ≡ w.place.listed → new.place.version ≡ w.place.version → new.plans ≡ w.plans →
      ((j : StreamId) → progress_of new j ≡ set_progress w id y j.plan j.stream) → LeavesMap w new
  goes_past new id y e listed version plans progress = record {
    listed = listed;
    version = version;
    streams = λ j s server p. (
      ap (λ pl. is_begun (with_plans pl) j) plans ∙ p.before.begun,
      ap (λ pl. plan_at (with_plans pl) j.plan) plans,
      subst (StandsBy w j) (sym (progress j)) (put_stands id y (inl e) j s server p),
    );
  }
    where
      with_plans : List Start → State
      with_plans pl = record w { plans = pl }

  leaves_by_steps : (id : StreamId) → OfKnownSteps w id Through (LeavesBy id)
  leaves_by_steps id = record {
    idle = λ answer e. map_same;
    refused = λ i x why t f e. map_same;
    at_end = λ b e. goes_past _ id _ e refl refl refl (λ j. refl);
    publishes = λ s b e. absurd (let z = none_next id (Publish s) b e in cc);
    unlists = λ s b e. absurd (let z = none_next id (Unlist s) b e in cc);
    posts = λ q b e. goes_past _ id _ e refl refl refl (λ j. refl);
    awaits = λ q b f e. goes_past _ id _ e refl refl refl (λ j. refl);
    lost = λ i x t p e. absurd (cc);
    through = λ i x effect t a f e.
        let c = of_call w.sizes w.place x.shard x.server x.call _ effect a in
        goes_past _ id _ e c.listed c.version refl (λ j. refl);
    unanswered = λ i x effect t a p e. absurd (cc);
  }

  any_leaves : (id : StreamId) (after : Bool) → OfKnownSteps w id (if after then LostAfter else LostBefore) (λ o. IsElse w (Lose id after) → LeavesMap w o.1)
  any_leaves id after = record {
    idle = λ answer e. absurd e;
    refused = λ i x why t f e. absurd e;
    at_end = λ b e. absurd e;
    publishes = λ s b e. absurd e;
    unlists = λ s b e. absurd e;
    posts = λ q b e. absurd e;
    awaits = λ q b f e. absurd e;
    lost = λ i x t p e. absurd e;
    through = λ i x effect t a f e. absurd e;
    unanswered = λ i x effect t a p e. absurd e;
  }

  -- so it is of all other events
  pub else_leaves : (e : Happening) → IsElse w e → LeavesMap w (happens w e).1
  else_leaves e = of_known_happens w (λ e o. IsElse w e → LeavesMap w o.1) (record {
    idle = λ e answer n o. map_same;
    steps = leaves_by_steps;
    loses = any_leaves;
    refills = λ id more f o. record { listed = refl; version = refl; streams = λ j s server p. (p.before.begun, refl, put_stands id _ (inr (refl, refl)) j s server p) };
    arrives = λ s v f o. record { listed = refl; version = refl; streams = λ j s server p. (p.before.begun, refl, (refl, refl)) };
    passes_on = λ t o f l. record { listed = refl; version = refl; streams = λ j s server p. (p.before.begun, refl, (refl, refl)) };
    approves = λ v f o. record { listed = refl; version = refl; streams = λ j s server p. (p.before.begun, refl, (refl, refl)) };
    restarts = λ v f o. record { listed = refl; version = refl; streams = λ j s server p. (p.before.begun, refl, (refl, refl)) };
    starts = λ plan h f g o. record { listed = refl; version = refl; streams = λ j s server p. (begun_stays w plan j p.before.begun, plan_before w plan j.plan (begun_parts w j p.before.begun).0, (refl, refl)) };
  }) e

-- ---- a publication stays what it is

-- the same hold has the same crown: so the lead, and what is published under it, are the same
pub publishes_still : (w new : State) (v : IsKept w) (y : IsKept new) → ((id : StreamId) → (progress_of w id).ahead ≡ false) → ((id : StreamId) → (progress_of new id).ahead ≡ false) → new.sizes ≡ w.sizes →
    (id : StreamId) (s : ℕ) (server : Option ℕ) → IsPublishing w id s server → is_begun new id ≡ true → plan_at new id.plan ≡ plan_at w id.plan → StandsBy w id (progress_of new id) → IsPublishing new id s server
publishes_still w new v y unmade unmade_new sizes id s server p b plan st = record {
  instr = p.instr;
  before = before_new;
  now = go p.instr p.now before_new p.before;
}
  where
    before_new : IsBefore new id (Some p.instr)
    before_new = record {
      begun = b;
      running = st.1 ∙ p.before.running;
      next_is = ap (λ (q : PlanModel). slice_get (slice_index_or q.streams id.stream no_stream).code (progress_of new id).at) plan
          ∙ ap (λ k. slice_get (slice_index_or (plan_at w id.plan).streams id.stream no_stream).code k) st.0
          ∙ p.before.next_is;
    }

    hold_same : hold_of_stream new id.plan id.stream ≡ hold_of_stream w id.plan id.stream
    hold_same =
        ap (λ q. hold_before (stream_at new.sizes (plan_at new id.plan) id.stream) (reach (progress_of new id).at q)) (unmade_new id)
        ∙ ap (λ k. hold_before (stream_at new.sizes (plan_at new id.plan) id.stream) k) st.0
        ∙ ap (λ (q : PlanModel). hold_before (stream_at new.sizes q id.stream) (progress_of w id).at) plan
        ∙ ap (λ (c : Sizes). hold_before (stream_at c (plan_at w id.plan) id.stream) (progress_of w id).at) sizes
        ∙ sym (ap (λ q. hold_before (stream_at w.sizes (plan_at w id.plan) id.stream) (reach (progress_of w id).at q)) (unmade id))

    go : (i : Instr) → publication_by w (Some i) ≡ Some (s, server) → IsBefore new id (Some i) → IsBefore w id (Some i) → publication_by new (Some i) ≡ Some (s, server)
    go (Publish r) e bn bo =
        let same : r ≡ s = ap (λ (q : ℕ × Option ℕ). q.0) (some_same _ _ e) in
        let now : IsPublishing w id r (to_list (leads_of w.sizes w.place r)) = record { instr = Publish r; before = bo; now = refl } in
        let c = crown_of w v unmade id r _ now in
        let crown : (hold_of_stream new id.plan id.stream).crowns r ≡ Some (c.0, c.1) = ap (λ (h : Hold). h.crowns r) hold_same ∙ c.2 in
        let l : leads_of new.sizes new.place r ≡ c.0 = leads_are new y r ∙ (true_crown new.sizes new.place y.leads (hold_of_stream new id.plan id.stream) (scene new y id (begun new id bn.begun) bn.running).truth r c.0 c.1 crown).0 in
        ap (λ z. Some (r, to_list z)) (l ∙ sym c.3) ∙ e
    go (Unlist r) e bn bo = e
    go _ e bn bo = absurd (cc)
