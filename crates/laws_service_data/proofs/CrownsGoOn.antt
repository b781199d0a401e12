-- Who has a shard's crown after an event: who had it, and stands where it stood, or one that has come there just now.
use Rattle.std.proofs.Common.{◌≡◌, ◌≤◌, ◌⊎◌, ◌+◌, ℕ, refl, sym, ap, ◌∙◌, inl, inr, subst, arith, not, Bool, true, false, None, List, [], ◌∷◌, ◌++◌, length}
use Rattle.std.specs.Prelude.{◌&&◌, if◌then◌else◌, is_none, nat_lt, slice_get, slice_index_or}
use Rattle.std.proofs.lemmas.Bool.{and_from, and_parts, cases_Bool, cases_lt, lt-ltb}
use Rattle.std.proofs.lemmas.List.{get_or_append_left}
use Rattle.std.proofs.Math.Seq.{get_or-append_seam}
use Rattle.sm_placement.specs.Sums.{put}
use Rattle.sm_verifier.specs.Stream.{no_stream}
use Rattle.sm_plan_code.specs.Plan.{PlanModel}
use Rattle.sm_reservation.specs.declared.stream_id.StreamId.{StreamId}
use Rattle.sm_protocol.specs.State.{Start, State, is_begun, is_running, next_instruction, no_start, opened, plan_at, progress_of, stream_count}
use Rattle.sm_protocol.specs.Happens.{Done, Happening, Step, engaged, happens, started}
use Rattle.sm_protocol.proofs.LogRoom.{begun_parts, begun_stays, count_started, length_logged, plan_before}
use Rattle.sm_protocol.proofs.Reached.{same_machine}
use Rattle.laws_network.specs.Net.{is_awaited, is_step_of, since_in, since_of}
use Rattle.laws_network.specs.World.{is_answered_by, publication_of}
use Rattle.laws_network.specs.Controller.{Answered, Controller, EPOCH, Ended, JournalEntry, Made, Opened, Restored, Stored, are_versions_low, entry_recorded, goes_on, has_no_plan, is_local, is_permitted, restore_for}
use Rattle.laws_network.proofs.Behind.{HasNoSteps}
use Rattle.laws_network.proofs.Logged.{IsLine, IsQuiet, begun_by, none_runs, since_other, since_step, told}
use Rattle.laws_service_data.proofs.Crowns.{HasCrown, crown_at}

-- A stream has the crown as before, and stands where it stood.
pub record StandsWithCrown (w new : State) (s : ℕ) (id : StreamId) : Type 0 where
  pub before : HasCrown w s id
  pub now : HasCrown new s id
  pub since : since_of new id ≡ since_of w id
  pub next : next_instruction new id ≡ next_instruction w id

-- A state goes on to another one: who has the crown then has come there just now, or stands where it stood; and if
-- nothing is recorded, who has it stays there.
pub record CrownsGoOn (w new : State) (s : ℕ) : Type 0 where
  pub log : length w.log ≤ length new.log
  pub holders : (id : StreamId) → HasCrown new s id → (since_of new id ≡ length new.log) ⊎ StandsWithCrown w new s id
  pub kept : (length w.log + 1 ≤ length new.log) ⊎ ((id : StreamId) → HasCrown w s id → StandsWithCrown w new s id)

-- ---- a stream that stands where it stood

-- it is at the same place of the same code
pub record IsThere (w new : State) (id : StreamId) : Type 0 where
  pub sizes : new.sizes ≡ w.sizes
  pub begun : is_begun new id ≡ is_begun w id
  pub plan : plan_at new id.plan ≡ plan_at w id.plan
  pub at : (progress_of new id).at ≡ (progress_of w id).at
  pub done : (progress_of new id).done ≡ (progress_of w id).done
  pub since : since_of new id ≡ since_of w id

module _ (w new : State) (s : ℕ) (id : StreamId) (t : IsThere w new id) where
  runs_same : is_running new id ≡ is_running w id
  runs_same = ap (λ b. b && not (progress_of new id).done) t.begun ∙ ap (λ d. is_begun w id && not d) t.done

  crown_same : crown_at new.sizes (plan_at new id.plan) id.stream (progress_of new id).at s ≡ crown_at w.sizes (plan_at w id.plan) id.stream (progress_of w id).at s
  crown_same =
      ap (λ c. crown_at c (plan_at new id.plan) id.stream (progress_of new id).at s) t.sizes
      ∙ (ap (λ p. crown_at w.sizes p id.stream (progress_of new id).at s) t.plan
      ∙ ap (λ n. crown_at w.sizes (plan_at w id.plan) id.stream n s) t.at)

  next_same : next_instruction new id ≡ next_instruction w id
  next_same =
      ap (λ (p : PlanModel). slice_get (slice_index_or p.streams id.stream no_stream).code (progress_of new id).at) t.plan
      ∙ ap (λ n. slice_get (slice_index_or (plan_at w id.plan).streams id.stream no_stream).code n) t.at

  -- who has the crown had it
  stood : HasCrown new s id → StandsWithCrown w new s id
  stood h = record { before = record { runs = sym runs_same ∙ h.runs; crown = sym crown_same ∙ h.crown }; now = h; since = t.since; next = next_same }

  -- and who had it has it
  stands : HasCrown w s id → StandsWithCrown w new s id
  stands h = record { before = h; now = record { runs = runs_same ∙ h.runs; crown = crown_same ∙ h.crown }; since = t.since; next = next_same }

-- ---- events

-- a stream that was begun just now is one of the new plan
new_plan : (w : State) (plan : PlanModel) (id : StreamId) → is_begun (started w plan) id ≡ true → is_begun w id ≡ false → id.plan ≡ length w.plans
new_plan w plan id b c =
    let p = begun_parts (started w plan) id b in
    let k = count_started w plan in
    elim (cases_lt id.plan (length w.plans)) [
      | inr l ↦ (let z = p.0 in omega arith)
      | inl l ↦ absurd (
          let s : stream_count (started w plan) id.plan ≡ stream_count w id.plan = ap (λ (x : PlanModel). length x.streams) (plan_before w plan id.plan l) in
          let z = p.1 in
          let d = and_from (nat_lt id.plan (length w.plans)) (nat_lt id.stream (stream_count w id.plan)) (lt-ltb id.plan (length w.plans) l) (lt-ltb id.stream (stream_count w id.plan) (omega arith)) in
          cc
          )
    ]

plan_same : (w new : State) (k : ℕ) → new.plans ≡ w.plans → plan_at new k ≡ plan_at w k
plan_same w new k e = ap (λ (pl : List Start). (slice_index_or pl k no_start).plan) e

module _ (w : State) (none : HasNoSteps w) (s : ℕ) where
  quiet_there : (new : State) → new.sizes ≡ w.sizes → IsQuiet w new → (id : StreamId) → IsThere w new id
  quiet_there new sizes q id = record {
    sizes = sizes;
    begun = begun_by w new q.plans id;
    plan = plan_same w new id.plan q.plans;
    at = (q.still id).0;
    done = (q.still id).1;
    since = ap (λ (pl : List Start). since_in id (slice_index_or pl id.plan no_start).since 0 new.log) q.plans ∙ ap (since_in id (slice_index_or w.plans id.plan no_start).since 0) q.log;
  }

  quiet_on : (new : State) → new.sizes ≡ w.sizes → IsQuiet w new → CrownsGoOn w new s
  quiet_on new sizes q = record {
    log = (let a = ap length q.log in omega arith);
    holders = λ id h. inr (stood w new s id (quiet_there new sizes q id) h);
    kept = inr (λ id h. stands w new s id (quiet_there new sizes q id) h);
  }

  line_on : (new : State) → new.sizes ≡ w.sizes → IsLine w new → CrownsGoOn w new s
  line_on new sizes q = record {
    log = (let a = longer in omega arith);
    holders = λ id h. elim (cases_Bool (is_step id)) [
      | inl e ↦ inl (
          let a = since_step id (start id) 0 w.log (record { event = q.event; answer = q.answer }) e in
          let b = there id in
          let c = longer in
          omega arith
          )
      | inr e ↦ inr (stood w new s id (record {
        sizes = sizes;
        begun = begun_by w new q.plans id;
        plan = plan_same w new id.plan q.plans;
        at = (q.others id e).0;
        done = (q.others id e).1;
        since = there id ∙ since_other id (start id) 0 w.log (record { event = q.event; answer = q.answer }) e;
      }) h)
    ];
    kept = inl (let a = longer in omega arith);
  }
    where
      is_step : StreamId → Bool
      is_step id = is_step_of id q.event

      start : StreamId → ℕ
      start id = (slice_index_or w.plans id.plan no_start).since

      longer : length new.log ≡ length w.log + 1
      longer = ap length q.log ∙ length_logged w q.event q.answer

      there : (id : StreamId) → since_of new id ≡ since_in id (slice_index_or w.plans id.plan no_start).since 0 (w.log ++ record { event = q.event; answer = q.answer } ∷ [])
      there id = ap (λ (pl : List Start). since_in id (slice_index_or pl id.plan no_start).since 0 new.log) q.plans ∙ ap (since_in id (slice_index_or w.plans id.plan no_start).since 0) q.log

  start_there : (plan : PlanModel) (id : StreamId) → is_begun w id ≡ true → IsThere w (started w plan) id
  start_there plan id c =
      let l = (begun_parts w id c).0 in
      record {
        sizes = refl;
        begun = begun_stays w plan id c ∙ sym c;
        plan = plan_before w plan id.plan l;
        at = refl;
        done = refl;
        since = ap (λ (x : Start). since_in id x.since 0 w.log) (get_or_append_left w.plans (record { plan = plan; since = length w.log } ∷ []) no_start id.plan l);
      }

  start_on : (plan : PlanModel) → CrownsGoOn w (started w plan) s
  start_on plan = record {
    log = omega arith;
    holders = λ id h. elim (cases_Bool (is_begun w id)) [
      | inl c ↦ inr (stood w (started w plan) s id (start_there plan id c) h)
      | inr c ↦ inl (
          let b = (and_parts (is_begun (started w plan) id) (not (progress_of w id).done) h.runs).0 in
          let q = new_plan w plan id b c in
          let n = none id c (slice_index_or (started w plan).plans id.plan no_start).since 0 in
          n ∙ (ap (λ k. (slice_index_or (started w plan).plans k no_start).since) q
          ∙ ap (λ (x : Start). x.since) (get_or-append_seam w.plans (record { plan = plan; since = length w.log }) [] no_start))
          )
    ];
    kept = inr (λ id h. stands w (started w plan) s id (start_there plan id (and_parts (is_begun w id) (not (progress_of w id).done) h.runs).0) h);
  }

  -- so it is of each event
  pub crowns_go_on : (e : Happening) → CrownsGoOn w (happens w e).1 s
  crowns_go_on e = elim (told w e) [
    | inl q ↦ quiet_on (happens w e).1 (same_machine w e).sizes q
    | inr (inl q) ↦ line_on (happens w e).1 (same_machine w e).sizes q
    | inr (inr q) ↦ subst (λ (u : State). CrownsGoOn w u s) (sym q.state) (start_on q.plan)
  ]

  -- and of none
  pub crowns_stay : CrownsGoOn w w s
  crowns_stay = quiet_on w refl (record { log = refl; plans = refl; still = λ id. (refl, refl) })

-- ---- entries

-- A controller goes on: crowns do, under the same base, or all plans are done and the next epoch opens.
abbrev pub RecordGoesOn : Controller → Controller → Type 0
RecordGoesOn c new =
    ((new.base ≡ c.base) × ((s : ℕ) → CrownsGoOn c.w new.w s))
    ⊎ ((has_no_plan c.w ≡ true) × (new.base ≡ c.base + EPOCH) × ((id : StreamId) → is_running new.w id ≡ true → ⊥))

module _ (c : Controller) (none : HasNoSteps c.w) where
  still : RecordGoesOn c c
  still = inl (refl, λ s. crowns_stay c.w none s)

  going : (e : Happening) (b : Bool) → RecordGoesOn c (if b then goes_on c e else c)
  going e true = inl (refl, λ s. crowns_go_on c.w none s e)
  going e false = still

  -- so does each by an entry of its journal
  pub entry_goes_on : (x : JournalEntry) → RecordGoesOn c (entry_recorded c x)
  entry_goes_on (Made e) = going e (is_local c.w e)
  entry_goes_on (Answered o) = going (Step o.stream) (is_awaited c.base c.w o)
  entry_goes_on (Stored p) = going (Step p.stream) (is_answered_by p (publication_of c.base c.w p.stream))
  entry_goes_on (Ended v permit) = go (is_permitted (c.permits v) permit)
    where
      go : (b : Bool) → RecordGoesOn c (if b then record c { w = (happens c.w (Done v)).1; permits = put c.permits v None } else c)
      go true = inl (refl, λ s. crowns_go_on c.w none s (Done v))
      go false = still
  entry_goes_on (Restored v nonce) = go (is_none (engaged c.w v))
    where
      go : (b : Bool) → RecordGoesOn c (if b then record c { restores = c.restores ++ restore_for c v nonce ∷ [] } else c)
      go true = inl (refl, λ s. crowns_stay c.w none s)
      go false = still
  entry_goes_on (Opened room) = go (has_no_plan c.w && are_versions_low c.w) refl
    where
      go : (b : Bool) → (has_no_plan c.w && are_versions_low c.w) ≡ b → RecordGoesOn c (if b then record c { w = opened c.w.sizes c.w.place room; base = c.base + EPOCH } else c)
      go true t = inr ((and_parts (has_no_plan c.w) (are_versions_low c.w) t).0, refl, none_runs c.w.sizes c.w.place room)
      go false t = still
