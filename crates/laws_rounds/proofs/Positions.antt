-- What an event of the protocol leaves of a stream's position and of its plan: no plan goes back, and a running stream goes on or stands as it stood.
use Rattle.std.proofs.Common.{◌≡◌, ℕ, suc, ◌+◌, ◌≤◌, ◌<◌, ◌⊎◌, refl, sym, ap, ◌∙◌, inl, inr, subst, arith, Bool, true, false, Option, Some, None, List, [], ◌∷◌, length}
use Rattle.std.specs.Prelude.{if◌then◌else◌, slice_get, slice_index_or}
use Rattle.std.proofs.lemmas.Bool.{cases_Bool, cases_eq, cases_lt}
use Rattle.std.proofs.lemmas.List.{get_or_append_left}
use Rattle.sm_placement.specs.Sums.{put2}
use Rattle.sm_placement.proofs.Sums.{put-apart}
use Rattle.sm_verifier.proofs.OnePlace.{put2_cases}
use Rattle.sm_reservation.specs.Pool.{leads_of}
use Rattle.sm_reservation.specs.declared.stream_id.StreamId.{StreamId}
use Rattle.sm_plan_code.specs.declared.instruction.Instr.{Instr}
use Rattle.sm_plan_code.specs.declared.instruction.Instr.TheVariants.{Publish, Unlist}
use Rattle.sm_plan_code.specs.After.{to_list}
use Rattle.sm_plan_code.specs.Plan.{PlanModel}
use Rattle.sm_verifier.specs.Stream.{no_stream}
use Rattle.sm_protocol.specs.declared.event.Passage.{Passage}
use Rattle.sm_protocol.specs.declared.event.Passage.TheVariants.{LostAfter, LostBefore, Through}
use Rattle.sm_protocol.specs.State.{Mark, Progress, Start, State, is_begun, next_instruction, no_start, plan_at, progress_of, set_progress, stream_id}
use Rattle.sm_protocol.specs.Steps.{Outcome, entry_added}
use Rattle.sm_protocol.specs.Happens.{Happening, Lose, Step, happens}
use Rattle.sm_protocol.specs.Next.{since_in, since_of}
use Rattle.sm_protocol.specs.Log.{is_step_of}
use Rattle.sm_protocol.proofs.Cases.{IsBefore, OfKnownSteps, OfSteps, of_happens, of_known_happens}
use Rattle.sm_protocol.proofs.Courses.{some_same}
use Rattle.sm_protocol.proofs.Invariant.{IsKept}
use Rattle.sm_protocol.proofs.LogRoom.{begun_parts, begun_stays, count_started, of_call, plan_before}
use Rattle.sm_protocol.proofs.Numbers.{each_stream, goes_on}
use Rattle.laws_network.proofs.Calm.{IsCalm, at_grows}
use Rattle.laws_network.proofs.Logged.{IsTold, begun_by, since_other, told}
use Rattle.laws_network.proofs.Publishing.{IsPublishing, one_publisher}

-- the event is one that the controller makes
abbrev pub IsMade : Happening → Type 0
IsMade (Lose id after) = ⊥
IsMade _ = Unit {0}

-- the shard whose entry an instruction changes
abbrev pub shard_shown : Option Instr → Option ℕ
shard_shown (Some (Publish s)) = Some s
shard_shown (Some (Unlist s)) = Some s
shard_shown _ = None

-- the stream has gone on, or has ended
abbrev pub HasGone : State → State → StreamId → Type 0
HasGone w new id = ((progress_of w id).at < (progress_of new id).at) ⊎ ((progress_of new id).done ≡ true)

-- the plan is the same, and no stream of it goes back
pub record IsOnward (w new : State) (k : ℕ) : Type 0 where
  pub count : k < length new.plans
  pub plan : plan_at new k ≡ plan_at w k
  pub at : (i : ℕ) → (w.progress k i).at ≤ (new.progress k i).at
  pub done : (i : ℕ) → (w.progress k i).done ≡ true → (new.progress k i).done ≡ true

-- the stream stands as it stood, and finds what it needs for its next instruction
pub record Stands (w new : State) (id : StreamId) : Type 0 where
  pub begun : is_begun new id ≡ true
  pub plan : plan_at new id.plan ≡ plan_at w id.plan
  pub at : (progress_of new id).at ≡ (progress_of w id).at
  pub done : (progress_of new id).done ≡ (progress_of w id).done
  pub since : since_of new id ≡ since_of w id
  pub posted : (q : ℕ) → (w.marks id.plan q).posted ≡ true → (new.marks id.plan q).posted ≡ true
  pub version : (s : ℕ) → shard_shown (next_instruction w id) ≡ Some s → new.place.version s ≡ w.place.version s

-- it stands before the same instruction
pub next_same : (w new : State) (id : StreamId) → Stands w new id → next_instruction new id ≡ next_instruction w id
next_same w new id s =
    ap (λ (q : PlanModel). slice_get (slice_index_or q.streams id.stream no_stream).code (progress_of new id).at) s.plan
    ∙ ap (λ k. slice_get (slice_index_or (plan_at w id.plan).streams id.stream no_stream).code k) s.at

-- what stands stands
pub stands_still : (w : State) (id : StreamId) → is_begun w id ≡ true → Stands w w id
stands_still w id b = record { begun = b; plan = refl; at = refl; done = refl; since = refl; posted = λ q e. e; version = λ s e. refl }

-- one after the other
pub stands_on : (a b c : State) (id : StreamId) → Stands a b id → Stands b c id → Stands a c id
stands_on a b c id f g = record {
  begun = g.begun;
  plan = g.plan ∙ f.plan;
  at = g.at ∙ f.at;
  done = g.done ∙ f.done;
  since = g.since ∙ f.since;
  posted = λ q e. g.posted q (f.posted q e);
  version = λ s e. g.version s (ap shard_shown (next_same a b id f) ∙ e) ∙ f.version s e;
}

-- a plan is as far as itself
pub onward_still : (w : State) (k : ℕ) → k < length w.plans → IsOnward w w k
onward_still w k l = record { count = l; plan = refl; at = λ i. omega arith; done = λ i e. e }

-- what is further than what is further is further
pub onward_on : (a b c : State) (k : ℕ) → IsOnward a b k → IsOnward b c k → IsOnward a c k
onward_on a b c k f g = record {
  count = g.count;
  plan = g.plan ∙ f.plan;
  at = λ i. (let x = f.at i in let y = g.at i in omega arith);
  done = λ i e. g.done i (f.done i e);
}

-- what has gone on has gone on later
pub gone_stays : (a b c : State) (id : StreamId) → HasGone a b id → IsOnward b c id.plan → HasGone a c id
gone_stays a b c id (inl l) o = inl (let x : (progress_of b id).at ≤ (progress_of c id).at = o.at id.stream in omega arith)
gone_stays a b c id (inr d) o = inr (o.done id.stream d)

-- and has from where it stood
pub gone_from : (a b c : State) (id : StreamId) → Stands a b id → HasGone b c id → HasGone a c id
gone_from a b c id s (inl l) = inl (let x = s.at in omega arith)
gone_from a b c id s (inr d) = inr d

-- ---- no stream goes back

module _ (w : State) where
  put_done : (id : StreamId) (y : Progress) → ((progress_of w id).done ≡ true → y.done ≡ true) → (j : StreamId) → (progress_of w j).done ≡ true → (set_progress w id y j.plan j.stream).done ≡ true
  put_done id y own = each_stream (goes_on w id y) (λ j z. (progress_of w j).done ≡ true → z.done ≡ true) own (λ j n e. e)

  abbrev KeepDone : Outcome × State → Type 0
  KeepDone o = (j : StreamId) → (progress_of w j).done ≡ true → (progress_of o.1 j).done ≡ true

  done_by_steps : (id : StreamId) (passage : Passage) → OfSteps w id passage KeepDone
  done_by_steps id passage = record {
    idle = λ answer j e. e;
    refused = λ i x why t f j e. e;
    at_end = λ b. put_done id _ (λ e. refl);
    publishes = λ i s server b c. put_done id _ (λ e. e);
    posts = λ q b. put_done id _ (λ e. e);
    awaits = λ q b f. put_done id _ (λ e. e);
    lost = λ i x t p. put_done id _ (λ e. e);
    through = λ i x effect t a p. put_done id _ (λ e. e);
    unanswered = λ i x effect t a p. put_done id _ (λ e. e);
  }

  -- what has ended has ended later
  pub done_stays : (e : Happening) → KeepDone (happens w e)
  done_stays e = of_happens w (λ e o. KeepDone o) (record {
    idle = λ e answer n j d. d;
    steps = λ id. done_by_steps id Through;
    loses = λ id after. done_by_steps id (if after then LostAfter else LostBefore);
    refills = λ id more f. put_done id _ (λ d. d);
    arrives = λ s v f j d. d;
    passes_on = λ t o f j d. d;
    approves = λ v f j d. d;
    restarts = λ v f j d. d;
    starts = λ plan h f g j d. d;
  }) e

  abbrev KeepPosted : Outcome × State → Type 0
  KeepPosted o = (k q : ℕ) → (w.marks k q).posted ≡ true → (o.1.marks k q).posted ≡ true

  put_posted : (k q : ℕ) (x : Mark) → x.posted ≡ true → (j r : ℕ) → (w.marks j r).posted ≡ true → (put2 w.marks k q x j r).posted ≡ true
  put_posted k q x own j r e = elim (put2_cases w.marks k q x j r) [
    | inl h ↦ ap (λ (m : Mark). m.posted) h.2 ∙ own
    | inr h ↦ ap (λ (m : Mark). m.posted) h.1 ∙ e
  ]

  posted_by_steps : (id : StreamId) (passage : Passage) → OfSteps w id passage KeepPosted
  posted_by_steps id passage = record {
    idle = λ answer k q e. e;
    refused = λ i x why t f k q e. e;
    at_end = λ b k q e. e;
    publishes = λ i s server b c k q e. e;
    posts = λ q b. put_posted id.plan q _ refl;
    awaits = λ q b f. put_posted id.plan q _ f;
    lost = λ i x t p k q e. e;
    through = λ i x effect t a p k q e. e;
    unanswered = λ i x effect t a p k q e. e;
  }

  -- what is posted is posted later
  pub posted_stays : (e : Happening) → KeepPosted (happens w e)
  posted_stays e = of_happens w (λ e o. KeepPosted o) (record {
    idle = λ e answer n k q d. d;
    steps = λ id. posted_by_steps id Through;
    loses = λ id after. posted_by_steps id (if after then LostAfter else LostBefore);
    refills = λ id more f k q d. d;
    arrives = λ s v f k q d. d;
    passes_on = λ t o f k q d. d;
    approves = λ v f k q d. d;
    restarts = λ v f k q d. d;
    starts = λ plan h f g k q d. d;
  }) e

  plans_on : (k : ℕ) → k < length w.plans → (new : State) → IsTold w new → (k < length new.plans) × (plan_at new k ≡ plan_at w k)
  plans_on k l new (inl q) = (subst (λ (pl : List Start). k < length pl) (sym q.plans) l, ap (λ (pl : List Start). (slice_index_or pl k no_start).plan) q.plans)
  plans_on k l new (inr (inl q)) = (subst (λ (pl : List Start). k < length pl) (sym q.plans) l, ap (λ (pl : List Start). (slice_index_or pl k no_start).plan) q.plans)
  plans_on k l new (inr (inr q)) = subst (λ (u : State). (k < length u.plans) × (plan_at u k ≡ plan_at w k)) (sym q.state) ((let n = count_started w q.plan in omega arith), plan_before w q.plan k l)

  -- an event leads a plan onward
  pub event_onward : (k : ℕ) → k < length w.plans → (e : Happening) → IsOnward w (happens w e).1 k
  event_onward k l e = let p = plans_on k l (happens w e).1 (told w e) in record {
    count = p.0;
    plan = p.1;
    at = λ i. at_grows w e (stream_id k i);
    done = λ i. done_stays e (stream_id k i);
  }

-- ---- a running stream

module _ (w : State) (v : IsKept w) (calm : IsCalm w) (id : StreamId) (b : is_begun w id ≡ true) (d : (progress_of w id).done ≡ false) where
  -- where its position rises it has gone on
  put_gone : (y : Progress) → (progress_of w id).at < y.at → (progress_of w id).at < (set_progress w id y id.plan id.stream).at
  put_gone y l = subst (λ (z : Progress). (progress_of w id).at < z.at) (sym (goes_on w id y).here) l

  publishing : (j : StreamId) (i : Instr) (s : ℕ) → IsBefore w j (Some i) → shard_shown (Some i) ≡ Some s → (x : Option ℕ) × IsPublishing w j s x
  publishing j (Publish r) s t e = (to_list (leads_of w.sizes w.place r), record { instr = Publish r; before = t; now = ap (λ z. let p : Option (ℕ × Option ℕ) = Some (z, to_list (leads_of w.sizes w.place r)) in p) (some_same r s e) })
  publishing j (Unlist r) s t e = (None, record { instr = Unlist r; before = t; now = ap (λ z. let p : Option (ℕ × Option ℕ) = Some (z, None) in p) (some_same r s e) })
  publishing j _ s t e = absurd (cc)

  -- a stream before a publication publishes
  pub own_publishing : (s : ℕ) → shard_shown (next_instruction w id) ≡ Some s → (x : Option ℕ) × IsPublishing w id s x
  own_publishing s e = go (next_instruction w id) refl e
    where
      go : (o : Option Instr) → next_instruction w id ≡ o → shard_shown o ≡ Some s → (x : Option ℕ) × IsPublishing w id s x
      go None q f = absurd (cc)
      go (Some i) q f = publishing id i s (record { begun = b; running = d; next_is = q }) f

  -- over its publication it goes on
  pub entry_gone : (r : ℕ) (server : Option ℕ) → HasGone w (entry_added w id r server).1 id
  entry_gone r server = inl (put_gone (record (progress_of w id) { at = (progress_of w id).at + 1 }) (omega arith))

  module _ (s : ℕ) (shown : shard_shown (next_instruction w id) ≡ Some s) where
    abbrev KeepVersion : Outcome × State → Type 0
    KeepVersion o = HasGone w o.1 id ⊎ (o.1.place.version s ≡ w.place.version s)

    by_entry : (j : StreamId) (r : ℕ) (server x : Option ℕ) → IsPublishing w j r x → KeepVersion (entry_added w j r server)
    by_entry j r server x p = elim (cases_eq s r) [
      | inr n ↦ inr (put-apart w.place.version r (suc (w.place.version r)) s n)
      | inl q ↦
          let own = own_publishing s shown in
          let same : id ≡ j = one_publisher w v calm.unmade id j s own.0 x own.1 (subst (λ z. IsPublishing w j z x) (sym q) p) in
          inl (subst (λ a. HasGone w (entry_added w a r server).1 id) same (entry_gone r server))
    ]

    version_by_steps : (j : StreamId) → OfKnownSteps w j Through (λ o. IsMade (Step j) → KeepVersion o)
    version_by_steps j = record {
      idle = λ answer m. inr refl;
      refused = λ i x why t f m. inr refl;
      at_end = λ t m. inr refl;
      publishes = λ r t m. let p = publishing j (Publish r) r t refl in by_entry j r (to_list (leads_of w.sizes w.place r)) p.0 p.1;
      unlists = λ r t m. let p = publishing j (Unlist r) r t refl in by_entry j r None p.0 p.1;
      posts = λ q t m. inr refl;
      awaits = λ q t f m. inr refl;
      lost = λ i x t p m. absurd (cc);
      through = λ i x effect t a p m. inr (ap (λ (f : ℕ → ℕ). f s) (of_call w.sizes w.place x.shard x.server x.call _ effect a).version);
      unanswered = λ i x effect t a p m. absurd (cc);
    }

    none_lost : (j : StreamId) (after : Bool) → OfKnownSteps w j (if after then LostAfter else LostBefore) (λ o. IsMade (Lose j after) → KeepVersion o)
    none_lost j after = record {
      idle = λ answer m. absurd m;
      refused = λ i x why t f m. absurd m;
      at_end = λ t m. absurd m;
      publishes = λ r t m. absurd m;
      unlists = λ r t m. absurd m;
      posts = λ q t m. absurd m;
      awaits = λ q t f m. absurd m;
      lost = λ i x t p m. absurd m;
      through = λ i x effect t a p m. absurd m;
      unanswered = λ i x effect t a p m. absurd m;
    }

    -- no other stream publishes its shard
    version_or : (e : Happening) → IsMade e → KeepVersion (happens w e)
    version_or e = of_known_happens w (λ e o. IsMade e → KeepVersion o) (record {
      idle = λ e answer n m. inr refl;
      steps = version_by_steps;
      loses = none_lost;
      refills = λ j more f m. inr refl;
      arrives = λ r u f m. inr refl;
      passes_on = λ t o f m. inr refl;
      approves = λ u f m. inr refl;
      restarts = λ u f m. inr refl;
      starts = λ plan h f g m. inr refl;
    }) e

  -- the version of what it is to publish stays, or it goes on
  versions : (e : Happening) → IsMade e → HasGone w (happens w e).1 id ⊎ ((s : ℕ) → shard_shown (next_instruction w id) ≡ Some s → (happens w e).1.place.version s ≡ w.place.version s)
  versions e m = go (shard_shown (next_instruction w id)) refl
    where
      go : (o : Option ℕ) → shard_shown (next_instruction w id) ≡ o → HasGone w (happens w e).1 id ⊎ ((s : ℕ) → shard_shown (next_instruction w id) ≡ Some s → (happens w e).1.place.version s ≡ w.place.version s)
      go None q = inr (λ s z. absurd (let t : None ≡ Some s = sym q ∙ z in cc))
      go (Some s) q = elim (version_or s q e m) [
        | inl g ↦ inl g
        | inr h ↦ inr (λ r z. subst (λ t. (happens w e).1.place.version t ≡ w.place.version t) (some_same s r (sym q ∙ z)) h)
      ]

  -- a running stream goes on, or stands as it stood
  pub gone_or_stands : (e : Happening) → IsMade e → HasGone w (happens w e).1 id ⊎ Stands w (happens w e).1 id
  gone_or_stands e m = elim (versions e m) [ inl g ↦ inl g | inr same ↦ by_told (told w e) same ]
    where
      new : State
      new = (happens w e).1

      start : ℕ
      start = (slice_index_or w.plans id.plan no_start).since

      posted : (q : ℕ) → (w.marks id.plan q).posted ≡ true → ((happens w e).1.marks id.plan q).posted ≡ true
      posted q = posted_stays w e id.plan q

      plan : plan_at (happens w e).1 id.plan ≡ plan_at w id.plan
      plan = (plans_on w id.plan (begun_parts w id b).0 (happens w e).1 (told w e)).1

      by_told : IsTold w (happens w e).1 → ((s : ℕ) → shard_shown (next_instruction w id) ≡ Some s → (happens w e).1.place.version s ≡ w.place.version s) → HasGone w (happens w e).1 id ⊎ Stands w (happens w e).1 id
      by_told (inl q) same = inr (record {
        begun = begun_by w (happens w e).1 q.plans id ∙ b;
        plan = plan;
        at = (q.still id).0;
        done = (q.still id).1;
        since = ap (λ (pl : List Start). since_in id (slice_index_or pl id.plan no_start).since 0 (happens w e).1.log) q.plans ∙ ap (since_in id start 0) q.log;
        posted = posted;
        version = same;
      })
      by_told (inr (inl q)) same = elim (cases_Bool (is_step_of id q.event)) [
        | inl own ↦ elim (q.own id own).1 [
          | inr ended ↦ inr_done ended
          | inl apart ↦ elim (cases_lt (progress_of w id).at (progress_of (happens w e).1 id).at) [
            | inl l ↦ inl (inl l)
            | inr l ↦ absurd (apart (let a = at_grows w e id in omega arith))
          ]
        ]
        | inr other ↦ inr (record {
          begun = begun_by w (happens w e).1 q.plans id ∙ b;
          plan = plan;
          at = (q.others id other).0;
          done = (q.others id other).1;
          since = ap (λ (pl : List Start). since_in id (slice_index_or pl id.plan no_start).since 0 (happens w e).1.log) q.plans ∙ ap (since_in id start 0) q.log
              ∙ since_other id start 0 w.log (record { event = q.event; answer = q.answer }) other;
          posted = posted;
          version = same;
        })
      ]
        where
          inr_done : (progress_of (happens w e).1 id).done ≡ true → HasGone w (happens w e).1 id ⊎ Stands w (happens w e).1 id
          inr_done ended = inl (inr ended)
      by_told (inr (inr q)) same = inr (record {
        begun = subst (λ (u : State). is_begun u id ≡ true) (sym q.state) (begun_stays w q.plan id b);
        plan = plan;
        at = ap (λ (u : State). (progress_of u id).at) q.state;
        done = ap (λ (u : State). (progress_of u id).done) q.state;
        since = ap (λ (u : State). since_of u id) q.state
            ∙ ap (λ (x : Start). since_in id x.since 0 w.log) (get_or_append_left w.plans (record { plan = q.plan; since = length w.log } ∷ []) no_start id.plan (begun_parts w id b).0);
        posted = posted;
        version = same;
      })
