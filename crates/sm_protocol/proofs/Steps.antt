-- A step of any stream keeps what holds of every state, and is never refused.
use Rattle.sm_protocol.proofs.Below.{◌≡◌, ℕ, ◌+◌, ◌<◌, ◌≤◌, true, false, Option, Some, None, refl, sym, ap, ◌∙◌, arith, inl, inr, subst, List, length, unwrap_or, slice_get_cases, Gone, put, put2, bit, Place, publish, Describes, lead_of, IsPlacement, StreamId, leads_of, Hold, hold_of, Right, count, stock, bound, Instr, Publish, Unlist, Signal, Wait, is_call, IsOwn, to_list, acts, publishes, IsListable, parcels_of, stream_at, hold_before, calls_before, Entry, lead_of_is, put-here, put-apart, IsOrdered, Effect, effect, signal_counts, wait_counts, signals_known}
use Rattle.sm_protocol.proofs.Words.{Logged, Passage, State, Progress, Mark, plan_at, progress_of, set_progress, reach, behind, ended, step}
use Rattle.sm_protocol.proofs.Invariant.{IsOnCourse, IsRunning, AreNumbered, IsKept, code_of}
use Rattle.sm_protocol.proofs.Holds.{share, load, held_moves, held_moves_signal}
use Rattle.sm_protocol.proofs.Courses.{not_ahead, behind_course, ended_course, stands, posts, awaits, not_posted, not_awaited, some_same}
use Rattle.sm_protocol.proofs.Courses as courses
use Rattle.sm_protocol.proofs.Numbers.{goes_on, same_try}
use Rattle.sm_protocol.proofs.Trials.{IsBegun, running}
use Rattle.sm_protocol.proofs.Keeping.{Keeps, begun, unbegun_after, plans_after, progress_keeps, share_none}
use Rattle.sm_protocol.proofs.Cases.{IsBefore, OfKnownSteps, of_known_step}
use Rattle.sm_protocol.proofs.Tries.{here, runs, turn, can_reach, share_at, scene_now, not_refused, through_keeps, unanswered_keeps, lost_keeps}

-- the progress behind an instruction that is no call
abbrev pub one_on : Progress → Progress
one_on x = record x { at = x.at + 1 }

-- ---- an instruction that is no call

module _ (w : State) (v : IsKept w) (id : StreamId) (x : Instr) (before : IsBefore w id (Some x)) (no_call : is_call x ≡ false) where
  abbrev now : Progress
  now = progress_of w id

  abbrev holds : ℕ → Hold
  holds n = hold_before (stream_at w.sizes (plan_at w id.plan) id.stream) n

  b : IsBegun w id
  b = here w v id x before

  r : IsRunning w.sizes w.place (plan_at w id.plan) (w.progress id.plan) (w.marks id.plan)
  r = runs w v id x before

  -- no call of the stream has had its effect and waits for an answer
  pub unmade : now.ahead ≡ false
  unmade = not_ahead w.sizes w.place (plan_at w id.plan) (w.progress id.plan) (w.marks id.plan) r id.stream b.stream x before.next_is no_call

  course : IsOnCourse w.sizes w.place (plan_at w id.plan) id.stream (one_on now)
  course =
      let n : now.effects ≡ calls_before (stream_at w.sizes (plan_at w id.plan) id.stream) now.at = (r.streams id.stream b.stream).effects ∙ ap (λ q. calls_before (stream_at w.sizes (plan_at w id.plan) id.stream) (reach now.at q)) unmade in
      let t = (turn w v id x before).calls in
      let o : bit (is_call x) ≡ 0 = ap bit no_call in
      behind_course w.sizes w.place (plan_at w id.plan) (w.progress id.plan) (w.marks id.plan) r id.stream b.stream x before.next_is (one_on now) refl unmade refl (omega arith)

  numbered : AreNumbered w.place.last w.next_number (code_of w) (λ i. set_progress w id (one_on now) i.plan i.stream)
  numbered = same_try w.place.last w.next_number (code_of w) (progress_of w) v.numbered id (one_on now) _ (goes_on w id (one_on now)) refl refl (λ t. absurd (let e = unmade in cc))

  -- what the stream holds before it
  pub was : (t : Right) → share w id t now ≡ count (holds now.at) t
  was = share_at w v id x before now now.at before.running (ap (λ q. reach now.at q) unmade)

  -- and what it holds behind it
  pub is : (t : Right) → share w id t (one_on now) ≡ count (holds (now.at + 1)) t
  is = share_at w v id x before (one_on now) (now.at + 1) before.running (ap (λ q. reach (now.at + 1) q) unmade)

  -- ---- a publication

  -- it has its effect, from the hold before it to the hold behind it
  pub own_effect : IsOwn x → Effect w.sizes w.place v.leads w.numbers (holds now.at) (holds (now.at + 1)) x
  own_effect own = effect w.sizes w.place v.leads w.numbers (parcels_of (plan_at w id.plan).signals) (holds now.at)
      (scene_now w v id x before unmade) x (holds (now.at + 1)) (can_reach w v id x before) own (turn w v id x before).leaves

  publication_keeps : (own : IsOwn x) (s : ℕ) (server : Option ℕ) (entries : List (ℕ × Entry)) (log : List Logged) →
      acts w.sizes w.place w.numbers x ≡ Some (publish w.place s server, w.numbers) →
      IsKept (record w { place = publish w.place s server; entries = entries; progress = set_progress w id (one_on now); log = log })
  publication_keeps own s server entries log is_made =
      let e = own_effect own in
      let pair : ◌≡◌ {A = Place × (ℕ → ℕ)} (e.next_place, e.next_numbers) (publish w.place s server, w.numbers) = some_same {T = Place × (ℕ → ℕ)} (e.next_place, e.next_numbers) (publish w.place s server, w.numbers) (sym e.made ∙ is_made) in
      let place : e.next_place ≡ publish w.place s server = ap (λ (z : Place × (ℕ → ℕ)). z.0) pair in
      let numbers : e.next_numbers ≡ w.numbers = ap (λ (z : Place × (ℕ → ℕ)). z.1) pair in
      record {
        leads = e.next_leads;
        stage = record {
          placement = subst (λ p. IsPlacement w.sizes p) place e.scene.placement;
          described = λ s'. subst (λ f. Describes (e.next_leads s') (f s') ((publish w.place s server).cells s')) numbers (subst (λ (p : Place). Describes (e.next_leads s') (e.next_numbers s') (p.cells s')) place (e.scene.described s'));
          listing = λ s'. subst (λ (p : Place). IsListable (e.next_leads s') (p.listed s')) place (e.listed s' (v.stage.listing s'));
        };
        plans = plans_after w v id b (one_on now) (publish w.place s server) w.marks refl (λ j q. refl)
            (courses.goes_on w.sizes w.place (plan_at w id.plan) (w.progress id.plan) (w.marks id.plan) r id.stream b.stream x before.next_is (one_on now) refl own course);
        unbegun = unbegun_after w v id b (one_on now);
        later_marks = v.later_marks;
        fits = λ t.
            let h = held_moves w id (one_on now) b.plan b.stream t in
            let f = v.fits t in
            let u = e.exchanged t in
            let s1 = ap (λ p. stock w.sizes p e.next_leads t) place in
            let b1 = ap (λ p. bound w.sizes p t) place in
            let p = was t in
            let q = is t in
            omega arith;
        numbered = numbered;
      }

-- the lead of a shard is the one that describes its cells
pub lead_is : (w : State) (v : IsKept w) (s : ℕ) → lead_of w.sizes.servers (w.place.cells s) ≡ Some (v.leads s)
lead_is w v s = lead_of_is (v.leads s) (w.numbers s) (w.place.cells s) w.sizes.servers (v.stage.described s) (λ u l. v.stage.placement.no_server s u l)

-- so the lead that is found of a shard is that one
pub leads_are : (w : State) (v : IsKept w) (s : ℕ) → leads_of w.sizes w.place s ≡ v.leads s
leads_are w v s = ap (λ o. unwrap_or o Gone) (lead_is w v s)

-- what a publication of the lead makes
pub publish_acts : (w : State) (v : IsKept w) (s : ℕ) → acts w.sizes w.place w.numbers (Publish s) ≡ Some (publish w.place s (to_list (leads_of w.sizes w.place s)), w.numbers)
publish_acts w v s = ap (λ o. publishes w.place s o w.numbers) (lead_is w v s) ∙ ap (λ l. Some (publish w.place s (to_list l), w.numbers)) (sym (leads_are w v s))

-- ---- signals

-- what a stream and a signal of its plan have together stays as the stream goes on and the signal is marked so
abbrev pub SharesStay : State → StreamId → ℕ → Mark → Type 0
SharesStay w id q z = (t : Right) → share w id t (one_on (progress_of w id)) + load w id.plan t q z ≡ share w id t (progress_of w id) + load w id.plan t q (w.marks id.plan q)

module _ (w : State) (v : IsKept w) (id : StreamId) (q : ℕ) where
  abbrev present : Progress
  present = progress_of w id

  ordered : (x : Instr) (before : IsBefore w id (Some x)) → IsOrdered (parcels_of (plan_at w id.plan).signals q)
  ordered x before = let r = runs w v id x before in (signals_known w.sizes.shards w.sizes.servers (plan_at w id.plan) r.checked.parts.parcels r.checked.fits).ordered q

  -- a signal that the stream stands before is one of its plan, and neither posted nor awaited yet
  pub signal_once : (before : IsBefore w id (Some (Signal q))) → (q < length (plan_at w id.plan).signals) × ((w.marks id.plan q).posted ≡ false) × ((w.marks id.plan q).awaited ≡ false)
  signal_once before = let b = here w v id (Signal q) before in not_posted w.sizes w.place (plan_at w id.plan) (w.progress id.plan) (w.marks id.plan) (running w v id b) id.stream b.stream q before.next_is

  -- and one whose wait it stands before is not awaited yet
  pub wait_once : (before : IsBefore w id (Some (Wait q))) → (q < length (plan_at w id.plan).signals) × ((w.marks id.plan q).awaited ≡ false)
  wait_once before = let b = here w v id (Wait q) before in not_awaited w.sizes w.place (plan_at w id.plan) (w.progress id.plan) (w.marks id.plan) (running w v id b) id.stream b.stream q before.next_is

  -- what the stream gives up as it posts a signal, the signal's parcel carries
  pub signal_shares : (before : IsBefore w id (Some (Signal q))) → SharesStay w id q (record (w.marks id.plan q) { posted = true })
  signal_shares before t =
      let once = signal_once before in
      let p = was w v id (Signal q) before refl t in
      let n = is w v id (Signal q) before refl t in
      let g = signal_counts _ _ (parcels_of (plan_at w id.plan).signals q) (ordered (Signal q) before) (turn w v id (Signal q) before).leaves t in
      let old : load w id.plan t q (w.marks id.plan q) ≡ 0 = rw (once.1) refl in
      let new : load w id.plan t q (record (w.marks id.plan q) { posted = true }) ≡ count (hold_of (parcels_of (plan_at w id.plan).signals q)) t = rw (once.2) refl in
      omega arith

  -- and what the parcel carried, the stream holds once it has awaited it
  pub wait_shares : (before : IsBefore w id (Some (Wait q))) → (w.marks id.plan q).posted ≡ true → SharesStay w id q (record (w.marks id.plan q) { awaited = true })
  wait_shares before e t =
      let once = wait_once before in
      let p = was w v id (Wait q) before refl t in
      let n = is w v id (Wait q) before refl t in
      let g = wait_counts _ _ (parcels_of (plan_at w id.plan).signals q) (ordered (Wait q) before) (turn w v id (Wait q) before).leaves t in
      let old : load w id.plan t q (w.marks id.plan q) ≡ count (hold_of (parcels_of (plan_at w id.plan).signals q)) t = rw (e, once.1) refl in
      let new : load w id.plan t q (record (w.marks id.plan q) { awaited = true }) ≡ 0 = rw e refl in
      omega arith

  -- a signal of its plan is marked
  marked : (x : Instr) (before : IsBefore w id (Some x)) (no_call : is_call x ≡ false) (z : Mark) (log : List Logged) → q < length (plan_at w id.plan).signals → SharesStay w id q z →
      IsRunning w.sizes w.place (plan_at w id.plan) (put (w.progress id.plan) id.stream (one_on present)) (put (w.marks id.plan) q z) →
      IsKept (record w { marks = put2 w.marks id.plan q z; progress = behind w id; log = log })
  marked x before no_call z log known shares runs =
      let b = here w v id x before in
      let k = id.plan in
      record {
        leads = v.leads;
        stage = v.stage;
        plans = plans_after w v id b (one_on present) w.place (put2 w.marks k q z) refl (λ j e. put-apart w.marks k (put (w.marks k) q z) j e)
            (subst (λ m. IsRunning w.sizes w.place (plan_at w k) (put (w.progress k) id.stream (one_on present)) m) (sym (put-here w.marks k (put (w.marks k) q z) k refl)) runs);
        unbegun = unbegun_after w v id b (one_on present);
        later_marks = λ j n l. ap (λ f. f n) (put-apart w.marks k (put (w.marks k) q z) j (λ e. absurd (let p = b.plan in omega arith))) ∙ v.later_marks j n l;
        fits = λ t.
            let h = held_moves_signal w id (one_on present) b.plan b.stream t q z known in
            let f = v.fits t in
            let s = shares t in
            omega arith;
        numbered = numbered w v id x before no_call;
      }

  signal_keeps : (before : IsBefore w id (Some (Signal q))) (log : List Logged) →
      IsKept (record w { marks = put2 w.marks id.plan q (record (w.marks id.plan q) { posted = true }); progress = behind w id; log = log })
  signal_keeps before log =
      let b = here w v id (Signal q) before in
      marked (Signal q) before refl (record (w.marks id.plan q) { posted = true }) log (signal_once before).0 (signal_shares before)
      (posts w.sizes w.place (plan_at w id.plan) (w.progress id.plan) (w.marks id.plan) (running w v id b) id.stream b.stream q (one_on present) _ before.next_is refl (course w v id (Signal q) before refl) refl refl)

  wait_keeps : (before : IsBefore w id (Some (Wait q))) (log : List Logged) → (w.marks id.plan q).posted ≡ true →
      IsKept (record w { marks = put2 w.marks id.plan q (record (w.marks id.plan q) { awaited = true }); progress = behind w id; log = log })
  wait_keeps before log e =
      let b = here w v id (Wait q) before in
      marked (Wait q) before refl (record (w.marks id.plan q) { awaited = true }) log (wait_once before).0 (wait_shares before e)
      (awaits w.sizes w.place (plan_at w id.plan) (w.progress id.plan) (w.marks id.plan) (running w v id b) id.stream b.stream q (one_on present) _ before.next_is refl (course w v id (Wait q) before refl) e refl refl)

-- ---- ends

end_keeps : (w : State) (v : IsKept w) (id : StreamId) → IsBefore w id None → IsKept (ended w id).1
end_keeps w v id before =
    let k = id.plan in
    let b = begun w id before.begun in
    let r = running w v id b in
    let y : Progress = record (progress_of w id) { done = true } in
    let ok = ended_course w.sizes w.place (plan_at w k) (w.progress k) (w.marks k) r id.stream b.stream y refl refl refl refl (at_end (r.streams id.stream b.stream).within) in
    progress_keeps w v id b y w.next_number _ (stands w.sizes w.place (plan_at w k) (w.progress k) (w.marks k) r id.stream b.stream y refl ok)
    (λ t. let z = share_none w id t y refl in omega arith)
    (same_try w.place.last w.next_number (code_of w) (progress_of w) v.numbered id y _ (goes_on w id y) refl refl (λ t. refl))
  where
    at_end : (progress_of w id).at ≤ length (code_of w id) → (progress_of w id).at ≡ length (code_of w id)
    at_end l = elim (slice_get_cases (code_of w id) (progress_of w id).at).1 [
      | inl h ↦ absurd (let e = h.2 in let f = before.next_is in cc)
      | inr h ↦ omega arith
    ]

-- ---- all steps

-- whatever else is known
pub kept_by_steps : (w : State) (v : IsKept w) (id : StreamId) (passage : Passage) (F : Type 0) → OfKnownSteps w id passage (λ o. F → Keeps o)
kept_by_steps w v id passage F = record {
  idle = λ answer f. ((λ e. cc), v);
  refused = λ i x why t e f. absurd (not_refused w v id i x t why e);
  at_end = λ b f. ((λ e. cc), end_keeps w v id b);
  publishes = λ s b f. ((λ e. cc), publication_keeps w v id (Publish s) b refl tt s (to_list (leads_of w.sizes w.place s)) _ _ (publish_acts w v s));
  unlists = λ s b f. ((λ e. cc), publication_keeps w v id (Unlist s) b refl tt s None _ _ refl);
  posts = λ q b f. ((λ e. cc), signal_keeps w v id q b _);
  awaits = λ q b e f. ((λ e. cc), wait_keeps w v id q b _ e);
  lost = λ i x t p f. ((λ e. cc), lost_keeps w v id i x t);
  through = λ i x effect t a p f. ((λ e. cc), through_keeps w v id i x t effect a);
  unanswered = λ i x effect t a p f. ((λ e. cc), unanswered_keeps w v id i x t effect a);
}

-- a step keeps what holds of every state, and is never refused
pub step_keeps : (w : State) (v : IsKept w) (id : StreamId) (passage : Passage) → Keeps (step w id passage)
step_keeps w v id passage = of_known_step w id passage (λ o. Unit {0} → Keeps o) (kept_by_steps w v id passage (Unit {0})) tt
