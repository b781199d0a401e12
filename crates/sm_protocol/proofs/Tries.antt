-- The next act of a stream, and its tries of calls: they keep what holds of every state, and none is refused.
use Rattle.sm_protocol.proofs.Below.{◌≡◌, ◌≢◌, ◌⊎◌, ℕ, ◌+◌, Bool, true, false, List, Some, Result, Ok, Err, refl, sym, ap, ◌∙◌, arith, inl, inr, subst, slice_get, cases_Bool, called_numbered, Refusal, put, put2, bit, CallEffect, set_last, with_lasts, Describes, StreamId, Hold, Right, count, Instr, Publish, Unlist, Signal, Wait, ServerCall, is_call, IsOwn, shard_of, names_of, next_call, IsReachable, IsScene, NumberedEffect, SameRights, touched, IsWithinReach, parcels_of, stream_at, hold_before, calls_before, numbered_again, lasts_are_unseen, numbered_effect, within_reach}
use Rattle.sm_protocol.proofs.Words.{Event, Played, Logged, State, Progress, plan_at, progress_of, set_progress, reach, hold_of_stream, call_number, number_after_try, call_again, tried_more, behind_call, ahead_of_call, served_try, call_lost}
use Rattle.sm_protocol.specs.declared.event.Event.TheVariants as event
use Rattle.sm_protocol.specs.declared.event.Played.TheVariants.{Moved, Lost}
use Rattle.sm_protocol.proofs.Cases.{IsBefore, IsTry, answer_to}
use Rattle.sm_protocol.proofs.Invariant.{IsOnCourse, IsRunning, AreNumbered, IsKept, code_of}
use Rattle.sm_protocol.proofs.Holds.{share, held_moves}
use Rattle.sm_protocol.proofs.Courses.{IsNextTurn, not_done, next_turn, good, same_course, behind_course, ahead_course, stands, some_same}
use Rattle.sm_protocol.proofs.Courses as courses
use Rattle.sm_protocol.proofs.Numbers.{goes_on, IsTryNumber, is_try_number, same_try, answered_again, lost_before, had_answered, had_lost}
use Rattle.sm_protocol.proofs.Trials.{call_at, IsBegun, running, scene, apart, ahead_reaches}
use Rattle.sm_protocol.proofs.Keeping.{begun, is_begun_true, unbegun_after, plans_after, progress_keeps, begun_where_ahead, share_now}

-- ---- the cell of a call

-- a call is neither a signal nor a wait
pub call_is_own : (x : Instr) → is_call x ≡ true → IsOwn x
call_is_own (Signal k) e = cc
call_is_own (Wait k) e = cc
call_is_own _ e = tt

-- the call goes to the cell that the instruction touches
abbrev pub IsCallTo : Instr → ServerCall → Type 0
IsCallTo x call = (touched x ≡ Some (call.shard, call.server)) × ((names_of x).first ≡ Some call.server)

-- the next call does
pub next_goes_to : (numbers : ℕ → ℕ) (x : Instr) (call : ServerCall) → is_call x ≡ true → next_call numbers x ≡ Some call → IsCallTo x call
next_goes_to numbers x call is next = let c = call_at numbers x is in subst (IsCallTo x) (some_same c.call call (sym c.next ∙ next)) (c.touches, c.mentions)

-- and so does the call that is made again
pub again_goes_to : (numbers : ℕ → ℕ) (x : Instr) (call : ServerCall) → call_again numbers x (shard_of x) ≡ Some call → IsCallTo x call
again_goes_to numbers (Publish s) call e = cc
again_goes_to numbers (Unlist s) call e = cc
again_goes_to numbers (Signal k) call e = cc
again_goes_to numbers (Wait k) call e = cc
again_goes_to numbers x call e = subst (IsCallTo x) (some_same _ call e) (refl, refl)

-- the call that is made again goes to the same cell
pub again_at : (numbers : ℕ → ℕ) (x : Instr) (call : ServerCall) → next_call numbers x ≡ Some call → (again : ServerCall) × (call_again numbers x (shard_of x) ≡ Some again) × (again.shard ≡ call.shard) × (again.server ≡ call.server)
again_at numbers (Publish s) call e = cc
again_at numbers (Unlist s) call e = cc
again_at numbers (Signal k) call e = cc
again_at numbers (Wait k) call e = cc
again_at numbers _ call e = let q = some_same _ call e in (_, refl, ap (λ z. z.shard) q, ap (λ z. z.server) q)

-- ---- what a stream stands before

module _ (w : State) (v : IsKept w) (id : StreamId) (x : Instr) (before : IsBefore w id (Some x)) where
  abbrev now : Progress
  now = progress_of w id

  -- the stream was begun
  pub here : IsBegun w id
  here = begun w id before.begun

  -- its plan runs
  pub runs : IsRunning w.sizes w.place (plan_at w id.plan) (w.progress id.plan) (w.marks id.plan)
  runs = running w v id here

  -- its instruction is in its turn
  pub turn : IsNextTurn w.sizes (plan_at w id.plan) id.stream now.at x
  turn = next_turn w.sizes (plan_at w id.plan) id.stream now.at x (good w.sizes w.place (plan_at w id.plan) (w.progress id.plan) (w.marks id.plan) runs id.stream here.stream) before.next_is

  -- the shard that it names is known, and the servers that it mentions are known and up
  pub can_reach : IsReachable w.sizes w.place x
  can_reach = (runs.streams id.stream here.stream).reachable before.running now.at x before.next_is

  abbrev pub hold_at : ℕ → Hold
  hold_at n = hold_before (stream_at w.sizes (plan_at w id.plan) id.stream) n

  -- what it holds where it has come so far
  pub share_at : (y : Progress) (n : ℕ) → y.done ≡ false → reach y.at y.ahead ≡ n → (t : Right) → share w id t y ≡ count (hold_at n) t
  share_at y n d at t = share_now w id t y d ∙ ap (λ q. count (hold_at q) t) at

  -- what it holds where its call has had no effect
  pub scene_now : now.ahead ≡ false → IsScene w.sizes w.place v.leads w.numbers (hold_at now.at)
  scene_now a = subst (λ q. IsScene w.sizes w.place v.leads w.numbers (hold_at (reach now.at q))) a (scene w v id here before.running)

  number : IsTryNumber w.place.last w.next_number (code_of w) (progress_of w) v.numbered id
  number = is_try_number w.place.last w.next_number (code_of w) (progress_of w) v.numbered id

  -- a call that has had no effect has it now
  pub has_effect : (a : now.ahead ≡ false) (call : ServerCall) → next_call w.numbers x ≡ Some call → NumberedEffect w.sizes w.place v.leads w.numbers (hold_at now.at) (hold_at (now.at + 1)) x call (call_number w now)
  has_effect a call next = numbered_effect w.sizes w.place v.leads w.numbers (parcels_of (plan_at w id.plan).signals) (hold_at now.at) (hold_at (now.at + 1)) x call (call_number w now)
      (scene_now a) can_reach turn.leaves next (λ e. number.unused a call.shard call.server (sym e))

  -- and one that has had its effect has none again
  has_none : (a : now.ahead ≡ true) (call : ServerCall) → IsCallTo x call → answer_to w id call ≡ Ok (record { place = w.place; fresh = false })
  has_none a call to = numbered_again w.sizes w.place call.shard call.server call.call (call_number w now)
      (can_reach.up call.server (inl to.1)) ((number.kept a).0 ∙ sym (v.numbered.had id x call.shard call.server a before.next_is to.0))

-- the same of a stream that stands at this instruction
module _ (w : State) (v : IsKept w) (id : StreamId) (b : IsBegun w id) (x : Instr) (here : slice_get (code_of w id) (progress_of w id).at ≡ Some x) where
  stands_before : IsBefore w id (Some x)
  stands_before = record { begun = is_begun_true w id b; running = not_done w.sizes w.place (plan_at w id.plan) (w.progress id.plan) (w.marks id.plan) (running w v id b) id.stream b.stream x here; next_is = here }

  -- the shard that the instruction names is known, and the servers that it mentions are known and up
  pub reachable : IsReachable w.sizes w.place x
  reachable = can_reach w v id x stands_before

  -- where no call has had its effect unanswered, the hold before the instruction is true of the placement
  pub scene_before : (progress_of w id).ahead ≡ false → IsScene w.sizes w.place v.leads w.numbers (hold_before (stream_at w.sizes (plan_at w id.plan) id.stream) (progress_of w id).at)
  scene_before = scene_now w v id x stands_before

  module _ (is : is_call x ≡ true) (call : ServerCall) (next : next_call w.numbers x ≡ Some call) (touches : touched x ≡ Some (call.shard, call.server)) (mentions : (names_of x).first ≡ Some call.server) where
    -- a call that has had no effect has it now
    pub effect_now : (progress_of w id).ahead ≡ false → NumberedEffect w.sizes w.place v.leads w.numbers (hold_before (stream_at w.sizes (plan_at w id.plan) id.stream) (progress_of w id).at)
        (hold_before (stream_at w.sizes (plan_at w id.plan) id.stream) ((progress_of w id).at + 1)) x call (call_number w (progress_of w id))
    effect_now a = has_effect w v id x stands_before a call next

    -- and one that has had its effect has none again: the answer is that it isn't fresh
    pub answer_again : (progress_of w id).ahead ≡ true → (again : ServerCall) → again.shard ≡ call.shard → again.server ≡ call.server →
        called_numbered w.sizes w.place again.shard again.server again.call (call_number w (progress_of w id)) ≡ Ok (record { place = w.place; fresh = false })
    answer_again a again s u = has_none w v id x stands_before a again
        (touches ∙ ap (λ n. Some (n, call.server)) (sym s) ∙ ap (λ n. Some (again.shard, n)) (sym u), mentions ∙ ap Some (sym u))

-- ---- a try

module _ (w : State) (v : IsKept w) (id : StreamId) (x : Instr) (call : ServerCall) (t : IsTry w id x call) where
  abbrev at_try : Progress
  at_try = progress_of w id

  abbrev holds : ℕ → Hold
  holds n = hold_before (stream_at w.sizes (plan_at w id.plan) id.stream) n

  b : IsBegun w id
  b = begun w id t.before.begun

  r : IsRunning w.sizes w.place (plan_at w id.plan) (w.progress id.plan) (w.marks id.plan)
  r = running w v id b

  next : at_try.ahead ≡ false → next_call w.numbers x ≡ Some call
  next a = rw a at t.call_is

  again : at_try.ahead ≡ true → call_again w.numbers x (shard_of x) ≡ Some call
  again a = rw a at t.call_is

  goes_to : IsCallTo x call
  goes_to = elim (cases_Bool at_try.ahead) [ inl a ↦ again_goes_to w.numbers x call (again a) | inr a ↦ next_goes_to w.numbers x call t.call (next a) ]

  -- ---- what its server answers

  -- where the call has had no effect, it has it now
  pub first_effect : at_try.ahead ≡ false → NumberedEffect w.sizes w.place v.leads w.numbers (holds at_try.at) (holds (at_try.at + 1)) x call (call_number w at_try)
  first_effect a = has_effect w v id x t.before a call (next a)

  -- where it has had its effect, it has none again
  no_effect : at_try.ahead ≡ true → answer_to w id call ≡ Ok (record { place = w.place; fresh = false })
  no_effect a = has_none w v id x t.before a call goes_to

  -- so what is answered is one of these two
  pub by_answer : (effect : CallEffect) → answer_to w id call ≡ Ok effect → (P : CallEffect → Type 0) →
      ((a : at_try.ahead ≡ false) → P (record { place = set_last (first_effect a).effect.next_place call.shard call.server (call_number w at_try); fresh = true })) →
      (at_try.ahead ≡ true → P (record { place = w.place; fresh = false })) → P effect
  by_answer effect e P first further = elim (cases_Bool at_try.ahead) [
    | inr a ↦ subst P (same_effect _ effect (sym (first_effect a).answered ∙ e)) (first a)
    | inl a ↦ subst P (same_effect _ effect (sym (no_effect a) ∙ e)) (further a)
  ]
    where
      same_effect : (x y : CallEffect) → ◌≡◌ {A = Result CallEffect Refusal} (Ok x) (Ok y) → x ≡ y
      same_effect x y e = cc

  -- so no try is refused
  pub not_refused : (why : Refusal) → answer_to w id call ≡ Err why → ⊥
  not_refused why e = elim (cases_Bool at_try.ahead) [
    | inr a ↦ absurd (let n = (first_effect a).answered in cc)
    | inl a ↦ absurd (let n = no_effect a in cc)
  ]

  -- ---- courses

  plan_further : (y : Progress) → y.at ≡ at_try.at + 1 → IsOnCourse w.sizes w.place (plan_at w id.plan) id.stream y → IsRunning w.sizes w.place (plan_at w id.plan) (put (w.progress id.plan) id.stream y) (w.marks id.plan)
  plan_further y e ok = courses.goes_on w.sizes w.place (plan_at w id.plan) (w.progress id.plan) (w.marks id.plan) r id.stream b.stream x t.before.next_is y e (call_is_own x t.call) ok

  plan_stands : (y : Progress) → y.at ≡ at_try.at → IsOnCourse w.sizes w.place (plan_at w id.plan) id.stream y → IsRunning w.sizes w.place (plan_at w id.plan) (put (w.progress id.plan) id.stream y) (w.marks id.plan)
  plan_stands y e ok = stands w.sizes w.place (plan_at w id.plan) (w.progress id.plan) (w.marks id.plan) r id.stream b.stream y e ok

  -- its effects are those of the calls before its reach
  counts : (fresh : Bool) → ((fresh ≡ true) × (at_try.ahead ≡ false)) ⊎ ((fresh ≡ false) × (at_try.ahead ≡ true)) → at_try.effects + bit fresh ≡ calls_before (stream_at w.sizes (plan_at w id.plan) id.stream) (at_try.at + 1)
  counts fresh (inl (f, a)) =
      let n = (r.streams id.stream b.stream).effects ∙ ap (λ q. calls_before (stream_at w.sizes (plan_at w id.plan) id.stream) (reach at_try.at q)) a in
      let m = (turn w v id x t.before).calls in
      let o : bit (is_call x) ≡ 1 = ap bit t.call in
      let g : bit fresh ≡ 1 = ap bit f in
      omega arith
  counts fresh (inr (f, a)) =
      let n = (r.streams id.stream b.stream).effects ∙ ap (λ q. calls_before (stream_at w.sizes (plan_at w id.plan) id.stream) (reach at_try.at q)) a in
      let g : bit fresh ≡ 0 = ap bit f in
      omega arith

  course_behind : (fresh : Bool) → at_try.effects + bit fresh ≡ calls_before (stream_at w.sizes (plan_at w id.plan) id.stream) (at_try.at + 1) → IsOnCourse w.sizes w.place (plan_at w id.plan) id.stream (behind_call at_try fresh)
  course_behind fresh = behind_course w.sizes w.place (plan_at w id.plan) (w.progress id.plan) (w.marks id.plan) r id.stream b.stream x t.before.next_is (behind_call at_try fresh) refl refl refl

  course_ahead : (fresh : Bool) → at_try.effects + bit fresh ≡ calls_before (stream_at w.sizes (plan_at w id.plan) id.stream) (at_try.at + 1) → IsOnCourse w.sizes w.place (plan_at w id.plan) id.stream (ahead_of_call w at_try fresh)
  course_ahead fresh = ahead_course w.sizes w.place (plan_at w id.plan) (w.progress id.plan) (w.marks id.plan) r id.stream b.stream x t.before.next_is (ahead_of_call w at_try fresh) refl refl refl t.call

  -- ---- a first effect

  -- its cell is reached by no other call under way
  no_other : at_try.ahead ≡ false → (i : StreamId) (instr : Instr) → i ≢ id → (progress_of w i).ahead ≡ true → slice_get (code_of w i) (progress_of w i).at ≡ Some instr → touched instr ≡ Some (call.shard, call.server) → ⊥
  no_other a i instr n h there e =
      let bi = begun_where_ahead w v i h in
      let di = not_done w.sizes w.place (plan_at w i.plan) (w.progress i.plan) (w.marks i.plan) (running w v i bi) i.stream bi.stream instr there in
      let own = within_reach w.sizes (parcels_of (plan_at w id.plan).signals) (holds at_try.at) (holds (at_try.at + 1)) x (turn w v id x t.before).leaves call.shard call.server goes_to.0 in
      let mine : IsWithinReach (hold_of_stream w id.plan id.stream) call.shard call.server = subst (λ q. IsWithinReach (holds (reach at_try.at q)) call.shard call.server) (sym a) own.0 in
      apart w v i id bi b di t.before.running n call.shard call.server (ahead_reaches w v i instr bi h there call.shard call.server e) mine

  kept_after : (a : at_try.ahead ≡ false) (y : Progress) (event : Event) (answer : Played) → IsRunning w.sizes w.place (plan_at w id.plan) (put (w.progress id.plan) id.stream y) (w.marks id.plan) →
      y.done ≡ false → reach y.at y.ahead ≡ at_try.at + 1 →
      AreNumbered (put2 w.place.last call.shard call.server (call_number w at_try)) (number_after_try w at_try) (code_of w) (λ i. set_progress w id y i.plan i.stream) →
      IsKept (served_try w id x (record { place = set_last (first_effect a).effect.next_place call.shard call.server (call_number w at_try); fresh = true }) y event answer)
  kept_after a y event answer runs d at numbered =
      let n = first_effect a in
      let e = n.effect in
      let last = put2 e.next_place.last call.shard call.server (call_number w at_try) in
      let same : SameRights w.sizes e.next_place (with_lasts last e.next_place) = lasts_are_unseen w.sizes e.next_place last in
      record {
        leads = e.next_leads;
        stage = record {
          placement = n.scene.placement;
          described = λ s. subst (λ f. Describes (e.next_leads s) (f s) (e.next_place.cells s)) e.numbered (n.scene.described s);
          listing = λ s. e.listed s (v.stage.listing s);
        };
        plans = plans_after w v id b y _ w.marks e.down (λ j q. refl) runs;
        unbegun = unbegun_after w v id b y;
        later_marks = v.later_marks;
        fits = λ q.
            let h = held_moves w id y b.plan b.stream q in
            let f = v.fits q in
            let u = e.exchanged q in
            let s = same.stock e.next_leads q in
            let o = same.bound q in
            let was = share_at w v id x t.before at_try at_try.at t.before.running (ap (λ p. reach at_try.at p) a) q in
            let is = share_at w v id x t.before y (at_try.at + 1) d at q in
            omega arith;
        numbered = subst (λ f. AreNumbered (put2 f call.shard call.server (call_number w at_try)) (number_after_try w at_try) (code_of w) (λ i. set_progress w id y i.plan i.stream)) (sym e.stays.last) numbered;
      }

  -- ---- no effect

  -- the stream's progress alone, and the next number, are others
  kept_here : (y : Progress) (n : ℕ) (log : List Logged) → IsRunning w.sizes w.place (plan_at w id.plan) (put (w.progress id.plan) id.stream y) (w.marks id.plan) →
      y.done ≡ false → reach y.at y.ahead ≡ reach at_try.at at_try.ahead →
      AreNumbered w.place.last n (code_of w) (λ i. set_progress w id y i.plan i.stream) →
      IsKept (record w { next_number = n; progress = set_progress w id y; log = log })
  kept_here y n log runs d at numbered = progress_keeps w v id b y n log runs (λ q.
      let was = share_at w v id x t.before at_try (reach at_try.at at_try.ahead) t.before.running refl q in
      let is = share_at w v id x t.before y (reach at_try.at at_try.ahead) d at q in
      omega arith) numbered

  -- no new number is used where the call is made again
  same_next : at_try.ahead ≡ true → (y : Progress) → AreNumbered w.place.last w.next_number (code_of w) (λ i. set_progress w id y i.plan i.stream) →
      AreNumbered w.place.last (number_after_try w at_try) (code_of w) (λ i. set_progress w id y i.plan i.stream)
  same_next a y n = subst (λ m. AreNumbered w.place.last m (code_of w) (λ i. set_progress w id y i.plan i.stream)) (sym ((number w v id x t.before).kept a).1) n

  -- ---- all tries

  -- a try that is answered keeps what holds of every state
  pub through_keeps : (effect : CallEffect) → answer_to w id call ≡ Ok effect → IsKept (served_try w id x effect (behind_call at_try effect.fresh) (event.Step id) Moved)
  through_keeps effect e = by_answer effect e (λ f. IsKept (served_try w id x f (behind_call at_try f.fresh) (event.Step id) Moved))
      (λ a.
      let y = behind_call at_try true in
      kept_after a y (event.Step id) Moved (plan_further y refl (course_behind true (counts true (inl (refl, a))))) t.before.running refl
      (had_answered w.place.last w.next_number (code_of w) (progress_of w) v.numbered id y _ (goes_on w id y) call.shard call.server a (no_other a) refl refl))
      (λ a.
      let y = behind_call at_try false in
      kept_here y (number_after_try w at_try) _ (plan_further y refl (course_behind false (counts false (inr (refl, a))))) t.before.running (ap (λ q. reach at_try.at q) (sym a))
      (same_next a y (answered_again w.place.last w.next_number (code_of w) (progress_of w) v.numbered id y _ (goes_on w id y) refl refl)))

  -- and so does one whose answer is lost
  pub unanswered_keeps : (effect : CallEffect) → answer_to w id call ≡ Ok effect → IsKept (served_try w id x effect (ahead_of_call w at_try effect.fresh) (event.Lose id true) Lost)
  unanswered_keeps effect e = by_answer effect e (λ f. IsKept (served_try w id x f (ahead_of_call w at_try f.fresh) (event.Lose id true) Lost))
      (λ a.
      let y = ahead_of_call w at_try true in
      kept_after a y (event.Lose id true) Lost (plan_stands y refl (course_ahead true (counts true (inl (refl, a))))) t.before.running refl
      (had_lost w.place.last w.next_number (code_of w) (progress_of w) v.numbered id y _ (goes_on w id y) call.shard call.server a (no_other a) x t.before.next_is goes_to.0 refl refl refl))
      (λ a.
      let y = ahead_of_call w at_try false in
      kept_here y (number_after_try w at_try) _ (plan_stands y refl (course_ahead false (counts false (inr (refl, a))))) t.before.running (ap (λ q. reach at_try.at q) (sym a))
      (same_next a y (same_try w.place.last w.next_number (code_of w) (progress_of w) v.numbered id y _ (goes_on w id y) ((number w v id x t.before).kept a).0 (sym a) (λ q. refl))))

  -- and one that is lost before its server has it
  pub lost_keeps : IsKept (call_lost w id)
  lost_keeps =
      let y : Progress = record (tried_more at_try false) { pending = call_number w at_try } in
      let zero : at_try.effects + 0 ≡ at_try.effects = omega arith in
      let ok = same_course w.sizes w.place (plan_at w id.plan) (w.progress id.plan) (w.marks id.plan) r id.stream b.stream y refl refl refl zero in
      kept_here y (number_after_try w at_try) _ (plan_stands y refl ok) t.before.running refl
      (elim (cases_Bool at_try.ahead) [
        | inl a ↦ same_next a y (same_try w.place.last w.next_number (code_of w) (progress_of w) v.numbered id y _ (goes_on w id y) ((number w v id x t.before).kept a).0 refl (λ q. refl))
        | inr a ↦ lost_before w.place.last w.next_number (code_of w) (progress_of w) v.numbered id y _ (goes_on w id y) a refl a
      ])
