-- Streams that name a server stand behind a place of the log: their orders have higher numbers than one that was given at that place.
use Rattle.std.proofs.Common.{◌≡◌, ℕ, zero, suc, ◌+◌, ◌≤◌, refl, sym, ap, ◌∙◌, inl, inr, subst, arith, not, Bool, true, false, Option, Some, None, List, [], ◌∷◌, ◌++◌, length}
use Rattle.std.specs.Prelude.{◌&&◌, ◌||◌, nat_lt, if◌then◌else◌, slice_get, slice_index_or}
use Rattle.std.proofs.lemmas.Bool.{and_from, and_parts, cases_Bool, cases_lt, eq-eqb, lt-ltb}
use Rattle.std.proofs.lemmas.List.{get_or_append_left}
use Rattle.std.proofs.Math.Seq.{get_or-append_seam}
use Rattle.sm_reservation.specs.Amounts.{same_listed}
use Rattle.std.specs.List.{list_any}
use Rattle.sm_verifier.specs.Stream.{no_stream}
use Rattle.sm_reservation.specs.declared.stream_id.StreamId.{StreamId}
use Rattle.sm_plan_code.specs.declared.call.ServerCall.{ServerCall}
use Rattle.sm_plan_code.specs.Instr.{is_mentioned, names_of}
use Rattle.sm_plan_code.specs.Plan.{PlanModel, StreamModel}
use Rattle.sm_protocol.specs.State.{Start, State, is_begun, is_running, no_start, progress_of, stream_count, stream_parts}
use Rattle.sm_protocol.specs.Happens.{Happening, engaged, engages, happens, started}
use Rattle.sm_protocol.proofs.Courses.{some_same}
use Rattle.sm_protocol.proofs.LogRoom.{begun_parts, count_started, plan_before}
use Rattle.sm_protocol.proofs.Restarts.{free_streams}
use Rattle.laws_network.specs.Net.{Order, call_now, is_step_of, order_for, order_of, since_in, since_of}
use Rattle.laws_network.proofs.Apart.{mentions}
use Rattle.laws_network.proofs.Events.{at_call_of}
use Rattle.laws_network.proofs.Logged.{IsLine, IsQuiet, begun_by, since_other, since_step, told}

-- each stream that names the server came to its position when the log was that long, above the base
abbrev pub IsBehind : State → ℕ → ℕ → ℕ → Type 0
IsBehind w base v number = (id : StreamId) → is_begun w id ≡ true → engages w v id ≡ true → number ≤ base + since_of w id

-- the log has no step of a stream that was not begun
abbrev pub HasNoSteps : State → Type 0
HasNoSteps w = (id : StreamId) → is_begun w id ≡ false → (start n : ℕ) → since_in id start n w.log ≡ start

-- a stream engages the server by what it has done and by its code
abbrev pub engages_by : ℕ → Bool → StreamModel → Bool
engages_by v done parts = not done && list_any (is_mentioned v) parts.code

module _ (w : State) (base v number : ℕ) (behind : IsBehind w base v number) (top : number ≤ base + length w.log) (none : HasNoSteps w) where
  quiet_behind : (new : State) → IsQuiet w new → IsBehind new base v number
  quiet_behind new q id b e =
      let c = sym (begun_by w new q.plans id) ∙ b in
      let g : engages w v id ≡ true =
      ap (λ d. engages_by v d (stream_parts w id)) (sym (q.still id).1)
      ∙ ap (λ (pl : List Start). let u : State = record w { plans = pl } in engages_by v (progress_of new id).done (stream_parts u id)) (sym q.plans) ∙ e in
      let s : since_of new id ≡ since_of w id =
      ap (λ (pl : List Start). since_in id (slice_index_or pl id.plan no_start).since 0 new.log) q.plans ∙ ap (since_in id (slice_index_or w.plans id.plan no_start).since 0) q.log in
      let l = behind id c g in
      omega arith

  line_behind : (new : State) → IsLine w new → IsBehind new base v number
  line_behind new q id b e =
      let c = sym (begun_by w new q.plans id) ∙ b in
      let start = (slice_index_or w.plans id.plan no_start).since in
      let there : since_of new id ≡ since_in id start 0 (w.log ++ record { event = q.event; answer = q.answer } ∷ []) =
      ap (λ (pl : List Start). since_in id (slice_index_or pl id.plan no_start).since 0 new.log) q.plans ∙ ap (since_in id start 0) q.log in
      elim (cases_Bool (is_step_of id q.event)) [
        | inl s ↦ (let k = since_step id start 0 w.log (record { event = q.event; answer = q.answer }) s in omega arith)
        | inr s ↦
            let k = since_other id start 0 w.log (record { event = q.event; answer = q.answer }) s in
            let g : engages w v id ≡ true =
            ap (λ d. engages_by v d (stream_parts w id)) (sym (q.others id s).1)
            ∙ ap (λ (pl : List Start). let u : State = record w { plans = pl } in engages_by v (progress_of new id).done (stream_parts u id)) (sym q.plans) ∙ e in
            let l = behind id c g in
            let m : since_of w id ≡ since_in id start 0 w.log = refl in
            omega arith
      ]

  -- a stream that was begun just now is one of the new plan
  of_new : (plan : PlanModel) (id : StreamId) → is_begun (started w plan) id ≡ true → is_begun w id ≡ false → id.plan ≡ length w.plans
  of_new plan id b c =
      let p = begun_parts (started w plan) id b in
      let k = count_started w plan in
      elim (cases_lt id.plan (length w.plans)) [
        | inr l ↦ (let z = p.0 in omega arith)
        | inl l ↦ absurd (
            let s : stream_count (started w plan) id.plan ≡ stream_count w id.plan = ap (λ (x : PlanModel). length x.streams) (plan_before w plan id.plan l) in
            let z = p.1 in
            let d = and_from (nat_lt id.plan (length w.plans)) (nat_lt id.stream (stream_count w id.plan)) (lt-ltb id.plan (length w.plans) l) (lt-ltb id.stream (stream_count w id.plan) (omega arith)) in
            cc
            )
      ]

  start_behind : (plan : PlanModel) → IsBehind (started w plan) base v number
  start_behind plan id b e = elim (cases_Bool (is_begun w id)) [
    | inl c ↦
        let p = (begun_parts w id c).0 in
        let g : engages w v id ≡ true =
        ap (λ (x : PlanModel). engages_by v (progress_of w id).done (slice_index_or x.streams id.stream no_stream)) (sym (plan_before w plan id.plan p)) ∙ e in
        let s : since_of (started w plan) id ≡ since_of w id =
        ap (λ (x : Start). since_in id x.since 0 w.log) (get_or_append_left w.plans (record { plan = plan; since = length w.log } ∷ []) no_start id.plan p) in
        let l = behind id c g in
        omega arith
    | inr c ↦
        let q = of_new plan id b c in
        let n = none id c (slice_index_or (started w plan).plans id.plan no_start).since 0 in
        let s : (slice_index_or (started w plan).plans id.plan no_start).since ≡ length w.log =
        ap (λ k. (slice_index_or (started w plan).plans k no_start).since) q ∙ ap (λ (x : Start). x.since) (get_or-append_seam w.plans (record { plan = plan; since = length w.log }) [] no_start) in
        omega arith
  ]

  -- they still do after an event
  pub behind_next : (e : Happening) → IsBehind (happens w e).1 base v number
  behind_next e = elim (told w e) [
    | inl q ↦ quiet_behind (happens w e).1 q
    | inr (inl q) ↦ line_behind (happens w e).1 q
    | inr (inr q) ↦ subst (λ (u : State). IsBehind u base v number) (sym q.state) (start_behind q.plan)
  ]

-- no unfinished stream names the server
abbrev pub IsUnnamed : State → ℕ → Type 0
IsUnnamed w v = (id : StreamId) → is_begun w id ≡ true → engages w v id ≡ false

-- so it is if none is found
pub unnamed : (w : State) (v : ℕ) → engaged w v ≡ None → IsUnnamed w v
unnamed w v none id b = let p = begun_parts w id b in free_streams w v none id (record { plan = p.0; stream = p.1 })

-- then all that will name it stand behind the log's end
pub behind_all : (w : State) (base v number : ℕ) → IsUnnamed w v → IsBehind w base v number
behind_all w base v number free id b e = absurd (let z : true ≡ false = sym e ∙ free id b in cc)

-- one that passes at a place
pub any_at : {T : Type 0} (t : T → Bool) (xs : List T) (n : ℕ) (x : T) → slice_get xs n ≡ Some x → t x ≡ true → list_any t xs ≡ true
any_at t [] n x h e = absurd (cc)
any_at t (y ∷ ys) zero x h e = let a : t y ≡ true = ap t (some_same y x h) ∙ e in rw a refl
any_at t (y ∷ ys) (suc n) x h e = ap (λ b. t y || b) (any_at t ys n x h e) ∙ or_true (t y)
  where
    or_true : (b : Bool) → (b || true) ≡ true
    or_true true = refl
    or_true false = refl

-- the stream whose order is for a server names it
pub present_engages : (base : ℕ) (w : State) (id : StreamId) (o : Order) → order_of base w id ≡ Some o → (is_begun w id ≡ true) × (engages w o.call.server id ≡ true) × (o.number ≡ base + since_of w id + 1)
present_engages base w id o e = go (is_running w id) (call_now w id) refl refl e
  where
    go : (b : Bool) (c : Option ServerCall) → is_running w id ≡ b → call_now w id ≡ c → (if b then order_for base w id c else None) ≡ Some o →
        (is_begun w id ≡ true) × (engages w o.call.server id ≡ true) × (o.number ≡ base + since_of w id + 1)
    go false c r q e = absurd (cc)
    go true None r q e = absurd (cc)
    go true (Some x) r q e =
        let p = and_parts (is_begun w id) (not (progress_of w id).done) r in
        let t = at_call_of w id x r q in
        let m = mentions w.numbers t.0 x t.1.call t.1.next in
        let named : is_mentioned x.server t.0 ≡ true = (let s : same_listed (names_of t.0).first (Some x.server) ≡ true = rw (m, eq-eqb x.server x.server refl) refl in rw s refl) in
        let code = any_at (is_mentioned x.server) (stream_parts w id).code (progress_of w id).at t.0 t.1.before.next_is named in
        let g : engages w x.server id ≡ true = and_from (not (progress_of w id).done) _ p.1 code in
        let same = some_same _ o e in
        (p.0, ap (λ (z : Order). engages w z.call.server id) (sym same) ∙ g, ap (λ (z : Order). z.number) (sym same))

-- if no stream names a server, none has an order for it
pub none_for : (base : ℕ) (w : State) (v : ℕ) → IsUnnamed w v → (id : StreamId) (o : Order) → order_of base w id ≡ Some o → o.call.server ≡ v → ⊥
none_for base w v free id o e server =
    let p = present_engages base w id o e in
    let g : engages w v id ≡ true = subst (λ u. engages w u id ≡ true) server p.1 in
    absurd (let z : true ≡ false = sym g ∙ free id p.0 in cc)
