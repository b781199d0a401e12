-- Each plan of a configuration is sound or has a fault: the tests of the check, made in definitions alone.
use Rattle.std.proofs.Common.{◌≡◌, ◌≢◌, ◌⊎◌, ℕ, ◌-◌, ◌<◌, ◌≤◌, zero, suc, add-one, true, Option, Some, None, Result, Ok, Err, List, [], ◌∷◌, ◌++◌, length, map, take, min, get_or, refl, sym, ap, ◌∙◌, arith, inl, inr, subst, length-append, zero-add, option_map}
use Rattle.std.specs.Prelude.{IfSome, IsOk, slice_get}
use Rattle.std.specs.List.{range_with_len}
use Rattle.std.specs.Global.{Vec}
use denote.RawPtr.{null_ptr}
use Rattle.std.proofs.lemmas.Bool.{cases_Bool, cases_eq, cases_lt}
use Rattle.std.proofs.lemmas.List.Elements.{All-nil, Contains-push, Contains-append_left, Contains-append_right, Contains-append_cases, Contains-push_cases}
use Rattle.std.proofs.lemmas.List.{length-map}
use Rattle.std.proofs.lemmas.List.FromFn.{length-range_with_len, get_or-range_with_len}
use Rattle.std.proofs.lemmas.Option.{slice_get_cases, slice_get_past, slice_get-get_or, slice_get-map}
use Rattle.std.proofs.Math.Seq.{take-length}
use Rattle.sm_placement.specs.declared.lead.Lead.{Lead}
use Rattle.sm_placement.specs.Lead.{is_at_rest}
use Rattle.sm_placement.specs.Setup.{Sizes}
use Rattle.sm_placement.specs.Sums.{put, sum_below}
use Rattle.sm_placement.proofs.Sums.{put-here, put-apart, same_sum}
use Rattle.sm_reservation.specs.Hold.{Hold}
use Rattle.sm_reservation.specs.HoldOf.{hold_of}
use Rattle.sm_plan_code.specs.declared.instruction.Instr.{Instr}
use Rattle.sm_plan_code.specs.declared.instruction.Instr.TheVariants.{PrepareAdd, PrepareDrop, Add, Drop, Change, Publish, Unlist, Signal, Wait}
use Rattle.sm_plan_code.specs.declared.instruction.Why.{Why}
use Rattle.sm_plan_code.specs.declared.instruction.Why.TheVariants.{Unsettled}
use Rattle.sm_plan_code.specs.Plan.{StreamModel, PlanModel, HasOrderedParcels, IsPlan, IsKnownStream, IsKnownPlan}
use Rattle.sm_plan_code.proofs.Known.{along_below, parcel_below, signals_known}
use Rattle.sm_verifier.specs.declared.checking.Fault.TheVariants.{Budget, SignalNotOnce, Stream, Stuck}
use Rattle.sm_verifier.specs.Step.{parcels_of}
use Rattle.sm_verifier.specs.Stream.{Course, final_hold, hold_before, calls_before, HasCrownsAtRest, IsGood, made_at, BreaksAt, IsFirstBreak, stream_at, no_stream}
use Rattle.sm_verifier.specs.Order.{code_at, PlanStep, IsPosted, IsRun, HasOrder, IsStuckAt}
use Rattle.sm_verifier.specs.Plan.{total_budget, posts, waits, IsUsedOnce}
use Rattle.sm_verifier.specs.Verdict.{HasVerdict}
use Rattle.sm_verifier.specs.Walk.{CanGoOn}
use Rattle.sm_verifier.proofs.Streams.{one_more, made_of, made_ok, said_of, first_break}
use Rattle.sm_verifier.proofs.Runs.{no_further}
use Rattle.sm_verifier.proofs.Runs.{one_more as run_more}
use Rattle.sm_verifier.proofs.Walks.{same_run}

-- ---- searches

-- where one of two things holds at each number, the first holds at all of them, or there is a first number at which the
-- second does
pub first_or_all : (P Q : ℕ → Type 0) (n : ℕ) → ((k : ℕ) → k < n → P k ⊎ Q k) → ((k : ℕ) → k < n → P k) ⊎ ((k : ℕ) × (k < n) × Q k × ((j : ℕ) → j < k → P j))
first_or_all P Q zero either = inl (λ k l. absurd (omega arith))
first_or_all P Q (suc n) either = elim (first_or_all P Q n (λ k l. either k (omega arith))) [
  | inl all ↦ elim (either n (omega arith)) [
    | inl here ↦ inl (λ k l. elim (cases_eq k n) [ inl same ↦ rw same here | inr other ↦ all k (omega arith) ])
    | inr here ↦ inr (n, omega arith, here, all)
  ]
  | inr found ↦ inr (found.0, let l = found.1 in omega arith, found.2, found.3)
]

-- ---- a stream

module _ (s : Course) (limit : ℕ) (none : (t : ℕ) → limit ≤ t → (final_hold s).crowns t ≡ None) where
  abbrev Rests : ℕ → Type 0
  Rests t = IfSome ((final_hold s).crowns t) (λ crown. is_at_rest crown.0 ≡ true)

  rests_at : (t : ℕ) → Rests t ⊎ ¬ Rests t
  rests_at t = go ((final_hold s).crowns t)
    where
      go : (o : Option (Lead × Option ℕ)) → IfSome o (λ crown. is_at_rest crown.0 ≡ true) ⊎ ¬ IfSome o (λ crown. is_at_rest crown.0 ≡ true)
      go None = inl tt
      go (Some crown) = elim (cases_Bool (is_at_rest crown.0)) [ inl rests ↦ inl rests | inr moves ↦ inr (λ rests. cc) ]

  -- each crown that is held at the end is at rest, or one is not
  rests_or : HasCrownsAtRest (final_hold s) ⊎ ¬ HasCrownsAtRest (final_hold s)
  rests_or = elim (first_or_all Rests (λ t. ¬ Rests t) limit (λ t l. rests_at t)) [
    | inl all ↦ inl (λ t. elim (cases_lt t limit) [ inl l ↦ all t l | inr l ↦ rw (none t l) tt ])
    | inr found ↦ inr (λ all. found.2 (all found.0))
  ]

  abbrev Breaks : Type 0
  Breaks = (p : ℕ) × (why : Why) × IsFirstBreak s p why

  -- the first so many instructions are made within the budget
  record IsMadeTo (p : ℕ) : Type 0 where
    within : calls_before s p ≤ s.budget
    made : (q : ℕ) → q < p → IfSome (slice_get s.code q) (λ i. IsOk (made_at s q i))

  breaks_here : (p : ℕ) (why : Why) → p ≤ length s.code → IsMadeTo p → BreaksAt s p why → Breaks
  breaks_here p why within is here = (p, why, first_break s p why within is.made here)

  -- the next instruction is made, or breaks the stream off
  next_made : (p : ℕ) (i : Instr) (said : Result Hold Why) → p < length s.code → slice_get s.code p ≡ Some i → made_at s p i ≡ said → IsMadeTo p → IsMadeTo (suc p) ⊎ Breaks
  next_made p i (Ok h) l e is so_far =
      let parts = made_of s.budget (calls_before s p) i (said_of s i (hold_before s p)) h so_far.within is in
      inl (record {
        within = subst (λ n. calls_before s n ≤ s.budget) (add-one p) (let more = one_more s p i e in let m = parts.1 in omega arith);
        made = λ q l. elim (cases_eq q p) [ inl same ↦ rw (same, e, is) refl | inr other ↦ so_far.made q (omega arith) ];
      })
  next_made p i (Err why) l e is so_far = inr (breaks_here p why (omega arith) so_far (rw e is))

  made_to : (p : ℕ) → p ≤ length s.code → IsMadeTo p ⊎ Breaks
  made_to zero l = inl (record { within = omega arith; made = λ q l. absurd (omega arith) })
  made_to (suc p) l = elim (made_to p (omega arith)) [
    | inl so_far ↦ elim (slice_get_cases s.code p).1 [
      | inl at ↦ next_made p at.0 (made_at s p at.0) (omega arith) at.2 refl so_far
      | inr past ↦ absurd (let m = past.0 in omega arith)
    ]
    | inr breaks ↦ inr breaks
  ]

  -- a stream is good, or breaks off first at some position
  pub good_or_breaks : IsGood s ⊎ Breaks
  good_or_breaks = elim (made_to (length s.code) (omega arith)) [
    | inl all ↦ elim rests_or [
      | inl settled ↦ inl (record {
        made = λ q. elim (cases_lt q (length s.code)) [
          | inl l ↦ made_ok s q (slice_get s.code q) (all.made q l)
          | inr l ↦ rw (slice_get_past s.code q l) tt
        ];
        settled = settled;
        within = let whole : take (length s.code) s.code ≡ s.code = take-length s.code in rw (whole) at all.within;
      })
      | inr unsettled ↦ inr (breaks_here (length s.code) Unsettled (omega arith) all (rw (slice_get_past s.code (length s.code) (omega arith)) (refl, refl, unsettled)))
    ]
    | inr breaks ↦ inr breaks
  ]

-- ---- the order

-- whether an instruction posts a signal
is_signal : (k : ℕ) (o : Option Instr) → (o ≡ Some (Signal k)) ⊎ (o ≡ Some (Signal k) → ⊥)
is_signal k None = inr (λ e. absurd (cc))
is_signal k (Some (Signal j)) = elim (cases_eq j k) [ inl same ↦ inl (rw same refl) | inr other ↦ inr (λ e. other (cc)) ]
is_signal k (Some (PrepareAdd s v u)) = inr (λ e. absurd (cc))
is_signal k (Some (PrepareDrop s u v)) = inr (λ e. absurd (cc))
is_signal k (Some (Add s v role)) = inr (λ e. absurd (cc))
is_signal k (Some (Drop s v)) = inr (λ e. absurd (cc))
is_signal k (Some (Change s v to)) = inr (λ e. absurd (cc))
is_signal k (Some (Publish s)) = inr (λ e. absurd (cc))
is_signal k (Some (Unlist s)) = inr (λ e. absurd (cc))
is_signal k (Some (Wait j)) = inr (λ e. absurd (cc))

-- how many steps are left, where each stream has made so many
abbrev left : PlanModel → (ℕ → ℕ) → ℕ
left plan to = sum_below (length plan.streams) (λ i. suc (length (code_at plan i)) - to i)

-- a sum of which one term is less
sum_less : (n i : ℕ) (f g : ℕ → ℕ) → i < n → g i < f i → ((j : ℕ) → j ≢ i → g j ≡ f j) → sum_below n g < sum_below n f
sum_less zero i f g l less others = absurd (omega arith)
sum_less (suc n) i f g l less others = elim (cases_eq i n) [
  | inl same ↦
      let front = same_sum n g f (λ j m. others j (λ (e : j ≡ i). absurd (omega arith))) in
      let last : g n < f n = rw (← same) less in
      omega arith
  | inr other ↦
      let front = sum_less n i f g (omega arith) less others in
      let last = others n (λ (e : n ≡ i). other (sym e)) in
      omega arith
]

module _ (plan : PlanModel) where
  -- whether one of these steps posts a signal
  posted_or : (k : ℕ) (steps : List PlanStep) → IsPosted plan k steps ⊎ ¬ IsPosted plan k steps
  posted_or k [] = inr (λ p. absurd (let l = p.1.1 in omega arith))
  posted_or k (step ∷ rest) = elim (is_signal k (slice_get (code_at plan step.0) step.1)) [
    | inl here ↦ inl (step, Contains-append_left (step ∷ []) rest step (Contains-push [] step), here)
    | inr other ↦ elim (posted_or k rest) [
      | inl p ↦ inl (p.0, Contains-append_right (step ∷ []) rest p.0 p.1, p.2)
      | inr none ↦ inr (λ p. elim (Contains-append_cases (step ∷ []) rest p.0 p.1) [
        | inl one ↦ elim (Contains-push_cases [] step p.0 one) [
          | inl nothing ↦ absurd (let l = nothing.1 in omega arith)
          | inr same ↦ other (rw (← same) at p.2)
        ]
        | inr more ↦ none (p.0, more, p.2)
      ])
    ]
  ]

  -- what the instruction waits for is posted by these steps
  abbrev IsReady : List PlanStep → Option Instr → Type 0
  IsReady steps o = (k : ℕ) → o ≡ Some (Wait k) → IsPosted plan k steps

  ready_or : (steps : List PlanStep) (o : Option Instr) → IsReady steps o ⊎ ¬ IsReady steps o
  ready_or steps None = inl (λ k e. absurd (cc))
  ready_or steps (Some (Wait j)) = elim (posted_or j steps) [ inl posted ↦ inl (λ k e. let same : j ≡ k = cc in rw (← same) posted) | inr none ↦ inr (λ all. none (all j refl)) ]
  ready_or steps (Some (Signal j)) = inl (λ k e. absurd (cc))
  ready_or steps (Some (PrepareAdd s v u)) = inl (λ k e. absurd (cc))
  ready_or steps (Some (PrepareDrop s u v)) = inl (λ k e. absurd (cc))
  ready_or steps (Some (Add s v role)) = inl (λ k e. absurd (cc))
  ready_or steps (Some (Drop s v)) = inl (λ k e. absurd (cc))
  ready_or steps (Some (Change s v to)) = inl (λ k e. absurd (cc))
  ready_or steps (Some (Publish s)) = inl (λ k e. absurd (cc))
  ready_or steps (Some (Unlist s)) = inl (λ k e. absurd (cc))

  -- whether a stream can go on
  goes_or : (steps : List PlanStep) (to : ℕ → ℕ) (i : ℕ) → (¬ CanGoOn plan steps to i) ⊎ CanGoOn plan steps to i
  goes_or steps to i = elim (cases_lt (length (code_at plan i)) (to i)) [
    | inl past ↦ inl (λ go. absurd (let w = go.within in omega arith))
    | inr within ↦ elim (ready_or steps (slice_get (code_at plan i) (to i))) [
      | inl ready ↦ inr (record { within = within; posted = ready })
      | inr waits ↦ inl (λ go. waits go.posted)
    ]
  ]

  -- a run after which no stream can go on
  record IsEnd (steps : List PlanStep) (to : ℕ → ℕ) : Type 0 where
    run : IsRun plan steps to
    stuck : (i : ℕ) → i < length plan.streams → ¬ CanGoOn plan steps to i

  -- from a run, steps are made as long as some stream can go on
  go_on : (fuel : ℕ) (steps : List PlanStep) (to : ℕ → ℕ) → IsRun plan steps to → left plan to < fuel → (end : List PlanStep) × (by : ℕ → ℕ) × IsEnd end by
  go_on zero steps to run enough = absurd (omega arith)
  go_on (suc fuel) steps to run enough = elim (first_or_all (λ i. ¬ CanGoOn plan steps to i) (CanGoOn plan steps to) (length plan.streams) (λ i l. goes_or steps to i)) [
    | inl stuck ↦ (steps, to, record { run = run; stuck = stuck })
    | inr found ↦
        let i = found.0 in
        let by : ℕ → ℕ = put to i (suc (to i)) in
        let here : by i ≡ suc (to i) = put-here to i (suc (to i)) i refl in
        let others : (j : ℕ) → j ≢ i → by j ≡ to j = λ j other. put-apart to i (suc (to i)) j other in
        let within = found.2.within in
        let less : left plan by < left plan to = sum_less (length plan.streams) i (λ j. suc (length (code_at plan j)) - to j) (λ j. suc (length (code_at plan j)) - by j) found.1 (omega arith) (λ j other. ap (λ n. suc (length (code_at plan j)) - n) (others j other)) in
        go_on fuel (steps ++ (i, to i) ∷ []) by (run_more plan steps to by i run found.2 found.1 here others) (omega arith)
  ]

  -- no step is a run
  no_step : IsRun plan [] (λ i. 0)
  no_step = record {
    known = All-nil (λ step. step.0 < length plan.streams);
    within = λ i l. omega arith;
    own = λ i l. refl;
    posted = λ before after step k e wait. absurd (let long = simp length-append at (ap length e) in omega arith);
  }

  -- where each stream stops
  abbrev stops : (ℕ → ℕ) → List ℕ
  stops to = map (λ i. min (to i) (length (code_at plan i))) (range_with_len 0 (length plan.streams))

  stop_at : (to : ℕ → ℕ) (i : ℕ) → i < length plan.streams → slice_get (stops to) i ≡ Some (min (to i) (length (code_at plan i)))
  stop_at to i l =
      let row = range_with_len 0 (length plan.streams) in
      let here : slice_get row i ≡ Some i = slice_get-get_or row i 0 (let e = length-range_with_len 0 (length plan.streams) in omega arith) ∙ ap (λ n. Some n) (get_or-range_with_len 0 (length plan.streams) i 0 l ∙ zero-add i) in
      slice_get-map _ row i ∙ ap (option_map (λ n. min (to n) (length (code_at plan n)))) here

  stuck_at : (steps : List PlanStep) (to : ℕ → ℕ) → IsEnd steps to → (i : ℕ) → i < length plan.streams → to i ≤ length (code_at plan i) → IsStuckAt plan (stops to)
  stuck_at steps to end i l short =
      let most : (other : List PlanStep) (by : ℕ → ℕ) → IsRun plan other by → (j : ℕ) → j < length plan.streams → by j ≤ to j = λ other by run. no_further plan steps to end.run end.stuck other by run in
      record {
        count = length-map (range_with_len 0 (length plan.streams)) _ ∙ length-range_with_len 0 (length plan.streams);
        farthest = (to, record { reached = (steps, end.run); most = most }, stop_at to);
        stuck = λ order. absurd (let m : suc (length (code_at plan i)) ≤ to i = most order.0 (λ j. suc (length (code_at plan j))) order.1 i l in omega arith);
      }

  -- a plan has an order, or is stuck somewhere
  pub order_or_stuck : HasOrder plan ⊎ ((positions : List ℕ) × IsStuckAt plan positions)
  order_or_stuck =
      let end = go_on (suc (left plan (λ i. 0))) [] (λ i. 0) no_step (omega arith) in
      let to : ℕ → ℕ = end.1 in
      elim (first_or_all (λ i. length (code_at plan i) < to i) (λ i. to i ≤ length (code_at plan i)) (length plan.streams) (λ i l. cases_lt (length (code_at plan i)) (to i))) [
        | inl all ↦ inl (end.0, same_run plan end.0 to (λ i. suc (length (code_at plan i))) end.2.run (λ i l. let low = all i l in let high = end.2.run.within i l in omega arith))
        | inr found ↦ inr (stops to, stuck_at end.0 to end.2 found.0 found.1 found.2)
      ]

-- ---- verdicts

-- whether a signal is used once
counts_or : (plan : PlanModel) (k : ℕ) → IsUsedOnce plan k ⊎ ¬ IsUsedOnce plan k
counts_or plan k = elim (cases_eq (posts plan k) 1) [
  | inl posted ↦ elim (cases_eq (waits plan k) 1) [ inl awaited ↦ inl (posted, awaited) | inr other ↦ inr (λ once. other once.1) ]
  | inr other ↦ inr (λ once. other once.0)
]

-- positions as the program keeps them
abbrev kept : (xs : List ℕ) → length xs ≤ 64 → Vec ℕ
kept xs few = record { ptr = null_ptr; len = length xs; cap = length xs; alloc = record { memory = record { seal = tt } }; items = xs; ok = (refl, omega arith); small = omega arith }

-- each stream of a plan that fits is good or breaks off
stream_or : (c : Sizes) (plan : PlanModel) → HasOrderedParcels plan → IsKnownPlan c.shards c.servers plan → (k : ℕ) → k < length plan.streams
    → IsGood (stream_at c plan k) ⊎ ((p : ℕ) × (why : Why) × IsFirstBreak (stream_at c plan k) p why)
stream_or c plan ordered fits k l =
    let stream : StreamModel = get_or plan.streams k no_stream in
    let of_stream : IsKnownStream c.shards c.servers stream = fits.streams k no_stream l in
    let below = along_below c (parcels_of plan.signals) stream.code (hold_of stream.holds) c.shards c.servers (signals_known c.shards c.servers plan ordered fits) of_stream.code (parcel_below c.shards c.servers stream.holds of_stream.holds) (length stream.code) in
    good_or_breaks (stream_at c plan k) c.shards below.crowns

-- a plan of a configuration is sound or has a fault
pub finds_fault : (c : Sizes) (plan : PlanModel) → IsPlan plan → IsKnownPlan c.shards c.servers plan → HasVerdict c plan
finds_fault c plan is fits = elim (cases_lt plan.budget (total_budget plan)) [
  | inl over ↦ inr (Budget (total_budget plan) plan.budget, record { total_is = refl; most_is = refl; over = over }, λ e. cc)
  | inr budget ↦ elim (first_or_all (IsUsedOnce plan) (λ k. ¬ IsUsedOnce plan k) (length plan.signals) (λ k l. counts_or plan k)) [
    | inr misused ↦
        let k = misused.0 in
        inr (SignalNotOnce k (posts plan k) (waits plan k), (budget, record { signal = misused.1; lower = misused.3; here = misused.2; posted_is = refl; awaited_is = refl }), λ e. cc)
    | inl once ↦ elim (first_or_all (λ i. IsGood (stream_at c plan i)) (λ i. (p : ℕ) × (why : Why) × IsFirstBreak (stream_at c plan i) p why) (length plan.streams) (stream_or c plan is.parcels fits)) [
      | inr bad ↦ inr (Stream bad.0 bad.2.0 bad.2.1, (budget, once, record { stream = bad.1; lower = bad.3; here = bad.2.2 }), λ e. cc)
      | inl good ↦ elim (order_or_stuck plan) [
        | inl order ↦ inl (record { budget = budget; signals = once; streams = good; order = order })
        | inr stuck ↦ inr (Stuck (kept stuck.0 (let few = is.small.stream_count in let count = stuck.1.count in omega arith)), (budget, once, good, stuck.1), λ e. cc)
      ]
    ]
  ]
]
