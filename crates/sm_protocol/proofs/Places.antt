-- The log's places: those that are set aside as streams go on.
use Rattle.sm_protocol.proofs.Below.{◌≡◌, ℕ, ◌+◌, ◌-◌, ◌<◌, true, false, cond, refl, ap, ◌∙◌, arith, Some, length, drop, slice_get, count_by, slice_get_within, get_or_from_slice_get, sum_by-drop_more, put, put2, sum_below, StreamId, Instr, StreamModel, put-here, put-apart, sum_apart}
use Rattle.sm_protocol.proofs.Words.{State, Progress, progress_of, stream_parts, stream_id, stream_count, set_progress, places_left, is_no_call}
use Rattle.sm_protocol.proofs.Numbers.{each_stream, goes_on_in}

-- what holds of each stream's progress holds after one of them stands otherwise
pub each_after : (f : ℕ → ℕ → Progress) (id : StreamId) (x : Progress) (P : ℕ → ℕ → Progress → Type 0) → ((k i : ℕ) → P k i (f k i)) → P id.plan id.stream x →
    (k i : ℕ) → P k i (put2 f id.plan id.stream x k i)
each_after f id x P all this k i = each_stream (goes_on_in f id x) (λ a z. P a.plan a.stream z) this (λ a n. all a.plan a.stream) (stream_id k i)

-- a sum over plans and their streams, where one stream's part changes
pub streams_apart : (n : ℕ) (m : ℕ → ℕ) (part : ℕ → ℕ → Progress → ℕ) (f : ℕ → ℕ → Progress) (id : StreamId) (x : Progress) (a b : ℕ) → id.plan < n → id.stream < m id.plan →
    part id.plan id.stream x + a ≡ part id.plan id.stream (f id.plan id.stream) + b →
    sum_below n (λ k. sum_below (m k) (λ i. part k i (put2 f id.plan id.stream x k i))) + a ≡ sum_below n (λ k. sum_below (m k) (λ i. part k i (f k i))) + b
streams_apart n m part f id x a b l s e =
    sum_apart n (λ k. sum_below (m k) (λ i. part k i (put2 f id.plan id.stream x k i))) (λ k. sum_below (m k) (λ i. part k i (f k i))) id.plan a b l
    (λ k g. ap (λ h. sum_below (m k) (λ i. part k i (h i))) (put-apart f id.plan (put (f id.plan) id.stream x) k g))
    (ap (λ h. sum_below (m id.plan) (λ i. part id.plan i (h i)) + a) (put-here f id.plan (put (f id.plan) id.stream x) id.plan refl) ∙ inner)
  where
    inner : sum_below (m id.plan) (λ i. part id.plan i (put (f id.plan) id.stream x i)) + a ≡ sum_below (m id.plan) (λ i. part id.plan i (f id.plan i)) + b
    inner = sum_apart (m id.plan) (λ i. part id.plan i (put (f id.plan) id.stream x i)) (λ i. part id.plan i (f id.plan i)) id.stream a b s
        (λ i g. ap (part id.plan i) (put-apart (f id.plan) id.stream x i g))
        (ap (λ y. part id.plan id.stream y + a) (put-here (f id.plan) id.stream x id.stream refl) ∙ e)

-- what the streams begun take yet
abbrev pub streams_left : State → (ℕ → ℕ → Progress) → ℕ
streams_left w f = sum_below (length w.plans) (λ k. sum_below (stream_count w k) (λ i. places_left (stream_parts w (stream_id k i)) (f k i)))

-- what all streams take yet changes with one stream as that stream's part does
pub left_after : (w : State) (id : StreamId) (x : Progress) (a b : ℕ) → id.plan < length w.plans → id.stream < stream_count w id.plan →
    places_left (stream_parts w id) x + a ≡ places_left (stream_parts w id) (progress_of w id) + b →
    streams_left w (set_progress w id x) + a ≡ streams_left w w.progress + b
left_after w id x a b l s e = streams_apart (length w.plans) (stream_count w) (λ k i y. places_left (stream_parts w (stream_id k i)) y) w.progress id x a b l s e

-- ---- what one stream takes

-- the instructions left that are no calls, from a position on
abbrev pub no_calls_from : StreamModel → ℕ → ℕ
no_calls_from stream at = count_by is_no_call (drop at stream.code)

no_calls_more : (stream : StreamModel) (at : ℕ) (i : Instr) → slice_get stream.code at ≡ Some i → no_calls_from stream at ≡ cond (is_no_call i) 1 0 + no_calls_from stream (at + 1)
no_calls_more stream at i e =
    let a = sum_by-drop_more (λ (j : Instr). cond (is_no_call j) 1 0) stream.code at i (slice_get_within stream.code at i e) in
    let b = get_or_from_slice_get stream.code at i i e in
    a ∙ ap (λ j. cond (is_no_call j) 1 0 + no_calls_from stream (at + 1)) b

-- the tries that a stream may make yet
abbrev pub tries_left : StreamModel → Progress → ℕ
tries_left stream x = stream.budget + stream.retries + x.refills - x.tries

-- before its end a stream takes a place for each try left, each instruction left but calls, and the end
pub left_unless_done : (stream : StreamModel) (x : Progress) → x.done ≡ false → places_left stream x ≡ tries_left stream x + no_calls_from stream x.at + 1
left_unless_done stream x e = rw e refl

-- behind an instruction that is no call, one less of those that are no calls is left
pub past_no_call : (stream : StreamModel) (at : ℕ) (i : Instr) → slice_get stream.code at ≡ Some i → is_no_call i ≡ true → no_calls_from stream at ≡ no_calls_from stream (at + 1) + 1
past_no_call stream at i e n =
    let a : no_calls_from stream at ≡ 1 + no_calls_from stream (at + 1) = no_calls_more stream at i e ∙ ap (λ b. cond b 1 0 + no_calls_from stream (at + 1)) n in omega arith

-- and behind a call as many
pub past_call : (stream : StreamModel) (at : ℕ) (i : Instr) → slice_get stream.code at ≡ Some i → is_no_call i ≡ false → no_calls_from stream at ≡ no_calls_from stream (at + 1)
past_call stream at i e n =
    let a : no_calls_from stream at ≡ 0 + no_calls_from stream (at + 1) = no_calls_more stream at i e ∙ ap (λ b. cond b 1 0 + no_calls_from stream (at + 1)) n in omega arith
