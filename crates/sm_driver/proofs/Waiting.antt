-- The streams of all plans that wait for answers, by plan and stream.
use Rattle.std.proofs.Common.{◌≡◌, ◌∙◌, ◌+◌, ◌<◌, ◌++◌, ◌∷◌, [], ℕ, zero, suc, Bool, true, false, not, Option, Some, None, List, length, refl, sym, ap, arith}
use Rattle.std.specs.Prelude.{◌&&◌, ◌||◌, is_some, if◌then◌else◌}
use Rattle.std.specs.List.{filter, filter_map, flat_map, range_with_len}
use Rattle.std.specs.Option.{option_to_list}
use Rattle.std.proofs.lemmas.List.{append_assoc}
use Rattle.std.proofs.lemmas.List.Elements.{filter_map-append}
use Rattle.sm_placement.proofs.Searches.{any_none}
use Rattle.sm_protocol.specs.State.{State, is_begun, is_running, is_unfinished, next_instruction, stream_count, stream_id}
use Rattle.sm_protocol.specs.Next.{call_under, entry_by, instruction_before, unfinished_plans}
use Rattle.sm_driver.proofs.Lists.{range_more}
use Rattle.sm_driver.specs.Orders.{awaiting, awaiting_in, awaiting_of}

filtered_more : {A : Type 0} (f : ℕ → Option A) (n : ℕ) → filter_map f (range_with_len 0 (n + 1)) ≡ filter_map f (range_with_len 0 n) ++ filter_map f (n ∷ [])
filtered_more f n = ap (filter_map f) (range_more n) ∙ filter_map-append f (range_with_len 0 n) (n ∷ [])

-- a list has the answer at n, if there is one
pub found_more : {B : Type 0} (f : ℕ → Option B) (before found : List B) (n : ℕ) → found ≡ option_to_list (f n) →
    (before ++ filter_map f (range_with_len 0 n)) ++ found ≡ before ++ filter_map f (range_with_len 0 (n + 1))
found_more {B = B} f before found n e =
    append_assoc before (filter_map f (range_with_len 0 n)) found
    ∙ ap (λ ys. before ++ ys) (ap (λ ys. filter_map f (range_with_len 0 n) ++ ys) (e ∙ alone (f n) refl) ∙ sym (filtered_more f n))
  where
    alone : (o : Option B) → f n ≡ o → option_to_list (f n) ≡ filter_map f (n ∷ [])
    alone None e = rw e refl
    alone (Some x) e = rw e refl

-- lists of numbers that fail add nothing
pub flat_filtered : {A : Type 0} (f : ℕ → List A) (t : ℕ → Bool) (ks : List ℕ) → ((k : ℕ) → t k ≡ false → f k ≡ []) → flat_map f (filter t ks) ≡ flat_map f ks
flat_filtered f t [] none = refl
flat_filtered {A = A} f t (k ∷ ks) none = go (flat_filtered f t ks none) (t k) refl
  where
    go : flat_map f (filter t ks) ≡ flat_map f ks → (b : Bool) → t k ≡ b → flat_map f (filter t (k ∷ ks)) ≡ flat_map f (k ∷ ks)
    go rest true e = rw e (ap (λ ys. f k ++ ys) rest)
    go rest false e = rw (e, none k e) rest

-- a stream that has made its end waits for none
ended_awaits_none : (w : State) (k i : ℕ) → not (w.progress k i).done ≡ false → awaiting w (stream_id k i) ≡ None
ended_awaits_none w k i e =
    let running : is_running w (stream_id k i) ≡ false = ap (λ b. is_begun w (stream_id k i) && b) e ∙ and_false (is_begun w (stream_id k i)) in
    let before : instruction_before w (stream_id k i) ≡ None = ap (λ b. if b then next_instruction w (stream_id k i) else None) running in
    ap (λ o. if is_some (call_under w.numbers o) || is_some (entry_by w o) then Some (stream_id k i) else None) before
  where
    and_false : (b : Bool) → (b && false) ≡ false
    and_false true = refl
    and_false false = refl

filtered_none : {A : Type 0} (f : ℕ → Option A) (a n : ℕ) → ((k : ℕ) → k < a + n → f k ≡ None) → filter_map f (range_with_len a n) ≡ []
filtered_none f a zero none = refl
filtered_none f a (suc n) none = rw (none a (omega arith)) (filtered_none f (a + 1) n (λ k l. none k (omega arith)))

-- a plan that is finished has none that does
finished_has_none : (w : State) (k : ℕ) → is_unfinished w k ≡ false → awaiting_in w k ≡ []
finished_has_none w k e =
    filtered_none (λ i. awaiting w (stream_id k i)) 0 (stream_count w k)
    (λ i l. ended_awaits_none w k i (any_none (stream_count w k) (λ j. not (w.progress k j).done) e i (omega arith)))

-- those of the unfinished plans are those of all plans
pub of_unfinished : (w : State) → flat_map (awaiting_in w) (unfinished_plans w) ≡ awaiting_of w
of_unfinished w = flat_filtered (awaiting_in w) (is_unfinished w) (range_with_len 0 (length w.plans)) (finished_has_none w)
