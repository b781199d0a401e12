-- The search for a free stream.
use Rattle.std.proofs.Common.{◌≡◌, ◌∙◌, ◌+◌, ◌∷◌, ℕ, zero, suc, Bool, true, false, Option, Some, None, List, length, get_or, refl, sym, arith, ◌<◌, subst}
use Rattle.std.specs.Prelude.{if◌then◌else◌}
use Rattle.std.specs.List.{filter, range_with_len}
use Rattle.sm_placement.specs.Sums.{first_from}
use Rattle.sm_reservation.specs.declared.stream_id.StreamId.{StreamId}
use Rattle.sm_protocol.specs.State.{State, is_unfinished, stream_count, stream_id}
use Rattle.sm_protocol.specs.Next.{unfinished_plans}
use Rattle.sm_driver.specs.Advance.{is_free, next_free}

-- the stream of a plan, if it is free
abbrev pub free_at : State → ℕ → ℕ → Option StreamId
free_at w k i = if is_free w (stream_id k i) then Some (stream_id k i) else None

-- the lowest free stream of a plan
abbrev pub free_of : State → ℕ → Option StreamId
free_of w k = first_from 0 (stream_count w k) (free_at w k)

-- a search past a number that has no answer
pub step_none : {A : Type 0} (f : ℕ → Option A) (a n : ℕ) → f a ≡ None → first_from a (suc n) f ≡ first_from (a + 1) n f
step_none f a n e = rw e refl

-- a search that stands at a number with an answer
pub step_some : {A : Type 0} (f : ℕ → Option A) (a n : ℕ) (x : A) → f a ≡ Some x → first_from a (suc n) f ≡ Some x
step_some f a n x e = rw e refl

-- a search over numbers that have no answer
pub none_from : {A : Type 0} (f : ℕ → Option A) (a n : ℕ) → ((k : ℕ) → k < a + n → f k ≡ None) → first_from a n f ≡ None
none_from f a zero none = refl
none_from f a (suc n) none = step_none f a n (none a (omega arith)) ∙ none_from f (a + 1) n (λ k l. none k (omega arith))

-- each number of the list of unfinished plans is one of a plan
pub unfinished_is_known : (t : ℕ → Bool) (a n i : ℕ) → i < length (filter t (range_with_len a n)) → get_or (filter t (range_with_len a n)) i 0 < a + n
unfinished_is_known t a zero i l = absurd (omega arith)
unfinished_is_known t a (suc n) i l = go (unfinished_is_known t (a + 1) n) (t a) i l
  where
    rest : List ℕ
    rest = filter t (range_with_len (a + 1) n)

    go : ((j : ℕ) → j < length rest → get_or rest j 0 < a + 1 + n) → (b : Bool) → (j : ℕ) → j < length (if b then a ∷ rest else rest) → get_or (if b then a ∷ rest else rest) j 0 < a + suc n
    go before true zero m = omega arith
    go before true (suc j) m = let r = before j (omega arith) in omega arith
    go before false j m = let r = before j m in omega arith

-- each of the unfinished plans was begun
pub plan_is_known : (w : State) (i : ℕ) → i < length (unfinished_plans w) → get_or (unfinished_plans w) i 0 < length w.plans
plan_is_known w i l = let r = unfinished_is_known (is_unfinished w) 0 (length w.plans) i l in omega arith

-- what a search finds is at some number
first_some : {A : Type 0} (f : ℕ → Option A) (a n : ℕ) (x : A) → first_from a n f ≡ Some x → (k : ℕ) × (f k ≡ Some x)
first_some f a zero x e = absurd (cc)
first_some {A = A} f a (suc n) x e = go (first_some f (a + 1) n x) (f a) refl
  where
    go : (first_from (a + 1) n f ≡ Some x → (k : ℕ) × (f k ≡ Some x)) → (o : Option A) → f a ≡ o → (k : ℕ) × (f k ≡ Some x)
    go rest None here = rest (sym (step_none f a n here) ∙ e)
    go rest (Some y) here = (a, here ∙ sym (step_some f a n y here) ∙ e)

-- the stream that is found is free
pub next_is_free : (w : State) (id : StreamId) → next_free w ≡ Some id → is_free w id ≡ true
next_is_free w id e =
    let plan = first_some (free_of w) 0 (length w.plans) id e in
    let stream = first_some (free_at w plan.0) 0 (stream_count w plan.0) id plan.1 in
    go (stream_id plan.0 stream.0) (is_free w (stream_id plan.0 stream.0)) refl stream.1
  where
    go : (x : StreamId) (b : Bool) → is_free w x ≡ b → (if b then Some x else None) ≡ Some id → is_free w id ≡ true
    go x true free e = subst (λ y. is_free w y ≡ true) (cc) free
    go x false free e = absurd (cc)
