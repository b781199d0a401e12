-- The next acts of streams, and which plans are unfinished, as a machine reads it.
use Rattle.std.proofs.Common.{◌≡◌, ◌<◌, ◌+◌, ◌++◌, ◌∷◌, [], ℕ, zero, suc, Bool, true, false, not, refl, sym, ap, ◌∙◌, arith, Some, None, length, inl, inr}
use Rattle.std.specs.Prelude.{◌==◌, IfSome, nat_lt, if◌then◌else◌}
use Rattle.std.specs.List.{filter, range_with_len}
use Rattle.std.proofs.lemmas.Bool.{and_parts, cases_eq, eq-eqb, le-ltb, lt-ltb, ne_eqb, not-true}
use Rattle.std.proofs.lemmas.List.{append-nil}
use Rattle.std.proofs.lemmas.List.Elements.{filter-append}
use Rattle.sm_placement.specs.declared.limits.TheConstants.{VERSIONS_END}
use Rattle.sm_placement.proofs.Searches.{any_by_count}
use Rattle.sm_reservation.specs.declared.stream_id.StreamId.{StreamId}
use Rattle.sm_plan_code.specs.declared.instruction.Instr.{Instr}
use Rattle.sm_plan_code.specs.declared.instruction.Instr.TheVariants.{Wait}
use Rattle.sm_plan_code.specs.Instr.{shard_of}
use Rattle.sm_protocol.specs.State.{State, is_begun, is_running, is_unfinished, next_instruction, numbers_end, progress_of, signal_count, stream_count}
use Rattle.sm_protocol.specs.Next.{instruction_before, unfinished_plans}
use Rattle.sm_protocol.proofs.Cases.{IsBefore}
use Rattle.sm_protocol.proofs.SmallNumbers.{numbers_stay_small}
use Rattle.sm_machine.specs.State.{Whole}
use Rattle.sm_machine.specs.Tied.{unfinished_count}
use Rattle.sm_machine.specs.Unfinished.{unfinished_below}
use Rattle.sm_machine.specs.Working.{IsWorking}
use Rattle.sm_machine.proofs.Ready.{waited_signal}
use Rattle.sm_machine.proofs.ties.Before.{kept, can_reach}

-- a stream that stands before an instruction was begun and runs
pub before_of : (w : State) (id : StreamId) (i : Instr) → instruction_before w id ≡ Some i → IsBefore w id (Some i)
before_of w id i e = go (is_running w id) refl e
  where
    go : (b : Bool) → is_running w id ≡ b → (if b then next_instruction w id else None) ≡ Some i → IsBefore w id (Some i)
    go true r e =
        let p = and_parts (is_begun w id) (not (progress_of w id).done) r in
        record { begun = p.0; running = not-true (progress_of w id).done p.1; next_is = e }
    go false r e = absurd (cc)

module _ (x : Whole) (g : IsWorking x) (id : StreamId) (i : Instr) (e : instruction_before x.state id ≡ Some i) where
  -- the instruction's shard, if it has one, is known
  pub shard_before : IfSome (shard_of i) (λ s. s < x.state.sizes.shards)
  shard_before = (can_reach x.state (kept x.setup x.state g.reached) id i (before_of x.state id i e)).shard

  -- and so is the signal that it waits for
  pub signal_before : (q : ℕ) → i ≡ Wait q → q < signal_count x.state id.plan
  signal_before q h = (waited_signal x g id q (before_of x.state id (Wait q) (e ∙ ap Some h))).0

-- each shard's highest handover number is below the numbers' end
pub numbers_small : (x : Whole) → IsWorking x → (s : ℕ) → x.state.numbers s < numbers_end
numbers_small x g = (numbers_stay_small x.setup x.state g.reached).numbers

-- each shard's version is below the versions' end
pub versions_small : (x : Whole) → IsWorking x → (s : ℕ) → s < x.state.sizes.shards → x.state.place.version s < VERSIONS_END
versions_small x g = (numbers_stay_small x.setup x.state g.reached).versions

-- ---- unfinished plans

range_last : (a n last : ℕ) → a + n ≡ last → range_with_len a (suc n) ≡ range_with_len a n ++ last ∷ []
range_last a zero last e = let f : a ≡ last = omega arith in ap (λ k. k ∷ []) f
range_last a (suc n) last e = let f : a + 1 + n ≡ last = omega arith in ap (λ xs. a ∷ xs) (range_last (a + 1) n last f)

-- those of the first n numbers whose count is not 0 are those that pass, where a number passes if its count is not 0
below_filtered : (counts : ℕ → ℕ) (test : ℕ → Bool) (n : ℕ) → ((k : ℕ) → k < n → test k ≡ not (counts k == 0)) → unfinished_below counts n ≡ filter test (range_with_len 0 n)
below_filtered counts test zero same = refl
below_filtered counts test (suc n) same =
    ap (λ xs. if counts n == 0 then xs else xs ++ n ∷ []) (below_filtered counts test n (λ k l. same k (omega arith)))
    ∙ by_test (counts n == 0) (test n) refl (same n (omega arith)) ∙ sym (filter-append test (range_with_len 0 n) (n ∷ [])) ∙ ap (filter test) (sym (range_last 0 n n (omega arith)))
  where
    by_test : (b t : Bool) → test n ≡ t → t ≡ not b →
        (if b then filter test (range_with_len 0 n) else filter test (range_with_len 0 n) ++ n ∷ []) ≡ filter test (range_with_len 0 n) ++ filter test (n ∷ [])
    by_test true false is e = rw is (sym (append-nil (filter test (range_with_len 0 n))))
    by_test false true is e = rw is refl
    by_test true true is e = absurd (cc)
    by_test false false is e = absurd (cc)

-- the plans that are counted as unfinished are those of the state
pub unfinished_are : (x : Whole) → IsWorking x → unfinished_below x.unfinished (length x.state.plans) ≡ unfinished_plans x.state
unfinished_are x g = below_filtered x.unfinished (is_unfinished x.state) (length x.state.plans) (λ k l. counted (x.unfinished k) k (g.counted.streams k l))
  where
    counted : (n k : ℕ) → n ≡ unfinished_count x.state k → is_unfinished x.state k ≡ not (n == 0)
    counted n k e =
        any_by_count (stream_count x.state k) (λ i. not (x.state.progress k i).done) ∙ ap (nat_lt 0) (sym e) ∙ elim (cases_eq n 0) [
          | inl z ↦ le-ltb 0 n (omega arith) ∙ ap not (sym (eq-eqb n 0 z))
          | inr z ↦ lt-ltb 0 n (omega arith) ∙ ap not (sym (ne_eqb n 0 z))
        ]
