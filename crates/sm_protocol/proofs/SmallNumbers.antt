-- Versions and numbers rise with recorded events alone, so they stay small.
use Rattle.sm_protocol.proofs.Below.{◌≡◌, ℕ, suc, ◌+◌, ◌^◌, ◌<◌, ◌≤◌, Bool, true, false, ap, inl, inr, arith, Ok, length, ◌==◌, if◌then◌else◌, cases_eq, put, Setup, sizes_of, Place, CallEffect, StreamId, ServerCall, Instr, PrepareAdd, numbers_after, put-here, put-apart}
use Rattle.sm_protocol.proofs.Words.{Event, Passage, Through, LostBefore, LostAfter, Played, State, Progress, opened, progress_of, logged, call_number, number_after_try, Happening, happens, IsOpening, EachReached, IsSmall}
use Rattle.sm_protocol.specs.declared.event.Event.TheVariants as event
use Rattle.sm_protocol.specs.declared.event.Played.TheVariants as played
use Rattle.sm_protocol.proofs.Cases.{OfSteps, of_happens, answer_to}
use Rattle.sm_protocol.proofs.Reached.{by_events, of_opening}
use Rattle.sm_protocol.proofs.LogRoom.{has_room, length_logged, of_call}
use Rattle.sm_protocol.proofs.Whole.{reached_keeps}

-- numbers and versions within what the log's length allows
pub record AreWithin (shards length_of_log : ℕ) (highest : ℕ → ℕ) (next : ℕ) (version : ℕ → ℕ) : Type 0 where
  pub numbers : (s : ℕ) → highest s ≤ length_of_log
  pub next_number : next ≤ length_of_log + 1
  pub versions : (s : ℕ) → s < shards → version s ≤ 2 ^ 40 + length_of_log

-- the state's numbers and versions are within what its log allows
abbrev pub IsWithinLog : State → Type 0
IsWithinLog w = AreWithin w.sizes.shards (length w.log) w.numbers w.next_number w.place.version

-- one place more allows each one more
more : (w : State) (x : Event) (a : Played) (numbers : ℕ → ℕ) (next : ℕ) (version : ℕ → ℕ) → IsWithinLog w → ((s : ℕ) → numbers s ≤ w.numbers s + 1) → next ≤ w.next_number + 1 →
    ((s : ℕ) → version s ≤ w.place.version s + 1) → AreWithin w.sizes.shards (length (logged w x a)) numbers next version
more w x a numbers next version h n m v =
    let l = length_logged w x a in
    record {
      numbers = λ s. let b = n s in let d = h.numbers s in omega arith;
      next_number = let d = h.next_number in omega arith;
      versions = λ s k. let b = v s in let d = h.versions s k in omega arith;
    }

put_more : (f : ℕ → ℕ) (k : ℕ) (s : ℕ) → put f k (f k + 1) s ≤ f s + 1
put_more f k s = elim (cases_eq s k) [
  | inl e ↦ let a = put-here f k (f k + 1) s e in let b : f s ≡ f k = ap f e in omega arith
  | inr e ↦ let a = put-apart f k (f k + 1) s e in omega arith
]

numbers_more : (numbers : ℕ → ℕ) (i : Instr) (s : ℕ) → numbers_after numbers i s ≤ numbers s + 1
numbers_more numbers (PrepareAdd t v u) s = put_more numbers t s
numbers_more numbers _ s = omega arith

if_more : (b : Bool) (numbers : ℕ → ℕ) (i : Instr) (s : ℕ) → (let f : ℕ → ℕ = if b then numbers_after numbers i else numbers in f s) ≤ numbers s + 1
if_more true numbers i s = numbers_more numbers i s
if_more false numbers i s = omega arith

version_more : (version : ℕ → ℕ) (k s : ℕ) → put version k (suc (version k)) s ≤ version s + 1
version_more version k s = elim (cases_eq s k) [
  | inl e ↦ let a = put-here version k (suc (version k)) s e in let b : version s ≡ version k = ap version e in omega arith
  | inr e ↦ let a = put-apart version k (suc (version k)) s e in omega arith
]

next_more : (w : State) (x : Progress) → number_after_try w x ≤ w.next_number + 1
next_more w x = go (x.pending == 0)
  where
    go : (b : Bool) → (if b then w.next_number + 1 else w.next_number) ≤ w.next_number + 1
    go true = omega arith
    go false = omega arith

within_by_steps : (w : State) (id : StreamId) (passage : Passage) → IsWithinLog w → OfSteps w id passage (λ o. IsWithinLog o.1)
within_by_steps w id passage h = record {
  idle = λ answer. h;
  refused = λ i x why t e. h;
  at_end = λ b. more w (event.Step id) played.Done w.numbers w.next_number w.place.version h same (omega arith) (λ s. omega arith);
  publishes = λ i s server b c. more w (event.Step id) played.Moved w.numbers w.next_number (put w.place.version s (suc (w.place.version s))) h same (omega arith) (version_more w.place.version s);
  posts = λ q b. more w (event.Step id) played.Moved w.numbers w.next_number w.place.version h same (omega arith) (λ s. omega arith);
  awaits = λ q b e. more w (event.Step id) played.Moved w.numbers w.next_number w.place.version h same (omega arith) (λ s. omega arith);
  lost = λ i x t p. more w (event.Lose id false) played.Lost w.numbers (number_after_try w (progress_of w id)) w.place.version h same (next_more w (progress_of w id)) (λ s. omega arith);
  through = λ i x effect t a p. more w (event.Step id) played.Moved _ (number_after_try w (progress_of w id)) effect.place.version h (if_more effect.fresh w.numbers i) (next_more w (progress_of w id)) (versions x effect a);
  unanswered = λ i x effect t a p. more w (event.Lose id true) played.Lost _ (number_after_try w (progress_of w id)) effect.place.version h (if_more effect.fresh w.numbers i) (next_more w (progress_of w id)) (versions x effect a);
}
  where
    same : (s : ℕ) → w.numbers s ≤ w.numbers s + 1
    same s = omega arith

    versions : (x : ServerCall) (effect : CallEffect) → answer_to w id x ≡ Ok effect → (s : ℕ) → effect.place.version s ≤ w.place.version s + 1
    versions x effect a s =
        let e : effect.place.version s ≡ w.place.version s = ap (λ f. f s) (of_call w.sizes w.place x.shard x.server x.call (call_number w (progress_of w id)) effect a).version in
        omega arith

pub within_kept : (w : State) (e : Happening) → IsWithinLog w → IsWithinLog (happens w e).1
within_kept w e h = of_happens w (λ e o. IsWithinLog o.1) (record {
  idle = λ e answer n. h;
  steps = λ id. within_by_steps w id Through h;
  loses = λ id after. within_by_steps w id (if after then LostAfter else LostBefore) h;
  refills = λ id n f. one (event.Refill id n) played.Refilled;
  arrives = λ s v f. one (event.Arrive s v) _;
  passes_on = λ t o f. one (event.PassOn t.place) _;
  approves = λ v f. one (event.Approve v) played.Approved;
  restarts = λ v f. one (event.Done v) played.Up;
  starts = λ plan n l m. h;
}) e
  where
    one : (x : Event) (a : Played) → AreWithin w.sizes.shards (length (logged w x a)) w.numbers w.next_number w.place.version
    one x a = more w x a w.numbers w.next_number w.place.version h (λ s. omega arith) (omega arith) (λ s. omega arith)

within_at_opening : (setup : Setup) (p : Place) (room : ℕ) → IsOpening setup p room → IsWithinLog (opened (sizes_of setup) p room)
within_at_opening setup p room o = record {
  numbers = λ s. omega arith;
  next_number = omega arith;
  versions = λ s k. let a = o.settled.versions s k in omega arith;
}

-- versions and numbers stay small
pub numbers_stay_small : EachReached IsSmall
numbers_stay_small setup w reached =
    let h = by_events setup IsWithinLog (within_at_opening setup) (λ u e at f v. within_kept u e v) w reached in
    let r = (has_room setup w reached).room in
    let o = (of_opening setup w reached).is_opening.most in
    let v = (reached_keeps setup w reached).0.numbered in
    let log : length w.log ≤ w.room = omega arith in
    let most : length w.log ≤ 1048576 = omega arith in
    record {
      versions = λ s k. let a = h.versions s k in omega arith;
      numbers = λ s. let a = h.numbers s in omega arith;
      next_number = let a = h.next_number in omega arith;
      pendings = λ id. let a = h.next_number in let b = v.pendings id in omega arith;
      lasts = λ s u. let a = h.next_number in let b = v.lasts s u in omega arith;
      log = log;
    }
