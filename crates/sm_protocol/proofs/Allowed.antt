-- The call of each try is one that its server has to serve.
use Rattle.sm_protocol.proofs.Below.{◌≡◌, ◌≤◌, ℕ, true, false, Some, Result, Ok, Err, refl, sym, ◌∙◌, inl, inr, and_parts, not, not-true, cases_Bool, Sizes, Place, Call, Cell, Refusal, ServerCall, StreamId, Instr, is_call, load_at, next_call}
use Rattle.std.specs.Prelude.{◌↔◌}
use Rattle.sm_placement.specs.Place.{IsAllowed, answer_at, called, with_answer}
use Rattle.sm_protocol.proofs.Below.{Publish, Unlist, Signal, Wait, shard_of}
use Rattle.sm_protocol.proofs.Words.{State, EachReached, is_begun, progress_of, call_number, call_again}
use Rattle.sm_protocol.specs.Laws.{IsServable, TriesAreAllowed}
use Rattle.sm_protocol.proofs.Invariant.{IsKept}
use Rattle.sm_protocol.proofs.Cases.{IsBefore}
use Rattle.sm_protocol.proofs.Numbers.{is_try_number}
use Rattle.sm_protocol.proofs.Invariant.{code_of}
use Rattle.sm_protocol.proofs.Tries.{again_goes_to, next_goes_to, can_reach, has_effect}
use Rattle.sm_protocol.proofs.Whole.{reached_keeps}

-- what the servers answer where they have room is what is allowed
abbrev pub AnsweredWhereAllowed : Type 0
AnsweredWhereAllowed = (c : Sizes) (p : Place) (s v : ℕ) (call : Call) (to : Cell) → load_at c p v ≤ c.room v → (answer_at c p s v call ≡ Ok to) ↔ IsAllowed c p s v call to

-- a call that leads to a placement was answered with a cell
answered_so : (c : Sizes) (p next : Place) (s v : ℕ) (call : Call) → called c p s v call ≡ Ok next → (to : Cell) × (answer_at c p s v call ≡ Ok to)
answered_so c p next s v call e = go (answer_at c p s v call) refl e
  where
    go : (r : Result Cell Refusal) → answer_at c p s v call ≡ r → with_answer p s v r ≡ Ok next → (to : Cell) × (answer_at c p s v call ≡ Ok to)
    go (Ok to) is e = (to, is)
    go (Err why) is e = absurd (cc)

-- what has a next call is a call
next_is_call : (numbers : ℕ → ℕ) (i : Instr) (x : ServerCall) → next_call numbers i ≡ Some x → is_call i ≡ true
next_is_call numbers (Publish s) x e = cc
next_is_call numbers (Unlist s) x e = cc
next_is_call numbers (Signal q) x e = cc
next_is_call numbers (Wait q) x e = cc
next_is_call numbers _ x e = refl

module _ (law : AnsweredWhereAllowed) (w : State) (v : IsKept w) (id : StreamId) (i : Instr) (x : ServerCall) (b : IsBefore w id (Some i)) where
  -- a call that has had no effect is allowed
  first : (progress_of w id).ahead ≡ false → next_call w.numbers i ≡ Some x → IsServable w x (call_number w (progress_of w id))
  first a next =
      let to = next_goes_to w.numbers i x (next_is_call w.numbers i x next) next in
      let e = has_effect w v id i b a x next in
      let reach = can_reach w v id i b in
      let fits : load_at w.sizes w.place x.server ≤ w.sizes.room x.server = v.stage.placement.rooms x.server (reach.known x.server (inl to.1)) in
      let answer = answered_so w.sizes w.place _ x.shard x.server x.call e.called in
      record { up = reach.up x.server (inl to.1); serves = inr (answer.0, (law w.sizes w.place x.shard x.server x.call answer.0 fits).0 answer.1) }

  -- and one that has had its effect is repeated
  again : (progress_of w id).ahead ≡ true → call_again w.numbers i (shard_of i) ≡ Some x → IsServable w x (call_number w (progress_of w id))
  again a made =
      let to = again_goes_to w.numbers i x made in
      let number = is_try_number w.place.last w.next_number (code_of w) (progress_of w) v.numbered id in
      record {
        up = (can_reach w v id i b).up x.server (inl to.1);
        serves = inl ((number.kept a).0 ∙ sym (v.numbered.had id i x.shard x.server a b.next_is to.0));
      }

-- so it is of the call of each try
pub tries_are_allowed : AnsweredWhereAllowed → EachReached TriesAreAllowed
tries_are_allowed law setup w reached id i x runs next makes =
    let v = (reached_keeps setup w reached).0 in
    let p = and_parts (is_begun w id) (not (progress_of w id).done) runs in
    let b : IsBefore w id (Some i) = record { begun = p.0; running = not-true (progress_of w id).done p.1; next_is = next } in
    elim (cases_Bool (progress_of w id).ahead) [
      | inl a ↦ again law w v id i x b a (rw a at makes)
      | inr a ↦ first law w v id i x b a (rw a at makes)
    ]
