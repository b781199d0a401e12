-- An order that is served keeps what holds wherever events lead.
use Rattle.std.proofs.Common.{◌≡◌, ◌≢◌, ℕ, ◌+◌, ◌<◌, ◌≤◌, ◌⊎◌, refl, sym, ap, ◌∙◌, inl, inr, subst, arith, [], ◌∷◌, ◌++◌, length}
use Rattle.sm_placement.specs.Setup.{Setup}
use Rattle.sm_placement.specs.Sums.{put2}
use Rattle.sm_server.specs.declared.call.Cell.{Cell}
use Rattle.sm_reservation.specs.declared.stream_id.StreamId.{StreamId}
use Rattle.sm_plan_code.specs.declared.instruction.Instr.{Instr}
use Rattle.sm_plan_code.specs.declared.call.ServerCall.{ServerCall}
use Rattle.sm_verifier.proofs.OnePlace.{put2_cases}
use Rattle.sm_protocol.proofs.Invariant.{IsKept}
use Rattle.sm_protocol.proofs.Whole.{reached_keeps}
use Rattle.laws_network.proofs.Traced.{Net, Order, Ticket}
use Rattle.sm_plan_code.proofs.Passings.{CanBePassed}
use Rattle.sm_plan_code.specs.Acts.{numbers_after}
use Rattle.laws_network.proofs.Overlay.{IsIn, IsServedAt, call_made, made_at, number_made, overlay, put2-at, put2-other}
use Rattle.laws_network.proofs.Apart.{IsAtCall, calls_apart, same_call}
use Rattle.laws_network.proofs.Ahead.{call_is, real_passes, real_serves}
use Rattle.laws_network.proofs.Calm.{ready}
use Rattle.laws_network.proofs.Lists.{all_map, all_push}
use Rattle.laws_network.proofs.Sound.{IsAnswer, IsCurrent, IsHadAt, IsKnown, IsPassable, IsSound, handed}

module _ (setup : Setup) (n : Net) (sound : IsSound setup n) (o : Order) (c : IsCurrent n o) (out : IsIn n.had o.stream → ⊥) where
  v : IsKept n.w
  v = (reached_keeps setup n.w sound.reached).0

  -- its server serves it
  pub serves : IsServedAt n.w.sizes n.cells o.call
  serves = real_serves setup n.w n.had sound.reached sound.calm.halted (λ id h. let t = sound.at_calls id h in (t.0, t.1, ready v sound.calm t.2)) sound.once
      n.cells sound.cells n.last o.stream c.instr o.call out (ready v sound.calm c.at_call)

  module _ (above : n.last o.call.shard o.call.server < o.number) (next : Cell) (made : call_made o.call n.cells ≡ put2 n.cells o.call.shard o.call.server next) where
    abbrev last : ℕ → ℕ → ℕ
    last = put2 n.last o.call.shard o.call.server o.number

    abbrev new : Net
    new = record n { cells = put2 n.cells o.call.shard o.call.server next; last = last; had = o.stream ∷ n.had; answers = n.answers ++ o ∷ [] }

    -- the call of another stream is for another cell, whose last number stays
    last_stays : (id : StreamId) (i : Instr) (x : ServerCall) → id ≢ o.stream → IsAtCall n.w id i x → last x.shard x.server ≡ n.last x.shard x.server
    last_stays id i x d t = put2-other n.last o.call.shard o.call.server o.number x.shard x.server
        (calls_apart n.w v id o.stream i c.instr x o.call d t c.at_call (sound.calm.unmade id) (sound.calm.unmade o.stream))

    last_here : last o.call.shard o.call.server ≡ o.number
    last_here = put2-at n.last o.call.shard o.call.server o.number o.call.shard o.call.server refl refl

    last_grows : (s u : ℕ) → n.last s u ≤ last s u
    last_grows s u = elim (put2_cases n.last o.call.shard o.call.server o.number s u) [
      | inl h ↦ (
          let a = above in
          let same : n.last s u ≡ n.last o.call.shard o.call.server = ap (λ k. n.last k u) h.0 ∙ ap (λ k. n.last o.call.shard k) h.1 in
          let l = h.2 in
          omega arith
          )
      | inr h ↦ (let l = h.1 in omega arith)
    ]

    new_cells : put2 n.cells o.call.shard o.call.server next ≡ overlay n.w (o.stream ∷ n.had) n.w.place.cells
    new_cells =
        sym made
        ∙ ap (call_made o.call) sound.cells
        ∙ ap (λ k. made_at k (overlay n.w n.had n.w.place.cells)) (sym (call_is c.at_call))

    new_had_last : (id : StreamId) (i : Instr) (x : ServerCall) → IsIn (o.stream ∷ n.had) id → IsAtCall n.w id i x → last x.shard x.server ≡ n.since id + 1
    new_had_last id i x (inl h) t =
        let same = same_call (subst (λ a. IsAtCall n.w a i x) h t) c.at_call in
        put2-at n.last o.call.shard o.call.server o.number x.shard x.server (ap (λ (y : ServerCall). y.shard) same.1) (ap (λ (y : ServerCall). y.server) same.1)
        ∙ c.number ∙ ap (λ a. n.since a + 1) (sym h)
    new_had_last id i x (inr h) t = last_stays id i x (λ d. out (subst (IsIn n.had) d h)) t ∙ sound.had_last id i x h t

    new_lasts : (s u : ℕ) → (last s u ≤ n.base + length n.w.log) ⊎ IsHadAt new s u
    new_lasts s u = elim (put2_cases n.last o.call.shard o.call.server o.number s u) [
      | inl h ↦ inr (record { stream = o.stream; instr = c.instr; call = o.call; had = inl refl; at_call = c.at_call; shard = sym h.0; server = sym h.1 })
      | inr h ↦ elim (sound.lasts s u) [
        | inl l ↦ inl (let k = h.1 in omega arith)
        | inr k ↦ inr (record { stream = k.stream; instr = k.instr; call = k.call; had = inr k.had; at_call = k.at_call; shard = k.shard; server = k.server })
      ]
    ]

    new_fresh : (id : StreamId) (i : Instr) (x : ServerCall) → (IsIn (o.stream ∷ n.had) id → ⊥) → IsAtCall n.w id i x → last x.shard x.server ≤ n.since id
    new_fresh id i x d t = let s = last_stays id i x (λ h. d (inl h)) t in let l = sound.fresh id i x (λ h. d (inr h)) t in omega arith

    new_known : (p : Order) → IsKnown n p → IsKnown new p
    new_known p (inl k) = inl (record { instr = k.instr; at_call = k.at_call; position = k.position; number = k.number })
    new_known p (inr k) = inr (record { since = k.since; last = (let a = k.last in let g = last_grows p.call.shard p.call.server in omega arith) })

    new_answer : (p : Order) → IsAnswer n p → IsAnswer new p
    new_answer p a = (new_known p a.0, (let l = a.1 in let g = last_grows p.call.shard p.call.server in omega arith))

    new_passable : (t : Ticket) → IsPassable n t → IsPassable new t
    new_passable t h =
        let after = real_passes setup n.w n.had sound.reached sound.calm.halted (λ id h. let t = sound.at_calls id h in (t.0, t.1, ready v sound.calm t.2)) sound.once
        n.cells sound.cells n.last o.stream c.instr o.call out (ready v sound.calm c.at_call) t.shard t.number h in
        subst (λ k. CanBePassed (new.cells t.shard) (number_made k (handed n) t.shard) t.number) (sym c.at_call.before.next_is)
        (subst (λ g. CanBePassed (g t.shard) (numbers_after (handed n) c.instr t.shard) t.number) made after)

    -- what holds still does
    pub served_sound : IsSound setup new
    served_sound = record {
      reached = sound.reached;
      calm = sound.calm;
      at_calls = λ id h. elim h [ inl d ↦ (c.instr, o.call, subst (λ a. IsAtCall n.w a c.instr o.call) (sym d) c.at_call) | inr k ↦ sound.at_calls id k ];
      once = (out, sound.once);
      cells = new_cells;
      had_last = new_had_last;
      lasts = new_lasts;
      fresh = new_fresh;
      sinces = sound.sinces;
      sent = all_map (IsKnown n) (IsKnown new) n.sent new_known sound.sent;
      answers = all_push (IsAnswer new) n.answers o (all_map (IsAnswer n) (IsAnswer new) n.answers new_answer sound.answers) (new_known o (inl c), (let l = last_here in omega arith));
      passes = all_map (IsPassable n) (IsPassable new) n.passes new_passable sound.passes;
    }
