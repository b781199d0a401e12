-- Facts about numbers wherever events lead: the present order of a stream is no lower than the last one of its cell, and every other one
-- is past.
use Rattle.std.proofs.Common.{◌≡◌, ℕ, ◌+◌, ◌≤◌, ◌⊎◌, refl, sym, ap, ◌∙◌, inl, inr, subst, arith, not, false, Option, Some, None, List, [], ◌∷◌, length}
use Rattle.std.specs.Prelude.{option_map, if◌then◌else◌}
use Rattle.std.specs.List.{AllByRecursion}
use Rattle.std.proofs.lemmas.Bool.{and_from}
use Rattle.sm_placement.specs.Setup.{Setup}
use Rattle.sm_reservation.specs.declared.stream_id.StreamId.{StreamId}
use Rattle.sm_protocol.specs.State.{State, is_begun, progress_of}
use Rattle.sm_protocol.proofs.Courses.{some_same}
use Rattle.laws_network.specs.Net.{Net, Order, call_now, order_of, since_in}
use Rattle.laws_network.specs.Laws.{EachNet}
use Rattle.laws_network.proofs.Counted as counted
use Rattle.laws_network.proofs.CountedLaws as low
use Rattle.laws_network.proofs.Traced as traced
use Rattle.laws_network.proofs.Lists.{all_map, is_in}
use Rattle.laws_network.proofs.Ahead.{call_is}
use Rattle.laws_network.proofs.Sound.{IsCurrent, IsKnown, IsSound}
use Rattle.laws_network.proofs.Events.{net_sound, order_current}
use Rattle.laws_network.proofs.Logged.{AreLogged}
use Rattle.laws_network.proofs.Untraced.{by_traces, order_same}
use Rattle.laws_network.proofs.Raised.{AreRaised, IsRaised, by_counts, order_above, order_known, orders_up}

-- the present order of some stream is for this cell
pub record IsPresentAt (orders : StreamId → Option Order) (s v : ℕ) : Type 0 where
  pub stream : StreamId
  pub order : Order
  pub current : orders stream ≡ Some order
  pub shard : order.call.shard ≡ s
  pub server : order.call.server ≡ v

-- an order is the present one of its stream, or it has a number that its cell has seen
abbrev pub IsPresentOrPast : (StreamId → Option Order) → (ℕ → ℕ → ℕ) → Order → Type 0
IsPresentOrPast orders last o = (orders o.stream ≡ Some o) ⊎ (o.number ≤ last o.call.shard o.call.server)

-- what numbers say
pub record AreInOrder (orders : StreamId → Option Order) (last : ℕ → ℕ → ℕ) (top : ℕ) (messages : List Order) (w : State) : Type 0 where
  pub lasts : (s v : ℕ) → (last s v ≤ top) ⊎ IsPresentAt orders s v
  pub present : (id : StreamId) (o : Order) → orders id ≡ Some o → last o.call.shard o.call.server ≤ o.number
  pub sent : AllByRecursion (IsPresentOrPast orders last) messages
  pub unbegun : (id : StreamId) → is_begun w id ≡ false → (start n : ℕ) → since_in id start n w.log ≡ start

module _ (setup : Setup) (n : traced.Net) (sound : IsSound setup n) (h : AreLogged n) where
  -- a current order is the one of its stream
  is_order : (o : Order) → IsCurrent n o → counted.order_of n.base n.w o.stream ≡ Some o
  is_order o c =
      let t = c.at_call in
      let runs = and_from (is_begun n.w o.stream) (not (progress_of n.w o.stream).done) t.before.begun (ap not t.before.running) in
      order_same n h o.stream
      ∙ (ap (λ b. if b then traced.order_for n o.stream (call_now n.w o.stream) else None) runs ∙ ap (traced.order_for n o.stream) (call_is t))
      ∙ (ap (λ a. let z : Order = record { stream = o.stream; at = a; call = o.call; number = n.since o.stream + 1 } in Some z) (sym c.position)
      ∙ ap (λ k. let z : Order = record { stream = o.stream; at = o.at; call = o.call; number = k } in Some z) (sym c.number))

  traced_in_order : AreInOrder (counted.order_of n.base n.w) n.last (n.base + length n.w.log) n.sent n.w
  traced_in_order = record {
    lasts = λ s v. elim (sound.lasts s v) [
      | inl l ↦ inl l
      | inr k ↦
          let t = k.at_call in
          let o : Order = record { stream = k.stream; at = (progress_of n.w k.stream).at; call = k.call; number = n.since k.stream + 1 } in
          inr (record { stream = k.stream; order = o; current = is_order o (record { instr = k.instr; at_call = t; position = refl; number = refl }); shard = k.shard; server = k.server })
    ];
    present = λ id o e.
        let c = order_current n id o (sym (order_same n h id) ∙ e) in
        let number = c.0.number in
        elim (is_in n.had o.stream) [
          | inl k ↦ (let l = sound.had_last o.stream c.0.instr o.call k c.0.at_call in omega arith)
          | inr k ↦ (let l = sound.fresh o.stream c.0.instr o.call k c.0.at_call in omega arith)
        ];
    sent = all_map (IsKnown n) (IsPresentOrPast (counted.order_of n.base n.w) n.last) n.sent (λ o k. elim k [
      | inl c ↦ inl (is_order o c)
      | inr p ↦ inr p.last
    ]) sound.sent;
    unbegun = h.unbegun;
  }

-- what numbers say of the network that counts from 0
low_in_order : low.EachNet (λ setup n. AreInOrder (counted.order_of n.base n.w) n.last (n.base + length n.w.log) n.sent n.w)
low_in_order = by_traces (λ setup n. AreInOrder (counted.order_of n.base n.w) n.last (n.base + length n.w.log) n.sent n.w)
    (λ setup n r h. traced_in_order setup n (net_sound setup n r) h)

-- an order with the base added is one that counts from 0
record IsAbove (base : ℕ) (w : State) (id : StreamId) (p : Order) : Type 0 where
  pub order : Order
  pub below : counted.order_of base w id ≡ Some order
  pub same : p ≡ order_above base order

is_above : (base : ℕ) (w : State) (id : StreamId) (p : Order) → order_of base w id ≡ Some p → IsAbove base w id p
is_above base w id p e = go (counted.order_of base w id) refl (sym (orders_up base w id) ∙ e)
  where
    go : (o : Option Order) → counted.order_of base w id ≡ o → option_map (order_above base) o ≡ Some p → IsAbove base w id p
    go None f q = absurd (cc)
    go (Some o) f q = record { order = o; below = f; same = sym (some_same (order_above base o) p q) }

raised_sent : (n : Net) (ps os : List Order) → AreRaised n.base n.last ps os → AllByRecursion (IsPresentOrPast (counted.order_of n.base n.w) n.last) os → AllByRecursion (IsPresentOrPast (order_of n.base n.w) n.last) ps
raised_sent n [] [] h all = tt
raised_sent n (p ∷ ps) (o ∷ os) h all = (one h.0 all.0, raised_sent n ps os h.1 all.1)
  where
    one : IsRaised n.base n.last p o → IsPresentOrPast (counted.order_of n.base n.w) n.last o → IsPresentOrPast (order_of n.base n.w) n.last p
    one (inl a) (inl c) = inl (subst (λ (q : Order). order_of n.base n.w q.stream ≡ Some q) (sym a.0) (order_known n.base n.w o.stream o c))
    one (inl a) (inr l) = inr (subst (λ (q : Order). q.number ≤ n.last q.call.shard q.call.server) (sym a.0) l)
    one (inr a) c = inr (subst (λ (q : Order). q.number ≤ n.last q.call.shard q.call.server) (sym a.0) a.1)
raised_sent n [] (o ∷ os) h all = absurd h
raised_sent n (p ∷ ps) [] h all = absurd h

-- the present order of a stream is no lower than the last one of its cell, and every other one is past
pub net_in_order : EachNet (λ setup n. AreInOrder (order_of n.base n.w) n.last (n.base + length n.w.log) n.sent n.w)
net_in_order = by_counts (λ setup n. AreInOrder (order_of n.base n.w) n.last (n.base + length n.w.log) n.sent n.w) (λ setup n S A Q r b.
    let a = low_in_order setup n r in record {
      lasts = λ s v. elim (a.lasts s v) [
        | inl l ↦ inl l
        | inr k ↦ inr (record { stream = k.stream; order = order_above n.base k.order; current = order_known n.base n.w k.stream k.order k.current; shard = k.shard; server = k.server })
      ];
      present = λ id p e.
          let x = is_above n.base n.w id p e in
          let l = a.present id x.order x.below in
          subst (λ (q : Order). n.last q.call.shard q.call.server ≤ q.number) (sym x.same) l;
      sent = raised_sent n S n.sent b.sent a.sent;
      unbegun = a.unbegun;
    })
