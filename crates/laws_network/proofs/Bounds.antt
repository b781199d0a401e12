-- Bounds of numbers and cells, wherever events lead: what a reopening has to know of the epoch that it ends.
use Rattle.std.proofs.Common.{◌≡◌, ℕ, ◌+◌, ◌≤◌, refl, sym, ap, ◌∙◌, inl, inr, subst, arith, true, Ok, List, [], ◌∷◌, length}
use Rattle.std.specs.Prelude.{◌-◌, not}
use Rattle.std.specs.List.{AllByRecursion}
use Rattle.sm_server.specs.declared.call.Cell.TheVariants.{Absent}
use Rattle.sm_server.specs.declared.call.Call.{Call}
use Rattle.sm_server.specs.Call.{served}
use Rattle.sm_placement.specs.Setup.{Setup, Sizes}
use Rattle.sm_placement.specs.Place.{Place, called, load_at, with_answer}
use Rattle.sm_reservation.specs.declared.stream_id.StreamId.{StreamId}
use Rattle.sm_plan_code.specs.declared.instruction.Instr.{Instr}
use Rattle.sm_plan_code.specs.declared.call.ServerCall.{ServerCall}
use Rattle.sm_protocol.specs.State.{State}
use Rattle.sm_protocol.specs.Laws.{IsReached, MOST_PLACES}
use Rattle.sm_protocol.proofs.Invariant.{IsKept}
use Rattle.sm_protocol.proofs.LogRoom.{has_room}
use Rattle.sm_protocol.proofs.Reached.{of_opening}
use Rattle.sm_protocol.proofs.Whole.{reached_keeps}
use Rattle.laws_network.specs.Net.{Net, Order, Ticket, cell_above}
use Rattle.laws_network.specs.Laws.{EachNet}
use Rattle.laws_network.proofs.Traced as traced
use Rattle.laws_network.proofs.Overlay.{IsIn, made_at, over_numbers, overlay, put2-other}
use Rattle.laws_network.proofs.Apart.{IsAtCall}
use Rattle.laws_network.proofs.Ahead.{IsMade, ahead_of, call_is, made_all}
use Rattle.laws_network.proofs.Calls.{IsReady, is_called}
use Rattle.laws_network.proofs.Calm.{ready}
use Rattle.laws_network.proofs.Events.{net_sound}
use Rattle.laws_network.proofs.Lists.{all_at, all_map}
use Rattle.laws_network.proofs.CountedLaws as low
use Rattle.laws_network.proofs.Numbered.{numbers_logged}
use Rattle.laws_network.proofs.Raised.{AreRaised, IsPassOf, by_counts}
use Rattle.laws_network.proofs.Sound.{IsAnswer, IsKnown, IsPassable, IsSound, last_had}
use Rattle.laws_network.proofs.Untraced.{by_traces}

-- no log is longer than its opening allows
pub log_is_short : (setup : Setup) (w : State) → IsReached setup w → length w.log ≤ MOST_PLACES
log_is_short setup w r = let a = (has_room setup w r).room in let b = (of_opening setup w r).is_opening.most in omega arith

-- ---- counted from 0

abbrev IsLow : Net → Order → Type 0
IsLow n o = o.number ≤ n.base + length n.w.log + 1

record IsBoundedLow (n : Net) : Type 0 where
  pub log : length n.w.log ≤ MOST_PLACES
  pub sent : AllByRecursion (IsLow n) n.sent
  pub answers : AllByRecursion (λ o. IsLow n o × (o.number ≤ n.last o.call.shard o.call.server)) n.answers
  pub lasts : (s v : ℕ) → n.last s v ≤ n.base + length n.w.log + 1
  pub passes : AllByRecursion (λ t. t.number ≤ MOST_PLACES) n.passes
  pub no_server : (s v : ℕ) → n.w.sizes.servers ≤ v → n.cells s v ≡ Absent
  pub down : (s v : ℕ) → n.w.place.down v ≡ true → n.cells s v ≡ n.w.place.cells s v

-- a call that goes through is at a server that is up
called_up : (p : Place) (s v : ℕ) (c : Sizes) (call : Call) (q : Place) → called c p s v call ≡ Ok q → p.down v ≡ true → ⊥
called_up p s v c call q e d =
    let f : with_answer p s v (served (p.cells s v) (c.room v - load_at c p v) (c.load s) (not true) call) ≡ Ok q =
    subst (λ b. with_answer p s v (served (p.cells s v) (c.room v - load_at c p v) (c.load s) (not b) call) ≡ Ok q) d e in
    absurd (cc)

module _ (setup : Setup) (n : traced.Net) (sound : IsSound setup n) where
  kept : IsKept n.w
  kept = (reached_keeps setup n.w sound.reached).0

  -- no stream stands before a call at a server that is recorded as down
  call_up : (id : StreamId) (i : Instr) (x : ServerCall) → IsAtCall n.w id i x → n.w.place.down x.server ≡ true → ⊥
  call_up id i x t = called_up n.w.place x.shard x.server n.w.sizes x.call _ (is_called n.w kept id i x sound.calm.halted (ready kept sound.calm t))

  -- so it has what is recorded
  overlay_down : (ids : List StreamId) → ((id : StreamId) → IsIn ids id → IsIn n.had id) → (s v : ℕ) → n.w.place.down v ≡ true → overlay n.w ids n.w.place.cells s v ≡ n.w.place.cells s v
  overlay_down [] into s v d = refl
  overlay_down (a ∷ ids) into s v d =
      let t = sound.at_calls a (into a (inl refl)) in
      let x = t.1 in
      ap (λ c. made_at c (overlay n.w ids n.w.place.cells) s v) (call_is t.2)
      ∙ put2-other (overlay n.w ids n.w.place.cells) x.shard x.server _ s v (λ e. call_up a t.0 x t.2 (subst (λ u. n.w.place.down u ≡ true) e.1 d))
      ∙ overlay_down ids (λ id k. into id (inr k)) s v d

  -- the state with these calls made
  ready_all : (id : StreamId) → IsIn n.had id → (i : Instr) × (x : ServerCall) × IsReady n.w id i x
  ready_all id h = let t = sound.at_calls id h in (t.0, t.1, ready kept sound.calm t.2)

  made : IsMade setup n.w n.had (ahead_of n.had n.w)
  made = made_all setup n.had n.w sound.reached sound.calm.halted ready_all sound.once

  no_server : (s v : ℕ) → n.w.sizes.servers ≤ v → n.cells s v ≡ Absent
  no_server s v l =
      let there = (reached_keeps setup (ahead_of n.had n.w) made.reached).0 in
      ap (λ f. f s v) sound.cells ∙ ap (λ (p : Place). p.cells s v) (sym made.place) ∙ there.stage.placement.no_server s v (subst (λ (c : Sizes). c.servers ≤ v) (sym made.sizes) l)

  low_pass : (t : Ticket) → IsPassable n t → t.number ≤ MOST_PLACES
  low_pass t h =
      let a = h.most in
      let b : over_numbers n.w n.had n.w.numbers t.shard ≡ (ahead_of n.had n.w).numbers t.shard = ap (λ f. f t.shard) (sym made.numbers) in
      let c = numbers_logged setup (ahead_of n.had n.w) made.reached t.shard in
      let d = log_is_short setup (ahead_of n.had n.w) made.reached in
      omega arith

  bounded_low : IsBoundedLow (record { w = n.w; base = n.base; cells = n.cells; last = n.last; sent = n.sent; answers = n.answers; passes = n.passes })
  bounded_low = record {
    log = log_is_short setup n.w sound.reached;
    sent = all_map (IsKnown n) (λ o. o.number ≤ n.base + length n.w.log + 1) n.sent low_order sound.sent;
    answers = all_map (IsAnswer n) (λ o. (o.number ≤ n.base + length n.w.log + 1) × (o.number ≤ n.last o.call.shard o.call.server)) n.answers (λ o a. (low_order o a.0, a.1)) sound.answers;
    lasts = λ s v. elim (sound.lasts s v) [ inl l ↦ omega arith | inr h ↦ (let a = last_had sound s v h in let b = sound.sinces h.stream in omega arith) ];
    passes = all_map (IsPassable n) (λ t. t.number ≤ MOST_PLACES) n.passes low_pass sound.passes;
    no_server = no_server;
    down = λ s v d. ap (λ f. f s v) sound.cells ∙ overlay_down n.had (λ id k. k) s v d;
  }
    where
      low_order : (o : Order) → IsKnown n o → o.number ≤ n.base + length n.w.log + 1
      low_order o (inl c) = let a = c.number in let b = sound.sinces o.stream in omega arith
      low_order o (inr p) = let a = p.since in let b = sound.sinces o.stream in omega arith

-- ---- with the base

-- Facts that are known of a network wherever events lead.
pub record IsBounded (n : Net) : Type 0 where
  pub log : length n.w.log ≤ MOST_PLACES
  pub sent : AllByRecursion (λ o. o.number ≤ n.base + length n.w.log + 1) n.sent
  pub answers : AllByRecursion (λ o. (o.number ≤ n.base + length n.w.log + 1) × (o.number ≤ n.last o.call.shard o.call.server)) n.answers
  pub lasts : (s v : ℕ) → n.last s v ≤ n.base + length n.w.log + 1
  pub passes : AllByRecursion (λ t. t.number ≤ n.base + MOST_PLACES) n.passes
  pub no_server : (s v : ℕ) → n.w.sizes.servers ≤ v → n.cells s v ≡ Absent
  pub down : (s v : ℕ) → n.w.place.down v ≡ true → n.cells s v ≡ cell_above n.base (n.w.place.cells s v)

-- an order of this controller with the base added, or an old one
raised_all : (base bound : ℕ) (last : ℕ → ℕ → ℕ) (ps os : List Order) → ((s v : ℕ) → last s v ≤ bound) → AreRaised base last ps os → AllByRecursion (λ o. o.number ≤ bound) os → AllByRecursion (λ o. o.number ≤ bound) ps
raised_all base bound last [] [] l r all = tt
raised_all base bound last (p ∷ ps) (o ∷ os) l (inl e, r) all = (subst (λ (q : Order). q.number ≤ bound) (sym e.0) all.0, raised_all base bound last ps os l r all.1)
raised_all base bound last (p ∷ ps) (o ∷ os) l (inr e, r) all = (subst (λ (q : Order). q.number ≤ bound) (sym e.0) all.0, raised_all base bound last ps os l r all.1)
raised_all base bound last [] (o ∷ os) l r all = absurd r
raised_all base bound last (p ∷ ps) [] l r all = absurd r

abbrev IsAnswered : ℕ → (ℕ → ℕ → ℕ) → Order → Type 0
IsAnswered bound last o = (o.number ≤ bound) × (o.number ≤ last o.call.shard o.call.server)

raised_answers : (base bound : ℕ) (last : ℕ → ℕ → ℕ) (ps os : List Order) → AreRaised base last ps os → AllByRecursion (IsAnswered bound last) os → AllByRecursion (IsAnswered bound last) ps
raised_answers base bound last [] [] r all = tt
raised_answers base bound last (p ∷ ps) (o ∷ os) (inl e, r) all = (subst (IsAnswered bound last) (sym e.0) all.0, raised_answers base bound last ps os r all.1)
raised_answers base bound last (p ∷ ps) (o ∷ os) (inr e, r) all = (subst (IsAnswered bound last) (sym e.0) all.0, raised_answers base bound last ps os r all.1)
raised_answers base bound last [] (o ∷ os) r all = absurd r
raised_answers base bound last (p ∷ ps) [] r all = absurd r

bounded_counted : low.EachNet (λ setup n. IsBoundedLow n)
bounded_counted = by_traces (λ setup n. IsBoundedLow n) (λ setup n r h. bounded_low setup n (net_sound setup n r))

-- so it is of each network
pub is_bounded : EachNet (λ setup n. IsBounded n)
is_bounded = by_counts (λ setup n. IsBounded n) (λ setup n S A Q r b. let k = bounded_counted setup n r in record {
  log = k.log;
  sent = raised_all n.base (n.base + length n.w.log + 1) n.last S n.sent k.lasts b.sent k.sent;
  answers = raised_answers n.base (n.base + length n.w.log + 1) n.last A n.answers b.answers k.answers;
  lasts = k.lasts;
  passes = all_map (IsPassOf n.base n.passes) (λ t. t.number ≤ n.base + MOST_PLACES) Q (pass_low n k) b.passes;
  no_server = λ s v l. ap (cell_above n.base) (k.no_server s v l);
  down = λ s v d. ap (cell_above n.base) (k.down s v d);
})
  where
    pass_low : (n : Net) → IsBoundedLow n → (t : Ticket) → IsPassOf n.base n.passes t → t.number ≤ n.base + MOST_PLACES
    pass_low n k t (inl l) = omega arith
    pass_low n k t (inr h) = let a = all_at (λ u. u.number ≤ MOST_PLACES) n.passes h.0 h.1 k.passes h.2 in let e : t.number ≡ n.base + h.1.number = ap (λ (x : Ticket). x.number) h.3 in omega arith
