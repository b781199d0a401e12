-- No effect is had twice.
use Rattle.std.proofs.Common.{◌≡◌, ℕ, ◌+◌, ◌<◌, ◌≤◌, ◌⊎◌, refl, sym, ap, ◌∙◌, inl, inr, subst, arith, Bool, true, false, Option, Some, None, Result, Ok, Err, List, [], ◌∷◌, ◌++◌}
use Rattle.std.specs.Prelude.{◌==◌, ◌&&◌, cond, nat_lt, count_by, if◌then◌else◌, slice_get}
use Rattle.std.proofs.lemmas.Bool.{and_parts, cases_Bool, eqb-false, eqb-true, ltb-false}
use Rattle.std.proofs.lemmas.List.Sums.{sum_by-cons}
use Rattle.sm_server.specs.declared.call.Refusal.{Refusal}
use Rattle.sm_placement.specs.Setup.{Setup}
use Rattle.sm_placement.specs.Sums.{put2}
use Rattle.sm_verifier.proofs.OnePlace.{put2_cases}
use Rattle.sm_protocol.specs.Happens.{Step, happens}
use Rattle.laws_network.specs.Orders.{by_served}
use Rattle.sm_server.specs.Call.{served}
use Rattle.std.specs.Prelude.{◌-◌}
use Rattle.laws_network.proofs.Traced.{Cell, Delivery, after_delivery, load_of, Answer, Ask, Control, Deliver, Net, NetEvent, NetOutcome, Order, Pass, Quiet, Send, Served, Ticket, answer_taken, at_place, passed, comes, controlled, delivered, is_awaited, is_own, without}
use Rattle.laws_network.proofs.TracedLaws.{AllNetFit, EachNet, EffectsOnce, InstructionsOnce, NetFits, is_for, is_of_instruction, order_served, orders_served}
use Rattle.laws_network.proofs.Traced.{State, StreamId, is_token, progress_of}
use Rattle.sm_protocol.proofs.Numbers.{one_stream}
use Rattle.sm_protocol.proofs.Tries.{can_reach}
use Rattle.sm_protocol.proofs.Whole.{reached_keeps}
use Rattle.laws_network.proofs.Apart.{mentions}
use Rattle.laws_network.proofs.Overlay.{IsIn, put2-at}
use Rattle.laws_network.proofs.Lists.{all_at, other_token, to_without}
use Rattle.laws_network.proofs.Calm.{at_grows, own_frame}
use Rattle.laws_network.proofs.Sound.{IsAnswer, IsKnown, IsSound}
use Rattle.laws_network.proofs.Control.{forward, frame_forward, further}
use Rattle.laws_network.proofs.Events.{comes_good, is_fresh, is_outstanding, net_sound, same_sizes}

-- ---- what is passed once is passed for good

-- what is known of each event of a list
abbrev pub AlongEach : (Net → NetEvent → Type 0) → List NetEvent → Net → Type 0
AlongEach Known [] n = Unit {0}
AlongEach Known (e ∷ es) n = Known n e × AlongEach Known es (comes n e).1

-- one order more
pub one_if : Bool → ℕ
one_if b = cond b 1 0

-- a count with one more order
pub count_more : (test : Order → Bool) (o : Order) (os : List Order) (b : Bool) → test o ≡ b → count_by test (o ∷ os) ≡ one_if b + count_by test os
unfolding one_if
count_more test o os b e = sum_by-cons (λ x. cond (test x) 1 0) o os ∙ ap (λ c. cond {A = ℕ} c 1 0 + count_by test os) e

-- an order that passes the test counts one
pub count_hit : (test : Order → Bool) (o : Order) (os : List Order) → test o ≡ true → count_by test (o ∷ os) ≡ 1 + count_by test os
unfolding one_if
count_hit test o os e = count_more test o os true e

-- one that does not pass counts nothing
pub count_miss : (test : Order → Bool) (o : Order) (os : List Order) → test o ≡ false → count_by test (o ∷ os) ≡ count_by test os
unfolding one_if
count_miss test o os e = let m : count_by test (o ∷ os) ≡ 0 + count_by test os = count_more test o os false e in omega arith

count_yes : (test : Order → Bool) (o : Order) (os : List Order) → test o ≡ true → count_by test (o ∷ os) ≡ 1 + count_by test os
unfolding one_if
count_yes test o os e = count_more test o os true e

count_no : (test : Order → Bool) (o : Order) (os : List Order) → test o ≡ false → count_by test (o ∷ os) ≡ 0 + count_by test os
unfolding one_if
count_no test o os e = count_more test o os false e

-- An order that passes the test is served only where the state has not passed, and lets it pass for good: so one is served once.
module _ (test : Order → Bool) (Passed : Net → Type 0) (Known : Net → NetEvent → Type 0)
    (stays : (n : Net) (e : NetEvent) → Known n e → Passed n → Passed (comes n e).1)
    (serves : (n : Net) (e : NetEvent) (o : Order) → Known n e → (comes n e).0 ≡ Served o → test o ≡ true → (Passed n → ⊥) × Passed (comes n e).1) where
  abbrev HasEffectsOnce : Net → List Order → Type 0
  HasEffectsOnce n os = (count_by test os ≤ 1) × (Passed n → count_by test os ≡ 0)

  once_more : (n : Net) (e : NetEvent) → Known n e → (os : List Order) → HasEffectsOnce (comes n e).1 os → (r : NetOutcome) → (comes n e).0 ≡ r → HasEffectsOnce n (order_served r ++ os)
  once_more n e known os rest (Served o) q = elim (cases_Bool (test o)) [
    | inl t ↦
        let s = serves n e o known q t in
        let m : count_by test (order_served (Served o) ++ os) ≡ 1 + count_by test os = count_yes test o os t in
        let none = rest.1 s.1 in
        ((omega arith), (λ p. absurd (s.0 p)))
    | inr t ↦
        let m : count_by test (order_served (Served o) ++ os) ≡ 0 + count_by test os = count_no test o os t in
        let most = rest.0 in
        ((omega arith), (λ p. let none = rest.1 (stays n e known p) in omega arith))
  ]
  once_more n e known os rest _ q = (rest.0, λ p. rest.1 (stays n e known p))

  pub once : (es : List NetEvent) (n : Net) → AlongEach Known es n → HasEffectsOnce n (orders_served es n)
  once [] n all = ((omega arith), (λ p. refl))
  once (e ∷ es) n all = once_more n e all.0 (orders_served es (comes n e).1) (once es (comes n e).1 all.1) (comes n e).0 refl

-- ---- deliveries

-- The outcome of an order at its server.
pub record IsDelivered (n : Net) (o : Order) (r : NetOutcome × Net) : Type 0 where
  pub w : r.1.w ≡ n.w
  pub since : r.1.since ≡ n.since
  pub base : r.1.base ≡ n.base
  pub had : (id : StreamId) → IsIn n.had id → IsIn r.1.had id
  pub grows : (s u : ℕ) → n.last s u ≤ r.1.last s u
  pub serves : (p : Order) → r.0 ≡ Served p → (o ≡ p) × (n.last o.call.shard o.call.server < o.number) × (r.1.last o.call.shard o.call.server ≡ o.number) × IsIn r.1.had o.stream

-- one that is served
module _ (n : Net) (o : Order) (above : n.last o.call.shard o.call.server < o.number) where
  put_grows : (s u : ℕ) → n.last s u ≤ put2 n.last o.call.shard o.call.server o.number s u
  put_grows s u = elim (put2_cases n.last o.call.shard o.call.server o.number s u) [
    | inl h ↦ (
        let same : n.last s u ≡ n.last o.call.shard o.call.server = ap (λ k. n.last k u) h.0 ∙ ap (λ k. n.last o.call.shard k) h.1 in
        let l = h.2 in
        let a = above in
        omega arith
        )
    | inr h ↦ (let l = h.1 in omega arith)
  ]

  same_order : (p : Order) → Served o ≡ Served p → o ≡ p
  same_order p e = cc

  of_served : (r : Result Cell Refusal) → IsDelivered n o (after_delivery n o (by_served r))
  of_served (Err why) = record { w = refl; since = refl; base = refl; had = λ id h. h; grows = λ s u. omega arith; serves = λ p e. absurd (cc) }
  of_served (Ok next) = record {
    w = refl;
    since = refl;
    base = refl;
    had = λ id h. inr h;
    grows = put_grows;
    serves = λ p e. (same_order p e, above, put2-at n.last o.call.shard o.call.server o.number o.call.shard o.call.server refl refl, inl refl);
  }

-- what becomes of an order by its number
pub is_delivered : (n : Net) (o : Order) → IsDelivered n o (delivered n o)
is_delivered n o = on_lower (nat_lt o.number (n.last o.call.shard o.call.server)) refl
  where
    on_same : (b : Bool) → (o.number == n.last o.call.shard o.call.server) ≡ b → nat_lt o.number (n.last o.call.shard o.call.server) ≡ false → (r : Result Cell Refusal) →
        IsDelivered n o (after_delivery n o (if b then Delivery.Again else by_served r))
    on_same true e l r = record { w = refl; since = refl; base = refl; had = λ id h. h; grows = λ s u. omega arith; serves = λ p q. absurd (cc) }
    on_same false e l r = of_served n o (let a = ltb-false _ _ l in let b = eqb-false _ _ e in omega arith) r

    on_lower : (b : Bool) → nat_lt o.number (n.last o.call.shard o.call.server) ≡ b →
        IsDelivered n o (after_delivery n o (if b then Delivery.Old else if o.number == n.last o.call.shard o.call.server then Delivery.Again else by_served (served (n.cells o.call.shard o.call.server) (n.w.sizes.room o.call.server - load_of n.w.sizes n.cells o.call.server) (n.w.sizes.load o.call.shard) true o.call.call)))
    on_lower true e = record { w = refl; since = refl; base = refl; had = λ id h. h; grows = λ s u. omega arith; serves = λ p q. absurd (cc) }
    on_lower false e = on_same (o.number == n.last o.call.shard o.call.server) refl e _

-- ---- cells

-- last numbers never fall, and an order that is served raises that of its cell to its own
pub record Raises (n : Net) (r : NetOutcome × Net) : Type 0 where
  pub grows : (s u : ℕ) → n.last s u ≤ r.1.last s u
  pub serves : (o : Order) → r.0 ≡ Served o → (n.last o.call.shard o.call.server < o.number) × (r.1.last o.call.shard o.call.server ≡ o.number)

raises : (n : Net) (e : NetEvent) → Raises n (comes n e)
raises n (Control e) = go (is_own n.w e)
  where
    go : (b : Bool) → Raises n (if b then controlled n (happens n.w e) n.had else (Quiet, n))
    go true = record { grows = λ s u. omega arith; serves = λ o q. absurd (cc) }
    go false = record { grows = λ s u. omega arith; serves = λ o q. absurd (cc) }
raises n (Send id) = record { grows = λ s u. omega arith; serves = λ o q. absurd (cc) }
raises n (Deliver k) = go (slice_get n.sent k)
  where
    go : (o : Option Order) → Raises n (at_place n delivered o)
    go None = record { grows = λ s u. omega arith; serves = λ o q. absurd (cc) }
    go (Some o) =
        let d = is_delivered n o in
        record {
          grows = d.grows;
          serves = λ p q. let s = d.serves p q in subst (λ (z : Order). (n.last z.call.shard z.call.server < z.number) × ((delivered n o).1.last z.call.shard z.call.server ≡ z.number)) s.0 (s.1, s.2);
        }
raises n (Answer k) = go (slice_get n.answers k)
  where
    by_answer : (o : Order) (b : Bool) → Raises n (if b then controlled n (happens n.w (Step o.stream)) (without o.stream n.had) else (Quiet, n))
    by_answer o true = record { grows = λ s u. omega arith; serves = λ o q. absurd (cc) }
    by_answer o false = record { grows = λ s u. omega arith; serves = λ o q. absurd (cc) }

    go : (o : Option Order) → Raises n (at_place n answer_taken o)
    go None = record { grows = λ s u. omega arith; serves = λ o q. absurd (cc) }
    go (Some o) = by_answer o (is_awaited n o)
raises n (Ask s u) = record { grows = λ s u. omega arith; serves = λ o q. absurd (cc) }
raises n (Pass k) = go (slice_get n.passes k)
  where
    go : (o : Option Ticket) → Raises n (passed n o)
    go None = record { grows = λ s u. omega arith; serves = λ o q. absurd (cc) }
    go (Some t) = record { grows = λ s u. omega arith; serves = λ o q. absurd (cc) }

-- what an order for this cell under this number is
parts_for : (s v number : ℕ) (o : Order) → is_for s v number o ≡ true → (o.call.shard ≡ s) × (o.call.server ≡ v) × (o.number ≡ number)
parts_for s v number o e =
    let a = and_parts (o.call.shard == s) ((o.call.server == v) && (o.number == number)) e in
    let b = and_parts (o.call.server == v) (o.number == number) a.1 in
    (eqb-true _ _ a.0, eqb-true _ _ b.0, eqb-true _ _ b.1)

all_known : (es : List NetEvent) (n : Net) → AlongEach (λ n e. Unit {0}) es n
all_known [] n = tt
all_known (e ∷ es) n = (tt, all_known es (comes n e).1)

-- a cell has the effect of a number once at most
pub effects_once : EffectsOnce
effects_once n es s v number = once (is_for s v number) (λ m. number ≤ m.last s v) (λ m e. Unit {0})
    (λ m e known p. let g = (raises m e).grows s v in omega arith)
    (λ m e o known q t.
    let r = (raises m e).serves o q in
    let f = parts_for s v number o t in
    let was : m.last o.call.shard o.call.server ≡ m.last s v = ap (λ k. m.last k o.call.server) f.0 ∙ ap (λ k. m.last s k) f.1 in
    let is : (comes m e).1.last o.call.shard o.call.server ≡ (comes m e).1.last s v = ap (λ k. (comes m e).1.last k o.call.server) f.0 ∙ ap (λ k. (comes m e).1.last s k) f.1 in
    let a = r.0 in
    let b = r.1 in
    let c = f.2 in
    ((λ p. absurd (omega arith)), (omega arith)))
    es n (all_known es n)

-- ---- instructions

-- the stream's instruction at this position has had its effect: the stream stands behind it, or the answer is outstanding
abbrev pub HasPassed : StreamId → ℕ → Net → Type 0
HasPassed id at n = (at < (progress_of n.w id).at) ⊎ (IsIn n.had id × (at ≡ (progress_of n.w id).at))

module _ (setup : Setup) where
  -- events lead here, and the next one fits
  abbrev IsAlong : Net → NetEvent → Type 0
  IsAlong n e = IsSound setup n × NetFits n.w.sizes e

  along : (es : List NetEvent) (n : Net) → IsSound setup n → AllNetFit n.w.sizes es → AlongEach IsAlong es n
  along [] n sound fit = tt
  along (e ∷ es) n sound fit =
      ((sound, fit.0), along es (comes n e).1 (comes_good setup n sound e fit.0).sound (subst (λ c. AllNetFit c es) (sym (same_sizes setup n sound e fit.0)) fit.1))

  stays_passed : (id : StreamId) (at : ℕ) (n : Net) (e : NetEvent) → IsAlong n e → HasPassed id at n → HasPassed id at (comes n e).1
  stays_passed id at n (Control e) k p = go (is_own n.w e) refl p
    where
      go : (b : Bool) → is_own n.w e ≡ b → HasPassed id at n → HasPassed id at (if b then controlled n (happens n.w e) n.had else (Quiet, n)).1
      go false o p = p
      go true o (inl l) = inl (let g = at_grows n.w e id in omega arith)
      go true o (inr h) = inr (h.0, let t = k.0.at_calls id h.0 in h.1 ∙ sym (frame_forward n.w (happens n.w e).1 (own_frame n.w e o) id t.0 t.1 t.2).1)
  stays_passed id at n (Send a) k p = p
  stays_passed id at n (Deliver j) k p = go (slice_get n.sent j)
    where
      go : (o : Option Order) → HasPassed id at (at_place n delivered o).1
      go None = p
      go (Some o) = let d = is_delivered n o in elim p [
        | inl l ↦ inl (subst (λ (w : State). at < (progress_of w id).at) (sym d.w) l)
        | inr h ↦ inr (d.had id h.0, subst (λ (w : State). at ≡ (progress_of w id).at) (sym d.w) h.1)
      ]
  stays_passed id at n (Answer j) k p = go (slice_get n.answers j) refl
    where
      by_answer : (o : Order) → IsAnswer n o → (b : Bool) → is_awaited n o ≡ b → HasPassed id at n →
          HasPassed id at (if b then controlled n (happens n.w (Step o.stream)) (without o.stream n.had) else (Quiet, n)).1
      by_answer o a false e p = p
      by_answer o a true e (inl l) = inl (let g = at_grows n.w (Step o.stream) id in omega arith)
      by_answer o a true e (inr h) =
          let c = is_outstanding setup n k.0 o a e in
          elim (one_stream id o.stream) [
            | inl q ↦ inl (
                let f = further setup n k.0 o.stream c.0.instr o.call c.1 c.0.at_call in
                let g : at ≡ (progress_of n.w o.stream).at = h.1 ∙ ap (λ a. (progress_of n.w a).at) q in
                subst (λ a. at < (progress_of (happens n.w (Step o.stream)).1 a).at) (sym q) (omega arith)
                )
            | inr d ↦ inr (
              to_without o.stream n.had id h.0 d,
              let t = k.0.at_calls id h.0 in h.1 ∙ sym (forward setup n k.0 o.stream c.0.instr o.call c.1 c.0.at_call id t.0 t.1 d t.2).1,
            )
          ]

      go : (o : Option Order) → slice_get n.answers j ≡ o → HasPassed id at (at_place n answer_taken o).1
      go None e = p
      go (Some o) e = by_answer o (all_at (IsAnswer n) n.answers j o k.0.answers e) (is_awaited n o) refl p
  stays_passed id at n (Ask s u) k p = p
  stays_passed id at n (Pass j) k p = go (slice_get n.passes j)
    where
      go : (o : Option Ticket) → HasPassed id at (passed n o).1
      go None = p
      go (Some t) = p

  serves_passed : (id : StreamId) (at : ℕ) (n : Net) (e : NetEvent) (o : Order) → IsAlong n e → (comes n e).0 ≡ Served o → is_of_instruction id at o ≡ true → (HasPassed id at n → ⊥) × HasPassed id at (comes n e).1
  serves_passed id at n (Control e) o k q t = absurd (go (is_own n.w e) q)
    where
      go : (b : Bool) → (if b then controlled n (happens n.w e) n.had else (Quiet, n)).0 ≡ Served o → ⊥
      go true q = cc
      go false q = cc
  serves_passed id at n (Send a) o k q t = absurd (cc)
  serves_passed id at n (Answer j) o k q t = absurd (go (slice_get n.answers j) q)
    where
      by_answer : (p : Order) (b : Bool) → (if b then controlled n (happens n.w (Step p.stream)) (without p.stream n.had) else (Quiet, n)).0 ≡ Served o → ⊥
      by_answer p true q = cc
      by_answer p false q = cc

      go : (p : Option Order) → (at_place n answer_taken p).0 ≡ Served o → ⊥
      go None q = cc
      go (Some p) q = by_answer p (is_awaited n p) q
  serves_passed id at n (Deliver j) o k q t = go (slice_get n.sent j) refl q
    where
      -- the order is of this stream, and at this position
      stream : o.stream ≡ id
      stream = let a = and_parts (is_token id o.stream) (o.at == at) t in elim (one_stream o.stream id) [
        | inl e ↦ e
        | inr d ↦ absurd (let b = other_token o.stream id (λ e. d (sym e)) in let z = a.0 in cc)
      ]

      position : o.at ≡ at
      position = eqb-true _ _ (and_parts (is_token id o.stream) (o.at == at) t).1

      go : (p : Option Order) → slice_get n.sent j ≡ p → (at_place n delivered p).0 ≡ Served o → (HasPassed id at n → ⊥) × HasPassed id at (at_place n delivered p).1
      go None e q = absurd (cc)
      go (Some p) e q =
          let d = is_delivered n p in
          let s = d.serves o q in
          let known = all_at (IsKnown n) n.sent j p k.0.sent e in
          let f = is_fresh setup n k.0 p known s.1 in
          let own : p.stream ≡ id = ap (λ (z : Order). z.stream) s.0 ∙ stream in
          let here : at ≡ (progress_of n.w id).at = sym position ∙ ap (λ (z : Order). z.at) (sym s.0) ∙ f.0.position ∙ ap (λ a. (progress_of n.w a).at) own in (
            (λ h. elim h [ inl l ↦ absurd (omega arith) | inr i ↦ f.1 (subst (IsIn n.had) (sym own) i.0) ]),
            inr (subst (IsIn (delivered n p).1.had) own s.3, here ∙ ap (λ (w : State). (progress_of w id).at) (sym d.w)),
          )
  serves_passed id at n (Ask s u) o k q t = absurd (cc)
  serves_passed id at n (Pass j) o k q t = absurd (go (slice_get n.passes j) q)
    where
      go : (p : Option Ticket) → (passed n p).0 ≡ Served o → ⊥
      go None q = cc
      go (Some p) q = cc

-- an instruction has its effect once at most
pub instructions_once : EachNet InstructionsOnce
instructions_once setup n r es id at fit =
    let sound = net_sound setup n r in
    (once (is_of_instruction id at) (HasPassed id at) (IsAlong setup) (stays_passed setup id at) (serves_passed setup id at) es n (along setup es n sound fit)).0

-- ---- who serves

-- an order is served only where it comes to its server
only_deliveries : (n : Net) (e : NetEvent) (o : Order) → (comes n e).0 ≡ Served o → (k : ℕ) × (p : Order) × (slice_get n.sent k ≡ Some p) × ((delivered n p).0 ≡ Served o)
only_deliveries n (Control e) o q = absurd (go (is_own n.w e) q)
  where
    go : (b : Bool) → (if b then controlled n (happens n.w e) n.had else (Quiet, n)).0 ≡ Served o → ⊥
    go true q = cc
    go false q = cc
only_deliveries n (Send a) o q = absurd (cc)
only_deliveries n (Ask s u) o q = absurd (cc)
only_deliveries n (Pass j) o q = absurd (go (slice_get n.passes j) q)
  where
    go : (p : Option Ticket) → (passed n p).0 ≡ Served o → ⊥
    go None q = cc
    go (Some p) q = cc
only_deliveries n (Answer j) o q = absurd (go (slice_get n.answers j) q)
  where
    by_answer : (p : Order) (b : Bool) → (if b then controlled n (happens n.w (Step p.stream)) (without p.stream n.had) else (Quiet, n)).0 ≡ Served o → ⊥
    by_answer p true q = cc
    by_answer p false q = cc

    go : (p : Option Order) → (at_place n answer_taken p).0 ≡ Served o → ⊥
    go None q = cc
    go (Some p) q = by_answer p (is_awaited n p) q
only_deliveries n (Deliver j) o q = go (slice_get n.sent j) refl q
  where
    go : (p : Option Order) → slice_get n.sent j ≡ p → (at_place n delivered p).0 ≡ Served o → (k : ℕ) × (p : Order) × (slice_get n.sent k ≡ Some p) × ((delivered n p).0 ≡ Served o)
    go None e q = absurd (cc)
    go (Some p) e q = (j, p, e, q)

-- its server is recorded as up
pub serves_up : (setup : Setup) (n : Net) → IsSound setup n → (e : NetEvent) (o : Order) → (comes n e).0 ≡ Served o → n.w.place.down o.call.server ≡ false
serves_up setup n sound e o q =
    let d = only_deliveries n e o q in
    let s = (is_delivered n d.1).serves o d.3 in
    let c = (is_fresh setup n sound d.1 (all_at (IsKnown n) n.sent d.0 d.1 sound.sent d.2) s.1).0 in
    let v = (reached_keeps setup n.w sound.reached).0 in
    let up = (can_reach n.w v d.1.stream c.instr c.at_call.before).up d.1.call.server (inl (mentions n.w.numbers c.instr d.1.call c.at_call.call c.at_call.next)) in
    subst (λ (z : Order). n.w.place.down z.call.server ≡ false) s.0 up
