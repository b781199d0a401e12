-- The network is the one whose handover numbers count from 0, with the base added to each of its handover numbers, and with the orders,
-- answers and passes of earlier controllers beside it, which have no effect. So the laws of that one are its laws.
use Rattle.std.proofs.Common.{◌≡◌, ℕ, zero, suc, ◌+◌, ◌≤◌, ◌<◌, ◌⊎◌, refl, sym, ap, ◌∙◌, inl, inr, subst, arith, Bool, true, false, Option, Some, None, Result, Ok, Err, List, [], ◌∷◌, ◌++◌, length}
use Rattle.std.specs.Prelude.{◌==◌, ◌-◌, count_by, nat_lt, option_map, if◌then◌else◌, slice_get}
use Rattle.std.proofs.Math.Path.{fun_ext}
use Rattle.std.specs.List.{AllByRecursion}
use Rattle.std.specs.Option.{option_to_list}
use Rattle.std.proofs.lemmas.Bool.{cases_eq, cases_lt, eq-eqb, le-ltb, lt-ltb, ltb-false, eqb-false}
use Rattle.sm_server.specs.declared.call.Cell.{Cell}
use Rattle.sm_server.specs.declared.call.Cell.TheVariants as cell
use Rattle.sm_server.specs.declared.call.Refusal.{Refusal}
use Rattle.sm_server.specs.Call.{served}
use Rattle.sm_placement.specs.Setup.{Setup, Sizes, sizes_of}
use Rattle.sm_placement.specs.Place.{Place, load_of}
use Rattle.sm_placement.specs.Lead.{Describes, IsPlain, is_at_rest}
use Rattle.sm_placement.specs.declared.lead.Lead.{Lead}
use Rattle.sm_placement.specs.declared.lead.Lead.TheVariants.{Gone, At, Ready, Handing, Handed}
use Rattle.sm_placement.specs.Sums.{put2}
use Rattle.sm_verifier.proofs.OnePlace.{put2_cases}
use Rattle.sm_plan_code.specs.declared.instruction.Instr.{Instr}
use Rattle.sm_plan_code.specs.declared.instruction.Instr.TheVariants.{PrepareAdd, Publish, Unlist, Signal, Wait}
use Rattle.sm_plan_code.specs.declared.call.ServerCall.{ServerCall}
use Rattle.sm_protocol.specs.State.{State, is_running, next_instruction, stream_id}
use Rattle.sm_protocol.specs.Steps.{Outcome, Refused as refused_call}
use Rattle.sm_protocol.specs.Happens.{Step, happens}
use Rattle.sm_protocol.specs.Laws.{IsOpening}
use Rattle.sm_protocol.specs.Ticket.{Ticket}
use Rattle.sm_protocol.specs.declared.event.Played.TheVariants as played
use Rattle.sm_protocol.proofs.Courses.{some_same}
use Rattle.laws_network.specs.Orders.{by_served}
use Rattle.laws_network.specs.Net.{Answer, Ask, Control, Deliver, Delivery, Made, Net, NetEvent, NetOutcome, Order, Pass, Quiet, Refused, Replied, Send, Served, StreamId, after_delivery, answer_taken, at_place, call_above, instruction_call, call_now, cell_above, comes, controlled, delivered, delivery_of, is_awaited, is_own, net_run, order_for, order_of, pass_by, passed, real, real_delivery, real_reply, replied}
use Rattle.laws_network.proofs.Counted.{net_opened}
use Rattle.laws_network.specs.Laws.{AllNetFit, CanReopen, EachNet, ExecutesWhereServing, HasMovedOn, IsAdvance, IsNetOpening, IsNetReached, HasEffectsOnce, NetFits, NoneIsRefused, RealIsAtEnds, RealIsNear, RealIsRecorded, RealIsSafe, RecordIsReached, ServesWhereUp, SomeCanGoOn, shard_asked, is_for, is_of_instruction, order_served, orders_served, round_trip}
use Rattle.laws_network.proofs.Counted as counted
use Rattle.laws_network.proofs.CountedLaws as low
use Rattle.laws_network.proofs.Calm.{IsCalm}
use Rattle.laws_network.proofs.Lists.{all_append, all_at, all_map, all_push}
use Rattle.laws_network.proofs.Once.{count_more, one_if}
use Rattle.laws_network.proofs.Risen.{IsPositive, IsPositiveCall, IsPositiveResult, asked_above, cells_above, delivery_above, delivery_is, led_above, load_above, old_above, pass_above, passed_above, played_above, put_above, safe_above, served_positive, serves_above, ticket_above}
use Rattle.laws_network.proofs.Untraced as untraced

-- ---- orders

-- an order, with the base added
abbrev pub order_above : ℕ → Order → Order
order_above base o = record o { call = record o.call { call = call_above base o.call.call } }

-- an order of this controller, with the base added; or an old one
abbrev pub IsRaised : ℕ → (ℕ → ℕ → ℕ) → Order → Order → Type 0
IsRaised base last p o = ((p ≡ order_above base o) × IsPositiveCall o.call.call) ⊎ ((p ≡ o) × (o.number ≤ last o.call.shard o.call.server))

-- each order of the one list is raised from that of the other
abbrev pub AreRaised : ℕ → (ℕ → ℕ → ℕ) → List Order → List Order → Type 0
AreRaised base last [] [] = Unit {0}
AreRaised base last (p ∷ ps) (o ∷ os) = IsRaised base last p o × AreRaised base last ps os
AreRaised base last _ _ = ⊥

raised_length : (base : ℕ) (last : ℕ → ℕ → ℕ) (ps os : List Order) → AreRaised base last ps os → length ps ≡ length os
raised_length base last [] [] h = refl
raised_length base last (p ∷ ps) (o ∷ os) h = ap (λ n. suc n) (raised_length base last ps os h.1)
raised_length base last [] (o ∷ os) h = absurd h
raised_length base last (p ∷ ps) [] h = absurd h

raised_push : (base : ℕ) (last : ℕ → ℕ → ℕ) (ps os : List Order) (p o : Order) → AreRaised base last ps os → IsRaised base last p o → AreRaised base last (ps ++ p ∷ []) (os ++ o ∷ [])
raised_push base last [] [] p o h r = (r, tt)
raised_push base last (q ∷ ps) (y ∷ os) p o h r = (h.0, raised_push base last ps os p o h.1 r)
raised_push base last [] (y ∷ os) p o h r = absurd h
raised_push base last (q ∷ ps) [] p o h r = absurd h

raised_nil : (base : ℕ) (last : ℕ → ℕ → ℕ) (ps os : List Order) → AreRaised base last ps os → AreRaised base last (ps ++ []) (os ++ [])
raised_nil base last [] [] h = tt
raised_nil base last (q ∷ ps) (y ∷ os) h = (h.0, raised_nil base last ps os h.1)
raised_nil base last [] (y ∷ os) h = absurd h
raised_nil base last (q ∷ ps) [] h = absurd h

raised_on : (base : ℕ) (last new : ℕ → ℕ → ℕ) → ((s v : ℕ) → last s v ≤ new s v) → (ps os : List Order) → AreRaised base last ps os → AreRaised base new ps os
raised_on base last new g [] [] h = tt
raised_on base last new g (p ∷ ps) (o ∷ os) h = (one h.0, raised_on base last new g ps os h.1)
  where
    one : IsRaised base last p o → IsRaised base new p o
    one (inl a) = inl a
    one (inr a) = inr (a.0, (let l = a.1 in let m = g o.call.shard o.call.server in omega arith))
raised_on base last new g [] (o ∷ os) h = absurd h
raised_on base last new g (p ∷ ps) [] h = absurd h

raised_none : (base : ℕ) (last : ℕ → ℕ → ℕ) (os : List Order) → AllByRecursion (λ o. o.number ≤ last o.call.shard o.call.server) os → AreRaised base last os os
raised_none base last [] h = tt
raised_none base last (o ∷ os) h = (inr (refl, h.0), raised_none base last os h.1)

-- what stands at one place in both
record IsTwo (base : ℕ) (last : ℕ → ℕ → ℕ) (a b : Option Order) : Type 0 where
  pub above : Order
  pub below : Order
  pub first : a ≡ Some above
  pub second : b ≡ Some below
  pub raised : IsRaised base last above below

raised_at : (base : ℕ) (last : ℕ → ℕ → ℕ) (ps os : List Order) → AreRaised base last ps os → (k : ℕ) → ((slice_get ps k ≡ None) × (slice_get os k ≡ None)) ⊎ IsTwo base last (slice_get ps k) (slice_get os k)
raised_at base last [] [] h k = inl (refl, refl)
raised_at base last (p ∷ ps) (o ∷ os) h zero = inr (record { above = p; below = o; first = refl; second = refl; raised = h.0 })
raised_at base last (p ∷ ps) (o ∷ os) h (suc k) = raised_at base last ps os h.1 k
raised_at base last [] (o ∷ os) h k = absurd h
raised_at base last (p ∷ ps) [] h k = absurd h

-- old orders are old in both
raised_old : (base : ℕ) (last : ℕ → ℕ → ℕ) (ps os : List Order) → AreRaised base last ps os → AllByRecursion (λ o. o.number ≤ last o.call.shard o.call.server) os → AllByRecursion (λ o. o.number ≤ last o.call.shard o.call.server) ps
raised_old base last [] [] h all = tt
raised_old base last (p ∷ ps) (o ∷ os) h all = (one h.0, raised_old base last ps os h.1 all.1)
  where
    one : IsRaised base last p o → p.number ≤ last p.call.shard p.call.server
    one (inl a) = subst (λ (q : Order). q.number ≤ last q.call.shard q.call.server) (sym a.0) all.0
    one (inr a) = subst (λ (q : Order). q.number ≤ last q.call.shard q.call.server) (sym a.0) all.0
raised_old base last [] (o ∷ os) h all = absurd h
raised_old base last (p ∷ ps) [] h all = absurd h

-- ---- passes

-- a pass of this controller's time, with the base added; or an old one
abbrev pub IsPassOf : ℕ → List Ticket → Ticket → Type 0
IsPassOf base us t = (t.number ≤ base) ⊎ ((j : ℕ) × (u : Ticket) × (slice_get us j ≡ Some u) × (t ≡ ticket_above base u))

get_before : (us ws : List Ticket) (j : ℕ) (u : Ticket) → slice_get us j ≡ Some u → slice_get (us ++ ws) j ≡ Some u
get_before [] ws j u e = absurd (cc)
get_before (y ∷ us) ws zero u e = e
get_before (y ∷ us) ws (suc j) u e = get_before us ws j u e

get_pushed : (us : List Ticket) (u : Ticket) → slice_get (us ++ u ∷ []) (length us) ≡ Some u
get_pushed [] u = refl
get_pushed (y ∷ us) u = get_pushed us u

get_behind : (us : List Ticket) → slice_get us (length us) ≡ None
get_behind [] = refl
get_behind (y ∷ us) = get_behind us

passes_more : (base : ℕ) (us ws ts : List Ticket) → AllByRecursion (IsPassOf base us) ts → AllByRecursion (IsPassOf base (us ++ ws)) ts
passes_more base us ws ts all = all_map (IsPassOf base us) (IsPassOf base (us ++ ws)) ts (λ t h. elim h [
  | inl l ↦ inl l
  | inr r ↦ inr (r.0, r.1, get_before us ws r.0 r.1 r.2, r.3)
]) all

passes_added : (base : ℕ) (us ts : List Ticket) (o : Option Ticket) → AllByRecursion (IsPassOf base us) ts → AllByRecursion (IsPassOf base (us ++ option_to_list o)) (ts ++ option_to_list (option_map (ticket_above base) o))
passes_added base us ts None all = all_append (IsPassOf base (us ++ [])) ts [] (passes_more base us [] ts all) tt
passes_added base us ts (Some u) all = all_push (IsPassOf base (us ++ u ∷ [])) ts (ticket_above base u) (passes_more base us (u ∷ []) ts all) (inr (length us, u, get_pushed us u, refl))

-- ---- the network

-- the network, by the one that counts from 0
abbrev pub rise : Net → List Order → List Order → List Ticket → Net
rise n S A P = record { w = n.w; base = n.base; cells = cells_above n.base n.cells; last = n.last; sent = S; answers = A; passes = P }

pub record IsBesideOld (n : Net) (S A : List Order) (P : List Ticket) : Type 0 where
  pub sent : AreRaised n.base n.last S n.sent
  pub answers : AreRaised n.base n.last A n.answers
  pub passes : AllByRecursion (IsPassOf n.base n.passes) P
  pub cells : (s v : ℕ) → IsPositive (n.cells s v)

abbrev pub outcome_above : ℕ → NetOutcome → NetOutcome
outcome_above base (Served o) = Served (order_above base o)
outcome_above base (Replied a) = Replied (played_above base a)
outcome_above base q = q

-- what comes of an event in the one and in the other
pub record IsPair (r q : NetOutcome × Net) : Type 0 where
  pub sent : List Order
  pub answers : List Order
  pub passes : List Ticket
  pub same : r ≡ (outcome_above q.1.base q.0, rise q.1 sent answers passes)
  pub below : IsBesideOld q.1 sent answers passes

module _ (n : Net) (S A : List Order) (P : List Ticket) (b : IsBesideOld n S A P) where
  abbrev up : Net
  up = rise n S A P

  quiet : IsPair (Quiet, up) (Quiet, n)
  quiet = record { sent = S; answers = A; passes = P; same = refl; below = b }

  -- the controller makes an event
  makes : (o : Outcome × State) → IsPair (controlled up o) (controlled n o)
  makes o = record { sent = S; answers = A; passes = P; same = refl; below = record { sent = b.sent; answers = b.answers; passes = b.passes; cells = b.cells } }

  -- an order is answered again
  again : (p o : Order) → IsRaised n.base n.last p o → IsPair (Quiet, record up { answers = A ++ p ∷ [] }) (Quiet, record n { answers = n.answers ++ o ∷ [] })
  again p o r = record {
    sent = S;
    answers = A ++ p ∷ [];
    passes = P;
    same = refl;
    below = record { sent = b.sent; answers = raised_push n.base n.last A n.answers p o b.answers r; passes = b.passes; cells = b.cells };
  }

  -- ---- deliveries

  abbrev free : Order → ℕ
  free o = n.w.sizes.room o.call.server - load_of n.w.sizes n.cells o.call.server

  abbrev result : Order → Result Cell Refusal
  result o = served (n.cells o.call.shard o.call.server) (free o) (n.w.sizes.load o.call.shard) true o.call.call

  abbrev made_at : Order → (ℕ → ℕ → Cell) → Delivery
  made_at o f = delivery_of (f o.call.shard o.call.server) (n.last o.call.shard o.call.server) o.number (n.w.sizes.room o.call.server - load_of n.w.sizes f o.call.server) (n.w.sizes.load o.call.shard) o.call.call

  abbrev rest : Order → (ℕ → ℕ → Cell) → Delivery
  rest o f = by_served (served (f o.call.shard o.call.server) (n.w.sizes.room o.call.server - load_of n.w.sizes f o.call.server) (n.w.sizes.load o.call.shard) true o.call.call)

  is_above : (o : Order) → IsPositiveCall o.call.call → (next : Cell) → real_delivery n o ≡ Delivery.Served next → (n.last o.call.shard o.call.server < o.number) × IsPositive next
  is_above o pos next e = go (nat_lt o.number (n.last o.call.shard o.call.server)) (o.number == n.last o.call.shard o.call.server) refl refl e
    where
      of_result : (r : Result Cell Refusal) → IsPositiveResult r → by_served r ≡ Delivery.Served next → IsPositive next
      of_result (Ok c) h q = subst IsPositive (let z : c ≡ next = cc in z) h
      of_result (Err why) h q = absurd (cc)

      go : (lower same : Bool) → nat_lt o.number (n.last o.call.shard o.call.server) ≡ lower → (o.number == n.last o.call.shard o.call.server) ≡ same →
          (if lower then Delivery.Old else if same then Delivery.Again else by_served (result o)) ≡ Delivery.Served next → (n.last o.call.shard o.call.server < o.number) × IsPositive next
      go true same f g q = absurd (cc)
      go false true f g q = absurd (cc)
      go false false f g q =
          let x = ltb-false _ _ f in
          let y = eqb-false _ _ g in
          ((omega arith), of_result (result o) (served_positive (n.cells o.call.shard o.call.server) (free o) (n.w.sizes.load o.call.shard) o.call.call pos) q)

  by_delivery : (o : Order) → IsPositiveCall o.call.call → (d : Delivery) → real_delivery n o ≡ d → IsPair (after_delivery up (order_above n.base o) (delivery_above n.base d)) (after_delivery n o d)
  by_delivery o pos Delivery.Old e = quiet
  by_delivery o pos Delivery.Again e = again (order_above n.base o) o (inl (refl, pos))
  by_delivery o pos (Delivery.Refused why) e = record { sent = S; answers = A; passes = P; same = refl; below = b }
  by_delivery o pos (Delivery.Served next) e =
      let a = is_above o pos next e in
      let s = o.call.shard in
      let v = o.call.server in
      let higher : (r u : ℕ) → n.last r u ≤ put2 n.last s v o.number r u = λ r u. elim (put2_cases n.last s v o.number r u) [
        | inl h ↦ (let x = a.0 in let y : n.last r u ≡ n.last s v = ap (λ k. n.last k u) h.0 ∙ ap (λ k. n.last s k) h.1 in let z = h.2 in omega arith)
        | inr h ↦ (let z = h.1 in omega arith)
      ] in
      record {
        sent = S;
        answers = A ++ order_above n.base o ∷ [];
        passes = P;
        same = ap (λ f. let z : NetOutcome × Net = (Served (order_above n.base o), record up { cells = f; last = put2 n.last s v o.number; answers = A ++ order_above n.base o ∷ [] }) in z) (put_above n.base n.cells s v next);
        below = record {
          sent = raised_on n.base n.last (put2 n.last s v o.number) higher S n.sent b.sent;
          answers = raised_push n.base (put2 n.last s v o.number) A n.answers (order_above n.base o) o (raised_on n.base n.last (put2 n.last s v o.number) higher A n.answers b.answers) (inl (refl, pos));
          passes = b.passes;
          cells = λ r u. elim (put2_cases n.cells s v next r u) [ inl h ↦ subst IsPositive (sym h.2) a.1 | inr h ↦ subst IsPositive (sym h.1) (b.cells r u) ];
        };
      }

  delivery_up : (o : Order) → real_delivery up (order_above n.base o) ≡ delivery_above n.base (real_delivery n o)
  delivery_up o =
      ap (λ l. delivery_of (cell_above n.base (n.cells o.call.shard o.call.server)) (n.last o.call.shard o.call.server) o.number (n.w.sizes.room o.call.server - l) (n.w.sizes.load o.call.shard) (call_above n.base o.call.call))
      (load_above n.base n.w.sizes n.cells o.call.server)
      ∙ delivery_is n.base (n.cells o.call.shard o.call.server) (n.last o.call.shard o.call.server) o.number (n.w.sizes.room o.call.server - load_of n.w.sizes n.cells o.call.server) (n.w.sizes.load o.call.shard) o.call.call

  -- an old order does nothing in either
  delivers_old : (o : Order) → o.number ≤ n.last o.call.shard o.call.server → IsPair (delivered up o) (delivered n o)
  delivers_old o l = elim (cases_lt o.number (n.last o.call.shard o.call.server)) [
    | inl m ↦
        let t = lt-ltb o.number (n.last o.call.shard o.call.server) m in
        subst (λ d. IsPair (after_delivery up o d) (delivered n o)) (sym (old_is (cells_above n.base n.cells) t)) (subst (λ d. IsPair (after_delivery up o Delivery.Old) (after_delivery n o d)) (sym (old_is n.cells t)) quiet)
    | inr m ↦
        let t = le-ltb o.number (n.last o.call.shard o.call.server) m in
        let e = eq-eqb o.number (n.last o.call.shard o.call.server) (omega arith) in
        subst (λ d. IsPair (after_delivery up o d) (delivered n o)) (sym (again_is (cells_above n.base n.cells) t e))
        (subst (λ d. IsPair (after_delivery up o Delivery.Again) (after_delivery n o d)) (sym (again_is n.cells t e)) (again o o (inr (refl, l))))
  ]
    where
      old_is : (f : ℕ → ℕ → Cell) → nat_lt o.number (n.last o.call.shard o.call.server) ≡ true → made_at o f ≡ Delivery.Old
      old_is f t = ap (λ x. if x then Delivery.Old else if o.number == n.last o.call.shard o.call.server then Delivery.Again else rest o f) t

      again_is : (f : ℕ → ℕ → Cell) → nat_lt o.number (n.last o.call.shard o.call.server) ≡ false → (o.number == n.last o.call.shard o.call.server) ≡ true → made_at o f ≡ Delivery.Again
      again_is f t e = ap (λ x. if x then Delivery.Old else if o.number == n.last o.call.shard o.call.server then Delivery.Again else rest o f) t ∙ ap (λ x. if x then Delivery.Again else rest o f) e

  delivers : (p o : Order) → IsRaised n.base n.last p o → IsPair (delivered up p) (delivered n o)
  delivers p o (inl r) = subst (λ q. IsPair (delivered up q) (delivered n o)) (sym r.0) (subst (λ d. IsPair (after_delivery up (order_above n.base o) d) (delivered n o)) (sym (delivery_up o)) (by_delivery o r.1 (real_delivery n o) refl))
  delivers p o (inr r) = subst (λ q. IsPair (delivered up q) (delivered n o)) (sym r.0) (delivers_old o r.1)

  -- ---- answers

  takes : (id : StreamId) (t : Bool) → IsPair (if t then controlled up (happens n.w (Step id)) else (Quiet, up)) (if t then controlled n (happens n.w (Step id)) else (Quiet, n))
  takes id true = makes (happens n.w (Step id))
  takes id false = quiet

  answers_both : (p o : Order) → IsRaised n.base n.last p o → IsPair (answer_taken up p) (answer_taken n o)
  answers_both p o (inl r) = subst (λ q. IsPair (answer_taken up q) (answer_taken n o)) (sym r.0) (takes o.stream (is_awaited n.base n.w o))
  answers_both p o (inr r) = subst (λ q. IsPair (answer_taken up q) (answer_taken n o)) (sym r.0) (takes o.stream (is_awaited n.base n.w o))

  -- ---- requests

  requests : (s v : ℕ) (sent : Option Ticket) (low : Option Ticket) → real_reply up s v sent ≡ played_above n.base (real_reply n s v low) → IsPair (replied up s v sent) (replied n s v low)
  requests s v sent low e = record {
    sent = S;
    answers = A;
    passes = P ++ option_to_list (option_map (ticket_above n.base) (pass_by s v (real_reply n s v low)));
    same = ap (λ a. let z : NetOutcome × Net = (Replied a, record up { passes = P ++ option_to_list (pass_by s v a) }) in z) e
        ∙ ap (λ o. let z : NetOutcome × Net = (Replied (played_above n.base (real_reply n s v low)), record up { passes = P ++ option_to_list o }) in z) (pass_above n.base s v (real_reply n s v low));
    below = record { sent = b.sent; answers = b.answers; passes = passes_added n.base n.passes P (pass_by s v (real_reply n s v low)) b.passes; cells = b.cells };
  }

-- ---- events

-- an event of the one has what an event of the other has
pub record IsRisen (n : Net) (S A : List Order) (P : List Ticket) (e : NetEvent) : Type 0 where
  pub event : NetEvent
  pub pair : IsPair (comes (rise n S A P) e) (counted.comes n event)
  pub fits : (c : Sizes) → NetFits c e → NetFits c event
  pub moves : IsAdvance e → event ≡ e
  pub asked : (s : ℕ) → shard_asked (rise n S A P) e ≡ Some s → shard_asked n event ≡ Some s

-- the order of a stream has the base added
-- the order of a stream is the one that counts from 0, with the base added
pub orders_up : (base : ℕ) (w : State) (id : StreamId) → order_of base w id ≡ option_map (order_above base) (counted.order_of base w id)
orders_up base w id = go (is_running w id) (call_now w id)
  where
    go : (t : Bool) (o : Option ServerCall) → (if t then order_for base w id o else None) ≡ option_map (order_above base) (if t then counted.order_for base w id o else None)
    go true None = refl
    go true (Some x) = refl
    go false o = refl

positive_by : (numbers : ℕ → ℕ) (o : Option Instr) (x : ServerCall) → instruction_call numbers o ≡ Some x → IsPositiveCall x.call
positive_by numbers None x e = absurd (cc)
positive_by numbers (Some (PrepareAdd s v u)) x e = subst (λ (y : ServerCall). IsPositiveCall y.call) (some_same _ x e) (omega arith)
positive_by numbers (Some (Publish s)) x e = absurd (cc)
positive_by numbers (Some (Unlist s)) x e = absurd (cc)
positive_by numbers (Some (Signal s)) x e = absurd (cc)
positive_by numbers (Some (Wait s)) x e = absurd (cc)
positive_by numbers (Some _) x e = subst (λ (y : ServerCall). IsPositiveCall y.call) (some_same _ x e) tt

module _ (n : Net) (S A : List Order) (P : List Ticket) (b : IsBesideOld n S A P) where
  sends : (id : StreamId) → IsPair (comes (rise n S A P) (Send id)) (counted.comes n (Send id))
  sends id = subst (λ o. IsPair (Quiet, record (rise n S A P) { sent = S ++ option_to_list o }) (counted.comes n (Send id))) (sym (orders_up n.base n.w id)) (go (is_running n.w id) (call_now n.w id) refl)
    where
      go : (t : Bool) (o : Option ServerCall) → call_now n.w id ≡ o →
          IsPair (Quiet, record (rise n S A P) { sent = S ++ option_to_list (option_map (order_above n.base) (if t then counted.order_for n.base n.w id o else None)) })
          (Quiet, record n { sent = n.sent ++ option_to_list (if t then counted.order_for n.base n.w id o else None) })
      go true (Some x) e = record {
        sent = S ++ order_above n.base _ ∷ [];
        answers = A;
        passes = P;
        same = refl;
        below = record { sent = raised_push n.base n.last S n.sent _ _ b.sent (inl (refl, positive_by n.w.numbers (next_instruction n.w id) x e)); answers = b.answers; passes = b.passes; cells = b.cells };
      }
      go true None e = record { sent = S ++ []; answers = A; passes = P; same = refl; below = record { sent = raised_nil n.base n.last S n.sent b.sent; answers = b.answers; passes = b.passes; cells = b.cells } }
      go false o e = record { sent = S ++ []; answers = A; passes = P; same = refl; below = record { sent = raised_nil n.base n.last S n.sent b.sent; answers = b.answers; passes = b.passes; cells = b.cells } }

  same_event : (e : NetEvent) → IsPair (comes (rise n S A P) e) (counted.comes n e) → ((s : ℕ) → shard_asked (rise n S A P) e ≡ Some s → shard_asked n e ≡ Some s) → IsRisen n S A P e
  same_event e p a = record { event = e; pair = p; fits = λ c f. f; moves = λ m. refl; asked = a }

  -- what each event does
  rises : (e : NetEvent) → IsRisen n S A P e
  rises (Control h) = same_event (Control h) (go (is_own n.w h)) (λ s a. absurd (cc))
    where
      go : (t : Bool) → IsPair (if t then controlled (rise n S A P) (happens n.w h) else (Quiet, rise n S A P)) (if t then controlled n (happens n.w h) else (Quiet, n))
      go true = makes n S A P b (happens n.w h)
      go false = quiet n S A P b
  rises (Send id) = same_event (Send id) (sends id) (λ s a. absurd (cc))
  rises (Deliver k) = same_event (Deliver k) (go (raised_at n.base n.last S n.sent b.sent k)) (λ s a. absurd (cc))
    where
      go : ((slice_get S k ≡ None) × (slice_get n.sent k ≡ None)) ⊎ IsTwo n.base n.last (slice_get S k) (slice_get n.sent k) →
          IsPair (at_place (rise n S A P) delivered (slice_get S k)) (at_place n delivered (slice_get n.sent k))
      go (inl h) = subst (λ x. IsPair (at_place (rise n S A P) delivered x) (at_place n delivered (slice_get n.sent k))) (sym h.0) (subst (λ x. IsPair (Quiet, rise n S A P) (at_place n delivered x)) (sym h.1) (quiet n S A P b))
      go (inr h) = subst (λ x. IsPair (at_place (rise n S A P) delivered x) (at_place n delivered (slice_get n.sent k))) (sym h.first)
          (subst (λ x. IsPair (delivered (rise n S A P) h.above) (at_place n delivered x)) (sym h.second) (delivers n S A P b h.above h.below h.raised))
  rises (Answer k) = same_event (Answer k) (go (raised_at n.base n.last A n.answers b.answers k)) (λ s a. absurd (cc))
    where
      go : ((slice_get A k ≡ None) × (slice_get n.answers k ≡ None)) ⊎ IsTwo n.base n.last (slice_get A k) (slice_get n.answers k) →
          IsPair (at_place (rise n S A P) answer_taken (slice_get A k)) (at_place n answer_taken (slice_get n.answers k))
      go (inl h) = subst (λ x. IsPair (at_place (rise n S A P) answer_taken x) (at_place n answer_taken (slice_get n.answers k))) (sym h.0) (subst (λ x. IsPair (Quiet, rise n S A P) (at_place n answer_taken x)) (sym h.1) (quiet n S A P b))
      go (inr h) = subst (λ x. IsPair (at_place (rise n S A P) answer_taken x) (at_place n answer_taken (slice_get n.answers k))) (sym h.first)
          (subst (λ x. IsPair (answer_taken (rise n S A P) h.above) (at_place n answer_taken x)) (sym h.second) (answers_both n S A P b h.above h.below h.raised))
  rises (Ask s v) = same_event (Ask s v) (requests n S A P b s v None None (asked_above n.base (n.cells s v) v 0)) (λ r a. a)
  rises (Pass k) = go (slice_get P k) refl
    where
      go : (o : Option Ticket) → slice_get P k ≡ o → IsRisen n S A P (Pass k)
      go None e = record {
        event = Pass (length n.passes);
        pair = subst (λ x. IsPair (passed (rise n S A P) x) (counted.comes n (Pass (length n.passes)))) (sym e) (subst (λ x. IsPair (Quiet, rise n S A P) (passed n x)) (sym (get_behind n.passes)) (quiet n S A P b));
        fits = λ c f. f;
        moves = λ m. absurd m;
        asked = λ s a. absurd (let z = sym (ap (option_map (λ (t : Ticket). t.shard)) e) ∙ a in cc);
      }
      go (Some t) e = elim (all_at (IsPassOf n.base n.passes) P k t b.passes e) [
        | inl l ↦ record {
          event = Ask t.shard t.target;
          pair = subst (λ x. IsPair (passed (rise n S A P) x) (counted.comes n (Ask t.shard t.target))) (sym e)
              (requests n S A P b t.shard t.target (Some t) None (old_above n.base (n.cells t.shard t.target) t.target 0 t l (b.cells t.shard t.target)));
          fits = λ c f. f;
          moves = λ m. absurd m;
          asked = λ s a. sym (ap (option_map (λ (x : Ticket). x.shard)) e) ∙ a;
        }
        | inr r ↦ record {
          event = Pass r.0;
          pair = subst (λ x. IsPair (passed (rise n S A P) x) (counted.comes n (Pass r.0))) (sym e)
              (subst (λ x. IsPair (passed (rise n S A P) (Some t)) (passed n x)) (sym r.2)
              (subst (λ (y : Ticket). IsPair (passed (rise n S A P) (Some y)) (passed n (Some r.1))) (sym r.3)
              (requests n S A P b r.1.shard r.1.target (Some (ticket_above n.base r.1)) (Some r.1) (passed_above n.base (n.cells r.1.shard r.1.target) r.1.target 0 r.1))));
          fits = λ c f. f;
          moves = λ m. absurd m;
          asked = λ s a. ap (option_map (λ (x : Ticket). x.shard)) r.2 ∙ ap (λ (x : Ticket). Some x.shard) (sym r.3) ∙ sym (ap (option_map (λ (x : Ticket). x.shard)) e) ∙ a;
        }
      ]

-- ---- what is reached

-- the network is one that counts from 0, raised
pub record IsRaisedNet (setup : Setup) (c : Net) : Type 0 where
  pub n : Net
  pub reached : low.IsNetReached setup n
  pub sent : List Order
  pub answers : List Order
  pub passes : List Ticket
  pub same : rise n sent answers passes ≡ c
  pub below : IsBesideOld n sent answers passes

-- cells at rest have no handover number
at_rest : (base : ℕ) (lead : Lead) (row : ℕ → Cell) → is_at_rest lead ≡ true → Describes lead 0 row → (v : ℕ) → (cell_above base (row v) ≡ row v) × IsPositive (row v)
at_rest base lead row r d v = go lead r d
  where
    plain : (c : Cell) → IsPlain c → (cell_above base c ≡ c) × IsPositive c
    plain cell.Absent h = (refl, tt)
    plain cell.Secondary h = (refl, tt)
    plain cell.Primary h = absurd h
    plain (cell.Prepared a m) h = absurd h
    plain (cell.Forwarding a m) h = absurd h

    go : (lead : Lead) → is_at_rest lead ≡ true → Describes lead 0 row → (cell_above base (row v) ≡ row v) × IsPositive (row v)
    go Gone r d = plain (row v) (d v)
    go (At u) r d = elim (cases_eq v u) [
      | inl e ↦ subst (λ c. (cell_above base c ≡ c) × IsPositive c) (sym (ap row e ∙ d.0)) (refl, tt)
      | inr e ↦ plain (row v) (d.1 v e)
    ]
    go (Ready u w) r d = absurd (cc)
    go (Handing u w) r d = absurd (cc)
    go (Handed u w) r d = absurd (cc)

-- the cells of an opening have no handover number
pub opened_plain : (base : ℕ) (setup : Setup) (p : Place) (room : ℕ) → IsOpening setup p room → (s v : ℕ) → (cell_above base (p.cells s v) ≡ p.cells s v) × IsPositive (p.cells s v)
opened_plain base setup p room o s v = elim (cases_lt s (sizes_of setup).shards) [
  | inl l ↦ let d = o.settled.leads s l in at_rest base d.0 (p.cells s) d.1 d.2 v
  | inr l ↦ subst (λ c. (cell_above base c ≡ c) × IsPositive c) (sym (o.placement.no_shard s v l)) (refl, tt)
]

opening_raised : (setup : Setup) (c : Net) → IsNetOpening setup c → IsRaisedNet setup c
opening_raised setup c o = record {
  n = n;
  reached = record { start = n; opening = opening; events = []; fit = tt; state = refl };
  sent = c.sent;
  answers = c.answers;
  passes = c.passes;
  same = ap (λ f. let z : Net = record c { cells = f } in z) (fun_ext (λ s. fun_ext (λ v. ap (cell_above c.base) (is s v) ∙ (plain s v).0 ∙ sym (is s v))));
  below = record {
    sent = raised_none c.base c.last c.sent o.sent;
    answers = raised_none c.base c.last c.answers o.answers;
    passes = all_map (λ t. t.number ≤ c.base) (IsPassOf c.base []) c.passes (λ t l. inl l) o.passes;
    cells = λ s v. subst IsPositive (sym (is s v)) (plain s v).1;
  };
}
  where
    is : (s v : ℕ) → c.cells s v ≡ o.place.cells s v
    is s v = ap (λ f. f s v) o.cells

    plain : (s v : ℕ) → (cell_above c.base (o.place.cells s v) ≡ o.place.cells s v) × IsPositive (o.place.cells s v)
    plain s v = opened_plain c.base setup o.place o.room o.opening s v

    n : Net
    n = record c { passes = [] }

    opening : low.IsNetOpening setup n
    opening = record { place = o.place; room = o.room; opening = o.opening; w = o.w; cells = o.cells; lasts = o.lasts; sent = o.sent; answers = o.answers; passes = refl }

counted_append : (es fs : List NetEvent) (n : Net) → counted.net_run (es ++ fs) n ≡ counted.net_run fs (counted.net_run es n)
counted_append [] fs n = refl
counted_append (e ∷ es) fs n = counted_append es fs (counted.comes n e).1

counted_next : (setup : Setup) (n : Net) (e : NetEvent) → low.IsNetReached setup n → NetFits (sizes_of setup) e → low.IsNetReached setup (counted.comes n e).1
counted_next setup n e r fits = record {
  start = r.start;
  opening = r.opening;
  events = r.events ++ e ∷ [];
  fit = all_append (NetFits (sizes_of setup)) r.events (e ∷ []) r.fit (fits, tt);
  state = ap (λ m. (counted.comes m e).1) r.state ∙ sym (counted_append r.events (e ∷ []) r.start);
}

run_raised : (setup : Setup) (es : List NetEvent) (c : Net) → IsRaisedNet setup c → AllNetFit (sizes_of setup) es → IsRaisedNet setup (net_run es c)
run_raised setup [] c r fit = r
run_raised setup (e ∷ es) c r fit =
    let x = rises r.n r.sent r.answers r.passes r.below e in
    run_raised setup es (comes c e).1 (record {
      n = (counted.comes r.n x.event).1;
      reached = counted_next setup r.n x.event r.reached (x.fits (sizes_of setup) fit.0);
      sent = x.pair.sent;
      answers = x.pair.answers;
      passes = x.pair.passes;
      same = sym (ap (λ (y : NetOutcome × Net). y.1) x.pair.same) ∙ ap (λ m. (comes m e).1) r.same;
      below = x.pair.below;
    }) fit.1

raised_too : (setup : Setup) (c : Net) → IsNetReached setup c → IsRaisedNet setup c
raised_too setup c r = subst (IsRaisedNet setup) (sym r.state) (run_raised setup r.events r.start (opening_raised setup r.start r.opening) r.fit)

-- what holds of each that is raised holds of each that is reached
pub by_counts : (P : Setup → Net → Type 0) → ((setup : Setup) (n : Net) (S A : List Order) (Q : List Ticket) → low.IsNetReached setup n → IsBesideOld n S A Q → P setup (rise n S A Q)) → EachNet P
by_counts P all setup c r = let t = raised_too setup c r in subst (P setup) t.same (all setup t.n t.sent t.answers t.passes t.reached t.below)

-- ---- laws

-- the record is a state of the protocol that events lead to
pub record_is_reached : EachNet RecordIsReached
record_is_reached = by_counts RecordIsReached (λ setup n S A Q r b. untraced.record_is_reached setup n r)

-- no call is lost in the record
pub net_is_calm : EachNet (λ setup n. IsCalm n.w)
net_is_calm = by_counts (λ setup n. IsCalm n.w) (λ setup n S A Q r b. untraced.net_is_calm setup n r)

-- the real placement is safe
pub real_is_safe : EachNet RealIsSafe
real_is_safe = by_counts RealIsSafe (λ setup n S A Q r b. safe_above n.base n.w.sizes (real n) (untraced.real_is_safe setup n r) n.last)

above_refused : (base : ℕ) (q : NetOutcome) (why : Refusal) → outcome_above base q ≡ Refused why → q ≡ Refused why
above_refused base (Served o) why e = absurd (cc)
above_refused base (Replied a) why e = absurd (cc)
above_refused base (Refused w) why e = e
above_refused base (Made o) why e = e
above_refused base Quiet why e = e

above_made : (base : ℕ) (q : NetOutcome) (o : Outcome) → outcome_above base q ≡ Made o → q ≡ Made o
above_made base (Served x) o e = absurd (cc)
above_made base (Replied a) o e = absurd (cc)
above_made base (Refused w) o e = e
above_made base (Made x) o e = e
above_made base Quiet o e = e

above_served : (base : ℕ) (q : NetOutcome) (p : Order) → outcome_above base q ≡ Served p → (o : Order) × (q ≡ Served o) × (p.call.server ≡ o.call.server)
above_served base (Served x) p e = (x, refl, ap (λ (o : Order). o.call.server) (let z : p ≡ order_above base x = cc in z))
above_served base (Replied a) p e = absurd (cc)
above_served base (Refused w) p e = absurd (cc)
above_served base (Made x) p e = absurd (cc)
above_served base Quiet p e = absurd (cc)

above_executed : (base : ℕ) (q : NetOutcome) (v : ℕ) → outcome_above base q ≡ Replied (played.Executed v) → q ≡ Replied (played.Executed v)
above_executed base (Replied (played.Passed to number place)) v e = absurd (cc)
above_executed base (Replied a) v e = e
above_executed base (Served x) v e = absurd (cc)
above_executed base (Refused w) v e = absurd (cc)
above_executed base (Made x) v e = absurd (cc)
above_executed base Quiet v e = absurd (cc)

module _ (n : Net) (S A : List Order) (Q : List Ticket) (b : IsBesideOld n S A Q) (e : NetEvent) where
  pub risen : IsRisen n S A Q e
  risen = rises n S A Q b e

  pub outcome_is : (comes (rise n S A Q) e).0 ≡ outcome_above (counted.comes n risen.event).1.base (counted.comes n risen.event).0
  outcome_is = ap (λ (y : NetOutcome × Net). y.0) risen.pair.same

-- no order and no recorded event is refused
pub none_is_refused : EachNet NoneIsRefused
none_is_refused = by_counts NoneIsRefused (λ setup n S A Q r b e fits.
    let x = risen n S A Q b e in
    let t = untraced.none_is_refused setup n r x.event (x.fits n.w.sizes fits) in
    ((λ why q. t.0 why (above_refused _ _ why (sym (outcome_is n S A Q b e) ∙ q))), (λ q. t.1 (above_made _ _ refused_call (sym (outcome_is n S A Q b e) ∙ q)))))

-- no server that is recorded as down serves an order
pub serves_where_up : EachNet ServesWhereUp
serves_where_up = by_counts ServesWhereUp (λ setup n S A Q r b e p q.
    let x = risen n S A Q b e in
    let s = above_served _ _ p (sym (outcome_is n S A Q b e) ∙ q) in
    ap n.w.place.down s.2 ∙ untraced.serves_where_up setup n r x.event s.0 s.1)

-- who executes a request is the one server that serves its shard
pub executes_where_serving : EachNet ExecutesWhereServing
executes_where_serving = by_counts ExecutesWhereServing (λ setup n S A Q r b e s v a q.
    let x = risen n S A Q b e in
    let t = untraced.executes_where_serving setup n r x.event s v (x.asked s a) (above_executed _ _ v (sym (outcome_is n S A Q b e) ∙ q)) in
    (serves_above n.base (n.cells s) v ∙ t.0, λ u h. t.1 u (sym (serves_above n.base (n.cells s) u) ∙ h)))

-- ---- the cells

-- the order of a stream, with the base added
pub order_known : (base : ℕ) (w : State) (id : StreamId) (o : Order) → counted.order_of base w id ≡ Some o → order_of base w id ≡ Some (order_above base o)
order_known base w id o e = orders_up base w id ∙ ap (option_map (order_above base)) e

-- each real cell is as recorded, or one call further
pub real_is_near : EachNet RealIsNear
real_is_near = by_counts RealIsNear (λ setup n S A Q r b s v. elim (untraced.real_is_near setup n r s v) [
  | inl e ↦ inl (ap (cell_above n.base) e)
  | inr f ↦ inr (record {
    stream = f.stream;
    order = order_above n.base f.order;
    current = order_known n.base n.w f.stream f.order f.current;
    shard = f.shard;
    server = f.server;
    last = f.last;
    led = led_above n.base f.order.call.call (n.w.place.cells s v) ∙ ap (option_map (cell_above n.base)) f.led;
  })
])

-- if no answer is outstanding, the servers have what is recorded
pub real_is_recorded : EachNet RealIsRecorded
real_is_recorded = by_counts RealIsRecorded (λ setup n S A Q r b none s v.
    ap (cell_above n.base) (untraced.real_is_recorded setup n r (λ id o e. none id (order_above n.base o) (order_known n.base n.w id o e)) s v))

-- where all plans are done, the servers have the end of the plans
pub real_is_at_ends : EachNet RealIsAtEnds
real_is_at_ends = by_counts RealIsAtEnds (λ setup n S A Q r b done s v. ap (cell_above n.base) (untraced.real_is_at_ends setup n r done s v))

-- ---- once

abbrev CountsAlike : (Order → Bool) → Type 0
CountsAlike t = (base : ℕ) (o : Order) → t (order_above base o) ≡ t o

served_more : (t : Order → Bool) → CountsAlike t → (base : ℕ) (q : NetOutcome) (xs ys : List Order) → count_by t xs ≡ count_by t ys → count_by t (order_served (outcome_above base q) ++ xs) ≡ count_by t (order_served q ++ ys)
served_more t h base (Served o) xs ys e =
    count_more t (order_above base o) xs (t o) (h base o) ∙ ap (λ m. one_if (t o) + m) e ∙ sym (count_more t o ys (t o) refl)
served_more t h base (Replied a) xs ys e = e
served_more t h base (Refused w) xs ys e = e
served_more t h base (Made o) xs ys e = e
served_more t h base Quiet xs ys e = e

record IsRun (n : Net) (S A : List Order) (Q : List Ticket) (es : List NetEvent) : Type 0 where
  pub events : List NetEvent
  pub fit : (c : Sizes) → AllNetFit c es → AllNetFit c events
  pub counts : (t : Order → Bool) → CountsAlike t → count_by t (orders_served es (rise n S A Q)) ≡ count_by t (low.orders_served events n)

run_of : (es : List NetEvent) (n : Net) (S A : List Order) (Q : List Ticket) → IsBesideOld n S A Q → IsRun n S A Q es
run_of [] n S A Q b = record { events = []; fit = λ c f. tt; counts = λ t h. refl }
run_of (e ∷ es) n S A Q b =
    let x = risen n S A Q b e in
    let q = counted.comes n x.event in
    let r = run_of es q.1 x.pair.sent x.pair.answers x.pair.passes x.pair.below in
    record {
      events = x.event ∷ r.events;
      fit = λ c f. (x.fits c f.0, r.fit c f.1);
      counts = λ t h.
          ap (λ (y : NetOutcome × Net). count_by t (order_served y.0 ++ orders_served es y.1)) x.pair.same
          ∙ served_more t h q.1.base q.0 (orders_served es (rise q.1 x.pair.sent x.pair.answers x.pair.passes)) (low.orders_served r.events q.1) (r.counts t h);
    }

-- each number and each instruction has its effect once at most
pub is_once : EachNet HasEffectsOnce
is_once = by_counts HasEffectsOnce (λ setup n S A Q r b. record {
  numbers = λ es s v number fit.
      let x = run_of es n S A Q b in
      subst (λ m. (m ≤ 1) × (number ≤ n.last s v → m ≡ 0)) (sym (x.counts (is_for s v number) (λ base o. refl))) ((untraced.is_once setup n r).numbers x.events s v number (x.fit n.w.sizes fit));
  instructions = λ es id at fit.
      let x = run_of es n S A Q b in
      subst (λ m. m ≤ 1) (sym (x.counts (is_of_instruction id at) (λ base o. refl))) ((untraced.is_once setup n r).instructions x.events id at (x.fit n.w.sizes fit));
})

-- ---- onward

run_moves : (es : List NetEvent) (n : Net) (S A : List Order) (Q : List Ticket) → IsBesideOld n S A Q → AllByRecursion IsAdvance es → (net_run es (rise n S A Q)).w ≡ (counted.net_run es n).w
run_moves [] n S A Q b all = refl
run_moves (e ∷ es) n S A Q b all =
    let x = risen n S A Q b e in
    ap (λ (y : NetOutcome × Net). (net_run es y.1).w) x.pair.same
    ∙ run_moves es (counted.comes n x.event).1 x.pair.sent x.pair.answers x.pair.passes x.pair.below all.1
    ∙ ap (λ z. (counted.net_run es (counted.comes n z).1).w) (x.moves all.0)

-- some stream of each unfinished plan can go on
pub some_can_go_on : EachNet SomeCanGoOn
some_can_go_on = by_counts SomeCanGoOn (λ setup n S A Q r b k l unfinished.
    let s = untraced.some_can_go_on setup n r k l unfinished in
    let id = stream_id k s.0 in (
      s.0,
      s.1,
      s.2,
      elim s.3 [
        | inl c ↦ inl (subst (HasMovedOn n.w id) (sym (run_moves (Control (Step id) ∷ []) n S A Q b (tt, tt))) c)
        | inr c ↦ inr (subst (HasMovedOn n.w id) (sym (
            ap (λ k. (net_run (Send id ∷ Deliver k ∷ Answer (length A) ∷ []) (rise n S A Q)).w) (raised_length n.base n.last S n.sent b.sent)
            ∙ ap (λ k. (net_run (Send id ∷ Deliver (length n.sent) ∷ Answer k ∷ []) (rise n S A Q)).w) (raised_length n.base n.last A n.answers b.answers)
            ∙ run_moves (round_trip n id) n S A Q b (tt, (tt, (tt, tt))))) c)
      ],
    ))

-- ---- another controller

-- where the cell with the base added is one at rest, it is that one
is_rest : (base : ℕ) (c d : Cell) → cell_above base c ≡ d → cell_above 1 d ≡ d → c ≡ d
is_rest base cell.Absent d e r = e
is_rest base cell.Secondary d e r = e
is_rest base cell.Primary d e r = e
is_rest base (cell.Prepared a m) d e r =
    let p : cell_above 1 (cell.Prepared a (base + m)) ≡ cell.Prepared a (base + m) = subst (λ z. cell_above 1 z ≡ z) (sym e) r in
    let z : 1 + (base + m) ≡ base + m = cc in
    absurd (omega arith)
is_rest base (cell.Forwarding a m) d e r =
    let p : cell_above 1 (cell.Forwarding a (base + m)) ≡ cell.Forwarding a (base + m) = subst (λ z. cell_above 1 z ≡ z) (sym e) r in
    let z : 1 + (base + m) ≡ base + m = cc in
    absurd (omega arith)

-- another controller can open where all plans are done
pub can_reopen : EachNet CanReopen
can_reopen = by_counts CanReopen (λ setup n S A Q r b done place room opening cells.
    let o = untraced.can_reopen setup n r done place room opening (λ s v. is_rest n.base (n.cells s v) (place.cells s v) (cells s v) (opened_plain 1 setup place room opening s v).0) in
    let low_passes = untraced.passes_are_low setup n r done in
    record {
      place = place;
      room = room;
      opening = opening;
      w = refl;
      cells = fun_ext (λ s. fun_ext (λ v. cells s v));
      lasts = o.lasts;
      sent = raised_old n.base n.last S n.sent b.sent o.sent;
      answers = raised_old n.base n.last A n.answers b.answers o.answers;
      passes = all_map (IsPassOf n.base n.passes) (λ t. t.number ≤ n.base + length n.w.log) Q (λ t h. elim h [
        | inl l ↦ omega arith
        | inr u ↦
            let l : u.1.number ≤ length n.w.log = all_at (λ (x : Ticket). x.number ≤ length n.w.log) n.passes u.0 u.1 low_passes u.2 in
            let e : t.number ≡ n.base + u.1.number = ap (λ (x : Ticket). x.number) u.3 in
            omega arith
      ]) b.passes;
    })

-- before any event, where no order was ever sent, is an opening
pub first_opening : (setup : Setup) (p : Place) (room : ℕ) → IsOpening setup p room → IsNetOpening setup (net_opened (sizes_of setup) p room)
first_opening setup p room o = record {
  place = p;
  room = room;
  opening = o;
  w = refl;
  cells = refl;
  lasts = λ s v. omega arith;
  sent = tt;
  answers = tt;
  passes = tt;
}
