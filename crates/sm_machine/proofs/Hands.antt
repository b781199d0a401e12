-- Turns of events, as a machine plays them.
use Rattle.std.proofs.Common.{◌≡◌, ◌≤◌, ◌+◌, ◌++◌, ◌∷◌, [], ℕ, suc, Bool, true, false, List, Option, Some, None, length, refl, sym, ap, ◌∙◌, subst, arith, inl, inr}
use Rattle.std.specs.Prelude.{◌==◌, ◌⊎◌, find, is_some, slice_index_or, option_map, if◌then◌else◌, vec_capacity}
use Rattle.std.specs.List.{list_any, sum_by, remove}
use Rattle.std.proofs.lemmas.Bool.{eqb-true}
use Rattle.std.proofs.lemmas.Option.{same_Some, none-some}
use Rattle.sm_placement.specs.Setup.{Sizes}
use Rattle.sm_reservation.specs.declared.stream_id.StreamId.{StreamId}
use Rattle.sm_protocol.specs.declared.event.Event.{Event}
use Rattle.sm_protocol.specs.declared.event.Event.TheVariants as event
use Rattle.sm_protocol.specs.declared.event.Played.{Played}
use Rattle.sm_protocol.specs.declared.event.Played.TheVariants as played
use Rattle.sm_protocol.specs.Steps.{Answered, unchanged}
use Rattle.sm_protocol.specs.Ticket.{Ticket, passes, is_open_ticket}
use Rattle.sm_protocol.specs.Happens.{Happening, Step, Lose, Refill, Arrive, PassOn, Approve, Done, happens, requested}
use Rattle.sm_protocol.specs.Hand.{Hand, Game, is_token, given, spends, without_first, tickets_of, hand_after, turn_by}
use Rattle.sm_protocol.specs.Laws.{NamesKnown}
use Rattle.sm_protocol.specs.Log.{named}
use Rattle.sm_protocol.proofs.Replays.{open_ticket}
use Rattle.sm_machine.specs.declared.hand.Hand as declared
use Rattle.sm_machine.specs.Machine.{MachineModel}
use Rattle.sm_machine.specs.State.{state_of}
use Rattle.sm_machine.specs.Hand.{hand_of, game_of, AreLeft, token_count, HasHandRoom, HasOneMore, StartsNoPlan, IsTurn, TellsRight, IsHandAfter, IsFirstPlace}
use Rattle.sm_machine.specs.Director.{CanDirect, HasHappenedAs, HasHappenedIf}
use Rattle.sm_machine.proofs.FirstPlaces.{find_none, find_some, any_none, any_some, without_some}

-- ---- turns

pub room_stays : (h : declared.Hand) (more : ℕ) → HasHandRoom h (suc more) → HasHandRoom h more
room_stays h more r = record { tokens = r.tokens; permits = (let a = r.permits in omega arith); tickets = (let a = r.tickets in omega arith) }

-- the hand has nothing for the event
pub nothing_given : (m : MachineModel) (h : declared.Hand) (e : Event) → given (hand_of h) e ≡ None → IsTurn m h e played.Unknown m h
nothing_given m h e n = record {
  turn = ap (turn_by (game_of m h) e) n;
  setup = refl;
  left = λ place p q. q;
  room = λ more r. room_stays h more r;
}

-- the hand has this for the event
pub given_so : (m n : MachineModel) (h k : declared.Hand) (e : Event) (x : Happening) (a : Played) → given (hand_of h) e ≡ Some x →
    (happens (state_of m) x).0 ≡ Answered a → state_of n ≡ (happens (state_of m) x).1 → n.placement.setup ≡ m.placement.setup → hand_of k ≡ hand_after (hand_of h) e x a →
    AreLeft h.plans.items k.plans.items → ((more : ℕ) → HasHandRoom h (suc more) → HasHandRoom k more) → IsTurn m h e a n k
given_so m n h k e x a is answer state setup hand left room = record {
  turn = ap (turn_by (game_of m h) e) is ∙ outcome;
  setup = setup;
  left = left;
  room = room;
}
  where
    outcome : turn_by (game_of m h) e (Some x) ≡ (Answered a, game_of n k)
    outcome = rw answer (ap (λ (g : Game). (Answered a, g)) (ap (λ w. record { state = w; hand = hand_after (hand_of h) e x a }) (sym state) ∙ ap (λ y. record { state = state_of n; hand = y }) (sym hand)))

-- ---- rights

-- the hand has what the event names, by a test
pub right_by : (m : MachineModel) (h : declared.Hand) (e : Event) (x : Happening) (b : Bool) → given (hand_of h) e ≡ (if b then Some x else None) → named (state_of m) e ≡ Some x → TellsRight b m h e
right_by m h e x true g n = (x, g, n)
right_by m h e x false g n = nothing_given m h e g

-- the event is one of the stream
abbrev pub IsOfStream : Event → StreamId → Type 0
IsOfStream e id = (e ≡ event.Step id) ⊎ (((after : Bool) × (e ≡ event.Lose id after)) ⊎ ((more : ℕ) × (e ≡ event.Refill id more)))

-- whether the hand has the token of an event of a stream
pub token_right : (m : MachineModel) (h : declared.Hand) (id : StreamId) (e : Event) (b : Bool) → IsOfStream e id → b ≡ list_any (is_token id) h.tokens.items → TellsRight b m h e
token_right m h id e b (inl is) has = subst (TellsRight b m h) (sym is) (right_by m h (event.Step id) (Step id) b (ap (λ t. if t then Some (Step id) else None) (sym has)) refl)
token_right m h id e b (inr (inl w)) has = subst (TellsRight b m h) (sym w.1) (right_by m h (event.Lose id w.0) (Lose id w.0) b (ap (λ t. if t then Some (Lose id w.0) else None) (sym has)) refl)
token_right m h id e b (inr (inr w)) has = subst (TellsRight b m h) (sym w.1) (right_by m h (event.Refill id w.0) (Refill id w.0) b (ap (λ t. if t then Some (Refill id w.0) else None) (sym has)) refl)

-- a request, and an approval, need nothing
pub free_right : (m : MachineModel) (h : declared.Hand) (e : Event) → ((s : ℕ) × (v : ℕ) × (e ≡ event.Arrive s v)) ⊎ ((v : ℕ) × (e ≡ event.Approve v)) → TellsRight true m h e
free_right m h e (inl w) = subst (TellsRight true m h) (sym w.2) (Arrive w.0 w.1, refl, refl)
free_right m h e (inr w) = subst (TellsRight true m h) (sym w.1) (Approve w.0, refl, refl)

-- whether the hand has a permit
pub permit_right : (m : MachineModel) (h : declared.Hand) (v : ℕ) (o : Option ℕ) → IsFirstPlace (λ permit. permit == v) h.permits.items o → TellsRight (is_some o) m h (event.Done v)
permit_right m h v None f = right_by m h (event.Done v) (Done v) false (ap (λ t. if t then Some (Done v) else None) (any_none (λ permit. permit == v) h.permits.items f)) refl
permit_right m h v (Some at) f = right_by m h (event.Done v) (Done v) true (ap (λ t. if t then Some (Done v) else None) (any_some (λ permit. permit == v) h.permits.items at f)) refl

-- where the hand has no ticket of the place, passing it on is Unknown
pub no_ticket : (m : MachineModel) (h : declared.Hand) (place : ℕ) → IsFirstPlace (λ t. t.place == place) h.tickets.items None → IsTurn m h (event.PassOn place) played.Unknown m h
no_ticket m h place f = nothing_given m h (event.PassOn place) (ap (option_map PassOn) (find_none (λ t. t.place == place) h.tickets.items f))

-- where it has one, it has the right if the ticket is open
module _ (m : MachineModel) (h : declared.Hand) (place at : ℕ) (t : Ticket) (f : IsFirstPlace (λ t. t.place == place) h.tickets.items (Some at)) (is : t ≡ slice_index_or h.tickets.items at t) where
  ticket_given : given (hand_of h) (event.PassOn place) ≡ Some (PassOn t)
  ticket_given = ap (option_map PassOn) (find_some (λ t. t.place == place) h.tickets.items at t f ∙ ap Some (sym is))

  same_place : t.place ≡ place
  same_place = eqb-true t.place place (ap (λ (u : Ticket). u.place == place) is ∙ f.1 t)

  -- whether the ticket is open
  pub ticket_right : (b : Bool) → b ≡ is_open_ticket (state_of m).log t → TellsRight b m h (event.PassOn place)
  ticket_right true o =
      let pass = (open_ticket (state_of m).log t (sym o)).pass in
      (PassOn t, ticket_given, ap (option_map PassOn) (subst (λ q. slice_index_or (passes (state_of m).log) q None ≡ Some t) same_place pass))
  ticket_right false o = given_so m m h h (event.PassOn place) (PassOn t) played.Unknown ticket_given (ap (λ r. r.0) unknown) (sym (ap (λ r. r.1) unknown)) refl refl (λ q p e. e) (room_stays h)
    where
      unknown : happens (state_of m) (PassOn t) ≡ unchanged (state_of m) played.Unknown
      unknown = ap (λ b. if b then requested (state_of m) t.shard t.target (Some t) (event.PassOn t.place) else unchanged (state_of m) played.Unknown) (sym o)

-- ---- what becomes of the hand

-- where the hand gives this right, if it gives one
pub settled : (h k : declared.Hand) (e : Event) (a : Played) (y : Happening) (b : Bool) → given (hand_of h) e ≡ (if b then Some y else None) → hand_of k ≡ hand_after (hand_of h) e y a → HasOneMore h k → IsHandAfter h e a k
settled h k e a y true g same more = record { hand = λ x f. subst (λ z. hand_of k ≡ hand_after (hand_of h) e z a) (same_Some y x (sym g ∙ f)) same; more = more }
settled h k e a y false g same more = record { hand = λ x f. absurd (none-some x (sym g ∙ f)); more = more }

same_hand : (h : declared.Hand) → HasOneMore h h
same_hand h = record { tokens = refl; plans = refl; permits = omega arith; tickets = omega arith; permit_room = omega arith; ticket_room = omega arith }

with_tickets : (h k : declared.Hand) → HasOneMore h k → k.permits ≡ h.permits → hand_of k ≡ record (hand_of h) { tickets = k.tickets.items }
with_tickets h k more same = let a = more.tokens in let b = more.plans in cc

with_permits : (h k : declared.Hand) → HasOneMore h k → k.tickets ≡ h.tickets → hand_of k ≡ record (hand_of h) { permits = k.permits.items }
with_permits h k more same = let a = more.tokens in let b = more.plans in cc

-- an event of a stream leaves it as it is
pub stream_settled : (h : declared.Hand) (e : Event) (a : Played) → StartsNoPlan e → ((s v : ℕ) → e ≡ event.Arrive s v → ⊥) → ((place : ℕ) → e ≡ event.PassOn place → ⊥) → ((v : ℕ) → e ≡ event.Approve v → ⊥) → ((v : ℕ) → e ≡ event.Done v → ⊥) → IsHandAfter h e a h
stream_settled h (event.Step id) a quiet arrive pass approve done = settled h h (event.Step id) a (Step id) (list_any (is_token id) h.tokens.items) refl refl (same_hand h)
stream_settled h (event.Lose id after) a quiet arrive pass approve done = settled h h (event.Lose id after) a (Lose id after) (list_any (is_token id) h.tokens.items) refl refl (same_hand h)
stream_settled h (event.Refill id more) a quiet arrive pass approve done = settled h h (event.Refill id more) a (Refill id more) (list_any (is_token id) h.tokens.items) refl refl (same_hand h)
stream_settled h (event.Arrive s v) a quiet arrive pass approve done = absurd (arrive s v refl)
stream_settled h (event.PassOn place) a quiet arrive pass approve done = absurd (pass place refl)
stream_settled h (event.Approve v) a quiet arrive pass approve done = absurd (approve v refl)
stream_settled h (event.Done v) a quiet arrive pass approve done = absurd (done v refl)
stream_settled h (event.Begin place) a quiet arrive pass approve done = absurd quiet

-- a request gives the ticket of its pass
pub arrival_settled : (h k : declared.Hand) (e : Event) (s v : ℕ) (a : Played) → e ≡ event.Arrive s v → HasOneMore h k → k.permits ≡ h.permits → k.tickets.items ≡ h.tickets.items ++ tickets_of s v a → IsHandAfter h e a k
arrival_settled h k e s v a is more same items =
    subst (λ x. IsHandAfter h x a k) (sym is) (settled h k (event.Arrive s v) a (Arrive s v) true refl (with_tickets h k more same ∙ ap (λ ts. record (hand_of h) { tickets = ts }) items) more)

-- an approval gives its permit
pub approval_settled : (h k : declared.Hand) (e : Event) (v : ℕ) (a : Played) → e ≡ event.Approve v → a ≡ played.Approved → HasOneMore h k → k.tickets ≡ h.tickets → k.permits.items ≡ h.permits.items ++ v ∷ [] → IsHandAfter h e a k
approval_settled h k e v a is told more same items =
    subst (λ x. IsHandAfter h x a k) (sym is)
    (subst (λ b. IsHandAfter h (event.Approve v) b k) (sym told) (settled h k (event.Approve v) played.Approved (Approve v) true refl (with_permits h k more same ∙ ap (λ ps. record (hand_of h) { permits = ps }) items) more))

-- the end of a restart spends its permit
pub restart_settled : (h k : declared.Hand) (e : Event) (v : ℕ) (a : Played) → e ≡ event.Done v → a ≡ played.Up → HasOneMore h k → k.tickets ≡ h.tickets → k.permits.items ≡ without_first (λ permit. permit == v) h.permits.items → IsHandAfter h e a k
restart_settled h k e v a is told more same items =
    subst (λ x. IsHandAfter h x a k) (sym is)
    (subst (λ b. IsHandAfter h (event.Done v) b k) (sym told)
    (settled h k (event.Done v) played.Up (Done v) (list_any (λ permit. permit == v) h.permits.items) refl (with_permits h k more same ∙ ap (λ ps. record (hand_of h) { permits = ps }) items) more))

module _ (h : declared.Hand) (e : Event) (place : ℕ) (a : Played) (is : e ≡ event.PassOn place) where
  abbrev spent_or_not : Ticket → Bool → Hand
  spent_or_not t b = if b then record (hand_of h) { tickets = without_first (λ x. x.place == t.place) h.tickets.items ++ tickets_of t.shard t.target a } else hand_of h

  by_ticket : (k : declared.Hand) → HasOneMore h k → ((t : Ticket) → find (λ t. t.place == place) h.tickets.items ≡ Some t → hand_of k ≡ spent_or_not t (spends a)) → IsHandAfter h e a k
  by_ticket k more same = subst (λ x. IsHandAfter h x a k) (sym is) (by_found (find (λ t. t.place == place) h.tickets.items) refl)
    where
      by_found : (o : Option Ticket) → find (λ t. t.place == place) h.tickets.items ≡ o → IsHandAfter h (event.PassOn place) a k
      by_found None q = record { hand = λ x g. absurd (none-some x (sym (ap (option_map PassOn) q) ∙ g)); more = more }
      by_found (Some t) q = settled h k (event.PassOn place) a (PassOn t) true (ap (option_map PassOn) q) (same t q) more

  -- an answer that spends the first ticket of the place gives that of a new pass
  pub pass_settled : (k : declared.Hand) → HasOneMore h k → k.permits ≡ h.permits → spends a ≡ true →
      ((t : Ticket) → find (λ t. t.place == place) h.tickets.items ≡ Some t → k.tickets.items ≡ without_first (λ x. x.place == t.place) h.tickets.items ++ tickets_of t.shard t.target a) → IsHandAfter h e a k
  pass_settled k more same spent items = by_ticket k more (λ t q. with_tickets h k more same ∙ ap (λ ts. record (hand_of h) { tickets = ts }) (items t q) ∙ ap (spent_or_not t) (sym spent))

  -- any other answer leaves it
  pub ticket_left : spends a ≡ false → IsHandAfter h e a h
  ticket_left left = by_ticket h (same_hand h) (λ t q. ap (spent_or_not t) (sym left))

-- the first ticket of a place is spent, and that of a new pass is put behind the others
pub ticket_spent : (xs removed now : List Ticket) (place at : ℕ) (u : Ticket) (a : Played) (s v : ℕ) → IsFirstPlace (λ t. t.place == place) xs (Some at) → u ≡ slice_index_or xs at u → removed ≡ remove xs at →
    now ≡ removed ++ tickets_of s v a → s ≡ u.shard → v ≡ u.target → (t : Ticket) → find (λ t. t.place == place) xs ≡ Some t → now ≡ without_first (λ x. x.place == t.place) xs ++ tickets_of t.shard t.target a
ticket_spent xs removed now place at u a s v f is out put shard target t found =
    let same : u ≡ t = is ∙ same_Some _ t (sym (find_some (λ t. t.place == place) xs at u f) ∙ found) in
    let here : t.place ≡ place = ap (λ (x : Ticket). x.place) (sym same) ∙ eqb-true u.place place (ap (λ (x : Ticket). x.place == place) is ∙ f.1 u) in
    let left : remove xs at ≡ without_first (λ x. x.place == t.place) xs = sym (ap (λ q. without_first (λ x. x.place == q) xs) here ∙ without_some (λ x. x.place == place) xs at f) in
    put ∙ ap (λ ts. ts ++ tickets_of s v a) (out ∙ left)
    ∙ ap (λ k. without_first (λ x. x.place == t.place) xs ++ tickets_of k v a) (shard ∙ ap (λ (x : Ticket). x.shard) same)
    ∙ ap (λ k. without_first (λ x. x.place == t.place) xs ++ tickets_of t.shard k a) (target ∙ ap (λ (x : Ticket). x.target) same)

room_for : (h k : declared.Hand) → HasOneMore h k → (more : ℕ) → HasHandRoom h (suc more) → HasHandRoom k more
room_for h k o more r = record {
  tokens = subst (λ ts. length ts.items + sum_by token_count k.plans.items ≤ vec_capacity ts) (sym o.tokens) (subst (λ ps. length h.tokens.items + sum_by token_count ps.items ≤ vec_capacity h.tokens) (sym o.plans) r.tokens);
  permits = (let a = r.permits in let b = o.permit_room in let c = o.permits in omega arith);
  tickets = (let a = r.tickets in let b = o.ticket_room in let c = o.tickets in omega arith);
}

-- an event that is no start
pub no_plan : (e : Event) → ((place : ℕ) → e ≡ event.Begin place → ⊥) → StartsNoPlan e
no_plan (event.Begin place) other = other place refl
no_plan _ other = tt

-- an event of known names can be asked for by them
pub can_direct : (c : Sizes) (e : Event) → NamesKnown c e → CanDirect c e
can_direct c (event.Done v) known = tt
can_direct c _ known = known

-- the event of a right was played by its name, and the hand was settled
pub played_so : (m n : MachineModel) (h k : declared.Hand) (e : Event) (a : Played) → TellsRight true m h e → HasHappenedIf m (named (state_of m) e) a n → IsHandAfter h e a k → IsTurn m h e a n k
played_so m n h k e a right happened after =
    let one : HasHappenedAs m right.0 a n = subst (λ o. HasHappenedIf m o a n) right.2 happened in
    given_so m n h k e right.0 a right.1 (ap (λ o. o.0) one.event) (sym (ap (λ o. o.1) one.event)) one.setup (after.hand right.0 right.1)
    (λ place p q. subst (λ ps. slice_index_or ps.items place None ≡ Some p) after.more.plans q) (room_for h k after.more)
