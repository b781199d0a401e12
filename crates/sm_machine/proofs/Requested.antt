-- A machine answers requests as the protocol says, and keeps what every machine keeps.
use Rattle.std.proofs.Common.{◌≡◌, ◌≤◌, ◌<◌, ◌-◌, ℕ, Bool, true, false, refl, sym, ap, ◌∙◌, subst, arith, Option, Some, None}
use Rattle.std.specs.Prelude.{◌==◌, if◌then◌else◌, length}
use Rattle.std.proofs.lemmas.Bool.{ne_eqb}
use Rattle.sm_server.specs.declared.call.Cell.{Cell}
use Rattle.sm_server.specs.declared.call.Cell.TheVariants.{Absent, Prepared, Secondary, Primary, Forwarding}
use Rattle.sm_protocol.specs.declared.event.Event.{Event}
use Rattle.sm_protocol.specs.declared.event.Played.{Played}
use Rattle.sm_protocol.specs.declared.event.Played.TheVariants as played
use Rattle.sm_protocol.specs.declared.event.Event.TheVariants as event
use Rattle.sm_protocol.specs.Ticket.{Ticket, is_open_ticket}
use Rattle.sm_protocol.specs.State.{State, recorded, free_places}
use Rattle.sm_protocol.specs.Steps.{Outcome, Answered, unchanged}
use Rattle.sm_protocol.specs.Happens.{PassOn, Arrive, answer_by, reply_of, requested}
use Rattle.sm_protocol.proofs.Replays.{open_ticket}
use Rattle.sm_machine.specs.State.{Whole, with_state}
use Rattle.sm_machine.specs.Working.{IsWorking}
use Rattle.sm_machine.specs.Requested.{IsRequest, IsReply, IsAsked}
use Rattle.sm_machine.proofs.KnownPasses.{passes_known}
use Rattle.sm_machine.proofs.ties.Events.{working_recorded}

prepared_reply : (t : Bool) (v : ℕ) → IsReply (if t then played.Executed v else played.NotOwner)
prepared_reply true v = tt
prepared_reply false v = tt

cell_reply : (cell : Cell) (v : ℕ) (sent : Option Ticket) (place : ℕ) → IsReply (answer_by cell v sent place)
cell_reply Primary v sent place = tt
cell_reply (Forwarding to number) v sent place = tt
cell_reply (Prepared from number) v (Some t) place = prepared_reply _ v
cell_reply (Prepared from number) v None place = tt
cell_reply Absent v sent place = tt
cell_reply Secondary v sent place = tt

is_reply : (w : State) (s v : ℕ) (sent : Option Ticket) → IsReply (reply_of w s v sent)
is_reply w s v sent = go (w.place.down v)
  where
    go : (b : Bool) → IsReply (if b then played.Unavailable else answer_by (w.place.cells s v) v sent (length w.log))
    go true = tt
    go false = cell_reply (w.place.cells s v) v sent (length w.log)

-- ---- the log is full, or has a place

-- a request that was answered is recorded, and takes a place of the log
abbrev asked_whole : Whole → ℕ → ℕ → Option Ticket → Event → Whole
asked_whole x s v sent event = record x { state = recorded x.state event (reply_of x.state s v sent); free = x.free - 1 }

module _ (x : Whole) (g : IsWorking x) (s v : ℕ) (sent : Option Ticket) (e : Event) where
  abbrev by_room : Bool → Outcome × State
  by_room t = if t then unchanged x.state played.LogFull else (Answered (reply_of x.state s v sent), recorded x.state e (reply_of x.state s v sent))

  none_free : x.free ≡ 0 → (free_places x.state == 0) ≡ true
  none_free f = let is : x.free ≡ free_places x.state = g.counted.places in ap (λ n. n == 0) (sym is ∙ f)

  some_free : (x.free ≡ 0 → ⊥) → (free_places x.state == 0) ≡ false
  some_free f =
      let is : x.free ≡ free_places x.state = g.counted.places in
      ne_eqb (free_places x.state) 0 (λ h. f (is ∙ h))

  -- where no place of the log is free, a request is answered that the log is full, and changes nothing
  pub asked_full : x.free ≡ 0 → IsAsked x s v sent e played.LogFull x
  asked_full f = record { outcome = ap by_room (none_free f); reply = tt; setup = refl; working = g }

  -- the log has a place
  pub log_has_place : (x.free ≡ 0 → ⊥) → (free : ℕ) (y : Whole) → y ≡ record x { free = free } → length y.state.log < y.state.room
  log_has_place f free y e = subst (λ z. length z.state.log < z.state.room) (sym e) (let is : x.free ≡ free_places x.state = g.counted.places in omega arith)

  pub asked_answered : IsRequest x.state s v sent e → (x.free ≡ 0 → ⊥) → (y : Whole) → y ≡ asked_whole x s v sent e → IsAsked x s v sent e (reply_of x.state s v sent) y
  asked_answered r f y is =
      let some : 1 ≤ x.free = omega arith in
      let outcome : requested x.state s v sent e ≡ (Answered (reply_of x.state s v sent), recorded x.state e (reply_of x.state s v sent)) = ap by_room (some_free f) in
      subst (IsAsked x s v sent e (reply_of x.state s v sent)) (sym is) (record {
        outcome = outcome;
        reply = is_reply x.state s v sent;
        setup = refl;
        working = working_recorded x g r.made r.fits e (reply_of x.state s v sent) (ap (λ o. o.1) (r.is ∙ outcome)) some;
      })

  -- as the code makes it
  pub asked_by : IsRequest x.state s v sent e → (x.free ≡ 0 → ⊥) → (free : ℕ) → free ≡ x.free → (a : Played) → a ≡ reply_of x.state s v sent → (y z : Whole) → y ≡ record x { free = free - 1 } →
      z ≡ with_state y (recorded y.state e a) → IsAsked x s v sent e a z
  asked_by r f free count a reply y z taken is =
      subst (λ p. IsAsked x s v sent e p z) (sym reply) (asked_answered r f z (
      is ∙ ap (λ u. with_state u (recorded u.state e a)) taken ∙ ap (λ n. with_state (record x { free = n - 1 }) (recorded x.state e a)) count
      ∙ ap (λ p. with_state (record x { free = x.free - 1 }) (recorded x.state e p)) reply
      ))

-- ---- what is asked

-- what comes directly to a known server, for a known shard, is a request
pub arrives : (w : State) (s v : ℕ) → s < w.sizes.shards → v < w.sizes.servers → IsRequest w s v None (event.Arrive s v)
arrives w s v a b = record { shard = a; server = b; made = Arrive s v; fits = (a, b); is = refl; no_step = λ id. refl }

module _ (x : Whole) (g : IsWorking x) (t : Ticket) where
  abbrev by_ticket : Bool → Outcome × State
  by_ticket b = if b then requested x.state t.shard t.target (Some t) (event.PassOn t.place) else unchanged x.state played.Unknown

  -- what is passed on with an open ticket is a request for its shard, which comes to its target
  pub passes_on : is_open_ticket x.state.log t ≡ true → IsRequest x.state t.shard t.target (Some t) (event.PassOn t.place)
  passes_on o =
      let known = passes_known x.setup x.state g.reached t.place t (open_ticket x.state.log t o).pass in
      record { shard = known.0; server = known.1; made = PassOn t; fits = tt; is = ap by_ticket o; no_step = λ id. refl }
