-- The stream of an order for a shard's lead has the shard's crown.
use Rattle.std.proofs.Common.{◌≡◌, ◌≢◌, ◌⊎◌, ◌+◌, ℕ, refl, sym, ap, ◌∙◌, inl, inr, subst, Bool, true, false, Option, Some, None}
use Rattle.std.specs.Prelude.{if◌then◌else◌}
use Rattle.sm_server.specs.declared.call.Cell.{Cell}
use Rattle.sm_server.specs.declared.call.Cell.TheVariants as cell
use Rattle.sm_server.specs.declared.call.Role.{Role}
use Rattle.sm_server.specs.declared.call.Call.{Call}
use Rattle.sm_server.specs.declared.call.Call.TheVariants as call
use Rattle.sm_server.specs.Call.{led_to}
use Rattle.sm_placement.specs.Setup.{Setup}
use Rattle.sm_plan_code.specs.declared.instruction.Instr.{Instr}
use Rattle.sm_plan_code.specs.declared.call.ServerCall.{ServerCall}
use Rattle.sm_reservation.specs.declared.stream_id.StreamId.{StreamId}
use Rattle.sm_protocol.specs.State.{State, is_running, progress_of}
use Rattle.sm_protocol.proofs.Courses.{some_same}
use Rattle.sm_protocol.proofs.Numbers.{one_stream}
use Rattle.laws_network.specs.Net.{Order, call_above, call_now, cell_above, order_for, order_of, since_of}
use Rattle.laws_network.specs.Fleet.{Committed, Fleet, FleetEvent, controller, fleet_comes, has_lost}
use Rattle.laws_network.specs.FleetLaws.{IsAheadAt, IsFleetReached}
use Rattle.laws_network.proofs.Apart.{IsAtCall, calls_apart}
use Rattle.laws_network.proofs.Events.{at_call_of}
use Rattle.laws_network.proofs.FleetOnce.{only_present_commits, servers_are_near}
use Rattle.laws_service_data.specs.Duties.{cell_at}
use Rattle.laws_service_data.specs.LeadNumbers.{IsOfLead}
use Rattle.laws_service_data.proofs.Crowns.{HasCrown, changing_crown, dropping_crown}
use Rattle.laws_service_data.proofs.Held.{Commits, MovesHeld, Stays, moves_held}
use Rattle.laws_service_data.proofs.Records.{calm, kept}

-- The order of a stream: the call before which the stream stands, with the base added.
pub record IsOrderOf (base : ℕ) (w : State) (id : StreamId) (o : Order) : Type 0 where
  pub instr : Instr
  pub call : ServerCall
  pub at_call : IsAtCall w id instr call
  pub stream : o.stream ≡ id
  pub shard : o.call.shard ≡ call.shard
  pub server : o.call.server ≡ call.server
  pub is : o.call.call ≡ call_above base call.call
  pub number : o.number ≡ base + since_of w id + 1

order_parts : (base : ℕ) (w : State) (id : StreamId) (o : Order) → order_of base w id ≡ Some o → IsOrderOf base w id o
order_parts base w id o e = go (is_running w id) (call_now w id) refl refl e
  where
    go : (b : Bool) (c : Option ServerCall) → is_running w id ≡ b → call_now w id ≡ c → (if b then order_for base w id c else None) ≡ Some o → IsOrderOf base w id o
    go false c r q e = absurd (cc)
    go true None r q e = absurd (cc)
    go true (Some x) r q e =
        let t = at_call_of w id x r q in
        let same = sym (some_same _ o e) in
        record {
          instr = t.0;
          call = x;
          at_call = t.1;
          stream = ap (λ (z : Order). z.stream) same;
          shard = ap (λ (z : Order). z.call.shard) same;
          server = ap (λ (z : Order). z.call.server) same;
          is = ap (λ (z : Order). z.call.call) same;
          number = ap (λ (z : Order). z.number) same;
        }

above_change : (base : ℕ) (c : Call) (from to : Role) → call_above base c ≡ call.Change from to → c ≡ call.Change from to
above_change base (call.PrepareAdd owner number) from to e = absurd (cc)
above_change base (call.PrepareDrop new_owner number) from to e = absurd (cc)
above_change base (call.Add r) from to e = e
above_change base (call.Change a b) from to e = e
above_change base call.Drop from to e = e

above_drop : (base : ℕ) (c : Call) → call_above base c ≡ call.Drop → c ≡ call.Drop
above_drop base (call.PrepareAdd owner number) e = absurd (cc)
above_drop base (call.PrepareDrop new_owner number) e = absurd (cc)
above_drop base (call.Add r) e = e
above_drop base (call.Change a b) e = e
above_drop base call.Drop e = e

module _ (setup : Setup) (f : Fleet) (r : IsFleetReached setup f) (e : FleetEvent) (o : Order) (q : (fleet_comes f e).0 ≡ Committed o) where
  abbrev w : State
  w = (controller f).w

  abbrev base : ℕ
  base = (controller f).base

  present : order_of base w o.stream ≡ Some o
  present = only_present_commits setup f r e o q

  -- what the order says
  pub parts : IsOrderOf base w o.stream o
  parts = order_parts base w o.stream o present

  abbrev unmade : (id : StreamId) → (progress_of w id).ahead ≡ false
  unmade = (calm setup f r).unmade

  known : has_lost f o.call.server ≡ false
  known = go (moves_held setup f r e)
    where
      go : MovesHeld f (fleet_comes f e) → has_lost f o.call.server ≡ false
      go (Stays none same) = absurd (none o q)
      go (Commits p h c) = subst (λ (z : Order). has_lost f z.call.server ≡ false) (let z : Committed p ≡ Committed o = sym h ∙ q in let y : p ≡ o = cc in y) c.known

  -- no secondary of the record is a primary when it is dropped
  no_secondary : o.call.call ≡ call.Drop → w.place.cells o.call.shard o.call.server ≡ cell.Secondary → cell_at f o.call.shard o.call.server ≡ cell.Primary → ⊥
  no_secondary d c p = elim (servers_are_near setup f r o.call.shard o.call.server known) [
    | inl n ↦ absurd (let z : cell.Primary ≡ cell.Secondary = sym p ∙ (n ∙ ap (cell_above base) c) in cc)
    | inr a ↦ ahead a (one_stream a.order.stream o.stream)
  ]
    where
      from_secondary : (a : IsAheadAt f o.call.shard o.call.server) → led_to a.order.call.call cell.Secondary ≡ Some cell.Primary
      from_secondary a = ap (λ k. led_to a.order.call.call (cell_above base k)) (sym c) ∙ (a.led ∙ ap (λ k. let z : Option Cell = Some k in z) p)

      ahead : (a : IsAheadAt f o.call.shard o.call.server) → (a.order.stream ≡ o.stream) ⊎ (a.order.stream ≢ o.stream) → ⊥
      ahead a (inl h) =
          let same = some_same a.order o (sym a.present ∙ (ap (order_of base w) h ∙ present)) in
          let z : led_to call.Drop cell.Secondary ≡ Some cell.Primary = ap (λ k. led_to k cell.Secondary) (sym (ap (λ (y : Order). y.call.call) same ∙ d)) ∙ from_secondary a in
          absurd (cc)
      ahead a (inr n) =
          let b = order_parts base w a.order.stream a.order a.present in
          calls_apart w (kept setup f r) a.order.stream o.stream b.instr parts.instr b.call parts.call n b.at_call parts.at_call (unmade a.order.stream) (unmade o.stream)
          (sym b.shard ∙ (a.shard ∙ parts.shard), sym b.server ∙ (a.server ∙ parts.server))

  -- the stream of an order for the shard's lead has the crown
  pub lead_has_crown : IsOfLead o.call.call (cell_at f o.call.shard o.call.server) → HasCrown w o.call.shard o.stream
  lead_has_crown h = go o.call.call (cell_at f o.call.shard o.call.server) refl refl h
    where
      own_shard : HasCrown w parts.call.shard o.stream → HasCrown w o.call.shard o.stream
      own_shard h = subst (λ s. HasCrown w s o.stream) (sym parts.shard) h

      by_drop : o.call.call ≡ call.Drop → cell_at f o.call.shard o.call.server ≡ cell.Primary → HasCrown w parts.call.shard o.stream ⊎ (w.place.cells parts.call.shard parts.call.server ≡ cell.Secondary) → HasCrown w o.call.shard o.stream
      by_drop d p (inl h) = own_shard h
      by_drop d p (inr c) = absurd (no_secondary d (ap (λ s. w.place.cells s o.call.server) parts.shard ∙ (ap (w.place.cells parts.call.shard) parts.server ∙ c)) p)

      go : (c : Call) (k : Cell) → o.call.call ≡ c → cell_at f o.call.shard o.call.server ≡ k → IsOfLead c k → HasCrown w o.call.shard o.stream
      go (call.Change from to) k d p h =
          own_shard (changing_crown w (kept setup f r) unmade o.stream parts.call parts.instr parts.at_call from to (above_change base parts.call.call from to (sym parts.is ∙ d)))
      go call.Drop cell.Primary d p h =
          by_drop d p (dropping_crown w (kept setup f r) unmade o.stream parts.call parts.instr parts.at_call (above_drop base parts.call.call (sym parts.is ∙ d)))
      go call.Drop cell.Absent d p h = absurd h
      go call.Drop cell.Secondary d p h = absurd h
      go call.Drop (cell.Prepared a n) d p h = absurd h
      go call.Drop (cell.Forwarding a n) d p h = absurd h
      go (call.Add x) k d p h = absurd h
      go (call.PrepareAdd a n) k d p h = absurd h
      go (call.PrepareDrop a n) k d p h = absurd h
