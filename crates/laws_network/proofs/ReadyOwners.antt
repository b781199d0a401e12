-- An old owner that forwards and has its slots knows its cut: it got it when it began to forward, and no restore brings a handover, since a
-- server is restored only if no unfinished stream names it.
use Rattle.std.proofs.Common.{◌≡◌, ℕ, suc, ◌+◌, refl, sym, ap, ◌∙◌, inl, inr, subst, Bool, true, false, true≢false, Option, Some, None, List, [], ◌∷◌, ◌++◌, length}
use Rattle.std.specs.Prelude.{◌==◌, ◌&&◌, IsSome, if◌then◌else◌, is_none, slice_get}
use Rattle.std.specs.List.{AllByRecursion}
use Rattle.std.proofs.lemmas.Bool.{cases_Bool}
use Rattle.sm_server.specs.declared.call.Cell.{Cell}
use Rattle.sm_server.specs.declared.call.Cell.TheVariants as cell
use Rattle.sm_server.specs.declared.call.Call.{Call}
use Rattle.sm_server.specs.declared.call.Call.TheVariants as call
use Rattle.sm_server.specs.declared.call.Role.TheVariants as role
use Rattle.sm_server.specs.Call.{led_to}
use Rattle.sm_placement.specs.Setup.{Setup}
use Rattle.sm_placement.specs.Sums.{put}
use Rattle.sm_reservation.specs.declared.stream_id.StreamId.{StreamId}
use Rattle.sm_protocol.specs.Happens.{Done, Step, engaged, engages, happens}
use Rattle.sm_protocol.specs.State.{opened}
use Rattle.sm_agent.specs.declared.base.Reception.{Reception}
use Rattle.sm_agent.specs.declared.base.Reception.TheVariants as reception
use Rattle.sm_agent.specs.declared.order.Verdict.{Verdict}
use Rattle.sm_agent.specs.declared.order.Verdict.TheVariants as verdict
use Rattle.sm_agent.specs.declared.slot.Slot.{Slot}
use Rattle.sm_agent.specs.Base.{forgotten, lacks_slots, restored}
use Rattle.sm_agent.specs.Order.{abandoned, begun_slot, committed, cut_by, placed, published as judged_by_owner, sealed, vacant}
use Rattle.laws_network.specs.Net.{is_awaited}
use Rattle.laws_network.specs.World.{is_answered_by, publication_of}
use Rattle.laws_network.specs.Controller.{Answered, Controller, EPOCH, Ended, JournalEntry, Letter, Made, Notice, Opened, Restore, Restored, Stored, are_versions_low, entry_recorded, goes_on, has_no_plan, is_permitted, is_local, replayed, restore_for}
use Rattle.laws_network.specs.Fleet.{Abandon, Commit, End, Fleet, FleetEvent, FleetOutcome, Forget, HearAsk, HearOwner, HearServer, Judge, Make, Open, Publish, Receive, Recover, Seal, SendOrder, SendPublication, Serve, Server, after_owner, after_reception, after_verdict, after_work, by_message, controller, fleet_comes, fleet_run, has_lost, held_cells, notice_stamp, order_read, slot_for, verdict_of, with_slot, written}
use Rattle.laws_network.specs.FleetLaws.{AllFleetFit, AreNamedKnown, IsFleetOpening, IsFleetReached}
use Rattle.laws_network.proofs.AtServer.{commit_is}
use Rattle.laws_network.proofs.Behind.{IsUnnamed, unnamed}
use Rattle.laws_network.proofs.Deliveries.{shade_of}
use Rattle.laws_network.proofs.Lists.{all_at, all_push}
use Rattle.laws_network.proofs.OfFleet.{net_of}
use Rattle.laws_network.proofs.Reaching.{comes_shadow, fleet_shadow, opening_shadow}
use Rattle.laws_network.proofs.Resting.{IsOutside, opening_outside}
use Rattle.laws_network.proofs.Shadow.{IsShadow}
use Rattle.laws_network.proofs.Slots.{put_elim}
use Rattle.laws_network.proofs.Unnamed.{unnamed_is_really_outside, unnamed_is_recorded_outside}

-- ---- cuts

-- a call that leads to a cell that forwards tells the cut
pub forwards_cut : (x : Call) (c : Cell) (to number at : ℕ) → led_to x c ≡ Some (cell.Forwarding to number) → IsSome (cut_by x at)
forwards_cut (call.PrepareDrop a n) c to number at e = refl
forwards_cut (call.Add role.Primary) cell.Absent to number at e = absurd (cc)
forwards_cut (call.Add role.Secondary) cell.Absent to number at e = absurd (cc)
forwards_cut (call.Add role.Primary) (cell.Prepared a n) to number at e = absurd (cc)
forwards_cut (call.Add role.Secondary) (cell.Prepared a n) to number at e = absurd (cc)
forwards_cut (call.Add r) cell.Secondary to number at e = absurd (cc)
forwards_cut (call.Add r) cell.Primary to number at e = absurd (cc)
forwards_cut (call.Add r) (cell.Forwarding a n) to number at e = absurd (cc)
forwards_cut call.Drop cell.Absent to number at e = absurd (cc)
forwards_cut call.Drop cell.Secondary to number at e = absurd (cc)
forwards_cut call.Drop cell.Primary to number at e = absurd (cc)
forwards_cut call.Drop (cell.Prepared a n) to number at e = absurd (cc)
forwards_cut call.Drop (cell.Forwarding a n) to number at e = absurd (cc)
forwards_cut (call.Change role.Secondary role.Primary) cell.Secondary to number at e = absurd (cc)
forwards_cut (call.Change role.Primary role.Secondary) cell.Primary to number at e = absurd (cc)
forwards_cut (call.PrepareAdd a n) cell.Absent to number at e = absurd (cc)
forwards_cut _ _ to number at e = absurd (cc)

-- a slot that forwards knows its cut
abbrev HasCut : Slot → Type 0
HasCut slot = (to number : ℕ) → slot.cell ≡ cell.Forwarding to number → IsSome slot.cut

-- so do all slots of a server, unless it has lost them
abbrev pub KnowsCuts : Server → Type 0
KnowsCuts server = lacks_slots server.base ≡ false → (s : ℕ) → HasCut (server.slots s)

-- a restore that brings no handover
abbrev BringsNone : Restore → Type 0
BringsNone r = (s : ℕ) → IsOutside (r.cells s)

-- whoever forwards and has its slots knows its cut, and no restore brings a handover
pub record AreCutsKnown (f : Fleet) : Type 0 where
  pub servers : (v : ℕ) → KnowsCuts (f.servers v)
  pub restores : AllByRecursion BringsNone (controller f).restores

-- a cell outside of all handovers does not forward
not_outside : (c : Cell) (to number : ℕ) → IsOutside c → c ≡ cell.Forwarding to number → ⊥
not_outside c to number h e = subst IsOutside e h

-- ---- slots

put_knows : (f : Fleet) (v : ℕ) (x : Server) → AreCutsKnown f → KnowsCuts x → (u : ℕ) → KnowsCuts (put f.servers v x u)
put_knows f v x h own u = put_elim KnowsCuts f.servers v x u (λ e. own) (λ e. h.servers u)

slot_knows : (f : Fleet) (s v : ℕ) (slot : Slot) → AreCutsKnown f → (lacks_slots (f.servers v).base ≡ false → HasCut slot) → AreCutsKnown (with_slot f s v slot)
slot_knows f s v slot h own = record {
  servers = put_knows f v (record (f.servers v) { slots = put (f.servers v).slots s slot }) h
      (λ known r. put_elim HasCut (f.servers v).slots s slot r (λ e. own known) (λ e. h.servers v known r));
  restores = h.restores;
}

sealed_has : (slot : Slot) (number cut : ℕ) → HasCut slot → HasCut (sealed slot number cut)
sealed_has slot number cut = go slot.cell
  where
    go : (c : Cell) → HasCut (record slot { cell = c }) → HasCut (sealed (record slot { cell = c }) number cut)
    go cell.Absent h = h
    go cell.Secondary h = h
    go cell.Primary h = h
    go (cell.Forwarding a m) h = h
    go (cell.Prepared a m) h = by_test (m == number)
      where
        by_test : (b : Bool) → HasCut (if b then record slot { cell = cell.Prepared a m; cut = Some cut } else record slot { cell = cell.Prepared a m })
        by_test true to n q = refl
        by_test false to n q = absurd (cc)

-- ---- entries

module _ (setup : Setup) (low : ℕ → ℕ → ℕ) (f : Fleet) (k : IsShadow setup low f) (h : AreCutsKnown f) where
  abbrev c : Controller
  c = controller f

  -- a new restore brings none either
  entry_brings : (e : JournalEntry) → AllByRecursion BringsNone (entry_recorded c e).restores
  entry_brings (Made x) = go (is_local c.w x)
    where
      go : (b : Bool) → AllByRecursion BringsNone (if b then goes_on (controller f) x else controller f).restores
      go true = h.restores
      go false = h.restores
  entry_brings (Answered o) = go (is_awaited c.base c.w o)
    where
      go : (b : Bool) → AllByRecursion BringsNone (if b then goes_on (controller f) (Step o.stream) else controller f).restores
      go true = h.restores
      go false = h.restores
  entry_brings (Stored p) = go (is_answered_by p (publication_of c.base c.w p.stream))
    where
      go : (b : Bool) → AllByRecursion BringsNone (if b then goes_on (controller f) (Step p.stream) else controller f).restores
      go true = h.restores
      go false = h.restores
  entry_brings (Ended v permit) = go (is_permitted (c.permits v) permit)
    where
      go : (b : Bool) → AllByRecursion BringsNone (if b then record (controller f) { w = (happens (controller f).w (Done v)).1; permits = put (controller f).permits v None } else controller f).restores
      go true = h.restores
      go false = h.restores
  entry_brings (Restored v nonce) = go (is_none (engaged c.w v)) refl
    where
      nobody : (o : Option StreamId) → is_none o ≡ true → o ≡ None
      nobody None q = refl
      nobody (Some id) q = absurd (cc)

      go : (b : Bool) → is_none (engaged (controller f).w v) ≡ b →
          AllByRecursion BringsNone (if b then record (controller f) { restores = (controller f).restores ++ restore_for (controller f) v nonce ∷ [] } else controller f).restores
      go true t = all_push BringsNone (controller f).restores (restore_for (controller f) v nonce) h.restores
          (unnamed_is_recorded_outside setup (shade_of f k).net (net_of f k) v (unnamed (controller f).w v (nobody (engaged (controller f).w v) t)))
      go false t = h.restores
  entry_brings (Opened room) = go (has_no_plan c.w && are_versions_low c.w)
    where
      go : (b : Bool) → AllByRecursion BringsNone (if b then record (controller f) { w = opened (controller f).w.sizes (controller f).w.place room; base = (controller f).base + EPOCH } else controller f).restores
      go true = h.restores
      go false = h.restores

  written_knows : (e : JournalEntry) → AreCutsKnown (written f e)
  written_knows e = record { servers = h.servers; restores = entry_brings e }

  -- ---- events

  message_knows : {A : Type 0} (g : A → FleetOutcome × Fleet) (o : Option A) → ((x : A) → o ≡ Some x → AreCutsKnown (g x).1) → AreCutsKnown (by_message f g o).1
  message_knows g None each = h
  message_knows g (Some x) each = each x refl

  verdict_knows : (l : Letter) (x : Verdict) → AreCutsKnown (after_verdict f l x)
  verdict_knows l verdict.Begin = slot_knows f l.order.call.shard l.order.call.server (begun_slot (slot_for f l) (order_read l)) h (λ known. h.servers l.order.call.server known l.order.call.shard)
  verdict_knows l verdict.Again = record { servers = h.servers; restores = h.restores }
  verdict_knows l verdict.Working = h
  verdict_knows l verdict.Old = h
  verdict_knows l verdict.Foreign = h
  verdict_knows l verdict.NotReady = h
  verdict_knows l (verdict.Refused why) = h

  work_knows : (l : Letter) (at : ℕ) (o : Option Slot) → committed (f.servers l.order.call.server).base (slot_for f l) (order_read l) at ≡ o → AreCutsKnown (after_work f l o).1
  work_knows l at None e = h
  work_knows l at (Some next) e =
      let is = commit_is (f.servers l.order.call.server).base (slot_for f l) (order_read l) at next e in
      let x = slot_knows f l.order.call.shard l.order.call.server next h
      (λ known to number q. subst IsSome (sym is.cut) (forwards_cut l.order.call.call (slot_for f l).cell to number at (is.led ∙ ap (λ z. let y : Option Cell = Some z in y) q))) in
      record { servers = x.servers; restores = x.restores }

  owner_knows : (n : Notice) (x : Verdict) → AreCutsKnown (after_owner f n.publication x)
  owner_knows n verdict.Begin = record { servers = h.servers; restores = h.restores }
  owner_knows n verdict.Again = record { servers = h.servers; restores = h.restores }
  owner_knows n verdict.Working = h
  owner_knows n verdict.Old = h
  owner_knows n verdict.Foreign = h
  owner_knows n verdict.NotReady = h
  owner_knows n (verdict.Refused why) = h

  reception_knows : (v : ℕ) (r : Restore) → BringsNone r → (x : Reception) → AreCutsKnown (after_reception f v r x)
  reception_knows v r none (reception.Taken base) = record {
    servers = put_knows f v (record { base = base; slots = λ s. placed vacant (r.cells s) (r.loads s) }) h (λ known s to number q. absurd (not_outside (r.cells s) to number (none s) q));
    restores = h.restores;
  }
  reception_knows v r none reception.Again = h
  reception_knows v r none reception.Ignored = h

  -- every event
  comes_known : (e : FleetEvent) → AreCutsKnown (fleet_comes f e).1
  comes_known (Make x) = written_knows (Made x)
  comes_known (End v permit) = written_knows (Ended v permit)
  comes_known (Open room) = written_knows (Opened room)
  comes_known (HearServer place) = message_knows _ (slice_get f.answers place) (λ o e. written_knows (Answered o))
  comes_known (HearOwner place) = message_knows _ (slice_get f.stored place) (λ p e. written_knows (Stored p))
  comes_known (HearAsk place) = message_knows _ (slice_get f.asks place) (λ v e. written_knows (Restored v (suc place)))
  comes_known (SendOrder lost id) = record { servers = h.servers; restores = h.restores }
  comes_known (SendPublication lost id) = record { servers = h.servers; restores = h.restores }
  comes_known (Judge place) = message_knows _ (slice_get f.sent place) (λ l e. verdict_knows l (verdict_of f l))
  comes_known (Commit place at) = message_knows _ (slice_get f.sent place) (λ l e. work_knows l at (committed (f.servers l.order.call.server).base (slot_for f l) (order_read l) at) refl)
  comes_known (Abandon s v) = slot_knows f s v (abandoned ((f.servers v).slots s)) h (λ known. h.servers v known s)
  comes_known (Publish place) = message_knows _ (slice_get f.published place) (λ n e. owner_knows n (judged_by_owner f.owner (f.shown n.publication.shard).version (notice_stamp n)))
  comes_known (Serve s v applied) = record { servers = h.servers; restores = h.restores }
  comes_known (Receive place applied) = message_knows _ (slice_get f.passes place) (λ p e. record { servers = h.servers; restores = h.restores })
  comes_known (Seal place) = message_knows _ (slice_get f.passes place)
      (λ p e. slot_knows f p.shard p.target (sealed ((f.servers p.target).slots p.shard) p.pass.handover p.pass.cut) h
      (λ known. sealed_has ((f.servers p.target).slots p.shard) p.pass.handover p.pass.cut (h.servers p.target known p.shard)))
  comes_known (Forget v) = record {
    servers = put_knows f v (record { base = forgotten (suc (length f.asks)); slots = λ s. vacant }) h (λ known s to number q. absurd (cc));
    restores = h.restores;
  }
  comes_known (Recover place v) = message_knows _ (slice_get (controller f).restores place)
      (λ r e. reception_knows v r (all_at BringsNone (controller f).restores place r h.restores e) (restored (f.servers v).base r.restoration))

-- ---- wherever events lead

run_known : (setup : Setup) (low : ℕ → ℕ → ℕ) (es : List FleetEvent) (f : Fleet) → IsShadow setup low f → AreCutsKnown f → AllFleetFit setup f es → AreCutsKnown (fleet_run es f)
run_known setup low [] f k h fits = h
run_known setup low (e ∷ es) f k h fits = run_known setup low es (fleet_comes f e).1 (comes_shadow setup low f k e fits.0) (comes_known setup low f k h e) fits.1

opening_known : (setup : Setup) (f : Fleet) → IsFleetOpening setup f → AreCutsKnown f
opening_known setup f o = record {
  servers = λ v known s to number q. absurd (not_outside (held_cells f s v) to number
      (subst (λ (m : ℕ → ℕ → Cell). IsOutside (m s v)) (sym o.world.net.cells) (opening_outside setup o.world.net.place o.world.net.room o.world.net.opening s v))
      (ap (λ b. if b then f.had s v else ((f.servers v).slots s).cell) known ∙ q));
  restores = subst (AllByRecursion BringsNone) (sym (ap (λ (j : List JournalEntry). (replayed f.start j).restores) o.journal ∙ o.restores)) tt;
}

-- whoever forwards and has its slots knows its cut
pub cuts_known : (setup : Setup) (f : Fleet) → IsFleetReached setup f → AreCutsKnown f
cuts_known setup f r = subst AreCutsKnown (sym r.state) (run_known setup (λ s v. 0) r.events r.first (opening_shadow setup r.first r.opening) (opening_known setup r.first r.opening) r.fit)

-- each server that forwards, or did so before it forgot, has its slots and knows its cut
abbrev pub AreOwnersReady : Fleet → Type 0
AreOwnersReady f = (s u to number : ℕ) → held_cells f s u ≡ cell.Forwarding to number → (has_lost f u ≡ false) × IsSome ((f.servers u).slots s).cut

-- so it is if each server that an unfinished plan names has its slots: one that forwards is named
pub owners_ready : (setup : Setup) (f : Fleet) → IsFleetReached setup f → AreNamedKnown f → AreOwnersReady f
owners_ready setup f r named s u to number q = go (has_lost f u) refl
  where
    go : (b : Bool) → has_lost f u ≡ b → (has_lost f u ≡ false) × IsSome ((f.servers u).slots s).cut
    go false e = (e, (cuts_known setup f r).servers u e s to number (sym (ap (λ b. if b then f.had s u else ((f.servers u).slots s).cell) e) ∙ q))
    go true e = absurd (not_outside (held_cells f s u) to number (unnamed_is_really_outside setup (shade_of f (fleet_shadow setup f r)).net (net_of f (fleet_shadow setup f r)) u free s) q)
      where
        free : IsUnnamed (controller f).w u
        free id b = elim (cases_Bool (engages (controller f).w u id)) [
          | inr n ↦ n
          | inl t ↦ absurd (true≢false (sym e ∙ named id u b t))
        ]
