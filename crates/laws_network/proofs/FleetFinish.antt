-- Wherever events lead, events can lead on until all plans are done.
use Rattle.std.proofs.Common.{◌≡◌, ℕ, zero, suc, ◌≤◌, ◌<◌, ◌⊎◌, refl, sym, ap, ◌∙◌, inl, inr, subst, arith, Bool, true, false, Option, Some, None, List, [], ◌∷◌, ◌++◌, length}
use Rattle.std.specs.Prelude.{◌-◌, IsSome, if◌then◌else◌, is_some, slice_get}
use Rattle.std.specs.Option.{option_to_list}
use Rattle.std.proofs.lemmas.Bool.{cases_Bool, eq-eqb, le-leb}
use Rattle.sm_server.specs.declared.call.Cell.{Cell}
use Rattle.sm_server.specs.declared.call.Cell.TheVariants as cell
use Rattle.sm_server.specs.declared.call.Call.TheVariants as call
use Rattle.sm_server.specs.declared.call.Role.TheVariants as role
use Rattle.sm_server.specs.Call.{led_to}
use Rattle.sm_placement.specs.Setup.{Setup}
use Rattle.sm_placement.proofs.Calls.{served_ok}
use Rattle.sm_placement.specs.Sums.{any_below, put}
use Rattle.sm_verifier.proofs.OnePlace.{some_below}
use Rattle.sm_reservation.specs.declared.stream_id.StreamId.{StreamId}
use Rattle.sm_protocol.specs.State.{State, is_running, is_unfinished, progress_of, stream_id}
use Rattle.sm_protocol.specs.Happens.{Step, happens}
use Rattle.sm_protocol.specs.Laws.{AreDone}
use Rattle.sm_protocol.proofs.Courses.{some_same}
use Rattle.sm_protocol.proofs.Whole.{reached_keeps}
use Rattle.sm_agent.specs.declared.base.Base.{Base}
use Rattle.sm_agent.specs.declared.slot.Slot.{Slot}
use Rattle.sm_agent.specs.declared.order.Verdict.{Verdict}
use Rattle.sm_agent.specs.declared.order.Verdict.TheVariants as verdict
use Rattle.sm_agent.specs.declared.request.Routing.TheVariants as routing
use Rattle.sm_agent.specs.declared.request.Request.TheVariants.{Direct}
use Rattle.sm_agent.specs.Base.{lacks_slots}
use Rattle.sm_agent.specs.Order.{abandoned, begun_slot, committed, is_at_work, is_done, sealed}
use Rattle.laws_network.specs.Laws.{HasMovedOn}
use Rattle.laws_network.specs.Net.{Order}
use Rattle.laws_network.specs.World.{Publication, is_answered_by, publication_for, publication_now, publication_of}
use Rattle.laws_network.specs.Controller.{Answered, Letter, Made, Notice, Stored, entry_recorded, goes_on, letter_of, is_local, replayed}
use Rattle.laws_network.specs.Words.{Entry}
use Rattle.laws_network.specs.Fleet.{Server, Silent, Abandon, Commit, Fleet, FleetEvent, FleetOutcome, Handoff, HearOwner, HearServer, Judge, Make, Publish, Seal, SendOrder, SendPublication, Serve, after_commit, after_letter, after_notice, after_owner, after_seal, after_verdict, after_work, by_message, controller, fleet_comes, fleet_run, handoff_by, has_lost, held_cells, load_used, order_read, owner_verdict, request_routing, slot_for, verdict_of, with_slot, written}
use Rattle.laws_network.specs.FleetLaws.{AllFleetFit, AreNamedKnown, EachFleet, FleetCanFinish, FleetGoesOn, GoesByPublication}
use Rattle.laws_network.proofs.AtServer.{IsAway, IsBySlot, IsCommit, IsHeard, Lower, Refuses, Same, Serves, commit_is, judged_is}
use Rattle.laws_network.proofs.Behind.{present_engages}
use Rattle.laws_network.proofs.Commands.{state_reached}
use Rattle.laws_network.proofs.Deliveries.{abandon_shadow, seal_shadow}
use Rattle.laws_network.proofs.Forwarders.{done_or, owner_forwards}
use Rattle.laws_network.proofs.FleetProgress.{awaits, commits_when_done, some_goes}
use Rattle.laws_network.proofs.Finish.{GoesOn, left, left_drops, none_below, step_goes}
use Rattle.laws_network.proofs.OfFleet.{present_heard}
use Rattle.laws_network.proofs.Onward.{slice_get_push}
use Rattle.laws_network.proofs.ReadyOwners.{AreOwnersReady, forwards_cut, owners_ready}
use Rattle.laws_network.proofs.Reaching.{comes_shadow, fleet_shadow, run_shadow}
use Rattle.laws_network.proofs.Shadow.{IsShadow, letter_says, notice_says}
use Rattle.laws_network.proofs.Slots.{put_elim}
use Rattle.laws_network.proofs.Unnamed.{begun_before, named_before}

-- ---- a run that goes on from a fleet

-- The events lead to a fleet whose controller has this record, in which the same servers have lost their slots, and owners are ready.
record IsTrip (setup : Setup) (f : Fleet) (new : State) : Type 0 where
  pub events : List FleetEvent
  pub fit : AllFleetFit setup f events
  pub record_is : (controller (fleet_run events f)).w ≡ new
  pub lost : (v : ℕ) → has_lost (fleet_run events f) v ≡ has_lost f v
  pub owners : AreOwnersReady (fleet_run events f)

-- one event more before them
trip_before : (setup : Setup) (f : Fleet) (e : FleetEvent) (g : Fleet) (new : State) → (fleet_comes f e).1 ≡ g → Unit {0} → ((h : Fleet) → AllFleetFit setup h (e ∷ [])) → ((v : ℕ) → has_lost g v ≡ has_lost f v) → IsTrip setup g new → IsTrip setup f new
trip_before setup f e g new same u fits lost t = record {
  events = e ∷ t.events;
  fit = ((fits f).0, subst (λ h. AllFleetFit setup h t.events) (sym same) t.fit);
  record_is = ap (λ h. (controller (fleet_run t.events h)).w) same ∙ t.record_is;
  lost = λ v. ap (λ h. has_lost (fleet_run t.events h) v) same ∙ t.lost v ∙ lost v;
  owners = subst (λ h. AreOwnersReady (fleet_run t.events h)) (sym same) t.owners;
}

-- none at all
trip_end : (setup : Setup) (f : Fleet) → AreOwnersReady f → IsTrip setup f (controller f).w
trip_end setup f o = record { events = []; fit = tt; record_is = refl; lost = λ v. refl; owners = o }

-- what comes of the message that was sent last
last_message : {A : Type 0} (f : Fleet) (xs : List A) (x : A) (g : A → FleetOutcome × Fleet) → (by_message f g (slice_get (xs ++ x ∷ []) (length xs))).1 ≡ (g x).1
last_message f xs x g = ap (λ o. (by_message f g o).1) (slice_get_push xs x)

-- ---- a slot that changes

-- a server is ready in this shard, if it forwards
abbrev IsReadyOwner : Base → Cell → Slot → Type 0
IsReadyOwner base had slot = (to number : ℕ) → (if lacks_slots base then had else slot.cell) ≡ cell.Forwarding to number → (lacks_slots base ≡ false) × IsSome slot.cut

-- owners are ready still, if the slot that changes is
owners_with : (f : Fleet) (s v : ℕ) (slot : Slot) → AreOwnersReady f → IsReadyOwner (f.servers v).base (f.had s v) slot → AreOwnersReady (with_slot f s v slot)
owners_with f s v slot o own r u = put_elim (λ (x : Server). IsReadyOwner x.base (f.had r u) (x.slots r)) f.servers v (record (f.servers v) { slots = put (f.servers v).slots s slot }) u
    (λ e. subst (λ i. IsReadyOwner (f.servers v).base (f.had r i) (put (f.servers v).slots s slot r)) (sym e) (here r)) (λ e. o r u)
  where
    here : (r : ℕ) → IsReadyOwner (f.servers v).base (f.had r v) (put (f.servers v).slots s slot r)
    here r = put_elim (IsReadyOwner (f.servers v).base (f.had r v)) (f.servers v).slots s slot r
        (λ d. subst (λ i. IsReadyOwner (f.servers v).base (f.had i v) slot) (sym d) own) (λ d. o r v)

-- so it is of a slot with the same cell, and with a cut if it had one
owners_kept : (f : Fleet) (s v : ℕ) (slot : Slot) → AreOwnersReady f → slot.cell ≡ ((f.servers v).slots s).cell → (IsSome ((f.servers v).slots s).cut → IsSome slot.cut) → AreOwnersReady (with_slot f s v slot)
owners_kept f s v slot o same cut = owners_with f s v slot o (λ to number q.
    let a = o s v to number (ap (λ c. if lacks_slots (f.servers v).base then f.had s v else c) (sym same) ∙ q) in (a.0, cut a.1))

-- the same servers have lost their slots
lost_same : (f : Fleet) (s v : ℕ) (slot : Slot) (u : ℕ) → has_lost (with_slot f s v slot) u ≡ has_lost f u
lost_same f s v slot u = put_elim (λ (x : Server). lacks_slots x.base ≡ has_lost f u) f.servers v (record (f.servers v) { slots = put (f.servers v).slots s slot }) u (λ e. ap (has_lost f) (sym e)) (λ e. refl)

-- the slot that was put
slot_put : (f : Fleet) (s v : ℕ) (slot : Slot) → ((with_slot f s v slot).servers v).slots s ≡ slot
slot_put f s v slot = put_elim (λ (x : Server). x.slots s ≡ slot) f.servers v (record (f.servers v) { slots = put (f.servers v).slots s slot }) v
    (λ e. put_elim (λ (x : Slot). x ≡ slot) (f.servers v).slots s slot s (λ d. refl) (λ d. absurd (d refl))) (λ e. absurd (e refl))

base_put : (f : Fleet) (s v : ℕ) (slot : Slot) → ((with_slot f s v slot).servers v).base ≡ (f.servers v).base
base_put f s v slot = put_elim (λ (x : Server). x.base ≡ (f.servers v).base) f.servers v (record (f.servers v) { slots = put (f.servers v).slots s slot }) v (λ e. refl) (λ e. refl)

-- ---- a local step, and a publication

-- the record moves by the step of the stream, or not at all
not_moved : (w : State) (id : StreamId) → (progress_of w id).done ≡ false → HasMovedOn w id w → ⊥
not_moved w id d (inl q) = absurd (omega arith)
not_moved w id d (inr q) = absurd (cc)

made_moves : (f : Fleet) (id : StreamId) → (progress_of (controller f).w id).done ≡ false → HasMovedOn (controller f).w id (entry_recorded (controller f) (Made (Step id))).w → (entry_recorded (controller f) (Made (Step id))).w ≡ (happens (controller f).w (Step id)).1
made_moves f id d m = go (is_local (controller f).w (Step id)) refl m
  where
    go : (b : Bool) → is_local (controller f).w (Step id) ≡ b → HasMovedOn (controller f).w id (entry_recorded (controller f) (Made (Step id))).w → (entry_recorded (controller f) (Made (Step id))).w ≡ (happens (controller f).w (Step id)).1
    go true e m = ap (λ b. (if b then goes_on (controller f) (Step id) else controller f).w) e
    go false e m = absurd (not_moved (controller f).w id d (subst (λ (u : State). HasMovedOn (controller f).w id u) (ap (λ b. (if b then goes_on (controller f) (Step id) else controller f).w) e) m))

trip_alone : (setup : Setup) (f : Fleet) (id : StreamId) → (progress_of (controller f).w id).done ≡ false → AreOwnersReady f → HasMovedOn (controller f).w id (entry_recorded (controller f) (Made (Step id))).w →
    IsTrip setup f (happens (controller f).w (Step id)).1
trip_alone setup f id d o m = record { events = Make (Step id) ∷ []; fit = (tt, tt); record_is = made_moves f id d m; lost = λ v. refl; owners = o }

-- the entry of an answer moves the record by the step of its stream
stored_moves : (f : Fleet) (id : StreamId) (p : Publication) → (progress_of (controller f).w id).done ≡ false → p.stream ≡ id → HasMovedOn (controller f).w id (entry_recorded (controller f) (Stored p)).w →
    (entry_recorded (controller f) (Stored p)).w ≡ (happens (controller f).w (Step id)).1
stored_moves f id p d s m = go (is_answered_by p (publication_of (controller f).base (controller f).w p.stream)) refl m
  where
    go : (b : Bool) → is_answered_by p (publication_of (controller f).base (controller f).w p.stream) ≡ b → HasMovedOn (controller f).w id (entry_recorded (controller f) (Stored p)).w → (entry_recorded (controller f) (Stored p)).w ≡ (happens (controller f).w (Step id)).1
    go true e m = ap (λ b. (if b then goes_on (controller f) (Step p.stream) else controller f).w) e ∙ ap (λ i. (happens (controller f).w (Step i)).1) s
    go false e m = absurd (not_moved (controller f).w id d (subst (λ (u : State). HasMovedOn (controller f).w id u) (ap (λ b. (if b then goes_on (controller f) (Step p.stream) else controller f).w) e) m))

-- the fleet once the map's owner has answered a publication
abbrev published_by : Fleet → Notice → Verdict → Fleet
published_by f n v = after_owner (record f { published = f.published ++ n ∷ [] }) n.publication v

trip_publication : (setup : Setup) (f : Fleet) (id : StreamId) → (progress_of (controller f).w id).done ≡ false → AreOwnersReady f → (g : GoesByPublication f id) → g.notice.publication.stream ≡ id → IsTrip setup f (happens (controller f).w (Step id)).1
trip_publication setup f id d o g s = trip_before setup f (SendPublication 0 id) sent _ is_sent tt (λ h. (tt, tt)) (λ v. refl)
    (elim g.heard [
      | inl e ↦ heard (put f.shown g.notice.publication.shard g.notice.publication.entry) verdict.Begin e refl
      | inr e ↦ heard f.shown verdict.Again e refl
    ])
  where
    sent : Fleet
    sent = record f { published = f.published ++ g.notice ∷ [] }

    is_sent : (fleet_comes f (SendPublication 0 id)).1 ≡ record f { published = f.published ++ g.notice ∷ [] }
    is_sent = ap (λ o. let z : Fleet = record f { published = f.published ++ option_to_list o } in z) g.present

    end : (shown : ℕ → Entry) → IsTrip setup (record f { published = f.published ++ g.notice ∷ []; shown = shown; stored = f.stored ++ g.notice.publication ∷ [] }) (happens (controller f).w (Step id)).1
    end shown = record {
      events = HearOwner (length f.stored) ∷ [];
      fit = (tt, tt);
      record_is = ap (λ h. (controller h).w) (last_message (record f { published = f.published ++ g.notice ∷ []; shown = shown; stored = f.stored ++ g.notice.publication ∷ [] }) f.stored g.notice.publication
          (λ p. (Silent, written (record f { published = f.published ++ g.notice ∷ []; shown = shown; stored = f.stored ++ g.notice.publication ∷ [] }) (Stored p))))
          ∙ stored_moves f id g.notice.publication d s g.answered;
      lost = λ v. ap (λ h. has_lost h v) (last_message (record f { published = f.published ++ g.notice ∷ []; shown = shown; stored = f.stored ++ g.notice.publication ∷ [] }) f.stored g.notice.publication
          (λ p. (Silent, written (record f { published = f.published ++ g.notice ∷ []; shown = shown; stored = f.stored ++ g.notice.publication ∷ [] }) (Stored p))));
      owners = subst AreOwnersReady (sym (last_message (record f { published = f.published ++ g.notice ∷ []; shown = shown; stored = f.stored ++ g.notice.publication ∷ [] }) f.stored g.notice.publication
          (λ p. (Silent, written (record f { published = f.published ++ g.notice ∷ []; shown = shown; stored = f.stored ++ g.notice.publication ∷ [] }) (Stored p))))) o;
    }

    heard : (shown : ℕ → Entry) (v : Verdict) → owner_verdict f g.notice ≡ v → after_owner (record f { published = f.published ++ g.notice ∷ [] }) g.notice.publication v ≡ record f { published = f.published ++ g.notice ∷ []; shown = shown; stored = f.stored ++ g.notice.publication ∷ [] } →
        IsTrip setup (record f { published = f.published ++ g.notice ∷ [] }) (happens (controller f).w (Step id)).1
    heard shown v e is = trip_before setup (record f { published = f.published ++ g.notice ∷ [] }) (Publish (length f.published)) (record f { published = f.published ++ g.notice ∷ []; shown = shown; stored = f.stored ++ g.notice.publication ∷ [] }) _
        (last_message (record f { published = f.published ++ g.notice ∷ [] }) f.published g.notice (after_notice (record f { published = f.published ++ g.notice ∷ [] }))
        ∙ (ap (after_owner (record f { published = f.published ++ g.notice ∷ [] }) g.notice.publication) e ∙ is))
        tt (λ h. (tt, tt)) (λ v. refl) (end shown)

-- ---- an order

-- an order whose work is not at work is begun or answered again
module _ (setup : Setup) (low : ℕ → ℕ → ℕ) (f : Fleet) (k : IsShadow setup low f) (l : Letter) (present : letter_of (controller f) l.order.stream ≡ Some l) (known : has_lost f l.order.call.server ≡ false) where
  -- what a server makes of a present order, if nothing is at work at its slot
  data IsIdle : Type 0 where
    Done : verdict_of f l ≡ verdict.Again → IsIdle
    Begins : verdict_of f l ≡ verdict.Begin → (slot_for f l).last < l.order.number → (next : Cell) → led_to l.order.call.call (slot_for f l).cell ≡ Some next → IsIdle

  idle : (slot_for f l).at_work ≡ None → IsIdle
  idle free = go (verdict_of f l) refl (judged_is (f.servers l.order.call.server).base (slot_for f l) (load_used f l.order.call.server) (order_read l)) (present_heard setup low f k l present known).1
    where
      not_at_work : is_at_work (slot_for f l).at_work l.order.number ≡ true → ⊥
      not_at_work e = absurd (let z : false ≡ true = sym (ap (λ o. is_at_work o l.order.number) free) ∙ e in cc)

      ends : (x : Verdict) → (x ≡ verdict.Begin) ⊎ ((x ≡ verdict.Working) ⊎ (x ≡ verdict.Again)) → IsAway x → ⊥
      ends x (inl b) (inl a) = absurd (let z = sym a ∙ b in cc)
      ends x (inl b) (inr (inl a)) = absurd (let z = sym a ∙ b in cc)
      ends x (inl b) (inr (inr a)) = absurd (let z = sym a ∙ b in cc)
      ends x (inr (inl b)) (inl a) = absurd (let z = sym a ∙ b in cc)
      ends x (inr (inl b)) (inr (inl a)) = absurd (let z = sym a ∙ b in cc)
      ends x (inr (inl b)) (inr (inr a)) = absurd (let z = sym a ∙ b in cc)
      ends x (inr (inr b)) (inl a) = absurd (let z = sym a ∙ b in cc)
      ends x (inr (inr b)) (inr (inl a)) = absurd (let z = sym a ∙ b in cc)
      ends x (inr (inr b)) (inr (inr a)) = absurd (let z = sym a ∙ b in cc)

      go : (x : Verdict) → verdict_of f l ≡ x → IsAway x ⊎ (IsHeard (f.servers l.order.call.server).base (order_read l).stamp × IsBySlot (slot_for f l) (load_used f l.order.call.server) (order_read l) x) →
          (x ≡ verdict.Begin) ⊎ ((x ≡ verdict.Working) ⊎ (x ≡ verdict.Again)) → IsIdle
      go x q (inl a) h = absurd (ends x h a)
      go x q (inr (h, Lower n e)) w = absurd (ends x w (inr (inr e)))
      go x q (inr (h, Same n e)) w = Done (q ∙ e)
      go x q (inr (h, Refuses n why s e)) (inl b) = absurd (let z = sym e ∙ b in cc)
      go x q (inr (h, Refuses n why s e)) (inr (inl b)) = absurd (let z = sym e ∙ b in cc)
      go x q (inr (h, Refuses n why s e)) (inr (inr b)) = absurd (let z = sym e ∙ b in cc)
      go x q (inr (h, Serves n next s (inl e))) w = Begins (q ∙ e) n next (served_ok (slot_for f l).cell (l.room - load_used f l.order.call.server) l.load true l.order.call.call next s).1
      go x q (inr (h, Serves n next s (inr e))) w = absurd (not_at_work e.1)

  -- the entry of the order's answer moves the record by the step of its stream
  answered_moves : (entry_recorded (controller f) (Answered l.order)).w ≡ (happens (controller f).w (Step l.order.stream)).1
  answered_moves = ap (λ b. (if b then goes_on (controller f) (Step l.order.stream) else controller f).w) (awaits (controller f).base (controller f).w l.order.stream l.order (letter_says (controller f) l.order.stream l present).0).0

  -- ---- once its work can be done

  module _ (free : (slot_for f l).at_work ≡ None) (owners : AreOwnersReady f) where
    abbrev sent : Fleet
    sent = record f { sent = f.sent ++ l ∷ [] }

    is_sent : (fleet_comes f (SendOrder 0 l.order.stream)).1 ≡ sent
    is_sent = ap (λ o. let z : Fleet = record f { sent = f.sent ++ option_to_list o } in z) present

    -- the answer comes
    trip_answer : (g : Fleet) → g.start ≡ f.start → g.journal ≡ f.journal → AreOwnersReady g → ((v : ℕ) → has_lost g v ≡ has_lost f v) → (answers : List Order) → g.answers ≡ answers ++ l.order ∷ [] → IsTrip setup g (happens (controller f).w (Step l.order.stream)).1
    trip_answer g start journal o lost answers e = record {
      events = HearServer (length answers) ∷ [];
      fit = (tt, tt);
      record_is = ap (λ h. (controller h).w) heard ∙ (ap (λ c. (entry_recorded c (Answered l.order)).w) same ∙ answered_moves);
      lost = λ v. ap (λ h. has_lost h v) heard;
      owners = subst AreOwnersReady (sym heard) o;
    }
      where
        same : controller g ≡ controller f
        same = ap (λ s. replayed s g.journal) start ∙ ap (replayed f.start) journal

        heard : (fleet_comes g (HearServer (length answers))).1 ≡ written g (Answered l.order)
        heard = ap (λ a. (by_message g (λ o. (Silent, written g (Answered o))) (slice_get a (length answers))).1) e ∙ last_message g answers l.order (λ o. (Silent, written g (Answered o)))

    trip_again : verdict_of f l ≡ verdict.Again → IsTrip setup f (happens (controller f).w (Step l.order.stream)).1
    trip_again e = trip_before setup f (SendOrder 0 l.order.stream) sent _ is_sent tt (λ h. (tt, tt)) (λ v. refl)
        (trip_before setup sent (Judge (length f.sent)) (record sent { answers = f.answers ++ l.order ∷ [] }) _
        (last_message sent f.sent l (after_letter sent) ∙ ap (after_verdict sent l) e) tt (λ h. (tt, tt)) (λ v. refl)
        (trip_answer (record sent { answers = f.answers ++ l.order ∷ [] }) refl refl owners (λ v. refl) f.answers refl))

    abbrev at_work : Fleet
    at_work = with_slot sent l.order.call.shard l.order.call.server (begun_slot (slot_for f l) (order_read l))

    abbrev served_by : Slot → Fleet
    served_by next = record (with_slot at_work l.order.call.shard l.order.call.server next) { answers = f.answers ++ l.order ∷ [] }

    trip_begins : (at : ℕ) → verdict_of f l ≡ verdict.Begin → (next : Slot) → committed (f.servers l.order.call.server).base (begun_slot (slot_for f l) (order_read l)) (order_read l) at ≡ Some next → IsTrip setup f (happens (controller f).w (Step l.order.stream)).1
    trip_begins at e next c = trip_before setup f (SendOrder 0 l.order.stream) sent _ is_sent tt (λ h. (tt, tt)) (λ v. refl)
        (trip_before setup sent (Judge (length f.sent)) at_work _
        (last_message sent f.sent l (after_letter sent) ∙ ap (after_verdict sent l) e) tt (λ h. (tt, tt)) (lost_same sent l.order.call.shard l.order.call.server (begun_slot (slot_for f l) (order_read l)))
        (trip_before setup at_work (Commit (length f.sent) at) (served_by next) _
        (last_message at_work f.sent l (after_commit at_work at) ∙ ap (λ o. (after_work at_work l o).1) commits) tt (λ h. (tt, tt)) (lost_same at_work l.order.call.shard l.order.call.server next)
        (trip_answer (served_by next) refl refl owners_after (λ v. lost_same at_work l.order.call.shard l.order.call.server next v ∙ lost_same sent l.order.call.shard l.order.call.server (begun_slot (slot_for f l) (order_read l)) v) f.answers refl)))
      where
        commits : committed (at_work.servers l.order.call.server).base (slot_for at_work l) (order_read l) at ≡ Some next
        commits =
            ap (λ b. committed b (slot_for at_work l) (order_read l) at) (base_put sent l.order.call.shard l.order.call.server (begun_slot (slot_for f l) (order_read l)))
            ∙ (ap (λ s. committed (f.servers l.order.call.server).base s (order_read l) at) (slot_put sent l.order.call.shard l.order.call.server (begun_slot (slot_for f l) (order_read l))) ∙ c)

        is : IsCommit (f.servers l.order.call.server).base (begun_slot (slot_for f l) (order_read l)) (order_read l) at next
        is = commit_is (f.servers l.order.call.server).base (begun_slot (slot_for f l) (order_read l)) (order_read l) at next c

        knows : lacks_slots (at_work.servers l.order.call.server).base ≡ false
        knows = ap lacks_slots (base_put sent l.order.call.shard l.order.call.server (begun_slot (slot_for f l) (order_read l))) ∙ known

        own : IsReadyOwner (at_work.servers l.order.call.server).base (at_work.had l.order.call.shard l.order.call.server) next
        own to number q =
            let here : next.cell ≡ cell.Forwarding to number = sym (ap (λ b. if b then at_work.had l.order.call.shard l.order.call.server else next.cell) knows) ∙ q in
            (knows, subst IsSome (sym is.cut) (forwards_cut l.order.call.call (slot_for f l).cell to number at (is.led ∙ ap (λ x. let z : Option Cell = Some x in z) here)))

        owners_after : AreOwnersReady (served_by next)
        owners_after = owners_with at_work l.order.call.shard l.order.call.server next
            (owners_kept sent l.order.call.shard l.order.call.server (begun_slot (slot_for f l) (order_read l)) owners refl (λ c. c)) own

    trip_when_done : (at : ℕ) → is_done l.order.call.call (slot_for f l).cell (slot_for f l).cut at ≡ true → IsTrip setup f (happens (controller f).w (Step l.order.stream)).1
    trip_when_done at done = go (idle free)
      where
        some_is : {A : Type 0} (o : Option A) → IsSome o → (x : A) × (o ≡ Some x)
        some_is None h = absurd (cc)
        some_is (Some x) h = (x, refl)

        go : IsIdle → IsTrip setup f (happens (controller f).w (Step l.order.stream)).1
        go (Done e) = trip_again e
        go (Begins e n next led) =
            let c = some_is _ (commits_when_done setup low f k l present known at done (λ q. absurd (let z = sym e ∙ q in cc))) in
            trip_begins at e c.0 c.1

-- ---- the cut of a handover

-- the old owner tells the cut, and the new one takes over
module _ (setup : Setup) (low : ℕ → ℕ → ℕ) (f : Fleet) (k : IsShadow setup low f) (l : Letter) (present : letter_of (controller f) l.order.stream ≡ Some l) (known : has_lost f l.order.call.server ≡ false)
    (is_add : l.order.call.call ≡ call.Add role.Primary) (a n : ℕ) (prepared : (slot_for f l).cell ≡ cell.Prepared a n) (above : (slot_for f l).last < l.order.number) where
  abbrev s : ℕ
  s = l.order.call.shard

  abbrev v : ℕ
  v = l.order.call.server

  there : held_cells f s a ≡ cell.Forwarding v n
  there = owner_forwards setup low f k l present known is_add a n prepared above

  module _ (free : (slot_for f l).at_work ≡ None) (owners : AreOwnersReady f) where
    trip_add : IsTrip setup f (happens (controller f).w (Step l.order.stream)).1
    trip_add = with_cut ((f.servers a).slots s).cut refl (owners s a v n there).1
      where
        ready_owner : has_lost f a ≡ false
        ready_owner = (owners s a v n there).0

        cell_a : ((f.servers a).slots s).cell ≡ cell.Forwarding v n
        cell_a = sym (ap (λ b. if b then f.had s a else ((f.servers a).slots s).cell) ready_owner) ∙ there

        passes : (c : ℕ) → ((f.servers a).slots s).cut ≡ Some c → request_routing f s a 0 Direct ≡ routing.PassOn v n c
        passes c e = rw (ready_owner, cell_a, (k.servers a ready_owner).taken, e) refl

        with_cut : (o : Option ℕ) → ((f.servers a).slots s).cut ≡ o → IsSome ((f.servers a).slots s).cut → IsTrip setup f (happens (controller f).w (Step l.order.stream)).1
        with_cut None e h = absurd (let z : false ≡ true = sym (ap is_some e) ∙ h in cc)
        with_cut (Some c) e h = trip_before setup f (Serve s a 0) told _ is_told tt (λ h. (tt, tt)) (λ u. refl)
            (trip_before setup told (Seal (length f.passes)) sealed_one _ (last_message told f.passes handoff (after_seal told)) tt (λ h. (tt, tt)) (lost_same told s v (sealed (slot_for f l) n c))
            (trip_when_done setup low sealed_one shadow l present known_after free_after owners_after c done))
          where
            handoff : Handoff
            handoff = record { shard = s; target = v; pass = record { from = a; handover = n; cut = c } }

            told : Fleet
            told = record f { passes = f.passes ++ record { shard = s; target = v; pass = record { from = a; handover = n; cut = c } } ∷ [] }

            sealed_one : Fleet
            sealed_one = with_slot (record f { passes = f.passes ++ record { shard = s; target = v; pass = record { from = a; handover = n; cut = c } } ∷ [] }) s v (sealed (slot_for f l) n c)

            is_told : (fleet_comes f (Serve s a 0)).1 ≡ record f { passes = f.passes ++ record { shard = s; target = v; pass = record { from = a; handover = n; cut = c } } ∷ [] }
            is_told = ap (λ r. let z : Fleet = record f { passes = f.passes ++ option_to_list (handoff_by s a r) } in z) (passes c e)

            told_shadow : IsShadow setup low (record f { passes = f.passes ++ record { shard = s; target = v; pass = record { from = a; handover = n; cut = c } } ∷ [] })
            told_shadow = subst (IsShadow setup low) is_told (comes_shadow setup low f k (Serve s a 0) tt)

            shadow : IsShadow setup low (with_slot (record f { passes = f.passes ++ record { shard = s; target = v; pass = record { from = a; handover = n; cut = c } } ∷ [] }) s v (sealed (slot_for f l) n c))
            shadow = seal_shadow setup low (record f { passes = f.passes ++ record { shard = s; target = v; pass = record { from = a; handover = n; cut = c } } ∷ [] }) told_shadow handoff

            is_sealed : sealed (slot_for f l) n c ≡ record (slot_for f l) { cut = Some c }
            is_sealed = rw (prepared, eq-eqb n n refl) refl

            slot_is : slot_for (with_slot (record f { passes = f.passes ++ record { shard = s; target = v; pass = record { from = a; handover = n; cut = c } } ∷ [] }) s v (sealed (slot_for f l) n c)) l ≡ record (slot_for f l) { cut = Some c }
            slot_is = slot_put (record f { passes = f.passes ++ record { shard = s; target = v; pass = record { from = a; handover = n; cut = c } } ∷ [] }) s v (sealed (slot_for f l) n c) ∙ is_sealed

            known_after : has_lost (with_slot (record f { passes = f.passes ++ record { shard = s; target = v; pass = record { from = a; handover = n; cut = c } } ∷ [] }) s v (sealed (slot_for f l) n c)) l.order.call.server ≡ false
            known_after = lost_same (record f { passes = f.passes ++ record { shard = s; target = v; pass = record { from = a; handover = n; cut = c } } ∷ [] }) s v (sealed (slot_for f l) n c) v ∙ known

            free_after : (slot_for (with_slot (record f { passes = f.passes ++ record { shard = s; target = v; pass = record { from = a; handover = n; cut = c } } ∷ [] }) s v (sealed (slot_for f l) n c)) l).at_work ≡ None
            free_after = ap (λ (x : Slot). x.at_work) slot_is ∙ free

            owners_after : AreOwnersReady (with_slot (record f { passes = f.passes ++ record { shard = s; target = v; pass = record { from = a; handover = n; cut = c } } ∷ [] }) s v (sealed (slot_for f l) n c))
            owners_after = owners_kept (record f { passes = f.passes ++ record { shard = s; target = v; pass = record { from = a; handover = n; cut = c } } ∷ [] }) s v (sealed (slot_for f l) n c) owners (ap (λ (x : Slot). x.cell) is_sealed)
                (λ h. subst IsSome (sym (ap (λ (x : Slot). x.cut) is_sealed)) refl)

            done : is_done l.order.call.call (slot_for (with_slot (record f { passes = f.passes ++ record { shard = s; target = v; pass = record { from = a; handover = n; cut = c } } ∷ [] }) s v (sealed (slot_for f l) n c)) l).cell
                (slot_for (with_slot (record f { passes = f.passes ++ record { shard = s; target = v; pass = record { from = a; handover = n; cut = c } } ∷ [] }) s v (sealed (slot_for f l) n c)) l).cut c ≡ true
            done =
                ap (λ (x : Slot). is_done l.order.call.call x.cell x.cut c) slot_is
                ∙ (ap (λ x. is_done x (slot_for f l).cell (Some c) c) is_add ∙ (ap (λ x. is_done (call.Add role.Primary) x (Some c) c) prepared ∙ le-leb c c (omega arith)))

-- ---- every order

-- the order of a stream makes its way
trip_order : (setup : Setup) (low : ℕ → ℕ → ℕ) (f : Fleet) (k : IsShadow setup low f) (l : Letter) → letter_of (controller f) l.order.stream ≡ Some l → has_lost f l.order.call.server ≡ false → AreOwnersReady f →
    IsTrip setup f (happens (controller f).w (Step l.order.stream)).1
trip_order setup low f k l present known owners =
    trip_before setup f (Abandon l.order.call.shard l.order.call.server) given_up _ refl tt (λ h. (tt, tt)) (lost_same f l.order.call.shard l.order.call.server (abandoned (slot_for f l))) (go (done_or l.order.call.call (slot_for given_up l).cell) (idle setup low given_up shadow l present known_after free))
  where
    given_up : Fleet
    given_up = with_slot f l.order.call.shard l.order.call.server (abandoned (slot_for f l))

    shadow : IsShadow setup low (with_slot f l.order.call.shard l.order.call.server (abandoned (slot_for f l)))
    shadow = abandon_shadow setup low f k l.order.call.shard l.order.call.server

    known_after : has_lost (with_slot f l.order.call.shard l.order.call.server (abandoned (slot_for f l))) l.order.call.server ≡ false
    known_after = lost_same f l.order.call.shard l.order.call.server (abandoned (slot_for f l)) l.order.call.server ∙ known

    free : (slot_for (with_slot f l.order.call.shard l.order.call.server (abandoned (slot_for f l))) l).at_work ≡ None
    free = ap (λ (x : Slot). x.at_work) (slot_put f l.order.call.shard l.order.call.server (abandoned (slot_for f l)))

    owners_after : AreOwnersReady (with_slot f l.order.call.shard l.order.call.server (abandoned (slot_for f l)))
    owners_after = owners_kept f l.order.call.shard l.order.call.server (abandoned (slot_for f l)) owners refl (λ c. c)

    go : ((a : ℕ) × (n : ℕ) × (l.order.call.call ≡ call.Add role.Primary) × ((slot_for given_up l).cell ≡ cell.Prepared a n)) ⊎ ((cut : Option ℕ) (at : ℕ) → is_done l.order.call.call (slot_for given_up l).cell cut at ≡ true) →
        IsIdle setup low given_up shadow l present known_after → IsTrip setup given_up (happens (controller f).w (Step l.order.stream)).1
    go (inr done) x = trip_when_done setup low given_up shadow l present known_after free owners_after 0 (done (slot_for given_up l).cut 0)
    go (inl b) (Done e) = trip_again setup low given_up shadow l present known_after free owners_after e
    go (inl b) (Begins e above next led) = trip_add setup low given_up shadow l present known_after b.2 b.0 b.1 b.3 above free owners_after

-- ---- to the end

-- the publication of a stream names it
publication_stream : (base : ℕ) (w : State) (id : StreamId) (p : Publication) → publication_of base w id ≡ Some p → p.stream ≡ id
publication_stream base w id p e = go (is_running w id) (publication_now w id) e
  where
    go : (b : Bool) (o : Option (ℕ × Option ℕ)) → (if b then publication_for base w id o else None) ≡ Some p → p.stream ≡ id
    go false o q = absurd (cc)
    go true None q = absurd (cc)
    go true (Some x) q = ap (λ (z : Publication). z.stream) (sym (some_same _ p q))

-- a stream that can go on makes its step
record IsStepped (setup : Setup) (f : Fleet) (id : StreamId) : Type 0 where
  pub trip : IsTrip setup f (happens (controller f).w (Step id)).1
  pub moved : HasMovedOn (controller f).w id (happens (controller f).w (Step id)).1

stepped : (setup : Setup) (low : ℕ → ℕ → ℕ) (f : Fleet) (k : IsShadow setup low f) → AreNamedKnown f → AreOwnersReady f → (id : StreamId) → (progress_of (controller f).w id).done ≡ false → FleetGoesOn f id → IsStepped setup f id
stepped setup low f k named owners id d (inl m) =
    record { trip = trip_alone setup f id d owners m; moved = subst (λ (u : State). HasMovedOn (controller f).w id u) (made_moves f id d m) m }
stepped setup low f k named owners id d (inr (inl g)) =
    let says = (letter_says (controller f) id g.letter g.present).0 in
    let same = (awaits (controller f).base (controller f).w id g.letter.order says).1 in
    let present : letter_of (controller f) g.letter.order.stream ≡ Some g.letter = subst (λ i. letter_of (controller f) i ≡ Some g.letter) (sym same) g.present in
    let p = present_engages (controller f).base (controller f).w id g.letter.order says in
    let known = named id g.letter.order.call.server p.0 p.1 in
    record {
      trip = subst (λ i. IsTrip setup f (happens (controller f).w (Step i)).1) same (trip_order setup low f k g.letter present known owners);
      moved = subst (λ (u : State). HasMovedOn (controller f).w id u) (answered_moves setup low f k g.letter present known ∙ ap (λ i. (happens (controller f).w (Step i)).1) same) g.answered;
    }
stepped setup low f k named owners id d (inr (inr g)) =
    let same = publication_stream (controller f).base (controller f).w id g.notice.publication (notice_says (controller f) id g.notice g.present) in
    record {
      trip = trip_publication setup f id d owners g same;
      moved = subst (λ (u : State). HasMovedOn (controller f).w id u) (stored_moves f id g.notice.publication d same g.answered) g.answered;
    }

-- events, and what they lead to
abbrev CanEnd : Setup → Fleet → Type 0
CanEnd setup f = (es : List FleetEvent) × AllFleetFit setup f es × AreDone (controller (fleet_run es f)).w

fleet_append : (es fs : List FleetEvent) (f : Fleet) → fleet_run (es ++ fs) f ≡ fleet_run fs (fleet_run es f)
fleet_append [] fs f = refl
fleet_append (e ∷ es) fs f = fleet_append es fs (fleet_comes f e).1

fits_append : (setup : Setup) (es fs : List FleetEvent) (f : Fleet) → AllFleetFit setup f es → AllFleetFit setup (fleet_run es f) fs → AllFleetFit setup f (es ++ fs)
fits_append setup [] fs f a b = b
fits_append setup (e ∷ es) fs f a b = (a.0, fits_append setup es fs (fleet_comes f e).1 a.1 b)

-- one step more of some stream
record IsFewer (setup : Setup) (f : Fleet) : Type 0 where
  pub events : List FleetEvent
  pub fit : AllFleetFit setup f events
  pub fewer : left (controller (fleet_run events f)).w < left (controller f).w
  pub named : AreNamedKnown (fleet_run events f)
  pub owners : AreOwnersReady (fleet_run events f)

fewer_left : (setup : Setup) (low : ℕ → ℕ → ℕ) (f : Fleet) (k : IsShadow setup low f) → AreNamedKnown f → AreOwnersReady f → (j : ℕ) → j < length (controller f).w.plans → is_unfinished (controller f).w j ≡ true → IsFewer setup f
fewer_left setup low f k named owners j l unfinished =
    let s = some_goes setup low f k named owners j l unfinished in
    let id = stream_id j s.0 in
    let w = (controller f).w in
    let x = stepped setup low f k named owners id s.2 s.3 in
    let t = x.trip in
    let goes : GoesOn w (controller (fleet_run t.events f)).w = subst (GoesOn w) (sym t.record_is) (step_goes w id) in
    let within = (((reached_keeps setup w (state_reached setup low f k)).0.plans j l).streams s.0 s.1).within in
    record {
      events = t.events;
      fit = t.fit;
      fewer = left_drops w (controller (fleet_run t.events f)).w goes j s.0 l s.1 within s.2 (subst (λ (u : State). HasMovedOn w id u) (sym t.record_is) x.moved);
      named = λ i v b e. t.lost v ∙ named i v (begun_before w (controller (fleet_run t.events f)).w goes i b) (named_before w (controller (fleet_run t.events f)).w goes v i e);
      owners = t.owners;
    }

ending : (setup : Setup) (m : ℕ) (f : Fleet) → IsShadow setup (λ s v. 0) f → AreNamedKnown f → AreOwnersReady f → left (controller f).w ≤ m → CanEnd setup f
ending setup zero f k named owners l = elim (cases_Bool (any_below (length (controller f).w.plans) (is_unfinished (controller f).w))) [
  | inr e ↦ ([], tt, none_below (length (controller f).w.plans) (is_unfinished (controller f).w) e)
  | inl e ↦
      let j = some_below (length (controller f).w.plans) (is_unfinished (controller f).w) e in
      absurd (let x = (fewer_left setup (λ s v. 0) f k named owners j.0 j.1 j.2).fewer in omega arith)
]
ending setup (suc m) f k named owners l = elim (cases_Bool (any_below (length (controller f).w.plans) (is_unfinished (controller f).w))) [
  | inr e ↦ ([], tt, none_below (length (controller f).w.plans) (is_unfinished (controller f).w) e)
  | inl e ↦
      let j = some_below (length (controller f).w.plans) (is_unfinished (controller f).w) e in
      let x = fewer_left setup (λ s v. 0) f k named owners j.0 j.1 j.2 in
      let less = x.fewer in
      let rest = ending setup m (fleet_run x.events f) (run_shadow setup (λ s v. 0) x.events f k x.fit) x.named x.owners (omega arith) in
      (x.events ++ rest.0, fits_append setup x.events rest.0 f x.fit rest.1, subst (λ (g : Fleet). AreDone (controller g).w) (sym (fleet_append x.events rest.0 f)) rest.2)
]

-- wherever events lead, events can lead on until all plans are done
pub fleet_can_finish : EachFleet FleetCanFinish
fleet_can_finish setup f r named = ending setup (left (controller f).w) f (fleet_shadow setup f r) named (owners_ready setup f r named) (omega arith)
