-- The controller's records keep the fleet as its shade.
use Rattle.std.proofs.Common.{◌≡◌, ℕ, ◌+◌, ◌≤◌, ◌<◌, refl, sym, ap, ◌∙◌, inl, inr, subst, arith, not, Bool, true, false, Option, Some, None, [], ◌∷◌, ◌++◌, length}
use Rattle.std.specs.Prelude.{◌&&◌, if◌then◌else◌, is_none, is_some, nat_lt, slice_get}
use Rattle.std.specs.List.{AllByRecursion}
use Rattle.std.proofs.lemmas.Bool.{and_parts, ltb-false, not-true}
use Rattle.sm_placement.specs.declared.limits.TheConstants.{MOST_VERSION}
use Rattle.sm_placement.specs.Setup.{Setup, Sizes, sizes_of}
use Rattle.sm_placement.specs.Place.{Place, down_count}
use Rattle.sm_protocol.proofs.Safety.{is_safe}
use Rattle.sm_protocol.proofs.Whole.{reached_keeps}
use Rattle.laws_network.proofs.Resting.{rests_opening}
use Rattle.sm_placement.specs.Sums.{any_below, put}
use Rattle.sm_plan_code.specs.declared.instruction.Instr.{Instr}
use Rattle.sm_plan_code.specs.declared.instruction.Instr.TheVariants as instr
use Rattle.sm_reservation.specs.declared.stream_id.StreamId.{StreamId}
use Rattle.sm_plan_code.specs.declared.limits.TheConstants.{MOST_PLACES}
use Rattle.sm_protocol.specs.State.{State, is_begun, is_running, is_unfinished, next_instruction, opened, progress_of, stream_count}
use Rattle.sm_protocol.specs.Happens.{Approve, Arrive, Begin, Done, Happening, Lose, PassOn, Refill, Step, engaged, happens}
use Rattle.sm_protocol.specs.Laws.{AreDone, FitsConfig, IsOpening, IsReached}
use Rattle.sm_protocol.proofs.EndsReached.{ends_are_reached}
use Rattle.sm_protocol.proofs.LogRoom.{begun_parts, has_room, length_logged}
use Rattle.sm_protocol.proofs.Reached.{run_same, same_machine}
use Rattle.sm_protocol.proofs.SmallNumbers.{numbers_stay_small}
use Rattle.laws_network.specs.Net.{Answer, Control, Net, Order, Quiet, answer_taken, at_place, call_now, cell_above, comes, instruction_call, controlled, is_awaited, is_own, order_of}
use Rattle.laws_network.specs.World.{Inner, Publication, Stored as StoredEvent, World, acknowledged, by_place, is_answered_by, is_withheld, publication_by, publication_for, publication_now, publication_of, within, world_comes}
use Rattle.laws_network.specs.WorldLaws.{IsWorldOpening, IsWorldReached, reopened_world}
use Rattle.laws_network.specs.Controller.{Answered, Controller, EPOCH, Ended, JournalEntry, Made as MadeEntry, Opened, Restored, Stored, goes_on, has_no_plan, is_permitted, is_local, permits_after, are_versions_low, entry_recorded, restore_for}
use Rattle.laws_network.specs.Fleet.{Fleet, controller, held_cells, written}
use Rattle.laws_network.specs.FleetLaws.{HasAskedUnder}
use Rattle.laws_network.proofs.Behind.{HasNoSteps, IsUnnamed, behind_all, behind_next, none_for, unnamed}
use Rattle.laws_network.proofs.Finish.{none_below}
use Rattle.laws_network.proofs.GoingOn.{can_reopen_onward}
use Rattle.laws_network.proofs.Lists.{all_map, all_push}
use Rattle.laws_network.proofs.Logged.{told}
use Rattle.laws_network.proofs.Numbered.{versions_rise}
use Rattle.laws_network.proofs.Present.{AreInOrder, net_in_order}
use Rattle.laws_network.proofs.Raised.{opened_plain, real_is_at_ends, real_is_near, record_is_reached}
use Rattle.laws_network.proofs.Shade.{IsAmong, world_next}
use Rattle.laws_network.proofs.Shadow.{IsGoing, IsRestore, IsShadow, restore_goes, world_by, write_shadow}
use Rattle.laws_network.proofs.Shown.{net_is_reached, shown_is_recorded}

-- ---- the log

-- the log is never shorter after an event
pub log_grows : (w : State) (e : Happening) → length w.log ≤ length (happens w e).1.log
log_grows w e = elim (told w e) [
  | inl q ↦ (let a = ap length q.log in omega arith)
  | inr (inl q) ↦ (let a = ap length q.log in let b = length_logged w q.event q.answer in omega arith)
  | inr (inr q) ↦ (let a = ap (λ (u : State). length u.log) q.state in omega arith)
]

-- no log is longer than the longest one
pub log_fits : (setup : Setup) (w : State) → IsReached setup w → length w.log ≤ MOST_PLACES
log_fits setup w r =
    let a = (numbers_stay_small setup w r).log in
    let b : w.room ≡ r.room = ap (λ (u : State). u.room) r.state ∙ (run_same r.events (opened (sizes_of setup) r.place r.room)).room in
    let d = r.opening.most in
    omega arith

-- a controller goes on by an event of the protocol
going_by : (setup : Setup) (c : Controller) (h : Happening) (permits : ℕ → Option ℕ) → HasNoSteps c.w → IsGoing c (record c { w = (happens c.w h).1; permits = permits })
going_by setup c h permits none = record {
  journal = refl;
  fence = refl;
  sizes = (same_machine c.w h).sizes;
  base = omega arith;
  top = (let a = log_grows c.w h in omega arith);
  behind = λ v number top behind. behind_next c.w c.base v number behind top none h;
}

-- or by nothing
going_still : (c : Controller) → IsGoing c c
going_still c = record { journal = refl; fence = refl; sizes = refl; base = omega arith; top = omega arith; behind = λ v number top behind. behind }

-- ---- an entry is written

-- it leads to this controller
to_controller : (setup : Setup) (low : ℕ → ℕ → ℕ) (f : Fleet) (e : JournalEntry) (k : IsShadow setup low f) (new : Controller) → entry_recorded (controller f) e ≡ new → IsGoing (controller f) new →
    IsWorldReached setup (world_by new (held_cells f) f.shown k.shade) → AllByRecursion (IsRestore new (written f e) k.shade.last) new.restores → IsShadow setup low (written f e)
to_controller setup low f e k new same g reached restores = write_shadow setup low f e k
    (subst (λ c. IsGoing (controller f) c) (sym same) g)
    (subst (λ c. IsWorldReached setup (world_by c (held_cells f) f.shown k.shade)) (sym same) reached)
    (subst (λ (c : Controller). AllByRecursion (IsRestore c (written f e) k.shade.last) c.restores) (sym same) restores)

-- the old restores still tell what they told
restores_go : (setup : Setup) (low : ℕ → ℕ → ℕ) (f : Fleet) (e : JournalEntry) (k : IsShadow setup low f) (new : Controller) → IsGoing (controller f) new →
    AllByRecursion (IsRestore new (written f e) k.shade.last) (controller f).restores
restores_go setup low f e k new g = all_map (IsRestore (controller f) f k.shade.last) (IsRestore new (written f e) k.shade.last) (controller f).restores (λ r h. restore_goes (controller f) new f e k.shade.last r g h) k.restores

-- an entry that does not fit changes nothing
pub nothing_written : (setup : Setup) (low : ℕ → ℕ → ℕ) (f : Fleet) (e : JournalEntry) (k : IsShadow setup low f) → entry_recorded (controller f) e ≡ controller f → IsShadow setup low (written f e)
nothing_written setup low f e k same =
    to_controller setup low f e k (controller f) same (going_still (controller f)) k.reached (restores_go setup low f e k (controller f) (going_still (controller f)))

-- what numbers say of the shade
pub in_order : (setup : Setup) (low : ℕ → ℕ → ℕ) (f : Fleet) (k : IsShadow setup low f) → AreInOrder (order_of (controller f).base (controller f).w) k.shade.last ((controller f).base + length (controller f).w.log) k.shade.sent (controller f).w
in_order setup low f k = net_in_order setup (world_by (controller f) (held_cells f) f.shown k.shade).net (net_is_reached setup (world_by (controller f) (held_cells f) f.shown k.shade) k.reached)

-- the record is a state of the protocol that events lead to
pub state_reached : (setup : Setup) (low : ℕ → ℕ → ℕ) (f : Fleet) (k : IsShadow setup low f) → IsReached setup (controller f).w
state_reached setup low f k = record_is_reached setup (world_by (controller f) (held_cells f) f.shown k.shade).net (net_is_reached setup (world_by (controller f) (held_cells f) f.shown k.shade) k.reached)

-- an event of the protocol is recorded, which the shade makes too
happening_written : (setup : Setup) (low : ℕ → ℕ → ℕ) (f : Fleet) (e : JournalEntry) (k : IsShadow setup low f) (h : Happening) (permits : ℕ → Option ℕ) →
    entry_recorded (controller f) e ≡ record (controller f) { w = (happens (controller f).w h).1; permits = permits } →
    IsWorldReached setup (world_by (record (controller f) { w = (happens (controller f).w h).1; permits = permits }) (held_cells f) f.shown k.shade) → IsShadow setup low (written f e)
happening_written setup low f e k h permits same reached =
    let new : Controller = record (controller f) { w = (happens (controller f).w h).1; permits = permits } in
    let g = going_by setup (controller f) h permits (in_order setup low f k).unbegun in
    to_controller setup low f e k new same g reached (restores_go setup low f e k new g)

-- ---- local events

made_alone : (n : Net) (e : Happening) → is_local n.w e ≡ true → (is_own n.w e ≡ true) × (is_withheld n (Control e) ≡ false)
made_alone n (Step id) t =
    let p = and_parts (is_own n.w (Step id)) (is_none (publication_now n.w id)) t in
    (p.0, go (publication_now n.w id) p.1)
  where
    go : (o : Option (ℕ × Option ℕ)) → is_none o ≡ true → is_some o ≡ false
    go None q = refl
    go (Some x) q = absurd (cc)
made_alone n (Done v) t = absurd (cc)
made_alone n (Lose id after) t = absurd (cc)
made_alone n (Arrive s v) t = absurd (cc)
made_alone n (PassOn x) t = absurd (cc)
made_alone n (Refill id more) t = (refl, refl)
made_alone n (Approve v) t = (refl, refl)
made_alone n (Begin plan) t = (refl, refl)

-- what the shade does at such an event
control_world : (x : World) (e : Happening) → is_own x.net.w e ≡ true → is_withheld x.net (Control e) ≡ false → (world_comes x (Inner (Control e))).1 ≡ record x { net = record x.net { w = (happens x.net.w e).1 } }
control_world x e own held =
    ap (λ b. (if b then (Quiet, x) else within x (comes x.net (Control e))).1) held
    ∙ ap (λ b. (within x (if b then controlled x.net (happens x.net.w e) else (Quiet, x.net))).1) own

made_case : (setup : Setup) (low : ℕ → ℕ → ℕ) (f : Fleet) (k : IsShadow setup low f) (e : Happening) → FitsConfig (sizes_of setup) e → (b : Bool) → is_local (controller f).w e ≡ b → IsShadow setup low (written f (MadeEntry e))
made_case setup low f k e fits false t = nothing_written setup low f (MadeEntry e) k (ap (λ b. if b then goes_on (controller f) e else controller f) t)
made_case setup low f k e fits true t =
    let x = world_by (controller f) (held_cells f) f.shown k.shade in
    let a = made_alone x.net e t in
    happening_written setup low f (MadeEntry e) k e (permits_after (controller f) e (happens (controller f).w e).1) (ap (λ b. if b then goes_on (controller f) e else controller f) t)
    (subst (IsWorldReached setup) (control_world x e a.0 a.1) (world_next setup x (Inner (Control e)) k.reached fits))

-- so does the fleet
pub made_shadow : (setup : Setup) (low : ℕ → ℕ → ℕ) (f : Fleet) (k : IsShadow setup low f) (e : Happening) → FitsConfig (sizes_of setup) e → IsShadow setup low (written f (MadeEntry e))
made_shadow setup low f k e fits = made_case setup low f k e fits (is_local (controller f).w e) refl

-- ---- the end of a restart

ended_case : (setup : Setup) (low : ℕ → ℕ → ℕ) (f : Fleet) (k : IsShadow setup low f) (v permit : ℕ) → v < (sizes_of setup).servers → (b : Bool) → is_permitted ((controller f).permits v) permit ≡ b → IsShadow setup low (written f (Ended v permit))
ended_case setup low f k v permit fits false t =
    nothing_written setup low f (Ended v permit) k (ap (λ b. if b then record (controller f) { w = (happens (controller f).w (Done v)).1; permits = put (controller f).permits v None } else controller f) t)
ended_case setup low f k v permit fits true t =
    let x = world_by (controller f) (held_cells f) f.shown k.shade in
    happening_written setup low f (Ended v permit) k (Done v) (put (controller f).permits v None)
    (ap (λ b. if b then record (controller f) { w = (happens (controller f).w (Done v)).1; permits = put (controller f).permits v None } else controller f) t)
    (subst (IsWorldReached setup) (control_world x (Done v) refl refl) (world_next setup x (Inner (Control (Done v))) k.reached fits))

-- a restart ends by its permit
pub ended_shadow : (setup : Setup) (low : ℕ → ℕ → ℕ) (f : Fleet) (k : IsShadow setup low f) (v permit : ℕ) → v < (sizes_of setup).servers → IsShadow setup low (written f (Ended v permit))
ended_shadow setup low f k v permit fits = ended_case setup low f k v permit fits (is_permitted ((controller f).permits v) permit) refl

-- ---- answers

-- a stream that stands before a publication makes its step by itself
pub publisher_steps : (base : ℕ) (w : State) (p : Publication) → is_answered_by p (publication_of base w p.stream) ≡ true → is_none (call_now w p.stream) ≡ true
publisher_steps base w p t = by_running (is_running w p.stream) t
  where
    by_instruction : (o : Option Instr) → is_answered_by p (publication_for base w p.stream (publication_by w o)) ≡ true → is_none (instruction_call w.numbers o) ≡ true
    by_instruction (Some (instr.Publish s)) e = refl
    by_instruction (Some (instr.Unlist s)) e = refl
    by_instruction None e = absurd (cc)
    by_instruction (Some _) e = absurd (cc)

    by_running : (b : Bool) → is_answered_by p (if b then publication_for base w p.stream (publication_now w p.stream) else None) ≡ true → is_none (call_now w p.stream) ≡ true
    by_running true e = by_instruction (next_instruction w p.stream) e
    by_running false e = absurd (cc)

answer_world : (x : World) (j : ℕ) (o : Order) → slice_get x.net.answers j ≡ Some o → is_awaited x.net.base x.net.w o ≡ true → (world_comes x (Inner (Answer j))).1 ≡ record x { net = record x.net { w = (happens x.net.w (Step o.stream)).1 } }
answer_world x j o e t =
    ap (λ a. (within x (at_place x.net answer_taken a)).1) e
    ∙ ap (λ b. (within x (if b then controlled x.net (happens x.net.w (Step o.stream)) else (Quiet, x.net))).1) t

answered_case : (setup : Setup) (low : ℕ → ℕ → ℕ) (f : Fleet) (k : IsShadow setup low f) (o : Order) → IsAmong k.shade.answers o → (b : Bool) → is_awaited (controller f).base (controller f).w o ≡ b → IsShadow setup low (written f (Answered o))
answered_case setup low f k o among false t = nothing_written setup low f (Answered o) k (ap (λ b. if b then goes_on (controller f) (Step o.stream) else controller f) t)
answered_case setup low f k o among true t =
    let x = world_by (controller f) (held_cells f) f.shown k.shade in
    happening_written setup low f (Answered o) k (Step o.stream) (controller f).permits (ap (λ b. if b then goes_on (controller f) (Step o.stream) else controller f) t)
    (subst (IsWorldReached setup) (answer_world x among.0 o among.1 t) (world_next setup x (Inner (Answer among.0)) k.reached tt))

-- an answer to an order is taken, or not
pub answered_shadow : (setup : Setup) (low : ℕ → ℕ → ℕ) (f : Fleet) (k : IsShadow setup low f) (o : Order) → IsAmong k.shade.answers o → IsShadow setup low (written f (Answered o))
answered_shadow setup low f k o among = answered_case setup low f k o among (is_awaited (controller f).base (controller f).w o) refl

stored_world : (x : World) (j : ℕ) (p : Publication) → slice_get x.stored j ≡ Some p → is_answered_by p (publication_of x.net.base x.net.w p.stream) ≡ true → (world_comes x (StoredEvent j)).1 ≡ record x { net = record x.net { w = (happens x.net.w (Step p.stream)).1 } }
stored_world x j p e t =
    ap (λ a. (by_place x acknowledged a).1) e
    ∙ (ap (λ b. (if b then within x (comes x.net (Control (Step p.stream))) else (Quiet, x)).1) t
    ∙ ap (λ b. (within x (if b then controlled x.net (happens x.net.w (Step p.stream)) else (Quiet, x.net))).1) (publisher_steps x.net.base x.net.w p t))

stored_case : (setup : Setup) (low : ℕ → ℕ → ℕ) (f : Fleet) (k : IsShadow setup low f) (p : Publication) → IsAmong k.shade.stored p → (b : Bool) → is_answered_by p (publication_of (controller f).base (controller f).w p.stream) ≡ b → IsShadow setup low (written f (Stored p))
stored_case setup low f k p among false t = nothing_written setup low f (Stored p) k (ap (λ b. if b then goes_on (controller f) (Step p.stream) else controller f) t)
stored_case setup low f k p among true t =
    let x = world_by (controller f) (held_cells f) f.shown k.shade in
    happening_written setup low f (Stored p) k (Step p.stream) (controller f).permits (ap (λ b. if b then goes_on (controller f) (Step p.stream) else controller f) t)
    (subst (IsWorldReached setup) (stored_world x among.0 p among.1 t) (world_next setup x (StoredEvent among.0) k.reached tt))

-- an answer to a publication is taken, or not
pub stored_shadow : (setup : Setup) (low : ℕ → ℕ → ℕ) (f : Fleet) (k : IsShadow setup low f) (p : Publication) → IsAmong k.shade.stored p → IsShadow setup low (written f (Stored p))
stored_shadow setup low f k p among = stored_case setup low f k p among (is_answered_by p (publication_of (controller f).base (controller f).w p.stream)) refl

-- ---- restores

-- If no stream names a server, it has what is recorded, and its last numbers are no higher than the log is long.
as_recorded : (setup : Setup) (low : ℕ → ℕ → ℕ) (f : Fleet) (k : IsShadow setup low f) (v : ℕ) → IsUnnamed (controller f).w v → (s : ℕ) →
    (cell_above (controller f).base ((controller f).w.place.cells s v) ≡ held_cells f s v) × (k.shade.last s v ≤ (controller f).base + length (controller f).w.log)
as_recorded setup low f k v none s = (cell, last)
  where
    x : World
    x = world_by (controller f) (held_cells f) f.shown k.shade

    cell : cell_above (controller f).base ((controller f).w.place.cells s v) ≡ held_cells f s v
    cell = elim (real_is_near setup (world_by (controller f) (held_cells f) f.shown k.shade).net (net_is_reached setup (world_by (controller f) (held_cells f) f.shown k.shade) k.reached) s v) [
      | inl e ↦ sym e
      | inr n ↦ absurd (none_for (controller f).base (controller f).w v none n.stream n.order n.current n.server)
    ]

    last : k.shade.last s v ≤ (controller f).base + length (controller f).w.log
    last = elim ((in_order setup low f k).lasts s v) [
      | inl l ↦ l
      | inr n ↦ absurd (none_for (controller f).base (controller f).w v none n.stream n.order n.current n.server)
    ]

restored_case : (setup : Setup) (low : ℕ → ℕ → ℕ) (f : Fleet) (k : IsShadow setup low f) (v nonce : ℕ) → HasAskedUnder f.asks v nonce → (b : Bool) → is_none (engaged (controller f).w v) ≡ b → IsShadow setup low (written f (Restored v nonce))
restored_case setup low f k v nonce asked false t =
    nothing_written setup low f (Restored v nonce) k (ap (λ b. if b then record (controller f) { restores = (controller f).restores ++ restore_for (controller f) v nonce ∷ [] } else controller f) t)
restored_case setup low f k v nonce asked true t =
    to_controller setup low f (Restored v nonce) k new (ap (λ b. if b then record (controller f) { restores = (controller f).restores ++ restore_for (controller f) v nonce ∷ [] } else controller f) t) going k.reached
    (all_push (IsRestore new (written f (Restored v nonce)) k.shade.last) (controller f).restores (restore_for (controller f) v nonce) (restores_go setup low f (Restored v nonce) k new going) own)
  where
    new : Controller
    new = record (controller f) { restores = (controller f).restores ++ restore_for (controller f) v nonce ∷ [] }

    going : IsGoing (controller f) (record (controller f) { restores = (controller f).restores ++ restore_for (controller f) v nonce ∷ [] })
    going = record { journal = refl; fence = refl; sizes = refl; base = omega arith; top = omega arith; behind = λ u number top behind. behind }

    nobody : (o : Option StreamId) → is_none o ≡ true → o ≡ None
    nobody None q = refl
    nobody (Some id) q = absurd (cc)

    none : engaged (controller f).w v ≡ None
    none = nobody (engaged (controller f).w v) t

    own : IsRestore (record (controller f) { restores = (controller f).restores ++ restore_for (controller f) v nonce ∷ [] }) (written f (Restored v nonce)) k.shade.last (restore_for (controller f) v nonce)
    own = record {
      journal = refl;
      fence = (let a = k.fence in omega arith);
      number = omega arith;
      loads = refl;
      server = v;
      asked = asked;
      behind = behind_all (controller f).w (controller f).base v ((controller f).base + length (controller f).w.log) (unnamed (controller f).w v none);
      cells = λ h s. as_recorded setup low f k v (unnamed (controller f).w v none) s;
    }

-- a restore is recorded, or refused
pub restored_shadow : (setup : Setup) (low : ℕ → ℕ → ℕ) (f : Fleet) (k : IsShadow setup low f) (v nonce : ℕ) → HasAskedUnder f.asks v nonce → IsShadow setup low (written f (Restored v nonce))
restored_shadow setup low f k v nonce asked = restored_case setup low f k v nonce asked (is_none (engaged (controller f).w v)) refl

-- ---- epochs

-- at rest all plans are done
pub done_at_rest : (w : State) → has_no_plan w ≡ true → AreDone w
done_at_rest w t i l = none_below (length w.plans) (is_unfinished w) (not-true (any_below (length w.plans) (is_unfinished w)) t) i l

-- if versions are low, so is that of each shard
versions_low : (w : State) → are_versions_low w ≡ true → (s : ℕ) → s < w.sizes.shards → w.place.version s ≤ MOST_PLACES
versions_low w t s l = ltb-false MOST_PLACES (w.place.version s)
    (none_below w.sizes.shards (λ s. nat_lt MOST_PLACES (w.place.version s)) (not-true (any_below w.sizes.shards (λ s. nat_lt MOST_PLACES (w.place.version s))) t) s l)

-- then no stream publishes
none_publishes_now : (base : ℕ) (w : State) → AreDone w → (id : StreamId) (p : Publication) → publication_of base w id ≡ Some p → ⊥
none_publishes_now base w done id p e = go (is_running w id) refl e
  where
    go : (b : Bool) → is_running w id ≡ b → (if b then publication_for base w id (publication_now w id) else None) ≡ Some p → ⊥
    go false r q = absurd (cc)
    go true r q =
        let a = and_parts (is_begun w id) (not (progress_of w id).done) r in
        let b = begun_parts w id a.0 in
        let u = none_below (stream_count w id.plan) (λ i. not (w.progress id.plan i).done) (done id.plan b.0) id.stream b.1 in
        absurd (let z : true ≡ false = sym a.1 ∙ u in cc)

-- an opening with a higher base is an opening, too
higher : (setup : Setup) (x : World) (base : ℕ) → IsWorldOpening setup x → x.net.base ≤ base → IsWorldOpening setup (record x { net = record x.net { base = base } })
higher setup x base o l = record {
  net = record {
    place = o.net.place;
    room = o.net.room;
    opening = o.net.opening;
    w = o.net.w;
    cells = o.net.cells;
    lasts = λ s v. (let a = o.net.lasts s v in omega arith);
    sent = o.net.sent;
    answers = o.net.answers;
    passes = all_map (λ t. t.number ≤ x.net.base) (λ t. t.number ≤ base) x.net.passes (λ t a. omega arith) o.net.passes;
  };
  servers = o.servers;
  versions = λ s. (let a = o.versions s in omega arith);
  published = o.published;
  stored = o.stored;
}

none_begun : (c : Sizes) (p : Place) (room : ℕ) (id : StreamId) → is_begun (opened c p room) id ≡ true → ⊥
none_begun c p room id b = let l = (begun_parts (opened c p room) id b).0 in absurd (omega arith)

epoch_case : (setup : Setup) (low : ℕ → ℕ → ℕ) (f : Fleet) (k : IsShadow setup low f) (room : ℕ) → (down_count (sizes_of setup) (controller f).w.place ≤ room) × (room ≤ MOST_PLACES) → (b : Bool) → (has_no_plan (controller f).w && are_versions_low (controller f).w) ≡ b → IsShadow setup low (written f (Opened room))
epoch_case setup low f k room opens false t = nothing_written setup low f (Opened room) k
    (ap (λ b. if b then record (controller f) { w = opened (controller f).w.sizes (controller f).w.place room; base = (controller f).base + EPOCH } else controller f) t)
epoch_case setup low f k room opens true t =
    to_controller setup low f (Opened room) k new (ap (λ b. if b then record (controller f) { w = opened (controller f).w.sizes (controller f).w.place room; base = (controller f).base + EPOCH } else controller f) t) going reached
    (restores_go setup low f (Opened room) k new going)
  where
    new : Controller
    new = record (controller f) { w = opened (controller f).w.sizes (controller f).w.place room; base = (controller f).base + EPOCH }

    x : World
    x = world_by (controller f) (held_cells f) f.shown k.shade

    guards : (has_no_plan (controller f).w ≡ true) × (are_versions_low (controller f).w ≡ true)
    guards = and_parts (has_no_plan (controller f).w) (are_versions_low (controller f).w) t

    done : AreDone (controller f).w
    done = done_at_rest (controller f).w guards.0

    low_versions : (s : ℕ) → s < (controller f).w.sizes.shards → (controller f).w.place.version s ≤ MOST_VERSION
    low_versions s l = let a = versions_low (controller f).w guards.1 s l in omega arith

    fits : length (controller f).w.log ≤ MOST_PLACES
    fits = log_fits setup (controller f).w (state_reached setup low f k)

    going : IsGoing (controller f) (record (controller f) { w = opened (controller f).w.sizes (controller f).w.place room; base = (controller f).base + EPOCH })
    going = record {
      journal = refl;
      fence = refl;
      sizes = refl;
      base = omega arith;
      top = (let a = fits in omega arith);
      behind = λ v number top behind id b e. absurd (none_begun (controller f).w.sizes (controller f).w.place room id b);
    }

    opening : IsOpening setup (controller f).w.place room
    opening = rests_opening setup (controller f).w (state_reached setup low f k) done (is_safe (controller f).w (reached_keeps setup (controller f).w (state_reached setup low f k)).0 (has_room setup (controller f).w (state_reached setup low f k))).place low_versions room
        (subst (λ (z : Sizes). down_count z (controller f).w.place ≤ room) (sym k.sizes) opens.0) opens.1

    cells : (s v : ℕ) → held_cells f s v ≡ (controller f).w.place.cells s v
    cells s v =
        real_is_at_ends setup (world_by (controller f) (held_cells f) f.shown k.shade).net (net_is_reached setup (world_by (controller f) (held_cells f) f.shown k.shade) k.reached) done s v
        ∙ (ap (cell_above (controller f).base) (sym ((ends_are_reached setup (controller f).w (state_reached setup low f k) done).1.cells s v))
        ∙ (opened_plain (controller f).base setup (controller f).w.place room opening s v).0)

    listed : (s : ℕ) → (f.shown s).server ≡ (controller f).w.place.listed s
    listed s = (shown_is_recorded setup (world_by (controller f) (held_cells f) f.shown k.shade) k.reached (λ id p e h. none_publishes_now (controller f).base (controller f).w done id p e) s).server

    first : IsWorldOpening setup (reopened_world (world_by (controller f) (held_cells f) f.shown k.shade) (sizes_of setup) (controller f).w.place room)
    first = can_reopen_onward setup (world_by (controller f) (held_cells f) f.shown k.shade) k.reached done (controller f).w.place room opening cells listed (versions_rise setup (controller f).w (state_reached setup low f k))

    start : World
    start = world_by new (held_cells f) f.shown k.shade

    second : IsWorldOpening setup (world_by (record (controller f) { w = opened (controller f).w.sizes (controller f).w.place room; base = (controller f).base + EPOCH }) (held_cells f) f.shown k.shade)
    second = subst (λ (c : Sizes). IsWorldOpening setup (world_by (record (controller f) { w = opened c (controller f).w.place room; base = (controller f).base + EPOCH }) (held_cells f) f.shown k.shade)) (sym k.sizes)
        (higher setup (reopened_world (world_by (controller f) (held_cells f) f.shown k.shade) (sizes_of setup) (controller f).w.place room) ((controller f).base + EPOCH) first (let a = fits in omega arith))

    reached : IsWorldReached setup (world_by (record (controller f) { w = opened (controller f).w.sizes (controller f).w.place room; base = (controller f).base + EPOCH }) (held_cells f) f.shown k.shade)
    reached = record { start = world_by (record (controller f) { w = opened (controller f).w.sizes (controller f).w.place room; base = (controller f).base + EPOCH }) (held_cells f) f.shown k.shade; opening = second; events = []; fit = tt; state = refl }

-- the next epoch opens at rest, with all that was sent before still about
pub epoch_shadow : (setup : Setup) (low : ℕ → ℕ → ℕ) (f : Fleet) (k : IsShadow setup low f) (room : ℕ) → (down_count (sizes_of setup) (controller f).w.place ≤ room) × (room ≤ MOST_PLACES) → IsShadow setup low (written f (Opened room))
epoch_shadow setup low f k room opens = epoch_case setup low f k room opens (has_no_plan (controller f).w && are_versions_low (controller f).w) refl
