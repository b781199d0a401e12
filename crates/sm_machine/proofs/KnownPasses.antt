-- The passes that a log records are of known shards, to known servers.
use Rattle.std.proofs.Common.{◌≡◌, ℕ, ◌<◌, true, false, refl, sym, ap, ◌∙◌, inl, inr, subst, arith, Option, Some, None, List, [], ◌∷◌, ◌++◌, length, length-append}
use Rattle.std.specs.Prelude.{if◌then◌else◌, slice_index_or, option_map}
use Rattle.std.proofs.lemmas.Bool.{cases_eq, cases_lt}
use Rattle.std.proofs.lemmas.List.{get_or_append_left, get_or_past}
use Rattle.std.proofs.lemmas.Option.{same_Some, none-some}
use Rattle.std.proofs.Math.Seq.{get_or-append_seam}
use Rattle.sm_placement.specs.Setup.{Setup, Sizes, sizes_of}
use Rattle.sm_placement.specs.Layout.{IsPlacement}
use Rattle.sm_placement.specs.Rows.{IsKnownCell}
use Rattle.sm_reservation.specs.declared.stream_id.StreamId.{StreamId}
use Rattle.sm_protocol.specs.declared.event.Event.{Event}
use Rattle.sm_protocol.specs.declared.event.Event.TheVariants as event
use Rattle.sm_protocol.specs.declared.event.Passage.{Passage}
use Rattle.sm_protocol.specs.declared.event.Passage.TheVariants.{Through, LostBefore, LostAfter}
use Rattle.sm_protocol.specs.declared.event.Played.{Played}
use Rattle.sm_protocol.specs.declared.event.Played.TheVariants as played
use Rattle.sm_protocol.specs.declared.event.Logged.{Logged}
use Rattle.sm_protocol.specs.Ticket.{Ticket, passes, pass_of, pass_of_event, is_open_ticket}
use Rattle.sm_protocol.specs.State.{State}
use Rattle.sm_protocol.specs.Happens.{Happening, reply_of, happens}
use Rattle.sm_protocol.specs.Laws.{IsReached, FitsConfig}
use Rattle.sm_protocol.proofs.Cases.{OfSteps, of_happens}
use Rattle.sm_protocol.proofs.Reached.{by_events}
use Rattle.sm_protocol.proofs.Replays.{open_ticket}
use Rattle.sm_protocol.proofs.Requests.{reply_forwards}
use Rattle.sm_protocol.proofs.Scripts.{passes_push}
use Rattle.sm_machine.proofs.ties.Before.{kept, same_sizes}

-- a ticket of a known shard, to a known server
abbrev pub IsKnownTicket : Sizes → Ticket → Type 0
IsKnownTicket c t = (t.shard < c.shards) × (t.target < c.servers)

abbrev pub AreKnown : Sizes → List Logged → Type 0
AreKnown c log = (n : ℕ) (t : Ticket) → slice_index_or (passes log) n None ≡ Some t → IsKnownTicket c t

-- what is known of all recorded passes, and of that of one more line
known_line : (c : Sizes) (log : List Logged) (x : Logged) → AreKnown c log → ((t : Ticket) → pass_of (passes log) x.answer x.event ≡ Some t → IsKnownTicket c t) → AreKnown c (log ++ x ∷ [])
known_line c log x all last n t e = elim (cases_lt n (length (passes log))) [
  | inl l ↦ all n t (sym (get_or_append_left (passes log) (new ∷ []) None n l) ∙ f)
  | inr l ↦ elim (cases_eq n (length (passes log))) [
    | inl g ↦ last t (sym (get_or-append_seam (passes log) new [] None) ∙ subst (λ k. slice_index_or (passes log ++ new ∷ []) k None ≡ Some t) g f)
    | inr g ↦
        let m = length-append (passes log) (new ∷ []) in
        absurd (let h : slice_index_or (passes log ++ new ∷ []) n None ≡ None = get_or_past (passes log ++ new ∷ []) n None (omega arith) in none-some t (sym h ∙ f))
  ]
]
  where
    new : Option Ticket
    new = pass_of (passes log) x.answer x.event

    f : slice_index_or (passes log ++ new ∷ []) n None ≡ Some t
    f = ap (λ ts. slice_index_or ts n None) (sym (passes_push [] log x)) ∙ e

known_by_steps : (c : Sizes) (w : State) (id : StreamId) (passage : Passage) → AreKnown c w.log → OfSteps w id passage (λ o. AreKnown c o.1.log)
known_by_steps c w id passage h = record {
  idle = λ answer. h;
  refused = λ i x why t e. h;
  at_end = λ b. known_line c w.log (record { event = event.Step id; answer = played.Done }) h (λ t e. absurd (cc));
  publishes = λ i s server b n. known_line c w.log (record { event = event.Step id; answer = played.Moved }) h (λ t e. absurd (cc));
  posts = λ q b. known_line c w.log (record { event = event.Step id; answer = played.Moved }) h (λ t e. absurd (cc));
  awaits = λ q b e. known_line c w.log (record { event = event.Step id; answer = played.Moved }) h (λ t e. absurd (cc));
  lost = λ i x t p. known_line c w.log (record { event = event.Lose id false; answer = played.Lost }) h (λ t e. absurd (cc));
  through = λ i x effect t a p. known_line c w.log (record { event = event.Step id; answer = played.Moved }) h (λ t e. absurd (cc));
  unanswered = λ i x effect t a p. known_line c w.log (record { event = event.Lose id true; answer = played.Lost }) h (λ t e. absurd (cc));
}

-- the pass of a request that a server answers so
pass_known : (w : State) (s v : ℕ) (sent : Option Ticket) (x : Event) (a : Played) → IsPlacement w.sizes w.place → s < w.sizes.shards → reply_of w s v sent ≡ a →
    ((to m place : ℕ) (t : Ticket) → pass_of_event (passes w.log) to m place x ≡ Some t → (t.shard ≡ s) × (t.target ≡ to)) →
    (t : Ticket) → pass_of (passes w.log) a x ≡ Some t → IsKnownTicket w.sizes t
pass_known w s v sent x (played.Passed to m place) p known e shape t g =
    let parts = shape to m place t g in
    let to_known : to < w.sizes.servers = subst (IsKnownCell w.sizes.servers) (reply_forwards w s v sent to m place e).0 (p.known s v) in
    (subst (λ k. k < w.sizes.shards) (sym parts.0) known, subst (λ k. k < w.sizes.servers) (sym parts.1) to_known)
pass_known w s v sent x played.Moved p known e shape t g = absurd (cc)
pass_known w s v sent x (played.Blocked q) p known e shape t g = absurd (cc)
pass_known w s v sent x played.Done p known e shape t g = absurd (cc)
pass_known w s v sent x played.Halted p known e shape t g = absurd (cc)
pass_known w s v sent x played.Lost p known e shape t g = absurd (cc)
pass_known w s v sent x played.Spent p known e shape t g = absurd (cc)
pass_known w s v sent x played.Refilled p known e shape t g = absurd (cc)
pass_known w s v sent x (played.RefillRefused why) p known e shape t g = absurd (cc)
pass_known w s v sent x (played.Executed u) p known e shape t g = absurd (cc)
pass_known w s v sent x played.NotOwner p known e shape t g = absurd (cc)
pass_known w s v sent x played.Unavailable p known e shape t g = absurd (cc)
pass_known w s v sent x played.LogFull p known e shape t g = absurd (cc)
pass_known w s v sent x played.Approved p known e shape t g = absurd (cc)
pass_known w s v sent x (played.Denied why) p known e shape t g = absurd (cc)
pass_known w s v sent x played.Up p known e shape t g = absurd (cc)
pass_known w s v sent x (played.Begun n) p known e shape t g = absurd (cc)
pass_known w s v sent x (played.NotBegun why) p known e shape t g = absurd (cc)
pass_known w s v sent x played.Unknown p known e shape t g = absurd (cc)

-- each event keeps that the recorded passes are known
known_kept : (w : State) (e : Happening) → IsPlacement w.sizes w.place → FitsConfig w.sizes e → AreKnown w.sizes w.log → AreKnown w.sizes (happens w e).1.log
known_kept w e p fits h = of_happens w (λ e o. FitsConfig w.sizes e → AreKnown w.sizes o.1.log) (record {
  idle = λ e answer n f. h;
  steps = λ id. add (known_by_steps w.sizes w id Through h);
  loses = λ id after. add (known_by_steps w.sizes w id (if after then LostAfter else LostBefore) h);
  refills = λ id more n f. known_line w.sizes w.log (record { event = event.Refill id more; answer = played.Refilled }) h (λ t e. absurd (cc));
  arrives = λ s v n f. known_line w.sizes w.log (record { event = event.Arrive s v; answer = reply_of w s v None }) h (pass_known w s v None (event.Arrive s v) (reply_of w s v None) p f.0 refl (λ to m place t g. arrived s v to m place t g));
  passes_on = λ q o n f. known_line w.sizes w.log (record { event = event.PassOn q.place; answer = reply_of w q.shard q.target (Some q) }) h
      (pass_known w q.shard q.target (Some q) (event.PassOn q.place) (reply_of w q.shard q.target (Some q)) p (h q.place q (open_ticket w.log q o).pass).0 refl (λ to m place t g. passed q to m place t o g));
  approves = λ v n f. known_line w.sizes w.log (record { event = event.Approve v; answer = played.Approved }) h (λ t e. absurd (cc));
  restarts = λ v n f. known_line w.sizes w.log (record { event = event.Done v; answer = played.Up }) h (λ t e. absurd (cc));
  starts = λ plan n l m f. h;
}) e fits
  where
    add : {id : StreamId} {passage : Passage} → OfSteps w id passage (λ o. AreKnown w.sizes o.1.log) → OfSteps w id passage (λ o. Unit {0} → AreKnown w.sizes o.1.log)
    add all = Rattle.sm_protocol.proofs.Cases.all_fit (λ o. AreKnown w.sizes o.1.log) all

    arrived : (s v to m place : ℕ) (t : Ticket) → pass_of_event (passes w.log) to m place (event.Arrive s v) ≡ Some t → (t.shard ≡ s) × (t.target ≡ to)
    arrived s v to m place t g = let f = same_Some _ t g in (sym (ap (λ (x : Ticket). x.shard) f), sym (ap (λ (x : Ticket). x.target) f))

    passed : (q : Ticket) (to m place : ℕ) (t : Ticket) → is_open_ticket w.log q ≡ true → pass_of_event (passes w.log) to m place (event.PassOn q.place) ≡ Some t → (t.shard ≡ q.shard) × (t.target ≡ to)
    passed q to m place t o g =
        let a : Option Ticket → Option Ticket = option_map (λ (x : Ticket). let y : Ticket = record { place = place; shard = x.shard; sender = x.target; target = to; number = m } in y) in
        let b : a (Some q) ≡ Some t = sym (ap a (open_ticket w.log q o).pass) ∙ g in
        let f = same_Some _ t b in
        (sym (ap (λ (x : Ticket). x.shard) f), sym (ap (λ (x : Ticket). x.target) f))

-- in each state that events lead to, the passes in the log are of known shards, to known servers
pub passes_known : (setup : Setup) (w : State) → IsReached setup w → AreKnown w.sizes w.log
passes_known setup w reached =
    subst (λ c. AreKnown c w.log) (sym (same_sizes setup w reached))
    (by_events setup (λ u. AreKnown (sizes_of setup) u.log) (λ p room o n t e. absurd (none-some t e))
    (λ u e at f h. subst (λ c. AreKnown c (happens u e).1.log) (same_sizes setup u at)
    (known_kept u e (kept setup u at).stage.placement f (subst (λ c. AreKnown c u.log) (sym (same_sizes setup u at)) h))) w reached)
