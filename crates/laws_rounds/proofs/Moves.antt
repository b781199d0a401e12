-- A stream goes on where what it waits for comes: its own step, the answer to its order, or that to its publication, however late, if it stands as it
-- stood.
use Rattle.std.proofs.Common.{◌≡◌, ℕ, suc, ◌+◌, refl, sym, ap, ◌∙◌, inl, inr, subst, arith, not, Bool, true, false, Option, Some, None}
use Rattle.std.specs.Prelude.{◌==◌, ◌&&◌, is_none, is_some, if◌then◌else◌}
use Rattle.std.proofs.lemmas.Bool.{and_from, and_parts, cases_Bool, eq-eqb}
use Rattle.sm_reservation.specs.declared.stream_id.StreamId.{StreamId}
use Rattle.sm_plan_code.specs.declared.instruction.Instr.{Instr}
use Rattle.sm_plan_code.specs.declared.instruction.Instr.TheVariants.{PrepareAdd, PrepareDrop, Add, Drop, Change, Publish, Unlist, Signal, Wait}
use Rattle.sm_protocol.specs.declared.event.Passage.TheVariants.{Through}
use Rattle.sm_protocol.specs.declared.event.Played.TheVariants as played
use Rattle.sm_protocol.specs.State.{State, is_begun, is_running, next_instruction, progress_of}
use Rattle.sm_protocol.specs.Steps.{Answered, Outcome, made, unchanged}
use Rattle.sm_protocol.specs.Happens.{Step, happens}
use Rattle.sm_protocol.specs.Next.{since_of}
use Rattle.sm_protocol.specs.Safe.{IsStep}
use Rattle.sm_protocol.proofs.Cases.{parcel_taken}
use Rattle.sm_protocol.proofs.Courses.{some_same}
use Rattle.sm_protocol.proofs.Invariant.{IsKept}
use Rattle.laws_network.specs.Laws.{HasMovedOn}
use Rattle.laws_network.specs.Net.{Order, call_now, instruction_call, is_awaited, order_for, order_of}
use Rattle.laws_network.specs.World.{Publication, is_answered_by, publication_by, publication_of}
use Rattle.laws_network.specs.Controller.{is_local}
use Rattle.laws_network.proofs.Calls.{made_moves, step_made}
use Rattle.laws_network.proofs.Calm.{IsCalm}
use Rattle.laws_network.proofs.FleetProgress.{awaits, order_moves}
use Rattle.laws_network.proofs.Shown.{some_where, step_publishes}
use Rattle.laws_rounds.proofs.Positions.{HasGone, Stands, entry_gone, next_same, own_publishing, shard_shown}
use Rattle.laws_rounds.proofs.Publications.{publication_parts, publication_whole}

none_where : {A : Type 0} (o : Option A) → is_none o ≡ true → o ≡ None
none_where None e = refl
none_where (Some x) e = absurd (cc)

-- a stream that has moved on has gone on
pub gone_of : (w new : State) (id : StreamId) → HasMovedOn w id new → HasGone w new id
gone_of w new id (inl q) = inl (omega arith)
gone_of w new id (inr q) = inr q

-- no stream moves on where nothing changes
pub not_moved : (w : State) (id : StreamId) → (progress_of w id).done ≡ false → HasMovedOn w id w → ⊥
not_moved w id d (inl q) = absurd (omega arith)
not_moved w id d (inr q) = absurd (cc)

-- ---- instructions

-- whether an instruction is a call does not depend on handover numbers
call_some : (m n : ℕ → ℕ) (o : Option Instr) → is_some (instruction_call m o) ≡ is_some (instruction_call n o)
call_some m n None = refl
call_some m n (Some (PrepareAdd s v u)) = refl
call_some m n (Some (PrepareDrop s u v)) = refl
call_some m n (Some (Add s v role)) = refl
call_some m n (Some (Drop s v)) = refl
call_some m n (Some (Change s v role)) = refl
call_some m n (Some (Publish s)) = refl
call_some m n (Some (Unlist s)) = refl
call_some m n (Some (Signal q)) = refl
call_some m n (Some (Wait q)) = refl

-- it is neither a call nor a publication
abbrev is_alone : State → Option Instr → Bool
is_alone w o = is_none (instruction_call w.numbers o) && is_none (publication_by w o)

alone_same : (a c : State) (o : Option Instr) → is_alone a o ≡ is_alone c o
alone_same a c None = refl
alone_same a c (Some (PrepareAdd s v u)) = refl
alone_same a c (Some (PrepareDrop s u v)) = refl
alone_same a c (Some (Add s v role)) = refl
alone_same a c (Some (Drop s v)) = refl
alone_same a c (Some (Change s v role)) = refl
alone_same a c (Some (Publish s)) = refl
alone_same a c (Some (Unlist s)) = refl
alone_same a c (Some (Signal q)) = refl
alone_same a c (Some (Wait q)) = refl

-- the shard of a publication
shown_of : (a : State) (i : Instr) (s : ℕ) (x : Option ℕ) → publication_by a (Some i) ≡ Some (s, x) → shard_shown (Some i) ≡ Some s
shown_of a (Publish r) s x e = ap (λ (z : ℕ × Option ℕ). Some z.0) (some_same _ _ e)
shown_of a (Unlist r) s x e = ap (λ (z : ℕ × Option ℕ). Some z.0) (some_same _ _ e)
shown_of a _ s x e = absurd (cc)

-- ---- a stream that stands as it stood

module _ (a w : State) (v : IsKept w) (calm : IsCalm w) (id : StreamId) (s : Stands a w id) (d : (progress_of a id).done ≡ false) where
  runs_now : (progress_of w id).done ≡ false
  runs_now = s.done ∙ d

  running : is_running w id ≡ true
  running = and_from (is_begun w id) (not (progress_of w id).done) s.begun (ap not runs_now)

  -- its next call comes
  pub call_gone : is_some (call_now w id) ≡ true → HasGone w (happens w (Step id)).1 id
  call_gone e =
      let x = some_where (call_now w id) e in
      gone_of w (happens w (Step id)).1 id (order_moves 0 w v calm id _ (ap (λ t. if t then order_for 0 w id (call_now w id) else None) running ∙ ap (order_for 0 w id) x.1))

  -- its next publication comes
  pub publication_gone : (r : ℕ) → shard_shown (next_instruction w id) ≡ Some r → HasGone w (happens w (Step id)).1 id
  publication_gone r e =
      let p = own_publishing w v calm id s.begun runs_now r e in
      subst (λ (o : Outcome × State). HasGone w o.1 id) (sym (step_publishes w id r p.0 calm.halted p.1)) (entry_gone w v calm id s.begun runs_now r p.0)

  -- the answer to an order that it had is awaited still
  pub awaited_still : (base : ℕ) (o : Order) → order_of base a id ≡ Some o → (is_awaited base w o ≡ true) × (o.stream ≡ id) × (is_some (call_now w id) ≡ true)
  awaited_still base o e =
      let p = awaits base a id o e in
      let t : (is_running a id && (is_some (call_now a id) && (o.number == base + since_of a id + 1))) ≡ true =
      subst (λ i. (is_running a i && (is_some (call_now a i) && (o.number == base + since_of a i + 1))) ≡ true) p.1 p.0 in
      let q = and_parts (is_some (call_now a id)) (o.number == base + since_of a id + 1) (and_parts (is_running a id) _ t).1 in
      let call : is_some (call_now w id) ≡ true = ap (λ i. is_some (instruction_call w.numbers i)) (next_same a w id s) ∙ call_some w.numbers a.numbers (next_instruction a id) ∙ q.0 in
      let number : (o.number == base + since_of w id + 1) ≡ true = ap (λ n. o.number == base + n + 1) s.since ∙ q.1 in
      let here : (is_running w id && (is_some (call_now w id) && (o.number == base + since_of w id + 1))) ≡ true =
      and_from (is_running w id) _ running (and_from (is_some (call_now w id)) _ call number) in
      (subst (λ i. (is_running w i && (is_some (call_now w i) && (o.number == base + since_of w i + 1))) ≡ true) (sym p.1) here, p.1, call)

  -- so is that to a publication
  pub answered_still : (base : ℕ) (p : Publication) → publication_of base a id ≡ Some p → (is_answered_by p (publication_of base w p.stream) ≡ true) × (p.stream ≡ id) × (shard_shown (next_instruction w id) ≡ Some p.shard)
  answered_still base p e =
      let had = publication_parts base a id p e in
      let shown_before : shard_shown (next_instruction a id) ≡ Some p.shard = ap shard_shown had.publishing.before.next_is ∙ shown_of a had.publishing.instr p.shard p.entry.server had.publishing.now in
      let shown : shard_shown (next_instruction w id) ≡ Some p.shard = ap shard_shown (next_same a w id s) ∙ shown_before in
      let own = own_publishing w v calm id s.begun runs_now p.shard shown in
      let version : p.entry.version ≡ base + suc (w.place.version p.shard) = had.version ∙ ap (λ n. base + suc n) (sym (s.version p.shard shown_before)) in
      let here : is_answered_by p (publication_of base w id) ≡ true = ap (is_answered_by p) (publication_whole base w id p.shard own.0 own.1)
      ∙ and_from (p.shard == p.shard) (p.entry.version == base + suc (w.place.version p.shard)) (eq-eqb p.shard p.shard refl) (eq-eqb p.entry.version (base + suc (w.place.version p.shard)) version) in
      (subst (λ i. is_answered_by p (publication_of base w i) ≡ true) (sym had.stream) here, had.stream, shown)

  -- ---- a local step

  module _ (calm_before : IsCalm a) (begun : is_begun a id ≡ true) (alone : is_local a (Step id) ≡ true) (moves : HasMovedOn a id (happens a (Step id)).1) where
    -- it is still local
    pub alone_still : is_local w (Step id) ≡ true
    alone_still = ap (is_alone w) (next_same a w id s) ∙ alone_same w a (next_instruction a id) ∙ alone

    -- a signal that it takes was posted
    posted_before : (q : ℕ) → next_instruction a id ≡ Some (Wait q) → (a.marks id.plan q).posted ≡ true
    posted_before q e = elim (cases_Bool (a.marks id.plan q).posted) [
      | inl y ↦ y
      | inr n ↦
          let same : (happens a (Step id)).1 ≡ a = ap (λ (o : Outcome × State). o.1) (step_made a id Through calm_before.halted begun d ∙ ap (made a id Through) e)
          ∙ ap (λ t. (if t then (Answered played.Moved, parcel_taken a id q) else unchanged a (played.Blocked q)).1) n in
          absurd (not_moved a id d (subst (λ (u : State). HasMovedOn a id u) same moves))
    ]

    steps_by : (o : Option Instr) → is_none (instruction_call w.numbers o) ≡ true → ((q : ℕ) → o ≡ Some (Wait q) → (w.marks id.plan q).posted ≡ true) → IsStep (made w id Through o).0
    steps_by None c p = tt
    steps_by (Some (Publish r)) c p = tt
    steps_by (Some (Unlist r)) c p = tt
    steps_by (Some (Signal q)) c p = tt
    steps_by (Some (Wait q)) c p = subst (λ t. IsStep (if t then (Answered played.Moved, parcel_taken w id q) else unchanged w (played.Blocked q)).0) (sym (p q refl)) tt
    steps_by (Some _) c p = absurd (cc)

    -- and goes on by it
    pub own_gone : HasGone w (happens w (Step id)).1 id
    own_gone =
        let none = (and_parts (is_none (instruction_call w.numbers (next_instruction w id))) _ alone_still).0 in
        gone_of w (happens w (Step id)).1 id (subst (λ (o : Outcome × State). HasMovedOn w id o.1) (sym (step_made w id Through calm.halted s.begun runs_now))
        (made_moves w id (next_instruction w id) (none_where (instruction_call w.numbers (next_instruction w id)) none)
        (steps_by (next_instruction w id) none (λ q e. s.posted q (posted_before q (sym (next_same a w id s) ∙ e))))))
