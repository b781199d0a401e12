-- A stream before its next instruction: what it holds, and what it is to hold behind it.
use Rattle.std.proofs.Common.{◌≡◌, ◌+◌, ℕ, false, ap, Option, Some}
use Rattle.sm_placement.specs.Setup.{Setup, IsSetup, sizes_of}
use Rattle.sm_reservation.specs.declared.stream_id.StreamId.{StreamId}
use Rattle.sm_reservation.specs.Hold.{Hold}
use Rattle.sm_reservation.specs.Pool.{IsKnownHold}
use Rattle.sm_plan_code.specs.declared.instruction.Instr.{Instr}
use Rattle.sm_plan_code.specs.Effects.{IsReachable, IsScene}
use Rattle.sm_plan_code.specs.Plan.{IsKnownStream}
use Rattle.sm_plan_code.proofs.Known.{along_below, parcel_below, signals_known}
use Rattle.sm_verifier.specs.Step.{parcels_of}
use Rattle.sm_verifier.specs.Stream.{Course, no_stream, stream_at, hold_before}
use Rattle.sm_protocol.specs.State.{State, plan_at, stream_parts, progress_of, reach, hold_of_stream}
use Rattle.sm_protocol.specs.Laws.{IsReached}
use Rattle.sm_protocol.proofs.Invariant.{IsRunning, IsKept}
use Rattle.sm_protocol.proofs.Trials.{IsBegun, running, scene}
use Rattle.sm_protocol.proofs.Keeping.{begun}
use Rattle.sm_protocol.proofs.Tries.{reachable}
use Rattle.sm_protocol.proofs.Courses.{IsNextTurn, next_turn, good}
use Rattle.sm_protocol.proofs.Cases.{IsBefore}
use Rattle.sm_protocol.proofs.Reached.{of_opening}
use Rattle.sm_protocol.proofs.Whole.{reached_keeps}

-- the course of a stream, as its plan has it
abbrev pub course_at : State → StreamId → Course
course_at w id = stream_at w.sizes (plan_at w id.plan) id.stream

-- what a stream holds before the instruction at which it stands, and behind it
abbrev pub hold_here : State → StreamId → Hold
hold_here w id = hold_before (course_at w id) (progress_of w id).at

-- what it holds behind that instruction
abbrev pub hold_behind : State → StreamId → Hold
hold_behind w id = hold_before (course_at w id) ((progress_of w id).at + 1)

module _ (setup : Setup) (w : State) (reached : IsReached setup w) where
  -- the protocol's invariant holds of each state that events lead to
  pub kept : IsKept w
  kept = (reached_keeps setup w reached).0

  -- the configuration that such a state was opened with keeps what every configuration keeps
  pub is_setup : IsSetup setup
  is_setup = (of_opening setup w reached).is_opening.rows

  -- and has the numbers of the state
  pub same_sizes : w.sizes ≡ sizes_of setup
  same_sizes = (reached_keeps setup w reached).1

module _ (w : State) (v : IsKept w) (id : StreamId) where
  -- what a stream holds that has not made its end is of known shards and servers, wherever it stands
  pub hold_known : IsBegun w id → (p : ℕ) → IsKnownHold w.sizes.shards w.sizes.servers (hold_before (course_at w id) p)
  hold_known b p =
      let r : IsRunning w.sizes w.place (plan_at w id.plan) (w.progress id.plan) (w.marks id.plan) = running w v id b in
      let fits = r.checked.fits in
      let signals = signals_known w.sizes.shards w.sizes.servers (plan_at w id.plan) r.checked.parts.parcels fits in
      let stream : IsKnownStream w.sizes.shards w.sizes.servers (stream_parts w id) = fits.streams id.stream no_stream b.stream in
      along_below w.sizes (parcels_of (plan_at w id.plan).signals) (stream_parts w id).code _ w.sizes.shards w.sizes.servers signals stream.code
      (parcel_below w.sizes.shards w.sizes.servers (stream_parts w id).holds stream.holds) p

  module _ (o : Option Instr) (b : IsBefore w id o) where
    -- a stream before its next instruction is one of a plan that was begun
    pub known : IsBegun w id
    known = begun w id b.begun

    -- the placement with what the stream holds is a scene
    pub own_scene : IsScene w.sizes w.place v.leads w.numbers (hold_of_stream w id.plan id.stream)
    own_scene = scene w v id known b.running

  -- where the call at which the stream stands has not had its effect, the stream holds what it holds before it
  pub holds_here : (progress_of w id).ahead ≡ false → hold_of_stream w id.plan id.stream ≡ hold_here w id
  holds_here a = ap (λ q. hold_before (course_at w id) (reach (progress_of w id).at q)) a

  module _ (i : Instr) (b : IsBefore w id (Some i)) where
    -- the instruction leads from what the stream holds before it to what it holds behind it, in budget
    pub turn : IsNextTurn w.sizes (plan_at w id.plan) id.stream (progress_of w id).at i
    turn =
        let k = known (Some i) b in
        next_turn w.sizes (plan_at w id.plan) id.stream (progress_of w id).at i
        (good w.sizes w.place (plan_at w id.plan) (w.progress id.plan) (w.marks id.plan) (running w v id k) id.stream k.stream) b.next_is

    -- the instruction's shard is known, and each server that it mentions is known and up
    pub can_reach : IsReachable w.sizes w.place i
    can_reach = reachable w v id (known (Some i) b) i b.next_is
