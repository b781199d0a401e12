-- Local steps: signals, waits for posted signals, and ends of streams. The driver makes them by itself, each time that
-- of the lowest stream of the lowest plan that can make one. `IsFreeIn`, `IsFreeAlone` and `posts_signal` are internal:
-- you need not read them for the public contracts.
use Rattle.std.specs.Prelude.{◌≡◌, ◌&&◌, ℕ, Bool, true, false, Option, Some, None, List, [], ◌∷◌, is_none, length, map}
use Rattle.std.specs.Prelude.{if◌then◌else◌}
use Rattle.sm_reservation.specs.declared.stream_id.StreamId.{StreamId}
use Rattle.sm_plan_code.specs.declared.instruction.Instr.{Instr}
use Rattle.sm_plan_code.specs.declared.instruction.Instr.TheVariants as instr
use Rattle.sm_protocol.specs.Words.{first_from}
use Rattle.sm_protocol.specs.State.{State, is_running, stream_count, stream_id}
use Rattle.sm_protocol.specs.Next.{blocked_on, next_call_of, next_entry_of}
use Rattle.sm_protocol.specs.Happens.{Step, happens, run}

-- a running stream whose next step is no call, changes no entry of the published map and waits for no signal
abbrev pub is_free : State → StreamId → Bool
is_free w id = is_running w id && is_none (next_call_of w id) && is_none (next_entry_of w id) && is_none (blocked_on w id)

-- the lowest stream of the lowest plan that is free
abbrev pub next_free : State → Option StreamId
next_free w =
    first_from 0 (length w.plans) (λ k.
    first_from 0 (stream_count w k) (λ i. if is_free w (stream_id k i) then Some (stream_id k i) else None))

-- only streams of this plan are free
abbrev pub IsFreeIn : State → ℕ → Type 0
IsFreeIn w k = (id : StreamId) → is_free w id ≡ true → id.plan ≡ k

-- only this stream is free
abbrev pub IsFreeAlone : State → StreamId → Type 0
IsFreeAlone w id = (other : StreamId) → is_free w other ≡ true → other ≡ id

-- the instruction posts a signal
abbrev pub posts_signal : Option Instr → Bool
posts_signal (Some (instr.Signal q)) = true
posts_signal _ = false

-- each of these streams is the next free one when its turn comes, and at the end no stream is free
abbrev pub AreNextFree : List StreamId → State → Type 0
AreNextFree [] w = next_free w ≡ None
AreNextFree (id ∷ ids) w = (next_free w ≡ Some id) × AreNextFree ids (happens w (Step id)).1

-- The local steps were made, in their order, and no more are left.
pub record IsAdvanced (old new : State) : Type 0 where
  pub streams : List StreamId
  pub free : AreNextFree streams old
  pub state : new ≡ run (map Step streams) old
