-- When streams came to their positions, as plans that were begun tell it.
-- Internal definitions: you need not read them for the public contracts.
use Rattle.std.specs.Prelude.{◌≡◌, ℕ, Option, Some, None, List, slice_index_or}
use Rattle.sm_protocol.specs.declared.event.Logged.{Logged}
use Rattle.sm_protocol.specs.State.{stream_id}
use Rattle.sm_protocol.specs.Next.{since_in}
use Rattle.sm_machine.specs.Begun.{BegunModel, no_begun, course_at}

-- the log's length behind the last step, or this one if there was none
abbrev pub since_by : ℕ → Option ℕ → ℕ
since_by start None = start
since_by start (Some since) = since

-- the log's length behind the last step of the stream of these numbers, none before its first
abbrev pub since_at : List BegunModel → ℕ → ℕ → Option ℕ
since_at plans k i = (course_at (slice_index_or plans k no_begun) i).since

-- Streams keep of their last steps what the log has of them, which has none of a stream that was not begun.
pub record KeepsSince (plans : List BegunModel) (log : List Logged) : Type 0 where
  pub each : (k i start : ℕ) → since_by start (since_at plans k i) ≡ since_in (stream_id k i) start 0 log
