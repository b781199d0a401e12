-- The counts in the books of a board: recorded steps, requests that were executed, and requests that were refused.
use Rattle.std.specs.Prelude.{◌≡◌, ◌+◌, ◌++◌, ℕ, Bool, true, false, not, List, count_by}
use Rattle.sm_placement.specs.Sums.{bit}
use Rattle.sm_protocol.specs.declared.event.Event.{Event}
use Rattle.sm_protocol.specs.declared.event.Event.TheVariants as event
use Rattle.sm_protocol.specs.declared.event.Played.{Played}
use Rattle.sm_protocol.specs.declared.event.Played.TheVariants as played
use Rattle.sm_protocol.specs.declared.event.Logged.{Logged}
use Rattle.sm_protocol.specs.State.{State}
use Rattle.sm_machine.specs.declared.answer.Answer.{Answer}
use Rattle.sm_machine.specs.declared.answer.Answer.TheVariants.{Executed, NotOwner, Unavailable}

-- a step of a stream, whether its call was lost or not
abbrev pub is_step : Event → Bool
is_step (event.Step id) = true
is_step (event.Lose id after) = true
is_step _ = false

-- the request was executed
abbrev pub is_executed : Played → Bool
is_executed (played.Executed server) = true
is_executed _ = false

-- the server did not own the shard, or was down
abbrev pub is_refused : Played → Bool
is_refused played.NotOwner = true
is_refused played.Unavailable = true
is_refused _ = false

-- how many steps a log has
abbrev pub steps_recorded : List Logged → ℕ
steps_recorded log = count_by (λ x. is_step x.event) log

-- how many requests of a log were executed
abbrev pub executed_in : List Logged → ℕ
executed_in log = count_by (λ x. is_executed x.answer) log

-- how many requests of a log were refused
abbrev pub refused_in : List Logged → ℕ
refused_in log = count_by (λ x. is_refused x.answer) log

-- The books have what was recorded since the board was opened: steps, requests that were executed, and requests that
-- were refused.
pub record IsBooked (opened now : State) (steps executed refused : ℕ) : Type 0 where
  pub since : List Logged
  pub log : now.log ≡ opened.log ++ since
  pub steps_are : steps ≡ steps_recorded since
  pub executed_are : executed ≡ executed_in since
  pub refused_are : refused ≡ refused_in since

-- what the answer to a step does to the count of its runner, if the stream had finished before or had not: it rises by
-- one with Moved, with Lost, and with the first Done, and otherwise it stays
abbrev pub Counts : Bool → Played → ℕ → ℕ → Type 0
Counts ended played.Moved old new = new ≡ old + 1
Counts ended played.Lost old new = new ≡ old + 1
Counts ended played.Done old new = new ≡ old + bit (not ended)
Counts ended _ old new = new ≡ old

-- what the answer to a request adds to the caller's count of requests that were executed
abbrev pub executes : Answer → ℕ
executes (Executed server) = 1
executes _ = 0

-- what it adds to the caller's count of requests that were refused
abbrev pub refuses : Answer → ℕ
refuses NotOwner = 1
refuses Unavailable = 1
refuses _ = 0
