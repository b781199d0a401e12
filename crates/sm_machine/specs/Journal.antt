-- The log as it is kept: what was recorded, how many places there are, and what lets a ticket be judged without reading
-- it. Public functions' contracts come to `JournalModel` alone. The others are internal: you need not read them for the
-- public contracts.
use Rattle.std.specs.Prelude.{◌≡◌, ◌≤◌, ◌<◌, ℕ, Bool, false, ◌||◌, List, Option, length, slice_index_or}
use Rattle.sm_protocol.specs.declared.event.Event.{Event}
use Rattle.sm_protocol.specs.declared.event.Logged.{Logged}
use Rattle.sm_protocol.specs.Ticket.{Ticket, passes, is_pass_on, is_passed_on}

-- A machine's log: the recorded events with their answers, and how many places there are for them.
pub record JournalModel : Type 0 where
  pub log : List Logged
  pub room : ℕ

-- the flag of a place, false beyond them
abbrev pub flag_at : List Bool → ℕ → Bool
flag_at flags place = slice_index_or flags place false

-- each flag of the new list is that of the old one, or the event passes on the request of its place
abbrev pub AreRaised : Event → List Bool → List Bool → Type 0
AreRaised event old new = (place : ℕ) → place < length old
    → flag_at new place ≡ (flag_at old place || is_pass_on place event)

-- what stands beside a log: the pass of each recorded event, and for each place whether its request was passed on
pub record IsIndexed (log : List Logged) (room : ℕ) (tickets : List (Option Ticket)) (flags : List Bool) : Type 0 where
  pub within : length log ≤ room
  pub passes : tickets ≡ passes log
  pub width : length flags ≡ room
  pub passed_on : (place : ℕ) → place < room → flag_at flags place ≡ is_passed_on log place
