-- Answers, flags and optional numbers as C has them.
use Rattle.std.specs.Prelude.{ℕ, ◌==◌, Bool, nat_le, Option, Some, None, if◌then◌else◌}
use Rattle.sm_server.specs.declared.call.Refusal.TheVariants.{Down, AlreadyHeld, NotHeld, WrongRole, NoRoom}
use Rattle.sm_agent.specs.declared.order.Verdict.{Verdict}
use Rattle.sm_agent.specs.declared.order.Verdict.TheVariants.{Begin, Working, Again, Old, Foreign, NotReady, Refused}
use Rattle.sm_agent_c.specs.declared.code.TheConstants.{BEGIN, WORKING, AGAIN, OLD, FOREIGN, NOT_READY, DOWN}
use Rattle.sm_agent_c.specs.declared.code.TheConstants.{ALREADY_HELD, NOT_HELD, WRONG_ROLE, NO_ROOM, DONE, NOT_DONE}

-- the number of a verdict
abbrev pub verdict_code : Verdict → ℕ
verdict_code Begin = BEGIN
verdict_code Working = WORKING
verdict_code Again = AGAIN
verdict_code Old = OLD
verdict_code Foreign = FOREIGN
verdict_code NotReady = NOT_READY
verdict_code (Refused Down) = DOWN
verdict_code (Refused AlreadyHeld) = ALREADY_HELD
verdict_code (Refused NotHeld) = NOT_HELD
verdict_code (Refused WrongRole) = WRONG_ROLE
verdict_code (Refused NoRoom) = NO_ROOM

-- a flag is 0 or 1
abbrev pub is_flag : ℕ → Bool
is_flag flag = nat_le flag 1

-- the flag of a fact
abbrev pub flag_of : Bool → ℕ
flag_of fact = if fact then 1 else 0

-- a number that is there if its flag is not 0
abbrev pub number_if : ℕ → ℕ → Option ℕ
number_if flag number = if flag == 0 then None else Some number

-- whether something is so, or was done
abbrev pub done_if : Bool → ℕ
done_if fact = if fact then DONE else NOT_DONE
