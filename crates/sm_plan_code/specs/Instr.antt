-- Instructions: which of them are calls, and which servers they mention.
use Rattle.std.specs.Prelude.{◌≡◌, ◌⊎◌, ◌||◌, ℕ, Bool, true, false, not, Option, Some, None}
use Rattle.sm_reservation.specs.Amounts.{same_listed}
use Rattle.sm_plan_code.specs.declared.instruction.Instr.{Instr}
use Rattle.sm_plan_code.specs.declared.instruction.Instr.TheVariants.{PrepareAdd, PrepareDrop, Add, Drop, Change}
use Rattle.sm_plan_code.specs.declared.instruction.Instr.TheVariants.{Publish, Unlist, Signal, Wait}
use Rattle.sm_plan_code.specs.declared.instruction.NamedServers.{NamedServers}

-- the instruction is a call at a server
abbrev pub is_call : Instr → Bool
is_call (PrepareAdd s v u) = true
is_call (PrepareDrop s u v) = true
is_call (Add s v role) = true
is_call (Drop s v) = true
is_call (Change s v role) = true
is_call (Publish s) = false
is_call (Unlist s) = false
is_call (Signal k) = false
is_call (Wait k) = false

-- the instruction is no call
abbrev pub is_no_call : Instr → Bool
is_no_call i = not (is_call i)

-- the servers that it mentions: the one at which the call is made, and the other one of a handover
abbrev pub names_of : Instr → NamedServers
names_of (PrepareAdd s v u) = record { first = Some v; second = Some u }
names_of (PrepareDrop s u v) = record { first = Some u; second = Some v }
names_of (Add s v role) = record { first = Some v; second = None }
names_of (Drop s v) = record { first = Some v; second = None }
names_of (Change s v role) = record { first = Some v; second = None }
names_of (Publish s) = record { first = None; second = None }
names_of (Unlist s) = record { first = None; second = None }
names_of (Signal k) = record { first = None; second = None }
names_of (Wait k) = record { first = None; second = None }

-- the server is one of these
abbrev pub Mentions : NamedServers → ℕ → Type 0
Mentions names v = (names.first ≡ Some v) ⊎ (names.second ≡ Some v)

-- the instruction mentions the server
abbrev pub is_mentioned : ℕ → Instr → Bool
is_mentioned v i = same_listed (names_of i).first (Some v) || same_listed (names_of i).second (Some v)

-- the shard that it is of
abbrev pub shard_of : Instr → Option ℕ
shard_of (PrepareAdd s v u) = Some s
shard_of (PrepareDrop s u v) = Some s
shard_of (Add s v role) = Some s
shard_of (Drop s v) = Some s
shard_of (Change s v role) = Some s
shard_of (Publish s) = Some s
shard_of (Unlist s) = Some s
shard_of (Signal k) = None
shard_of (Wait k) = None

-- the instruction is neither a signal nor a wait
abbrev pub IsOwn : Instr → Type 0
IsOwn (Signal k) = ⊥
IsOwn (Wait k) = ⊥
IsOwn _ = Unit {0}
