-- The effect of an instruction on a placement.
use Rattle.std.specs.Prelude.{ℕ, ◌+◌, Option, Some, None, Result, Ok, Err}
use Rattle.sm_server.specs.declared.call.Role.{Role}
use Rattle.sm_server.specs.declared.call.Role.TheVariants.{Primary, Secondary}
use Rattle.sm_server.specs.declared.call.Call.TheVariants as call
use Rattle.sm_server.specs.declared.call.Refusal.{Refusal}
use Rattle.sm_placement.specs.declared.lead.Lead.{Lead}
use Rattle.sm_placement.specs.Sums.{put}
use Rattle.sm_placement.specs.Setup.{Sizes}
use Rattle.sm_placement.specs.Place.{Place, called, publish}
use Rattle.sm_placement.specs.Lead.{lead_of}
use Rattle.sm_plan_code.specs.declared.call.ServerCall.{ServerCall}
use Rattle.sm_plan_code.specs.declared.instruction.Instr.{Instr}
use Rattle.sm_plan_code.specs.declared.instruction.Instr.TheVariants.{PrepareAdd, PrepareDrop, Add, Drop, Change}
use Rattle.sm_plan_code.specs.declared.instruction.Instr.TheVariants.{Publish, Unlist, Signal, Wait}
use Rattle.sm_plan_code.specs.Instr.{shard_of}
use Rattle.sm_plan_code.specs.After.{to_list}

-- the role that isn't this one
abbrev pub other_role : Role → Role
other_role Primary = Secondary
other_role Secondary = Primary

-- The call of an instruction, under the shard's highest handover number once the instruction is made: a prepare_add and
-- a prepare_drop carry it.
abbrev pub call_of : Instr → ℕ → Option ServerCall
call_of (PrepareAdd s v u) number = Some (record { shard = s; server = v; call = call.PrepareAdd u number })
call_of (PrepareDrop s u v) number = Some (record { shard = s; server = u; call = call.PrepareDrop v number })
call_of (Add s v role) number = Some (record { shard = s; server = v; call = call.Add role })
call_of (Drop s v) number = Some (record { shard = s; server = v; call = call.Drop })
call_of (Change s v to) number = Some (record { shard = s; server = v; call = call.Change (other_role to) to })
call_of (Publish s) number = None
call_of (Unlist s) number = None
call_of (Signal k) number = None
call_of (Wait k) number = None

-- the shard's highest handover number once an instruction is made, if it is n before: a prepare_add has a new one
abbrev pub number_after : Instr → ℕ → ℕ
number_after (PrepareAdd s v u) n = n + 1
number_after _ n = n

-- the highest handover numbers of all shards once an instruction is made
abbrev pub numbers_after : (ℕ → ℕ) → Instr → ℕ → ℕ
numbers_after numbers (PrepareAdd s v u) = put numbers s (numbers s + 1)
numbers_after numbers _ = numbers

-- the call of an instruction, if these are the highest handover numbers before it
abbrev pub next_call : (ℕ → ℕ) → Instr → Option ServerCall
next_call numbers i = numbered_call i (shard_of i)
  where
    numbered_call : Instr → Option ℕ → Option ServerCall
    numbered_call i None = None
    numbered_call i (Some s) = call_of i (number_after i (numbers s))

-- the call of an instruction for this shard, if it has had its effect: the handover that it began or went on with has
-- the shard's highest number by now
abbrev pub call_again : (ℕ → ℕ) → Instr → Option ℕ → Option ServerCall
call_again numbers i None = None
call_again numbers i (Some s) = call_of i (numbers s)

-- the placement after a call that is served, with the highest handover numbers
abbrev pub moved : Result Place Refusal → (ℕ → ℕ) → Option (Place × (ℕ → ℕ))
moved (Ok p) numbers = Some (p, numbers)
moved (Err why) numbers = None

-- the placement after a call, with the highest handover numbers
abbrev pub calls : Sizes → Place → (ℕ → ℕ) → Option ServerCall → Option (Place × (ℕ → ℕ))
calls c p numbers None = None
calls c p numbers (Some x) = moved (called c p x.shard x.server x.call) numbers

-- the placement after a publication of the server that serves, if a lead describes the shard's cells
abbrev pub publishes : Place → ℕ → Option Lead → (ℕ → ℕ) → Option (Place × (ℕ → ℕ))
publishes p s None numbers = None
publishes p s (Some lead) numbers = Some (publish p s (to_list lead), numbers)

-- The placement and the highest handover numbers after an instruction is made; none if its call is refused, and at a
-- publish if no lead describes the cells.
abbrev pub acts : Sizes → Place → (ℕ → ℕ) → Instr → Option (Place × (ℕ → ℕ))
acts c p numbers (PrepareAdd s v u) = calls c p (numbers_after numbers (PrepareAdd s v u)) (next_call numbers (PrepareAdd s v u))
acts c p numbers (PrepareDrop s u v) = calls c p (numbers_after numbers (PrepareDrop s u v)) (next_call numbers (PrepareDrop s u v))
acts c p numbers (Add s v role) = calls c p (numbers_after numbers (Add s v role)) (next_call numbers (Add s v role))
acts c p numbers (Drop s v) = calls c p (numbers_after numbers (Drop s v)) (next_call numbers (Drop s v))
acts c p numbers (Change s v to) = calls c p (numbers_after numbers (Change s v to)) (next_call numbers (Change s v to))
acts c p numbers (Publish s) = publishes p s (lead_of c.servers (p.cells s)) numbers
acts c p numbers (Unlist s) = Some (publish p s None, numbers)
acts c p numbers (Signal k) = Some (p, numbers)
acts c p numbers (Wait k) = Some (p, numbers)
