-- Assignments of C, and what they make of all that a server has.
use Rattle.std.specs.Prelude.{ℕ, ◌==◌, not, List, map, filter_map, Option, Some, None, is_some, Result, Ok, Err}
use Rattle.std.specs.Prelude.{option_map, if◌then◌else◌}
use Rattle.std.specs.List.{list_all}
use Rattle.sm_agent.specs.declared.base.Base.{Base}
use Rattle.sm_agent.specs.declared.base.Reception.{Reception}
use Rattle.sm_agent.specs.declared.base.Reception.TheVariants.{Taken}
use Rattle.sm_agent.specs.declared.slot.Slot.{Slot}
use Rattle.sm_agent.specs.declared.assignment.Assignment.{Assignment}
use Rattle.sm_agent.specs.declared.assignment.Assignment.TheVariants.{Settle, Restore}
use Rattle.sm_agent.specs.declared.assignment.Part.{Part}
use Rattle.sm_agent.specs.declared.assignment.ShardSlot.{ShardSlot}
use Rattle.sm_agent.specs.declared.assignment.Incomplete.{Incomplete}
use Rattle.sm_agent.specs.Assignment.{assigned, assigned_shard, count_brought}
use Rattle.sm_agent.specs.Order.{vacant}
use Rattle.sm_agent_c.specs.declared.code.TheConstants as code
use Rattle.sm_agent_c.specs.declared.base.RawBase.{RawBase}
use Rattle.sm_agent_c.specs.declared.slot.RawSlot.{RawSlot}
use Rattle.sm_agent_c.specs.declared.slot.Reading.{Reading}
use Rattle.sm_agent_c.specs.declared.slot.Reading.TheVariants.{Bad, Unknown, Known}
use Rattle.sm_agent_c.specs.declared.assignment.RawAssignment.{RawAssignment}
use Rattle.sm_agent_c.specs.declared.assignment.RawShardSlot.{RawShardSlot}
use Rattle.sm_agent_c.specs.Base.{base_of, reception_answer}
use Rattle.sm_agent_c.specs.Code.{is_flag, number_if}
use Rattle.sm_agent_c.specs.Slot.{raw_cell, slot_of, written_slot}

-- what an assignment of C stands for, if its kind and flag are in range
abbrev pub assignment_of : RawAssignment → Option Assignment
assignment_of raw =
    if not (is_flag raw.has_nonce) then None
    else if raw.kind == code.SETTLE
    then Some (Settle (record { reopening = record { journal = raw.journal; number = raw.number }; nonce = number_if raw.has_nonce raw.nonce }))
    else if raw.kind == code.RESTORE
    then Some (Restore (record { journal = raw.journal; fence = raw.fence; number = raw.number; nonce = raw.nonce }))
    else None

-- the part of an assignment that a slot of C stands for, if its kind of cell is in range
abbrev pub raw_part : RawSlot → Option Part
raw_part raw = option_map (λ cell. record { cell = cell; load = raw.load }) (raw_cell raw.cell raw.party raw.handover)

-- a shard with what is brought of it: zeros bring nothing
abbrev with_part : RawSlot → Slot → Option ShardSlot
with_part raw slot =
    if raw.cell == code.UNKNOWN then Some (record { slot = slot; brought = None })
    else option_map (λ part. record { slot = slot; brought = Some part }) (raw_part raw)

-- a shard, by the slot that the server has of it: zeros are as good as none
abbrev by_slot : RawSlot → Reading → Option ShardSlot
by_slot brought Bad = None
by_slot brought Unknown = with_part brought vacant
by_slot brought (Known slot) = with_part brought slot

-- what a shard of C stands for, if its kinds and its flag are in range
abbrev pub raw_shard : RawShardSlot → Option ShardSlot
raw_shard raw = by_slot raw.brought (slot_of raw.slot)

-- what becomes of an assignment that brings a number of slots, if all kinds and flags are in range
abbrev result_by : Option Base → Option Assignment → ℕ → List RawShardSlot → Option (Result Reception Incomplete)
result_by (Some base) (Some assignment) brought raws =
    if list_all (λ raw. is_some (raw_shard raw)) raws then Some (assigned base assignment brought (count_brought (filter_map raw_shard raws))) else None
result_by _ _ brought raws = None

-- what becomes of an assignment at a server with this base and these shards
abbrev pub take_result : RawBase → RawAssignment → List RawShardSlot → Option (Result Reception Incomplete)
take_result base assignment raws = result_by (base_of base) (assignment_of assignment) assignment.slots raws

-- the answer to an assignment
abbrev pub take_answer : Option (Result Reception Incomplete) → ℕ
take_answer None = code.BAD
take_answer (Some (Err incomplete)) = code.INCOMPLETE
take_answer (Some (Ok reception)) = reception_answer (Some reception)

-- what an assignment that is whole is received as
abbrev pub reception_within : Option (Result Reception Incomplete) → Option Reception
reception_within (Some (Ok reception)) = Some reception
reception_within _ = None

-- the slot of a shard is written as the assignment leaves it
abbrev with_slot : Base → RawShardSlot → Option ShardSlot → RawShardSlot
with_slot base raw None = raw
with_slot base raw (Some shard) = record raw { slot = written_slot (assigned_shard base shard).slot }

-- a shard once its server has taken an assignment
abbrev pub raw_assigned : Base → RawShardSlot → RawShardSlot
raw_assigned base raw = with_slot base raw (raw_shard raw)

-- all shards, if a server with this base takes the assignment
abbrev if_taken : Option Base → Option (Result Reception Incomplete) → List RawShardSlot → List RawShardSlot
if_taken (Some base) (Some (Ok (Taken next))) raws = map (raw_assigned base) raws
if_taken _ _ raws = raws

-- all shards of a server once this has become of an assignment: each of them is changed, or none is
abbrev pub shards_after : RawBase → Option (Result Reception Incomplete) → List RawShardSlot → List RawShardSlot
shards_after base result raws = if_taken (base_of base) result raws
