-- Assignments: what a settle or a restore makes of all that a server has.
use Rattle.std.specs.Prelude.{ℕ, ◌==◌, List, map, Option, Some, None, is_some, Result, Ok, Err, count_by, if◌then◌else◌}
use Rattle.sm_server.specs.declared.call.Cell.TheVariants.{Absent}
use Rattle.sm_agent.specs.declared.base.Base.{Base}
use Rattle.sm_agent.specs.declared.base.Reception.{Reception}
use Rattle.sm_agent.specs.declared.base.Reception.TheVariants.{Taken}
use Rattle.sm_agent.specs.declared.slot.Slot.{Slot}
use Rattle.sm_agent.specs.declared.assignment.Assignment.{Assignment}
use Rattle.sm_agent.specs.declared.assignment.Assignment.TheVariants.{Settle, Restore}
use Rattle.sm_agent.specs.declared.assignment.Part.{Part}
use Rattle.sm_agent.specs.declared.assignment.ShardSlot.{ShardSlot}
use Rattle.sm_agent.specs.declared.assignment.Incomplete.{Incomplete}
use Rattle.sm_agent.specs.Base.{lacks_slots, restored, settled}
use Rattle.sm_agent.specs.Order.{placed, vacant}

-- what a server makes of an assignment, if it is given all that it brings
abbrev pub reception_of : Base → Assignment → Reception
reception_of base (Settle settlement) = settled base settlement
reception_of base (Restore restoration) = restored base restoration

-- nothing is taken of an assignment by parts
abbrev pub taken_whole : ℕ → ℕ → Reception → Result Reception Incomplete
taken_whole brought given (Taken next) = if brought == given then Ok (Taken next) else Err (record { brought = brought; given = given })
taken_whole brought given reception = Ok reception

-- what a server makes of an assignment that brings a number of slots, if it is given so many of them
abbrev pub assigned : Base → Assignment → ℕ → ℕ → Result Reception Incomplete
assigned base assignment brought given = taken_whole brought given (reception_of base assignment)

-- the server's slot of a shard; an Unknown server has none
abbrev pub kept_slot : Base → Slot → Slot
kept_slot base slot = if lacks_slots base then vacant else slot

-- a slot becomes what is brought of its shard, and absent if nothing is
abbrev pub replaced_by : Option Part → Slot → Slot
replaced_by None slot = placed slot Absent 0
replaced_by (Some part) slot = placed slot part.cell part.load

-- a shard once its server has taken an assignment
abbrev pub assigned_shard : Base → ShardSlot → ShardSlot
assigned_shard base shard = record shard { slot = replaced_by shard.brought (kept_slot base shard.slot) }

-- for how many of these shards a slot is brought
abbrev pub count_brought : List ShardSlot → ℕ
count_brought shards = count_by (λ shard. is_some shard.brought) shards

-- all shards of a server once an assignment is received: each of them is changed, or none is
abbrev pub assigned_shards : Base → Result Reception Incomplete → List ShardSlot → List ShardSlot
assigned_shards base (Ok (Taken next)) shards = map (assigned_shard base) shards
assigned_shards base _ shards = shards
