-- Orders of C, and what a server makes of them.
use Rattle.std.specs.Prelude.{ℕ, ◌==◌, Option, Some, None, option_map, if◌then◌else◌}
use Rattle.sm_server.specs.declared.call.Role.{Role}
use Rattle.sm_server.specs.declared.call.Role.TheVariants.{Primary, Secondary}
use Rattle.sm_server.specs.declared.call.Call.{Call}
use Rattle.sm_server.specs.declared.call.Call.TheVariants.{Add, Drop, Change, PrepareAdd, PrepareDrop}
use Rattle.sm_agent.specs.declared.base.Base.{Base}
use Rattle.sm_agent.specs.declared.slot.Slot.{Slot}
use Rattle.sm_agent.specs.declared.order.Stamp.{Stamp}
use Rattle.sm_agent.specs.declared.order.Order.{Order}
use Rattle.sm_agent.specs.Order.{judged, committed, published, may_delete}
use Rattle.sm_agent_c.specs.declared.code.TheConstants as code
use Rattle.sm_agent_c.specs.declared.slot.RawSlot.{RawSlot}
use Rattle.sm_agent_c.specs.declared.slot.Reading.{Reading}
use Rattle.sm_agent_c.specs.declared.slot.Reading.TheVariants.{Unknown, Known}
use Rattle.sm_agent_c.specs.declared.order.RawOrder.{RawOrder}
use Rattle.sm_agent_c.specs.declared.order.RawPublication.{RawPublication}
use Rattle.sm_agent_c.specs.Code.{verdict_code, done_if}
use Rattle.sm_agent_c.specs.Slot.{written_slot}

-- the role of a kind
abbrev pub role_of : ℕ → Option Role
role_of kind = if kind == code.AS_PRIMARY then Some Primary else if kind == code.AS_SECONDARY then Some Secondary else None

-- a change from one role to another
abbrev change_of : Option Role → Option Role → Option Call
change_of (Some from) (Some to) = Some (Change from to)
change_of _ _ = None

-- the call of a kind
abbrev pub raw_call : RawOrder → Option Call
raw_call raw =
    if raw.call == code.ADD then option_map Add (role_of raw.role)
    else if raw.call == code.DROP then Some Drop
    else if raw.call == code.CHANGE then change_of (role_of raw.role) (role_of raw.new_role)
    else if raw.call == code.PREPARE_ADD then Some (PrepareAdd raw.party raw.handover)
    else if raw.call == code.PREPARE_DROP then Some (PrepareDrop raw.party raw.handover)
    else None

-- the order of a call
abbrev with_call : RawOrder → Call → Order
with_call raw call = record {
  stamp = record { journal = raw.journal; fence = raw.fence; number = raw.number };
  call = call;
  load = raw.load;
  room = raw.room;
}

-- what an order of C stands for, if its kinds are in range
abbrev pub raw_order : RawOrder → Option Order
raw_order raw = option_map (with_call raw) (raw_call raw)

-- a publication, by its version
abbrev pub stamp_read : RawPublication → Stamp
stamp_read raw = record { journal = raw.journal; fence = raw.fence; number = raw.version }

-- what a server makes of an order; zeros are the slot of an Unknown server
abbrev pub judge_answer : Option Base → Reading → ℕ → Option Order → ℕ
judge_answer (Some base) (Known slot) used (Some order) = verdict_code (judged base slot used order)
judge_answer (Some base) Unknown used (Some order) = code.NOT_READY
judge_answer _ _ used _ = code.BAD

-- what a commit answers, and the slot after it
abbrev committed_or_not : Option Slot → ℕ
committed_or_not None = code.NOT_DONE
committed_or_not (Some next) = code.DONE

-- what the commit of an order answers
abbrev pub commit_answer : Option Base → Reading → Option Order → ℕ → ℕ
commit_answer (Some base) (Known slot) (Some order) at = committed_or_not (committed base slot order at)
commit_answer (Some base) Unknown (Some order) at = code.NOT_READY
commit_answer _ _ _ at = code.BAD

-- the slot that is committed, or as it was
abbrev stored : RawSlot → Option Slot → RawSlot
stored raw None = raw
stored raw (Some next) = written_slot next

-- the slot once the order is committed
abbrev pub raw_committed : RawSlot → Option Base → Reading → Option Order → ℕ → RawSlot
raw_committed raw (Some base) (Known slot) (Some order) at = stored raw (committed base slot order at)
raw_committed raw _ _ _ at = raw

-- what the owner of the published map makes of a publication
abbrev pub publish_answer : Option Base → ℕ → Stamp → ℕ
publish_answer None shown stamp = code.BAD
publish_answer (Some base) shown stamp = verdict_code (published base shown stamp)

-- whether a slot may be deleted
abbrev pub may_delete_answer : Option Base → Reading → ℕ
may_delete_answer (Some base) (Known slot) = done_if (may_delete base slot)
may_delete_answer (Some base) Unknown = code.NOT_READY
may_delete_answer _ _ = code.BAD
