-- Audits as the code keeps them.
-- `IsAuditOf` and `HasSides` are internal: you need not read them for the public contracts.
use Rattle.std.specs.Prelude.{◌≡◌, ℕ, List}
use Rattle.std.specs.List.{filter}
use Rattle.smpland_lines.specs.declared.slots.SlotText.{SlotText}
use Rattle.smpland_state.specs.declared.audit.Audit.{Audit}
use Rattle.smpland_state.specs.declared.journal_state.JournalState.{JournalState}
use Rattle.smpland_state.specs.Audit.{audited_slots, is_unknown_shard, streams_to}

-- the audit is of this server of a journal, whose slots were read at a place
pub record IsAuditOf (o : JournalState) (v at : ℕ) (audit : Audit) : Type 0 where
  pub opened : audit.opened.now ≡ o
  pub server : audit.server ≡ v
  pub place : audit.place ≡ at

-- the two sides of each shard are the slots and the present orders, and the unknown shards are those of the slots
pub record HasSides (o : JournalState) (v : ℕ) (slots : List SlotText) (audit : Audit) : Type 0 where
  pub told : audit.told.items ≡ audited_slots o.driver.machine.placement.setup slots
  pub streams : audit.streams.items ≡ streams_to o.driver v
  pub unknown_shards : audit.unknown_shards.items ≡ filter (is_unknown_shard o.driver.machine.placement.setup) slots
