-- An inventory as the code keeps it.
-- `HasEachSlot` is internal: you need not read it for the public contracts.
use Rattle.std.specs.Prelude.{◌≡◌, ℕ}
use Rattle.sm_reopening.specs.States.{slot_of}
use Rattle.sm_reopening.specs.declared.party.FoundSlot.{FoundSlot}
use Rattle.sm_reopening.specs.declared.party.Inventory.{Inventory}
use Rattle.sm_reopening.specs.declared.party.Inventory.TheVariants as told

-- the inventory has these slots
abbrev pub HasEachSlot : (ℕ → FoundSlot) → Inventory → Type 0
HasEachSlot slots (told.Slots found) = (s : ℕ) → slot_of found s ≡ slots s
HasEachSlot slots (told.Unknown nonce) = ⊥
