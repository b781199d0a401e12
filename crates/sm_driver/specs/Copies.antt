-- Copies: how many replicas of each shard surely have every acknowledged write, as far as it was told, and what a
-- reopening keeps of it.
use Rattle.std.specs.Prelude.{◌≡◌, ℕ, ◌==◌, ◌&&◌, ◌||◌, Bool, false, not, Option, Some, None, List, map, nat_le, nat_lt}
use Rattle.std.specs.Prelude.{slice_index_or, slice_set, if◌then◌else◌}
use Rattle.std.specs.List.{list_any, range_with_len}
use Rattle.sm_placement.specs.Opening.{is_handing}
use Rattle.sm_placement.specs.Setup.{Setup, no_shard}
use Rattle.sm_placement.specs.Sums.{any_below}
use Rattle.laws_network.specs.Net.{Order, order_of}
use Rattle.sm_driver.specs.declared.copies.CopiesEffect.{CopiesEffect}
use Rattle.sm_driver.specs.declared.copies.CopiesEffect.TheVariants.{AboveWant, Noted, Old}
use Rattle.sm_driver.specs.declared.copies.ToldCopies.{ToldCopies}
use Rattle.sm_driver.specs.Driver.{DriverModel, base, record_of}
use Rattle.sm_driver.specs.Orders.{awaiting_of}

-- how many replicas of a shard surely have each acknowledged write: 1 unless more were told
abbrev pub copies_of : DriverModel → ℕ → ℕ
copies_of d s = slice_index_or d.copies s 1

-- how many replicas a configuration wants of a shard
abbrev pub shard_want : Setup → ℕ → ℕ
shard_want setup s = (slice_index_or setup.shards s no_shard).want

-- they were told to this journal, behind its last reopening
abbrev pub is_told_now : DriverModel → ToldCopies → Bool
is_told_now d told = (told.journal == d.journal) && (told.fence == d.fence)

-- what comes of copies that are told: they are old if they were told to another journal, or before its last reopening,
-- or if as many are recorded already
abbrev pub copies_effect : DriverModel → ℕ → ToldCopies → CopiesEffect
copies_effect d s told =
    if not (is_told_now d told) || nat_le told.copies (copies_of d s) then Old
    else if nat_lt (shard_want d.machine.placement.setup s) told.copies then AboveWant
    else Noted

-- This number of copies of a shard is recorded now.
abbrev pub HasNotedCopies : ℕ → ℕ → DriverModel → DriverModel → Type 0
HasNotedCopies s copies old new = new ≡ record old { copies = slice_set old.copies s copies }

-- an order is for this shard
abbrev pub is_order_for : ℕ → Option Order → Bool
is_order_for s None = false
is_order_for s (Some order) = order.call.shard == s

-- some stream stands before an order for the shard
abbrev pub is_ordered : DriverModel → ℕ → Bool
is_ordered d s = list_any (λ id. is_order_for s (order_of (base d) (record_of d) id)) (awaiting_of (record_of d))

-- a handover of the shard is recorded
abbrev pub is_handed_over : DriverModel → ℕ → Bool
is_handed_over d s = any_below (record_of d).sizes.servers (λ v. is_handing ((record_of d).place.cells s v))

-- an order for the shard is present, or a handover of it is recorded
abbrev pub is_moving : DriverModel → ℕ → Bool
is_moving d s = is_ordered d s || is_handed_over d s

-- what a reopening keeps of the copies, by the shards' numbers: 1 of those that are moving
abbrev pub kept_copies : DriverModel → List ℕ
kept_copies d = map (λ s. if is_moving d s then 1 else copies_of d s) (range_with_len 0 (record_of d).sizes.shards)
