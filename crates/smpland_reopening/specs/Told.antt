-- What servers have told at their fences.
use Rattle.std.specs.Prelude.{ℕ, Bool, false, not}
use Rattle.std.specs.Option.{option_map_or}
use Rattle.sm_server.specs.Cell.{is_absent}
use Rattle.sm_reopening.specs.Ongoing.{told_slot}
use Rattle.smpland_reopening.specs.Reopening.{ReopeningModel}

-- the server has told that it has something of the shard
abbrev pub has_told_of : ReopeningModel → ℕ → ℕ → Bool
has_told_of r v s = option_map_or (λ slot. not (is_absent slot.cell)) (told_slot r.ongoing s v) false
