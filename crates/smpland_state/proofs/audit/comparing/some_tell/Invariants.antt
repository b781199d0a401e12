use Rattle.std.proofs.Common.{◌≡◌, take}
use Rattle.std.specs.List.{list_any}
use Rattle.smpland_state.specs.Audit.{tells_something}
use Rattle.smpland_state.proofs.audit.comparing.some_tell.Given as goal

-- some of the slots so far
abbrev pub invariant-loop-slot : goal.invariant-loop-slot
invariant-loop-slot l = l.found ≡ list_any tells_something (take l.slot-index l.slots)
