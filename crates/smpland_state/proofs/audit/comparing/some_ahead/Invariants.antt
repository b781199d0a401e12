use Rattle.std.proofs.Common.{◌≡◌, None, take}
use Rattle.std.specs.List.{list_any}
use Rattle.smpland_state.specs.Audit.{is_slot_ahead}
use Rattle.smpland_state.proofs.audit.comparing.some_ahead.Given as goal

-- some of the slots so far
abbrev pub invariant-loop-slot : goal.invariant-loop-slot
invariant-loop-slot l = l.found ≡ list_any (is_slot_ahead l.driver None) (take l.slot-index l.slots)
