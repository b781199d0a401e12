use Rattle.std.proofs.Common.{◌≡◌, map, take}
use Rattle.sm_machine.specs.Starts.{ready_signal}
use Rattle.sm_machine.proofs.ready_plan.make_signals.Given as goal

abbrev pub invariant-loop-parcel : goal.invariant-loop-parcel
invariant-loop-parcel l = l.signals.items ≡ map ready_signal (take l.parcel-index l.parcels)
