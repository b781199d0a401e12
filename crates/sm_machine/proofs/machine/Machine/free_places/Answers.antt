-- The places that a machine counts as free are those of the state.
use Rattle.std.proofs.Common.{◌≡◌, ◌∙◌, subst}
use Rattle.sm_protocol.specs.State.{free_places}
use Rattle.sm_machine.specs.State.{whole_of}
use Rattle.sm_machine.proofs.machine.Machine.free_places.Goals as goal

pub returns : goal.returns
returns c = subst (λ m. c.free.result ≡ free_places (whole_of m).state) c.self.view_is (c.free.ensures ∙ c.self.invariant.counted.places)
