-- Every machine keeps what the search asks for.
use Rattle.sm_machine.proofs.machine.Machine.engaged.Goals as goal

pub engaged-requires : goal.engaged-requires
engaged-requires c = c.self.invariant
