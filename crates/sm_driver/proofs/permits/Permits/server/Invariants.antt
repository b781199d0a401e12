use Rattle.std.proofs.Common.{Some, None, length}
use Rattle.std.specs.Prelude.{if◌then◌else◌}
use Rattle.laws_network.specs.Controller.{is_permitted}
use Rattle.sm_machine.proofs.Engaged.{IsLeft}
use Rattle.sm_driver.specs.Permits.{permit_of}
use Rattle.sm_driver.proofs.permits.Permits.server.Given as goal

-- no server so far has the permit
abbrev pub invariant-loop-number : goal.invariant-loop-number
invariant-loop-number l = IsLeft (λ v. if is_permitted (permit_of l.self v) l.permit then Some v else None) (length l.self) l.number
