-- The headline, the law on losses, and the law on who executes a request, of a machine as it stands.
use Rattle.std.proofs.Common.{subst}
use Rattle.std.specs.Prelude.{[]}
use Rattle.sm_protocol.proofs.Onward.{with_losses, headline}
use Rattle.sm_protocol.proofs.Passable.{executed_serves}
use Rattle.sm_machine.specs.State.{whole_of}
use Rattle.sm_machine.specs.Working.{IsWorking}
use Rattle.sm_machine.proofs.machine.Machine.is_safe.Goals as goal

pub returns-clause-served : goal.returns-clause-served
returns-clause-served c =
    let g : IsWorking (whole_of c.args.self.now) = subst (λ m. IsWorking (whole_of m)) c.self.view_is c.self.invariant in
    (with_losses (whole_of c.args.self.now).setup (whole_of c.args.self.now).state g.reached).0

pub returns-clause-safe : goal.returns-clause-safe
returns-clause-safe c =
    let g : IsWorking (whole_of c.args.self.now) = subst (λ m. IsWorking (whole_of m)) c.self.view_is c.self.invariant in
    (with_losses (whole_of c.args.self.now).setup (whole_of c.args.self.now).state g.reached).1

pub returns-clause-onward : goal.returns-clause-onward
returns-clause-onward c =
    let g : IsWorking (whole_of c.args.self.now) = subst (λ m. IsWorking (whole_of m)) c.self.view_is c.self.invariant in
    (with_losses (whole_of c.args.self.now).setup (whole_of c.args.self.now).state g.reached).2

pub returns-clause-unlost : goal.returns-clause-unlost
returns-clause-unlost c none =
    let g : IsWorking (whole_of c.args.self.now) = subst (λ m. IsWorking (whole_of m)) c.self.view_is c.self.invariant in
    (headline (whole_of c.args.self.now).setup (whole_of c.args.self.now).state [] g.reached none tt tt).3

pub returns-clause-executed : goal.returns-clause-executed
returns-clause-executed c =
    let g : IsWorking (whole_of c.args.self.now) = subst (λ m. IsWorking (whole_of m)) c.self.view_is c.self.invariant in
    executed_serves (whole_of c.args.self.now).setup (whole_of c.args.self.now).state g.reached
