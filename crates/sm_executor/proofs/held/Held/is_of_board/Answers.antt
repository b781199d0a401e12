-- The machine is at a state of the board, and the words are of the board's configuration.
use Rattle.std.proofs.Common.{◌∙◌, ap, length, subst}
use Rattle.sm_placement.specs.Setup.{Setup, Sizes}
use Rattle.sm_protocol.specs.Laws.{IsReached}
use Rattle.sm_machine.specs.State.{state_of}
use Rattle.sm_machine.proofs.HandPlays.{sizes_are}
use Rattle.sm_executor.specs.Closed.{IsBoardState}
use Rattle.sm_executor.specs.Views.{HeldModel, state_in}
use Rattle.sm_executor.proofs.held.Held.is_of_board.Goals as goal

pub returns-clause-state : goal.returns-clause-state
returns-clause-state g c =
    subst (λ (h : HeldModel). IsBoardState g.N.Naming.setup g.N.Naming.opened (state_in h)) c.self.view_is
    (record { reached = subst (λ (s : Setup). IsReached s (state_of c.self.inside.machine)) c.self.invariant.12 c.is_reached.ensures; goes_on = c.self.invariant.14 })

pub returns-clause-shards : goal.returns-clause-shards
returns-clause-shards g c =
    c.self.invariant.0.shards ∙ ap (λ (s : Sizes). s.shards) (sizes_are c.self.inside.machine) ∙ ap (λ (s : Setup). length s.shards) c.self.invariant.12

pub returns-clause-servers : goal.returns-clause-servers
returns-clause-servers g c =
    c.self.invariant.0.servers ∙ ap (λ (s : Sizes). s.servers) (sizes_are c.self.inside.machine) ∙ ap (λ (s : Setup). length s.servers) c.self.invariant.12
