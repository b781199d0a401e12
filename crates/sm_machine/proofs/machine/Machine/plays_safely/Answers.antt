-- The laws of the protocol, said of each front of the list.
use Rattle.std.proofs.Common.{◌≡◌, ℕ, Some, None, subst}
use Rattle.std.specs.Prelude.{slice_index_or}
use Rattle.sm_placement.specs.Setup.{sizes_of}
use Rattle.sm_verifier.specs.Checked.{CheckedModel}
use Rattle.sm_protocol.specs.Laws.{IsCheckedPlan}
use Rattle.sm_machine.proofs.HandPlays.{front_played}
use Rattle.sm_machine.proofs.machine.Machine.plays_safely.Goals as goal

pub returns : goal.returns
returns c =
    front_played c.args.self.now c.args.hand.now c.args.events.now c.is_reached.ensures c.requires.names c.requires.plans (subst (λ ps. (place : ℕ) (p : CheckedModel) → slice_index_or ps place None ≡ Some p → IsCheckedPlan (sizes_of p.setup) p.plan) c.as_slice.ensures.value c.token_room-tokens.ensures.checked)
