-- A machine keeps its configuration.
use Rattle.std.proofs.Common.{◌≡◌, ◌∙◌, ap}
use Rattle.std.specs.Prelude.{ℕ, Result, Ok, Err, IfOk, OnErr}
use Rattle.sm_placement.specs.Setup.{Setup}
use Rattle.sm_verifier.specs.Checked.{CheckedModel}
use Rattle.sm_protocol.specs.Laws.{IsReached}
use Rattle.sm_machine.specs.Machine.{MachineModel}
use Rattle.sm_machine.specs.State.{whole_of, state_of}
use Rattle.sm_machine.specs.Started.{IsStarted}
use Rattle.sm_machine.specs.Working.{IsWorking}

-- where the configuration of the whole stays, so does that of the placement
pub setup_kept : (m a n : MachineModel) → m ≡ a → (whole_of n).setup ≡ (whole_of m).setup → n.placement.setup ≡ a.placement.setup
unfolding whole_of
setup_kept m a n e s = s ∙ ap (λ (k : MachineModel). k.placement.setup) e

-- its configuration is that of the placement
pub setup_is : (m : MachineModel) (setup : Setup) → (whole_of m).setup ≡ setup → m.placement.setup ≡ setup
unfolding whole_of
setup_is m setup e = e

-- events led to its state from an opening of the placement's configuration
pub reached_is : (m : MachineModel) → IsWorking (whole_of m) → IsReached m.placement.setup (state_of m)
unfolding whole_of
reached_is m g = g.reached

-- whether the plan starts or not
pub setup_by : {A E : Type 0} (m n : MachineModel) (p : CheckedModel) (number : A → ℕ) (r : Result A E) → IfOk r (λ a. IsStarted (whole_of m) p (number a) (whole_of n)) → OnErr r (n ≡ m) → (whole_of n).setup ≡ (whole_of m).setup
setup_by m n p number (Ok a) s u = s.setup
setup_by m n p number (Err e) s u = ap (λ k. (whole_of k).setup) u
