-- A command writes exactly what its contract says.
use Rattle.std.proofs.Common.{◌≡◌, ℕ, Bool, true, Option, None, Result, Ok, Err, refl, subst}
use Rattle.std.specs.Prelude.{IfOk, OnOk}
use Rattle.sm_plan_code.specs.Plan.{PlanModel}
use Rattle.sm_driver.specs.declared.copies.CopiesEffect.{CopiesEffect}
use Rattle.sm_driver.specs.declared.copies.CopiesEffect.TheVariants.{Noted}
use Rattle.sm_driver.specs.Copies.{HasNotedCopies}
use Rattle.sm_driver.specs.Driver.{DriverModel, HasApproved, HasBegunPlan, HasCome, HasRestored}
use Rattle.sm_driver.specs.Epochs.{HasOpenedEpoch, epoch_fault}
use Rattle.sm_driver.specs.declared.restart.RestartEffect.{RestartEffect}
use Rattle.sm_driver.specs.declared.restart.RestartEffect.TheVariants.{Up}
use Rattle.laws_driver.specs.Control.{ApproveRestart, BeginPlan, EndRestart, IsWritten, NoteCopies, OpenEpoch, RestoreServer}

-- a plan that has begun
pub begun_written : {E : Type 0} (plan : PlanModel) (old new : DriverModel) (r : Result ℕ E) → IfOk r (λ number. HasBegunPlan plan number old new) → IfOk r (λ number. IsWritten (BeginPlan plan) old new)
begun_written plan old new (Ok number) h = (_, (number, h, refl))
begun_written plan old new (Err why) h = h

-- an approval
pub approved_written : {E : Type 0} (v : ℕ) (old new : DriverModel) (r : Result ℕ E) → IfOk r (λ permit. HasApproved v permit old new) → IfOk r (λ permit. IsWritten (ApproveRestart v) old new)
approved_written v old new (Ok permit) h = (_, (permit, h, refl))
approved_written v old new (Err why) h = h

-- the end of a restart
pub come_written : (permit : ℕ) (server_base : Option ℕ) (old new : DriverModel) (r : RestartEffect) → HasCome r permit server_base old new → (v : ℕ) → r ≡ Up v →
    IsWritten (EndRestart permit server_base) old new
come_written permit server_base old new r h v e = (_, (v, subst (λ x. HasCome x permit server_base old new) e h, refl))

-- a restore
pub restored_written : {E : Type 0} (v nonce : ℕ) (old new : DriverModel) (r : Result Bool E) → IfOk r (λ is_new. is_new ≡ true → HasRestored v nonce old new) →
    IfOk r (λ is_new. is_new ≡ true → IsWritten (RestoreServer v nonce) old new)
restored_written v nonce old new (Ok is_new) h = λ e. (_, (h e, refl))
restored_written v nonce old new (Err why) h = h

-- copies
pub noted_written : (s copies : ℕ) (old new : DriverModel) (effect : CopiesEffect) → (effect ≡ Noted → HasNotedCopies s copies old new) →
    effect ≡ Noted → IsWritten (NoteCopies s copies) old new
noted_written s copies old new effect h e = (_, (h e, refl))

-- the next epoch
pub opened_written : {A E : Type 0} (old new : DriverModel) (r : Result A E) → OnOk r (HasOpenedEpoch old new) → OnOk r (epoch_fault old ≡ None) → OnOk r (IsWritten OpenEpoch old new)
opened_written old new (Ok a) h fits = (_, (h, fits, refl))
opened_written old new (Err why) h fits = h
