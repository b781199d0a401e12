-- Drivers that are alike: to the same command they reply the same, and it makes drivers of them that are alike again.
use Rattle.std.specs.Prelude.{◌≡◌, ℕ, Option}
use Rattle.sm_reservation.specs.declared.stream_id.StreamId.{StreamId}
use Rattle.sm_plan_code.specs.Plan.{PlanModel}
use Rattle.sm_protocol.specs.Happens.{Approve, Begin, engaged, happens}
use Rattle.sm_driver.specs.declared.copies.ToldCopies.{ToldCopies}
use Rattle.sm_driver.specs.Copies.{HasNotedCopies, copies_effect, kept_copies}
use Rattle.sm_driver.specs.Driver.{DriverModel, HasApproved, HasBegunPlan, HasEndedRestart, HasRestored, HasTakenStep}
use Rattle.sm_driver.specs.Driver.{base, is_due, is_past, record_of}
use Rattle.sm_driver.specs.Epochs.{HasOpenedEpoch, epoch_fault}
use Rattle.sm_driver.specs.Orders.{message_of}
use Rattle.sm_driver.specs.Permits.{restart_effect, server_permitted}
use Rattle.sm_driver.specs.Restores.{is_last_restore}

-- The same is recorded of both, and all else is the same that contracts say of a driver.
pub record AreAlike (d e : DriverModel) : Type 0 where
  pub recorded : record_of e ≡ record_of d
  pub setup : e.machine.placement.setup ≡ d.machine.placement.setup
  pub journal : e.journal ≡ d.journal
  pub epoch : e.epoch ≡ d.epoch
  pub fence : e.fence ≡ d.fence
  pub permits : e.permits ≡ d.permits
  pub carried : e.carried ≡ d.carried
  pub restores : e.restores ≡ d.restores
  pub copies : e.copies ≡ d.copies

-- so it is of all drivers that are alike
abbrev pub EachAlike : (DriverModel → DriverModel → Type 0) → Type 0
EachAlike P = (d e : DriverModel) → AreAlike d e → P d e

-- The outcome of a command is decided by the same, streams stand before the same messages, and a reopening keeps the
-- same copies.
pub record ReplyAlike (d e : DriverModel) : Type 0 where
  pub begin : (plan : PlanModel) → (happens (record_of e) (Begin plan)).0 ≡ (happens (record_of d) (Begin plan)).0
  pub due : (id : StreamId) (number : ℕ) → is_due e id number ≡ is_due d id number
  pub past : (id : StreamId) (number : ℕ) → is_past e id number ≡ is_past d id number
  pub approve : (v : ℕ) → (happens (record_of e) (Approve v)).0 ≡ (happens (record_of d) (Approve v)).0
  pub restarted : (permit : ℕ) (server_base : Option ℕ) →
      restart_effect e.fence server_base (server_permitted e.permits permit)
      ≡ restart_effect d.fence server_base (server_permitted d.permits permit)
  pub told : (v nonce : ℕ) → is_last_restore e.restores v nonce ≡ is_last_restore d.restores v nonce
  pub naming : (v : ℕ) → engaged (record_of e) v ≡ engaged (record_of d) v
  pub copied : (s : ℕ) (told : ToldCopies) → copies_effect e s told ≡ copies_effect d s told
  pub kept : kept_copies e ≡ kept_copies d
  pub epoch : epoch_fault e ≡ epoch_fault d
  pub message : (id : StreamId) → message_of (base e) (record_of e) id ≡ message_of (base d) (record_of d) id

-- Commands make drivers that are alike of drivers that are alike, and give the same numbers.
pub record GoAlike (d e : DriverModel) : Type 0 where
  pub replies : ReplyAlike d e
  pub begun : (plan : PlanModel) (m n : ℕ) (new next : DriverModel) → HasBegunPlan plan m d new
      → HasBegunPlan plan n e next → (n ≡ m) × AreAlike new next
  pub taken : (id : StreamId) (new next : DriverModel) → HasTakenStep id d new → HasTakenStep id e next
      → AreAlike new next
  pub approved : (v p q : ℕ) (new next : DriverModel) → HasApproved v p d new → HasApproved v q e next
      → (q ≡ p) × AreAlike new next
  pub ended : (u v permit : ℕ) (server_base : Option ℕ) (new next : DriverModel)
      → HasEndedRestart u permit server_base d new → HasEndedRestart v permit server_base e next
      → (v ≡ u) × AreAlike new next
  pub restored : (v nonce : ℕ) (new next : DriverModel) → HasRestored v nonce d new → HasRestored v nonce e next
      → AreAlike new next
  pub noted : (s copies : ℕ) (new next : DriverModel) → HasNotedCopies s copies d new → HasNotedCopies s copies e next
      → AreAlike new next
  pub opened : (new next : DriverModel) → HasOpenedEpoch d new → HasOpenedEpoch e next → AreAlike new next
