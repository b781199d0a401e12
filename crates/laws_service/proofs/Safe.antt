-- Between reopenings all laws of the fleet hold of the driver's fleet.
use Rattle.laws_driver.specs.Driven.{EachDriven}
use Rattle.laws_driver.specs.DrivenLaws.{IsDrivenSafely}
use Rattle.laws_service.specs.Controlled.{Controlled, Drives, Settles}
use Rattle.laws_service.specs.ControlledLaws.{IsControlled, IsFleetSafe}

-- they hold of whatever turns lead to
pub fleet_is_safe : EachDriven IsDrivenSafely → (c : Controlled) → IsControlled c → IsFleetSafe c
fleet_is_safe safe (Drives x) h = safe x h.1
fleet_is_safe safe (Settles x ongoing y) h = tt
