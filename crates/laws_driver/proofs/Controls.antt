-- The controller that a driver is, by what the driver has.
use Rattle.std.proofs.Common.{◌≡◌, ◌∙◌, List, length, map, refl, sym, ap}
use Rattle.std.specs.Prelude.{slice_get}
use Rattle.std.specs.List.{range_with_len}
use Rattle.std.proofs.Math.Path.{fun_ext}
use Rattle.sm_placement.specs.Setup.{Sizes, sizes_of}
use Rattle.sm_machine.specs.State.{whole_of}
use Rattle.laws_network.specs.Controller.{Controller, Restore}
use Rattle.sm_driver.specs.Driver.{DriverModel, base, record_of}
use Rattle.sm_driver.specs.Permits.{permit_of}
use Rattle.sm_driver.specs.Restores.{RestoreModel, restore_at}
use Rattle.laws_driver.specs.Control.{IsControllerOf, IsTold}

-- the controller that has given these restores
abbrev pub controller_of : DriverModel → List Restore → Controller
controller_of d given = record { journal = d.journal; fence = d.fence; base = base d; w = record_of d; permits = permit_of d.permits; restores = given }

-- a controller that the driver is
pub is_that : (d : DriverModel) (c : Controller) → IsControllerOf d c → c ≡ controller_of d c.restores
is_that d c is =
    ap (λ x. record c { journal = x }) is.journal
    ∙ ap (λ x. record c { journal = d.journal; fence = x }) is.fence
    ∙ ap (λ x. record c { journal = d.journal; fence = d.fence; base = x }) is.base
    ∙ ap (λ x. record c { journal = d.journal; fence = d.fence; base = base d; w = x }) is.recorded
    ∙ ap (λ x. record c { journal = d.journal; fence = d.fence; base = base d; w = record_of d; permits = x }) (fun_ext is.permits)

-- the numbers of the record are those of the configuration
pub sizes_are : (d : DriverModel) → (record_of d).sizes ≡ sizes_of d.machine.placement.setup
unfolding whole_of
sizes_are d = refl

-- so they stay with the configuration
pub sizes_stay : (old new : DriverModel) → new.machine.placement.setup ≡ old.machine.placement.setup → (record_of new).sizes ≡ (record_of old).sizes
sizes_stay old new e = sizes_are new ∙ ap sizes_of e ∙ sym (sizes_are old)

-- what a server was told is so of the next driver and of its controller
pub told_on : (old new : DriverModel) (c k : Controller) (told : RestoreModel) → new.journal ≡ old.journal → new.fence ≡ old.fence → (record_of new).sizes ≡ (record_of old).sizes → k.restores ≡ c.restores →
    IsTold old c told → IsTold new k told
told_on old new c k told journal fence sizes given is = record {
  place = is.place;
  given = is.given;
  among = ap (λ xs. slice_get xs is.place) given ∙ is.among;
  restoration = is.restoration ∙ ap (λ j. record { journal = j; fence = old.fence; number = told.number; nonce = told.nonce }) (sym journal)
      ∙ ap (λ f. record { journal = new.journal; fence = f; number = told.number; nonce = told.nonce }) (sym fence);
  cells = is.cells ∙ ap (λ (c : Sizes). map is.given.cells (range_with_len 0 c.shards)) (sym sizes);
}

-- The next driver is a controller that has its record, permits and base, and the restores of before.
pub next_control : (old new : DriverModel) (c k : Controller) → IsControllerOf old c → new.journal ≡ old.journal → new.fence ≡ old.fence → new.machine.placement.setup ≡ old.machine.placement.setup →
    new.restores ≡ old.restores → length new.permits ≡ length old.permits → k ≡ controller_of new c.restores → IsControllerOf new k
next_control old new c k is journal fence setup restores lengths e = record {
  journal = ap (λ (x : Controller). x.journal) e;
  fence = ap (λ (x : Controller). x.fence) e;
  base = ap (λ (x : Controller). x.base) e;
  recorded = ap (λ (x : Controller). x.w) e;
  servers = lengths ∙ is.servers ∙ ap (λ (s : Sizes). s.servers) (sym (sizes_stay old new setup));
  permits = λ v. ap (λ (x : Controller). x.permits v) e;
  restores = λ v told r. told_on old new c k told journal fence (sizes_stay old new setup) (ap (λ (x : Controller). x.restores) e)
      (is.restores v told (ap (λ rs. restore_at rs v) (sym restores) ∙ r));
}
