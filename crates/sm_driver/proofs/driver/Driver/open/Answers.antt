-- At a first opening no server is carried over.
use Rattle.std.proofs.Common.{◌≡◌, ◌∙◌, ◌+◌, ℕ, zero, suc, Bool, false, List, [], ◌∷◌, Result, Ok, Err, map, replicate, length, refl, ap}
use Rattle.std.specs.Prelude.{◌&&◌, IfOk}
use Rattle.std.specs.List.{range_with_len}
use Rattle.sm_placement.specs.Layout.{place_of}
use Rattle.sm_driver.specs.Carried.{carried_down, was_carried}
use Rattle.sm_driver.specs.Driver.{DriverModel}
use Rattle.sm_driver.proofs.driver.Driver.open.Goals as goal

none_from : (down : ℕ → Bool) (a n : ℕ) → map (λ v. was_carried [] v && down v) (range_with_len a n) ≡ replicate n false
none_from down a zero = refl
none_from down a (suc n) = ap (λ (marks : List Bool). false ∷ marks) (none_from down (a + 1) n)

-- where no server is marked, none is carried over
none_carried : {E : Type 0} (servers : ℕ) (down : ℕ → Bool) (r : Result DriverModel E) → IfOk r (λ d. d.carried ≡ carried_down [] servers down) → IfOk r (λ d. d.carried ≡ replicate servers false)
none_carried servers down (Ok d) e = e ∙ none_from down 0 servers
none_carried servers down (Err why) e = e

pub returns-clause-carried : goal.returns-clause-carried
returns-clause-carried c = none_carried (length c.args.placement.setup.servers) (place_of c.args.placement).down c.over.result c.over.ensures.carried
