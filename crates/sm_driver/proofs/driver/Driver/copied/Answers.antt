-- Copies are noted.
use Rattle.std.proofs.Common.{◌≡◌, ◌∙◌, ◌<◌, ℕ, List, length, set, sym, ap, subst}
use Rattle.sm_driver.specs.Driver.{DriverModel, IsDriving, record_of}
use Rattle.sm_driver.specs.Copies.{HasNotedCopies}
use Rattle.sm_driver.proofs.Driving.{noted_driving}
use Rattle.sm_driver.proofs.driver.Driver.copied.Goals as goal

pub set-requires : goal.set-requires
set-requires c =
    subst (λ n. c.args.shard < n) (sym c.self.invariant.copies)
    (subst (λ (d : DriverModel). c.args.shard < (record_of d).sizes.shards) (sym c.self.view_is) c.requires)

pub invariant_of-self : goal.invariant_of-self
invariant_of-self c =
    let inside = c.self.inside in
    subst (λ (copies : List ℕ). IsDriving inside.room (record { machine = inside.director; journal = inside.journal; epoch = inside.epoch; fence = inside.fence; permits = inside.permits; carried = inside.carried; restores = inside.restores; copies = copies }))
    (sym c.set.ensures) (noted_driving inside.room _ c.args.shard c.args.told.copies c.self.invariant)
