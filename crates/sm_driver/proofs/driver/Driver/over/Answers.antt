-- The facts that hold of every driver hold at the opening.
use Rattle.std.proofs.Common.{◌∙◌, None, length, replicate, ap, ◌≤◌, subst}
use Rattle.sm_placement.specs.Setup.{Setup}
use Rattle.sm_placement.specs.declared.limits.TheConstants.{MOST_SERVERS}
use Rattle.sm_placement.specs.Layout.{place_of}
use Rattle.sm_driver.proofs.Driving.{opening_driving}
use Rattle.sm_driver.proofs.driver.Driver.over.Goals as goal

pub invariant_of-result : goal.invariant_of-result
invariant_of-result c =
    opening_driving c.args.placement.setup (place_of c.args.placement) c.args.log_room c.args.permits.now c.args.carried.now _
    (subst (λ (u : Setup). length u.servers ≤ MOST_SERVERS) c.config.ensures.setup c.server_count.ensures.setup.servers) c.requires.permits
    c.in_ok-director.ensures.state c.in-Ok.ensures c.in-Ok-at_opening.ensures
    (c.in-Ok-none.ensures ∙ ap (λ n. replicate n None) (c.server_count.ensures.count ∙ ap (λ (u : Setup). length u.servers) c.config.ensures.setup))
    (c.in-Ok-at_opening-2.ensures ∙ ap (λ n. replicate n 1) (c.shard_count.ensures.count ∙ ap (λ (u : Setup). length u.shards) c.config-2.ensures.setup))
