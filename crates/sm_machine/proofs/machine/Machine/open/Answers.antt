-- A machine over a settled placement keeps what every machine keeps.
use Rattle.std.proofs.Common.{◌≤◌, subst, ap, arith}
use Rattle.sm_placement.specs.Setup.{IsSetup, sizes_of}
use Rattle.sm_placement.specs.Place.{down_count}
use Rattle.sm_placement.specs.Layout.{place_of}
use Rattle.sm_plan_code.specs.declared.limits.TheConstants.{MOST_PLACES}
use Rattle.sm_machine.specs.State.{Whole, whole_of}
use Rattle.sm_machine.proofs.Setups.{setup_is}
use Rattle.sm_machine.proofs.Turns.{opened_working}
use Rattle.sm_machine.proofs.machine.Machine.open.Goals as goal

pub invariant_of-result : goal.invariant_of-result
invariant_of-result c =
    let a = c.if-log_room-gt-MOST_PLACES.false in
    let b = c.if-log_room-down_count.false in
    let d = c.down_count.ensures in
    let least : down_count (sizes_of c.args.placement.setup) (place_of c.args.placement) ≤ c.args.log_room = omega arith in
    let most : c.args.log_room ≤ MOST_PLACES = omega arith in
    opened_working (whole_of c.of-engine.result) c.args.placement.setup (place_of c.args.placement) c.args.log_room
    (record {
      rows = subst IsSetup c.config.ensures.setup c.server_count-servers.ensures.setup;
      placement = c.config.ensures.placement;
      settled = c.requires;
      least = least;
      most = most;
    })
    c.of-engine.ensures

pub returns-clause-setup : goal.returns-clause-setup
returns-clause-setup c = setup_is c.of-engine.result c.args.placement.setup (ap (λ (x : Whole). x.setup) c.of-engine.ensures)
