use Rattle.std.proofs.lemmas.List.Elements.{All-nil}
use Rattle.std.proofs.Common.{List, ℕ, subst, sym}
use Rattle.sm_placement.specs.Setup.{Setup}
use Rattle.sm_plan_code.specs.declared.moves.Move.{Move}
use Rattle.sm_planner.specs.Basis.{basis_of, IsMoveOf}
use Rattle.sm_planner.specs.Drain.{IsRoomBeside}
use Rattle.sm_planner.specs.Regions.{AreRegions}
use Rattle.std.specs.Prelude.{All}
use Rattle.sm_planner.proofs.Departing.{room_none}
use Rattle.sm_planner.proofs.draining.targets_of.Goals as goal

pub loop-number-init : goal.loop-number-init
loop-number-init c =
    let b = basis_of c.args.placement.now c.args.pool.now in
    let none = c.in_ok-moves.ensures.items in
    record {
      known = subst (λ (x : List Move). All (IsMoveOf c.args.placement.now.setup) x) (sym none) (All-nil (IsMoveOf c.args.placement.now.setup));
      leaving = none;
      room = subst (λ (x : List Move). IsRoomBeside b x c.in_ok-room.room) (sym none) (room_none b c.config-config.result.now c.in_ok-room.room c.config-config.ensures.setup c.in_ok-room.ensures.room);
    }

pub put_departure-requires-clause-regions : goal.put_departure-requires-clause-regions
put_departure-requires-clause-regions c =
    subst (λ (x : Setup). AreRegions x c.deref.result.now) c.config-config.ensures.setup (subst (λ (xs : List ℕ). AreRegions c.config-config.result.now xs) (sym c.deref.ensures.value) c.in_ok-regions.ensures)
