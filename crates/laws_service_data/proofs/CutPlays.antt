-- The worked play of a cut, step by step.
use Rattle.std.proofs.Common.{[], ◌∷◌, refl, arith, inl}
use Rattle.sm_reservation.specs.HoldOf.{hold_of}
use Rattle.sm_verifier.specs.FirstHolding.{first_holding}
use Rattle.sm_protocol.specs.State.{stream_id}
use Rattle.sm_protocol.specs.Happens.{Begin}
use Rattle.laws_network.specs.Fleet.{Judge, Make, SendOrder}
use Rattle.laws_network.specs.FleetPlays.{example_plan}
use Rattle.laws_data.specs.Shard.{Copies, Joins}
use Rattle.std.proofs.Common.{List, ◌++◌}
use Rattle.laws_service_data.specs.Joined.{JoinedEvent, OfData, OfFleet}
use Rattle.laws_service_data.specs.Duties.{KeepDuties}
use Rattle.laws_service_data.specs.Plays.{FIRST, FIRST_WRITE, order_way}
use Rattle.laws_service_data.specs.CutPlays.{HandoverCutsAtEnd}
use Rattle.laws_service_data.proofs.Plays.{WRITTEN, first_write, kept_append}

-- from the first write up to the cut
abbrev begun : List JoinedEvent
begun =
    OfFleet (Make (Begin (example_plan 0 0 1 4))) []
    ∷ (order_way 0 (OfData (Copies 1) ∷ []) (Joins 1 ∷ []) ++ (OfFleet (SendOrder 0 (stream_id 0 0)) [] ∷ OfFleet (Judge 1) [] ∷ []))

kept_begun : KeepDuties 0 WRITTEN begun
unfolding first_holding hold_of
kept_begun = (
  (refl, tt),
  ((refl, tt), ((refl, tt), ((refl, (refl, omega arith)), ((refl, (tt, tt)), ((refl, tt), ((refl, tt), ((refl, tt), tt))))))),
)

-- the new owner takes over at the cut
pub handover_cuts_at_end : HandoverCutsAtEnd
unfolding first_holding hold_of
handover_cuts_at_end = record {
  kept = kept_append 0 FIRST_WRITE begun FIRST first_write kept_begun;
  order = _;
  commits = refl;
  call = refl;
  kept_cut = (refl, tt);
  list = refl;
  kept_then = ((refl, tt), ((refl, tt), tt));
  forwards = (1, 1, refl, (refl, omega arith), (1, 1, refl, (refl, omega arith), (refl, omega arith)));
  prepared = refl;
  takes = inl (0, refl, refl);
  copy = refl;
}
