-- Worked plays of an end: one that comes, and one that a server blocks that is carried over. There is one shard, 0, and
-- there are the servers 0, 1 and 2.
use Rattle.std.specs.Prelude.{◌≡◌, ◌++◌, true, Some, [], ◌∷◌, is_some, map}
use Rattle.sm_server.specs.declared.call.Cell.TheVariants.{Absent, Secondary, Primary}
use Rattle.laws_network.specs.Reopening.{Confirm, Forgets, MapOwner, Records, Server, Settlement, Settling}
use Rattle.laws_network.specs.Reopening.{settling_run}
use Rattle.laws_network.specs.ReopeningLaws.{MaySettle, is_carried}
use Rattle.laws_network.specs.ReopeningPlays.{arrive, lost_in_handover, reopen, standing_still, the_setup, to_settle}
use Rattle.laws_network.specs.ReopeningPlays.{with_row}
use Rattle.laws_settling.specs.Inheriting.{HasPlace, inherited}
use Rattle.laws_settling.specs.Ending.{AllStandAsTold}

-- Server 1, to which server 0 hands its primary over, is lost, and all others have told: they stand as they did, the
-- configuration has place for what they told, and the old owner inherits the shard.
pub record HasEnd : Type 0 where
  pub stand : AllStandAsTold lost_in_handover
  pub place : HasPlace lost_in_handover.reopening the_setup
  pub cells : map (inherited lost_in_handover.reopening 3 0) (0 ∷ 1 ∷ 2 ∷ []) ≡ Primary ∷ Absent ∷ Secondary ∷ []

-- Server 0 is recorded as down and as the primary. A reopening gives it up, and server 1 takes its settle as the
-- primary. Another one replaces this, which asks server 0 again, and server 0 is silent.
abbrev pub given_up_before : Settling
given_up_before = settling_run
    (Forgets 0 ∷ reopen 1000 3 0 ∷ arrive (0 ∷ 1 ∷ 2 ∷ 3 ∷ 4 ∷ 5 ∷ []) ++ Records (Confirm (to_settle (Absent ∷ Primary ∷ Absent ∷ []) (Some 1))) ∷ arrive (7 ∷ [])
    ++ reopen 2000 3 9 ∷ arrive (10 ∷ 12 ∷ 13 ∷ 14 ∷ 15 ∷ 16 ∷ []))
    (standing_still (with_row (Primary ∷ Secondary ∷ Absent ∷ []) (Some 0) (0 ∷ [])) 3 [])

-- All others have told, and server 0 is carried over: nothing may be confirmed, since two would be the primary.
pub record CarriedBlocks : Type 0 where
  pub carried : is_carried given_up_before.reopening given_up_before.world.net.w 0 ≡ true
  pub told : map (λ p. is_some (given_up_before.reopening.told p)) (MapOwner ∷ Server 1 ∷ Server 2 ∷ [])
      ≡ true ∷ true ∷ true ∷ []
  pub none : (s : Settlement) → MaySettle given_up_before.reopening given_up_before.world.net.w s → ⊥
