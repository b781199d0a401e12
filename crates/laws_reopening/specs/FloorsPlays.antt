-- A worked play of floors: a shard wants two replicas, server 0 hands its primary over to server 1, which is lost, and
-- server 2 has a secondary.
use Rattle.std.specs.Prelude.{◌≡◌, Some, List, [], ◌∷◌, map}
use Rattle.sm_server.specs.declared.call.Cell.TheVariants.{Absent, Secondary, Primary}
use Rattle.sm_placement.specs.Place.{live_at}
use Rattle.laws_network.specs.Words.{Setup, sizes_of}
use Rattle.laws_network.specs.Reopening.{Confirm, Forgets, Records, Settlement, Settling, SettlingEvent, settling_run}
use Rattle.laws_network.specs.ReopeningPlays.{arrive, lost_in_handover, reopen, the_setup, with_row}
use Rattle.laws_reopening.specs.Floors.{had_place, replicas}

-- the shard wants two replicas, and none of them may be away: its floor is 2
abbrev pub two_wanted : Setup
two_wanted = record the_setup { shards = record { name = 115 ∷ []; load = 4; want = 2; cap = 0; spread = 1 } ∷ [] }

-- the old owner is to be the primary again; the lost server is down
abbrev pub two_kept : Settlement
two_kept = record { setup = two_wanted; place = with_row (Primary ∷ Absent ∷ Secondary ∷ []) (Some 0) (1 ∷ []); room = 9 }

-- this was confirmed, and no settle has come yet
abbrev pub two_settled : Settling
two_settled = settling_run (Records (Confirm two_kept) ∷ []) lost_in_handover

-- what comes: nothing yet; the settle of server 0; that of server 2, too; or another reopening begins at that
abbrev pub courses : List (List SettlingEvent)
courses = [] ∷ arrive (7 ∷ []) ∷ arrive (7 ∷ 8 ∷ []) ∷ (reopen 2000 3 1 ∷ []) ∷ []

-- There are two replicas all along, though one of them is live only once server 0 has taken its settle. There is one if
-- server 2 forgets, which is up.
pub record KeepsTwo : Type 0 where
  pub kept : map (λ es. replicas (settling_run es two_settled) two_kept 0) courses ≡ 2 ∷ 2 ∷ 2 ∷ 2 ∷ []
  pub live : map (λ es. live_at (sizes_of two_wanted) (had_place (settling_run es two_settled) two_kept) 0) courses
      ≡ 1 ∷ 2 ∷ 2 ∷ 1 ∷ []
  pub forgot : replicas (settling_run (Forgets 2 ∷ []) two_settled) two_kept 0 ≡ 1
