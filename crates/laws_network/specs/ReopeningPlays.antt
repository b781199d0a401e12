-- Worked plays of reopenings: one that brings a shard back, and what happens without some of the rules. There is one
-- shard, 0, and there are the servers 0, 1 and 2.
use Rattle.std.specs.Prelude.{◌≡◌, ◌≢◌, ℕ, ◌==◌, ◌++◌, true, false, Option, Some, None, List, [], ◌∷◌, map}
use Rattle.std.specs.Prelude.{slice_index_or, if◌then◌else◌}
use Rattle.std.specs.List.{list_any}
use Rattle.sm_server.specs.declared.call.Cell.TheVariants.{Absent, Prepared, Secondary, Primary, Forwarding}
use Rattle.sm_placement.specs.Setup.{ServerRow}
use Rattle.laws_network.specs.Words.{Cell, Place, Played, Setup, opened, sizes_of}
use Rattle.laws_network.specs.Net.{Ask, Replied}
use Rattle.laws_network.specs.Reopening.{Arrives, Comes, Confirm, Fence, Forgets, Inner, MapOwner, Message, Records}
use Rattle.laws_network.specs.Reopening.{Reopen, Server, Settle, Settlement, Settling, SettlingEvent, is_asked}
use Rattle.laws_network.specs.Reopening.{part_taken, settled_base, settling_comes, settling_run}
use Rattle.laws_network.specs.ReopeningLaws.{MaySettle}

-- a server with room for the shard, of this name
abbrev pub a_server : ℕ → ServerRow
a_server name = record { name = name ∷ []; region = 101 ∷ []; room = 10 }

-- the configuration of all plays
abbrev pub the_setup : Setup
the_setup = record {
  servers = a_server 97 ∷ a_server 98 ∷ a_server 99 ∷ [];
  shards = record { name = 115 ∷ []; load = 4; want = 1; cap = 0; spread = 1 } ∷ [];
}

-- the shard has these cells, the map names this server for it, and these servers are recorded as down
abbrev pub with_row : List Cell → Option ℕ → List ℕ → Place
with_row row shown down = record {
  cells = λ s v. if s == 0 then slice_index_or row v Absent else Absent;
  last = λ s v. 0;
  down = λ v. list_any (λ u. u == v) down;
  listed = λ s. if s == 0 then shown else None;
  version = λ s. 0;
  limit = 1;
}

-- this is to be settled
abbrev pub to_settle : List Cell → Option ℕ → Settlement
to_settle row shown = record { setup = the_setup; place = with_row row shown []; room = 9 }

-- servers that have such slots, while no reopening has begun; these messages were sent long ago
abbrev pub standing_still : Place → ℕ → List Message → Settling
standing_still place servers ms = record {
  world = record {
    net = record { w = opened (sizes_of the_setup) place 9; base = 0; cells = place.cells; last = place.last; sent = []; answers = []; passes = [] };
    shown = λ s. record { server = place.listed s; version = 0 };
    published = [];
    stored = [];
  };
  bases = λ p. settled_base 0;
  sizes = λ v. sizes_of the_setup;
  nonces = 1;
  messages = ms;
  reopening = record { base = 0; servers = servers; lost = λ v. false; told = λ p. None; settlement = None; settled = λ p. false; promised = λ v. false };
}

-- the messages at these places come, one after the other
abbrev pub arrive : List ℕ → List SettlingEvent
arrive places = map (λ k. Arrives k (λ s. false)) places

-- a reopening begins, in which this server is lost
abbrev pub reopen : ℕ → ℕ → ℕ → SettlingEvent
reopen base servers lost = Records (Reopen base servers (λ v. v == lost))

-- two servers execute what clients ask of the shard
abbrev pub TwoExecute : Settling → ℕ → ℕ → Type 0
TwoExecute x u v =
    ((settling_comes x (Comes (Inner (Ask 0 u)))).0 ≡ Replied (Played.Executed u))
    × ((settling_comes x (Comes (Inner (Ask 0 v)))).0 ≡ Replied (Played.Executed v)) × (u ≢ v)

-- Server 1, to which a primary is being handed over, is lost, and all others have told what they have.
abbrev pub lost_in_handover : Settling
lost_in_handover =
    settling_run (Forgets 1 ∷ reopen 1000 3 1 ∷ arrive (0 ∷ 1 ∷ 2 ∷ 3 ∷ 4 ∷ 5 ∷ [])) (standing_still (with_row (Forwarding 1 1 ∷ Prepared 0 1 ∷ Secondary ∷ []) (Some 0) []) 3 [])

-- the old owner is the primary again
abbrev pub brought : Settlement
brought = to_settle (Primary ∷ Absent ∷ Secondary ∷ []) (Some 0)

-- all take it
abbrev pub brought_back : Settling
brought_back = settling_run (Records (Confirm brought) ∷ arrive (6 ∷ 7 ∷ 8 ∷ 9 ∷ 10 ∷ 11 ∷ [])) lost_in_handover

-- This may be confirmed. The old owner executes then and is shown, and each party has taken its part.
pub record BringsBack : Type 0 where
  pub allowed : MaySettle lost_in_handover.reopening lost_in_handover.world.net.w brought
  pub executes : (settling_comes brought_back (Comes (Inner (Ask 0 0)))).0 ≡ Replied (Played.Executed 0)
  pub shown : (brought_back.world.shown 0).server ≡ Some 0
  pub cells : map (brought_back.world.net.cells 0) (0 ∷ 1 ∷ 2 ∷ []) ≡ Primary ∷ Absent ∷ Secondary ∷ []
  pub settled : map brought_back.reopening.settled (MapOwner ∷ Server 0 ∷ Server 2 ∷ []) ≡ true ∷ true ∷ true ∷ []

-- all have told what they have, and none is in a handover
abbrev pub all_told : Settling
all_told = settling_run (reopen 1000 3 9 ∷ arrive (0 ∷ 1 ∷ 2 ∷ 3 ∷ 4 ∷ 5 ∷ 6 ∷ 7 ∷ [])) (standing_still (with_row (Primary ∷ Secondary ∷ Absent ∷ []) (Some 0) []) 3 [])

-- A settlement moves the primary. The new one takes its settle first, and the old one executes on.
abbrev pub moving : Settlement
moving = to_settle (Secondary ∷ Primary ∷ Absent ∷ []) (Some 1)

-- none may be confirmed that does so
abbrev pub MovesNoPrimary : Type 0
MovesNoPrimary = (MaySettle all_told.reopening all_told.world.net.w moving → ⊥)
    × TwoExecute (settling_run (Records (Confirm moving) ∷ arrive (10 ∷ [])) all_told) 0 1

-- Server 0 was settled as the primary, which has moved to server 1 since. It forgets; the old fence comes again, and
-- then the old settle.
abbrev pub old_settle : Settlement
old_settle = to_settle (Primary ∷ Absent ∷ Absent ∷ []) (Some 0)

-- it has forgotten, and stands at the old fence again
abbrev pub fenced_again : Settling
fenced_again = settling_run (Forgets 0 ∷ arrive (0 ∷ []))
    (standing_still (with_row (Absent ∷ Primary ∷ Absent ∷ []) (Some 1) []) 3 (Fence (Server 0) 1000 ∷ Settle (Server 0) 1000 None old_settle ∷ []))

-- it takes none but for its nonce
abbrev pub TakesNoOldSettle : Type 0
TakesNoOldSettle =
    ((settling_run (arrive (1 ∷ [])) fenced_again).world.net.cells 0 0 ≡ Absent)
    × TwoExecute (part_taken fenced_again (Server 0) 1000 old_settle) 0 1

-- Server 0 was settled as the primary at its base, and the primary has moved on; the settle comes again.
abbrev pub settled_before : Settling
settled_before = record (standing_still (with_row (Absent ∷ Primary ∷ Absent ∷ []) (Some 1) []) 3 (Settle (Server 0) 1000 None old_settle ∷ [])) { bases = λ p. settled_base 1000 }

-- it is taken once
abbrev pub TakesNoSettleTwice : Type 0
TakesNoSettleTwice =
    ((settling_run (arrive (0 ∷ [])) settled_before).world.net.cells 0 0 ≡ Absent)
    × TwoExecute (part_taken settled_before (Server 0) 1000 old_settle) 0 1

-- The primary is lost. Server 1, which is recorded as down, is settled as the primary and serves; then another
-- reopening replaces this one, and server 1 is silent.
abbrev pub replaced : Settling
replaced = settling_run
    (Forgets 0 ∷ reopen 1000 3 0 ∷ arrive (0 ∷ 1 ∷ 2 ∷ 3 ∷ 4 ∷ 5 ∷ []) ++ Records (Confirm (to_settle (Absent ∷ Primary ∷ Secondary ∷ []) (Some 1))) ∷ arrive (7 ∷ [])
    ++ reopen 2000 3 0 ∷ arrive (10 ∷ 12 ∷ 13 ∷ 14 ∷ []))
    (standing_still (with_row (Primary ∷ Secondary ∷ Secondary ∷ []) (Some 0) (1 ∷ [])) 3 [])

-- server 2 is to be the primary, without server 1
abbrev pub passed_over : Settlement
passed_over = to_settle (Absent ∷ Secondary ∷ Primary ∷ []) (Some 2)

-- it can't be carried over
abbrev pub CarriesNoneSettled : Type 0
CarriesNoneSettled = (MaySettle replaced.reopening replaced.world.net.w passed_over → ⊥)
    × TwoExecute (settling_run (Records (Confirm passed_over) ∷ arrive (16 ∷ [])) replaced) 1 2

-- Two servers are recorded: the primary's is lost, and the other one has nothing. Server 2 is new, was settled as the
-- primary and serves; then another reopening replaces this one, whose document has server 1 alone.
abbrev pub newcomer : Settling
newcomer = settling_run
    (Forgets 0 ∷ Forgets 2 ∷ reopen 1000 3 0 ∷ arrive (0 ∷ 1 ∷ 2 ∷ 3 ∷ 4 ∷ 5 ∷ []) ++ Records (Confirm (to_settle (Absent ∷ Absent ∷ Primary ∷ []) (Some 2))) ∷ arrive (8 ∷ [])
    ++ Forgets 1 ∷ reopen 2000 2 0 ∷ [])
    (standing_still (with_row (Primary ∷ Absent ∷ Absent ∷ []) (Some 0) []) 2 [])

-- server 1 is to be the primary, without server 2
abbrev pub without_it : Settlement
without_it = to_settle (Absent ∷ Primary ∷ Absent ∷ []) (Some 1)

-- it is asked all the same
abbrev pub AsksNewcomers : Type 0
AsksNewcomers = (is_asked newcomer.reopening (Server 2) ≡ true)
    × TwoExecute (part_taken newcomer (Server 1) 2000 without_it) 1 2
