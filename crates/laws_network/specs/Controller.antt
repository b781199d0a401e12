-- The controller as its journal makes it: what it knows is what the entries of the journal say, and what it sends
-- depends on that alone.
use Rattle.std.specs.Prelude.{ℕ, ◌+◌, ◌*◌, ◌==◌, ◌&&◌, ◌++◌, Bool, false, not, nat_lt, Option, Some, None, List, []}
use Rattle.std.specs.Prelude.{◌∷◌, length, is_none, option_map, if◌then◌else◌}
use Rattle.sm_placement.specs.Sums.{any_below, put}
use Rattle.sm_plan_code.specs.declared.limits.TheConstants.{MOST_PLACES}
use Rattle.sm_protocol.specs.Happens.{engaged}
use Rattle.sm_agent.specs.declared.base.Restoration.{Restoration}
pub use Rattle.laws_network.specs.Words.{Cell, Happening, Place, Sizes, State, StreamId, Step, Approve, Done, happens}
pub use Rattle.laws_network.specs.Words.{is_unfinished, opened}
pub use Rattle.laws_network.specs.Net.{Order, cell_above, is_awaited, is_own, order_of}
pub use Rattle.laws_network.specs.World.{Publication, is_answered_by, publication_now, publication_of}

-- An order as it leaves the controller: with the journal, the journal's last reopening, the shard's load and the
-- server's room.
pub record Letter : Type 0 where
  pub order : Order
  pub journal : ℕ
  pub fence : ℕ
  pub load : ℕ
  pub room : ℕ

-- A publication as it leaves the controller.
pub record Notice : Type 0 where
  pub publication : Publication
  pub journal : ℕ
  pub fence : ℕ

-- A restore: what is recorded of the cells of a server that has lost its slots, and the loads of the shards.
pub record Restore : Type 0 where
  pub restoration : Restoration
  pub cells : ℕ → Cell
  pub loads : ℕ → ℕ

-- The knowledge of a controller.
pub record Controller : Type 0 where
  -- the journal, and the number of its last reopening
  pub journal : ℕ
  pub fence : ℕ
  -- the number above which the orders of this epoch are
  pub base : ℕ
  -- what is recorded
  pub w : State
  -- of each server that is down the permit of its restart
  pub permits : ℕ → Option ℕ
  -- all restores that were ever given
  pub restores : List Restore

-- An entry of the journal.
pub data JournalEntry : Type 0 where
  -- the controller has made a local event
  Made : (event : Happening) → JournalEntry
  -- the answer to an order has come, or to a publication
  Answered : (order : Order) → JournalEntry
  Stored : (publication : Publication) → JournalEntry
  -- the restart of a server has ended
  Ended : (server permit : ℕ) → JournalEntry
  -- a server that has lost its slots has asked for them
  Restored : (server nonce : ℕ) → JournalEntry
  -- the next epoch opens, with a log of this room
  Opened : (room : ℕ) → JournalEntry

-- starts, refills, approvals, and steps of streams that stand before no call and no publication
abbrev pub is_local : State → Happening → Bool
is_local w (Step id) = is_own w (Step id) && is_none (publication_now w id)
is_local w (Done v) = false
is_local w e = is_own w e

-- A server that an event takes down has a permit: the number of the event in the log, above the base.
abbrev pub permits_after : Controller → Happening → State → ℕ → Option ℕ
permits_after c (Approve v) new =
    if not (c.w.place.down v) && new.place.down v then put c.permits v (Some (c.base + length c.w.log + 1)) else c.permits
permits_after c _ new = c.permits

-- an event of the protocol is recorded
abbrev pub goes_on : Controller → Happening → Controller
goes_on c e = record c { w = (happens c.w e).1; permits = permits_after c e (happens c.w e).1 }

-- the restart of this server has this permit
abbrev pub is_permitted : Option ℕ → ℕ → Bool
is_permitted None permit = false
is_permitted (Some given) permit = given == permit

-- a restart ends by its permit alone
abbrev pub restart_ended : Controller → ℕ → ℕ → Controller
restart_ended c v permit =
    if is_permitted (c.permits v) permit then record c { w = (happens c.w (Done v)).1; permits = put c.permits v None } else c

-- what is recorded of a server's cells, under a number at or above that of each order that was ever sent to it
abbrev pub restore_for : Controller → ℕ → ℕ → Restore
restore_for c v nonce = record {
  restoration = record { journal = c.journal; fence = c.fence; number = c.base + length c.w.log; nonce = nonce };
  cells = λ s. cell_above c.base (c.w.place.cells s v);
  loads = c.w.sizes.load;
}

-- a server is restored if no unfinished stream names it
abbrev pub restored_at : Controller → ℕ → ℕ → Controller
restored_at c v nonce = if is_none (engaged c.w v) then record c { restores = c.restores ++ restore_for c v nonce ∷ [] } else c

-- all plans are done
abbrev pub has_no_plan : State → Bool
has_no_plan w = not (any_below (length w.plans) (is_unfinished w))

-- no version of a shard is above the length of the longest log
abbrev pub are_versions_low : State → Bool
are_versions_low w = not (any_below w.sizes.shards (λ s. nat_lt MOST_PLACES (w.place.version s)))

-- No log is longer than half of this, and no epoch but the first opens with a version above half of it: so bases that
-- are so far apart keep the numbers and the versions of epochs apart.
abbrev pub EPOCH : ℕ
EPOCH = 2 * MOST_PLACES

-- The next epoch opens if all plans are done and versions are low, on the placement that is recorded. Versions stay,
-- and numbers are counted anew.
abbrev pub next_epoch : Controller → ℕ → Controller
next_epoch c room =
    if has_no_plan c.w && are_versions_low c.w then record c { w = opened c.w.sizes c.w.place room; base = c.base + EPOCH } else c

-- what an entry makes of the controller; one that does not fit changes nothing
abbrev pub entry_recorded : Controller → JournalEntry → Controller
entry_recorded c (Made e) = if is_local c.w e then goes_on c e else c
entry_recorded c (Answered o) = if is_awaited c.base c.w o then goes_on c (Step o.stream) else c
entry_recorded c (Stored p) = if is_answered_by p (publication_of c.base c.w p.stream) then goes_on c (Step p.stream) else c
entry_recorded c (Ended v permit) = restart_ended c v permit
entry_recorded c (Restored v nonce) = restored_at c v nonce
entry_recorded c (Opened room) = next_epoch c room

-- the controller that a journal makes, whose latest entry stands first
abbrev pub replayed : Controller → List JournalEntry → Controller
replayed c [] = c
replayed c (e ∷ es) = entry_recorded (replayed c es) e

-- ---- what it sends

-- an order as it leaves the controller
abbrev pub letter : Controller → Order → Letter
letter c o = record { order = o; journal = c.journal; fence = c.fence; load = c.w.sizes.load o.call.shard; room = c.w.sizes.room o.call.server }

-- the order of a stream
abbrev pub letter_of : Controller → StreamId → Option Letter
letter_of c id = option_map (letter c) (order_of c.base c.w id)

-- a publication as it leaves the controller
abbrev pub notice : Controller → Publication → Notice
notice c p = record { publication = p; journal = c.journal; fence = c.fence }

-- the publication of a stream
abbrev pub notice_of : Controller → StreamId → Option Notice
notice_of c id = option_map (notice c) (publication_of c.base c.w id)
