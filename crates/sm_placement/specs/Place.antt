-- A placement: what each server has of each shard, who is down, and what the published map says.
use Rattle.std.specs.Prelude.{◌≡◌, ◌≢◌, ℕ, suc, ◌+◌, ◌-◌, ◌<◌, ◌≤◌, Bool, true, false, not, Option, Result, Ok, Err}
use Rattle.std.specs.Prelude.{if◌then◌else◌}
use Rattle.sm_server.specs.declared.call.Cell.{Cell}
use Rattle.sm_server.specs.declared.call.Cell.TheVariants.{Absent}
use Rattle.sm_server.specs.declared.call.Call.{Call}
use Rattle.sm_server.specs.declared.call.Refusal.{Refusal}
use Rattle.sm_server.specs.declared.call.Served.{Served}
use Rattle.sm_server.specs.Cell.{is_absent}
use Rattle.sm_server.specs.Call.{Leads, served, served_numbered}
use Rattle.sm_placement.specs.declared.entry.Entry.{Entry}
use Rattle.sm_placement.specs.Sums.{put, put2, bit, sum_below, count_below}
use Rattle.sm_placement.specs.Setup.{Sizes}
use Rattle.sm_placement.specs.Rows.{is_live, live_in}

-- A placement, read by the numbers of shards and servers: the cells with their last call numbers, which servers are
-- down, the entries of the published map, and how many servers may be down at once (SM 2021).
pub record Place : Type 0 where
  -- by shard, then by server
  pub cells : ℕ → ℕ → Cell
  -- the number of the last numbered call that had an effect on the cell, 0 for none
  pub last : ℕ → ℕ → ℕ
  pub down : ℕ → Bool
  -- the server that the published map names for the shard, and how often the map's entry has changed
  pub listed : ℕ → Option ℕ
  pub version : ℕ → ℕ
  -- how many servers may be down at once
  pub limit : ℕ

-- the map's entry of a shard
abbrev pub entry_at : Place → ℕ → Entry
entry_at p s = record { server = p.listed s; version = p.version s }

-- what a cell weighs on its server
abbrev pub weight : Cell → ℕ → ℕ
weight cell load = if is_absent cell then 0 else load

-- the load of a server: the loads of all shards whose cell there is not absent
abbrev pub load_of : Sizes → (ℕ → ℕ → Cell) → ℕ → ℕ
load_of c cells v = sum_below c.shards (λ s. weight (cells s v) (c.load s))

-- the load of a server in a placement: the loads of all shards whose cell there is not absent
abbrev pub load_at : Sizes → Place → ℕ → ℕ
load_at c p v = load_of c p.cells v

-- the server counts as live for a shard: it is up, and has a secondary or serves
abbrev pub is_live_at : Place → ℕ → ℕ → Bool
is_live_at p s v = is_live (p.cells s) p.down v

-- how many replicas of a shard are live
abbrev pub live_at : Sizes → Place → ℕ → ℕ
live_at c p s = live_in c.servers (p.cells s) p.down

-- how many servers are down
abbrev pub down_count : Sizes → Place → ℕ
down_count c p = count_below c.servers p.down

-- the placement with one cell changed
abbrev pub set_cell : Place → ℕ → ℕ → Cell → Place
set_cell p s v cell = record p { cells = put2 p.cells s v cell }

-- the placement with one last number changed
abbrev pub set_last : Place → ℕ → ℕ → ℕ → Place
set_last p s v number = record p { last = put2 p.last s v number }

-- the placement with a server down or up
abbrev pub set_down : Place → ℕ → Bool → Place
set_down p v down = record p { down = put p.down v down }

-- the placement with another entry of the map, one version further
abbrev pub publish : Place → ℕ → Option ℕ → Place
publish p s listed = record p { listed = put p.listed s listed; version = put p.version s (suc (p.version s)) }

-- the placement without last numbers
abbrev pub forget_numbers : Place → Place
forget_numbers p = record p { last = λ s v. 0 }

-- what the server answers to a call for the shard
abbrev pub answer_at : Sizes → Place → ℕ → ℕ → Call → Result Cell Refusal
answer_at c p s v call = served (p.cells s v) (c.room v - load_at c p v) (c.load s) (not (p.down v)) call

-- the placement after an answer
abbrev pub with_answer : Place → ℕ → ℕ → Result Cell Refusal → Result Place Refusal
with_answer p s v (Ok next) = Ok (set_cell p s v next)
with_answer p s v (Err why) = Err why

-- the placement after a call, or why the call is refused
abbrev pub called : Sizes → Place → ℕ → ℕ → Call → Result Place Refusal
called c p s v call = with_answer p s v (answer_at c p s v call)

-- what the server answers to a numbered call for the shard
abbrev pub numbered_answer_at : Sizes → Place → ℕ → ℕ → Call → ℕ → Result Served Refusal
numbered_answer_at c p s v call number = served_numbered (p.cells s v) (p.last s v) number (c.room v - load_at c p v) (c.load s) (not (p.down v)) call

-- the placement after a numbered call, and whether the call had its effect now
pub record CallEffect : Type 0 where
  pub place : Place
  pub fresh : Bool

-- the placement after an answer to a numbered call
abbrev pub with_served : Place → ℕ → ℕ → Result Served Refusal → Result CallEffect Refusal
with_served p s v (Ok served) = Ok (record { place = set_last (set_cell p s v served.cell) s v served.last; fresh = served.fresh })
with_served p s v (Err why) = Err why

-- the placement after a numbered call, and whether the call had its effect now; or why the call is refused
abbrev pub called_numbered : Sizes → Place → ℕ → ℕ → Call → ℕ → Result CallEffect Refusal
called_numbered c p s v call number = with_served p s v (numbered_answer_at c p s v call number)

-- what a numbered call that had no effect yet is answered, by what the call alone is
abbrev pub with_number : ℕ → ℕ → ℕ → Result Place Refusal → Result CallEffect Refusal
with_number s v number (Ok next) = Ok (record { place = set_last next s v number; fresh = true })
with_number s v number (Err why) = Err why

-- A numbered call under another number than the cell's last one is the call itself, with its number last then, and
-- its effect is now. Under the last number, at a server that is up, it changes nothing, and its effect was before.
pub record NumberedAsCalled (c : Sizes) (p : Place) (s v : ℕ) (call : Call) (number : ℕ) : Type 0 where
  pub first : number ≢ p.last s v → called_numbered c p s v call number ≡ with_number s v number (called c p s v call)
  pub again : p.down v ≡ false → number ≡ p.last s v
      → called_numbered c p s v call number ≡ Ok (record { place = p; fresh = false })

-- the placement with other last numbers
abbrev pub with_lasts : (ℕ → ℕ → ℕ) → Place → Place
with_lasts last p = record p { last = last }

-- the outcome of a call with other last numbers
abbrev pub outcome_with : (ℕ → ℕ → ℕ) → Result Place Refusal → Result Place Refusal
outcome_with last (Ok next) = Ok (with_lasts last next)
outcome_with last (Err why) = Err why

-- a call has the same outcome under any last numbers, and leaves them as they are
abbrev pub LooksAtNoLasts : Sizes → Place → Type 0
LooksAtNoLasts c p = (last : ℕ → ℕ → ℕ) (s v : ℕ) (call : Call)
    → called c (with_lasts last p) s v call ≡ outcome_with last (called c p s v call)

-- A call is allowed: it leads to a next cell, the server is up, and has room if it had nothing of the shard.
pub record IsAllowed (c : Sizes) (p : Place) (s v : ℕ) (call : Call) (to : Cell) : Type 0 where
  pub leads : Leads call (p.cells s v) to
  pub up : p.down v ≡ false
  pub room : p.cells s v ≡ Absent → load_at c p v + c.load s ≤ c.room v

-- a server that goes down or comes up: its own replica of a shard counts or not, and each other one as before
abbrev pub LiveMoves : Sizes → Place → Type 0
LiveMoves c p = (s v : ℕ) (down : Bool) → v < c.servers →
    live_at c (set_down p v down) s + bit (is_live_at p s v) ≡ live_at c p s + bit (is_live_at (set_down p v down) s v)
