-- The rule of the words, and what each step tells.
-- Contracts see `publisher_of` of a publisher and `pass_model` of a pass, and nothing else of this module. The others
-- are what the words, the publisher and a pass keep (`HasWords`, `IsPublisherSeat`, `IsPassSeat`), and internal ones,
-- which the table's rule and its steps cite: you need not read them for the public contracts.
use Rattle.std.specs.Prelude.{◌≡◌, ℕ, ◌<◌, ◌≤◌, List, [], ◌∷◌, ◌++◌, true, false, Some, All, length, slice_index}
use mathlib.Core.Option.{some}
use lib.ListN.{get_elem?}
use Rattle.atomic_table.specs.Seated.{TableId}
use Rattle.atomic_table.specs.Table.{State, Me, Step}
use Rattle.sm_placement.specs.declared.entry.Entry.{Entry}
use Rattle.sm_map.specs.declared.rule.View.{View}
use Rattle.sm_map.specs.Entry.{IsInRange, entry_for, word_for}
use Rattle.sm_map.specs.History.{AllSameOrOlder, AllStand, IsNotBefore, VersionsRise, entries_of_shard, newest, word_at}
use Rattle.sm_map.specs.Models.{PublisherModel, PassModel, words_model}
use Rattle.sm_placement.specs.declared.limits.TheConstants.{MOST_SERVERS}

-- a table has a word for each shard, and at least one
pub record HasWords (table : TableId) (servers : ℕ) (opening : List Entry) : Type 0 where
  pub some : 0 < table.words
  pub enough : length opening ≤ table.words
  pub few_servers : servers ≤ MOST_SERVERS

-- the publisher's view
abbrev pub publisher_view : ℕ → List Entry → List (ℕ × Entry) → View
publisher_view servers opening stores = record { publishes = true; servers = servers; opening = opening; stores = stores; since = []; seen = [] }

-- a pass's view
abbrev pub pass_view : ℕ → List Entry → List (ℕ × Entry) → List (ℕ × Entry) → View
pass_view servers opening since seen = record { publishes = false; servers = servers; opening = opening; stores = []; since = since; seen = seen }

-- a seat of the publisher: its view, and no slot of the table
pub record IsPublisherSeat {S : Type 0} (me : Me S View) : Type 0 where
  pub view : me.0 ≡ publisher_view me.0.servers me.0.opening me.0.stores
  pub slots : me.1 ≡ []

-- a seat of a pass
pub record IsPassSeat {S : Type 0} (me : Me S View) : Type 0 where
  pub view : me.0 ≡ pass_view me.0.servers me.0.opening me.0.since me.0.seen
  pub slots : me.1 ≡ []

-- what contracts see of the publisher
abbrev pub publisher_of : TableId → View → PublisherModel
publisher_of table view = record { words = words_model table view.servers view.opening; stores = view.stores }

-- what contracts see of a pass
abbrev pub pass_model : TableId → View → PassModel
pass_model table view = record { words = words_model table view.servers view.opening; since = view.since; seen = view.seen }

-- the view that a pass leaves behind when it joins the publisher: nothing stored and nothing seen
abbrev pub spent : View
spent = pass_view 0 [] [] []

-- the publisher's view with a pass's
abbrev pub joined : View → View → View
joined publisher pass = record publisher { since = pass.since; seen = pass.seen }

-- what the publisher keeps of such a view
abbrev pub publisher_part : View → View
publisher_part view = record view { since = []; seen = [] }

-- and what the pass gets: what was seen, and what is stored by now
abbrev pub pass_part : View → View
pass_part view = pass_view view.servers view.opening view.stores view.seen

-- the view with one more entry seen
abbrev pub with_seen : View → ℕ → Entry → View
with_seen view shard entry = record view { seen = (shard, entry) ∷ view.seen }

-- the view with one more entry stored
abbrev pub with_store : View → ℕ → Entry → View
with_store view shard entry = record view { stores = (shard, entry) ∷ view.stores }

-- The rule for the view of a seat: the publisher alone knows all that is stored, what was stored when the seat was
-- parted from it is the earlier part of that, and each entry that was seen is one of its shard's.
pub record Fits (servers : ℕ) (opening : List Entry) (publisher : ℕ) (stores : List (ℕ × Entry)) (seat : ℕ) (view : View) : Type 0 where
  pub one : view.publishes ≡ true
      → (seat ≡ publisher) × (view.servers ≡ servers) × (view.opening ≡ opening) × (view.stores ≡ stores)
  pub later : List (ℕ × Entry)
  pub earlier : stores ≡ later ++ view.since
  pub stand : AllStand opening stores view.seen

-- The rule, for words that were opened with these entries. One seat is the publisher's, and all that was stored is what
-- it stored. Each word is that of its shard's newest entry, and 0 if there is no shard. Along a shard's list the
-- versions rise by one, and each server is below the count and each version below 2^47.
pub record Kept {S : Type 0} (servers : ℕ) (opening : List Entry) (state : State S View) : Type 0 where
  pub publisher : ℕ
  pub stores : List (ℕ × Entry)
  pub enough : length opening ≤ length state.words
  pub words : (shard : ℕ) → slice_index state.words shard ≡ word_at (newest (entries_of_shard opening stores shard))
  pub rises : (shard : ℕ) → VersionsRise (entries_of_shard opening stores shard)
  pub in_range : (shard : ℕ) → All (IsInRange servers) (entries_of_shard opening stores shard)
  pub each : (seat : ℕ) (view : View) → get_elem? state.views seat ≡ some view
      → Fits servers opening publisher stores seat view

-- a load finds the word of this entry, which is no older than what was seen of the shard or was stored when the seat
-- was parted from the publisher, and which is then seen too
pub record Finds {S : Type 0} (step : Step S) (before : Me S View) (found : ℕ) (after : Me S View) (entry : Entry) : Type 0 where
  pub word : found ≡ word_for entry
  pub in_range : IsInRange before.0.servers entry
  pub not_older : AllSameOrOlder before.0.seen step.word entry
  pub not_before : IsNotBefore before.0.opening before.0.since step.word entry
  pub view : after.0 ≡ with_seen before.0 step.word entry
  pub slots : after.1 ≡ before.1

-- what a load tells a pass
abbrev pub Looks : {S : Type 0} → Step S → Me S View → ℕ → Me S View → Type 0
Looks step before found after = (entry : Entry) × Finds step before found after entry

-- what a load tells the publisher and a pass as one: the entry is the shard's newest, what was stored when they were
-- parted is the earlier part of what is stored, and each entry that was seen is one of its shard's
pub record Meets {S : Type 0} (step : Step S) (before : Me S View) (found : ℕ) (after : Me S View) : Type 0 where
  pub entry : Entry
  pub finds : Finds step before found after entry
  pub last : newest (entries_of_shard before.0.opening before.0.stores step.word) ≡ Some entry
  pub later : List (ℕ × Entry)
  pub earlier : before.0.stores ≡ later ++ before.0.since
  pub stand : AllStand before.0.opening before.0.stores before.0.seen

-- what a store tells the publisher: its list of the shard has the word's entry as its newest
pub record Stores {S : Type 0} (step : Step S) (before : Me S View) (stored : ℕ) (after : Me S View) : Type 0 where
  pub view : after.0 ≡ with_store before.0 step.word (entry_for step.first)
  pub slots : after.1 ≡ before.1
