-- Replies to `since`: what came up after a place.
use Rattle.std.specs.Prelude.{ℕ, Bool, List, [], ◌∷◌, ◌++◌, Option, codes, decimal, length, nat_lt, if◌then◌else◌}
use Rattle.std.specs.List.{flat_map, range_with_len}
use Rattle.std.specs.Option.{option_map_or}
use Rattle.json.specs.Token.{Token, number}
use Rattle.sm_driver.specs.Driver.{record_of}
use Rattle.sm_driver.specs.Orders.{awaiting_of}
use Rattle.smpland_lines.specs.Members.{list_member, number_member, object_member, text_member}
use Rattle.smpland_state.specs.declared.journal_state.JournalState.{JournalState}
use Rattle.smpland_state.specs.History.{HistoryModel, ended_at, later_streams, published_at}
use Rattle.smpland_state.specs.Messages.{orders_member}
use Rattle.smpland_state.specs.Published.{entry_text}

-- the present messages that came up after a place, as a member: none while a reopening is under way
abbrev pub orders_since : JournalState → Bool → ℕ → List Token
orders_since o is_reopening place =
    if is_reopening then list_member (codes "orders") []
    else orders_member o.driver (later_streams o.history place (awaiting_of (record_of o.driver)))

-- a shard's entry of the map, if it changed after a place
abbrev pub entry_since : JournalState → ℕ → ℕ → List Token
entry_since o place s = if nat_lt place (published_at o.history s) then entry_text o.driver s else []

-- those of all shards, as a member
abbrev pub published_since : JournalState → ℕ → List Token
published_since o place =
    list_member (codes "published") (flat_map (entry_since o place) (range_with_len 0 (length o.driver.machine.placement.setup.shards)))

-- the number of a plan, if it ended after a place
abbrev pub number_if_later : ℕ → ℕ → Option ℕ → List Token
number_if_later place k ended = option_map_or (λ at. if nat_lt place at then number (decimal k) ∷ [] else []) ended []

-- those of the plans of the epoch
abbrev pub ended_later : HistoryModel → ℕ → List Token
ended_later h place = flat_map (λ k. number_if_later place k (ended_at h k)) (range_with_len 0 (length h.plans))

-- the same as a member
abbrev pub ended_since : HistoryModel → ℕ → List Token
ended_since h place = list_member (codes "ended") (ended_later h place)

-- the messages and the entries that came up after a place, and the plans that ended after it
abbrev pub changes_since : JournalState → Bool → ℕ → List Token
changes_since o is_reopening place = orders_since o is_reopening place ++ published_since o place
    ++ ended_since o.history place

-- the same, or that the place is still to come
abbrev pub changes_or_later : JournalState → Bool → ℕ → ℕ → List Token
changes_or_later o is_reopening now place =
    if nat_lt now place then text_member (codes "is") (codes "later") else changes_since o is_reopening place

-- where the journal stands, and this
abbrev pub since_members : JournalState → Bool → ℕ → ℕ → List Token
since_members o is_reopening now place = number_member (codes "place") now ++ changes_or_later o is_reopening now place

-- the same as a member
abbrev pub since_member : JournalState → Bool → ℕ → ℕ → List Token
since_member o is_reopening now place = object_member (codes "since") (since_members o is_reopening now place)
