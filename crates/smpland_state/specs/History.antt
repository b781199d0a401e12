-- The places at which things came up, as a journal notes them. A place counts the commands that have changed something.
use Rattle.std.specs.Prelude.{◌==◌, ◌&&◌, ◌∷◌, ◌++◌, ℕ, Bool, List, [], Option, Some, None, nat_lt, replicate}
use Rattle.std.specs.Prelude.{slice_get, slice_index_or, slice_set, unwrap_or}
use Rattle.indexmap.specs.IndexMap.{insert_entry}
use Rattle.std.specs.List.{filter}
use Rattle.std.specs.Map.{lookup}
use Rattle.std.specs.Option.{option_map_or}
use Rattle.sm_reservation.specs.declared.stream_id.StreamId.{StreamId}
use Rattle.smpland_state.specs.declared.history.CellAt.{CellAt}

-- The places of a plan: where the present order of each of its streams came up, and where the plan has ended.
pub record PlanPlacesModel : Type 0 where
  pub ordered : List ℕ
  pub ended : Option ℕ

-- The places of a journal: where the map and all cells were recorded anew, where each entry of the map changed last,
-- where cells were recorded last that have changed since, and those of the epoch's plans.
pub record HistoryModel : Type 0 where
  pub mapped : ℕ
  pub published : List ℕ
  pub recorded : List (CellAt × ℕ)
  pub plans : List PlanPlacesModel

-- ---- what is read of it

-- where a stream came to where it stands, 0 if nothing is known of it
abbrev pub ordered_at : HistoryModel → StreamId → ℕ
ordered_at h id = option_map_or (λ plan. slice_index_or plan.ordered id.stream 0) (slice_get h.plans id.plan) 0

-- where a shard's entry of the map changed last, 0 if nothing is known of it
abbrev pub published_at : HistoryModel → ℕ → ℕ
published_at h s = slice_index_or h.published s 0

-- where a plan of the epoch has ended, if it has
abbrev pub ended_at : HistoryModel → ℕ → Option ℕ
ended_at h k = option_map_or (λ plan. plan.ended) (slice_get h.plans k) None

-- two cells are the same one
abbrev pub is_same_cell : CellAt → CellAt → Bool
is_same_cell a b = (a.shard == b.shard) && (a.server == b.server)

-- where it was recorded last what a server has of a shard: at the opening, if that has not changed since
abbrev pub recorded_at : HistoryModel → ℕ → ℕ → ℕ
recorded_at h s v = unwrap_or (lookup (is_same_cell (record { shard = s; server = v })) h.recorded) h.mapped

-- those of streams that came to where they stand after a place
abbrev pub later_streams : HistoryModel → ℕ → List StreamId → List StreamId
later_streams h place ids = filter (λ id. nat_lt place (ordered_at h id)) ids

-- ---- what is noted in it

-- a journal over a number of shards, opened at a place: all was recorded there, and no plan has begun
abbrev pub opened_history : ℕ → ℕ → HistoryModel
opened_history shards place = record { mapped = place; published = replicate shards place; recorded = []; plans = [] }

-- the next epoch has no plans yet
abbrev pub history_of_next_epoch : HistoryModel → HistoryModel
history_of_next_epoch h = record h { plans = [] }

-- the places of a plan that has begun at a place, with a number of streams
abbrev pub begun_places : ℕ → ℕ → PlanPlacesModel
begun_places place streams = record { ordered = replicate streams place; ended = None }

-- one more such plan has begun
abbrev pub with_begun : HistoryModel → ℕ → ℕ → HistoryModel
with_begun h place streams = record h { plans = h.plans ++ begun_places place streams ∷ [] }

-- the places of a plan of nothing
abbrev pub no_places : PlanPlacesModel
no_places = record { ordered = []; ended = None }

-- the places of a plan have changed so, if it has begun
abbrev pub with_plan : HistoryModel → ℕ → (PlanPlacesModel → PlanPlacesModel) → HistoryModel
with_plan h k change = record h { plans = slice_set h.plans k (change (slice_index_or h.plans k no_places)) }

-- a stream has come to where it stands at a place
abbrev pub with_moved : HistoryModel → ℕ → StreamId → HistoryModel
with_moved h place id = with_plan h id.plan (λ plan. record plan { ordered = slice_set plan.ordered id.stream place })

-- a plan has ended at a place
abbrev pub with_ended : HistoryModel → ℕ → ℕ → HistoryModel
with_ended h place k = with_plan h k (λ plan. record plan { ended = Some place })

-- a shard's entry of the map has changed at a place
abbrev pub with_published : HistoryModel → ℕ → ℕ → HistoryModel
with_published h place s = record h { published = slice_set h.published s place }

-- what a server has of a shard has changed at a place
abbrev pub with_recorded : HistoryModel → ℕ → ℕ → ℕ → HistoryModel
with_recorded h place s v = record h { recorded = insert_entry is_same_cell h.recorded (record { shard = s; server = v }) place }
