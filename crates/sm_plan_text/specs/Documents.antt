-- A document.
use Rattle.std.specs.Prelude.{◌≡◌, ◌≤◌, ◌<◌, ℕ, List, [], ◌∷◌, ◌++◌, length, map, Option, option_map, option_and_then}
use Rattle.std.specs.Prelude.{All, IfSome}
use Rattle.serde_json.specs.Data.{Data}
use Rattle.sm_placement.specs.Setup.{Setup, sizes_of}
use Rattle.sm_placement.specs.Opening.{NamedCell}
use Rattle.sm_placement.specs.Rows.{IsKnownCall}
use Rattle.sm_plan_code.specs.Plan.{PlanModel, IsKnownPlan}
use Rattle.sm_plan_code.specs.declared.moves.Move.{Move}
use Rattle.sm_plan_code.specs.Move.{IsKnownMove}
use Rattle.sm_plan_text.specs.declared.fault.TextFault.{TextFault}
use Rattle.sm_plan_text.specs.declared.member.Member.TheVariants as members
use Rattle.sm_plan_text.specs.Values.{found, number_in, number_or, list_in, entries_in, names_in, id_named, ids_in}
use Rattle.sm_plan_text.specs.Tables.{Row, one, maybe, whole, known, object, list, known_list, own_faults, walked}
use Rattle.sm_plan_text.specs.Servers.{server_faults, server_in, down_in}
use Rattle.sm_plan_text.specs.Shards.{shard_faults, shard_in, listed_in, cells_in}
use Rattle.sm_plan_text.specs.Calls.{NamedCall, call_faults, call_in}
use Rattle.sm_plan_text.specs.Plans.{faults_within, plan_faults, plan_in}
use Rattle.sm_protocol.specs.declared.event.Event.{Event}
use Rattle.sm_protocol.specs.Laws.{NamesKnown}
use Rattle.sm_plan_text.specs.Events.{event_faults, event_in}
use Rattle.sm_plan_text.specs.Moves.{move_faults, move_in}
use Rattle.sm_plan_text.specs.declared.limits.TheConstants.{MOST_EVENTS, MOST_ASKS, LOG_PLACES}
use Rattle.sm_plan_code.specs.declared.limits.TheConstants.{MOST_MOVES, MOST_PLACES, MOST_PLANS}
use Rattle.sm_placement.specs.declared.limits.TheConstants.{MOST_SERVERS, MOST_SHARDS, MOST_CELLS}

-- what a document says
pub record DocumentModel : Type 0 where
  pub setup : Setup
  pub cells : List NamedCell
  pub listed : List (Option ℕ)
  pub down : List ℕ
  pub limit : ℕ
  pub log : ℕ
  pub calls : Option (List NamedCall)
  pub plan : Option PlanModel
  pub plans : Option (List PlanModel)
  -- those of the protocol, which name a plan by its place among the plans of the document
  pub events : Option (List Event)
  pub moves : Option (List Move)
  pub drain : Option ℕ
  pub asks : List ℕ

-- the members of a document, with the names of its shards and servers
abbrev pub document_table : List (List ℕ) → List (List ℕ) → List Row
document_table shards servers =
    one members.Limit (whole MOST_SERVERS) ∷
    one members.Servers (list MOST_SERVERS) ∷
    one members.Shards (list MOST_SHARDS) ∷
    maybe members.Log (whole MOST_PLACES) ∷
    maybe members.Calls (list MOST_EVENTS) ∷
    maybe members.Plan object ∷
    maybe members.Plans (list MOST_PLANS) ∷
    maybe members.Events (list MOST_EVENTS) ∷
    maybe members.Moves (list MOST_MOVES) ∷
    maybe members.Drain (known servers) ∷
    maybe members.Asks (known_list MOST_ASKS shards) ∷ []

-- the entries of a document's list of servers
abbrev pub servers_in : Data → List Data
servers_in d = entries_in members.Servers d

-- the entries of a document's list of shards
abbrev pub shards_in : Data → List Data
shards_in d = entries_in members.Shards d

-- the names of the servers
abbrev pub server_names_in : Data → List (List ℕ)
server_names_in d = names_in (servers_in d)

-- the names of the shards
abbrev pub shard_names_in : Data → List (List ℕ)
shard_names_in d = names_in (shards_in d)

-- all faults of a document, as a walk meets them: its own, and then those of the objects in it
abbrev pub document_faults : Data → List TextFault
document_faults d =
    own_faults members.Document (document_table (shard_names_in d) (server_names_in d)) d
    ++ walked server_faults [] (servers_in d)
    ++ walked (shard_faults (server_names_in d)) [] (shards_in d)
    ++ walked (call_faults (shard_names_in d) (server_names_in d)) [] (entries_in members.Calls d)
    ++ faults_within (plan_faults members.Plan (shard_names_in d) (server_names_in d) []) (found members.Plan d)
    ++ walked (plan_faults members.Plans (shard_names_in d) (server_names_in d)) [] (entries_in members.Plans d)
    ++ walked (event_faults (shard_names_in d) (server_names_in d)) [] (entries_in members.Events d)
    ++ walked (move_faults (shard_names_in d) (server_names_in d)) [] (entries_in members.Moves d)

-- the configuration that a document says
abbrev pub setup_in : Data → Setup
setup_in d = record { servers = map server_in (servers_in d); shards = map shard_in (shards_in d) }

-- all that a document says
abbrev pub rows_in : Data → DocumentModel
rows_in d = record {
  setup = setup_in d;
  cells = cells_in (server_names_in d) (shards_in d);
  listed = map (listed_in (server_names_in d)) (shards_in d);
  down = down_in (servers_in d);
  limit = number_in members.Limit MOST_SERVERS d;
  log = number_or LOG_PLACES members.Log MOST_PLACES d;
  calls = option_map (map (call_in (shard_names_in d) (server_names_in d))) (list_in members.Calls d);
  plan = option_map (plan_in (shard_names_in d) (server_names_in d)) (found members.Plan d);
  plans = option_map (map (plan_in (shard_names_in d) (server_names_in d))) (list_in members.Plans d);
  events = option_map (map (event_in (shard_names_in d) (server_names_in d))) (list_in members.Events d);
  moves = option_map (map (move_in (shard_names_in d) (server_names_in d))) (list_in members.Moves d);
  drain = option_and_then (id_named (server_names_in d)) (found members.Drain d);
  asks = ids_in (shard_names_in d) members.Asks d;
}

-- every id is below its count, and the numbers and lists that are told of here are within their limits
pub record IsDocument (rows : DocumentModel) : Type 0 where
  pub cells : All (λ cell. (cell.0 < length rows.setup.shards) × (cell.1 < length rows.setup.servers)) rows.cells
  pub listed : All (λ entry. IfSome entry (λ server. server < length rows.setup.servers)) rows.listed
  pub down : All (λ server. server < length rows.setup.servers) rows.down
  pub calls : IfSome rows.calls (λ calls. All (λ call. (call.0 < length rows.setup.shards) × (call.1 < length rows.setup.servers) × IsKnownCall (length rows.setup.servers) call.2) calls)
  pub plan : IfSome rows.plan (IsKnownPlan (length rows.setup.shards) (length rows.setup.servers))
  pub plans : IfSome rows.plans (All (IsKnownPlan (length rows.setup.shards) (length rows.setup.servers)))
  pub events : IfSome rows.events (All (NamesKnown (sizes_of rows.setup)))
  pub moves : IfSome rows.moves (All (IsKnownMove (length rows.setup.shards) (length rows.setup.servers)))
  pub drain : IfSome rows.drain (λ server. server < length rows.setup.servers)
  pub asks : All (λ shard. shard < length rows.setup.shards) rows.asks
  -- each shard has its entry in the published map, and there are no more cells than a placement may be opened with
  pub listed_length : length rows.listed ≡ length rows.setup.shards
  pub cell_count : length rows.cells ≤ MOST_CELLS
  pub limit : rows.limit ≤ MOST_SERVERS
  pub log : rows.log ≤ MOST_PLACES
  pub plan_count : IfSome rows.plans (λ plans. length plans ≤ MOST_PLANS)
  pub move_count : IfSome rows.moves (λ moves. length moves ≤ MOST_MOVES)
  pub ask_count : length rows.asks ≤ MOST_ASKS
