-- The documents that bytes are read as.
-- `rows_of_parts` is internal: you need not read it for the public contracts.
use Rattle.std.specs.Prelude.{ℕ, List, [], Option, Some, None, Result, Ok, Err, option_map, if◌then◌else◌}
use Rattle.std.specs.Str.{is_utf8}
use Rattle.serde_json.specs.Data.{Data}
use Rattle.serde_json.specs.Read as json
use Rattle.sm_placement.specs.Config.{setup_of}
use Rattle.sm_plan_code.specs.Plan.{PlanModel}
use Rattle.sm_plan_text.specs.declared.fault.TextFault.{TextFault}
use Rattle.sm_plan_text.specs.declared.fault.TextFault.TheVariants.{NotJson}
use Rattle.sm_plan_text.specs.declared.member.Member.TheVariants as members
use Rattle.sm_plan_text.specs.declared.document.Document.{Document}
use Rattle.sm_plan_text.specs.declared.document.Work.{Work}
use Rattle.sm_plan_text.specs.declared.rows.Servers.{Servers}
use Rattle.sm_plan_text.specs.declared.rows.Shards.{Shards}
use Rattle.sm_plan_text.specs.Faults.{answered}
use Rattle.sm_plan_text.specs.Plans.{plan_faults, plan_in}
use Rattle.sm_plan_text.specs.Documents.{DocumentModel, document_faults, rows_in}

-- the JSON value (RFC 8259) that the bytes are in UTF-8
abbrev pub data_of : List ℕ → Option Data
data_of bytes = if is_utf8 bytes then json.read bytes else None

-- the fault that is answered, or what was read if there is none
abbrev unless : {A : Type 0} → Option TextFault → A → Result A TextFault
unless None read = Ok read
unless (Some fault) read = Err fault

-- what a JSON value is read as: a document, or the fault that is answered; NotJson if there is no value
abbrev pub read_data : Option Data → Result DocumentModel TextFault
read_data None = Err NotJson
read_data (Some d) = unless (answered (document_faults d)) (rows_in d)

-- what the bytes are read as: a document, or the fault that is answered
abbrev pub read : List ℕ → Result DocumentModel TextFault
read bytes = read_data (data_of bytes)

-- what a JSON value is read as that is to be one plan, where shards and servers have these names
abbrev pub read_plan_data : List (List ℕ) → List (List ℕ) → Option Data → Result PlanModel TextFault
read_plan_data shards servers None = Err NotJson
read_plan_data shards servers (Some d) = unless (answered (plan_faults members.Document shards servers [] d)) (plan_in shards servers d)

-- what the bytes are read as that are to be one plan, where shards and servers have these names
abbrev pub read_plan : List (List ℕ) → List (List ℕ) → List ℕ → Result PlanModel TextFault
read_plan shards servers bytes = read_plan_data shards servers (data_of bytes)

-- what a document says that was read
abbrev pub rows_of : Document → DocumentModel
rows_of d = record {
  setup = d.config;
  cells = d.cells.items;
  listed = d.listed.items;
  down = d.down.items;
  limit = d.limit;
  log = d.log;
  calls = option_map (λ calls. calls.items) d.calls;
  plan = d.plan;
  plans = option_map (λ plans. plans.items) d.plans;
  events = option_map (λ events. events.items) d.events;
  moves = option_map (λ moves. moves.items) d.moves;
  drain = d.drain;
  asks = d.asks.items;
}

-- the same of a document whose servers and shards are not a configuration yet
abbrev pub rows_of_parts : Servers × Shards × Work → DocumentModel
rows_of_parts p = record {
  setup = setup_of p.0.rows.items p.1.rows.items;
  cells = p.1.cells.items;
  listed = p.1.listed.items;
  down = p.0.down.items;
  limit = p.2.limit;
  log = p.2.log;
  calls = option_map (λ calls. calls.items) p.2.calls;
  plan = p.2.plan;
  plans = option_map (λ plans. plans.items) p.2.plans;
  events = option_map (λ events. events.items) p.2.events;
  moves = option_map (λ moves. moves.items) p.2.moves;
  drain = p.2.drain;
  asks = p.2.asks.items;
}
