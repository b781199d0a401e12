-- The content of a document beside its servers and shards, whose names a scope has.
-- Internal definitions: you need not read them for the public contracts.
use Rattle.std.specs.Prelude.{◌≡◌, [], Option, option_map, option_and_then, map}
use Rattle.serde_json.specs.Data.{Data}
use Rattle.sm_plan_text.specs.declared.fault.TextFault.{TextFault}
use Rattle.sm_plan_text.specs.declared.document.Work.{Work}
use Rattle.sm_plan_text.specs.declared.member.Member.TheVariants as members
use Rattle.sm_plan_text.specs.declared.cursor.Scope.{Scope}
use Rattle.sm_plan_text.specs.declared.outline.Early.{Early}
use Rattle.sm_plan_text.specs.Faults.{noted}
use Rattle.sm_plan_text.specs.Rules.{HasIds}
use Rattle.sm_plan_text.specs.Outlines.{IsKept, calls_of, events_of}
use Rattle.sm_plan_text.specs.Values.{found, number_in, number_or, list_in, items_of, entries_in, entries_found}
use Rattle.sm_plan_text.specs.Values.{id_named, ids_in}
use Rattle.sm_plan_text.specs.Tables.{walked}
use Rattle.sm_plan_text.specs.Calls.{call_faults, call_in}
use Rattle.sm_plan_text.specs.Plans.{faults_within, plan_faults, plan_in}
use Rattle.sm_plan_text.specs.Events.{event_faults, event_in}
use Rattle.sm_plan_text.specs.Moves.{move_faults, move_in}
use Rattle.sm_plan_text.specs.declared.limits.TheConstants.{LOG_PLACES}
use Rattle.sm_plan_code.specs.declared.limits.TheConstants.{MOST_PLACES}
use Rattle.sm_placement.specs.declared.limits.TheConstants.{MOST_SERVERS}

-- calls and events stand here, and if they were read early, this is what is kept
abbrev pub AreKept : Scope → Option Early → Data → Option Data → Option Data → Type 0
AreKept scope early d calls events =
    IsKept (call_faults scope.shards.now scope.servers.now) (call_in scope.shards.now scope.servers.now) (HasIds scope) (calls_of early) (found members.Calls d) calls
    × IsKept (event_faults scope.shards.now scope.servers.now) (event_in scope.shards.now scope.servers.now) (HasIds scope) (events_of early) (found members.Events d) events

-- what was read is what the document says of these members, with the calls and events that were found
pub record IsWork (scope : Scope) (d : Data) (found_calls found_events : Option Data) (work : Work) : Type 0 where
  pub limit : work.limit ≡ number_in members.Limit MOST_SERVERS d
  pub log : work.log ≡ number_or LOG_PLACES members.Log MOST_PLACES d
  pub calls : option_map (λ list. list.items) work.calls
      ≡ option_map (map (call_in scope.shards.now scope.servers.now)) (option_map items_of found_calls)
  pub plan : work.plan ≡ option_map (plan_in scope.shards.now scope.servers.now) (found members.Plan d)
  pub plans : option_map (λ list. list.items) work.plans
      ≡ option_map (map (plan_in scope.shards.now scope.servers.now)) (list_in members.Plans d)
  pub events : option_map (λ list. list.items) work.events
      ≡ option_map (map (event_in scope.shards.now scope.servers.now)) (option_map items_of found_events)
  pub moves : option_map (λ list. list.items) work.moves
      ≡ option_map (map (move_in scope.shards.now scope.servers.now)) (list_in members.Moves d)
  pub drain : work.drain ≡ option_and_then (id_named scope.servers.now) (found members.Drain d)
  pub asks : work.asks.items ≡ ids_in scope.shards.now members.Asks d

-- what is answered once the faults of the document's lists and of its plan have come too
abbrev pub work_noted : Scope → Data → Option Data → Option Data → Option TextFault → Option TextFault
work_noted scope d calls events best =
    noted (noted (noted (noted (noted best
    (walked (call_faults scope.shards.now scope.servers.now) [] (entries_found calls)))
    (faults_within (plan_faults members.Plan scope.shards.now scope.servers.now []) (found members.Plan d)))
    (walked (plan_faults members.Plans scope.shards.now scope.servers.now) [] (entries_in members.Plans d)))
    (walked (event_faults scope.shards.now scope.servers.now) [] (entries_found events)))
    (walked (move_faults scope.shards.now scope.servers.now) [] (entries_in members.Moves d))
