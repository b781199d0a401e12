-- The content of a document whose longest lists are read as they come, and are empty in what is kept.
-- Internal definitions: you need not read them for the public contracts.
use Rattle.std.specs.Prelude.{◌≡◌, ◌≤◌, ℕ, List, [], length, map, Option, Some, None, MatchOption}
use Rattle.serde_json.specs.Data.{Data, array, object, Items, no_items, Members}
use Rattle.serde_json.specs.Find.{get_member}
use Rattle.json_tree.specs.View.{view, members_view}
use Rattle.sm_plan_text.specs.declared.fault.TextFault.{TextFault}
use Rattle.sm_plan_text.specs.declared.member.Member.TheVariants as members
use Rattle.sm_plan_text.specs.declared.outline.EarlyList.{EarlyList}
use Rattle.sm_plan_text.specs.declared.outline.Early.{Early}
use Rattle.sm_plan_text.specs.declared.outline.PartialOutline.{PartialOutline}
use Rattle.sm_plan_text.specs.declared.outline.Outline.{Outline}
use Rattle.sm_plan_text.specs.Members.{text_of}
use Rattle.sm_plan_text.specs.Faults.{answered}
use Rattle.sm_plan_text.specs.Values.{entries, entries_in, names_in}
use Rattle.sm_plan_text.specs.Tables.{keys_of, walked}
use Rattle.sm_plan_text.specs.Parcels.{HaveIds}
use Rattle.sm_protocol.specs.declared.event.Event.{Event}
use Rattle.sm_plan_text.specs.Calls.{NamedCall, call_faults, call_in}
use Rattle.sm_plan_text.specs.Events.{event_faults, event_in}
use Rattle.sm_plan_text.specs.declared.limits.TheConstants.{MOST_EVENTS}

-- what the entries of a list were read as: their values if nothing is wrong, and what is wrong
pub record IsEarlyList {V : Type 0} (faults_of : List Data → Data → List TextFault) (value_of : Data → V) (ids : Type 0) (list : EarlyList V) (ds : List Data) : Type 0 where
  pub few : length ds ≤ MOST_EVENTS
  pub faults : list.faults.lowest ≡ answered (walked faults_of [] ds)
  pub values : ids → list.faults.lowest ≡ None → list.values.items ≡ map value_of ds

-- what is kept of a member and what stands there: the same, or for a list that was read early an empty one
abbrev pub IsKept : {V : Type 0} → (List Data → Data → List TextFault) → (Data → V) → Type 0 → Option (EarlyList V)
    → Option Data → Option Data → Type 0
IsKept faults_of value_of ids None kept whole = whole ≡ kept
IsKept faults_of value_of ids (Some list) kept whole = (ds : Items) × (kept ≡ Some (array no_items))
    × (whole ≡ Some (array ds)) × IsEarlyList faults_of value_of ids list (entries ds)

-- what is kept of an object's members, and the members of which some lists were read early
pub record IsEarly (early : Early) (kept whole : Members) : Type 0 where
  pub shards : early.shards ≡ names_in (entries_in members.Shards (object kept))
  pub servers : early.servers ≡ names_in (entries_in members.Servers (object kept))
  pub keys : keys_of whole ≡ keys_of kept
  pub others : (name : List ℕ) → (name ≡ text_of members.Calls → ⊥) → (name ≡ text_of members.Events → ⊥)
      → get_member name whole ≡ get_member name kept
  pub calls : IsKept (call_faults early.shards early.servers) (call_in early.shards early.servers) (HaveIds early.shards early.servers)
      early.calls (get_member (text_of members.Calls) kept) (get_member (text_of members.Calls) whole)
  pub events : IsKept (event_faults early.shards early.servers) (event_in early.shards early.servers) (HaveIds early.shards early.servers)
      early.events (get_member (text_of members.Events) kept) (get_member (text_of members.Events) whole)

-- the members of which a partial outline has what was kept and what was read early
abbrev pub IsPartialOutline : PartialOutline → Members → Type 0
IsPartialOutline partial whole = MatchOption partial.early (whole ≡ members_view partial.members.items) (λ early. IsEarly early (members_view partial.members.items) whole)

-- what is kept of a value, and the value of which some lists were read early
abbrev pub IsOutlined : Option Early → Data → Data → Type 0
IsOutlined None kept d = d ≡ kept
IsOutlined (Some early) kept d = (some : Members) × (whole : Members) × (kept ≡ object some) × (d ≡ object whole)
    × IsEarly early some whole

-- the value of which an outline has what was kept and what was read early
abbrev pub IsOutline : Outline → Data → Type 0
IsOutline outline d = IsOutlined outline.early (view outline.tree) d

-- the list of calls that was read early, if there is one
abbrev pub calls_of : Option Early → Option (EarlyList NamedCall)
calls_of None = None
calls_of (Some early) = early.calls

-- the list of events that was read early, if there is one
abbrev pub events_of : Option Early → Option (EarlyList Event)
events_of None = None
events_of (Some early) = early.events
