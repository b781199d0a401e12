-- Plans: in a document, or as a text of their own.
use Rattle.std.specs.Prelude.{ℕ, Bool, false, not, List, [], ◌∷◌, ◌++◌, length, map, Option, Some, None, unwrap_or}
use Rattle.std.specs.Prelude.{option_map, if◌then◌else◌}
use Rattle.serde_json.specs.Data.{Data}
use Rattle.sm_reservation.specs.Rights.{no_rights}
use Rattle.sm_plan_code.specs.Plan.{StreamModel, PlanModel}
use Rattle.sm_plan_text.specs.declared.fault.TextFault.{TextFault}
use Rattle.sm_plan_text.specs.declared.member.Member.{Member}
use Rattle.sm_plan_text.specs.declared.member.Member.TheVariants as members
use Rattle.sm_plan_text.specs.Values.{found, whole_number_of, number_in, number_or, entries_in}
use Rattle.sm_plan_text.specs.Tables.{Row, one, maybe, whole, object, format, is_number, list, own_faults, walked}
use Rattle.sm_plan_text.specs.Parcels.{parcel_faults, parcel_in}
use Rattle.sm_plan_text.specs.Instructions.{instr_faults, instr_in}
use Rattle.sm_plan_code.specs.declared.limits.TheConstants.{MOST_CALLS, MOST_INSTRUCTIONS, MOST_SIGNALS, MOST_STREAMS}

-- what is found in a member that may be missing
abbrev pub faults_within : (Data → List TextFault) → Option Data → List TextFault
faults_within faults None = []
faults_within faults (Some d) = faults d

-- ---- streams

-- Streams may say how many retries they have, unless the plan is of format 1, as it is if it says nothing.
abbrev pub knows_retries : Data → Bool
knows_retries plan = unwrap_or (option_map (λ d. not (is_number 1 (whole_number_of d))) (found members.Format plan)) false

-- the members of a stream; its retries come last
abbrev pub stream_table : Bool → List Row
stream_table retries =
    one members.Budget (whole MOST_CALLS) ∷
    one members.Holds object ∷
    one members.Code (list MOST_INSTRUCTIONS) ∷
    (if retries then maybe members.Retries (whole MOST_CALLS) ∷ [] else [])

-- the faults of a stream, then of what it holds, and then of its instructions
abbrev pub stream_faults : List (List ℕ) → List (List ℕ) → ℕ → Bool → List Data → Data → List TextFault
stream_faults shards servers signals retries before d =
    own_faults members.Streams (stream_table retries) d
    ++ faults_within (parcel_faults members.Holds shards servers []) (found members.Holds d)
    ++ walked (instr_faults shards servers signals) [] (entries_in members.Code d)

-- a stream in a plan with this many signals, as its object says it; it has retries if the plan's format knows them
abbrev pub stream_in : List (List ℕ) → List (List ℕ) → ℕ → Bool → Data → StreamModel
stream_in shards servers signals retries d = record {
  budget = number_in members.Budget MOST_CALLS d;
  retries = if retries then number_or 0 members.Retries MOST_CALLS d else 0;
  holds = unwrap_or (option_map (parcel_in shards servers) (found members.Holds d)) no_rights;
  code = map (instr_in shards servers signals) (entries_in members.Code d);
}

-- ---- plans

-- the members of a plan
abbrev pub plan_table : List Row
plan_table =
    maybe members.Format format ∷
    one members.Budget (whole MOST_CALLS) ∷
    maybe members.Signals (list MOST_SIGNALS) ∷
    one members.Streams (list MOST_STREAMS) ∷ []

-- how many signals a plan has
abbrev pub signal_count_in : Data → ℕ
signal_count_in d = length (entries_in members.Signals d)

-- the faults of the plan that stands in this member, then of its signals' parcels, and then of its streams
abbrev pub plan_faults : Member → List (List ℕ) → List (List ℕ) → List Data → Data → List TextFault
plan_faults parent shards servers before d =
    own_faults parent plan_table d
    ++ walked (parcel_faults members.Signals shards servers) [] (entries_in members.Signals d)
    ++ walked (stream_faults shards servers (signal_count_in d) (knows_retries d)) [] (entries_in members.Streams d)

-- a plan, as its object says it
abbrev pub plan_in : List (List ℕ) → List (List ℕ) → Data → PlanModel
plan_in shards servers d = record {
  budget = number_in members.Budget MOST_CALLS d;
  streams = map (stream_in shards servers (signal_count_in d) (knows_retries d)) (entries_in members.Streams d);
  signals = map (parcel_in shards servers) (entries_in members.Signals d);
}
