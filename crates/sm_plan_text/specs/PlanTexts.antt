-- The text of a plan, over the names of the shards and servers: what is written for it.
-- `scalar_data`, `scalars_said`, `tokens_of` and `lead_text` are internal: you need not read them for the public
-- contracts.
use Rattle.std.specs.Prelude.{◌≡◌, ℕ, Bool, List, [], ◌∷◌, codes, map, slice_index_or, Option, Some, None, nat_lt}
use Rattle.std.specs.Prelude.{if◌then◌else◌}
use Rattle.std.specs.List.{list_any}
use Rattle.std.specs.Borrow.{Bor}
use Rattle.serde_json.specs.Data.{Data, Members, null, number, unsigned, string, array, object, no_members, member}
use Rattle.serde_json.specs.View.{items_of}
use Rattle.json.specs.Token.{Token}
use Rattle.json.specs.Tree.{json_tokens}
use Rattle.serde_json.specs.Written.{compact_text, outline}
use Rattle.sm_server.specs.declared.call.Role.{Role}
use Rattle.sm_server.specs.declared.call.Role.TheVariants.{Primary, Secondary}
use Rattle.sm_placement.specs.declared.lead.Lead.{Lead}
use Rattle.sm_placement.specs.declared.lead.Lead.TheVariants as lead
use Rattle.sm_reservation.specs.declared.right.PlainCell.{PlainCell}
use Rattle.sm_reservation.specs.declared.right.PlainCell.TheVariants as plain
use Rattle.sm_reservation.specs.declared.right.CellRight.{CellRight}
use Rattle.sm_reservation.specs.declared.right.Crown.{Crown}
use Rattle.sm_reservation.specs.declared.right.Room.{Room}
use Rattle.sm_reservation.specs.declared.right.Spare.{Spare}
use Rattle.sm_reservation.specs.Rights.{Rights}
use Rattle.sm_plan_code.specs.declared.instruction.Instr.{Instr}
use Rattle.sm_plan_code.specs.declared.instruction.Instr.TheVariants as instr
use Rattle.sm_plan_code.specs.Plan.{StreamModel, PlanModel}
use Rattle.sm_plan_text.specs.declared.member.Member.{Member}
use Rattle.sm_plan_text.specs.declared.member.Member.TheVariants.{Server, Shard, State, Lead as LeadMember, Listed}
use Rattle.sm_plan_text.specs.declared.member.Member.TheVariants.{From, To, Amount, Cells, Crowns, Room as RoomMember}
use Rattle.sm_plan_text.specs.declared.member.Member.TheVariants.{Spare as SpareMember, Do, Other, Role as RoleMember}
use Rattle.sm_plan_text.specs.declared.member.Member.TheVariants.{Signal, Budget, Code, Holds, Retries, Format, Signals}
use Rattle.sm_plan_text.specs.declared.member.Member.TheVariants.{Streams}
use Rattle.sm_plan_text.specs.declared.writing.Scalar.{Scalar}
use Rattle.sm_plan_text.specs.declared.writing.Scalar.TheVariants as scalars
use Rattle.sm_plan_text.specs.Members.{text_of}
use Rattle.sm_plan_text.specs.Faults.{answered}
use Rattle.sm_plan_text.specs.Plans.{plan_faults, plan_in}

-- ---- what a member says

-- members with what they say
abbrev pub members_saying : List (Member × Data) → Members
members_saying [] = no_members
members_saying (m ∷ ms) = member (text_of m.0) m.1 (members_saying ms)

-- an object of these members
abbrev pub saying : List (Member × Data) → Data
saying ms = object (members_saying ms)

-- a whole number as a JSON value
abbrev pub whole_data : ℕ → Data
whole_data n = number (unsigned n)

-- a list as a JSON value
abbrev pub list_data : List Data → Data
list_data ds = array (items_of ds)

-- what a member says that is neither a list nor an object
abbrev pub scalar_data : Scalar → Data
scalar_data scalars.Null = null
scalar_data (scalars.Text text) = string text.now
scalar_data (scalars.Number n) = whole_data n

-- members that are such ones, in their order
abbrev pub scalars_said : List (Bor (List ℕ) × Scalar) → Members
scalars_said [] = no_members
scalars_said (m ∷ ms) = member m.0.now (scalar_data m.1) (scalars_said ms)

-- the tokens of a value's text
abbrev pub tokens_of : Data → List Token
tokens_of d = json_tokens (outline d)

-- the name of the object with a number
abbrev pub name_at : List (List ℕ) → ℕ → List ℕ
name_at names n = slice_index_or names n []

-- the name of the object with a number, as a JSON value
abbrev pub name_data : List (List ℕ) → ℕ → Data
name_data names n = string (name_at names n)

-- the name of a server, or null for none
abbrev pub listed_data : List (List ℕ) → Option ℕ → Data
listed_data servers None = null
listed_data servers (Some v) = name_data servers v

-- the word of a replica's role
abbrev pub role_text : Role → List ℕ
role_text Primary = codes "primary"
role_text Secondary = codes "secondary"

-- the word of a cell right's state
abbrev pub plain_text : PlainCell → List ℕ
plain_text plain.Absent = codes "absent"
plain_text plain.Secondary = codes "secondary"

-- the word of a crown's lead
abbrev pub lead_text : Lead → List ℕ
lead_text lead.Gone = codes "gone"
lead_text (lead.At u) = codes "at"
lead_text (lead.Ready u v) = codes "ready"
lead_text (lead.Handing u v) = codes "handing"
lead_text (lead.Handed u v) = codes "handed"

-- ---- rights

-- what is written for a cell right
abbrev pub right_data : List (List ℕ) → List (List ℕ) → CellRight → Data
right_data shards servers x = saying (
    (Server, name_data servers x.server) ∷
    (Shard, name_data shards x.shard) ∷
    (State, string (plain_text x.state)) ∷ [])

-- what is written for a crown of a handover from u to v
abbrev pub handover_data : List (List ℕ) → List (List ℕ) → List ℕ → ℕ → ℕ → Crown → Data
handover_data shards servers word u v x = saying (
    (From, name_data servers u) ∷
    (LeadMember, string word) ∷
    (Listed, listed_data servers x.listed) ∷
    (Shard, name_data shards x.shard) ∷
    (To, name_data servers v) ∷ [])

-- what is written for a crown, by its lead
abbrev pub crown_by_lead : List (List ℕ) → List (List ℕ) → Lead → Crown → Data
crown_by_lead shards servers lead.Gone x = saying (
    (LeadMember, string (codes "gone")) ∷
    (Listed, listed_data servers x.listed) ∷
    (Shard, name_data shards x.shard) ∷ [])
crown_by_lead shards servers (lead.At u) x = saying (
    (LeadMember, string (codes "at")) ∷
    (Listed, listed_data servers x.listed) ∷
    (Server, name_data servers u) ∷
    (Shard, name_data shards x.shard) ∷ [])
crown_by_lead shards servers (lead.Ready u v) x = handover_data shards servers (codes "ready") u v x
crown_by_lead shards servers (lead.Handing u v) x = handover_data shards servers (codes "handing") u v x
crown_by_lead shards servers (lead.Handed u v) x = handover_data shards servers (codes "handed") u v x

-- what is written for a crown
abbrev pub crown_data : List (List ℕ) → List (List ℕ) → Crown → Data
crown_data shards servers x = crown_by_lead shards servers x.lead x

-- what is written for an amount of room at a server
abbrev pub room_data : List (List ℕ) → Room → Data
room_data servers x = saying ((Amount, whole_data x.amount) ∷ (Server, name_data servers x.server) ∷ [])

-- what is written for an amount of spare replicas of a shard
abbrev pub spare_data : List (List ℕ) → Spare → Data
spare_data shards x = saying ((Amount, whole_data x.amount) ∷ (Shard, name_data shards x.shard) ∷ [])

-- what is written for a parcel: each of its four lists, empty ones too
abbrev pub parcel_data : List (List ℕ) → List (List ℕ) → Rights → Data
parcel_data shards servers r = saying (
    (Cells, list_data (map (right_data shards servers) r.cells)) ∷
    (Crowns, list_data (map (crown_data shards servers) r.crowns)) ∷
    (RoomMember, list_data (map (room_data servers) r.room)) ∷
    (SpareMember, list_data (map (spare_data shards) r.spare)) ∷ [])

-- ---- instructions

-- what is written for a step of a handover: the server at which it is made, and the other one
abbrev pub prepare_data : List (List ℕ) → List (List ℕ) → List ℕ → ℕ → ℕ → ℕ → Data
prepare_data shards servers word s v other = saying (
    (Do, string word) ∷
    (Other, name_data servers other) ∷
    (Server, name_data servers v) ∷
    (Shard, name_data shards s) ∷ [])

-- an instruction of a shard alone
abbrev pub entry_data : List (List ℕ) → List ℕ → ℕ → Data
entry_data shards word s = saying ((Do, string word) ∷ (Shard, name_data shards s) ∷ [])

-- an instruction of a signal
abbrev pub signal_data : List ℕ → ℕ → Data
signal_data word k = saying ((Do, string word) ∷ (Signal, whole_data k) ∷ [])

-- what is written for an instruction
abbrev pub instr_data : List (List ℕ) → List (List ℕ) → Instr → Data
instr_data shards servers (instr.PrepareAdd s v u) = prepare_data shards servers (codes "prepare_add") s v u
instr_data shards servers (instr.PrepareDrop s u v) = prepare_data shards servers (codes "prepare_drop") s u v
instr_data shards servers (instr.Add s v role) = saying (
    (Do, string (codes "add")) ∷
    (RoleMember, string (role_text role)) ∷
    (Server, name_data servers v) ∷
    (Shard, name_data shards s) ∷ [])
instr_data shards servers (instr.Drop s v) = saying (
    (Do, string (codes "drop")) ∷
    (Server, name_data servers v) ∷
    (Shard, name_data shards s) ∷ [])
instr_data shards servers (instr.Change s v to) = saying (
    (Do, string (codes "change")) ∷
    (Server, name_data servers v) ∷
    (Shard, name_data shards s) ∷
    (To, string (role_text to)) ∷ [])
instr_data shards servers (instr.Publish s) = entry_data shards (codes "publish") s
instr_data shards servers (instr.Unlist s) = entry_data shards (codes "unlist") s
instr_data shards servers (instr.Signal k) = signal_data (codes "signal") k
instr_data shards servers (instr.Wait k) = signal_data (codes "wait") k

-- ---- plans

-- some stream has retries
abbrev pub has_retries : PlanModel → Bool
has_retries p = list_any (λ s. nat_lt 0 s.retries) p.streams

-- what is written for a stream, with its retries in plans of format 2
abbrev pub stream_data : List (List ℕ) → List (List ℕ) → Bool → StreamModel → Data
stream_data shards servers retries s = saying (
    (Budget, whole_data s.budget) ∷
    (Code, list_data (map (instr_data shards servers) s.code)) ∷
    (Holds, parcel_data shards servers s.holds) ∷
    (if retries then (Retries, whole_data s.retries) ∷ [] else []))

-- the format that is written: 2 if a stream has retries, which format 1 doesn't know
abbrev pub format_of : PlanModel → ℕ
format_of p = if has_retries p then 2 else 1

-- what is written for a plan, as a JSON value (RFC 8259)
abbrev pub plan_data : List (List ℕ) → List (List ℕ) → PlanModel → Data
plan_data shards servers p = saying (
    (Budget, whole_data p.budget) ∷
    (Format, whole_data (format_of p)) ∷
    (Signals, list_data (map (parcel_data shards servers) p.signals)) ∷
    (Streams, list_data (map (stream_data shards servers (has_retries p)) p.streams)) ∷ [])

-- what is written for a plan
abbrev pub plan_text : List (List ℕ) → List (List ℕ) → PlanModel → List ℕ
plan_text shards servers p = compact_text (plan_data shards servers p)

-- ---- what is written is read back

-- the value that is written for a plan has no fault, in whatever member it stands, and is read as that plan
pub record IsReadBack (parent : Member) (shards servers : List (List ℕ)) (p : PlanModel) : Type 0 where
  pub faultless : answered (plan_faults parent shards servers [] (plan_data shards servers p)) ≡ None
  pub same : plan_in shards servers (plan_data shards servers p) ≡ p
