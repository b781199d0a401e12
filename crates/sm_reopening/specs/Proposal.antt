-- The settlement that a reopening proposes.
use Rattle.std.specs.Prelude.{◌≡◌, ℕ, ◌&&◌, ◌||◌, ◌==◌, Bool, true, false, not, Option, Some, None, is_some, nat_lt}
use Rattle.std.specs.Prelude.{if◌then◌else◌}
use Rattle.sm_server.specs.declared.call.Cell.{Cell}
use Rattle.sm_server.specs.declared.call.Cell.TheVariants.{Absent, Secondary, Primary}
use Rattle.sm_server.specs.declared.call.Role.{Role}
use Rattle.sm_server.specs.declared.call.Role.TheVariants as role
use Rattle.sm_server.specs.Cell.{is_primary, is_secondary}
use Rattle.sm_placement.specs.Lead.{has_part}
use Rattle.sm_placement.specs.Opening.{first_below}
use Rattle.laws_network.specs.Reopening.{Server}
use Rattle.laws_network.specs.ReopeningLaws.{is_carried}
use Rattle.sm_reopening.specs.declared.party.FoundSlot.{FoundSlot}
use Rattle.sm_reopening.specs.declared.ongoing.OngoingReopening.{OngoingReopening}
use Rattle.sm_reopening.specs.Ongoing.{left_out_of, past_state, recorded_place, net_reopening, told_slot}
use Rattle.sm_reopening.specs.Settles.{nonce_of}
use Rattle.sm_reopening.specs.Survivors.{HasNoSurvivor, IsSuccessorOf, successor_of, standing_of}

-- by shard and server, the role that the document gives
abbrev pub Documented : Type 0
Documented = ℕ → ℕ → Option Role

-- the role is that of a primary
abbrev pub is_primary_role : Option Role → Bool
is_primary_role (Some role.Primary) = true
is_primary_role _ = false

-- what was told is a part in the shard's lead
abbrev pub has_told_part : Option FoundSlot → Bool
has_told_part (Some slot) = has_part slot.cell
has_told_part None = false

-- a role counts if the server has told that it is Unknown
abbrev pub role_counted : OngoingReopening → Documented → ℕ → ℕ → Option Role
role_counted x d s v = if is_some (nonce_of ((net_reopening x).told (Server v))) then d s v else None

-- the server is recorded as the shard's primary or in a handover of it, or has told so
abbrev pub leads_shard : OngoingReopening → ℕ → ℕ → Bool
leads_shard x s v = has_part ((recorded_place x).cells s v) || has_told_part (told_slot x s v)

-- the shard has a lead: by the record, or by what was told
abbrev pub has_known_lead : OngoingReopening → ℕ → Bool
has_known_lead x s = is_some (first_below (net_reopening x).servers (leads_shard x s))

-- a replica: the primary or a secondary
abbrev pub has_replica_role : Cell → Bool
has_replica_role cell = is_primary cell || is_secondary cell

-- what was told is a replica
abbrev pub has_told_replica : Option FoundSlot → Bool
has_told_replica (Some slot) = has_replica_role slot.cell
has_told_replica None = false

-- the server holds a replica of the shard: by what it told, or as recorded if it is carried over
abbrev pub holds_replica : OngoingReopening → ℕ → ℕ → Bool
holds_replica x s v =
    (is_carried (net_reopening x) (past_state x) v && has_replica_role ((recorded_place x).cells s v)) || has_told_replica (told_slot x s v)

-- some server does
abbrev pub is_held : OngoingReopening → ℕ → Bool
is_held x s = is_some (first_below (net_reopening x).servers (holds_replica x s))

-- the document has a primary for the shard
abbrev pub is_documented : OngoingReopening → Documented → ℕ → Bool
is_documented x d s = is_some (first_below (net_reopening x).servers (λ v. is_primary_role (d s v)))

-- The shard gets a primary: it has a lead; or nobody holds a replica, and the document has a primary for it. Between
-- secondaries without a lead no reopening chooses, since they may tell no views: a plan's change asks each.
abbrev pub is_led : OngoingReopening → Documented → ℕ → Bool
is_led x d s = has_known_lead x s || (not (is_held x s) && is_documented x d s)

-- The primary that is proposed for a shard: who inherits it; without a survivor the lowest Unknown server that the
-- document has as the primary; and none for a shard that has none.
pub record IsProposedPrimary (x : OngoingReopening) (d : Documented) (s : ℕ) (primary : Option ℕ) : Type 0 where
  pub successor : (u : ℕ) → is_led x d s ≡ true → IsSuccessorOf x s u → primary ≡ Some u
  pub documented : is_led x d s ≡ true → HasNoSurvivor x s
      → primary ≡ first_below (net_reopening x).servers (λ v. is_primary_role (role_counted x d s v))
  pub none : is_led x d s ≡ false → primary ≡ None

-- the lowest Unknown server that the document has as the shard's primary
abbrev pub documented_primary : OngoingReopening → Documented → ℕ → Option ℕ
documented_primary x d s = first_below (net_reopening x).servers (λ v. is_primary_role (role_counted x d s v))

-- the first, or otherwise the second
abbrev pub first_or : Option ℕ → Option ℕ → Option ℕ
first_or (Some u) other = Some u
first_or None other = other

-- that primary as a function
abbrev pub primary_of : OngoingReopening → Documented → ℕ → Option ℕ
primary_of x d s = if is_led x d s then first_or (successor_of x s) (documented_primary x d s) else None

-- the server has a replica of the shard: it holds one, or has one by the document if it is Unknown
abbrev pub keeps_replica : OngoingReopening → Documented → ℕ → ℕ → Bool
keeps_replica x d s v = holds_replica x s v || is_some (role_counted x d s v)

-- the server is this one
abbrev pub is_the : Option ℕ → ℕ → Bool
is_the None v = false
is_the (Some u) v = u == v

-- the cell that is proposed for a server, if the shard goes to this primary: replicas stay, and who had a part in a
-- handover loses it
abbrev pub proposed_cell : OngoingReopening → Documented → ℕ → Option ℕ → ℕ → Cell
proposed_cell x d s primary v =
    if left_out_of x v || (net_reopening x).lost v then Absent
    else if is_the primary v then Primary
    else if keeps_replica x d s v then Secondary
    else Absent

-- the server has all of the shard, as far as is known
abbrev pub has_whole : OngoingReopening → ℕ → ℕ → Bool
has_whole x s v = nat_lt 1 (standing_of x s v).claim

-- the server has no slots any more: it is lost, or Unknown
abbrev pub has_no_slots : OngoingReopening → ℕ → Bool
has_no_slots x v = (net_reopening x).lost v || is_some (nonce_of ((net_reopening x).told (Server v)))

-- the primary has not answered, and is not recorded as one: it is waited for, or named as lost
abbrev pub is_silent_successor : OngoingReopening → ℕ → ℕ → Bool
is_silent_successor x s u =
    is_carried (net_reopening x) (past_state x) u && not (is_primary ((recorded_place x).cells s u))
