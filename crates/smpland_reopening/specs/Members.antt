-- The parties of a reopening: by names, and by numbers.
-- `is_said_lost` and `first_lost` are internal: you need not read them for the public contracts.
use Rattle.std.specs.Prelude.{ℕ, Bool, List, Option, Some, None, length, slice_index_or, if◌then◌else◌}
use Rattle.std.specs.List.{list_any}
use Rattle.std.specs.Str.{bytes_eq}
use Rattle.sm_placement.specs.Opening.{first_below}
use Rattle.sm_placement.specs.Setup.{Setup, no_server, server_named}
use Rattle.sm_reopening.specs.declared.party.Membership.{Membership}
use Rattle.sm_reopening.specs.declared.party.Membership.TheVariants.{LeftOut, Lost, Member}

-- a name is among names
abbrev pub is_named_among : List ℕ → List (List ℕ) → Bool
is_named_among name names = list_any (λ other. bytes_eq other name) names

-- what the document makes of a server that is not lost
abbrev pub documented_membership : Option ℕ → Membership
documented_membership (Some number) = Member
documented_membership None = LeftOut

-- what becomes of the server of a name
abbrev pub membership_of : Setup → List (List ℕ) → List ℕ → Membership
membership_of document lost name = if is_named_among name lost then Lost else documented_membership (server_named document name)

-- what becomes of the server with a number
abbrev pub membership_at : Setup → Setup → List (List ℕ) → ℕ → Membership
membership_at numbering document lost v = membership_of document lost (slice_index_or numbering.servers v no_server).name

-- a server of the document, by its number there, is said to be lost
abbrev pub is_said_lost : Setup → List (List ℕ) → ℕ → Bool
is_said_lost document lost v = is_named_among (slice_index_or document.servers v no_server).name lost

-- the first server of the document that is said to be lost
abbrev pub first_lost : Setup → List (List ℕ) → Option ℕ
first_lost document lost = first_below (length document.servers) (is_said_lost document lost)
