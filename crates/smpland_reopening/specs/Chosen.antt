-- The confirmed roles: those that an operator has chosen for some shards, and those that are proposed for the others.
-- `role_assigned`, `given_too` and `roles_with` are internal: you need not read them for the public contracts.
use Rattle.std.specs.Prelude.{◌≡◌, ◌<◌, ℕ, ◌&&◌, ◌==◌, Bool, List, [], ◌∷◌, Option, Some, None, length, option_map}
use Rattle.std.specs.Prelude.{slice_get, if◌then◌else◌}
use Rattle.std.specs.Option.{option_map_or, option_or}
use Rattle.sm_server.specs.declared.call.Role.{Role}
use Rattle.sm_placement.specs.Place.{Place}
use Rattle.sm_reopening.specs.Proposal.{is_the, proposed_cell}
use Rattle.smpland_reopening.specs.Proposal.{documented_roles, has_shard, proposed_primary}
use Rattle.smpland_reopening.specs.Reopening.{ReopeningModel}
use Rattle.smpland_reopening.specs.Roles.{cell_by_role, role_by_cell}
use Rattle.smpland_reopening.specs.declared.choice.Choice.{Choice}

-- the last item of a list that passes a test
abbrev pub last_that : {A : Type 0} → (A → Bool) → List A → Option A
last_that p [] = None
last_that p (x ∷ xs) = option_or (last_that p xs) (if p x then Some x else None)

-- ---- what is proposed

-- the role that the proposal's cell gives a server, for a shard of the document
abbrev pub role_by_proposal : ReopeningModel → ℕ → ℕ → Option Role
role_by_proposal r s v = role_by_cell (proposed_cell r.ongoing (documented_roles r) s (proposed_primary r s) v)

-- the role that is proposed for a server: a shard that the document leaves out is to be nowhere
abbrev pub proposed_role : ReopeningModel → ℕ → ℕ → Option Role
proposed_role r s v = if has_shard r s then role_by_proposal r s v else None

-- ---- what is chosen

-- the choice is of the shard with this number, under the document's own
abbrev pub is_choice_of : List ℕ → ℕ → Choice → Bool
is_choice_of shards s choice = is_the (slice_get shards choice.shard) s

-- a replica is of the server with this number
abbrev pub is_replica_of : List ℕ → ℕ → ℕ × Role → Bool
is_replica_of servers v replica = is_the (slice_get servers replica.0) v

-- the role that replicas give a server: none, if none is its
abbrev pub role_given : List ℕ → List (ℕ × Role) → ℕ → Option Role
role_given servers replicas v =
    option_map (λ (replica : ℕ × Role). replica.1) (last_that (is_replica_of servers v) replicas)

-- the role that a server has for a shard: by the last choice for the shard, and otherwise as proposed
abbrev pub chosen_role : ReopeningModel → List Choice → ℕ → ℕ → Option Role
chosen_role r chosen s v =
    option_map_or (λ (choice : Choice). role_given r.servers choice.replicas.items v)
    (last_that (is_choice_of r.shards s) chosen) (proposed_role r s v)

-- the cells of a placement are those of the roles that were chosen
abbrev pub IsAsChosen : ReopeningModel → List Choice → Place → Type 0
IsAsChosen r chosen place =
    (s v : ℕ) → s < length r.numbering.shards → v < length r.numbering.servers
    → place.cells s v ≡ cell_by_role (chosen_role r chosen s v)

-- ---- roles on the way

-- one role is given
abbrev pub role_assigned : (ℕ → ℕ → Option Role) → ℕ → ℕ → Option Role → ℕ → ℕ → Option Role
role_assigned roles shard server role s v = if (shard == s) && (server == v) then role else roles s v

-- one role is given to a server, if it has a number
abbrev pub given_too : (ℕ → ℕ → Option Role) → ℕ → Option ℕ → Role → ℕ → ℕ → Option Role
given_too roles shard server role s v = if (shard == s) && is_the server v then Some role else roles s v

-- a shard has these roles
abbrev pub roles_with : (ℕ → ℕ → Option Role) → Option ℕ → (ℕ → Option Role) → ℕ → ℕ → Option Role
roles_with roles shard given s v = if is_the shard s then given v else roles s v
