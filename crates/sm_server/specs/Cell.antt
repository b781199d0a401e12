-- The state of a shard at a server.
use Rattle.std.specs.Prelude.{ℕ, Bool, true, false, ◌≡◌}
use Rattle.sm_server.specs.declared.call.Cell.{Cell}
use Rattle.sm_server.specs.declared.call.Cell.TheVariants.{Absent, Prepared, Secondary, Primary, Forwarding}
use Rattle.sm_server.specs.declared.call.Role.{Role}
use Rattle.sm_server.specs.declared.call.Role.TheVariants as role

-- the cell of a replica in a role (SM 2021)
abbrev pub cell_in : Role → Cell
cell_in role.Primary = Primary
cell_in role.Secondary = Secondary

-- the server is prepared for the primary that another one hands over (SM 2021)
abbrev pub IsPrepared : Cell → Type 0
IsPrepared cell = (from : ℕ) × (number : ℕ) × (cell ≡ Prepared from number)

-- the server has nothing of the shard
abbrev pub is_absent : Cell → Bool
is_absent Absent = true
is_absent _ = false

-- the replica is the shard's primary (SM 2021)
abbrev pub is_primary : Cell → Bool
is_primary Primary = true
is_primary _ = false

-- the replica is a secondary (SM 2021)
abbrev pub is_secondary : Cell → Bool
is_secondary Secondary = true
is_secondary _ = false

-- the replica is being handed over to this server (SM 2021)
abbrev pub is_prepared : Cell → Bool
is_prepared (Prepared from number) = true
is_prepared _ = false

-- the replica is being handed over by this server (SM 2021)
abbrev pub is_forwarding : Cell → Bool
is_forwarding (Forwarding to number) = true
is_forwarding _ = false
