-- Roles by shard and server, and the cells that they give.
-- `AreOfRoles`, `is_pair_before` and `NamesRoles` are internal: you need not read them for the public contracts.
use Rattle.std.specs.Prelude.{◌≡◌, ℕ, ◌&&◌, ◌||◌, ◌==◌, Bool, true, false, List, [], ◌∷◌, Option, Some, None, is_some}
use Rattle.std.specs.Prelude.{nat_lt, slice_index_or}
use Rattle.std.specs.List.{list_any}
use Rattle.sm_server.specs.declared.call.Cell.{Cell}
use Rattle.sm_server.specs.declared.call.Cell.TheVariants as cell
use Rattle.sm_server.specs.declared.call.Role.{Role}
use Rattle.sm_server.specs.declared.call.Role.TheVariants as role
use Rattle.sm_placement.specs.Opening.{NamedCell, is_of}

-- the role that a cell gives, outside of handovers
abbrev pub role_by_cell : Cell → Option Role
role_by_cell cell.Primary = Some role.Primary
role_by_cell cell.Secondary = Some role.Secondary
role_by_cell _ = None

-- the cell of a role, or of none
abbrev pub cell_by_role : Option Role → Cell
cell_by_role (Some role.Primary) = cell.Primary
cell_by_role (Some role.Secondary) = cell.Secondary
cell_by_role None = cell.Absent

-- the server is down, by these marks
abbrev pub is_down_in : List Bool → ℕ → Bool
is_down_in down v = slice_index_or down v false

-- each cell that is named is that of a role
abbrev pub AreOfRoles : (ℕ → ℕ → Option Role) → List NamedCell → Type 0
AreOfRoles roles [] = Unit {0}
AreOfRoles roles (named ∷ rest) = (named.2 ≡ cell_by_role (roles named.0 named.1)) × AreOfRoles roles rest

-- the pair of a shard and a server comes before another one
abbrev pub is_pair_before : ℕ → ℕ → ℕ → ℕ → Bool
is_pair_before t u s v = nat_lt t s || ((t == s) && nat_lt u v)

-- The cells that are named are those of roles, and all of pairs before this one.
pub record NamesRoles (roles : ℕ → ℕ → Option Role) (s v : ℕ) (cells : List NamedCell) : Type 0 where
  pub true_ones : AreOfRoles roles cells
  pub all : (t u : ℕ) → is_pair_before t u s v ≡ true → is_some (roles t u) ≡ true → list_any (is_of t u) cells ≡ true
