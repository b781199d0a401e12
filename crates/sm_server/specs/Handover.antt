-- The graceful handover of a primary (Lee et al. 2021): prepared at the new server, forwarding at the old one,
-- added at the new one, dropped at the old one.
use Rattle.std.specs.Prelude.{◌≡◌, ◌≤◌, ◌==◌, ℕ, true, Ok, if◌then◌else◌}
use Rattle.sm_server.specs.declared.call.Cell.{Cell}
use Rattle.sm_server.specs.declared.call.Cell.TheVariants.{Absent, Prepared, Primary, Forwarding}
use Rattle.sm_server.specs.declared.call.Call.{Call}
use Rattle.sm_server.specs.declared.handover.HandoverCells.{HandoverCells}
use Rattle.sm_server.specs.Call.{served}

-- a shard and the server that is its primary
pub record SteadyModel : Type 0 where
  pub shard : ℕ
  pub server : ℕ

-- a server's cell while the primary stands at one server and no handover is under way: there it is the primary's, and
-- another server, if it has no secondary of the shard (no state of a handover tells those), has nothing of it
abbrev pub steady_cell : SteadyModel → ℕ → Cell
steady_cell t v = if v == t.server then Primary else Absent

-- a handover under way (SM 2021): who has the primary, who is to have it, and the handover's number
pub record HandoverModel : Type 0 where
  pub shard : ℕ
  pub owner : ℕ
  pub new_server : ℕ
  pub number : ℕ

-- the two cells once the new server is prepared (SM 2021)
abbrev pub ready_cells : HandoverModel → HandoverCells
ready_cells t = record { owner = Primary; new_server = Prepared t.owner t.number }

-- the two cells once the owner forwards (SM 2021)
abbrev pub handing_cells : HandoverModel → HandoverCells
handing_cells t =
    record { owner = Forwarding t.new_server t.number; new_server = Prepared t.owner t.number }

-- the two cells once the new server is the primary (SM 2021)
abbrev pub handed_cells : HandoverModel → HandoverCells
handed_cells t = record { owner = Forwarding t.new_server t.number; new_server = Primary }

-- a server that is up and has room answers the call by this change of its cell
abbrev pub Serves : Cell → Call → Cell → Type 0
Serves before call after =
    (free_room load : ℕ) → load ≤ free_room → served before free_room load true call ≡ Ok after
