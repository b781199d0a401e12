-- The law of settles: who does as they say has what was settled.
use Rattle.std.specs.Prelude.{◌≡◌, ℕ, Bool, Some, if◌then◌else◌}
use Rattle.sm_server.specs.declared.call.Cell.{Cell}
use Rattle.sm_placement.specs.Place.{Place}
use Rattle.laws_network.specs.Reopening.{Confirm, Server, Settlement, Slots, entered}
use Rattle.laws_network.specs.ReopeningLaws.{MaySettle, State}
use Rattle.sm_reopening.specs.Ongoing.{net_reopening}
use Rattle.smpland_reopening.specs.Reopening.{ReopeningModel}
use Rattle.smpland_reopening.specs.Roles.{cell_by_role, role_by_cell}
use Rattle.smpland_reopening_lines.specs.Settles.{is_brought}

-- the cell of a shard at a server that makes each slot what a settle brings, and leaves all others as they are
abbrev pub cell_by_settle : ReopeningModel → Place → ℕ → (ℕ → Cell) → ℕ → Cell
cell_by_settle r place v cells s = if is_brought r place v s then cell_by_role (role_by_cell (place.cells s v)) else cells s

-- so a server that had these slots has what was confirmed
abbrev pub HasWhatIsSettled : ReopeningModel → Settlement → Type 0
HasWhatIsSettled r x =
    (v s : ℕ) (cells : ℕ → Cell) (reached : ℕ → Bool)
    → (net_reopening r.ongoing).told (Server v) ≡ Some (Slots cells reached) →
    cell_by_settle r x.place v cells s ≡ x.place.cells s v

-- once a settlement is confirmed that may be
abbrev pub SettlesBringAll : Type 0
SettlesBringAll =
    (old new : ReopeningModel) (recorded : State) (x : Settlement) → MaySettle (net_reopening old.ongoing) recorded x →
    net_reopening new.ongoing ≡ entered (Confirm x) (net_reopening old.ongoing) → HasWhatIsSettled new x
