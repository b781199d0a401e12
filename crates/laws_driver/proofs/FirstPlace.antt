-- The placement that a driver has just been opened over is one that a machine opens on.
use Rattle.std.proofs.Common.{◌≡◌, ◌∙◌, ℕ, sym, ap, subst}
use Rattle.sm_placement.specs.Setup.{Setup, sizes_of}
use Rattle.sm_placement.specs.Place.{Place, forget_numbers}
use Rattle.sm_protocol.specs.State.{State, opened}
use Rattle.sm_protocol.specs.Laws.{IsOpening, IsReached}
use Rattle.sm_protocol.proofs.Reached.{of_opening}

-- no number of a call matters for what a machine opens on
renumbered : (setup : Setup) (p : Place) (last : ℕ → ℕ → ℕ) (room : ℕ) → IsOpening setup p room → IsOpening setup (record p { last = last }) room
renumbered setup p last room o = let q = o.placement in let s = o.settled in record {
  rows = o.rows;
  placement = record { no_server = q.no_server; no_shard = q.no_shard; no_entry = q.no_entry; no_down = q.no_down; known = q.known; listed = q.listed; rooms = q.rooms };
  settled = record { leads = s.leads; listed = s.listed; rooms = s.rooms; floors = s.floors; down = s.down; versions = s.versions };
  least = o.least;
  most = o.most;
}

-- so it is by the machine's state
pub opens_there : (rows setup : Setup) (p : Place) (room : ℕ) (w : State) → rows ≡ setup → IsReached rows w → w ≡ opened (sizes_of setup) p room → IsOpening setup p room
opens_there rows setup p room w same reached is =
    let from = of_opening rows w reached in
    let forgot : forget_numbers from.place ≡ forget_numbers p = sym from.opening ∙ ap (λ (s : State). s.opening) is in
    let here = subst (λ (q : Place). IsOpening rows q w.room) forgot (renumbered rows from.place (λ s v. 0) w.room from.is_opening) in
    subst (λ r. IsOpening r p room) same (subst (λ n. IsOpening rows p n) (ap (λ (s : State). s.room) is) (renumbered rows (forget_numbers p) p.last w.room here))
