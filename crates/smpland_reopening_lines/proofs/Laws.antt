-- Who does as a settle says has what was settled.
use Rattle.std.proofs.Common.{◌≡◌, ◌∙◌, ℕ, Bool, Option, Some, false, ap, inl, inr, refl, sym}
use Rattle.std.specs.Prelude.{◌||◌, if◌then◌else◌, is_some, not}
use Rattle.std.specs.Option.{option_map_or}
use Rattle.sm_server.specs.declared.call.Cell.{Cell}
use Rattle.sm_server.specs.declared.call.Cell.TheVariants as cell
use Rattle.sm_server.specs.Cell.{is_absent}
use Rattle.laws_network.specs.Reopening.{Inventory, Reopening, Server, Slots}
use Rattle.laws_network.specs.ReopeningLaws.{Keeps}
use Rattle.sm_reopening.specs.declared.party.FoundSlot.{FoundSlot}
use Rattle.sm_reopening.specs.Ongoing.{inventory_slot, net_reopening, told_copies}
use Rattle.smpland_reopening.specs.Reopening.{ReopeningModel}
use Rattle.smpland_reopening.specs.Roles.{cell_by_role, role_by_cell}
use Rattle.smpland_reopening.specs.Told.{has_told_of}
use Rattle.smpland_reopening_lines.specs.Laws.{SettlesBringAll}

-- a cell that is kept, by a settle that brings what the server has or has told of
kept_is : (told settled : Cell) → Keeps told settled →
    (if is_some (role_by_cell settled) || not (is_absent told) then cell_by_role (role_by_cell settled) else told) ≡ settled
kept_is cell.Absent settled kept = rw kept refl
kept_is cell.Primary settled kept = rw kept refl
kept_is cell.Secondary settled kept = elim kept [ inl e ↦ rw e refl | inr e ↦ rw e refl ]
kept_is (cell.Prepared from number) settled kept = elim kept [ inl e ↦ rw e refl | inr e ↦ rw e refl ]
kept_is (cell.Forwarding to number) settled kept = elim kept [ inl e ↦ rw e refl | inr e ↦ rw e refl ]

-- a server that has told these slots has told of what is not absent in them
told_is : (r : ReopeningModel) (v s : ℕ) (cells : ℕ → Cell) (reached : ℕ → Bool) → (net_reopening r.ongoing).told (Server v) ≡ Some (Slots cells reached) →
    has_told_of r v s ≡ not (is_absent (cells s))
told_is r v s cells reached told =
    ap (λ (o : Option Inventory). option_map_or (λ (slot : FoundSlot). not (is_absent slot.cell)) (inventory_slot o (told_copies r.ongoing s v) s) false) told

-- so who does as its settle says has what was confirmed
pub settles_bring_all : SettlesBringAll
settles_bring_all old new recorded x may confirmed v s cells reached told =
    let settled = x.place.cells s v in
    let before = sym (ap (λ (r : Reopening). r.told (Server v)) confirmed) ∙ told in
    ap (λ b. if is_some (role_by_cell settled) || b then cell_by_role (role_by_cell settled) else cells s) (told_is new v s cells reached told)
    ∙ kept_is (cells s) settled (may.kept s v cells reached before)
