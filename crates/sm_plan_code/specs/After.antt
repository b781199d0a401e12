-- The table of rights: what each instruction tests of a hold, and the hold that it leaves.
use Rattle.std.specs.Prelude.{ℕ, zero, suc, Bool, false, not, ◌&&◌, ◌==◌, nat_le, is_some, is_none, Option, Some, None}
use Rattle.std.specs.Prelude.{Result, Ok, Err, List, [], ◌∷◌, slice_get, if◌then◌else◌}
use Rattle.std.specs.List.{list_all}
use Rattle.sm_server.specs.declared.call.Role.TheVariants as role
use Rattle.sm_placement.specs.declared.lead.Lead.{Lead}
use Rattle.sm_placement.specs.declared.lead.Lead.TheVariants.{Gone, At, Ready, Handing, Handed}
use Rattle.sm_placement.specs.Setup.{Sizes}
use Rattle.sm_reservation.specs.declared.right.PlainCell.{PlainCell}
use Rattle.sm_reservation.specs.declared.right.PlainCell.TheVariants.{Absent, Secondary}
use Rattle.sm_reservation.specs.Rights.{Rights}
use Rattle.sm_reservation.specs.Hold.{Hold, with_cell, with_crown, pay_room, get_room, pay_spare, get_spare, minus}
use Rattle.sm_reservation.specs.Hold.{plus}
use Rattle.sm_reservation.specs.Amounts.{is_cell, same_lead, same_listed}
use Rattle.sm_reservation.specs.Short.{first_short}
use Rattle.sm_plan_code.specs.declared.instruction.Instr.{Instr}
use Rattle.sm_plan_code.specs.declared.instruction.Instr.TheVariants.{PrepareAdd, PrepareDrop, Add, Drop, Change}
use Rattle.sm_plan_code.specs.declared.instruction.Instr.TheVariants.{Publish, Unlist, Signal, Wait}
use Rattle.sm_plan_code.specs.declared.instruction.Why.{Why}
use Rattle.sm_plan_code.specs.declared.instruction.Why.TheVariants.{NoRight, WrongState, NoCrown, WrongLead}
use Rattle.sm_plan_code.specs.declared.instruction.Why.TheVariants.{StillListed, NoRoom, NoSpare, NotCarried, Twice}

-- One line of the table: the tests in their order, each with the answer if it fails, and the hold if all pass.
pub record Line : Type 0 where
  pub tests : List (Bool × Why)
  pub change : Hold

-- the answer of the first test that fails
abbrev pub first_why : List (Bool × Why) → Option Why
first_why [] = None
first_why (t ∷ ts) = if t.0 then first_why ts else Some t.1

-- what is left if no test fails
abbrev pub unless_refused : {X : Type 0} → Option Why → X → Result X Why
unless_refused None x = Ok x
unless_refused (Some why) x = Err why

-- what a line answers
abbrev pub decided : Line → Result Hold Why
decided line = unless_refused (first_why line.tests) line.change

-- ---- tests of a hold

-- there is a right to the cell
abbrev pub has_right : Hold → ℕ → ℕ → Bool
has_right h s v = is_some (h.cells s v)

-- there is a right to the cell, which is in this state
abbrev pub has_cell : Hold → ℕ → ℕ → PlainCell → Bool
has_cell h s v state = is_cell state (h.cells s v)

-- there is the crown of the shard
abbrev pub has_crown : Hold → ℕ → Bool
has_crown h s = is_some (h.crowns s)

-- a crown has this lead
abbrev pub leads_as : Lead → Option (Lead × Option ℕ) → Bool
leads_as lead None = false
leads_as lead (Some crown) = same_lead lead crown.0

-- there is the crown of the shard, with this lead
abbrev pub has_lead : Hold → ℕ → Lead → Bool
has_lead h s lead = leads_as lead (h.crowns s)

-- the listed server of a crown
abbrev pub listed_of : Option (Lead × Option ℕ) → Option ℕ
listed_of None = None
listed_of (Some crown) = crown.1

-- the crown of the shard lists no server
abbrev pub is_unlisted : Hold → ℕ → Bool
is_unlisted h s = is_none (listed_of (h.crowns s))

-- the crown of the shard doesn't list this server
abbrev pub is_not_listed : Hold → ℕ → ℕ → Bool
is_not_listed h s v = not (same_listed (listed_of (h.crowns s)) (Some v))

-- there is this much room at the server
abbrev pub has_room : Hold → ℕ → ℕ → Bool
has_room h v load = nat_le load (h.room v)

-- there is a spare replica of the shard
abbrev pub has_spare : Hold → ℕ → Bool
has_spare h s = nat_le 1 (h.spare s)

-- the hold has no right to a cell and no crown of the parcel's keys
abbrev pub is_apart : Hold → Rights → Bool
is_apart h p = list_all (λ x. is_none (h.cells x.shard x.server)) p.cells && list_all (λ x. is_none (h.crowns x.shard)) p.crowns

-- the tests of a replica that is to come to a server: the right to its absent cell there, and room for its load
abbrev pub comes_to : Sizes → ℕ → ℕ → Hold → List (Bool × Why)
comes_to c s v h = (has_right h s v, NoRight) ∷ (has_cell h s v Absent, WrongState) ∷ (has_room h v (c.load s), NoRoom) ∷ []

-- ---- the lines

-- the crown with another lead and the same listed server
abbrev pub with_lead : Hold → ℕ → Lead → Hold
with_lead h s lead = with_crown h s lead (listed_of (h.crowns s))

-- whom a publication lists under a lead
abbrev pub to_list : Lead → Option ℕ
to_list Gone = None
to_list (At u) = Some u
to_list (Ready u v) = Some u
to_list (Handing u v) = Some u
to_list (Handed u v) = Some v

-- the line of an instruction that may not be made
abbrev pub refused_line : Why → Hold → Line
refused_line why h = record { tests = (false, why) ∷ []; change = h }

-- The line of prepare_add of s at v, where u is the owner: the lead At(u) becomes Ready(u, v), and the right to the
-- absent cell and room for the load leave the hold.
abbrev pub prepare_add_line : Sizes → ℕ → ℕ → ℕ → Hold → Line
prepare_add_line c s v u h = record {
  tests = (has_crown h s, NoCrown) ∷ (has_lead h s (At u), WrongLead) ∷ comes_to c s v h;
  change = pay_room (with_cell (with_lead h s (Ready u v)) s v None) v (c.load s);
}

-- the line of prepare_drop of s at u, where v is the new owner: the lead Ready(u, v) becomes Handing(u, v)
abbrev pub prepare_drop_line : ℕ → ℕ → ℕ → Hold → Line
prepare_drop_line s u v h = record {
  tests = (has_crown h s, NoCrown) ∷ (has_lead h s (Ready u v), WrongLead) ∷ [];
  change = with_lead h s (Handing u v);
}

-- The line of add of s at v as secondary: the right to the absent cell becomes one to a secondary, room for the load
-- leaves the hold, and one spare replica comes in.
abbrev pub add_secondary_line : Sizes → ℕ → ℕ → Hold → Line
add_secondary_line c s v h = record {
  tests = comes_to c s v h;
  change = get_spare (pay_room (with_cell h s v (Some Secondary)) v (c.load s)) s 1;
}

-- The line of add of s at v as primary, by the lead of the crown. Handing(u, v) becomes Handed(u, v). Gone becomes
-- At(v): then the right to the absent cell and room for the load leave the hold, and one spare replica comes in.
abbrev pub add_primary_line : Sizes → ℕ → ℕ → Hold → Option Lead → Line
add_primary_line c s v h None = refused_line NoCrown h
add_primary_line c s v h (Some (Handing u w)) = record {
  tests = (w == v, WrongLead) ∷ [];
  change = with_lead h s (Handed u v);
}
add_primary_line c s v h (Some Gone) = record {
  tests = comes_to c s v h;
  change = get_spare (pay_room (with_cell (with_lead h s (At v)) s v None) v (c.load s)) s 1;
}
add_primary_line c s v h (Some lead) = refused_line WrongLead h

-- The line of drop of s at v, if the right to the cell is held: the right to a secondary becomes one to an absent cell,
-- one spare replica leaves the hold, and room for the load comes in.
abbrev pub drop_held_line : Sizes → ℕ → ℕ → Hold → Line
drop_held_line c s v h = record {
  tests = (has_cell h s v Secondary, WrongState) ∷ (has_spare h s, NoSpare) ∷ [];
  change = get_room (pay_spare (with_cell h s v (Some Absent)) s 1) v (c.load s);
}

-- The line of drop of s at v, if that right isn't held, by the lead of the crown. Handed(v, w) becomes At(w), once v
-- isn't listed; Ready(u, v) becomes At(u); At(v) becomes Gone, once no server is listed, and one spare replica leaves
-- the hold. Each time the right to the absent cell and room for the load come in.
abbrev pub drop_led_line : Sizes → ℕ → ℕ → Hold → Option Lead → Line
drop_led_line c s v h None = refused_line NoRight h
drop_led_line c s v h (Some (Handed u w)) = record {
  tests = (u == v, WrongLead) ∷ (is_not_listed h s v, StillListed) ∷ [];
  change = get_room (with_cell (with_lead h s (At w)) s v (Some Absent)) v (c.load s);
}
drop_led_line c s v h (Some (Ready u w)) = record {
  tests = (w == v, WrongLead) ∷ [];
  change = get_room (with_cell (with_lead h s (At u)) s v (Some Absent)) v (c.load s);
}
drop_led_line c s v h (Some (At u)) = record {
  tests = (u == v, WrongLead) ∷ (is_unlisted h s, StillListed) ∷ (has_spare h s, NoSpare) ∷ [];
  change = get_room (pay_spare (with_cell (with_lead h s Gone) s v (Some Absent)) s 1) v (c.load s);
}
drop_led_line c s v h (Some lead) = refused_line WrongLead h

-- the line of change of s at v to primary: the lead Gone becomes At(v), and the right to the secondary cell leaves the
-- hold
abbrev pub to_primary_line : ℕ → ℕ → Hold → Line
to_primary_line s v h = record {
  tests = (has_crown h s, NoCrown) ∷ (has_lead h s Gone, WrongLead) ∷ (has_right h s v, NoRight) ∷ (has_cell h s v Secondary, WrongState) ∷ [];
  change = with_cell (with_lead h s (At v)) s v None;
}

-- The line of change of s at u to secondary: the lead At(u) becomes Gone, once no server is listed, and the right to a
-- secondary cell comes in.
abbrev pub to_secondary_line : ℕ → ℕ → Hold → Line
to_secondary_line s u h = record {
  tests = (has_crown h s, NoCrown) ∷ (has_lead h s (At u), WrongLead) ∷ (is_unlisted h s, StillListed) ∷ (not (has_right h s u), Twice) ∷ [];
  change = with_cell (with_lead h s Gone) s u (Some Secondary);
}

-- the line of publish of s: the crown lists the server that a publication lists under its lead, and the lead stays
abbrev pub publish_line : ℕ → Hold → Option Lead → Line
publish_line s h None = refused_line NoCrown h
publish_line s h (Some lead) = record { tests = []; change = with_crown h s lead (to_list lead) }

-- the line of unlist of s: the crown lists no server, and its lead stays
abbrev pub unlist_line : ℕ → Hold → Option Lead → Line
unlist_line s h None = refused_line NoCrown h
unlist_line s h (Some lead) = record { tests = []; change = with_crown h s lead None }

-- the line of a signal with this parcel: the hold must have all its rights, and they leave it
abbrev pub signal_line : Rights → Hold → Line
signal_line p h = record { tests = (is_none (first_short h p), NotCarried) ∷ []; change = minus h p }

-- the line of a wait for this parcel: the hold must have no cell right and no crown at its keys, and its rights come in
abbrev pub wait_line : Rights → Hold → Line
wait_line p h = record { tests = (is_apart h p, Twice) ∷ []; change = plus h p }

-- the lead of the crown held
abbrev pub lead_held : Option (Lead × Option ℕ) → Option Lead
lead_held None = None
lead_held (Some crown) = Some crown.0

-- the line of an instruction, where the signals have these parcels
abbrev pub line_of : Sizes → (ℕ → Rights) → Instr → Hold → Line
line_of c signals (PrepareAdd s v u) h = prepare_add_line c s v u h
line_of c signals (PrepareDrop s u v) h = prepare_drop_line s u v h
line_of c signals (Add s v role.Secondary) h = add_secondary_line c s v h
line_of c signals (Add s v role.Primary) h = add_primary_line c s v h (lead_held (h.crowns s))
line_of c signals (Drop s v) h = if has_right h s v then drop_held_line c s v h else drop_led_line c s v h (lead_held (h.crowns s))
line_of c signals (Change s v role.Primary) h = to_primary_line s v h
line_of c signals (Change s v role.Secondary) h = to_secondary_line s v h
line_of c signals (Publish s) h = publish_line s h (lead_held (h.crowns s))
line_of c signals (Unlist s) h = unlist_line s h (lead_held (h.crowns s))
line_of c signals (Signal k) h = signal_line (signals k) h
line_of c signals (Wait k) h = wait_line (signals k) h

-- the hold after an instruction, or why it may not be made
abbrev pub after : Sizes → (ℕ → Rights) → Instr → Hold → Result Hold Why
after c signals i h = decided (line_of c signals i h)

-- ---- the holds along a code

-- the hold that an instruction leaves, or this one if it may not be made
abbrev pub hold_or : Hold → Result Hold Why → Hold
hold_or h (Ok next) = next
hold_or h (Err why) = h

-- the hold behind an instruction: as it was if the instruction may not be made, and if there is none
abbrev pub hold_past : Sizes → (ℕ → Rights) → Option Instr → Hold → Hold
hold_past c signals None h = h
hold_past c signals (Some i) h = hold_or h (after c signals i h)

-- The hold after the first p instructions of a code that begins with the hold h. An instruction that may not be made,
-- and the end, leave it as it is.
abbrev pub hold_at : Sizes → (ℕ → Rights) → List Instr → Hold → ℕ → Hold
hold_at c signals code h zero = h
hold_at c signals code h (suc p) = hold_past c signals (slice_get code p) (hold_at c signals code h p)
