-- The table of rights by its two columns: what each instruction needs, which is taken out of the hold, and what it
-- gives, which is put in. A crown keeps its listed server unless the line says another.
-- `held_crown` and `exchanged` are internal: you need not read them for the public contracts.
use Rattle.std.specs.Prelude.{◌≡◌, ◌≤◌, ℕ, Option, Some, None, Result, Ok, IfSome, if◌then◌else◌}
use Rattle.sm_server.specs.declared.call.Role.TheVariants as role
use Rattle.sm_placement.specs.declared.lead.Lead.{Lead}
use Rattle.sm_placement.specs.declared.lead.Lead.TheVariants.{Gone, At, Ready, Handing, Handed}
use Rattle.sm_placement.specs.Setup.{Sizes}
use Rattle.sm_reservation.specs.declared.change.Change.{Change as Exchange}
use Rattle.sm_reservation.specs.declared.change.Portion.{Portion}
use Rattle.sm_reservation.specs.declared.right.CellRight.{CellRight}
use Rattle.sm_reservation.specs.declared.right.Crown.{Crown}
use Rattle.sm_reservation.specs.declared.right.PlainCell.{PlainCell}
use Rattle.sm_reservation.specs.declared.right.PlainCell.TheVariants.{Absent, Secondary}
use Rattle.sm_reservation.specs.declared.right.Room.{Room}
use Rattle.sm_reservation.specs.declared.right.Spare.{Spare}
use Rattle.sm_reservation.specs.Rights.{Rights}
use Rattle.sm_reservation.specs.Hold.{Hold, minus, plus}
use Rattle.sm_reservation.specs.HoldOf.{hold_of}
use Rattle.sm_reservation.specs.CanJoin.{AreApart}
use Rattle.sm_reservation.specs.Change.{portion_rights}
use Rattle.sm_reservation.specs.Short.{first_short}
use Rattle.sm_plan_code.specs.declared.instruction.Instr.{Instr}
use Rattle.sm_plan_code.specs.declared.instruction.Instr.TheVariants.{PrepareAdd, PrepareDrop, Add, Drop, Change}
use Rattle.sm_plan_code.specs.declared.instruction.Instr.TheVariants.{Publish, Unlist, Signal, Wait}
use Rattle.sm_plan_code.specs.Instr.{IsOwn}
use Rattle.sm_plan_code.specs.declared.instruction.Why.{Why}
use Rattle.sm_plan_code.specs.declared.limits.TheConstants.{MOST_AMOUNT}
use Rattle.sm_plan_code.specs.After.{Line, first_why, unless_refused, after, has_right, listed_of, lead_held, to_list}

-- ---- portions

-- the portion of these rights, at most one of each kind
abbrev pub portion : Option CellRight → Option Crown → Option Room → Option Spare → Portion
portion cell crown room spare = record { cell = cell; crown = crown; room = room; spare = spare }

-- the portion without any right
abbrev pub nothing : Portion
nothing = portion None None None None

-- the right to the cell of s at v, in this state
abbrev pub cell : ℕ → ℕ → PlainCell → Option CellRight
cell s v state = Some (record { shard = s; server = v; state = state })

-- the crown of s, at this lead and listed server
abbrev pub crown : ℕ → Lead → Option ℕ → Option Crown
crown s lead listed = Some (record { shard = s; lead = lead; listed = listed })

-- the crown of s, as it is held
abbrev pub held_crown : ℕ → Option (Lead × Option ℕ) → Option Crown
held_crown s None = None
held_crown s (Some held) = crown s held.0 held.1

-- this much room at v
abbrev pub room : ℕ → ℕ → Option Room
room v amount = Some (record { server = v; amount = amount })

-- this many spare replicas of s
abbrev pub spare : ℕ → ℕ → Option Spare
spare s amount = Some (record { shard = s; amount = amount })

-- ---- the lines: what is needed goes out of the hold, and what is given is got

-- nothing is needed, and nothing is given
abbrev pub no_exchange : Exchange
no_exchange = record { out = nothing; got = nothing }

-- prepare_add of s at v, where u is the owner: the crown at At(u), the right to the absent cell and room for the load
-- are given up for the crown at Ready(u, v)
abbrev pub prepare_add_exchange : Sizes → ℕ → ℕ → ℕ → Option ℕ → Exchange
prepare_add_exchange c s v u listed = record {
  out = portion (cell s v Absent) (crown s (At u) listed) (room v (c.load s)) None;
  got = portion None (crown s (Ready u v) listed) None None;
}

-- prepare_drop of s at u, where v is the new owner: the crown at Ready(u, v) is given up for the crown at Handing(u, v)
abbrev pub prepare_drop_exchange : ℕ → ℕ → ℕ → Option ℕ → Exchange
prepare_drop_exchange s u v listed = record {
  out = portion None (crown s (Ready u v) listed) None None;
  got = portion None (crown s (Handing u v) listed) None None;
}

-- add of s at v as secondary: the right to the absent cell and room for the load are given up for the right to a
-- secondary and one spare replica
abbrev pub add_secondary_exchange : Sizes → ℕ → ℕ → Exchange
add_secondary_exchange c s v = record {
  out = portion (cell s v Absent) None (room v (c.load s)) None;
  got = portion (cell s v Secondary) None None (spare s 1);
}

-- add of s at v as primary, by the lead of the crown: at Handing(u, v) that crown is given up for the one at Handed(u,
-- v), and at Gone with the right to the absent cell and room for the load, for the one at At(v) and one spare replica
abbrev pub add_primary_exchange : Sizes → ℕ → ℕ → Option ℕ → Option Lead → Exchange
add_primary_exchange c s v listed (Some (Handing u w)) = record {
  out = portion None (crown s (Handing u v) listed) None None;
  got = portion None (crown s (Handed u v) listed) None None;
}
add_primary_exchange c s v listed (Some Gone) = record {
  out = portion (cell s v Absent) (crown s Gone listed) (room v (c.load s)) None;
  got = portion None (crown s (At v) listed) None (spare s 1);
}
add_primary_exchange c s v listed _ = no_exchange

-- drop of s at v, if the right to the cell is held: the right to a secondary and one spare replica are given up for the
-- right to an absent cell and room for the load
abbrev pub drop_held_exchange : Sizes → ℕ → ℕ → Exchange
drop_held_exchange c s v = record {
  out = portion (cell s v Secondary) None None (spare s 1);
  got = portion (cell s v Absent) None (room v (c.load s)) None;
}

-- drop of s at v, if that right isn't held, by the lead of the crown: at Handed(v, w) that crown is given up for the
-- one at At(w), at Ready(u, v) for the one at At(u), and at At(v) with one spare replica for the one at Gone, if
-- neither lists a server; each time the right to the absent cell and room for the load are got too
abbrev pub drop_led_exchange : Sizes → ℕ → ℕ → Option ℕ → Option Lead → Exchange
drop_led_exchange c s v listed (Some (Handed u w)) = record {
  out = portion None (crown s (Handed v w) listed) None None;
  got = portion (cell s v Absent) (crown s (At w) listed) (room v (c.load s)) None;
}
drop_led_exchange c s v listed (Some (Ready u w)) = record {
  out = portion None (crown s (Ready u v) listed) None None;
  got = portion (cell s v Absent) (crown s (At u) listed) (room v (c.load s)) None;
}
drop_led_exchange c s v listed (Some (At u)) = record {
  out = portion None (crown s (At v) None) None (spare s 1);
  got = portion (cell s v Absent) (crown s Gone None) (room v (c.load s)) None;
}
drop_led_exchange c s v listed _ = no_exchange

-- change of s at v to primary: the crown at Gone and the right to the secondary cell are given up for the crown at
-- At(v)
abbrev pub to_primary_exchange : ℕ → ℕ → Option ℕ → Exchange
to_primary_exchange s v listed = record {
  out = portion (cell s v Secondary) (crown s Gone listed) None None;
  got = portion None (crown s (At v) listed) None None;
}

-- change of s at u to secondary: the crown at At(u) is given up for the crown at Gone and the right to a secondary
-- cell; neither crown lists a server
abbrev pub to_secondary_exchange : ℕ → ℕ → Exchange
to_secondary_exchange s u = record {
  out = portion None (crown s (At u) None) None None;
  got = portion (cell s u Secondary) (crown s Gone None) None None;
}

-- publish of s: the crown is given up for one that lists the server that a publication lists under its lead
abbrev pub publish_exchange : ℕ → Option ℕ → Option Lead → Exchange
publish_exchange s listed None = no_exchange
publish_exchange s listed (Some lead) = record {
  out = portion None (crown s lead listed) None None;
  got = portion None (crown s lead (to_list lead)) None None;
}

-- unlist of s: the crown is given up for one that lists no server
abbrev pub unlist_exchange : ℕ → Option ℕ → Option Lead → Exchange
unlist_exchange s listed None = no_exchange
unlist_exchange s listed (Some lead) = record {
  out = portion None (crown s lead listed) None None;
  got = portion None (crown s lead None) None None;
}

-- The line of an instruction by a hold, of which it reads the shard's crown, and for a drop whether the right to the
-- cell is held. A signal or a wait exchanges nothing beside its parcel.
abbrev pub exchange_of : Sizes → Instr → Hold → Exchange
exchange_of c (PrepareAdd s v u) h = prepare_add_exchange c s v u (listed_of (h.crowns s))
exchange_of c (PrepareDrop s u v) h = prepare_drop_exchange s u v (listed_of (h.crowns s))
exchange_of c (Add s v role.Secondary) h = add_secondary_exchange c s v
exchange_of c (Add s v role.Primary) h = add_primary_exchange c s v (listed_of (h.crowns s)) (lead_held (h.crowns s))
exchange_of c (Drop s v) h = if has_right h s v then drop_held_exchange c s v else drop_led_exchange c s v (listed_of (h.crowns s)) (lead_held (h.crowns s))
exchange_of c (Change s v role.Primary) h = to_primary_exchange s v (listed_of (h.crowns s))
exchange_of c (Change s v role.Secondary) h = to_secondary_exchange s v
exchange_of c (Publish s) h = publish_exchange s (listed_of (h.crowns s)) (lead_held (h.crowns s))
exchange_of c (Unlist s) h = unlist_exchange s (listed_of (h.crowns s)) (lead_held (h.crowns s))
exchange_of c (Signal k) h = no_exchange
exchange_of c (Wait k) h = no_exchange

-- what an instruction needs
abbrev pub needs_of : Sizes → Instr → Hold → Portion
needs_of c i h = (exchange_of c i h).out

-- what an instruction gives
abbrev pub gives_of : Sizes → Instr → Hold → Portion
gives_of c i h = (exchange_of c i h).got

-- ---- the law of the two columns

-- The hold h is not short of what is needed; without it, it is apart from what is given; and with that it is h'.
pub record IsExchanged (h h' : Hold) (out got : Portion) : Type 0 where
  pub held : first_short h (portion_rights out) ≡ None
  pub apart : AreApart (minus h (portion_rights out)) (hold_of (portion_rights got))
  pub left : h' ≡ plus (minus h (portion_rights out)) (portion_rights got)

-- The hold after an instruction but a signal or a wait is the hold before it, without what it needs, with what it
-- gives.
abbrev pub LinesExchange : Type 0
LinesExchange = (c : Sizes) (signals : ℕ → Rights) (h h' : Hold) (i : Instr) → IsOwn i → after c signals i h ≡ Ok h'
    → IsExchanged h h' (needs_of c i h) (gives_of c i h)

-- ---- what is made of a line

-- the exchange of a line if its tests pass, or the answer of the first one that fails
abbrev pub exchanged : Line → Exchange → Result Exchange Why
exchanged line exchange = unless_refused (first_why line.tests) exchange

-- what is got is small: room within the limit of an amount, and at most one spare replica
pub record IsSmallPortion (p : Portion) : Type 0 where
  pub room : IfSome p.room (λ x. x.amount ≤ MOST_AMOUNT)
  pub spare : IfSome p.spare (λ x. x.amount ≤ 1)
