-- The law of the two columns: each line of the table of rights takes what it needs out of the hold, and puts in what it
-- gives.
use Rattle.std.proofs.Common.{◌≡◌, ℕ, Bool, true, false, leb, refl, sym, ap, ◌∙◌, inl, inr, Option, Some, None, Ok}
use Rattle.std.specs.Prelude.{is_some, is_none, not, if◌then◌else◌}
use Rattle.std.specs.List.{list_all}
use Rattle.std.specs.Option.{option_to_list}
use Rattle.std.proofs.Math.Path.{fun_ext}
use Rattle.std.proofs.lemmas.Bool.{cases_eq, eqb-true}
use Rattle.sm_server.specs.declared.call.Role.TheVariants as role
use Rattle.sm_placement.specs.declared.lead.Lead.{Lead}
use Rattle.sm_placement.specs.declared.lead.Lead.TheVariants.{Gone, At, Ready, Handing, Handed}
use Rattle.sm_placement.specs.Sums.{put, put2}
use Rattle.sm_placement.specs.Setup.{Sizes}
use Rattle.sm_placement.proofs.Sums.{put-here, put-apart, put2-here}
use Rattle.sm_reservation.specs.declared.change.Portion.{Portion}
use Rattle.sm_reservation.specs.declared.right.PlainCell.TheVariants.{Absent, Secondary}
use Rattle.sm_reservation.specs.declared.right.CellRight.{CellRight}
use Rattle.sm_reservation.specs.declared.right.Crown.{Crown}
use Rattle.sm_reservation.specs.declared.right.Room.{Room}
use Rattle.sm_reservation.specs.declared.right.Spare.{Spare}
use Rattle.sm_reservation.specs.Rights.{Rights}
use Rattle.sm_reservation.specs.Hold.{Hold, minus, plus}
use Rattle.sm_reservation.specs.HoldOf.{hold_of}
use Rattle.sm_reservation.specs.Amounts.{is_cell, is_crown}
use Rattle.sm_reservation.specs.CanJoin.{AreApart}
use Rattle.sm_reservation.specs.Change.{portion_rights}
use Rattle.sm_reservation.specs.Short.{first_short, first_answer, cell_short, crown_short, room_short, spare_short}
use Rattle.sm_reservation.specs.Turns.{lacks_cell, lacks_crown}
use Rattle.sm_reservation.proofs.FitLemmas.{none_of, passes_apart}
use Rattle.sm_reservation.proofs.Truths.{same_lead_self, same_server_self}
use Rattle.sm_plan_code.specs.declared.instruction.Instr.{Instr}
use Rattle.sm_plan_code.specs.declared.instruction.Instr.TheVariants.{PrepareAdd, PrepareDrop, Add, Drop, Change, Publish, Unlist, Signal, Wait}
use Rattle.sm_plan_code.specs.Instr.{IsOwn}
use Rattle.sm_plan_code.specs.After.{Line, after, decided, to_list, leads_as, listed_of, lead_held, prepare_add_line, prepare_drop_line, add_secondary_line, to_primary_line, to_secondary_line, add_primary_line, drop_held_line, drop_led_line, publish_line, unlist_line}
use Rattle.sm_plan_code.specs.Table.{IsExchanged, needs_of, gives_of, prepare_add_exchange, prepare_drop_exchange, add_secondary_exchange, add_primary_exchange, drop_held_exchange, drop_led_exchange, to_primary_exchange, to_secondary_exchange, publish_exchange, unlist_exchange}
use Rattle.sm_plan_code.proofs.Lines.{passes}

-- ---- the rights of a portion

abbrev CellHeld : Hold → Option CellRight → Type 0
CellHeld h None = Unit {0}
CellHeld h (Some x) = is_cell x.state (h.cells x.shard x.server) ≡ true

abbrev CrownHeld : Hold → Option Crown → Type 0
CrownHeld h None = Unit {0}
CrownHeld h (Some x) = is_crown x.lead x.listed (h.crowns x.shard) ≡ true

abbrev RoomHeld : Hold → Option Room → Type 0
RoomHeld h None = Unit {0}
RoomHeld h (Some x) = leb x.amount (h.room x.server) ≡ true

abbrev SpareHeld : Hold → Option Spare → Type 0
SpareHeld h None = Unit {0}
SpareHeld h (Some x) = leb x.amount (h.spare x.shard) ≡ true

cell_held : (h : Hold) (o : Option CellRight) → CellHeld h o → first_answer (cell_short h) (option_to_list o) ≡ None
cell_held h None t = refl
cell_held h (Some x) t = rw t refl

crown_held : (h : Hold) (o : Option Crown) → CrownHeld h o → first_answer (crown_short h) (option_to_list o) ≡ None
crown_held h None t = refl
crown_held h (Some x) t = rw t refl

room_held : (h : Hold) (o : Option Room) → RoomHeld h o → first_answer (room_short h) (option_to_list o) ≡ None
room_held h None t = refl
room_held h (Some x) t = rw t refl

spare_held : (h : Hold) (o : Option Spare) → SpareHeld h o → first_answer (spare_short h) (option_to_list o) ≡ None
spare_held h None t = refl
spare_held h (Some x) t = rw t refl

-- a hold that has each right of a portion is not short of it
has_all : (h : Hold) (p : Portion) → CellHeld h p.cell → CrownHeld h p.crown → RoomHeld h p.room → SpareHeld h p.spare → first_short h (portion_rights p) ≡ None
has_all h p a b d e = rw (cell_held h p.cell a, crown_held h p.crown b, room_held h p.room d, spare_held h p.spare e) refl

abbrev pub CellFree : Hold → Option CellRight → Type 0
CellFree h None = Unit {0}
CellFree h (Some x) = is_none (h.cells x.shard x.server) ≡ true

abbrev pub CrownFree : Hold → Option Crown → Type 0
CrownFree h None = Unit {0}
CrownFree h (Some x) = is_none (h.crowns x.shard) ≡ true

cell_free : (h : Hold) (o : Option CellRight) → CellFree h o → list_all (lacks_cell h) (option_to_list o) ≡ true
cell_free h None t = refl
cell_free h (Some x) t = rw t refl

crown_free : (h : Hold) (o : Option Crown) → CrownFree h o → list_all (lacks_crown h) (option_to_list o) ≡ true
crown_free h None t = refl
crown_free h (Some x) t = rw t refl

-- a hold without the cell right and the crown of a portion is apart from it
pub has_neither : (h : Hold) (p : Portion) → CellFree h p.cell → CrownFree h p.crown → AreApart h (hold_of (portion_rights p))
has_neither h p a b = passes_apart h (portion_rights p) (cell_free h p.cell a) (crown_free h p.crown b)

-- ---- a right in place of another one

put_again : {A : Type 0} (f : ℕ → A) (k : ℕ) (x y : A) → put (put f k x) k y ≡ put f k y
put_again f k x y = fun_ext (λ q. elim (cases_eq q k) [
  | inl e ↦ put-here (put f k x) k y q e ∙ sym (put-here f k y q e)
  | inr e ↦ put-apart (put f k x) k y q e ∙ put-apart f k x q e ∙ sym (put-apart f k y q e)
])

put2_again : {A : Type 0} (f : ℕ → ℕ → A) (s v : ℕ) (x y : A) → put2 (put2 f s v x) s v y ≡ put2 f s v y
put2_again {A} f s v x y =
    put_again f s (put (f s) v x) (put (put f s (put (f s) v x) s) v y)
    ∙ ap (λ (g : ℕ → A). put f s (put g v y)) (put-here f s (put (f s) v x) s refl)
    ∙ ap (λ (g : ℕ → A). put f s g) (put_again (f s) v x y)

gone_cell : {A : Type 0} (f : ℕ → ℕ → Option A) (s v : ℕ) → is_none (put2 f s v None s v) ≡ true
gone_cell f s v = rw (put2-here f s v None) refl

gone_crown : {A : Type 0} (f : ℕ → Option A) (s : ℕ) → is_none (put f s None s) ≡ true
gone_crown f s = rw (put-here f s None s refl) refl

none_unless : {A : Type 0} (o : Option A) → is_some o ≡ false → is_none o ≡ true
none_unless None e = refl
none_unless (Some x) e = cc

none_unless_not : {A : Type 0} (o : Option A) → not (is_some o) ≡ true → is_none o ≡ true
none_unless_not None e = refl
none_unless_not (Some x) e = cc

-- ---- the crown that is held

by_lead : (lead : Lead) (o : Option (Lead × Option ℕ)) → leads_as lead o ≡ true → is_crown lead (listed_of o) o ≡ true
by_lead lead None e = cc
by_lead lead (Some crown) e = rw (e, same_server_self crown.1) refl

by_led : (lead : Lead) (o : Option (Lead × Option ℕ)) → lead_held o ≡ Some lead → is_crown lead (listed_of o) o ≡ true
by_led lead None e = cc
by_led lead (Some crown) e = let same : crown.0 ≡ lead = cc in rw (same, same_lead_self lead, same_server_self crown.1) refl

-- where it lists nobody
unlisted : (lead : Lead) (o : Option (Lead × Option ℕ)) → is_none (listed_of o) ≡ true → is_crown lead (listed_of o) o ≡ true → is_crown lead None o ≡ true
unlisted lead o free e = rw (none_of (listed_of o) free) at e

-- ---- the lines

module _ (h h' : Hold) where
  by_line : (line : Line) (out got : Portion) → line.change ≡ h' → first_short h (portion_rights out) ≡ None →
      AreApart (minus h (portion_rights out)) (hold_of (portion_rights got)) → line.change ≡ plus (minus h (portion_rights out)) (portion_rights got) → IsExchanged h h' out got
  by_line line out got left held apart same = record { held = held; apart = apart; left = sym left ∙ same }

  module _ (c : Sizes) (s v : ℕ) where
    prepare_add : (u : ℕ) → decided (prepare_add_line c s v u h) ≡ Ok h' →
        let x = prepare_add_exchange c s v u (listed_of (h.crowns s)) in IsExchanged h h' x.out x.got
    prepare_add u e =
        let line = prepare_add_line c s v u h in
        let x = prepare_add_exchange c s v u (listed_of (h.crowns s)) in
        let ok = passes line h' e in
        let lead = ok.0.1 in
        let right = lead.1 in
        let state = right.1 in
        let room = state.1 in
        by_line line x.out x.got ok.1
        (has_all h x.out state.0 (by_lead (At u) (h.crowns s) lead.0) room.0 tt)
        (has_neither (minus h (portion_rights x.out)) x.got tt (gone_crown h.crowns s))
        (rw (put_again h.crowns s None (Some (Ready u v, listed_of (h.crowns s)))) refl)

    add_secondary : decided (add_secondary_line c s v h) ≡ Ok h' → let x = add_secondary_exchange c s v in IsExchanged h h' x.out x.got
    add_secondary e =
        let line = add_secondary_line c s v h in
        let x = add_secondary_exchange c s v in
        let ok = passes line h' e in
        let state = ok.0.1 in
        let room = state.1 in
        by_line line x.out x.got ok.1
        (has_all h x.out state.0 tt room.0 tt)
        (has_neither (minus h (portion_rights x.out)) x.got (gone_cell h.cells s v) tt)
        (rw (put2_again h.cells s v None (Some Secondary)) refl)

    add_primary : (o : Option Lead) → lead_held (h.crowns s) ≡ o → decided (add_primary_line c s v h o) ≡ Ok h' →
        let x = add_primary_exchange c s v (listed_of (h.crowns s)) o in IsExchanged h h' x.out x.got
    add_primary None q e = cc
    add_primary (Some (Handing u w)) q e =
        let line = add_primary_line c s v h (Some (Handing u w)) in
        let x = add_primary_exchange c s v (listed_of (h.crowns s)) (Some (Handing u w)) in
        let ok = passes line h' e in
        let here = ok.0 in
        let same : w ≡ v = eqb-true w v here.0 in
        by_line line x.out x.got ok.1
        (has_all h x.out tt (by_led (Handing u v) (h.crowns s) (rw same at q)) tt tt)
        (has_neither (minus h (portion_rights x.out)) x.got tt (gone_crown h.crowns s))
        (rw (put_again h.crowns s None (Some (Handed u v, listed_of (h.crowns s)))) refl)
    add_primary (Some Gone) q e =
        let line = add_primary_line c s v h (Some Gone) in
        let x = add_primary_exchange c s v (listed_of (h.crowns s)) (Some Gone) in
        let ok = passes line h' e in
        let right = ok.0 in
        let state = right.1 in
        let room = state.1 in
        by_line line x.out x.got ok.1
        (has_all h x.out state.0 (by_led Gone (h.crowns s) q) room.0 tt)
        (has_neither (minus h (portion_rights x.out)) x.got tt (gone_crown h.crowns s))
        (rw (put_again h.crowns s None (Some (At v, listed_of (h.crowns s)))) refl)
    add_primary (Some (At u)) q e = cc
    add_primary (Some (Ready u w)) q e = cc
    add_primary (Some (Handed u w)) q e = cc

    drop_held : decided (drop_held_line c s v h) ≡ Ok h' → let x = drop_held_exchange c s v in IsExchanged h h' x.out x.got
    drop_held e =
        let line = drop_held_line c s v h in
        let x = drop_held_exchange c s v in
        let ok = passes line h' e in
        let state = ok.0 in
        let spare = state.1 in
        by_line line x.out x.got ok.1
        (has_all h x.out state.0 tt tt spare.0)
        (has_neither (minus h (portion_rights x.out)) x.got (gone_cell h.cells s v) tt)
        (rw (put2_again h.cells s v None (Some Absent)) refl)

    drop_led : is_some (h.cells s v) ≡ false → (o : Option Lead) → lead_held (h.crowns s) ≡ o → decided (drop_led_line c s v h o) ≡ Ok h' →
        let x = drop_led_exchange c s v (listed_of (h.crowns s)) o in IsExchanged h h' x.out x.got
    drop_led free_cell None q e = cc
    drop_led free_cell (Some (Handed u w)) q e =
        let line = drop_led_line c s v h (Some (Handed u w)) in
        let x = drop_led_exchange c s v (listed_of (h.crowns s)) (Some (Handed u w)) in
        let ok = passes line h' e in
        let here = ok.0 in
        let same : u ≡ v = eqb-true u v here.0 in
        by_line line x.out x.got ok.1
        (has_all h x.out tt (by_led (Handed v w) (h.crowns s) (rw same at q)) tt tt)
        (has_neither (minus h (portion_rights x.out)) x.got (none_unless (h.cells s v) free_cell) (gone_crown h.crowns s))
        (rw (put_again h.crowns s None (Some (At w, listed_of (h.crowns s)))) refl)
    drop_led free_cell (Some (Ready u w)) q e =
        let line = drop_led_line c s v h (Some (Ready u w)) in
        let x = drop_led_exchange c s v (listed_of (h.crowns s)) (Some (Ready u w)) in
        let ok = passes line h' e in
        let here = ok.0 in
        let same : w ≡ v = eqb-true w v here.0 in
        by_line line x.out x.got ok.1
        (has_all h x.out tt (by_led (Ready u v) (h.crowns s) (rw same at q)) tt tt)
        (has_neither (minus h (portion_rights x.out)) x.got (none_unless (h.cells s v) free_cell) (gone_crown h.crowns s))
        (rw (put_again h.crowns s None (Some (At u, listed_of (h.crowns s)))) refl)
    drop_led free_cell (Some (At u)) q e =
        let line = drop_led_line c s v h (Some (At u)) in
        let x = drop_led_exchange c s v (listed_of (h.crowns s)) (Some (At u)) in
        let ok = passes line h' e in
        let here = ok.0 in
        let free = here.1 in
        let spare = free.1 in
        let same : u ≡ v = eqb-true u v here.0 in
        let nobody : listed_of (h.crowns s) ≡ None = none_of (listed_of (h.crowns s)) free.0 in
        by_line line x.out x.got ok.1
        (has_all h x.out tt (unlisted (At v) (h.crowns s) free.0 (by_led (At v) (h.crowns s) (rw same at q))) tt spare.0)
        (has_neither (minus h (portion_rights x.out)) x.got (none_unless (h.cells s v) free_cell) (gone_crown h.crowns s))
        (rw (put_again h.crowns s None (Some (Gone, None)), nobody) refl)
    drop_led free_cell (Some Gone) q e = cc
    drop_led free_cell (Some (Handing u w)) q e = cc

    drop : (b : Bool) → is_some (h.cells s v) ≡ b → decided (if b then drop_held_line c s v h else drop_led_line c s v h (lead_held (h.crowns s))) ≡ Ok h' →
        let x = if b then drop_held_exchange c s v else drop_led_exchange c s v (listed_of (h.crowns s)) (lead_held (h.crowns s)) in IsExchanged h h' x.out x.got
    drop true q e = drop_held e
    drop false q e = drop_led q (lead_held (h.crowns s)) refl e

    prepare_drop : (u : ℕ) → decided (prepare_drop_line s v u h) ≡ Ok h' → let x = prepare_drop_exchange s v u (listed_of (h.crowns s)) in IsExchanged h h' x.out x.got
    prepare_drop u e =
        let line = prepare_drop_line s v u h in
        let x = prepare_drop_exchange s v u (listed_of (h.crowns s)) in
        let ok = passes line h' e in
        let lead = ok.0.1 in
        by_line line x.out x.got ok.1
        (has_all h x.out tt (by_lead (Ready v u) (h.crowns s) lead.0) tt tt)
        (has_neither (minus h (portion_rights x.out)) x.got tt (gone_crown h.crowns s))
        (rw (put_again h.crowns s None (Some (Handing v u, listed_of (h.crowns s)))) refl)

    to_primary : decided (to_primary_line s v h) ≡ Ok h' → let x = to_primary_exchange s v (listed_of (h.crowns s)) in IsExchanged h h' x.out x.got
    to_primary e =
        let line = to_primary_line s v h in
        let x = to_primary_exchange s v (listed_of (h.crowns s)) in
        let ok = passes line h' e in
        let lead = ok.0.1 in
        let right = lead.1 in
        let state = right.1 in
        by_line line x.out x.got ok.1
        (has_all h x.out state.0 (by_lead Gone (h.crowns s) lead.0) tt tt)
        (has_neither (minus h (portion_rights x.out)) x.got tt (gone_crown h.crowns s))
        (rw (put_again h.crowns s None (Some (At v, listed_of (h.crowns s)))) refl)

    to_secondary : decided (to_secondary_line s v h) ≡ Ok h' → let x = to_secondary_exchange s v in IsExchanged h h' x.out x.got
    to_secondary e =
        let line = to_secondary_line s v h in
        let x = to_secondary_exchange s v in
        let ok = passes line h' e in
        let lead = ok.0.1 in
        let free = lead.1 in
        let right = free.1 in
        let nobody : listed_of (h.crowns s) ≡ None = none_of (listed_of (h.crowns s)) free.0 in
        by_line line x.out x.got ok.1
        (has_all h x.out tt (unlisted (At v) (h.crowns s) free.0 (by_lead (At v) (h.crowns s) lead.0)) tt tt)
        (has_neither (minus h (portion_rights x.out)) x.got (none_unless_not (h.cells s v) right.0) (gone_crown h.crowns s))
        (rw (put_again h.crowns s None (Some (Gone, None)), nobody) refl)

  publish : (s : ℕ) (o : Option Lead) → lead_held (h.crowns s) ≡ o → decided (publish_line s h o) ≡ Ok h' →
      let x = publish_exchange s (listed_of (h.crowns s)) o in IsExchanged h h' x.out x.got
  publish s None q e = cc
  publish s (Some lead) q e =
      let line = publish_line s h (Some lead) in
      let x = publish_exchange s (listed_of (h.crowns s)) (Some lead) in
      let ok = passes line h' e in
      by_line line x.out x.got ok.1
      (has_all h x.out tt (by_led lead (h.crowns s) q) tt tt)
      (has_neither (minus h (portion_rights x.out)) x.got tt (gone_crown h.crowns s))
      (rw (put_again h.crowns s None (Some (lead, to_list lead))) refl)

  unlist : (s : ℕ) (o : Option Lead) → lead_held (h.crowns s) ≡ o → decided (unlist_line s h o) ≡ Ok h' →
      let x = unlist_exchange s (listed_of (h.crowns s)) o in IsExchanged h h' x.out x.got
  unlist s None q e = cc
  unlist s (Some lead) q e =
      let line = unlist_line s h (Some lead) in
      let x = unlist_exchange s (listed_of (h.crowns s)) (Some lead) in
      let ok = passes line h' e in
      by_line line x.out x.got ok.1
      (has_all h x.out tt (by_led lead (h.crowns s) q) tt tt)
      (has_neither (minus h (portion_rights x.out)) x.got tt (gone_crown h.crowns s))
      (rw (put_again h.crowns s None (Some (lead, None))) refl)

-- the hold after an instruction but a signal or a wait is the hold before it, without what it needs, with what it gives
pub lines_exchange : (c : Sizes) (signals : ℕ → Rights) (h h' : Hold) (i : Instr) → IsOwn i → after c signals i h ≡ Ok h' → IsExchanged h h' (needs_of c i h) (gives_of c i h)
lines_exchange c signals h h' (PrepareAdd s v u) own e = prepare_add h h' c s v u e
lines_exchange c signals h h' (PrepareDrop s u v) own e = prepare_drop h h' c s u v e
lines_exchange c signals h h' (Add s v role.Secondary) own e = add_secondary h h' c s v e
lines_exchange c signals h h' (Add s v role.Primary) own e = add_primary h h' c s v (lead_held (h.crowns s)) refl e
lines_exchange c signals h h' (Drop s v) own e = drop h h' c s v (is_some (h.cells s v)) refl e
lines_exchange c signals h h' (Change s v role.Primary) own e = to_primary h h' c s v e
lines_exchange c signals h h' (Change s v role.Secondary) own e = to_secondary h h' c s v e
lines_exchange c signals h h' (Publish s) own e = publish h h' s (lead_held (h.crowns s)) refl e
lines_exchange c signals h h' (Unlist s) own e = unlist h h' s (lead_held (h.crowns s)) refl e
lines_exchange c signals h h' (Signal k) own e = absurd own
lines_exchange c signals h h' (Wait k) own e = absurd own
