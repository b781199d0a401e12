-- The lines of the table of rights: for each, that the call is served, and what it changes.
use Rattle.std.proofs.Common.{◌≡◌, ◌≢◌, ℕ, ◌+◌, ◌-◌, ◌<◌, ◌≤◌, true, false, not, eqb, leb, refl, sym, ◌∙◌, arith, inl, inr, subst, Option, Some, None}
use Rattle.std.specs.Prelude.{is_none}
use Rattle.std.proofs.lemmas.Bool.{cases_eq, eq-eqb, leb-true}
use Rattle.sm_server.specs.declared.call.Cell.{Cell}
use Rattle.sm_server.specs.declared.call.Cell.TheVariants.{Absent, Secondary, Primary, Prepared, Forwarding}
use Rattle.sm_server.specs.declared.call.Role.TheVariants as role
use Rattle.sm_server.specs.declared.call.Call.{Call}
use Rattle.sm_server.specs.declared.call.Call.TheVariants as call
use Rattle.sm_server.specs.Cell.{is_absent}
use Rattle.sm_server.specs.Call.{led_to}
use Rattle.sm_placement.specs.declared.lead.Lead.{Lead}
use Rattle.sm_placement.specs.declared.lead.Lead.TheVariants.{Gone, At, Ready, Handing, Handed}
use Rattle.sm_placement.specs.Sums.{put2}
use Rattle.sm_placement.specs.Setup.{Sizes}
use Rattle.sm_placement.specs.Place.{Place, load_at}
use Rattle.sm_placement.specs.Lead.{Describes}
use Rattle.sm_placement.proofs.Sums.{put-here, put2-here, put2-row}
use Rattle.sm_reservation.specs.declared.right.PlainCell.TheVariants as plain
use Rattle.sm_reservation.specs.Hold.{Hold, with_cell, with_crown, pay_room, get_room, pay_spare, get_spare}
use Rattle.sm_reservation.specs.Amounts.{OfRoom, same_listed}
use Rattle.sm_reservation.proofs.Changes.{put2_changed, put_moved, unchanged}
use Rattle.sm_reservation.proofs.Truths.{true_cell, no_true_cell, true_crown, absent_from, secondary_from, crown_kept, crown_changed, plain_change}
use Rattle.sm_reservation.proofs.Exchange.{Stands, Moves}
use Rattle.sm_plan_code.specs.Effects.{IsScene, IsListable, MayHavePassed}

-- the shard and the server of a call are known, and the server is up
pub record Reaches (c : Sizes) (p : Place) (s v : ℕ) : Type 0 where
  pub shard : s < c.shards
  pub server : v < c.servers
  pub up : p.down v ≡ false

-- a call is served, and the hold moves as the placement does
pub record Goes (c : Sizes) (p : Place) (leads : ℕ → Lead) (numbers : ℕ → ℕ) (h h' : Hold) (s v : ℕ) (call : Call) (n' : ℕ) : Type 0 where
  pub to : Cell
  pub lead : Lead
  pub led : led_to call (p.cells s v) ≡ Some to
  pub room : is_absent (p.cells s v) ≡ true → c.load s ≤ c.room v - load_at c p v
  pub moves : Moves c p leads h h' s v to lead (numbers s) n'
  pub listable : IsListable (leads s) (p.listed s) → IsListable lead (p.listed s)
  pub passed : (m : ℕ) → MayHavePassed (leads s) (numbers s) m → MayHavePassed lead n' m

-- ---- who may be listed

listable_from : (lead next : Lead) (l : Option ℕ) → ((x : ℕ) → IsListable lead (Some x) → IsListable next (Some x)) → IsListable lead l → IsListable next l
listable_from lead next None may h = tt
listable_from lead next (Some x) may h = may x h

listable_settled : (u v : ℕ) (l : Option ℕ) → not (same_listed l (Some u)) ≡ true → IsListable (Handed u v) l → IsListable (At v) l
listable_settled u v None t h = tt
listable_settled u v (Some x) t (inl h) = absurd (let e : not (eqb x u) ≡ true = t in let f : eqb x u ≡ true = eq-eqb x u h in let g : not true ≡ true = rw f at e in let k : false ≡ true = g in cc)
listable_settled u v (Some x) t (inr h) = h

listable_unlisted : (lead : Lead) (l : Option ℕ) → is_none l ≡ true → IsListable lead l
listable_unlisted lead None e = tt
listable_unlisted lead (Some x) e = cc

-- a cell that isn't absent asks for no room
not_asked : {a b : ℕ} (x : Cell) → is_absent x ≡ false → is_absent x ≡ true → a ≤ b
not_asked x e f = absurd (cc)

module _ (c : Sizes) (p : Place) (leads : ℕ → Lead) (numbers : ℕ → ℕ) (h : Hold) (sc : IsScene c p leads numbers h) where
  there : (s v : ℕ) → Reaches c p s v → Stands c p leads s v (numbers s)
  there s v at = record { in_shards = at.shard; in_servers = at.server; up = at.up; was = sc.described s; no_server = sc.placement.no_server s }

  -- the lead of a crown that is held describes the shard's cells
  described_by : (s : ℕ) (lead : Lead) (l : Option ℕ) → h.crowns s ≡ Some (lead, l) → Describes lead (numbers s) (p.cells s)
  described_by s lead l crown = subst (λ x. Describes x (numbers s) (p.cells s)) (true_crown c p leads h sc.truth s lead l crown).0 (sc.described s)

  -- the room that is held is there
  fits : (s v : ℕ) → leb (c.load s) (h.room v) ≡ true → c.load s ≤ c.room v - load_at c p v
  fits s v e =
      let a : h.room v + load_at c p v ≤ c.room v = sc.truth.rights (OfRoom v) in
      let b : c.load s ≤ h.room v = leb-true (c.load s) (h.room v) e in
      omega arith

  -- `add` of a secondary is served: it pays the cell right and the load, and gives a secondary's and a spare
  pub add_secondary : (s v : ℕ) → Reaches c p s v →
      h.cells s v ≡ Some plain.Absent → leb (c.load s) (h.room v) ≡ true →
      Goes c p leads numbers h (get_spare (pay_room (with_cell h s v (Some plain.Secondary)) v (c.load s)) s 1) s v (call.Add role.Secondary) (numbers s)
  add_secondary s v at held room =
      let right = true_cell c p leads h sc.truth s v plain.Absent held in
      let was : p.cells s v ≡ Absent = absent_from (p.cells s v) right in
      let pays : c.load s ≤ h.room v = leb-true (c.load s) (h.room v) room in
      record {
        to = Secondary;
        lead = leads s;
        led = rw was refl;
        room = λ e. fits s v room;
        moves = record {
          stands = there s v at;
          is = plain_change (leads s) (numbers s) (p.cells s) (put2 p.cells s v Secondary s) v (sc.described s) (rw was tt) (rw (put2-here p.cells s v Secondary) tt) (λ q e. put2-row p.cells s v Secondary q e);
          right_was = held ∙ sym right;
          right_is = put2_changed h.cells s v (Some plain.Secondary);
          crown_moves = crown_kept leads p.listed h.crowns s;
          room_moves = put_moved h.room v (h.room v - c.load s);
          room_here = rw (put-here h.room v (h.room v - c.load s) v refl, was) (omega arith);
          spare_moves = put_moved h.spare s (h.spare s + 1);
          spare_here = rw (put-here h.spare s (h.spare s + 1) s refl, was) (omega arith);
        };
        listable = λ before. before;
        passed = λ m h. h;
      }

  -- `prepare_add` is served under a higher number: it pays the cell right and the load, and the lead is ready
  pub prepare_add : (s v u : ℕ) → Reaches c p s v → (l : Option ℕ) →
      h.crowns s ≡ Some (At u, l) → h.cells s v ≡ Some plain.Absent → leb (c.load s) (h.room v) ≡ true → (n : ℕ) → numbers s < n →
      Goes c p leads numbers h (pay_room (with_cell (with_crown h s (Ready u v) l) s v None) v (c.load s)) s v (call.PrepareAdd u n) n
  prepare_add s v u at l crown held room n more =
      let right = true_cell c p leads h sc.truth s v plain.Absent held in
      let was : p.cells s v ≡ Absent = absent_from (p.cells s v) right in
      let pays : c.load s ≤ h.room v = leb-true (c.load s) (h.room v) room in
      let mine = true_crown c p leads h sc.truth s (At u) l crown in
      let d : Describes (At u) (numbers s) (p.cells s) = described_by s (At u) l crown in
      let apart : u ≢ v = λ e. let f : p.cells s u ≡ Primary = d.0 in let g : p.cells s u ≡ Absent = rw e was in cc in
      record {
        to = Prepared u n;
        lead = Ready u v;
        led = rw was refl;
        room = λ e. fits s v room;
        moves = record {
          stands = there s v at;
          is = (apart, put2-row p.cells s v (Prepared u n) u apart ∙ d.0, put2-here p.cells s v (Prepared u n), λ x e f. rw (put2-row p.cells s v (Prepared u n) x f) (d.1 x e));
          right_was = held ∙ sym right;
          right_is = put2_changed h.cells s v None;
          crown_moves = crown_changed leads p.listed h.crowns s (At u) (Ready u v) l crown mine.0 mine.1;
          room_moves = put_moved h.room v (h.room v - c.load s);
          room_here = rw (put-here h.room v (h.room v - c.load s) v refl, was) (omega arith);
          spare_moves = unchanged h.spare s;
          spare_here = rw (was, mine.0) refl;
        };
        listable = λ before. listable_from (At u) (Ready u v) (p.listed s) (λ x e. e) (rw mine.0 at before);
        passed = λ m h. let a = h.0 in (omega arith, λ r. omega arith);
      }

  -- `prepare_drop` is served: the lead that was ready is handing
  pub prepare_drop : (s u v : ℕ) → Reaches c p s u → v < c.servers → p.down v ≡ false → (l : Option ℕ) → h.crowns s ≡ Some (Ready u v, l) →
      Goes c p leads numbers h (with_crown h s (Handing u v) l) s u (call.PrepareDrop v (numbers s)) (numbers s)
  prepare_drop s u v at in_range v_up l crown =
      let mine = true_crown c p leads h sc.truth s (Ready u v) l crown in
      let d : Describes (Ready u v) (numbers s) (p.cells s) = described_by s (Ready u v) l crown in
      let was : p.cells s u ≡ Primary = d.1 in
      record {
        to = Forwarding v (numbers s);
        lead = Handing u v;
        led = rw was refl;
        room = λ e. not_asked (p.cells s u) (rw was refl) e;
        moves = record {
          stands = there s u at;
          is = (d.0, put2-here p.cells s u (Forwarding v (numbers s)), put2-row p.cells s u (Forwarding v (numbers s)) v (λ e. d.0 (sym e)) ∙ d.2, λ x e f. rw (put2-row p.cells s u (Forwarding v (numbers s)) x e) (d.3 x e f));
          right_was = no_true_cell c p leads h sc.truth s u (rw was) ∙ sym (rw was);
          right_is = record { here = no_true_cell c p leads h sc.truth s u (rw was); row = λ q e. refl; apart = λ r q e. refl };
          crown_moves = crown_changed leads p.listed h.crowns s (Ready u v) (Handing u v) l crown mine.0 mine.1;
          room_moves = unchanged h.room u;
          room_here = rw was refl;
          spare_moves = unchanged h.spare s;
          spare_here = rw (was, mine.0, at.up, v_up) refl;
        };
        listable = λ before. listable_from (Ready u v) (Handing u v) (p.listed s) (λ x e. e) (rw mine.0 at before);
        passed = λ m h. (h.0, λ r. absurd r);
      }

  -- `add` of the primary that is handed over is served: the lead that was handing is handed
  pub add_handing : (s u v : ℕ) → Reaches c p s v → (l : Option ℕ) → h.crowns s ≡ Some (Handing u v, l) →
      Goes c p leads numbers h (with_crown h s (Handed u v) l) s v (call.Add role.Primary) (numbers s)
  add_handing s u v at l crown =
      let mine = true_crown c p leads h sc.truth s (Handing u v) l crown in
      let d : Describes (Handing u v) (numbers s) (p.cells s) = described_by s (Handing u v) l crown in
      let was : p.cells s v ≡ Prepared u (numbers s) = d.2 in
      record {
        to = Primary;
        lead = Handed u v;
        led = rw was refl;
        room = λ e. not_asked (p.cells s v) (rw was refl) e;
        moves = record {
          stands = there s v at;
          is = (d.0, put2-row p.cells s v Primary u d.0 ∙ d.1, put2-here p.cells s v Primary, λ x e f. rw (put2-row p.cells s v Primary x f) (d.3 x e f));
          right_was = no_true_cell c p leads h sc.truth s v (rw was) ∙ sym (rw was);
          right_is = record { here = no_true_cell c p leads h sc.truth s v (rw was); row = λ q e. refl; apart = λ r q e. refl };
          crown_moves = crown_changed leads p.listed h.crowns s (Handing u v) (Handed u v) l crown mine.0 mine.1;
          room_moves = unchanged h.room v;
          room_here = rw was refl;
          spare_moves = unchanged h.spare s;
          spare_here = rw (was, mine.0) refl;
        };
        listable = λ before. listable_from (Handing u v) (Handed u v) (p.listed s) (λ x e. inl e) (rw mine.0 at before);
        passed = λ m h. (h.0, λ r. absurd r);
      }

  -- `drop` of an unlisted old primary is served: the lead is at the new one, and it gives cell right and room
  pub drop_handed : (s u w : ℕ) → Reaches c p s u → (l : Option ℕ) → h.crowns s ≡ Some (Handed u w, l) → not (same_listed l (Some u)) ≡ true →
      Goes c p leads numbers h (get_room (with_cell (with_crown h s (At w) l) s u (Some plain.Absent)) u (c.load s)) s u call.Drop (numbers s)
  drop_handed s u w at l crown free =
      let mine = true_crown c p leads h sc.truth s (Handed u w) l crown in
      let d : Describes (Handed u w) (numbers s) (p.cells s) = described_by s (Handed u w) l crown in
      let was : p.cells s u ≡ Forwarding w (numbers s) = d.1 in
      record {
        to = Absent;
        lead = At w;
        led = rw was refl;
        room = λ e. not_asked (p.cells s u) (rw was refl) e;
        moves = record {
          stands = there s u at;
          is = (put2-row p.cells s u Absent w (λ e. d.0 (sym e)) ∙ d.2, λ x e. elim (cases_eq x u) [ inl f ↦ rw (f, put2-here p.cells s u Absent) tt | inr f ↦ rw (put2-row p.cells s u Absent x f) (d.3 x f e) ]);
          right_was = no_true_cell c p leads h sc.truth s u (rw was) ∙ sym (rw was);
          right_is = put2_changed h.cells s u (Some plain.Absent);
          crown_moves = crown_changed leads p.listed h.crowns s (Handed u w) (At w) l crown mine.0 mine.1;
          room_moves = put_moved h.room u (h.room u + c.load s);
          room_here = rw (put-here h.room u (h.room u + c.load s) u refl, was) (omega arith);
          spare_moves = unchanged h.spare s;
          spare_here = rw (was, mine.0) refl;
        };
        listable = λ before. listable_settled u w (p.listed s) (rw mine.1 free) (rw mine.0 at before);
        passed = λ m h. (h.0, λ r. absurd r);
      }

  -- `drop` of a prepared cell is served: the lead is at the owner again, and it gives cell right and room
  pub drop_ready : (s u w : ℕ) → Reaches c p s w → (l : Option ℕ) → h.crowns s ≡ Some (Ready u w, l) →
      Goes c p leads numbers h (get_room (with_cell (with_crown h s (At u) l) s w (Some plain.Absent)) w (c.load s)) s w call.Drop (numbers s)
  drop_ready s u w at l crown =
      let mine = true_crown c p leads h sc.truth s (Ready u w) l crown in
      let d : Describes (Ready u w) (numbers s) (p.cells s) = described_by s (Ready u w) l crown in
      let was : p.cells s w ≡ Prepared u (numbers s) = d.2 in
      record {
        to = Absent;
        lead = At u;
        led = rw was refl;
        room = λ e. not_asked (p.cells s w) (rw was refl) e;
        moves = record {
          stands = there s w at;
          is = (put2-row p.cells s w Absent u d.0 ∙ d.1, λ x e. elim (cases_eq x w) [ inl f ↦ rw (f, put2-here p.cells s w Absent) tt | inr f ↦ rw (put2-row p.cells s w Absent x f) (d.3 x e f) ]);
          right_was = no_true_cell c p leads h sc.truth s w (rw was) ∙ sym (rw was);
          right_is = put2_changed h.cells s w (Some plain.Absent);
          crown_moves = crown_changed leads p.listed h.crowns s (Ready u w) (At u) l crown mine.0 mine.1;
          room_moves = put_moved h.room w (h.room w + c.load s);
          room_here = rw (put-here h.room w (h.room w + c.load s) w refl, was) (omega arith);
          spare_moves = unchanged h.spare s;
          spare_here = rw (was, mine.0) refl;
        };
        listable = λ before. listable_from (Ready u w) (At u) (p.listed s) (λ x e. e) (rw mine.0 at before);
        passed = λ m h. (h.0, λ r. absurd r);
      }

  -- `drop` of a primary with none listed is served: the lead is gone, it pays a spare, gives cell right and room
  pub drop_at : (s u : ℕ) → Reaches c p s u → (l : Option ℕ) → h.crowns s ≡ Some (At u, l) → leb 1 (h.spare s) ≡ true → is_none l ≡ true →
      Goes c p leads numbers h (get_room (pay_spare (with_cell (with_crown h s Gone l) s u (Some plain.Absent)) s 1) u (c.load s)) s u call.Drop (numbers s)
  drop_at s u at l crown spare free =
      let mine = true_crown c p leads h sc.truth s (At u) l crown in
      let d : Describes (At u) (numbers s) (p.cells s) = described_by s (At u) l crown in
      let was : p.cells s u ≡ Primary = d.0 in
      let pays : 1 ≤ h.spare s = leb-true 1 (h.spare s) spare in
      record {
        to = Absent;
        lead = Gone;
        led = rw was refl;
        room = λ e. not_asked (p.cells s u) (rw was refl) e;
        moves = record {
          stands = there s u at;
          is = λ x. elim (cases_eq x u) [ inl f ↦ rw (f, put2-here p.cells s u Absent) tt | inr f ↦ rw (put2-row p.cells s u Absent x f) (d.1 x f) ];
          right_was = no_true_cell c p leads h sc.truth s u (rw was) ∙ sym (rw was);
          right_is = put2_changed h.cells s u (Some plain.Absent);
          crown_moves = crown_changed leads p.listed h.crowns s (At u) Gone l crown mine.0 mine.1;
          room_moves = put_moved h.room u (h.room u + c.load s);
          room_here = rw (put-here h.room u (h.room u + c.load s) u refl, was) (omega arith);
          spare_moves = put_moved h.spare s (h.spare s - 1);
          spare_here = rw (put-here h.spare s (h.spare s - 1) s refl, was, mine.0, at.up) (omega arith);
        };
        listable = λ before. listable_unlisted Gone (p.listed s) (rw mine.1 free);
        passed = λ m h. (h.0, λ r. absurd r);
      }

  -- `add` of a primary is served where the lead is gone: it pays the cell right and the load, and gives a spare
  pub add_gone : (s v : ℕ) → Reaches c p s v → (l : Option ℕ) → h.crowns s ≡ Some (Gone, l) → h.cells s v ≡ Some plain.Absent → leb (c.load s) (h.room v) ≡ true →
      Goes c p leads numbers h (get_spare (pay_room (with_cell (with_crown h s (At v) l) s v None) v (c.load s)) s 1) s v (call.Add role.Primary) (numbers s)
  add_gone s v at l crown held room =
      let mine = true_crown c p leads h sc.truth s Gone l crown in
      let d : Describes Gone (numbers s) (p.cells s) = described_by s Gone l crown in
      let right = true_cell c p leads h sc.truth s v plain.Absent held in
      let was : p.cells s v ≡ Absent = absent_from (p.cells s v) right in
      let pays : c.load s ≤ h.room v = leb-true (c.load s) (h.room v) room in
      record {
        to = Primary;
        lead = At v;
        led = rw was refl;
        room = λ e. fits s v room;
        moves = record {
          stands = there s v at;
          is = (put2-here p.cells s v Primary, λ x e. rw (put2-row p.cells s v Primary x e) (d x));
          right_was = held ∙ sym right;
          right_is = put2_changed h.cells s v None;
          crown_moves = crown_changed leads p.listed h.crowns s Gone (At v) l crown mine.0 mine.1;
          room_moves = put_moved h.room v (h.room v - c.load s);
          room_here = rw (put-here h.room v (h.room v - c.load s) v refl, was) (omega arith);
          spare_moves = put_moved h.spare s (h.spare s + 1);
          spare_here = rw (put-here h.spare s (h.spare s + 1) s refl, was, mine.0, at.up) (omega arith);
        };
        listable = λ before. listable_from Gone (At v) (p.listed s) (λ x e. absurd e) (rw mine.0 at before);
        passed = λ m h. (h.0, λ r. absurd r);
      }

  -- `change` to primary is served where the lead is gone: it pays the cell right, and the lead is there
  pub to_primary : (s v : ℕ) → Reaches c p s v → (l : Option ℕ) → h.crowns s ≡ Some (Gone, l) → h.cells s v ≡ Some plain.Secondary →
      Goes c p leads numbers h (with_cell (with_crown h s (At v) l) s v None) s v (call.Change role.Secondary role.Primary) (numbers s)
  to_primary s v at l crown held =
      let mine = true_crown c p leads h sc.truth s Gone l crown in
      let d : Describes Gone (numbers s) (p.cells s) = described_by s Gone l crown in
      let right = true_cell c p leads h sc.truth s v plain.Secondary held in
      let was : p.cells s v ≡ Secondary = secondary_from (p.cells s v) right in
      record {
        to = Primary;
        lead = At v;
        led = rw was refl;
        room = λ e. not_asked (p.cells s v) (rw was refl) e;
        moves = record {
          stands = there s v at;
          is = (put2-here p.cells s v Primary, λ x e. rw (put2-row p.cells s v Primary x e) (d x));
          right_was = held ∙ sym right;
          right_is = put2_changed h.cells s v None;
          crown_moves = crown_changed leads p.listed h.crowns s Gone (At v) l crown mine.0 mine.1;
          room_moves = unchanged h.room v;
          room_here = rw was refl;
          spare_moves = unchanged h.spare s;
          spare_here = rw (was, mine.0, at.up) refl;
        };
        listable = λ before. listable_from Gone (At v) (p.listed s) (λ x e. absurd e) (rw mine.0 at before);
        passed = λ m h. (h.0, λ r. absurd r);
      }

  -- `change` to secondary is served where none is listed: the lead is gone, and it gives the cell right
  pub to_secondary : (s u : ℕ) → Reaches c p s u → (l : Option ℕ) → h.crowns s ≡ Some (At u, l) → is_none l ≡ true →
      Goes c p leads numbers h (with_cell (with_crown h s Gone l) s u (Some plain.Secondary)) s u (call.Change role.Primary role.Secondary) (numbers s)
  to_secondary s u at l crown free =
      let mine = true_crown c p leads h sc.truth s (At u) l crown in
      let d : Describes (At u) (numbers s) (p.cells s) = described_by s (At u) l crown in
      let was : p.cells s u ≡ Primary = d.0 in
      record {
        to = Secondary;
        lead = Gone;
        led = rw was refl;
        room = λ e. not_asked (p.cells s u) (rw was refl) e;
        moves = record {
          stands = there s u at;
          is = λ x. elim (cases_eq x u) [ inl f ↦ rw (f, put2-here p.cells s u Secondary) tt | inr f ↦ rw (put2-row p.cells s u Secondary x f) (d.1 x f) ];
          right_was = no_true_cell c p leads h sc.truth s u (rw was) ∙ sym (rw was);
          right_is = put2_changed h.cells s u (Some plain.Secondary);
          crown_moves = crown_changed leads p.listed h.crowns s (At u) Gone l crown mine.0 mine.1;
          room_moves = unchanged h.room u;
          room_here = rw was refl;
          spare_moves = unchanged h.spare s;
          spare_here = rw (was, mine.0, at.up) refl;
        };
        listable = λ before. listable_unlisted Gone (p.listed s) (rw mine.1 free);
        passed = λ m h. (h.0, λ r. absurd r);
      }

  -- `drop` of a secondary is served: it pays the cell right and a spare, and gives an absent cell's and room
  pub drop_secondary : (s v : ℕ) → Reaches c p s v → h.cells s v ≡ Some plain.Secondary → leb 1 (h.spare s) ≡ true →
      Goes c p leads numbers h (get_room (pay_spare (with_cell h s v (Some plain.Absent)) s 1) v (c.load s)) s v call.Drop (numbers s)
  drop_secondary s v at held spare =
      let right = true_cell c p leads h sc.truth s v plain.Secondary held in
      let was : p.cells s v ≡ Secondary = secondary_from (p.cells s v) right in
      let pays : 1 ≤ h.spare s = leb-true 1 (h.spare s) spare in
      record {
        to = Absent;
        lead = leads s;
        led = rw was refl;
        room = λ e. not_asked (p.cells s v) (rw was refl) e;
        moves = record {
          stands = there s v at;
          is = plain_change (leads s) (numbers s) (p.cells s) (put2 p.cells s v Absent s) v (sc.described s) (rw was tt) (rw (put2-here p.cells s v Absent) tt) (λ q e. put2-row p.cells s v Absent q e);
          right_was = held ∙ sym right;
          right_is = put2_changed h.cells s v (Some plain.Absent);
          crown_moves = crown_kept leads p.listed h.crowns s;
          room_moves = put_moved h.room v (h.room v + c.load s);
          room_here = rw (put-here h.room v (h.room v + c.load s) v refl, was) (omega arith);
          spare_moves = put_moved h.spare s (h.spare s - 1);
          spare_here = rw (put-here h.spare s (h.spare s - 1) s refl, was) (omega arith);
        };
        listable = λ before. before;
        passed = λ m h. h;
      }
