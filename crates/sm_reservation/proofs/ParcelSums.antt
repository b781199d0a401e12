-- A parcel's rights taken out of a hold and put into one: what is left, and how much there is then of each right.
use Rattle.std.proofs.Common.{◌≡◌, ◌≢◌, ℕ, ◌+◌, ◌-◌, ◌≤◌, true, false, cond, eqb, leb, Option, Some, None, List, [], ◌∷◌, refl, sym, ap, ◌∙◌, arith, inl, inr, subst, ◌<◌, ◌^◌}
use Rattle.std.proofs.Math.Path.{fun_ext}
use Rattle.std.specs.Option.{option_or}
use Rattle.std.proofs.lemmas.Bool.Decides.{nat_tests}
use Rattle.std.proofs.lemmas.Bool.{cases_Bool, cases_eq, leb-true, and_parts}
use Rattle.sm_placement.specs.declared.lead.Lead.{Lead}
use Rattle.sm_placement.specs.Sums.{put, put2, bit}
use Rattle.sm_reservation.specs.declared.right.PlainCell.{PlainCell}
use Rattle.sm_reservation.specs.declared.right.PlainCell.TheVariants.{Absent, Secondary}
use Rattle.sm_reservation.specs.declared.right.CellRight.{CellRight}
use Rattle.sm_reservation.specs.declared.right.Crown.{Crown}
use Rattle.sm_reservation.specs.declared.right.Room.{Room}
use Rattle.sm_reservation.specs.declared.right.Spare.{Spare}
use Rattle.sm_reservation.specs.Rights.{Rights}
use Rattle.sm_reservation.specs.Hold.{Hold, no_hold, with_cell, with_crown, without_crown, pay_room, get_room, pay_spare, get_spare, minus_cells, minus_crowns, minus_room, minus_spare, plus_cells, plus_crowns, plus_room, plus_spare, minus, plus}
use Rattle.sm_reservation.specs.Amounts.{Right, OfCell, OfCrown, OfRoom, OfSpare, is_cell, is_crown, same_listed, same_lead, count}
use Rattle.sm_reservation.specs.Rows.{same, row_at, amount_of, amount_at, Rises}
use Rattle.sm_reservation.specs.Key.{key_of_cell, key_of_crown, key_of_room, key_of_spare, IsOrdered}
use Rattle.sm_reservation.specs.HoldOf.{plain_state_of, crown_of, hold_of}
use Rattle.sm_reservation.specs.CanJoin.{CanJoin, AreApart}
use Rattle.sm_reservation.specs.Covers.{Covers}
use Rattle.sm_reservation.specs.Short.{cell_short, crown_short, room_short, spare_short, first_answer, first_short}
use Rattle.sm_placement.proofs.Sums.{put2-here, put2-row, put2-apart}
use Rattle.sm_reservation.proofs.Places.{same_here, same_first, same_is}
use Rattle.sm_reservation.proofs.Truths.{is_cell_true, same_lead_true, same_server_true}
use Rattle.sm_reservation.proofs.RowLemmas.{none_after}
use Rattle.sm_reservation.proofs.ShortLemmas.{no_answer as neither, not_short as passes}
use Rattle.sm_placement.proofs.Searches.{cases_Option as cases_of}

-- ---- one list at a time: what the others say stays

-- cell rights taken out leave all other rights as they were
pub cells_alone : (h : Hold) (xs : List CellRight) → minus_cells h xs ≡ record h { cells = (minus_cells h xs).cells }
cells_alone h [] = refl
cells_alone h (x ∷ xs) = cells_alone (with_cell h x.shard x.server None) xs

-- crowns taken out leave all other rights as they were
pub crowns_alone : (h : Hold) (xs : List Crown) → minus_crowns h xs ≡ record h { crowns = (minus_crowns h xs).crowns }
crowns_alone h [] = refl
crowns_alone h (x ∷ xs) = crowns_alone (without_crown h x.shard) xs

-- room taken out leaves all other rights as they were
pub room_alone : (h : Hold) (xs : List Room) → minus_room h xs ≡ record h { room = (minus_room h xs).room }
room_alone h [] = refl
room_alone h (x ∷ xs) = room_alone (pay_room h x.server x.amount) xs

-- spare replicas taken out leave all other rights as they were
pub spare_alone : (h : Hold) (xs : List Spare) → minus_spare h xs ≡ record h { spare = (minus_spare h xs).spare }
spare_alone h [] = refl
spare_alone h (x ∷ xs) = spare_alone (pay_spare h x.shard x.amount) xs

-- cell rights put in leave all other rights as they were
pub more_cells_alone : (h : Hold) (xs : List CellRight) → plus_cells h xs ≡ record h { cells = (plus_cells h xs).cells }
more_cells_alone h [] = refl
more_cells_alone h (x ∷ xs) = more_cells_alone (with_cell h x.shard x.server (Some x.state)) xs

-- crowns put in leave all other rights as they were
pub more_crowns_alone : (h : Hold) (xs : List Crown) → plus_crowns h xs ≡ record h { crowns = (plus_crowns h xs).crowns }
more_crowns_alone h [] = refl
more_crowns_alone h (x ∷ xs) = more_crowns_alone (with_crown h x.shard x.lead x.listed) xs

-- room put in leaves all other rights as they were
pub more_room_alone : (h : Hold) (xs : List Room) → plus_room h xs ≡ record h { room = (plus_room h xs).room }
more_room_alone h [] = refl
more_room_alone h (x ∷ xs) = more_room_alone (get_room h x.server x.amount) xs

-- spare replicas put in leave all other rights as they were
pub more_spare_alone : (h : Hold) (xs : List Spare) → plus_spare h xs ≡ record h { spare = (plus_spare h xs).spare }
more_spare_alone h [] = refl
more_spare_alone h (x ∷ xs) = more_spare_alone (get_spare h x.shard x.amount) xs

-- ---- what a list says at a key is taken out there, and put in there

-- what is left where something is taken out
abbrev pub left : {A B : Type 0} → Option A → Option B → Option B
left None o = o
left (Some x) o = None

left_none : {A B : Type 0} (o : Option A) → left {A = A} {B = B} o None ≡ None
left_none None = refl
left_none (Some x) = refl

-- an edited function, by the test of keys
eqb_sym : (k q : ℕ) → eqb k q ≡ eqb q k
eqb_sym k q = grind (arith, nat_tests)

apart_second : (s w v : ℕ) → w ≢ v → same (s, v) (s, w) ≡ false
apart_second s w v d = grind (arith, nat_tests)

apart_first : (t w s v : ℕ) → t ≢ s → same (s, v) (t, w) ≡ false
apart_first t w s v d = grind (arith, nat_tests)

-- a function changed at one number, by the test of keys
pub put_at : {A : Type 0} (f : ℕ → A) (k : ℕ) (x : A) (q : ℕ) → put f k x q ≡ cond (same (k, 0) (q, 0)) x (f q)
put_at f k x q = rw (same_first k q, eqb_sym k q) refl

put2_at : {A : Type 0} (f : ℕ → ℕ → A) (s v : ℕ) (x : A) (t w : ℕ) → put2 f s v x t w ≡ cond (same (s, v) (t, w)) x (f t w)
put2_at f s v x t w = elim (cases_eq t s) [
  | inl d ↦ elim (cases_eq w v) [
    | inl e ↦ rw (d, e, same_here (s, v)) (put2-here f s v x)
    | inr e ↦ rw (d, apart_second s w v e) (put2-row f s v x w e)
  ]
  | inr d ↦ rw (apart_first t w s v d) (put2-apart f s v x t w d)
]

-- a key's value once a row is worked in and then the rows behind it is what it is once all of them are
worked_row : {T B : Type 0} (key_of : T → ℕ × ℕ) (work : Option T → B → B) (x : T) (xs : List T) (q : ℕ × ℕ) {now new had : B} → now ≡ cond (same (key_of x) q) new had →
    (same (key_of x) q ≡ true → work (row_at key_of xs q) new ≡ work (Some x) had) → work (row_at key_of xs q) now ≡ work (row_at key_of (x ∷ xs) q) had
worked_row key_of work x xs q here once = elim (cases_Bool (same (key_of x) q)) [
  | inl e ↦ ap (work (row_at key_of xs q)) (rw e at here) ∙ once e ∙ rw e refl
  | inr e ↦ ap (work (row_at key_of xs q)) (rw e at here) ∙ rw e refl
]

-- a cell that the list has a row of has no right left, and others are as they were
pub minus_cells_at : (h : Hold) (xs : List CellRight) (s v : ℕ) → (minus_cells h xs).cells s v ≡ left (plain_state_of (row_at key_of_cell xs (s, v))) (h.cells s v)
minus_cells_at h [] s v = refl
minus_cells_at h (x ∷ xs) s v =
    minus_cells_at (with_cell h x.shard x.server None) xs s v
    ∙ worked_row key_of_cell (λ o. left (plain_state_of o)) x xs (s, v) (put2_at h.cells x.shard x.server None s v) (λ e. left_none (plain_state_of (row_at key_of_cell xs (s, v))))

-- a shard that the list has a row of has no crown left, and others are as they were
pub minus_crowns_at : (h : Hold) (xs : List Crown) (s : ℕ) → (minus_crowns h xs).crowns s ≡ left (crown_of (row_at key_of_crown xs (s, 0))) (h.crowns s)
minus_crowns_at h [] s = refl
minus_crowns_at h (x ∷ xs) s =
    minus_crowns_at (without_crown h x.shard) xs s
    ∙ worked_row key_of_crown (λ o. left (crown_of o)) x xs (s, 0) (put_at h.crowns x.shard None s) (λ e. left_none (crown_of (row_at key_of_crown xs (s, 0))))

pub minus_room_at : (h : Hold) (xs : List Room) (v : ℕ) → Rises key_of_room xs → (minus_room h xs).room v ≡ h.room v - amount_at key_of_room (λ x. x.amount) xs (v, 0)
minus_room_at h [] v r = omega arith
minus_room_at h (x ∷ xs) v r =
    minus_room_at (pay_room h x.server x.amount) xs v r.1
    ∙ worked_row key_of_room (λ o n. n - amount_of (λ (y : Room). y.amount) o) x xs (v, 0) (put_at h.room x.server (h.room x.server - x.amount) v) (λ e.
    let none : amount_at key_of_room (λ y. y.amount) xs (v, 0) ≡ 0 = ap (amount_of (λ (y : Room). y.amount)) (none_after key_of_room (key_of_room x) (v, 0) xs r.0 e) in
    let same_room : h.room x.server ≡ h.room v = ap (λ (q : ℕ × ℕ). h.room q.0) (same_is (key_of_room x) (v, 0) e) in
    omega arith)

pub minus_spare_at : (h : Hold) (xs : List Spare) (s : ℕ) → Rises key_of_spare xs → (minus_spare h xs).spare s ≡ h.spare s - amount_at key_of_spare (λ x. x.amount) xs (s, 0)
minus_spare_at h [] s r = omega arith
minus_spare_at h (x ∷ xs) s r =
    minus_spare_at (pay_spare h x.shard x.amount) xs s r.1
    ∙ worked_row key_of_spare (λ o n. n - amount_of (λ (y : Spare). y.amount) o) x xs (s, 0) (put_at h.spare x.shard (h.spare x.shard - x.amount) s) (λ e.
    let none : amount_at key_of_spare (λ y. y.amount) xs (s, 0) ≡ 0 = ap (amount_of (λ (y : Spare). y.amount)) (none_after key_of_spare (key_of_spare x) (s, 0) xs r.0 e) in
    let same_spare : h.spare x.shard ≡ h.spare s = ap (λ (q : ℕ × ℕ). h.spare q.0) (same_is (key_of_spare x) (s, 0) e) in
    omega arith)

pub plus_cells_at : (h : Hold) (xs : List CellRight) (s v : ℕ) → Rises key_of_cell xs → (plus_cells h xs).cells s v ≡ option_or (plain_state_of (row_at key_of_cell xs (s, v))) (h.cells s v)
plus_cells_at h [] s v r = refl
plus_cells_at h (x ∷ xs) s v r =
    plus_cells_at (with_cell h x.shard x.server (Some x.state)) xs s v r.1
    ∙ worked_row key_of_cell (λ o. option_or (plain_state_of o)) x xs (s, v) (put2_at h.cells x.shard x.server (Some x.state) s v) (λ e. ap (λ (o : Option CellRight). option_or (plain_state_of o) (Some x.state)) (none_after key_of_cell (key_of_cell x) (s, v) xs r.0 e))

pub plus_crowns_at : (h : Hold) (xs : List Crown) (s : ℕ) → Rises key_of_crown xs → (plus_crowns h xs).crowns s ≡ option_or (crown_of (row_at key_of_crown xs (s, 0))) (h.crowns s)
plus_crowns_at h [] s r = refl
plus_crowns_at h (x ∷ xs) s r =
    plus_crowns_at (with_crown h x.shard x.lead x.listed) xs s r.1
    ∙ worked_row key_of_crown (λ o. option_or (crown_of o)) x xs (s, 0) (put_at h.crowns x.shard (Some (x.lead, x.listed)) s) (λ e. ap (λ (o : Option Crown). option_or (crown_of o) (Some (x.lead, x.listed))) (none_after key_of_crown (key_of_crown x) (s, 0) xs r.0 e))

-- a server's room is more by the amount that the list has of it
pub plus_room_at : (h : Hold) (xs : List Room) (v : ℕ) → Rises key_of_room xs → (plus_room h xs).room v ≡ h.room v + amount_at key_of_room (λ x. x.amount) xs (v, 0)
plus_room_at h [] v r = omega arith
plus_room_at h (x ∷ xs) v r =
    plus_room_at (get_room h x.server x.amount) xs v r.1
    ∙ worked_row key_of_room (λ o n. n + amount_of (λ (y : Room). y.amount) o) x xs (v, 0) (put_at h.room x.server (h.room x.server + x.amount) v) (λ e.
    let none : amount_at key_of_room (λ y. y.amount) xs (v, 0) ≡ 0 = ap (amount_of (λ (y : Room). y.amount)) (none_after key_of_room (key_of_room x) (v, 0) xs r.0 e) in
    let same_room : h.room x.server ≡ h.room v = ap (λ (q : ℕ × ℕ). h.room q.0) (same_is (key_of_room x) (v, 0) e) in
    omega arith)

-- a shard's spare replicas are more by the amount that the list has of them
pub plus_spare_at : (h : Hold) (xs : List Spare) (s : ℕ) → Rises key_of_spare xs → (plus_spare h xs).spare s ≡ h.spare s + amount_at key_of_spare (λ x. x.amount) xs (s, 0)
plus_spare_at h [] s r = omega arith
plus_spare_at h (x ∷ xs) s r =
    plus_spare_at (get_spare h x.shard x.amount) xs s r.1
    ∙ worked_row key_of_spare (λ o n. n + amount_of (λ (y : Spare). y.amount) o) x xs (s, 0) (put_at h.spare x.shard (h.spare x.shard + x.amount) s) (λ e.
    let none : amount_at key_of_spare (λ y. y.amount) xs (s, 0) ≡ 0 = ap (amount_of (λ (y : Spare). y.amount)) (none_after key_of_spare (key_of_spare x) (s, 0) xs r.0 e) in
    let same_spare : h.spare x.shard ≡ h.spare s = ap (λ (q : ℕ × ℕ). h.spare q.0) (same_is (key_of_spare x) (s, 0) e) in
    omega arith)

-- ---- a whole parcel

-- one hold taken out of another
abbrev pub parted : Hold → Hold → Hold
parted h k = record {
  cells = λ s v. left (k.cells s v) (h.cells s v);
  crowns = λ s. left (k.crowns s) (h.crowns s);
  room = λ v. h.room v - k.room v;
  spare = λ s. h.spare s - k.spare s;
}

-- one hold put into another
abbrev pub joined : Hold → Hold → Hold
joined h k = record {
  cells = λ s v. option_or (k.cells s v) (h.cells s v);
  crowns = λ s. option_or (k.crowns s) (h.crowns s);
  room = λ v. h.room v + k.room v;
  spare = λ s. h.spare s + k.spare s;
}

-- two holds that are read the same by every key are one
pub same_hold : (h k : Hold) → ((s v : ℕ) → h.cells s v ≡ k.cells s v) → ((s : ℕ) → h.crowns s ≡ k.crowns s) → ((v : ℕ) → h.room v ≡ k.room v) → ((s : ℕ) → h.spare s ≡ k.spare s) → h ≡ k
same_hold h k a b c d =
    ap (λ (f : ℕ → ℕ → Option PlainCell). record h { cells = f }) (fun_ext (λ s. fun_ext (λ v. a s v)))
    ∙ ap (λ (f : ℕ → Option (Lead × Option ℕ)). record h { cells = k.cells; crowns = f }) (fun_ext b)
    ∙ ap (λ (f : ℕ → ℕ). record k { room = f; spare = h.spare }) (fun_ext c)
    ∙ ap (λ (f : ℕ → ℕ). record k { spare = f }) (fun_ext d)

-- taking a parcel out, row after row, is taking out the hold that it is
pub minus_is : (h : Hold) (p : Rights) → IsOrdered p → minus h p ≡ parted h (hold_of p)
unfolding hold_of
minus_is h p o =
    let a = minus_cells h p.cells in
    let b = minus_crowns a p.crowns in
    let d = minus_room b p.room in
    let ae = cells_alone h p.cells in
    let be = crowns_alone a p.crowns in
    let de = room_alone b p.room in
    let ee = spare_alone d p.spare in
    same_hold (minus h p) (parted h (hold_of p))
    (λ s v. ap (λ (k : Hold). k.cells s v) ee ∙ ap (λ (k : Hold). k.cells s v) de ∙ ap (λ (k : Hold). k.cells s v) be ∙ minus_cells_at h p.cells s v)
    (λ s. ap (λ (k : Hold). k.crowns s) ee ∙ ap (λ (k : Hold). k.crowns s) de ∙ minus_crowns_at a p.crowns s ∙ ap (λ (k : Hold). left (crown_of (row_at key_of_crown p.crowns (s, 0))) (k.crowns s)) ae)
    (λ v. ap (λ (k : Hold). k.room v) ee ∙ minus_room_at b p.room v o.room ∙ ap (λ (n : ℕ). n - amount_at key_of_room (λ x. x.amount) p.room (v, 0)) (ap (λ (k : Hold). k.room v) be ∙ ap (λ (k : Hold). k.room v) ae))
    (λ s. minus_spare_at d p.spare s o.spare ∙ ap (λ (n : ℕ). n - amount_at key_of_spare (λ x. x.amount) p.spare (s, 0)) (ap (λ (k : Hold). k.spare s) de ∙ ap (λ (k : Hold). k.spare s) be ∙ ap (λ (k : Hold). k.spare s) ae))

-- putting a parcel in, row after row, is putting in the hold that it is
pub plus_is : (h : Hold) (p : Rights) → IsOrdered p → plus h p ≡ joined h (hold_of p)
unfolding hold_of
plus_is h p o =
    let a = plus_cells h p.cells in
    let b = plus_crowns a p.crowns in
    let d = plus_room b p.room in
    let ae = more_cells_alone h p.cells in
    let be = more_crowns_alone a p.crowns in
    let de = more_room_alone b p.room in
    let ee = more_spare_alone d p.spare in
    same_hold (plus h p) (joined h (hold_of p))
    (λ s v. ap (λ (k : Hold). k.cells s v) ee ∙ ap (λ (k : Hold). k.cells s v) de ∙ ap (λ (k : Hold). k.cells s v) be ∙ plus_cells_at h p.cells s v o.cells)
    (λ s. ap (λ (k : Hold). k.crowns s) ee ∙ ap (λ (k : Hold). k.crowns s) de ∙ plus_crowns_at a p.crowns s o.crowns ∙ ap (λ (k : Hold). option_or (crown_of (row_at key_of_crown p.crowns (s, 0))) (k.crowns s)) ae)
    (λ v. ap (λ (k : Hold). k.room v) ee ∙ plus_room_at b p.room v o.room ∙ ap (λ (n : ℕ). n + amount_at key_of_room (λ x. x.amount) p.room (v, 0)) (ap (λ (k : Hold). k.room v) be ∙ ap (λ (k : Hold). k.room v) ae))
    (λ s. plus_spare_at d p.spare s o.spare ∙ ap (λ (n : ℕ). n + amount_at key_of_spare (λ x. x.amount) p.spare (s, 0)) (ap (λ (k : Hold). k.spare s) de ∙ ap (λ (k : Hold). k.spare s) be ∙ ap (λ (k : Hold). k.spare s) ae))

-- a parcel put where there is nothing
pub plus_none : (p : Rights) → IsOrdered p → plus no_hold p ≡ hold_of p
plus_none p o =
    plus_is no_hold p o
    ∙ same_hold (joined no_hold (hold_of p)) (hold_of p) (λ s v. or_none ((hold_of p).cells s v)) (λ s. or_none ((hold_of p).crowns s)) (λ v. omega arith) (λ s. omega arith)
  where
    or_none : {A : Type 0} (o : Option A) → option_or o None ≡ o
    or_none None = refl
    or_none (Some x) = refl

-- ---- what isn't short is there

-- a row that is found passes what all rows pass
found_passes : {T Y : Type 0} (key_of : T → ℕ × ℕ) (f : T → Option Y) (xs : List T) (q : ℕ × ℕ) (x : T) → first_answer f xs ≡ None → row_at key_of xs q ≡ Some x → (f x ≡ None) × (same (key_of x) q ≡ true)
found_passes key_of f [] q x none is = cc
found_passes key_of f (y ∷ ys) q x none is =
    let both = neither (f y) (first_answer f ys) none in
    elim (cases_Bool (same (key_of y) q)) [
      | inl e ↦ let d : y ≡ x = (let z = rw e at is in cc) in rw (← d) (both.0, e)
      | inr e ↦ found_passes key_of f ys q x both.1 (rw e at is)
    ]

-- a crown that passes the test of a lead and a listed server has these
pub crown_is : (o : Option (Lead × Option ℕ)) (lead : Lead) (listed : Option ℕ) → is_crown lead listed o ≡ true → o ≡ Some (lead, listed)
crown_is None lead listed e = cc
crown_is (Some c) lead listed e =
    let both = and_parts (same_lead lead c.0) (same_listed listed c.1) e in
    let a : lead ≡ c.0 = same_lead_true lead c.0 both.0 in
    let b : listed ≡ c.1 = same_server_true listed c.1 both.1 in
    rw (a, b) refl

-- a hold of which nothing of a parcel is short has all of it
pub covers : (h : Hold) (p : Rights) → first_short h p ≡ None → Covers h (hold_of p)
unfolding hold_of
covers h p none =
    let d = neither (option_or (option_or (first_answer (cell_short h) p.cells) (first_answer (crown_short h) p.crowns)) (first_answer (room_short h) p.room)) (first_answer (spare_short h) p.spare) none in
    let b = neither (option_or (first_answer (cell_short h) p.cells) (first_answer (crown_short h) p.crowns)) (first_answer (room_short h) p.room) d.0 in
    let a = neither (first_answer (cell_short h) p.cells) (first_answer (crown_short h) p.crowns) b.0 in
    record {
      cells = λ s v state e. cell (row_at key_of_cell p.cells (s, v)) s v state refl a.0 e;
      crowns = λ s c e. crown (row_at key_of_crown p.crowns (s, 0)) s c refl a.1 e;
      room = λ v. room (row_at key_of_room p.room (v, 0)) v refl b.1;
      spare = λ s. spare (row_at key_of_spare p.spare (s, 0)) s refl d.1;
    }
  where
    cell : (o : Option CellRight) (s v : ℕ) (state : PlainCell) → row_at key_of_cell p.cells (s, v) ≡ o → first_answer (cell_short h) p.cells ≡ None → plain_state_of o ≡ Some state → h.cells s v ≡ Some state
    cell None s v state is none e = cc
    cell (Some x) s v state is none e =
        let f = found_passes key_of_cell (cell_short h) p.cells (s, v) x none is in
        let k = same_is (key_of_cell x) (s, v) f.1 in
        let t : is_cell x.state (h.cells x.shard x.server) ≡ true = passes (is_cell x.state (h.cells x.shard x.server)) _ f.0 in
        ap (λ (q : ℕ × ℕ). h.cells q.0 q.1) (sym k) ∙ is_cell_true x.state (h.cells x.shard x.server) t ∙ e

    crown : (o : Option Crown) (s : ℕ) (crown : Lead × Option ℕ) → row_at key_of_crown p.crowns (s, 0) ≡ o → first_answer (crown_short h) p.crowns ≡ None → crown_of o ≡ Some crown → h.crowns s ≡ Some crown
    crown None s c is none e = cc
    crown (Some x) s c is none e =
        let f = found_passes key_of_crown (crown_short h) p.crowns (s, 0) x none is in
        let k = same_is (key_of_crown x) (s, 0) f.1 in
        let t : is_crown x.lead x.listed (h.crowns x.shard) ≡ true = passes (is_crown x.lead x.listed (h.crowns x.shard)) _ f.0 in
        ap (λ (q : ℕ × ℕ). h.crowns q.0) (sym k) ∙ crown_is (h.crowns x.shard) x.lead x.listed t ∙ e

    room : (o : Option Room) (v : ℕ) → row_at key_of_room p.room (v, 0) ≡ o → first_answer (room_short h) p.room ≡ None → amount_of (λ x. x.amount) (row_at key_of_room p.room (v, 0)) ≤ h.room v
    room None v is none = rw is (omega arith)
    room (Some x) v is none =
        let f = found_passes key_of_room (room_short h) p.room (v, 0) x none is in
        let k : x.server ≡ v = ap (λ (q : ℕ × ℕ). q.0) (same_is (key_of_room x) (v, 0) f.1) in
        let t : x.amount ≤ h.room x.server = leb-true x.amount (h.room x.server) (passes (leb x.amount (h.room x.server)) _ f.0) in
        let e : h.room x.server ≡ h.room v = ap h.room k in
        rw is (omega arith)

    spare : (o : Option Spare) (s : ℕ) → row_at key_of_spare p.spare (s, 0) ≡ o → first_answer (spare_short h) p.spare ≡ None → amount_of (λ x. x.amount) (row_at key_of_spare p.spare (s, 0)) ≤ h.spare s
    spare None s is none = rw is (omega arith)
    spare (Some x) s is none =
        let f = found_passes key_of_spare (spare_short h) p.spare (s, 0) x none is in
        let k : x.shard ≡ s = ap (λ (q : ℕ × ℕ). q.0) (same_is (key_of_spare x) (s, 0) f.1) in
        let t : x.amount ≤ h.spare x.shard = leb-true x.amount (h.spare x.shard) (passes (leb x.amount (h.spare x.shard)) _ f.0) in
        let e : h.spare x.shard ≡ h.spare s = ap h.spare k in
        rw is (omega arith)

-- ---- how much there is of each right

-- where there is no right to a cell, there is none in any state
pub no_cell : (state : PlainCell) → bit (is_cell state None) ≡ 0
no_cell Absent = refl
no_cell Secondary = refl

parted_count : (h k : Hold) → Covers h k → (r : Right) → count (parted h k) r + count k r ≡ count h r
parted_count h k c (OfCell s v state) = let z = no_cell state in elim (cases_of (k.cells s v)) [
  | inl e ↦ rw e (omega arith)
  | inr e ↦ rw (e.1, c.cells s v e.0 e.1) (omega arith)
]
parted_count h k c (OfCrown s lead listed) = elim (cases_of (k.crowns s)) [
  | inl e ↦ rw e (omega arith)
  | inr e ↦ rw (e.1, c.crowns s e.0 e.1) (omega arith)
]
parted_count h k c (OfRoom v) = let l = c.room v in omega arith
parted_count h k c (OfSpare s) = let l = c.spare s in omega arith

joined_count : (h k : Hold) → AreApart h k → (r : Right) → count (joined h k) r ≡ count h r + count k r
joined_count h k c (OfCell s v state) = let z = no_cell state in elim (cases_of (k.cells s v)) [
  | inl e ↦ rw e (omega arith)
  | inr e ↦ rw (e.1, c.cells s v e.0 e.1) (omega arith)
]
joined_count h k c (OfCrown s lead listed) = elim (cases_of (k.crowns s)) [
  | inl e ↦ rw e (omega arith)
  | inr e ↦ rw (e.1, c.crowns s e.0 e.1) (omega arith)
]
joined_count h k c (OfRoom v) = refl
joined_count h k c (OfSpare s) = refl

-- what a parcel takes out is what it says
pub minus_count : (h : Hold) (p : Rights) → IsOrdered p → first_short h p ≡ None → (r : Right) → count (minus h p) r + count (hold_of p) r ≡ count h r
minus_count h p o none r = ap (λ (k : Hold). count k r + count (hold_of p) r) (minus_is h p o) ∙ parted_count h (hold_of p) (covers h p none) r

-- what can be joined is apart
pub apart_of : (h k : Hold) → CanJoin h k → AreApart h k
apart_of h k c = record { cells = c.cells; crowns = c.crowns }

-- what a parcel puts in is what it says
pub plus_count : (h : Hold) (p : Rights) → IsOrdered p → AreApart h (hold_of p) → (r : Right) → count (plus h p) r ≡ count h r + count (hold_of p) r
plus_count h p o c r = ap (λ (k : Hold). count k r) (plus_is h p o) ∙ joined_count h (hold_of p) c r

-- what goes from one hold to another is in one of them before and after
pub moved_count : (h g : Hold) (p : Rights) → IsOrdered p → first_short h p ≡ None → CanJoin g (hold_of p) → (r : Right) → count (minus h p) r + count (plus g p) r ≡ count h r + count g r
moved_count h g p o none c r =
    let a = minus_count h p o none r in
    let b = plus_count g p o (apart_of g (hold_of p) c) r in
    omega arith

-- what was taken out can be put back
pub minus_joins : (h : Hold) (p : Rights) → IsOrdered p → first_short h p ≡ None → ((v : ℕ) → h.room v < 2 ^ 64) → ((s : ℕ) → h.spare s < 2 ^ 64) → CanJoin (minus h p) (hold_of p)
minus_joins h p o none room spare =
    let c = covers h p none in
    subst (λ (k : Hold). CanJoin k (hold_of p)) (sym (minus_is h p o)) (record {
      cells = λ s v state e. rw e refl;
      crowns = λ s crown e. rw e refl;
      room = λ v. let a = room v in let b = c.room v in omega arith;
      spare = λ s. let a = spare s in let b = c.spare s in omega arith;
    })
