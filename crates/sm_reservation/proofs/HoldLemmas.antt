-- Holds that differ at one key.
use Rattle.std.proofs.Common.{◌≡◌, ℕ, Bool, true, false, ◌&&◌, cond, eqb, Option, List, refl, sym, ◌∙◌, ap, arith, inl, inr}
use Rattle.std.proofs.lemmas.Bool.{cases_Bool, eqb-true}
use Rattle.std.proofs.lemmas.Bool.Decides.{nat_tests}
use std.Path.{fun_ext}
use Rattle.sm_placement.specs.Sums.{put, put2}
use Rattle.sm_reservation.specs.Rows.{same, row_at, amount_at}
use Rattle.sm_reservation.specs.Key.{key_of_cell, key_of_crown, key_of_room, key_of_spare}
use Rattle.sm_reservation.specs.Rights.{Rights}
use Rattle.sm_reservation.specs.Hold.{with_cell}
use Rattle.sm_reservation.specs.HoldOf.{hold_of, plain_state_of, crown_of}
use Rattle.sm_reservation.specs.declared.right.CellRight.{CellRight}
use Rattle.sm_reservation.specs.declared.right.Crown.{Crown}
use Rattle.sm_reservation.specs.declared.right.Room.{Room}
use Rattle.sm_reservation.specs.declared.right.Spare.{Spare}

pub same_pair : (s v a b : ℕ) → same (s, v) (a, b) ≡ (eqb a s && eqb b v)
same_pair s v a b = grind (arith, nat_tests)

-- a function of pairs changed at one pair
pub at_pair : {A : Type 0} (f : ℕ → ℕ → A) (s v : ℕ) (x : A) (a b : ℕ) → put2 f s v x a b ≡ cond (eqb a s && eqb b v) x (f a b)
at_pair f s v x a b = elim (cases_Bool (eqb a s)) [
  | inl e ↦ elim (cases_Bool (eqb b v)) [
    | inl d ↦ rw (e, d) refl
    | inr d ↦ let it : a ≡ s = eqb-true a s e in rw (e, d, it) refl
  ]
  | inr e ↦ rw e refl
]

state_put : (y : Option CellRight) (b : Bool) (o : Option CellRight) → plain_state_of (cond b o y) ≡ cond b (plain_state_of o) (plain_state_of y)
state_put y true o = refl
state_put y false o = refl

-- a list of cell rights that differs at one key alone is the hold with that cell changed
pub cells_put : (r : Rights) (xs : List CellRight) (s v : ℕ) (o : Option CellRight) → ((q : ℕ × ℕ) → row_at key_of_cell xs q ≡ cond (same (s, v) q) o (row_at key_of_cell r.cells q)) →
    hold_of (record r { cells = xs }) ≡ with_cell (hold_of r) s v (plain_state_of o)
unfolding hold_of
cells_put r xs s v o is =
    let at : (a b : ℕ) → plain_state_of (row_at key_of_cell xs (a, b)) ≡ put2 ((hold_of r).cells) s v (plain_state_of o) a b = λ a b.
    ap plain_state_of (is (a, b)) ∙ state_put (row_at key_of_cell r.cells (a, b)) (same (s, v) (a, b)) o ∙ rw (same_pair s v a b) (sym (at_pair ((hold_of r).cells) s v (plain_state_of o) a b)) in
    let f : (λ a b. plain_state_of (row_at key_of_cell xs (a, b))) ≡ put2 ((hold_of r).cells) s v (plain_state_of o) = fun_ext (λ a. fun_ext (λ b. at a b)) in
    ap (λ g. record (hold_of r) { cells = g }) f

pub same_front : (s a : ℕ) → same (s, 0) (a, 0) ≡ eqb a s
same_front s a = grind (arith, nat_tests)

crown_put : (y : Option Crown) (b : Bool) (o : Option Crown) → crown_of (cond b o y) ≡ cond b (crown_of o) (crown_of y)
crown_put y true o = refl
crown_put y false o = refl

-- a list of crowns that differs at one shard alone is the hold with that shard's crown changed
pub crowns_put : (r : Rights) (xs : List Crown) (s : ℕ) (o : Option Crown) → ((q : ℕ × ℕ) → row_at key_of_crown xs q ≡ cond (same (s, 0) q) o (row_at key_of_crown r.crowns q)) →
    hold_of (record r { crowns = xs }) ≡ record (hold_of r) { crowns = put ((hold_of r).crowns) s (crown_of o) }
unfolding hold_of
crowns_put r xs s o is =
    let at : (a : ℕ) → crown_of (row_at key_of_crown xs (a, 0)) ≡ put ((hold_of r).crowns) s (crown_of o) a = λ a.
    ap crown_of (is (a, 0)) ∙ crown_put (row_at key_of_crown r.crowns (a, 0)) (same (s, 0) (a, 0)) o ∙ rw (same_front s a) refl in
    let f : (λ a. crown_of (row_at key_of_crown xs (a, 0))) ≡ put ((hold_of r).crowns) s (crown_of o) = fun_ext (λ a. at a) in
    ap (λ g. record (hold_of r) { crowns = g }) f

-- a list of room that differs at one server alone is the hold with that server's room changed
pub room_put : (r : Rights) (xs : List Room) (v n : ℕ) → ((q : ℕ × ℕ) → amount_at key_of_room (λ x. x.amount) xs q ≡ cond (same (v, 0) q) n (amount_at key_of_room (λ x. x.amount) r.room q)) →
    hold_of (record r { room = xs }) ≡ record (hold_of r) { room = put ((hold_of r).room) v n }
unfolding hold_of
room_put r xs v n is = let f : (λ q. amount_at key_of_room (λ x. x.amount) xs (q, 0)) ≡ put ((hold_of r).room) v n = fun_ext (λ q. rw (← same_front v q) (is (q, 0))) in ap (λ g. record (hold_of r) { room = g }) f

-- a list of spare replicas that differs at one shard alone is the hold with that shard's changed
pub spare_put : (r : Rights) (xs : List Spare) (s n : ℕ) → ((q : ℕ × ℕ) → amount_at key_of_spare (λ x. x.amount) xs q ≡ cond (same (s, 0) q) n (amount_at key_of_spare (λ x. x.amount) r.spare q)) →
    hold_of (record r { spare = xs }) ≡ record (hold_of r) { spare = put ((hold_of r).spare) s n }
unfolding hold_of
spare_put r xs s n is = let f : (λ q. amount_at key_of_spare (λ x. x.amount) xs (q, 0)) ≡ put ((hold_of r).spare) s n = fun_ext (λ q. rw (← same_front s q) (is (q, 0))) in ap (λ g. record (hold_of r) { spare = g }) f
