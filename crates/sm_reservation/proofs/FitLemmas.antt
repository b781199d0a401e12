-- When a parcel can be put beside what a hold has: the tests of its rows.
use Rattle.std.proofs.Common.{◌≡◌, ℕ, ◌+◌, ◌<◌, ◌^◌, nat_lt, ◌&&◌, Bool, true, Option, Some, None, is_none, List, [], ◌∷◌, refl, sym, ◌∙◌, ap, arith, inl, inr, ◌⊎◌, ◌≤◌, lit<}
use Rattle.std.specs.List.{All, list_all, AllByRecursion}
use Rattle.std.proofs.lemmas.Bool.{cases_Bool, ltb-true, and_parts}
use Rattle.std.proofs.lemmas.Bool.Decides.{nat_tests}
use Rattle.sm_placement.specs.declared.lead.Lead.{Lead}
use Rattle.sm_reservation.specs.declared.right.PlainCell.{PlainCell}
use Rattle.sm_reservation.specs.declared.right.CellRight.{CellRight}
use Rattle.sm_reservation.specs.declared.right.Crown.{Crown}
use Rattle.sm_reservation.specs.declared.right.Room.{Room}
use Rattle.sm_reservation.specs.declared.right.Spare.{Spare}
use Rattle.sm_reservation.specs.Rights.{Rights}
use Rattle.sm_reservation.specs.Rows.{same, row_at, amount_of}
use Rattle.sm_reservation.specs.Key.{IsOrdered, AreU64, key_of_cell, key_of_crown, key_of_room, key_of_spare}
use Rattle.sm_reservation.specs.Hold.{Hold}
use Rattle.sm_reservation.specs.HoldOf.{hold_of, plain_state_of, crown_of}
use Rattle.sm_reservation.specs.CanJoin.{AreApart, CanJoin}
use Rattle.sm_reservation.specs.Turns.{lacks_cell, lacks_crown, RoomFits, SpareFits}
use Rattle.sm_reservation.specs.Pool.{IsKnownHold}
use Rattle.sm_placement.proofs.Searches.{cases_Option}
use Rattle.sm_reservation.proofs.Places.{same_is}
use Rattle.sm_reservation.proofs.AmountLemmas.{each_of}
use Rattle.sm_reservation.proofs.ParcelRows.{IsFound, all_found, all_map, rooms_fit, spares_fit}

-- ---- a test that all rows pass

each_passes : {T : Type 0} (test : T → Bool) (xs : List T) → list_all test xs ≡ true → AllByRecursion (λ x. test x ≡ true) xs
each_passes test [] e = tt
each_passes test (x ∷ xs) e = let b = and_parts (test x) (list_all test xs) e in (b.0, each_passes test xs b.1)

all_pass : {T : Type 0} (test : T → Bool) (xs : List T) → AllByRecursion (λ x. test x ≡ true) xs → list_all test xs ≡ true
all_pass test [] h = refl
all_pass test (x ∷ xs) h = rw (h.0, all_pass test xs h.1) refl

-- what holds of all rows holds of the row at a key
pub all_at : {T : Type 0} (key_of : T → ℕ × ℕ) (P : T → Type 0) (q : ℕ × ℕ) (y : T) (xs : List T) → AllByRecursion P xs → row_at key_of xs q ≡ Some y → P y × (key_of y ≡ q)
all_at key_of P q y [] all e = cc
all_at key_of P q y (x ∷ xs) all e = elim (cases_Bool (same (key_of x) q)) [
  | inl s ↦
      let f = rw s at e in
      let it : x ≡ y = cc in
      rw (← it) (all.0, same_is (key_of x) q s)
  | inr s ↦ all_at key_of P q y xs all.1 (rw s at e)
]

-- ---- where a parcel can be put, its rows pass

none_test : {A : Type 0} (o : Option A) → o ≡ None → is_none o ≡ true
none_test o e = rw e refl

-- the hold has no right to any cell of the parcel
pub cells_pass : (h : Hold) (p : Rights) → IsOrdered p → CanJoin h (hold_of p) → list_all (lacks_cell h) p.cells ≡ true
unfolding hold_of
cells_pass h p o can = all_pass (lacks_cell h) p.cells (all_map (IsFound key_of_cell p.cells) (λ x. lacks_cell h x ≡ true) p.cells (λ x e. none_test (h.cells x.shard x.server) (can.cells x.shard x.server x.state (ap plain_state_of e))) (all_found key_of_cell p.cells o.cells))

-- nor a crown of any of its shards
pub crowns_pass : (h : Hold) (p : Rights) → IsOrdered p → CanJoin h (hold_of p) → list_all (lacks_crown h) p.crowns ≡ true
unfolding hold_of
crowns_pass h p o can = all_pass (lacks_crown h) p.crowns (all_map (IsFound key_of_crown p.crowns) (λ x. lacks_crown h x ≡ true) p.crowns (λ x e. none_test (h.crowns x.shard) (can.crowns x.shard (x.lead, x.listed) (ap crown_of e))) (all_found key_of_crown p.crowns o.crowns))

below_test : (n m : ℕ) → n < m → nat_lt n m ≡ true
below_test n m l = grind (arith, nat_tests)

-- each amount of room of the parcel, added to the hold's, stays a u64
pub rooms_pass : (h : Hold) (p : Rights) → IsOrdered p → CanJoin h (hold_of p) → list_all (λ x. nat_lt (h.room x.server + x.amount) (2 ^ 64)) p.room ≡ true
rooms_pass h p o can = all_pass (λ x. nat_lt (h.room x.server + x.amount) (2 ^ 64)) p.room (all_map (RoomFits h) (λ x. nat_lt (h.room x.server + x.amount) (2 ^ 64) ≡ true) p.room (λ x l. below_test (h.room x.server + x.amount) (2 ^ 64) l) (rooms_fit h p o can))

-- and so does each amount of spare replicas
pub spares_pass : (h : Hold) (p : Rights) → IsOrdered p → CanJoin h (hold_of p) → list_all (λ x. nat_lt (h.spare x.shard + x.amount) (2 ^ 64)) p.spare ≡ true
spares_pass h p o can = all_pass (λ x. nat_lt (h.spare x.shard + x.amount) (2 ^ 64)) p.spare (all_map (SpareFits h) (λ x. nat_lt (h.spare x.shard + x.amount) (2 ^ 64) ≡ true) p.spare (λ x l. below_test (h.spare x.shard + x.amount) (2 ^ 64) l) (spares_fit h p o can))

-- ---- where all rows pass, a parcel can be put

-- what is found to be none is none
pub none_of : {A : Type 0} (o : Option A) → is_none o ≡ true → o ≡ None
none_of None e = refl
none_of (Some x) e = cc

-- an amount at a key, where all amounts are within a bound
amount_below : {T : Type 0} (key_of : T → ℕ × ℕ) (amount : T → ℕ) (xs : List T) (q : ℕ × ℕ) (o : Option T) → row_at key_of xs q ≡ o → AllByRecursion (λ x. amount x < 2 ^ 64) xs → amount_of amount o < 2 ^ 64
amount_below key_of amount xs q None e all = lit< tt
amount_below key_of amount xs q (Some y) e all = (all_at key_of (λ x. amount x < 2 ^ 64) q y xs all e).0

sum_below_bound : {T : Type 0} (key_of : T → ℕ × ℕ) (amount : T → ℕ) (had : ℕ × ℕ → ℕ) (xs : List T) (q : ℕ × ℕ) (o : Option T) → row_at key_of xs q ≡ o → had q < 2 ^ 64 → AllByRecursion (λ x. had (key_of x) + amount x < 2 ^ 64) xs → had q + amount_of amount o < 2 ^ 64
sum_below_bound key_of amount had xs q None e l all = omega arith
sum_below_bound key_of amount had xs q (Some y) e l all =
    let t = all_at key_of (λ x. had (key_of x) + amount x < 2 ^ 64) q y xs all e in
    let k = ap had t.1 in
    rw (← k) t.0

cell_at : (had : ℕ → ℕ → Option PlainCell) (xs : List CellRight) → AllByRecursion (λ x. is_none (had x.shard x.server) ≡ true) xs → (o : Option CellRight) (s v : ℕ) (state : PlainCell) → row_at key_of_cell xs (s, v) ≡ o → plain_state_of o ≡ Some state → had s v ≡ None
cell_at had xs all None s v state e is = cc
cell_at had xs all (Some y) s v state e is =
    let t = all_at key_of_cell (λ x. is_none (had x.shard x.server) ≡ true) (s, v) y xs all e in
    sym (ap (λ (q : ℕ × ℕ). had q.0 q.1) t.1) ∙ none_of (had y.shard y.server) t.0

crown_at : (had : ℕ → Option (Lead × Option ℕ)) (xs : List Crown) → AllByRecursion (λ x. is_none (had x.shard) ≡ true) xs → (o : Option Crown) (s : ℕ) (c : Lead × Option ℕ) → row_at key_of_crown xs (s, 0) ≡ o → crown_of o ≡ Some c → had s ≡ None
crown_at had xs all None s c e is = cc
crown_at had xs all (Some y) s c e is =
    let t = all_at key_of_crown (λ x. is_none (had x.shard) ≡ true) (s, 0) y xs all e in
    sym (ap (λ (q : ℕ × ℕ). had q.0) t.1) ∙ none_of (had y.shard) t.0

-- a hold that lacks each cell right and each crown of a parcel is apart from it
pub passes_apart : (h : Hold) (p : Rights) → list_all (lacks_cell h) p.cells ≡ true → list_all (lacks_crown h) p.crowns ≡ true → AreApart h (hold_of p)
unfolding hold_of
passes_apart h p cells crowns = record {
  cells = λ s v state e. cell_at (λ s v. h.cells s v) p.cells (each_passes (lacks_cell h) p.cells cells) (row_at key_of_cell p.cells (s, v)) s v state refl e;
  crowns = λ s c e. crown_at (λ s. h.crowns s) p.crowns (each_passes (lacks_crown h) p.crowns crowns) (row_at key_of_crown p.crowns (s, 0)) s c refl e;
}

-- amounts in lists of u64s are u64s
pub amounts_within : (k : Rights) → AreU64 k → ((v : ℕ) → (hold_of k).room v < 2 ^ 64) × ((s : ℕ) → (hold_of k).spare s < 2 ^ 64)
unfolding hold_of
amounts_within k u = (
  λ v. amount_below key_of_room (λ (x : Room). x.amount) k.room (v, 0) (row_at key_of_room k.room (v, 0)) refl u.room,
  λ s. amount_below key_of_spare (λ (x : Spare). x.amount) k.spare (s, 0) (row_at key_of_spare k.spare (s, 0)) refl u.spare,
)

-- a hold of u64s whose tests all rows of a parcel pass can be joined with it
pub passes_join : (h : Hold) (p : Rights) → ((v : ℕ) → h.room v < 2 ^ 64) → ((s : ℕ) → h.spare s < 2 ^ 64) → list_all (lacks_cell h) p.cells ≡ true → list_all (lacks_crown h) p.crowns ≡ true → list_all (λ x. nat_lt (h.room x.server + x.amount) (2 ^ 64)) p.room ≡ true → list_all (λ x. nat_lt (h.spare x.shard + x.amount) (2 ^ 64)) p.spare ≡ true → CanJoin h (hold_of p)
unfolding hold_of
passes_join h p room spare cells crowns rooms spares =
    let apart = passes_apart h p cells crowns in
    record {
      cells = apart.cells;
      crowns = apart.crowns;
      room = λ v. sum_below_bound key_of_room (λ (x : Room). x.amount) (λ q. h.room q.0) p.room (v, 0) (row_at key_of_room p.room (v, 0)) refl (room v) (all_map (λ x. nat_lt (h.room x.server + x.amount) (2 ^ 64) ≡ true) (λ x. h.room x.server + x.amount < 2 ^ 64) p.room (λ x e. ltb-true (h.room x.server + x.amount) (2 ^ 64) e) (each_passes (λ x. nat_lt (h.room x.server + x.amount) (2 ^ 64)) p.room rooms));
      spare = λ s. sum_below_bound key_of_spare (λ (x : Spare). x.amount) (λ q. h.spare q.0) p.spare (s, 0) (row_at key_of_spare p.spare (s, 0)) refl (spare s) (all_map (λ x. nat_lt (h.spare x.shard + x.amount) (2 ^ 64) ≡ true) (λ x. h.spare x.shard + x.amount < 2 ^ 64) p.spare (λ x e. ltb-true (h.spare x.shard + x.amount) (2 ^ 64) e) (each_passes (λ x. nat_lt (h.spare x.shard + x.amount) (2 ^ 64)) p.spare spares));
    }

-- ---- rights of known shards and servers

-- lists whose rows are all of known shards and servers
pub record AreKnown (shards servers : ℕ) (r : Rights) : Type 0 where
  pub cells : AllByRecursion (λ x. (x.shard < shards) × (x.server < servers)) r.cells
  pub crowns : AllByRecursion (λ x. x.shard < shards) r.crowns
  pub room : AllByRecursion (λ x. x.server < servers) r.room
  pub spare : AllByRecursion (λ x. x.shard < shards) r.spare

-- where the numbers of all rows are below a count, no row stands past it
none_past : {T : Type 0} (key_of : T → ℕ × ℕ) (count : ℕ) (xs : List T) (s : ℕ) → count ≤ s → AllByRecursion (λ x. (key_of x).0 < count) xs → row_at key_of xs (s, 0) ≡ None
none_past key_of count xs s past all = elim (cases_Option (row_at key_of xs (s, 0))) [
  | inl none ↦ none
  | inr some ↦
      let t = all_at key_of (λ x. (key_of x).0 < count) (s, 0) some.0 xs all some.1 in
      let a : (key_of some.0).0 ≡ s = ap (λ (q : ℕ × ℕ). q.0) t.1 in
      let c : (key_of some.0).0 < count = t.0 in
      absurd (omega arith)
]

-- where all rows are of known shards and servers, so are all rights of the hold
pub known_below : (shards servers : ℕ) (r : Rights) → AreKnown shards servers r → IsKnownHold shards servers (hold_of r)
unfolding hold_of
known_below shards servers r k = record {
  no_shard = λ s v l. cell (row_at key_of_cell r.cells (s, v)) s v refl (inl l);
  no_server = λ s v l. cell (row_at key_of_cell r.cells (s, v)) s v refl (inr l);
  crowns = λ s l. ap crown_of (none_past key_of_crown shards r.crowns s l k.crowns);
  room = λ v l. ap (amount_of (λ (x : Room). x.amount)) (none_past key_of_room servers r.room v l k.room);
  spare = λ s l. ap (amount_of (λ (x : Spare). x.amount)) (none_past key_of_spare shards r.spare s l k.spare);
}
  where
    cell : (o : Option CellRight) (s v : ℕ) → row_at key_of_cell r.cells (s, v) ≡ o → (shards ≤ s) ⊎ (servers ≤ v) → plain_state_of o ≡ None
    cell None s v e l = refl
    cell (Some y) s v e l =
        let t = all_at key_of_cell (λ x. (x.shard < shards) × (x.server < servers)) (s, v) y r.cells k.cells e in
        let a : y.shard ≡ s = ap (λ (q : ℕ × ℕ). q.0) t.1 in
        let b : y.server ≡ v = ap (λ (q : ℕ × ℕ). q.1) t.1 in
        let c : y.shard < shards = t.0.0 in
        let d : y.server < servers = t.0.1 in
        absurd (elim l [ inl m ↦ omega arith | inr m ↦ omega arith ])

-- the same, where std's word says it of all rows
pub all_known : (shards servers : ℕ) (r : Rights) → All (λ x. (x.shard < shards) × (x.server < servers)) r.cells → All (λ x. x.shard < shards) r.crowns → All (λ x. x.server < servers) r.room → All (λ x. x.shard < shards) r.spare → AreKnown shards servers r
all_known shards servers r a b c d = record {
  cells = each_of (λ x. (x.shard < shards) × (x.server < servers)) r.cells a;
  crowns = each_of (λ x. x.shard < shards) r.crowns b;
  room = each_of (λ x. x.server < servers) r.room c;
  spare = each_of (λ x. x.shard < shards) r.spare d;
}

both_tests : (a b m n : ℕ) → a < m → b < n → (nat_lt a m && nat_lt b n) ≡ true
both_tests a b m n h k = grind (arith, nat_tests)

tests_both : (a b m n : ℕ) → (nat_lt a m && nat_lt b n) ≡ true → (a < m) × (b < n)
tests_both a b m n e = let p = and_parts (nat_lt a m) (nat_lt b n) e in (ltb-true a m p.0, ltb-true b n p.1)

-- the tests that all rows of known shards and servers pass
pub cells_pass_known : (shards servers : ℕ) (xs : List CellRight) → AllByRecursion (λ x. (x.shard < shards) × (x.server < servers)) xs → list_all (λ x. nat_lt x.shard shards && nat_lt x.server servers) xs ≡ true
cells_pass_known shards servers xs h = all_pass (λ x. nat_lt x.shard shards && nat_lt x.server servers) xs (all_map (λ x. (x.shard < shards) × (x.server < servers)) (λ x. (nat_lt x.shard shards && nat_lt x.server servers) ≡ true) xs (λ x l. both_tests x.shard x.server shards servers l.0 l.1) h)

-- rows that all pass them are of known shards and servers
pub cells_known_by_test : (shards servers : ℕ) (xs : List CellRight) → list_all (λ x. nat_lt x.shard shards && nat_lt x.server servers) xs ≡ true → AllByRecursion (λ x. (x.shard < shards) × (x.server < servers)) xs
cells_known_by_test shards servers xs e = all_map (λ x. (nat_lt x.shard shards && nat_lt x.server servers) ≡ true) (λ x. (x.shard < shards) × (x.server < servers)) xs (λ x t. tests_both x.shard x.server shards servers t) (each_passes (λ x. nat_lt x.shard shards && nat_lt x.server servers) xs e)

-- a number of each row below a count, and the test of it
pub pass_below : {T : Type 0} (number : T → ℕ) (count : ℕ) (xs : List T) → AllByRecursion (λ x. number x < count) xs → list_all (λ x. nat_lt (number x) count) xs ≡ true
pass_below number count xs h = all_pass (λ x. nat_lt (number x) count) xs (all_map (λ x. number x < count) (λ x. nat_lt (number x) count ≡ true) xs (λ x l. below_test (number x) count l) h)

-- where all rows pass it, each has a number below the count
pub below_by_test : {T : Type 0} (number : T → ℕ) (count : ℕ) (xs : List T) → list_all (λ x. nat_lt (number x) count) xs ≡ true → AllByRecursion (λ x. number x < count) xs
below_by_test number count xs e = all_map (λ x. nat_lt (number x) count ≡ true) (λ x. number x < count) xs (λ x t. ltb-true (number x) count t) (each_passes (λ x. nat_lt (number x) count) xs e)
