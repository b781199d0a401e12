-- The findings of the tests of cell rights and crowns: whether they are in another hold, and whether no earlier stream declares them.
use Rattle.std.proofs.Common.{◌≡◌, ℕ, zero, suc, ◌<◌, ◌≤◌, Bool, true, false, Option, Some, None, List, [], ◌∷◌, get_or, take, length, refl, sym, inl, inr, arith}
use Rattle.std.specs.Prelude.{is_some, not}
use Rattle.std.specs.List.{list_any}
use Rattle.std.proofs.Math.Nat.{min-le_left}
use Rattle.std.proofs.lemmas.List.{get_or_past, get_or-take, length-take}
use Rattle.std.proofs.lemmas.Bool.{cases_Bool, cases_lt, both_ways, and_parts, and_cases, or_parts, not-true, not-false}
use Rattle.sm_placement.specs.declared.lead.Lead.{Lead}
use Rattle.sm_reservation.specs.declared.right.CellRight.{CellRight}
use Rattle.sm_reservation.specs.declared.right.Crown.{Crown}
use Rattle.sm_reservation.specs.declared.right.PlainCell.{PlainCell}
use Rattle.sm_reservation.specs.declared.right.Key.{Key}
use Rattle.sm_reservation.specs.declared.right.Key.TheVariants as key
use Rattle.sm_reservation.specs.Rights.{Rights}
use Rattle.sm_reservation.specs.Rows.{row_at}
use Rattle.sm_reservation.specs.Key.{key_of_cell, key_of_crown}
use Rattle.sm_reservation.specs.Hold.{Hold}
use Rattle.sm_reservation.specs.HoldOf.{hold_of}
use Rattle.sm_reservation.specs.Amounts.{is_cell, is_crown}
use Rattle.sm_reservation.proofs.Truths.{is_cell_true, is_cell_self, same_lead_self, same_server_self}
use Rattle.sm_reservation.proofs.ParcelSums.{crown_is}
use Rattle.sm_plan_code.specs.Plan.{StreamModel}
use Rattle.sm_verifier.specs.Stream.{no_stream}
use Rattle.sm_verifier.specs.Finding.{holds_cell, holds_crown, is_free_cell, is_free_crown, IsFree}
use Rattle.sm_verifier.specs.Admission.{IsIn, Has, declared, IsFreeAt, IsLowestKey}
use Rattle.sm_verifier.proofs.FirstRows.{Judges}

-- a crown that passes the test of a lead and a listed server has these
pub crown_true : (lead : Lead) (listed : Option ℕ) (o : Option (Lead × Option ℕ)) → is_crown lead listed o ≡ true → o ≡ Some (lead, listed)
crown_true lead listed o e = crown_is o lead listed e

-- and it passes the test of its own lead and listed server
pub crown_self : (lead : Lead) (listed : Option ℕ) → is_crown lead listed (Some (lead, listed)) ≡ true
crown_self lead listed = rw (same_lead_self lead, same_server_self listed) refl

cell_differs : (state : PlainCell) (o : Option PlainCell) → is_cell state o ≡ false → Some state ≡ o → ⊥
cell_differs state o failed same = both_ways (is_cell state o) failed (rw (← same) (is_cell_self state))

crown_differs : (lead : Lead) (listed : Option ℕ) (o : Option (Lead × Option ℕ)) → is_crown lead listed o ≡ false → Some (lead, listed) ≡ o → ⊥
crown_differs lead listed o failed same = both_ways (is_crown lead listed o) failed (rw (← same) (crown_self lead listed))

-- the tests say whether the rights are in another hold
pub judges_in : (r : Rights) (t : Hold) → Judges r (holds_cell t) (holds_crown t) (IsIn (hold_of r) t)
unfolding hold_of
judges_in r t = record {
  no_cell = λ s v e has. let wrong = rw e at has in cc;
  cell_yes = λ x e passed has. rw e (sym (is_cell_true x.state (t.cells x.shard x.server) passed));
  cell_no = λ x e failed kept. cell_differs x.state (t.cells x.shard x.server) failed (let k = rw e at kept in k refl);
  no_crown = λ s e has. let wrong = rw e at has in cc;
  crown_yes = λ x e passed has. rw e (sym (crown_true x.lead x.listed (t.crowns x.shard) passed));
  crown_no = λ x e failed kept. crown_differs x.lead x.listed (t.crowns x.shard) failed (let k = rw e at kept in k refl);
  room = λ v has. absurd has;
  spare = λ s has. absurd has;
}

-- behind the last stream nothing is declared
pub nothing_past : (xs : List StreamModel) (i : ℕ) → length xs ≤ i → (k : Key) → ¬ Has (declared xs i) k
unfolding hold_of
nothing_past xs i past (key.CellRight s v) has = let wrong = rw (get_or_past xs i no_stream past) at has in cc
nothing_past xs i past (key.Crown s) has = let wrong = rw (get_or_past xs i no_stream past) at has in cc
nothing_past xs i past (key.Room v) has = has
nothing_past xs i past (key.Spare s) has = has

-- a test of streams that none passes, and that one passes
none_passes : (test : StreamModel → Bool) → test no_stream ≡ false → (xs : List StreamModel) → list_any test xs ≡ false → (j : ℕ) → test (get_or xs j no_stream) ≡ false
none_passes test out [] e j = out
none_passes test out (x ∷ xs) e zero = (or_parts (test x) (list_any test xs) e).0
none_passes test out (x ∷ xs) e (suc j) = none_passes test out xs (or_parts (test x) (list_any test xs) e).1 j

one_passes : (test : StreamModel → Bool) (xs : List StreamModel) → list_any test xs ≡ true → (j : ℕ) × (test (get_or xs j no_stream) ≡ true)
one_passes test [] e = cc
one_passes test (x ∷ xs) e = elim (cases_Bool (test x)) [
  | inl here ↦ (0, here)
  | inr other ↦ let rest = one_passes test xs (rw other at e) in (suc rest.0, rest.1)
]

abbrev declares_cell : ℕ → ℕ → StreamModel → Bool
declares_cell s v stream = is_some ((hold_of stream.holds).cells s v)

abbrev declares_crown : ℕ → StreamModel → Bool
declares_crown s stream = is_some ((hold_of stream.holds).crowns s)

no_stream_has : (k : Key) → ¬ Has (hold_of no_stream.holds) k
no_stream_has k = nothing_past [] 0 (omega arith) k

not_some : (b : Bool) → ¬ (b ≡ true) → b ≡ false
not_some true e = absurd (e refl)
not_some false e = refl

cell_there : (r : Rights) (x : CellRight) → row_at key_of_cell r.cells (x.shard, x.server) ≡ Some x → Has (hold_of r) (key.CellRight x.shard x.server)
unfolding hold_of
cell_there r x e = rw e refl

crown_there : (r : Rights) (x : Crown) → row_at key_of_crown r.crowns (x.shard, 0) ≡ Some x → Has (hold_of r) (key.Crown x.shard)
unfolding hold_of
crown_there r x e = rw e refl

no_cell_there : (r : Rights) (s v : ℕ) → row_at key_of_cell r.cells (s, v) ≡ None → ¬ Has (hold_of r) (key.CellRight s v)
unfolding hold_of
no_cell_there r s v e has = let wrong = rw e at has in cc

no_crown_there : (r : Rights) (s : ℕ) → row_at key_of_crown r.crowns (s, 0) ≡ None → ¬ Has (hold_of r) (key.Crown s)
unfolding hold_of
no_crown_there r s e has = let wrong = rw e at has in cc

-- the tests say whether the rights are free
pub judges_free : (r : Rights) (pool : Hold) (streams : List StreamModel) → Judges r (is_free_cell pool streams) (is_free_crown pool streams) (IsFree pool streams r)
judges_free r pool streams =
    let alone = judges_in r pool in
    record {
      no_cell = λ s v e has. absurd (no_cell_there r s v e has);
      cell_yes = λ x e passed has.
          let test = declares_cell x.shard x.server in
          let both = and_parts (holds_cell pool x) (not (list_any test streams)) passed in
          let out = not_some (test no_stream) (no_stream_has (key.CellRight x.shard x.server)) in
          (alone.cell_yes x e both.0 has, λ j d. both_ways (test (get_or streams j no_stream)) (none_passes test out streams (not-true _ both.1) j) d);
      cell_no = λ x e failed kept.
          let test = declares_cell x.shard x.server in
          let free = kept (cell_there r x e) in
          elim (and_cases (holds_cell pool x) (not (list_any test streams)) failed) [
            | inl other ↦ alone.cell_no x e other (λ has. free.0)
            | inr taken ↦ let one = one_passes test streams (not-false _ taken) in free.1 one.0 one.1
          ];
      no_crown = λ s e has. absurd (no_crown_there r s e has);
      crown_yes = λ x e passed has.
          let test = declares_crown x.shard in
          let both = and_parts (holds_crown pool x) (not (list_any test streams)) passed in
          let out = not_some (test no_stream) (no_stream_has (key.Crown x.shard)) in
          (alone.crown_yes x e both.0 has, λ j d. both_ways (test (get_or streams j no_stream)) (none_passes test out streams (not-true _ both.1) j) d);
      crown_no = λ x e failed kept.
          let test = declares_crown x.shard in
          let free = kept (crown_there r x e) in
          elim (and_cases (holds_crown pool x) (not (list_any test streams)) failed) [
            | inl other ↦ alone.crown_no x e other (λ has. free.0)
            | inr taken ↦ let one = one_passes test streams (not-false _ taken) in free.1 one.0 one.1
          ];
      room = λ v has. absurd has;
      spare = λ s has. absurd has;
    }

-- ---- the streams before one are the first ones of the list

before_same : (xs : List StreamModel) (i j : ℕ) (k : Key) → j < i → Has (declared xs j) k → Has (declared (take i xs) j) k
before_same xs i j k less has = rw (get_or-take i xs j no_stream less) has

same_before : (xs : List StreamModel) (i j : ℕ) (k : Key) → Has (declared (take i xs) j) k → (j < i) × Has (declared xs j) k
same_before xs i j k has = elim (cases_lt j i) [
  | inl less ↦ (less, rw (get_or-take i xs j no_stream less) at has)
  | inr past ↦ absurd (nothing_past (take i xs) j (let short = length-take i xs in let most = min-le_left i (length xs) in omega arith) k has)
]

-- what is free behind the first streams is free at its number
pub free_at : (pool : Hold) (xs : List StreamModel) (i : ℕ) (r : Rights) (k : Key) → r ≡ (get_or xs i no_stream).holds → IsFree pool (take i xs) r k → IsFreeAt pool xs i k
free_at pool xs i r k is free has =
    let f = rw is at free in
    let both = f has in
    (both.0, λ j less d. both.1 j (before_same xs i j k less d))

pub at_free : (pool : Hold) (xs : List StreamModel) (i : ℕ) (r : Rights) (k : Key) → r ≡ (get_or xs i no_stream).holds → IsFreeAt pool xs i k → IsFree pool (take i xs) r k
at_free pool xs i r k is free = rw is (λ has.
    let both = free has in
    (both.0, λ j d. let s = same_before xs i j k d in both.1 j s.0 s.1))

-- so the lowest key that is not free behind the first streams is the lowest at its number
pub lowest_free : (pool : Hold) (xs : List StreamModel) (i : ℕ) (r : Rights) (k : Key) → r ≡ (get_or xs i no_stream).holds → IsLowestKey (IsFree pool (take i xs) r) k → IsLowestKey (IsFreeAt pool xs i) k
lowest_free pool xs i r k is lowest = record {
  broken = λ kept. lowest.broken (at_free pool xs i r k is kept);
  below = λ lower b. free_at pool xs i r lower is (lowest.below lower b);
}

-- a stream that is read is the one at its number
pub stream_read : (xs : List StreamModel) (i : ℕ) (x y : StreamModel) → i < length xs → x ≡ get_or xs i x → y ≡ x → y.holds ≡ (get_or xs i no_stream).holds
stream_read [] i x y less is same = absurd (omega arith)
stream_read (z ∷ xs) zero x y less is same = rw (same, is) refl
stream_read (z ∷ xs) (suc i) x y less is same = stream_read xs i x y (omega arith) is same
