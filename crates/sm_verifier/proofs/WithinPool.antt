-- A plan is admitted exactly where what it declares of each right is within a pool that is true of the placement.
use Rattle.std.proofs.Common.{◌≡◌, ◌≢◌, ℕ, ◌<◌, ◌≤◌, Option, Some, None, List, [], ◌∷◌, length, refl, sym, ap, ◌∙◌, inl, inr, arith}
use Rattle.std.specs.Prelude.{IsSome}
use Rattle.std.specs.List.{AllByRecursion}
use Rattle.std.proofs.lemmas.Bool.{cases_Bool, cases_lt, cases_order, lt-ltb}
use Rattle.std.proofs.lemmas.List.Elements.{recursion_from_All}
use Rattle.sm_placement.specs.declared.lead.Lead.{Lead}
use Rattle.sm_placement.specs.Sums.{bit}
use Rattle.sm_placement.specs.Setup.{Sizes}
use Rattle.sm_placement.specs.Place.{Place}
use Rattle.sm_placement.proofs.Sums.{part_of_sum, bit-le-one}
use Rattle.sm_placement.proofs.LeadOf.{lead_of_is}
use Rattle.sm_reservation.specs.declared.right.PlainCell.{PlainCell}
use Rattle.sm_reservation.specs.declared.right.Key.{Key}
use Rattle.sm_reservation.specs.declared.right.Key.TheVariants as key
use Rattle.sm_reservation.specs.Rights.{Rights}
use Rattle.sm_reservation.specs.Rows.{same, row_at}
use Rattle.sm_reservation.specs.Key.{key_of_cell, key_of_crown}
use Rattle.sm_reservation.specs.Hold.{Hold}
use Rattle.sm_reservation.specs.HoldOf.{hold_of, plain_state_of, crown_of}
use Rattle.sm_reservation.specs.Amounts.{Right, OfCell, OfCrown, OfRoom, OfSpare, is_cell, is_crown, count}
use Rattle.sm_reservation.proofs.Places.{same_is}
use Rattle.sm_reservation.proofs.Truths.{is_cell_true, is_cell_self, true_cell, true_crown, bit_true}
use Rattle.sm_plan_code.specs.Plan.{StreamModel, PlanModel, IsKnownCellRight, IsKnownCrown, IsKnownParcel, IsKnownPlan}
use Rattle.sm_plan_code.specs.Effects.{IsScene}
use Rattle.sm_verifier.specs.Stream.{no_stream}
use Rattle.sm_verifier.specs.Admission.{Has, declared, IsTrueAt, IsFreeAt, AreUp, IsAdmitted}
use Rattle.sm_verifier.specs.Within.{declared_sum, AreWithin, AreDeclaredOnce}
use Rattle.sm_verifier.proofs.SumLemmas.{sum_by-below, sum_once, two_of_sum}
use Rattle.sm_verifier.proofs.Judging.{crown_true, crown_self, nothing_past}
use Rattle.sm_reservation.proofs.RowLemmas.{some_of}
use Rattle.sm_reservation.proofs.AmountLemmas.{present_at as some_is}

-- a cell right and a crown that a hold has are counted once
cell_counts : (h : Hold) (s v : ℕ) (state : PlainCell) → h.cells s v ≡ Some state → count h (OfCell s v state) ≡ 1
cell_counts h s v state e = rw (e, is_cell_self state) refl

crown_counts : (h : Hold) (s : ℕ) (lead : Lead) (listed : Option ℕ) → h.crowns s ≡ Some (lead, listed) → count h (OfCrown s lead listed) ≡ 1
crown_counts h s lead listed e = rw (e, crown_self lead listed) refl

-- ---- an admitted plan is within the pool

module _ (c : Sizes) (p : Place) (pool : Hold) (plan : PlanModel) (admitted : IsAdmitted c p pool plan) where
  declared_once : AreDeclaredOnce plan.streams
  declared_once i j k at there = elim (cases_order i j) [
    | inl same ↦ same
    | inr apart ↦ elim apart [
      | inl less ↦ absurd ((admitted.free_ones j k there).1 i less at)
      | inr more ↦ absurd ((admitted.free_ones i k at).1 j more there)
    ]
  ]

  abbrev held : ℕ → Hold
  held i = declared plan.streams i

  cell_within : (s v : ℕ) (state : PlainCell) → declared_sum plan.streams (OfCell s v state) ≤ count pool (OfCell s v state)
  cell_within s v state = sum_once (length plan.streams) (count pool (OfCell s v state)) (λ i. count (held i) (OfCell s v state)) (λ i l. each i) (λ i j l m at there. declared_once i j (key.CellRight s v) (has i at) (has j there))
    where
      has : (i : ℕ) → 0 < count (held i) (OfCell s v state) → Has (held i) (key.CellRight s v)
      has i some = some_is ((held i).cells s v) state (is_cell_true state ((held i).cells s v) (bit_true (is_cell state ((held i).cells s v)) (omega (arith, some))))

      each : (i : ℕ) → count (held i) (OfCell s v state) ≤ count pool (OfCell s v state)
      each i = elim (cases_Bool (is_cell state ((held i).cells s v))) [
        | inl passes ↦
            let is = is_cell_true state ((held i).cells s v) passes in
            let agree : (held i).cells s v ≡ pool.cells s v = (admitted.free_ones i (key.CellRight s v) (some_is ((held i).cells s v) state is)).0 in
            let same : count (held i) (OfCell s v state) ≡ count pool (OfCell s v state) = ap (λ (o : Option PlainCell). bit (is_cell state o)) agree in
            omega arith
        | inr fails ↦ let none : count (held i) (OfCell s v state) ≡ 0 = rw fails refl in omega arith
      ]

  crown_within : (s : ℕ) (lead : Lead) (listed : Option ℕ) → declared_sum plan.streams (OfCrown s lead listed) ≤ count pool (OfCrown s lead listed)
  crown_within s lead listed = sum_once (length plan.streams) (count pool (OfCrown s lead listed)) (λ i. count (held i) (OfCrown s lead listed)) (λ i l. each i) (λ i j l m at there. declared_once i j (key.Crown s) (has i at) (has j there))
    where
      has : (i : ℕ) → 0 < count (held i) (OfCrown s lead listed) → Has (held i) (key.Crown s)
      has i some = some_is ((held i).crowns s) (lead, listed) (crown_true lead listed ((held i).crowns s) (bit_true (is_crown lead listed ((held i).crowns s)) (omega (arith, some))))

      each : (i : ℕ) → count (held i) (OfCrown s lead listed) ≤ count pool (OfCrown s lead listed)
      each i = elim (cases_Bool (is_crown lead listed ((held i).crowns s))) [
        | inl passes ↦
            let is = crown_true lead listed ((held i).crowns s) passes in
            let agree : (held i).crowns s ≡ pool.crowns s = (admitted.free_ones i (key.Crown s) (some_is ((held i).crowns s) (lead, listed) is)).0 in
            let same : count (held i) (OfCrown s lead listed) ≡ count pool (OfCrown s lead listed) = ap (λ (o : Option (Lead × Option ℕ)). bit (is_crown lead listed o)) agree in
            omega arith
        | inr fails ↦ let none : count (held i) (OfCrown s lead listed) ≡ 0 = rw fails refl in omega arith
      ]

  within : AreWithin pool plan.streams
  within (OfCell s v state) = cell_within s v state
  within (OfCrown s lead listed) = crown_within s lead listed
  within (OfRoom v) =
      let sums = sum_by-below (λ (stream : StreamModel). (hold_of stream.holds).room v) plan.streams no_stream in
      let enough = admitted.room v in
      omega arith
  within (OfSpare s) =
      let sums = sum_by-below (λ (stream : StreamModel). (hold_of stream.holds).spare s) plan.streams no_stream in
      let enough = admitted.spare s in
      omega arith

  -- an admitted plan declares no more than the pool has, and each cell right and crown in one stream
  pub admitted_within : AreWithin pool plan.streams × AreDeclaredOnce plan.streams
  admitted_within = (within, declared_once)

-- ---- what a plan of the configuration declares is of known shards and servers

found_all : {T : Type 0} (key_of : T → ℕ × ℕ) (P : T → Type 0) (xs : List T) (q : ℕ × ℕ) → AllByRecursion P xs → IsSome (row_at key_of xs q) → (x : T) × P x × (key_of x ≡ q)
found_all key_of P [] q all has = cc
found_all key_of P (x ∷ xs) q all has = elim (cases_Bool (same (key_of x) q)) [
  | inl here ↦ (x, all.0, same_is (key_of x) q here)
  | inr other ↦ found_all key_of P xs q all.1 (rw other at has)
]

row_there : {T A : Type 0} (f : Option T → Option A) → f None ≡ None → (o : Option T) → IsSome (f o) → IsSome o
row_there f none None has = let wrong = rw none at has in cc
row_there f none (Some x) has = refl

cell_known : (shards servers : ℕ) (r : Rights) → IsKnownParcel shards servers r → (s v : ℕ) → Has (hold_of r) (key.CellRight s v) → (s < shards) × (v < servers)
unfolding hold_of
cell_known shards servers r fits s v has =
    let found = found_all key_of_cell (IsKnownCellRight shards servers) r.cells (s, v) (recursion_from_All (IsKnownCellRight shards servers) r.cells fits.cells) (row_there plain_state_of refl (row_at key_of_cell r.cells (s, v)) has) in
    let shard : found.0.shard ≡ s = ap (λ (q : ℕ × ℕ). q.0) found.2 in
    let server : found.0.server ≡ v = ap (λ (q : ℕ × ℕ). q.1) found.2 in
    let known = found.1 in
    (omega arith, omega arith)

crown_known : (shards servers : ℕ) (r : Rights) → IsKnownParcel shards servers r → (s : ℕ) → Has (hold_of r) (key.Crown s) → s < shards
unfolding hold_of
crown_known shards servers r fits s has =
    let found = found_all key_of_crown (IsKnownCrown shards servers) r.crowns (s, 0) (recursion_from_All (IsKnownCrown shards servers) r.crowns fits.crowns) (row_there crown_of refl (row_at key_of_crown r.crowns (s, 0)) has) in
    let shard : found.0.shard ≡ s = ap (λ (q : ℕ × ℕ). q.0) found.2 in
    let known = found.1.0 in
    omega arith

-- ---- what is within a true pool is admitted

module _ (c : Sizes) (p : Place) (leads : ℕ → Lead) (numbers : ℕ → ℕ) (pool : Hold) (plan : PlanModel) (scene : IsScene c p leads numbers pool) (fits : IsKnownPlan c.shards c.servers plan) (enough : AreWithin pool plan.streams) where
  abbrev holds : ℕ → Hold
  holds i = declared plan.streams i

  known : (i : ℕ) (k : Key) → Has (holds i) k → i < length plan.streams
  known i k has = elim (cases_lt i (length plan.streams)) [ inl less ↦ less | inr past ↦ absurd (nothing_past plan.streams i past k has) ]

  -- what a stream has, the pool has
  has_one : (i : ℕ) (r : Right) → i < length plan.streams → count (holds i) r ≡ 1 → 0 < count pool r
  has_one i r less one =
      let part = part_of_sum (length plan.streams) (λ i. count (holds i) r) i less in
      let most = enough r in
      omega arith

  -- two streams do not have what the pool has once
  not_two : (i j : ℕ) (r : Right) → i < length plan.streams → j < length plan.streams → i ≢ j → count (holds i) r ≡ 1 → count (holds j) r ≡ 1 → ¬ (count pool r ≤ 1)
  not_two i j r l m apart one other single =
      let parts = two_of_sum (length plan.streams) (λ i. count (holds i) r) i j l m apart in
      let most = enough r in
      absurd (omega arith)

  pool_cell : (i s v : ℕ) (state : PlainCell) → (holds i).cells s v ≡ Some state → pool.cells s v ≡ Some state
  pool_cell i s v state e = is_cell_true state (pool.cells s v) (bit_true (is_cell state (pool.cells s v)) (omega (arith, has_one i (OfCell s v state) (known i (key.CellRight s v) (some_is _ state e)) (cell_counts (holds i) s v state e))))

  pool_crown : (i s : ℕ) (lead : Lead) (listed : Option ℕ) → (holds i).crowns s ≡ Some (lead, listed) → pool.crowns s ≡ Some (lead, listed)
  pool_crown i s lead listed e = crown_true lead listed (pool.crowns s) (bit_true (is_crown lead listed (pool.crowns s)) (omega (arith, has_one i (OfCrown s lead listed) (known i (key.Crown s) (some_is _ (lead, listed) e)) (crown_counts (holds i) s lead listed e))))

  true_at : (i : ℕ) (k : Key) → IsTrueAt c p plan.streams i k
  true_at i (key.CellRight s v) has =
      let own = some_of ((holds i).cells s v) has in
      let here = true_cell c p leads pool scene.truth s v own.0 (pool_cell i s v own.0 own.1) in
      let ids = cell_known c.shards c.servers _ (fits.streams i no_stream (known i (key.CellRight s v) has)).holds s v has in
      own.1 ∙ sym (rw (lt-ltb s c.shards ids.0, lt-ltb v c.servers ids.1) here)
  true_at i (key.Crown s) has =
      let own = some_of ((holds i).crowns s) has in
      let here = true_crown c p leads pool scene.truth s own.0.0 own.0.1 (pool_crown i s own.0.0 own.0.1 own.1) in
      let id = crown_known c.shards c.servers _ (fits.streams i no_stream (known i (key.Crown s) has)).holds s has in
      let lead = lead_of_is (leads s) (numbers s) (p.cells s) c.servers (scene.described s) (λ v past. scene.placement.no_server s v past) in
      own.1 ∙ sym (rw (lt-ltb s c.shards id, lead, here.0, here.1) refl)
  true_at i (key.Room v) has = absurd has
  true_at i (key.Spare s) has = absurd has

  free_at : (i : ℕ) (k : Key) → IsFreeAt pool plan.streams i k
  free_at i (key.CellRight s v) has =
      let own = some_of ((holds i).cells s v) has in
      let there = pool_cell i s v own.0 own.1 in (
        own.1 ∙ sym there,
        λ j less other.
            let same : (holds j).cells s v ≡ Some own.0 =
            (let its = some_of ((holds j).cells s v) other in its.1 ∙ sym (pool_cell j s v its.0 its.1) ∙ there) in
            not_two j i (OfCell s v own.0) (known j (key.CellRight s v) other) (known i (key.CellRight s v) has) (λ e. absurd (omega arith))
            (cell_counts (holds j) s v own.0 same) (cell_counts (holds i) s v own.0 own.1) (bit-le-one _),
      )
  free_at i (key.Crown s) has =
      let own = some_of ((holds i).crowns s) has in
      let there = pool_crown i s own.0.0 own.0.1 own.1 in (
        own.1 ∙ sym there,
        λ j less other.
            let same : (holds j).crowns s ≡ Some (own.0.0, own.0.1) =
            (let its = some_of ((holds j).crowns s) other in its.1 ∙ sym (pool_crown j s its.0.0 its.0.1 its.1) ∙ there) in
            not_two j i (OfCrown s own.0.0 own.0.1) (known j (key.Crown s) other) (known i (key.Crown s) has) (λ e. absurd (omega arith))
            (crown_counts (holds j) s own.0.0 own.0.1 same) (crown_counts (holds i) s own.0.0 own.0.1 own.1) (bit-le-one _),
      )
  free_at i (key.Room v) has = absurd has
  free_at i (key.Spare s) has = absurd has

  -- a plan that declares no more than a true pool has is admitted where the servers it mentions are up
  pub within_admitted : AreUp p plan.streams → IsAdmitted c p pool plan
  within_admitted up = record {
    true_ones = true_at;
    free_ones = free_at;
    room = λ v. let sums = sum_by-below (λ (stream : StreamModel). (hold_of stream.holds).room v) plan.streams no_stream in let most = enough (OfRoom v) in omega arith;
    spare = λ s. let sums = sum_by-below (λ (stream : StreamModel). (hold_of stream.holds).spare s) plan.streams no_stream in let most = enough (OfSpare s) in omega arith;
    up = up;
  }
