-- Holds that can be put together, known by how much there is of each right.
use Rattle.std.proofs.Common.{◌≡◌, ℕ, ◌+◌, ◌<◌, ◌≤◌, ◌^◌, refl, sym, ap, ◌∙◌, arith, inl, inr, ◌⊎◌, length, Option, Some, None}
use Rattle.std.proofs.lemmas.Bool.{cases_lt}
use Rattle.std.proofs.lemmas.List.{get_or_past}
use Rattle.sm_placement.specs.declared.lead.Lead.{Lead}
use Rattle.sm_placement.specs.Sums.{bit}
use Rattle.sm_placement.specs.Setup.{Setup, ServerRow, IsSetup, Sizes, sizes_of, no_server}
use Rattle.sm_placement.specs.Place.{Place, live_at}
use Rattle.sm_placement.proofs.Sums.{count-le}
use Rattle.sm_reservation.specs.declared.right.PlainCell.{PlainCell}
use Rattle.sm_reservation.specs.Hold.{Hold}
use Rattle.sm_reservation.specs.Amounts.{Right, OfCell, OfCrown, OfRoom, OfSpare, is_cell, is_crown, plain_of, count, stock}
use Rattle.sm_reservation.specs.CanJoin.{CanJoin}
use Rattle.sm_reservation.specs.Covers.{Covers}
use Rattle.sm_reservation.specs.Pool.{IsKnownHold, IsKnownRight}
use Rattle.sm_reservation.proofs.Truths.{is_cell_true, is_cell_self, same_lead_self, same_server_self, bit_true as one_true}
use Rattle.sm_reservation.proofs.ParcelSums.{crown_is, no_cell}

one_cell : (state : PlainCell) (o : Option PlainCell) → o ≡ Some state → bit (is_cell state o) ≡ 1
one_cell state o e = rw (e, is_cell_self state) refl

one_crown : (c : Lead × Option ℕ) (o : Option (Lead × Option ℕ)) → o ≡ Some c → bit (is_crown c.0 c.1 o) ≡ 1
one_crown c o e = rw (e, same_lead_self c.0, same_server_self c.1) refl

-- a hold that has as much of each right as another has all of it
pub covers_by_count : (t k : Hold) → ((r : Right) → count k r ≤ count t r) → Covers t k
covers_by_count t k less = record { cells = cell; crowns = crown; room = λ v. less (OfRoom v); spare = λ s. less (OfSpare s) }
  where
    cell : (s v : ℕ) (state : PlainCell) → k.cells s v ≡ Some state → t.cells s v ≡ Some state
    cell s v state e =
        let a : bit (is_cell state (k.cells s v)) ≤ bit (is_cell state (t.cells s v)) = less (OfCell s v state) in
        is_cell_true state (t.cells s v) (one_true (is_cell state (t.cells s v)) (omega (arith, one_cell state (k.cells s v) e)))

    crown : (s : ℕ) (c : Lead × Option ℕ) → k.crowns s ≡ Some c → t.crowns s ≡ Some c
    crown s c e =
        let a : bit (is_crown c.0 c.1 (k.crowns s)) ≤ bit (is_crown c.0 c.1 (t.crowns s)) = less (OfCrown s c.0 c.1) in
        crown_is (t.crowns s) c.0 c.1 (one_true (is_crown c.0 c.1 (t.crowns s)) (omega (arith, one_crown c (k.crowns s) e)))

-- two holds that have together no more of each right than a third, whose amounts are u64s, can be put together
pub joins_by_count : (t h k : Hold) → ((r : Right) → count h r + count k r ≤ count t r) → ((v : ℕ) → t.room v < 2 ^ 64) → ((s : ℕ) → t.spare s < 2 ^ 64) → CanJoin h k
joins_by_count t h k both room spare = record {
  cells = λ s v state e. cell s v state e (h.cells s v) refl;
  crowns = λ s c e. crown s c e (h.crowns s) refl;
  room = λ v. let a = both (OfRoom v) in let b = room v in omega arith;
  spare = λ s. let a = both (OfSpare s) in let b = spare s in omega arith;
}
  where
    first : Covers t h
    first = covers_by_count t h (λ r. let a = both r in omega arith)

    second : Covers t k
    second = covers_by_count t k (λ r. let a = both r in omega arith)

    cell : (s v : ℕ) (state : PlainCell) → k.cells s v ≡ Some state → (o : Option PlainCell) → h.cells s v ≡ o → h.cells s v ≡ None
    cell s v state e None q = q
    cell s v state e (Some other) q =
        let there : t.cells s v ≡ Some state = second.cells s v state e in
        let also : t.cells s v ≡ Some other = first.cells s v other q in
        let it : h.cells s v ≡ Some state = q ∙ sym also ∙ there in
        let sum : bit (is_cell state (h.cells s v)) + bit (is_cell state (k.cells s v)) ≤ bit (is_cell state (t.cells s v)) = both (OfCell s v state) in
        absurd (omega (arith, one_cell state (h.cells s v) it, one_cell state (k.cells s v) e, one_cell state (t.cells s v) there))

    crown : (s : ℕ) (c : Lead × Option ℕ) → k.crowns s ≡ Some c → (o : Option (Lead × Option ℕ)) → h.crowns s ≡ o → h.crowns s ≡ None
    crown s c e None q = q
    crown s c e (Some other) q =
        let there : t.crowns s ≡ Some c = second.crowns s c e in
        let also : t.crowns s ≡ Some other = first.crowns s other q in
        let it : h.crowns s ≡ Some c = q ∙ sym also ∙ there in
        let sum : bit (is_crown c.0 c.1 (h.crowns s)) + bit (is_crown c.0 c.1 (k.crowns s)) ≤ bit (is_crown c.0 c.1 (t.crowns s)) = both (OfCrown s c.0 c.1) in
        absurd (omega (arith, one_crown c (h.crowns s) it, one_crown c (k.crowns s) e, one_crown c (t.crowns s) there))

-- so can two that have together no more of each right than there is in a placement
pub joins_within_stock : (c : Sizes) (p : Place) (leads : ℕ → Lead) (h k : Hold) → ((r : Right) → count h r + count k r ≤ stock c p leads r) → ((v : ℕ) → c.room v < 2 ^ 64) → ((s : ℕ) → live_at c p s < 2 ^ 64) → CanJoin h k
joins_within_stock c p leads h k both room spare = joins_by_count all h k within room spare
  where
    all : Hold
    all = record { cells = λ s v. plain_of (p.cells s v); crowns = λ s. Some (leads s, p.listed s); room = c.room; spare = live_at c p }

    within : (r : Right) → count h r + count k r ≤ count all r
    within (OfCell s v state) = both (OfCell s v state)
    within (OfCrown s lead listed) = both (OfCrown s lead listed)
    within (OfRoom v) = both (OfRoom v)
    within (OfSpare s) = both (OfSpare s)

-- ---- within what there is in a placement of a configuration, whose numbers are small

row_small : (setup : Setup) → IsSetup setup → (v : ℕ) → (sizes_of setup).room v < 2 ^ 64
row_small setup is v = elim (cases_lt v (length setup.servers)) [
  | inl l ↦ let small : (sizes_of setup).room v ≤ 4294967295 = is.good_servers v no_server l in omega arith
  | inr l ↦ let past : (sizes_of setup).room v ≡ 0 = ap (λ (r : ServerRow). r.room) (get_or_past setup.servers v no_server l) in omega arith
]

live_small : (setup : Setup) (p : Place) → IsSetup setup → (s : ℕ) → live_at (sizes_of setup) p s < 2 ^ 64
live_small setup p is s = let few = is.servers in let l : live_at (sizes_of setup) p s ≤ length setup.servers = count-le (length setup.servers) _ in omega arith

-- two holds that have together no more of each right than there is in a placement of a configuration can be joined
pub joins_in_placement : (setup : Setup) (p : Place) (leads : ℕ → Lead) (h k : Hold) → IsSetup setup → ((r : Right) → count h r + count k r ≤ stock (sizes_of setup) p leads r) → CanJoin h k
joins_in_placement setup p leads h k is both = joins_within_stock (sizes_of setup) p leads h k both (row_small setup is) (live_small setup p is)

-- a hold of known shards and servers has nothing of a right of others
pub nothing_unknown : (c : Sizes) (h : Hold) → IsKnownHold c.shards c.servers h → (r : Right) → (IsKnownRight c r → ⊥) → count h r ≡ 0
nothing_unknown c h is (OfCell s v state) unknown = elim (cases_lt s c.shards) [
  | inl l ↦ elim (cases_lt v c.servers) [
    | inl m ↦ absurd (unknown (l, m))
    | inr m ↦ rw (is.no_server s v m) (no_cell state)
  ]
  | inr l ↦ rw (is.no_shard s v l) (no_cell state)
]
nothing_unknown c h is (OfCrown s lead listed) unknown = elim (cases_lt s c.shards) [ inl l ↦ absurd (unknown l) | inr l ↦ rw (is.crowns s l) refl ]
nothing_unknown c h is (OfRoom v) unknown = elim (cases_lt v c.servers) [ inl l ↦ absurd (unknown l) | inr l ↦ is.room v l ]
nothing_unknown c h is (OfSpare s) unknown = elim (cases_lt s c.shards) [ inl l ↦ absurd (unknown l) | inr l ↦ is.spare s l ]

-- a right is of known shards and servers, or is not
pub known_or_not : (c : Sizes) (r : Right) → IsKnownRight c r ⊎ (IsKnownRight c r → ⊥)
known_or_not c (OfCell s v state) = elim (cases_lt s c.shards) [
  | inl l ↦ elim (cases_lt v c.servers) [
    | inl m ↦ inl (l, m)
    | inr m ↦ inr (λ k. let a : v < c.servers = k.1 in omega arith)
  ]
  | inr l ↦ inr (λ k. let a : s < c.shards = k.0 in omega arith)
]
known_or_not c (OfCrown s lead listed) = elim (cases_lt s c.shards) [ inl l ↦ inl l | inr l ↦ inr (λ k. let a : s < c.shards = k in omega arith) ]
known_or_not c (OfRoom v) = elim (cases_lt v c.servers) [ inl l ↦ inl l | inr l ↦ inr (λ k. let a : v < c.servers = k in omega arith) ]
known_or_not c (OfSpare s) = elim (cases_lt s c.shards) [ inl l ↦ inl l | inr l ↦ inr (λ k. let a : s < c.shards = k in omega arith) ]

-- the same, where both are of known shards and servers and the sums are known of such rights alone
pub joins_of_known : (setup : Setup) (p : Place) (leads : ℕ → Lead) (h k : Hold) → IsSetup setup → IsKnownHold (length setup.shards) (length setup.servers) h → IsKnownHold (length setup.shards) (length setup.servers) k → ((r : Right) → IsKnownRight (sizes_of setup) r → count h r + count k r ≤ stock (sizes_of setup) p leads r) → CanJoin h k
joins_of_known setup p leads h k is a b both = joins_in_placement setup p leads h k is each
  where
    each : (r : Right) → count h r + count k r ≤ stock (sizes_of setup) p leads r
    each r = elim (known_or_not (sizes_of setup) r) [
      | inl known ↦ both r known
      | inr unknown ↦ let x = nothing_unknown (sizes_of setup) h a r unknown in let y = nothing_unknown (sizes_of setup) k b r unknown in omega arith
    ]
