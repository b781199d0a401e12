-- All rights true of a settled placement are true of it together.
use Rattle.std.proofs.Common.{◌≡◌, ℕ, ◌+◌, ◌-◌, ◌≤◌, ltb, ◌&&◌, cond, Bool, true, false, ap, arith, inl, inr, Option, Some, None, length}
use Rattle.std.specs.Prelude.{unwrap_or}
use Rattle.std.specs.Option.{option_map}
use Rattle.std.proofs.lemmas.Bool.{cases_lt, lt-ltb, le-ltb}
use Rattle.std.proofs.lemmas.List.{get_or_past}
use Rattle.sm_server.specs.declared.call.Cell.{Cell}
use Rattle.sm_server.specs.declared.call.Cell.TheVariants.{Absent}
use Rattle.sm_placement.specs.declared.lead.Lead.{Lead}
use Rattle.sm_placement.specs.declared.lead.Lead.TheVariants.{Gone}
use Rattle.sm_placement.specs.Sums.{bit}
use Rattle.sm_placement.specs.Setup.{Setup, ShardRow, Sizes, sizes_of, no_shard}
use Rattle.sm_placement.specs.Place.{Place, load_at, weight}
use Rattle.sm_placement.specs.Lead.{IsSettled, lead_of}
use Rattle.sm_placement.proofs.Sums.{sum_zero}
use Rattle.sm_placement.proofs.LeadOf.{lead_of_is}
use Rattle.sm_reservation.specs.declared.right.PlainCell.{PlainCell}
use Rattle.sm_reservation.specs.Amounts.{Right, OfCell, OfCrown, OfRoom, OfSpare, is_cell, is_crown, count, stock, bound}
use Rattle.sm_reservation.specs.Pool.{true_rights, leads_of, IsKnownRight}
use Rattle.sm_reservation.specs.Truth.{IsTrueOf}
use Rattle.sm_reservation.proofs.ParcelSums.{no_cell}

-- a part of what there is, where a test passes
cell_part : (b : Bool) (state : PlainCell) (o : Option PlainCell) → bit (is_cell state (cond b o None)) + 0 ≤ bit (is_cell state o)
cell_part true state o = omega arith
cell_part false state o = let z = no_cell state in omega arith

-- a crown, where there is a lead
crown_part : (lead : Lead) (listed at : Option ℕ) (o : Option Lead) → bit (is_crown lead listed (option_map (λ l. (l, at)) o)) + 0 ≤ bit (is_crown lead listed (Some (unwrap_or o Gone, at)))
crown_part lead listed at None = omega arith
crown_part lead listed at (Some l) = omega arith

-- the rights of a settled placement are true of it: of all rights, also those of shards and servers that are not known
pub true_rights_hold : (setup : Setup) (p : Place) → IsSettled (sizes_of setup) p → ((s v : ℕ) → length setup.servers ≤ v → p.cells s v ≡ Absent) → IsTrueOf (sizes_of setup) p (leads_of (sizes_of setup) p) (true_rights (sizes_of setup) p)
true_rights_hold setup p is out = record { rights = each }
  where
    c : Sizes
    c = sizes_of setup

    each : (r : Right) → count (true_rights (sizes_of setup) p) r + bound (sizes_of setup) p r ≤ stock (sizes_of setup) p (leads_of (sizes_of setup) p) r
    each (OfCell s v state) = cell_part (ltb s (length setup.shards) && ltb v (length setup.servers)) state _
    each (OfCrown s lead listed) = elim (cases_lt s (length setup.shards)) [
      | inl l ↦ rw (lt-ltb s (length setup.shards) l) (crown_part lead listed (p.listed s) (lead_of (length setup.servers) (p.cells s)))
      | inr l ↦ rw (le-ltb s (length setup.shards) l) (omega arith)
    ]
    each (OfRoom v) = elim (cases_lt v (length setup.servers)) [
      | inl l ↦ let fits = is.rooms v l in rw (lt-ltb v (length setup.servers) l) (omega arith)
      | inr l ↦
          let none : load_at (sizes_of setup) p v ≡ 0 = sum_zero (length setup.shards) (λ s. weight (p.cells s v) ((sizes_of setup).load s)) (λ s. ap (λ (x : Cell). weight x ((sizes_of setup).load s)) (out s v l)) in
          rw (le-ltb v (length setup.servers) l) (omega arith)
    ]
    each (OfSpare s) = elim (cases_lt s (length setup.shards)) [
      | inl l ↦ let fits = is.floors s l in rw (lt-ltb s (length setup.shards) l) (omega arith)
      | inr l ↦
          let none : (sizes_of setup).floor s ≡ 0 = ap (λ (r : ShardRow). r.want - r.cap) (get_or_past setup.shards s no_shard l) in
          rw (le-ltb s (length setup.shards) l) (omega arith)
    ]

-- and they are all that there is beside the loads and the floors
pub true_rights_whole : (setup : Setup) (p : Place) → IsSettled (sizes_of setup) p → ((s v : ℕ) → length setup.servers ≤ v → p.cells s v ≡ Absent) → (r : Right) → IsKnownRight (sizes_of setup) r → count (true_rights (sizes_of setup) p) r + bound (sizes_of setup) p r ≡ stock (sizes_of setup) p (leads_of (sizes_of setup) p) r
true_rights_whole setup p is out (OfCell s v state) k = rw (lt-ltb s (length setup.shards) k.0, lt-ltb v (length setup.servers) k.1) (omega arith)
true_rights_whole setup p is out (OfCrown s lead listed) k =
    let led = is.leads s k in
    let here : lead_of (length setup.servers) (p.cells s) ≡ Some led.0 = lead_of_is led.0 0 (p.cells s) (length setup.servers) led.2 (out s) in
    rw (lt-ltb s (length setup.shards) k, here) (omega arith)
true_rights_whole setup p is out (OfRoom v) k = let fits = is.rooms v k in rw (lt-ltb v (length setup.servers) k) (omega arith)
true_rights_whole setup p is out (OfSpare s) k = let fits = is.floors s k in rw (lt-ltb s (length setup.shards) k) (omega arith)
