-- A parcel that leaves a hold by a signal, and one that comes into it by a wait: what is counted of each right.
use Rattle.std.proofs.Common.{◌≡◌, ◌+◌, true, Ok}
use Rattle.std.specs.List.{list_all}
use Rattle.std.proofs.lemmas.Bool.{and_parts}
use Rattle.sm_reservation.specs.Rights.{Rights}
use Rattle.sm_reservation.specs.Key.{IsOrdered}
use Rattle.sm_reservation.specs.Hold.{Hold}
use Rattle.sm_reservation.specs.HoldOf.{hold_of}
use Rattle.sm_reservation.specs.Amounts.{Right, count}
use Rattle.sm_reservation.specs.CanJoin.{AreApart}
use Rattle.sm_reservation.specs.Short.{first_short}
use Rattle.sm_reservation.specs.Turns.{lacks_cell, lacks_crown}
use Rattle.sm_reservation.proofs.FitLemmas.{none_of, passes_apart}
use Rattle.sm_reservation.proofs.ParcelSums.{minus_count, plus_count}
use Rattle.sm_plan_code.specs.After.{decided, is_apart, signal_line, wait_line}
use Rattle.sm_plan_code.proofs.Lines.{passes}

-- a parcel apart from a hold, by the test of a wait
apart : (h : Hold) (p : Rights) → is_apart h p ≡ true → AreApart h (hold_of p)
apart h p all =
    let parts = and_parts (list_all (lacks_cell h) p.cells) (list_all (lacks_crown h) p.crowns) all in
    passes_apart h p parts.0 parts.1

-- what a signal's parcel has of each right leaves the hold
pub signal_counts : (h h' : Hold) (p : Rights) → IsOrdered p → decided (signal_line p h) ≡ Ok h' → (r : Right) → count h' r + count (hold_of p) r ≡ count h r
signal_counts h h' p o e r =
    let ok = passes (signal_line p h) h' e in
    rw (← ok.1) (minus_count h p o (none_of (first_short h p) ok.0.0) r)

-- what a wait's parcel has of each right comes into the hold
pub wait_counts : (h h' : Hold) (p : Rights) → IsOrdered p → decided (wait_line p h) ≡ Ok h' → (r : Right) → count h' r ≡ count h r + count (hold_of p) r
wait_counts h h' p o e r =
    let ok = passes (wait_line p h) h' e in
    rw (← ok.1) (plus_count h p o (apart h p ok.0.0) r)
