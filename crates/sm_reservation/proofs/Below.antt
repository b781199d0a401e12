-- Rights of known shards and servers, as parcels go in and out.
use Rattle.std.proofs.Common.{◌≡◌, ℕ, refl, sym, subst, arith, Option, Some, None}
use Rattle.std.specs.Option.{option_or}
use Rattle.sm_reservation.specs.Rights.{Rights}
use Rattle.sm_reservation.specs.Key.{IsOrdered}
use Rattle.sm_reservation.specs.Hold.{Hold, no_hold, minus, plus}
use Rattle.sm_reservation.specs.HoldOf.{hold_of}
use Rattle.sm_reservation.specs.Short.{first_short}
use Rattle.sm_reservation.specs.Pool.{IsKnownHold}
use Rattle.sm_reservation.proofs.ParcelSums.{left, parted, joined, minus_is, plus_is, covers}
use Rattle.sm_reservation.proofs.ParcelRows.{covered_below}

-- no rights are of known shards and servers, however few there are
pub below_none : (shards servers : ℕ) → IsKnownHold shards servers no_hold
below_none shards servers = record { no_shard = λ s v l. refl; no_server = λ s v l. refl; crowns = λ s l. refl; room = λ v l. refl; spare = λ s l. refl }

left_of_none : {A B : Type 0} (k : Option A) (h : Option B) → h ≡ None → left k h ≡ None
left_of_none None h e = e
left_of_none (Some x) h e = refl

-- of two that are None there is none
pub neither_of : {A : Type 0} (k h : Option A) → k ≡ None → h ≡ None → option_or k h ≡ None
neither_of k h e d = rw (e, d) refl

-- what is left is of known shards and servers, as what there was
pub below_minus : (shards servers : ℕ) (h : Hold) (p : Rights) → IsOrdered p → IsKnownHold shards servers h → IsKnownHold shards servers (minus h p)
below_minus shards servers h p o is =
    let k = hold_of p in
    let it : IsKnownHold shards servers (parted h k) = record {
      no_shard = λ s v l. left_of_none (k.cells s v) (h.cells s v) (is.no_shard s v l);
      no_server = λ s v l. left_of_none (k.cells s v) (h.cells s v) (is.no_server s v l);
      crowns = λ s l. left_of_none (k.crowns s) (h.crowns s) (is.crowns s l);
      room = λ v l. let z = is.room v l in omega arith;
      spare = λ s l. let z = is.spare s l in omega arith;
    } in
    subst (λ (x : Hold). IsKnownHold shards servers x) (sym (minus_is h p o)) it

-- what there is together is of known shards and servers, as both parts
pub below_plus : (shards servers : ℕ) (h : Hold) (p : Rights) → IsOrdered p → IsKnownHold shards servers h → IsKnownHold shards servers (hold_of p) → IsKnownHold shards servers (plus h p)
below_plus shards servers h p o is also =
    let k = hold_of p in
    let it : IsKnownHold shards servers (joined h k) = record {
      no_shard = λ s v l. neither_of (k.cells s v) (h.cells s v) (also.no_shard s v l) (is.no_shard s v l);
      no_server = λ s v l. neither_of (k.cells s v) (h.cells s v) (also.no_server s v l) (is.no_server s v l);
      crowns = λ s l. neither_of (k.crowns s) (h.crowns s) (also.crowns s l) (is.crowns s l);
      room = λ v l. let z = is.room v l in let y = also.room v l in omega arith;
      spare = λ s l. let z = is.spare s l in let y = also.spare s l in omega arith;
    } in
    subst (λ (x : Hold). IsKnownHold shards servers x) (sym (plus_is h p o)) it

-- a parcel of which a hold is not short is of known shards and servers, as the hold is
pub below_taken : (shards servers : ℕ) (h : Hold) (p : Rights) → first_short h p ≡ None → IsKnownHold shards servers h → IsKnownHold shards servers (hold_of p)
below_taken shards servers h p none is = covered_below shards servers h (hold_of p) is (covers h p none)
