-- Two holds that have as much of each right are one.
use Rattle.std.proofs.Common.{◌≡◌, refl, sym, arith, Option, Some, None}
use Rattle.sm_reservation.specs.Hold.{Hold}
use Rattle.sm_reservation.specs.Amounts.{Right, OfRoom, OfSpare, count}
use Rattle.sm_reservation.specs.Covers.{Covers}
use Rattle.sm_reservation.proofs.Joins.{covers_by_count}
use Rattle.sm_reservation.proofs.ParcelSums.{same_hold}

-- two options that have the same values are one
same_option : {A : Type 0} (o p : Option A) → ((x : A) → o ≡ Some x → p ≡ Some x) → ((x : A) → p ≡ Some x → o ≡ Some x) → o ≡ p
same_option None None f g = refl
same_option None (Some y) f g = g y refl
same_option (Some x) p f g = sym (f x refl)

-- how much there is of each right decides
pub counts_decide : (h k : Hold) → ((r : Right) → count h r ≡ count k r) → h ≡ k
counts_decide h k same =
    let a : Covers k h = covers_by_count k h (λ r. let e = same r in omega arith) in
    let b : Covers h k = covers_by_count h k (λ r. let e = same r in omega arith) in
    same_hold h k
    (λ s v. same_option (h.cells s v) (k.cells s v) (λ x e. a.cells s v x e) (λ x e. b.cells s v x e))
    (λ s. same_option (h.crowns s) (k.crowns s) (λ x e. a.crowns s x e) (λ x e. b.crowns s x e))
    (λ v. same (OfRoom v))
    (λ s. same (OfSpare s))
