-- Messages among others.
use Rattle.std.proofs.Common.{◌≡◌, ◌<◌, ℕ, zero, suc, refl, inl, inr, subst, arith, false, Some, List, [], ◌∷◌, ◌++◌, length}
use Rattle.std.specs.Prelude.{slice_get}
use Rattle.std.proofs.lemmas.Bool.{cases_eq}
use Rattle.laws_network.specs.Reopening.{Message, Settling, arrives, settling_run, to_each}
use Rattle.laws_network.specs.ReopeningPlays.{arrive}
use Rattle.laws_network.specs.FleetReopening.{IsOneOf}

get_before : {A : Type 0} (xs ys : List A) (k : ℕ) (x : A) → slice_get xs k ≡ Some x → slice_get (xs ++ ys) k ≡ Some x
get_before [] ys k x e = absurd (cc)
get_before (z ∷ zs) ys zero x e = e
get_before (z ∷ zs) ys (suc k) x e = get_before zs ys k x e

-- the last of a list that was made longer by one
pub get_last : {A : Type 0} (xs : List A) (x : A) → slice_get (xs ++ x ∷ []) (length xs) ≡ Some x
get_last [] x = refl
get_last (y ∷ ys) x = get_last ys x

-- what is among some is among more
pub one_before : {A : Type 0} (xs ys : List A) (x : A) → IsOneOf xs x → IsOneOf (xs ++ ys) x
one_before xs ys x i = (i.0, get_before xs ys i.0 x i.1)

-- so is what is among those behind
pub one_behind : {A : Type 0} (xs ys : List A) (x : A) → IsOneOf ys x → IsOneOf (xs ++ ys) x
one_behind [] ys x i = i
one_behind (z ∷ zs) ys x i = let r = one_behind zs ys x i in (suc r.0, r.1)

-- what is sent to a server is among what is sent to each
pub one_of_each : (n : ℕ) (f : ℕ → List Message) (v : ℕ) (m : Message) → v < n → IsOneOf (f v) m → IsOneOf (to_each n f) m
one_of_each zero f v m below i = absurd (omega arith)
one_of_each (suc n) f v m below i = elim (cases_eq v n) [
  | inl e ↦ one_behind (to_each n f) (f n) m (subst (λ u. IsOneOf (f u) m) e i)
  | inr d ↦ one_before (to_each n f) (f n) m (one_of_each n f v m (omega arith) i)
]

-- what comes after something else
pub arrive_more : (ks js : List ℕ) (y : Settling) → settling_run (arrive (ks ++ js)) y ≡ settling_run (arrive js) (settling_run (arrive ks) y)
arrive_more [] js y = refl
arrive_more (k ∷ ks) js y = arrive_more ks js (arrives y (λ s. false) (slice_get y.messages k))
