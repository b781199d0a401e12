-- The server that is found along the codes is the lowest one that is down and mentioned.
use Rattle.std.proofs.Common.{◌≡◌, ℕ, zero, suc, ◌<◌, Bool, true, Option, Some, None, List, [], ◌∷◌, refl, sym, subst, ◌∙◌, inl, inr, ◌⊎◌, arith}
use Rattle.std.specs.Prelude.{Contains, IfSome, IfNone}
use Rattle.std.proofs.lemmas.Bool.{cases_Bool, cases_lt, lt-ltb, le-ltb, false_from_ne_true}
use Rattle.sm_placement.specs.Place.{Place}
use Rattle.sm_plan_code.specs.declared.instruction.Instr.{Instr}
use Rattle.sm_plan_code.specs.Instr.{names_of, Mentions}
use Rattle.sm_plan_code.specs.Plan.{StreamModel}
use Rattle.sm_verifier.specs.Downs.{lower_number, if_down, down_at, down_in_code, down_in_streams}
use Rattle.sm_verifier.specs.Admission.{IsMentioned, IsUpWhereMentioned, AreUp, IsLowest}

-- the least of the numbers with a property, or none where no number has it
abbrev IsLeast : (ℕ → Type 0) → Option ℕ → Type 0
IsLeast P None = (v : ℕ) → ¬ P v
IsLeast P (Some v) = P v × ((w : ℕ) → w < v → ¬ P w)

least_same : (P Q : ℕ → Type 0) (o : Option ℕ) → ((v : ℕ) → P v → Q v) → ((v : ℕ) → Q v → P v) → IsLeast P o → IsLeast Q o
least_same P Q None to from least = λ v q. least v (from v q)
least_same P Q (Some v) to from least = (to v least.0, λ w l q. least.1 w l (from w q))

neither : (P Q : ℕ → Type 0) (v : ℕ) → ¬ P v → ¬ Q v → ¬ (P v ⊎ Q v)
neither P Q v p q (inl x) = p x
neither P Q v p q (inr x) = q x

least_lower : (P Q : ℕ → Type 0) (a b : Option ℕ) → IsLeast P a → IsLeast Q b → IsLeast (λ v. P v ⊎ Q v) (lower_number a b)
least_lower P Q None None p q = λ v. neither P Q v (p v) (q v)
least_lower P Q None (Some w) p q = (inr q.0, λ k l. neither P Q k (p k) (q.1 k l))
least_lower P Q (Some v) None p q = (inl p.0, λ k l. neither P Q k (p.1 k l) (q k))
least_lower P Q (Some v) (Some w) p q = elim (cases_lt w v) [
  | inl less ↦ rw (lt-ltb w v less) (inr q.0, λ k l. neither P Q k (p.1 k (omega arith)) (q.1 k l))
  | inr most ↦ rw (le-ltb w v most) (inl p.0, λ k l. neither P Q k (p.1 k l) (q.1 k (omega arith)))
]

-- the server is given, and it is down
abbrev IsDownOne : (ℕ → Bool) → Option ℕ → ℕ → Type 0
IsDownOne down o v = (o ≡ Some v) × (down v ≡ true)

least_one : (down : ℕ → Bool) (o : Option ℕ) → IsLeast (IsDownOne down o) (if_down down o)
least_one down None = λ v both. let wrong = both.0 in cc
least_one down (Some u) = elim (cases_Bool (down u)) [
  | inl on ↦ rw on ((refl, on), λ w l both. let same : u ≡ w = (let z = both.0 in cc) in absurd (omega arith))
  | inr off ↦ rw off (λ v both. let same : u ≡ v = (let z = both.0 in cc) in let wrong = rw (same, both.1) at off in cc)
]

-- an instruction of the code mentions the server, and it is down
abbrev IsDownIn : (ℕ → Bool) → List Instr → ℕ → Type 0
IsDownIn down code v = ((i : Instr) × Contains code i × Mentions (names_of i) v) × (down v ≡ true)

abbrev IsDownOf : (ℕ → Bool) → List StreamModel → ℕ → Type 0
IsDownOf down streams v = IsMentioned streams v × (down v ≡ true)

contains_here : {X : Type 0} (x : X) (xs : List X) → Contains (x ∷ xs) x
contains_here x xs = (0, omega arith, refl)

contains_more : {X : Type 0} (x y : X) (xs : List X) → Contains xs y → Contains (x ∷ xs) y
contains_more x y xs c = (suc c.0, let l = c.1 in omega arith, c.2)

contains_cases : {X : Type 0} (x y : X) (xs : List X) → Contains (x ∷ xs) y → (x ≡ y) ⊎ Contains xs y
contains_cases x y xs (zero, l, e) = inl e
contains_cases x y xs (suc k, l, e) = inr (k, omega arith, e)

-- ---- one instruction, a code, and streams

abbrev AtOne : (ℕ → Bool) → (ℕ → Type 0) → Instr → ℕ → Type 0
AtOne down P i v = P v ⊎ (Mentions (names_of i) v × (down v ≡ true))

least_at : (down : ℕ → Bool) (P : ℕ → Type 0) (o : Option ℕ) (i : Instr) → IsLeast P o → IsLeast (AtOne down P i) (down_at down o i)
least_at down P o i least =
    let one : ℕ → Type 0 = IsDownOne down (names_of i).first in
    let two : ℕ → Type 0 = IsDownOne down (names_of i).second in
    let first = least_lower P one o (if_down down (names_of i).first) least (least_one down (names_of i).first) in
    let both = least_lower (λ v. P v ⊎ one v) two (lower_number o (if_down down (names_of i).first)) (if_down down (names_of i).second) first (least_one down (names_of i).second) in
    least_same (λ v. (P v ⊎ one v) ⊎ two v) (AtOne down P i) (down_at down o i) to from both
  where
    to : (v : ℕ) → (P v ⊎ IsDownOne down (names_of i).first v) ⊎ IsDownOne down (names_of i).second v → AtOne down P i v
    to v (inl (inl p)) = inl p
    to v (inl (inr m)) = inr (inl m.0, m.1)
    to v (inr m) = inr (inr m.0, m.1)

    from : (v : ℕ) → AtOne down P i v → (P v ⊎ IsDownOne down (names_of i).first v) ⊎ IsDownOne down (names_of i).second v
    from v (inl p) = inl (inl p)
    from v (inr (inl m, d)) = inl (inr (m, d))
    from v (inr (inr m, d)) = inr (m, d)

abbrev InCode : (ℕ → Bool) → (ℕ → Type 0) → List Instr → ℕ → Type 0
InCode down P code v = P v ⊎ IsDownIn down code v

least_in : (down : ℕ → Bool) (P : ℕ → Type 0) (o : Option ℕ) (code : List Instr) → IsLeast P o → IsLeast (InCode down P code) (down_in_code down o code)
least_in down P o [] least = least_same P (InCode down P []) o (λ v p. inl p) from least
  where
    from : (v : ℕ) → InCode down P [] v → P v
    from v (inl p) = p
    from v (inr ((i, (k, l, e), m), d)) = absurd (omega arith)
least_in down P o (i ∷ is) least =
    let next = least_at down P o i least in
    let rest = least_in down (AtOne down P i) (down_at down o i) is next in
    least_same (InCode down (AtOne down P i) is) (InCode down P (i ∷ is)) (down_in_code down o (i ∷ is)) to from rest
  where
    to : (v : ℕ) → InCode down (AtOne down P i) is v → InCode down P (i ∷ is) v
    to v (inl (inl p)) = inl p
    to v (inl (inr (m, d))) = inr ((i, contains_here i is, m), d)
    to v (inr ((j, c, m), d)) = inr ((j, contains_more i j is c, m), d)

    split : (v : ℕ) (j : Instr) → (i ≡ j) ⊎ Contains is j → Mentions (names_of j) v → down v ≡ true → InCode down (AtOne down P i) is v
    split v j (inl e) m d = inl (inr (rw e m, d))
    split v j (inr c) m d = inr ((j, c, m), d)

    from : (v : ℕ) → InCode down P (i ∷ is) v → InCode down (AtOne down P i) is v
    from v (inl p) = inl (inl p)
    from v (inr ((j, c, m), d)) = split v j (contains_cases i j is c) m d

abbrev InStreams : (ℕ → Bool) → (ℕ → Type 0) → List StreamModel → ℕ → Type 0
InStreams down P streams v = P v ⊎ IsDownOf down streams v

least_of : (down : ℕ → Bool) (P : ℕ → Type 0) (o : Option ℕ) (streams : List StreamModel) → IsLeast P o → IsLeast (InStreams down P streams) (down_in_streams down o streams)
least_of down P o [] least = least_same P (InStreams down P []) o (λ v p. inl p) from least
  where
    from : (v : ℕ) → InStreams down P [] v → P v
    from v (inl p) = p
    from v (inr ((s, i, (k, l, e), c, m), d)) = absurd (omega arith)
least_of down P o (s ∷ ss) least =
    let next = least_in down P o s.code least in
    let rest = least_of down (InCode down P s.code) (down_in_code down o s.code) ss next in
    least_same (InStreams down (InCode down P s.code) ss) (InStreams down P (s ∷ ss)) (down_in_streams down o (s ∷ ss)) to from rest
  where
    to : (v : ℕ) → InStreams down (InCode down P s.code) ss v → InStreams down P (s ∷ ss) v
    to v (inl (inl p)) = inl p
    to v (inl (inr ((i, c, m), d))) = inr ((s, i, contains_here s ss, c, m), d)
    to v (inr ((t, i, c, k, m), d)) = inr ((t, i, contains_more s t ss c, k, m), d)

    split : (v : ℕ) (t : StreamModel) (i : Instr) → (s ≡ t) ⊎ Contains ss t → Contains t.code i → Mentions (names_of i) v → down v ≡ true → InStreams down (InCode down P s.code) ss v
    split v t i (inl e) k m d = inl (inr ((i, rw e k, m), d))
    split v t i (inr c) k m d = inr ((t, i, c, k, m), d)

    from : (v : ℕ) → InStreams down P (s ∷ ss) v → InStreams down (InCode down P s.code) ss v
    from v (inl p) = inl (inl p)
    from v (inr ((t, i, c, k, m), d)) = split v t i (contains_cases s t ss c) k m d

-- ---- what it says of servers that are mentioned

abbrev nothing : ℕ → Type 0
nothing v = ⊥

least_down : (down : ℕ → Bool) (streams : List StreamModel) → IsLeast (InStreams down nothing streams) (down_in_streams down None streams)
least_down down streams = least_of down nothing None streams (λ v none. none)

up_from : (p : Place) (streams : List StreamModel) (v : ℕ) → ¬ InStreams p.down nothing streams v → IsUpWhereMentioned p streams v
up_from p streams v none mentioned = false_from_ne_true (p.down v) (λ d. none (inr (mentioned, d)))

down_from : (p : Place) (streams : List StreamModel) (v : ℕ) → InStreams p.down nothing streams v → ¬ IsUpWhereMentioned p streams v
down_from p streams v (inl none) up = none
down_from p streams v (inr (m, d)) up = let wrong = sym d ∙ up m in cc

lowest_least : (p : Place) (streams : List StreamModel) (o : Option ℕ) → IsLeast (InStreams p.down nothing streams) o → IfSome o (IsLowest (IsUpWhereMentioned p streams))
lowest_least p streams None least = tt
lowest_least p streams (Some v) least = record { broken = down_from p streams v least.0; below = λ w l. up_from p streams w (least.1 w l) }

none_least : (p : Place) (streams : List StreamModel) (o : Option ℕ) → IsLeast (InStreams p.down nothing streams) o → IfNone o (AreUp p streams)
none_least p streams None least = λ v. up_from p streams v (least v)
none_least p streams (Some v) least = tt

-- a server that is found is the lowest that is mentioned and down
pub lowest_down : (p : Place) (streams : List StreamModel) (o : Option ℕ) → o ≡ down_in_streams p.down None streams → IfSome o (IsLowest (IsUpWhereMentioned p streams))
lowest_down p streams o e = lowest_least p streams o (subst (IsLeast (InStreams p.down nothing streams)) (sym e) (least_down p.down streams))

-- where none is found, all servers that are mentioned are up
pub none_down : (p : Place) (streams : List StreamModel) (o : Option ℕ) → o ≡ down_in_streams p.down None streams → IfNone o (AreUp p streams)
none_down p streams o e = none_least p streams o (subst (IsLeast (InStreams p.down nothing streams)) (sym e) (least_down p.down streams))
