-- Lists gone through in turn, where no element changes what later ones meet.
use Rattle.std.proofs.Common.{◌≡◌, ℕ, ◌+◌, Bool, true, false, cond, List, [], ◌∷◌, refl, ◌∙◌, ap, arith}
use Rattle.std.specs.List.{count_by, AllByRecursion}
use Rattle.std.proofs.lemmas.List.Recursion.{is_count_by}
use Rattle.sm_placement.specs.Sums.{bit}
use Rattle.sm_reservation.specs.Rows.{before, AllAfter, Rises}
use Rattle.sm_reservation.specs.Steps.{count_steps, AllSteps}

-- a count by recursion
unfoldable pub tally : {T : Type 0} → (T → Bool) → List T → ℕ
tally test [] = 0
tally test (x ∷ xs) = bit (test x) + tally test xs

bit_more : (b : Bool) (n : ℕ) → bit b + n ≡ cond b (1 + n) n
bit_more true n = refl
bit_more false n = omega arith

-- it is std's `count_by`
pub tally_is : {T : Type 0} (test : T → Bool) (xs : List T) → tally test xs ≡ count_by test xs
unfolding tally
tally_is test xs = is_count_by (tally test) test refl (λ x ys. bit_more (test x) (tally test ys)) xs

tally_same : {T : Type 0} (key_of : T → ℕ × ℕ) (k : ℕ × ℕ) (f g : T → Bool) (xs : List T) → AllAfter key_of k xs → ((y : T) → before k (key_of y) ≡ true → f y ≡ g y) → tally f xs ≡ tally g xs
unfolding tally
tally_same key_of k f g [] a same = refl
tally_same key_of k f g (x ∷ xs) a same = rw (same x a.0, tally_same key_of k f g xs a.1 same) refl

steps_tally : {S T : Type 0} (key_of : T → ℕ × ℕ) (step : S → T → S) (test : S → T → Bool) → ((s : S) (x y : T) → before (key_of x) (key_of y) ≡ true → test (step s x) y ≡ test s y) → (s : S) (xs : List T) → Rises key_of xs → count_steps step test s xs ≡ tally (test s) xs
unfolding tally
steps_tally key_of step test apart s [] r = refl
steps_tally key_of step test apart s (x ∷ xs) r =
    let rest : count_steps step test (step s x) xs ≡ tally (test s) xs = steps_tally key_of step test apart (step s x) xs r.1 ∙ tally_same key_of (key_of x) (test (step s x)) (test s) xs r.0 (λ y b. apart s x y b) in
    ap (λ n. bit (test s x) + n) rest

-- a test that no earlier element turns: the count in turn is the count at the start
pub steps_count : {S T : Type 0} (key_of : T → ℕ × ℕ) (step : S → T → S) (test : S → T → Bool) → ((s : S) (x y : T) → before (key_of x) (key_of y) ≡ true → test (step s x) y ≡ test s y) → (s : S) (xs : List T) → Rises key_of xs → count_steps step test s xs ≡ count_by (test s) xs
steps_count key_of step test apart s xs r = steps_tally key_of step test apart s xs r ∙ tally_is (test s) xs

still_all : {T : Type 0} (key_of : T → ℕ × ℕ) (k : ℕ × ℕ) (P Q : T → Type 0) (xs : List T) → AllAfter key_of k xs → ((y : T) → before k (key_of y) ≡ true → P y → Q y) → AllByRecursion P xs → AllByRecursion Q xs
still_all key_of k P Q [] a h all = tt
still_all key_of k P Q (x ∷ xs) a h all = (h x a.0 all.0, still_all key_of k P Q xs a.1 h all.1)

-- a property that no earlier element takes away: what holds at the start holds in turn
pub all_steps : {S T : Type 0} (key_of : T → ℕ × ℕ) (step : S → T → S) (P : S → T → Type 0) → ((s : S) (x y : T) → before (key_of x) (key_of y) ≡ true → P s y → P (step s x) y) → (s : S) (xs : List T) → Rises key_of xs → AllByRecursion (P s) xs → AllSteps step P s xs
all_steps key_of step P apart s [] r all = tt
all_steps key_of step P apart s (x ∷ xs) r all = (all.0, all_steps key_of step P apart (step s x) xs r.1 (still_all key_of (key_of x) (P s) (P (step s x)) xs r.0 (λ y b p. apart s x y b p) all.1))
