-- An object ends by itself, whatever stands behind it, and stands on one line.
use Rattle.std.proofs.Common.{◌≡◌, ◌⊎◌, inl, inr, ℕ, suc, ◌+◌, Bool, true, false, if◌then◌else◌, ◌==◌, List, [], ◌∷◌, ◌++◌, length, take, Option, Some, None, option_map, refl, sym, ◌∙◌, ap, subst, arith}
use Rattle.std.specs.List.{All}
use Rattle.std.proofs.lemmas.Bool.{eqb-false}
use Rattle.std.proofs.lemmas.Bool.Decides.{nat_tests}
use Rattle.std.proofs.lemmas.List.{nil_from_length}
use Rattle.std.proofs.lemmas.List.Elements.{All-nil, All-cons}
use Rattle.std.proofs.lemmas.Option.{none-some, same_Some}
use Rattle.journal_lines.specs.declared.objects.Quoting.{Quoting}
use Rattle.journal_lines.specs.declared.objects.Quoting.TheVariants.{Outside}
use Rattle.journal_lines.specs.Objects.{quoting_after, depth_after, is_last, closed_length, object_length, IsObject}

-- one byte of `closed_length`, with its tests and what comes of the rest
abbrev chosen : Bool → Bool → Option ℕ → Option ℕ
chosen feed last rest = if feed then None else if last then Some 1 else option_map (λ n. n + 1) rest

-- what is found of the rest decides
chosen_alike : (feed last : Bool) (o p : Option ℕ) (n : ℕ) → ((m : ℕ) → o ≡ Some m → p ≡ Some m) → chosen feed last o ≡ Some n → chosen feed last p ≡ Some n
chosen_alike true last o p n alike is = is
chosen_alike false true o p n alike is = is
chosen_alike false false None p n alike is = absurd (none-some n is)
chosen_alike false false (Some m) p n alike is = ap (option_map (λ k. k + 1)) (alike m refl) ∙ is

-- where something is found, there was no line feed, and this is the last, or the rest is found
chosen_cases : (feed last : Bool) (o : Option ℕ) (n : ℕ) → chosen feed last o ≡ Some n
    → (feed ≡ false) × (((last ≡ true) × (n ≡ 1)) ⊎ ((m : ℕ) × (last ≡ false) × (n ≡ suc m) × (o ≡ Some m)))
chosen_cases true last o n is = absurd (none-some n is)
chosen_cases false true o n is = (refl, inl (refl, sym (same_Some 1 n is)))
chosen_cases false false None n is = absurd (none-some n is)
chosen_cases false false (Some m) n is = (refl, inr (m, refl, sym (same_Some (m + 1) n is) ∙ omega arith, refl))

chosen_last : (feed last : Bool) (o : Option ℕ) → feed ≡ false → last ≡ true → chosen feed last o ≡ Some 1
chosen_last feed last o no_feed is_last = rw (no_feed, is_last) refl

chosen_more : (feed last : Bool) (o : Option ℕ) (m : ℕ) → feed ≡ false → last ≡ false → o ≡ Some m → chosen feed last o ≡ Some (suc m)
chosen_more feed last o m no_feed not_last found = rw (no_feed, not_last, found) (ap Some (omega arith))

closed_length-append : (q : Quoting) (d : ℕ) (xs ys : List ℕ) (n : ℕ) → closed_length q d xs ≡ Some n → closed_length q d (xs ++ ys) ≡ Some n
closed_length-append q d [] ys n is = absurd (none-some n is)
closed_length-append q d (b ∷ xs) ys n is =
    chosen_alike (b == 10) (is_last q d b) (closed_length (quoting_after q b) (depth_after q d b) xs) (closed_length (quoting_after q b) (depth_after q d b) (xs ++ ys)) n
    (closed_length-append (quoting_after q b) (depth_after q d b) xs ys) is

-- what is found needs no more than its own bytes
closed_length-take : (q : Quoting) (d : ℕ) (xs : List ℕ) (n : ℕ) → closed_length q d xs ≡ Some n → closed_length q d (take n xs) ≡ Some n
closed_length-take q d [] n is = absurd (none-some n is)
closed_length-take q d (b ∷ xs) n is =
    let parts = chosen_cases (b == 10) (is_last q d b) (closed_length (quoting_after q b) (depth_after q d b) xs) n is in
    of_rest parts.0 (closed_length-take (quoting_after q b) (depth_after q d b) xs) parts.1
  where
    of_rest : (b == 10) ≡ false → ((m : ℕ) → closed_length (quoting_after q b) (depth_after q d b) xs ≡ Some m → closed_length (quoting_after q b) (depth_after q d b) (take m xs) ≡ Some m)
        → ((is_last q d b ≡ true) × (n ≡ 1)) ⊎ ((m : ℕ) × (is_last q d b ≡ false) × (n ≡ suc m) × (closed_length (quoting_after q b) (depth_after q d b) xs ≡ Some m)) → closed_length q d (take n (b ∷ xs)) ≡ Some n
    of_rest no_feed again (inl (last, one)) =
        subst (λ (k : ℕ). closed_length q d (take k (b ∷ xs)) ≡ Some k) (sym one) (chosen_last (b == 10) (is_last q d b) (closed_length (quoting_after q b) (depth_after q d b) []) no_feed last)
    of_rest no_feed again (inr (m, not_last, more, found)) =
        subst (λ (k : ℕ). closed_length q d (take k (b ∷ xs)) ≡ Some k) (sym more)
        (chosen_more (b == 10) (is_last q d b) (closed_length (quoting_after q b) (depth_after q d b) (take m xs)) m no_feed not_last (again m found))

closed_has_no_feed : (q : Quoting) (d : ℕ) (xs : List ℕ) → closed_length q d xs ≡ Some (length xs) → All (λ b. b ≡ 10 → ⊥) xs
closed_has_no_feed q d [] is = absurd (none-some 0 is)
closed_has_no_feed q d (b ∷ xs) is =
    let parts = chosen_cases (b == 10) (is_last q d b) (closed_length (quoting_after q b) (depth_after q d b) xs) (suc (length xs)) is in
    All-cons (λ b. b ≡ 10 → ⊥) b xs (eqb-false b 10 parts.0) (behind (closed_has_no_feed (quoting_after q b) (depth_after q d b) xs) parts.1)
  where
    behind : (closed_length (quoting_after q b) (depth_after q d b) xs ≡ Some (length xs) → All (λ b. b ≡ 10 → ⊥) xs)
        → ((is_last q d b ≡ true) × (suc (length xs) ≡ 1)) ⊎ ((m : ℕ) × (is_last q d b ≡ false) × (suc (length xs) ≡ suc m) × (closed_length (quoting_after q b) (depth_after q d b) xs ≡ Some m)) → All (λ b. b ≡ 10 → ⊥) xs
    behind again (inl (last, one)) = subst (All (λ b. b ≡ 10 → ⊥)) (sym (nil_from_length xs (omega (arith, one)))) (All-nil (λ b. b ≡ 10 → ⊥))
    behind again (inr (m, not_last, more, found)) =
        let same : m ≡ length xs = omega (arith, more) in
        again (found ∙ ap Some same)

-- the first byte of `object_length`, with its test and what comes of the rest
abbrev begun : Bool → Option ℕ → Option ℕ
begun brace rest = if brace then option_map (λ n. n + 1) rest else None

begun_alike : (brace : Bool) (o p : Option ℕ) (n : ℕ) → ((m : ℕ) → o ≡ Some m → p ≡ Some m) → begun brace o ≡ Some n → begun brace p ≡ Some n
begun_alike true None p n alike is = absurd (none-some n is)
begun_alike true (Some m) p n alike is = ap (option_map (λ k. k + 1)) (alike m refl) ∙ is
begun_alike false o p n alike is = absurd (none-some n is)

begun_cases : (brace : Bool) (o : Option ℕ) (n : ℕ) → begun brace o ≡ Some n → (brace ≡ true) × ((m : ℕ) × (n ≡ m + 1) × (o ≡ Some m))
begun_cases true None n is = absurd (none-some n is)
begun_cases true (Some m) n is = (refl, (m, sym (same_Some (m + 1) n is), refl))
begun_cases false o n is = absurd (none-some n is)

-- an object at the front is found, whatever stands behind it
pub object_length-append : (xs ys : List ℕ) (n : ℕ) → object_length xs ≡ Some n → object_length (xs ++ ys) ≡ Some n
object_length-append [] ys n is = absurd (none-some n is)
object_length-append (b ∷ xs) ys n is = begun_alike (b == 123) (closed_length Outside 1 xs) (closed_length Outside 1 (xs ++ ys)) n (closed_length-append Outside 1 xs ys) is

-- the object at the front is an object by itself
pub object_length-take : (xs : List ℕ) (n : ℕ) → object_length xs ≡ Some n → object_length (take n xs) ≡ Some n
object_length-take [] n is = absurd (none-some n is)
object_length-take (b ∷ xs) n is =
    let parts = begun_cases (b == 123) (closed_length Outside 1 xs) n is in
    let m = parts.1.0 in
    let more : n ≡ suc m = omega (arith, parts.1.1) in
    subst (λ (k : ℕ). object_length (take k (b ∷ xs)) ≡ Some k) (sym more) (begun_more (b == 123) (closed_length Outside 1 (take m xs)) m parts.0 (closed_length-take Outside 1 xs m parts.1.2))
  where
    begun_more : (brace : Bool) (o : Option ℕ) (m : ℕ) → brace ≡ true → o ≡ Some m → begun brace o ≡ Some (suc m)
    begun_more brace o m is found = rw (is, found) (ap Some (omega arith))

-- an object stands on one line
pub object_has_no_feed : (xs : List ℕ) → IsObject xs → All (λ b. b ≡ 10 → ⊥) xs
object_has_no_feed [] is = absurd (none-some 0 is)
object_has_no_feed (b ∷ xs) is =
    let parts = begun_cases (b == 123) (closed_length Outside 1 xs) (suc (length xs)) is in
    let same : parts.1.0 ≡ length xs = omega (arith, parts.1.1) in
    All-cons (λ b. b ≡ 10 → ⊥) b xs (λ feed. brace_is_no_feed b parts.0 feed) (closed_has_no_feed Outside 1 xs (parts.1.2 ∙ ap Some same))
  where
    brace_is_no_feed : (b : ℕ) → (b == 123) ≡ true → b ≡ 10 → ⊥
    brace_is_no_feed b brace feed = grind (arith, nat_tests)

-- an object is no empty text
pub object_is_some : (xs : List ℕ) → IsObject xs → xs ≡ [] → ⊥
object_is_some xs is none = none-some 0 (subst (λ (l : List ℕ). object_length l ≡ Some (length l)) none is)
