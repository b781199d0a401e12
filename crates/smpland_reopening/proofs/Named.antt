-- Shards that are named, and those that may be lost.
use Rattle.std.proofs.Common.{◌≡◌, ◌∙◌, ◌⊎◌, ◌+◌, ◌<◌, ◌≤◌, ℕ, Bool, true, false, List, Option, Some, None, ap, get_or, inl, inr, length, refl, subst, sym, take}
use Rattle.std.specs.Prelude.{◌==◌, ◌||◌, IfNone}
use Rattle.std.specs.Option.{option_or}
use Rattle.std.proofs.lemmas.Bool.{cases_Bool, eqb-true}
use Rattle.std.proofs.lemmas.List.{take_all}
use Rattle.std.proofs.lemmas.List.Folds.{list_any_more}
use Rattle.smpland_reopening.specs.Proposal.{is_shard_among}

-- all of the first shards are among the second
abbrev pub AreAmong : List ℕ → List ℕ → Type 0
AreAmong shards others = (s : ℕ) → is_shard_among shards s ≡ true → is_shard_among others s ≡ true

-- one more shard is
pub among_more : (shards others : List ℕ) (n x : ℕ) → n < length shards → x ≡ get_or shards n x → AreAmong (take n shards) others →
    is_shard_among others x ≡ true → AreAmong (take (n + 1) shards) others
among_more shards others n x l is before has s named = by_test (cases_Bool (is_shard_among (take n shards) s))
  where
    more : is_shard_among (take (n + 1) shards) s ≡ (is_shard_among (take n shards) s || (get_or shards n x == s))
    more = list_any_more (λ k. k == s) shards n x l

    by_test : (is_shard_among (take n shards) s ≡ true) ⊎ (is_shard_among (take n shards) s ≡ false) → is_shard_among others s ≡ true
    by_test (inl is_there) = before s is_there
    by_test (inr is_not) =
        let this : (get_or shards n x == s) ≡ true = ap (λ b. b || (get_or shards n x == s)) (sym is_not) ∙ sym more ∙ named in
        subst (λ k. is_shard_among others k ≡ true) (is ∙ eqb-true (get_or shards n x) s this) has

-- all have been looked at
pub among_all : (shards others : List ℕ) (n : ℕ) → length shards ≤ n → AreAmong (take n shards) others → AreAmong shards others
among_all shards others n l all = subst (λ ks. AreAmong ks others) (take_all n shards l) all

-- each of two lists is among the other
pub among_both : (shards others : List ℕ) → AreAmong shards others → AreAmong others shards → (s : ℕ) → is_shard_among others s ≡ is_shard_among shards s
among_both shards others here there s = by_test (cases_Bool (is_shard_among shards s)) (cases_Bool (is_shard_among others s))
  where
    by_test : (is_shard_among shards s ≡ true) ⊎ (is_shard_among shards s ≡ false) → (is_shard_among others s ≡ true) ⊎ (is_shard_among others s ≡ false) →
        is_shard_among others s ≡ is_shard_among shards s
    by_test (inl is_there) _ = here s is_there ∙ sym is_there
    by_test (inr is_not) (inl is_there) = absurd (let z : false ≡ true = sym is_not ∙ there s is_there in cc)
    by_test (inr is_not) (inr too) = too ∙ sym is_not

-- so they are, if neither look finds a shard that is not
pub among_if_none : {A : Type 0} (one other : Option A) (shards others : List ℕ) → IfNone one (AreAmong shards others) →
    IfNone other (AreAmong others shards) → IfNone (option_or one other) ((s : ℕ) → is_shard_among others s ≡ is_shard_among shards s)
among_if_none None None shards others here there = among_both shards others here there
among_if_none None (Some y) shards others here there = tt
among_if_none (Some x) other shards others here there = tt
