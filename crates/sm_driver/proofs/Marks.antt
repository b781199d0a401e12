-- Marks by number: those for which some item passes.
use Rattle.std.proofs.Common.{◌≡◌, ◌∙◌, ◌+◌, ◌<◌, ◌≤◌, ◌||◌, ℕ, Bool, false, List, ap, arith, get_or, inl, inr, length, map, sym, take}
use Rattle.std.specs.List.{list_any, range_with_len}
use Rattle.std.proofs.lemmas.Bool.{cases_eq}
use Rattle.std.proofs.lemmas.List.{take_all}
use Rattle.std.proofs.lemmas.List.Folds.{list_any_more}
use Rattle.std.proofs.lemmas.List.FromFn.{fill_by_all}

-- a mark for each of so many numbers: whether one of the first n items passes for it
pub record HasMarks {A : Type 0} (p : ℕ → A → Bool) (xs : List A) (n places : ℕ) (marks : List Bool) : Type 0 where
  pub count : length marks ≡ places
  pub marked : (s : ℕ) → s < places → get_or marks s false ≡ list_any (p s) (take n xs)

-- the marks by the next item, too
pub mark_next : {A : Type 0} (p : ℕ → A → Bool) (xs : List A) (n places : ℕ) (d : A) (old new : List Bool) → n < length xs → HasMarks p xs n places old →
    length new ≡ length old → ((s : ℕ) → s < length old → get_or new s false ≡ (get_or old s false || p s (get_or xs n d))) → HasMarks p xs (n + 1) places new
mark_next p xs n places d old new l has same marked = record {
  count = same ∙ has.count;
  marked = λ s h.
      marked s (rw (← has.count) at h)
      ∙ ap (λ b. b || p s (get_or xs n d)) (has.marked s h)
      ∙ sym (list_any_more (p s) xs n d l);
}

-- the marks by all items
pub marks_all : {A : Type 0} (p : ℕ → A → Bool) (xs : List A) (n places : ℕ) (marks : List Bool) → length xs ≤ n → HasMarks p xs n places marks →
    marks ≡ map (λ s. list_any (p s) xs) (range_with_len 0 places)
marks_all p xs n places marks l has =
    fill_by_all (λ s. list_any (p s) xs) marks places false has.count (λ s h. has.marked s h ∙ ap (list_any (p s)) (take_all n xs l))

-- no number up to the next passes
pub below_more : (p : ℕ → Bool) (n : ℕ) → ((v : ℕ) → v < n → p v ≡ false) → p n ≡ false → (v : ℕ) → v < n + 1 → p v ≡ false
below_more p n below here v l = elim (cases_eq v n) [
  | inl same ↦ ap p same ∙ here
  | inr apart ↦ below v (omega arith)
]
