-- What servers tell, and the orders to them, one after the other.
use Rattle.std.proofs.Common.{◌≡◌, ◌∙◌, ◌+◌, ◌<◌, ◌≤◌, ◌++◌, ◌∷◌, ◌||◌, [], ℕ, Bool, true, false, List, Option, Some, None, ap, get_or, length, map, refl, sym, take}
use Rattle.std.specs.Prelude.{if◌then◌else◌}
use Rattle.std.specs.List.{filter, list_any, range_with_len}
use Rattle.std.specs.Option.{option_or}
use Rattle.std.proofs.Math.Bool.{or-false}
use Rattle.std.proofs.lemmas.List.{take_all, take_more}
use Rattle.std.proofs.lemmas.List.Elements.{filter-append, filter_more}
use Rattle.std.proofs.lemmas.List.Folds.{list_any-append}
use Rattle.std.proofs.lemmas.List.FromFn.{fill_by_all}
use Rattle.sm_placement.specs.Setup.{Setup}
use Rattle.smpland_lines.specs.declared.slots.SlotText.{SlotText}
use Rattle.smpland_state.specs.Audit.{is_unknown_shard, last_passing}
use Rattle.smpland_state.proofs.Written.{range_more}

-- some number below n + 1 passes if some below n does, or n
pub any_number : (p : ℕ → Bool) (n : ℕ) → list_any p (range_with_len 0 (n + 1)) ≡ (list_any p (range_with_len 0 n) || p n)
any_number p n =
    ap (list_any p) (range_more n) ∙ list_any-append p (range_with_len 0 n) (n ∷ []) ∙ ap (λ b. list_any p (range_with_len 0 n) || b) (or-false (p n))

-- those of the numbers below n + 1 that pass are those below n, and n if it passes
pub filter_number : (p : ℕ → Bool) (n : ℕ) → filter p (range_with_len 0 (n + 1)) ≡ filter p (range_with_len 0 n) ++ (if p n then n ∷ [] else [])
filter_number p n = ap (filter p) (range_more n) ∙ filter-append p (range_with_len 0 n) (n ∷ [])

-- one more item comes last, if it passes
last_passing_more : {A : Type 0} (p : A → Bool) (xs : List A) (x : A) → last_passing p (xs ++ x ∷ []) ≡ (if p x then Some x else last_passing p xs)
last_passing_more p [] x = by_test (p x)
  where
    by_test : (b : Bool) → (if b then Some x else None) ≡ (if b then Some x else None)
    by_test b = refl
last_passing_more p (y ∷ xs) x = ap (λ o. option_or o (if p y then Some y else None)) (last_passing_more p xs x) ∙ by_test (p x)
  where
    by_test : (b : Bool) → option_or (if b then Some x else last_passing p xs) (if p y then Some y else None)
        ≡ (if b then Some x else option_or (last_passing p xs) (if p y then Some y else None))
    by_test true = refl
    by_test false = refl

-- what is put for one more item
put_more : {A : Type 0} (p : ℕ → A → Bool) (xs : List A) (n count : ℕ) (d : A) (old new : ℕ → Option A) → n < length xs →
    ((s : ℕ) → s < count → old s ≡ last_passing (p s) (take n xs)) →
    ((s : ℕ) → s < count → new s ≡ (if p s (get_or xs n d) then Some (get_or xs n d) else old s)) →
    (s : ℕ) → s < count → new s ≡ last_passing (p s) (take (n + 1) xs)
put_more p xs n count d old new l before after s h =
    after s h ∙ ap (λ o. if p s (get_or xs n d) then Some (get_or xs n d) else o) (before s h)
    ∙ sym (last_passing_more (p s) (take n xs) (get_or xs n d)) ∙ sym (ap (last_passing (p s)) (take_more xs n d l))

-- a place for each of so many shards, with the last of the first n items that pass for it
pub record HasLast {A : Type 0} (p : ℕ → A → Bool) (xs : List A) (n places : ℕ) (items : List (Option A)) : Type 0 where
  pub count : length items ≡ places
  pub last : (s : ℕ) → s < places → get_or items s None ≡ last_passing (p s) (take n xs)

-- the next item is put
pub put_next : {A : Type 0} (p : ℕ → A → Bool) (xs : List A) (n count : ℕ) (d : A) (old new : List (Option A)) → n < length xs → HasLast p xs n count old →
    length new ≡ length old → ((s : ℕ) → s < length old → get_or new s None ≡ (if p s (get_or xs n d) then Some (get_or xs n d) else get_or old s None)) →
    HasLast p xs (n + 1) count new
put_next p xs n count d old new l has same put = record {
  count = same ∙ has.count;
  last = put_more p xs n count d (λ s. get_or old s None) (λ s. get_or new s None) l has.last (λ s h. put s (rw (← has.count) at h));
}

-- all items are put
pub put_all : {A : Type 0} (p : ℕ → A → Bool) (xs : List A) (n count : ℕ) (items : List (Option A)) → length xs ≤ n → HasLast p xs n count items →
    items ≡ map (λ s. last_passing (p s) xs) (range_with_len 0 count)
put_all p xs n count items l has =
    fill_by_all (λ s. last_passing (p s) xs) items count None has.count (λ s h. has.last s h ∙ ap (last_passing (p s)) (take_all n xs l))

-- the slots whose shards are not recorded, and the next if it is one
pub unknown_shards_more : (setup : Setup) (slots : List SlotText) (n : ℕ) (d : SlotText) (old new : List SlotText) → n < length slots →
    old ≡ filter (is_unknown_shard setup) (take n slots) → new ≡ old ++ (if is_unknown_shard setup (get_or slots n d) then get_or slots n d ∷ [] else []) →
    new ≡ filter (is_unknown_shard setup) (take (n + 1) slots)
unknown_shards_more setup slots n d old new l before after =
    after ∙ ap (λ xs. xs ++ (if is_unknown_shard setup (get_or slots n d) then get_or slots n d ∷ [] else [])) before ∙ sym (filter_more (is_unknown_shard setup) slots n d l)
