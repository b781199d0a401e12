-- Lists that are written are read as themselves.
use Rattle.std.proofs.Common.{◌≡◌, ◌≤◌, ◌++◌, ℕ, true, false, cond, List, [], ◌∷◌, length, map, Some, nat_le, refl, ap, sym, ◌∙◌, subst, arith, All}
use Rattle.std.specs.List.{AllByRecursion, list_any}
use Rattle.std.proofs.lemmas.Bool.{or_from}
use Rattle.std.proofs.lemmas.Bool.Decides.{nat_tests}
use Rattle.std.proofs.lemmas.List.{length-map}
use Rattle.std.proofs.lemmas.List.Elements.{recursion_from_All}
use Rattle.serde_json.specs.Data.{Data}
use Rattle.serde_json.specs.View.{items_of}
use Rattle.sm_reservation.specs.Rows.{before, AllAfter, Rises}
use Rattle.sm_plan_text.specs.declared.fault.TextFault.{TextFault}
use Rattle.sm_plan_text.specs.declared.fault.TextFault.TheVariants.{Shape, TooMany}
use Rattle.sm_plan_text.specs.declared.member.Member.{Member}
use Rattle.sm_plan_text.specs.Values.{entries}
use Rattle.sm_plan_text.specs.Tables.{keyed, value_faults, list_fault, limit_fault, texts_found, is_same_key, has_double_key, double_faults, walked}
use Rattle.sm_plan_text.specs.PlanTexts.{list_data}
use Rattle.sm_plan_text.proofs.NamesBack.{no_faults}

-- a list that is written of entries has just these
pub entries_back : (ds : List Data) → entries (items_of ds) ≡ ds
entries_back [] = refl
entries_back (d ∷ ds) = ap (λ es. d ∷ es) (entries_back ds)

-- ---- numbers

-- a number within its limit has no fault
pub number_no_fault : (m : Member) (limit n : ℕ) → n ≤ limit → limit_fault m limit (Some n) ≡ []
number_no_fault m limit n h = grind (arith, nat_tests)

-- ---- lists

-- a list that is no longer than its limit has no fault
pub list_no_fault : (m : Member) (limit : ℕ) (ds : List Data) → length ds ≤ limit → list_fault m limit (Some (items_of ds)) ≡ []
list_no_fault m limit ds h = rw (entries_back ds) (within (length ds) h)
  where
    within : (n : ℕ) → n ≤ limit → cond (nat_le n limit) [] (TooMany m ∷ []) ≡ []
    within n k = grind (arith, nat_tests)

-- values that are written of so few have no more
pub mapped_within : {T : Type 0} (f : T → Data) (xs : List T) (n : ℕ) → length xs ≤ n → length (map f xs) ≤ n
mapped_within f xs n h = subst (λ k. k ≤ n) (sym (length-map xs f)) h

entries_clean : {T : Type 0} (f : T → Data) (faults : List Data → Data → List TextFault) (P : T → Type 0) → ((earlier : List Data) (x : T) → P x → faults earlier (f x) ≡ []) → (earlier : List Data) (xs : List T) → AllByRecursion P xs → walked faults earlier (map f xs) ≡ []
entries_clean f faults P clean earlier [] h = refl
entries_clean f faults P clean earlier (x ∷ xs) h = no_faults _ _ (clean earlier x h.0) (entries_clean f faults P clean (earlier ++ f x ∷ []) xs h.1)

-- entries that are written have no fault
pub walk_no_fault : {T : Type 0} (f : T → Data) (faults : List Data → Data → List TextFault) (P : T → Type 0) → ((earlier : List Data) (x : T) → P x → faults earlier (f x) ≡ []) → (xs : List T) → All P xs → walked faults [] (entries (items_of (map f xs))) ≡ []
walk_no_fault f faults P clean xs h = ap (walked faults []) (entries_back (map f xs)) ∙ entries_clean f faults P clean [] xs (recursion_from_All P xs h)

each_read : {T : Type 0} (f : T → Data) (g : Data → T) (P : T → Type 0) → ((x : T) → P x → g (f x) ≡ x) → (xs : List T) → AllByRecursion P xs → map g (map f xs) ≡ xs
each_read f g P read [] h = refl
each_read f g P read (x ∷ xs) h = rw (read x h.0, each_read f g P read xs h.1) refl

-- entries that are written are read as themselves
pub list_read : {T : Type 0} (f : T → Data) (g : Data → T) (P : T → Type 0) → ((x : T) → P x → g (f x) ≡ x) → (xs : List T) → All P xs → map g (entries (items_of (map f xs))) ≡ xs
list_read f g P read xs h = ap (map g) (entries_back (map f xs)) ∙ each_read f g P read xs (recursion_from_All P xs h)

-- ---- keys

other_keys : {T : Type 0} (key : List Member) (key_of : T → ℕ × ℕ) (f : T → Data) (P : T → Type 0) → ((x y : T) → P x → P y → before (key_of x) (key_of y) ≡ true → is_same_key (texts_found key (f x)) (texts_found key (f y)) ≡ false)
    → (x : T) → P x → (ys : List T) → AllByRecursion P ys → AllAfter key_of (key_of x) ys → list_any (is_same_key (texts_found key (f x))) (map (texts_found key) (map f ys)) ≡ false
other_keys key key_of f P differ x p [] h after = refl
other_keys key key_of f P differ x p (y ∷ ys) h after = or_from _ _ (differ x y p h.0 after.0) (other_keys key key_of f P differ x p ys h.1 after.1)

single_keys : {T : Type 0} (key : List Member) (key_of : T → ℕ × ℕ) (f : T → Data) (P : T → Type 0) → ((x y : T) → P x → P y → before (key_of x) (key_of y) ≡ true → is_same_key (texts_found key (f x)) (texts_found key (f y)) ≡ false)
    → (xs : List T) → AllByRecursion P xs → Rises key_of xs → has_double_key (map (texts_found key) (map f xs)) ≡ false
single_keys key key_of f P differ [] h rises = refl
single_keys key key_of f P differ (x ∷ xs) h rises = or_from _ _ (other_keys key key_of f P differ x h.0 xs h.1 rises.0) (single_keys key key_of f P differ xs h.1 rises.1)

-- a list that is no longer than its limit, and whose entries rise by their keys, has no fault
pub keyed_no_fault : {T : Type 0} (m : Member) (limit : ℕ) (key : List Member) (key_of : T → ℕ × ℕ) (f : T → Data) (P : T → Type 0) → ((x y : T) → P x → P y → before (key_of x) (key_of y) ≡ true → is_same_key (texts_found key (f x)) (texts_found key (f y)) ≡ false)
    → (xs : List T) → length xs ≤ limit → All P xs → Rises key_of xs → value_faults m (keyed limit key) (list_data (map f xs)) ≡ []
keyed_no_fault m limit key key_of f P differ xs few h rises =
    no_faults _ _ (list_no_fault m limit (map f xs) (mapped_within f xs limit few))
    (ap (double_faults m key) (entries_back (map f xs))
    ∙ ap (λ b. cond b (Shape m ∷ []) []) (single_keys key key_of f P differ xs (recursion_from_All P xs h) rises))
