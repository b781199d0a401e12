-- The content of a JSON object without faults.
use Rattle.std.proofs.Common.{◌≡◌, ◌++◌, ◌<◌, ◌≤◌, ℕ, Bool, true, false, cond, List, [], ◌∷◌, length, get_or, min, Option, Some, None, is_some, option_and_then, option_map, unwrap_or, nat_le, refl, sym, subst, append_assoc, append-nil, arith, true≢false, All, IfSome}
use Rattle.std.specs.List.{flat_map}
use Rattle.std.specs.Str.{bytes_eq}
use Rattle.std.proofs.lemmas.List.Elements.{All-nil, All-cons}
use Rattle.std.proofs.lemmas.List.Quantifiers.{position-Some}
use Rattle.std.proofs.lemmas.Bool.Decides.{nat_tests}
use Rattle.serde_json.specs.Data.{Data, Num, Items}
use Rattle.serde_json.specs.Find.{as_str, as_array, as_number, as_u64}
use Rattle.sm_plan_code.specs.declared.limits.TheConstants.{MOST_NUMBER}
use Rattle.sm_plan_text.specs.declared.fault.TextFault.{TextFault}
use Rattle.sm_plan_text.specs.declared.member.Member.{Member}
use Rattle.sm_plan_text.specs.Faults.{noted, lower_fault}
use Rattle.sm_plan_text.specs.Values.{found, text_in, up_to, whole_number_of, limited, number_in, number_or, entries, items_of, entries_in, number_named, id_of, id_named, id_in}
use Rattle.sm_plan_text.specs.Tables.{one, maybe, whole, text, known, list, known_list, entry_faults, limit_fault, number_fault, text_fault, name_fault, list_fault, found_faults, row_faults, walked}

-- ---- no fault in all, no fault in each part

-- where two parts together have no fault, the first has none
pub nil_left : (xs ys : List TextFault) → xs ++ ys ≡ [] → xs ≡ []
nil_left [] ys h = refl
nil_left (x ∷ xs) ys h = absurd (cc)

-- and neither has the second
pub nil_right : (xs ys : List TextFault) → xs ++ ys ≡ [] → ys ≡ []
nil_right [] ys h = h
nil_right (x ∷ xs) ys h = absurd (cc)

-- once a fault is noted, one is answered
pub noted_some : (best : TextFault) (faults : List TextFault) → noted (Some best) faults ≡ None → ⊥
noted_some best [] h = cc
noted_some best (fault ∷ faults) h = noted_some (lower_fault (Some best) fault) faults h

-- where nothing is answered there is no fault
pub none_noted : (faults : List TextFault) → noted None faults ≡ None → faults ≡ []
none_noted [] h = refl
none_noted (fault ∷ faults) h = absurd (noted_some fault faults h)

-- what each entry without faults has, all entries have
pub walked_entries : (faults : List Data → Data → List TextFault) (P : Data → Type 0) → ((before : List Data) (d : Data) → faults before d ≡ [] → P d) → (before ds : List Data) → walked faults before ds ≡ [] → All P ds
walked_entries faults P from before [] h = All-nil P
walked_entries faults P from before (d ∷ ds) h =
    All-cons P d ds
    (from before d (nil_left (faults before d) (walked faults (before ++ d ∷ []) ds) h))
    (walked_entries faults P from (before ++ d ∷ []) ds (nil_right (faults before d) (walked faults (before ++ d ∷ []) ds) h))

-- what an entry without faults keeps, the walk keeps
pub walked_front : (faults : List Data → Data → List TextFault) (Q : List Data → Type 0) → ((before : List Data) (d : Data) → faults before d ≡ [] → Q before → Q (before ++ d ∷ [])) → (before ds : List Data) → walked faults before ds ≡ [] → Q before → Q (before ++ ds)
walked_front faults Q from before [] h q = subst Q (sym (append-nil before)) q
walked_front faults Q from before (d ∷ ds) h q =
    subst Q (append_assoc before (d ∷ []) ds)
    (walked_front faults Q from (before ++ d ∷ []) ds (nil_right (faults before d) (walked faults (before ++ d ∷ []) ds) h)
    (from before d (nil_left (faults before d) (walked faults (before ++ d ∷ []) ds) h) q))

-- what holds of each value holds of all entries of a list
pub all_entries : {T : Type 0} (P : T → Type 0) → ((x : T) → P x) → (xs : List T) → All P xs
all_entries P h xs = λ i d below. h (get_or xs i d)

-- ---- numbers

pub up_to-le : (limit n : ℕ) → up_to limit n ≤ limit
up_to-le limit n = grind (arith, nat_tests)

-- a number within its limit is read as itself
pub up_to_same : (limit n : ℕ) → n ≤ limit → up_to limit n ≡ n
up_to_same limit n h = grind (arith, nat_tests)

-- a number below a count is below it as it is read, which is 0 above the limit
pub up_to_below : (limit n k : ℕ) → n < k → up_to limit n < k
up_to_below limit n k h = grind (arith, nat_tests)

limited_at : (limit default : ℕ) → default ≤ limit → (o : Option Data) → unwrap_or (option_map (limited limit) o) default ≤ limit
limited_at limit default h None = h
limited_at limit default h (Some d) = up_to-le limit (unwrap_or (whole_number_of d) 0)

-- the number that is read of a member is within its limit
pub number_in-le : (m : Member) (limit : ℕ) (d : Data) → number_in m limit d ≤ limit
number_in-le m limit d = limited_at limit 0 (omega arith) (found m d)

-- and so is one that may be missing, where its default is
pub number_or-le : (default : ℕ) (m : Member) (limit : ℕ) (d : Data) → default ≤ limit → number_or default m limit d ≤ limit
number_or-le default m limit d h = limited_at limit default h (found m d)

-- the branch without a fault was taken
pub if_nil : (b : Bool) (fault : TextFault) → cond b [] (fault ∷ []) ≡ [] → b ≡ true
if_nil true fault h = refl
if_nil false fault h = absurd (cc)

limit_kept : (m : Member) (limit : ℕ) (w : Option ℕ) → limit_fault m limit w ≡ [] → min limit (unwrap_or w limit) ≤ up_to limit (unwrap_or w 0)
limit_kept m limit None h = absurd (cc)
limit_kept m limit (Some w) h = subst (λ b. min limit w ≤ cond b w 0) (sym (if_nil (nat_le w limit) _ h)) (omega arith)

number_kept : (m : Member) (limit : ℕ) (n : Option Num) → number_fault m limit n ≡ [] → min limit (unwrap_or (option_and_then as_u64 n) limit) ≤ up_to limit (unwrap_or (option_and_then as_u64 n) 0)
number_kept m limit None h = absurd (cc)
number_kept m limit (Some n) h = limit_kept m limit (as_u64 n) h

number_kept_at : (m : Member) (limit : ℕ) (o : Option Data) → found_faults (one m (whole limit)) o ≡ [] → min limit (unwrap_or (option_and_then whole_number_of o) limit) ≤ unwrap_or (option_map (limited limit) o) 0
number_kept_at m limit None h = absurd (cc)
number_kept_at m limit (Some d) h = number_kept m limit (as_number d) h

-- a number without a fault is the one that can be read
pub number_is_read : (m : Member) (limit : ℕ) (d : Data) → row_faults d (one m (whole limit)) ≡ [] → min limit (unwrap_or (option_and_then whole_number_of (found m d)) limit) ≤ number_in m limit d
number_is_read m limit d h = number_kept_at m limit (found m d) h

-- ---- texts

passed : (m : Member) (passes : List ℕ → Bool) (s : Option (List ℕ)) → text_fault m passes s ≡ [] → passes (unwrap_or s []) ≡ true
passed m passes None h = absurd (cc)
passed m passes (Some s) h = if_nil (passes s) _ h

passed_at : (m : Member) (passes : List ℕ → Bool) (o : Option Data) → found_faults (one m (text passes)) o ≡ [] → passes (unwrap_or (option_and_then as_str o) []) ≡ true
passed_at m passes None h = absurd (cc)
passed_at m passes (Some d) h = passed m passes (as_str d) h

-- a text without a fault passes the test
pub text_passes : (m : Member) (passes : List ℕ → Bool) (d : Data) → row_faults d (one m (text passes)) ≡ [] → passes (text_in m d) ≡ true
text_passes m passes d h = passed_at m passes (found m d) h

-- ---- names of what is there

number_within : (names : List (List ℕ)) (s : List ℕ) (n : Option ℕ) → number_named names s ≡ n → IfSome (option_map id_of n) (λ id. id < length names)
number_within names s None e = tt
number_within names s (Some i) e = up_to_below MOST_NUMBER i (length names) (position-Some (λ name. bytes_eq s name) names i [] e).0

text_within : (names : List (List ℕ)) (s : Option (List ℕ)) → IfSome (option_map id_of (option_and_then (number_named names) s)) (λ id. id < length names)
text_within names None = tt
text_within names (Some s) = number_within names s (number_named names s) refl

within_at : (names : List (List ℕ)) (o : Option Data) → IfSome (option_and_then (id_named names) o) (λ id. id < length names)
within_at names None = tt
within_at names (Some d) = text_within names (as_str d)

-- an id that a value names is below the count
pub id_within : (names : List (List ℕ)) (m : Member) (d : Data) → IfSome (option_and_then (id_named names) (found m d)) (λ id. id < length names)
id_within names m d = within_at names (found m d)

value_of_some : (n : ℕ) (o : Option ℕ) → is_some o ≡ true → IfSome o (λ id. id < n) → unwrap_or o 0 < n
value_of_some n None e h = absurd (true≢false (sym e))
value_of_some n (Some id) e h = h

some_id : (n : Option ℕ) → is_some n ≡ true → is_some (option_map id_of n) ≡ true
some_id None e = e
some_id (Some i) e = refl

named : (m : Member) (names : List (List ℕ)) (s : Option (List ℕ)) → name_fault m names s ≡ [] → is_some (option_map id_of (option_and_then (number_named names) s)) ≡ true
named m names None h = absurd (cc)
named m names (Some s) h = some_id (number_named names s) (if_nil (is_some (number_named names s)) _ h)

named_at : (m : Member) (names : List (List ℕ)) (o : Option Data) → found_faults (one m (known names)) o ≡ [] → is_some (option_and_then (id_named names) o) ≡ true
named_at m names None h = absurd (cc)
named_at m names (Some d) h = named m names (as_str d) h

-- a reference without a fault names what is there
pub id_known : (m : Member) (names : List (List ℕ)) (d : Data) → row_faults d (one m (known names)) ≡ [] → id_in names m d < length names
id_known m names d h = value_of_some (length names) (option_and_then (id_named names) (found m d)) (named_at m names (found m d) h) (id_within names m d)

-- ---- lists

count_kept : (m : Member) (limit : ℕ) (items : Option Items) → list_fault m limit items ≡ [] → length (unwrap_or (option_map entries items) []) ≤ limit
count_kept m limit None h = absurd (cc)
count_kept m limit (Some items) h =
    let test : nat_le (length (entries items)) limit ≡ true = if_nil (nat_le (length (entries items)) limit) _ h in
    grind (arith, nat_tests)

count_kept_at : (m : Member) (limit : ℕ) (o : Option Data) → found_faults (one m (list limit)) o ≡ [] → length (unwrap_or (option_map items_of o) []) ≤ limit
count_kept_at m limit None h = absurd (cc)
count_kept_at m limit (Some d) h = count_kept m limit (as_array d) h

-- a list without a fault has no more entries than its limit
pub entries_within : (m : Member) (limit : ℕ) (d : Data) → row_faults d (one m (list limit)) ≡ [] → length (entries_in m d) ≤ limit
entries_within m limit d h = count_kept_at m limit (found m d) h

optional_kept : (m : Member) (limit : ℕ) (o : Option Data) → found_faults (maybe m (list limit)) o ≡ [] → length (unwrap_or (option_map items_of o) []) ≤ limit
optional_kept m limit None h = omega arith
optional_kept m limit (Some d) h = count_kept m limit (as_array d) h

-- the same of a list that may be missing
pub optional_within : (m : Member) (limit : ℕ) (d : Data) → row_faults d (maybe m (list limit)) ≡ [] → length (entries_in m d) ≤ limit
optional_within m limit d h = optional_kept m limit (found m d) h

entry_known : (m : Member) (names : List (List ℕ)) (d : Data) → entry_faults m names d ≡ [] → unwrap_or (id_named names d) 0 < length names
entry_known m names d h = value_of_some (length names) (id_named names d) (named m names (as_str d) h) (text_within names (as_str d))

each_known : (m : Member) (names : List (List ℕ)) (ds : List Data) → flat_map (entry_faults m names) ds ≡ [] → All (λ e. unwrap_or (id_named names e) 0 < length names) ds
each_known m names [] h = All-nil (λ e. unwrap_or (id_named names e) 0 < length names)
each_known m names (d ∷ ds) h =
    All-cons (λ e. unwrap_or (id_named names e) 0 < length names) d ds
    (entry_known m names d (nil_left (entry_faults m names d) (flat_map (entry_faults m names) ds) h))
    (each_known m names ds (nil_right (entry_faults m names d) (flat_map (entry_faults m names) ds) h))

names_kept : (m : Member) (limit : ℕ) (names : List (List ℕ)) (o : Option Data) → found_faults (maybe m (known_list limit names)) o ≡ [] → (length (unwrap_or (option_map items_of o) []) ≤ limit) × All (λ e. unwrap_or (id_named names e) 0 < length names) (unwrap_or (option_map items_of o) [])
names_kept m limit names None h = (omega arith, All-nil (λ e. unwrap_or (id_named names e) 0 < length names))
names_kept m limit names (Some d) h = (
  count_kept m limit (as_array d) (nil_left (list_fault m limit (as_array d)) (flat_map (entry_faults m names) (items_of d)) h),
  each_known m names (items_of d) (nil_right (list_fault m limit (as_array d)) (flat_map (entry_faults m names) (items_of d)) h),
)

-- a list of names without a fault has no more entries than its limit, and each names what is there
pub names_known : (m : Member) (limit : ℕ) (names : List (List ℕ)) (d : Data) → row_faults d (maybe m (known_list limit names)) ≡ [] → (length (entries_in m d) ≤ limit) × All (λ e. unwrap_or (id_named names e) 0 < length names) (entries_in m d)
names_known m limit names d h = names_kept m limit names (found m d) h
