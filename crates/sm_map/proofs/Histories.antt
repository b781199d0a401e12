-- Lists of entries: what a store adds, and that what was seen or stored earlier is the newest entry or an older one.
use Rattle.std.proofs.Common.{◌≡◌, ◌≢◌, inl, inr, ℕ, zero, suc, ◌+◌, ◌<◌, ◌≤◌, List, [], ◌∷◌, ◌++◌, map, length, Bool, true, false, refl, sym, ap, ◌∙◌, subst, arith, eqb, eq-eqb, ne_eqb}
use Rattle.std.specs.Prelude.{slice_index, slice_index_or, if◌then◌else◌, Option, Some, None, All, Contains}
use Rattle.std.proofs.lemmas.List.Elements.{All-nil, All-cons, All-head, All-tail, Contains-get_or}
use mathlib.Core.Logic.{dite}
use native.Mathlib.Decide.{ℕ_discrete}
use Rattle.sm_placement.specs.declared.entry.Entry.{Entry}
use Rattle.sm_map.specs.Entry.{word_for, IsKnownServer, IsInRange}
use Rattle.sm_map.specs.History.{opened_at, entries_of_shard, newest, Follows, VersionsRise, IsSameOrOlder, AllSameOrOlder, IsNotBefore, AllStand, word_at, words_for}

-- an entry that is in range stays so for a larger count
pub in_range_more : (few many : ℕ) (entry : Entry) → few ≤ many → IsInRange few entry → IsInRange many entry
in_range_more few many entry more good = (below_more entry.server good.0, good.1)
  where
    below_more : (server : Option ℕ) → IsKnownServer few server → IsKnownServer many server
    below_more None below = tt
    below_more (Some server) below = omega arith

-- what is next to the first in a rising list, or older than that, is older than the first
older : (first next entry : Entry) → first.version ≡ next.version + 1 → IsSameOrOlder next entry → entry.version < first.version
older first next entry up (inl is) = let same : entry.version ≡ next.version = ap (λ (e : Entry). e.version) is in omega arith
older first next entry up (inr below) = omega arith

-- an entry of a rising list is the first, or older
same_or_older : (first : Entry) (rest : List Entry) (entry : Entry) → VersionsRise (first ∷ rest) → Contains (first ∷ rest) entry → IsSameOrOlder first entry
same_or_older first rest entry rises (zero, inside, is) = inl (sym is)
same_or_older first [] entry rises (suc k, inside, is) = absurd (omega arith)
same_or_older first (next ∷ rest) entry rises (suc k, inside, is) = inr (older first next entry rises.0 (same_or_older next rest entry rises.1 (k, omega arith, is)))

opened_some : (opening : List Entry) (shard : ℕ) → shard < length opening → (entry : Entry) × (opened_at opening shard ≡ entry ∷ [])
opened_some [] shard inside = absurd (omega arith)
opened_some (first ∷ opening) zero inside = (first, refl)
opened_some (first ∷ opening) (suc shard) inside = opened_some opening shard (omega arith)

-- a shard's list begins with some entry
pub some_newest : (opening : List Entry) (stores : List (ℕ × Entry)) (shard : ℕ) → shard < length opening → (entry : Entry) × (rest : List Entry) × (entries_of_shard opening stores shard ≡ entry ∷ rest)
some_newest opening [] shard inside = let first = opened_some opening shard inside in (first.0, [], first.1)
some_newest opening (x ∷ xs) shard inside = begins (eqb x.0 shard) (some_newest opening xs shard inside)
  where
    before : List Entry
    before = entries_of_shard opening xs shard

    begins : (here : Bool) → (entry : Entry) × (rest : List Entry) × (before ≡ entry ∷ rest) → (entry : Entry) × (rest : List Entry) × ((if here then x.1 ∷ before else before) ≡ entry ∷ rest)
    begins true was = (x.1, before, refl)
    begins false was = was

-- the list of a shard after a store, by the two cases that it may be of this shard or of another
pub after_store : (opening : List Entry) (stores : List (ℕ × Entry)) (stored shard : ℕ) (entry : Entry) (P : List Entry → Type 0) → (stored ≡ shard → P (entry ∷ entries_of_shard opening stores shard)) → (stored ≢ shard → P (entries_of_shard opening stores shard)) → P (entries_of_shard opening ((stored, entry) ∷ stores) shard)
after_store opening stores stored shard entry P here there = dite (ℕ_discrete stored shard)
    (λ t. subst (λ (b : Bool). P (if b then entry ∷ entries_of_shard opening stores shard else entries_of_shard opening stores shard)) (sym (eq-eqb stored shard t)) (here t))
    (λ t. subst (λ (b : Bool). P (if b then entry ∷ entries_of_shard opening stores shard else entries_of_shard opening stores shard)) (sym (ne_eqb stored shard t)) (there t))

contains_more : (first entry : Entry) (rest : List Entry) → Contains rest entry → Contains (first ∷ rest) entry
contains_more first entry rest (k, inside, is) = (suc k, omega arith, is)

-- what stood in the lists stands in them after a store
pub stand_after : (opening : List Entry) (stores : List (ℕ × Entry)) (stored : ℕ) (entry : Entry) (seen : List (ℕ × Entry)) → AllStand opening stores seen → AllStand opening ((stored, entry) ∷ stores) seen
stand_after opening stores stored entry seen stand k d inside =
    let x = slice_index_or seen k d in
    after_store opening stores stored x.0 entry (λ l. Contains l x.1) (λ _. contains_more entry x.1 (entries_of_shard opening stores x.0) (stand k d inside)) (λ _. stand k d inside)

-- one more entry that stands
pub stand_more : (opening : List Entry) (stores : List (ℕ × Entry)) (shard : ℕ) (entry : Entry) (rest : List Entry) (seen : List (ℕ × Entry)) → entries_of_shard opening stores shard ≡ entry ∷ rest → AllStand opening stores seen → AllStand opening stores ((shard, entry) ∷ seen)
stand_more opening stores shard entry rest seen is stand =
    All-cons (λ (x : ℕ × Entry). Contains (entries_of_shard opening stores x.0) x.1) (shard, entry) seen (subst (λ (l : List Entry). Contains l entry) (sym is) (zero, omega arith, refl)) stand

-- what was seen of a shard is its newest entry, or older
pub all_same_or_older : (opening : List Entry) (stores seen : List (ℕ × Entry)) (shard : ℕ) (entry : Entry) (rest : List Entry) → VersionsRise (entry ∷ rest) → entries_of_shard opening stores shard ≡ entry ∷ rest → AllStand opening stores seen → AllSameOrOlder seen shard entry
all_same_or_older opening stores seen shard entry rest rises is stand k d inside same =
    let x = slice_index_or seen k d in
    same_or_older entry rest x.1 rises (subst (λ (l : List Entry). Contains l x.1) is (subst (λ (j : ℕ). Contains (entries_of_shard opening stores j) x.1) same (stand k d inside)))

-- what stood in a shard's list stands in it however much is stored later
stays : (opening : List Entry) (later stores : List (ℕ × Entry)) (shard : ℕ) (entry : Entry) → Contains (entries_of_shard opening stores shard) entry → Contains (entries_of_shard opening (later ++ stores) shard) entry
stays opening [] stores shard entry stood = stood
stays opening (x ∷ later) stores shard entry stood =
    let all = later ++ stores in
    let still = stays opening later stores shard entry stood in
    after_store opening all x.0 shard x.1 (λ l. Contains l entry) (λ _. contains_more x.1 entry (entries_of_shard opening all shard) still) (λ _. still)

-- what a shard had earlier is its newest entry, or older
pub is_not_before : (opening : List Entry) (stores later since : List (ℕ × Entry)) (shard : ℕ) (entry : Entry) (rest : List Entry) → VersionsRise (entry ∷ rest) → entries_of_shard opening stores shard ≡ entry ∷ rest → stores ≡ later ++ since → IsNotBefore opening since shard entry
is_not_before opening stores later since shard entry rest rises is earlier k d inside =
    let old = slice_index_or (entries_of_shard opening since shard) k d in
    let now : Contains (entries_of_shard opening (later ++ since) shard) old = stays opening later since shard old (Contains-get_or (entries_of_shard opening since shard) k d inside) in
    same_or_older entry rest old rises (subst (λ (l : List Entry). Contains l old) ((λ j. entries_of_shard opening (sym earlier j) shard) ∙ is) now)

-- a list that rises goes on rising by an entry that follows
pub rises_more : (entries : List Entry) (entry : Entry) → Follows entries entry → VersionsRise entries → VersionsRise (entry ∷ entries)
rises_more [] entry follows rises = tt
rises_more (last ∷ entries) entry follows rises = (follows, rises)

long_words : (opening : List Entry) → length opening ≤ length (map word_for opening)
long_words [] = omega arith
long_words (entry ∷ opening) = let more = long_words opening in omega arith

-- there are as many words as shards, or more
pub enough_words : (opening : List Entry) → length opening ≤ length (words_for opening)
enough_words [] = omega arith
enough_words (entry ∷ opening) = long_words (entry ∷ opening)

word_of_each : (opening : List Entry) (shard : ℕ) → slice_index (map word_for opening) shard ≡ word_at (newest (opened_at opening shard))
word_of_each [] shard = refl
word_of_each (entry ∷ opening) zero = refl
word_of_each (entry ∷ opening) (suc shard) = word_of_each opening shard

-- at the opening each word is that of its shard's entry
pub first_words : (opening : List Entry) (shard : ℕ) → slice_index (words_for opening) shard ≡ word_at (newest (opened_at opening shard))
first_words [] zero = refl
first_words [] (suc shard) = refl
first_words (entry ∷ opening) shard = word_of_each (entry ∷ opening) shard

-- at the opening the versions of each shard's entries rise
pub first_rises : (opening : List Entry) (shard : ℕ) → VersionsRise (opened_at opening shard)
first_rises [] shard = tt
first_rises (entry ∷ opening) zero = tt
first_rises (entry ∷ opening) (suc shard) = first_rises opening shard

-- where the entries of the opening are in range, each shard's entries are
pub first_in_range : (servers : ℕ) (opening : List Entry) (shard : ℕ) → All (IsInRange servers) opening → All (IsInRange servers) (opened_at opening shard)
first_in_range servers [] shard good = All-nil (IsInRange servers)
first_in_range servers (entry ∷ opening) zero good = All-cons (IsInRange servers) entry [] (All-head (IsInRange servers) entry opening good) (All-nil (IsInRange servers))
first_in_range servers (entry ∷ opening) (suc shard) good = first_in_range servers opening shard (All-tail (IsInRange servers) entry opening good)
