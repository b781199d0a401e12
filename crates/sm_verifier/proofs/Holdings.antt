-- The search finds what holds the plan up, and nothing if the plan is admitted.
use Rattle.std.proofs.Common.{◌≡◌, ℕ, ◌+◌, ◌<◌, ◌≤◌, suc, zero, Bool, Option, Some, None, List, length, take, refl, sym, ap, subst, ◌∙◌, inl, inr, ◌⊎◌, arith}
use Rattle.std.specs.Prelude.{All, nat_le, option_map, if◌then◌else◌}
use Rattle.std.specs.Option.{option_or}
use Rattle.std.proofs.lemmas.Bool.{cases_eq, cases_lt, le-leb, lt-leb}
use Rattle.sm_placement.specs.Sums.{first_from}
use Rattle.sm_placement.specs.Setup.{Sizes}
use Rattle.sm_placement.specs.Place.{Place}
use Rattle.sm_placement.proofs.Searches.{cases_Option, first_from_none, none_mapped}
use Rattle.sm_reservation.specs.declared.right.CellRight.{CellRight}
use Rattle.sm_reservation.specs.declared.right.Crown.{Crown}
use Rattle.sm_reservation.specs.declared.right.Key.{Key}
use Rattle.sm_reservation.specs.Key.{IsOrdered}
use Rattle.sm_reservation.specs.Rights.{Rights}
use Rattle.sm_reservation.specs.Hold.{Hold}
use Rattle.sm_reservation.specs.Pool.{true_rights}
use Rattle.sm_plan_code.specs.Plan.{StreamModel, PlanModel, HasOrderedParcels, IsOrderedParcel, IsKnownPlan}
use Rattle.sm_verifier.specs.declared.admission.Holding.{Holding}
use Rattle.sm_verifier.specs.declared.admission.Holding.TheVariants.{Untrue, Taken, ShortRoom, ShortSpare, ServerDown}
use Rattle.sm_verifier.specs.Stream.{no_stream}
use Rattle.sm_verifier.specs.Admission.{IsTrueAt, IsFreeAt, AreTrue, AreFree, AreUp, IsUpWhereMentioned, IsLowest, IsLowestKey, IsFirst, IsAdmitted, IsHolding, declared_room, declared_spare}
use Rattle.sm_verifier.specs.Finding.{holds_cell, holds_crown, is_free_cell, is_free_crown, first_cell, first_crown, IsFree}
use Rattle.sm_verifier.specs.Downs.{down_in_streams}
use Rattle.sm_verifier.specs.FirstHolding.{first_key, declared_rights, first_untrue, first_taken, first_short_room, first_short_spare, first_holding, DecidesHolding}
use Rattle.sm_verifier.proofs.FirstRows.{Judges, cell_lowest, crown_lowest, all_kept}
use Rattle.sm_verifier.proofs.Judging.{judges_in, judges_free, nothing_past, free_at, lowest_free}
use Rattle.sm_verifier.proofs.Beyond.{no_room_beyond, no_spare_beyond}
use Rattle.sm_verifier.proofs.DownLemmas.{lowest_down, none_down}
use Rattle.sm_verifier.proofs.VerdictCases.{same_holding, admitted_without_holding}
use Rattle.sm_reservation.proofs.ShortLemmas.{no_answer as or_none}

-- ---- answers one after another

or_some : {A : Type 0} (a b : Option A) (x : A) → option_or a b ≡ Some x → (a ≡ Some x) ⊎ ((a ≡ None) × (b ≡ Some x))
or_some None b x e = inr (refl, e)
or_some (Some y) b x e = inl e

map_some : {A B : Type 0} (f : A → B) (o : Option A) (y : B) → option_map f o ≡ Some y → (x : A) × (o ≡ Some x) × (f x ≡ y)
map_some f None y e = cc
map_some f (Some x) y e = (x, refl, cc)

-- the first answer of a search stands at some number, and none stands before it
record IsFirstAnswer {A : Type 0} (f : ℕ → Option A) (from to : ℕ) (x : A) : Type 0 where
  at : ℕ
  low : from ≤ at
  high : at < to
  here : f at ≡ Some x
  before : (j : ℕ) → from ≤ j → j < at → f j ≡ None

first_answer : {A : Type 0} (f : ℕ → Option A) (from n : ℕ) (x : A) → first_from from n f ≡ Some x → IsFirstAnswer f from (from + n) x
first_answer f from zero x e = cc
first_answer f from (suc n) x e = elim (cases_Option (f from)) [
  | inl none ↦
      let rest = first_answer f (from + 1) n x (rw none at e) in
      let low = rest.low in
      let high : rest.at < from + 1 + n = rest.high in
      record {
        at = rest.at;
        low = omega arith;
        high = omega arith;
        here = rest.here;
        before = λ j l m. elim (cases_eq j from) [ inl d ↦ rw d none | inr d ↦ rest.before j (omega arith) m ];
      }
  | inr some ↦ record {
    at = from;
    low = omega arith;
    high = omega arith;
    here = some.1 ∙ (let z = rw some.1 at e in z);
    before = λ j l m. absurd (omega arith);
  }
]

-- ---- keys along the streams

key_lowest : (r : Rights) (cell : CellRight → Bool) (crown : Crown → Bool) (Kept : Key → Type 0) → Judges r cell crown Kept → IsOrdered r → (k : Key) → first_key cell crown r ≡ Some k → IsLowestKey Kept k
key_lowest r cell crown Kept j ordered k e = elim (or_some (first_cell cell r.cells) (first_crown crown r.crowns) k e) [
  | inl here ↦ cell_lowest r cell crown Kept j ordered.cells k here
  | inr past ↦ crown_lowest r cell crown Kept j ordered.crowns past.0 k past.1
]

keys_kept : (r : Rights) (cell : CellRight → Bool) (crown : Crown → Bool) (Kept : Key → Type 0) → Judges r cell crown Kept → first_key cell crown r ≡ None → (k : Key) → Kept k
keys_kept r cell crown Kept j e =
    let both = or_none (first_cell cell r.cells) (first_crown crown r.crowns) e in
    all_kept r cell crown Kept j both.0 both.1

-- a rule that is looked at stream by stream
module _ (count : ℕ) (key_at : ℕ → Option Key) (Kept : ℕ → Key → Type 0) (kept : (i : ℕ) → i < count → key_at i ≡ None → (key : Key) → Kept i key) where
  first_of : ((i : ℕ) → i < count → (key : Key) → key_at i ≡ Some key → IsLowestKey (Kept i) key) → (key : Key) → first_from 0 count key_at ≡ Some key → (i : ℕ) × IsFirst Kept i key
  first_of lowest key e =
      let first = first_answer key_at 0 count key e in
      let high : first.at < 0 + count = first.high in (
        first.at,
        record {
          lowest = lowest first.at (omega arith) key first.here;
          before = λ j less. kept j (omega arith) (first.before j (omega arith) less);
        },
      )

  all_of : ((i : ℕ) → count ≤ i → (key : Key) → Kept i key) → first_from 0 count key_at ≡ None → (i : ℕ) (key : Key) → Kept i key
  all_of past e i = elim (cases_lt i count) [
    | inl less ↦ kept i less (first_from_none key_at 0 count e i (omega arith) (omega arith))
    | inr beyond ↦ past i beyond
  ]

-- ---- true rights, and free ones

ordered_at : (streams : List StreamModel) → All (λ s. IsOrderedParcel s.holds) streams → (i : ℕ) → i < length streams → IsOrdered (declared_rights streams i)
ordered_at streams all i less = (all i no_stream less).ordered

module _ (c : Sizes) (p : Place) (streams : List StreamModel) where
  true_at : (i : ℕ) → i < length streams → first_key (holds_cell (true_rights c p)) (holds_crown (true_rights c p)) (declared_rights streams i) ≡ None → (key : Key) → IsTrueAt c p streams i key
  true_at i less e = keys_kept (declared_rights streams i) _ _ (IsTrueAt c p streams i) (judges_in (declared_rights streams i) (true_rights c p)) e

  untrue_found : All (λ s. IsOrderedParcel s.holds) streams → (key : Key) → first_untrue c p streams ≡ Some key → (i : ℕ) × IsFirst (IsTrueAt c p streams) i key
  untrue_found ordered = first_of (length streams) _ (IsTrueAt c p streams) true_at
      (λ i less key e. key_lowest (declared_rights streams i) _ _ (IsTrueAt c p streams i) (judges_in (declared_rights streams i) (true_rights c p)) (ordered_at streams ordered i less) key e)

  none_untrue : first_untrue c p streams ≡ None → AreTrue c p streams
  none_untrue = all_of (length streams) _ (IsTrueAt c p streams) true_at (λ i past key has. absurd (nothing_past streams i past key has))

module _ (pool : Hold) (streams : List StreamModel) where
  free_judges : (i : ℕ) → Judges (declared_rights streams i) (is_free_cell pool (take i streams)) (is_free_crown pool (take i streams)) (IsFree pool (take i streams) (declared_rights streams i))
  free_judges i = judges_free (declared_rights streams i) pool (take i streams)

  free_here : (i : ℕ) → i < length streams → first_key (is_free_cell pool (take i streams)) (is_free_crown pool (take i streams)) (declared_rights streams i) ≡ None → (key : Key) → IsFreeAt pool streams i key
  free_here i less e key = free_at pool streams i (declared_rights streams i) key refl (keys_kept (declared_rights streams i) _ _ (IsFree pool (take i streams) (declared_rights streams i)) (free_judges i) e key)

  taken_found : All (λ s. IsOrderedParcel s.holds) streams → (key : Key) → first_taken pool streams ≡ Some key → (i : ℕ) × IsFirst (IsFreeAt pool streams) i key
  taken_found ordered = first_of (length streams) _ (IsFreeAt pool streams) free_here
      (λ i less key e. lowest_free pool streams i (declared_rights streams i) key refl (key_lowest (declared_rights streams i) _ _ (IsFree pool (take i streams) (declared_rights streams i)) (free_judges i) (ordered_at streams ordered i less) key e))

  none_taken : first_taken pool streams ≡ None → AreFree pool streams
  none_taken = all_of (length streams) _ (IsFreeAt pool streams) free_here (λ i past key has. absurd (nothing_past streams i past key has))

-- ---- amounts

-- amounts that are declared and had, number by number, with what is said where there are too few
module _ (count : ℕ) (declared had : ℕ → ℕ) (short : ℕ → Holding) where
  abbrev answer : ℕ → Option Holding
  answer n = if nat_le (declared n) (had n) then None else Some (short n)

  answer_none : (n : ℕ) → answer n ≡ None → declared n ≤ had n
  answer_none n e = elim (cases_lt (had n) (declared n)) [
    | inl over ↦ absurd (let z = rw (lt-leb (declared n) (had n) over) at e in cc)
    | inr fine ↦ fine
  ]

  answer_some : (n : ℕ) (h : Holding) → answer n ≡ Some h → (had n < declared n) × (short n ≡ h)
  answer_some n h e = elim (cases_lt (had n) (declared n)) [
    | inl over ↦ (over, let z = rw (lt-leb (declared n) (had n) over) at e in cc)
    | inr fine ↦ absurd (let z = rw (le-leb (declared n) (had n) fine) at e in cc)
  ]

  short_found : (h : Holding) → first_from 0 count answer ≡ Some h → (n : ℕ) × IsLowest (λ n. declared n ≤ had n) n × (short n ≡ h)
  short_found h e =
      let first = first_answer answer 0 count h e in
      let here = answer_some first.at h first.here in (
        first.at,
        record {
          broken = λ kept. absurd (let over = here.0 in omega arith);
          below = λ m less. answer_none m (first.before m (omega arith) less);
        },
        here.1,
      )

  none_short : ((n : ℕ) → count ≤ n → declared n ≡ 0) → first_from 0 count answer ≡ None → (n : ℕ) → declared n ≤ had n
  none_short beyond e n = elim (cases_lt n count) [
    | inl less ↦ answer_none n (first_from_none answer 0 count e n (omega arith) (omega arith))
    | inr past ↦ let none = beyond n past in omega arith
  ]

-- ---- servers that are down

down_found : (p : Place) (streams : List StreamModel) (v : ℕ) → down_in_streams p.down None streams ≡ Some v → IsLowest (IsUpWhereMentioned p streams) v
down_found p streams v e = lowest_down p streams (Some v) (sym e)

all_up : (p : Place) (streams : List StreamModel) → down_in_streams p.down None streams ≡ None → AreUp p streams
all_up p streams e = none_down p streams None (sym e)

-- ---- all rules

module _ (c : Sizes) (p : Place) (pool : Hold) (plan : PlanModel) (ordered : HasOrderedParcels plan) (fits : IsKnownPlan c.shards c.servers plan) where
  abbrev room_beyond : (v : ℕ) → c.servers ≤ v → declared_room plan.streams v ≡ 0
  room_beyond v past = no_room_beyond c.shards c.servers v plan.streams past fits.streams

  abbrev spare_beyond : (s : ℕ) → c.shards ≤ s → declared_spare plan.streams s ≡ 0
  spare_beyond s past = no_spare_beyond c.shards c.servers s plan.streams past fits.streams

  -- what each rule finds, and what is found from a rule on
  abbrev untrue_one : Option Holding
  untrue_one = option_map (λ key. Untrue key) (first_untrue c p plan.streams)

  abbrev taken_one : Option Holding
  taken_one = option_map (λ key. Taken key) (first_taken pool plan.streams)

  abbrev short_one : Option Holding
  short_one = first_short_room c.servers pool plan.streams

  abbrev few_one : Option Holding
  few_one = first_short_spare c.shards pool plan.streams

  abbrev down_one : Option Holding
  down_one = option_map (λ v. ServerDown v) (down_in_streams p.down None plan.streams)

  abbrev from_few : Option Holding
  from_few = option_or few_one down_one

  abbrev from_short : Option Holding
  from_short = option_or short_one from_few

  abbrev from_taken : Option Holding
  from_taken = option_or taken_one from_short

  none_found : first_holding c p pool plan ≡ None → IsAdmitted c p pool plan
  unfolding first_holding
  none_found e =
      let untrue = or_none untrue_one from_taken e in
      let taken = or_none taken_one from_short untrue.1 in
      let room = or_none short_one from_few taken.1 in
      let spare = or_none few_one down_one room.1 in
      record {
        true_ones = none_untrue c p plan.streams (none_mapped (λ key. Untrue key) _ untrue.0);
        free_ones = none_taken pool plan.streams (none_mapped (λ key. Taken key) _ taken.0);
        room = none_short c.servers (declared_room plan.streams) pool.room (λ v. ShortRoom v (pool.room v) (declared_room plan.streams v)) room_beyond room.0;
        spare = none_short c.shards (declared_spare plan.streams) pool.spare (λ s. ShortSpare s (pool.spare s) (declared_spare plan.streams s)) spare_beyond spare.0;
        up = all_up p plan.streams (none_mapped (λ v. ServerDown v) _ spare.1);
      }

  some_found : (h : Holding) → first_holding c p pool plan ≡ Some h → IsHolding c p pool plan h
  unfolding first_holding
  some_found h e = elim (or_some untrue_one from_taken h e) [
    | inl untrue ↦
        let at = map_some (λ key. Untrue key) (first_untrue c p plan.streams) h untrue in
        subst (IsHolding c p pool plan) at.2 (untrue_found c p plan.streams ordered.streams at.0 at.1)
    | inr no_untrue ↦
        let true_ones = none_untrue c p plan.streams (none_mapped (λ key. Untrue key) _ no_untrue.0) in
        elim (or_some taken_one from_short h no_untrue.1) [
          | inl taken ↦
              let at = map_some (λ key. Taken key) (first_taken pool plan.streams) h taken in
              subst (IsHolding c p pool plan) at.2 (true_ones, taken_found pool plan.streams ordered.streams at.0 at.1)
          | inr no_taken ↦
              let free_ones = none_taken pool plan.streams (none_mapped (λ key. Taken key) _ no_taken.0) in
              elim (or_some short_one from_few h no_taken.1) [
                | inl short ↦
                    let at = short_found c.servers (declared_room plan.streams) pool.room (λ v. ShortRoom v (pool.room v) (declared_room plan.streams v)) h short in
                    subst (IsHolding c p pool plan) at.2 (true_ones, free_ones, at.1, refl, refl)
                | inr no_short ↦
                    let room = none_short c.servers (declared_room plan.streams) pool.room (λ v. ShortRoom v (pool.room v) (declared_room plan.streams v)) room_beyond no_short.0 in
                    elim (or_some few_one down_one h no_short.1) [
                      | inl few ↦
                          let at = short_found c.shards (declared_spare plan.streams) pool.spare (λ s. ShortSpare s (pool.spare s) (declared_spare plan.streams s)) h few in
                          subst (IsHolding c p pool plan) at.2 (true_ones, free_ones, room, at.1, refl, refl)
                      | inr no_few ↦
                          let spare = none_short c.shards (declared_spare plan.streams) pool.spare (λ s. ShortSpare s (pool.spare s) (declared_spare plan.streams s)) spare_beyond no_few.0 in
                          let at = map_some (λ v. ServerDown v) (down_in_streams p.down None plan.streams) h no_few.1 in
                          subst (IsHolding c p pool plan) at.2 (true_ones, free_ones, room, spare, down_found p plan.streams at.0 at.1)
                    ]
              ]
        ]
  ]

  -- what is found is what holds the plan up, and nothing is found exactly where the plan is admitted
  pub finds_holding : DecidesHolding c p pool plan
  finds_holding = record {
    none = (none_found, λ admitted. admitted_none admitted (first_holding c p pool plan) refl);
    some = λ h. (some_found h, λ is. holding_some h is (first_holding c p pool plan) refl);
  }
    where
      admitted_none : IsAdmitted c p pool plan → (o : Option Holding) → first_holding c p pool plan ≡ o → first_holding c p pool plan ≡ None
      admitted_none admitted None e = e
      admitted_none admitted (Some h) e = absurd (admitted_without_holding c p pool plan h admitted (some_found h e))

      holding_some : (h : Holding) → IsHolding c p pool plan h → (o : Option Holding) → first_holding c p pool plan ≡ o → first_holding c p pool plan ≡ Some h
      holding_some h is None e = absurd (admitted_without_holding c p pool plan h (none_found e) is)
      holding_some h is (Some k) e = e ∙ ap (λ n. Some n) (same_holding c p pool plan k h (some_found k e) is)
