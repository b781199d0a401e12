-- Lists of events, played with a hand.
use Rattle.std.proofs.Common.{◌≡◌, ◌<◌, ◌≤◌, ◌+◌, ◌-◌, ◌++◌, ◌∷◌, [], ℕ, zero, suc, List, Option, Some, None, length, map, refl, sym, ap, ◌∙◌, subst, arith, take, drop, inl, inr}
use Rattle.std.specs.Prelude.{slice_index_or, min, IfSome, ◌^◌}
use Rattle.std.specs.List.{AllByRecursion, sum_by}
use Rattle.std.proofs.lemmas.Bool.{cases_eq, cases_lt}
use Rattle.std.proofs.lemmas.List.{get_or_default}
use Rattle.std.proofs.lemmas.List.Sums.{sum_by_more}
use Rattle.std.proofs.Math.Nat.{min-eq_left, min-eq_right}
use Rattle.sm_placement.specs.Setup.{sizes_of}
use Rattle.sm_verifier.specs.Checked.{CheckedModel}
use Rattle.sm_protocol.specs.declared.event.Event.{Event}
use Rattle.sm_protocol.specs.declared.event.Played.{Played}
use Rattle.sm_protocol.specs.Steps.{Outcome, Answered}
use Rattle.sm_protocol.specs.Hand.{Game, play, plays}
use Rattle.sm_protocol.specs.Laws.{IsReached, IsCheckedPlan, NamesKnown, AreChecked, IsPlayed}
use Rattle.sm_protocol.proofs.Plays.{plays_are_safe}
use Rattle.sm_machine.specs.declared.hand.Hand as declared
use Rattle.sm_machine.specs.Machine.{MachineModel}
use Rattle.sm_machine.specs.State.{whole_of, state_of}
use Rattle.sm_machine.specs.Hand.{hand_plan, hand_of, game_of, AreFor, AreLeft, token_count, HasHandRoom, IsTurn}
use Rattle.sm_machine.proofs.HandStarts.{plan_there, beyond}

-- the numbers of a machine's state are those of its configuration
pub sizes_are : (m : MachineModel) → (state_of m).sizes ≡ sizes_of m.placement.setup
unfolding whole_of
sizes_are m = refl

-- machines of one configuration have the same numbers
pub same_sizes : (m n : MachineModel) → n.placement.setup ≡ m.placement.setup → (state_of n).sizes ≡ (state_of m).sizes
same_sizes m n e = sizes_are n ∙ ap sizes_of e ∙ sym (sizes_are m)

-- ---- fronts of a list

known_at : {T : Type 0} (P : T → Type 0) (es : List T) (i : ℕ) (d : T) → AllByRecursion P es → i < length es → P (slice_index_or es i d)
known_at P [] i d all l = absurd (omega arith)
known_at P (e ∷ es) zero d all l = all.0
known_at P (e ∷ es) (suc i) d all l = known_at P es i d all.1 (omega arith)

known_front : {T : Type 0} (P : T → Type 0) (es : List T) (n : ℕ) → AllByRecursion P es → AllByRecursion P (take n es)
known_front P es zero all = tt
known_front P [] (suc n) all = tt
known_front P (e ∷ es) (suc n) all = (all.0, known_front P es n all.1)

-- the events name what is known, also after others
pub names_at : (m n : MachineModel) (es : List Event) (i : ℕ) (e : Event) → AllByRecursion (NamesKnown (state_of m).sizes) es → i < length es → e ≡ slice_index_or es i e → n.placement.setup ≡ m.placement.setup → NamesKnown (state_of n).sizes e
names_at m n es i e all l is s =
    subst (λ c. NamesKnown c e) (sym (same_sizes m n s)) (subst (NamesKnown (state_of m).sizes) (sym is) (known_at (NamesKnown (state_of m).sizes) es i e all l))

-- where a hand's plans were checked for the machine's configuration, so were those that are left
pub plans_for : (m n : MachineModel) (h k : declared.Hand) → AreFor m.placement.setup h.plans.items → n.placement.setup ≡ m.placement.setup → AreLeft h.plans.items k.plans.items → AreFor n.placement.setup k.plans.items
plans_for m n h k for s left place p e = for place p (left place p e) ∙ sym s

-- each plan that is left after two changes of a hand was there before both
pub left_after : (h k j : declared.Hand) → AreLeft h.plans.items k.plans.items → AreLeft k.plans.items j.plans.items → AreLeft h.plans.items j.plans.items
left_after h k j a b place p e = a place p (b place p e)

-- ---- a turn, and the list behind it

drop_here : {T : Type 0} (es : List T) (i : ℕ) (e : T) → i < length es → e ≡ slice_index_or es i e → drop i es ≡ e ∷ drop (i + 1) es
drop_here es i e l is = subst (λ k. drop i es ≡ e ∷ drop k es) (one i) (by_suc es i e l is)
  where
    one : (k : ℕ) → suc k ≡ k + 1
    one k = omega arith

    by_suc : {T : Type 0} (es : List T) (i : ℕ) (e : T) → i < length es → e ≡ slice_index_or es i e → drop i es ≡ e ∷ drop (suc i) es
    by_suc [] i e l is = absurd (omega arith)
    by_suc (x ∷ xs) zero e l is = ap (λ y. y ∷ xs) (sym is)
    by_suc (x ∷ xs) (suc i) e l is = by_suc xs i e (omega arith) is

module _ (m n : MachineModel) (h k : declared.Hand) (e : Event) (a : Played) (t : IsTurn m h e a n k) (es : List Event) (i : ℕ) (l : i < length es) (is : e ≡ slice_index_or es i e) where
  here : drop i es ≡ e ∷ drop (i + 1) es
  here = drop_here es i e l is

  -- after one event more, the rest of the list still leads to the game that the whole list leads to
  pub played_more : (g : Game) → play (drop i es) (game_of m h) ≡ play es g → play (drop (i + 1) es) (game_of n k) ≡ play es g
  played_more g was = ap (λ o. play (drop (i + 1) es) o.1) (sym t.turn) ∙ ap (λ xs. play xs (game_of m h)) (sym here) ∙ was

  -- and the answers so far, with those of the rest, are still those of the whole list
  pub told_more : (told now : List Played) (g : Game) → now ≡ told ++ a ∷ [] → map Answered told ++ plays (drop i es) (game_of m h) ≡ plays es g →
      map Answered now ++ plays (drop (i + 1) es) (game_of n k) ≡ plays es g
  told_more told now g f was =
      ap (λ xs. map Answered xs ++ plays (drop (i + 1) es) (game_of n k)) f
      ∙ told_push told (plays (drop (i + 1) es) (game_of n k))
      ∙ ap (λ xs. map Answered told ++ xs) (sym plays_here)
      ∙ was
    where
      plays_here : plays (drop i es) (game_of m h) ≡ Answered a ∷ plays (drop (i + 1) es) (game_of n k)
      plays_here = ap (λ xs. plays xs (game_of m h)) here ∙ ap (λ o. o.0 ∷ plays (drop (i + 1) es) o.1) t.turn

      told_push : (told : List Played) (rest : List Outcome) → map Answered (told ++ a ∷ []) ++ rest ≡ map Answered told ++ Answered a ∷ rest
      told_push [] rest = refl
      told_push (x ∷ xs) rest = ap (λ ys. Answered x ∷ ys) (told_push xs rest)

-- ---- the laws

plans_checked : (m : MachineModel) (h : declared.Hand) → AreFor m.placement.setup h.plans.items →
    ((place : ℕ) (p : CheckedModel) → slice_index_or h.plans.items place None ≡ Some p → IsCheckedPlan (sizes_of p.setup) p.plan) → AreChecked (state_of m).sizes (hand_of h)
plans_checked m h for checked place plan e = by_plan (slice_index_or h.plans.items place None) refl (sym (plan_there h.plans.items place) ∙ e)
  where
    by_plan : (o : Option CheckedModel) → slice_index_or h.plans.items place None ≡ o → hand_plan o ≡ Some plan → IsCheckedPlan (state_of m).sizes plan
    by_plan None q f = absurd (cc)
    by_plan (Some p) q f =
        let same : p.plan ≡ plan = cc in
        subst (IsCheckedPlan (state_of m).sizes) same (subst (λ c. IsCheckedPlan c p.plan) (ap sizes_of (for place p q) ∙ sym (sizes_are m)) (checked place p q))

module _ (m : MachineModel) (h : declared.Hand) (es : List Event) (r : IsReached m.placement.setup (state_of m)) (names : AllByRecursion (NamesKnown (state_of m).sizes) es) (for : AreFor m.placement.setup h.plans.items)
    (checked : (place : ℕ) (p : CheckedModel) → slice_index_or h.plans.items place None ≡ Some p → IsCheckedPlan (sizes_of p.setup) p.plan) where
  same : sizes_of m.placement.setup ≡ (state_of m).sizes
  same = sym (sizes_are m)

  -- the laws hold of each front
  pub front_played : (n : ℕ) → IsPlayed m.placement.setup (take n es) (game_of m h)
  front_played n =
      plays_are_safe m.placement.setup (take n es) (game_of m h) r
      (subst (λ c. AreChecked c (hand_of h)) (sym same) (plans_checked m h for checked))
      (subst (λ c. AllByRecursion (NamesKnown c) (take n es)) (sym same) (known_front (NamesKnown (state_of m).sizes) es n names))

-- what was found of the plans, one after the other
pub plans_more : (xs : List (Option CheckedModel)) (i : ℕ) (x : Option CheckedModel) → x ≡ slice_index_or xs i x → i < length xs →
    ((k : ℕ) (p : CheckedModel) → k < i → slice_index_or xs k None ≡ Some p → IsCheckedPlan (sizes_of p.setup) p.plan) → IfSome x (λ p. IsCheckedPlan (sizes_of p.setup) p.plan) →
    (k : ℕ) (p : CheckedModel) → k < i + 1 → slice_index_or xs k None ≡ Some p → IsCheckedPlan (sizes_of p.setup) p.plan
plans_more xs i x is l before here k p m e = elim (cases_eq k i) [
  | inl same ↦ by_place x (is ∙ get_or_default xs i x None l ∙ ap (λ j. slice_index_or xs j None) (sym same) ∙ e) here
  | inr other ↦ before k p (omega arith) e
]
  where
    by_place : (o : Option CheckedModel) → o ≡ Some p → IfSome o (λ p. IsCheckedPlan (sizes_of p.setup) p.plan) → IsCheckedPlan (sizes_of p.setup) p.plan
    by_place None q c = absurd (cc)
    by_place (Some r) q c = let same : r ≡ p = cc in subst (λ (r : CheckedModel). IsCheckedPlan (sizes_of r.setup) r.plan) same c

-- where all places of the list were gone through, each plan in it was found to pass the check
pub plans_all : (xs : List (Option CheckedModel)) (i : ℕ) → length xs ≤ i →
    ((k : ℕ) (p : CheckedModel) → k < i → slice_index_or xs k None ≡ Some p → IsCheckedPlan (sizes_of p.setup) p.plan) →
    (k : ℕ) (p : CheckedModel) → slice_index_or xs k None ≡ Some p → IsCheckedPlan (sizes_of p.setup) p.plan
plans_all xs i l all k p e = elim (cases_lt k i) [
  | inl below ↦ all k p below e
  | inr above ↦ absurd (let none = beyond xs k (omega arith) in cc)
]

-- a count of tokens that stays below 2^63 is no less than the tokens of the plans it has come to
pub tokens_more : (xs : List (Option CheckedModel)) (i room now : ℕ) (x : Option CheckedModel) → x ≡ slice_index_or xs i x → i < length xs → now ≡ min (room + token_count x) (2 ^ 64 - 1) →
    (room < 2 ^ 63 → sum_by token_count (take i xs) ≤ room) → now < 2 ^ 63 → sum_by token_count (take (i + 1) xs) ≤ now
tokens_more xs i room now x is l sum before few =
    let more = sum_by_more token_count xs i None l in
    let here : token_count x ≡ token_count (slice_index_or xs i None) = ap token_count (is ∙ get_or_default xs i x None l) in
    let exact : now ≡ room + token_count x = not_most room (token_count x) now sum few in
    let last = before (omega arith) in
    omega arith
  where
    not_most : (a b now : ℕ) → now ≡ min (a + b) (2 ^ 64 - 1) → now < 2 ^ 63 → now ≡ a + b
    not_most a b now e f = elim (cases_lt (2 ^ 64 - 1) (a + b)) [
      | inl more ↦ absurd (let most : 2 ^ 64 - 1 ≤ a + b = omega arith in let m : min (a + b) (2 ^ 64 - 1) ≡ 2 ^ 64 - 1 = min-eq_right {n = 2 ^ 64 - 1} {m = a + b} most in omega arith)
      | inr less ↦ let fits : a + b ≤ 2 ^ 64 - 1 = omega arith in let m : min (a + b) (2 ^ 64 - 1) ≡ a + b = min-eq_left {n = a + b} {m = 2 ^ 64 - 1} fits in e ∙ m
    ]

-- the room that an event leaves
pub room_left : (h k : declared.Hand) (n i : ℕ) → i < n → HasHandRoom h (n - i) → ((more : ℕ) → HasHandRoom h (suc more) → HasHandRoom k more) → HasHandRoom k (n - (i + 1))
room_left h k n i l r f =
    let one : n - i ≡ suc (n - (i + 1)) = omega arith in
    f (n - (i + 1)) (subst (HasHandRoom h) one r)
