-- The answer for several faults is the first of the lowest number.
use Rattle.std.proofs.Common.{◌≡◌, ◌++◌, ◌<◌, ◌≤◌, ℕ, Bool, List, [], ◌∷◌, Option, Some, None, option_map, nat_lt, refl, ap, sym, ◌∙◌, append_assoc, append-nil, arith, All, MatchOption}
use Rattle.std.proofs.lemmas.Bool.{cond_both}
use Rattle.std.proofs.lemmas.List.Elements.{All-nil, All-cons, All-append, All-push, All-weaker}
use Rattle.std.proofs.lemmas.Bool.Decides.{nat_tests}
use Rattle.sm_plan_text.specs.declared.fault.TextFault.{TextFault}
use Rattle.sm_plan_text.specs.Faults.{number_of, lower_fault, noted, answered, IsFirstOfLowest}
use Rattle.sm_plan_text.proofs.Faultless.{none_noted}

abbrev AllAbove : ℕ → List TextFault → Type 0
AllAbove n faults = All (λ other. n < number_of other) faults

abbrev AllNotBelow : ℕ → List TextFault → Type 0
AllNotBelow n faults = All (λ other. n ≤ number_of other) faults

above_before : (n m : ℕ) (before after : List TextFault) (best : TextFault) → n < number_of best → AllAbove (number_of best) before → AllNotBelow (number_of best) after → AllAbove n (before ++ best ∷ after)
above_before n m before after best less above not_below =
    All-append (λ other. n < number_of other) before (best ∷ after)
    (All-weaker (λ other. number_of best < number_of other) (λ other. n < number_of other) (λ other h. omega arith) before above)
    (All-cons (λ other. n < number_of other) best after less
    (All-weaker (λ other. number_of best ≤ number_of other) (λ other. n < number_of other) (λ other h. omega arith) after not_below))

going : (faults before after rest : List TextFault) (best : TextFault) → faults ≡ (before ++ best ∷ after) ++ rest → AllAbove (number_of best) before → AllNotBelow (number_of best) after → MatchOption (noted (Some best) rest) (faults ≡ []) (IsFirstOfLowest faults)
going faults before after [] best stands above not_below =
    record { before = before; after = after; stands = stands ∙ append-nil (before ++ best ∷ after); above = above; not_below = not_below }
going faults before after (next ∷ rest) best stands above not_below =
    cond_both (nat_lt (number_of next) (number_of best)) next best (λ chosen. MatchOption (noted (Some chosen) rest) (faults ≡ []) (IsFirstOfLowest faults))
    (λ test. going faults (before ++ best ∷ after) [] rest next (stands ∙ sym (append_assoc (before ++ best ∷ after) (next ∷ []) rest)) (above_before (number_of next) 0 before after best (grind (arith, nat_tests)) above not_below) (All-nil (λ other. number_of next ≤ number_of other)))
    (λ test. going faults before (after ++ next ∷ []) rest best (stands ∙ append_assoc before (best ∷ after) (next ∷ rest) ∙ sym (append_assoc before (best ∷ after ++ next ∷ []) rest ∙ ap (λ l. before ++ best ∷ l) (append_assoc after (next ∷ []) rest))) above (All-push (λ other. number_of best ≤ number_of other) after next not_below (grind (arith, nat_tests))))

-- of several faults the first of the lowest number is answered, and nothing where there is none
pub first_of_lowest : (faults : List TextFault) → MatchOption (answered faults) (faults ≡ []) (IsFirstOfLowest faults)
first_of_lowest [] = refl
first_of_lowest (fault ∷ faults) = going (fault ∷ faults) [] [] faults fault refl (All-nil (λ other. number_of fault < number_of other)) (All-nil (λ other. number_of fault ≤ number_of other))

-- ---- a part of a walk, noted apart

lower_of_three : (best : Option TextFault) (x y : TextFault) → lower_fault (Some (lower_fault best x)) y ≡ lower_fault best (lower_fault (Some x) y)
lower_of_three None x y = refl
lower_of_three (Some b) x y = three (nat_lt (number_of x) (number_of b)) (nat_lt (number_of y) (number_of x)) refl refl
  where
    three : (xb yx : Bool) → nat_lt (number_of x) (number_of b) ≡ xb → nat_lt (number_of y) (number_of x) ≡ yx → lower_fault (Some (lower_fault (Some b) x)) y ≡ lower_fault (Some b) (lower_fault (Some x) y)
    three xb yx e f = grind (arith, nat_tests)

part_from : (faults : List TextFault) (best : Option TextFault) (first chosen : TextFault) → noted (Some first) faults ≡ Some chosen → noted (Some (lower_fault best first)) faults ≡ Some (lower_fault best chosen)
part_from [] best first chosen e = ap (option_map (lower_fault best)) e
part_from (fault ∷ faults) best first chosen e =
    ap (λ f. noted (Some f) faults) (lower_of_three best first fault) ∙ part_from faults best (lower_fault (Some first) fault) chosen e

-- nothing was noted
pub part_none : (best : Option TextFault) (faults : List TextFault) → None ≡ answered faults → best ≡ noted best faults
part_none best faults e = sym (ap (noted best) (none_noted faults (sym e)))

-- what was noted is noted once more
pub part_some : (best : Option TextFault) (fault : TextFault) (faults : List TextFault) → Some fault ≡ answered faults → Some (lower_fault best fault) ≡ noted best faults
part_some best fault [] e = absurd (cc)
part_some best fault (first ∷ faults) e = sym (part_from faults best first fault (sym e))
