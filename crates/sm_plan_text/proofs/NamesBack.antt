-- Names that are written are read as the numbers of what they name.
use Rattle.std.proofs.Common.{◌≡◌, ◌<◌, ◌≤◌, ◌+◌, ◌++◌, ℕ, true, List, [], length, Some, option_map, unwrap_or, refl, ap, sym, ◌∙◌, arith}
use Rattle.std.specs.Str.{bytes_eq}
use Rattle.std.proofs.lemmas.Slice.Eq.{bytes_eq-Decides}
use Rattle.sm_plan_code.specs.declared.limits.TheConstants.{MOST_NUMBER}
use Rattle.sm_plan_text.specs.declared.fault.TextFault.{TextFault}
use Rattle.sm_plan_text.specs.declared.member.Member.{Member}
use Rattle.sm_plan_text.specs.Values.{id_of, id_named, number_named}
use Rattle.sm_plan_text.specs.Tables.{name_fault}
use Rattle.sm_plan_text.specs.PlanTexts.{name_at, name_data}
use Rattle.sm_plan_text.proofs.Faultless.{up_to_same}

-- each name leads back to its number, and there are so few that the number of each is an id
pub record LeadBack (names : List (List ℕ)) : Type 0 where
  pub back : (n : ℕ) → n < length names → number_named names (name_at names n) ≡ Some n
  pub few : length names ≤ MOST_NUMBER + 1

-- the id that a written name is read as
pub id_back : (names : List (List ℕ)) (n : ℕ) → LeadBack names → n < length names → id_named names (name_data names n) ≡ Some n
id_back names n lead h =
    ap (option_map id_of) (lead.back n h) ∙ ap (λ k. Some k) (up_to_same MOST_NUMBER n (omega (arith, h, lead.few)))

-- the same where a name that is missing is read as 0
pub id_read : (names : List (List ℕ)) (n : ℕ) → LeadBack names → n < length names → unwrap_or (id_named names (name_data names n)) 0 ≡ n
id_read names n lead h = ap (λ o. unwrap_or o 0) (id_back names n lead h)

-- a written name has no fault
pub named : (m : Member) (names : List (List ℕ)) (n : ℕ) → LeadBack names → n < length names → name_fault m names (Some (name_at names n)) ≡ []
named m names n lead h = rw (lead.back n h) refl

-- numbers of one name are one
pub same_number : (names : List (List ℕ)) (n k : ℕ) → LeadBack names → n < length names → k < length names → bytes_eq (name_at names n) (name_at names k) ≡ true → n ≡ k
same_number names n k lead h j e =
    let same : Some n ≡ Some k = sym (lead.back n h) ∙ ap (number_named names) ((bytes_eq-Decides (name_at names n) (name_at names k)).0 e) ∙ lead.back k j in
    ap (λ o. unwrap_or o 0) same

-- no faults in a part and none in the rest
pub no_faults : (xs ys : List TextFault) → xs ≡ [] → ys ≡ [] → xs ++ ys ≡ []
no_faults xs ys h k = rw (h, k) refl

-- a function of three values gives the same of values that are the same
pub three : {A B C D : Type 0} (f : A → B → C → D) (a d : A) (b e : B) (c g : C) → a ≡ d → b ≡ e → c ≡ g → f a b c ≡ f d e g
three f a d b e c g h k j = rw (h, k, j) refl
