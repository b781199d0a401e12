-- The findings of the tests of a line, if all of them pass.
use Rattle.std.proofs.Common.{◌≡◌, ℕ, Bool, true, false, refl, ap, Option, Some, None, Ok, List, [], ◌∷◌}
use Rattle.sm_placement.specs.declared.lead.Lead.{Lead}
use Rattle.sm_reservation.specs.Hold.{Hold}
use Rattle.sm_reservation.proofs.Truths.{same_lead_true}
use Rattle.sm_plan_code.specs.declared.instruction.Why.{Why}
use Rattle.sm_plan_code.specs.After.{Line, first_why, unless_refused, decided, leads_as, listed_of, lead_held}

-- each test of a list passes
abbrev pub AllPass : List (Bool × Why) → Type 0
AllPass [] = Unit {0}
AllPass (t ∷ ts) = (t.0 ≡ true) × AllPass ts

passes_first : (t : Bool × Why) (ts : List (Bool × Why)) → first_why (t ∷ ts) ≡ None → (t.0 ≡ true) × (first_why ts ≡ None)
passes_first t ts e = go t.0 refl
  where
    go : (b : Bool) → t.0 ≡ b → (t.0 ≡ true) × (first_why ts ≡ None)
    go true q = (q, rw q at e)
    go false q = absurd (let wrong = rw q at e in cc)

all_pass : (ts : List (Bool × Why)) → first_why ts ≡ None → AllPass ts
all_pass [] e = tt
all_pass (t ∷ ts) e = let first = passes_first t ts e in (first.0, all_pass ts first.1)

-- where a line is not refused, its tests pass, and it leaves its hold
pub passes : (line : Line) (h : Hold) → decided line ≡ Ok h → AllPass line.tests × (line.change ≡ h)
passes line h e = go (first_why line.tests) refl e
  where
    go : (o : Option Why) → first_why line.tests ≡ o → unless_refused o line.change ≡ Ok h → AllPass line.tests × (line.change ≡ h)
    go None q e = (all_pass line.tests q, cc)
    go (Some why) q e = cc

-- the crown, by a test of its lead
pub crown_tested : (lead : Lead) (o : Option (Lead × Option ℕ)) → leads_as lead o ≡ true → o ≡ Some (lead, listed_of o)
crown_tested lead None e = cc
crown_tested lead (Some crown) e = ap (λ (x : Lead). Some (x, crown.1)) (sym_lead lead crown.0 (same_lead_true lead crown.0 e))
  where
    sym_lead : (a b : Lead) → a ≡ b → b ≡ a
    sym_lead a b e = cc

-- the crown, by the lead that is held
pub crown_led : (lead : Lead) (o : Option (Lead × Option ℕ)) → lead_held o ≡ Some lead → o ≡ Some (lead, listed_of o)
crown_led lead None e = cc
crown_led lead (Some crown) e = let same : crown.0 ≡ lead = cc in ap (λ (x : Lead). Some (x, crown.1)) same
