-- Instructions that are made one after another: from a hold they lead to a hold.
use Rattle.std.proofs.Common.{◌≡◌, ℕ, zero, suc, Result, Ok, Err, List, [], ◌∷◌, ◌++◌, length, refl, sym, ap, ◌∙◌, subst}
use Rattle.std.specs.Prelude.{IfSome, IsOk, slice_get}
use Rattle.sm_placement.specs.Setup.{Sizes}
use Rattle.sm_reservation.specs.Rights.{Rights}
use Rattle.sm_reservation.specs.Hold.{Hold}
use Rattle.sm_plan_code.specs.declared.instruction.Instr.{Instr}
use Rattle.sm_plan_code.specs.declared.instruction.Why.{Why}
use Rattle.sm_plan_code.specs.After.{after, hold_or, hold_past, hold_at}

module _ (c : Sizes) (signals : ℕ → Rights) where
  -- each instruction may be made in its turn, from the first hold on, and the last one leaves the second hold
  abbrev pub Leads : Hold → List Instr → Hold → Type 0
  Leads h [] g = g ≡ h
  Leads h (i ∷ is) g = (next : Hold) × (after c signals i h ≡ Ok next) × Leads next is g

  -- what leads to a hold and what leads on from there lead on together
  pub leads_on : (xs ys : List Instr) (h m g : Hold) → Leads h xs m → Leads m ys g → Leads h (xs ++ ys) g
  leads_on [] ys h m g first rest = subst (λ (k : Hold). Leads k ys g) first rest
  leads_on (x ∷ xs) ys h m g first rest = (first.0, first.1, leads_on xs ys first.0 m g first.2 rest)

  hold_later : (i : Instr) (is : List Instr) (h g : Hold) → after c signals i h ≡ Ok g → (p : ℕ) → hold_at c signals (i ∷ is) h (suc p) ≡ hold_at c signals is g p
  hold_later i is h g made zero = ap (hold_or h) made
  hold_later i is h g made (suc p) = ap (hold_past c signals (slice_get is p)) (hold_later i is h g made p)

  ok : (said : Result Hold Why) (g : Hold) → said ≡ Ok g → IsOk said
  ok (Ok g) h e = refl
  ok (Err why) h e = absurd cc

  -- so each may be made at its position
  pub leads_made : (is : List Instr) (h g : Hold) → Leads h is g → (p : ℕ) → IfSome (slice_get is p) (λ i. IsOk (after c signals i (hold_at c signals is h p)))
  leads_made [] h g leads p = tt
  leads_made (i ∷ is) h g leads zero = ok (after c signals i h) leads.0 leads.1
  leads_made (i ∷ is) h g leads (suc p) = subst (λ (k : Hold). IfSome (slice_get is p) (λ j. IsOk (after c signals j k))) (sym (hold_later i is h leads.0 leads.1 p)) (leads_made is leads.0 g leads.2 p)

  -- behind the last of them the hold is the one to which they lead
  pub leads_end : (is : List Instr) (h g : Hold) → Leads h is g → hold_at c signals is h (length is) ≡ g
  leads_end [] h g leads = sym leads
  leads_end (i ∷ is) h g leads = hold_later i is h leads.0 leads.1 (length is) ∙ leads_end is leads.0 g leads.2
