-- What comes of lines on a reopening: what has counted is what was asked for, and all else changes nothing.
use Rattle.std.proofs.Common.{◌≡◌, ◌∙◌, ◌⊎◌, ℕ, true, false, Bor, List, Option, Some, None, ap, inl, inr, refl, subst, sym}
use Rattle.std.specs.Prelude.{is_some}
use Rattle.json_tree.specs.declared.tree.Tree.{Tree}
use Rattle.laws_network.specs.Reopening.{Party}
use Rattle.laws_network.specs.ReopeningLaws.{AllTook}
use Rattle.sm_reopening.specs.Ongoing.{net_reopening}
use Rattle.smpland_reopening.specs.Reopening.{ReopeningModel}
use Rattle.smpland_lines.specs.declared.command.InventoryText.{InventoryText}
use Rattle.smpland_reopening_lines.specs.Outcomes.{DoesConfirm, DoesFenced, DoesFencedOf, DoesOf, DoesSettled, DoesSettledOf, has_counted}
use Rattle.smpland_reopening_lines.specs.Taken.{ConfirmsAt, TakesFenced, TakesSettledBy, TakesSettledOf, TakesToldBy, party_named}
use Rattle.smpland_reopening_lines.specs.declared.outcome.ReopeningOutcome.{ReopeningOutcome}
use Rattle.smpland_reopening_lines.specs.declared.outcome.ReopeningOutcome.TheVariants as outcome

-- ---- of the party that a line names

-- it is the line's
pub does_of : (P : Party → ReopeningModel → ReopeningOutcome → ReopeningModel → Type 0) (named found : Option Party) (old new : ReopeningModel)
    (came : ReopeningOutcome) → named ≡ found → DoesOf P found old came new → DoesOf P named old came new
does_of P named found old new came is does = subst (λ (o : Option Party). DoesOf P o old came new) (sym is) does

-- what has counted is of a party that has a number
counts_of : (P : Party → ReopeningModel → ReopeningOutcome → ReopeningModel → Type 0) (Q : Party → Type 0) (named : Option Party)
    (old new : ReopeningModel) (came : ReopeningOutcome) → ((p : Party) → P p old came new → Q p) → DoesOf P named old came new →
    has_counted came ≡ true → (p : Party) × (named ≡ Some p) × Q p
counts_of P Q (Some p) old new came by does is = (p, refl, by p does)
counts_of P Q None old new came by does is = absurd (let z : false ≡ true = sym (ap has_counted does.0) ∙ is in cc)

-- what has not changes nothing
keeps_of : (P : Party → ReopeningModel → ReopeningOutcome → ReopeningModel → Type 0) (named : Option Party)
    (old new : ReopeningModel) (came : ReopeningOutcome) → ((p : Party) → P p old came new → new ≡ old) → DoesOf P named old came new → new ≡ old
keeps_of P (Some p) old new came by does = by p does
keeps_of P None old new came by does = does.1

-- ---- answers to fences

module _ (server : Option (Bor (List ℕ))) (base : ℕ) (told : InventoryText) (old new : ReopeningModel) where
  none_else : (came : ReopeningOutcome) → has_counted came ≡ true → ((p : Party) → DoesFencedOf base told p old came new → ⊥) →
      DoesFenced server base told old came new → ⊥
  none_else came is none does = (counts_of (DoesFencedOf base told) (λ _. ⊥) (party_named old.numbering server) old new came none does is).2

  -- an answer that has counted is one to a fence
  pub fenced_is : (came : ReopeningOutcome) → DoesFenced server base told old came new → has_counted came ≡ true → came ≡ outcome.Fenced
  fenced_is outcome.Fenced does is = refl
  fenced_is outcome.Confirmed does is = absurd (none_else outcome.Confirmed refl (λ _ h. h) does)
  fenced_is outcome.Settled does is = absurd (none_else outcome.Settled refl (λ _ h. h) does)
  fenced_is outcome.Complete does is = absurd (none_else outcome.Complete refl (λ _ h. h) does)
  fenced_is outcome.Old does is = absurd (let z = is in cc)
  fenced_is (outcome.Bad _) does is = absurd (let z = is in cc)
  fenced_is (outcome.Refused _) does is = absurd (let z = is in cc)

  -- it is the line's
  pub counts_fenced : (came : ReopeningOutcome) → DoesFenced server base told old came new → has_counted came ≡ true →
      TakesFenced server base told old new
  counts_fenced came does is =
      counts_of (DoesFencedOf base told) (λ p. TakesToldBy p base told old new) (party_named old.numbering server) old new outcome.Fenced (λ _ h. h)
      (subst (λ (it : ReopeningOutcome). DoesFenced server base told old it new) (fenced_is came does is) does) refl

  -- any other changes nothing
  pub keeps_fenced : (came : ReopeningOutcome) → DoesFenced server base told old came new → has_counted came ≡ false → new ≡ old
  keeps_fenced outcome.Fenced does is = absurd (let z = is in cc)
  keeps_fenced outcome.Confirmed does is = absurd (let z = is in cc)
  keeps_fenced outcome.Settled does is = absurd (let z = is in cc)
  keeps_fenced outcome.Complete does is = absurd (let z = is in cc)
  keeps_fenced outcome.Old does is = keeps_of (DoesFencedOf base told) (party_named old.numbering server) old new outcome.Old (λ _ h. h.1) does
  keeps_fenced (outcome.Bad x) does is = keeps_of (DoesFencedOf base told) (party_named old.numbering server) old new (outcome.Bad x) (λ _ h. h) does
  keeps_fenced (outcome.Refused x) does is =
      keeps_of (DoesFencedOf base told) (party_named old.numbering server) old new (outcome.Refused x) (λ _ h. absurd h) does

-- ---- confirmations

module _ (base : ℕ) (cells lost : List Tree) (old new : ReopeningModel) where
  -- a line that has counted is a confirmation
  pub confirm_is : (came : ReopeningOutcome) → DoesConfirm base cells lost old came new → has_counted came ≡ true → came ≡ outcome.Confirmed
  confirm_is outcome.Fenced does is = absurd does
  confirm_is outcome.Confirmed does is = refl
  confirm_is outcome.Settled does is = absurd does
  confirm_is outcome.Complete does is = absurd does
  confirm_is outcome.Old does is = absurd (let z = is in cc)
  confirm_is (outcome.Bad _) does is = absurd (let z = is in cc)
  confirm_is (outcome.Refused _) does is = absurd (let z = is in cc)

  -- it is that of the line's reopening
  pub counts_confirm : (came : ReopeningOutcome) → DoesConfirm base cells lost old came new → has_counted came ≡ true → ConfirmsAt base cells lost old new
  counts_confirm came does is = subst (λ (it : ReopeningOutcome). DoesConfirm base cells lost old it new) (confirm_is came does is) does

  -- all else changes nothing
  pub keeps_confirm : (came : ReopeningOutcome) → DoesConfirm base cells lost old came new → has_counted came ≡ false → new ≡ old
  keeps_confirm outcome.Fenced does is = absurd does
  keeps_confirm outcome.Confirmed does is = absurd (let z = is in cc)
  keeps_confirm outcome.Settled does is = absurd does
  keeps_confirm outcome.Complete does is = absurd does
  keeps_confirm outcome.Old does is = does.1
  keeps_confirm (outcome.Bad _) does is = does
  keeps_confirm (outcome.Refused _) does is = does

-- ---- answers to settles

module _ (server : Option (Bor (List ℕ))) (base : ℕ) (old new : ReopeningModel) where
  no_settle : (came : ReopeningOutcome) → has_counted came ≡ true → ((p : Party) → DoesSettledOf base p old came new → ⊥) →
      DoesSettled server base old came new → ⊥
  no_settle came is none does = (counts_of (DoesSettledOf base) (λ _. ⊥) (party_named old.numbering server) old new came none does is).2

  -- an answer that has counted is one to a settle, or the last one
  pub settled_is : (came : ReopeningOutcome) → DoesSettled server base old came new → has_counted came ≡ true →
      (came ≡ outcome.Settled) ⊎ (came ≡ outcome.Complete)
  settled_is outcome.Fenced does is = absurd (no_settle outcome.Fenced refl (λ _ h. h) does)
  settled_is outcome.Confirmed does is = absurd (no_settle outcome.Confirmed refl (λ _ h. h) does)
  settled_is outcome.Settled does is = inl refl
  settled_is outcome.Complete does is = inr refl
  settled_is outcome.Old does is = absurd (let z = is in cc)
  settled_is (outcome.Bad _) does is = absurd (let z = is in cc)
  settled_is (outcome.Refused _) does is = absurd (let z = is in cc)

  takes_settle : (came : ReopeningOutcome) → has_counted came ≡ true → ((p : Party) → DoesSettledOf base p old came new → TakesSettledOf p base old new) →
      DoesSettled server base old came new → TakesSettledBy server base old new
  takes_settle came is by does = counts_of (DoesSettledOf base) (λ p. TakesSettledOf p base old new) (party_named old.numbering server) old new came by does is

  -- it is the line's
  pub counts_settled : (came : ReopeningOutcome) → DoesSettled server base old came new → has_counted came ≡ true → TakesSettledBy server base old new
  counts_settled came does is = elim (settled_is came does is) [
    | inl e ↦ takes_settle outcome.Settled refl (λ _ h. h.0) (subst (λ (it : ReopeningOutcome). DoesSettled server base old it new) e does)
    | inr e ↦ takes_settle outcome.Complete refl (λ _ h. h.0) (subst (λ (it : ReopeningOutcome). DoesSettled server base old it new) e does)
  ]

  -- any other changes nothing
  pub keeps_settled : (came : ReopeningOutcome) → DoesSettled server base old came new → has_counted came ≡ false → new ≡ old
  keeps_settled outcome.Fenced does is = absurd (let z = is in cc)
  keeps_settled outcome.Confirmed does is = absurd (let z = is in cc)
  keeps_settled outcome.Settled does is = absurd (let z = is in cc)
  keeps_settled outcome.Complete does is = absurd (let z = is in cc)
  keeps_settled outcome.Old does is = keeps_of (DoesSettledOf base) (party_named old.numbering server) old new outcome.Old (λ _ h. h.1) does
  keeps_settled (outcome.Bad x) does is = keeps_of (DoesSettledOf base) (party_named old.numbering server) old new (outcome.Bad x) (λ _ h. absurd h) does
  keeps_settled (outcome.Refused x) does is =
      keeps_of (DoesSettledOf base) (party_named old.numbering server) old new (outcome.Refused x) (λ _ h. absurd h) does

  -- with the last one all have taken what was confirmed
  pub all_took : DoesSettled server base old outcome.Complete new →
      AllTook (net_reopening new.ongoing) × (is_some (net_reopening new.ongoing).settlement ≡ true)
  all_took does = (counts_of (DoesSettledOf base) (λ _. AllTook (net_reopening new.ongoing) × (is_some (net_reopening new.ongoing).settlement ≡ true))
      (party_named old.numbering server) old new outcome.Complete (λ _ h. (h.1, h.2)) does refl).2

  -- with any other that counts, not all have
  pub not_all : DoesSettled server base old outcome.Settled new → AllTook (net_reopening new.ongoing) → ⊥
  not_all does = (counts_of (DoesSettledOf base) (λ _. AllTook (net_reopening new.ongoing) → ⊥)
      (party_named old.numbering server) old new outcome.Settled (λ _ h. h.1) does refl).2
