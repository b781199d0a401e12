-- The laws.
use Rattle.std.proofs.Common.{◌≡◌, ℕ, zero, suc, ◌<◌, ◌≤◌, ◌⊎◌, inl, inr, List, length, ap, ◌∙◌, arith}
use Rattle.std.proofs.lemmas.Bool.{cases_lt}
use Rattle.sm_copies.specs.declared.order.ToldCopy.{ToldCopy}
use Rattle.sm_copies.specs.Order.{IsLesser}
use Rattle.sm_copies.specs.Counting.{IsAcknowledged}
use Rattle.sm_copies.specs.Lists.{view_of}
use Rattle.sm_copies.specs.Laws.{AcknowledgesOnePosition, ComparesInOneOrder, ResumesAtABeginning}
use Rattle.sm_copies.proofs.Lists.{begins-through}
use Rattle.sm_copies.proofs.Views.{front-resumes, resumes-front}

apart : (a : ToldCopy) → IsLesser a a → ⊥
apart a (inl l) = omega arith
apart a (inr l) = (let m : a.position < a.position = l.1 in omega arith)

through : (a b c : ToldCopy) → IsLesser a b → IsLesser b c → IsLesser a c
through a b c (inl l) (inl m) = inl (omega arith)
through a b c (inl l) (inr m) = inl (let q : b.view ≡ c.view = m.0 in omega arith)
through a b c (inr l) (inl m) = inl (let q : a.view ≡ b.view = l.0 in omega arith)
through a b c (inr l) (inr m) = inr (l.0 ∙ m.0, (let x : a.position < b.position = l.1 in let y : b.position < c.position = m.1 in omega arith))

-- two numbers compare
either : (a b : ℕ) → (a < b) ⊎ ((a ≡ b) ⊎ (b < a))
either a b = elim (cases_lt a b) [
  | inl l ↦ inl l
  | inr m ↦ elim (cases_lt b a) [ inl l ↦ inr (inr l) | inr l ↦ inr (inl (omega arith)) ]
]

total : (a b : ToldCopy) → IsLesser a b ⊎ ((a ≡ b) ⊎ IsLesser b a)
total a b = elim (either a.view b.view) [
  | inl l ↦ inl (inl l)
  | inr v ↦ elim v [
    | inr l ↦ inr (inr (inl l))
    | inl q ↦ elim (either a.position b.position) [
      | inl l ↦ inl (inr (q, l))
      | inr p ↦ elim p [
        | inl r ↦ inr (inl (ap (λ (k : ℕ). record { view = k; position = a.position }) q ∙ ap (λ (k : ℕ). record { view = b.view; position = k }) r))
        | inr l ↦ inr (inr (inr (let s : b.view ≡ a.view = omega arith in s, l)))
      ]
    ]
  ]
]

-- copies stand in one order
pub compares-in-one-order : ComparesInOneOrder
compares-in-one-order = record { apart = apart; through = through; total = total }

-- a copy goes on exactly where it is a beginning
pub resumes-at-a-beginning : ResumesAtABeginning
resumes-at-a-beginning copy source some one = (
  λ r. (let f = resumes-front (record { view = view_of copy; position = length copy }) source r in begins-through copy f.0 source (one f.0 f.1 f.2 f.3) f.1),
  λ b. front-resumes copy source some b,
)

-- one position that enough have is no greater than the greatest
no-greater : (copies : ℕ) (own : ToldCopy) (told : List ToldCopy) (one other : ℕ) → IsAcknowledged copies own told one → IsAcknowledged copies own told other → one ≤ other
no-greater copies own told zero other a b = omega arith
no-greater copies own told (suc one) other a b = b.greatest (suc one) (a.have (omega arith))

-- two positions up to which a primary acknowledges are one
pub acknowledges-one-position : AcknowledgesOnePosition
acknowledges-one-position copies own told one other a b =
    let l : one ≤ other = no-greater copies own told one other a b in
    let m : other ≤ one = no-greater copies own told other one b a in
    omega arith
