-- The numbers under which a request may have been passed on, by the cells of its shard.
use Rattle.std.proofs.Common.{◌≡◌, ℕ, ◌<◌, ◌≤◌, true, refl, sym, ap, ◌∙◌, inl, inr, subst, arith}
use Rattle.std.proofs.lemmas.Bool.{cases_eq}
use Rattle.sm_placement.proofs.Leads.{leader_serves}
use Rattle.sm_placement.specs.Lead.{Describes, IsPlain}
use Rattle.sm_placement.specs.Rows.{serves}
use Rattle.sm_placement.specs.declared.lead.Lead.{Lead}
use Rattle.sm_placement.specs.declared.lead.Lead.TheVariants.{Gone, At, Ready, Handing, Handed}
use Rattle.sm_plan_code.specs.Effects.{MayHavePassed}
use Rattle.sm_server.specs.declared.call.Cell.{Cell}
use Rattle.sm_server.specs.declared.call.Cell.TheVariants.{Prepared, Primary, Forwarding}

-- Under the highest handover number n a request may have been passed on under the number m: m is at most n, and below it
-- where a handover is prepared and its owner does not forward yet.
pub record CanBePassed (row : ℕ → Cell) (n m : ℕ) : Type 0 where
  pub most : m ≤ n
  pub before : (u v : ℕ) → row u ≡ Primary → row v ≡ Prepared u n → m < n

-- where a lead describes the row, this is what the lead says
pub passed_by_lead : (lead : Lead) (n : ℕ) (row : ℕ → Cell) → Describes lead n row → (m : ℕ) → MayHavePassed lead n m → CanBePassed row n m
passed_by_lead Gone n row d m h = record { most = h.0; before = λ u v p q. absurd (subst IsPlain p (d u)) }
passed_by_lead (At x) n row d m h = record {
  most = h.0;
  before = λ u v p q. elim (cases_eq v x) [
    | inl e ↦ absurd (let f : row v ≡ Primary = ap row e ∙ d.0 in cc)
    | inr e ↦ absurd (subst IsPlain q (d.1 v e))
  ];
}
passed_by_lead (Ready x y) n row d m h = record { most = h.0; before = λ u v p q. h.1 tt }
passed_by_lead (Handing x y) n row d m h = record {
  most = h.0;
  before = λ u v p q. elim (cases_eq u x) [
    | inl e ↦ absurd (let f : row u ≡ Forwarding y n = ap row e ∙ d.1 in cc)
    | inr e ↦ elim (cases_eq u y) [ inl g ↦ absurd (let f : row u ≡ Prepared x n = ap row g ∙ d.2 in cc) | inr g ↦ absurd (subst IsPlain p (d.3 u e g)) ]
  ];
}
passed_by_lead (Handed x y) n row d m h = record {
  most = h.0;
  before = λ u v p q. elim (cases_eq v x) [
    | inl e ↦ absurd (let f : row v ≡ Forwarding y n = ap row e ∙ d.1 in cc)
    | inr e ↦ elim (cases_eq v y) [ inl g ↦ absurd (let f : row v ≡ Primary = ap row g ∙ d.2 in cc) | inr g ↦ absurd (subst IsPlain q (d.3 v e g)) ]
  ];
}

-- and what the cells allow the lead does too
pub passed_of_lead : (lead : Lead) (n : ℕ) (row : ℕ → Cell) → Describes lead n row → (m : ℕ) → CanBePassed row n m → MayHavePassed lead n m
passed_of_lead Gone n row d m h = (h.most, λ r. absurd r)
passed_of_lead (At x) n row d m h = (h.most, λ r. absurd r)
passed_of_lead (Ready x y) n row d m h = (h.most, λ r. h.before x y d.1 d.2)
passed_of_lead (Handing x y) n row d m h = (h.most, λ r. absurd r)
passed_of_lead (Handed x y) n row d m h = (h.most, λ r. absurd r)

-- where a server forwards, a request may be passed on under its handover's number
pub forwarding_passes : (lead : Lead) (n : ℕ) (row : ℕ → Cell) → Describes lead n row → (v to m : ℕ) → row v ≡ Forwarding to m → MayHavePassed lead n m
forwarding_passes Gone n row d v to m e = absurd (subst IsPlain e (d v))
forwarding_passes (At u) n row d v to m e = elim (cases_eq v u) [ inl f ↦ absurd (let g : row v ≡ Primary = ap row f ∙ d.0 in cc) | inr f ↦ absurd (subst IsPlain e (d.1 v f)) ]
forwarding_passes (Ready u w) n row d v to m e = elim (cases_eq v u) [
  | inl f ↦ absurd (let g : row v ≡ Primary = ap row f ∙ d.1 in cc)
  | inr f ↦ elim (cases_eq v w) [ inl h ↦ absurd (let g : row v ≡ Prepared u n = ap row h ∙ d.2 in cc) | inr h ↦ absurd (subst IsPlain e (d.3 v f h)) ]
]
forwarding_passes (Handing u w) n row d v to m e = elim (cases_eq v u) [
  | inl f ↦ let g : Forwarding to m ≡ Forwarding w n = sym e ∙ ap row f ∙ d.1 in let h : m ≡ n = cc in (omega arith, λ r. absurd r)
  | inr f ↦ elim (cases_eq v w) [ inl h ↦ absurd (let g : row v ≡ Prepared u n = ap row h ∙ d.2 in cc) | inr h ↦ absurd (subst IsPlain e (d.3 v f h)) ]
]
forwarding_passes (Handed u w) n row d v to m e = elim (cases_eq v u) [
  | inl f ↦ let g : Forwarding to m ≡ Forwarding w n = sym e ∙ ap row f ∙ d.1 in let h : m ≡ n = cc in (omega arith, λ r. absurd r)
  | inr f ↦ elim (cases_eq v w) [ inl h ↦ absurd (let g : row v ≡ Primary = ap row h ∙ d.2 in cc) | inr h ↦ absurd (subst IsPlain e (d.3 v f h)) ]
]

-- a prepared server to whom a request was passed under the number of its handover serves
pub prepared_serves : (lead : Lead) (n : ℕ) (row : ℕ → Cell) → Describes lead n row → (v x m : ℕ) → row v ≡ Prepared x m → MayHavePassed lead n m → serves row v ≡ true
prepared_serves Gone n row d v x m e h = absurd (subst IsPlain e (d v))
prepared_serves (At u) n row d v x m e h = elim (cases_eq v u) [ inl f ↦ absurd (let g : row v ≡ Primary = ap row f ∙ d.0 in cc) | inr f ↦ absurd (subst IsPlain e (d.1 v f)) ]
prepared_serves (Ready u w) n row d v x m e h = elim (cases_eq v u) [
  | inl f ↦ absurd (let g : row v ≡ Primary = ap row f ∙ d.1 in cc)
  | inr f ↦ elim (cases_eq v w) [
    | inl k ↦ absurd (let g : Prepared x m ≡ Prepared u n = sym e ∙ ap row k ∙ d.2 in let q : m ≡ n = cc in let l = h.1 tt in omega arith)
    | inr k ↦ absurd (subst IsPlain e (d.3 v f k))
  ]
]
prepared_serves (Handing u w) n row d v x m e h = elim (cases_eq v u) [
  | inl f ↦ absurd (let g : row v ≡ Forwarding w n = ap row f ∙ d.1 in cc)
  | inr f ↦ elim (cases_eq v w) [ inl k ↦ ap (serves row) k ∙ (leader_serves (Handing u w) n row d w refl).0 | inr k ↦ absurd (subst IsPlain e (d.3 v f k)) ]
]
prepared_serves (Handed u w) n row d v x m e h = elim (cases_eq v u) [
  | inl f ↦ absurd (let g : row v ≡ Forwarding w n = ap row f ∙ d.1 in cc)
  | inr f ↦ elim (cases_eq v w) [ inl k ↦ absurd (let g : row v ≡ Primary = ap row k ∙ d.2 in cc) | inr k ↦ absurd (subst IsPlain e (d.3 v f k)) ]
]
