-- Bases by what comes to them: one that stands at a fence stands there or above, or has lost its slots since.
use Rattle.std.proofs.Common.{◌≡◌, ◌≤◌, ◌<◌, ◌⊎◌, ℕ, refl, sym, ap, ◌∙◌, inl, inr, subst, arith, not, Bool, true, false, Option, Some, None}
use Rattle.std.specs.Prelude.{◌==◌, ◌&&◌, is_none, nat_lt, option_map, if◌then◌else◌}
use Rattle.std.proofs.lemmas.Bool.{and_parts, eqb-true, ltb-true}
use Rattle.sm_protocol.proofs.Courses.{some_same}
use Rattle.laws_network.specs.Reopening.{Base, after_fence, is_fenced_at, names_nonce, takes_number, takes_settle}

-- a nonce is mapped to none if there is none
pub map_none : (k : ℕ) (o : Option ℕ) → option_map (λ old. k) o ≡ None → o ≡ None
map_none k None e = refl
map_none k (Some n) e = absurd (cc)

-- a new nonce replaces one that there was
pub map_some : (k n : ℕ) (o : Option ℕ) → option_map (λ old. k) o ≡ Some n → k ≡ n
map_some k n None e = absurd (cc)
map_some k n (Some m) e = some_same k n e

none_where : (o : Option ℕ) → is_none o ≡ true → o ≡ None
none_where None e = refl
none_where (Some a) e = absurd (cc)

-- there is something, or there is not
pub none_or_some : (o : Option ℕ) → (o ≡ None) ⊎ ((n : ℕ) × (o ≡ Some n))
none_or_some None = inl refl
none_or_some (Some n) = inr (n, refl)

-- the base once a fence was taken
abbrev raised_base : Base → ℕ → ℕ → Base
raised_base b number fresh = record { number = number; fenced = true; nonce = option_map (λ old. fresh) b.nonce }

-- it was taken if it is above
pub fence_cases : (b : Base) (number fresh : ℕ) → ((b.number < number) × (after_fence b number fresh ≡ raised_base b number fresh)) ⊎ (after_fence b number fresh ≡ b)
fence_cases b number fresh = go (nat_lt b.number number) refl
  where
    go : (t : Bool) → nat_lt b.number number ≡ t → ((b.number < number) × ((if t then raised_base b number fresh else b) ≡ raised_base b number fresh)) ⊎ ((if t then raised_base b number fresh else b) ≡ b)
    go true e = inl (ltb-true b.number number e, refl)
    go false e = inr refl

-- it brings nobody its slots
pub fence_none : (b : Base) (number fresh : ℕ) → (after_fence b number fresh).nonce ≡ None → b.nonce ≡ None
fence_none b number fresh q = elim (fence_cases b number fresh) [
  | inl r ↦ map_none fresh b.nonce (sym (ap (λ (b : Base). b.nonce) r.1) ∙ q)
  | inr e ↦ sym (ap (λ (b : Base). b.nonce) e) ∙ q
]

-- a base that has this number or a higher one, or has lost its slots since so many nonces were made
pub record IsFrom (number since : ℕ) (b : Base) : Type 0 where
  pub known : b.nonce ≡ None → number ≤ b.number
  pub unknown : (n : ℕ) → b.nonce ≡ Some n → since ≤ n

-- a fence keeps it so
pub from_fence : (b : Base) (number since fence fresh : ℕ) → since ≤ fresh → IsFrom number since b → IsFrom number since (after_fence b fence fresh)
from_fence b number since fence fresh new h = elim (fence_cases b fence fresh) [
  | inr e ↦ subst (IsFrom number since) (sym e) h
  | inl r ↦ subst (IsFrom number since) (sym r.1) (record {
    known = λ q. let k = h.known (map_none fresh b.nonce q) in let l = r.0 in omega arith;
    unknown = λ n q. let z = map_some fresh n b.nonce q in omega arith;
  })
]

-- what a settle that is taken has met
pub record IsTakenBy (b : Base) (number : ℕ) (nonce : Option ℕ) : Type 0 where
  pub fenced : b.fenced ≡ true
  pub stands : b.number ≡ number
  pub meant : nonce ≡ b.nonce

-- what names a nonce names that of the base
pub named : (o asked : Option ℕ) → names_nonce o asked ≡ true → asked ≡ o
named None None e = refl
named None (Some n) e = absurd (cc)
named (Some m) None e = absurd (cc)
named (Some m) (Some n) e = ap (λ z. let o : Option ℕ = Some z in o) (sym (eqb-true m n e))

-- a settle that is taken has met this
pub taken_by : (b : Base) (number : ℕ) (nonce : Option ℕ) → takes_settle number nonce b ≡ true → IsTakenBy b number nonce
taken_by b number asked e =
    let p = and_parts (is_fenced_at number b) (names_nonce b.nonce asked) e in
    let q = and_parts b.fenced (b.number == number) p.0 in
    record { fenced = q.0; stands = eqb-true b.number number q.1; meant = named b.nonce asked p.1 }

-- who takes an order has its slots, is not fenced, and has a lower number
pub record IsTaking (b : Base) (number : ℕ) : Type 0 where
  pub known : b.nonce ≡ None
  pub taken : b.fenced ≡ false
  pub below : b.number < number

-- an order that is taken has met this
pub taking : (b : Base) (number : ℕ) → takes_number b number ≡ true → IsTaking b number
taking b number e =
    let p = and_parts (is_none b.nonce) (not b.fenced && nat_lt b.number number) e in
    let q = and_parts (not b.fenced) (nat_lt b.number number) p.1 in
    record { known = none_where b.nonce p.0; taken = unfenced b.fenced q.0; below = ltb-true b.number number q.1 }
  where
    unfenced : (f : Bool) → not f ≡ true → f ≡ false
    unfenced true z = absurd (cc)
    unfenced false z = refl
