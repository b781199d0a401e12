-- The search for who inherits a shard.
use Rattle.std.proofs.Common.{◌≡◌, ◌≢◌, ◌∙◌, ◌+◌, ◌<◌, ◌≤◌, ◌↔◌, ◌⊎◌, ℕ, Bool, true, false, Option, Some, None, length, refl, sym, ap, subst, arith, inl, inr}
use Rattle.std.specs.Prelude.{◌&&◌, IfSome, if◌then◌else◌, is_none, nat_lt}
use Rattle.std.specs.List.{range_with_len}
use Rattle.std.proofs.lemmas.Bool.{and_from, cases_Bool, cases_eq, cases_lt, lt-ltb}
use Rattle.laws_network.specs.Reopening.{Inventory, Server}
use Rattle.laws_network.specs.ReopeningLaws.{claim, claim_told}
use Rattle.sm_reopening.specs.declared.ongoing.OngoingReopening.{OngoingReopening}
use Rattle.sm_reopening.specs.declared.survivors.Standing.{Standing}
use Rattle.sm_copies.specs.declared.order.ToldCopy.{ToldCopy}
use Rattle.sm_reopening.specs.Ongoing.{recorded_place, net_reopening}
use Rattle.sm_reopening.specs.Survivors.{HasNoSurvivor, IsSuccessorOf, successor_of, is_best, standing_of, stands_above}
use Rattle.sm_reopening.proofs.Standings.{above_all, above_claims, below_claims, none_above, not_above, not_above_itself, still_below}
use Rattle.std.proofs.lemmas.List.{get_or_past}
use Rattle.sm_placement.specs.Opening.{first_below}
use Rattle.sm_placement.proofs.Searches.{cases_Option, find_filter, first_listed, first_none, first_none_from}
use Rattle.sm_reopening.specs.declared.party.Membership.TheVariants.{Member}
use Rattle.sm_reopening.specs.declared.state.ServerState.{ServerState}
use Rattle.sm_reopening.specs.States.{fresh_state, no_copy, told_copy}
use Rattle.sm_reopening.proofs.Confirming.{none_told, not_carried}

-- Among the servers below i this one inherits, and has this standing. If none does, it is lower than any with a claim.
pub record IsBestBelow (x : OngoingReopening) (s i : ℕ) (successor : Option ℕ) (top : Standing) : Type 0 where
  pub nobody : successor ≡ None → top.copy ≡ record { view = 18446744073709551615; position = 18446744073709551615 }
  pub nothing : successor ≡ None → top.claim ≡ 0
  pub known : (u : ℕ) → successor ≡ Some u → u < i
  pub claims : (u : ℕ) → successor ≡ Some u → 0 < top.claim
  pub standing : (u : ℕ) → successor ≡ Some u → top ≡ standing_of x s u
  pub best : (k : ℕ) → k < i → stands_above (standing_of x s k) top ≡ false
  pub first : (u k : ℕ) → successor ≡ Some u → k < u → stands_above top (standing_of x s k) ≡ true

-- one more server, which stands above
pub better_next : (x : OngoingReopening) (s i : ℕ) (successor : Option ℕ) (best new : Standing) → new ≡ standing_of x s i →
    new.copy.view ≤ 18446744073709551615 → new.copy.position ≤ 18446744073709551615 →
    IsBestBelow x s i successor best → stands_above new best ≡ true → IsBestBelow x s (i + 1) (Some i) new
better_next x s i successor best new e view position b above = record {
  nobody = λ n. absurd (cc);
  nothing = λ n. absurd (cc);
  known = λ u d. let same : i ≡ u = cc in omega arith;
  claims = λ u d. has_claim successor refl;
  standing = λ u d. e ∙ ap (standing_of x s) (cc);
  best = λ k l. elim (cases_eq k i) [
    | inl d ↦ subst (λ (t : Standing). stands_above t new ≡ false) (e ∙ ap (standing_of x s) (sym d)) (not_above_itself new)
    | inr d ↦ still_below new best (standing_of x s k) above (b.best k (omega arith))
  ];
  first = λ u k d l. let same : i ≡ u = cc in above_all new best (standing_of x s k) above (b.best k (omega arith));
}
  where
    has_claim : (o : Option ℕ) → successor ≡ o → 0 < new.claim
    has_claim None h = let n = b.nothing h in elim (cases_lt 0 new.claim) [
      | inl some ↦ some
      | inr none ↦
          let views : new.copy.view ≤ best.copy.view = subst (λ (c : ToldCopy). new.copy.view ≤ c.view) (sym (b.nobody h)) view in
          let positions : new.copy.position ≤ best.copy.position = subst (λ (c : ToldCopy). new.copy.position ≤ c.position) (sym (b.nobody h)) position in
          absurd (let z = sym (not_above new best (omega arith) views positions) ∙ above in cc)
    ]
    has_claim (Some u) h = above_claims new best above (b.claims u h)

-- one more server, which does not
pub same_next : (x : OngoingReopening) (s i : ℕ) (successor : Option ℕ) (best : Standing) → IsBestBelow x s i successor best → stands_above (standing_of x s i) best ≡ false → IsBestBelow x s (i + 1) successor best
same_next x s i successor best b below = record {
  nobody = b.nobody;
  nothing = b.nothing;
  known = λ u d. let l = b.known u d in omega arith;
  claims = b.claims;
  standing = b.standing;
  best = λ k l. elim (cases_eq k i) [ inl d ↦ subst (λ (j : ℕ). stands_above (standing_of x s j) best ≡ false) (sym d) below | inr d ↦ b.best k (omega arith) ];
  first = b.first;
}

-- a server past all numbers has no claim
pub no_claim_past : (x : OngoingReopening) (s v : ℕ) → length x.servers.items ≤ v → (standing_of x s v).claim ≡ 0
no_claim_past x s v l =
    ap (λ b. if b then claim ((recorded_place x).cells s v) false else claim_told ((net_reopening x).told (Server v)) s) (not_carried x v l)
    ∙ ap (λ (o : Option Inventory). claim_told o s) (none_told x v l)

-- the best of all inherits
pub inherits : (x : OngoingReopening) (s u : ℕ) (successor : Option ℕ) (best : Standing) → IsBestBelow x s (length x.servers.items) successor best → successor ≡ Some u → IsSuccessorOf x s u
inherits x s u successor best b e = let here = b.standing u e in record {
  known = b.known u e;
  claims = subst (λ (t : Standing). 0 < t.claim) here (b.claims u e);
  best = λ v. elim (cases_lt v (length x.servers.items)) [
    | inl l ↦ subst (λ (t : Standing). stands_above (standing_of x s v) t ≡ false) here (b.best v l)
    | inr l ↦
        let none = no_claim_past x s v l in
        let some : 0 < (standing_of x s u).claim = subst (λ (t : Standing). 0 < t.claim) here (b.claims u e) in
        none_above (standing_of x s v) (standing_of x s u) (omega arith) some
  ];
  first = λ v l. subst (λ (t : Standing). stands_above t (standing_of x s v) ≡ true) here (b.first u v e l);
}

-- there is none exactly if nobody has a claim
pub none_inherits : (x : OngoingReopening) (s : ℕ) (successor : Option ℕ) (best : Standing) → IsBestBelow x s (length x.servers.items) successor best → (successor ≡ None) ↔ HasNoSurvivor x s
none_inherits x s successor best b = (none_there, nobody_there successor refl)
  where
    none_there : successor ≡ None → HasNoSurvivor x s
    none_there e v = elim (cases_lt v (length x.servers.items)) [
      | inl l ↦ elim (cases_lt 0 (standing_of x s v).claim) [
        | inl some ↦ absurd (let c = below_claims (standing_of x s v) best (b.best v l) some in let n = b.nothing e in omega arith)
        | inr none ↦ omega arith
      ]
      | inr l ↦ no_claim_past x s v l
    ]

    nobody_there : (o : Option ℕ) → successor ≡ o → HasNoSurvivor x s → successor ≡ None
    nobody_there None e none = e
    nobody_there (Some u) e none = absurd (let c = b.claims u e in let n = none u in let same = ap (λ (t : Standing). t.claim) (b.standing u e) in omega arith)

-- if no server below all numbers stands above one, no server does
pub none_better : (x : OngoingReopening) (s v : ℕ) → first_below (length x.servers.items) (λ u. stands_above (standing_of x s u) (standing_of x s v)) ≡ None → (u : ℕ) → stands_above (standing_of x s u) (standing_of x s v) ≡ false
none_better x s v none u = elim (cases_lt u (length x.servers.items)) [
  | inl l ↦ first_none (length x.servers.items) (λ w. stands_above (standing_of x s w) (standing_of x s v)) none u l
  | inr l ↦
      let claim = no_claim_past x s u l in
      let copy : (standing_of x s u).copy ≡ no_copy = ap (λ (t : ServerState). told_copy t.told s) (get_or_past x.servers.items u (fresh_state Member) l) in
      let view : (standing_of x s u).copy.view ≡ 0 = ap (λ (c : ToldCopy). c.view) copy in
      let position : (standing_of x s u).copy.position ≡ 0 = ap (λ (c : ToldCopy). c.position) copy in
      not_above (standing_of x s u) (standing_of x s v) (omega arith) (omega arith) (omega arith)
]

-- one server inherits at most
pub one_inherits : (x : OngoingReopening) (s u v : ℕ) → IsSuccessorOf x s u → IsSuccessorOf x s v → u ≡ v
one_inherits x s u v a b = elim (cases_lt u v) [
  | inl l ↦ absurd (let above = b.first u l in let below = a.best v in let z = sym above ∙ below in cc)
  | inr l ↦ elim (cases_lt v u) [
    | inl m ↦ absurd (let above = a.first v m in let below = b.best u in let z = sym above ∙ below in cc)
    | inr m ↦ omega arith
  ]
]

-- the lowest number that passes is found
first_found : (n : ℕ) (t : ℕ → Bool) (u : ℕ) → u < n → t u ≡ true → ((k : ℕ) → k < u → t k ≡ false) → first_below n t ≡ Some u
first_found n t u l e none = find_filter t (range_with_len 0 n) _ u (first_listed t 0 n u (omega arith) (omega arith) e (λ k _ m. none k m))

-- somebody is there who passes
some_there : (n : ℕ) (t : ℕ → Bool) (u : ℕ) → u < n → t u ≡ true → is_none (first_below n t) ≡ false
some_there n t u l e = elim (cases_Option (first_below n t)) [
  | inl none ↦ absurd (let z = sym (first_none n t none u l) ∙ e in cc)
  | inr some ↦ rw some.1 refl
]

-- who inherits is the best
best_is : (x : OngoingReopening) (s u : ℕ) → IsSuccessorOf x s u → is_best x s u ≡ true
best_is x s u h = and_from _ _ (lt-ltb 0 (standing_of x s u).claim h.claims)
    (ap is_none (first_none_from (length x.servers.items) (λ v. stands_above (standing_of x s v) (standing_of x s u)) (λ v _. h.best v)))

-- and those below it are not
not_best : (x : OngoingReopening) (s u v : ℕ) → IsSuccessorOf x s u → v < u → is_best x s v ≡ false
not_best x s u v h l =
    let above = some_there (length x.servers.items) (λ w. stands_above (standing_of x s w) (standing_of x s v)) u h.known (h.first v l) in
    ap (λ b. nat_lt 0 (standing_of x s v).claim && b) above ∙ and_false (nat_lt 0 (standing_of x s v).claim)
  where
    and_false : (b : Bool) → (b && false) ≡ false
    and_false true = refl
    and_false false = refl

-- so it is the first of those
pub successor_exact : (x : OngoingReopening) (s : ℕ) (successor : Option ℕ) → IfSome successor (IsSuccessorOf x s) → (successor ≡ None → HasNoSurvivor x s) → successor ≡ successor_of x s
successor_exact x s (Some u) is none = sym (first_found (length x.servers.items) (is_best x s) u is.known (best_is x s u is) (λ v l. not_best x s u v is l))
successor_exact x s None is none = sym (first_none_from (length x.servers.items) (is_best x s) (λ v _. nobody v (none refl v)))
  where
    nobody : (v : ℕ) → (standing_of x s v).claim ≡ 0 → is_best x s v ≡ false
    nobody v e = ap (λ n. nat_lt 0 n && is_none (first_below (length x.servers.items) (λ w. stands_above (standing_of x s w) (standing_of x s v)))) e
