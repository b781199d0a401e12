-- The statement of a lead about live and serving servers.
use Rattle.std.proofs.Common.{◌≡◌, ◌≢◌, ℕ, ◌+◌, ◌<◌, Bool, true, false, not, ◌&&◌, ◌||◌, refl, sym, ap, ◌∙◌, inl, inr, subst, ◌⊎◌, Option, Some, None}
use Rattle.std.proofs.lemmas.Bool.{cases_eq, eq-eqb}
use Rattle.sm_server.specs.declared.call.Cell.{Cell}
use Rattle.sm_server.specs.declared.call.Cell.TheVariants.{Absent, Prepared, Secondary, Primary, Forwarding}
use Rattle.sm_server.specs.Cell.{is_secondary}
use Rattle.sm_placement.specs.declared.lead.Lead.{Lead}
use Rattle.sm_placement.specs.declared.lead.Lead.TheVariants.{Gone, At, Ready, Handing, Handed}
use Rattle.sm_placement.specs.Setup.{Sizes}
use Rattle.sm_placement.specs.Rows.{is_live, serves, serves_as, forwards}
use Rattle.sm_placement.specs.Place.{Place, live_at}
use Rattle.sm_placement.specs.Lead.{Describes, IsPlain, leader}
use Rattle.sm_placement.specs.Sums.{sum_below, count_below, bit}
use Rattle.sm_placement.proofs.Sums.{same_sum, sum_of_both, sum_zero, sum_one}

-- 1 where there is a server and it is up, else 0
abbrev pub up_if : (ℕ → Bool) → Option ℕ → ℕ
up_if down None = 0
up_if down (Some u) = bit (not (down u))

-- how many secondaries of a shard are up
abbrev pub secondaries : Sizes → Place → ℕ → ℕ
secondaries c p s = count_below c.servers (λ v. not (p.down v) && is_secondary (p.cells s v))

pub plain_not_serving : (row : ℕ → Cell) (v : ℕ) (x : Cell) → IsPlain x → serves_as row v x ≡ false
plain_not_serving row v Absent h = refl
plain_not_serving row v Secondary h = refl
plain_not_serving row v Primary h = absurd h
plain_not_serving row v (Prepared a b) h = absurd h
plain_not_serving row v (Forwarding a b) h = absurd h

pub by_primary : (row : ℕ → Cell) (v : ℕ) → row v ≡ Primary → (serves row v ≡ true) × (is_secondary (row v) ≡ false)
by_primary row v e = (rw e, rw e)

pub by_prepared : (row : ℕ → Cell) (u v n : ℕ) → row v ≡ Prepared u n → row u ≡ Forwarding v n → (serves row v ≡ true) × (is_secondary (row v) ≡ false)
by_prepared row u v n e f = (rw (e, f, eq-eqb v v refl, eq-eqb n n refl) refl, rw e)

-- a server that is prepared from one that forwards nothing doesn't serve
pub not_forwarding : (row : ℕ → Cell) (v : ℕ) → ((to m : ℕ) → row v ≢ Forwarding to m) → (w n : ℕ) → row w ≡ Prepared v n → serves row w ≡ false
not_forwarding row v none w n e = rw e (go (row v) none)
  where
    go : (x : Cell) → ((to m : ℕ) → x ≢ Forwarding to m) → forwards x w n ≡ false
    go (Forwarding to m) none = absurd (none to m refl)
    go Absent none = refl
    go Secondary none = refl
    go Primary none = refl
    go (Prepared a b) none = refl

pub by_forwarding : (row : ℕ → Cell) (v to m : ℕ) → row v ≡ Forwarding to m → serves row v ≡ false
by_forwarding row v to m e = rw e

pub by_plain : (row : ℕ → Cell) (v : ℕ) → IsPlain (row v) → serves row v ≡ false
by_plain row v h = plain_not_serving row v (row v) h

some_is : (x u : ℕ) → Some x ≡ Some u → x ≡ u
some_is x u e = cc

-- the leader serves, and is no secondary
pub leader_serves : (lead : Lead) (n : ℕ) (row : ℕ → Cell) → Describes lead n row → (u : ℕ) → leader lead ≡ Some u → (serves row u ≡ true) × (is_secondary (row u) ≡ false)
leader_serves Gone n row d u e = cc
leader_serves (At x) n row d u e = by_primary row u (rw (← some_is x u e) d.0)
leader_serves (Ready x y) n row d u e = by_primary row u (rw (← some_is x u e) d.1)
leader_serves (Handing x y) n row d u e = subst (λ w. (serves row w ≡ true) × (is_secondary (row w) ≡ false)) (some_is y u e) (by_prepared row x y n d.2 d.1)
leader_serves (Handed x y) n row d u e = by_primary row u (rw (← some_is y u e) d.2)

-- no other server serves
pub others_dont : (lead : Lead) (n : ℕ) (row : ℕ → Cell) → Describes lead n row → (u : ℕ) → leader lead ≢ Some u → serves row u ≡ false
others_dont Gone n row d u e = by_plain row u (d u)
others_dont (At x) n row d u e = by_plain row u (d.1 u (λ q. e (ap Some (sym q))))
others_dont (Ready x y) n row d u e = elim (cases_eq u y) [
  | inl q ↦ not_forwarding row x (λ to m f. cc (d.1, f)) u n (rw q d.2)
  | inr q ↦ by_plain row u (d.3 u (λ r. e (ap Some (sym r))) q)
]
others_dont (Handing x y) n row d u e = elim (cases_eq u x) [
  | inl q ↦ by_forwarding row u y n (rw q d.1)
  | inr q ↦ by_plain row u (d.3 u q (λ r. e (ap Some (sym r))))
]
others_dont (Handed x y) n row d u e = elim (cases_eq u x) [
  | inl q ↦ by_forwarding row u y n (rw q d.1)
  | inr q ↦ by_plain row u (d.3 u q (λ r. e (ap Some (sym r))))
]

-- at most one server serves
pub one_serves : (lead : Lead) (n : ℕ) (row : ℕ → Cell) → Describes lead n row → (u v : ℕ) → serves row u ≡ true → serves row v ≡ true → u ≡ v
one_serves lead n row d u v e f = go (leader lead) refl
  where
    leads : (x : ℕ) → serves row x ≡ true → (o : Option ℕ) → leader lead ≡ o → o ≡ Some x
    leads x s None q = absurd (let z : serves row x ≡ false = others_dont lead n row d x (λ r. cc) in cc)
    leads x s (Some y) q = elim (cases_eq y x) [
      | inl r ↦ ap Some r
      | inr r ↦ absurd (let z : serves row x ≡ false = others_dont lead n row d x (λ t. r (some_is y x (sym q ∙ t))) in cc)
    ]

    go : (o : Option ℕ) → leader lead ≡ o → u ≡ v
    go o q = some_is u v (sym (leads u e o q) ∙ leads v f o q)

-- live servers are the secondaries that are up, and the leader if it is up
pub live_by_lead : (c : Sizes) (p : Place) (s n : ℕ) (lead : Lead) → Describes lead n (p.cells s) → ((x : ℕ) → leader lead ≡ Some x → x < c.servers) →
    live_at c p s ≡ secondaries c p s + up_if p.down (leader lead)
live_by_lead c p s n lead d within = go (leader lead) refl
  where
    none : (b x : Bool) → x ≡ false → bit (not b && x) ≡ 0
    none true x h = refl
    none false x h = rw h

    here : (b x : Bool) → x ≡ true → bit (not b && x) ≡ bit (not b)
    here true x h = refl
    here false x h = rw h

    one : (b x y : Bool) → (x ≡ false) ⊎ (y ≡ false) → bit (not b && (x || y)) ≡ bit (not b && x) + bit (not b && y)
    one true x y h = refl
    one false true y (inl h) = cc
    one false true y (inr h) = rw h
    one false false true h = refl
    one false false false h = refl

    row : ℕ → Cell
    row = p.cells s

    sec : ℕ → ℕ
    sec v = bit (not (p.down v) && is_secondary (row v))

    extra : ℕ → ℕ
    extra v = bit (not (p.down v) && serves row v)

    apart : (v : ℕ) (o : Option ℕ) → leader lead ≡ o → (is_secondary (row v) ≡ false) ⊎ (serves row v ≡ false)
    apart v None q = inr (others_dont lead n row d v (λ r. cc))
    apart v (Some u) q = elim (cases_eq u v) [
      | inl r ↦ inl (leader_serves lead n row d v (q ∙ ap Some r)).1
      | inr r ↦ inr (others_dont lead n row d v (λ t. r (some_is u v (sym q ∙ t))))
    ]

    both : live_at c p s ≡ sum_below c.servers sec + sum_below c.servers extra
    both = same_sum c.servers (λ v. bit (is_live row p.down v)) (λ v. sec v + extra v) (λ v l. one (p.down v) (is_secondary (row v)) (serves row v) (apart v (leader lead) refl))
        ∙ sum_of_both c.servers sec extra

    go : (o : Option ℕ) → leader lead ≡ o → live_at c p s ≡ secondaries c p s + up_if p.down o
    go None q =
        let z : sum_below c.servers extra ≡ 0 = sum_zero c.servers extra (λ v. none (p.down v) (serves row v) (others_dont lead n row d v (λ r. cc))) in
        both ∙ ap (λ k. sum_below c.servers sec + k) z
    go (Some u) q =
        let z : sum_below c.servers extra ≡ extra u = sum_one c.servers extra u (within u q) (λ v r. none (p.down v) (serves row v) (others_dont lead n row d v (λ t. r (sym (some_is u v (sym q ∙ t)))))) in
        let y : extra u ≡ bit (not (p.down u)) = here (p.down u) (serves row u) (leader_serves lead n row d u q).0 in
        both ∙ ap (λ k. sum_below c.servers sec + k) (z ∙ y)
