-- The facts that a settlement keeps: who may be confirmed as a primary, and what stays.
use Rattle.std.proofs.Common.{◌≡◌, ◌≤◌, ◌<◌, ◌⊎◌, ℕ, refl, sym, ap, ◌∙◌, inl, inr, subst, arith, not, Bool, true, false, Option, Some, None}
use Rattle.std.specs.Prelude.{◌&&◌, is_none, if◌then◌else◌}
use Rattle.std.proofs.lemmas.Bool.{and_parts, cases_Bool, cases_eq, cases_lt}
use Rattle.sm_server.specs.declared.call.Cell.{Cell}
use Rattle.sm_server.specs.declared.call.Cell.TheVariants as cell
use Rattle.sm_placement.specs.Setup.{Setup, sizes_of}
use Rattle.sm_placement.specs.Lead.{Describes, IsPlain, is_at_rest}
use Rattle.sm_placement.specs.declared.lead.Lead.{Lead}
use Rattle.sm_placement.specs.declared.lead.Lead.TheVariants.{Gone, At, Ready, Handing, Handed}
use Rattle.sm_placement.specs.Place.{Place}
use Rattle.sm_placement.specs.Rows.{serves_as}
use Rattle.sm_placement.proofs.Leads.{one_serves}
use Rattle.sm_protocol.proofs.Courses.{some_same}
use Rattle.laws_network.specs.Words.{IsOpening, State}
use Rattle.laws_network.specs.Reopening.{Entries, Inventory, Reopening, Server, Settlement, Slots, Unknown, is_asked, is_handing}
use Rattle.laws_network.specs.ReopeningLaws.{IsAtRest, IsFair, IsSuccessor, IsKnownAs, Keeps, MaySettle, SettlesFairly, claim, claim_of, claim_told, is_carried}

-- ---- settled placements

-- a settled cell is that of a secondary or a primary, or nothing
abbrev pub IsSettledCell : Cell → Type 0
IsSettledCell c = IsPlain c ⊎ (c ≡ cell.Primary)

module _ (setup : Setup) (p : Place) (room : ℕ) (o : IsOpening setup p room) where
  -- a shard has at most one primary
  pub one_primary : (k u v : ℕ) → p.cells k u ≡ cell.Primary → p.cells k v ≡ cell.Primary → u ≡ v
  one_primary k u v e f = elim (cases_lt k (sizes_of setup).shards) [
    | inl l ↦ let d = o.settled.leads k l in one_serves d.0 0 (p.cells k) d.2 u v (ap (serves_as (p.cells k) u) e) (ap (serves_as (p.cells k) v) f)
    | inr l ↦ absurd (let z = o.placement.no_shard k u l in cc)
  ]

  -- each cell of a settled placement is a settled one
  pub settled_cell : (k v : ℕ) → IsSettledCell (p.cells k v)
  settled_cell k v = elim (cases_lt k (sizes_of setup).shards) [
    | inl l ↦ let d = o.settled.leads k l in by_lead d.0 d.1 d.2
    | inr l ↦ inl (subst IsPlain (sym (o.placement.no_shard k v l)) tt)
  ]
    where
      by_lead : (lead : Lead) → is_at_rest lead ≡ true → Describes lead 0 (p.cells k) → IsSettledCell (p.cells k v)
      by_lead Gone r d = inl (d v)
      by_lead (At u) r d = elim (cases_eq v u) [
        | inl e ↦ inr (ap (p.cells k) e ∙ d.0)
        | inr e ↦ inl (d.1 v e)
      ]
      by_lead (Ready u w) r d = absurd (cc)
      by_lead (Handing u w) r d = absurd (cc)
      by_lead (Handed u w) r d = absurd (cc)

-- ---- what was told

-- the cells that were told
abbrev pub cells_of : Inventory → ℕ → Cell
cells_of (Slots cells reached) = cells
cells_of _ = λ s. cell.Absent

-- who told is not carried over
pub told_stays : (r : Reopening) (w : State) (v : ℕ) (i : Inventory) → r.told (Server v) ≡ Some i → is_carried r w v ≡ false
told_stays r w v i t = elim (cases_Bool (is_carried r w v)) [
  | inl c ↦ absurd (
      let a = and_parts (is_asked r (Server v)) (is_none (r.told (Server v)) && (w.place.down v && not (r.promised v))) c in
      let b = and_parts (is_none (r.told (Server v))) (w.place.down v && not (r.promised v)) a.1 in
      let z : is_none (r.told (Server v)) ≡ false = ap is_none t in
      cc
      )
  | inr c ↦ c
]

-- a cell with part in a handover has a claim
handing_claim : (c : Cell) (b : Bool) → is_handing c ≡ true → (claim c b ≡ 1) ⊎ (claim c b ≡ 3)
handing_claim cell.Absent b h = absurd (cc)
handing_claim cell.Secondary b h = absurd (cc)
handing_claim cell.Primary b h = absurd (cc)
handing_claim (cell.Prepared from number) false h = inl refl
handing_claim (cell.Prepared from number) true h = inr refl
handing_claim (cell.Forwarding to number) b h = inr refl

-- ---- what is kept

module _ (r : Reopening) (w : State) (s : Settlement) (m : MaySettle r w s) where
  one : (k u v : ℕ) → s.place.cells k u ≡ cell.Primary → s.place.cells k v ≡ cell.Primary → u ≡ v
  one = one_primary s.setup s.place s.room m.opening

  -- a primary stays
  primary_stays : (k u : ℕ) → IsKnownAs r w k u cell.Primary → s.place.cells k u ≡ cell.Primary
  primary_stays k u (inl t) = subst (λ c. Keeps c (s.place.cells k u)) t.3 (m.kept k u t.0 t.1 t.2)
  primary_stays k u (inr c) = m.carried k u c.0 ∙ c.1

  -- a server is known as one cell
  one_cell : (k v : ℕ) (c d : Cell) → IsKnownAs r w k v c → IsKnownAs r w k v d → c ≡ d
  one_cell k v c d (inl t) (inl q) = sym t.3 ∙ ap (λ i. cells_of i k) (some_same (Slots t.0 t.1) (Slots q.0 q.1) (sym t.2 ∙ q.2)) ∙ q.3
  one_cell k v c d (inl t) (inr q) = absurd (let z = told_stays r w v _ t.2 in let y = q.0 in cc)
  one_cell k v c d (inr t) (inl q) = absurd (let z = told_stays r w v _ q.2 in let y = t.0 in cc)
  one_cell k v c d (inr t) (inr q) = sym t.1 ∙ q.1

  at_rest_kept : (k u v : ℕ) (c : Cell) → IsAtRest r k → IsKnownAs r w k u cell.Primary → IsKnownAs r w k v c → s.place.cells k v ≡ c
  at_rest_kept k u v c rests p (inr q) = m.carried k v q.0 ∙ q.1
  at_rest_kept k u v c rests p (inl t) = go (t.0 k) refl (m.kept k v t.0 t.1 t.2) ∙ t.3
    where
      go : (x : Cell) → t.0 k ≡ x → Keeps x (s.place.cells k v) → s.place.cells k v ≡ t.0 k
      go cell.Absent e h = h ∙ sym e
      go cell.Primary e h = h ∙ sym e
      go cell.Secondary e (inl h) = h ∙ sym e
      go cell.Secondary e (inr h) = absurd (
          let same = one k u v (primary_stays k u p) h in
          let z = one_cell k v cell.Primary cell.Secondary (subst (λ a. IsKnownAs r w k a cell.Primary) same p) (inl (t.0, t.1, t.2, e)) in
          cc
          )
      go (cell.Prepared a b) e h = absurd (let z = rests v t.0 t.1 t.2 in let y : is_handing (t.0 k) ≡ true = ap is_handing e in cc)
      go (cell.Forwarding a b) e h = absurd (let z = rests v t.0 t.1 t.2 in let y : is_handing (t.0 k) ≡ true = ap is_handing e in cc)

  -- the claim of who has told
  claim_is : (k v : ℕ) (i : Inventory) → r.told (Server v) ≡ Some i → claim_of r w k v ≡ claim_told (Some i) k
  claim_is k v i t = ap (λ b. if b then claim (w.place.cells k v) false else claim_told (r.told (Server v)) k) (told_stays r w v i t) ∙ ap (λ o. claim_told o k) t

  module _ (k v : ℕ) (cells : ℕ → Cell) (reached : ℕ → Bool) (told : r.told (Server v) ≡ Some (Slots cells reached)) (hands : is_handing (cells k) ≡ true) where
    abbrev u : ℕ
    u = (m.handed k v cells reached told hands).0

    primary : s.place.cells k u ≡ cell.Primary
    primary = (m.handed k v cells reached told hands).1

    successor : IsSuccessor r w k u
    successor = elim (cases_Bool (is_carried r w u)) [
      | inl c ↦ (cell.Primary, inr (c, sym (m.carried k u c) ∙ primary), λ z. absurd (cc))
      | inr c ↦ by_told c (r.told (Server u)) refl
    ]
      where
        mine : (claim (cells k) (reached k) ≡ 1) ⊎ (claim (cells k) (reached k) ≡ 3)
        mine = handing_claim (cells k) (reached k) hands

        some : 0 < claim_of r w k v
        some = let e = claim_is k v (Slots cells reached) told in elim mine [ inl q ↦ omega arith | inr q ↦ omega arith ]

        none : claim_of r w k u ≡ 0 → ⊥
        none z = let l = m.claims k v u primary some in omega arith

        by_cell : (d : ℕ → Cell) (b : ℕ → Bool) → r.told (Server u) ≡ Some (Slots d b) → IsSuccessor r w k u
        by_cell d b t = (d k, inl (d, b, t, refl), λ e. none (claim_is k u (Slots d b) t ∙ ap (λ c. claim c (b k)) e))

        by_told : is_carried r w u ≡ false → (o : Option Inventory) → r.told (Server u) ≡ o → IsSuccessor r w k u
        by_told c None t = absurd (none (ap (λ b. if b then claim (w.place.cells k u) false else claim_told (r.told (Server u)) k) c ∙ ap (λ o. claim_told o k) t))
        by_told c (Some (Slots d b)) t = by_cell d b t
        by_told c (Some (Unknown n)) t = absurd (none (claim_is k u (Unknown n) t))
        by_told c (Some Entries) t = absurd (none (claim_is k u Entries t))

  pub is_fair : IsFair r w s
  is_fair = record {
    kept = at_rest_kept;
    handed = λ k v cells reached told hands. (
      u k v cells reached told hands,
      primary k v cells reached told hands,
      (λ x q. one k x (u k v cells reached told hands) q (primary k v cells reached told hands)),
      successor k v cells reached told hands,
    );
  }

-- whatever may be confirmed keeps what it should
pub settles_fairly : SettlesFairly
settles_fairly r w s m = is_fair r w s m
