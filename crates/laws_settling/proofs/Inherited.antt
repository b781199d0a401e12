-- The settlement by what was told may be confirmed.
use Rattle.std.proofs.Common.{◌≡◌, ◌≢◌, ◌≤◌, ◌<◌, ◌⊎◌, ℕ, refl, sym, ap, ◌∙◌, inl, inr, subst, arith, not, Bool, true, false, Option, Some, None, length}
use Rattle.std.specs.Prelude.{◌&&◌, is_none, is_some, if◌then◌else◌}
use Rattle.std.proofs.lemmas.Bool.{cases_eq, eq-eqb, ne_eqb}
use Rattle.sm_server.specs.declared.call.Cell.{Cell}
use Rattle.sm_server.specs.declared.call.Cell.TheVariants as cell
use Rattle.sm_placement.specs.Setup.{Setup, sizes_of}
use Rattle.sm_placement.specs.Layout.{IsPlacement}
use Rattle.sm_placement.specs.Lead.{Describes, IsPlain, IsSettled, is_at_rest}
use Rattle.sm_placement.specs.declared.lead.Lead.{Lead}
use Rattle.sm_placement.specs.declared.lead.Lead.TheVariants.{At, Gone}
use Rattle.sm_placement.specs.Place.{down_count}
use Rattle.sm_placement.specs.Rows.{IsKnownCell}
use Rattle.sm_placement.specs.Sums.{bit}
use Rattle.sm_placement.proofs.Searches.{cases_Option}
use Rattle.sm_placement.proofs.Sums.{sum_zero}
use Rattle.sm_protocol.specs.Laws.{MOST_PLACES}
use Rattle.sm_protocol.proofs.Courses.{some_same}
use Rattle.laws_network.specs.Words.{IsOpening, State}
use Rattle.laws_network.specs.Reopening.{Inventory, MapOwner, Party, Reopening, Server, Settlement, is_asked}
use Rattle.laws_network.specs.Reopening.{is_handing}
use Rattle.laws_network.specs.ReopeningLaws.{Keeps, MaySettle, claim, claim_of, claim_told, is_carried}
use Rattle.laws_settling.specs.Inheriting.{HasPlace, claim_by, successor, inherited, is_successor, left_of, settlement_told, told_cell}
use Rattle.laws_settling.proofs.Successors.{successor_is, one_inherits}
use Rattle.laws_settling.proofs.Told.{left_known, left_no_primary, left_plain, none_told, only_primary, primary_claim, told_or_none}

-- what is known of the answers of a reopening in which all have told
pub record AreAnswers (r : Reopening) : Type 0 where
  pub first : r.settlement ≡ None
  pub all : (p : Party) → is_asked r p ≡ true → is_some (r.told p) ≡ true
  pub asked : (v : ℕ) → is_some (r.told (Server v)) ≡ true → (v < r.servers) × (r.lost v ≡ false)
  pub one : (k u v : ℕ) → told_cell (r.told (Server u)) k ≡ cell.Primary → told_cell (r.told (Server v)) k ≡ cell.Primary → u ≡ v

not_some : (o : Option Inventory) → is_some o ≡ true → is_none o ≡ false
not_some None e = absurd (cc)
not_some (Some i) e = refl

module _ (r : Reopening) (w : State) (setup : Setup) (a : AreAnswers r) (p : HasPlace r setup) where
  abbrev n : ℕ
  n = length setup.servers

  abbrev cells : ℕ → ℕ → Cell
  cells = inherited r n

  abbrev told : ℕ → ℕ → Cell
  told k v = told_cell (r.told (Server v)) k

  -- ---- who inherits

  -- a server inherits the shard, or keeps what is left of its cell
  inherits : (k v : ℕ) → ((successor r n k ≡ Some v) × (cells k v ≡ cell.Primary)) ⊎ ((successor r n k ≢ Some v) × (cells k v ≡ left_of (told k v)))
  inherits k v = go (successor r n k) refl
    where
      go : (o : Option ℕ) → successor r n k ≡ o →
          ((successor r n k ≡ Some v) × ((if is_successor o v then cell.Primary else left_of (told k v)) ≡ cell.Primary))
          ⊎ ((successor r n k ≢ Some v) × ((if is_successor o v then cell.Primary else left_of (told k v)) ≡ left_of (told k v)))
      go None e = inr ((λ q. absurd (let z = sym e ∙ q in cc)), refl)
      go (Some u) e = elim (cases_eq u v) [
        | inl s ↦ inl (e ∙ ap (λ x. let o : Option ℕ = Some x in o) s, ap (λ b. if b then cell.Primary else left_of (told k v)) (eq-eqb u v s))
        | inr d ↦ inr ((λ q. d (some_same u v (sym e ∙ q))), ap (λ b. if b then cell.Primary else left_of (told k v)) (ne_eqb u v d))
      ]

  -- who inherits is the primary
  successor_leads : (k u : ℕ) → successor r n k ≡ Some u → cells k u ≡ cell.Primary
  successor_leads k u e = elim (inherits k u) [ inl h ↦ h.1 | inr h ↦ absurd (h.0 e) ]

  -- and it has told something
  successor_told : (k u : ℕ) → successor r n k ≡ Some u → told k u ≢ cell.Absent
  successor_told k u e z =
      absurd (let b = (successor_is r n k u e).1 in let c = none_told (r.told (Server u)) k z in omega arith)

  -- a server inherits the shard, if some server told something of it
  inherited_by : (k v : ℕ) → told k v ≢ cell.Absent → (u : ℕ) × (successor r n k ≡ Some u)
  inherited_by k v some = elim (told_or_none (r.told (Server v)) k) [
    | inl none ↦ absurd (some none)
    | inr claimed ↦ one_inherits r n k v (p.known k v some).1 claimed
  ]

  -- no claim is better than that of who inherits
  none_better : (k u v : ℕ) → successor r n k ≡ Some v → claim_by r k u ≤ claim_by r k v
  none_better k u v e = elim (told_or_none (r.told (Server u)) k) [
    | inl none ↦ (let z = none_told (r.told (Server u)) k none in omega arith)
    | inr claimed ↦ (successor_is r n k v e).2 u (p.known k u (λ none. absurd (let z = none_told (r.told (Server u)) k none in omega arith))).1
  ]

  -- a primary inherits its shard
  primary_inherits : (k v : ℕ) → told k v ≡ cell.Primary → successor r n k ≡ Some v
  primary_inherits k v e =
      let h = inherited_by k v (λ z. absurd (let y = sym e ∙ z in cc)) in
      let best = none_better k v h.0 h.1 in
      let four = primary_claim (r.told (Server v)) k e in
      h.1 ∙ ap (λ x. let o : Option ℕ = Some x in o) (a.one k h.0 v (only_primary (r.told (Server h.0)) k (omega arith)) e)

  -- ---- the placement

  -- nothing becomes of nothing
  nothing_left : (k v : ℕ) → told k v ≡ cell.Absent → cells k v ≡ cell.Absent
  nothing_left k v e = elim (inherits k v) [ inl h ↦ absurd (successor_told k v h.0 e) | inr h ↦ h.1 ∙ ap left_of e ]

  -- of a server or a shard that the configuration does not know nothing was told
  unknown_server : (k v : ℕ) → n ≤ v → told k v ≡ cell.Absent
  unknown_server k v above = elim (told_or_none (r.told (Server v)) k) [
    | inl none ↦ none
    | inr claimed ↦ absurd (let z = (p.known k v (λ none. absurd (let y = none_told (r.told (Server v)) k none in omega arith))).1 in omega arith)
  ]

  unknown_shard : (k v : ℕ) → length setup.shards ≤ k → told k v ≡ cell.Absent
  unknown_shard k v above = elim (told_or_none (r.told (Server v)) k) [
    | inl none ↦ none
    | inr claimed ↦ absurd (let z = (p.known k v (λ none. absurd (let y = none_told (r.told (Server v)) k none in omega arith))).0 in omega arith)
  ]

  no_successor : (k : ℕ) → length setup.shards ≤ k → successor r n k ≡ None
  no_successor k above = elim (cases_Option (successor r n k)) [ inl none ↦ none | inr h ↦ absurd (successor_told k h.0 h.1 (unknown_shard k h.0 above)) ]

  known_cell : (k v : ℕ) → IsKnownCell n (cells k v)
  known_cell k v = elim (inherits k v) [
    | inl h ↦ subst (IsKnownCell n) (sym h.1) tt
    | inr h ↦ subst (IsKnownCell n) (sym h.1) (left_known n (told k v))
  ]

  plain_else : (k v : ℕ) → successor r n k ≢ Some v → IsPlain (cells k v)
  plain_else k v other = elim (inherits k v) [
    | inl h ↦ absurd (other h.0)
    | inr h ↦ subst IsPlain (sym h.1) (left_plain (told k v))
  ]

  leads : (k : ℕ) → (lead : Lead) × (is_at_rest lead ≡ true) × Describes lead 0 (cells k)
  leads k = elim (cases_Option (successor r n k)) [
    | inl none ↦ (Gone, refl, λ v. plain_else k v (λ e. absurd (let z = sym none ∙ e in cc)))
    | inr h ↦ (At h.0, refl, (successor_leads k h.0 h.1, λ v d. plain_else k v (λ e. d (some_same v h.0 (sym e ∙ h.1)))))
  ]

  module _ (limit room : ℕ) (roomy : room ≤ MOST_PLACES) where
    abbrev s : Settlement
    s = settlement_told r setup limit room

    none_down : down_count (sizes_of setup) s.place ≡ 0
    none_down = sum_zero n (λ v. bit false) (λ v. refl)

    placement : IsPlacement (sizes_of setup) s.place
    placement = record {
      no_server = λ k v above. nothing_left k v (unknown_server k v above);
      no_shard = λ k v above. nothing_left k v (unknown_shard k v above);
      no_entry = no_successor;
      no_down = λ v above. refl;
      known = known_cell;
      listed = λ k u e. (successor_is r n k u e).0;
      rooms = p.rooms;
    }

    settled : IsSettled (sizes_of setup) s.place
    settled = record {
      leads = λ k below. leads k;
      listed = λ k u below e. successor_leads k u e;
      rooms = p.rooms;
      floors = p.floors;
      down = let z = none_down in omega arith;
      versions = λ k below. omega arith;
    }

    opening : IsOpening setup s.place room
    opening = record { rows = p.rows; placement = placement; settled = settled; least = (let z = none_down in omega arith); most = roomy }

    -- ---- what was told

    none_carried : (v : ℕ) → is_carried r w v ≡ false
    none_carried v = go (is_asked r (Server v)) refl
      where
        rest : Bool
        rest = w.place.down v && not (r.promised v)

        go : (b : Bool) → is_asked r (Server v) ≡ b → is_carried r w v ≡ false
        go true e = ap (λ x. x && (is_none (r.told (Server v)) && rest)) e ∙ ap (λ b. b && rest) (not_some (r.told (Server v)) (a.all (Server v) e))
        go false e = ap (λ x. x && (is_none (r.told (Server v)) && rest)) e

    claim_is : (k v : ℕ) → claim_of r w k v ≡ claim_by r k v
    claim_is k v = ap (λ b. if b then claim (w.place.cells k v) false else claim_told (r.told (Server v)) k) (none_carried v)

    keeps : (k v : ℕ) (c : Cell) → told k v ≡ c → Keeps c (cells k v)
    keeps k v cell.Absent e = nothing_left k v e
    keeps k v cell.Secondary e = elim (inherits k v) [ inl h ↦ inr h.1 | inr h ↦ inl (h.1 ∙ ap left_of e) ]
    keeps k v cell.Primary e = successor_leads k v (primary_inherits k v e)
    keeps k v (cell.Prepared from number) e = elim (inherits k v) [ inl h ↦ inl h.1 | inr h ↦ inr (h.1 ∙ ap left_of e) ]
    keeps k v (cell.Forwarding to number) e = elim (inherits k v) [ inl h ↦ inl h.1 | inr h ↦ inr (h.1 ∙ ap left_of e) ]

    gives_none : (k v : ℕ) → r.lost v ≡ true → told k v ≡ cell.Absent
    gives_none k v lost = go (r.told (Server v)) refl
      where
        go : (o : Option Inventory) → r.told (Server v) ≡ o → told_cell o k ≡ cell.Absent
        go None e = refl
        go (Some i) e = absurd (let z = (a.asked v (ap is_some e)).1 in cc)

    best : (k u v : ℕ) → cells k v ≡ cell.Primary → 0 < claim_of r w k u → 0 < claim_of r w k v
    best k u v e some = elim (inherits k v) [
      | inl h ↦ (let x = claim_is k u in let y = claim_is k v in let z = none_better k u v h.0 in omega arith)
      | inr h ↦ absurd (left_no_primary (told k v) (sym h.1 ∙ e))
    ]

    handed : (k v : ℕ) (c : Cell) → told k v ≡ c → is_handing c ≡ true → (u : ℕ) × (cells k u ≡ cell.Primary)
    handed k v c e hands =
        let h = inherited_by k v (λ none. absurd (let z : is_handing c ≡ false = ap is_handing (sym e ∙ none) in cc)) in
        (h.0, successor_leads k h.0 h.1)

    -- it may be confirmed
    pub may_settle : MaySettle r w s
    may_settle = record {
      first = a.first;
      opening = opening;
      servers = p.servers;
      map = a.all MapOwner refl;
      answered = λ v asked. inl (a.all (Server v) asked);
      kept = λ k v cells reached e. keeps k v (cells k) (ap (λ o. told_cell o k) e);
      carried = λ k v c. absurd (let z = none_carried v in cc);
      down = λ v c below. absurd (let z = none_carried v in cc);
      lost = λ k v lost. nothing_left k v (gives_none k v lost);
      claims = best;
      handed = λ k v cells reached e hands. handed k v (cells k) (ap (λ o. told_cell o k) e) hands;
    }
