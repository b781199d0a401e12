-- Who inherits a shard that is not named has all that is acknowledged.
use Rattle.std.proofs.Common.{◌≡◌, ◌∙◌, ◌<◌, ◌≤◌, ◌⊎◌, ℕ, Bool, true, false, not, ◌&&◌, List, Option, Some, None, ap, ap₂, arith, inl, inr, ltb, refl, subst, sym, if◌then◌else◌}
use Rattle.std.specs.Prelude.{◌||◌, ◌==◌, is_none, is_some, nat_le, nat_lt, option_map}
use Rattle.std.proofs.lemmas.Bool.{and_from, and_parts, cases_Bool, cases_lt, eq-eqb, le-leb, le-ltb, lt-ltb, or_parts, false≢true}
use Rattle.sm_server.specs.Cell.{is_absent}
use Rattle.sm_placement.specs.Opening.{first_below}
use Rattle.sm_placement.specs.Sums.{count_below}
use Rattle.sm_placement.proofs.Searches.{first_none, first_none_from}
use Rattle.sm_copies.specs.declared.order.ToldCopy.{ToldCopy}
use Rattle.sm_copies.specs.Lists.{ListEntry, told_of}
use Rattle.sm_copies.specs.Order.{IsAtLeast}
use Rattle.laws_network.specs.Reopening.{Server}
use Rattle.sm_reopening.specs.declared.ongoing.OngoingReopening.{OngoingReopening}
use Rattle.sm_reopening.specs.declared.party.Inventory.{Inventory as Told}
use Rattle.sm_reopening.specs.declared.survivors.Standing.{Standing}
use Rattle.sm_reopening.specs.Losses.{gone_members, has_gone, is_gone_member, is_primary_still, is_settled_lost, may_lack_copies, may_lack_writes, tells_whole}
use Rattle.sm_reopening.specs.Ongoing.{net_reopening, recorded_place, told_copies}
use Rattle.sm_reopening.specs.Proposal.{has_whole}
use Rattle.sm_reopening.specs.States.{net_inventory, no_copy, state_by, told_copy}
use Rattle.sm_reopening.specs.Survivors.{IsSuccessorOf, exceeds, has_more_in_view, stands_above, standing_of}
use Rattle.laws_data.specs.Shard.{IsGreatest, IsShardReached, Shard, gone, lacks}
use Rattle.laws_data.specs.Naming.{KnowsShard, UnnamedIsWhole}
use Rattle.laws_data.proofs.Counts.{count-apart, count-more}
use Rattle.laws_data.proofs.Laws.{enough-have-them, greatest-copy-has-all}

-- ---- standings of secondaries

-- of two secondaries the one with a later view stands above, and in one view the one with the longer copy
above-secondaries : (a b : ToldCopy) → (b.view < a.view) ⊎ ((a.view ≡ b.view) × (b.position < a.position))
    → stands_above (record { claim = 2; copy = a }) (record { claim = 2; copy = b }) ≡ true
above-secondaries a b (inl later) = ap (λ t. t || ((a.view == b.view) && has_more_in_view (record { claim = 2; copy = a }) (record { claim = 2; copy = b }))) (lt-ltb b.view a.view later)
above-secondaries a b (inr longer) =
    ap (λ t. t || ((a.view == b.view) && has_more_in_view one other)) (le-ltb b.view a.view (let e = longer.0 in omega arith))
    ∙ ap (λ t. t && has_more_in_view one other) (eq-eqb a.view b.view longer.0) ∙ more (a.view == 0)
  where
    one : Standing
    one = record { claim = 2; copy = a }

    other : Standing
    other = record { claim = 2; copy = b }

    more : (zero : Bool) → (if zero then exceeds 2 2 (ltb b.position a.position) else exceeds a.position b.position (ltb 2 2)) ≡ true
    more true = lt-ltb b.position a.position longer.1
    more false = ap (λ t. t || ((a.position == b.position) && ltb 2 2)) (lt-ltb b.position a.position longer.1)

-- so who does not stand above has no greater copy
at-least : (a b : ToldCopy) → stands_above (record { claim = 2; copy = a }) (record { claim = 2; copy = b }) ≡ false → IsAtLeast b a
at-least a b under = elim (cases_lt b.view a.view) [
  | inl l ↦ absurd (false≢true (sym under ∙ above-secondaries a b (inl l)))
  | inr l ↦ elim (cases_lt a.view b.view) [
    | inl m ↦ inr (inl m)
    | inr m ↦
        let same : a.view ≡ b.view = omega arith in
        elim (cases_lt b.position a.position) [
          | inl k ↦ absurd (false≢true (sym under ∙ above-secondaries a b (inr (same, k))))
          | inr k ↦ elim (cases_lt a.position b.position) [
            | inl j ↦ inr (inr (same, j))
            | inr j ↦ inl (is a b same (omega arith))
          ]
        ]
  ]
]
  where
    is : (a b : ToldCopy) → a.view ≡ b.view → a.position ≡ b.position → a ≡ b
    is a b v p = ap₂ (λ (view position : ℕ). let c : ToldCopy = record { view = view; position = position } in c) v p

-- ---- what is told

-- who has told nothing has told no copy
none-told : (o : Option Told) (s : ℕ) → is_some (option_map net_inventory o) ≡ false → told_copy o s ≡ no_copy
none-told None s e = refl
none-told (Some told) s e = absurd (false≢true (sym e))

silent : (x : OngoingReopening) (s v : ℕ) → is_some ((net_reopening x).told (Server v)) ≡ false → told_copies x s v ≡ no_copy
silent x s v e = none-told (state_by x.servers.items v).told s e

module _ (x : OngoingReopening) (s : ℕ) (w : Shard) (knows : KnowsShard x s w) where
  -- who has a claim is a secondary
  claims_two : (v : ℕ) → 0 < (standing_of x s v).claim → (standing_of x s v).claim ≡ 2
  claims_two v l = elim (knows.secondaries v) [ inl none ↦ absurd (omega arith) | inr two ↦ two ]

  standing_is : (v : ℕ) → (standing_of x s v).claim ≡ 2 → standing_of x s v ≡ record { claim = 2; copy = told_copies x s v }
  standing_is v e = ap (λ n. record { claim = n; copy = told_copies x s v }) e

  whole_two : (v : ℕ) → has_whole x s v ≡ true → (standing_of x s v).claim ≡ 2
  whole_two v e = claims_two v (elim (cases_lt 1 (standing_of x s v).claim) [
    | inl l ↦ omega arith
    | inr l ↦ absurd (false≢true (sym (le-ltb 1 (standing_of x s v).claim l) ∙ e))
  ])

  two_whole : (v : ℕ) → (standing_of x s v).claim ≡ 2 → has_whole x s v ≡ true
  two_whole v e = ap (ltb 1) e

  -- ---- the heir

  module _ (u v : ℕ) (heir : IsSuccessorOf x s u) (tells : tells_whole x s v ≡ true) where
    told_parts : (has_whole x s v ≡ true) × ((nat_lt 0 (told_copies x s v).view || nat_lt 0 (told_copies x s v).position) ≡ true)
    told_parts = and_parts (has_whole x s v) _ (and_parts (is_some ((net_reopening x).told (Server v)) && not ((net_reopening x).lost v)) _ tells).1

    heir_two : (standing_of x s u).claim ≡ 2
    heir_two = claims_two u heir.claims

    not_over : stands_above (record { claim = 2; copy = told_copies x s v }) (record { claim = 2; copy = told_copies x s u }) ≡ false
    not_over =
        subst (λ (b : Standing). stands_above (record { claim = 2; copy = told_copies x s v }) b ≡ false) (standing_is u heir_two)
        (subst (λ (a : Standing). stands_above a (standing_of x s u) ≡ false) (standing_is v (whole_two v told_parts.0)) (heir.best v))

    -- the heir has no lesser copy
    no_less : IsAtLeast (told_copies x s u) (told_copies x s v)
    no_less = at-least (told_copies x s v) (told_copies x s u) not_over

    -- so it has told one
    placed : (nat_lt 0 (told_copies x s u).view || nat_lt 0 (told_copies x s u).position) ≡ true
    placed = elim (cases_lt 0 (told_copies x s u).view) [
      | inl l ↦ ap (λ t. t || nat_lt 0 (told_copies x s u).position) (lt-ltb 0 (told_copies x s u).view l)
      | inr l ↦ ap (λ t. t || nat_lt 0 (told_copies x s u).position) (le-ltb 0 (told_copies x s u).view l) ∙ lt-ltb 0 (told_copies x s u).position (longer l)
    ]
      where
        some_place : (0 < (told_copies x s v).view) ⊎ (0 < (told_copies x s v).position)
        some_place = elim (cases_lt 0 (told_copies x s v).view) [
          | inl l ↦ inl l
          | inr l ↦ elim (cases_lt 0 (told_copies x s v).position) [
            | inl m ↦ inr m
            | inr m ↦ absurd (false≢true (sym (ap (λ t. t || nat_lt 0 (told_copies x s v).position) (le-ltb 0 (told_copies x s v).view l) ∙ le-ltb 0 (told_copies x s v).position m) ∙ told_parts.1))
          ]
        ]

        same_view : told_copies x s v ≡ told_copies x s u → (told_copies x s v).view ≡ (told_copies x s u).view
        same_view e = ap (λ (c : ToldCopy). c.view) e

        same_position : told_copies x s v ≡ told_copies x s u → (told_copies x s v).position ≡ (told_copies x s u).position
        same_position e = ap (λ (c : ToldCopy). c.position) e

        longer : (told_copies x s u).view ≤ 0 → 0 < (told_copies x s u).position
        longer l = elim no_less [
          | inl e ↦ elim some_place [
            | inl k ↦ absurd (let q = same_view e in omega arith)
            | inr k ↦ (let q = same_position e in omega arith)
          ]
          | inr lesser ↦ elim lesser [
            | inl k ↦ absurd (omega arith)
            | inr k ↦ (let q = k.1 in omega arith)
          ]
        ]

    told_some : is_some ((net_reopening x).told (Server u)) ≡ true
    told_some = elim (cases_Bool (is_some ((net_reopening x).told (Server u)))) [
      | inl e ↦ e
      | inr e ↦ absurd (false≢true (sym (ap (λ (c : ToldCopy). nat_lt 0 c.view || nat_lt 0 c.position) (silent x s u e)) ∙ placed))
    ]

    not_lost : not ((net_reopening x).lost u) ≡ true
    not_lost = elim (cases_Bool ((net_reopening x).lost u)) [
      | inl e ↦ absurd (false≢true (sym (knows.lost u e) ∙ told_some))
      | inr e ↦ ap not e
    ]

    heir_tells : tells_whole x s u ≡ true
    heir_tells =
        and_from (is_some ((net_reopening x).told (Server u)) && not ((net_reopening x).lost u)) _
        (and_from (is_some ((net_reopening x).told (Server u))) (not ((net_reopening x).lost u)) told_some not_lost)
        (and_from (has_whole x s u) _ (two_whole u heir_two) placed)

  -- ---- counting

  some_copy : {A : Type 0} (o : Option A) (a : A) → o ≡ Some a → is_some o ≡ true
  some_copy o a e = ap is_some e

  -- who is gone to the data is a member that is gone
  gone_too : (v : ℕ) → (w.replicas v && not (tells_whole x s v && is_some (w.copies v))) ≡ true → is_gone_member x s v ≡ true
  gone_too v e =
      let p = and_parts (w.replicas v) (not (tells_whole x s v && is_some (w.copies v))) e in
      and_from (not (is_absent ((recorded_place x).cells s v))) (not (tells_whole x s v)) (sym (knows.replicas v) ∙ p.0)
      (elim (cases_Bool (tells_whole x s v)) [
        | inl t ↦ absurd (false≢true (sym (ap (λ b. not (b && is_some (w.copies v))) t ∙ ap not (some_copy (w.copies v) (knows.copies v t).0 (knows.copies v t).1)) ∙ p.1))
        | inr t ↦ ap not t
      ])

  few_gone : (kept : ℕ) → gone_members x s < kept → kept ≤ w.needed → gone w (tells_whole x s) < w.needed
  few_gone kept l m =
      let c : gone w (tells_whole x s) ≤ count_below w.servers (is_gone_member x s) = count-more w.servers _ (is_gone_member x s) gone_too in
      let e : count_below w.servers (is_gone_member x s) ≡ gone_members x s = ap (λ n. count_below n (is_gone_member x s)) knows.servers in
      omega arith

  -- somebody tells a whole copy
  somebody : IsShardReached w → gone w (tells_whole x s) < w.needed → (v : ℕ) × (tells_whole x s v ≡ true)
  somebody reached few =
      let p : ℕ → Bool = λ v. w.replicas v && (not (w.leaving v) && not (lacks w.acknowledged (w.copies v))) in
      let q : ℕ → Bool = λ v. w.replicas v && not (tells_whole x s v && is_some (w.copies v)) in
      let enough : w.needed ≤ count_below w.servers p = enough-have-them w reached in
      let found = count-apart w.servers p q (omega arith) in
      let member = (and_parts (w.replicas found.0) _ found.2).0 in
      (found.0, is_told found.0 member found.3)
    where
      is_told : (v : ℕ) → w.replicas v ≡ true → (w.replicas v && not (tells_whole x s v && is_some (w.copies v))) ≡ false → tells_whole x s v ≡ true
      is_told v member e = elim (cases_Bool (tells_whole x s v)) [
        | inl t ↦ t
        | inr t ↦ absurd (false≢true (sym e ∙ and_from (w.replicas v) _ member (ap (λ b. not (b && is_some (w.copies v))) t)))
      ]

  -- the heir's copy is the greatest of those that are told
  greatest : (u : ℕ) (copy : List ListEntry) → IsSuccessorOf x s u → tells_whole x s u ≡ true → w.copies u ≡ Some copy → IsGreatest w (tells_whole x s) copy
  greatest u copy heir told is v other l answered there =
      subst (λ (b : ToldCopy). IsAtLeast (told_of copy) b) (tells_as v answered other there)
      (subst (λ (a : ToldCopy). IsAtLeast a (told_copies x s v)) (tells_as u told copy is) (no_less u v heir answered))
    where
      one : {A : Type 0} (o : Option A) (a b : A) → o ≡ Some a → o ≡ Some b → a ≡ b
      one {A} o a b e f = let z : ◌≡◌ {A = Option A} (Some a) (Some b) = sym e ∙ f in cc

      tells_as : (v : ℕ) → tells_whole x s v ≡ true → (copy : List ListEntry) → w.copies v ≡ Some copy → told_copies x s v ≡ told_of copy
      tells_as v t copy is = let k = knows.copies v t in k.2 ∙ ap told_of (one (w.copies v) k.0 copy k.1 is)

  -- nobody is primary still
  nobody_leads : is_none (first_below (net_reopening x).servers (is_primary_still x s)) ≡ true
  nobody_leads = ap is_none (first_none_from (net_reopening x).servers (is_primary_still x s) (λ v l. low v (knows.secondaries v)))
    where
      low : (v : ℕ) → ((standing_of x s v).claim ≡ 0) ⊎ ((standing_of x s v).claim ≡ 2) → is_primary_still x s v ≡ false
      low v (inl e) = ap (λ n. nat_lt 3 n && ((net_reopening x).promised v || not (is_settled_lost x))) e
      low v (inr e) = ap (λ n. nat_lt 3 n && ((net_reopening x).promised v || not (is_settled_lost x))) e

  -- too few members are gone
  few_members : (kept : ℕ) → is_some (first_below (net_reopening x).servers (has_gone x s)) ≡ true → may_lack_writes x kept s ≡ false → gone_members x s < kept
  few_members kept some e =
      elim (cases_lt (gone_members x s) kept) [
        | inl l ↦ l
        | inr l ↦ absurd (false≢true (sym e ∙ lacking l))
      ]
    where
      short : (alone rest : Bool) → nat_le kept (gone_members x s) ≡ true → ((alone || nat_le kept (gone_members x s)) || rest) ≡ true
      short true rest e = refl
      short false rest e = ap (λ t. t || rest) e

      le_is : kept ≤ gone_members x s → nat_le kept (gone_members x s) ≡ true
      le_is l = le-leb kept (gone_members x s) l

      lacking : kept ≤ gone_members x s → may_lack_writes x kept s ≡ true
      lacking l =
          and_from (is_none (first_below (net_reopening x).servers (is_primary_still x s)) && is_some (first_below (net_reopening x).servers (has_gone x s)))
          (may_lack_copies x kept s)
          (and_from (is_none (first_below (net_reopening x).servers (is_primary_still x s))) _ nobody_leads some)
          (short (nat_lt kept 2) _ (le_is l))

-- The law.
pub unnamed-is-whole : UnnamedIsWhole
unnamed-is-whole x d kept s u w reached knows two most gone_some heir unnamed =
    let whole : is_some (first_below (net_reopening x).servers (has_whole x s)) ≡ true = somebody_whole in
    let unlacking : may_lack_writes x kept s ≡ false = not_lacking whole in
    let few = few_gone x s w knows kept (few_members x s w knows kept gone_some unlacking) most in
    let teller = somebody x s w knows reached few in
    let told = heir_tells x s w knows u teller.0 heir teller.1 in
    let copy = knows.copies u told in
    (copy.0, copy.1, greatest-copy-has-all w (tells_whole x s) u copy.0 reached copy.1 (greatest x s w knows u copy.0 heir told copy.1) few)
  where
    heir_two_of : (standing_of x s u).claim ≡ 2
    heir_two_of = claims_two x s w knows u heir.claims

    none_if : {A : Type 0} (o : Option A) → is_some o ≡ false → o ≡ None
    none_if None e = refl
    none_if (Some a) e = absurd (false≢true (sym e))

    somebody_whole : is_some (first_below (net_reopening x).servers (has_whole x s)) ≡ true
    somebody_whole = elim (cases_Bool (is_some (first_below (net_reopening x).servers (has_whole x s)))) [
      | inl e ↦ e
      | inr e ↦ absurd (false≢true (sym (first_none (net_reopening x).servers (has_whole x s) (none_if (first_below (net_reopening x).servers (has_whole x s)) e) u heir.known) ∙ two_whole x s w knows u heir_two_of))
    ]

    not_lacking : is_some (first_below (net_reopening x).servers (has_whole x s)) ≡ true → may_lack_writes x kept s ≡ false
    not_lacking whole = sym (ap (λ b. b && may_lack_writes x kept s) whole) ∙ (or_parts _ (is_some (first_below (net_reopening x).servers (has_whole x s)) && may_lack_writes x kept s) unnamed).1
