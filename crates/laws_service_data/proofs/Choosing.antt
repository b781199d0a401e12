-- Who is settled as the primary of a shard that is not named may be chosen: its copy is the greatest of those that were told, and too few are gone
-- to have taken an acknowledged write with them. As `unnamed_shards_are_whole`, which speaks of the proposed successor alone.
use Rattle.std.proofs.Common.{◌≡◌, ◌∙◌, ◌<◌, ◌≤◌, ◌⊎◌, ℕ, zero, suc, Bool, true, false, not, ◌&&◌, List, Option, Some, None, ap, ap₂, arith, inl, inr, ltb, refl, subst, sym, if◌then◌else◌}
use Rattle.std.specs.Prelude.{◌||◌, ◌==◌, is_none, is_some, nat_le, nat_lt, option_map}
use Rattle.std.proofs.lemmas.Bool.{and_from, and_parts, cases_Bool, cases_lt, eq-eqb, le-leb, le-ltb, lt-ltb, ltb-true, or_parts, false≢true}
use Rattle.sm_server.specs.Cell.{is_absent}
use Rattle.sm_placement.specs.Opening.{first_below}
use Rattle.sm_placement.specs.Sums.{bit, count_below}
use Rattle.sm_placement.proofs.Searches.{count_none, first_none, first_none_from}
use Rattle.sm_copies.specs.declared.order.ToldCopy.{ToldCopy}
use Rattle.sm_copies.specs.Lists.{ListEntry, told_of}
use Rattle.sm_copies.specs.Order.{IsAtLeast}
use Rattle.laws_network.specs.Reopening.{Server, Settlement}
use Rattle.sm_reopening.specs.declared.ongoing.OngoingReopening.{OngoingReopening}
use Rattle.sm_reopening.specs.declared.party.Inventory.{Inventory as Told}
use Rattle.sm_reopening.specs.declared.survivors.Standing.{Standing}
use Rattle.sm_reopening.specs.Faults.{MayConfirm}
use Rattle.sm_reopening.specs.Losses.{gone_members, had_something, has_gone, is_bare, is_gone_member, is_primary_still, is_settled_lost, may_be_first, may_lack_copies, may_lack_writes, tells_whole}
use Rattle.sm_reopening.specs.Ongoing.{net_reopening, recorded_place, told_copies}
use Rattle.sm_reopening.specs.Proposal.{Documented, has_whole}
use Rattle.sm_reopening.specs.States.{net_inventory, no_copy, state_by, told_copy}
use Rattle.sm_reopening.specs.Survivors.{exceeds, has_more_in_view, stands_above, standing_of}
use Rattle.laws_data.specs.Laws.{EnoughHaveThem}
use Rattle.laws_data.specs.Naming.{KnowsShard}
use Rattle.laws_data.specs.Shard.{Chooses, Event, IsGreatest, IsShardReached, MayHappen, Shard, Succeeds, gone, lacks}
use Rattle.laws_service_data.specs.Reopened.{ChoosesPrimary, SucceedsFormer, choice_settled}

-- ---- counts

bit_more : (a b : Bool) → (a ≡ true → b ≡ true) → bit a ≤ bit b
bit_more false b h = omega arith
bit_more true b h = rw (h refl) (omega arith)

-- if each that passes one test passes another one, as many pass that
count_more : (n : ℕ) (p q : ℕ → Bool) → ((k : ℕ) → p k ≡ true → q k ≡ true) → count_below n p ≤ count_below n q
count_more zero p q h = omega arith
count_more (suc n) p q h =
    let i : count_below n p ≤ count_below n q = count_more n p q h in
    let l : bit (p n) ≤ bit (q n) = bit_more (p n) (q n) (h n) in
    omega arith

-- if more pass one test than another one, somebody passes the first alone
count_apart : (n : ℕ) (p q : ℕ → Bool) → count_below n q < count_below n p → (k : ℕ) × (k < n) × (p k ≡ true) × (q k ≡ false)
count_apart zero p q l = absurd (omega arith)
count_apart (suc n) p q l = elim (cases_Bool (p n)) [
  | inl a ↦ elim (cases_Bool (q n)) [
    | inl b ↦
        let x : bit (p n) ≡ 1 = ap bit a in
        let y : bit (q n) ≡ 1 = ap bit b in
        let f = count_apart n p q (omega arith) in
        (f.0, omega arith, f.2, f.3)
    | inr b ↦ (n, omega arith, a, b)
  ]
  | inr a ↦
      let x : bit (p n) ≡ 0 = ap bit a in
      let f = count_apart n p q (omega arith) in
      (f.0, omega arith, f.2, f.3)
]

-- ---- standings of secondaries

-- of two secondaries the one with a later view stands above, and in one view the one with the longer copy
above_secondaries : (a b : ToldCopy) → (b.view < a.view) ⊎ ((a.view ≡ b.view) × (b.position < a.position))
    → stands_above (record { claim = 2; copy = a }) (record { claim = 2; copy = b }) ≡ true
above_secondaries a b (inl later) = ap (λ t. t || ((a.view == b.view) && has_more_in_view (record { claim = 2; copy = a }) (record { claim = 2; copy = b }))) (lt-ltb b.view a.view later)
above_secondaries a b (inr longer) =
    ap (λ t. t || ((a.view == b.view) && has_more_in_view one other)) (le-ltb b.view a.view (let e = longer.0 in omega arith))
    ∙ ap (λ t. t && has_more_in_view one other) (eq-eqb a.view b.view longer.0) ∙ more (a.view == 0)
  where
    one : Standing
    one = record { claim = 2; copy = a }

    other : Standing
    other = record { claim = 2; copy = b }

    more : (zero : Bool) → (if zero then exceeds 2 2 (ltb b.position a.position) else exceeds a.position b.position (ltb 2 2)) ≡ true
    more true = lt-ltb b.position a.position longer.1
    more false = ap (λ t. t || ((a.position == b.position) && ltb 2 2)) (lt-ltb b.position a.position longer.1)

-- so who does not stand above has no greater copy
at_least : (a b : ToldCopy) → stands_above (record { claim = 2; copy = a }) (record { claim = 2; copy = b }) ≡ false → IsAtLeast b a
at_least a b under = elim (cases_lt b.view a.view) [
  | inl l ↦ absurd (false≢true (sym under ∙ above_secondaries a b (inl l)))
  | inr l ↦ elim (cases_lt a.view b.view) [
    | inl m ↦ inr (inl m)
    | inr m ↦
        let same : a.view ≡ b.view = omega arith in
        elim (cases_lt b.position a.position) [
          | inl k ↦ absurd (false≢true (sym under ∙ above_secondaries a b (inr (same, k))))
          | inr k ↦ elim (cases_lt a.position b.position) [
            | inl j ↦ inr (inr (same, j))
            | inr j ↦ inl (is a b same (omega arith))
          ]
        ]
  ]
]
  where
    is : (a b : ToldCopy) → a.view ≡ b.view → a.position ≡ b.position → a ≡ b
    is a b v p = ap₂ (λ (view position : ℕ). let c : ToldCopy = record { view = view; position = position } in c) v p

-- ---- what is told

none_if : {A : Type 0} (o : Option A) → is_some o ≡ false → o ≡ None
none_if None e = refl
none_if (Some a) e = absurd (false≢true (sym e))

-- who has told nothing has told no copy
none_told : (o : Option Told) (s : ℕ) → is_some (option_map net_inventory o) ≡ false → told_copy o s ≡ no_copy
none_told None s e = refl
none_told (Some told) s e = absurd (false≢true (sym e))

silent : (r : OngoingReopening) (s v : ℕ) → is_some ((net_reopening r).told (Server v)) ≡ false → told_copies r s v ≡ no_copy
silent r s v e = none_told (state_by r.servers.items v).told s e

module _ (r : OngoingReopening) (s : ℕ) (w : Shard) (knows : KnowsShard r s w) where
  -- who has a claim is a secondary
  claims_two : (v : ℕ) → 0 < (standing_of r s v).claim → (standing_of r s v).claim ≡ 2
  claims_two v l = elim (knows.secondaries v) [ inl none ↦ absurd (omega arith) | inr two ↦ two ]

  standing_is : (v : ℕ) → (standing_of r s v).claim ≡ 2 → standing_of r s v ≡ record { claim = 2; copy = told_copies r s v }
  standing_is v e = ap (λ n. record { claim = n; copy = told_copies r s v }) e

  whole_two : (v : ℕ) → has_whole r s v ≡ true → (standing_of r s v).claim ≡ 2
  whole_two v e = claims_two v (let l = ltb-true 1 (standing_of r s v).claim e in omega arith)

  two_whole : (v : ℕ) → (standing_of r s v).claim ≡ 2 → has_whole r s v ≡ true
  two_whole v e = ap (ltb 1) e

  -- who tells a whole copy has all of the shard, and has told a place
  told_parts : (v : ℕ) → tells_whole r s v ≡ true → (has_whole r s v ≡ true) × ((nat_lt 0 (told_copies r s v).view || nat_lt 0 (told_copies r s v).position) ≡ true)
  told_parts v tells = and_parts (has_whole r s v) _ (and_parts (is_some ((net_reopening r).told (Server v)) && not ((net_reopening r).lost v)) _ tells).1

  -- ---- the heir

  module _ (u v : ℕ) (claims : 0 < (standing_of r s u).claim) (best : stands_above (standing_of r s v) (standing_of r s u) ≡ false) (tells : tells_whole r s v ≡ true) where
    heir_two : (standing_of r s u).claim ≡ 2
    heir_two = claims_two u claims

    not_over : stands_above (record { claim = 2; copy = told_copies r s v }) (record { claim = 2; copy = told_copies r s u }) ≡ false
    not_over =
        subst (λ (b : Standing). stands_above (record { claim = 2; copy = told_copies r s v }) b ≡ false) (standing_is u heir_two)
        (subst (λ (a : Standing). stands_above a (standing_of r s u) ≡ false) (standing_is v (whole_two v (told_parts v tells).0)) best)

    -- the heir has no lesser copy
    no_less : IsAtLeast (told_copies r s u) (told_copies r s v)
    no_less = at_least (told_copies r s v) (told_copies r s u) not_over

    -- so it has told one
    placed : (nat_lt 0 (told_copies r s u).view || nat_lt 0 (told_copies r s u).position) ≡ true
    placed = elim (cases_lt 0 (told_copies r s u).view) [
      | inl l ↦ ap (λ t. t || nat_lt 0 (told_copies r s u).position) (lt-ltb 0 (told_copies r s u).view l)
      | inr l ↦ ap (λ t. t || nat_lt 0 (told_copies r s u).position) (le-ltb 0 (told_copies r s u).view l) ∙ lt-ltb 0 (told_copies r s u).position (longer l)
    ]
      where
        some_place : (0 < (told_copies r s v).view) ⊎ (0 < (told_copies r s v).position)
        some_place = elim (cases_lt 0 (told_copies r s v).view) [
          | inl l ↦ inl l
          | inr l ↦ elim (cases_lt 0 (told_copies r s v).position) [
            | inl m ↦ inr m
            | inr m ↦ absurd (false≢true (sym (ap (λ t. t || nat_lt 0 (told_copies r s v).position) (le-ltb 0 (told_copies r s v).view l) ∙ le-ltb 0 (told_copies r s v).position m) ∙ (told_parts v tells).1))
          ]
        ]

        same_view : told_copies r s v ≡ told_copies r s u → (told_copies r s v).view ≡ (told_copies r s u).view
        same_view e = ap (λ (c : ToldCopy). c.view) e

        same_position : told_copies r s v ≡ told_copies r s u → (told_copies r s v).position ≡ (told_copies r s u).position
        same_position e = ap (λ (c : ToldCopy). c.position) e

        longer : (told_copies r s u).view ≤ 0 → 0 < (told_copies r s u).position
        longer l = elim no_less [
          | inl e ↦ elim some_place [
            | inl k ↦ absurd (let q = same_view e in omega arith)
            | inr k ↦ (let q = same_position e in omega arith)
          ]
          | inr lesser ↦ elim lesser [
            | inl k ↦ absurd (omega arith)
            | inr k ↦ (let q = k.1 in omega arith)
          ]
        ]

    told_some : is_some ((net_reopening r).told (Server u)) ≡ true
    told_some = elim (cases_Bool (is_some ((net_reopening r).told (Server u)))) [
      | inl e ↦ e
      | inr e ↦ absurd (false≢true (sym (ap (λ (c : ToldCopy). nat_lt 0 c.view || nat_lt 0 c.position) (silent r s u e)) ∙ placed))
    ]

    not_lost : not ((net_reopening r).lost u) ≡ true
    not_lost = elim (cases_Bool ((net_reopening r).lost u)) [
      | inl e ↦ absurd (false≢true (sym (knows.lost u e) ∙ told_some))
      | inr e ↦ ap not e
    ]

    heir_tells : tells_whole r s u ≡ true
    heir_tells =
        and_from (is_some ((net_reopening r).told (Server u)) && not ((net_reopening r).lost u)) _
        (and_from (is_some ((net_reopening r).told (Server u))) (not ((net_reopening r).lost u)) told_some not_lost)
        (and_from (has_whole r s u) _ (two_whole u heir_two) placed)

  one : {A : Type 0} (o : Option A) (a b : A) → o ≡ Some a → o ≡ Some b → a ≡ b
  one {A} o a b e f = let z : ◌≡◌ {A = Option A} (Some a) (Some b) = sym e ∙ f in cc

  tells_as : (v : ℕ) → tells_whole r s v ≡ true → (copy : List ListEntry) → w.copies v ≡ Some copy → told_copies r s v ≡ told_of copy
  tells_as v t copy is = let k = knows.copies v t in k.2 ∙ ap told_of (one (w.copies v) k.0 copy k.1 is)

  -- the heir's copy is the greatest of those that are told
  greatest : (u : ℕ) (copy : List ListEntry) → 0 < (standing_of r s u).claim → ((v : ℕ) → stands_above (standing_of r s v) (standing_of r s u) ≡ false) → tells_whole r s u ≡ true → w.copies u ≡ Some copy
      → IsGreatest w (tells_whole r s) copy
  greatest u copy claims best told is v other l answered there =
      subst (λ (b : ToldCopy). IsAtLeast (told_of copy) b) (tells_as v answered other there)
      (subst (λ (a : ToldCopy). IsAtLeast a (told_copies r s v)) (tells_as u told copy is) (no_less u v claims (best v) answered))

  -- ---- counting

  some_copy : {A : Type 0} (o : Option A) (a : A) → o ≡ Some a → is_some o ≡ true
  some_copy o a e = ap is_some e

  -- who is gone to the data is a member that is gone
  gone_too : (v : ℕ) → (w.replicas v && not (tells_whole r s v && is_some (w.copies v))) ≡ true → is_gone_member r s v ≡ true
  gone_too v e =
      let p = and_parts (w.replicas v) (not (tells_whole r s v && is_some (w.copies v))) e in
      and_from (not (is_absent ((recorded_place r).cells s v))) (not (tells_whole r s v)) (sym (knows.replicas v) ∙ p.0)
      (elim (cases_Bool (tells_whole r s v)) [
        | inl t ↦ absurd (false≢true (sym (ap (λ b. not (b && is_some (w.copies v))) t ∙ ap not (some_copy (w.copies v) (knows.copies v t).0 (knows.copies v t).1)) ∙ p.1))
        | inr t ↦ ap not t
      ])

  few_gone : (kept : ℕ) → gone_members r s < kept → kept ≤ w.needed → gone w (tells_whole r s) < w.needed
  few_gone kept l m =
      let c : gone w (tells_whole r s) ≤ count_below w.servers (is_gone_member r s) = count_more w.servers _ (is_gone_member r s) gone_too in
      let e : count_below w.servers (is_gone_member r s) ≡ gone_members r s = ap (λ n. count_below n (is_gone_member r s)) knows.servers in
      omega arith

  -- the replicas that stay and lack nothing that is acknowledged
  abbrev has_them : ℕ → Bool
  has_them v = w.replicas v && (not (w.leaving v) && not (lacks w.acknowledged (w.copies v)))

  -- somebody tells a whole copy
  somebody : w.needed ≤ count_below w.servers has_them → gone w (tells_whole r s) < w.needed → (v : ℕ) × (tells_whole r s v ≡ true)
  somebody enough few =
      let q : ℕ → Bool = λ v. w.replicas v && not (tells_whole r s v && is_some (w.copies v)) in
      let found = count_apart w.servers has_them q (omega arith) in
      let member = (and_parts (w.replicas found.0) _ found.2).0 in
      (found.0, is_told found.0 member found.3)
    where
      is_told : (v : ℕ) → w.replicas v ≡ true → (w.replicas v && not (tells_whole r s v && is_some (w.copies v))) ≡ false → tells_whole r s v ≡ true
      is_told v member e = elim (cases_Bool (tells_whole r s v)) [
        | inl t ↦ t
        | inr t ↦ absurd (false≢true (sym e ∙ and_from (w.replicas v) _ member (ap (λ b. not (b && is_some (w.copies v))) t)))
      ]

  -- ---- the name

  -- nobody is primary still
  nobody_leads : is_none (first_below (net_reopening r).servers (is_primary_still r s)) ≡ true
  nobody_leads = ap is_none (first_none_from (net_reopening r).servers (is_primary_still r s) (λ v l. low v (knows.secondaries v)))
    where
      low : (v : ℕ) → ((standing_of r s v).claim ≡ 0) ⊎ ((standing_of r s v).claim ≡ 2) → is_primary_still r s v ≡ false
      low v (inl e) = ap (λ n. nat_lt 3 n && ((net_reopening r).promised v || not (is_settled_lost r))) e
      low v (inr e) = ap (λ n. nat_lt 3 n && ((net_reopening r).promised v || not (is_settled_lost r))) e

  -- too few members are gone
  few_members : (kept : ℕ) → is_some (first_below (net_reopening r).servers (has_gone r s)) ≡ true → may_lack_writes r kept s ≡ false → gone_members r s < kept
  few_members kept some e =
      elim (cases_lt (gone_members r s) kept) [
        | inl l ↦ l
        | inr l ↦ absurd (false≢true (sym e ∙ lacking l))
      ]
    where
      short : (alone rest : Bool) → nat_le kept (gone_members r s) ≡ true → ((alone || nat_le kept (gone_members r s)) || rest) ≡ true
      short true rest e = refl
      short false rest e = ap (λ t. t || rest) e

      lacking : kept ≤ gone_members r s → may_lack_writes r kept s ≡ true
      lacking l =
          and_from (is_none (first_below (net_reopening r).servers (is_primary_still r s)) && is_some (first_below (net_reopening r).servers (has_gone r s)))
          (may_lack_copies r kept s)
          (and_from (is_none (first_below (net_reopening r).servers (is_primary_still r s))) _ nobody_leads some)
          (short (nat_lt kept 2) _ (le-leb kept (gone_members r s) l))

  -- a replica had something
  had_replica : (d : Documented) (v : ℕ) → had_something r d s v ≡ false → w.replicas v ≡ false
  had_replica d v e =
      knows.replicas v
      ∙ (or_parts (not (is_absent ((recorded_place r).cells s v))) (may_be_first r s v) (or_parts (not (is_absent ((recorded_place r).cells s v)) || may_be_first r s v) _ e).0).0

  -- somebody has all of the shard, where it is not bare
  somebody_whole : (d : Documented) → 0 < w.needed → w.needed ≤ count_below w.servers has_them → is_bare r d s ≡ false → is_some (first_below (net_reopening r).servers (has_whole r s)) ≡ true
  somebody_whole d some enough bare = elim (cases_Bool (is_some (first_below (net_reopening r).servers (has_whole r s)))) [
    | inl e ↦ e
    | inr e ↦
        let none : count_below w.servers has_them ≡ 0 = count_none w.servers has_them (λ v l. ap (λ b. b && (not (w.leaving v) && not (lacks w.acknowledged (w.copies v)))) (had_replica d v (nothing e v (subst (λ n. v < n) knows.servers l)))) in
        absurd (omega arith)
  ]
    where
      nothing : is_some (first_below (net_reopening r).servers (has_whole r s)) ≡ false → (v : ℕ) → v < (net_reopening r).servers → had_something r d s v ≡ false
      nothing e v l =
          let none : is_none (first_below (net_reopening r).servers (has_whole r s)) ≡ true = ap is_none (none_if (first_below (net_reopening r).servers (has_whole r s)) e) in
          let nobody : is_some (first_below (net_reopening r).servers (had_something r d s)) ≡ false = sym (ap (λ b. b && is_some (first_below (net_reopening r).servers (had_something r d s))) none) ∙ bare in
          first_none (net_reopening r).servers (had_something r d s) (none_if (first_below (net_reopening r).servers (had_something r d s)) nobody) v l

-- who is settled as the primary may be chosen
pub may_choose : EnoughHaveThem → (r : OngoingReopening) (st : Settlement) (s : ℕ) (w : Shard) (acts : List Event) → IsShardReached w → MayConfirm r st
    → (c : ChoosesPrimary r st.place s w acts) → MayHappen w (Chooses (choice_settled r st.place s c.primary c.view c.needed))
may_choose have r st s w acts reached may c = (
  copy.0,
  record {
    copy_is = copy.1;
    greatest = greatest r s w knows c.primary copy.0 claims best told copy.1;
    later = c.later;
    needed = c.enough copy.0 copy.1;
    named = λ e. few;
  },
)
  where
    knows : KnowsShard r s w
    knows = c.unnamed.knows

    enough : w.needed ≤ count_below w.servers (has_them r s w knows)
    enough = have w reached

    parts : (is_bare r c.unnamed.document s ≡ false) × ((is_some (first_below (net_reopening r).servers (has_whole r s)) && may_lack_writes r c.unnamed.kept s) ≡ false)
    parts = or_parts (is_bare r c.unnamed.document s) _ c.unnamed.unnamed

    whole : is_some (first_below (net_reopening r).servers (has_whole r s)) ≡ true
    whole = somebody_whole r s w knows c.unnamed.document (let a = c.unnamed.two in let b = c.unnamed.most in omega arith) enough parts.0

    few : gone w (tells_whole r s) < w.needed
    few = few_gone r s w knows c.unnamed.kept
        (few_members r s w knows c.unnamed.kept c.unnamed.gone (sym (ap (λ b. b && may_lack_writes r c.unnamed.kept s) whole) ∙ parts.1)) c.unnamed.most

    teller : (v : ℕ) × (tells_whole r s v ≡ true)
    teller = somebody r s w knows enough few

    claims : 0 < (standing_of r s c.primary).claim
    claims =
        let two = whole_two r s w knows teller.0 (told_parts r s w knows teller.0 teller.1).0 in
        may.allowed.claims s teller.0 c.primary c.settled (omega arith)

    best : (v : ℕ) → stands_above (standing_of r s v) (standing_of r s c.primary) ≡ false
    best v = may.best s v c.primary c.settled

    told : tells_whole r s c.primary ≡ true
    told = heir_tells r s w knows c.primary teller.0 claims (best teller.0) teller.1

    copy : (list : List ListEntry) × (w.copies c.primary ≡ Some list)
    copy = let k = knows.copies c.primary told in (k.0, k.1)

-- or it may succeed the former primary
pub may_succeed : (r : OngoingReopening) (st : Settlement) (s : ℕ) (w : Shard) (acts : List Event) → MayConfirm r st → (c : SucceedsFormer r st.place s w acts) → MayHappen w (Succeeds c.primary c.view c.former)
may_succeed r st s w acts may c =
    let two = whole_two r s w c.knows c.former (told_parts r s w c.knows c.former c.tells).0 in
    let claims : 0 < (standing_of r s c.primary).claim = may.allowed.claims s c.former c.primary c.settled (omega arith) in
    let best = may.best s c.former c.primary c.settled in
    let k = c.knows.copies c.primary (heir_tells r s w c.knows c.primary c.former claims best c.tells) in
    let f = c.knows.copies c.former c.tells in (
      k.0,
      f.0,
      k.1,
      f.1,
      c.ended,
      subst (λ (b : ToldCopy). IsAtLeast (told_of k.0) b) f.2 (subst (λ (a : ToldCopy). IsAtLeast a (told_copies r s c.former)) k.2 (no_less r s w c.knows c.primary c.former claims best c.tells)),
      c.later,
      c.without,
    )
