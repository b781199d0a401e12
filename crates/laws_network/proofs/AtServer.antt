-- A server's verdict on an order, case by case.
use Rattle.std.proofs.Common.{◌≡◌, ℕ, ◌≤◌, ◌<◌, ◌⊎◌, refl, sym, ap, ◌∙◌, inl, inr, subst, arith, Bool, true, false, Option, Some, None, Result, Ok, Err}
use Rattle.std.specs.Prelude.{◌-◌, ◌==◌, ◌||◌, not, is_none, nat_le, nat_lt, option_map, unwrap_or, if◌then◌else◌}
use Rattle.std.proofs.lemmas.Bool.{and_parts, cases_Bool, eq-eqb, eqb-false, eqb-true, leb-true, leb-false, ltb-false, ltb-true}
use Rattle.sm_server.specs.declared.call.Cell.{Cell}
use Rattle.sm_server.specs.declared.call.Refusal.{Refusal}
use Rattle.sm_server.specs.Call.{led_to, served}
use Rattle.sm_agent.specs.declared.base.Base.{Base}
use Rattle.sm_agent.specs.declared.slot.Slot.{Slot}
use Rattle.sm_agent.specs.declared.order.Stamp.{Stamp}
use Rattle.sm_agent.specs.declared.order.Order.{Order}
use Rattle.sm_agent.specs.declared.order.Verdict.{Verdict}
use Rattle.sm_agent.specs.declared.order.Verdict.TheVariants as verdict
use Rattle.sm_agent.specs.Base.{lacks_slots}
use Rattle.sm_agent.specs.Order.{committed, cut_by, is_at_work, judged, judged_by_slot, cell_load, may_commit, turned_away}
use Rattle.sm_protocol.proofs.Courses.{some_same}

-- the order comes to a server that is neither Unknown nor fenced, is of its journal, and is above its base
pub record IsHeard (base : Base) (stamp : Stamp) : Type 0 where
  pub known : lacks_slots base ≡ false
  pub journal : stamp.journal ≡ base.journal
  pub taken : base.fenced ≡ false
  pub fence : stamp.fence ≤ base.number
  pub above : base.number < stamp.number

-- the verdicts by which an order is turned away
abbrev pub IsAway : Verdict → Type 0
IsAway v = (v ≡ verdict.NotReady) ⊎ ((v ≡ verdict.Foreign) ⊎ (v ≡ verdict.Old))

or_false : (a b : Bool) → (a || b) ≡ false → (a ≡ false) × (b ≡ false)
or_false false b e = (refl, e)
or_false true b e = absurd (cc)

abbrev rest : Base → Stamp → Option Verdict
rest base stamp = if base.fenced || nat_lt base.number stamp.fence then Some verdict.NotReady else if nat_le stamp.number base.number then Some verdict.Old else None

-- an order is turned away, or heard
pub turned : (base : Base) (stamp : Stamp) → ((v : Verdict) × (turned_away base stamp ≡ Some v) × IsAway v) ⊎ ((turned_away base stamp ≡ None) × IsHeard base stamp)
turned base stamp = by_known (lacks_slots base) refl
  where
    by_number : (b : Bool) → nat_le stamp.number base.number ≡ b → lacks_slots base ≡ false → stamp.journal ≡ base.journal → (base.fenced ≡ false) × (nat_lt base.number stamp.fence ≡ false) →
        ((v : Verdict) × ((if b then Some verdict.Old else None) ≡ Some v) × IsAway v) ⊎ (((if b then Some verdict.Old else None) ≡ None) × IsHeard base stamp)
    by_number true e k j f = inl (verdict.Old, refl, inr (inr refl))
    by_number false e k j f = inr (refl, record { known = k; journal = j; taken = f.0; fence = ltb-false base.number stamp.fence f.1; above = leb-false stamp.number base.number e })

    by_fence : (b : Bool) → (base.fenced || nat_lt base.number stamp.fence) ≡ b → lacks_slots base ≡ false → stamp.journal ≡ base.journal →
        ((v : Verdict) × ((if b then Some verdict.NotReady else if nat_le stamp.number base.number then Some verdict.Old else None) ≡ Some v) × IsAway v)
        ⊎ (((if b then Some verdict.NotReady else if nat_le stamp.number base.number then Some verdict.Old else None) ≡ None) × IsHeard base stamp)
    by_fence true e k j = inl (verdict.NotReady, refl, inl refl)
    by_fence false e k j = by_number (nat_le stamp.number base.number) refl k j (or_false base.fenced (nat_lt base.number stamp.fence) e)

    by_journal : (b : Bool) → (stamp.journal == base.journal) ≡ b → lacks_slots base ≡ false →
        ((v : Verdict) × ((if not b then Some verdict.Foreign else rest base stamp) ≡ Some v) × IsAway v) ⊎ (((if not b then Some verdict.Foreign else rest base stamp) ≡ None) × IsHeard base stamp)
    by_journal true e k = by_fence (base.fenced || nat_lt base.number stamp.fence) refl k (eqb-true stamp.journal base.journal e)
    by_journal false e k = inl (verdict.Foreign, refl, inr (inl refl))

    by_known : (b : Bool) → lacks_slots base ≡ b →
        ((v : Verdict) × ((if b then Some verdict.NotReady else if not (stamp.journal == base.journal) then Some verdict.Foreign else rest base stamp) ≡ Some v) × IsAway v)
        ⊎ (((if b then Some verdict.NotReady else if not (stamp.journal == base.journal) then Some verdict.Foreign else rest base stamp) ≡ None) × IsHeard base stamp)
    by_known true e = inl (verdict.NotReady, refl, inl refl)
    by_known false e = by_journal (stamp.journal == base.journal) refl e

-- an order is heard if it is above the base of a server of its journal that is neither Unknown nor fenced
pub heard : (base : Base) (stamp : Stamp) → IsHeard base stamp → turned_away base stamp ≡ None
heard base stamp h = rw (h.known, eq-eqb stamp.journal base.journal h.journal, h.taken, below base.number stamp.fence h.fence, above stamp.number base.number h.above) refl
  where
    below : (a b : ℕ) → b ≤ a → nat_lt a b ≡ false
    below a b l = elim (cases_Bool (nat_lt a b)) [ inl e ↦ absurd (let z = ltb-true a b e in omega arith) | inr e ↦ e ]

    above : (a b : ℕ) → b < a → nat_le a b ≡ false
    above a b l = elim (cases_Bool (nat_le a b)) [ inl e ↦ absurd (let z = leb-true a b e in omega arith) | inr e ↦ e ]

-- what a server makes of an order that it hears
pub data IsBySlot (slot : Slot) (used : ℕ) (order : Order) (v : Verdict) : Type 0 where
  Lower : order.stamp.number < slot.last → v ≡ verdict.Old → IsBySlot slot used order v
  Same : order.stamp.number ≡ slot.last → v ≡ verdict.Again → IsBySlot slot used order v
  Refuses : slot.last < order.stamp.number → (why : Refusal) → served slot.cell (order.room - used) order.load true order.call ≡ Err why → v ≡ verdict.Refused why → IsBySlot slot used order v
  Serves : slot.last < order.stamp.number → (next : Cell) → served slot.cell (order.room - used) order.load true order.call ≡ Ok next → ((v ≡ verdict.Begin) ⊎ ((v ≡ verdict.Working) × (is_at_work slot.at_work order.stamp.number ≡ true))) → IsBySlot slot used order v

-- so it does by the slot
pub by_slot : (slot : Slot) (used : ℕ) (order : Order) → IsBySlot slot used order (judged_by_slot slot used order)
by_slot slot used order = go (nat_lt order.stamp.number slot.last) (order.stamp.number == slot.last) (served slot.cell (order.room - used) order.load true order.call) (is_at_work slot.at_work order.stamp.number) refl refl refl refl
  where
    table : Result Cell Refusal → Bool → Verdict
    table (Err why) working = verdict.Refused why
    table (Ok next) working = if working then verdict.Working else verdict.Begin

    go : (lower same : Bool) (r : Result Cell Refusal) (working : Bool) → is_at_work slot.at_work order.stamp.number ≡ working → nat_lt order.stamp.number slot.last ≡ lower → (order.stamp.number == slot.last) ≡ same →
        served slot.cell (order.room - used) order.load true order.call ≡ r → IsBySlot slot used order (if lower then verdict.Old else if same then verdict.Again else table r working)
    go true same r working w e f g = Lower (ltb-true order.stamp.number slot.last e) refl
    go false true r working w e f g = Same (eqb-true order.stamp.number slot.last f) refl
    go false false (Err why) working w e f g = Refuses (let a = ltb-false order.stamp.number slot.last e in let b = eqb-false order.stamp.number slot.last f in omega arith) why g refl
    go false false (Ok next) true w e f g = Serves (let a = ltb-false order.stamp.number slot.last e in let b = eqb-false order.stamp.number slot.last f in omega arith) next g (inr (refl, w))
    go false false (Ok next) false w e f g = Serves (let a = ltb-false order.stamp.number slot.last e in let b = eqb-false order.stamp.number slot.last f in omega arith) next g (inl refl)

-- what a server makes of any order
pub judged_is : (base : Base) (slot : Slot) (used : ℕ) (order : Order) → IsAway (judged base slot used order) ⊎ (IsHeard base order.stamp × IsBySlot slot used order (judged base slot used order))
judged_is base slot used order = elim (turned base order.stamp) [
  | inl t ↦ inl (subst IsAway (sym (ap (λ o. unwrap_or o (judged_by_slot slot used order)) t.1)) t.2)
  | inr t ↦ inr (t.1, subst (IsBySlot slot used order) (sym (ap (λ o. unwrap_or o (judged_by_slot slot used order)) t.0)) (by_slot slot used order))
]

-- what an order that is committed was, and what its slot is then
pub record IsCommit (base : Base) (slot : Slot) (order : Order) (at : ℕ) (next : Slot) : Type 0 where
  pub heard : IsHeard base order.stamp
  pub above : slot.last < order.stamp.number
  pub led : led_to order.call slot.cell ≡ Some next.cell
  pub last : next.last ≡ order.stamp.number
  pub load : next.load ≡ cell_load next.cell order.load
  pub cut : next.cut ≡ cut_by order.call at

-- so it is of each order that is committed
pub commit_is : (base : Base) (slot : Slot) (order : Order) (at : ℕ) (next : Slot) → committed base slot order at ≡ Some next → IsCommit base slot order at next
commit_is base slot order at next e = go (may_commit base slot order at) refl e
  where
    none_where : (o : Option Verdict) → is_none o ≡ true → o ≡ None
    none_where None q = refl
    none_where (Some v) q = absurd (cc)

    hears : turned_away base order.stamp ≡ None → IsHeard base order.stamp
    hears n = elim (turned base order.stamp) [
      | inl t ↦ absurd (let z : None ≡ Some t.0 = sym n ∙ t.1 in cc)
      | inr t ↦ t.1
    ]

    made : Cell → Slot
    made cell = record { cell = cell; last = order.stamp.number; at_work = None; load = cell_load cell order.load; cut = cut_by order.call at }

    leads : (o : Option Cell) → led_to order.call slot.cell ≡ o → (b : Bool) → may_commit base slot order at ≡ b → b ≡ true → option_map made o ≡ Some next → IsCommit base slot order at next
    leads None l b m t q = absurd (cc)
    leads (Some cell) l b m t q =
        let p = and_parts _ _ (m ∙ t) in
        let p1 = and_parts _ _ p.0 in
        let p2 = and_parts _ _ p1.0 in
        let same : made cell ≡ next = some_same (made cell) next q in
        record {
          heard = hears (none_where (turned_away base order.stamp) p2.0);
          above = ltb-true slot.last order.stamp.number p2.1;
          led = l ∙ ap (λ (z : Slot). Some z.cell) same;
          last = ap (λ (z : Slot). z.last) (sym same);
          load = ap (λ (z : Slot). z.load) (sym same) ∙ ap (λ (z : Slot). cell_load z.cell order.load) same;
          cut = ap (λ (z : Slot). z.cut) (sym same);
        }

    go : (b : Bool) → may_commit base slot order at ≡ b → (if b then option_map made (led_to order.call slot.cell) else None) ≡ Some next → IsCommit base slot order at next
    go false m q = absurd (cc)
    go true m q = leads (led_to order.call slot.cell) refl true m refl q
