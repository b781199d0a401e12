-- Accepted plans: those that nothing holds up at the pool.
use Rattle.sm_protocol.proofs.Below.{◌≡◌, ℕ, ◌+◌, ◌<◌, ◌≤◌, Bool, true, false, Option, Some, None, refl, sym, ap, ◌∙◌, arith, inl, inr, ◌⊎◌, length, ◌==◌, nat_lt, if◌then◌else◌, cases_lt, lt-ltb, le-ltb, Lead, bit, Setup, load_at, live_at, PlainCell, Hold, leads_of, true_rights, IsKnownHold, Right, OfCell, OfCrown, OfRoom, OfSpare, count, stock, bound, is_cell, is_crown, plain_of, PlanModel, IsScene, Holding, no_stream, declared, first_holding, declared_sum, AreWithin, sum_zero, same_sum, bit-le-one, is_cell_true, is_cell_self, parcel_below, finds_holding, crown_true, crown_self, admitted_within, within_admitted, eqb-false}
use Rattle.sm_protocol.proofs.Words.{State, held, pool, free_cell, free_crown, places_of, free_places, Outcome, Answered, begun, has_all_plans, Begin, happens, started, IsAccepted, IsReached, IsCheckedPlan, BegunWhereAccepted}
use Rattle.sm_reservation.proofs.ParcelSums.{no_cell}
use Rattle.sm_protocol.specs.declared.event.Played.TheVariants as played
use Rattle.sm_protocol.specs.declared.event.BeginFault.TheVariants as fault
use Rattle.sm_protocol.proofs.Invariant.{IsKept}
use Rattle.sm_protocol.proofs.Steps.{leads_are, lead_is}
use Rattle.sm_protocol.proofs.Pools.{pool_within, room_conserved, spare_conserved}
use Rattle.sm_protocol.proofs.Replays.{AcceptsUnheld}
use Rattle.sm_protocol.proofs.Whole.{reached_keeps}

-- two tests: the first fails, the second does, or both pass
cases_cell : (a b : Bool) → (a ≡ false) ⊎ ((b ≡ false) ⊎ ((a ≡ true) × (b ≡ true)))
cases_cell false b = inl refl
cases_cell true false = inr (inl refl)
cases_cell true true = inr (inr (refl, refl))

module _ (w : State) (v : IsKept w) where
  -- what there is of a right under the leads that are read off the placement
  same_stock : (r : Right) → stock w.sizes w.place (leads_of w.sizes w.place) r ≡ stock w.sizes w.place v.leads r
  same_stock (OfCell s u state) = refl
  same_stock (OfCrown s lead listed) = ap (λ l. bit (is_crown lead listed (Some (l, w.place.listed s)))) (leads_are w v s)
  same_stock (OfRoom u) = refl
  same_stock (OfSpare s) = refl

  -- a checked plan that nothing holds up is accepted
  pub accepts_unheld : AcceptsUnheld w
  accepts_unheld plan checked free =
      let admitted = (finds_holding w.sizes w.place (pool w) plan checked.parts.parcels checked.fits).none.0 free in
      record {
        sound = checked.sound;
        rights = λ r.
            let a = (admitted_within w.sizes w.place (pool w) plan admitted).0 r in
            let p = pool_within w v r in
            let s = same_stock r in
            omega arith;
        up = admitted.up;
      }

  -- the pool is true of the placement
  pool_scene : IsScene w.sizes w.place v.leads w.numbers (pool w)
  pool_scene = record {
    placement = v.stage.placement;
    described = v.stage.described;
    truth = record { rights = λ r. let p = pool_within w v r in omega arith };
  }

  module _ (plan : PlanModel) (checked : IsCheckedPlan w.sizes plan) where
    -- what a stream declares is of known shards and servers
    below : (i : ℕ) → i < length plan.streams → IsKnownHold w.sizes.shards w.sizes.servers (declared plan.streams i)
    below i l = parcel_below w.sizes.shards w.sizes.servers _ (checked.fits.streams i no_stream l).holds

    -- of an amount of which each stream declares nothing, all together declare nothing
    none_declared : (r : Right) → ((h : Hold) → IsKnownHold w.sizes.shards w.sizes.servers h → count h r ≡ 0) → declared_sum plan.streams r ≡ 0
    none_declared r none =
        same_sum (length plan.streams) (λ i. count (declared plan.streams i) r) (λ i. 0) (λ i l. none (declared plan.streams i) (below i l))
        ∙ sum_zero (length plan.streams) (λ i. 0) (λ i. refl)

    module _ (fits : (r : Right) → declared_sum plan.streams r + held w r + bound w.sizes w.place r ≤ stock w.sizes w.place (leads_of w.sizes w.place) r) where
      cell_left : (s u : ℕ) (state : PlainCell) → s < w.sizes.shards → u < w.sizes.servers → declared_sum plan.streams (OfCell s u state) ≤ count (pool w) (OfCell s u state)
      cell_left s u state ls lu =
          let f : declared_sum plan.streams (OfCell s u state) + held w (OfCell s u state) + 0 ≤ bit (is_cell state (plain_of (w.place.cells s u))) = fits (OfCell s u state) in
          let one = bit-le-one (is_cell state (plain_of (w.place.cells s u))) in
          elim (cases_cell (is_cell state (plain_of (w.place.cells s u))) (held w (OfCell s u state) == 0)) [
            | inl none ↦ let z : bit (is_cell state (plain_of (w.place.cells s u))) ≡ 0 = ap bit none in omega arith
            | inr (inl taken) ↦ let n = eqb-false (held w (OfCell s u state)) 0 taken in omega arith
            | inr (inr both) ↦
                let is : plain_of (w.place.cells s u) ≡ Some state = is_cell_true state (plain_of (w.place.cells s u)) both.0 in
                let there : (true_rights w.sizes w.place).cells s u ≡ Some state = rw (lt-ltb s w.sizes.shards ls, lt-ltb u w.sizes.servers lu) is in
                let free : (pool w).cells s u ≡ Some state = ap (λ o. free_cell (held w) s u o) there ∙ ap (λ t. if t then Some state else None) both.1 in
                let c : count (pool w) (OfCell s u state) ≡ 1 = ap (λ o. bit (is_cell state o)) free ∙ ap bit (is_cell_self state) in
                omega arith
          ]

      crown_left : (s : ℕ) (lead : Lead) (listed : Option ℕ) → s < w.sizes.shards → declared_sum plan.streams (OfCrown s lead listed) ≤ count (pool w) (OfCrown s lead listed)
      crown_left s lead listed ls =
          let there = is_crown lead listed (Some (leads_of w.sizes w.place s, w.place.listed s)) in
          let f : declared_sum plan.streams (OfCrown s lead listed) + held w (OfCrown s lead listed) + 0 ≤ bit there = fits (OfCrown s lead listed) in
          let one = bit-le-one there in
          elim (cases_cell there (held w (OfCrown s lead listed) == 0)) [
            | inl none ↦ let z : bit there ≡ 0 = ap bit none in omega arith
            | inr (inl taken) ↦ let n = eqb-false (held w (OfCrown s lead listed)) 0 taken in omega arith
            | inr (inr both) ↦
                let is : ◌≡◌ {A = Option (Lead × Option ℕ)} (Some (leads_of w.sizes w.place s, w.place.listed s)) (Some (lead, listed)) = crown_true lead listed _ both.0 in
                let true_crown : (true_rights w.sizes w.place).crowns s ≡ Some (lead, listed) = rw (lt-ltb s w.sizes.shards ls, lead_is w v s) (ap (λ l. Some (l, w.place.listed s)) (sym (leads_are w v s)) ∙ is) in
                let free : (pool w).crowns s ≡ Some (lead, listed) = ap (λ o. free_crown (held w) s o) true_crown ∙ ap (λ t. if t then Some (lead, listed) else None) both.1 in
                let c : count (pool w) (OfCrown s lead listed) ≡ 1 = ap (λ o. bit (is_crown lead listed o)) free ∙ ap bit (crown_self lead listed) in
                omega arith
          ]

      -- what the streams declare is in the pool
      left : AreWithin (pool w) plan.streams
      left (OfCell s u state) = elim (cases_lt s w.sizes.shards) [
        | inr out ↦ let n = none_declared (OfCell s u state) (λ h b. ap (λ o. bit (is_cell state o)) (b.no_shard s u out) ∙ no_cell state) in omega arith
        | inl ls ↦ elim (cases_lt u w.sizes.servers) [
          | inr out ↦ let n = none_declared (OfCell s u state) (λ h b. ap (λ o. bit (is_cell state o)) (b.no_server s u out) ∙ no_cell state) in omega arith
          | inl lu ↦ cell_left s u state ls lu
        ]
      ]
      left (OfCrown s lead listed) = elim (cases_lt s w.sizes.shards) [
        | inr out ↦ let n = none_declared (OfCrown s lead listed) (λ h b. ap (λ o. bit (is_crown lead listed o)) (b.crowns s out)) in omega arith
        | inl ls ↦ crown_left s lead listed ls
      ]
      left (OfRoom u) = elim (cases_lt u w.sizes.servers) [
        | inr out ↦ let n = none_declared (OfRoom u) (λ h b. b.room u out) in omega arith
        | inl known ↦
            let f : declared_sum plan.streams (OfRoom u) + held w (OfRoom u) + load_at w.sizes w.place u ≤ w.sizes.room u = fits (OfRoom u) in
            let c = room_conserved w v u known in
            omega arith
      ]
      left (OfSpare s) = elim (cases_lt s w.sizes.shards) [
        | inr out ↦ let n = none_declared (OfSpare s) (λ h b. b.spare s out) in omega arith
        | inl known ↦
            let f : declared_sum plan.streams (OfSpare s) + held w (OfSpare s) + w.sizes.floor s ≤ live_at w.sizes w.place s = fits (OfSpare s) in
            let c = spare_conserved w v s known in
            omega arith
      ]

    -- nothing holds an accepted plan up
    pub unheld_accepted : IsAccepted w plan → first_holding w.sizes w.place (pool w) plan ≡ None
    unheld_accepted a = (finds_holding w.sizes w.place (pool w) plan checked.parts.parcels checked.fits).none.1
        (within_admitted w.sizes w.place v.leads w.numbers (pool w) plan pool_scene checked.fits (left a.rights) a.up)

    abbrev is_begun_now : Outcome × State → Type 0
    is_begun_now o = o.0 ≡ Answered (played.Begun (length w.plans))

    -- a plan that is begun is accepted, and has its places
    begun_accepted : is_begun_now (happens w (Begin plan)) → IsAccepted w plan × (places_of plan ≤ free_places w) × (has_all_plans w ≡ false)
    begun_accepted e = go (first_holding w.sizes w.place (pool w) plan) refl e
      where
        full : (t : Bool) → has_all_plans w ≡ t → is_begun_now (if t then (Answered (played.NotBegun fault.TooManyPlans), w) else (Answered (played.Begun (length w.plans)), started w plan)) → has_all_plans w ≡ false
        full true f g = cc
        full false f g = f

        places : (t : Bool) → nat_lt (free_places w) (places_of plan) ≡ t →
            is_begun_now (if t then (Answered (played.NotBegun fault.LogFull), w) else if has_all_plans w then (Answered (played.NotBegun fault.TooManyPlans), w) else (Answered (played.Begun (length w.plans)), started w plan)) →
            (places_of plan ≤ free_places w) × (has_all_plans w ≡ false)
        places true f g = cc
        places false f g = (elim (cases_lt (free_places w) (places_of plan)) [ inl l ↦ absurd (let t = lt-ltb (free_places w) (places_of plan) l in cc) | inr l ↦ l ], full (has_all_plans w) refl g)

        go : (o : Option Holding) → first_holding w.sizes w.place (pool w) plan ≡ o → is_begun_now (begun w plan o) → IsAccepted w plan × (places_of plan ≤ free_places w) × (has_all_plans w ≡ false)
        go (Some why) f g = cc
        go None f g = let p = places (nat_lt (free_places w) (places_of plan)) refl g in (accepts_unheld plan checked f, p.0, p.1)

    -- an accepted plan that has its places is begun
    accepted_begun : IsAccepted w plan → places_of plan ≤ free_places w → has_all_plans w ≡ false → is_begun_now (happens w (Begin plan))
    accepted_begun a l m = rw (unheld_accepted a, le-ltb (free_places w) (places_of plan) l, m) refl

-- in each state that events lead to, a checked plan that nothing holds up is accepted
pub reached_accepts : (setup : Setup) (w : State) → IsReached setup w → AcceptsUnheld w
reached_accepts setup w reached = accepts_unheld w (reached_keeps setup w reached).0

-- a checked plan begins exactly where it is accepted, the log has its places and another plan may run
pub begun_where_accepted : BegunWhereAccepted
begun_where_accepted setup w plan reached checked =
    let v = (reached_keeps setup w reached).0 in
    (begun_accepted w v plan checked, λ a. accepted_begun w v plan checked a.0 a.1 a.2)
