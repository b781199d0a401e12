-- The targets of the shards that leave a server, one further.
use Rattle.std.proofs.Common.{◌≡◌, ◌<◌, ◌+◌, ◌∙◌, inl, inr, ℕ, Bool, true, false, ltb, Option, Some, None, List, [], length, map, sym, ap, subst, arith}
use Rattle.std.specs.Prelude.{MatchOption}
use Rattle.std.specs.List.{range_with_len}
use Rattle.std.proofs.lemmas.Bool.{cases_eq, cases_lt, ltb-true, ltb-false}
use Rattle.std.proofs.lemmas.List.FromFn.{length-map-range_with_len, get_or-map-range_with_len}
use Rattle.sm_placement.specs.Setup.{Setup}
use Rattle.sm_planner.specs.Basis.{Basis}
use Rattle.sm_planner.specs.Drain.{IsBestOf, IsRoomBeside, AreDepartures, IsDrainPlan}
use Rattle.sm_plan_code.specs.Plan.{PlanModel}
use Rattle.sm_plan_code.specs.declared.moves.Move.{Move}
use Rattle.sm_planner.specs.Refusal.{IsPlanOf}

-- ---- the best of the first servers

-- a server that doesn't pass leaves the best one
pub most_next : (has : ℕ → Bool) (room : ℕ → ℕ) (n : ℕ) (o : Option ℕ) → IsBestOf has room n o → has n ≡ false → IsBestOf has room (n + 1) o
most_next has room n None best h = λ w l. elim (cases_eq w n) [ inl e ↦ rw e h | inr e ↦ best w (omega arith) ]
most_next has room n (Some u) best h = record {
  known = (let k = best.known in omega arith);
  passes = best.passes;
  most = λ w l p. elim (cases_eq w n) [
    | inl e ↦ absurd (let q : has n ≡ true = subst (λ x. has x ≡ true) e p in let z : true ≡ false = sym q ∙ h in cc)
    | inr e ↦ best.most w (omega arith) p
  ];
}

-- a server that passes is the best one, where it has more room than the one before or is the first that passes
pub most_here : (has : ℕ → Bool) (room : ℕ → ℕ) (n : ℕ) (o : Option ℕ) → IsBestOf has room n o → has n ≡ true →
    MatchOption o (true ≡ true) (λ u. true ≡ ltb (room u) (room n)) → IsBestOf has room (n + 1) (Some n)
most_here has room n None best h is = record {
  known = omega arith;
  passes = h;
  most = λ w l p. elim (cases_eq w n) [
    | inl e ↦ inr (ap room e, omega arith)
    | inr e ↦ absurd (let q = best w (omega arith) in let z : true ≡ false = sym p ∙ q in cc)
  ];
}
most_here has room n (Some u) best h is = record {
  known = omega arith;
  passes = h;
  most = λ w l p. elim (cases_eq w n) [
    | inl d ↦ inr (ap room d, omega arith)
    | inr d ↦ inl (let a = ltb-true (room u) (room n) (sym is) in elim (best.most w (omega arith) p) [ inl x ↦ omega arith | inr x ↦ (let y = x.0 in omega arith) ])
  ];
}

-- a server that has no more room than the best one leaves it, whether it passes or not
pub most_stays : (has : ℕ → Bool) (room : ℕ → ℕ) (n : ℕ) (o : Option ℕ) → IsBestOf has room n o →
    MatchOption o (false ≡ true) (λ u. false ≡ ltb (room u) (room n)) → IsBestOf has room (n + 1) o
most_stays has room n None best is = absurd (cc)
most_stays has room n (Some u) best is = record {
  known = (let k = best.known in omega arith);
  passes = best.passes;
  most = λ w l p. elim (cases_eq w n) [
    | inl d ↦ elim (cases_lt (room n) (room u)) [
      | inl a ↦ inl (subst (λ x. room x < room u) (sym d) a)
      | inr a ↦ inr (let b = ltb-false (room u) (room n) (sym is) in ap room d ∙ omega arith, let k = best.known in omega arith)
    ]
    | inr d ↦ best.most w (omega arith) p
  ];
}

-- ---- the room that is left

-- besides no moves the room that is left is the pool's
pub room_none : (b : Basis) (setup : Setup) (room : List ℕ) → setup ≡ b.setup → room ≡ map b.pool.room (range_with_len 0 (length setup.servers)) → IsRoomBeside b [] room
room_none b setup room same is = rw (is, same) (record {
  wide = length-map-range_with_len b.pool.room 0 (length b.setup.servers);
  left = λ w l. get_or-map-range_with_len b.pool.room 0 (length b.setup.servers) w w 0 l (omega arith) ∙ omega arith;
})

-- ---- plans

-- the rule's plan of the moves that empty a server is its plan for emptying it
pub drain_planned : (b : Basis) (v : ℕ) (moves : List Move) (plan : PlanModel) → AreDepartures b v moves → IsPlanOf b moves plan → IsDrainPlan b v plan
drain_planned b v moves plan d p = (moves, d, p)
