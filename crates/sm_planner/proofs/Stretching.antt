-- The beginnings of the stretches of placed moves, one move further.
use Rattle.std.proofs.Common.{◌≡◌, ◌<◌, ◌≤◌, ◌+◌, ◌*◌, ◌^◌, ◌∙◌, inl, inr, ℕ, cond, eqb, List, [], ◌∷◌, ◌++◌, length, take, get_or, map, sym, ap, subst, refl, arith}
use Rattle.std.specs.Prelude.{sum_by, All}
use Rattle.std.specs.List.{range_with_len}
use Rattle.std.proofs.lemmas.Bool.{cases_eq, eq-eqb, ne_eqb}
use Rattle.std.proofs.lemmas.List.{take_more, length-set, length_push}
use Rattle.std.proofs.lemmas.List.FromFn.{length-map-range_with_len, get_or-map-range_with_len}
use Rattle.std.proofs.lemmas.List.Sums.{sum_by_push}
use Rattle.sm_placement.specs.Setup.{Setup}
use Rattle.sm_plan_code.specs.declared.moves.Move.{Move}
use Rattle.sm_planner.specs.Basis.{Basis, IsMoveOf, no_move, move_at, move_load}
use Rattle.sm_planner.specs.Placing.{taken_by, freed_by}
use Rattle.sm_planner.specs.declared.payment.Placed.{Placed}
use Rattle.sm_planner.specs.Payment.{takes_from, frees_from}
use Rattle.sm_planner.specs.Stretches.{stretch}
use Rattle.sm_planner.specs.Accounts.{no_amounts, room_freed}
use Rattle.sm_placement.specs.declared.limits.TheConstants.{MOST_LOAD}
use Rattle.sm_planner.proofs.Accounting.{at_set, freed_small, taken_small}

-- the amounts taken and freed at each server by placed moves
pub record IsSummed (b : Basis) (order : List Move) (takes frees : List ℕ) : Type 0 where
  pub taken_wide : length takes ≡ length b.setup.servers
  pub freed_wide : length frees ≡ length b.setup.servers
  pub taken : (v : ℕ) → v < length b.setup.servers → get_or takes v 0 ≡ sum_by (taken_by b.setup v) order
  pub freed : (v : ℕ) → v < length b.setup.servers → get_or frees v 0 ≡ b.pool.room v + sum_by (freed_by b.setup v) order
  pub taken_small : (v : ℕ) → v < length b.setup.servers → get_or takes v 0 ≤ length order * MOST_LOAD
  pub freed_small : (v : ℕ) → v < length b.setup.servers → get_or frees v 0 ≤ 2 ^ 64 + length order * MOST_LOAD

-- where nothing is paid or freed, the amount at each server is 0
pub no_amount_at : (n v : ℕ) → v < n → get_or (no_amounts n) v 0 ≡ 0
no_amount_at n v l = get_or-map-range_with_len (λ v. 0) 0 n v v 0 l (omega arith)

pub summed_none : (b : Basis) → All (λ x. x < 2 ^ 64) (map b.pool.room (range_with_len 0 (length b.setup.servers))) →
    IsSummed b [] (no_amounts (length b.setup.servers)) (map b.pool.room (range_with_len 0 (length b.setup.servers)))
summed_none b small = record {
  taken_wide = length-map-range_with_len (λ v. 0) 0 (length b.setup.servers);
  freed_wide = length-map-range_with_len b.pool.room 0 (length b.setup.servers);
  taken = λ v l. no_amount_at (length b.setup.servers) v l;
  freed = λ v l. get_or-map-range_with_len b.pool.room 0 (length b.setup.servers) v v 0 l (omega arith) ∙ omega arith;
  taken_small = λ v l. rw (no_amount_at (length b.setup.servers) v l) (omega arith);
  freed_small = λ v l. let s : get_or (map b.pool.room (range_with_len 0 (length b.setup.servers))) v 0 < 2 ^ 64 = small v 0 (let w = length-map-range_with_len b.pool.room 0 (length b.setup.servers) in omega arith) in omega arith;
}

-- an amount that is added at a server comes to the room of that server alone
pub put_at : (room : List ℕ) (u amount v : ℕ) → u < length room → get_or (room_freed room u amount) v 0 ≡ get_or room v 0 + cond (eqb u v) amount 0
put_at room u amount v l = at_set room u (get_or room u 0 + amount) v 0 l ∙ elim (cases_eq u v) [
  | inl e ↦ rw (eq-eqb u v e) (ap (λ x. get_or room x 0 + amount) e)
  | inr e ↦ rw (ne_eqb u v e) (omega arith)
]

pub summed_more : (b : Basis) (order : List Move) (taken freed : List ℕ) (m : Move) → IsSummed b order taken freed →
    m.to < length b.setup.servers → m.from < length b.setup.servers → move_load b.setup m ≤ MOST_LOAD →
    IsSummed b (order ++ m ∷ []) (room_freed taken m.to (move_load b.setup m)) (room_freed freed m.from (move_load b.setup m))
summed_more b order taken freed m s to from load = record {
  taken_wide = length-set taken m.to (get_or taken m.to 0 + move_load b.setup m) ∙ s.taken_wide;
  freed_wide = length-set freed m.from (get_or freed m.from 0 + move_load b.setup m) ∙ s.freed_wide;
  taken = λ v l. let a = s.taken v l in let e = put_at taken m.to (move_load b.setup m) v (omega (arith, s.taken_wide)) in let p = sum_by_push (taken_by b.setup v) order m in omega arith;
  freed = λ v l. let a = s.freed v l in let e = put_at freed m.from (move_load b.setup m) v (omega (arith, s.freed_wide)) in let p = sum_by_push (freed_by b.setup v) order m in omega arith;
  taken_small = λ v l. let a = s.taken_small v l in let e = put_at taken m.to (move_load b.setup m) v (omega (arith, s.taken_wide)) in let t = taken_small b.setup v m in let p = length_push order m in omega arith;
  freed_small = λ v l. let a = s.freed_small v l in let e = put_at freed m.from (move_load b.setup m) v (omega (arith, s.freed_wide)) in let t = freed_small b.setup v m in let p = length_push order m in omega arith;
}

-- ---- what the code's steps say

-- before any move is placed nothing is taken, and the room of the pool is free
pub summed_start : (b : Basis) (setup : Setup) (taken freed : List ℕ) → setup ≡ b.setup → taken ≡ no_amounts (length setup.servers) →
    freed ≡ map b.pool.room (range_with_len 0 (length setup.servers)) → All (λ x. x < 2 ^ 64) freed → IsSummed b [] taken freed
summed_start b setup taken freed same t f small =
    let e : freed ≡ map b.pool.room (range_with_len 0 (length b.setup.servers)) = f ∙ ap (λ (x : Setup). map b.pool.room (range_with_len 0 (length x.servers))) same in
    let w : taken ≡ no_amounts (length b.setup.servers) = t ∙ ap (λ (x : Setup). no_amounts (length x.servers)) same in
    rw (w, e) (summed_none b (subst (All (λ x. x < 2 ^ 64)) e small))

abbrev pub placed : Move → ℕ → ℕ → ℕ → ℕ → Placed
placed m load pool t f = record { wanted = m; load = load; pool = pool; takes_from = t; frees_from = f }

-- what is made of the amounts so far is the stretch of the next placed move
pub stretch_is : (b : Basis) (setup : Setup) (order : List Move) (k : ℕ) (m : Move) (taken freed : List ℕ) (load pool t f : ℕ) → IsSummed b (take k order) taken freed →
    setup ≡ b.setup → IsMoveOf setup m → m ≡ move_at order k → load ≡ move_load setup m → pool ≡ b.pool.room m.to → t ≡ get_or taken m.to 0 → f ≡ get_or freed m.from 0 →
    placed m load pool t f ≡ stretch b order k
stretch_is b setup order k m taken freed load pool t f s same known is a b' c d =
    let move : IsMoveOf b.setup (move_at order k) = rw (same, is) at known in
    let ta : t ≡ takes_from b order k = c ∙ ap (λ (x : Move). get_or taken x.to 0) is ∙ s.taken (move_at order k).to move.to in
    let fr : f ≡ frees_from b order k = d ∙ ap (λ (x : Move). get_or freed x.from 0) is ∙ s.freed (move_at order k).from move.from in
    rw (a, b', ta, fr, same, is) refl

-- the amounts stay right where the next placed move takes its load and frees it
pub summed_next : (b : Basis) (setup : Setup) (order : List Move) (k : ℕ) (m : Move) (taken freed later after : List ℕ) (load : ℕ) → IsSummed b (take k order) taken freed →
    k < length order → setup ≡ b.setup → IsMoveOf setup m → m ≡ move_at order k → load ≡ move_load setup m → load ≤ MOST_LOAD →
    later ≡ room_freed taken m.to load → after ≡ room_freed freed m.from load → IsSummed b (take (k + 1) order) later after
summed_next b setup order k m taken freed later after load s l same known is a small t f =
    let move : IsMoveOf b.setup m = rw same at known in
    let load_is : load ≡ move_load b.setup m = rw same at a in
    let e : take (k + 1) order ≡ take k order ++ m ∷ [] = take_more order k no_move l ∙ ap (λ x. take k order ++ x ∷ []) (sym is) in
    rw (e, t, f, load_is) (summed_more b (take k order) taken freed m s move.to move.from (rw load_is at small))

-- with the load of one more move the amounts stay below 2^128
pub fits_more : (b : Basis) (setup : Setup) (order : List Move) (m : Move) (taken freed : List ℕ) (load : ℕ) → IsSummed b order taken freed → setup ≡ b.setup → IsMoveOf setup m →
    length order < 2 ^ 64 → load ≤ MOST_LOAD → (get_or taken m.to 0 + load < 2 ^ 128) × (get_or freed m.from 0 + load < 2 ^ 128)
fits_more b setup order m taken freed load s same known long small =
    let move : IsMoveOf b.setup m = rw same at known in
    let t = s.taken_small m.to move.to in
    let f = s.freed_small m.from move.from in
    (omega arith, omega arith)
