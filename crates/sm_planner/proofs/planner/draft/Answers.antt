use Rattle.std.proofs.Common.{ℕ, ◌≡◌, ◌∙◌, None, List, sym, ap, subst, inr, length, map, arith}
use Rattle.std.specs.Prelude.{All}
use Rattle.std.specs.List.{range_with_len}
use Rattle.std.proofs.lemmas.List.{length-map, get_or_default}
use Rattle.sm_plan_code.specs.declared.moves.Move.{Move}
use Rattle.sm_planner.specs.Basis.{basis_of, IsMoveOf, no_move, move_at}
use Rattle.sm_planner.specs.Placing.{first_left}
use Rattle.sm_planner.specs.Spread.{first_too_close}
use Rattle.sm_planner.specs.Payment.{signals_of}
use Rattle.sm_planner.specs.Stretches.{stretch, IsGiven}
use Rattle.sm_planner.proofs.Refusing.{refused_room, refused_signals, refused_not}
use Rattle.sm_planner.proofs.Signalling.{ordered_known, freed_behind, signals_are, signals_given}
use Rattle.sm_reservation.specs.Key.{IsOnce}
use Rattle.sm_planner.specs.Refusal.{refusal, in_placed_order}
use Rattle.sm_planner.specs.Plan.{moves_of, needs_by}
use Rattle.sm_planner.proofs.Keys.{declared_once}
use Rattle.sm_planner.proofs.law.Opened.{order_apart, order_opened}
use Rattle.sm_planner.proofs.planner.draft.Goals as goal
use Rattle.sm_planner.proofs.planner.draft.Goals.{In_ok-order, In_ok-signals}

pub returns-in-Some-clause-refused : goal.returns-in-Some-clause-refused
returns-in-Some-clause-refused c =
    let b = basis_of c.args.placement.now c.args.pool.now in
    let placed = c.in_ok-placing.placing.placed.items in
    inr (placed, c.in_ok-placing.ensures.placing, refused_room b c.args.moves.now placed c.requires.open c.in-Some.i _ (sym c.in_ok-placing.ensures.left ∙ sym c.in-Some.ensures.first) (ap (λ (m : Move). m.to) (get_or_default c.args.moves.now c.in-Some.i c.index-moves-i.result no_move c.in-Some.ensures.within)))

pub stretches-requires : goal.stretches-requires
stretches-requires c =
    let e : c.deref.result.now ≡ map (move_at c.args.moves.now) c.in_ok-placing.placing.placed.items = c.deref.ensures.value ∙ c.in_ok-order.ensures in
    subst (All (IsMoveOf c.args.placement.now.setup)) (sym e) (ordered_known c.args.placement.now.setup c.args.moves.now c.in_ok-placing.placing.placed.items c.requires.known c.in_ok-placing.ensures.known)

pub signals-requires : goal.signals-requires
signals-requires c =
    freed_behind (basis_of c.args.placement.now c.args.pool.now) c.in_ok-order.order.items c.deref-2.result.now
    (c.deref-2.ensures.value ∙ c.in_ok-placed.ensures.placed ∙ ap (λ (x : List Move). map (stretch (basis_of c.args.placement.now c.args.pool.now) x) (range_with_len 0 (length x))) c.deref.ensures.value)

left_none : (c : In_ok-order) → first_left c.args.moves.now c.in_ok-placing.placing.placed.items ≡ None
left_none c = sym c.in_ok-placing.ensures.left ∙ sym c.first_left.ensures.first ∙ c.in_default.is

apart : (c : In_ok-order) → first_too_close (basis_of c.args.placement.now c.args.pool.now) c.args.moves.now ≡ None
apart c = sym c.in_ok-shard.ensures ∙ c.in_default-2.is

placed_are : (c : In_ok-signals) → c.in_ok-placed.placed.items ≡ map (stretch (basis_of c.args.placement.now c.args.pool.now) c.in_ok-order.order.items) (range_with_len 0 (length c.in_ok-order.order.items))
placed_are c = c.in_ok-placed.ensures.placed ∙ ap (λ (x : List Move). map (stretch (basis_of c.args.placement.now c.args.pool.now) x) (range_with_len 0 (length x))) c.deref.ensures.value

signalled : (c : In_ok-signals) → c.in_ok-signals.signals.items ≡ signals_of (basis_of c.args.placement.now c.args.pool.now) c.in_ok-order.order.items
signalled c = signals_are (basis_of c.args.placement.now c.args.pool.now) c.in_ok-order.order.items c.deref-2.result.now c.in_ok-signals.signals.items (c.deref-2.ensures.value ∙ placed_are c) c.in_ok-signals.ensures

pub returns-then-len-gt-MOST_SIGNALS-clause-refused : goal.returns-then-len-gt-MOST_SIGNALS-clause-refused
returns-then-len-gt-MOST_SIGNALS-clause-refused c =
    let b = basis_of c.args.placement.now c.args.pool.now in
    let placed = c.in_ok-placing.placing.placed.items in
    let at = goal.at.returns-then-len-gt-MOST_SIGNALS-clause-refused c in
    let e = ap length (signalled at.In_ok-signals ∙ ap (signals_of b) c.in_ok-order.ensures) in
    let n = c.len.ensures in let o = c.in_ok-signals.signals.ok in let p = o.0 in let t = c.if-len-gt-MOST_SIGNALS.true in
    inr (placed, c.in_ok-placing.ensures.placing, refused_signals b c.args.moves.now placed c.requires.open (left_none at.In_ok-order) (apart at.In_ok-order) (omega arith))

pub returns-clause-drafted : goal.returns-clause-drafted
returns-clause-drafted c =
    let b = basis_of c.args.placement.now c.args.pool.now in
    let placed = c.in_ok-placing.placing.placed.items in
    let moves = c.args.moves.now in
    let at = goal.at.returns-clause-drafted c in
    let s = signalled at.In_ok-signals in
    let e = ap length (s ∙ ap (signals_of b) c.in_ok-order.ensures) in
    let f = ap length s in
    let n = c.len.ensures in let o = c.in_ok-signals.signals.ok in let p = o.0 in let t = c.if-len-gt-MOST_SIGNALS.false in
    let u = c.if-moves-gt-MOST_MOVES.false in
    let w = c.in_ok-placing.ensures.few in
    let l = ap length c.in_ok-order.ensures ∙ length-map placed (move_at moves) in
    let is = c.in_ok-placing.ensures.placing in
    let none : refusal b moves placed ≡ None = refused_not b moves placed c.requires.open (left_none at.In_ok-order) (apart at.In_ok-order) (omega arith) (omega arith) in (
      placed,
      is,
      none,
      c.in_ok-order.ensures,
      record {
        setup = c.in_ok-placed.ensures.setup;
        known = subst (All (IsMoveOf c.args.placement.now.setup)) (sym c.in_ok-order.ensures) (ordered_known c.args.placement.now.setup moves placed c.requires.known c.in_ok-placing.ensures.known);
        few = omega arith;
        placed = placed_are at.In_ok-signals;
        signals = s;
        signal_count = omega arith;
        given = subst (All (IsGiven b c.in_ok-order.order.items)) (sym s) (signals_given b c.in_ok-order.order.items);
        once = subst (λ (order : List Move). (i : ℕ) → IsOnce (needs_by b order (moves_of order i))) (sym c.in_ok-order.ensures)
            (declared_once b (in_placed_order moves placed) (order_apart b moves placed is none) (order_opened b moves placed is none));
      },
    )
