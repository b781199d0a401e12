use Rattle.std.proofs.Common.{◌≡◌, ◌+◌, ◌-◌, suc, sym, ◌∙◌, arith}
use Rattle.sm_reservation.proofs.OrderLemmas.{twin_here, twin_past, no_twin_left}
use Rattle.sm_reservation.proofs.order.first_twin.Goals as goal

pub returns-then-is_same : goal.returns-then-is_same
returns-then-is_same g c =
    let here : c.loop-i.i ≡ suc (c.loop-i.i - 1) = omega arith in
    let found = twin_here g.T.Row.key c.args.rows.now (c.loop-i.i - 1) c.index-rows-i-in-loop-i.result c.index-rows-i.result (omega arith) c.index-rows-i-in-loop-i.is (rw (← here) c.index-rows-i.is) (rw (← c.key.ensures, ← c.key-key.ensures) (rw c.is_same.ensures at c.if-is_same.true)) in
    rw c.key-key.ensures (sym found ∙ c.loop-i.invariant)

pub loop-i-preserved : goal.loop-i-preserved
loop-i-preserved g c =
    let here : c.loop-i.i ≡ suc (c.loop-i.i - 1) = omega arith in
    let next : c.loop-i.i + 1 - 1 ≡ suc (c.loop-i.i - 1) = omega arith in
    let past = twin_past g.T.Row.key c.args.rows.now (c.loop-i.i - 1) c.index-rows-i-in-loop-i.result c.index-rows-i.result (omega arith) c.index-rows-i-in-loop-i.is (rw (← here) c.index-rows-i.is) (rw (← c.key.ensures, ← c.key-key.ensures) (rw c.is_same.ensures at c.if-is_same.false)) in
    rw next (sym past ∙ c.loop-i.invariant)

pub returns : goal.returns
returns g c = sym (no_twin_left g.T.Row.key c.args.rows.now (c.loop-i.i - 1) (omega arith)) ∙ c.loop-i.invariant
