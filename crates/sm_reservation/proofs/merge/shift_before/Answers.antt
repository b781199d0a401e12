use Rattle.std.proofs.Common.{◌≡◌, ◌+◌, suc, true, take, drop, refl, sym, ◌∙◌, ap, arith}
use Rattle.sm_reservation.specs.Rows.{before, count_before}
use Rattle.sm_reservation.proofs.MergeLemmas.{shift_turn}
use Rattle.sm_reservation.proofs.merge.shift_before.Goals as goal

pub loop-count-preserved : goal.loop-count-preserved
loop-count-preserved g c =
    let row = c.index.result.now in
    let rest = drop c.args.read c.args.rows.now.items in
    let t = shift_turn c.loop-count.rows.items (take c.args.write c.args.rows.now.items) rest c.args.write c.args.read c.loop-count.count row (omega arith) (omega arith) c.loop-count.invariant.done c.loop-count.invariant.rest c.index.ensures in
    let b : before (g.T.Row.key row) c.args.key ≡ true = rw (← c.key.ensures) (sym c.is_before.ensures ∙ c.if-not-is_before.false) in
    let here : count_before g.T.Row.key c.args.key (drop c.loop-count.count rest) ≡ suc (count_before g.T.Row.key c.args.key (drop (c.loop-count.count + 1) rest)) = ap (count_before g.T.Row.key c.args.key) t.0 ∙ rw b refl in
    let so_far = c.loop-count.invariant.counted in
    record { counted = omega arith; done = t.1; rest = t.2; within = omega arith; len = c.loop-count.invariant.len; capacity = c.loop-count.invariant.capacity }
