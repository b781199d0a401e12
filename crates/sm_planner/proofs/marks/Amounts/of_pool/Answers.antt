use Rattle.std.proofs.Common.{◌≡◌, ◌<◌, ◌^◌, ◌++◌, ◌∷◌, [], arith}
use Rattle.std.proofs.lemmas.List.Elements.{All-same, All-push}
use Rattle.sm_reservation.specs.Pool.{pool_hold}
use Rattle.sm_planner.proofs.Ranges.{pushed_more}
use Rattle.sm_planner.proofs.marks.Amounts.of_pool.Goals as goal

pub loop-number-preserved : goal.loop-number-preserved
loop-number-preserved c =
    let pool = pool_hold c.args.pool.now in
    let e : c.push.new.self.items ≡ c.loop-number.by_server.items ++ c.from.result ∷ [] = c.in_ok-push.ensures.items in
    let x : c.from.result ≡ pool.room c.loop-number.number = cc in (
      pushed_more pool.room c.loop-number.by_server.items c.push.new.self.items c.loop-number.number c.from.result e x c.loop-number.invariant.0,
      All-same (λ y. y < 2 ^ 64) c.push.new.self.items (c.loop-number.by_server.items ++ c.from.result ∷ []) e
          (All-push (λ y. y < 2 ^ 64) c.loop-number.by_server.items c.from.result c.loop-number.invariant.1 (let q : c.from.result ≡ c.room.result = c.from.ensures in omega arith)),
    )
