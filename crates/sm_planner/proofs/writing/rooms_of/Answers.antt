use Rattle.std.proofs.Common.{◌≡◌, ◌∙◌, ℕ, ap, get_or, length, arith}
use Rattle.sm_placement.specs.Setup.{Setup}
use Rattle.sm_reservation.specs.declared.right.Room.{Room}
use Rattle.sm_planner.specs.Basis.{basis_of}
use Rattle.sm_planner.specs.Plan.{paid_by, room_by}
use Rattle.sm_planner.proofs.Ranges.{pushed_more}
use Rattle.sm_planner.proofs.writing.rooms_of.Goals as goal

abbrev room : ℕ → ℕ → Room
room server amount = record { server = server; amount = amount }

pub loop-number-preserved : goal.loop-number-preserved
loop-number-preserved c =
    let b = basis_of c.args.placement.now c.args.pool.now in
    let order = c.args.draft.now.moves.items in
    let v = c.loop-number.number in
    let server : c.new-server.result ≡ v = cc in
    let paid : c.at.result ≡ paid_by b order c.args.numbers.now v = c.at.ensures ∙ ap (λ (x : ℕ). get_or c.in_ok-paid.paid x 0) server ∙ c.in_ok-paid.ensures.paid v (let n = c.server_count-number-end.ensures.count in let m = ap (λ (x : Setup). length x.servers) c.config.ensures.setup in omega arith) in
    let here : room c.new-server.result c.at.result ≡ room_by b order c.args.numbers.now v = ap (λ (x : ℕ). room x c.at.result) server ∙ ap (room v) paid in
    pushed_more (room_by b c.args.draft.now.moves.items c.args.numbers.now) c.loop-number.rooms.items c.push.new.self.items c.loop-number.number _ c.in_ok-push.ensures.items here c.loop-number.invariant
