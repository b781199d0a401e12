-- The list is of those that are down.
use Rattle.std.proofs.Common.{◌≡◌, ◌≤◌, ◌∙◌, ◌&&◌, ◌==◌, Bool, ap, arith, length, sym}
use Rattle.std.specs.List.{list_any}
use Rattle.std.proofs.lemmas.Bool.{lt-ltb}
use Rattle.smpland_reopening.specs.Roles.{is_down_in}
use Rattle.smpland_reopening.specs.Settled.{down_among}
use Rattle.smpland_reopening.proofs.Settled.{few_among, told_among}
use Rattle.smpland_reopening.proofs.opening.servers_down.Goals as goal

pub returns-clause-down : goal.returns-clause-down
returns-clause-down c v h =
    let n = c.loop-number.number in
    ap (list_any (λ x. x == v)) c.loop-number.invariant ∙ told_among (is_down_in c.args.down.now) n v
    ∙ ap (λ (t : Bool). t && is_down_in c.args.down.now v) (lt-ltb v n (omega (arith, h, c.loop-number-test.false)))

pub returns-clause-few : goal.returns-clause-few
returns-clause-few c =
    let n = c.loop-number.number in
    let same : length c.loop-number.list.items ≡ length (down_among n (is_down_in c.args.down.now)) = ap length c.loop-number.invariant in
    omega (arith, same, few_among (is_down_in c.args.down.now) n, c.loop-number.auto.number-end)

pub returns-clause-list : goal.returns-clause-list
returns-clause-list c =
    let all : c.loop-number.number ≡ c.args.servers = omega (arith, c.loop-number-test.false, c.loop-number.auto.number-end) in
    c.loop-number.invariant ∙ ap (λ n. down_among n (is_down_in c.args.down.now)) all
