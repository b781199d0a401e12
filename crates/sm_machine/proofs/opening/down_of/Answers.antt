-- The servers that are down.
use Rattle.std.proofs.Common.{◌≡◌, ◌≤◌, ◌∙◌, ℕ, false, List, length, sym, ap, subst, arith}
use Rattle.sm_placement.specs.Setup.{Setup}
use Rattle.sm_placement.specs.Layout.{place_of}
use Rattle.sm_machine.proofs.Rows.{AreDownBelow, none_down, all_down}
use Rattle.sm_machine.proofs.opening.down_of.Goals as goal

pub loop-number-init : goal.loop-number-init
loop-number-init c =
    let down = (place_of c.args.placement.now).down in
    subst (λ (rows : List ℕ). AreDownBelow rows down 0) (sym c.new-rows.ensures.items) (none_down down)

pub returns : goal.returns
returns c =
    let down = (place_of c.args.placement.now).down in
    let count : c.server_count-number-end.result ≡ length c.args.placement.now.setup.servers = c.server_count-number-end.ensures.count ∙ ap (λ (u : Setup). length u.servers) c.config.ensures.setup in
    let beyond : (v : ℕ) → c.loop-number.number ≤ v → down v ≡ false = λ v l. c.config.ensures.placement.no_down v (omega arith) in
    all_down c.loop-number.rows.items down c.loop-number.number c.loop-number.invariant beyond
