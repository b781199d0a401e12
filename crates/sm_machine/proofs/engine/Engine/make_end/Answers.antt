-- A stream makes its end.
use Rattle.std.proofs.Common.{◌≡◌, ◌-◌, ap, ◌∙◌, arith}
use Rattle.sm_protocol.specs.State.{allowance, progress_of}
use Rattle.sm_machine.specs.State.{whole_of}
use Rattle.sm_machine.proofs.Turns.{end_asks, end_leaves, free_fits}
use Rattle.sm_machine.proofs.engine.Engine.make_end.Goals as goal

pub step_end-requires : goal.step_end-requires
step_end-requires c = end_asks (whole_of c.args.self.now) c.args.id c.requires c.held_in_order.ensures.order c.held_in_order.ensures.there

pub returns : goal.returns
returns c p =
    let spent = ap (λ z. z.tries) (c.saturating_sub.view_is ∙ c.progress.ensures) in
    let left : c.saturating_sub-left.result ≡ allowance (whole_of c.args.self.now).state c.args.id - (progress_of (whole_of c.args.self.now).state c.args.id).tries =
    c.saturating_sub-left.ensures ∙ ap (λ n. n - c.saturating_sub.inside.tries) c.allowance.ensures ∙ ap (λ n. allowance (whole_of c.args.self.now).state c.args.id - n) spent in
    let before : c.free.result ≡ (whole_of c.args.self.now).free = c.free.ensures in
    let after = c.saturating_add-free.ensures in
    let fits = free_fits (whole_of c.args.self.now) c.args.id c.requires c.held_in_order.ensures.order c.held_in_order.ensures.there in
    end_leaves (whole_of c.args.self.now) c.args.id c.requires c.held_in_order.ensures.order c.held_in_order.ensures.there _ _ (omega arith) c.step_end.ensures p
