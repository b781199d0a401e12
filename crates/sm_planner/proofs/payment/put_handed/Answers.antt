use Rattle.std.proofs.Common.{◌≡◌, ◌∙◌, ◌++◌, List, ap, subst, sym}
use Rattle.std.proofs.lemmas.Bool.{eqb-true}
use Rattle.std.proofs.lemmas.List.{append-nil, get_or_default}
use Rattle.sm_planner.specs.declared.payment.Placed.{Placed}
use Rattle.sm_planner.specs.Payment.{HandedRoom, handed, overlap}
use Rattle.sm_planner.specs.Stretches.{no_stretch, placed_at, is_paid_by}
use Rattle.sm_planner.proofs.Ranges.{behind_push, behind_kept}
use Rattle.sm_planner.proofs.Signalling.{handed_none}
use Rattle.sm_planner.proofs.payment.put_handed.Goals as goal
use Rattle.sm_planner.proofs.payment.put_handed.Goals.{then-is_paid_by+in_ok-push, else-is_paid_by}

pub loop-j-preserved : goal.loop-j-preserved
loop-j-preserved c =
    let order = c.args.order.now in
    let k = c.args.k in
    elim c.if-is_paid_by.branch [
      | then-is_paid_by+in_ok-push w ↦ rw w.signals-is (behind_push c.args.signals.now.items c.loop-j.signals.items w.push.new.self.items (handed k) (is_paid_by order k) c.loop-j.j w.in_ok-push.ensures.items (sym c.is_paid_by.ensures ∙ w.if-is_paid_by.true) c.loop-j.invariant)
      | else-is_paid_by w ↦ rw w.signals-is (behind_kept c.args.signals.now.items c.loop-j.signals.items (handed k) (is_paid_by order k) c.loop-j.j (sym c.is_paid_by.ensures ∙ w.if-is_paid_by.false) c.loop-j.invariant)
    ]

pub returns-then-is_paid_by_pool : goal.returns-then-is_paid_by_pool
returns-then-is_paid_by_pool c =
    let order = c.args.order.now in
    let k = c.args.k in
    let payer = c.index-order-k.result in
    let is : payer ≡ placed_at order k = c.index-order-k.is ∙ get_or_default order k payer no_stretch c.requires.place in
    let alone : overlap payer.takes_from payer.load 0 payer.pool ≡ payer.load = eqb-true (overlap payer.takes_from payer.load 0 payer.pool) payer.load (sym c.is_paid_by_pool.ensures ∙ c.if-is_paid_by_pool.true) in
    let none = handed_none order k c.requires.behind c.requires.place (subst (λ (p : Placed). overlap p.takes_from p.load 0 p.pool ≡ p.load) is alone) in
    sym (ap (λ (xs : List HandedRoom). c.args.signals.now.items ++ xs) none ∙ append-nil c.args.signals.now.items)
