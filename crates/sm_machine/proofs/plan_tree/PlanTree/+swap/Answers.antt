-- A plan is changed.
use Rattle.std.proofs.Common.{◌≡◌, ◌-◌, ◌/◌, length, arith, sym, subst, ap}
use Rattle.sm_machine.specs.Begun.{no_begun}
use Rattle.sm_machine.specs.Plans.{plans_in, IsEven}
use Rattle.sm_machine.proofs.InTurn.{fork_at, get_here, get_odd, get_even, set_here, set_odd, set_even, odd_half, even_half}
use Rattle.sm_machine.proofs.plan_tree.PlanTree.+swap.Goals as goal
use Rattle.sm_machine.proofs.plan_tree.PlanTree.+swap.Goals.{then-place-eq0, else-place-eq0+then-place-eq1, else-place-eq0+else-place-eq1}

pub swap-requires-then-place-eq1 : goal.swap-requires-then-place-eq1
swap-requires-then-place-eq1 t c =
    let f = fork_at (subst (λ n. plans_in n ≡ c.args.self.now) c.in-Fork.is c.self.view_is) (subst IsEven c.in-Fork.is c.self.invariant) in
    let l : length c.deref_mut.result.now ≡ length c.in-Fork.odd.value = ap length c.deref_mut.ensures.value in
    let h = odd_half c.args.place c.if-place-eq1.true in
    (omega (arith, f.total, l, c.decreases), omega (arith, f.less, f.more, f.total, l, h, c.requires))

pub swap-requires-else-place-eq1 : goal.swap-requires-else-place-eq1
swap-requires-else-place-eq1 t c =
    let f = fork_at (subst (λ n. plans_in n ≡ c.args.self.now) c.in-Fork.is c.self.view_is) (subst IsEven c.in-Fork.is c.self.invariant) in
    let l : length c.deref_mut-else-place-eq1.result.now ≡ length c.in-Fork.even.value = ap length c.deref_mut-else-place-eq1.ensures.value in
    let h = even_half c.args.place c.if-place-eq1.false c.if-place-eq0.false in
    (omega (arith, f.total, l, c.decreases), omega (arith, f.less, f.more, f.total, l, h, c.requires))

pub returns-clause-here : goal.returns-clause-here
returns-clause-here t c =
    let f = fork_at (subst (λ n. plans_in n ≡ c.args.self.now) c.in-Fork.is c.self.view_is) (subst IsEven c.in-Fork.is c.self.invariant) in
    elim c.if-place-eq0.branch [
      | then-place-eq0 w ↦ rw (w.other-is, w.swap.ensures.y_after) (sym (get_here f c.args.place no_begun w.if-place-eq0.true))
      | else-place-eq0+then-place-eq1 w ↦ rw (w.other-is, w.swap-then-place-eq1.ensures.here, w.deref_mut.ensures.value) (sym (get_odd f c.args.place (c.args.place / 2) no_begun (odd_half c.args.place w.if-place-eq1.true)))
      | else-place-eq0+else-place-eq1 w ↦ rw (w.other-is, w.swap-else-place-eq1.ensures.here, w.deref_mut-else-place-eq1.ensures.value) (sym (get_even f c.args.place (c.args.place / 2 - 1) no_begun (even_half c.args.place w.if-place-eq1.false w.if-place-eq0.false)))
    ]

pub returns-clause-others : goal.returns-clause-others
returns-clause-others t c =
    let f = fork_at (subst (λ n. plans_in n ≡ c.args.self.now) c.in-Fork.is c.self.view_is) (subst IsEven c.in-Fork.is c.self.invariant) in
    elim c.if-place-eq0.branch [
      | then-place-eq0 w ↦ rw (w.self-inside-is, w.swap.ensures.x_after) (set_here f c.args.place c.args.other.now w.if-place-eq0.true)
      | else-place-eq0+then-place-eq1 w ↦ rw (w.self-inside-is, w.swap-then-place-eq1.ensures.others, w.deref_mut.ensures.value) (set_odd f c.args.place (c.args.place / 2) c.args.other.now (odd_half c.args.place w.if-place-eq1.true))
      | else-place-eq0+else-place-eq1 w ↦ rw (w.self-inside-is, w.swap-else-place-eq1.ensures.others, w.deref_mut-else-place-eq1.ensures.value) (set_even f c.args.place (c.args.place / 2 - 1) c.args.other.now (even_half c.args.place w.if-place-eq1.false w.if-place-eq0.false))
    ]
