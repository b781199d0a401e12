-- A plan is read.
use Rattle.std.proofs.Common.{◌≡◌, ◌-◌, ◌/◌, slice_index_or, length, arith, sym, ◌∙◌, subst, ap}
use Rattle.sm_machine.specs.Begun.{no_begun}
use Rattle.sm_machine.specs.Plans.{plans_in, IsEven}
use Rattle.sm_machine.proofs.InTurn.{fork_at, get_odd, get_even, odd_half, even_half}
use Rattle.sm_machine.proofs.plan_tree.PlanTree.+at.Goals as goal

pub at-requires : goal.at-requires
at-requires t c =
    let f = fork_at (subst (λ n. plans_in n ≡ c.args.self.now) c.in-Fork.is c.self.view_is) (subst IsEven c.in-Fork.is c.self.invariant) in
    let l : length c.deref.result.now ≡ length c.in-Fork.odd.value = ap length c.deref.ensures in
    let h = odd_half c.args.place c.if-place-eq1.true in
    (omega (arith, f.total, l, c.decreases), omega (arith, f.less, f.more, f.total, l, h, c.requires))

pub at-requires-else-place-eq1 : goal.at-requires-else-place-eq1
at-requires-else-place-eq1 t c =
    let f = fork_at (subst (λ n. plans_in n ≡ c.args.self.now) c.in-Fork.is c.self.view_is) (subst IsEven c.in-Fork.is c.self.invariant) in
    let l : length c.deref-else-place-eq1.result.now ≡ length c.in-Fork.even.value = ap length c.deref-else-place-eq1.ensures in
    let h = even_half c.args.place c.if-place-eq1.false c.if-place-eq0.false in
    (omega (arith, f.total, l, c.decreases), omega (arith, f.less, f.more, f.total, l, h, c.requires))

pub returns-then-place-eq1 : goal.returns-then-place-eq1
returns-then-place-eq1 t c =
    let f = fork_at (subst (λ n. plans_in n ≡ c.args.self.now) c.in-Fork.is c.self.view_is) (subst IsEven c.in-Fork.is c.self.invariant) in
    c.at.ensures ∙ ap (λ ns. slice_index_or ns (c.args.place / 2) no_begun) c.deref.ensures ∙ sym (get_odd f c.args.place (c.args.place / 2) no_begun (odd_half c.args.place c.if-place-eq1.true))

pub returns-else-place-eq1 : goal.returns-else-place-eq1
returns-else-place-eq1 t c =
    let f = fork_at (subst (λ n. plans_in n ≡ c.args.self.now) c.in-Fork.is c.self.view_is) (subst IsEven c.in-Fork.is c.self.invariant) in
    c.at-else-place-eq1.ensures ∙ ap (λ ns. slice_index_or ns (c.args.place / 2 - 1) no_begun) c.deref-else-place-eq1.ensures
    ∙ sym (get_even f c.args.place (c.args.place / 2 - 1) no_begun (even_half c.args.place c.if-place-eq1.false c.if-place-eq0.false))
