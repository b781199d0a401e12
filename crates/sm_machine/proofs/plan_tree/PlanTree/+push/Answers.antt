-- A plan more.
use Rattle.std.proofs.Common.{◌≡◌, ◌∷◌, [], length, arith, subst, ap, length-append}
use Rattle.sm_machine.specs.Plans.{plans_in, IsEven}
use Rattle.sm_machine.proofs.InTurn.{fork_at, push_odd, push_even, odd_half}
use Rattle.sm_machine.proofs.plan_tree.PlanTree.+push.Goals as goal

pub push-requires : goal.push-requires
push-requires t c =
    let f = fork_at (subst (λ n. plans_in n ≡ c.args.self.now) c.in-Fork.is c.self.view_is) (subst IsEven c.in-Fork.is c.self.invariant) in
    let l : length c.deref_mut.result.now ≡ length c.in-Fork.odd.value = ap length c.deref_mut.ensures.value in
    let h = odd_half c.args.count c.if-count-eq1.true in
    (omega (arith, f.total, l, c.decreases), omega (arith, f.less, f.more, f.total, l, h, c.requires))

pub push-requires-else-count-eq1 : goal.push-requires-else-count-eq1
push-requires-else-count-eq1 t c =
    let f = fork_at (subst (λ n. plans_in n ≡ c.args.self.now) c.in-Fork.is c.self.view_is) (subst IsEven c.in-Fork.is c.self.invariant) in
    let l : length c.deref_mut-else-count-eq1.result.now ≡ length c.in-Fork.even.value = ap length c.deref_mut-else-count-eq1.ensures.value in
    (omega (arith, f.total, l, c.decreases), omega (arith, f.less, f.more, f.total, l, c.requires, c.if-count-eq1.false))

pub invariant_of-self-then-count-eq1 : goal.invariant_of-self-then-count-eq1
invariant_of-self-then-count-eq1 t c =
    let f = fork_at (subst (λ n. plans_in n ≡ c.args.self.now) c.in-Fork.is c.self.view_is) (subst IsEven c.in-Fork.is c.self.invariant) in
    let h = odd_half c.args.count c.if-count-eq1.true in
    rw (c.push.ensures, c.deref_mut.ensures.value) (omega (arith, f.less, f.more, f.total, h, c.requires, length-append c.in-Fork.odd.value (c.args.plan ∷ [])), omega (arith, f.less, f.more, f.total, h, c.requires, length-append c.in-Fork.odd.value (c.args.plan ∷ [])))

pub invariant_of-self-else-count-eq1 : goal.invariant_of-self-else-count-eq1
invariant_of-self-else-count-eq1 t c =
    let f = fork_at (subst (λ n. plans_in n ≡ c.args.self.now) c.in-Fork.is c.self.view_is) (subst IsEven c.in-Fork.is c.self.invariant) in
    rw (c.push-else-count-eq1.ensures, c.deref_mut-else-count-eq1.ensures.value) (omega (arith, f.less, f.more, f.total, c.requires, c.if-count-eq1.false, length-append c.in-Fork.even.value (c.args.plan ∷ [])), omega (arith, f.less, f.more, f.total, c.requires, c.if-count-eq1.false, length-append c.in-Fork.even.value (c.args.plan ∷ [])))

pub returns-then-count-eq1 : goal.returns-then-count-eq1
returns-then-count-eq1 t c =
    let f = fork_at (subst (λ n. plans_in n ≡ c.args.self.now) c.in-Fork.is c.self.view_is) (subst IsEven c.in-Fork.is c.self.invariant) in
    let h = odd_half c.args.count c.if-count-eq1.true in
    rw (c.push.ensures, c.deref_mut.ensures.value) (push_odd f c.args.plan (omega (arith, f.less, f.more, f.total, h, c.requires)))

pub returns-else-count-eq1 : goal.returns-else-count-eq1
returns-else-count-eq1 t c =
    let f = fork_at (subst (λ n. plans_in n ≡ c.args.self.now) c.in-Fork.is c.self.view_is) (subst IsEven c.in-Fork.is c.self.invariant) in
    rw (c.push-else-count-eq1.ensures, c.deref_mut-else-count-eq1.ensures.value) (push_even f c.args.plan (omega (arith, f.less, f.more, f.total, c.requires, c.if-count-eq1.false)))
