-- A plan goes back, and then those at the odd and at the other even places.
use Rattle.std.proofs.Common.{◌≡◌, length, arith, subst, ap}
use Rattle.sm_machine.specs.Plans.{plans_in, IsEven}
use Rattle.sm_machine.proofs.InTurn.{fork_at}
use Rattle.sm_machine.proofs.Returns.{odd_fit, even_fit, tree_back}
use Rattle.sm_machine.proofs.plan_tree.PlanTree.+close.Goals as goal

pub close-requires-in-Fork : goal.close-requires-in-Fork
close-requires-in-Fork t c =
    let is = subst (λ n. plans_in n ≡ c.args.self) c.in-Fork.is c.self.view_is in
    let f = fork_at is (subst IsEven c.in-Fork.is c.self.invariant) in
    let l : length c.into_inner.result ≡ length c.in-Fork.odd.value = ap length c.into_inner.ensures in
    (omega (arith, f.total, l, c.decreases), odd_fit _ _ _ _ is _ _ c.requires c.close.ensures _ c.into_inner.ensures)

pub close-requires-in-Fork-2 : goal.close-requires-in-Fork-2
close-requires-in-Fork-2 t c =
    let is = subst (λ n. plans_in n ≡ c.args.self) c.in-Fork.is c.self.view_is in
    let f = fork_at is (subst IsEven c.in-Fork.is c.self.invariant) in
    let l : length c.into_inner-in-Fork.result ≡ length c.in-Fork.even.value = ap length c.into_inner-in-Fork.ensures in
    (omega (arith, f.total, l, c.decreases), even_fit _ _ _ _ is _ _ c.requires c.close.ensures _ c.into_inner.ensures _ c.close-in-Fork.ensures _ c.into_inner-in-Fork.ensures)

pub returns-in-Fork : goal.returns-in-Fork
returns-in-Fork t c =
    let is = subst (λ n. plans_in n ≡ c.args.self) c.in-Fork.is c.self.view_is in
    tree_back _ _ _ _ is _ _ c.requires c.close.ensures _ c.into_inner.ensures _ c.close-in-Fork.ensures _ c.into_inner-in-Fork.ensures _ c.close-in-Fork-2.ensures
