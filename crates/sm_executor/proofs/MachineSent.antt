-- A machine may go to another thread. The plans that were begun lie in a tree that reaches itself, so what a tree holds is shown of one layer
-- from the layer below it.
use denote.RattleType.{RattleType}
use denote.Hole.{as_row}
use denote.Struct.Field.{row_field}
use denote.Struct.Declared.{shape}
use denote.Param.Send.{IsSend, view_send, recorded_send, struct_send, plain_send, sendable}
use denote.Param.SendFields.{as_row_send, declared_send, variants_send}
use denote.Model.Cut.{split_one}
use denote.Model.Local.{Parts, rows}
use denote.Model.Goals.{send, has_of}
use denote.Model.Marks.{tied_send}
use Rattle.std.proofs.Crossing.{crosses, Box-send}
use Rattle.std.specs.contracts.alloc.Global as Heap
use Rattle.std.specs.contracts.boxed.Box as Box
use Rattle.std.specs.contracts.impls.GlobalAllocator.TheImpl.{ghosts}
use Rattle.sm_placement.proofs.placement.Placement.TheSendSync.{the_send as placement_send}
use Rattle.sm_reservation.proofs.pool.Pool.TheSendSync.{the_send as pool_send}
use Rattle.sm_machine.proofs.begun.Begun.TheSendSync.{the_send as begun_send}
use Rattle.sm_machine.proofs.journal.Journal.TheSendSync.{the_send as journal_send}
use Rattle.sm_machine.proofs.opening.Opening.TheSendSync.{the_send as opening_send}
use Rattle.sm_machine.specs.declared.plan_tree.Node.TheVariants.{the_data}
use Rattle.sm_machine.specs.declared.plan_tree.PlanTree.{PlanTree, the_code}
use Rattle.sm_machine.specs.declared.plan_tree.PlanTree.TheInside.{Inside}
use Rattle.sm_machine.specs.declared.plan_tree.PlanTree.TheView.{view, invariant}
use Rattle.sm_machine.specs.declared.plan_tree.PlanTree.TheDeep.{the_members, member-PlanTree, split-Node, join-Node, joins-Node, split-PlanTree, join-PlanTree, joins-PlanTree}
use Rattle.sm_machine.specs.contracts.begun.Begun as Begun
use Rattle.sm_machine.specs.contracts.plan_tree.PlanTree as Tree
use Rattle.sm_machine.specs.contracts.plan_tree.PlanTree.TheKnot.{frame, step, sizes, at-PlanTree, at-Node, view-PlanTree, type-Node, type-PlanTree, layer-Node, layer-PlanTree}
use Rattle.sm_machine.specs.contracts.plans.Plans as Plans
use Rattle.sm_machine.specs.contracts.plans.Plans.TheInside as InPlans
use Rattle.sm_machine.specs.contracts.engine.Engine as Engine
use Rattle.sm_machine.specs.contracts.engine.Engine.TheInside as InEngine
use Rattle.sm_machine.specs.contracts.machine.Machine as Machine
use Rattle.sm_machine.specs.contracts.machine.Machine.TheInside as InMachine

node_send : (h : RattleType) → IsSend h → IsSend (layer-Node h h)
node_send h s = let side = as_row_send (row_field (Box.the_row h Heap.the_row ghosts)) (Box-send h s) in
    variants_send (type-Node h h) (tt, ((as_row_send (row_field (as_row Begun.the_field)) (as_row_send Begun.the_field begun_send), (side, (side, tt))), tt))

layer_send : (p : Parts frame) → IsSend (rows frame p member-PlanTree) → IsSend (view-PlanTree p)
layer_send p s =
    let h = rows frame p member-PlanTree in
    let node = recorded_send (layer-Node h h) the_data split-Node (split_one (layer-Node h h) the_data split-Node join-Node joins-Node) (node_send h s) in
    let inside = declared_send (type-PlanTree (at-Node p)) (as_row_send (row_field (at-Node p)) node, tt) in
    view_send (at-PlanTree p) PlanTree the_code view invariant
    (recorded_send (layer-PlanTree (at-Node p)) Inside split-PlanTree (split_one (layer-PlanTree (at-Node p)) Inside split-PlanTree join-PlanTree joins-PlanTree) inside)

keeps : (p : Parts frame) → ((j : the_members) → IsSend (rows frame p j)) → (i : the_members) → IsSend (rows frame (step p) i)
keeps p all member-PlanTree = has_of frame send (step p) member-PlanTree (λ d. (layer_send p (all member-PlanTree)).owned d)

tree_send : IsSend Tree.the_row
tree_send = tied_send frame step sizes keeps member-PlanTree

plans_send : IsSend Plans.the_row
plans_send = view_send InPlans.the_row _ _ _ _ (recorded_send (InPlans.the_field).row _ _ (InPlans.the_type).to_one (struct_send (shape InPlans.the_type) (tree_send, (plain_send _ _ _ _ _, tt))))

engine_send : IsSend Engine.the_row
engine_send = view_send InEngine.the_row _ _ _ _ (recorded_send (InEngine.the_field).row _ _ (InEngine.the_type).to_one (struct_send (shape InEngine.the_type) (
  opening_send,
  (
    placement_send,
    (
      pool_send,
      (
        search (crosses, sendable) depth 30,
        (
          search (crosses, sendable) depth 30,
          (
            plain_send _ _ _ _ _,
            (
              plans_send,
              (
                begun_send,
                (
                  journal_send,
                  (plain_send _ _ _ _ _, (search (crosses, sendable) depth 30, (plain_send _ _ _ _ _, (plain_send _ _ _ _ _, tt)))),
                ),
              ),
            ),
          ),
        ),
      ),
    ),
  ),
)))

-- a machine may go to another thread, with all that it keeps
pub machine_send : IsSend Machine.the_row
machine_send = view_send InMachine.the_row _ _ _ _ (recorded_send (InMachine.the_field).row _ _ (InMachine.the_type).to_one (struct_send (shape InMachine.the_type) (engine_send, tt)))
