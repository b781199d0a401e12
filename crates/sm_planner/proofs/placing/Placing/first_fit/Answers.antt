use Rattle.std.proofs.Common.{◌≡◌, ◌<◌, ◌+◌, ◌∙◌, ◌&&◌, Bool, List, ap, subst, sym, refl, length, get_or, leb, arith}
use Rattle.std.proofs.lemmas.List.{get_or_default}
use Rattle.sm_plan_code.specs.declared.moves.Move.{Move}
use Rattle.sm_planner.specs.Basis.{no_move, move_at, move_load}
use Rattle.sm_planner.specs.Accounts.{is_left, is_next, awaited_with, ArePassedOver}
use Rattle.sm_planner.proofs.Firsts.{found, passed}
use Rattle.sm_planner.proofs.Passing.{left_from, one_passed, wide_over}
use Rattle.sm_planner.proofs.placing.Placing.first_fit.Goals as goal

pub loop-i-init : goal.loop-i-init
loop-i-init c =
    let s = c.args.self.now in
    record {
      left = left_from (is_next c.args.config.now c.args.moves.now s.marks.items s.room) c.args.start (length c.args.moves.now) c.requires.within (λ k l. (c.requires.before k l).0);
      wide = refl;
      before = c.requires.before;
    }

pub returns-then-is_next-clause-first : goal.returns-then-is_next-clause-first
returns-then-is_next-clause-first c =
    let moves = c.args.moves.now in
    let s = c.args.self.now in
    let setup = c.args.config.now in
    let is : c.index-moves-i.result ≡ move_at moves c.loop-i.i = c.index-moves-i.is ∙ get_or_default moves c.loop-i.i c.index-moves-i.result no_move c.loop-i-test.true in
    let next : c.is_next.result ≡ is_next setup moves s.marks.items s.room c.loop-i.i = c.is_next.ensures ∙ ap (λ (m : Move). is_left s.marks.items c.loop-i.i && leb (move_load setup m) (get_or s.room m.to 0)) is in
    sym (found (is_next setup moves s.marks.items s.room) c.loop-i.i (length moves) c.loop-i.invariant.left c.loop-i-test.true (sym next ∙ c.if-is_next.true))

pub loop-i-preserved : goal.loop-i-preserved
loop-i-preserved c =
    let moves = c.args.moves.now in
    let s = c.args.self.now in
    let setup = c.args.config.now in
    let i = c.loop-i.i in
    let awaited = c.loop-i.awaited in
    let is : c.index-moves-i.result ≡ move_at moves i = c.index-moves-i.is ∙ get_or_default moves i c.index-moves-i.result no_move c.loop-i-test.true in
    let next : c.is_next.result ≡ is_next setup moves s.marks.items s.room i = c.is_next.ensures ∙ ap (λ (m : Move). is_left s.marks.items i && leb (move_load setup m) (get_or s.room m.to 0)) is in
    let not_next = sym next ∙ c.if-is_next.false in
    let known = c.requires.known i no_move c.loop-i-test.true in
    let within : (move_at moves i).to < length awaited = (let t = known.to in let w = c.requires.wide in let a = c.loop-i.invariant.wide in omega arith) in
    let later : c.pass_over.new.awaited ≡ awaited_with s.marks.items i (move_at moves i).to awaited = c.pass_over.ensures ∙ ap (λ (m : Move). awaited_with s.marks.items i m.to awaited) is in
    record {
      left = passed (is_next setup moves s.marks.items s.room) i (length moves) c.loop-i.invariant.left c.loop-i-test.true not_next;
      wide = ap length later ∙ wide_over s.marks.items i (move_at moves i).to awaited ∙ c.loop-i.invariant.wide;
      before = subst (λ (xs : List Bool). ArePassedOver setup moves s.marks.items s.room xs (i + 1)) (sym later) (one_passed setup moves s.marks.items s.room awaited i within c.loop-i.invariant.before not_next);
    }
