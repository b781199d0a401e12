use Rattle.std.proofs.Common.{◌≡◌, ◌∙◌, ℕ, Bool, List, ap, subst, sym, refl, length, arith, Some, None}
use Rattle.std.proofs.lemmas.List.{get_or_default}
use Rattle.sm_placement.specs.Setup.{Setup}
use Rattle.sm_plan_code.specs.declared.moves.Move.{Move}
use Rattle.sm_planner.specs.Basis.{basis_of, no_move, move_at}
use Rattle.sm_planner.specs.Placing.{first_fit}
use Rattle.sm_planner.specs.Accounts.{room_after, ArePassedOver, IsStart}
use Rattle.sm_planner.proofs.Passing.{passed_on}
use Rattle.sm_planner.proofs.Accounting.{kept_start, kept_next, next_found, marked_less, left_is}
use Rattle.sm_planner.proofs.placing.place_all.Goals as goal
use Rattle.sm_planner.proofs.placing.place_all.Goals.{In-Some}

first_is : (c : In-Some) → first_fit (basis_of c.args.placement.now c.args.pool.now) c.args.moves.now c.loop-i.placing.placed.items ≡ Some c.in-Some.i
first_is c =
    let b = basis_of c.args.placement.now c.args.pool.now in
    next_found b c.args.moves.now c.loop-i.placing.placed.items c.loop-i.placing.marks.items c.loop-i.placing.room c.config-config.result.now (Some c.in-Some.i)
    c.loop-i.invariant.kept c.requires c.config-config.ensures.setup c.in-Some.ensures.first

pub loop-i-init : goal.loop-i-init
loop-i-init c =
    let b = basis_of c.args.placement.now c.args.pool.now in
    record {
      kept = kept_start b c.args.moves.now c.config-config.result.now c.new.result.items c.in_ok-vec.field-0.items c.in_ok-of_pool.field-0 c.config-config.ensures.setup
          c.new.ensures.items (c.in_ok-vec.ensures.items_if_clones_equal (λ y h. h)) c.in_ok-of_pool.ensures.room c.in_ok-of_pool.ensures.small;
      wide = c.in_ok-awaited.ensures ∙ ap (λ (x : Setup). length x.servers) c.config-config.ensures.setup;
      within = omega arith;
      before = λ j l. absurd (omega arith);
    }

pub place-requires-clause-fits : goal.place-requires-clause-fits
place-requires-clause-fits c = λ v. let k = c.loop-i.invariant.kept.bounded v in let o = c.loop-i.placing.placed.ok in let s = c.loop-i.placing.placed.small in let e = o.0 in let f = o.1 in omega arith

pub loop-i-smaller : goal.loop-i-smaller
loop-i-smaller c =
    let b = basis_of c.args.placement.now c.args.pool.now in
    marked_less b c.args.moves.now c.loop-i.placing.placed.items c.loop-i.placing.marks.items c.loop-i.placing.room c.in-Some.i c.place.new.self.marks.items
    c.loop-i.invariant.kept (first_is (goal.at.loop-i-smaller c).In-Some) c.in_ok-place.ensures.marks

pub loop-i-preserved : goal.loop-i-preserved
loop-i-preserved c =
    let b = basis_of c.args.placement.now c.args.pool.now in
    let moves = c.args.moves.now in
    let first = first_is (goal.at.loop-i-preserved c).In-Some in
    let i = c.in-Some.i in
    let m = move_at moves i in
    let known = c.requires i no_move c.in-Some.ensures.within in
    let is = get_or_default moves i c.index-moves-i.result no_move c.in-Some.ensures.within in
    let on = passed_on b.setup moves c.loop-i.placing.marks.items c.loop-i.placing.room c.first_fit.new.awaited c.start_after-start.new.awaited i c.start_after-start.result
    (let l = c.loop-i.invariant.kept.long in let t = c.in-Some.ensures.within in omega arith) c.in-Some.ensures.within
    (let t = known.to in let w = c.loop-i.invariant.kept.wide in omega arith) (let t = known.from in let w = c.loop-i.invariant.kept.wide in omega arith)
    (subst (λ (x : Setup). ArePassedOver x moves c.loop-i.placing.marks.items c.loop-i.placing.room c.first_fit.new.awaited i) c.config-config.ensures.setup c.in-Some.ensures.before)
    (subst (λ (x : Move). IsStart i x.from c.first_fit.new.awaited c.start_after-start.new.awaited c.start_after-start.result) is c.start_after-start.ensures.start) in
    record {
      kept = kept_next b moves c.loop-i.placing.placed.items c.loop-i.placing.marks.items c.loop-i.placing.room c.in-Some.i (move_at moves c.in-Some.i) c.config-config.result.now
          c.place.new.self.placed.items c.place.new.self.marks.items c.place.new.self.room
          c.loop-i.invariant.kept c.requires first refl c.config-config.ensures.setup c.in_ok-place.ensures.load c.in_ok-place.ensures.placed c.in_ok-place.ensures.marks c.in_ok-place.ensures.room;
      wide = c.start_after-start.ensures.wide ∙ c.in-Some.ensures.wide ∙ c.loop-i.invariant.wide;
      within = on.0;
      before = subst (λ (xs : List Bool). (ys : List ℕ) → ys ≡ room_after b.setup m c.loop-i.placing.room → ArePassedOver b.setup moves xs ys c.start_after-start.new.awaited c.start_after-start.result)
          (sym c.in_ok-place.ensures.marks) (λ ys e. rw e on.1) c.place.new.self.room
          (c.in_ok-place.ensures.room ∙ ap (λ (x : Setup). room_after x m c.loop-i.placing.room) c.config-config.ensures.setup);
    }

pub first_fit-requires-clause-wide : goal.first_fit-requires-clause-wide
first_fit-requires-clause-wide c = c.loop-i.invariant.wide ∙ sym (ap (λ (x : Setup). length x.servers) c.config-config.ensures.setup)

pub first_fit-requires-clause-before : goal.first_fit-requires-clause-before
first_fit-requires-clause-before c = subst (λ (x : Setup). ArePassedOver x c.args.moves.now c.loop-i.placing.marks.items c.loop-i.placing.room c.loop-i.awaited c.loop-i.start) (sym c.config-config.ensures.setup) c.loop-i.invariant.before

pub returns-clause-placing : goal.returns-clause-placing
returns-clause-placing c =
    let b = basis_of c.args.placement.now c.args.pool.now in
    record {
      greedy = c.loop-i.invariant.kept.greedy;
      complete = next_found b c.args.moves.now c.loop-i.placing.placed.items c.loop-i.placing.marks.items c.loop-i.placing.room c.config-config.result.now None c.loop-i.invariant.kept c.requires c.config-config.ensures.setup (sym c.in_default.is ∙ c.first_fit.ensures.first);
    }

pub returns-clause-left : goal.returns-clause-left
returns-clause-left c =
    let b = basis_of c.args.placement.now c.args.pool.now in
    left_is b c.args.moves.now c.loop-i.placing.placed.items c.loop-i.placing.marks.items c.loop-i.placing.room c.loop-i.invariant.kept
