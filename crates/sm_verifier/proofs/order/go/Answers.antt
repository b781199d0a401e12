use Rattle.std.proofs.Common.{◌≡◌, ℕ, Some, None, List, length, refl, sym, ap, ◌∙◌, arith}
use Rattle.std.specs.Prelude.{slice_get}
use Rattle.std.proofs.lemmas.Bool.{ltb-true, ltb-false}
use Rattle.std.proofs.lemmas.List.{get_or_read, with_items_is}
use Rattle.std.proofs.lemmas.Option.{slice_get_read, slice_get_past}
use Rattle.sm_verifier.specs.Order.{code_at}
use Rattle.sm_verifier.specs.Walk.{steps_made}
use Rattle.sm_verifier.proofs.Walks.{marked_by, none_marked, next_walk}
use Rattle.sm_verifier.proofs.order.go.Goals as goal

pub returns-in-Some-clause-walk : goal.returns-in-Some-clause-walk
returns-in-Some-clause-walk c =
    let walk = c.requires.walk in
    let here : c.index-position.result.now ≡ steps_made c.args.walk.now c.args.stream = get_or_read c.args.walk.now.positions.items c.args.stream c.index-position.result.now (let l = walk.streams in omega arith) c.index-position.ensures 0 in
    let flags = with_items_is c.args.walk.now.posted c.mark.new.posted (let a = c.mark.ensures.count in let b = c.as_mut_slice.ensures.len in omega arith) in
    let at : slice_get (code_at c.args.plan.now c.args.stream) (steps_made c.args.walk.now c.args.stream) ≡ Some c.in-Some.instr.now = rw (← here, ← c.code_of-code.ensures.value) (slice_get_read c.code_of-code.result.now (length c.code_of-code.result.now) c.index-position.result.now c.in-Some.instr.now refl (ltb-true _ _ (sym c.in-Some.ensures.lookup.0)) c.in-Some.ensures.lookup.1) in
    next_walk c.args.plan.now c.args.stream c.args.walk.now _ walk c.requires.stream c.requires.can_go (record {
      positions = rw here refl;
      steps = rw (← here) c.in_ok-push.ensures.items;
      count = rw flags (c.mark.ensures.count ∙ ap length c.as_mut_slice.ensures.value);
      marked = marked_by _ c.in-Some.instr.now c.args.walk.now.posted.items _ at (rw (flags, ← c.as_mut_slice.ensures.value) c.mark.ensures.marked);
    })

pub returns-in_default-clause-walk : goal.returns-in_default-clause-walk
returns-in_default-clause-walk c =
    let walk = c.requires.walk in
    let here : c.index-position.result.now ≡ steps_made c.args.walk.now c.args.stream = get_or_read c.args.walk.now.positions.items c.args.stream c.index-position.result.now (let l = walk.streams in omega arith) c.index-position.ensures 0 in
    let past : slice_get (code_at c.args.plan.now c.args.stream) (steps_made c.args.walk.now c.args.stream) ≡ None = rw (← here, ← c.code_of-code.ensures.value) (slice_get_past c.code_of-code.result.now c.index-position.result.now (ltb-false _ _ (sym c.in_default.ensures.lookup.0))) in
    next_walk c.args.plan.now c.args.stream c.args.walk.now _ walk c.requires.stream c.requires.can_go (record {
      positions = rw here (refl {A = List ℕ});
      steps = rw (← here) c.in_ok-push.ensures.items;
      count = refl {A = ℕ};
      marked = none_marked _ c.args.walk.now.posted.items past;
    })
