-- The streams of a plan that have not made their ends.
use Rattle.std.proofs.Common.{◌≡◌, ◌≤◌, ◌+◌, ◌-◌, ◌++◌, ◌∷◌, [], ◌∙◌, ℕ, suc, true, false, not, sym, ap, subst, arith, length, length-append, vec_capacity, Vec, Global}
use Rattle.std.proofs.lemmas.List.{append_assoc}
use Rattle.sm_placement.specs.Sums.{bit}
use Rattle.sm_reservation.specs.declared.stream_id.StreamId.{StreamId}
use Rattle.sm_protocol.specs.State.{stream_id, stream_count}
use Rattle.sm_machine.specs.State.{state_of}
use Rattle.sm_executor.specs.Closed.{unfinished_in}
use Rattle.sm_executor.proofs.StillRunning.{few_streams, few_made, of_next, of_grows, next_open, next_done}
use Rattle.sm_executor.proofs.unfinished.push_unfinished.Goals as goal
use Rattle.sm_executor.proofs.unfinished.push_unfinished.Goals.{then-not-is_done, else-not-is_done}

pub overflow_cast-id : goal.overflow_cast-id
overflow_cast-id c =
    let w = state_of c.args.machine.now in
    let few = few_streams c.args.machine.now.placement.setup w c.is_reached.ensures c.args.plan c.requires.known in
    let t = c.loop-number-test.true in
    let e = c.stream_count-number-end.ensures in
    omega arith

pub overflow_cast-position : goal.overflow_cast-position
overflow_cast-position c =
    let w = state_of c.args.machine.now in
    let few = few_made c.args.machine.now.placement.setup w c.is_reached.ensures c.args.plan c.loop-number.number c.requires.known (let t = c.loop-number-test.true in let e = c.stream_count-number-end.ensures in omega arith) in
    let at = c.position.ensures in
    omega arith

pub push_reserved-requires : goal.push_reserved-requires
push_reserved-requires c =
    let w = state_of c.args.machine.now in
    let k = c.args.plan in
    let n = c.loop-number.number in
    let d : (w.progress k n).done ≡ false = sym c.is_done.ensures ∙ c.if-not-is_done.true in
    let z : bit (not (w.progress k n).done) ≡ 1 = ap (λ x. bit (not x)) d in
    let b = of_next w k n in
    let t = c.loop-number-test.true in
    let e = c.stream_count-number-end.ensures in
    let m = stream_count w k - suc n in
    let f : suc n + m ≡ stream_count w k = omega arith in
    let grows = subst (λ j. length (unfinished_in w k (suc n)) ≤ length (unfinished_in w k j)) f (of_grows w k (suc n) m) in
    let i = ap length c.loop-number.invariant.0 ∙ length-append c.args.positions.now.items (unfinished_in w k n) in
    let l = c.loop-number.invariant.1 in
    let p = c.loop-number.positions.ok in
    let q = c.args.positions.now.ok in
    let room = c.requires.room in
    omega arith

pub loop-number-preserved : goal.loop-number-preserved
loop-number-preserved c =
    let w = state_of c.args.machine.now in
    let k = c.args.plan in
    let n = c.loop-number.number in
    let old = c.args.positions.now.items in
    let i = c.loop-number.invariant in
    elim c.if-not-is_done.branch [
      | then-not-is_done x ↦
          let d : (w.progress k n).done ≡ false = sym c.is_done.ensures ∙ x.if-not-is_done.true in
          let here : (stream_id k n, x.position.result) ≡ (stream_id k n, (w.progress k n).at) = ap (λ a. (stream_id k n, a)) x.position.ensures in (
            ap (λ (v : Vec (StreamId × ℕ) Global). v.items) x.positions-is
                ∙ x.push_reserved.ensures.items
                ∙ ap (λ l. l ++ (stream_id k n, x.position.result) ∷ []) i.0
                ∙ append_assoc old (unfinished_in w k n) ((stream_id k n, x.position.result) ∷ [])
                ∙ ap (λ y. old ++ (unfinished_in w k n ++ y ∷ [])) here
                ∙ ap (λ l. old ++ l) (sym (next_open w k n d)),
            ap (λ (v : Vec (StreamId × ℕ) Global). vec_capacity v) x.positions-is ∙ x.push_reserved.ensures.capacity ∙ i.1,
          )
      | else-not-is_done x ↦
          let d : (w.progress k n).done ≡ true = sym c.is_done.ensures ∙ x.if-not-is_done.false in (
            ap (λ (v : Vec (StreamId × ℕ) Global). v.items) x.positions-is ∙ i.0 ∙ ap (λ l. old ++ l) (sym (next_done w k n d)),
            ap (λ (v : Vec (StreamId × ℕ) Global). vec_capacity v) x.positions-is ∙ i.1,
          )
    ]
