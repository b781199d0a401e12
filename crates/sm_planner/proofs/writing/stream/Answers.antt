use Rattle.std.proofs.Common.{◌≡◌, ◌<◌, ◌≤◌, ◌∙◌, ◌^◌, ℕ, sym, ap, subst, arith, length, filter, List}
use Rattle.std.specs.Prelude.{All, count_by, ◌==◌}
use Rattle.std.specs.List.{flat_map, range_with_len}
use Rattle.std.proofs.lemmas.List.Sums.{count_by-le-length}
use Rattle.sm_placement.specs.Layout.{place_of}
use Rattle.sm_reservation.specs.Key.{IsOnce}
use Rattle.sm_plan_code.specs.Instr.{is_call}
use Rattle.sm_planner.specs.Basis.{basis_of}
use Rattle.sm_planner.specs.Payment.{stream_of}
use Rattle.sm_planner.specs.Plan.{drafted_code, moves_of, needs_by, holds_by}
use Rattle.sm_planner.proofs.Streams.{passed_known, passed_few, code_small, stream_is}
use Rattle.sm_planner.proofs.writing.stream.Goals as goal
use Rattle.sm_planner.proofs.writing.stream.Goals.{In_ok-numbers, In_ok-code}

numbers_are : (c : In_ok-numbers) → c.in_ok-numbers.numbers.items ≡ moves_of c.args.draft.now.moves.items c.args.number
numbers_are c =
    let count : c.len.result ≡ length c.args.draft.now.moves.items = (let e = c.len.ensures in let o = c.args.draft.now.moves.ok in let p = o.0 in omega arith) in
    c.in_ok-numbers.ensures ∙ ap (λ (x : ℕ). filter (λ k. stream_of k == c.args.number) (range_with_len 0 x)) count

known : (c : In_ok-numbers) (xs : List ℕ) → xs ≡ c.in_ok-numbers.numbers.items → All (λ k. k < length c.args.draft.now.moves.items) xs
known c xs e = subst (All (λ k. k < length c.args.draft.now.moves.items)) (sym (e ∙ numbers_are c)) (passed_known (λ k. stream_of k == c.args.number) (length c.args.draft.now.moves.items))

few : (c : In_ok-numbers) (xs : List ℕ) → xs ≡ c.in_ok-numbers.numbers.items → length xs ≤ 4096
few c xs e =
    let f = passed_few (λ k. stream_of k == c.args.number) (length c.args.draft.now.moves.items) in
    let g = ap length (e ∙ numbers_are c) in
    let h = c.requires.few in
    omega arith

pub code_of-requires-clause-places : goal.code_of-requires-clause-places
code_of-requires-clause-places c = known (goal.at.code_of-requires-clause-places c).In_ok-numbers c.deref.result.now c.deref.ensures.value

pub holds_of-requires-clause-places : goal.holds_of-requires-clause-places
holds_of-requires-clause-places c = known (goal.at.holds_of-requires-clause-places c).In_ok-numbers c.deref-3.result.now c.deref-3.ensures.value

pub holds_of-requires-clause-few : goal.holds_of-requires-clause-few
holds_of-requires-clause-few c = few (goal.at.holds_of-requires-clause-few c).In_ok-numbers c.deref-3.result.now c.deref-3.ensures.value

pub holds_of-requires-clause-once : goal.holds_of-requires-clause-once
holds_of-requires-clause-once c =
    let order = c.args.draft.now.moves.items in
    subst (λ (ns : List ℕ). IsOnce (needs_by (basis_of c.args.placement.now c.args.pool.now) order ns)) (sym (c.deref-3.ensures.value ∙ numbers_are (goal.at.holds_of-requires-clause-once c).In_ok-numbers)) (c.requires.once c.args.number)

small : (c : In_ok-code) → length c.in_ok-code.code.items ≤ 2 ^ 22
small c = code_small (place_of c.args.placement.now) c.args.draft.now.moves.items c.args.draft.now.signals.items c.deref.result.now c.in_ok-code.code.items c.requires.signal_count
    (few (goal.at.In_ok-code c).In_ok-numbers c.deref.result.now c.deref.ensures.value) c.in_ok-code.ensures

pub call_count-requires : goal.call_count-requires
call_count-requires c = let s = small (goal.at.call_count-requires c).In_ok-code in let e = ap length c.deref-2.ensures.value in omega arith

pub returns-clause-small : goal.returns-clause-small
returns-clause-small c =
    let s = small (goal.at.returns-clause-small c).In_ok-code in
    let e = ap length c.deref-2.ensures.value in
    let n = count_by-le-length is_call c.deref-2.result.now in
    let k = c.call_count.ensures in
    omega arith

pub returns-clause-value : goal.returns-clause-value
returns-clause-value c =
    let b = basis_of c.args.placement.now c.args.pool.now in
    let order = c.args.draft.now.moves.items in
    let n = numbers_are (goal.at.returns-clause-value c).In_ok-numbers in
    let budget : c.call_count.result ≡ count_by is_call c.in_ok-code.code.items = c.call_count.ensures ∙ ap (count_by is_call) c.deref-2.ensures.value in
    stream_is b order c.args.draft.now.signals.items c.args.number c.in_ok-numbers.numbers.items c.in_ok-code.code.items c.call_count.result c.in_ok-holds_of.field-0
    c.requires.signals n (c.in_ok-code.ensures ∙ ap (flat_map (drafted_code b.place order c.args.draft.now.signals.items)) c.deref.ensures.value) budget
    (c.in_ok-holds_of.ensures ∙ ap (holds_by b order) c.deref-3.ensures.value)
