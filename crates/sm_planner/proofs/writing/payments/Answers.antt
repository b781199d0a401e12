use Rattle.std.proofs.Common.{◌≡◌, ◌<◌, ◌≤◌, ◌∙◌, arith, get_or, length}
use Rattle.std.proofs.lemmas.List.{get_or_default, length-take}
use Rattle.sm_planner.specs.Basis.{basis_of}
use Rattle.sm_planner.specs.Payment.{from_pool}
use Rattle.sm_placement.specs.declared.limits.TheConstants.{MOST_LOAD}
use Rattle.sm_planner.proofs.Drafting.{paid_none, paid_more, payer_is, placed_count}
use Rattle.sm_planner.proofs.writing.payments.Goals as goal

pub loop-k-init : goal.loop-k-init
loop-k-init c = paid_none (basis_of c.args.placement.now c.args.pool.now) c.args.draft.now.moves.items c.config.result.now c.in_ok-paid.paid c.config.ensures.setup c.in_ok-paid.ensures.none

pub index-placed-requires : goal.index-placed-requires
index-placed-requires c =
    let draft = c.args.draft.now in
    let l : get_or c.args.numbers.now c.loop-k.k-index 0 < length draft.moves.items = c.requires.places c.loop-k.k-index 0 c.loop-k-test.true in
    let e = placed_count (basis_of c.args.placement.now c.args.pool.now) draft c.requires.drafted in
    let o = draft.placed.ok in let p = o.0 in
    omega arith

pub put-requires : goal.put-requires
put-requires c =
    let b = basis_of c.args.placement.now c.args.pool.now in
    let numbers = c.args.numbers.now in
    let i = c.loop-k.k-index in
    let p = payer_is b c.args.draft.now (get_or numbers i 0) c.index-placed.result.now c.requires.drafted (c.requires.places i 0 c.loop-k-test.true) c.index-placed.ensures in
    let s = c.loop-k.invariant.small c.index-placed.result.now.wanted.to p.within in
    let t = length-take i numbers in
    let e = c.from.ensures in let w = c.from_pool.ensures.within in let l = p.light in let f = c.requires.few in
    omega arith

pub loop-k-preserved : goal.loop-k-preserved
loop-k-preserved c =
    let b = basis_of c.args.placement.now c.args.pool.now in
    let draft = c.args.draft.now in
    let numbers = c.args.numbers.now in
    let i = c.loop-k.k-index in
    let k = get_or numbers i 0 in
    let p = payer_is b draft k c.index-placed.result.now c.requires.drafted (c.requires.places i 0 c.loop-k-test.true) c.index-placed.ensures in
    let amount : c.from.result ≡ from_pool b draft.moves.items k = c.from.ensures ∙ c.from_pool.ensures.value ∙ p.pays in
    let small : c.from.result ≤ MOST_LOAD = (let l = p.light in let e = c.from.ensures in let w = c.from_pool.ensures.within in omega arith) in
    paid_more b draft.moves.items numbers i k c.loop-k.paid c.put.new.self c.index-placed.result.now.wanted.to c.from.result c.loop-k.invariant c.loop-k-test.true
    (get_or_default numbers i 0 k c.loop-k-test.true) p.to p.within amount small c.put.ensures
