use Rattle.std.proofs.Common.{◌+◌, length, arith, ap, length-drop}
use Rattle.journal_serve.proofs.KnownBytes.{appends_left, appends_kept, rest_goes}
use Rattle.journal_serve.proofs.writing.write_out.Goals as goal

pub loop-preserved : goal.loop-preserved
loop-preserved g c =
    let so_far = c.loop.invariant in
    let some = c.in_ok-count.ensures.some in (
      so_far.0 + c.in_ok-count.count,
      omega (arith, so_far.1, some.0, ap length so_far.2, length-drop so_far.0 c.args.bytes.now),
      rest_goes c.args.bytes.now c.loop.rest.now so_far.0 c.in_ok-count.count so_far.2,
      appends_left _ _ _ c.args.bytes.now c.loop.rest.now so_far.0 c.in_ok-count.count so_far.2 so_far.3 some.1,
    )

pub returns-in_err-count-clause-part : goal.returns-in_err-count-clause-part
returns-in_err-count-clause-part g c = (c.loop.invariant.0, appends_kept _ _ _ _ c.loop.invariant.3 c.in_err-count.ensures.none)
