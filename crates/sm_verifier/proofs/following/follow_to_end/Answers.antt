use Rattle.std.proofs.Common.{◌≡◌, get_or}
use Rattle.std.specs.Prelude.{length}
use Rattle.std.proofs.lemmas.List.{get_or_read}
use Rattle.sm_placement.specs.Setup.{sizes_of}
use Rattle.sm_plan_code.specs.Plan.{IsKnownStream}
use Rattle.sm_verifier.specs.Stream.{course_of, no_stream}
use Rattle.sm_verifier.proofs.Growth.{all_at}
use Rattle.sm_verifier.proofs.Streams.{not_good_where_bad}
use Rattle.sm_verifier.proofs.following.follow_to_end.Goals as goal

pub follow_stream-requires-clause-fits : goal.follow_stream-requires-clause-fits
follow_stream-requires-clause-fits c = all_at (IsKnownStream (length c.args.config.now.shards) (length c.args.config.now.servers)) c.args.plan.now.streams c.args.stream c.index-streams-stream.result c.requires.fits.streams c.requires.stream (rw c.streams.ensures.value at c.index-streams-stream.is)

pub returns-clause-not_good : goal.returns-clause-not_good
returns-clause-not_good c =
    let is : c.index-streams-stream.result ≡ get_or c.args.plan.now.streams c.args.stream no_stream = get_or_read c.args.plan.now.streams c.args.stream c.index-streams-stream.result c.requires.stream (rw c.streams.ensures.value at c.index-streams-stream.is) no_stream in
    let followed = course_of (sizes_of c.args.config.now) c.signals.result.now c.index-streams-stream.result in
    let not_good = not_good_where_bad followed c.follow_stream.result c.follow_stream.ensures.bad in
    rw (c.signals.ensures.value, is) at not_good
