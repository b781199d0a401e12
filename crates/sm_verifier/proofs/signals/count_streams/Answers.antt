use Rattle.std.proofs.Common.{◌≤◌, length, rules}
use Rattle.std.specs.List.{count_by}
use Rattle.sm_plan_code.specs.Plan.{StreamModel, IsSmallStream}
use Rattle.sm_verifier.specs.Plan.{is_post, is_wait}
use Rattle.sm_verifier.proofs.Counts.{few, small_counts}
use Rattle.sm_verifier.proofs.Growth.{all_at}
use Rattle.sm_verifier.proofs.signals.count_streams.Goals as goal

pub count_code-requires-clause-few_posts : goal.count_code-requires-clause-few_posts
count_code-requires-clause-few_posts c = λ k.
    let streams = c.args.streams.now in
    let counts = c.loop-stream.invariant.posts in
    let stream = all_at IsSmallStream streams c.loop-stream.stream-index c.stream-item.result c.requires.small c.loop-stream-test.true c.stream-item.is in
    let short : length c.as_slice.result.now ≤ 4096 = search rules in
    few (λ (s : StreamModel). count_by (is_post k) s.code) streams c.args.posts.now c.loop-stream.posts c.loop-stream.stream-index k (length c.as_slice.result.now) c.requires.count (small_counts (is_post k) streams c.requires.small) short (c.requires.no_posts k) counts.count (counts.each k)

pub count_code-requires-clause-few_waits : goal.count_code-requires-clause-few_waits
count_code-requires-clause-few_waits c = λ k.
    let streams = c.args.streams.now in
    let counts = c.loop-stream.invariant.waits in
    let stream = all_at IsSmallStream streams c.loop-stream.stream-index c.stream-item.result c.requires.small c.loop-stream-test.true c.stream-item.is in
    let short : length c.as_slice.result.now ≤ 4096 = search rules in
    few (λ (s : StreamModel). count_by (is_wait k) s.code) streams c.args.waits.now c.loop-stream.waits c.loop-stream.stream-index k (length c.as_slice.result.now) c.requires.count (small_counts (is_wait k) streams c.requires.small) short (c.requires.no_waits k) counts.count (counts.each k)
