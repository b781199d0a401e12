use Rattle.std.proofs.Common.{◌≡◌, ◌++◌, [], ◌∷◌, ◌+◌, ◌-◌, ◌<◌, length, take, drop, Some, refl, sym, ◌∙◌, ap, arith}
use Rattle.std.proofs.lemmas.List.{length-take}
use Rattle.journal_lines.proofs.ObjectTexts.{object_length-take}
use Rattle.journal_serve.proofs.Turns.{replays_none}
use Rattle.journal_serve.proofs.Replays.{batch_begins, begins_more, applied_last, left_more, replays_more, has_unchanged, batch_has_object}
use Rattle.journal_serve.proofs.replay.apply_batch.Goals as goal

-- The replay applies one object at a time.
pub replay-requires : goal.replay-requires
replay-requires g c =
    let text = c.loop-length.rest.now in
    let n = c.in-Some.length in
    let size : length (take n text) ≡ n = omega (arith, length-take n text, c.in-Some.ensures.within) in
    object_length-take text n (sym c.in-Some.ensures.value) ∙ ap Some (sym size)

pub loop-length-init : goal.loop-length-init
loop-length-init g c = (omega arith, [], replays_none g.A.Applies.takes _, λ commands batch is. (commands, batch, refl, is))

pub returns-then-length-rest-clause-applied : goal.returns-then-length-rest-clause-applied
returns-then-length-rest-clause-applied g c =
    let so_far = c.loop-length.invariant in
    let step = c.in_ok-replay.ensures in (
      so_far.1 ++ take c.in-Some.length c.loop-length.rest.now ∷ [],
      replays_more g.A.Applies.takes _ _ _ so_far.1 (take c.in-Some.length c.loop-length.rest.now) step.0 _ so_far.2 step.1 c.in-Changed.is,
      λ commands batch is.
          let at = so_far.3 commands batch is in
          let begins = batch_begins c.loop-length.rest.now c.in-Some.length at.0 (sym c.in-Some.ensures.value) at.1 at.3 in
          let whole : c.in-Some.length ≡ length c.loop-length.rest.now = omega arith in
          applied_last so_far.1 commands c.loop-length.rest.now c.in-Some.length at.0 begins at.2 whole,
    )

pub loop-length-preserved : goal.loop-length-preserved
loop-length-preserved g c =
    let so_far = c.loop-length.invariant in
    let step = c.in_ok-replay.ensures in (
      omega (arith, so_far.0, length-take (length c.loop-length.rest.now - (c.in-Some.length + 1)) (drop (c.in-Some.length + 1) c.loop-length.rest.now)),
      so_far.1 ++ take c.in-Some.length c.loop-length.rest.now ∷ [],
      replays_more g.A.Applies.takes _ _ _ so_far.1 (take c.in-Some.length c.loop-length.rest.now) step.0 _ so_far.2 step.1 c.in-Changed.is,
      λ commands batch is.
          let at = so_far.3 commands batch is in
          let begins = batch_begins c.loop-length.rest.now c.in-Some.length at.0 (sym c.in-Some.ensures.value) at.1 at.3 in
          let within : c.in-Some.length < length c.loop-length.rest.now = omega (arith, c.in-Some.ensures.within) in
          let more = begins_more c.loop-length.rest.now c.in-Some.length at.0 begins within in
          (begins.others, more.0, left_more so_far.1 commands c.loop-length.rest.now c.in-Some.length at.0 begins at.2, more.1),
    )

pub returns-in-Unchanged-clause-unfit : goal.returns-in-Unchanged-clause-unfit
returns-in-Unchanged-clause-unfit g c commands batch is other told =
    let so_far = c.loop-length.invariant in
    let step = c.in_ok-replay.ensures in
    let at = so_far.3 commands batch is in
    let begins = batch_begins c.loop-length.rest.now c.in-Some.length at.0 (sym c.in-Some.ensures.value) at.1 at.3 in (
      cc told,
      has_unchanged g.A.Applies.takes _ _ _ so_far.1 commands c.loop-length.rest.now step.0 _ c.in-Some.length at.0 begins at.2 so_far.2 step.1 c.in-Unchanged.is,
    )

pub returns-clause-unfit : goal.returns-clause-unfit
returns-clause-unfit g c commands batch is other told =
    let at = c.loop-length.invariant.3 commands batch is in
    absurd (batch_has_object c.loop-length.rest.now at.0 at.1 at.3 (sym c.object_length.ensures.value ∙ c.in_default.is))
