use Rattle.std.proofs.Common.{◌++◌, ◌∙◌, ap}
use Rattle.sm_placement.specs.Setup.{Setup}
use Rattle.smpland_state.specs.Calls.{published_members}
use Rattle.smpland_lines.proofs.Written.{next}
use Rattle.smpland_state.proofs.messages.Messages.write_publication.Goals as goal

pub returns : goal.returns
returns c =
    let o = c.begin_object.new.self.tokens in
    let published =
    c.in_ok-write_published.ensures
    ∙ ap (λ (s : Setup). c.write_head.new.writer.tokens ++ published_members s c.args.publication.now.shard c.args.publication.now.entry) c.config.ensures.setup in
    let members = next o _ _ c.in_ok-write_head.ensures published in
    next c.args.writer.now.tokens _ _ c.in_ok-begin_object.ensures.ok (next o _ _ members c.in_ok-end_object.ensures.ok)
