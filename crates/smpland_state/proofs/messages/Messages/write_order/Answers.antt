use Rattle.std.proofs.Common.{◌++◌, ◌∙◌, ap}
use Rattle.sm_placement.specs.Setup.{Setup, Sizes}
use Rattle.sm_placement.specs.Layout.{place_of}
use Rattle.sm_placement.specs.Place.{Place}
use Rattle.smpland_state.specs.Calls.{asked_members, size_members}
use Rattle.smpland_state.specs.Messages.{holder_members}
use Rattle.smpland_lines.proofs.Written.{next}
use Rattle.smpland_state.proofs.messages.Messages.write_order.Goals as goal

-- The members by the names, sizes and cells that the driver has.
pub returns : goal.returns
returns c =
    let x = c.args.order.now.call in
    let o = c.begin_object.new.self.tokens in
    let head = c.write_head.new.writer.tokens in
    let asked = c.in_ok-write_asked.ensures ∙ ap (λ (s : Setup). head ++ asked_members s x) c.config-config.ensures.setup in
    let sizes =
    c.in_ok-write_sizes.ensures
    ∙ ap (λ (z : Sizes). c.write_asked.new.writer.tokens ++ size_members (z.load x.shard) (z.room x.server)) c.config-config.ensures.sizes in
    let holders =
    c.in_ok-write_holders.ensures
    ∙ ap (λ (s : Setup). c.write_sizes.new.writer.tokens ++ holder_members s ((place_of c.placement.result.now).cells x.shard)) c.placement.ensures.setup
    ∙ ap (λ (p : Place). c.write_sizes.new.writer.tokens ++ holder_members c.args.self.now.driver.now.machine.placement.setup (p.cells x.shard)) c.placement.ensures.place in
    let members = next o _ _ (next o _ _ (next o _ _ c.in_ok-write_head.ensures asked) sizes) holders in
    next c.args.writer.now.tokens _ _ c.in_ok-begin_object.ensures.ok (next o _ _ members c.in_ok-end_object.ensures.ok)
