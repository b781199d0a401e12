use Rattle.std.proofs.Common.{◌++◌, ◌∙◌, ap}
use Rattle.std.specs.Prelude.{codes}
use Rattle.sm_placement.specs.Layout.{place_of}
use Rattle.sm_placement.specs.Place.{Place}
use Rattle.sm_placement.specs.Setup.{Setup}
use Rattle.sm_machine.specs.Machine.{MachineModel}
use Rattle.sm_machine.specs.State.{state_of}
use Rattle.smpland_lines.specs.Members.{number_member}
use Rattle.smpland_lines.proofs.Written.{next}
use Rattle.smpland_state.specs.Document.{shards_member}
use Rattle.smpland_state.proofs.document.write_document_members.Goals as goal

-- The placement is that of the driver's machine.
pub returns : goal.returns
returns c =
    let o = c.args.writer.now.tokens in
    let front = c.write_servers.new.writer.tokens in
    let setup = c.placement-placement.ensures.setup ∙ ap (λ (m : MachineModel). m.placement.setup) c.machine.ensures in
    let place = c.placement-placement.ensures.place ∙ ap (λ (m : MachineModel). (state_of m).place) c.machine.ensures in
    let limit =
    (rw c.limit.ensures at (rw c.from.ensures at c.in_ok-write_number.ensures)) ∙ ap (λ (p : Place). o ++ number_member (codes "limit") p.limit) place in
    let places = rw c.from-2.ensures at c.in_ok-write_number-2.ensures in
    let shards =
    c.in_ok-write_shards.ensures
    ∙ ap (λ (s : Setup). front ++ shards_member s (place_of c.placement-placement.result.now)) setup
    ∙ ap (λ (p : Place). front ++ shards_member c.args.opened.now.driver.machine.placement.setup p) place in
    next o _ _ (next o _ _ (next o _ _ limit places) c.in_ok-write_servers.ensures) shards
