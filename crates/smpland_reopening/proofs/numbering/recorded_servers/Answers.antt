-- One row after the other is as the document has it.
use Rattle.std.proofs.Common.{◌∙◌, ◌∷◌, ◌<◌, [], ap, arith, get_or, length, map}
use Rattle.std.proofs.lemmas.List.{map-append}
use Rattle.sm_placement.specs.Config.{server_row}
use Rattle.sm_placement.specs.Setup.{ServerRow, no_server}
use Rattle.smpland_reopening.specs.Numbers.{server_as_documented}
use Rattle.smpland_reopening.proofs.Numbers.{mapped_all, mapped_next, server_names_next}
use Rattle.smpland_reopening.proofs.numbering.recorded_servers.Goals as goal

pub loop-number-preserved : goal.loop-number-preserved
loop-number-preserved c =
    let i = c.loop-number.number in
    let setup = c.args.recorded.now in
    let row = c.in_ok-documented_server.field-0 in
    let within : i < length setup.servers = omega (arith, c.loop-number-test.true, c.server_count-number-end.ensures.count) in
    let at = c.server-server.ensures.row ∙ ap (λ k. get_or setup.servers k no_server) c.new.ensures in
    let is = c.in_ok-documented_server.ensures ∙ ap (server_as_documented c.args.document.now) at in
    record {
      names = server_names_next setup c.loop-number.rows.items c.push.new.self.items row i c.loop-number.invariant.names within c.in_ok-push.ensures.items
          (ap (λ (r : ServerRow). r.name) is);
      rows = mapped_next (server_as_documented c.args.document.now) setup.servers no_server (map server_row c.loop-number.rows.items) (map server_row c.push.new.self.items) (server_row row) i within
          c.loop-number.invariant.rows (ap (map server_row) c.in_ok-push.ensures.items ∙ map-append server_row c.loop-number.rows.items (row ∷ [])) is;
    }

pub returns-clause-rows : goal.returns-clause-rows
returns-clause-rows c =
    c.loop-number.invariant.rows ∙ mapped_all (server_as_documented c.args.document.now) c.args.recorded.now.servers c.loop-number.number (omega (arith, c.loop-number-test.false, c.server_count-number-end.ensures.count))
