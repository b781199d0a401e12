-- No two servers of a configuration have one name.
use Rattle.std.proofs.Common.{rules, arith, ◌≡◌, get_or}
use Rattle.std.proofs.lemmas.Grind.{common_steps}
use Rattle.sm_placement.specs.Config.{server_row}
use Rattle.sm_placement.specs.Setup.{IsSetup, no_server}
use Rattle.sm_placement.proofs.ConfigLemmas.{server_at, length_map}
use Rattle.sm_placement.proofs.NamedLemmas.{server_named_at}
use Rattle.sm_placement.proofs.config.Config.server.Goals as goal

pub returns-clause-named : goal.returns-clause-named
returns-clause-named c =
    let setup : IsSetup c.args.self.now = search rules in
    let row : server_row c.index.result.now ≡ get_or c.args.self.now.servers c.args.server no_server = grind (arith, common_steps, server_at, length_map) in
    server_named_at c.args.self.now c.args.server (server_row c.index.result.now) setup c.requires row
