-- Nobody has answered yet.
use Rattle.std.proofs.Common.{◌≡◌, ◌∙◌, ◌≤◌, ℕ, length, ap, arith}
use Rattle.sm_placement.specs.Layout.{PlacementModel}
use Rattle.sm_reopening.specs.Ongoing.{net_reopening}
use Rattle.sm_reopening.proofs.Updates.{next_fits, next_left_out, next_copies, next_reopening}
use Rattle.sm_reopening.proofs.ongoing.OngoingReopening.replace.Goals as goal

pub invariant_of-result-clause-fits : goal.invariant_of-result-clause-fits
invariant_of-result-clause-fits c = next_fits c.args.shards c.args.members.now (net_reopening c.args.self.now).promised c.in_ok-servers.servers.items c.in_ok-servers.ensures

pub invariant_of-result-clause-known_servers : goal.invariant_of-result-clause-known_servers
invariant_of-result-clause-known_servers c =
    let e = c.in_ok-servers.ensures.0 in
    let p = ap (λ (p : PlacementModel). length p.setup.servers) c.in_ok-past.ensures in
    let k = c.args.self.now.known_servers in
    omega (arith, c.requires.servers)

pub returns-clause-reopening : goal.returns-clause-reopening
returns-clause-reopening c = next_reopening c.args.base c.args.members.now c.in_ok-servers.servers.items (net_reopening c.args.self.now) c.requires.servers c.in_ok-servers.ensures

pub returns-clause-copies : goal.returns-clause-copies
returns-clause-copies c = next_copies c.args.members.now (net_reopening c.args.self.now).promised c.in_ok-servers.servers.items c.in_ok-servers.ensures

pub returns-clause-left_out : goal.returns-clause-left_out
returns-clause-left_out c = next_left_out c.args.members.now (net_reopening c.args.self.now).promised c.in_ok-servers.servers.items c.in_ok-servers.ensures
