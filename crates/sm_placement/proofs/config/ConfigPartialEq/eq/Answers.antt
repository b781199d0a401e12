-- The answer compares the two configurations, so it is true exactly where they are equal.
use Rattle.std.proofs.Common.{rules, ◌≡◌}
use Rattle.sm_placement.specs.Setup.{same_setup}
use Rattle.sm_placement.proofs.SameLemmas.{true_where_equal}
use Rattle.sm_placement.proofs.config.ConfigPartialEq.eq.Goals as goal

pub returns-then-same_servers-clause-equal : goal.returns-then-same_servers-clause-equal
returns-then-same_servers-clause-equal c =
    let is : c.same_shards.result ≡ same_setup c.args.self.now c.args.other.now = search rules in
    true_where_equal c.args.self.now c.args.other.now c.same_shards.result is

pub returns-else-same_servers-clause-equal : goal.returns-else-same_servers-clause-equal
returns-else-same_servers-clause-equal c =
    let is : c.same_servers.result ≡ same_setup c.args.self.now c.args.other.now = search rules in
    true_where_equal c.args.self.now c.args.other.now c.same_servers.result is
