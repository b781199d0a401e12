-- The copies say what the servers and shards say, which have passed the tests.
use Rattle.std.proofs.Common.{rules, ◌≡◌, true, false, sym, subst}
use Rattle.sm_placement.specs.Setup.{Setup, IsSetup, is_too_large, has_good_names, has_doubled_name, has_good_numbers}
use Rattle.sm_placement.specs.Config.{setup_of}
use Rattle.sm_placement.proofs.SetupLemmas.{setup_from_tests}
use Rattle.sm_placement.proofs.config.Config.new.Goals as goal

pub invariant_of-result : goal.invariant_of-result
invariant_of-result c =
    let setup : Setup = setup_of c.args.servers.now c.args.shards.now in
    let large : is_too_large setup ≡ false = search rules in
    let names : has_good_names setup ≡ true = search rules in
    let doubled : has_doubled_name setup ≡ false = search rules in
    let numbers : has_good_numbers setup ≡ true = search rules in
    let same : setup ≡ setup_of c.in_ok-servers.servers.items c.in_ok-servers.shards.items =
    λ i. record { servers = sym c.in_ok-servers.ensures.servers i; shards = sym c.in_ok-servers.ensures.shards i } in
    (search rules, search rules, subst IsSetup same (setup_from_tests setup large names doubled numbers))
