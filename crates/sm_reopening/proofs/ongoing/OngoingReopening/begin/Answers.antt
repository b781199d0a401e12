-- Nobody has answered yet.
use Rattle.std.proofs.Common.{◌≡◌, ◌∙◌, ◌≤◌, ℕ, false, List, None, length, sym, ap, subst, arith}
use Rattle.std.proofs.lemmas.List.{length-map}
use Rattle.sm_placement.specs.Layout.{PlacementModel}
use Rattle.sm_reopening.specs.declared.state.ServerState.{ServerState}
use Rattle.sm_reopening.specs.States.{FitsShards, fresh_state, copy_by, reopening_by}
use Rattle.sm_reopening.proofs.Updates.{fresh_fits, fresh_copies, fresh_reopening}
use Rattle.sm_reopening.proofs.ongoing.OngoingReopening.begin.Goals as goal

pub invariant_of-result-clause-fits : goal.invariant_of-result-clause-fits
invariant_of-result-clause-fits c = subst (λ (xs : List ServerState). FitsShards c.args.shards xs) (sym c.in_ok-servers.ensures) (fresh_fits c.args.shards c.args.members.now)

pub invariant_of-result-clause-known_servers : goal.invariant_of-result-clause-known_servers
invariant_of-result-clause-known_servers c =
    let e = ap length c.in_ok-servers.ensures in
    let m = length-map c.args.members.now fresh_state in
    let p = ap (λ (p : PlacementModel). length p.setup.servers) c.in_ok-past.ensures in
    omega (arith, c.requires.servers)

pub returns-clause-reopening : goal.returns-clause-reopening
returns-clause-reopening c =
    ap (λ (xs : List ServerState). reopening_by c.args.base xs false false None) c.in_ok-servers.ensures
    ∙ fresh_reopening c.args.base (length c.args.placement.now.setup.servers) c.args.members.now c.requires.servers

pub returns-clause-copies : goal.returns-clause-copies
returns-clause-copies c = ap copy_by c.in_ok-servers.ensures ∙ fresh_copies c.args.members.now
