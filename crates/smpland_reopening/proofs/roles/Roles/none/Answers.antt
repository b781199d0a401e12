-- Nothing was written.
use Rattle.std.proofs.Common.{◌≡◌, ◌∙◌, ◌*◌, ℕ, None, Option, ap, replicate, rules}
use Rattle.sm_server.specs.declared.call.Role.{Role}
use Rattle.sm_placement.specs.Layout.{grid_of}
use Rattle.sm_placement.proofs.GridLemmas.{grid_of-empty}
use Rattle.smpland_reopening.proofs.roles.Roles.none.Goals as goal

pub returns-clause-nothing : goal.returns-clause-nothing
returns-clause-nothing c s v =
    let e : c.in_ok-vec.field-0.items ≡ replicate (c.args.shards * c.args.servers) None = c.in_ok-vec.ensures.items_if_clones_equal (λ y h. search rules) in
    ap (λ xs. grid_of c.args.servers None xs s v) e ∙ ap (λ (f : ℕ → ℕ → Option Role). f s v) (grid_of-empty c.args.servers None (c.args.shards * c.args.servers))
