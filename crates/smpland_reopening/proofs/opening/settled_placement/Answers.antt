-- What is opened is the placement that the roles give.
use Rattle.std.proofs.Common.{◌∙◌, ap, ap₂, map, max, sym}
use Rattle.std.specs.List.{range_with_len}
use Rattle.sm_placement.specs.Opening.{cell_named}
use Rattle.smpland_reopening.specs.RoleGrids.{role_at}
use Rattle.smpland_reopening.specs.Roles.{is_down_in}
use Rattle.smpland_reopening.specs.Settled.{down_among, primary_by}
use Rattle.smpland_reopening.proofs.Settled.{placed_by, placed_ok}
use Rattle.smpland_reopening.proofs.opening.settled_placement.Goals as goal

pub returns-clause-placed : goal.returns-clause-placed
returns-clause-placed c =
    let roles = role_at c.args.roles.now in
    let down = is_down_in c.args.down.now in
    placed_ok c.open.result c.args.config.now _ roles down c.args.limit _ c.open.ensures.ok c.open.ensures.setup c.in_ok-floored.ensures.met
    (placed_by c.args.config.now roles down c.args.limit c.deref.result.now c.deref-2.result.now c.deref-3.result.now c.max-limit.result
    (λ s v. ap (λ xs. cell_named xs s v) c.deref.ensures.value ∙ c.in_ok-cells.ensures s v)
    (c.deref-2.ensures.value ∙ c.in_ok-primaries.ensures ∙ ap₂ (λ n m. map (primary_by m roles) (range_with_len 0 n)) c.requires.shards c.requires.servers)
    (c.deref-3.ensures.value ∙ c.in_ok-down.ensures.list ∙ ap (λ n. down_among n down) c.server_count.ensures.count)
    (c.max-limit.ensures ∙ ap (λ n. max c.args.limit n) (c.len.ensures ∙ sym c.deref-3.ensures.len)))
