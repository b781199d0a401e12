-- The roles are read by shard and server.
use Rattle.std.proofs.Common.{◌≡◌, ◌∙◌, ◌*◌, ◌+◌, ◌<◌, ◌≤◌, ℕ, None, length, get_or, sym, ap, arith}
use Rattle.sm_placement.proofs.GridLemmas.{grid_of-beside, grid_of-within}
use Rattle.sm_reopening.proofs.ongoing.OngoingReopening.documented_role.Goals as goal

pub returns-then-column-count : goal.returns-then-column-count
returns-then-column-count c = sym (grid_of-beside (length c.args.self.now.servers.items) None c.args.documented.now c.args.shard c.args.server (omega arith))

pub returns : goal.returns
returns c =
    let l : c.args.server < length c.args.self.now.servers.items = omega arith in
    let place : c.number.result * c.server_count-count.result + c.number-column.result ≡ c.args.shard * length c.args.self.now.servers.items + c.args.server = cc in
    c.role_at.ensures ∙ ap (λ k. get_or c.args.documented.now k None) place ∙ sym (grid_of-within (length c.args.self.now.servers.items) None c.args.documented.now c.args.shard c.args.server l)
