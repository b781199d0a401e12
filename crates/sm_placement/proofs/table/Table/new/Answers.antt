-- Each list has the same entry everywhere.
use Rattle.std.proofs.Common.{◌≡◌, ◌*◌, false, length, replicate, sym, ap, ◌∙◌}
use Rattle.sm_server.specs.declared.call.Cell.TheVariants.{Absent}
use Rattle.sm_placement.specs.Setup.{Setup, IsSetup}
use Rattle.sm_placement.proofs.TableLemmas.{cells_of-empty, lasts_of-empty, down_of-empty, IsCounted-empty}
use Rattle.sm_placement.proofs.table.Table.new.Goals as goal

servers_of : (c : goal.In_ok-replicas) → c.server_count-servers.result ≡ length c.in_ok-config.config.servers
servers_of c = c.server_count-servers.ensures.count ∙ ap (λ (s : Setup). length s.servers) (sym c.in_ok-config.ensures)

shards_of : (c : goal.In_ok-replicas) → c.shard_count-shards.result ≡ length c.in_ok-config.config.shards
shards_of c = c.shard_count-shards.ensures.count ∙ ap (λ (s : Setup). length s.shards) (sym c.in_ok-config.ensures)

cells_are : (c : goal.In_ok-replicas) → c.in_ok-cells.cells ≡ replicate (length c.in_ok-config.config.shards * length c.in_ok-config.config.servers) Absent
cells_are c = rw (← servers_of c, ← shards_of c) c.in_ok-cells.ensures

lasts_are : (c : goal.In_ok-replicas) → c.in_ok-lasts.lasts ≡ replicate (length c.in_ok-config.config.shards * length c.in_ok-config.config.servers) 0
lasts_are c = rw (← servers_of c, ← shards_of c) c.in_ok-lasts.ensures

down_is : (c : goal.In_ok-replicas) → c.in_ok-down.down.items ≡ replicate (length c.in_ok-config.config.servers) false
down_is c = rw (← servers_of c) c.in_ok-down.ensures.down

replicas_are : (c : goal.In_ok-replicas) → c.in_ok-replicas.replicas ≡ record { held = replicate (length c.in_ok-config.config.servers * length c.in_ok-config.config.shards) false; shards = length c.in_ok-config.config.shards }
replicas_are c = rw (← servers_of c, ← shards_of c) c.in_ok-replicas.ensures

pub invariant_of-result : goal.invariant_of-result
invariant_of-result c =
    let loads : c.in_ok-down.loads.items ≡ replicate (length c.in_ok-config.config.servers) 0 = rw (← servers_of c) c.in_ok-down.ensures.loads in
    let lives : c.in_ok-lives.lives.items ≡ replicate (length c.in_ok-config.config.shards) 0 = rw (← shards_of c) c.in_ok-lives.ensures.lives in
    let servings : c.in_ok-lives.servings.items ≡ replicate (length c.in_ok-config.config.shards) 0 = rw (← shards_of c) c.in_ok-lives.ensures.servings in
    let setup : IsSetup c.in_ok-config.config = rw c.in_ok-config.ensures c.server_count-servers.ensures.setup in
    rw (cells_are c, lasts_are c, down_is c, loads, lives, servings, replicas_are c) (IsCounted-empty c.in_ok-config.config setup)

pub returns-clause-cells : goal.returns-clause-cells
returns-clause-cells c = rw (cells_are c) (cells_of-empty c.in_ok-config.config)

pub returns-clause-lasts : goal.returns-clause-lasts
returns-clause-lasts c = rw (lasts_are c) (lasts_of-empty c.in_ok-config.config)

pub returns-clause-down : goal.returns-clause-down
returns-clause-down c = rw (down_is c) (down_of-empty c.in_ok-config.config)
