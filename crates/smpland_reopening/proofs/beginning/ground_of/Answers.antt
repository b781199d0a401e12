-- The configuration has the names that were numbered.
use Rattle.std.proofs.Common.{◌≡◌, ◌∙◌, ℕ, List, ap, ap₂, map, slice_get, subst, sym}
use Rattle.sm_placement.specs.Config.{server_names, server_row, shard_names, shard_row}
use Rattle.sm_placement.specs.Setup.{ServerRow, Setup, ShardRow, names_of_servers, names_of_shards}
use Rattle.smpland_reopening.specs.Begun.{roles_by}
use Rattle.smpland_reopening.specs.Numbers.{AreNumbered}
use Rattle.smpland_reopening.proofs.beginning.ground_of.Goals as goal

pub returns-clause-ground : goal.returns-clause-ground
returns-clause-ground c =
    let servers : names_of_servers c.in-Ok.numbering ≡ server_names c.in_ok-servers.servers.rows.items = ap names_of_servers c.in-Ok.ensures.ok ∙ ap server_names c.deref.ensures.value in
    let shards : names_of_shards c.in-Ok.numbering ≡ shard_names c.in_ok-shards.shards.rows.items = ap names_of_shards c.in-Ok.ensures.ok ∙ ap shard_names c.deref-2.ensures.value in
    record {
      servers = λ k name h. ap (λ xs. slice_get xs k) servers ∙ c.in_ok-servers.ensures.kept k name h;
      shards = λ k name h. ap (λ xs. slice_get xs k) shards ∙ c.in_ok-shards.ensures.kept k name h;
      named_servers = subst (λ xs. AreNumbered xs c.in_ok-servers.servers.numbers.items (names_of_servers c.args.document.now.config)) (sym servers) c.in_ok-servers.ensures.numbered;
      named_shards = subst (λ xs. AreNumbered xs c.in_ok-shards.shards.numbers.items (names_of_shards c.args.document.now.config)) (sym shards) c.in_ok-shards.ensures.numbered;
    }

pub returns-clause-numbered : goal.returns-clause-numbered
returns-clause-numbered c =
    let rows : List ServerRow → List ShardRow → Setup = λ vs ks. record { servers = vs; shards = ks } in
    let cells = c.args.document.now.cells.items in
    record {
      numbering = c.in-Ok.ensures.ok
          ∙ ap₂ rows (ap (map server_row) c.deref.ensures.value ∙ c.in_ok-servers.ensures.rows) (ap (map shard_row) c.deref-2.ensures.value ∙ c.in_ok-shards.ensures.rows);
      apart = c.in_ok-documented.ensures.apart;
      roles = c.in_ok-documented.ensures.roles
          ∙ ap₂ (λ (ks vs : List ℕ). roles_by c.in-Ok.numbering ks vs cells) c.deref-3.ensures.value c.deref-4.ensures.value;
      width = c.in_ok-documented.ensures.width;
    }
