-- The same roles under two orders.
use Rattle.std.proofs.Common.{◌≡◌, ◌∙◌, ◌<◌, ℕ, Bool, List, Some, length, map, get_or, slice_get, sym, ap, arith, false, Option, None, [], refl}
use Rattle.std.proofs.lemmas.List.{get_or-map}
use Rattle.std.proofs.lemmas.Option.{get_or_from_slice_get, none-some, slice_get-get_or, slice_get_within}
use Rattle.sm_placement.proofs.ConfigLemmas.{length_map}
use Rattle.sm_placement.specs.Setup.{ServerRow, ShardRow, names_of_servers, names_of_shards}
use Rattle.sm_placement.specs.Layout.{PlacementModel, place_of}
use Rattle.smpland_reopening.specs.declared.roles.Roles.{Roles}
use Rattle.smpland_reopening.specs.Eased.{IsEased}
use Rattle.smpland_reopening.specs.Reopening.{IsRenumbered, IsReopening, ReopeningModel}
use Rattle.smpland_reopening.specs.Roles.{cell_by_role, is_down_in}
use Rattle.smpland_reopening.specs.RoleGrids.{role_at}

-- a server of the document is one of as many as have numbers
pub server_place : (r : ReopeningModel) (v j : ℕ) → IsReopening r → slice_get r.servers v ≡ Some j → v < length r.document.config.servers
server_place r v j is e = omega (arith, slice_get_within r.servers v j e, is.named_servers.count, length_map (λ (x : ServerRow). x.name) r.document.config.servers)

-- a shard
pub shard_place : (r : ReopeningModel) (k i : ℕ) → IsReopening r → slice_get r.shards k ≡ Some i → k < length r.document.config.shards
shard_place r k i is e = omega (arith, slice_get_within r.shards k i e, is.named_shards.count, length_map (λ (x : ShardRow). x.name) r.document.config.shards)

-- its number is one of all
pub server_number_within : (r : ReopeningModel) (v j : ℕ) → IsReopening r → slice_get r.servers v ≡ Some j → j < length r.numbering.servers
server_number_within r v j is e = found (slice_get (names_of_servers r.document.config) v) refl
  where
    found : (o : Option (List ℕ)) → slice_get (names_of_servers r.document.config) v ≡ o → j < length r.numbering.servers
    found (Some name) h = omega (arith, slice_get_within (names_of_servers r.numbering) j name (is.named_servers.named v j e ∙ h), length_map (λ (x : ServerRow). x.name) r.numbering.servers)
    found None h = absurd (none-some _ (sym h ∙ slice_get-get_or (names_of_servers r.document.config) v [] (omega (arith, server_place r v j is e, length_map (λ (x : ServerRow). x.name) r.document.config.servers))))

-- the placement under the document's order is that of the numbers
pub renumbered : (r : ReopeningModel) (roles : Roles) (down marks others : List Bool) (p next : PlacementModel) (room : ℕ) → IsReopening r → marks ≡ down → others ≡ down →
    ((s v : ℕ) → (place_of p).cells s v ≡ cell_by_role (role_at roles s v)) →
    ((v : ℕ) → v < length r.numbering.servers → (place_of p).down v ≡ is_down_in marks v) →
    names_of_servers next.setup ≡ names_of_servers r.document.config → names_of_shards next.setup ≡ names_of_shards r.document.config → IsEased r.document.config next.setup →
    ((k v : ℕ) → k < length r.document.config.shards → v < length r.document.config.servers → (place_of next).cells k v ≡ cell_by_role (role_at roles (get_or r.shards k 4294967295) (get_or r.servers v 4294967295))) →
    ((v : ℕ) → v < length r.document.config.servers → (place_of next).down v ≡ is_down_in (map (is_down_in others) r.servers) v) →
    IsRenumbered r.document.config r.shards r.servers (record { setup = p.setup; place = place_of p; room = room }) next
renumbered r roles down marks others p next room is same also cells downs servers shards eased next_cells next_downs = record {
  server_names = servers;
  shard_names = shards;
  eased = eased;
  cells = λ k v i j shard server.
      next_cells k v (shard_place r k i is shard) (server_place r v j is server)
      ∙ ap (λ n. cell_by_role (role_at roles n (get_or r.servers v 4294967295))) (get_or_from_slice_get r.shards k i 4294967295 shard)
      ∙ ap (λ n. cell_by_role (role_at roles i n)) (get_or_from_slice_get r.servers v j 4294967295 server)
      ∙ sym (cells i j);
  down = λ v j server.
      next_downs v (server_place r v j is server)
      ∙ get_or-map (is_down_in others) r.servers v j false (slice_get_within r.servers v j server)
      ∙ ap (is_down_in others) (get_or_from_slice_get r.servers v j j server)
      ∙ ap (λ xs. is_down_in xs j) (also ∙ sym same)
      ∙ sym (downs j (server_number_within r v j is server));
}
