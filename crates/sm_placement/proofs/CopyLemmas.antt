-- Copies of servers, shards and names say what their sources say.
use Rattle.std.proofs.Common.{◌≡◌, List, [], ◌∷◌, map, string_bytes, refl, Global}
use Rattle.std.specs.List.{AllZip}
use Rattle.std.specs.declared.string.String.{String}
use Rattle.sm_placement.specs.declared.config.Server.{Server}
use Rattle.sm_placement.specs.declared.config.Shard.{Shard}
use Rattle.sm_placement.specs.Config.{server_row, shard_row}
use Rattle.sm_placement.specs.contracts.config.ServerClone.TheImpl.{ghosts as server_ghosts}
use Rattle.sm_placement.specs.contracts.config.ShardClone.TheImpl.{ghosts as shard_ghosts}

-- what each copy keeps of its source, the list of copies keeps
map_copies : {X Y : Type 0} (R : X → X → Type 0) (f : X → Y) → ((x y : X) → R x y → f y ≡ f x) → (xs ys : List X) → AllZip R xs ys → map f ys ≡ map f xs
map_copies R f same [] [] h = refl
map_copies R f same [] (y ∷ ys) h = absurd h
map_copies R f same (x ∷ xs) [] h = absurd h
map_copies R f same (x ∷ xs) (y ∷ ys) h = let e = same x y h.0 in let es = map_copies R f same xs ys h.1 in cc

-- copies of servers have the same rows
pub server_copies : (xs ys : List Server) → AllZip server_ghosts.is_clone xs ys → map server_row ys ≡ map server_row xs
server_copies xs ys h = map_copies server_ghosts.is_clone server_row one xs ys h
  where
    one : (x y : Server) → server_ghosts.is_clone x y → server_row y ≡ server_row x
    one x y h = cc

-- copies of shards have the same rows
pub shard_copies : (xs ys : List Shard) → AllZip shard_ghosts.is_clone xs ys → map shard_row ys ≡ map shard_row xs
shard_copies xs ys h = map_copies shard_ghosts.is_clone shard_row one xs ys h
  where
    one : (x y : Shard) → shard_ghosts.is_clone x y → shard_row y ≡ shard_row x
    one x y h = cc

-- copies of names have the same bytes
pub name_copies : (xs ys : List (String Global)) → AllZip (λ s t. string_bytes t ≡ string_bytes s) xs ys → map string_bytes ys ≡ map string_bytes xs
name_copies xs ys h = map_copies _ string_bytes (λ x y e. e) xs ys h
