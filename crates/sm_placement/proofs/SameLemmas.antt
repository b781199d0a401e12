-- Configurations that agree are equal.
use Rattle.std.proofs.Common.{◌≡◌, ◌↔◌, ◌&&◌, ◌==◌, Bool, List, [], ◌∷◌, map, refl, ap}
use Rattle.std.specs.Bool.{Decides, IsTrue}
use Rattle.std.specs.Cmp.Lexicographic.{pointwise}
use Rattle.std.specs.Str.{bytes_eq}
use Rattle.std.proofs.lemmas.Bool.Decides.{Decides-eqb, Decides-and, Decides-at, Decides-like}
use Rattle.std.proofs.lemmas.Slice.Eq.{slice_eq-Decides, bytes_eq-Decides}
use Rattle.sm_placement.specs.declared.config.Server.{Server}
use Rattle.sm_placement.specs.declared.config.Shard.{Shard}
use Rattle.sm_placement.specs.Config.{server_row, shard_row}
use Rattle.sm_placement.specs.Setup.{Setup, ServerRow, ShardRow, same_server, same_shard, same_setup}

pointwise-map : {X Y : Type 0} (E : Y → Y → Bool) (f : X → Y) (xs ys : List X) → pointwise E (map f xs) (map f ys) ≡ pointwise (λ x y. E (f x) (f y)) xs ys
pointwise-map E f [] [] = refl
pointwise-map E f [] (y ∷ ys) = refl
pointwise-map E f (x ∷ xs) [] = refl
pointwise-map E f (x ∷ xs) (y ∷ ys) = ap (λ b. E (f x) (f y) && b) (pointwise-map E f xs ys)

-- the rows of two lists of servers agree exactly where the servers agree one by one
pub same_server_rows : (xs ys : List Server) → pointwise same_server (map server_row xs) (map server_row ys) ≡ pointwise (λ x y. same_server (server_row x) (server_row y)) xs ys
same_server_rows xs ys = pointwise-map same_server server_row xs ys

-- the rows of two lists of shards agree exactly where the shards agree one by one
pub same_shard_rows : (xs ys : List Shard) → pointwise same_shard (map shard_row xs) (map shard_row ys) ≡ pointwise (λ x y. same_shard (shard_row x) (shard_row y)) xs ys
same_shard_rows xs ys = pointwise-map same_shard shard_row xs ys

server_decides : (a b : ServerRow) → Decides (same_server a b) (a ≡ b)
server_decides a b =
    Decides-like (same_server a b) (λ e. λ i. record { name = e.0 i; region = e.1.0 i; room = e.1.1 i }) (λ e. (ap (λ r. r.name) e, (ap (λ r. r.region) e, ap (λ r. r.room) e)))
    (Decides-and (bytes_eq a.name b.name) _ (bytes_eq-Decides a.name b.name) (Decides-and (bytes_eq a.region b.region) (a.room == b.room) (bytes_eq-Decides a.region b.region) (Decides-eqb a.room b.room)))

shard_decides : (a b : ShardRow) → Decides (same_shard a b) (a ≡ b)
shard_decides a b =
    Decides-like (same_shard a b) (λ e. λ i. record { name = e.0 i; load = e.1.0 i; want = e.1.1.0 i; cap = e.1.1.1.0 i; spread = e.1.1.1.1 i }) (λ e. (ap (λ r. r.name) e, (ap (λ r. r.load) e, (ap (λ r. r.want) e, (ap (λ r. r.cap) e, ap (λ r. r.spread) e)))))
    (Decides-and (bytes_eq a.name b.name) _ (bytes_eq-Decides a.name b.name)
    (Decides-and (a.load == b.load) _ (Decides-eqb a.load b.load)
    (Decides-and (a.want == b.want) _ (Decides-eqb a.want b.want)
    (Decides-and (a.cap == b.cap) (a.spread == b.spread) (Decides-eqb a.cap b.cap) (Decides-eqb a.spread b.spread)))))

setup_decides : (a b : Setup) → Decides (same_setup a b) (a ≡ b)
setup_decides a b =
    Decides-like (same_setup a b) (λ e. λ i. record { servers = e.0 i; shards = e.1 i }) (λ e. (ap (λ c. c.servers) e, ap (λ c. c.shards) e))
    (Decides-and (pointwise same_server a.servers b.servers) (pointwise same_shard a.shards b.shards)
    (slice_eq-Decides server_decides a.servers b.servers (pointwise same_server a.servers b.servers) refl)
    (slice_eq-Decides shard_decides a.shards b.shards (pointwise same_shard a.shards b.shards) refl))

-- an answer that compares two configurations is true exactly where they are equal
pub true_where_equal : (a b : Setup) (answer : Bool) → answer ≡ same_setup a b → IsTrue answer ↔ (a ≡ b)
true_where_equal a b answer is = Decides-at answer (same_setup a b) is (setup_decides a b)
