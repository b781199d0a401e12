-- The number of live replicas, once a server has gone down or come up.
use Rattle.std.proofs.Common.{◌≡◌, ℕ, ◌+◌, ◌<◌, true, false, not, ◌&&◌, refl, ap, arith}
use Rattle.sm_placement.specs.Setup.{Sizes}
use Rattle.sm_placement.specs.Sums.{put, bit}
use Rattle.sm_placement.specs.Rows.{is_live}
use Rattle.sm_placement.specs.Counts.{has_replica}
use Rattle.sm_placement.specs.Place.{Place, is_live_at, live_at, set_down, LiveMoves}
use Rattle.sm_placement.proofs.Sums.{put-here, put-apart, sum_apart}

-- its own replica counts or not, and each other one as before
pub live_moves : (c : Sizes) (p : Place) → LiveMoves c p
live_moves c p s v down l =
    sum_apart c.servers (λ q. bit (is_live (p.cells s) (put p.down v down) q)) (λ q. bit (is_live (p.cells s) p.down q)) v (bit (is_live_at p s v)) (bit (is_live_at (set_down p v down) s v)) l
    (λ q d. ap (λ b. bit (not b && has_replica (p.cells s) q)) (put-apart p.down v down q d))
    (omega arith)

-- a server that goes down takes the live replica with it that it has
pub live_after_down : (c : Sizes) (p : Place) (s v : ℕ) → v < c.servers → live_at c (set_down p v true) s + bit (is_live_at p s v) ≡ live_at c p s
live_after_down c p s v l =
    let moves : live_at c (set_down p v true) s + bit (is_live_at p s v) ≡ live_at c p s + bit (is_live_at (set_down p v true) s v) = live_moves c p s v true l in
    let gone : bit (is_live_at (set_down p v true) s v) ≡ 0 = ap (λ b. bit (not b && has_replica (p.cells s) v)) (put-here p.down v true v refl) in
    omega arith

-- a server that was down brings the replica with it that it has
pub live_after_up : (c : Sizes) (p : Place) (s v : ℕ) → v < c.servers → p.down v ≡ true → live_at c (set_down p v false) s ≡ live_at c p s + bit (has_replica (p.cells s) v)
live_after_up c p s v l e =
    let moves : live_at c (set_down p v false) s + bit (is_live_at p s v) ≡ live_at c p s + bit (is_live_at (set_down p v false) s v) = live_moves c p s v false l in
    let before : bit (is_live_at p s v) ≡ 0 = ap (λ b. bit (not b && has_replica (p.cells s) v)) e in
    let after : bit (is_live_at (set_down p v false) s v) ≡ bit (has_replica (p.cells s) v) = ap (λ b. bit (not b && has_replica (p.cells s) v)) (put-here p.down v false v refl) in
    omega arith
