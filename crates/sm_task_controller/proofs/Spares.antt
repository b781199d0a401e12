-- The search for a shard that has no spare replica free.
use Rattle.std.proofs.Common.{◌≡◌, ◌<◌, ◌-◌, ◌+◌, ◌∙◌, ℕ, Bool, Option, Some, None, true, false, refl, sym, subst}
use Rattle.std.specs.Prelude.{◌&&◌, ◌==◌, if◌then◌else◌}
use Rattle.sm_placement.specs.Sums.{first_from}
use Rattle.sm_placement.specs.Setup.{Sizes}
use Rattle.sm_placement.specs.Place.{Place, is_live_at}
use Rattle.sm_placement.proofs.Searches.{first_from_more, first_from_pass}
use Rattle.sm_reservation.specs.Hold.{Hold}
use Rattle.sm_task_controller.specs.Decision.{first_without_spare}

-- the shard is live at the server, and no spare replica of it is free
abbrev pub is_short : Place → Hold → ℕ → ℕ → Bool
is_short p pool v s = is_live_at p s v && (pool.spare s == 0)

-- the shard, where it is short
abbrev pub without_spare : Place → Hold → ℕ → ℕ → Option ℕ
without_spare p pool v s = if is_short p pool v s then Some s else None

-- the shards from n on answer as all do
abbrev pub IsLeft : Sizes → Place → Hold → ℕ → ℕ → Type 0
IsLeft c p pool v n = first_from n (c.shards - n) (without_spare p pool v) ≡ first_without_spare c p pool v

-- a shard that is short, where those before it are not, is the first without a spare
pub found : (c : Sizes) (p : Place) (pool : Hold) (v n s : ℕ) → IsLeft c p pool v n → n < c.shards → s ≡ n → is_short p pool v s ≡ true → Some s ≡ first_without_spare c p pool v
found c p pool v n s left l e short =
    let at : without_spare p pool v s ≡ Some s = rw short refl in
    let here : without_spare p pool v n ≡ Some s = subst (λ k. without_spare p pool v k ≡ Some s) e at in
    sym (first_from_more (without_spare p pool v) n c.shards s l here) ∙ left

-- a shard that is not short is passed over
pub passed : (c : Sizes) (p : Place) (pool : Hold) (v n s : ℕ) → IsLeft c p pool v n → n < c.shards → s ≡ n → is_short p pool v s ≡ false → IsLeft c p pool v (n + 1)
passed c p pool v n s left l e short =
    let at : without_spare p pool v s ≡ None = rw short refl in
    sym (first_from_pass (without_spare p pool v) n c.shards l (subst (λ k. without_spare p pool v k ≡ None) e at)) ∙ left
