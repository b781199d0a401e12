-- Permits of restarts: each server that is down has one, and its restart ends by that one alone.
-- `AreGivenPermits` is internal: you need not read it for the public contracts.
use Rattle.std.specs.Prelude.{◌≡◌, ◌≤◌, ◌<◌, ◌⊎◌, ℕ, ◌+◌, ◌*◌, Bool, false, Option, Some, None, List, is_some, length}
use Rattle.std.specs.Prelude.{map, nat_le, slice_index_or, if◌then◌else◌}
use Rattle.std.specs.List.{range_with_len}
use Rattle.std.specs.Option.{option_or}
use Rattle.sm_placement.specs.Sums.{first_from}
use Rattle.sm_plan_code.specs.declared.limits.TheConstants.{MOST_PLACES}
use Rattle.sm_protocol.specs.State.{State}
use Rattle.laws_network.specs.Controller.{is_permitted}
use Rattle.sm_driver.specs.declared.restart.RestartEffect.{RestartEffect}
use Rattle.sm_driver.specs.declared.restart.RestartEffect.TheVariants.{Old, Unsettled, Up}

-- the permit of a server, of these permits by the servers' numbers; none if it is not down
abbrev pub permit_of : List (Option ℕ) → ℕ → Option ℕ
permit_of permits v = slice_index_or permits v None

-- the server whose restart has this permit
abbrev pub server_permitted : List (Option ℕ) → ℕ → Option ℕ
server_permitted permits permit = first_from 0 (length permits) (λ v. if is_permitted (permit_of permits v) permit then Some v else None)

-- a server with this base was settled or restored at or above the fence; one without a base was not
abbrev pub is_settled : ℕ → Option ℕ → Bool
is_settled fence None = false
is_settled fence (Some number) = nat_le fence number

-- what comes of the end of a restart, if its permit is this server's, or no server's: a server that is not settled does
-- not come up
abbrev pub restart_effect : ℕ → Option ℕ → Option ℕ → RestartEffect
restart_effect fence server_base None = Old
restart_effect fence server_base (Some v) = if is_settled fence server_base then Up v else Unsettled v

-- the permit that a server gets at an opening: one above all that the log of this base can give
abbrev pub new_permit : ℕ → ℕ → ℕ
new_permit base v = base + MOST_PLACES + 1 + v

-- the permit that a server has at an opening if it is down: one that it had before, or otherwise a new one
abbrev pub opening_permit : ℕ → List (Option ℕ) → (ℕ → Bool) → ℕ → Option ℕ
opening_permit base before down v = if down v then option_or (permit_of before v) (Some (new_permit base v)) else None

-- the permits at an opening of this many servers, some of which had permits before
abbrev pub opening_permits : ℕ → List (Option ℕ) → ℕ → (ℕ → Bool) → List (Option ℕ)
opening_permits base before servers down = map (opening_permit base before down) (range_with_len 0 servers)

-- Permits that were given under lower bases than this one, no two alike.
pub record AreEarlierPermits (base : ℕ) (permits : List (Option ℕ)) : Type 0 where
  pub earlier : (v permit : ℕ) → permit_of permits v ≡ Some permit → permit ≤ base
  pub apart : (u v permit : ℕ) → permit_of permits u ≡ Some permit → permit_of permits v ≡ Some permit → u ≡ v

-- Permits of a driver whose log has come to this length above this base, no two alike: each is an earlier one or one of
-- an approval in the log, or otherwise one that the opening gave.
pub record AreGivenPermits (base recorded : ℕ) (permits : List (Option ℕ)) : Type 0 where
  pub given : (v permit : ℕ) → permit_of permits v ≡ Some permit
      → (permit ≤ base + recorded) ⊎ ((base + MOST_PLACES < permit) × (permit ≤ base + 2 * MOST_PLACES))
  pub apart : (u v permit : ℕ) → permit_of permits u ≡ Some permit → permit_of permits v ≡ Some permit → u ≡ v

-- The permits are those of the servers that are down.
pub record ArePermitsOfDown (w : State) (permits : List (Option ℕ)) : Type 0 where
  pub servers : length permits ≡ w.sizes.servers
  pub down : (v : ℕ) → v < w.sizes.servers → is_some (permit_of permits v) ≡ w.place.down v
