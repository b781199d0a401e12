-- Whether a server may be taken down (the TaskController of Lee et al. 2021): a cap on the servers that are down at
-- once, and for each shard a cap on the replicas that are away.
use Rattle.std.specs.Prelude.{ℕ, Bool, ◌&&◌, ◌==◌, nat_lt, nat_le, Option, Some, None, option_map, if◌then◌else◌}
use Rattle.std.specs.Option.{option_or}
use Rattle.sm_placement.specs.Sums.{first_from}
use Rattle.sm_placement.specs.Setup.{Sizes}
use Rattle.sm_placement.specs.Place.{Place, down_count, is_live_at}
use Rattle.sm_reservation.specs.Hold.{Hold}
use Rattle.sm_reservation.specs.declared.stream_id.StreamId.{StreamId}
use Rattle.sm_task_controller.specs.declared.decision.Denied.{Denied}
use Rattle.sm_task_controller.specs.declared.decision.Denied.TheVariants.{AlreadyDown, Engaged, GlobalCap, ShardCap}
use Rattle.sm_task_controller.specs.declared.decision.Denied.TheVariants.{LogFull}

-- a reason, if its test holds
abbrev pub denied_if : Bool → Denied → Option Denied
denied_if test why = if test then Some why else None

-- the lowest shard that is live at the server and of which no spare replica is free (SM 2021, the cap for each shard)
abbrev pub first_without_spare : Sizes → Place → Hold → ℕ → Option ℕ
first_without_spare c p pool v =
    first_from 0 c.shards (λ s. if is_live_at p s v && (pool.spare s == 0) then Some s else None)

-- Why the server may not be taken down, None if it may: the first reason in the order of these lines (SM 2021, the caps
-- of the TaskController). The pool has the spare replicas that are free, `engaged` is the lowest unfinished stream
-- whose code names the server, and `log_free` is the number of log places that are neither used nor set aside.
abbrev pub denial : Sizes → Place → Hold → Option StreamId → ℕ → ℕ → Option Denied
denial c p pool engaged log_free v =
    option_or (denied_if (p.down v) AlreadyDown)
    (option_or (option_map Engaged engaged)
    (option_or (denied_if (nat_le p.limit (down_count c p)) GlobalCap)
    (option_or (option_map ShardCap (first_without_spare c p pool v))
    (denied_if (nat_lt log_free 2) LogFull))))
