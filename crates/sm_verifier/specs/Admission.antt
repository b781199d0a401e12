-- The conditions under which a plan may start at a placement with its pool, and what holds it up otherwise.
use Rattle.std.specs.Prelude.{◌≡◌, ◌≤◌, ◌<◌, ℕ, true, false, IsSome, Contains, List, sum_by, slice_index_or}
use Rattle.sm_placement.specs.Setup.{Sizes, sizes_of}
use Rattle.sm_placement.specs.Place.{Place}
use Rattle.sm_placement.specs.Layout.{PlacementModel, place_of}
use Rattle.sm_reservation.specs.declared.right.Key.{Key}
use Rattle.sm_reservation.specs.declared.right.Key.TheVariants.{CellRight, Crown, Room, Spare}
use Rattle.sm_reservation.specs.Key.{key_before}
use Rattle.sm_reservation.specs.Hold.{Hold}
use Rattle.sm_reservation.specs.HoldOf.{hold_of}
use Rattle.sm_reservation.specs.Pool.{PoolModel, pool_hold, true_rights}
use Rattle.sm_plan_code.specs.declared.instruction.Instr.{Instr}
use Rattle.sm_plan_code.specs.Instr.{names_of, Mentions}
use Rattle.sm_plan_code.specs.Plan.{StreamModel, PlanModel}
use Rattle.sm_verifier.specs.declared.admission.Holding.{Holding}
use Rattle.sm_verifier.specs.declared.admission.Holding.TheVariants.{Untrue, Taken, ShortRoom, ShortSpare, ServerDown}
use Rattle.sm_verifier.specs.Checked.{CheckedModel}
use Rattle.sm_verifier.specs.Stream.{no_stream}

-- ---- cell rights and crowns

-- the hold has the cell right or the crown of a key
abbrev pub Has : Hold → Key → Type 0
Has h (CellRight s v) = IsSome (h.cells s v)
Has h (Crown s) = IsSome (h.crowns s)
Has h (Room v) = ⊥
Has h (Spare s) = ⊥

-- two holds have the same cell right or the same crown at a key
abbrev pub Agree : Hold → Hold → Key → Type 0
Agree h k (CellRight s v) = h.cells s v ≡ k.cells s v
Agree h k (Crown s) = h.crowns s ≡ k.crowns s
Agree h k (Room v) = Unit {0}
Agree h k (Spare s) = Unit {0}

-- what the first hold has at a key, the second has in just that state
abbrev pub IsIn : Hold → Hold → Key → Type 0
IsIn h k key = Has h key → Agree h k key

-- what the stream at a number declares
abbrev pub declared : List StreamModel → ℕ → Hold
declared streams i = hold_of (slice_index_or streams i no_stream).holds

-- what a stream declares at a key is true of the placement
abbrev pub IsTrueAt : Sizes → Place → List StreamModel → ℕ → Key → Type 0
IsTrueAt c p streams i key = IsIn (declared streams i) (true_rights c p) key

-- what a stream declares at a key is in the pool, and no earlier stream declares that key
abbrev pub IsFreeAt : Hold → List StreamModel → ℕ → Key → Type 0
IsFreeAt pool streams i key = Has (declared streams i) key
    → Agree (declared streams i) pool key × ((j : ℕ) → j < i → ¬ Has (declared streams j) key)

-- ---- room, spare replicas and servers

-- how much room of a server the streams declare together
abbrev pub declared_room : List StreamModel → ℕ → ℕ
declared_room streams v = sum_by (λ stream. (hold_of stream.holds).room v) streams

-- how many spare replicas of a shard the streams declare together
abbrev pub declared_spare : List StreamModel → ℕ → ℕ
declared_spare streams s = sum_by (λ stream. (hold_of stream.holds).spare s) streams

-- the pool has the room of a server that the streams declare together
abbrev pub HasDeclaredRoom : Hold → List StreamModel → ℕ → Type 0
HasDeclaredRoom pool streams v = declared_room streams v ≤ pool.room v

-- the pool has the spare replicas of a shard that the streams declare together
abbrev pub HasDeclaredSpare : Hold → List StreamModel → ℕ → Type 0
HasDeclaredSpare pool streams s = declared_spare streams s ≤ pool.spare s

-- an instruction mentions the server
abbrev pub IsMentioned : List StreamModel → ℕ → Type 0
IsMentioned streams v = (stream : StreamModel) × (i : Instr) × Contains streams stream × Contains stream.code i
    × Mentions (names_of i) v

-- a server that is mentioned is up
abbrev pub IsUpWhereMentioned : Place → List StreamModel → ℕ → Type 0
IsUpWhereMentioned p streams v = IsMentioned streams v → p.down v ≡ false

-- ---- what is kept everywhere, and where it first is not

-- each cell right and each crown that a stream declares is true of the placement
abbrev pub AreTrue : Sizes → Place → List StreamModel → Type 0
AreTrue c p streams = (i : ℕ) (key : Key) → IsTrueAt c p streams i key

-- each cell right and each crown that a stream declares is in the pool in just that state, and no earlier stream
-- declares its key
abbrev pub AreFree : Hold → List StreamModel → Type 0
AreFree pool streams = (i : ℕ) (key : Key) → IsFreeAt pool streams i key

-- of each server the pool has the room that the streams declare together
abbrev pub HasAllRoom : Hold → List StreamModel → Type 0
HasAllRoom pool streams = (v : ℕ) → HasDeclaredRoom pool streams v

-- of each shard the pool has the spare replicas that the streams declare together
abbrev pub HasAllSpare : Hold → List StreamModel → Type 0
HasAllSpare pool streams = (s : ℕ) → HasDeclaredSpare pool streams s

-- each server that an instruction mentions is up
abbrev pub AreUp : Place → List StreamModel → Type 0
AreUp p streams = (v : ℕ) → IsUpWhereMentioned p streams v

-- the lowest number at which something is not kept
pub record IsLowest (Kept : ℕ → Type 0) (n : ℕ) : Type 0 where
  pub broken : ¬ Kept n
  pub below : (m : ℕ) → m < n → Kept m

-- the lowest key at which something is not kept
pub record IsLowestKey (Kept : Key → Type 0) (key : Key) : Type 0 where
  pub broken : ¬ Kept key
  pub below : (lower : Key) → key_before lower key ≡ true → Kept lower

-- the first stream, and the lowest key of it, at which something is not kept
pub record IsFirst (Kept : ℕ → Key → Type 0) (i : ℕ) (key : Key) : Type 0 where
  pub lowest : IsLowestKey (Kept i) key
  pub before : (j : ℕ) → j < i → (lower : Key) → Kept j lower

-- ---- plans

-- Each cell right and crown that a stream declares is true of the placement, and is in the pool and declared by no
-- earlier stream; the pool has the room and the spare replicas that all streams declare together; and each server that
-- an instruction mentions is up.
pub record IsAdmitted (c : Sizes) (p : Place) (pool : Hold) (plan : PlanModel) : Type 0 where
  pub true_ones : AreTrue c p plan.streams
  pub free_ones : AreFree pool plan.streams
  pub room : HasAllRoom pool plan.streams
  pub spare : HasAllSpare pool plan.streams
  pub up : AreUp p plan.streams

-- The reason why a plan may not start: the first of these that is not kept, at the first stream and key, or the lowest
-- number.
abbrev pub IsHolding : Sizes → Place → Hold → PlanModel → Holding → Type 0
IsHolding c p pool plan (Untrue key) =
    (i : ℕ) × IsFirst (IsTrueAt c p plan.streams) i key
IsHolding c p pool plan (Taken key) =
    AreTrue c p plan.streams × ((i : ℕ) × IsFirst (IsFreeAt pool plan.streams) i key)
IsHolding c p pool plan (ShortRoom v free sum) =
    AreTrue c p plan.streams × AreFree pool plan.streams
    × IsLowest (HasDeclaredRoom pool plan.streams) v × (free ≡ pool.room v) × (sum ≡ declared_room plan.streams v)
IsHolding c p pool plan (ShortSpare s free sum) =
    AreTrue c p plan.streams × AreFree pool plan.streams × HasAllRoom pool plan.streams
    × IsLowest (HasDeclaredSpare pool plan.streams) s × (free ≡ pool.spare s) × (sum ≡ declared_spare plan.streams s)
IsHolding c p pool plan (ServerDown v) =
    AreTrue c p plan.streams × AreFree pool plan.streams × HasAllRoom pool plan.streams × HasAllSpare pool plan.streams
    × IsLowest (IsUpWhereMentioned p plan.streams) v

-- a checked plan may start at a placement with its pool
abbrev pub MayStart : CheckedModel → PoolModel → PlacementModel → Type 0
MayStart checked pool placement = IsAdmitted (sizes_of checked.setup) (place_of placement) (pool_hold pool) checked.plan

-- this holds it up there
abbrev pub IsHeldUpBy : CheckedModel → PoolModel → PlacementModel → Holding → Type 0
IsHeldUpBy checked pool placement = IsHolding (sizes_of checked.setup) (place_of placement) (pool_hold pool) checked.plan
