-- The law of effects: an instruction's effect if the rights for it are held.
use Rattle.std.specs.Prelude.{◌≡◌, ◌≢◌, ◌⊎◌, ◌≤◌, ◌<◌, ℕ, suc, ◌+◌, true, false, Option, Some, None, Ok, IfSome}
use Rattle.sm_placement.specs.declared.lead.Lead.{Lead}
use Rattle.sm_placement.specs.declared.lead.Lead.TheVariants.{Gone, At, Ready, Handing, Handed}
use Rattle.sm_placement.specs.Setup.{Sizes}
use Rattle.sm_placement.specs.Place.{Place, with_lasts, called, called_numbered, set_last}
use Rattle.sm_placement.specs.Layout.{IsPlacement}
use Rattle.sm_placement.specs.Lead.{Describes}
use Rattle.sm_reservation.specs.Rights.{Rights}
use Rattle.sm_reservation.specs.Hold.{Hold}
use Rattle.sm_reservation.specs.Amounts.{Right, count, stock, bound}
use Rattle.sm_reservation.specs.Key.{IsOrdered}
use Rattle.sm_reservation.specs.HoldOf.{hold_of}
use Rattle.sm_reservation.specs.Truth.{IsTrueOf}
use Rattle.sm_plan_code.specs.declared.call.ServerCall.{ServerCall}
use Rattle.sm_plan_code.specs.declared.instruction.Instr.{Instr}
use Rattle.sm_plan_code.specs.declared.instruction.Instr.TheVariants.{PrepareAdd, PrepareDrop, Add, Drop, Change}
use Rattle.sm_plan_code.specs.declared.instruction.Instr.TheVariants.{Publish, Unlist, Signal, Wait}
use Rattle.sm_plan_code.specs.Instr.{names_of, shard_of, Mentions, IsOwn}
use Rattle.sm_plan_code.specs.After.{after}
use Rattle.sm_plan_code.specs.Acts.{acts, numbers_after, next_call}
use Rattle.sm_plan_code.specs.Reach.{IsWithinReach}

-- the instruction's shard is known, and each server that it mentions is known and up
pub record IsReachable (c : Sizes) (p : Place) (i : Instr) : Type 0 where
  pub shard : IfSome (shard_of i) (λ s. s < c.shards)
  pub known : (v : ℕ) → Mentions (names_of i) v → v < c.servers
  pub up : (v : ℕ) → Mentions (names_of i) v → p.down v ≡ false

-- Where a stream stands: a placement, leads that describe it under the highest handover numbers, and a hold that is
-- true of it.
pub record IsScene (c : Sizes) (p : Place) (leads : ℕ → Lead) (numbers : ℕ → ℕ) (h : Hold) : Type 0 where
  pub placement : IsPlacement c p
  pub described : (s : ℕ) → Describes (leads s) (numbers s) (p.cells s)
  pub truth : IsTrueOf c p leads h

-- Under a lead nobody is listed, or the server that a publication lists; at Handed also the old owner may still be.
abbrev pub IsListable : Lead → Option ℕ → Type 0
IsListable lead None = Unit {0}
IsListable Gone (Some x) = ⊥
IsListable (At u) (Some x) = x ≡ u
IsListable (Ready u v) (Some x) = x ≡ u
IsListable (Handing u v) (Some x) = x ≡ u
IsListable (Handed u v) (Some x) = (x ≡ u) ⊎ (x ≡ v)

-- a handover is prepared, and its owner does not forward yet
abbrev pub IsReady : Lead → Type 0
IsReady (Ready u v) = Unit {0}
IsReady _ = ⊥

-- under this lead and the highest handover number n, a request may have been passed on under the number m
abbrev pub MayHavePassed : Lead → ℕ → ℕ → Type 0
MayHavePassed lead n m = (m ≤ n) × (IsReady lead → m < n)

-- the cell that an instruction's call may change: its shard and its server
abbrev pub touched : Instr → Option (ℕ × ℕ)
touched (PrepareAdd s v u) = Some (s, v)
touched (PrepareDrop s u v) = Some (s, u)
touched (Add s v role) = Some (s, v)
touched (Drop s v) = Some (s, v)
touched (Change s v to) = Some (s, v)
touched _ = None

-- the shard whose entry of the map an instruction changes
abbrev pub published_shard : Instr → Option ℕ
published_shard (Publish s) = Some s
published_shard (Unlist s) = Some s
published_shard _ = None

-- what an instruction leaves as it is, and the version of the entry that it changes
pub record Stays (p q : Place) (i : Instr) : Type 0 where
  pub cells : (s v : ℕ) → touched i ≢ Some (s, v) → q.cells s v ≡ p.cells s v
  pub last : q.last ≡ p.last
  pub limit : q.limit ≡ p.limit
  pub entries : (s : ℕ) → published_shard i ≢ Some s → (q.listed s ≡ p.listed s) × (q.version s ≡ p.version s)
  pub version : (s : ℕ) → published_shard i ≡ Some s → q.version s ≡ suc (p.version s)

-- The effect of an instruction, from the hold h to the hold h': its call is served, the stream stands again in a scene,
-- and of each right what there is beside what is bound moves as what is held of it does.
pub record Effect (c : Sizes) (p : Place) (leads : ℕ → Lead) (numbers : ℕ → ℕ) (h h' : Hold) (i : Instr) : Type 0 where
  pub next_place : Place
  pub next_leads : ℕ → Lead
  pub next_numbers : ℕ → ℕ
  pub made : acts c p numbers i ≡ Some (next_place, next_numbers)
  pub scene : IsScene c next_place next_leads next_numbers h'
  pub down : next_place.down ≡ p.down
  pub stays : Stays p next_place i
  pub numbered : next_numbers ≡ numbers_after numbers i
  -- the cell of its call is within reach of the hold before it and of the hold after it
  pub reached : (s v : ℕ) → touched i ≡ Some (s, v) → IsWithinReach h s v × IsWithinReach h' s v
  pub exchanged : (r : Right) → stock c next_place next_leads r + bound c p r + count h r
      ≡ stock c p leads r + bound c next_place r + count h' r
  -- who is listed may still be, and a number under which a request may have been passed on stays one
  pub listed : (s : ℕ) → IsListable (leads s) (p.listed s) → IsListable (next_leads s) (next_place.listed s)
  pub passed : (s m : ℕ) → MayHavePassed (leads s) (numbers s) m → MayHavePassed (next_leads s) (next_numbers s) m

-- Each instruction but signal and wait has its effect if the table of rights gives a hold after it.
abbrev pub HasEffects : Type 0
HasEffects = (c : Sizes) (p : Place) (leads : ℕ → Lead) (numbers : ℕ → ℕ) (signals : ℕ
    → Rights) (h h' : Hold) (i : Instr) →
    IsScene c p leads numbers h → IsReachable c p i → IsOwn i → after c signals i h ≡ Ok h'
    → Effect c p leads numbers h h' i

-- ---- numbered calls

-- whatever is said of one placement is said of the other: that it is one, what there is of each right, and scenes
pub record SameRights (c : Sizes) (p q : Place) : Type 0 where
  pub placement : IsPlacement c p → IsPlacement c q
  pub stock : (leads : ℕ → Lead) (r : Right) → stock c q leads r ≡ stock c p leads r
  pub bound : (r : Right) → bound c q r ≡ bound c p r
  pub scene : (leads : ℕ → Lead) (numbers : ℕ → ℕ) (h : Hold) → IsScene c p leads numbers h
      → IsScene c q leads numbers h

-- Nothing of that looks at last numbers.
abbrev pub LastsAreUnseen : Type 0
LastsAreUnseen = (c : Sizes) (p : Place) (last : ℕ → ℕ → ℕ) → SameRights c p (with_lasts last p)

-- The effect of an instruction whose call x is made under a number: it has its effect now, and the placement is that
-- of the effect with this last number.
pub record NumberedEffect (c : Sizes) (p : Place) (leads : ℕ → Lead) (numbers : ℕ → ℕ) (h h' : Hold) (i : Instr) (x : ServerCall) (number : ℕ) : Type 0 where
  pub effect : Effect c p leads numbers h h' i
  pub called : called c p x.shard x.server x.call ≡ Ok effect.next_place
  pub answered : called_numbered c p x.shard x.server x.call number
      ≡ Ok (record { place = set_last effect.next_place x.shard x.server number; fresh = true })
  pub scene : IsScene c (set_last effect.next_place x.shard x.server number) effect.next_leads effect.next_numbers h'

-- A call under a number that isn't the last one of its cell has the effect of its instruction.
abbrev pub HasNumberedEffects : Type 0
HasNumberedEffects = (c : Sizes) (p : Place) (leads : ℕ → Lead) (numbers : ℕ → ℕ) (signals : ℕ
    → Rights) (h h' : Hold) (i : Instr) (x : ServerCall) (number : ℕ) →
    IsScene c p leads numbers h → IsReachable c p i → after c signals i h ≡ Ok h' → next_call numbers i ≡ Some x
    → number ≢ p.last x.shard x.server →
    NumberedEffect c p leads numbers h h' i x number

-- ---- signals

-- A signal changes no placement, and its parcel, whose lists are in order, leaves the hold.
abbrev pub SignalGives : Type 0
SignalGives = (c : Sizes) (p : Place) (numbers : ℕ → ℕ) (signals : ℕ → Rights) (h h' : Hold) (k : ℕ) →
    IsOrdered (signals k) → after c signals (Signal k) h ≡ Ok h' →
    (acts c p numbers (Signal k) ≡ Some (p, numbers))
    × ((r : Right) → count h' r + count (hold_of (signals k)) r ≡ count h r)

-- A wait changes no placement, and the parcel of its signal, whose lists are in order, comes into the hold.
abbrev pub WaitTakes : Type 0
WaitTakes = (c : Sizes) (p : Place) (numbers : ℕ → ℕ) (signals : ℕ → Rights) (h h' : Hold) (k : ℕ) →
    IsOrdered (signals k) → after c signals (Wait k) h ≡ Ok h' →
    (acts c p numbers (Wait k) ≡ Some (p, numbers))
    × ((r : Right) → count h' r ≡ count h r + count (hold_of (signals k)) r)
