-- Holds stay of known shards and servers along a code that fits, and its instructions stay reachable.
use Rattle.std.proofs.Common.{◌≡◌, ◌<◌, ℕ, zero, suc, Bool, true, false, List, All, length, get_or, refl, sym, subst, ◌∙◌, inl, inr, Option, Some, None, Result, Ok, Err}
use Rattle.std.specs.Prelude.{IfSome, slice_get, slice_index_or, if◌then◌else◌}
use Rattle.std.specs.List.{AllByRecursion}
use Rattle.std.specs.Option.{option_to_list}
use Rattle.std.proofs.lemmas.Bool.{cases_lt}
use Rattle.std.proofs.lemmas.Option.{slice_get_within, get_or_from_slice_get}
use Rattle.std.proofs.lemmas.List.{get_or_past}
use Rattle.std.proofs.lemmas.List.Elements.{All-get_or}
use Rattle.sm_server.specs.declared.call.Role.TheVariants as role
use Rattle.sm_placement.specs.declared.lead.Lead.{Lead}
use Rattle.sm_placement.specs.declared.lead.Lead.TheVariants.{Gone, At, Ready, Handing, Handed}
use Rattle.sm_placement.specs.Setup.{Sizes}
use Rattle.sm_placement.specs.Place.{Place, set_down}
use Rattle.sm_placement.proofs.Sums.{put-apart}
use Rattle.sm_reservation.specs.declared.change.Portion.{Portion}
use Rattle.sm_reservation.specs.Rights.{Rights, no_rights}
use Rattle.sm_reservation.specs.Hold.{Hold, minus}
use Rattle.sm_reservation.specs.HoldOf.{hold_of}
use Rattle.sm_reservation.specs.Change.{portion_rights}
use Rattle.sm_reservation.specs.Pool.{IsKnownHold}
use Rattle.sm_reservation.proofs.Below.{below_minus, below_plus}
use Rattle.sm_reservation.proofs.FitLemmas.{known_below, all_known}
use Rattle.sm_plan_code.specs.declared.instruction.Instr.{Instr}
use Rattle.sm_plan_code.specs.declared.instruction.Instr.TheVariants.{PrepareAdd, PrepareDrop, Add, Drop, Change, Publish, Unlist, Signal, Wait}
use Rattle.sm_plan_code.specs.declared.instruction.Why.{Why}
use Rattle.sm_plan_code.specs.Instr.{IsOwn, names_of, Mentions}
use Rattle.sm_plan_code.specs.Plan.{StreamModel, PlanModel, HasOrderedParcels, IsOrderedParcel, IsKnownInstr, IsKnownStream, IsKnownCrown, IsKnownParcel, IsKnownPlan}
use Rattle.sm_plan_code.specs.After.{after, signal_line, wait_line, hold_at, hold_or, hold_past, has_right, listed_of, lead_held}
use Rattle.sm_plan_code.specs.Table.{needs_of, gives_of, add_primary_exchange, drop_held_exchange, drop_led_exchange, publish_exchange, unlist_exchange}
use Rattle.sm_plan_code.specs.Effects.{IsReachable}
use Rattle.sm_plan_code.specs.Known.{AreKnownSignals}
use Rattle.sm_plan_code.proofs.Lines.{passes}
use Rattle.sm_plan_code.proofs.Conditions.{portion_ordered}
use Rattle.sm_plan_code.proofs.Exchanges.{lines_exchange}

-- ---- portions of known shards and servers

record IsKnownPortion (shards servers : ℕ) (p : Portion) : Type 0 where
  cell : IfSome p.cell (λ x. (x.shard < shards) × (x.server < servers))
  crown : IfSome p.crown (λ x. x.shard < shards)
  room : IfSome p.room (λ x. x.server < servers)
  spare : IfSome p.spare (λ x. x.shard < shards)

one_known : {T : Type 0} (P : T → Type 0) (o : Option T) → IfSome o P → AllByRecursion P (option_to_list o)
one_known P None h = tt
one_known P (Some x) h = (h, tt)

portion_below : (shards servers : ℕ) (p : Portion) → IsKnownPortion shards servers p → IsKnownHold shards servers (hold_of (portion_rights p))
portion_below shards servers p k = known_below shards servers (portion_rights p) (record {
  cells = one_known (λ x. (x.shard < shards) × (x.server < servers)) p.cell k.cell;
  crowns = one_known (λ x. x.shard < shards) p.crown k.crown;
  room = one_known (λ x. x.server < servers) p.room k.room;
  spare = one_known (λ x. x.shard < shards) p.spare k.spare;
})

module _ (c : Sizes) (m n s v : ℕ) (a : s < m) (b : v < n) where
  by_add_primary : (listed : Option ℕ) (o : Option Lead) → IsKnownPortion m n (add_primary_exchange c s v listed o).got
  by_add_primary listed None = record { cell = tt; crown = tt; room = tt; spare = tt }
  by_add_primary listed (Some Gone) = record { cell = tt; crown = a; room = tt; spare = a }
  by_add_primary listed (Some (At u)) = record { cell = tt; crown = tt; room = tt; spare = tt }
  by_add_primary listed (Some (Ready u w)) = record { cell = tt; crown = tt; room = tt; spare = tt }
  by_add_primary listed (Some (Handing u w)) = record { cell = tt; crown = a; room = tt; spare = tt }
  by_add_primary listed (Some (Handed u w)) = record { cell = tt; crown = tt; room = tt; spare = tt }

  by_drop_led : (listed : Option ℕ) (o : Option Lead) → IsKnownPortion m n (drop_led_exchange c s v listed o).got
  by_drop_led listed None = record { cell = tt; crown = tt; room = tt; spare = tt }
  by_drop_led listed (Some Gone) = record { cell = tt; crown = tt; room = tt; spare = tt }
  by_drop_led listed (Some (At u)) = record { cell = (a, b); crown = a; room = b; spare = tt }
  by_drop_led listed (Some (Ready u w)) = record { cell = (a, b); crown = a; room = b; spare = tt }
  by_drop_led listed (Some (Handing u w)) = record { cell = tt; crown = tt; room = tt; spare = tt }
  by_drop_led listed (Some (Handed u w)) = record { cell = (a, b); crown = a; room = b; spare = tt }

  by_drop : (held : Bool) (listed : Option ℕ) (o : Option Lead) → IsKnownPortion m n (if held then drop_held_exchange c s v else drop_led_exchange c s v listed o).got
  by_drop true listed o = record { cell = (a, b); crown = tt; room = b; spare = tt }
  by_drop false listed o = by_drop_led listed o

by_publish : (m n s : ℕ) → s < m → (listed : Option ℕ) (o : Option Lead) → IsKnownPortion m n (publish_exchange s listed o).got
by_publish m n s a listed None = record { cell = tt; crown = tt; room = tt; spare = tt }
by_publish m n s a listed (Some lead) = record { cell = tt; crown = a; room = tt; spare = tt }

by_unlist : (m n s : ℕ) → s < m → (listed : Option ℕ) (o : Option Lead) → IsKnownPortion m n (unlist_exchange s listed o).got
by_unlist m n s a listed None = record { cell = tt; crown = tt; room = tt; spare = tt }
by_unlist m n s a listed (Some lead) = record { cell = tt; crown = a; room = tt; spare = tt }

gives_known : (c : Sizes) (h : Hold) (m n : ℕ) (i : Instr) → IsKnownInstr m n i → IsKnownPortion m n (gives_of c i h)
gives_known c h m n (PrepareAdd s v u) f = record { cell = tt; crown = f.0; room = tt; spare = tt }
gives_known c h m n (PrepareDrop s u v) f = record { cell = tt; crown = f.0; room = tt; spare = tt }
gives_known c h m n (Add s v role.Secondary) f = record { cell = (f.0, f.1); crown = tt; room = tt; spare = f.0 }
gives_known c h m n (Add s v role.Primary) f = by_add_primary c m n s v f.0 f.1 (listed_of (h.crowns s)) (lead_held (h.crowns s))
gives_known c h m n (Drop s v) f = by_drop c m n s v f.0 f.1 (has_right h s v) (listed_of (h.crowns s)) (lead_held (h.crowns s))
gives_known c h m n (Change s v role.Primary) f = record { cell = tt; crown = f.0; room = tt; spare = tt }
gives_known c h m n (Change s v role.Secondary) f = record { cell = (f.0, f.1); crown = f.0; room = tt; spare = tt }
gives_known c h m n (Publish s) f = by_publish m n s f.0 (listed_of (h.crowns s)) (lead_held (h.crowns s))
gives_known c h m n (Unlist s) f = by_unlist m n s f.0 (listed_of (h.crowns s)) (lead_held (h.crowns s))
gives_known c h m n (Signal k) f = record { cell = tt; crown = tt; room = tt; spare = tt }
gives_known c h m n (Wait k) f = record { cell = tt; crown = tt; room = tt; spare = tt }

-- ---- holds

own_below : (c : Sizes) (signals : ℕ → Rights) (h h' : Hold) (i : Instr) (m n : ℕ) → IsOwn i → IsKnownInstr m n i → IsKnownHold m n h → after c signals i h ≡ Ok h' → IsKnownHold m n h'
own_below c signals h h' i m n own fits below e =
    let x = lines_exchange c signals h h' i own e in
    let out = portion_rights (needs_of c i h) in
    let got = portion_rights (gives_of c i h) in
    let there = below_plus m n (minus h out) got (portion_ordered (gives_of c i h)) (below_minus m n h out (portion_ordered (needs_of c i h)) below) (portion_below m n (gives_of c i h) (gives_known c h m n i fits)) in
    subst (λ (k : Hold). IsKnownHold m n k) (sym x.left) there

-- what an instruction that fits leaves of a hold of known shards and servers is one
pub step_below : (c : Sizes) (signals : ℕ → Rights) (h h' : Hold) (i : Instr) (m n : ℕ) → AreKnownSignals m n signals → IsKnownInstr m n i → IsKnownHold m n h → after c signals i h ≡ Ok h' → IsKnownHold m n h'
step_below c signals h h' (Signal k) m n known fits below e =
    subst (λ (x : Hold). IsKnownHold m n x) (passes (signal_line (signals k) h) h' e).1 (below_minus m n h (signals k) (known.ordered k) below)
step_below c signals h h' (Wait k) m n known fits below e =
    subst (λ (x : Hold). IsKnownHold m n x) (passes (wait_line (signals k) h) h' e).1 (below_plus m n h (signals k) (known.ordered k) below (known.below k))
step_below c signals h h' (PrepareAdd s v u) m n known fits below e = own_below c signals h h' (PrepareAdd s v u) m n tt fits below e
step_below c signals h h' (PrepareDrop s u v) m n known fits below e = own_below c signals h h' (PrepareDrop s u v) m n tt fits below e
step_below c signals h h' (Add s v r) m n known fits below e = own_below c signals h h' (Add s v r) m n tt fits below e
step_below c signals h h' (Drop s v) m n known fits below e = own_below c signals h h' (Drop s v) m n tt fits below e
step_below c signals h h' (Change s v to) m n known fits below e = own_below c signals h h' (Change s v to) m n tt fits below e
step_below c signals h h' (Publish s) m n known fits below e = own_below c signals h h' (Publish s) m n tt fits below e
step_below c signals h h' (Unlist s) m n known fits below e = own_below c signals h h' (Unlist s) m n tt fits below e

-- what stands in a list of which something is said
stands : {T : Type 0} (P : T → Type 0) (xs : List T) (p : ℕ) (x : T) → All P xs → slice_get xs p ≡ Some x → P x
stands P xs p x all e = subst P (get_or_from_slice_get xs p x x e) (All-get_or P xs p x (slice_get_within xs p x e) all)

-- what is left at one position
past_below : (c : Sizes) (signals : ℕ → Rights) (h : Hold) (m n : ℕ) → AreKnownSignals m n signals → IsKnownHold m n h → (o : Option Instr) → ((i : Instr) → o ≡ Some i → IsKnownInstr m n i) → IsKnownHold m n (hold_past c signals o h)
past_below c signals h m n known below None fits = below
past_below c signals h m n known below (Some i) fits = go (after c signals i h) refl
  where
    go : (r : Result Hold Why) → after c signals i h ≡ r → IsKnownHold m n (hold_or h r)
    go (Ok next) a = step_below c signals h next i m n known (fits i refl) below a
    go (Err why) a = below

-- so is what is held anywhere along a code that fits
pub along_below : (c : Sizes) (signals : ℕ → Rights) (code : List Instr) (h : Hold) (m n : ℕ) → AreKnownSignals m n signals → All (IsKnownInstr m n) code → IsKnownHold m n h →
    (p : ℕ) → IsKnownHold m n (hold_at c signals code h p)
along_below c signals code h m n known fits below zero = below
along_below c signals code h m n known fits below (suc p) =
    past_below c signals (hold_at c signals code h p) m n known (along_below c signals code h m n known fits below p) (slice_get code p) (λ i e. stands (IsKnownInstr m n) code p i fits e)

each : {T : Type 0} (P Q : T → Type 0) (xs : List T) → ((x : T) → P x → Q x) → All P xs → All Q xs
each P Q xs f all = λ k d l. f (get_or xs k d) (all k d l)

-- a parcel that fits is of known shards and servers
pub parcel_below : (m n : ℕ) (p : Rights) → IsKnownParcel m n p → IsKnownHold m n (hold_of p)
parcel_below m n p f = known_below m n p (all_known m n p f.cells (each (IsKnownCrown m n) (λ x. x.shard < m) p.crowns (λ x k. k.0) f.crowns) f.room f.spare)

-- so is each signal's parcel of a plan that fits
pub signals_known : (m n : ℕ) (plan : PlanModel) → HasOrderedParcels plan → IsKnownPlan m n plan → AreKnownSignals m n (λ k. slice_index_or plan.signals k no_rights)
signals_known m n plan ordered fits = record {
  ordered = λ k. elim (cases_lt k (length plan.signals)) [
    | inl l ↦ (All-get_or IsOrderedParcel plan.signals k no_rights l ordered.signals).ordered
    | inr l ↦ rw (get_or_past plan.signals k no_rights l) (record { cells = tt; crowns = tt; room = tt; spare = tt })
  ];
  below = λ k. elim (cases_lt k (length plan.signals)) [
    | inl l ↦ parcel_below m n (get_or plan.signals k no_rights) (All-get_or (IsKnownParcel m n) plan.signals k no_rights l fits.signals)
    | inr l ↦ rw (get_or_past plan.signals k no_rights l) (known_below m n no_rights (record { cells = tt; crowns = tt; room = tt; spare = tt }))
  ];
}

-- ---- reachable instructions

-- an instruction of a plan that fits does
pub instr_fits : (m n : ℕ) (plan : PlanModel) (k p : ℕ) (stream : StreamModel) (i : Instr) → IsKnownPlan m n plan → slice_get plan.streams k ≡ Some stream → slice_get stream.code p ≡ Some i → IsKnownInstr m n i
instr_fits m n plan k p stream i fits e f = stands (IsKnownInstr m n) stream.code p i (stands (IsKnownStream m n) plan.streams k stream fits.streams e).code f

below_if : (n : ℕ) (o : Option ℕ) (v : ℕ) → IfSome o (λ x. x < n) → o ≡ Some v → v < n
below_if n None v h e = cc
below_if n (Some x) v h e = let same : x ≡ v = cc in rw (← same) h

-- an instruction that fits is reachable while the servers that it mentions are up
pub fits_reachable : (c : Sizes) (p : Place) (i : Instr) → IsKnownInstr c.shards c.servers i → ((v : ℕ) → Mentions (names_of i) v → p.down v ≡ false) → IsReachable c p i
fits_reachable c p i fits up = record { shard = fits.0; known = known; up = up }
  where
    known : (v : ℕ) → Mentions (names_of i) v → v < c.servers
    known v (inl e) = below_if c.servers (names_of i).first v fits.1 e
    known v (inr e) = below_if c.servers (names_of i).second v fits.2 e

-- and so it is under another placement in which they are up
pub same_reachable : (c : Sizes) (p q : Place) (i : Instr) → ((v : ℕ) → Mentions (names_of i) v → q.down v ≡ p.down v) → IsReachable c p i → IsReachable c q i
same_reachable c p q i same at = record { shard = at.shard; known = at.known; up = λ v m. same v m ∙ at.up v m }

-- as after another server goes down or up
pub restarted_reachable : (c : Sizes) (p : Place) (i : Instr) (v : ℕ) (down : Bool) → ¬ Mentions (names_of i) v → IsReachable c p i → IsReachable c (set_down p v down) i
restarted_reachable c p i v down other at = same_reachable c p (set_down p v down) i (λ w m. put-apart p.down v down w (λ e. other (subst (λ x. Mentions (names_of i) x) e m))) at
