-- The plan of moves that the rule does not refuse is of the configuration, sound and admitted.
use Rattle.std.proofs.Common.{◌≡◌, ℕ, ◌<◌, Bool, false, Option, Some, None, List, [], ◌∷◌, ◌++◌, length, get_or, inl, inr}
use Rattle.std.specs.Prelude.{All, IfSome, ◌==◌, nat_lt, not}
use Rattle.std.specs.List.{range_with_len, AllByRecursion}
use Rattle.std.proofs.lemmas.Bool.{cases_Bool, and_parts, ltb-true}
use Rattle.std.proofs.lemmas.List.Elements.{All-from_recursion, All-map, All-contains}
use Rattle.sm_server.specs.Cell.{is_primary}
use Rattle.sm_plan_code.specs.declared.instruction.Instr.{Instr}
use Rattle.sm_plan_code.specs.declared.instruction.Instr.TheVariants.{PrepareAdd, PrepareDrop, Add, Drop, Publish, Signal, Wait}
use Rattle.sm_plan_code.specs.declared.moves.Move.{Move}
use Rattle.sm_server.specs.declared.call.Role.TheVariants as role
use Rattle.sm_plan_code.specs.Instr.{names_of, Mentions}
use Rattle.sm_plan_code.specs.Plan.{StreamModel, IsOrderedParcel, HasOrderedParcels}
use Rattle.sm_verifier.specs.Admission.{AreUp}
use Rattle.sm_planner.specs.Basis.{Basis, move_at, left_cell}
use Rattle.sm_planner.specs.Payment.{HandedRoom, from_move, stream_of, signals_of}
use Rattle.sm_planner.specs.Plan.{signal_at, handed_parcel, publication, handing_over, instructions, waits_of, posts_of, move_code, moves_of, stream, planned}
use Rattle.sm_planner.proofs.law.Gathered.{stands_below, all_both, all_picked, all_of_parts}
use Rattle.sm_planner.proofs.law.Codes.{width}
use Rattle.sm_planner.proofs.law.Signals.{IsHandedOn, are_handed_on}
use Rattle.sm_planner.proofs.law.Sorting.{stood}
use Rattle.sm_planner.proofs.law.Streams.{AreAllApart}
use Rattle.sm_planner.proofs.law.Opened.{IsOpened}
use Rattle.sm_planner.proofs.law.Declared.{ordered}

-- ---- servers that are up

module _ (down : ℕ → Bool) where
  abbrev IsUp : Instr → Type 0
  IsUp i = (v : ℕ) → Mentions (names_of i) v → down v ≡ false

  named_up : (o : Option ℕ) → IfSome o (λ u. down u ≡ false) → (v : ℕ) → o ≡ Some v → down v ≡ false
  named_up o up v e = rw e at up

  all_up : (i : Instr) → IfSome (names_of i).first (λ u. down u ≡ false) → IfSome (names_of i).second (λ u. down u ≡ false) → IsUp i
  all_up i one two v m = elim m [ inl e ↦ named_up (names_of i).first one v e | inr e ↦ named_up (names_of i).second two v e ]

module _ (b : Basis) (order : List Move) (apart : AreAllApart b order) (opened : (k : ℕ) → k < length order → IsOpened b (move_at order k)) where
  abbrev Up : Instr → Type 0
  Up i = IsUp b.place.down i

  up_handing : (m : Move) → IsOpened b m → (o : Option ℕ) → AllByRecursion Up (handing_over o m)
  up_handing m is o = (
    all_up b.place.down (PrepareAdd m.shard m.to m.from) is.to_up is.from_up,
    (
      all_up b.place.down (PrepareDrop m.shard m.from m.to) is.from_up is.to_up,
      (all_up b.place.down (Add m.shard m.to role.Primary) is.to_up tt, last o),
    ),
  )
    where
      last : (o : Option ℕ) → AllByRecursion Up (publication o m.shard ++ Drop m.shard m.from ∷ [])
      last None = (all_up b.place.down (Drop m.shard m.from) is.from_up tt, tt)
      last (Some u) = (all_up b.place.down (Publish m.shard) tt tt, (all_up b.place.down (Drop m.shard m.from) is.from_up tt, tt))

  up_instructions : (m : Move) → IsOpened b m → AllByRecursion Up (instructions b.place m)
  up_instructions m is = elim (cases_Bool (is_primary (left_cell b.place m))) [
    | inl leads ↦ rw leads (up_handing m is (b.place.listed m.shard))
    | inr follows ↦ rw follows (all_up b.place.down (Add m.shard m.to role.Secondary) is.to_up tt, (all_up b.place.down (Drop m.shard m.from) is.from_up tt, tt))
  ]

  up_move : (k : ℕ) → k < length order → AllByRecursion Up (move_code b order k)
  up_move k l =
      let signals : List HandedRoom = signals_of b order in
      all_both Up (waits_of signals k) (instructions b.place (move_at order k) ++ posts_of signals k)
      (all_picked Up Wait (λ q. (signal_at signals q).payer == k) (range_with_len 0 (length signals)) (λ q s own. all_up b.place.down (Wait q) tt tt))
      (all_both Up (instructions b.place (move_at order k)) (posts_of signals k) (up_instructions (move_at order k) (opened k l))
      (all_picked Up Signal (λ q. (signal_at signals q).source == k) (range_with_len 0 (length signals)) (λ q s own. all_up b.place.down (Signal q) tt tt)))

  up_streams : All (λ (s : StreamModel). All Up s.code) (planned b order).streams
  up_streams = All-map (λ (s : StreamModel). All Up s.code) (stream b order) (range_with_len 0 (width order))
      (λ i d l. All-from_recursion Up (stream b order (get_or (range_with_len 0 (width order)) i d)).code (all_of_parts Up (move_code b order) (moves_of order (get_or (range_with_len 0 (width order)) i d))
      (λ k s. up_move k (stands_below (length order) k (stood (λ j. stream_of j == get_or (range_with_len 0 (width order)) i d) k (range_with_len 0 (length order)) s)))))

  -- each server that the plan mentions is up
  pub are_up : AreUp b.place (planned b order).streams
  are_up v m = All-contains Up m.0.code m.1 (All-contains (λ (s : StreamModel). All Up s.code) (planned b order).streams m.0 up_streams m.2) m.3 v m.4

  -- ---- parcels in order

  parcel_ordered : (h : HandedRoom) → IsHandedOn b order h → IsOrderedParcel (handed_parcel b order h)
  parcel_ordered h on = record {
    ordered = record { cells = tt; crowns = tt; room = (tt, tt); spare = tt };
    positive = record { room = (ltb-true 0 (from_move b order h.payer h.source) (and_parts (nat_lt 0 (from_move b order h.payer h.source)) (not (stream_of h.payer == stream_of h.source)) on.handed).0, tt); spare = tt };
  }

  -- what the plan's streams declare and its signals carry is in order
  pub parcels_ordered : HasOrderedParcels (planned b order)
  parcels_ordered = record {
    streams = All-map (λ (s : StreamModel). IsOrderedParcel s.holds) (stream b order) (range_with_len 0 (width order)) (λ i d l. ordered b order apart opened (get_or (range_with_len 0 (width order)) i d));
    signals = All-map IsOrderedParcel (handed_parcel b order) (signals_of b order) (All-from_recursion (λ h. IsOrderedParcel (handed_parcel b order h)) (signals_of b order) (all_ordered (signals_of b order) (are_handed_on b order)));
  }
    where
      all_ordered : (hs : List HandedRoom) → AllByRecursion (IsHandedOn b order) hs → AllByRecursion (λ h. IsOrderedParcel (handed_parcel b order h)) hs
      all_ordered [] a = tt
      all_ordered (h ∷ hs) a = (parcel_ordered h a.0, all_ordered hs a.1)
