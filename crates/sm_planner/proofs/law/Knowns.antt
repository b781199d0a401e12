-- A plan of moves of the configuration is of the configuration.
use Rattle.std.proofs.Common.{◌≡◌, ℕ, ◌<◌, Option, Some, None, List, [], ◌∷◌, ◌++◌, length, get_or, refl, ap, arith, inl, inr, subst}
use Rattle.std.specs.Prelude.{IfSome, filter, nat_lt, ◌==◌}
use Rattle.std.specs.List.{range_with_len, AllByRecursion}
use Rattle.std.proofs.lemmas.Bool.{cases_Bool}
use Rattle.std.proofs.lemmas.List.Elements.{All-from_recursion, All-map}
use Rattle.sm_server.specs.Cell.{is_primary}
use Rattle.sm_placement.specs.Setup.{Sizes, sizes_of}
use Rattle.sm_reservation.specs.declared.right.CellRight.{CellRight}
use Rattle.sm_reservation.specs.declared.right.Crown.{Crown}
use Rattle.sm_reservation.specs.declared.right.Room.{Room}
use Rattle.sm_reservation.specs.Key.{key_of_cell, key_of_crown, key_of_room}
use Rattle.sm_reservation.specs.InOrder.{sorted}
use Rattle.sm_plan_code.specs.declared.instruction.Instr.{Instr}
use Rattle.sm_plan_code.specs.declared.instruction.Instr.TheVariants.{Signal, Wait}
use Rattle.sm_plan_code.specs.Plan.{IsKnownCellRight, IsKnownCrown, IsKnownParcel, IsKnownInstr, IsKnownStream, IsKnownPlan}
use Rattle.sm_plan_code.specs.declared.moves.Move.{Move}
use Rattle.sm_planner.specs.Basis.{Basis, IsMoveOf, move_at, left_cell}
use Rattle.sm_planner.specs.Payment.{HandedRoom, stream_of, signals_of}
use Rattle.sm_planner.specs.Plan.{signal_at, handed_parcel, handing_over, instructions, waits_of, posts_of, move_code, moves_of, cells_needed, crowns_of, room_by, needs_by, holds_of, stream, planned}
use Rattle.sm_planner.proofs.law.Gathered.{gathered, StandsIn, stands_below, all_both, all_picked, all_of_parts}
use Rattle.sm_planner.proofs.law.Codes.{width}
use Rattle.sm_planner.proofs.law.Signals.{IsHandedOn, are_handed_on}
use Rattle.sm_planner.proofs.law.Sorting.{from_sorted, gathered_from, stands_mapped, stood}
use Rattle.sm_planner.proofs.law.Declared.{needed_cases, crown_case}

-- what holds of each element that stands in a list holds throughout the list
pub all_standing : {T : Type 0} (P : T → Type 0) (xs : List T) → ((x : T) → StandsIn x xs → P x) → AllByRecursion P xs
all_standing P [] each = tt
all_standing P (x ∷ xs) each = (each x (inl refl), all_standing P xs (λ y s. each y (inr s)))

-- the moves are of the configuration, and each entry of the map names a server of it
module _ (b : Basis) (order : List Move) (known : (k : ℕ) → k < length order → IsMoveOf b.setup (move_at order k)) (listed : (s u : ℕ) → b.place.listed s ≡ Some u → u < (sizes_of b.setup).servers) where
  abbrev c : Sizes
  c = sizes_of b.setup

  listed_known : (s : ℕ) → IfSome (b.place.listed s) (λ v. v < c.servers)
  listed_known s = go (b.place.listed s) refl
    where
      go : (o : Option ℕ) → b.place.listed s ≡ o → IfSome o (λ v. v < c.servers)
      go None e = tt
      go (Some u) e = listed s u e

  abbrev IsFit : Instr → Type 0
  IsFit i = IsKnownInstr c.shards c.servers i

  fits_handing : (m : Move) → IsMoveOf b.setup m → (o : Option ℕ) → AllByRecursion IsFit (handing_over o m)
  fits_handing m is None = ((is.shard, is.to, is.from), ((is.shard, is.from, is.to), ((is.shard, is.to, tt), ((is.shard, is.from, tt), tt))))
  fits_handing m is (Some u) = ((is.shard, is.to, is.from), ((is.shard, is.from, is.to), ((is.shard, is.to, tt), ((is.shard, tt, tt), ((is.shard, is.from, tt), tt)))))

  fits_instructions : (m : Move) → IsMoveOf b.setup m → AllByRecursion IsFit (instructions b.place m)
  fits_instructions m is = elim (cases_Bool (is_primary (left_cell b.place m))) [
    | inl leads ↦ rw leads (fits_handing m is (b.place.listed m.shard))
    | inr follows ↦ rw follows ((is.shard, is.to, tt), ((is.shard, is.from, tt), tt))
  ]

  fits_move : (k : ℕ) → k < length order → AllByRecursion IsFit (move_code b order k)
  fits_move k l =
      let signals : List HandedRoom = signals_of b order in
      all_both IsFit (waits_of signals k) (instructions b.place (move_at order k) ++ posts_of signals k)
      (all_picked IsFit Wait (λ q. (signal_at signals q).payer == k) (range_with_len 0 (length signals)) (λ q s own. (tt, tt, tt)))
      (all_both IsFit (instructions b.place (move_at order k)) (posts_of signals k) (fits_instructions (move_at order k) (known k l))
      (all_picked IsFit Signal (λ q. (signal_at signals q).source == k) (range_with_len 0 (length signals)) (λ q s own. (tt, tt, tt))))

  abbrev cells : ℕ → List CellRight
  cells i = gathered stream_of (λ k. cells_needed b.place (move_at order k)) (length order) i

  abbrev crowns : ℕ → List Crown
  crowns i = gathered stream_of (λ k. crowns_of b.place (move_at order k)) (length order) i

  fits_cell : (i : ℕ) (x : CellRight) → StandsIn x (sorted key_of_cell (cells i)) → IsKnownCellRight c.shards c.servers x
  fits_cell i x s =
      let by = gathered_from stream_of (λ k. cells_needed b.place (move_at order k)) i (length order) x (from_sorted key_of_cell (cells i) x s) in
      let is = known by.0 by.1 in
      elim (needed_cases b.place (move_at order by.0) x by.3) [
        | inl one ↦ subst (λ y. IsKnownCellRight c.shards c.servers y) one (is.shard, is.to)
        | inr two ↦ subst (λ y. IsKnownCellRight c.shards c.servers y) two.1 (is.shard, is.from)
      ]

  fits_crown : (i : ℕ) (x : Crown) → StandsIn x (sorted key_of_crown (crowns i)) → IsKnownCrown c.shards c.servers x
  fits_crown i x s =
      let by = gathered_from stream_of (λ k. crowns_of b.place (move_at order k)) i (length order) x (from_sorted key_of_crown (crowns i) x s) in
      let is = known by.0 by.1 in
      let it = crown_case b.place (move_at order by.0) x by.3 in
      subst (λ y. IsKnownCrown c.shards c.servers y) it.1 (is.shard, is.from, listed_known (move_at order by.0).shard)

  fits_room : (i : ℕ) (x : Room) → StandsIn x (filter (λ y. nat_lt 0 y.amount) (sorted key_of_room (needs_by b order (moves_of order i)).room)) → x.server < c.servers
  fits_room i x s =
      let from = stands_mapped (room_by b order (moves_of order i)) x (range_with_len 0 c.servers) (from_sorted key_of_room (needs_by b order (moves_of order i)).room x (stood (λ (y : Room). nat_lt 0 y.amount) x (sorted key_of_room (needs_by b order (moves_of order i)).room) s)) in
      let low = stands_below c.servers from.0 from.1 in
      let same : from.0 ≡ x.server = ap (λ (y : Room). y.server) from.2 in
      omega arith

  fits_holds : (i : ℕ) → IsKnownParcel c.shards c.servers (holds_of b order i)
  fits_holds i = record {
    cells = All-from_recursion (IsKnownCellRight c.shards c.servers) (sorted key_of_cell (cells i)) (all_standing (IsKnownCellRight c.shards c.servers) (sorted key_of_cell (cells i)) (fits_cell i));
    crowns = All-from_recursion (IsKnownCrown c.shards c.servers) (sorted key_of_crown (crowns i)) (all_standing (IsKnownCrown c.shards c.servers) (sorted key_of_crown (crowns i)) (fits_crown i));
    room = All-from_recursion (λ x. x.server < c.servers) (holds_of b order i).room (all_standing (λ x. x.server < c.servers) (holds_of b order i).room (fits_room i));
    spare = All-from_recursion (λ x. x.shard < c.shards) [] tt;
  }

  fits_stream : (i : ℕ) → IsKnownStream c.shards c.servers (stream b order i)
  fits_stream i = record {
    holds = fits_holds i;
    code = All-from_recursion IsFit (stream b order i).code (all_of_parts IsFit (move_code b order) (moves_of order i) (λ k s. fits_move k (stands_below (length order) k (stood (λ j. stream_of j == i) k (range_with_len 0 (length order)) s))));
  }

  fits_parcel : (h : HandedRoom) → IsHandedOn b order h → IsKnownParcel c.shards c.servers (handed_parcel b order h)
  fits_parcel h on = record {
    cells = All-from_recursion (IsKnownCellRight c.shards c.servers) [] tt;
    crowns = All-from_recursion (IsKnownCrown c.shards c.servers) [] tt;
    room = All-from_recursion (λ x. x.server < c.servers) (handed_parcel b order h).room ((known h.payer on.payer).to, tt);
    spare = All-from_recursion (λ x. x.shard < c.shards) [] tt;
  }

  -- the plan of such moves is of the configuration
  pub fits_plan : IsKnownPlan c.shards c.servers (planned b order)
  fits_plan = record {
    streams = All-map (IsKnownStream c.shards c.servers) (stream b order) (range_with_len 0 (width order)) (λ i d l. fits_stream (get_or (range_with_len 0 (width order)) i d));
    signals = All-map (IsKnownParcel c.shards c.servers) (handed_parcel b order) (signals_of b order) (All-from_recursion (λ h. IsKnownParcel c.shards c.servers (handed_parcel b order h)) (signals_of b order) (fits_all (signals_of b order) (are_handed_on b order)));
  }
    where
      fits_all : (hs : List HandedRoom) → AllByRecursion (IsHandedOn b order) hs → AllByRecursion (λ h. IsKnownParcel c.shards c.servers (handed_parcel b order h)) hs
      fits_all [] a = tt
      fits_all (h ∷ hs) a = (fits_parcel h a.0, fits_all hs a.1)
