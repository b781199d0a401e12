-- When a small change can be made: what a caller of `exchange` shows of its sums and of its room, and how far it grows.
use Rattle.std.proofs.Common.{◌≡◌, ℕ, ◌+◌, ◌≤◌, ◌^◌, Bool, true, false, refl, arith, Option, Some, None, length}
use Rattle.std.specs.Prelude.{IfSome, count_by}
use Rattle.std.specs.Option.{option_to_list}
use Rattle.sm_reservation.specs.declared.change.Change.{Change as Exchange}
use Rattle.sm_reservation.specs.declared.change.Portion.{Portion}
use Rattle.sm_reservation.specs.Rows.{same, amount_at}
use Rattle.sm_reservation.specs.Key.{IsOrdered, key_of_cell, key_of_crown, key_of_room, key_of_spare}
use Rattle.sm_reservation.specs.Hold.{Hold, minus, plus}
use Rattle.sm_reservation.specs.HoldOf.{hold_of}
use Rattle.sm_reservation.specs.CanJoin.{AreApart, CanJoin}
use Rattle.sm_reservation.specs.Change.{portion_rights}
use Rattle.sm_reservation.specs.Capacity.{HoldModel, HasCapacityAfter}
use Rattle.sm_reservation.specs.Turns.{lacks_cell, lacks_crown, lacks_room, lacks_spare}
use Rattle.sm_reservation.proofs.RowLemmas.{one_rises}
use Rattle.sm_reservation.proofs.ParcelSums.{minus_is, plus_is}
use Rattle.sm_plan_code.specs.declared.limits.TheConstants.{MOST_AMOUNT}
use Rattle.sm_plan_code.specs.Table.{IsSmallPortion}

-- the lists of a portion are in order
pub portion_ordered : (p : Portion) → IsOrdered (portion_rights p)
portion_ordered p = record { cells = one_rises key_of_cell p.cell; crowns = one_rises key_of_crown p.crown; room = one_rises key_of_room p.room; spare = one_rises key_of_spare p.spare }

-- ---- how much a portion has

amount_of_one : {T : Type 0} (key_of : T → ℕ × ℕ) (amount : T → ℕ) (n : ℕ) (o : Option T) (q : ℕ × ℕ) → IfSome o (λ x. amount x ≤ n) → amount_at key_of amount (option_to_list o) q ≤ n
amount_of_one key_of amount n None q l = omega arith
amount_of_one key_of amount n (Some x) q l = go (same (key_of x) q) refl
  where
    go : (b : Bool) → same (key_of x) q ≡ b → amount_at key_of amount (option_to_list (Some x)) q ≤ n
    go true e = rw e l
    go false e = rw e (omega arith)

room_of : (p : Portion) → IsSmallPortion p → (v : ℕ) → (hold_of (portion_rights p)).room v ≤ MOST_AMOUNT
unfolding hold_of
room_of p l v = amount_of_one key_of_room (λ x. x.amount) MOST_AMOUNT p.room (v, 0) l.room

spare_of : (p : Portion) → IsSmallPortion p → (s : ℕ) → (hold_of (portion_rights p)).spare s ≤ 1
unfolding hold_of
spare_of p l s = amount_of_one key_of_spare (λ x. x.amount) 1 p.spare (s, 0) l.spare

-- ---- a change of a hold

module _ (h : Hold) (x : Exchange) (small : IsSmallPortion x.got) where
  less_room : (v : ℕ) → (minus h (portion_rights x.out)).room v ≤ h.room v
  less_room v = rw (minus_is h (portion_rights x.out) (portion_ordered x.out)) (omega arith)

  less_spare : (s : ℕ) → (minus h (portion_rights x.out)).spare s ≤ h.spare s
  less_spare s = rw (minus_is h (portion_rights x.out) (portion_ordered x.out)) (omega arith)

  -- where no amount is above 2^63, no sum passes a u64
  pub change_joins : AreApart (minus h (portion_rights x.out)) (hold_of (portion_rights x.got)) → ((v : ℕ) → h.room v ≤ 2 ^ 63) → ((s : ℕ) → h.spare s ≤ 2 ^ 63) →
      CanJoin (minus h (portion_rights x.out)) (hold_of (portion_rights x.got))
  change_joins apart rooms spares = record {
    cells = apart.cells;
    crowns = apart.crowns;
    room = λ v. omega (arith, less_room v, rooms v, room_of x.got small v);
    spare = λ s. omega (arith, less_spare s, spares s, spare_of x.got small s);
  }

  -- the room of each server grows by the greatest amount of a right at most
  pub change_grows_room : (v : ℕ) → (plus (minus h (portion_rights x.out)) (portion_rights x.got)).room v ≤ h.room v + MOST_AMOUNT
  change_grows_room v = rw (plus_is (minus h (portion_rights x.out)) (portion_rights x.got) (portion_ordered x.got)) (omega (arith, less_room v, room_of x.got small v))

  -- and the spare replicas of each shard by one
  pub change_grows_spare : (s : ℕ) → (plus (minus h (portion_rights x.out)) (portion_rights x.got)).spare s ≤ h.spare s + 1
  change_grows_spare s = rw (plus_is (minus h (portion_rights x.out)) (portion_rights x.got) (portion_ordered x.got)) (omega (arith, less_spare s, spare_of x.got small s))

-- ---- room in the lists

one_new : {T : Type 0} (test : T → Bool) (o : Option T) → count_by test (option_to_list o) ≤ 1
one_new test None = omega arith
one_new test (Some x) = go (test x) refl
  where
    go : (b : Bool) → test x ≡ b → count_by test (option_to_list (Some x)) ≤ 1
    go true e = rw e (omega arith)
    go false e = rw e (omega arith)

-- where each list has room for one key more, there is room for a change
pub change_has_capacity : (k : HoldModel) (x : Exchange) → length k.rights.cells + 1 ≤ k.capacity → length k.rights.crowns + 1 ≤ k.capacity → length k.rights.room + 1 ≤ k.capacity → length k.rights.spare + 1 ≤ k.capacity →
    HasCapacityAfter k (portion_rights x.out) (portion_rights x.got)
change_has_capacity k x a b d e =
    let h = minus (hold_of k.rights) (portion_rights x.out) in
    record {
      cells = omega (arith, one_new (lacks_cell h) x.got.cell);
      crowns = omega (arith, one_new (lacks_crown h) x.got.crown);
      room = omega (arith, one_new (lacks_room h) x.got.room);
      spare = omega (arith, one_new (lacks_spare h) x.got.spare);
    }
