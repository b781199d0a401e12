-- Each row of a parcel: it is found at its key, so that what a hold says of all keys holds of it.
use Rattle.std.proofs.Common.{subst, sym, ◌≡◌, ℕ, ◌+◌, ◌<◌, ◌≤◌, ◌^◌, Some, List, [], ◌∷◌, refl, ap, arith, inl, inr, None, Option}
use Rattle.std.specs.List.{AllByRecursion}
use Rattle.std.proofs.lemmas.Bool.{cases_lt}
use Rattle.sm_placement.specs.declared.lead.Lead.{Lead}
use Rattle.sm_reservation.specs.declared.right.PlainCell.{PlainCell}
use Rattle.sm_reservation.specs.declared.right.CellRight.{CellRight}
use Rattle.sm_reservation.specs.declared.right.Crown.{Crown}
use Rattle.sm_reservation.specs.declared.right.Room.{Room}
use Rattle.sm_reservation.specs.declared.right.Spare.{Spare}
use Rattle.sm_reservation.specs.Rights.{Rights}
use Rattle.sm_reservation.specs.Hold.{Hold}
use Rattle.sm_reservation.specs.Rows.{row_at, amount_of, amount_at, Rises, AllAfter, HasPositive}
use Rattle.sm_reservation.specs.Key.{key_of_cell, key_of_crown, key_of_room, key_of_spare, IsOrdered}
use Rattle.sm_reservation.specs.HoldOf.{plain_state_of, crown_of, hold_of}
use Rattle.sm_reservation.specs.Steps.{AllSteps}
use Rattle.sm_reservation.specs.Turns.{in_room, in_spare, RoomFits, SpareFits}
use Rattle.sm_reservation.specs.CanJoin.{CanJoin}
use Rattle.sm_reservation.specs.Covers.{Covers}
use Rattle.sm_reservation.specs.Pool.{IsKnownHold}
use Rattle.sm_reservation.proofs.Places.{same_here, before_not_same}
use Rattle.sm_reservation.proofs.TurnLemmas.{RoomFits-steps, SpareFits-steps}
use Rattle.sm_reservation.proofs.ParcelMoves.{put-2, put-3, put-room, put-spare}

-- lists in order make an ordered parcel
pub ordered_by : (p : Rights) (cells : List CellRight) (crowns : List Crown) (room : List Room) (spare : List Spare) → cells ≡ p.cells → crowns ≡ p.crowns → room ≡ p.room → spare ≡ p.spare →
    Rises key_of_cell cells → Rises key_of_crown crowns → Rises key_of_room room → Rises key_of_spare spare → IsOrdered p
ordered_by p cells crowns room spare a b c d e f g h = record {
  cells = subst (λ (xs : List CellRight). Rises key_of_cell xs) a e;
  crowns = subst (λ (xs : List Crown). Rises key_of_crown xs) b f;
  room = subst (λ (xs : List Room). Rises key_of_room xs) c g;
  spare = subst (λ (xs : List Spare). Rises key_of_spare xs) d h;
}

-- the row is found at its key
abbrev pub IsFound : {T : Type 0} → (T → ℕ × ℕ) → List T → T → Type 0
IsFound key_of xs x = row_at key_of xs (key_of x) ≡ Some x

found_behind : {T : Type 0} (key_of : T → ℕ × ℕ) (x : T) (xs ys : List T) → AllAfter key_of (key_of x) ys → AllByRecursion (IsFound key_of xs) ys → AllByRecursion (IsFound key_of (x ∷ xs)) ys
found_behind key_of x xs [] after all = tt
found_behind key_of x xs (y ∷ ys) after all = (rw (before_not_same (key_of x) (key_of y) after.0) all.0, found_behind key_of x xs ys after.1 all.1)

-- in rows that rise each row is found at its key
pub all_found : {T : Type 0} (key_of : T → ℕ × ℕ) (xs : List T) → Rises key_of xs → AllByRecursion (IsFound key_of xs) xs
all_found key_of [] r = tt
all_found key_of (x ∷ xs) r = (rw (same_here (key_of x)) refl, found_behind key_of x xs xs r.0 (all_found key_of xs r.1))

-- what follows for each element from a property that all have holds of all
pub all_map : {T : Type 0} (P Q : T → Type 0) (xs : List T) → ((x : T) → P x → Q x) → AllByRecursion P xs → AllByRecursion Q xs
all_map P Q [] h all = tt
all_map P Q (x ∷ xs) h all = (h x all.0, all_map P Q xs h all.1)

-- each row has an amount, and is found
both : {T : Type 0} (key_of : T → ℕ × ℕ) (amount : T → ℕ) (ys xs : List T) → HasPositive amount xs → AllByRecursion (IsFound key_of ys) xs → AllByRecursion (λ x. (0 < amount x) × IsFound key_of ys x) xs
both key_of amount ys [] some all = tt
both key_of amount ys (x ∷ xs) some all = ((some.0, all.0), both key_of amount ys xs some.1 all.1)

-- ---- a parcel of known shards and servers

-- the rows of cell rights are of known shards and servers, where the hold that they are is
pub cells_known : (shards servers : ℕ) (p : Rights) → Rises key_of_cell p.cells → IsKnownHold shards servers (hold_of p) → AllByRecursion (λ x. (x.shard < shards) × (x.server < servers)) p.cells
unfolding hold_of
cells_known shards servers p o is = all_map (IsFound key_of_cell p.cells) (λ x. (x.shard < shards) × (x.server < servers)) p.cells (λ x e. (shard x e, server x e)) (all_found key_of_cell p.cells o)
  where
    shard : (x : CellRight) → IsFound key_of_cell p.cells x → x.shard < shards
    shard x e = elim (cases_lt x.shard shards) [ inl l ↦ l | inr l ↦ absurd (let z = is.no_shard x.shard x.server l in let y = ap plain_state_of e in cc) ]

    server : (x : CellRight) → IsFound key_of_cell p.cells x → x.server < servers
    server x e = elim (cases_lt x.server servers) [ inl l ↦ l | inr l ↦ absurd (let z = is.no_server x.shard x.server l in let y = ap plain_state_of e in cc) ]

-- and so are the rows of crowns
pub crowns_known : (shards servers : ℕ) (p : Rights) → Rises key_of_crown p.crowns → IsKnownHold shards servers (hold_of p) → AllByRecursion (λ x. x.shard < shards) p.crowns
unfolding hold_of
crowns_known shards servers p o is = all_map (IsFound key_of_crown p.crowns) (λ x. x.shard < shards) p.crowns shard (all_found key_of_crown p.crowns o)
  where
    shard : (x : Crown) → IsFound key_of_crown p.crowns x → x.shard < shards
    shard x e = elim (cases_lt x.shard shards) [ inl l ↦ l | inr l ↦ absurd (let z = is.crowns x.shard l in let y = ap crown_of e in cc) ]

known_amounts : {T : Type 0} (key_of : T → ℕ × ℕ) (amount : T → ℕ) (count : ℕ) (xs : List T) → Rises key_of xs → HasPositive amount xs → ((x : T) → count ≤ (key_of x).0 → amount_at key_of amount xs (key_of x) ≡ 0) → AllByRecursion (λ x. (key_of x).0 < count) xs
known_amounts {T} key_of amount count xs o some none = all_map (λ x. (0 < amount x) × IsFound key_of xs x) (λ x. (key_of x).0 < count) xs (λ x e. below x e.0 e.1) (both key_of amount xs xs some (all_found key_of xs o))
  where
    below : (x : T) → 0 < amount x → IsFound key_of xs x → (key_of x).0 < count
    below x l e = elim (cases_lt (key_of x).0 count) [
      | inl m ↦ m
      | inr m ↦ absurd (let z = none x m in let y : amount_at key_of amount xs (key_of x) ≡ amount x = ap (amount_of amount) e in omega arith)
    ]

-- and those of room, where none is of 0
pub rooms_known : (shards servers : ℕ) (p : Rights) → Rises key_of_room p.room → HasPositive (λ x. x.amount) p.room → IsKnownHold shards servers (hold_of p) → AllByRecursion (λ x. x.server < servers) p.room
unfolding hold_of
rooms_known shards servers p o some is = known_amounts key_of_room (λ x. x.amount) servers p.room o some (λ x l. is.room x.server l)

-- and those of spare replicas, where none is of 0
pub spares_known : (shards servers : ℕ) (p : Rights) → Rises key_of_spare p.spare → HasPositive (λ x. x.amount) p.spare → IsKnownHold shards servers (hold_of p) → AllByRecursion (λ x. x.shard < shards) p.spare
unfolding hold_of
spares_known shards servers p o some is = known_amounts key_of_spare (λ x. x.amount) shards p.spare o some (λ x l. is.spare x.shard l)

-- what a hold has all of is of known shards and servers, as the hold is
pub covered_below : (shards servers : ℕ) (h k : Hold) → IsKnownHold shards servers h → Covers h k → IsKnownHold shards servers k
covered_below shards servers h k is c = record {
  no_shard = λ s v l. cell (k.cells s v) s v refl (is.no_shard s v l);
  no_server = λ s v l. cell (k.cells s v) s v refl (is.no_server s v l);
  crowns = λ s l. crown (k.crowns s) s refl (is.crowns s l);
  room = λ v l. let a = is.room v l in let b = c.room v in omega arith;
  spare = λ s l. let a = is.spare s l in let b = c.spare s in omega arith;
}
  where
    cell : (o : Option PlainCell) (s v : ℕ) → k.cells s v ≡ o → h.cells s v ≡ None → k.cells s v ≡ None
    cell None s v e none = e
    cell (Some state) s v e none = absurd (let z = c.cells s v state e in cc)

    crown : (o : Option (Lead × Option ℕ)) (s : ℕ) → k.crowns s ≡ o → h.crowns s ≡ None → k.crowns s ≡ None
    crown None s e none = e
    crown (Some x) s e none = absurd (let z = c.crowns s x e in cc)

-- ---- a parcel that can be put in

-- where a parcel can be joined to a hold, each amount of its room fits beside the hold's
pub rooms_fit : (h : Hold) (p : Rights) → IsOrdered p → CanJoin h (hold_of p) → AllByRecursion (RoomFits h) p.room
unfolding hold_of
rooms_fit h p o is = all_map (IsFound key_of_room p.room) (RoomFits h) p.room fits (all_found key_of_room p.room o.room)
  where
    fits : (x : Room) → IsFound key_of_room p.room x → h.room x.server + x.amount < 2 ^ 64
    fits x e = let z = is.room x.server in let y : amount_of (λ (r : Room). r.amount) (row_at key_of_room p.room (x.server, 0)) ≡ x.amount = ap (amount_of (λ (r : Room). r.amount)) e in omega arith

-- and each amount of its spare replicas
pub spares_fit : (h : Hold) (p : Rights) → IsOrdered p → CanJoin h (hold_of p) → AllByRecursion (SpareFits h) p.spare
unfolding hold_of
spares_fit h p o is = all_map (IsFound key_of_spare p.spare) (SpareFits h) p.spare fits (all_found key_of_spare p.spare o.spare)
  where
    fits : (x : Spare) → IsFound key_of_spare p.spare x → h.spare x.shard + x.amount < 2 ^ 64
    fits x e = let z = is.spare x.shard in let y : amount_of (λ (r : Spare). r.amount) (row_at key_of_spare p.spare (x.shard, 0)) ≡ x.amount = ap (amount_of (λ (r : Spare). r.amount)) e in omega arith

-- the amounts fit where they are put in, after the lists before them
pub rooms_fit_in : (h : Hold) (p : Rights) → IsOrdered p → CanJoin h (hold_of p) → AllSteps in_room RoomFits (put-2 h p) p.room
rooms_fit_in h p o is =
    let at : AllByRecursion (RoomFits (put-2 h p)) p.room = subst (λ (f : ℕ → ℕ). AllByRecursion (λ x. f x.server + x.amount < 2 ^ 64) p.room) (sym (put-room h p)) (rooms_fit h p o is) in
    RoomFits-steps (put-2 h p) p.room o.room at

-- and so do the spare replicas, after the room
pub spares_fit_in : (h : Hold) (p : Rights) → IsOrdered p → CanJoin h (hold_of p) → AllSteps in_spare SpareFits (put-3 h p) p.spare
spares_fit_in h p o is =
    let at : AllByRecursion (SpareFits (put-3 h p)) p.spare = subst (λ (f : ℕ → ℕ). AllByRecursion (λ x. f x.shard + x.amount < 2 ^ 64) p.spare) (sym (put-spare h p)) (spares_fit h p o is) in
    SpareFits-steps (put-3 h p) p.spare o.spare at
