-- The lists that one kind of rights leaves as they are, and keys that are apart.
use Rattle.std.proofs.Common.{◌≡◌, ℕ, ◌+◌, ◌-◌, ◌&&◌, nat_lt, ◌==◌, true, false, eqb, Some, None, is_some, is_none, List, refl, ◌∙◌, ap, arith}
use Rattle.std.specs.List.{count_by, AllByRecursion}
use Rattle.std.proofs.lemmas.Bool.Decides.{nat_tests}
use Rattle.sm_placement.specs.Sums.{put, put2}
use Rattle.sm_reservation.specs.Rows.{before, Rises}
use Rattle.sm_reservation.specs.Key.{key_of_cell, key_of_crown, key_of_room, key_of_spare}
use Rattle.sm_reservation.specs.Hold.{Hold}
use Rattle.sm_reservation.specs.Steps.{count_steps, AllSteps}
use Rattle.sm_reservation.specs.Turns.{out_cell, out_crown, out_room, out_spare, in_cell, in_crown, in_room, in_spare, lacks_cell, lacks_crown, lacks_room, lacks_spare, loses_cell, loses_crown, loses_room, loses_spare, HasRoom, HasSpare, RoomFits, SpareFits}
use Rattle.sm_reservation.specs.declared.right.CellRight.{CellRight}
use Rattle.sm_reservation.specs.declared.right.Crown.{Crown}
use Rattle.sm_reservation.specs.declared.right.Room.{Room}
use Rattle.sm_reservation.specs.declared.right.Spare.{Spare}
use Rattle.sm_reservation.proofs.HoldLemmas.{at_pair}
use Rattle.sm_reservation.proofs.StepLemmas.{steps_count, all_steps}

-- ---- what a later key reads

later_pair : (s v a b : ℕ) → before (s, v) (a, b) ≡ true → (eqb a s && eqb b v) ≡ false
later_pair s v a b e = grind (arith, nat_tests)

later_one : (s a : ℕ) → before (s, 0) (a, 0) ≡ true → eqb a s ≡ false
later_one s a e = grind (arith, nat_tests)

past_pair : {A : Type 0} (f : ℕ → ℕ → A) (s v : ℕ) (o : A) (a b : ℕ) → before (s, v) (a, b) ≡ true → put2 f s v o a b ≡ f a b
past_pair f s v o a b e = at_pair f s v o a b ∙ rw (later_pair s v a b e) refl

past_one : {A : Type 0} (f : ℕ → A) (s : ℕ) (o : A) (a : ℕ) → before (s, 0) (a, 0) ≡ true → put f s o a ≡ f a
past_one f s o a e = rw (later_one s a e) refl

-- ---- the keys that lists lose and gain, counted at the start

-- cell rights taken out in turn lose as many keys as are counted at the start
pub loses-cells : (h : Hold) (xs : List CellRight) → Rises key_of_cell xs → count_steps out_cell loses_cell h xs ≡ count_by (loses_cell h) xs
loses-cells h xs r = steps_count key_of_cell out_cell loses_cell (λ h x y b. ap is_some (past_pair h.cells x.shard x.server None y.shard y.server b)) h xs r

-- so do crowns
pub loses-crowns : (h : Hold) (xs : List Crown) → Rises key_of_crown xs → count_steps out_crown loses_crown h xs ≡ count_by (loses_crown h) xs
loses-crowns h xs r = steps_count key_of_crown out_crown loses_crown (λ h x y b. ap is_some (past_one h.crowns x.shard None y.shard b)) h xs r

-- so does room
pub loses-room : (h : Hold) (xs : List Room) → Rises key_of_room xs → count_steps out_room loses_room h xs ≡ count_by (loses_room h) xs
loses-room h xs r = steps_count key_of_room out_room loses_room (λ h x y b. ap (λ n. nat_lt 0 y.amount && (n == y.amount)) (past_one h.room x.server (h.room x.server - x.amount) y.server b)) h xs r

-- so do spare replicas
pub loses-spare : (h : Hold) (xs : List Spare) → Rises key_of_spare xs → count_steps out_spare loses_spare h xs ≡ count_by (loses_spare h) xs
loses-spare h xs r = steps_count key_of_spare out_spare loses_spare (λ h x y b. ap (λ n. nat_lt 0 y.amount && (n == y.amount)) (past_one h.spare x.shard (h.spare x.shard - x.amount) y.shard b)) h xs r

-- cell rights put in in turn bring as many new keys as are counted at the start
pub lacks-cells : (h : Hold) (xs : List CellRight) → Rises key_of_cell xs → count_steps in_cell lacks_cell h xs ≡ count_by (lacks_cell h) xs
lacks-cells h xs r = steps_count key_of_cell in_cell lacks_cell (λ h x y b. ap is_none (past_pair h.cells x.shard x.server (Some x.state) y.shard y.server b)) h xs r

-- so do crowns
pub lacks-crowns : (h : Hold) (xs : List Crown) → Rises key_of_crown xs → count_steps in_crown lacks_crown h xs ≡ count_by (lacks_crown h) xs
lacks-crowns h xs r = steps_count key_of_crown in_crown lacks_crown (λ h x y b. ap is_none (past_one h.crowns x.shard (Some (x.lead, x.listed)) y.shard b)) h xs r

-- so does room
pub lacks-room : (h : Hold) (xs : List Room) → Rises key_of_room xs → count_steps in_room lacks_room h xs ≡ count_by (lacks_room h) xs
lacks-room h xs r = steps_count key_of_room in_room lacks_room (λ h x y b. ap (λ n. nat_lt 0 y.amount && (n == 0)) (past_one h.room x.server (h.room x.server + x.amount) y.server b)) h xs r

-- so do spare replicas
pub lacks-spare : (h : Hold) (xs : List Spare) → Rises key_of_spare xs → count_steps in_spare lacks_spare h xs ≡ count_by (lacks_spare h) xs
lacks-spare h xs r = steps_count key_of_spare in_spare lacks_spare (λ h x y b. ap (λ n. nat_lt 0 y.amount && (n == 0)) (past_one h.spare x.shard (h.spare x.shard + x.amount) y.shard b)) h xs r

-- ---- amounts that are there, and sums that fit, one after another

-- room that is there at the start is there when its turn comes
pub HasRoom-steps : (h : Hold) (xs : List Room) → Rises key_of_room xs → AllByRecursion (HasRoom h) xs → AllSteps out_room HasRoom h xs
HasRoom-steps h xs r all = all_steps key_of_room out_room HasRoom (λ h x y b p. rw (past_one h.room x.server (h.room x.server - x.amount) y.server b) p) h xs r all

-- and so are spare replicas
pub HasSpare-steps : (h : Hold) (xs : List Spare) → Rises key_of_spare xs → AllByRecursion (HasSpare h) xs → AllSteps out_spare HasSpare h xs
HasSpare-steps h xs r all = all_steps key_of_spare out_spare HasSpare (λ h x y b p. rw (past_one h.spare x.shard (h.spare x.shard - x.amount) y.shard b) p) h xs r all

-- sums of room that are u64s at the start are when their turn comes
pub RoomFits-steps : (h : Hold) (xs : List Room) → Rises key_of_room xs → AllByRecursion (RoomFits h) xs → AllSteps in_room RoomFits h xs
RoomFits-steps h xs r all = all_steps key_of_room in_room RoomFits (λ h x y b p. rw (past_one h.room x.server (h.room x.server + x.amount) y.server b) p) h xs r all

-- and so are sums of spare replicas
pub SpareFits-steps : (h : Hold) (xs : List Spare) → Rises key_of_spare xs → AllByRecursion (SpareFits h) xs → AllSteps in_spare SpareFits h xs
SpareFits-steps h xs r all = all_steps key_of_spare in_spare SpareFits (λ h x y b p. rw (past_one h.spare x.shard (h.spare x.shard + x.amount) y.shard b) p) h xs r all
