-- The data written for a plan has no float, and does not nest deep.
use Rattle.std.proofs.Common.{◌≡◌, ◌≤◌, ℕ, suc, max, Bool, true, false, List, [], ◌∷◌, map, Option, Some, None, refl, arith}
use Rattle.std.proofs.lemmas.Bool.{or_from}
use Rattle.serde_json.specs.Data.{Data, Items, Members, object, no_members, member, string, number, unsigned, depth, items_depth, members_depth}
use Rattle.serde_json.specs.View.{items_of}
use Rattle.serde_json.specs.Written.{has_float, items_have_float, members_have_float}
use Rattle.sm_placement.specs.declared.lead.Lead.{Lead}
use Rattle.sm_placement.specs.declared.lead.Lead.TheVariants as lead
use Rattle.sm_reservation.specs.declared.right.CellRight.{CellRight}
use Rattle.sm_reservation.specs.declared.right.Crown.{Crown}
use Rattle.sm_reservation.specs.declared.right.Room.{Room}
use Rattle.sm_reservation.specs.declared.right.Spare.{Spare}
use Rattle.sm_reservation.specs.Rights.{Rights}
use Rattle.sm_plan_code.specs.declared.instruction.Instr.{Instr}
use Rattle.sm_plan_code.specs.declared.instruction.Instr.TheVariants as instr
use Rattle.sm_plan_code.specs.Plan.{StreamModel, PlanModel}
use Rattle.sm_plan_text.specs.PlanTexts.{list_data, listed_data, right_data, crown_by_lead, crown_data, room_data, spare_data, parcel_data, instr_data, has_retries, stream_data, plan_data}

-- no float, and no more levels than n
pub record IsPlain (n : ℕ) (d : Data) : Type 0 where
  pub floats : has_float d ≡ false
  pub levels : depth d ≤ n

pub record ArePlainItems (n : ℕ) (ds : Items) : Type 0 where
  pub floats : items_have_float ds ≡ false
  pub levels : items_depth ds ≤ n

pub record ArePlain (n : ℕ) (ms : Members) : Type 0 where
  pub floats : members_have_float ms ≡ false
  pub levels : members_depth ms ≤ n

max_within : (a b n : ℕ) → a ≤ n → b ≤ n → max a b ≤ n
max_within a b n h k = omega arith

none_plain : (n : ℕ) → ArePlain n no_members
none_plain n = record { floats = refl; levels = omega arith }

and_plain : (n : ℕ) (k : List ℕ) (d : Data) (ms : Members) → IsPlain n d → ArePlain n ms → ArePlain n (member k d ms)
and_plain n k d ms h rest = record {
  floats = or_from (has_float d) (members_have_float ms) h.floats rest.floats;
  levels = max_within (depth d) (members_depth ms) n h.levels rest.levels;
}

object_plain : (n : ℕ) (ms : Members) → ArePlain n ms → IsPlain (suc n) (object ms)
object_plain n ms h = record { floats = h.floats; levels = omega (arith, h.levels) }

each_plain : {T : Type 0} (n : ℕ) (f : T → Data) (xs : List T) → ((x : T) → IsPlain n (f x)) → ArePlainItems n (items_of (map f xs))
each_plain n f [] h = record { floats = refl; levels = omega arith }
each_plain n f (x ∷ xs) h =
    let first : IsPlain n (f x) = h x in
    let rest : ArePlainItems n (items_of (map f xs)) = each_plain n f xs h in
    record {
      floats = or_from (has_float (f x)) (items_have_float (items_of (map f xs))) first.floats rest.floats;
      levels = max_within (depth (f x)) (items_depth (items_of (map f xs))) n first.levels rest.levels;
    }

list_plain : {T : Type 0} (n : ℕ) (f : T → Data) (xs : List T) → ((x : T) → IsPlain n (f x)) → IsPlain (suc n) (list_data (map f xs))
list_plain n f xs h =
    let all : ArePlainItems n (items_of (map f xs)) = each_plain n f xs h in
    record { floats = all.floats; levels = omega (arith, all.levels) }

text_plain : (n : ℕ) (s : List ℕ) → IsPlain n (string s)
text_plain n s = record { floats = refl; levels = omega arith }

whole_plain : (n k : ℕ) → IsPlain n (number (unsigned k))
whole_plain n k = record { floats = refl; levels = omega arith }

listed_plain : (n : ℕ) (servers : List (List ℕ)) (o : Option ℕ) → IsPlain n (listed_data servers o)
listed_plain n servers None = record { floats = refl; levels = omega arith }
listed_plain n servers (Some v) = text_plain n _

right_plain : (shards servers : List (List ℕ)) (x : CellRight) → IsPlain 1 (right_data shards servers x)
right_plain shards servers x = record { floats = refl; levels = omega arith }

crown_plain : (shards servers : List (List ℕ)) (l : Lead) (x : Crown) → IsPlain 1 (crown_by_lead shards servers l x)
crown_plain shards servers lead.Gone x = object_plain 0 _ (and_plain 0 _ _ _ (text_plain 0 _) (and_plain 0 _ _ _ (listed_plain 0 servers x.listed) (and_plain 0 _ _ _ (text_plain 0 _) (none_plain 0))))
crown_plain shards servers (lead.At u) x = object_plain 0 _ (and_plain 0 _ _ _ (text_plain 0 _) (and_plain 0 _ _ _ (listed_plain 0 servers x.listed) (and_plain 0 _ _ _ (text_plain 0 _) (and_plain 0 _ _ _ (text_plain 0 _) (none_plain 0)))))
crown_plain shards servers (lead.Ready u v) x = object_plain 0 _ (and_plain 0 _ _ _ (text_plain 0 _) (and_plain 0 _ _ _ (text_plain 0 _) (and_plain 0 _ _ _ (listed_plain 0 servers x.listed) (and_plain 0 _ _ _ (text_plain 0 _) (and_plain 0 _ _ _ (text_plain 0 _) (none_plain 0))))))
crown_plain shards servers (lead.Handing u v) x = object_plain 0 _ (and_plain 0 _ _ _ (text_plain 0 _) (and_plain 0 _ _ _ (text_plain 0 _) (and_plain 0 _ _ _ (listed_plain 0 servers x.listed) (and_plain 0 _ _ _ (text_plain 0 _) (and_plain 0 _ _ _ (text_plain 0 _) (none_plain 0))))))
crown_plain shards servers (lead.Handed u v) x = object_plain 0 _ (and_plain 0 _ _ _ (text_plain 0 _) (and_plain 0 _ _ _ (text_plain 0 _) (and_plain 0 _ _ _ (listed_plain 0 servers x.listed) (and_plain 0 _ _ _ (text_plain 0 _) (and_plain 0 _ _ _ (text_plain 0 _) (none_plain 0))))))

room_plain : (servers : List (List ℕ)) (x : Room) → IsPlain 1 (room_data servers x)
room_plain servers x = record { floats = refl; levels = omega arith }

spare_plain : (shards : List (List ℕ)) (x : Spare) → IsPlain 1 (spare_data shards x)
spare_plain shards x = record { floats = refl; levels = omega arith }

parcel_plain : (n : ℕ) (shards servers : List (List ℕ)) (r : Rights) → 2 ≤ n → IsPlain (suc n) (parcel_data shards servers r)
parcel_plain n shards servers r h =
    object_plain n _
    (and_plain n _ _ _ (within (list_plain 1 (right_data shards servers) r.cells (right_plain shards servers)))
    (and_plain n _ _ _ (within (list_plain 1 (crown_data shards servers) r.crowns (λ x. crown_plain shards servers x.lead x)))
    (and_plain n _ _ _ (within (list_plain 1 (room_data servers) r.room (room_plain servers)))
    (and_plain n _ _ _ (within (list_plain 1 (spare_data shards) r.spare (spare_plain shards)))
    (none_plain n)))))
  where
    within : {d : Data} → IsPlain 2 d → IsPlain n d
    within p = record { floats = p.floats; levels = omega (arith, p.levels, h) }

instr_plain : (shards servers : List (List ℕ)) (i : Instr) → IsPlain 2 (instr_data shards servers i)
instr_plain shards servers (instr.PrepareAdd s v u) = record { floats = refl; levels = omega arith }
instr_plain shards servers (instr.PrepareDrop s u v) = record { floats = refl; levels = omega arith }
instr_plain shards servers (instr.Add s v role) = record { floats = refl; levels = omega arith }
instr_plain shards servers (instr.Drop s v) = record { floats = refl; levels = omega arith }
instr_plain shards servers (instr.Change s v to) = record { floats = refl; levels = omega arith }
instr_plain shards servers (instr.Publish s) = record { floats = refl; levels = omega arith }
instr_plain shards servers (instr.Unlist s) = record { floats = refl; levels = omega arith }
instr_plain shards servers (instr.Signal k) = record { floats = refl; levels = omega arith }
instr_plain shards servers (instr.Wait k) = record { floats = refl; levels = omega arith }

stream_plain : (shards servers : List (List ℕ)) (retries : Bool) (s : StreamModel) → IsPlain 4 (stream_data shards servers retries s)
stream_plain shards servers true s =
    object_plain 3 _
    (and_plain 3 _ _ _ (whole_plain 3 s.budget)
    (and_plain 3 _ _ _ (list_plain 2 (instr_data shards servers) s.code (instr_plain shards servers))
    (and_plain 3 _ _ _ (parcel_plain 2 shards servers s.holds (omega arith))
    (and_plain 3 _ _ _ (whole_plain 3 s.retries) (none_plain 3)))))
stream_plain shards servers false s =
    object_plain 3 _
    (and_plain 3 _ _ _ (whole_plain 3 s.budget)
    (and_plain 3 _ _ _ (list_plain 2 (instr_data shards servers) s.code (instr_plain shards servers))
    (and_plain 3 _ _ _ (parcel_plain 2 shards servers s.holds (omega arith))
    (none_plain 3))))

-- a plan nests six deep
pub plan_is_plain : (shards servers : List (List ℕ)) (p : PlanModel) → IsPlain 6 (plan_data shards servers p)
plan_is_plain shards servers p =
    object_plain 5 _
    (and_plain 5 _ _ _ (whole_plain 5 p.budget)
    (and_plain 5 _ _ _ (whole_plain 5 _)
    (and_plain 5 _ _ _ (list_plain 4 (parcel_data shards servers) p.signals (λ r. parcel_plain 3 shards servers r (omega arith)))
    (and_plain 5 _ _ _ (list_plain 4 (stream_data shards servers (has_retries p)) p.streams (stream_plain shards servers (has_retries p)))
    (none_plain 5)))))
