-- Rights that are written are read as themselves.
use Rattle.std.proofs.Common.{◌≡◌, ◌≤◌, ◌<◌, ◌&&◌, ℕ, Bool, true, false, List, [], ◌∷◌, length, Option, Some, None, unwrap_or, is_some, refl, ap, ap₂, ◌∙◌, IfSome, arith}
use Rattle.std.specs.Str.{bytes_eq}
use Rattle.std.proofs.lemmas.Bool.Decides.{nat_tests}
use Rattle.serde_json.specs.Data.{Data}
use Rattle.sm_placement.specs.declared.lead.Lead.{Lead}
use Rattle.sm_placement.specs.declared.lead.Lead.TheVariants as lead
use Rattle.sm_reservation.specs.declared.right.PlainCell.{PlainCell}
use Rattle.sm_reservation.specs.declared.right.PlainCell.TheVariants as plain
use Rattle.sm_reservation.specs.declared.right.CellRight.{CellRight}
use Rattle.sm_reservation.specs.declared.right.Crown.{Crown}
use Rattle.sm_reservation.specs.declared.right.Room.{Room}
use Rattle.sm_reservation.specs.declared.right.Spare.{Spare}
use Rattle.sm_reservation.specs.Rows.{before}
use Rattle.sm_reservation.specs.Key.{key_of_cell, key_of_crown, key_of_room, key_of_spare}
use Rattle.sm_plan_code.specs.declared.limits.TheConstants.{MOST_AMOUNT}
use Rattle.sm_plan_code.specs.Plan.{IsKnownCellRight, IsKnownLead, IsKnownCrown}
use Rattle.sm_plan_text.specs.declared.member.Member.TheVariants as members
use Rattle.sm_plan_text.specs.Values.{id_named}
use Rattle.sm_plan_text.specs.Tables.{known_or_null, text_fault, value_faults, texts_found, is_same_key}
use Rattle.sm_plan_text.specs.Parcels.{plain_named, right_faults, right_in, crown_faults, crown_in, room_faults, room_in, spare_faults, spare_in}
use Rattle.sm_plan_text.specs.PlanTexts.{name_at, plain_text, listed_data, right_data, crown_by_lead, crown_data, room_data, spare_data}
use Rattle.sm_plan_text.proofs.Faultless.{up_to_same}
use Rattle.sm_plan_text.proofs.NamesBack.{LeadBack, id_back, id_read, named, same_number, no_faults, three}
use Rattle.sm_plan_text.proofs.ListsBack.{number_no_fault}

-- ---- rights to cells

plain_no_fault : (state : PlainCell) → text_fault members.State (λ s. is_some (plain_named s)) (Some (plain_text state)) ≡ []
plain_no_fault plain.Absent = refl
plain_no_fault plain.Secondary = refl

plain_read : (state : PlainCell) → unwrap_or (plain_named (plain_text state)) plain.Absent ≡ state
plain_read plain.Absent = refl
plain_read plain.Secondary = refl

-- a right to a cell of a known shard and server has no fault as it is written
pub right_no_fault : (shards servers : List (List ℕ)) → LeadBack shards → LeadBack servers → (earlier : List Data) (x : CellRight) → IsKnownCellRight (length shards) (length servers) x → right_faults shards servers earlier (right_data shards servers x) ≡ []
right_no_fault shards servers a b earlier x h =
    no_faults _ _ (named members.Shard shards x.shard a h.0) (no_faults _ _ (named members.Server servers x.server b h.1) (no_faults _ _ (plain_no_fault x.state) refl))

-- and it is read as itself
pub right_back : (shards servers : List (List ℕ)) → LeadBack shards → LeadBack servers → (x : CellRight) → IsKnownCellRight (length shards) (length servers) x → right_in shards servers (right_data shards servers x) ≡ x
right_back shards servers a b x h =
    three (λ (s v : ℕ) (state : PlainCell). record { shard = s; server = v; state = state }) _ _ _ _ _ _ (id_read shards x.shard a h.0) (id_read servers x.server b h.1) (plain_read x.state)

-- ---- crowns

listed_no_fault : (servers : List (List ℕ)) (o : Option ℕ) → LeadBack servers → IfSome o (λ v. v < length servers) → value_faults members.Listed (known_or_null servers) (listed_data servers o) ≡ []
listed_no_fault servers None b h = refl
listed_no_fault servers (Some v) b h = named members.Listed servers v b h

listed_read : (servers : List (List ℕ)) (o : Option ℕ) → LeadBack servers → IfSome o (λ v. v < length servers) → id_named servers (listed_data servers o) ≡ o
listed_read servers None b h = refl
listed_read servers (Some v) b h = id_back servers v b h

crown_clean : (shards servers : List (List ℕ)) → LeadBack shards → LeadBack servers → (earlier : List Data) (l : Lead) (x : Crown) → x.shard < length shards → IsKnownLead (length servers) l → IfSome x.listed (λ v. v < length servers) → crown_faults shards servers earlier (crown_by_lead shards servers l x) ≡ []
crown_clean shards servers a b earlier lead.Gone x h k j =
    no_faults _ _ (named members.Shard shards x.shard a h) (no_faults _ _ (listed_no_fault servers x.listed b j) refl)
crown_clean shards servers a b earlier (lead.At u) x h k j =
    no_faults _ _ (named members.Shard shards x.shard a h) (no_faults _ _ (listed_no_fault servers x.listed b j) (no_faults _ _ (named members.Server servers u b k) refl))
crown_clean shards servers a b earlier (lead.Ready u v) x h k j =
    no_faults _ _ (named members.Shard shards x.shard a h) (no_faults _ _ (listed_no_fault servers x.listed b j) (no_faults _ _ (named members.From servers u b k.0) (no_faults _ _ (named members.To servers v b k.1) refl)))
crown_clean shards servers a b earlier (lead.Handing u v) x h k j =
    no_faults _ _ (named members.Shard shards x.shard a h) (no_faults _ _ (listed_no_fault servers x.listed b j) (no_faults _ _ (named members.From servers u b k.0) (no_faults _ _ (named members.To servers v b k.1) refl)))
crown_clean shards servers a b earlier (lead.Handed u v) x h k j =
    no_faults _ _ (named members.Shard shards x.shard a h) (no_faults _ _ (listed_no_fault servers x.listed b j) (no_faults _ _ (named members.From servers u b k.0) (no_faults _ _ (named members.To servers v b k.1) refl)))

-- a crown of a known shard, whose lead and listed server are known, has no fault as it is written
pub crown_no_fault : (shards servers : List (List ℕ)) → LeadBack shards → LeadBack servers → (earlier : List Data) (x : Crown) → IsKnownCrown (length shards) (length servers) x → crown_faults shards servers earlier (crown_data shards servers x) ≡ []
crown_no_fault shards servers a b earlier x (h, k, j) = crown_clean shards servers a b earlier x.lead x h k j

abbrev crown : ℕ → Lead → Option ℕ → Crown
crown s l o = record { shard = s; lead = l; listed = o }

crown_read : (shards servers : List (List ℕ)) → LeadBack shards → LeadBack servers → (s : ℕ) (l : Lead) (o : Option ℕ) → s < length shards → IsKnownLead (length servers) l → IfSome o (λ v. v < length servers) → crown_in shards servers (crown_by_lead shards servers l (crown s l o)) ≡ crown s l o
crown_read shards servers a b s lead.Gone o h k j =
    three crown _ _ _ _ _ _ (id_read shards s a h) refl (listed_read servers o b j)
crown_read shards servers a b s (lead.At u) o h k j =
    three crown _ _ _ _ _ _ (id_read shards s a h) (ap lead.At (id_read servers u b k)) (listed_read servers o b j)
crown_read shards servers a b s (lead.Ready u v) o h k j =
    three crown _ _ _ _ _ _ (id_read shards s a h) (ap₂ lead.Ready (id_read servers u b k.0) (id_read servers v b k.1)) (listed_read servers o b j)
crown_read shards servers a b s (lead.Handing u v) o h k j =
    three crown _ _ _ _ _ _ (id_read shards s a h) (ap₂ lead.Handing (id_read servers u b k.0) (id_read servers v b k.1)) (listed_read servers o b j)
crown_read shards servers a b s (lead.Handed u v) o h k j =
    three crown _ _ _ _ _ _ (id_read shards s a h) (ap₂ lead.Handed (id_read servers u b k.0) (id_read servers v b k.1)) (listed_read servers o b j)

-- and it is read as itself
pub crown_back : (shards servers : List (List ℕ)) → LeadBack shards → LeadBack servers → (x : Crown) → IsKnownCrown (length shards) (length servers) x → crown_in shards servers (crown_data shards servers x) ≡ x
crown_back shards servers a b x (h, k, j) = crown_read shards servers a b x.shard x.lead x.listed h k j

-- ---- room and spare replicas

-- room of a known server, within its limit
abbrev pub IsRoomWithin : ℕ → Room → Type 0
IsRoomWithin servers x = (x.server < servers) × (x.amount ≤ MOST_AMOUNT)

-- spare replicas of a known shard, within their limit
abbrev pub IsSpareWithin : ℕ → Spare → Type 0
IsSpareWithin shards x = (x.shard < shards) × (x.amount ≤ MOST_AMOUNT)

-- room of a known server, within its limit, has no fault as it is written
pub room_no_fault : (servers : List (List ℕ)) → LeadBack servers → (earlier : List Data) (x : Room) → IsRoomWithin (length servers) x → room_faults servers earlier (room_data servers x) ≡ []
room_no_fault servers b earlier x h = no_faults _ _ (named members.Server servers x.server b h.0) (no_faults _ _ (number_no_fault members.Amount MOST_AMOUNT x.amount h.1) refl)

-- and it is read as itself
pub room_back : (servers : List (List ℕ)) → LeadBack servers → (x : Room) → IsRoomWithin (length servers) x → room_in servers (room_data servers x) ≡ x
room_back servers b x h = ap₂ (λ (v amount : ℕ). record { server = v; amount = amount }) (id_read servers x.server b h.0) (up_to_same MOST_AMOUNT x.amount h.1)

-- spare replicas of a known shard, within their limit, have no fault as they are written
pub spare_no_fault : (shards : List (List ℕ)) → LeadBack shards → (earlier : List Data) (x : Spare) → IsSpareWithin (length shards) x → spare_faults shards earlier (spare_data shards x) ≡ []
spare_no_fault shards a earlier x h = no_faults _ _ (named members.Shard shards x.shard a h.0) (no_faults _ _ (number_no_fault members.Amount MOST_AMOUNT x.amount h.1) refl)

-- and they are read as themselves
pub spare_back : (shards : List (List ℕ)) → LeadBack shards → (x : Spare) → IsSpareWithin (length shards) x → spare_in shards (spare_data shards x) ≡ x
spare_back shards a x h = ap₂ (λ (s amount : ℕ). record { shard = s; amount = amount }) (id_read shards x.shard a h.0) (up_to_same MOST_AMOUNT x.amount h.1)

-- ---- keys

before_apart : (s v t w : ℕ) → before (s, v) (t, w) ≡ true → s ≡ t → v ≡ w → ⊥
before_apart s v t w h e f = grind (arith, nat_tests)

one_text : (names : List (List ℕ)) → LeadBack names → (n k : ℕ) → n < length names → k < length names → before (n, 0) (k, 0) ≡ true → (b : Bool) → bytes_eq (name_at names n) (name_at names k) ≡ b → (b && true) ≡ false
one_text names lead n k h j rises false e = refl
one_text names lead n k h j rises true e = absurd (before_apart n 0 k 0 rises (same_number names n k lead h j e) refl)

two_texts : (shards servers : List (List ℕ)) → LeadBack shards → LeadBack servers → (s v t w : ℕ) → s < length shards → t < length shards → v < length servers → w < length servers → before (s, v) (t, w) ≡ true → (p q : Bool) → bytes_eq (name_at shards s) (name_at shards t) ≡ p → bytes_eq (name_at servers v) (name_at servers w) ≡ q → (p && (q && true)) ≡ false
two_texts shards servers a b s v t w hs ht hv hw rises false q e f = refl
two_texts shards servers a b s v t w hs ht hv hw rises true false e f = refl
two_texts shards servers a b s v t w hs ht hv hw rises true true e f = absurd (before_apart s v t w rises (same_number shards s t a hs ht e) (same_number servers v w b hv hw f))

-- rights to two cells whose keys rise are written with keys that differ
pub cells_differ : (shards servers : List (List ℕ)) → LeadBack shards → LeadBack servers → (x y : CellRight) → IsKnownCellRight (length shards) (length servers) x → IsKnownCellRight (length shards) (length servers) y → before (key_of_cell x) (key_of_cell y) ≡ true
    → is_same_key (texts_found (members.Shard ∷ members.Server ∷ []) (right_data shards servers x)) (texts_found (members.Shard ∷ members.Server ∷ []) (right_data shards servers y)) ≡ false
cells_differ shards servers a b x y h k rises = two_texts shards servers a b x.shard x.server y.shard y.server h.0 k.0 h.1 k.1 rises _ _ refl refl

crown_key : (shards servers : List (List ℕ)) (l : Lead) (x : Crown) → texts_found (members.Shard ∷ []) (crown_by_lead shards servers l x) ≡ Some (name_at shards x.shard ∷ [])
crown_key shards servers lead.Gone x = refl
crown_key shards servers (lead.At u) x = refl
crown_key shards servers (lead.Ready u v) x = refl
crown_key shards servers (lead.Handing u v) x = refl
crown_key shards servers (lead.Handed u v) x = refl

-- so are crowns of two shards
pub crowns_differ : (shards servers : List (List ℕ)) → LeadBack shards → (x y : Crown) → IsKnownCrown (length shards) (length servers) x → IsKnownCrown (length shards) (length servers) y → before (key_of_crown x) (key_of_crown y) ≡ true
    → is_same_key (texts_found (members.Shard ∷ []) (crown_data shards servers x)) (texts_found (members.Shard ∷ []) (crown_data shards servers y)) ≡ false
crowns_differ shards servers a x y h k rises =
    ap₂ is_same_key (crown_key shards servers x.lead x) (crown_key shards servers y.lead y)
    ∙ one_text shards a x.shard y.shard h.0 k.0 rises _ refl

-- so is room of two servers
pub rooms_differ : (servers : List (List ℕ)) → LeadBack servers → (x y : Room) → IsRoomWithin (length servers) x → IsRoomWithin (length servers) y → before (key_of_room x) (key_of_room y) ≡ true
    → is_same_key (texts_found (members.Server ∷ []) (room_data servers x)) (texts_found (members.Server ∷ []) (room_data servers y)) ≡ false
rooms_differ servers b x y h k rises = one_text servers b x.server y.server h.0 k.0 rises _ refl

-- and so are spare replicas of two shards
pub spares_differ : (shards : List (List ℕ)) → LeadBack shards → (x y : Spare) → IsSpareWithin (length shards) x → IsSpareWithin (length shards) y → before (key_of_spare x) (key_of_spare y) ≡ true
    → is_same_key (texts_found (members.Shard ∷ []) (spare_data shards x)) (texts_found (members.Shard ∷ []) (spare_data shards y)) ≡ false
spares_differ shards a x y h k rises = one_text shards a x.shard y.shard h.0 k.0 rises _ refl
