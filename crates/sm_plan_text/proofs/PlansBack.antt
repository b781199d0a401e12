-- Parcels, streams and plans that are written are read as themselves.
use Rattle.std.proofs.Common.{◌≡◌, ◌≤◌, ◌<◌, ℕ, Bool, true, false, cond, nat_lt, get_or, true≢false, arith, List, [], ◌∷◌, length, map, refl, ap, sym, ◌∙◌, subst, All}
use Rattle.std.specs.List.{list_any}
use Rattle.std.proofs.lemmas.Bool.Decides.{nat_tests}
use Rattle.std.proofs.lemmas.List.{length-map}
use Rattle.std.proofs.lemmas.List.Folds.{list_any_at}
use Rattle.serde_json.specs.Data.{Data}
use Rattle.serde_json.specs.View.{items_of}
use Rattle.sm_reservation.specs.declared.right.CellRight.{CellRight}
use Rattle.sm_reservation.specs.declared.right.Crown.{Crown}
use Rattle.sm_reservation.specs.declared.right.Room.{Room}
use Rattle.sm_reservation.specs.declared.right.Spare.{Spare}
use Rattle.sm_reservation.specs.Rights.{Rights}
use Rattle.sm_reservation.specs.Key.{key_of_cell, key_of_crown, key_of_room, key_of_spare, IsOrdered}
use Rattle.sm_reservation.specs.InOrder.{in_order}
use Rattle.sm_plan_code.specs.declared.instruction.Instr.{Instr}
use Rattle.sm_plan_code.specs.declared.limits.TheConstants.{MOST_AMOUNT, MOST_RIGHTS, MOST_CALLS, MOST_INSTRUCTIONS, MOST_SIGNALS, MOST_STREAMS}
use Rattle.sm_plan_code.specs.Plan.{StreamModel, PlanModel, IsSmallParcel, IsSmallStream, IsSmallPlan, IsPlan, KnowsSignal, IsKnownCellRight, IsKnownCrown, IsKnownInstr, IsKnownParcel, IsKnownStream, IsKnownPlan}
use Rattle.sm_plan_text.specs.declared.member.Member.{Member}
use Rattle.sm_plan_text.specs.declared.member.Member.TheVariants as members
use Rattle.sm_plan_text.specs.Values.{entries}
use Rattle.sm_plan_text.specs.Tables.{walked}
use Rattle.sm_plan_text.specs.Parcels.{right_faults, right_in, crown_faults, crown_in, room_faults, room_in, spare_faults, spare_in, parcel_faults, parcel_in}
use Rattle.sm_plan_text.specs.Instructions.{instr_faults, instr_in}
use Rattle.sm_plan_text.specs.Plans.{stream_faults, stream_in, plan_faults, plan_in}
use Rattle.sm_plan_text.specs.PlanTexts.{saying, whole_data, list_data, right_data, crown_data, room_data, spare_data, parcel_data, instr_data, stream_data, plan_data, has_retries}
use Rattle.sm_plan_text.proofs.Faultless.{up_to_same}
use Rattle.sm_plan_text.proofs.FaultlessPlan.{IsGoodInstr}
use Rattle.sm_plan_text.proofs.NamesBack.{LeadBack, no_faults, three}
use Rattle.sm_plan_text.proofs.InstrsBack.{instr_no_fault, instr_back}
use Rattle.sm_plan_text.proofs.ListsBack.{entries_back, number_no_fault, list_no_fault, mapped_within, walk_no_fault, list_read, keyed_no_fault}
use Rattle.sm_plan_text.proofs.RightsBack.{IsRoomWithin, IsSpareWithin, right_no_fault, right_back, crown_no_fault, crown_back, room_no_fault, room_back, spare_no_fault, spare_back, cells_differ, crowns_differ, rooms_differ, spares_differ}

four : {A B C D E : Type 0} (f : A → B → C → D → E) (a e : A) (b g : B) (c h : C) (d i : D) → a ≡ e → b ≡ g → c ≡ h → d ≡ i → f a b c d ≡ f e g h i
four f a e b g c h d i p q r s = rw (p, q, r, s) refl

All-both : {T : Type 0} (P Q : T → Type 0) (xs : List T) → All P xs → All Q xs → All (λ x. P x × Q x) xs
All-both P Q xs h k = λ i d lt. (h i d lt, k i d lt)

-- ---- parcels

-- a parcel is in order as it is
pub record IsPlaced (r : Rights) : Type 0 where
  pub ordered : IsOrdered r
  pub same : in_order r ≡ r

pub parcel_no_fault : (parent : Member) (shards servers : List (List ℕ)) → LeadBack shards → LeadBack servers → (earlier : List Data) (r : Rights) → IsKnownParcel (length shards) (length servers) r → IsSmallParcel r → IsPlaced r → parcel_faults parent shards servers earlier (parcel_data shards servers r) ≡ []
parcel_no_fault parent shards servers a b earlier r fits small placed =
    let room : All (IsRoomWithin (length servers)) r.room = All-both (λ x. x.server < length servers) (λ x. x.amount ≤ MOST_AMOUNT) r.room fits.room small.room_amounts in
    let spare : All (IsSpareWithin (length shards)) r.spare = All-both (λ x. x.shard < length shards) (λ x. x.amount ≤ MOST_AMOUNT) r.spare fits.spare small.spare_amounts in
    no_faults _ _ (no_faults _ _ (no_faults _ _ (no_faults _ _
    (no_faults _ _ (keyed_no_fault members.Cells MOST_RIGHTS (members.Shard ∷ members.Server ∷ []) key_of_cell (right_data shards servers) (IsKnownCellRight (length shards) (length servers)) (cells_differ shards servers a b) r.cells small.cells fits.cells placed.ordered.cells)
    (no_faults _ _ (keyed_no_fault members.Crowns MOST_RIGHTS (members.Shard ∷ []) key_of_crown (crown_data shards servers) (IsKnownCrown (length shards) (length servers)) (crowns_differ shards servers a) r.crowns small.crowns fits.crowns placed.ordered.crowns)
    (no_faults _ _ (keyed_no_fault members.Room MOST_RIGHTS (members.Server ∷ []) key_of_room (room_data servers) (IsRoomWithin (length servers)) (rooms_differ servers b) r.room small.room room placed.ordered.room)
    (no_faults _ _ (keyed_no_fault members.Spare MOST_RIGHTS (members.Shard ∷ []) key_of_spare (spare_data shards) (IsSpareWithin (length shards)) (spares_differ shards a) r.spare small.spare spare placed.ordered.spare) refl))))
    (walk_no_fault (right_data shards servers) (right_faults shards servers) (IsKnownCellRight (length shards) (length servers)) (right_no_fault shards servers a b) r.cells fits.cells))
    (walk_no_fault (crown_data shards servers) (crown_faults shards servers) (IsKnownCrown (length shards) (length servers)) (crown_no_fault shards servers a b) r.crowns fits.crowns))
    (walk_no_fault (room_data servers) (room_faults servers) (IsRoomWithin (length servers)) (room_no_fault servers b) r.room room))
    (walk_no_fault (spare_data shards) (spare_faults shards) (IsSpareWithin (length shards)) (spare_no_fault shards a) r.spare spare)

pub parcel_back : (shards servers : List (List ℕ)) → LeadBack shards → LeadBack servers → (r : Rights) → IsKnownParcel (length shards) (length servers) r → IsSmallParcel r → IsPlaced r → parcel_in shards servers (parcel_data shards servers r) ≡ r
parcel_back shards servers a b r fits small placed =
    let room : All (IsRoomWithin (length servers)) r.room = All-both (λ x. x.server < length servers) (λ x. x.amount ≤ MOST_AMOUNT) r.room fits.room small.room_amounts in
    let spare : All (IsSpareWithin (length shards)) r.spare = All-both (λ x. x.shard < length shards) (λ x. x.amount ≤ MOST_AMOUNT) r.spare fits.spare small.spare_amounts in
    ap in_order (four (λ (cells : List CellRight) (crowns : List Crown) (room : List Room) (spare : List Spare). record { cells = cells; crowns = crowns; room = room; spare = spare }) _ _ _ _ _ _ _ _
    (list_read (right_data shards servers) (right_in shards servers) (IsKnownCellRight (length shards) (length servers)) (right_back shards servers a b) r.cells fits.cells)
    (list_read (crown_data shards servers) (crown_in shards servers) (IsKnownCrown (length shards) (length servers)) (crown_back shards servers a b) r.crowns fits.crowns)
    (list_read (room_data servers) (room_in servers) (IsRoomWithin (length servers)) (room_back servers b) r.room room)
    (list_read (spare_data shards) (spare_in shards) (IsSpareWithin (length shards)) (spare_back shards a) r.spare spare))
    ∙ placed.same

-- ---- streams

-- a stream of a plan with so many signals, of format 2 or of format 1
pub record IsWritable (shard_count server_count signal_count : ℕ) (with_retries : Bool) (s : StreamModel) : Type 0 where
  pub fits : IsKnownStream shard_count server_count s
  pub small : IsSmallStream s
  pub signals : All (KnowsSignal signal_count) s.code
  pub placed : IsPlaced s.holds
  pub retries : with_retries ≡ false → s.retries ≡ 0

code_known : (shards servers signals : ℕ) (retries : Bool) (s : StreamModel) → IsWritable shards servers signals retries s → All (IsGoodInstr shards servers signals) s.code
code_known shards servers signals retries s h = All-both (IsKnownInstr shards servers) (KnowsSignal signals) s.code h.fits.code h.signals

code_no_fault : (shards servers : List (List ℕ)) → LeadBack shards → LeadBack servers → (signals : ℕ) (retries : Bool) (s : StreamModel) → IsWritable (length shards) (length servers) signals retries s → walked (instr_faults shards servers signals) [] (entries (items_of (map (instr_data shards servers) s.code))) ≡ []
code_no_fault shards servers a b signals retries s h =
    walk_no_fault (instr_data shards servers) (instr_faults shards servers signals) (IsGoodInstr (length shards) (length servers) signals)
    (λ earlier i known. instr_no_fault shards servers signals i a b known.0 known.1) s.code (code_known (length shards) (length servers) signals retries s h)

code_back : (shards servers : List (List ℕ)) → LeadBack shards → LeadBack servers → (signals : ℕ) → signals ≤ MOST_SIGNALS → (retries : Bool) (s : StreamModel) → IsWritable (length shards) (length servers) signals retries s → map (instr_in shards servers signals) (entries (items_of (map (instr_data shards servers) s.code))) ≡ s.code
code_back shards servers a b signals few retries s h =
    list_read (instr_data shards servers) (instr_in shards servers signals) (IsGoodInstr (length shards) (length servers) signals)
    (λ i known. instr_back shards servers signals i few a b known.0 known.1) s.code (code_known (length shards) (length servers) signals retries s h)

pub stream_no_fault : (shards servers : List (List ℕ)) → LeadBack shards → LeadBack servers → (signals : ℕ) (retries : Bool) (earlier : List Data) (s : StreamModel) → IsWritable (length shards) (length servers) signals retries s → stream_faults shards servers signals retries earlier (stream_data shards servers retries s) ≡ []
stream_no_fault shards servers a b signals true earlier s h =
    no_faults _ _ (no_faults _ _
    (no_faults _ _ (number_no_fault members.Budget MOST_CALLS s.budget h.small.budget)
    (no_faults _ _ (list_no_fault members.Code MOST_INSTRUCTIONS (map (instr_data shards servers) s.code) (mapped_within (instr_data shards servers) s.code MOST_INSTRUCTIONS h.small.code))
    (no_faults _ _ (number_no_fault members.Retries MOST_CALLS s.retries h.small.retries) refl)))
    (parcel_no_fault members.Holds shards servers a b [] s.holds h.fits.holds h.small.holds h.placed))
    (code_no_fault shards servers a b signals true s h)
stream_no_fault shards servers a b signals false earlier s h =
    no_faults _ _ (no_faults _ _
    (no_faults _ _ (number_no_fault members.Budget MOST_CALLS s.budget h.small.budget)
    (no_faults _ _ (list_no_fault members.Code MOST_INSTRUCTIONS (map (instr_data shards servers) s.code) (mapped_within (instr_data shards servers) s.code MOST_INSTRUCTIONS h.small.code)) refl))
    (parcel_no_fault members.Holds shards servers a b [] s.holds h.fits.holds h.small.holds h.placed))
    (code_no_fault shards servers a b signals false s h)

abbrev stream : ℕ → ℕ → Rights → List Instr → StreamModel
stream budget retries holds code = record { budget = budget; retries = retries; holds = holds; code = code }

pub stream_back : (shards servers : List (List ℕ)) → LeadBack shards → LeadBack servers → (signals : ℕ) → signals ≤ MOST_SIGNALS → (retries : Bool) (s : StreamModel) → IsWritable (length shards) (length servers) signals retries s → stream_in shards servers signals retries (stream_data shards servers retries s) ≡ s
stream_back shards servers a b signals few true s h =
    four stream _ _ _ _ _ _ _ _
    (up_to_same MOST_CALLS s.budget h.small.budget) (up_to_same MOST_CALLS s.retries h.small.retries)
    (parcel_back shards servers a b s.holds h.fits.holds h.small.holds h.placed) (code_back shards servers a b signals few true s h)
stream_back shards servers a b signals few false s h =
    four stream _ _ _ _ _ _ _ _
    (up_to_same MOST_CALLS s.budget h.small.budget) (sym (h.retries refl))
    (parcel_back shards servers a b s.holds h.fits.holds h.small.holds h.placed) (code_back shards servers a b signals few false s h)

-- ---- plans

-- a parcel of a plan
pub record IsWritableParcel (shard_count server_count : ℕ) (r : Rights) : Type 0 where
  pub fits : IsKnownParcel shard_count server_count r
  pub small : IsSmallParcel r
  pub placed : IsPlaced r

-- the value that is written for a plan of format 2, or of format 1
abbrev plan_as : List (List ℕ) → List (List ℕ) → Bool → PlanModel → Data
plan_as shards servers retries p = saying (
    (members.Budget, whole_data p.budget) ∷
    (members.Format, whole_data (cond retries 2 1)) ∷
    (members.Signals, list_data (map (parcel_data shards servers) p.signals)) ∷
    (members.Streams, list_data (map (stream_data shards servers retries) p.streams)) ∷ [])

-- how many signals are read
abbrev signals_read : List (List ℕ) → List (List ℕ) → PlanModel → ℕ
signals_read shards servers p = length (entries (items_of (map (parcel_data shards servers) p.signals)))

signals_counted : (shards servers : List (List ℕ)) (p : PlanModel) → signals_read shards servers p ≡ length p.signals
signals_counted shards servers p = ap length (entries_back (map (parcel_data shards servers) p.signals)) ∙ length-map p.signals (parcel_data shards servers)

plan_clean : (parent : Member) (shards servers : List (List ℕ)) → LeadBack shards → LeadBack servers → (retries : Bool) (p : PlanModel) → IsSmallPlan p → All (IsWritableParcel (length shards) (length servers)) p.signals → All (IsWritable (length shards) (length servers) (signals_read shards servers p) retries) p.streams → plan_faults parent shards servers [] (plan_as shards servers retries p) ≡ []
plan_clean parent shards servers a b true p small parcels streams =
    no_faults _ _ (no_faults _ _
    (no_faults _ _ (number_no_fault members.Budget MOST_CALLS p.budget small.budget)
    (no_faults _ _ (list_no_fault members.Signals MOST_SIGNALS (map (parcel_data shards servers) p.signals) (mapped_within (parcel_data shards servers) p.signals MOST_SIGNALS small.signal_count))
    (no_faults _ _ (list_no_fault members.Streams MOST_STREAMS (map (stream_data shards servers true) p.streams) (mapped_within (stream_data shards servers true) p.streams MOST_STREAMS small.stream_count)) refl)))
    (walk_no_fault (parcel_data shards servers) (parcel_faults members.Signals shards servers) (IsWritableParcel (length shards) (length servers)) (λ earlier r h. parcel_no_fault members.Signals shards servers a b earlier r h.fits h.small h.placed) p.signals parcels))
    (walk_no_fault (stream_data shards servers true) (stream_faults shards servers (signals_read shards servers p) true) (IsWritable (length shards) (length servers) (signals_read shards servers p) true) (stream_no_fault shards servers a b (signals_read shards servers p) true) p.streams streams)
plan_clean parent shards servers a b false p small parcels streams =
    no_faults _ _ (no_faults _ _
    (no_faults _ _ (number_no_fault members.Budget MOST_CALLS p.budget small.budget)
    (no_faults _ _ (list_no_fault members.Signals MOST_SIGNALS (map (parcel_data shards servers) p.signals) (mapped_within (parcel_data shards servers) p.signals MOST_SIGNALS small.signal_count))
    (no_faults _ _ (list_no_fault members.Streams MOST_STREAMS (map (stream_data shards servers false) p.streams) (mapped_within (stream_data shards servers false) p.streams MOST_STREAMS small.stream_count)) refl)))
    (walk_no_fault (parcel_data shards servers) (parcel_faults members.Signals shards servers) (IsWritableParcel (length shards) (length servers)) (λ earlier r h. parcel_no_fault members.Signals shards servers a b earlier r h.fits h.small h.placed) p.signals parcels))
    (walk_no_fault (stream_data shards servers false) (stream_faults shards servers (signals_read shards servers p) false) (IsWritable (length shards) (length servers) (signals_read shards servers p) false) (stream_no_fault shards servers a b (signals_read shards servers p) false) p.streams streams)

streams_back : (shards servers : List (List ℕ)) → LeadBack shards → LeadBack servers → (retries : Bool) (p : PlanModel) → IsSmallPlan p → All (IsWritable (length shards) (length servers) (signals_read shards servers p) retries) p.streams
    → map (stream_in shards servers (signals_read shards servers p) retries) (entries (items_of (map (stream_data shards servers retries) p.streams))) ≡ p.streams
streams_back shards servers a b retries p small streams =
    let n : ℕ = signals_read shards servers p in
    let few : n ≤ MOST_SIGNALS = subst (λ k. k ≤ MOST_SIGNALS) (sym (signals_counted shards servers p)) small.signal_count in
    list_read (stream_data shards servers retries) (stream_in shards servers n retries) (IsWritable (length shards) (length servers) n retries) (stream_back shards servers a b n few retries) p.streams streams

abbrev plan : ℕ → List StreamModel → List Rights → PlanModel
plan budget streams signals = record { budget = budget; streams = streams; signals = signals }

plan_read_back : (shards servers : List (List ℕ)) → LeadBack shards → LeadBack servers → (retries : Bool) (p : PlanModel) → IsSmallPlan p → All (IsWritableParcel (length shards) (length servers)) p.signals → All (IsWritable (length shards) (length servers) (signals_read shards servers p) retries) p.streams → plan_in shards servers (plan_as shards servers retries p) ≡ p
plan_read_back shards servers a b true p small parcels streams =
    three plan _ _ _ _ _ _
    (up_to_same MOST_CALLS p.budget small.budget)
    (streams_back shards servers a b true p small streams)
    (list_read (parcel_data shards servers) (parcel_in shards servers) (IsWritableParcel (length shards) (length servers)) (λ r h. parcel_back shards servers a b r h.fits h.small h.placed) p.signals parcels)
plan_read_back shards servers a b false p small parcels streams =
    three plan _ _ _ _ _ _
    (up_to_same MOST_CALLS p.budget small.budget)
    (streams_back shards servers a b false p small streams)
    (list_read (parcel_data shards servers) (parcel_in shards servers) (IsWritableParcel (length shards) (length servers)) (λ r h. parcel_back shards servers a b r h.fits h.small h.placed) p.signals parcels)

-- ---- what every plan has

no_retries : (streams : List StreamModel) (i : ℕ) (d : StreamModel) → i < length streams → list_any (λ s. nat_lt 0 s.retries) streams ≡ false → (get_or streams i d).retries ≡ 0
no_retries streams i d h none = positive _ refl
  where
    positive : (b : Bool) → nat_lt 0 (get_or streams i d).retries ≡ b → (get_or streams i d).retries ≡ 0
    positive false e = grind (arith, nat_tests)
    positive true e = absurd (true≢false (sym (list_any_at (λ s. nat_lt 0 s.retries) streams i d h e) ∙ none))

streams_writable : (shards servers : List (List ℕ)) (p : PlanModel) → IsPlan p → IsKnownPlan (length shards) (length servers) p → All (λ s. IsPlaced s.holds) p.streams → All (IsWritable (length shards) (length servers) (signals_read shards servers p) (has_retries p)) p.streams
streams_writable shards servers p is fits placed = λ i d h. record {
  fits = fits.streams i d h;
  small = is.small.streams i d h;
  signals = subst (λ n. All (KnowsSignal n) (get_or p.streams i d).code) (sym (signals_counted shards servers p)) (is.signals i d h);
  placed = placed i d h;
  retries = λ none. no_retries p.streams i d h none;
}

parcels_writable : (shards servers : List (List ℕ)) (p : PlanModel) → IsPlan p → IsKnownPlan (length shards) (length servers) p → All IsPlaced p.signals → All (IsWritableParcel (length shards) (length servers)) p.signals
parcels_writable shards servers p is fits placed = λ i d h. record { fits = fits.signals i d h; small = is.small.signals i d h; placed = placed i d h }

-- what is written for a plan has no fault
pub plan_no_fault : (parent : Member) (shards servers : List (List ℕ)) (p : PlanModel) → LeadBack shards → LeadBack servers → IsPlan p → IsKnownPlan (length shards) (length servers) p → All (λ s. IsPlaced s.holds) p.streams → All IsPlaced p.signals → plan_faults parent shards servers [] (plan_data shards servers p) ≡ []
plan_no_fault parent shards servers p a b is fits held carried =
    plan_clean parent shards servers a b (has_retries p) p is.small (parcels_writable shards servers p is fits carried) (streams_writable shards servers p is fits held)

-- what is written for a plan is read as that plan
pub plan_back : (shards servers : List (List ℕ)) (p : PlanModel) → LeadBack shards → LeadBack servers → IsPlan p → IsKnownPlan (length shards) (length servers) p → All (λ s. IsPlaced s.holds) p.streams → All IsPlaced p.signals → plan_in shards servers (plan_data shards servers p) ≡ p
plan_back shards servers p a b is fits held carried =
    plan_read_back shards servers a b (has_retries p) p is.small (parcels_writable shards servers p is fits carried) (streams_writable shards servers p is fits held)
