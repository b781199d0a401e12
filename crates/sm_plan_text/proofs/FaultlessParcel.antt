-- A parcel without faults: no key stands twice, and each id and each number is within its limit.
use Rattle.std.proofs.Common.{◌≡◌, ◌++◌, ◌+◌, ◌<◌, ◌≤◌, ℕ, Bool, true, false, cond, ◌&&◌, List, [], ◌∷◌, length, map, filter, get_or, Option, Some, None, is_some, option_and_then, option_map, unwrap_or, nat_lt, refl, ap, sym, ◌∙◌, subst, arith, true≢false, All}
use Rattle.std.specs.List.{flat_map, list_any, count_by}
use Rattle.std.specs.Str.{bytes_eq}
use Rattle.std.proofs.lemmas.Bool.{or_parts}
use Rattle.std.proofs.lemmas.Cmp.{nat_list_eq_equiv}
use Rattle.std.proofs.lemmas.List.{length-map}
use Rattle.std.proofs.lemmas.List.Elements.{All-map, All-head, All-tail, All-weaker, All-filter}
use Rattle.std.proofs.lemmas.List.Quantifiers.{position-Some}
use Rattle.std.proofs.lemmas.List.Sorted.{All-permutation, length_permutation}
use Rattle.std.proofs.lemmas.List.Sums.{length-filter, count_by-le-length}
use Rattle.serde_json.specs.Data.{Data}
use Rattle.serde_json.specs.Find.{as_str, as_object}
use Rattle.sm_placement.proofs.Openings.{count_yes, count_no}
use Rattle.sm_reservation.specs.declared.right.Crown.{Crown}
use Rattle.sm_reservation.specs.declared.right.Room.{Room}
use Rattle.sm_reservation.specs.declared.right.Spare.{Spare}
use Rattle.sm_reservation.specs.declared.right.Key.{Key}
use Rattle.sm_reservation.specs.declared.right.Key.TheVariants as key
use Rattle.sm_reservation.specs.Rows.{same}
use Rattle.sm_reservation.specs.Key.{key_of_cell, key_of_crown, key_of_room, key_of_spare, key_count, IsOnce}
use Rattle.sm_reservation.specs.InOrder.{sorted}
use Rattle.sm_reservation.proofs.Places.{same_trans, same_is}
use Rattle.sm_reservation.proofs.SortedRows.{sorted_permutes}
use Rattle.sm_plan_code.specs.declared.limits.TheConstants.{MOST_AMOUNT, MOST_NUMBER, MOST_RIGHTS}
use Rattle.sm_plan_code.specs.Plan.{IsSmallParcel, IsKnownCellRight, IsKnownLead, IsKnownCrown, IsKnownParcel}
use Rattle.sm_plan_text.specs.declared.fault.TextFault.{TextFault}
use Rattle.sm_plan_text.specs.declared.fault.TextFault.TheVariants.{Shape}
use Rattle.sm_plan_text.specs.declared.member.Member.{Member}
use Rattle.sm_plan_text.specs.declared.member.Member.TheVariants as members
use Rattle.sm_plan_text.specs.Parcels.{LeadWord}
use Rattle.sm_plan_text.specs.Parcels as word
use Rattle.sm_plan_text.specs.Members.{text_of}
use Rattle.sm_plan_text.specs.Values.{found, text_found, number_named, number_in, id_of, id_named, id_in, entries_in}
use Rattle.sm_plan_text.specs.Tables.{one, maybe, known, known_or_null, list, keyed, name_fault, found_faults, row_faults, object_faults, own_faults, by_word, texts_found, is_same_key, has_double_key, double_faults, walked}
use Rattle.sm_plan_text.specs.Parcels.{right_table, right_faults, right_in, lead_word, lead_table, crown_table, crown_faults, lead_worded, crown_by, crown_in, room_table, room_faults, room_in, spare_table, spare_faults, spare_in, parcel_table, parcel_faults, parcel_lists_in, HaveIds, parcel_in}
use Rattle.sm_plan_text.proofs.Faultless.{nil_left, nil_right, if_nil, all_entries, walked_entries, up_to_same, number_in-le, id_known, id_within, optional_within}
use Rattle.sm_plan_text.proofs.KeyLemmas.{keyed_faults}

-- ---- references that have one id have one text

-- a member that names what is there
record IsNamed (names : List (List ℕ)) (m : Member) (d : Data) : Type 0 where
  said : List ℕ
  number : ℕ
  stands : text_found m d ≡ Some said
  is : number_named names said ≡ Some number
  id : id_in names m d ≡ id_of number

record IsNaming (names : List (List ℕ)) (o : Option Data) : Type 0 where
  said : List ℕ
  number : ℕ
  stands : option_and_then as_str o ≡ Some said
  is : number_named names said ≡ Some number
  id : unwrap_or (option_and_then (id_named names) o) 0 ≡ id_of number

naming_number : (names : List (List ℕ)) (e : Data) (s : List ℕ) (n : Option ℕ) → as_str e ≡ Some s → number_named names s ≡ n → is_some n ≡ true → IsNaming names (Some e)
naming_number names e s None text is some = absurd (true≢false (sym some))
naming_number names e s (Some n) text is some = record {
  said = s;
  number = n;
  stands = text;
  is = is;
  id = ap (λ t. unwrap_or (option_map id_of (option_and_then (number_named names) t)) 0) text ∙ ap (λ k. unwrap_or (option_map id_of k) 0) is;
}

naming_text : (m : Member) (names : List (List ℕ)) (e : Data) (t : Option (List ℕ)) → as_str e ≡ t → name_fault m names t ≡ [] → IsNaming names (Some e)
naming_text m names e None text h = absurd (cc)
naming_text m names e (Some s) text h = naming_number names e s (number_named names s) text refl (if_nil (is_some (number_named names s)) _ h)

naming : (m : Member) (names : List (List ℕ)) (o : Option Data) → found_faults (one m (known names)) o ≡ [] → IsNaming names o
naming m names None h = absurd (cc)
naming m names (Some e) h = naming_text m names e (as_str e) refl h

reference_named : (names : List (List ℕ)) (m : Member) (d : Data) → row_faults d (one m (known names)) ≡ [] → IsNamed names m d
reference_named names m d h =
    let it = naming m names (found m d) h in
    record { said = it.said; number = it.number; stands = it.stands; is = it.is; id = it.id }

id_is : (k n : ℕ) → n < k → k ≤ MOST_NUMBER + 1 → id_of n ≡ n
id_is k n h few = up_to_same MOST_NUMBER n (omega arith)

one_text : (names : List (List ℕ)) (s t : List ℕ) (n : ℕ) → number_named names s ≡ Some n → number_named names t ≡ Some n → bytes_eq s t ≡ true
one_text names s t n a b =
    let name : List ℕ = get_or names n [] in
    let is_s : bytes_eq s name ≡ true = (position-Some (λ x. bytes_eq s x) names n [] a).1 in
    let is_t : bytes_eq t name ≡ true = (position-Some (λ x. bytes_eq t x) names n [] b).1 in
    nat_list_eq_equiv.congr s name t is_s ∙ nat_list_eq_equiv.symm name t ∙ is_t

same_text : (names : List (List ℕ)) (m : Member) (d e : Data) → length names ≤ MOST_NUMBER + 1 → (a : IsNamed names m d) → (b : IsNamed names m e) → id_in names m d ≡ id_in names m e → bytes_eq a.said b.said ≡ true
same_text names m d e few a b h =
    let a_number : id_of a.number ≡ a.number = id_is (length names) a.number (position-Some (λ x. bytes_eq a.said x) names a.number [] a.is).0 few in
    let b_number : id_of b.number ≡ b.number = id_is (length names) b.number (position-Some (λ x. bytes_eq b.said x) names b.number [] b.is).0 few in
    let one_number : a.number ≡ b.number = sym a_number ∙ sym a.id ∙ h ∙ b.id ∙ b_number in
    one_text names a.said b.said b.number (a.is ∙ ap Some one_number) b.is

-- ---- keys of one member, and of two

one_key : (m : Member) (d e : Data) (s t : List ℕ) → text_found m d ≡ Some s → text_found m e ≡ Some t → bytes_eq s t ≡ true → is_same_key (texts_found (m ∷ []) d) (texts_found (m ∷ []) e) ≡ true
one_key m d e s t is_s is_t h =
    ap (λ o. is_same_key (option_and_then (λ x. Some (x ∷ [])) o) (texts_found (m ∷ []) e)) is_s ∙
    ap (λ o. is_same_key (Some (s ∷ [])) (option_and_then (λ x. Some (x ∷ [])) o)) is_t ∙
    ap (λ b. b && true) h

two_keys : (m n : Member) (d e : Data) (s t u v : List ℕ) → text_found m d ≡ Some s → text_found m e ≡ Some t → text_found n d ≡ Some u → text_found n e ≡ Some v → bytes_eq s t ≡ true → bytes_eq u v ≡ true → is_same_key (texts_found (m ∷ n ∷ []) d) (texts_found (m ∷ n ∷ []) e) ≡ true
two_keys m n d e s t u v is_s is_t is_u is_v h k =
    ap (λ o. is_same_key (option_and_then (λ x. option_map (λ xs. x ∷ xs) (texts_found (n ∷ []) d)) o) (texts_found (m ∷ n ∷ []) e)) is_s ∙
    ap (λ o. is_same_key (option_map (λ xs. s ∷ xs) (option_and_then (λ x. Some (x ∷ [])) o)) (texts_found (m ∷ n ∷ []) e)) is_u ∙
    ap (λ o. is_same_key (Some (s ∷ u ∷ [])) (option_and_then (λ x. option_map (λ xs. x ∷ xs) (texts_found (n ∷ []) e)) o)) is_t ∙
    ap (λ o. is_same_key (Some (s ∷ u ∷ [])) (option_map (λ xs. t ∷ xs) (option_and_then (λ x. Some (x ∷ [])) o))) is_v ∙
    ap (λ b. b && (bytes_eq u v && true)) h ∙
    ap (λ b. b && true) k

-- ---- a key that stands once in the text stands once among the rights

module _ {T : Type 0} (key_of : T → ℕ × ℕ) (make : Data → T) (key : List Member) (P : Data → Type 0) (apart : (d e : Data) → P d → P e → key_of (make d) ≡ key_of (make e) → is_same_key (texts_found key d) (texts_found key e) ≡ true) where
  none_at : (k : ℕ × ℕ) (d : Data) → P d → same (key_of (make d)) k ≡ true → (ds : List Data) → All P ds → list_any (is_same_key (texts_found key d)) (map (texts_found key) ds) ≡ false → count_by (λ x. same (key_of x) k) (map make ds) ≡ 0
  none_at k d p at [] all h = refl
  none_at k d p at (e ∷ es) all h =
      let parts = or_parts (is_same_key (texts_found key d) (texts_found key e)) (list_any (is_same_key (texts_found key d)) (map (texts_found key) es)) h in
      with_test (same (key_of (make e)) k) refl parts.0 (none_at k d p at es (All-tail P e es all) parts.1)
    where
      with_test : (b : Bool) → same (key_of (make e)) k ≡ b → is_same_key (texts_found key d) (texts_found key e) ≡ false → count_by (λ x. same (key_of x) k) (map make es) ≡ 0 → count_by (λ x. same (key_of x) k) (map make (e ∷ es)) ≡ 0
      with_test true is other rest =
          absurd (true≢false (sym (apart d e p (All-head P e es all) (same_is (key_of (make d)) (key_of (make e)) (same_trans (key_of (make d)) (key_of (make e)) k at is))) ∙ other))
      with_test false is other rest = count_no (λ x. same (key_of x) k) (make e) (map make es) is ∙ rest

  once_at : (k : ℕ × ℕ) (ds : List Data) → All P ds → has_double_key (map (texts_found key) ds) ≡ false → count_by (λ x. same (key_of x) k) (map make ds) ≤ 1
  once_at k [] all h = omega arith
  once_at k (d ∷ ds) all h =
      let parts = or_parts (list_any (is_same_key (texts_found key d)) (map (texts_found key) ds)) (has_double_key (map (texts_found key) ds)) h in
      with_test (same (key_of (make d)) k) refl parts.0 (once_at k ds (All-tail P d ds all) parts.1)
    where
      with_test : (b : Bool) → same (key_of (make d)) k ≡ b → list_any (is_same_key (texts_found key d)) (map (texts_found key) ds) ≡ false → count_by (λ x. same (key_of x) k) (map make ds) ≤ 1 → count_by (λ x. same (key_of x) k) (map make (d ∷ ds)) ≤ 1
      with_test true is none rest =
          let here = count_yes (λ x. same (key_of x) k) (make d) (map make ds) is in
          let there = none_at k d (All-head P d ds all) is ds (All-tail P d ds all) none in
          omega (arith, here, there)
      with_test false is none rest = subst (λ n. n ≤ 1) (sym (count_no (λ x. same (key_of x) k) (make d) (map make ds) is)) rest

-- ---- lists with keys

-- a list of no more entries than its limit, in which no key stands twice
record IsKeyed (m : Member) (key : List Member) (d : Data) : Type 0 where
  count : length (entries_in m d) ≤ MOST_RIGHTS
  single : has_double_key (map (texts_found key) (entries_in m d)) ≡ false

if_not : (b : Bool) (fault : TextFault) → cond b (fault ∷ []) [] ≡ [] → b ≡ false
if_not true fault h = absurd (cc)
if_not false fault h = refl

keyed_list : (m : Member) (key : List Member) (d : Data) → row_faults d (maybe m (keyed MOST_RIGHTS key)) ≡ [] → IsKeyed m key d
keyed_list m key d h =
    let faults : (row_faults d (maybe m (list MOST_RIGHTS)) ++ double_faults m key (entries_in m d)) ≡ [] = sym (keyed_faults m MOST_RIGHTS key d) ∙ h in
    record {
      count = optional_within m MOST_RIGHTS d (nil_left (row_faults d (maybe m (list MOST_RIGHTS))) (double_faults m key (entries_in m d)) faults);
      single = if_not (has_double_key (map (texts_found key) (entries_in m d))) _ (nil_right (row_faults d (maybe m (list MOST_RIGHTS))) (double_faults m key (entries_in m d)) faults);
    }

-- ---- entries

record IsRight (shards servers : List (List ℕ)) (d : Data) : Type 0 where
  shard : row_faults d (one members.Shard (known shards)) ≡ []
  server : row_faults d (one members.Server (known servers)) ≡ []

right_good : (shards servers : List (List ℕ)) (before : List Data) (d : Data) → right_faults shards servers before d ≡ [] → IsRight shards servers d
right_good shards servers before d h =
    let rows = nil_right (object_faults members.Cells (map (λ row. text_of row.member) (right_table shards servers)) d) _ h in
    let after_shard = nil_right (row_faults d (one members.Shard (known shards))) _ rows in
    record {
      shard = nil_left (row_faults d (one members.Shard (known shards))) _ rows;
      server = nil_left (row_faults d (one members.Server (known servers))) _ after_shard;
    }

ends_fit : (servers : List (List ℕ)) (d : Data) → flat_map (row_faults d) (one members.From (known servers) ∷ one members.To (known servers) ∷ []) ≡ [] → (id_in servers members.From d < length servers) × (id_in servers members.To d < length servers)
ends_fit servers d h = (
  id_known members.From servers d (nil_left (row_faults d (one members.From (known servers))) _ h),
  id_known members.To servers d (nil_left (row_faults d (one members.To (known servers))) _ (nil_right (row_faults d (one members.From (known servers))) _ h)),
)

lead_fits : (servers : List (List ℕ)) (d : Data) (w : LeadWord) → flat_map (row_faults d) (lead_table servers w) ≡ [] → IsKnownLead (length servers) (lead_worded servers d w)
lead_fits servers d word.Gone h = tt
lead_fits servers d word.At h = id_known members.Server servers d (nil_left (row_faults d (one members.Server (known servers))) _ h)
lead_fits servers d word.Ready h = ends_fit servers d h
lead_fits servers d word.Handing h = ends_fit servers d h
lead_fits servers d word.Handed h = ends_fit servers d h

record IsCrown (shards servers : List (List ℕ)) (d : Data) (crown : Crown) : Type 0 where
  shard : row_faults d (one members.Shard (known shards)) ≡ []
  shard_is : crown.shard ≡ id_in shards members.Shard d
  fits : IsKnownCrown (length shards) (length servers) crown

crown_by_word : (shards servers : List (List ℕ)) (d : Data) (o : Option LeadWord) → by_word members.Crowns members.Lead (crown_table shards servers) d o ≡ [] → IsCrown shards servers d (crown_by shards servers d o)
crown_by_word shards servers d None h =
    let some : (Shape members.Lead ∷ []) ≡ [] = nil_right (cond (is_some (as_object d)) [] (Shape members.Crowns ∷ [])) (Shape members.Lead ∷ []) h in
    absurd (cc)
crown_by_word shards servers d (Some w) h =
    let rows = nil_right (object_faults members.Crowns (text_of members.Lead ∷ map (λ row. text_of row.member) (crown_table shards servers w)) d) _ h in
    let shard = nil_left (row_faults d (one members.Shard (known shards))) _ rows in
    let after_shard = nil_right (row_faults d (one members.Shard (known shards))) _ rows in
    let after_listed = nil_right (row_faults d (maybe members.Listed (known_or_null servers))) _ after_shard in
    record {
      shard = shard;
      shard_is = refl;
      fits = (id_known members.Shard shards d shard, lead_fits servers d w after_listed, id_within servers members.Listed d);
    }

crown_good : (shards servers : List (List ℕ)) (before : List Data) (d : Data) → crown_faults shards servers before d ≡ [] → IsCrown shards servers d (crown_in shards servers d)
crown_good shards servers before d h = crown_by_word shards servers d (option_and_then lead_word (text_found members.Lead d)) h

room_good : (servers : List (List ℕ)) (before : List Data) (d : Data) → room_faults servers before d ≡ [] → row_faults d (one members.Server (known servers)) ≡ []
room_good servers before d h =
    nil_left (row_faults d (one members.Server (known servers))) _ (nil_right (object_faults members.Room (map (λ row. text_of row.member) (room_table servers)) d) _ h)

spare_good : (shards : List (List ℕ)) (before : List Data) (d : Data) → spare_faults shards before d ≡ [] → row_faults d (one members.Shard (known shards)) ≡ []
spare_good shards before d h =
    nil_left (row_faults d (one members.Shard (known shards))) _ (nil_right (object_faults members.Spare (map (λ row. text_of row.member) (spare_table shards)) d) _ h)

-- ---- parcels

record IsFaultless (shards servers : List (List ℕ)) (d : Data) : Type 0 where
  cell_list : IsKeyed members.Cells (members.Shard ∷ members.Server ∷ []) d
  crown_list : IsKeyed members.Crowns (members.Shard ∷ []) d
  room_list : IsKeyed members.Room (members.Server ∷ []) d
  spare_list : IsKeyed members.Spare (members.Shard ∷ []) d
  cells : All (IsRight shards servers) (entries_in members.Cells d)
  crowns : All (λ e. IsCrown shards servers e (crown_in shards servers e)) (entries_in members.Crowns d)
  room : All (λ e. row_faults e (one members.Server (known servers)) ≡ []) (entries_in members.Room d)
  spare : All (λ e. row_faults e (one members.Shard (known shards)) ≡ []) (entries_in members.Spare d)

faultless : (parent : Member) (shards servers : List (List ℕ)) (d : Data) → parcel_faults parent shards servers [] d ≡ [] → IsFaultless shards servers d
faultless parent shards servers d h =
    let own : List TextFault = own_faults parent parcel_table d in
    let cells : List TextFault = walked (right_faults shards servers) [] (entries_in members.Cells d) in
    let crowns : List TextFault = walked (crown_faults shards servers) [] (entries_in members.Crowns d) in
    let room : List TextFault = walked (room_faults servers) [] (entries_in members.Room d) in
    let spare : List TextFault = walked (spare_faults shards) [] (entries_in members.Spare d) in
    let to_room = nil_left (((own ++ cells) ++ crowns) ++ room) spare h in
    let to_crowns = nil_left ((own ++ cells) ++ crowns) room to_room in
    let to_cells = nil_left (own ++ cells) crowns to_crowns in
    let rows = nil_right (object_faults parent (map (λ row. text_of row.member) parcel_table) d) _ (nil_left own cells to_cells) in
    let after_cells = nil_right (row_faults d (maybe members.Cells (keyed MOST_RIGHTS (members.Shard ∷ members.Server ∷ [])))) _ rows in
    let after_crowns = nil_right (row_faults d (maybe members.Crowns (keyed MOST_RIGHTS (members.Shard ∷ [])))) _ after_cells in
    let after_room = nil_right (row_faults d (maybe members.Room (keyed MOST_RIGHTS (members.Server ∷ [])))) _ after_crowns in
    record {
      cell_list = keyed_list members.Cells (members.Shard ∷ members.Server ∷ []) d (nil_left (row_faults d (maybe members.Cells (keyed MOST_RIGHTS (members.Shard ∷ members.Server ∷ [])))) _ rows);
      crown_list = keyed_list members.Crowns (members.Shard ∷ []) d (nil_left (row_faults d (maybe members.Crowns (keyed MOST_RIGHTS (members.Shard ∷ [])))) _ after_cells);
      room_list = keyed_list members.Room (members.Server ∷ []) d (nil_left (row_faults d (maybe members.Room (keyed MOST_RIGHTS (members.Server ∷ [])))) _ after_crowns);
      spare_list = keyed_list members.Spare (members.Shard ∷ []) d (nil_left (row_faults d (maybe members.Spare (keyed MOST_RIGHTS (members.Shard ∷ [])))) _ after_room);
      cells = walked_entries (right_faults shards servers) (IsRight shards servers) (right_good shards servers) [] (entries_in members.Cells d) (nil_right own cells to_cells);
      crowns = walked_entries (crown_faults shards servers) (λ e. IsCrown shards servers e (crown_in shards servers e)) (crown_good shards servers) [] (entries_in members.Crowns d) (nil_right (own ++ cells) crowns to_crowns);
      room = walked_entries (room_faults servers) (λ e. row_faults e (one members.Server (known servers)) ≡ []) (room_good servers) [] (entries_in members.Room d) (nil_right ((own ++ cells) ++ crowns) room to_room);
      spare = walked_entries (spare_faults shards) (λ e. row_faults e (one members.Shard (known shards)) ≡ []) (spare_good shards) [] (entries_in members.Spare d) (nil_right (((own ++ cells) ++ crowns) ++ room) spare h);
    }

-- ---- keys of rights

same_reference : (names : List (List ℕ)) (m : Member) (d e : Data) → length names ≤ MOST_NUMBER + 1 → row_faults d (one m (known names)) ≡ [] → row_faults e (one m (known names)) ≡ [] → id_in names m d ≡ id_in names m e → is_same_key (texts_found (m ∷ []) d) (texts_found (m ∷ []) e) ≡ true
same_reference names m d e few a b h =
    let x = reference_named names m d a in
    let y = reference_named names m e b in
    one_key m d e x.said y.said x.stands y.stands (same_text names m d e few x y h)

same_right : (shards servers : List (List ℕ)) (d e : Data) → length shards ≤ MOST_NUMBER + 1 → length servers ≤ MOST_NUMBER + 1 → IsRight shards servers d → IsRight shards servers e → key_of_cell (right_in shards servers d) ≡ key_of_cell (right_in shards servers e) → is_same_key (texts_found (members.Shard ∷ members.Server ∷ []) d) (texts_found (members.Shard ∷ members.Server ∷ []) e) ≡ true
same_right shards servers d e few_shards few_servers a b h =
    let s = reference_named shards members.Shard d a.shard in
    let t = reference_named shards members.Shard e b.shard in
    let u = reference_named servers members.Server d a.server in
    let v = reference_named servers members.Server e b.server in
    two_keys members.Shard members.Server d e s.said t.said u.said v.said s.stands t.stands u.stands v.stands
    (same_text shards members.Shard d e few_shards s t (ap (λ p. p.0) h))
    (same_text servers members.Server d e few_servers u v (ap (λ p. p.1) h))

-- no key stands twice in a parcel without faults
pub parcel_is_once : (parent : Member) (shards servers : List (List ℕ)) (d : Data) → HaveIds shards servers → parcel_faults parent shards servers [] d ≡ [] → IsOnce (parcel_lists_in shards servers d)
parcel_is_once parent shards servers d few h = each
  where
    is : IsFaultless shards servers d
    is = faultless parent shards servers d h

    each : (k : Key) → key_count (parcel_lists_in shards servers d) k ≤ 1
    each (key.CellRight s v) =
        once_at key_of_cell (right_in shards servers) (members.Shard ∷ members.Server ∷ []) (IsRight shards servers)
        (λ e f a b at. same_right shards servers e f few.shards few.servers a b at)
        (s, v) (entries_in members.Cells d) is.cells is.cell_list.single
    each (key.Crown s) =
        once_at key_of_crown (crown_in shards servers) (members.Shard ∷ []) (λ e. IsCrown shards servers e (crown_in shards servers e))
        (λ e f a b at. same_reference shards members.Shard e f few.shards a.shard b.shard (sym a.shard_is ∙ ap (λ p. p.0) at ∙ b.shard_is))
        (s, 0) (entries_in members.Crowns d) is.crowns is.crown_list.single
    each (key.Room v) =
        once_at key_of_room (room_in servers) (members.Server ∷ []) (λ e. row_faults e (one members.Server (known servers)) ≡ [])
        (λ e f a b at. same_reference servers members.Server e f few.servers a b (ap (λ p. p.0) at))
        (v, 0) (entries_in members.Room d) is.room is.room_list.single
    each (key.Spare s) =
        once_at key_of_spare (spare_in shards) (members.Shard ∷ []) (λ e. row_faults e (one members.Shard (known shards)) ≡ [])
        (λ e f a b at. same_reference shards members.Shard e f few.shards a b (ap (λ p. p.0) at))
        (s, 0) (entries_in members.Spare d) is.spare is.spare_list.single

-- ---- rights in order

all_sorted : {T : Type 0} (key_of : T → ℕ × ℕ) (P : T → Type 0) (make : Data → T) (ds : List Data) → All (λ d. P (make d)) ds → All P (sorted key_of (map make ds))
all_sorted key_of P make ds h = All-permutation P (map make ds) (sorted key_of (map make ds)) (sorted_permutes key_of (map make ds)) (All-map P make ds h)

sorted_length : {T : Type 0} (key_of : T → ℕ × ℕ) (make : Data → T) (ds : List Data) → length ds ≤ MOST_RIGHTS → length (sorted key_of (map make ds)) ≤ MOST_RIGHTS
sorted_length key_of make ds h =
    subst (λ n. n ≤ MOST_RIGHTS) (sym (length_permutation (map make ds) (sorted key_of (map make ds)) (sorted_permutes key_of (map make ds)) ∙ length-map ds make)) h

kept_length : {T : Type 0} (p : T → Bool) (xs : List T) → length xs ≤ MOST_RIGHTS → length (filter p xs) ≤ MOST_RIGHTS
kept_length p xs h =
    let kept = length-filter p xs in
    let within = count_by-le-length p xs in
    omega (arith, kept, within, h)

-- each id in a parcel without faults is below its count
pub parcel_fits : (parent : Member) (shards servers : List (List ℕ)) (d : Data) → parcel_faults parent shards servers [] d ≡ [] → IsKnownParcel (length shards) (length servers) (parcel_in shards servers d)
parcel_fits parent shards servers d h =
    let is = faultless parent shards servers d h in
    record {
      cells = all_sorted key_of_cell (IsKnownCellRight (length shards) (length servers)) (right_in shards servers) (entries_in members.Cells d)
          (All-weaker (IsRight shards servers) (λ e. IsKnownCellRight (length shards) (length servers) (right_in shards servers e)) (λ e a. (id_known members.Shard shards e a.shard, id_known members.Server servers e a.server)) (entries_in members.Cells d) is.cells);
      crowns = all_sorted key_of_crown (IsKnownCrown (length shards) (length servers)) (crown_in shards servers) (entries_in members.Crowns d)
          (All-weaker (λ e. IsCrown shards servers e (crown_in shards servers e)) (λ e. IsKnownCrown (length shards) (length servers) (crown_in shards servers e)) (λ e a. a.fits) (entries_in members.Crowns d) is.crowns);
      room = All-filter (λ x. nat_lt 0 x.amount) (λ x. x.server < length servers) (sorted key_of_room (map (room_in servers) (entries_in members.Room d)))
          (all_sorted key_of_room (λ x. x.server < length servers) (room_in servers) (entries_in members.Room d)
          (All-weaker (λ e. row_faults e (one members.Server (known servers)) ≡ []) (λ e. id_in servers members.Server e < length servers) (λ e a. id_known members.Server servers e a) (entries_in members.Room d) is.room));
      spare = All-filter (λ x. nat_lt 0 x.amount) (λ x. x.shard < length shards) (sorted key_of_spare (map (spare_in shards) (entries_in members.Spare d)))
          (all_sorted key_of_spare (λ x. x.shard < length shards) (spare_in shards) (entries_in members.Spare d)
          (All-weaker (λ e. row_faults e (one members.Shard (known shards)) ≡ []) (λ e. id_in shards members.Shard e < length shards) (λ e a. id_known members.Shard shards e a) (entries_in members.Spare d) is.spare));
    }

-- each list and each amount of a parcel without faults is within its limit
pub parcel_is_small : (parent : Member) (shards servers : List (List ℕ)) (d : Data) → parcel_faults parent shards servers [] d ≡ [] → IsSmallParcel (parcel_in shards servers d)
parcel_is_small parent shards servers d h =
    let is = faultless parent shards servers d h in
    let room : List Room = sorted key_of_room (map (room_in servers) (entries_in members.Room d)) in
    let spare : List Spare = sorted key_of_spare (map (spare_in shards) (entries_in members.Spare d)) in
    record {
      cells = sorted_length key_of_cell (right_in shards servers) (entries_in members.Cells d) is.cell_list.count;
      crowns = sorted_length key_of_crown (crown_in shards servers) (entries_in members.Crowns d) is.crown_list.count;
      room = kept_length (λ x. nat_lt 0 x.amount) room (sorted_length key_of_room (room_in servers) (entries_in members.Room d) is.room_list.count);
      spare = kept_length (λ x. nat_lt 0 x.amount) spare (sorted_length key_of_spare (spare_in shards) (entries_in members.Spare d) is.spare_list.count);
      room_amounts = All-filter (λ x. nat_lt 0 x.amount) (λ x. x.amount ≤ MOST_AMOUNT) room
          (all_sorted key_of_room (λ x. x.amount ≤ MOST_AMOUNT) (room_in servers) (entries_in members.Room d)
          (all_entries (λ e. number_in members.Amount MOST_AMOUNT e ≤ MOST_AMOUNT) (number_in-le members.Amount MOST_AMOUNT) (entries_in members.Room d)));
      spare_amounts = All-filter (λ x. nat_lt 0 x.amount) (λ x. x.amount ≤ MOST_AMOUNT) spare
          (all_sorted key_of_spare (λ x. x.amount ≤ MOST_AMOUNT) (spare_in shards) (entries_in members.Spare d)
          (all_entries (λ e. number_in members.Amount MOST_AMOUNT e ≤ MOST_AMOUNT) (number_in-le members.Amount MOST_AMOUNT) (entries_in members.Spare d)));
    }
