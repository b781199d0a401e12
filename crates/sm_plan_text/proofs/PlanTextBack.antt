-- The text of a plan over a configuration's names is read as that plan.
use Rattle.std.proofs.Common.{◌≡◌, ◌≤◌, ◌<◌, ◌^◌, ℕ, zero, suc, Bool, true, false, List, [], ◌∷◌, length, map, Option, Some, None, Ok, IsUtf8, All, nat_lt, refl, ◌∙◌, arith, if◌then◌else◌}
use Rattle.std.specs.List.{AllByRecursion, list_all}
use Rattle.std.proofs.lemmas.Bool.{and_parts}
use Rattle.std.proofs.lemmas.Bool.Decides.{nat_tests}
use Rattle.std.proofs.lemmas.List.Elements.{recursion_from_All}
use Rattle.json.proofs.Printed.Utf8.{are_ascii, IsUtf8-are_ascii}
use Rattle.serde_json.specs.Data.{Data, depth}
use Rattle.serde_json.specs.Read.{max_depth}
use Rattle.sm_server.specs.declared.call.Role.{Role}
use Rattle.sm_server.specs.declared.call.Role.TheVariants.{Primary, Secondary}
use Rattle.sm_placement.specs.declared.lead.Lead.{Lead}
use Rattle.sm_placement.specs.declared.lead.Lead.TheVariants as lead
use Rattle.sm_placement.specs.Names.{is_name_byte, is_name}
use Rattle.sm_placement.specs.Setup.{Setup, IsSetup, ServerRow, ShardRow, is_well_named_server, is_well_named_shard, names_of_servers, names_of_shards}
use Rattle.sm_reservation.specs.declared.right.PlainCell.{PlainCell}
use Rattle.sm_reservation.specs.declared.right.PlainCell.TheVariants as plain
use Rattle.sm_reservation.specs.declared.right.CellRight.{CellRight}
use Rattle.sm_reservation.specs.declared.right.Crown.{Crown}
use Rattle.sm_reservation.specs.declared.right.Room.{Room}
use Rattle.sm_reservation.specs.declared.right.Spare.{Spare}
use Rattle.sm_reservation.specs.Rights.{Rights}
use Rattle.sm_plan_code.specs.declared.instruction.Instr.{Instr}
use Rattle.sm_plan_code.specs.declared.instruction.Instr.TheVariants as instr
use Rattle.sm_plan_code.specs.declared.limits.TheConstants.{MOST_AMOUNT, MOST_SIGNALS}
use Rattle.sm_plan_code.specs.Plan.{StreamModel, PlanModel, IsSmallParcel, IsSmallStream, KnowsSignal, IsPlan, IsKnownPlan}
use Rattle.sm_plan_text.specs.declared.member.Member.TheVariants as members
use Rattle.sm_plan_text.specs.Reading.{read_plan}
use Rattle.sm_plan_text.specs.PlanTexts.{name_at, name_data, list_data, listed_data, role_text, plain_text, right_data, crown_by_lead, crown_data, room_data, spare_data, parcel_data, handover_data, prepare_data, entry_data, signal_data, instr_data, has_retries, format_of, stream_data, plan_data, plan_text}
use Rattle.sm_plan_text.proofs.Texts.{data_of_text}
use Rattle.sm_plan_text.proofs.PlainData.{plan_is_plain}
use Rattle.sm_plan_text.proofs.Readable.{IsReadable, null_readable, string_readable, word_readable, whole_readable, items_readable, array_readable, no_more, and_member, object_readable, text_read}
use Rattle.sm_plan_text.proofs.WrittenPlans.{written_is_read, text_is_read}

-- ---- names

-- each name of a list is UTF-8, and so is what stands for a number beyond the list
abbrev AreTexts : List (List ℕ) → Type 0
AreTexts names = (n : ℕ) → IsUtf8 (name_at names n)

texts_at : (names : List (List ℕ)) → AllByRecursion IsUtf8 names → AreTexts names
texts_at [] h n = IsUtf8-are_ascii [] refl
texts_at (name ∷ names) h zero = h.0
texts_at (name ∷ names) h (suc n) = texts_at names h.1 n

name_byte_small : (b : ℕ) → is_name_byte b ≡ true → nat_lt b 128 ≡ true
name_byte_small b h = grind (arith, nat_tests)

name_bytes_ascii : (bytes : List ℕ) → list_all is_name_byte bytes ≡ true → are_ascii bytes ≡ true
name_bytes_ascii [] h = refl
name_bytes_ascii (b ∷ bytes) h =
    let both = and_parts (is_name_byte b) _ h in
    rw (name_byte_small b both.0) (name_bytes_ascii bytes both.1)

name_utf8 : (name : List ℕ) → is_name name ≡ true → IsUtf8 name
name_utf8 name h = IsUtf8-are_ascii name (name_bytes_ascii name (and_parts _ (list_all is_name_byte name) h).1)

server_texts : (rows : List ServerRow) → list_all is_well_named_server rows ≡ true → AllByRecursion IsUtf8 (map (λ r. r.name) rows)
server_texts [] h = tt
server_texts (r ∷ rows) h =
    let both = and_parts (is_well_named_server r) (list_all is_well_named_server rows) h in
    (name_utf8 r.name (and_parts (is_name r.name) (is_name r.region) both.0).0, server_texts rows both.1)

shard_texts : (rows : List ShardRow) → list_all is_well_named_shard rows ≡ true → AllByRecursion IsUtf8 (map (λ r. r.name) rows)
shard_texts [] h = tt
shard_texts (r ∷ rows) h =
    let both = and_parts (is_well_named_shard r) (list_all is_well_named_shard rows) h in
    (name_utf8 r.name both.0, shard_texts rows both.1)

-- ---- lists

list_readable : {T : Type 0} (f : T → Data) (P : T → Type 0) → ((x : T) → P x → IsReadable (f x)) → (xs : List T) → All P xs → IsReadable (list_data (map f xs))
list_readable f P each xs h = array_readable _ (items_readable f P each xs (recursion_from_All P xs h))

always : {T : Type 0} (xs : List T) → All (λ x. Unit {0}) xs
always xs = λ k d h. tt

module _ (shards servers : List (List ℕ)) (shard_names : AreTexts shards) (server_names : AreTexts servers) where
  -- ---- rights

  shard_readable : (s : ℕ) → IsReadable (name_data shards s)
  shard_readable s = string_readable (name_at shards s) (shard_names s)

  server_readable : (v : ℕ) → IsReadable (name_data servers v)
  server_readable v = string_readable (name_at servers v) (server_names v)

  listed_readable : (o : Option ℕ) → IsReadable (listed_data servers o)
  listed_readable None = null_readable
  listed_readable (Some v) = server_readable v

  plain_ascii : (state : PlainCell) → are_ascii (plain_text state) ≡ true
  plain_ascii plain.Absent = refl
  plain_ascii plain.Secondary = refl

  right_readable : (x : CellRight) → IsReadable (right_data shards servers x)
  right_readable x =
      object_readable _
      (and_member _ _ _ _ _ _ refl (server_readable x.server) refl
      (and_member _ _ _ _ _ _ refl (shard_readable x.shard) refl
      (and_member _ _ _ _ _ _ refl (word_readable (plain_text x.state) (plain_ascii x.state)) refl
      (no_more _))))

  handover_readable : (word : List ℕ) → are_ascii word ≡ true → (u v : ℕ) (x : Crown) → IsReadable (handover_data shards servers word u v x)
  handover_readable word ascii u v x =
      object_readable _
      (and_member _ _ _ _ _ _ refl (server_readable u) refl
      (and_member _ _ _ _ _ _ refl (word_readable word ascii) refl
      (and_member _ _ _ _ _ _ refl (listed_readable x.listed) refl
      (and_member _ _ _ _ _ _ refl (shard_readable x.shard) refl
      (and_member _ _ _ _ _ _ refl (server_readable v) refl
      (no_more _))))))

  crown_readable : (l : Lead) (x : Crown) → IsReadable (crown_by_lead shards servers l x)
  crown_readable lead.Gone x =
      object_readable _
      (and_member _ _ _ _ _ _ refl (word_readable _ refl) refl
      (and_member _ _ _ _ _ _ refl (listed_readable x.listed) refl
      (and_member _ _ _ _ _ _ refl (shard_readable x.shard) refl
      (no_more _))))
  crown_readable (lead.At u) x =
      object_readable _
      (and_member _ _ _ _ _ _ refl (word_readable _ refl) refl
      (and_member _ _ _ _ _ _ refl (listed_readable x.listed) refl
      (and_member _ _ _ _ _ _ refl (server_readable u) refl
      (and_member _ _ _ _ _ _ refl (shard_readable x.shard) refl
      (no_more _)))))
  crown_readable (lead.Ready u v) x = handover_readable _ refl u v x
  crown_readable (lead.Handing u v) x = handover_readable _ refl u v x
  crown_readable (lead.Handed u v) x = handover_readable _ refl u v x

  room_readable : (x : Room) → x.amount ≤ MOST_AMOUNT → IsReadable (room_data servers x)
  room_readable x h =
      object_readable _
      (and_member _ _ _ _ _ _ refl (whole_readable x.amount (omega (arith, h))) refl
      (and_member _ _ _ _ _ _ refl (server_readable x.server) refl
      (no_more _)))

  spare_readable : (x : Spare) → x.amount ≤ MOST_AMOUNT → IsReadable (spare_data shards x)
  spare_readable x h =
      object_readable _
      (and_member _ _ _ _ _ _ refl (whole_readable x.amount (omega (arith, h))) refl
      (and_member _ _ _ _ _ _ refl (shard_readable x.shard) refl
      (no_more _)))

  parcel_readable : (r : Rights) → IsSmallParcel r → IsReadable (parcel_data shards servers r)
  parcel_readable r h =
      object_readable _
      (and_member _ _ _ _ _ _ refl (list_readable (right_data shards servers) (λ x. Unit {0}) (λ x k. right_readable x) r.cells (always r.cells)) refl
      (and_member _ _ _ _ _ _ refl (list_readable (crown_data shards servers) (λ x. Unit {0}) (λ x k. crown_readable x.lead x) r.crowns (always r.crowns)) refl
      (and_member _ _ _ _ _ _ refl (list_readable (room_data servers) (λ x. x.amount ≤ MOST_AMOUNT) room_readable r.room h.room_amounts) refl
      (and_member _ _ _ _ _ _ refl (list_readable (spare_data shards) (λ x. x.amount ≤ MOST_AMOUNT) spare_readable r.spare h.spare_amounts) refl
      (no_more _)))))

  -- ---- instructions

  role_ascii : (role : Role) → are_ascii (role_text role) ≡ true
  role_ascii Primary = refl
  role_ascii Secondary = refl

  prepare_readable : (word : List ℕ) → are_ascii word ≡ true → (s v other : ℕ) → IsReadable (prepare_data shards servers word s v other)
  prepare_readable word ascii s v other =
      object_readable _
      (and_member _ _ _ _ _ _ refl (word_readable word ascii) refl
      (and_member _ _ _ _ _ _ refl (server_readable other) refl
      (and_member _ _ _ _ _ _ refl (server_readable v) refl
      (and_member _ _ _ _ _ _ refl (shard_readable s) refl
      (no_more _)))))

  entry_readable : (word : List ℕ) → are_ascii word ≡ true → (s : ℕ) → IsReadable (entry_data shards word s)
  entry_readable word ascii s =
      object_readable _
      (and_member _ _ _ _ _ _ refl (word_readable word ascii) refl
      (and_member _ _ _ _ _ _ refl (shard_readable s) refl
      (no_more _)))

  signal_readable : (word : List ℕ) → are_ascii word ≡ true → (k : ℕ) → k < MOST_SIGNALS → IsReadable (signal_data word k)
  signal_readable word ascii k h =
      object_readable _
      (and_member _ _ _ _ _ _ refl (word_readable word ascii) refl
      (and_member _ _ _ _ _ _ refl (whole_readable k (omega (arith, h))) refl
      (no_more _)))

  instr_readable : (n : ℕ) → n ≤ MOST_SIGNALS → (i : Instr) → KnowsSignal n i → IsReadable (instr_data shards servers i)
  instr_readable n few (instr.PrepareAdd s v u) h = prepare_readable _ refl s v u
  instr_readable n few (instr.PrepareDrop s u v) h = prepare_readable _ refl s u v
  instr_readable n few (instr.Add s v role) h =
      object_readable _
      (and_member _ _ _ _ _ _ refl (word_readable _ refl) refl
      (and_member _ _ _ _ _ _ refl (word_readable (role_text role) (role_ascii role)) refl
      (and_member _ _ _ _ _ _ refl (server_readable v) refl
      (and_member _ _ _ _ _ _ refl (shard_readable s) refl
      (no_more _)))))
  instr_readable n few (instr.Drop s v) h =
      object_readable _
      (and_member _ _ _ _ _ _ refl (word_readable _ refl) refl
      (and_member _ _ _ _ _ _ refl (server_readable v) refl
      (and_member _ _ _ _ _ _ refl (shard_readable s) refl
      (no_more _))))
  instr_readable n few (instr.Change s v to) h =
      object_readable _
      (and_member _ _ _ _ _ _ refl (word_readable _ refl) refl
      (and_member _ _ _ _ _ _ refl (server_readable v) refl
      (and_member _ _ _ _ _ _ refl (shard_readable s) refl
      (and_member _ _ _ _ _ _ refl (word_readable (role_text to) (role_ascii to)) refl
      (no_more _)))))
  instr_readable n few (instr.Publish s) h = entry_readable _ refl s
  instr_readable n few (instr.Unlist s) h = entry_readable _ refl s
  instr_readable n few (instr.Signal k) h = signal_readable _ refl k (omega (arith, h, few))
  instr_readable n few (instr.Wait k) h = signal_readable _ refl k (omega (arith, h, few))

  -- ---- streams and plans

  -- a stream of a plan with n signals
  abbrev IsWritable : ℕ → StreamModel → Type 0
  IsWritable n s = IsSmallStream s × All (KnowsSignal n) s.code

  code_readable : (n : ℕ) → n ≤ MOST_SIGNALS → (s : StreamModel) → IsWritable n s → IsReadable (list_data (map (instr_data shards servers) s.code))
  code_readable n few s h = list_readable (instr_data shards servers) (KnowsSignal n) (instr_readable n few) s.code h.1

  stream_readable : (n : ℕ) → n ≤ MOST_SIGNALS → (retries : Bool) (s : StreamModel) → IsWritable n s → IsReadable (stream_data shards servers retries s)
  stream_readable n few true s h =
      object_readable _
      (and_member _ _ _ _ _ _ refl (whole_readable s.budget (omega (arith, h.0.budget))) refl
      (and_member _ _ _ _ _ _ refl (code_readable n few s h) refl
      (and_member _ _ _ _ _ _ refl (parcel_readable s.holds h.0.holds) refl
      (and_member _ _ _ _ _ _ refl (whole_readable s.retries (omega (arith, h.0.retries))) refl
      (no_more _)))))
  stream_readable n few false s h =
      object_readable _
      (and_member _ _ _ _ _ _ refl (whole_readable s.budget (omega (arith, h.0.budget))) refl
      (and_member _ _ _ _ _ _ refl (code_readable n few s h) refl
      (and_member _ _ _ _ _ _ refl (parcel_readable s.holds h.0.holds) refl
      (no_more _))))

  format_small : (b : Bool) → (if b then 2 else 1) < 2 ^ 64
  format_small true = omega arith
  format_small false = omega arith

  plan_readable : (p : PlanModel) → IsPlan p → IsReadable (plan_data shards servers p)
  plan_readable p is =
      let n = length p.signals in
      let few : n ≤ MOST_SIGNALS = is.small.signal_count in
      let all : All (IsWritable n) p.streams = λ k d h. (is.small.streams k d h, is.signals k d h) in
      object_readable _
      (and_member _ _ _ _ _ _ refl (whole_readable p.budget (omega (arith, is.small.budget))) refl
      (and_member _ _ _ _ _ _ refl (whole_readable (format_of p) (format_small (has_retries p))) refl
      (and_member _ _ _ _ _ _ refl (list_readable (parcel_data shards servers) IsSmallParcel parcel_readable p.signals is.small.signals) refl
      (and_member _ _ _ _ _ _ refl (list_readable (stream_data shards servers (has_retries p)) (IsWritable n) (stream_readable n few (has_retries p)) p.streams all) refl
      (no_more _)))))

-- the bytes that are written for a plan over a configuration's names are read as that plan
pub plan_text_read : (setup : Setup) (p : PlanModel) → IsSetup setup → IsPlan p → IsKnownPlan (length setup.shards) (length setup.servers) p
    → read_plan (names_of_shards setup) (names_of_servers setup) (plan_text (names_of_shards setup) (names_of_servers setup) p) ≡ Ok p
plan_text_read setup p setup_is plan_is fits =
    let shards = names_of_shards setup in
    let servers = names_of_servers setup in
    let named = and_parts (list_all is_well_named_server setup.servers) (list_all is_well_named_shard setup.shards) setup_is.good_names in
    let readable : IsReadable (plan_data shards servers p) =
    plan_readable shards servers (texts_at shards (shard_texts setup.shards named.1)) (texts_at servers (server_texts setup.servers named.0)) p plan_is in
    let shallow : depth (plan_data shards servers p) ≤ max_depth = omega (arith, (plan_is_plain shards servers p).levels) in
    text_is_read shards servers p (plan_text shards servers p)
    (data_of_text (plan_text shards servers p) readable.utf8 ∙ text_read (plan_data shards servers p) readable shallow)
    (written_is_read members.Document setup p setup_is plan_is fits)
