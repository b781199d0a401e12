-- A plan without faults: it is within its limits, knows its signals, and each id is below its count.
use Rattle.std.proofs.Common.{◌≡◌, ◌++◌, ◌<◌, ◌≤◌, ℕ, Bool, true, false, cond, List, [], ◌∷◌, length, map, Option, Some, None, is_some, option_and_then, option_map, unwrap_or, nat_lt, sym, subst, arith, All}
use Rattle.std.specs.List.{flat_map}
use Rattle.std.proofs.lemmas.List.{length-map}
use Rattle.std.proofs.lemmas.List.Elements.{All-map, All-weaker}
use Rattle.std.proofs.lemmas.Bool.Decides.{nat_tests}
use Rattle.serde_json.specs.Data.{Data, Num}
use Rattle.serde_json.specs.Find.{as_object, as_number, as_u64}
use Rattle.sm_reservation.specs.Rights.{Rights, no_rights}
use Rattle.sm_plan_code.specs.declared.instruction.Instr.{Instr}
use Rattle.sm_plan_code.specs.Plan.{StreamModel, PlanModel, IsSmallParcel, IsSmallStream, KnowsSignal, IsOrderedParcel, IsPlan, IsKnownParcel, IsKnownInstr, IsKnownStream, IsKnownPlan}
use Rattle.sm_plan_code.specs.declared.limits.TheConstants.{MOST_CALLS, MOST_INSTRUCTIONS, MOST_NUMBER, MOST_SIGNALS, MOST_STREAMS}
use Rattle.sm_plan_text.specs.declared.fault.TextFault.{TextFault}
use Rattle.sm_plan_text.specs.declared.fault.TextFault.TheVariants.{Shape}
use Rattle.sm_plan_text.specs.declared.member.Member.{Member}
use Rattle.sm_plan_text.specs.declared.member.Member.TheVariants as members
use Rattle.sm_plan_text.specs.Instructions.{InstrWord}
use Rattle.sm_plan_text.specs.Instructions as word
use Rattle.sm_plan_text.specs.Members.{text_of}
use Rattle.sm_plan_text.specs.Values.{found, text_found, whole_number_of, under, number_or, number_below, entries_in, id_in}
use Rattle.sm_plan_text.specs.Tables.{one, maybe, whole, known, below, format, object, list, below_fault, index_fault, found_faults, row_faults, object_faults, own_faults, by_word, walked}
use Rattle.sm_plan_text.specs.Parcels.{parcel_faults, parcel_lists_in, HaveIds, parcel_in}
use Rattle.sm_plan_text.specs.Instructions.{instr_word, instr_table, instr_faults, instr_of, instr_by, instr_in}
use Rattle.sm_plan_text.specs.Plans.{faults_within, knows_retries, stream_table, stream_faults, stream_in, plan_table, signal_count_in, plan_faults, plan_in}
use Rattle.sm_plan_text.proofs.Faultless.{nil_left, nil_right, walked_entries, up_to_below, number_in-le, number_or-le, id_known, if_nil, entries_within, optional_within}
use Rattle.sm_plan_text.proofs.FaultlessParcel.{parcel_is_once, parcel_fits, parcel_is_small}
use Rattle.sm_reservation.proofs.InOrder.{in_order_is_ordered, in_order_is_positive}

-- ---- parcels

-- a parcel is in order, within its limits, and fits
record IsGoodParcel (shards servers : ℕ) (r : Rights) : Type 0 where
  fits : IsKnownParcel shards servers r
  small : IsSmallParcel r
  ordered : IsOrderedParcel r

parcel_good : (parent : Member) (shards servers : List (List ℕ)) (d : Data) → HaveIds shards servers → parcel_faults parent shards servers [] d ≡ [] → IsGoodParcel (length shards) (length servers) (parcel_in shards servers d)
parcel_good parent shards servers d few h = record {
  fits = parcel_fits parent shards servers d h;
  small = parcel_is_small parent shards servers d h;
  ordered = record {
    ordered = in_order_is_ordered (parcel_lists_in shards servers d) (parcel_is_once parent shards servers d few h);
    positive = in_order_is_positive (parcel_lists_in shards servers d);
  };
}

-- ---- instructions

index_kept : (m : Member) (count : ℕ) (n : Option ℕ) → below_fault m count n ≡ [] → under count (unwrap_or n 0) < count
index_kept m count None h = absurd (cc)
index_kept m count (Some n) h =
    let test : nat_lt n count ≡ true = if_nil (nat_lt n count) _ h in
    subst (λ b. cond b n 0 < count) (sym test) (grind (arith, nat_tests))

index_kept_of : (m : Member) (count : ℕ) (n : Option Num) → index_fault m count n ≡ [] → under count (unwrap_or (option_and_then as_u64 n) 0) < count
index_kept_of m count None h = absurd (cc)
index_kept_of m count (Some n) h = index_kept m count (as_u64 n) h

index_kept_at : (m : Member) (count : ℕ) (o : Option Data) → found_faults (one m (below count)) o ≡ [] → under count (unwrap_or (option_and_then whole_number_of o) 0) < count
index_kept_at m count None h = absurd (cc)
index_kept_at m count (Some d) h = index_kept_of m count (as_number d) h

-- a signal without a fault is below the count
signal_known : (m : Member) (count : ℕ) (d : Data) → row_faults d (one m (below count)) ≡ [] → number_below count m d < count
signal_known m count d h = up_to_below MOST_NUMBER (under count (unwrap_or (option_and_then whole_number_of (found m d)) 0)) count (index_kept_at m count (found m d) h)

-- an instruction fits, and knows its signal
abbrev pub IsGoodInstr : ℕ → ℕ → ℕ → Instr → Type 0
IsGoodInstr shards servers signals i = IsKnownInstr shards servers i × KnowsSignal signals i

module _ (shards servers : List (List ℕ)) (signals : ℕ) (d : Data) where
  abbrev IsGood : Instr → Type 0
  IsGood i = IsGoodInstr (length shards) (length servers) signals i

  shard_good : (rest : List TextFault) → row_faults d (one members.Shard (known shards)) ++ rest ≡ [] → id_in shards members.Shard d < length shards
  shard_good rest h = id_known members.Shard shards d (nil_left (row_faults d (one members.Shard (known shards))) rest h)

  after_shard : (rest : List TextFault) → row_faults d (one members.Shard (known shards)) ++ rest ≡ [] → rest ≡ []
  after_shard rest h = nil_right (row_faults d (one members.Shard (known shards))) rest h

  server_good : (rest : List TextFault) → row_faults d (one members.Server (known servers)) ++ rest ≡ [] → id_in servers members.Server d < length servers
  server_good rest h = id_known members.Server servers d (nil_left (row_faults d (one members.Server (known servers))) rest h)

  other_good : row_faults d (one members.Server (known servers)) ++ (row_faults d (one members.Other (known servers)) ++ []) ≡ [] → id_in servers members.Other d < length servers
  other_good h = id_known members.Other servers d (nil_left (row_faults d (one members.Other (known servers))) [] (nil_right (row_faults d (one members.Server (known servers))) _ h))

  signal_good : row_faults d (one members.Signal (below signals)) ++ [] ≡ [] → number_below signals members.Signal d < signals
  signal_good h = signal_known members.Signal signals d (nil_left (row_faults d (one members.Signal (below signals))) [] h)

  word_good : (w : InstrWord) → flat_map (row_faults d) (instr_table shards servers signals w) ≡ [] → IsGood (instr_of shards servers signals d w)
  word_good word.PrepareAdd h = ((shard_good _ h, server_good _ (after_shard _ h), other_good (after_shard _ h)), tt)
  word_good word.PrepareDrop h = ((shard_good _ h, server_good _ (after_shard _ h), other_good (after_shard _ h)), tt)
  word_good word.Add h = ((shard_good _ h, server_good _ (after_shard _ h), tt), tt)
  word_good word.Drop h = ((shard_good _ h, server_good _ (after_shard _ h), tt), tt)
  word_good word.Change h = ((shard_good _ h, server_good _ (after_shard _ h), tt), tt)
  word_good word.Publish h = ((shard_good _ h, tt, tt), tt)
  word_good word.Unlist h = ((shard_good _ h, tt, tt), tt)
  word_good word.Signal h = ((tt, tt, tt), signal_good h)
  word_good word.Wait h = ((tt, tt, tt), signal_good h)

  instr_good_by : (o : Option InstrWord) → by_word members.Code members.Do (instr_table shards servers signals) d o ≡ [] → IsGood (instr_by shards servers signals d o)
  instr_good_by None h =
      let some : (Shape members.Do ∷ []) ≡ [] = nil_right (cond (is_some (as_object d)) [] (Shape members.Code ∷ [])) (Shape members.Do ∷ []) h in
      absurd (cc)
  instr_good_by (Some w) h =
      word_good w (nil_right (object_faults members.Code (text_of members.Do ∷ map (λ row. text_of row.member) (instr_table shards servers signals w)) d) _ h)

  instr_good : instr_faults shards servers signals [] d ≡ [] → IsGood (instr_in shards servers signals d)
  instr_good h = instr_good_by (option_and_then instr_word (text_found members.Do d)) h

code_good : (shards servers : List (List ℕ)) (signals : ℕ) (ds : List Data) → walked (instr_faults shards servers signals) [] ds ≡ [] → All (IsGoodInstr (length shards) (length servers) signals) (map (instr_in shards servers signals) ds)
code_good shards servers signals ds h =
    All-map (IsGoodInstr (length shards) (length servers) signals) (instr_in shards servers signals) ds
    (walked_entries (instr_faults shards servers signals) (λ d. IsGoodInstr (length shards) (length servers) signals (instr_in shards servers signals d)) (λ before d none. instr_good shards servers signals d none) [] ds h)

-- ---- streams

holds_good : (shards servers : List (List ℕ)) (o : Option Data) → HaveIds shards servers → found_faults (one members.Holds object) o ≡ [] → faults_within (parcel_faults members.Holds shards servers []) o ≡ [] → IsGoodParcel (length shards) (length servers) (unwrap_or (option_map (parcel_in shards servers) o) no_rights)
holds_good shards servers None few h within = absurd (cc)
holds_good shards servers (Some d) few h within = parcel_good members.Holds shards servers d few within

retries_within : (retries : Bool) (d : Data) → cond retries (number_or 0 members.Retries MOST_CALLS d) 0 ≤ MOST_CALLS
retries_within true d = number_or-le 0 members.Retries MOST_CALLS d (omega arith)
retries_within false d = omega arith

-- a stream is within its limits, knows its signals, and fits
record IsGoodStream (shards servers count : ℕ) (s : StreamModel) : Type 0 where
  small : IsSmallStream s
  fits : IsKnownStream shards servers s
  signals : All (KnowsSignal count) s.code
  ordered : IsOrderedParcel s.holds

stream_good : (shards servers : List (List ℕ)) (signals : ℕ) (retries : Bool) (d : Data) → HaveIds shards servers → stream_faults shards servers signals retries [] d ≡ [] → IsGoodStream (length shards) (length servers) signals (stream_in shards servers signals retries d)
stream_good shards servers signals retries d few h =
    let own : List TextFault = own_faults members.Streams (stream_table retries) d in
    let of_holds : List TextFault = faults_within (parcel_faults members.Holds shards servers []) (found members.Holds d) in
    let of_code : List TextFault = walked (instr_faults shards servers signals) [] (entries_in members.Code d) in
    let to_holds : own ++ of_holds ≡ [] = nil_left (own ++ of_holds) of_code h in
    let rows = nil_right (object_faults members.Streams (map (λ row. text_of row.member) (stream_table retries)) d) (flat_map (row_faults d) (stream_table retries)) (nil_left own of_holds to_holds) in
    let after_budget = nil_right (row_faults d (one members.Budget (whole MOST_CALLS))) _ rows in
    let after_holds = nil_right (row_faults d (one members.Holds object)) _ after_budget in
    let holds = holds_good shards servers (found members.Holds d) few (nil_left (row_faults d (one members.Holds object)) _ after_budget) (nil_right own of_holds to_holds) in
    let code = code_good shards servers signals (entries_in members.Code d) (nil_right (own ++ of_holds) of_code h) in
    let count : length (entries_in members.Code d) ≤ MOST_INSTRUCTIONS = entries_within members.Code MOST_INSTRUCTIONS d (nil_left (row_faults d (one members.Code (list MOST_INSTRUCTIONS))) _ after_holds) in
    let instructions : List Instr = map (instr_in shards servers signals) (entries_in members.Code d) in
    record {
      small = record {
        budget = number_in-le members.Budget MOST_CALLS d;
        retries = retries_within retries d;
        holds = holds.small;
        code = subst (λ n. n ≤ MOST_INSTRUCTIONS) (sym (length-map (entries_in members.Code d) (instr_in shards servers signals))) count;
      };
      fits = record {
        holds = holds.fits;
        code = All-weaker (IsGoodInstr (length shards) (length servers) signals) (IsKnownInstr (length shards) (length servers)) (λ i is. is.0) instructions code;
      };
      signals = All-weaker (IsGoodInstr (length shards) (length servers) signals) (KnowsSignal signals) (λ i is. is.1) instructions code;
      ordered = holds.ordered;
    }

-- ---- plans

-- a plan is one, and fits
pub record IsGoodPlan (shards servers : ℕ) (p : PlanModel) : Type 0 where
  pub plan : IsPlan p
  pub fits : IsKnownPlan shards servers p

-- a plan without faults is one, and each id in it is below its count
pub plan_good : (parent : Member) (shards servers : List (List ℕ)) (d : Data) → HaveIds shards servers → plan_faults parent shards servers [] d ≡ [] → IsGoodPlan (length shards) (length servers) (plan_in shards servers d)
plan_good parent shards servers d few h =
    let own : List TextFault = own_faults parent plan_table d in
    let signal_items : List Data = entries_in members.Signals d in
    let stream_items : List Data = entries_in members.Streams d in
    let read : Data → StreamModel = stream_in shards servers (signal_count_in d) (knows_retries d) in
    let of_signals : List TextFault = walked (parcel_faults members.Signals shards servers) [] signal_items in
    let of_streams : List TextFault = walked (stream_faults shards servers (signal_count_in d) (knows_retries d)) [] stream_items in
    let to_signals : own ++ of_signals ≡ [] = nil_left (own ++ of_signals) of_streams h in
    let rows = nil_right (object_faults parent (map (λ row. text_of row.member) plan_table) d) (flat_map (row_faults d) plan_table) (nil_left own of_signals to_signals) in
    let after_format = nil_right (row_faults d (maybe members.Format format)) _ rows in
    let after_budget = nil_right (row_faults d (one members.Budget (whole MOST_CALLS))) _ after_format in
    let after_signals = nil_right (row_faults d (maybe members.Signals (list MOST_SIGNALS))) _ after_budget in
    let signals : length signal_items ≤ MOST_SIGNALS = optional_within members.Signals MOST_SIGNALS d (nil_left (row_faults d (maybe members.Signals (list MOST_SIGNALS))) _ after_budget) in
    let streams : length stream_items ≤ MOST_STREAMS = entries_within members.Streams MOST_STREAMS d (nil_left (row_faults d (one members.Streams (list MOST_STREAMS))) _ after_signals) in
    let parcels : All (IsGoodParcel (length shards) (length servers)) (map (parcel_in shards servers) signal_items) =
    All-map (IsGoodParcel (length shards) (length servers)) (parcel_in shards servers) signal_items
    (walked_entries (parcel_faults members.Signals shards servers) (λ e. IsGoodParcel (length shards) (length servers) (parcel_in shards servers e)) (λ before e none. parcel_good members.Signals shards servers e few none) [] signal_items (nil_right own of_signals to_signals)) in
    let good : All (IsGoodStream (length shards) (length servers) (signal_count_in d)) (map read stream_items) =
    All-map (IsGoodStream (length shards) (length servers) (signal_count_in d)) read stream_items
    (walked_entries (stream_faults shards servers (signal_count_in d) (knows_retries d)) (λ e. IsGoodStream (length shards) (length servers) (signal_count_in d) (read e)) (λ before e none. stream_good shards servers (signal_count_in d) (knows_retries d) e few none) [] stream_items (nil_right (own ++ of_signals) of_streams h)) in
    record {
      plan = record {
        small = record {
          budget = number_in-le members.Budget MOST_CALLS d;
          stream_count = subst (λ n. n ≤ MOST_STREAMS) (sym (length-map stream_items read)) streams;
          signal_count = subst (λ n. n ≤ MOST_SIGNALS) (sym (length-map signal_items (parcel_in shards servers))) signals;
          streams = All-weaker (IsGoodStream (length shards) (length servers) (signal_count_in d)) IsSmallStream (λ s is. is.small) (map read stream_items) good;
          signals = All-weaker (IsGoodParcel (length shards) (length servers)) IsSmallParcel (λ p is. is.small) (map (parcel_in shards servers) signal_items) parcels;
        };
        signals = subst (λ n. All (λ (s : StreamModel). All (KnowsSignal n) s.code) (map read stream_items)) (sym (length-map signal_items (parcel_in shards servers)))
            (All-weaker (IsGoodStream (length shards) (length servers) (signal_count_in d)) (λ (s : StreamModel). All (KnowsSignal (signal_count_in d)) s.code) (λ s is. is.signals) (map read stream_items) good);
        parcels = record {
          streams = All-weaker (IsGoodStream (length shards) (length servers) (signal_count_in d)) (λ (s : StreamModel). IsOrderedParcel s.holds) (λ s is. is.ordered) (map read stream_items) good;
          signals = All-weaker (IsGoodParcel (length shards) (length servers)) IsOrderedParcel (λ p is. is.ordered) (map (parcel_in shards servers) signal_items) parcels;
        };
      };
      fits = record {
        streams = All-weaker (IsGoodStream (length shards) (length servers) (signal_count_in d)) (IsKnownStream (length shards) (length servers)) (λ s is. is.fits) (map read stream_items) good;
        signals = All-weaker (IsGoodParcel (length shards) (length servers)) (IsKnownParcel (length shards) (length servers)) (λ p is. is.fits) (map (parcel_in shards servers) signal_items) parcels;
      };
    }
