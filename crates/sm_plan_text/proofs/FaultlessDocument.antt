-- The servers, shards, calls, moves and events of a document without faults: they are a configuration, and each id is below its count.
use Rattle.std.proofs.Common.{◌≡◌, ◌++◌, ◌+◌, ◌-◌, ◌<◌, ◌≤◌, ℕ, Bool, true, false, cond, ◌&&◌, ◌||◌, not, List, [], ◌∷◌, length, map, Option, Some, None, is_some, option_and_then, nat_le, refl, ap, sym, ◌∙◌, arith, le-leb, length-append, add-zero, All}
use Rattle.std.specs.List.{flat_map, enumerate_from, filter_map, cons_option, list_any, list_all}
use Rattle.std.specs.Str.{bytes_eq}
use Rattle.std.proofs.lemmas.Bool.{and_from}
use Rattle.std.proofs.lemmas.List.{map_push}
use Rattle.std.proofs.lemmas.List.Concat.{flat_map-append}
use Rattle.std.proofs.lemmas.List.Elements.{All-nil, All-cons, All-append, All-map, All-weaker, All-head, All-tail}
use Rattle.std.proofs.lemmas.List.Folds.{list_all-map}
use Rattle.std.proofs.lemmas.List.Sums.{list_all-from_AllPass}
use Rattle.serde_json.specs.Data.{Data}
use Rattle.serde_json.specs.Find.{as_object}
use Rattle.sm_placement.specs.Names.{is_name, has_double}
use Rattle.sm_placement.specs.Setup.{Sizes, is_well_named_server, is_well_named_shard, is_good_server, is_good_shard}
use Rattle.sm_placement.specs.Opening.{NamedCell}
use Rattle.sm_placement.specs.Rows.{IsKnownCall}
use Rattle.sm_placement.specs.declared.limits.TheConstants.{MOST_LOAD, MOST_REPLICAS, MOST_CELLS}
use Rattle.sm_plan_code.specs.Move.{IsKnownMove}
use Rattle.sm_plan_code.specs.declared.limits.TheConstants.{MOST_CALLS, MOST_NUMBER}
use Rattle.sm_protocol.specs.Laws.{NamesKnown}
use Rattle.sm_placement.proofs.DoubleLemmas.{has_double_push}
use Rattle.sm_plan_text.specs.declared.fault.TextFault.{TextFault}
use Rattle.sm_plan_text.specs.declared.fault.TextFault.TheVariants.{Shape}
use Rattle.sm_plan_text.specs.Calls.{CallWord}
use Rattle.sm_plan_text.specs.Calls as word
use Rattle.sm_plan_text.specs.declared.member.Member.TheVariants as members
use Rattle.sm_plan_text.specs.Members.{text_of}
use Rattle.sm_plan_text.specs.Values.{text_found, text_in, flag_in, number_in, entries_in, names_in, id_of, id_in}
use Rattle.sm_plan_text.specs.Tables.{one, maybe, whole, name, new_name, known, known_or_null, list, is_among, row_faults, object_faults, own_faults, by_word, walked}
use Rattle.sm_plan_text.specs.Servers.{server_table, server_faults, server_in, id_if_down, down_in}
use Rattle.sm_plan_text.specs.Shards.{cap_limit, cell_count, shard_table, cell_table, cell_faults, shard_faults, shard_in, named_cell, cells_of_shard, cells_in}
use Rattle.sm_plan_text.specs.Calls.{NamedCall, call_word, word_table, call_table, call_faults, call_worded, call_by, call_in}
use Rattle.sm_plan_text.specs.Events.{EventWord}
use Rattle.sm_plan_text.specs.Events as event_word_of
use Rattle.sm_plan_text.specs.Events.{event_word, event_table, event_faults, event_of, event_by, event_in}
use Rattle.sm_plan_text.specs.Moves.{move_table, move_faults, move_in}
use Rattle.sm_plan_text.proofs.ServerLemmas.{names_in_push}
use Rattle.sm_plan_text.proofs.Faultless.{nil_left, nil_right, all_entries, walked_entries, walked_front, up_to_below, number_in-le, number_is_read, text_passes, id_known, entries_within}
use Rattle.sm_placement.proofs.SetupLemmas.{and_first, and_second}

not_true : (b : Bool) → not b ≡ true → b ≡ false
not_true true h = sym h
not_true false h = refl

all_rows : {R : Type 0} (test : R → Bool) (row : Data → R) (ds : List Data) → All (λ d. test (row d) ≡ true) ds → list_all test (map row ds) ≡ true
all_rows test row ds h = list_all-map test row ds ∙ list_all-from_AllPass (λ d. test (row d)) ds h

-- ---- names that stand once

-- no name stands twice
pub record IsDistinct (ds : List Data) : Type 0 where
  pub names : names_in ds ≡ map (text_in members.Name) ds
  pub single : has_double (map (text_in members.Name) ds) ≡ false

distinct_push : (ds : List Data) (d : Data) → is_among (names_in ds) (text_in members.Name d) ≡ false → IsDistinct ds → IsDistinct (ds ++ d ∷ [])
distinct_push ds d new distinct =
    let s : List ℕ = text_in members.Name d in
    record {
      names = names_in_push ds d ∙ ap (λ b. cond b (names_in ds) (names_in ds ++ s ∷ [])) new ∙ ap (λ names. names ++ s ∷ []) distinct.names ∙ sym (map_push (text_in members.Name) ds d);
      single = ap has_double (map_push (text_in members.Name) ds d) ∙ has_double_push (map (text_in members.Name) ds) s ∙ ap (λ b. b || list_any (bytes_eq s) (map (text_in members.Name) ds)) distinct.single ∙ ap (λ names. is_among names s) (sym distinct.names) ∙ new;
    }

distinct_all : (faults : List Data → Data → List TextFault) → ((before : List Data) (d : Data) → faults before d ≡ [] → is_among (names_in before) (text_in members.Name d) ≡ false) → (ds : List Data) → walked faults [] ds ≡ [] → IsDistinct ds
distinct_all faults new ds h =
    walked_front faults IsDistinct (λ before d none distinct. distinct_push before d (new before d none) distinct) [] ds h
    (record { names = refl; single = refl })

-- a new name without a fault is a name, and isn't taken
new_name_is : (taken : List (List ℕ)) (d : Data) → row_faults d (one members.Name (new_name taken)) ≡ [] → (is_name (text_in members.Name d) ≡ true) × (is_among taken (text_in members.Name d) ≡ false)
new_name_is taken d h =
    let s : List ℕ = text_in members.Name d in
    let both : (is_name s && not (is_among taken s)) ≡ true = text_passes members.Name (λ x. is_name x && not (is_among taken x)) d h in
    (and_first (is_name s) (not (is_among taken s)) both, not_true (is_among taken s) (and_second (is_name s) (not (is_among taken s)) both))

-- ---- servers

record IsServer (before : List Data) (d : Data) : Type 0 where
  named : is_well_named_server (server_in d) ≡ true
  new : is_among (names_in before) (text_in members.Name d) ≡ false

server_good : (before : List Data) (d : Data) → server_faults before d ≡ [] → IsServer before d
server_good before d h =
    let rows : flat_map (row_faults d) (server_table (names_in before)) ≡ [] = nil_right (object_faults members.Servers (map (λ row. text_of row.member) (server_table (names_in before))) d) _ h in
    let is = new_name_is (names_in before) d (nil_left (row_faults d (one members.Name (new_name (names_in before)))) _ rows) in
    let rest = nil_right (row_faults d (one members.Name (new_name (names_in before)))) _ rows in
    let region : is_name (text_in members.Region d) ≡ true = text_passes members.Region is_name d (nil_left (row_faults d (one members.Region name)) _ rest) in
    record { named = and_from (is_name (text_in members.Name d)) (is_name (text_in members.Region d)) is.0 region; new = is.1 }

-- servers without faults have names and regions that are good
pub servers_named : (ds : List Data) → walked server_faults [] ds ≡ [] → list_all is_well_named_server (map server_in ds) ≡ true
servers_named ds h = all_rows is_well_named_server server_in ds (walked_entries server_faults (λ d. is_well_named_server (server_in d) ≡ true) (λ before d none. (server_good before d none).named) [] ds h)

-- and no two of them have one name
pub servers_distinct : (ds : List Data) → walked server_faults [] ds ≡ [] → IsDistinct ds
servers_distinct ds h = distinct_all server_faults (λ before d none. (server_good before d none).new) ds h

room_good : (d : Data) → is_good_server (server_in d) ≡ true
room_good d =
    let within = number_in-le members.Room MOST_LOAD d in
    le-leb (number_in members.Room MOST_LOAD d) MOST_LOAD within

-- the room that is read of each server is within its limit
pub servers_good : (ds : List Data) → list_all is_good_server (map server_in ds) ≡ true
servers_good ds = all_rows is_good_server server_in ds (all_entries (λ d. is_good_server (server_in d) ≡ true) room_good ds)

down_from : (n total : ℕ) (ds : List Data) → n + length ds ≤ total → All (λ id. id < total) (filter_map id_if_down (enumerate_from n ds))
down_from n total [] h = All-nil (λ id. id < total)
down_from n total (d ∷ ds) h = with_flag (flag_in members.Down d) (down_from (n + 1) total ds (omega arith))
  where
    with_flag : (b : Bool) → All (λ id. id < total) (filter_map id_if_down (enumerate_from (n + 1) ds)) → All (λ id. id < total) (cons_option (cond b (Some (id_of n)) None) (filter_map id_if_down (enumerate_from (n + 1) ds)))
    with_flag true rest = All-cons (λ id. id < total) (id_of n) (filter_map id_if_down (enumerate_from (n + 1) ds)) (up_to_below MOST_NUMBER n total (omega arith)) rest
    with_flag false rest = rest

-- the ids of the servers that are read as down are below the count of servers
pub down_within : (ds : List Data) → All (λ id. id < length ds) (down_in ds)
down_within ds = down_from 0 (length ds) ds (omega arith)

-- the rows of servers have the names that are read
pub names_of_rows : (ds : List Data) → map (λ row. row.name) (map server_in ds) ≡ map (text_in members.Name) ds
names_of_rows [] = refl
names_of_rows (d ∷ ds) = ap (λ names. text_in members.Name d ∷ names) (names_of_rows ds)

-- and so have the rows of shards
pub names_of_shard_rows : (ds : List Data) → map (λ row. row.name) (map shard_in ds) ≡ map (text_in members.Name) ds
names_of_shard_rows [] = refl
names_of_shard_rows (d ∷ ds) = ap (λ names. text_in members.Name d ∷ names) (names_of_shard_rows ds)

-- ---- shards

cap_within : (d : Data) → row_faults d (one members.Want (whole MOST_REPLICAS)) ≡ [] → number_in members.Cap (cap_limit d) d ≤ number_in members.Want MOST_REPLICAS d
cap_within d h =
    let within = number_in-le members.Cap (cap_limit d) d in
    let read = number_is_read members.Want MOST_REPLICAS d h in
    omega arith

record IsShard (servers : List (List ℕ)) (before : List Data) (d : Data) : Type 0 where
  named : is_name (text_in members.Name d) ≡ true
  new : is_among (names_in before) (text_in members.Name d) ≡ false
  cap : number_in members.Cap (cap_limit d) d ≤ number_in members.Want MOST_REPLICAS d
  count : length (entries_in members.Cells d) ≤ MOST_CELLS - cell_count before
  cells : All (λ e. id_in servers members.Server e < length servers) (entries_in members.Cells d)

cell_known : (servers : List (List ℕ)) (before : List Data) (d : Data) → cell_faults servers before d ≡ [] → id_in servers members.Server d < length servers
cell_known servers before d h =
    id_known members.Server servers d
    (nil_left (row_faults d (one members.Server (known servers))) _
    (nil_right (object_faults members.Cells (map (λ row. text_of row.member) (cell_table servers)) d) _ h))

shard_own : (servers : List (List ℕ)) (before : List Data) (d : Data) → own_faults members.Shards (shard_table servers (names_in before) (MOST_CELLS - cell_count before) d) d ≡ [] → All (λ e. id_in servers members.Server e < length servers) (entries_in members.Cells d) → IsShard servers before d
shard_own servers before d h cells =
    let rows = nil_right (object_faults members.Shards (map (λ row. text_of row.member) (shard_table servers (names_in before) (MOST_CELLS - cell_count before) d)) d) _ h in
    let is = new_name_is (names_in before) d (nil_left (row_faults d (one members.Name (new_name (names_in before)))) _ rows) in
    let after_name = nil_right (row_faults d (one members.Name (new_name (names_in before)))) _ rows in
    let after_load = nil_right (row_faults d (one members.Load (whole MOST_LOAD))) _ after_name in
    let after_want = nil_right (row_faults d (one members.Want (whole MOST_REPLICAS))) _ after_load in
    let after_cap = nil_right (row_faults d (one members.Cap (whole (cap_limit d)))) _ after_want in
    let after_spread = nil_right (row_faults d (one members.Spread (whole MOST_REPLICAS))) _ after_cap in
    let after_listed = nil_right (row_faults d (maybe members.Listed (known_or_null servers))) _ after_spread in
    record {
      named = is.0;
      new = is.1;
      cap = cap_within d (nil_left (row_faults d (one members.Want (whole MOST_REPLICAS))) _ after_load);
      count = entries_within members.Cells (MOST_CELLS - cell_count before) d (nil_left (row_faults d (one members.Cells (list (MOST_CELLS - cell_count before)))) _ after_listed);
      cells = cells;
    }

shard_good : (servers : List (List ℕ)) (before : List Data) (d : Data) → shard_faults servers before d ≡ [] → IsShard servers before d
shard_good servers before d h =
    shard_own servers before d
    (nil_left (own_faults members.Shards (shard_table servers (names_in before) (MOST_CELLS - cell_count before) d) d) (walked (cell_faults servers) [] (entries_in members.Cells d)) h)
    (walked_entries (cell_faults servers) (λ e. id_in servers members.Server e < length servers) (cell_known servers) [] (entries_in members.Cells d)
    (nil_right (own_faults members.Shards (shard_table servers (names_in before) (MOST_CELLS - cell_count before) d) d) (walked (cell_faults servers) [] (entries_in members.Cells d)) h))

-- shards without faults have good names
pub shards_named : (servers : List (List ℕ)) (ds : List Data) → walked (shard_faults servers) [] ds ≡ [] → list_all is_well_named_shard (map shard_in ds) ≡ true
shards_named servers ds h = all_rows is_well_named_shard shard_in ds (walked_entries (shard_faults servers) (λ d. is_well_named_shard (shard_in d) ≡ true) (λ before d none. (shard_good servers before d none).named) [] ds h)

-- and no two of them have one name
pub shards_distinct : (servers : List (List ℕ)) (ds : List Data) → walked (shard_faults servers) [] ds ≡ [] → IsDistinct ds
shards_distinct servers ds h = distinct_all (shard_faults servers) (λ before d none. (shard_good servers before d none).new) ds h

numbers_good : (d : Data) → number_in members.Cap (cap_limit d) d ≤ number_in members.Want MOST_REPLICAS d → is_good_shard (shard_in d) ≡ true
numbers_good d cap =
    let load = number_in-le members.Load MOST_LOAD d in
    let want = number_in-le members.Want MOST_REPLICAS d in
    let spread = number_in-le members.Spread MOST_REPLICAS d in
    and_from (nat_le (number_in members.Load MOST_LOAD d) MOST_LOAD) _ (le-leb (number_in members.Load MOST_LOAD d) MOST_LOAD load)
    (and_from (nat_le (number_in members.Want MOST_REPLICAS d) MOST_REPLICAS) _ (le-leb (number_in members.Want MOST_REPLICAS d) MOST_REPLICAS want)
    (and_from (nat_le (number_in members.Cap (cap_limit d) d) MOST_REPLICAS) _ (le-leb (number_in members.Cap (cap_limit d) d) MOST_REPLICAS (omega arith))
    (and_from (nat_le (number_in members.Spread MOST_REPLICAS d) MOST_REPLICAS) _ (le-leb (number_in members.Spread MOST_REPLICAS d) MOST_REPLICAS spread)
    (le-leb (number_in members.Cap (cap_limit d) d) (number_in members.Want MOST_REPLICAS d) cap))))

-- their numbers are within their limits, and each cap is within its want
pub shards_good : (servers : List (List ℕ)) (ds : List Data) → walked (shard_faults servers) [] ds ≡ [] → list_all is_good_shard (map shard_in ds) ≡ true
shards_good servers ds h = all_rows is_good_shard shard_in ds (walked_entries (shard_faults servers) (λ d. is_good_shard (shard_in d) ≡ true) (λ before d none. numbers_good d (shard_good servers before d none).cap) [] ds h)

-- ---- cells

cell_count_push : (before : List Data) (d : Data) → cell_count (before ++ d ∷ []) ≡ cell_count before + length (entries_in members.Cells d)
cell_count_push before d =
    ap length (flat_map-append (entries_in members.Cells) before (d ∷ [])) ∙
    length-append (flat_map (entries_in members.Cells) before) (entries_in members.Cells d ++ []) ∙
    ap (λ n. cell_count before + n) (length-append (entries_in members.Cells d) [] ∙ add-zero (length (entries_in members.Cells d)))

-- all shards together have no more cells than their limit
pub cell_count_within : (servers : List (List ℕ)) (ds : List Data) → walked (shard_faults servers) [] ds ≡ [] → cell_count ds ≤ MOST_CELLS
cell_count_within servers ds h =
    walked_front (shard_faults servers) (λ before. cell_count before ≤ MOST_CELLS)
    (λ before d none within.
    let count = (shard_good servers before d none).count in
    let push = cell_count_push before d in
    omega arith)
    [] ds h (omega arith)

cells_from : (servers : List (List ℕ)) (n total : ℕ) (ds : List Data) → n + length ds ≤ total → All (λ d. All (λ e. id_in servers members.Server e < length servers) (entries_in members.Cells d)) ds → All (λ cell. (cell.0 < total) × (cell.1 < length servers)) (flat_map (cells_of_shard servers) (enumerate_from n ds))
cells_from servers n total [] h good = All-nil (λ cell. (cell.0 < total) × (cell.1 < length servers))
cells_from servers n total (d ∷ ds) h good =
    let IsWithin : NamedCell → Type 0 = λ cell. (cell.0 < total) × (cell.1 < length servers) in
    let entries : List Data = entries_in members.Cells d in
    All-append IsWithin (cells_of_shard servers (n, d)) (flat_map (cells_of_shard servers) (enumerate_from (n + 1) ds))
    (All-map IsWithin (named_cell servers (id_of n)) entries
    (All-weaker (λ e. id_in servers members.Server e < length servers) (λ e. IsWithin (named_cell servers (id_of n) e)) (λ e is. (up_to_below MOST_NUMBER n total (omega arith), is)) entries
    (All-head (λ x. All (λ e. id_in servers members.Server e < length servers) (entries_in members.Cells x)) d ds good)))
    (cells_from servers (n + 1) total ds (omega arith) (All-tail (λ x. All (λ e. id_in servers members.Server e < length servers) (entries_in members.Cells x)) d ds good))

-- the cells of shards without faults are of known shards and servers
pub cells_within : (servers : List (List ℕ)) (ds : List Data) → walked (shard_faults servers) [] ds ≡ [] → All (λ cell. (cell.0 < length ds) × (cell.1 < length servers)) (cells_in servers ds)
cells_within servers ds h =
    cells_from servers 0 (length ds) ds (omega arith)
    (walked_entries (shard_faults servers) (λ d. All (λ e. id_in servers members.Server e < length servers) (entries_in members.Cells d)) (λ before d none. (shard_good servers before d none).cells) [] ds h)

-- ---- calls

word_known : (servers : List (List ℕ)) (d : Data) (w : CallWord) → flat_map (row_faults d) (word_table servers w) ≡ [] → IsKnownCall (length servers) (call_worded servers d w)
word_known servers d word.Add h = tt
word_known servers d word.Drop h = tt
word_known servers d word.Change h = tt
word_known servers d word.PrepareAdd h = id_known members.Other servers d (nil_left (row_faults d (one members.Other (known servers))) _ h)
word_known servers d word.PrepareDrop h = id_known members.Other servers d (nil_left (row_faults d (one members.Other (known servers))) _ h)

-- each id of a call is below its count
abbrev pub IsKnownNamedCall : ℕ → ℕ → NamedCall → Type 0
IsKnownNamedCall shards servers call = (call.0 < shards) × (call.1 < servers) × IsKnownCall servers call.2

call_by_word : (shards servers : List (List ℕ)) (d : Data) (o : Option CallWord) → by_word members.Calls members.Call (call_table shards servers) d o ≡ [] → IsKnownNamedCall (length shards) (length servers) (call_by shards servers d o)
call_by_word shards servers d None h =
    let some : (Shape members.Call ∷ []) ≡ [] = nil_right (cond (is_some (as_object d)) [] (Shape members.Calls ∷ [])) (Shape members.Call ∷ []) h in
    absurd (cc)
call_by_word shards servers d (Some w) h =
    let rows = nil_right (object_faults members.Calls (text_of members.Call ∷ map (λ row. text_of row.member) (call_table shards servers w)) d) _ h in
    let after_shard = nil_right (row_faults d (one members.Shard (known shards))) _ rows in (
      id_known members.Shard shards d (nil_left (row_faults d (one members.Shard (known shards))) _ rows),
      id_known members.Server servers d (nil_left (row_faults d (one members.Server (known servers))) _ after_shard),
      word_known servers d w (nil_right (row_faults d (one members.Server (known servers))) _ after_shard),
    )

-- calls without faults are of known shards and servers, and name known servers
pub calls_within : (shards servers : List (List ℕ)) (ds : List Data) → walked (call_faults shards servers) [] ds ≡ [] → All (IsKnownNamedCall (length shards) (length servers)) (map (call_in shards servers) ds)
calls_within shards servers ds h =
    All-map (IsKnownNamedCall (length shards) (length servers)) (call_in shards servers) ds
    (walked_entries (call_faults shards servers) (λ d. IsKnownNamedCall (length shards) (length servers) (call_in shards servers d)) (λ before d none. call_by_word shards servers d (option_and_then call_word (text_found members.Call d)) none) [] ds h)

-- ---- moves

move_known : (shards servers : List (List ℕ)) (before : List Data) (d : Data) → move_faults shards servers before d ≡ [] → IsKnownMove (length shards) (length servers) (move_in shards servers d)
move_known shards servers before d h =
    let rows = nil_right (object_faults members.Moves (map (λ row. text_of row.member) (move_table shards servers)) d) _ h in
    let after_shard = nil_right (row_faults d (one members.Shard (known shards))) _ rows in
    let after_from = nil_right (row_faults d (one members.From (known servers))) _ after_shard in
    record {
      shard = id_known members.Shard shards d (nil_left (row_faults d (one members.Shard (known shards))) _ rows);
      from = id_known members.From servers d (nil_left (row_faults d (one members.From (known servers))) _ after_shard);
      to = id_known members.To servers d (nil_left (row_faults d (one members.To (known servers))) _ after_from);
    }

-- moves without faults are of known shards and servers
pub moves_within : (shards servers : List (List ℕ)) (ds : List Data) → walked (move_faults shards servers) [] ds ≡ [] → All (IsKnownMove (length shards) (length servers)) (map (move_in shards servers) ds)
moves_within shards servers ds h =
    All-map (IsKnownMove (length shards) (length servers)) (move_in shards servers) ds
    (walked_entries (move_faults shards servers) (λ d. IsKnownMove (length shards) (length servers) (move_in shards servers d)) (move_known shards servers) [] ds h)

-- ---- events

event_rest : (c : Sizes) (shards servers : List (List ℕ)) (d : Data) (w : EventWord) → flat_map (row_faults d) (event_table shards servers w) ≡ [] → NamesKnown (record c { shards = length shards; servers = length servers }) (event_of shards servers d w)
event_rest c shards servers d event_word_of.Step h = tt
event_rest c shards servers d event_word_of.Request h = (
  id_known members.Shard shards d (nil_left (row_faults d (one members.Shard (known shards))) _ h),
  id_known members.Server servers d (nil_left (row_faults d (one members.Server (known servers))) _ (nil_right (row_faults d (one members.Shard (known shards))) _ h)),
)
event_rest c shards servers d event_word_of.PassOn h = tt
event_rest c shards servers d event_word_of.Approve h = id_known members.Server servers d (nil_left (row_faults d (one members.Server (known servers))) _ h)
event_rest c shards servers d event_word_of.Done h = id_known members.Server servers d (nil_left (row_faults d (one members.Server (known servers))) _ h)
event_rest c shards servers d event_word_of.Lose h = tt
event_rest c shards servers d event_word_of.Refill h = number_in-le members.More MOST_CALLS d
event_rest c shards servers d event_word_of.Begin h = tt

event_by_word : (c : Sizes) (shards servers : List (List ℕ)) (d : Data) (o : Option EventWord) → by_word members.Events members.Event (event_table shards servers) d o ≡ [] → NamesKnown (record c { shards = length shards; servers = length servers }) (event_by shards servers d o)
event_by_word c shards servers d None h = tt
event_by_word c shards servers d (Some w) h =
    event_rest c shards servers d w (nil_right (object_faults members.Events (text_of members.Event ∷ map (λ row. text_of row.member) (event_table shards servers w)) d) _ h)

-- events without faults name known shards and servers, and a refill is within its limit
pub events_within : (c : Sizes) (shards servers : List (List ℕ)) (ds : List Data) → walked (event_faults shards servers) [] ds ≡ [] → All (NamesKnown (record c { shards = length shards; servers = length servers })) (map (event_in shards servers) ds)
events_within c shards servers ds h =
    All-map (NamesKnown (record c { shards = length shards; servers = length servers })) (event_in shards servers) ds
    (walked_entries (event_faults shards servers) (λ d. NamesKnown (record c { shards = length shards; servers = length servers }) (event_in shards servers d)) (λ before d none. event_by_word c shards servers d (option_and_then event_word (text_found members.Event d)) none) [] ds h)
