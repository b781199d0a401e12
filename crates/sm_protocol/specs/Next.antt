-- The next act of a stream, by what is recorded: its call with the handover number, its entry of the published map, or
-- the signal that it waits for; and when it came there.
use Rattle.std.specs.Prelude.{ℕ, suc, ◌+◌, Option, Some, None, List, [], ◌∷◌, filter, length, slice_index_or}
use Rattle.std.specs.Prelude.{if◌then◌else◌}
use Rattle.sm_plan_code.specs.declared.instruction.Instr.TheVariants as instr
use Rattle.sm_protocol.specs.Words.{Entry, Instr, Logged, ServerCall, StreamId, leads_of, next_call, range_with_len}
use Rattle.sm_protocol.specs.Words.{to_list}
use Rattle.sm_protocol.specs.State.{State, is_running, is_unfinished, next_instruction, no_start}
use Rattle.sm_protocol.specs.Log.{is_step_of}

-- the instruction that a running stream makes next, none at its end, and none of any other stream
abbrev pub instruction_before : State → StreamId → Option Instr
instruction_before w id = if is_running w id then next_instruction w id else None

-- the call of an instruction at these highest handover numbers, if there is one and it is a call
abbrev pub call_under : (ℕ → ℕ) → Option Instr → Option ServerCall
call_under numbers None = None
call_under numbers (Some i) = next_call numbers i

-- The call that a running stream stands before: a handover that it begins has a new number of its shard, and one that
-- goes on the highest.
abbrev pub next_call_of : State → StreamId → Option ServerCall
next_call_of w id = call_under w.numbers (instruction_before w id)

-- a shard's next entry of the published map, if it lists this server
abbrev pub entry_listing : State → ℕ → Option ℕ → ℕ × Entry
entry_listing w s server = (s, record { server = server; version = suc (w.place.version s) })

-- the entry that an instruction adds to the published map, with its shard
abbrev pub entry_by : State → Option Instr → Option (ℕ × Entry)
entry_by w (Some (instr.Publish s)) = Some (entry_listing w s (to_list (leads_of w.sizes w.place s)))
entry_by w (Some (instr.Unlist s)) = Some (entry_listing w s None)
entry_by w _ = None

-- the entry that a running stream stands before
abbrev pub next_entry_of : State → StreamId → Option (ℕ × Entry)
next_entry_of w id = entry_by w (instruction_before w id)

-- the signal that an instruction of a plan waits for, if it is not posted
abbrev pub unposted : State → ℕ → Option Instr → Option ℕ
unposted w k (Some (instr.Wait q)) = if (w.marks k q).posted then None else Some q
unposted w k _ = None

-- the signal that a running stream waits for
abbrev pub blocked_on : State → StreamId → Option ℕ
blocked_on w id = unposted w id.plan (instruction_before w id)

-- The length of a log, which began at n, behind the last step of the stream in it, or a default if it has none.
abbrev pub since_in : StreamId → ℕ → ℕ → List Logged → ℕ
since_in id start n [] = start
since_in id start n (x ∷ xs) = since_in id (if is_step_of id x.event then n + 1 else start) (n + 1) xs

-- the log's length when the stream came to its position: behind its last step, or at its plan's start if it has made
-- none
abbrev pub since_of : State → StreamId → ℕ
since_of w id = since_in id (slice_index_or w.plans id.plan no_start).since 0 w.log

-- the plans that have a stream that has not finished, in the order of their starts
abbrev pub unfinished_plans : State → List ℕ
unfinished_plans w = filter (is_unfinished w) (range_with_len 0 (length w.plans))
