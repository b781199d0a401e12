-- The lines of a plan that was run, and of what was asked beside it.
-- `end_line` and `end_lines` are internal: you need not read them for the public contracts.
use Rattle.std.specs.Prelude.{ℕ, ◌+◌, Option, Some, None, List, [], ◌∷◌, ◌++◌, codes, count_by, length, slice_index_or}
use Rattle.std.specs.List.{flat_map, range_with_len}
use Rattle.std.specs.Fmt.{decimal}
use Rattle.sm_placement.specs.Setup.{Setup}
use Rattle.sm_reservation.specs.declared.stream_id.StreamId.{StreamId}
use Rattle.sm_plan_code.specs.Instr.{is_call}
use Rattle.sm_plan_code.specs.Plan.{PlanModel, StreamModel}
use Rattle.sm_verifier.specs.Stream.{no_stream}
use Rattle.sm_protocol.specs.State.{State, stream_id, stream_count, progress_of, allowance}
use Rattle.sm_machine.specs.Retired.{steps_at_end}
use Rattle.sm_router.specs.declared.asking.Asked.{Asked}
use Rattle.sm_router.specs.declared.asking.Asked.TheVariants as asked
use Rattle.sm_executor.specs.Clients.{ClientModel}
use Rattle.sm_report_text.specs.Lines.{line}
use Rattle.sm_report_text.specs.Ending.{server_name}
use Rattle.sm_report_text.specs.EventLines.{word_line, executed_line}

-- ---- streams

-- a stream that has finished: its recorded steps, the tries of its calls, and how many it was allowed
abbrev pub stream_end_line : ℕ → ℕ → ℕ → ℕ → List ℕ
stream_end_line stream steps calls budget
    = line (codes "stream " ∷ decimal stream ∷ codes ": steps " ∷ decimal steps ∷ codes " calls " ∷ decimal calls ∷ codes " budget " ∷ decimal budget ∷ [])

-- the same of a stream as it stands
abbrev pub end_line : State → StreamId → List ℕ
end_line w id = stream_end_line id.stream (steps_at_end w id) (progress_of w id).tries (allowance w id)

-- the lines of all streams of the plan with this number
abbrev pub end_lines : State → ℕ → List ℕ
end_lines w number = flat_map (λ i. end_line w (stream_id number i)) (range_with_len 0 (stream_count w number))

-- The line of a stream that was run to its end, where each of its calls was tried once: its steps are its instructions
-- and its end, its tries its calls, and it was allowed its budget and its retries.
abbrev pub run_line : ℕ → StreamModel → List ℕ
run_line i stream = stream_end_line i (length stream.code + 1) (count_by is_call stream.code) (stream.budget + stream.retries)

-- the lines of all streams of a plan that was run so
abbrev pub run_lines : PlanModel → List ℕ
run_lines plan = flat_map (λ i. run_line i (slice_index_or plan.streams i no_stream)) (range_with_len 0 (length plan.streams))

-- ---- asks

-- the ask in front of its answer
abbrev pub ask_front : ℕ → List ℕ
ask_front i = codes "ask " ++ decimal i ++ codes ": "

-- what an ask was answered
abbrev pub asked_line : Setup → Asked → List ℕ
asked_line setup (asked.Executed server) = executed_line (server_name setup server)
asked_line setup asked.NotListed = word_line (codes "not listed")
asked_line setup asked.Unavailable = word_line (codes "unavailable")
asked_line setup asked.TooManyHops = word_line (codes "too many hops")
asked_line setup asked.LogFull = word_line (codes "log full")

-- the line of an ask that was answered
abbrev pub ask_line : Setup → ℕ → Asked → List ℕ
ask_line setup i answer = ask_front i ++ asked_line setup answer

-- the line of a client, which has none before its ask
abbrev pub client_line : Setup → ℕ → Option Asked → List ℕ
client_line setup i None = []
client_line setup i (Some answer) = ask_line setup i answer

-- the lines of clients, numbered from i
abbrev pub client_lines : Setup → ℕ → List ClientModel → List ℕ
client_lines setup i [] = []
client_lines setup i (client ∷ clients) = client_line setup i client.asked ++ client_lines setup (i + 1) clients
