-- Local steps are entries that the controller takes.
use Rattle.std.proofs.Common.{◌≡◌, ◌∙◌, ◌∷◌, ◌++◌, [], true, Option, Some, None, List, length, map, reverse, refl, sym, ap, subst}
use Rattle.std.specs.Prelude.{◌&&◌, is_none, if◌then◌else◌}
use Rattle.std.proofs.lemmas.Bool.{and_from, and_parts}
use Rattle.std.proofs.lemmas.List.{map-append, reverse-append}
use Rattle.sm_placement.specs.Sums.{first_from}
use Rattle.sm_reservation.specs.declared.stream_id.StreamId.{StreamId}
use Rattle.sm_plan_code.specs.declared.instruction.Instr.{Instr}
use Rattle.sm_plan_code.specs.declared.instruction.Instr.TheVariants as instr
use Rattle.sm_protocol.specs.State.{State, is_running, next_instruction, stream_count, stream_id}
use Rattle.sm_protocol.specs.Next.{blocked_on, call_under, entry_by, instruction_before, next_call_of, next_entry_of}
use Rattle.sm_protocol.specs.Happens.{Step, happens, run}
use Rattle.laws_network.specs.Net.{instruction_call}
use Rattle.laws_network.specs.World.{publication_by}
use Rattle.laws_network.specs.Controller.{Controller, JournalEntry, Made, entry_recorded, goes_on, is_local, replayed}
use Rattle.sm_driver.specs.Advance.{AreNextFree, IsAdvanced, is_free, next_free}
use Rattle.laws_driver.specs.Control.{free_steps}
use Rattle.laws_driver.proofs.Searches.{found_at, passed}

-- the stream that is found is free
next_is_free : (w : State) (id : StreamId) → next_free w ≡ Some id → is_free w id ≡ true
next_is_free w id e =
    let plan = found_at (λ k. first_from 0 (stream_count w k) (λ i. if is_free w (stream_id k i) then Some (stream_id k i) else None)) 0 (length w.plans) id e in
    let stream = found_at (λ i. if is_free w (stream_id plan.0 i) then Some (stream_id plan.0 i) else None) 0 (stream_count w plan.0) id plan.2 in
    let here = passed (is_free w (stream_id plan.0 stream.0)) (stream_id plan.0 stream.0) id stream.2 in
    subst (λ x. is_free w x ≡ true) here.1 here.0

no_call : (w : State) (o : Option Instr) → is_none (call_under w.numbers o) ≡ true → is_none (instruction_call w.numbers o) ≡ true
no_call w None e = refl
no_call w (Some i) e = e

no_publication : (w : State) (o : Option Instr) → is_none (entry_by w o) ≡ true → is_none (publication_by w o) ≡ true
no_publication w None e = refl
no_publication w (Some (instr.Publish s)) e = absurd (cc)
no_publication w (Some (instr.Unlist s)) e = absurd (cc)
no_publication w (Some i) e = refl

-- a free stream's step is local
free_is_local : (w : State) (id : StreamId) → is_free w id ≡ true → is_local w (Step id) ≡ true
free_is_local w id free =
    let p = and_parts ((is_running w id && is_none (next_call_of w id)) && is_none (next_entry_of w id)) (is_none (blocked_on w id)) free in
    let q = and_parts (is_running w id && is_none (next_call_of w id)) (is_none (next_entry_of w id)) p.0 in
    let r = and_parts (is_running w id) (is_none (next_call_of w id)) q.0 in
    let before : instruction_before w id ≡ next_instruction w id = ap (λ t. if t then next_instruction w id else None) r.0 in
    and_from _ _
    (no_call w (next_instruction w id) (ap (λ o. is_none (call_under w.numbers o)) (sym before) ∙ r.1))
    (no_publication w (next_instruction w id) (ap (λ o. is_none (entry_by w o)) (sym before) ∙ q.1))

-- the controller with another record
abbrev pub recording : Controller → State → Controller
recording c w = record c { w = w }

-- so the controller takes it
step_taken : (c : Controller) (id : StreamId) → is_free c.w id ≡ true → entry_recorded c (Made (Step id)) ≡ recording c (happens c.w (Step id)).1
step_taken c id free = ap (λ b. if b then goes_on c (Step id) else c) (free_is_local c.w id free)

-- entries in turn
pub replayed_then : (c : Controller) (xs ys : List JournalEntry) → replayed c (xs ++ ys) ≡ replayed (replayed c ys) xs
replayed_then c [] ys = refl
replayed_then c (x ∷ xs) ys = ap (λ k. entry_recorded k x) (replayed_then c xs ys)

-- the first of several steps is the last in the list
pub step_last : (id : StreamId) (ids : List StreamId) → free_steps (id ∷ ids) ≡ free_steps ids ++ Made (Step id) ∷ []
step_last id ids = ap (map (λ x. Made (Step x))) (reverse-append (id ∷ []) ids) ∙ map-append (λ x. Made (Step x)) (reverse ids) (id ∷ [])

-- local steps, made in turn
free_taken : (ids : List StreamId) (c : Controller) → AreNextFree ids c.w → replayed c (free_steps ids) ≡ recording c (run (map Step ids) c.w)
free_taken [] c free = refl
free_taken (id ∷ ids) c free =
    ap (replayed c) (step_last id ids)
    ∙ replayed_then c (free_steps ids) (Made (Step id) ∷ [])
    ∙ ap (λ k. replayed k (free_steps ids)) (step_taken c id (next_is_free c.w id free.0))
    ∙ free_taken ids (recording c (happens c.w (Step id)).1) free.1

-- an entry that leads to a record, and the local steps behind it
pub advanced : (c : Controller) (e : JournalEntry) (between new : State) (x : IsAdvanced between new) → entry_recorded c e ≡ recording c between →
    replayed c (free_steps x.streams ++ e ∷ []) ≡ recording c new
advanced c e between new x taken =
    replayed_then c (free_steps x.streams) (e ∷ [])
    ∙ ap (λ k. replayed k (free_steps x.streams)) taken
    ∙ free_taken x.streams (recording c between) x.free
    ∙ ap (recording c) (sym x.state)
