-- The effect of a step and its answer, by its kind, if streams are not stopped.
use Rattle.std.proofs.Common.{◌≡◌, Bool, true, false, ap, ◌∙◌, Option, Some}
use Rattle.std.specs.Prelude.{◌==◌, if◌then◌else◌}
use Rattle.sm_reservation.specs.declared.stream_id.StreamId.{StreamId}
use Rattle.sm_plan_code.specs.declared.call.ServerCall.{ServerCall}
use Rattle.sm_plan_code.specs.declared.instruction.Instr.{Instr}
use Rattle.sm_plan_code.specs.Instr.{is_call}
use Rattle.sm_protocol.specs.declared.event.Passage.{Passage}
use Rattle.sm_protocol.specs.declared.event.Played.TheVariants as played
use Rattle.sm_protocol.specs.State.{State, progress_of, is_begun, next_instruction, allowance}
use Rattle.sm_protocol.specs.Steps.{Outcome, unchanged, call_to_make, tried, call_tried, made, step}
use Rattle.sm_protocol.proofs.Cases.{IsBefore, IsTry, answer_to}
use Rattle.sm_machine.proofs.ties.Making.{made_call}

module _ (w : State) (id : StreamId) (passage : Passage) where
  abbrev by_running : Bool → Outcome × State
  by_running t = if t then unchanged w played.Done else made w id passage (next_instruction w id)

  abbrev by_begun : Bool → Outcome × State
  by_begun t = if t then by_running (progress_of w id).done else unchanged w played.Unknown

  abbrev by_flag : Bool → Outcome × State
  by_flag t = if t then unchanged w played.Halted else by_begun (is_begun w id)

  -- the stream has an instruction to make, or its end
  pub step_made : w.halted ≡ false → (o : Option Instr) → IsBefore w id o → step w id passage ≡ made w id passage o
  step_made h o b = ap by_flag h ∙ ap by_begun b.begun ∙ ap by_running b.running ∙ ap (made w id passage) b.next_is

  -- ---- calls

  abbrev by_tries : Instr → ServerCall → Bool → Outcome × State
  by_tries i x t = if t then unchanged w played.Spent else tried w id i passage (answer_to w id x)

  step_called : w.halted ≡ false → (i : Instr) (x : ServerCall) → IsBefore w id (Some i) → is_call i ≡ true → call_to_make w (progress_of w id) i ≡ Some x →
      step w id passage ≡ by_tries i x ((progress_of w id).tries == allowance w id)
  step_called h i x b c makes = step_made h _ b ∙ made_call w id passage i c ∙ ap (call_tried w id passage i) makes

  -- where a stream tries a call, its step is what comes of the call on its way and of its server's answer
  pub step_tried : w.halted ≡ false → (i : Instr) (x : ServerCall) → IsTry w id i x → step w id passage ≡ tried w id i passage (answer_to w id x)
  step_tried h i x t = step_called h i x t.before t.call t.call_is ∙ ap (by_tries i x) t.unspent
