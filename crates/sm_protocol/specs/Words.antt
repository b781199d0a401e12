-- The words of the crates below, and of the crate's own types, in which the protocol is told.
pub use Rattle.std.specs.List.{AllByRecursion, filter_map, list_any, range_with_len}
pub use Rattle.std.specs.Option.{option_map_or, option_to_list}
pub use Rattle.sm_server.specs.declared.call.Cell.{Cell}
pub use Rattle.sm_server.specs.declared.call.Refusal.{Refusal}
pub use Rattle.sm_placement.specs.declared.entry.Entry.{Entry}
pub use Rattle.sm_placement.specs.declared.limits.TheConstants.{VERSIONS_END}
pub use Rattle.sm_placement.specs.Sums.{any_below, bit, first_from, put, put2, sum_below}
pub use Rattle.sm_placement.specs.Setup.{IsSetup, Setup, Sizes, sizes_of}
pub use Rattle.sm_placement.specs.Layout.{IsPlacement}
pub use Rattle.sm_placement.specs.Lead.{IsSettled}
pub use Rattle.sm_placement.specs.SafePlace.{IsSafePlace, IsServing}
pub use Rattle.sm_placement.specs.Place.{CallEffect, IsAllowed, Place, called_numbered, down_count, entry_at}
pub use Rattle.sm_placement.specs.Place.{forget_numbers, is_live_at, live_at, load_at, publish, set_down}
pub use Rattle.sm_reservation.specs.declared.stream_id.StreamId.{StreamId}
pub use Rattle.sm_reservation.specs.Rights.{Rights}
pub use Rattle.sm_reservation.specs.Hold.{Hold}
pub use Rattle.sm_reservation.specs.HoldOf.{hold_of}
pub use Rattle.sm_reservation.specs.Amounts.{OfRoom, OfSpare, Right, bound, count, stock}
pub use Rattle.sm_reservation.specs.Pool.{free_cell, free_crown, leads_of, true_rights}
pub use Rattle.sm_plan_code.specs.declared.limits.TheConstants.{MOST_ALLOWANCE, MOST_CALLS, MOST_NUMBER, MOST_PLACES}
pub use Rattle.sm_plan_code.specs.declared.limits.TheConstants.{MOST_PLANS}
pub use Rattle.sm_plan_code.specs.declared.instruction.Instr.{Instr}
pub use Rattle.sm_plan_code.specs.declared.call.ServerCall.{ServerCall}
pub use Rattle.sm_plan_code.specs.Instr.{is_call, is_mentioned, is_no_call, shard_of}
pub use Rattle.sm_plan_code.specs.Acts.{call_again, next_call, numbers_after}
pub use Rattle.sm_plan_code.specs.After.{to_list}
pub use Rattle.sm_plan_code.specs.Plan.{PlanModel, StreamModel, places_of}
pub use Rattle.sm_verifier.specs.declared.admission.Holding.{Holding}
pub use Rattle.sm_verifier.specs.Step.{parcels_of}
pub use Rattle.sm_verifier.specs.Stream.{hold_before, no_stream, stream_at}
pub use Rattle.sm_verifier.specs.Plan.{IsCheckedPlan, IsSound}
pub use Rattle.sm_verifier.specs.PlanEnd.{ends_of}
pub use Rattle.sm_verifier.specs.Admission.{AreUp}
pub use Rattle.sm_verifier.specs.Within.{declared_sum}
pub use Rattle.sm_verifier.specs.FirstHolding.{first_holding}
pub use Rattle.sm_task_controller.specs.declared.decision.Denied.{Denied}
pub use Rattle.sm_task_controller.specs.Decision.{denial}
pub use Rattle.sm_protocol.specs.declared.event.Event.{Event}
pub use Rattle.sm_protocol.specs.declared.event.Passage.{Passage}
pub use Rattle.sm_protocol.specs.declared.event.Played.{Played}
pub use Rattle.sm_protocol.specs.declared.event.Logged.{Logged}
pub use Rattle.sm_protocol.specs.declared.event.BeginFault.{BeginFault}
pub use Rattle.sm_protocol.specs.declared.event.RefillFault.{RefillFault}
