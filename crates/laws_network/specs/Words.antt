-- The words of the crates below in which the network is told.
pub use Rattle.std.specs.List.{AllByRecursion}
pub use Rattle.std.specs.Option.{option_to_list}
pub use Rattle.sm_server.specs.declared.call.Cell.{Cell}
pub use Rattle.sm_server.specs.declared.call.Refusal.{Refusal}
pub use Rattle.sm_server.specs.Call.{led_to}
pub use Rattle.sm_placement.specs.Sums.{put2}
pub use Rattle.sm_placement.specs.Setup.{Setup, Sizes, sizes_of}
pub use Rattle.sm_placement.specs.SafePlace.{IsSafePlace, IsServing}
pub use Rattle.sm_placement.specs.Place.{Place, load_of}
pub use Rattle.sm_placement.specs.declared.entry.Entry.{Entry}
pub use Rattle.sm_reservation.specs.declared.stream_id.StreamId.{StreamId}
pub use Rattle.sm_plan_code.specs.declared.instruction.Instr.{Instr}
pub use Rattle.sm_plan_code.specs.declared.call.ServerCall.{ServerCall}
pub use Rattle.sm_plan_code.specs.Acts.{next_call}
pub use Rattle.sm_plan_code.specs.After.{to_list}
pub use Rattle.sm_reservation.specs.Pool.{leads_of}
pub use Rattle.sm_verifier.specs.PlanEnd.{ends_of}
pub use Rattle.sm_protocol.specs.State.{State, is_begun, is_running, is_unfinished, next_instruction, no_start, opened}
pub use Rattle.sm_protocol.specs.State.{progress_of, stream_count, stream_id}
pub use Rattle.sm_protocol.specs.Next.{since_in, since_of}
pub use Rattle.sm_protocol.specs.Steps.{Outcome}
pub use Rattle.sm_protocol.specs.Hand.{is_token}
pub use Rattle.sm_protocol.specs.Happens.{Happening, Step, Lose, Refill, Arrive, PassOn, Approve, Done, Begin, happens}
pub use Rattle.sm_protocol.specs.Happens.{reply_of}
pub use Rattle.sm_protocol.specs.Safe.{IsStep}
pub use Rattle.sm_protocol.specs.Laws.{AreDone, FitsConfig, IsOpening, IsReached}
pub use Rattle.sm_protocol.specs.declared.event.Logged.{Logged}
pub use Rattle.sm_protocol.specs.Log.{is_step_of}
pub use Rattle.sm_protocol.specs.declared.event.Played.{Played}
pub use Rattle.sm_protocol.specs.Ticket.{Ticket}
pub use Rattle.laws_network.specs.declared.delivery.Delivery.{Delivery}
pub use Rattle.laws_network.specs.Orders.{delivery_of}
