-- The words of this crate that its lemmas speak of, from where they are defined.
pub use Rattle.sm_protocol.specs.Hand.{Game, Hand, all_given, given, hand_after, hand_by, is_token, or_unknown, play, played_events, plays, spends, tickets_of, turn, turn_by, without_first}
pub use Rattle.sm_protocol.specs.Happens.{Approve, Arrive, Begin, Done, Happening, Lose, PassOn, Refill, Step, answer_by, approved, begun, engaged, engages, happens, has_all_plans, is_mentioned, outcomes, refill_fault, refilled, reply_of, requested, run, started}
pub use Rattle.sm_protocol.specs.Laws.{AllFit, ApprovedWhereReserved, AreChecked, AreServed, AsksNoLoss, BegunWhereAccepted, CountsEffects, EachReached, EffectsOnce, EndsAreReached, ExecutedServes, FitsConfig, FollowsEntries, HasEffectOnce, HasLost, HasNoLost, Headline, IsCheckedPlan, IsConserved, IsOpening, IsReached, IsSmall, IsSpent, LosesNothing, NamesKnown, NextIsServed, PlaysAreRuns, PlaysAreSafe, TicketsOnce, UnrecordedChangesNothing, WithLosses, asked, effect_numbers, effect_numbers_at, effect_of_stream, entry_after, spends_at, times_spent}
pub use Rattle.sm_protocol.specs.Log.{IsAcceptedStart, IsInLog, IsLegal, IsPass, IsRequestTo, Replays, down_after, down_by, ends_of, lines_at, happening_of, is_step_of, script, script_to, starts_at, steps_in}
pub use Rattle.sm_protocol.specs.Safe.{CanStep, HasSpent, IsAccepted, IsApproved, IsSafe, IsSafePlace, IsServing, IsStep, SomeCanStep, SomeCanStepOrSpent, unhalted}
pub use Rattle.sm_protocol.specs.State.{Mark, Progress, Start, State, allowance, free_cell, free_crown, free_places, fresh, held, held_by, hold_of_stream, is_begun, is_no_call, is_running, is_under_way, is_unfinished, logged, next_instruction, no_mark, no_start, opened, stream_parts, places_left, places_of, plan_at, pool, progress_of, reach, recorded, set_aside, set_progress, stream_count, stream_id}
pub use Rattle.sm_protocol.specs.Steps.{Answered, Outcome, Refused, ahead_of_call, behind, behind_call, call_again, call_lost, call_number, call_to_make, call_tried, ended, made, number_after_try, posted, entry_added, served_try, step, tried, tried_more, unchanged}
pub use Rattle.sm_protocol.specs.Ticket.{Ticket, is_open_ticket, is_pass_on, is_passed_on, pass_of, pass_of_event, passes, passes_from, same_ticket}
pub use Rattle.sm_protocol.specs.declared.event.Event.{Event}
pub use Rattle.sm_protocol.specs.declared.event.Logged.{Logged}
pub use Rattle.sm_protocol.specs.declared.event.Passage.{Passage}
pub use Rattle.sm_protocol.specs.declared.event.Passage.TheVariants.{LostAfter, LostBefore, Through}
pub use Rattle.sm_protocol.specs.declared.event.Played.{Played}
pub use Rattle.sm_protocol.specs.declared.event.RefillFault.{RefillFault}
