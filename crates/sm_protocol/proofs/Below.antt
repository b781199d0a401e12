-- The words and lemmas of std and of the crates below that the lemmas here cite, from where they are defined.
pub use Rattle.std.proofs.Common.{Bool, Err, List, None, Ok, Option, Result, Some, [], ap, append_assoc, arith, cond, drop, false, get_or, inl, inr, length, length-append, not, refl, subst, suc, sym, true, zero, ℕ, ◌++◌, ◌+◌, ◌-◌, ◌<◌, ◌^◌, ◌∙◌, ◌∷◌, ◌≡◌, ◌≢◌, ◌≤◌, ◌⊎◌}
pub use Rattle.std.proofs.Math.Path.{fun_ext}
pub use Rattle.std.proofs.Math.Seq.{get_or-append_seam, take-length}
pub use Rattle.std.proofs.lemmas.Bool.{and_from, and_left, and_parts, and_right, cases_Bool, cases_eq, cases_lt, eq-eqb, eqb-false, eqb-true, le-ltb, lt-ltb, ltb-false, ltb-true, ne_eqb, not-true, or_parts}
pub use Rattle.std.proofs.lemmas.Grind.{replicate_next}
pub use Rattle.std.proofs.lemmas.List.{append-nil, get_or_append_left, get_or_past, map-append}
pub use Rattle.std.proofs.lemmas.List.Elements.{Contains-append_cases, Contains-append_left, Contains-push, Contains-push_cases, filter-append}
pub use Rattle.std.proofs.lemmas.List.Folds.{list_any-append}
pub use Rattle.std.proofs.lemmas.List.Sums.{count_by_more_no, count_by_more_yes, sum_by-cons, sum_by-drop_more, sum_by-take-le, sum_by_push}
pub use Rattle.std.proofs.lemmas.Option.{get_or_from_slice_get, none-some, same_Some, slice_get_cases, slice_get_past, slice_get_within}
pub use Rattle.std.specs.List.{AllByRecursion, filter_map, list_any}
pub use Rattle.std.specs.Prelude.{Contains, count_by, filter, find, if◌then◌else◌, map, nat_lt, option_map, replicate, slice_get, slice_index_or, slice_set, take, unwrap_or, ◌&&◌, ◌==◌}
pub use Rattle.std.specs.Option.{option_map_or}
pub use Rattle.sm_placement.proofs.Calls.{numbered_again, placement_with_lasts}
pub use Rattle.sm_placement.proofs.Layouts.{downed_placement}
pub use Rattle.sm_placement.proofs.LeadOf.{lead_of_is}
pub use Rattle.sm_placement.proofs.Leads.{leader_serves, one_serves}
pub use Rattle.sm_placement.proofs.Lives.{live_after_down, live_after_up}
pub use Rattle.sm_placement.proofs.Searches.{any_none, first_from_none}
pub use Rattle.sm_placement.proofs.Sums.{bit-le-one, part_of_sum, put-apart, put-here, put2-here, same_sum, sum_apart, sum_of_both, sum_zero}
pub use Rattle.sm_placement.specs.Layout.{IsPlacement}
pub use Rattle.sm_placement.specs.Lead.{Describes, IsPlain, is_at_rest, lead_of}
pub use Rattle.sm_placement.specs.Place.{CallEffect, Place, called_numbered, down_count, entry_at, forget_numbers, is_live_at, live_at, load_at, numbered_answer_at, publish, set_down, set_last, with_lasts}
pub use Rattle.sm_placement.specs.Rows.{serves}
pub use Rattle.sm_placement.specs.Setup.{Setup, Sizes, sizes_of}
pub use Rattle.sm_placement.specs.Sums.{bit, count_below, first_from, put, put2, sum_below}
pub use Rattle.sm_placement.specs.declared.entry.Entry.{Entry}
pub use Rattle.sm_placement.specs.declared.lead.Lead.{Lead}
pub use Rattle.sm_placement.specs.declared.lead.Lead.TheVariants.{At, Gone, Handed, Handing, Ready}
pub use Rattle.sm_plan_code.proofs.Effects.{effect}
pub use Rattle.sm_plan_code.proofs.Exclusive.{exclusive}
pub use Rattle.sm_plan_code.proofs.Known.{parcel_below, restarted_reachable, signals_known}
pub use Rattle.sm_plan_code.proofs.Lasts.{lasts_are_unseen}
pub use Rattle.sm_plan_code.proofs.Numbered.{numbered_effect}
pub use Rattle.sm_plan_code.proofs.Parcels.{signal_counts, wait_counts}
pub use Rattle.sm_plan_code.proofs.Reaches.{within_reach}
pub use Rattle.sm_plan_code.specs.Acts.{acts, next_call, numbers_after, publishes}
pub use Rattle.sm_plan_code.specs.After.{after, to_list}
pub use Rattle.sm_plan_code.specs.Effects.{Effect, IsListable, IsReachable, IsScene, MayHavePassed, NumberedEffect, SameRights, touched}
pub use Rattle.sm_plan_code.specs.Instr.{IsOwn, Mentions, is_call, names_of, shard_of}
pub use Rattle.sm_plan_code.specs.Plan.{PlanModel, StreamModel}
pub use Rattle.sm_plan_code.specs.Reach.{IsWithinReach}
pub use Rattle.sm_plan_code.specs.declared.call.ServerCall.{ServerCall}
pub use Rattle.sm_plan_code.specs.declared.instruction.Instr.{Instr}
pub use Rattle.sm_plan_code.specs.declared.instruction.Instr.TheVariants.{Add, Change, Drop, PrepareAdd, PrepareDrop, Publish, Signal, Unlist, Wait}
pub use Rattle.sm_reservation.proofs.TrueRights.{true_rights_hold}
pub use Rattle.sm_reservation.proofs.Truths.{is_cell_self, is_cell_true, same_lead_true, same_server_true}
pub use Rattle.sm_reservation.specs.Amounts.{OfCell, OfCrown, OfRoom, OfSpare, Right, bound, count, is_cell, is_crown, plain_of, same_lead, same_listed, stock}
pub use Rattle.sm_reservation.specs.Hold.{Hold}
pub use Rattle.sm_reservation.specs.HoldOf.{hold_of}
pub use Rattle.sm_reservation.specs.Key.{IsOrdered}
pub use Rattle.sm_reservation.specs.Pool.{IsKnownHold, leads_of, true_rights}
pub use Rattle.sm_reservation.specs.declared.right.PlainCell.{PlainCell}
pub use Rattle.sm_reservation.specs.declared.stream_id.StreamId.{StreamId}
pub use Rattle.sm_server.specs.declared.call.Call.{Call}
pub use Rattle.sm_server.specs.declared.call.Cell.{Cell}
pub use Rattle.sm_server.specs.declared.call.Cell.TheVariants.{Absent, Forwarding, Prepared, Primary, Secondary}
pub use Rattle.sm_server.specs.declared.call.Refusal.{Refusal}
pub use Rattle.sm_server.specs.declared.call.Served.{Served}
pub use Rattle.sm_task_controller.proofs.Denials.{IsGranted, granted, not_denied}
pub use Rattle.sm_task_controller.specs.Decision.{denial, first_without_spare}
pub use Rattle.sm_task_controller.specs.declared.decision.Denied.{Denied}
pub use Rattle.sm_verifier.proofs.Holdings.{finds_holding}
pub use Rattle.sm_verifier.proofs.Judging.{crown_self, crown_true}
pub use Rattle.sm_verifier.proofs.Once.{are_of_plan, stand_once}
pub use Rattle.sm_verifier.proofs.Progress.{some_goes_on}
pub use Rattle.sm_verifier.proofs.Streams.{one_more}
pub use Rattle.sm_verifier.proofs.SumLemmas.{sum_below-front, sum_by-below, two_of_sum}
pub use Rattle.sm_verifier.proofs.Turns.{in_turn, reachable}
pub use Rattle.sm_verifier.proofs.WithinPool.{admitted_within, within_admitted}
pub use Rattle.sm_verifier.specs.Admission.{IsAdmitted, declared}
pub use Rattle.sm_verifier.specs.FirstHolding.{first_holding}
pub use Rattle.sm_verifier.specs.Order.{code_at}
pub use Rattle.sm_verifier.specs.Plan.{KeepsBudget, total_budget}
pub use Rattle.sm_verifier.specs.Progress.{CanMakeNext}
pub use Rattle.sm_verifier.specs.Signals.{post_of, wait_of}
pub use Rattle.sm_verifier.specs.Step.{parcels_of}
pub use Rattle.sm_verifier.specs.Stream.{Course, HasCrownsAtRest, IsGood, calls_before, final_hold, hold_before, no_stream, stream_at}
pub use Rattle.sm_verifier.specs.Within.{AreWithin, declared_sum}
pub use Rattle.sm_verifier.specs.declared.admission.Holding.{Holding}
pub use Rattle.sm_verifier.specs.PlanEnd.{set_by, is_publication, publications, end_of}
pub use Rattle.sm_verifier.proofs.EndKinds.{IsKind, cell_kind, cell_now, cell_reaches, cell_rule, cell_set, listed_kind, listed_now, listed_reaches, listed_rule, listed_set}
pub use Rattle.sm_verifier.proofs.EndFolds.{end_sets, plans_here, plans_same, set_plans, set_streams, streams_past}
pub use Rattle.sm_plan_code.proofs.Passings.{CanBePassed, passed_by_lead, passed_of_lead, forwarding_passes, prepared_serves}
pub use Rattle.sm_verifier.proofs.OnePlace.{put2_cases, put_each, count_put, count_put_down, sum_below_le, some_below}
