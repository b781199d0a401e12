-- Words of the crates below, and of this crate's definitions, in which most contracts are told.
pub use Rattle.std.specs.Str.{bytes_eq}
pub use Rattle.indexmap.specs.IndexSet.{insert_key}
pub use Rattle.serde_json.specs.Data.{Data}
pub use Rattle.serde_json.specs.Find.{as_number}
pub use Rattle.json_tree.specs.View.{view, members_view}
pub use Rattle.sm_server.specs.Cell.{cell_in}
pub use Rattle.sm_placement.specs.Names.{is_name}
pub use Rattle.sm_placement.specs.Setup.{Setup, IsSetup, names_of_servers, names_of_shards, sizes_of}
pub use Rattle.sm_placement.specs.Config.{server_row, shard_row, setup_of, config_fault}
pub use Rattle.sm_placement.specs.Lead.{IsSettled}
pub use Rattle.sm_placement.specs.Opening.{opened_place, open_fault}
pub use Rattle.sm_placement.specs.Layout.{place_of}
pub use Rattle.sm_reservation.specs.Rights.{no_rights}
pub use Rattle.sm_reservation.specs.Key.{IsOnce}
pub use Rattle.sm_reservation.specs.InOrder.{in_order}
pub use Rattle.sm_reservation.specs.Lists.{rights_of}
pub use Rattle.sm_plan_code.specs.Plan.{PlanModel, IsPlan, IsKnownPlan, IsKnownStream, IsKnownInstr, IsKnownParcel}
pub use Rattle.sm_plan_code.specs.Plan.{IsKnownCrown, IsKnownCellRight}
pub use Rattle.sm_plan_code.specs.Parts.{parts_of}
pub use Rattle.sm_plan_text.specs.declared.cursor.Scope.{Scope}
pub use Rattle.sm_plan_text.specs.declared.fault.TextFault.{TextFault}
pub use Rattle.sm_plan_text.specs.declared.member.Member.{Member}
pub use Rattle.sm_plan_text.specs.Members.{text_of}
pub use Rattle.sm_plan_text.specs.Faults.{number_of, noted, answered, IsFirstOfLowest}
pub use Rattle.sm_plan_text.specs.Values.{found, list_in, items_of, entries_in, entries_found, entries, names_in}
pub use Rattle.sm_plan_text.specs.Values.{number_named, text_in, whole_number_of, number_in, number_or, number_below}
pub use Rattle.sm_plan_text.specs.Values.{flag_in, role_named, role_in, after_named, id_of, id_named, id_in}
pub use Rattle.sm_plan_text.specs.Tables.{walked, own_faults, worded_faults}
pub use Rattle.sm_plan_text.specs.Servers.{server_table, server_faults, server_in, down_in}
pub use Rattle.sm_plan_text.specs.Shards.{cap_limit, shard_table, faults_of_shard, shard_faults, shard_in, listed_in}
pub use Rattle.sm_plan_text.specs.Shards.{cell_faults, named_cell, cells_of_shard, cells_in}
pub use Rattle.sm_plan_text.specs.Calls.{call_word, call_table, call_worded, call_in}
pub use Rattle.sm_plan_text.specs.Events.{event_word, event_table, event_by, event_in}
pub use Rattle.sm_plan_text.specs.Moves.{move_table, move_in}
pub use Rattle.sm_plan_text.specs.Parcels.{plain_named, right_table, right_in, lead_word, crown_table, lead_worded}
pub use Rattle.sm_plan_text.specs.Parcels.{crown_in, room_table, room_in, spare_table, spare_in, parcel_faults}
pub use Rattle.sm_plan_text.specs.Parcels.{parcel_in}
pub use Rattle.sm_plan_text.specs.Instructions.{instr_word, instr_table, instr_faults, instr_of, instr_in}
pub use Rattle.sm_plan_text.specs.Plans.{faults_within, knows_retries, stream_table, stream_in, plan_faults, plan_in}
pub use Rattle.sm_plan_text.specs.Rules.{row_of, HasIds}
pub use Rattle.sm_plan_text.specs.Outlines.{IsKept, IsEarly, IsPartialOutline, IsOutlined, IsOutline}
pub use Rattle.sm_plan_text.specs.Work.{AreKept, IsWork, work_noted}
pub use Rattle.sm_plan_text.specs.Documents.{document_table, document_faults, rows_in, IsDocument}
pub use Rattle.sm_plan_text.specs.Opened.{opening_of}
pub use Rattle.sm_plan_text.specs.Reading.{data_of, read_data, read, read_plan, read_plan_data, rows_of, rows_of_parts}
