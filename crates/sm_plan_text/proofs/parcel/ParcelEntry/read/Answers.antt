use Rattle.std.proofs.Common.{◌≡◌, ◌∙◌, ◌++◌, ℕ, List, [], ap, sym, subst}
use Rattle.serde_json.specs.Data.{Data}
use Rattle.json_tree.specs.View.{view}
use Rattle.sm_reservation.specs.Rights.{Rights}
use Rattle.sm_reservation.specs.Key.{IsOnce}
use Rattle.sm_reservation.specs.InOrder.{in_order}
use Rattle.sm_plan_text.specs.declared.fault.TextFault.{TextFault}
use Rattle.sm_plan_text.specs.declared.member.Member.TheVariants as members
use Rattle.sm_plan_text.specs.Values.{entries_in}
use Rattle.sm_plan_text.specs.Tables.{own_faults, walked}
use Rattle.sm_plan_text.specs.Parcels.{right_faults, crown_faults, room_faults, spare_faults, parcel_table, parcel_faults, parcel_lists_in}
use Rattle.sm_plan_text.proofs.DocumentLemmas.{two_noted}
use Rattle.sm_plan_text.proofs.PlanLemmas.{none_before, none_at_all}
use Rattle.sm_plan_text.proofs.FaultlessParcel.{parcel_is_once}
use Rattle.sm_plan_text.proofs.parcel.ParcelEntry.read.Goals as goal

pub returns-clause-faults : goal.returns-clause-faults
returns-clause-faults c =
    let d : Data = view c.args.cursor.now.tree.now in
    let N : List (List ℕ) = c.args.cursor.now.scope.shards.now in
    let S : List (List ℕ) = c.args.cursor.now.scope.servers.now in
    let own : List TextFault = own_faults c.args.cursor.now.member parcel_table d in
    let cells : List TextFault = walked (right_faults N S) [] (entries_in members.Cells d) in
    let crowns : List TextFault = walked (crown_faults N S) [] (entries_in members.Crowns d) in
    let room : List TextFault = walked (room_faults S) [] (entries_in members.Room d) in
    let spare : List TextFault = walked (spare_faults N) [] (entries_in members.Spare d) in
    let at_cells = two_noted _ _ _ own cells c.in_ok-note_own.ensures c.in_ok-list.ensures.faults in
    let at_crowns = two_noted _ _ _ (own ++ cells) crowns at_cells c.in_ok-list-2.ensures.faults in
    let at_room = two_noted _ _ _ ((own ++ cells) ++ crowns) room at_crowns c.in_ok-list-3.ensures.faults in
    two_noted _ _ _ (((own ++ cells) ++ crowns) ++ room) spare at_room c.in_ok-list-4.ensures.faults

pub returns-clause-value : goal.returns-clause-value
returns-clause-value c = λ few none.
    let d : Data = view c.args.cursor.now.tree.now in
    let N : List (List ℕ) = c.args.cursor.now.scope.shards.now in
    let S : List (List ℕ) = c.args.cursor.now.scope.servers.now in
    let faults : List TextFault = parcel_faults c.args.cursor.now.member N S [] d in
    let faultless : faults ≡ [] = none_at_all _ _ faults (returns-clause-faults c) none in
    let to_room = none_before _ _ (walked (spare_faults N) [] (entries_in members.Spare d)) c.in_ok-list-4.ensures.faults none in
    let to_crowns = none_before _ _ (walked (room_faults S) [] (entries_in members.Room d)) c.in_ok-list-3.ensures.faults to_room in
    let to_cells = none_before _ _ (walked (crown_faults N S) [] (entries_in members.Crowns d)) c.in_ok-list-2.ensures.faults to_crowns in
    let rights : ◌≡◌ {A = Rights} (record { cells = c.in_ok-list.field-0.items; crowns = c.in_ok-list-2.field-0.items; room = c.in_ok-list-3.field-0.items; spare = c.in_ok-list-4.field-0.items }) (parcel_lists_in N S d) = λ k. record {
      cells = c.in_ok-list.ensures.list few to_cells k;
      crowns = c.in_ok-list-2.ensures.list few to_crowns k;
      room = c.in_ok-list-3.ensures.list few to_room k;
      spare = c.in_ok-list-4.ensures.list few none k;
    } in
    c.in_ok-parcel.ensures (subst IsOnce (sym rights) (parcel_is_once c.args.cursor.now.member N S d few faultless)) ∙ ap in_order rights
