-- A slot is read without a fault: so there was none after any of its members, each that is needed was found, and each is the row's.
use Rattle.std.proofs.Common.{◌≡◌, ◌∙◌, Bor, IfOk, Option, true, ap, refl, subst, sym}
use Rattle.std.specs.Prelude.{Result, Ok, Err, Some}
use Rattle.serde_json.specs.Data.{Data}
use Rattle.json_tree.specs.View.{view}
use Rattle.json_tree.specs.declared.tree.Tree.{Tree}
use Rattle.smpland_lines.specs.Reading.{ReadsOn, is_clean, object_data}
use Rattle.smpland_lines.specs.Slots.{IsSlotFor, TellsParty, TellsSlot, cell_word}
use Rattle.smpland_lines.specs.Values.{text_at, truth_at, whole_at}
use Rattle.smpland_lines.specs.declared.command_member.CommandMember.{CommandMember}
use Rattle.smpland_lines.specs.declared.command_member.CommandMember.TheVariants as at
use Rattle.smpland_lines.specs.declared.slots.SlotText.{SlotText}
use Rattle.smpland_lines.specs.declared.bad_line.BadLine.{BadLine}
use Rattle.smpland_lines.specs.declared.faults.Faults.{Faults}
use Rattle.smpland_lines.specs.declared.reader.Reader.{Reader}
use Rattle.smpland_lines.proofs.slots.read_slot.Goals as goal

-- what holds of a slot without a fault holds of what is returned
finished : (P : SlotText → Type 0) (slot : SlotText) (faults : Faults) (r : Result SlotText BadLine)
    → (is_clean faults ≡ true → P slot) → IfOk r (λ found. found ≡ slot) → IfOk r (λ _. is_clean faults ≡ true) → IfOk r P
finished P slot faults (Ok found) holds same clean = subst P (sym same) (holds clean)
finished P slot faults (Err _) holds same clean = tt

-- the row that is read stays the same
same_row : (old new : Reader) (row : Data) → ReadsOn old new → object_data old ≡ row → object_data new ≡ row
same_row old new row on is = ap (λ (o : Bor Tree). view o.now) on.object ∙ is

-- the value that was found is that of this member in this row
value_is : {A : Type 0} (value : CommandMember → Data → Option A) (found : Option A) (m n : CommandMember) (d row : Data)
    → found ≡ value m d → m ≡ n → d ≡ row → found ≡ value n row
value_is value found m n d row is same here = is ∙ ap (λ k. value k d) same ∙ ap (value n) here

pub returns-in-Some : goal.returns-in-Some
returns-in-Some c =
    let row = view c.args.entry.now in
    let on_shard = same_row _ _ row c.name-shard.ensures.read.on c.new-reader.ensures in
    let on_cell = same_row _ _ row c.cell_in-cell.ensures.on on_shard in
    let on_party = same_row _ _ row c.party_in-party.ensures.on on_cell in
    let on_handover = same_row _ _ row c.number-handover.ensures.read.on on_party in
    let on_last = same_row _ _ row c.number-last.ensures.read.on on_handover in
    let on_load = same_row _ _ row c.small-load.ensures.read.on on_last in
    let on_cut = same_row _ _ row c.number_unless_null-cut.ensures.on on_load in
    let on_position = same_row _ _ row c.number-position.ensures.read.on on_cut in
    let on_view = same_row _ _ row c.number-view.ensures.read.on on_position in
    record {
      needed = finished (IsSlotFor c.args.needs) _ _ c.finish.result
          (λ clean.
          let at_view = c.flag-reached.ensures.read.on.kept clean in
          let at_position = c.number-view.ensures.read.on.kept at_view in
          let at_cut = c.number-position.ensures.read.on.kept at_position in
          let at_load = c.number_unless_null-cut.ensures.on.kept at_cut in
          let at_last = c.small-load.ensures.read.on.kept at_load in
          let at_handover = c.number-last.ensures.read.on.kept at_last in
          let at_party = c.number-handover.ensures.read.on.kept at_handover in
          record {
            shard = c.in-Some.ensures.name;
            party = λ it. c.party_in-party.ensures.named at_party (c.is_handover.ensures ∙ it);
            handover = λ it. c.number-handover.ensures.read.there at_handover
                (c.needed_if-handover.ensures.needed ∙ (c.is_handover-2.ensures ∙ it));
            position = λ it. c.number-position.ensures.read.there at_position
                (c.needed_if-position.ensures.needed ∙ (c.position.ensures ∙ it));
            reached = λ it. c.flag-reached.ensures.read.there clean
                (c.needed_if-reached.ensures.needed ∙ (c.reached.ensures ∙ it));
            handover_most = c.number-handover.ensures.most;
            last_most = c.number-last.ensures.most;
            cut_most = c.number_unless_null-cut.ensures.most;
            position_most = c.number-position.ensures.most;
            view_most = c.number-view.ensures.most;
          })
          c.finish.ensures.read c.finish.ensures.clean;
      told = finished (TellsSlot row) _ _ c.finish.result
          (λ clean.
          let at_view = c.flag-reached.ensures.read.on.kept clean in
          let at_position = c.number-view.ensures.read.on.kept at_view in
          let at_cut = c.number-position.ensures.read.on.kept at_position in
          let at_load = c.number_unless_null-cut.ensures.on.kept at_cut in
          let at_last = c.small-load.ensures.read.on.kept at_load in
          let at_handover = c.number-last.ensures.read.on.kept at_last in
          let at_party = c.number-handover.ensures.read.on.kept at_handover in
          let at_cell = c.party_in-party.ensures.on.kept at_party in
          let at_shard = c.cell_in-cell.ensures.on.kept at_cell in
          record {
            shard = sym (value_is text_at _ at.Shard at.Shard _ row (c.in-Some.ensures.told at_shard) refl c.new-reader.ensures);
            cell = subst (λ d. text_at at.Cell d ≡ Some (cell_word c.cell_in-cell.result)) on_shard (c.cell_in-cell.ensures.told at_cell);
            party = subst (λ d. TellsParty d c.party_in-party.result) on_cell (c.party_in-party.ensures.told at_party);
            handover = value_is whole_at _ _ at.Handover _ row (c.number-handover.ensures.told at_handover) c.needed_if-handover.ensures.member on_party;
            last = value_is whole_at _ at.Last at.Last _ row (c.number-last.ensures.told at_last) refl on_handover;
            load = value_is whole_at _ at.Load at.Load _ row (c.small-load.ensures.told at_load) refl on_last;
            cut = value_is whole_at _ at.Cut at.Cut _ row (c.number_unless_null-cut.ensures.told at_cut) refl on_load;
            position = value_is whole_at _ _ at.Position _ row (c.number-position.ensures.told at_position) c.needed_if-position.ensures.member on_cut;
            view = value_is whole_at _ at.View at.View _ row (c.number-view.ensures.told at_view) refl on_position;
            reached = value_is truth_at _ _ at.Reached _ row (c.flag-reached.ensures.told clean) c.needed_if-reached.ensures.member on_view;
          })
          c.finish.ensures.read c.finish.ensures.clean;
    }
