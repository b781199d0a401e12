-- Each slot that is read tells what it needs, and is what its row tells.
use Rattle.std.proofs.Common.{◌≡◌, ◌∙◌, ◌++◌, ◌∷◌, [], ap, subst, sym, true, false, All, IfOk, List, Vec, Global, take, length}
use Rattle.std.specs.Prelude.{Result, Ok, Err}
use Rattle.std.proofs.lemmas.List.Elements.{All-push}
use Rattle.std.proofs.lemmas.List.{take_all, take_more}
use Rattle.json_tree.specs.View.{view}
use Rattle.json_tree.specs.declared.tree.Tree.{Tree}
use Rattle.smpland_lines.specs.Reading.{is_clean}
use Rattle.smpland_lines.specs.Slots.{IsSlotFor, TellSlots, TellsSlot}
use Rattle.smpland_lines.specs.declared.slots.SlotText.{SlotText}
use Rattle.smpland_lines.specs.declared.slots.SlotNeeds.{SlotNeeds}
use Rattle.smpland_lines.specs.declared.bad_line.BadLine.{BadLine}
use Rattle.smpland_lines.specs.declared.faults.Faults.{Faults}
use Rattle.smpland_lines.proofs.slots.read_slots.Goals.{in-Ok+in_ok-push-in-Ok, in-Err}
use Rattle.smpland_lines.proofs.slots.read_slots.Goals as goal

-- what holds of the slots of a list holds of those of the same list
same_slots : (P : List SlotText → Type 0) (xs ys : List SlotText) → xs ≡ ys → P ys → P xs
same_slots P xs ys same holds = subst P (sym same) holds

-- one more slot is what one more row tells
tell_more : (rows : List Tree) (slots : List SlotText) (row : Tree) (slot : SlotText) → TellSlots rows slots → TellsSlot (view row) slot
    → TellSlots (rows ++ row ∷ []) (slots ++ slot ∷ [])
tell_more [] [] row slot tell tells = (tells, tt)
tell_more (r ∷ rows) (s ∷ slots) row slot tell tells = (tell.0, tell_more rows slots row slot tell.1 tells)
tell_more [] (s ∷ slots) row slot tell tells = absurd tell
tell_more (r ∷ rows) [] row slot tell tells = absurd tell

-- what holds of the slots that were read without a fault holds of those that are returned
finished : (P : List SlotText → Type 0) (v : Vec SlotText Global) (faults : Faults) (r : Result (Vec SlotText Global) BadLine)
    → (is_clean faults ≡ true → P v.items) → IfOk r (λ found. found ≡ v) → IfOk r (λ _. is_clean faults ≡ true)
    → IfOk r (λ slots. P slots.items)
finished P v faults (Ok found) holds same clean =
    same_slots P found.items v.items (ap (λ (w : Vec SlotText Global). w.items) same) (holds clean)
finished P v faults (Err _) holds same clean = tt

pub loop-at-preserved : goal.loop-at-preserved
loop-at-preserved c =
    let rows = c.args.entries.now in
    let row = c.index-entries-at.result in
    let one_more = take_more rows c.loop-at.at row c.loop-at-test.true ∙ ap (λ r. take c.loop-at.at rows ++ r ∷ []) (sym c.index-entries-at.is) in
    elim c.match-read_slot.branch [
      | in-Ok+in_ok-push-in-Ok w ↦
          let pushed = ap (λ (v : Vec SlotText Global). v.items) w.slots-is ∙ w.in_ok-push-in-Ok.ensures.items in
          record {
            needed = same_slots (All (IsSlotFor c.args.needs)) _ _ pushed (All-push (IsSlotFor c.args.needs) _ _ c.loop-at.invariant.needed w.in-Ok.ensures.needed);
            told = λ clean. subst (λ xs. TellSlots xs c.match-read_slot.slots.items) (sym one_more)
                (same_slots (TellSlots (take c.loop-at.at rows ++ row ∷ [])) _ _ pushed
                (tell_more _ _ row _ (c.loop-at.invariant.told (sym (ap is_clean w.faults-is) ∙ clean)) w.in-Ok.ensures.told));
          }
      | in-Err w ↦ record {
        needed = same_slots (All (IsSlotFor c.args.needs)) _ _ (ap (λ (v : Vec SlotText Global). v.items) w.slots-is) c.loop-at.invariant.needed;
        told = λ clean. absurd (let e : false ≡ true = sym w.note.ensures.fault ∙ (sym (ap is_clean w.faults-is) ∙ clean) in cc);
      }
    ]

pub returns : goal.returns
returns c =
    let rows = c.args.entries.now in
    record {
      needed = finished (All (IsSlotFor c.args.needs)) _ _ c.finish.result (λ clean. c.loop-at.invariant.needed) c.finish.ensures.read c.finish.ensures.clean;
      told = finished (TellSlots rows) _ _ c.finish.result
          (λ clean. subst (λ xs. TellSlots xs c.loop-at.slots.items) (take_all c.loop-at.at rows c.loop-at-test.false) (c.loop-at.invariant.told clean))
          c.finish.ensures.read c.finish.ensures.clean;
    }
