-- Each choice that is read is known, and the one that its row says.
use Rattle.std.proofs.Common.{◌≡◌, ◌∙◌, ◌++◌, ◌∷◌, [], ap, subst, sym, true, false, All, IfOk, List, Vec, Global, take}
use Rattle.std.specs.Prelude.{Result, Ok, Err}
use Rattle.std.proofs.lemmas.List.Elements.{All-push}
use Rattle.std.proofs.lemmas.List.{take_all, take_more}
use Rattle.json_tree.specs.View.{items_view}
use Rattle.json_tree.specs.declared.tree.Tree.{Tree}
use Rattle.smpland_lines.specs.Choices.{AreChoicesSaid, IsKnownChoice}
use Rattle.smpland_lines.specs.Reading.{is_clean}
use Rattle.smpland_lines.specs.declared.bad_line.BadLine.{BadLine}
use Rattle.smpland_lines.specs.declared.choices.ShardChoice.{ShardChoice}
use Rattle.smpland_lines.specs.declared.faults.Faults.{Faults}
use Rattle.smpland_lines.proofs.Said.{choices_more}
use Rattle.smpland_lines.proofs.choices.read_choices.Goals.{in-Ok+in_ok-push-in-Ok, in-Err}
use Rattle.smpland_lines.proofs.choices.read_choices.Goals as goal

-- what holds of the choices of a list holds of those of the same list
same_choices : (P : List ShardChoice → Type 0) (xs ys : List ShardChoice) → xs ≡ ys → P ys → P xs
same_choices P xs ys same holds = subst P (sym same) holds

pub loop-at-preserved : goal.loop-at-preserved
loop-at-preserved c =
    let rows = c.args.entries.now in
    let row = c.index-entries-at.result in
    let config = c.args.config.now in
    let one_more = take_more rows c.loop-at.at row c.loop-at-test.true ∙ ap (λ r. take c.loop-at.at rows ++ r ∷ []) (sym c.index-entries-at.is) in
    elim c.match-read.branch [
      | in-Ok+in_ok-push-in-Ok w ↦
          let pushed = ap (λ (v : Vec ShardChoice Global). v.items) w.choices-is ∙ w.in_ok-push-in-Ok.ensures.items in
          record {
            known = same_choices (All (IsKnownChoice config)) _ _ pushed (All-push (IsKnownChoice config) _ _ c.loop-at.invariant.known (rw w.in-Ok.is at c.in_ok-read.ensures.known));
            said = λ clean. subst (λ (xs : List Tree). AreChoicesSaid config (items_view xs) c.match-read.choices.items) (sym one_more)
                (same_choices (AreChoicesSaid config (items_view (take c.loop-at.at rows ++ row ∷ []))) _ _ pushed
                (choices_more config _ _ row _ (c.loop-at.invariant.said (sym (ap is_clean w.faults-is) ∙ clean)) (rw w.in-Ok.is at c.in_ok-read.ensures.said)));
          }
      | in-Err w ↦ record {
        known = same_choices (All (IsKnownChoice config)) _ _ (ap (λ (v : Vec ShardChoice Global). v.items) w.choices-is) c.loop-at.invariant.known;
        said = λ clean. absurd (let e : false ≡ true = sym w.note.ensures.fault ∙ (sym (ap is_clean w.faults-is) ∙ clean) in cc);
      }
    ]

-- what holds of the choices that were read without a fault holds of those that are returned
finished : (P : List ShardChoice → Type 0) (v : Vec ShardChoice Global) (faults : Faults) (r : Result (Vec ShardChoice Global) BadLine)
    → (is_clean faults ≡ true → P v.items) → IfOk r (λ found. found ≡ v) → IfOk r (λ _. is_clean faults ≡ true)
    → IfOk r (λ choices. P choices.items)
finished P v faults (Ok found) holds same clean =
    same_choices P found.items v.items (ap (λ (w : Vec ShardChoice Global). w.items) same) (holds clean)
finished P v faults (Err _) holds same clean = tt

pub returns : goal.returns
returns c =
    let rows = c.args.entries.now in
    let config = c.args.config.now in
    record {
      known = finished (All (IsKnownChoice config)) _ _ c.finish.result (λ clean. c.loop-at.invariant.known) c.finish.ensures.read c.finish.ensures.clean;
      said = finished (AreChoicesSaid config (items_view rows)) _ _ c.finish.result
          (λ clean. subst (λ (xs : List Tree). AreChoicesSaid config (items_view xs) c.loop-at.choices.items) (take_all c.loop-at.at rows c.loop-at-test.false)
          (c.loop-at.invariant.said clean))
          c.finish.ensures.read c.finish.ensures.clean;
    }
