-- Each replica that is read is of a known server, and the one that its row says.
use Rattle.std.proofs.Common.{◌≡◌, ◌∙◌, ◌++◌, ◌∷◌, [], ap, subst, sym, true, false, All, List, Vec, Global, take}
use Rattle.std.proofs.lemmas.List.Elements.{All-push}
use Rattle.std.proofs.lemmas.List.{take_all, take_more}
use Rattle.json_tree.specs.View.{items_view}
use Rattle.json_tree.specs.declared.tree.Tree.{Tree}
use Rattle.smpland_lines.specs.Choices.{AreCellsSaid, HasKnownServer}
use Rattle.smpland_lines.specs.Reading.{is_clean}
use Rattle.smpland_lines.specs.declared.choices.CellChoice.{CellChoice}
use Rattle.smpland_lines.proofs.Said.{cells_more}
use Rattle.smpland_lines.proofs.choices.read_cells.Goals.{in-Ok+in_ok-push-in-Ok, in-Err}
use Rattle.smpland_lines.proofs.choices.read_cells.Goals as goal

-- what holds of the replicas of a list holds of those of the same list
same_cells : (P : List CellChoice → Type 0) (xs ys : List CellChoice) → xs ≡ ys → P ys → P xs
same_cells P xs ys same holds = subst P (sym same) holds

pub loop-at-preserved : goal.loop-at-preserved
loop-at-preserved c =
    let rows = c.args.entries.now in
    let row = c.index-entries-at.result in
    let config = c.args.config.now in
    let one_more = take_more rows c.loop-at.at row c.loop-at-test.true ∙ ap (λ r. take c.loop-at.at rows ++ r ∷ []) (sym c.index-entries-at.is) in
    elim c.match-read_cell.branch [
      | in-Ok+in_ok-push-in-Ok w ↦
          let pushed = ap (λ (v : Vec CellChoice Global). v.items) w.cells-is ∙ w.in_ok-push-in-Ok.ensures.items in
          record {
            known = same_cells (All (HasKnownServer config)) _ _ pushed (All-push (HasKnownServer config) _ _ c.loop-at.invariant.known w.in-Ok.ensures.known);
            kept = λ clean. c.loop-at.invariant.kept (sym (ap is_clean w.faults-is) ∙ clean);
            said = λ clean. subst (λ (xs : List Tree). AreCellsSaid config (items_view xs) c.match-read_cell.cells.items) (sym one_more)
                (same_cells (AreCellsSaid config (items_view (take c.loop-at.at rows ++ row ∷ []))) _ _ pushed
                (cells_more config _ _ row _ (c.loop-at.invariant.said (sym (ap is_clean w.faults-is) ∙ clean)) w.in-Ok.ensures.said));
          }
      | in-Err w ↦ record {
        known = same_cells (All (HasKnownServer config)) _ _ (ap (λ (v : Vec CellChoice Global). v.items) w.cells-is) c.loop-at.invariant.known;
        kept = λ clean. absurd (let e : false ≡ true = sym w.note.ensures.fault ∙ (sym (ap is_clean w.faults-is) ∙ clean) in cc);
        said = λ clean. absurd (let e : false ≡ true = sym w.note.ensures.fault ∙ (sym (ap is_clean w.faults-is) ∙ clean) in cc);
      }
    ]

pub returns-clause-said : goal.returns-clause-said
returns-clause-said c clean =
    subst (λ (xs : List Tree). AreCellsSaid c.args.config.now (items_view xs) c.loop-at.cells.items) (take_all c.loop-at.at c.args.entries.now c.loop-at-test.false)
    (c.loop-at.invariant.said clean)
