use Rattle.std.proofs.Common.{◌∙◌, ◌++◌, List, ℕ, Some, append-nil, arith, get_or, ap, map, slice_get, subst, sym, rules, take_all}
use Rattle.std.specs.List.{filter}
use Rattle.sm_placement.specs.Config.{server_names, server_row}
use Rattle.sm_placement.specs.Setup.{names_of_servers, no_server}
use Rattle.smpland_reopening.specs.Numbers.{AreNumberedBelow, is_new_server, server_as_documented}
use Rattle.smpland_reopening.proofs.Numbers.{filtered_next, none_numbered, server_name_at, numbered_next}
use Rattle.smpland_reopening.proofs.numbering.number_servers.Goals as goal

-- the next one has the number that it was given
pub loop-place-preserved : goal.loop-place-preserved
loop-place-preserved c = record {
  kept = λ k name e. c.in_ok-number.ensures.kept k name (c.loop-place.invariant.kept k name e);
  numbered = numbered_next _ _ _ _ _ c.loop-place.place c.in_ok-number.number (server_row c.server.result.now).name c.loop-place.invariant.numbered c.in_ok-number.ensures.kept
      c.in_ok-note_server.ensures c.in_ok-number.ensures.number (server_name_at c.args.document.now c.loop-place.place (search rules) ∙ ap (λ k. Some (get_or c.args.document.now.servers k no_server).name) (sym c.new.ensures) ∙ ap (λ r. Some r.name) (sym c.server.ensures.row));
  rows = filtered_next (is_new_server c.args.recorded.now) _ c.args.document.now.servers no_server _ _ (server_row c.server.result.now) c.loop-place.place (search rules) c.loop-place.invariant.rows
      c.in_ok-number.ensures.rows (c.server.ensures.row ∙ ap (λ k. get_or c.args.document.now.servers k no_server) c.new.ensures);
}

-- nothing of the document is numbered yet
pub loop-place-init : goal.loop-place-init
loop-place-init c = record {
  kept = λ k name e. ap (λ xs. slice_get xs k) c.in_ok-rows.ensures.names ∙ e;
  numbered = subst (λ (ns : List ℕ). AreNumberedBelow 0 (server_names c.in_ok-rows.rows.items) ns (names_of_servers c.args.document.now)) (sym c.new-numbers.ensures.items) (none_numbered _ _);
  rows = c.in_ok-rows.ensures.rows ∙ sym (append-nil _);
}

-- all of it is
pub returns-clause-rows : goal.returns-clause-rows
returns-clause-rows c =
    c.loop-place.invariant.rows
    ∙ ap (λ xs. map (server_as_documented c.args.document.now) c.args.recorded.now.servers ++ filter (is_new_server c.args.recorded.now) xs)
    (take_all c.loop-place.place c.args.document.now.servers (omega (arith, c.loop-place-test.false, c.server_count-place-end.ensures.count)))
