use Rattle.std.proofs.Common.{◌≡◌, ◌∙◌, ◌<◌, List, ℕ, length, get_or, ap, sym, subst, string_bytes}
use Rattle.std.proofs.lemmas.List.{length-map, get_or-map}
use Rattle.sm_placement.specs.Setup.{ServerRow, no_server, names_of_servers}
use Rattle.sm_plan_text.proofs.DistinctNames.{taken_more, single_servers}
use Rattle.sm_plan_text.proofs.plan_text.server_names.Goals as goal

pub loop-number-preserved : goal.loop-number-preserved
loop-number-preserved c =
    let rows : List ServerRow = c.args.config.now.servers in
    let i : ℕ = c.loop-number.number in
    let name : List ℕ = string_bytes c.in_ok-clone.field-0 in
    let here : i < length rows = subst (λ n. i < n) c.server_count-number-end.ensures.count c.loop-number-test.true in
    let at : name ≡ get_or (names_of_servers c.args.config.now) i name =
    c.in_ok-clone.ensures.cases ∙ ap (λ (row : ServerRow). row.name) c.server.ensures.row ∙ ap (λ n. (get_or rows n no_server).name) c.new.ensures ∙ sym (get_or-map (λ (row : ServerRow). row.name) rows i no_server name here) in
    taken_more (names_of_servers c.args.config.now) i name c.loop-number.names c.insert.new.self
    (subst (λ n. i < n) (sym (length-map rows (λ (row : ServerRow). row.name))) here)
    at (single_servers c.args.config.now c.server_count-number-end.ensures.setup) c.loop-number.invariant c.in_ok-insert.ensures
