use Rattle.std.proofs.Common.{◌≡◌, ◌∙◌, Some, sym, ap, subst}
use Rattle.std.proofs.lemmas.Result.{IfOk-weaker}
use Rattle.serde_json.specs.Data.{array, no_items, put}
use Rattle.json_tree.specs.View.{view, items_view}
use Rattle.json_tree.specs.declared.tree.Tree.{Array}
use Rattle.json_tree.proofs.Trees.{view-Array}
use Rattle.sm_plan_text.specs.Outlines.{IsEarly}
use Rattle.sm_plan_text.proofs.OutlineLemmas.{early_put, calls_put, events_put}
use Rattle.sm_plan_text.proofs.outline.Early.read_member.Goals as goal
use Rattle.sm_plan_text.proofs.outline.Early.read_member.Goals.{in-calls+in_ok-read_list-in-calls, in-events+in_ok-read_list-in-events}

pub returns-clause-ok : goal.returns-clause-ok
returns-clause-ok c =
    let early = c.args.self.now in
    let k = c.args.name.now in
    let empty : view (Array c.new.result) ≡ array no_items = view-Array c.new.result ∙ ap (λ trees. array (items_view trees)) c.new.ensures.items in
    elim c.match-name.branch [
      | in-calls+in_ok-read_list-in-calls w ↦
          let list = w.in_ok-read_list-in-calls.field-0 in
          let read = w.in_ok-read_list-in-calls.ensures.ok in (
            array read.0,
            read.1 ∙ ap (λ behind. Some (array read.0, behind)) (sym w.reader-is),
            λ kept whole is.
                subst (λ now. IsEarly now (put k (view (Array c.new.result)) kept) (put k (array read.0) whole)) (sym w.self-is)
                (subst (λ d. IsEarly (record early { calls = Some list }) (put k d kept) (put k (array read.0) whole)) (sym empty)
                (subst (λ name. IsEarly (record early { calls = Some list }) (put name (array no_items) kept) (put name (array read.0) whole)) (sym w.in-calls.is)
                (calls_put early list read.0 kept whole (record { few = read.3; faults = read.2; values = read.4 }) is))),
          )
      | in-events+in_ok-read_list-in-events w ↦
          let list = w.in_ok-read_list-in-events.field-0 in
          let read = w.in_ok-read_list-in-events.ensures.ok in (
            array read.0,
            read.1 ∙ ap (λ behind. Some (array read.0, behind)) (sym w.reader-is),
            λ kept whole is.
                subst (λ now. IsEarly now (put k (view (Array c.new.result)) kept) (put k (array read.0) whole)) (sym w.self-is)
                (subst (λ d. IsEarly (record early { events = Some list }) (put k d kept) (put k (array read.0) whole)) (sym empty)
                (subst (λ name. IsEarly (record early { events = Some list }) (put name (array no_items) kept) (put name (array read.0) whole)) (sym w.in-events.is)
                (events_put early list read.0 kept whole (record { few = read.3; faults = read.2; values = read.4 }) is))),
          )
    ]

pub returns-in_default-clause-ok : goal.returns-in_default-clause-ok
returns-in_default-clause-ok c =
    IfOk-weaker c.read_value.result _ _
    (λ tree read. (view tree, read, λ kept whole is. early_put c.args.self.now kept whole c.args.name.now (view tree) c.in_default.not-shards c.in_default.not-servers c.in_default.not-calls c.in_default.not-events is))
    c.read_value.ensures.ok
