use Rattle.std.proofs.Common.{◌≡◌, ◌∙◌, Some, ap, refl}
use Rattle.json_tree.specs.View.{view}
use Rattle.sm_plan_text.specs.Reading.{data_of}
use Rattle.smpland_session.specs.Exchanges.{OfNoValue, OfValue, effect_if}
use Rattle.smpland_session.proofs.Found.{found_is}
use Rattle.smpland_session.proofs.Taken.{entry_asks, entry_changes, entry_keeps, some_reply, unchanged_reply}
use Rattle.smpland_session.proofs.session.Session.replay.Goals as goal

pub returns-in_default-clause-told : goal.returns-in_default-clause-told
returns-in_default-clause-told c = unchanged_reply c.args.entry.now c.args.self.now c.args.self.now

pub returns-in-Ok-clause-changed : goal.returns-in-Ok-clause-changed
returns-in-Ok-clause-changed c =
    entry_changes c.args.entry.now (view c.in-Some.tree) c.args.self.now c.in-Ok.came c.take.new.self c.of.result
    (found_is (λ tree. data_of c.args.entry.now ≡ Some (view tree)) c.in_ok-tree.field-0 c.in-Some.tree c.in-Some.is c.in_ok-tree.ensures.value)
    c.in-Ok.ensures (c.of.ensures ∙ ap effect_if c.has_changed.ensures)

pub returns-in-Ok-clause-asked : goal.returns-in-Ok-clause-asked
returns-in-Ok-clause-asked c =
    entry_asks c.args.entry.now (view c.in-Some.tree) c.args.self.now c.in-Ok.came c.take.new.self c.of.result
    (found_is (λ tree. data_of c.args.entry.now ≡ Some (view tree)) c.in_ok-tree.field-0 c.in-Some.tree c.in-Some.is c.in_ok-tree.ensures.value)
    c.in-Ok.ensures (c.of.ensures ∙ ap effect_if c.has_changed.ensures)

pub returns-in-Ok-clause-unchanged : goal.returns-in-Ok-clause-unchanged
returns-in-Ok-clause-unchanged c =
    entry_keeps c.args.entry.now (view c.in-Some.tree) c.args.self.now c.in-Ok.came c.take.new.self c.of.result
    (found_is (λ tree. data_of c.args.entry.now ≡ Some (view tree)) c.in_ok-tree.field-0 c.in-Some.tree c.in-Some.is c.in_ok-tree.ensures.value)
    c.in-Ok.ensures (c.of.ensures ∙ ap effect_if c.has_changed.ensures)

pub returns-in-Ok-clause-told : goal.returns-in-Ok-clause-told
returns-in-Ok-clause-told c =
    some_reply c.args.entry.now (view c.in-Some.tree) c.args.self.now c.in-Ok.came c.take.new.self c.of.result
    (found_is (λ tree. data_of c.args.entry.now ≡ Some (view tree)) c.in_ok-tree.field-0 c.in-Some.tree c.in-Some.is c.in_ok-tree.ensures.value)
    c.in-Ok.ensures (c.of.ensures ∙ ap effect_if c.has_changed.ensures)

pub returns-in-Ok-clause-taken : goal.returns-in-Ok-clause-taken
returns-in-Ok-clause-taken c =
    OfValue (view c.in-Some.tree)
    (found_is (λ tree. data_of c.args.entry.now ≡ Some (view tree)) c.in_ok-tree.field-0 c.in-Some.tree c.in-Some.is c.in_ok-tree.ensures.value)
    c.in-Ok.came c.in-Ok.ensures (c.of.ensures ∙ ap effect_if c.has_changed.ensures)

pub returns-in_default-clause-taken : goal.returns-in_default-clause-taken
returns-in_default-clause-taken c = OfNoValue (c.in_ok-tree.ensures.none c.in_default.is) refl refl
