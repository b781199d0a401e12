use Rattle.std.proofs.Common.{◌≡◌, Some, refl}
use Rattle.serde_json.specs.Find.{as_object}
use Rattle.json_tree.specs.View.{view}
use Rattle.sm_plan_text.specs.Reading.{data_of}
use Rattle.smpland_session.specs.Exchanges.{NoObject}
use Rattle.smpland_session.proofs.Found.{found_is, nothing}
use Rattle.smpland_session.proofs.reading.read_object.Goals as goal

-- The value is no object.
pub returns-then-not-is_object : goal.returns-then-not-is_object
returns-then-not-is_object c =
    let value = view c.in-Some.tree in
    NoObject value (found_is (λ tree. data_of c.args.line.now ≡ Some (view tree)) _ c.in-Some.tree c.in-Some.is c.in_ok-tree.ensures.value)
    (nothing (as_object value) _ c.is_object.ensures c.if-not-is_object.true) refl
