-- The answer goes by the number of servers that serve.
use Rattle.std.proofs.Common.{◌≡◌, ◌≤◌, ◌∙◌, ℕ, sym, ap, length, Option, arith}
use Rattle.std.specs.Option.{option_map_or}
use Rattle.sm_placement.specs.declared.placement.Serving.TheVariants.{Nobody, One, Several}
use Rattle.sm_placement.specs.Rows.{serving_in}
use Rattle.sm_placement.specs.Layout.{place_of}
use Rattle.sm_placement.proofs.Servings.{serving_none, serving_one, serving_several}
use Rattle.sm_placement.proofs.placement.Placement.serving.Goals as goal

pub returns-then-count-eq0 : goal.returns-then-count-eq0
returns-then-count-eq0 c = sym (serving_none (length c.args.self.now.setup.servers) ((place_of c.args.self.now).cells c.args.shard) (sym c.serving_count-count.ensures ∙ c.if-count-eq0.true))

pub returns-then-count-gt1 : goal.returns-then-count-gt1
returns-then-count-gt1 c =
    let several : 2 ≤ serving_in (length c.args.self.now.setup.servers) ((place_of c.args.self.now).cells c.args.shard) = omega (arith, c.serving_count-count.ensures) in
    ap Several c.serving_count-count.ensures ∙ sym (serving_several (length c.args.self.now.setup.servers) ((place_of c.args.self.now).cells c.args.shard) several)

pub returns-in-Some : goal.returns-in-Some
returns-in-Some c =
    let one : serving_in (length c.args.self.now.setup.servers) ((place_of c.args.self.now).cells c.args.shard) ≡ 1 = omega (arith, c.serving_count-count.ensures) in
    sym (serving_one (length c.args.self.now.setup.servers) ((place_of c.args.self.now).cells c.args.shard) one
    ∙ ap (λ (o : Option ℕ). option_map_or One o Nobody) (sym c.only_serving.ensures ∙ c.in-Some.is))

pub returns-in-None : goal.returns-in-None
returns-in-None c =
    let one : serving_in (length c.args.self.now.setup.servers) ((place_of c.args.self.now).cells c.args.shard) ≡ 1 = omega (arith, c.serving_count-count.ensures) in
    sym (serving_one (length c.args.self.now.setup.servers) ((place_of c.args.self.now).cells c.args.shard) one
    ∙ ap (λ (o : Option ℕ). option_map_or One o Nobody) (sym c.only_serving.ensures ∙ c.in-None.is))

pub only_serving-requires-clause-one : goal.only_serving-requires-clause-one
only_serving-requires-clause-one c = omega (arith, c.serving_count-count.ensures)
