-- A stream makes a step over a link, which was asked what becomes of its call.
use Rattle.std.proofs.Common.{◌≡◌, sym, subst, ◌∙◌, true}
use Rattle.sm_machine.specs.State.{whole_of}
use Rattle.sm_machine.specs.Played.{played_of}
use Rattle.sm_machine.specs.Losses.{IsStepOver, makes_try}
use Rattle.sm_machine.proofs.Losses.{over_tried, count_tried}
use Rattle.sm_machine.proofs.Setups.{setup_kept}
use Rattle.sm_machine.proofs.machine.Machine.step_over.Goals as goal

pub returns-clause-over : goal.returns-clause-over
returns-clause-over g c =
    let is : makes_try (whole_of c.self.inside.engine).state c.id-id.result ≡ true = sym c.makes_try.ensures ∙ c.if-not-makes_try.false in
    subst (λ m. IsStepOver g.L.Link.asked c.args.link.now c.passage-passage.new.self (whole_of m).state c.args.token.now (played_of c.step_by-2.result) (whole_of c.step_by-2.new.self).state) c.self.view_is
    (subst (λ i. IsStepOver g.L.Link.asked c.args.link.now c.passage-passage.new.self (whole_of c.self.inside.engine).state i (played_of c.step_by-2.result) (whole_of c.step_by-2.new.self).state) c.id-id.ensures
    (over_tried (whole_of c.self.inside.engine).state c.id-id.result g.L.Link.asked (played_of c.step_by-2.result) (whole_of c.step_by-2.new.self).state c.args.link.now c.passage-passage.new.self c.passage-passage.result is
    (subst (λ n. g.L.Link.asked c.args.link.now c.id-id.result n c.passage-passage.result c.passage-passage.new.self) c.try_number-number.ensures c.passage-passage.ensures.asked)
    c.step_by-2.ensures.step))

pub returns-clause-count : goal.returns-clause-count
returns-clause-count g c =
    let is : makes_try (whole_of c.self.inside.engine).state c.id-id.result ≡ true = sym c.makes_try.ensures ∙ c.if-not-makes_try.false in
    count_tried (whole_of c.self.inside.engine).state c.id-id.result g.L.Link.asked (played_of c.step_by-2.result) (whole_of c.step_by-2.new.self).state _ _ c.passage-passage.result is c.passage-passage.ensures.count c.step_by-2.ensures.step

pub returns-then-not-makes_try-clause-setup : goal.returns-then-not-makes_try-clause-setup
returns-then-not-makes_try-clause-setup g c = setup_kept c.self.inside.engine c.args.self.now c.step_by.new.self c.self.view_is c.step_by.ensures.setup

pub returns-clause-setup : goal.returns-clause-setup
returns-clause-setup g c = setup_kept c.self.inside.engine c.args.self.now c.step_by-2.new.self c.self.view_is c.step_by-2.ensures.setup
