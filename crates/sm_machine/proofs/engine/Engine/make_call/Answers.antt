-- A call is tried, unless the allowance is spent.
use Rattle.std.proofs.Common.{◌≡◌, Some, ap, subst, sym, ◌∙◌}
use Rattle.std.proofs.lemmas.Bool.{eq-eqb, ne_eqb}
use Rattle.sm_protocol.specs.State.{Progress, progress_of}
use Rattle.sm_protocol.specs.Steps.{call_to_make}
use Rattle.sm_machine.specs.State.{whole_of}
use Rattle.sm_machine.proofs.Turns.{shard_known, small_numbers, few_tries, spent}
use Rattle.sm_machine.proofs.engine.Engine.make_call.Goals as goal

pub call_to_make-requires-clause-shard : goal.call_to_make-requires-clause-shard
call_to_make-requires-clause-shard c = shard_known (whole_of c.args.self.now) c.args.id c.args.instr.now c.requires.at

pub call_to_make-requires-clause-numbers : goal.call_to_make-requires-clause-numbers
call_to_make-requires-clause-numbers c = small_numbers (whole_of c.args.self.now) c.args.id c.args.instr.now c.requires.at

pub make_try-requires-clause-few : goal.make_try-requires-clause-few
make_try-requires-clause-few c =
    few_tries (whole_of c.args.self.now) c.args.id c.args.instr.now c.requires.at c.allowance.result (sym c.allowance.ensures) c.allowance.type_inv
    (subst (λ t. t ≡ c.allowance.result → ⊥) (ap (λ z. z.tries) (c.progress.view_is ∙ c.progress-progress.ensures)) c.if-progress-allowance.false)

pub allowance-requires : goal.allowance-requires
allowance-requires c = c.requires.at.begun

pub make_try-requires-clause-at : goal.make_try-requires-clause-at
make_try-requires-clause-at c = c.requires.at

pub make_try-requires-clause-call : goal.make_try-requires-clause-call
make_try-requires-clause-call c = c.requires.call

pub make_try-requires-clause-makes : goal.make_try-requires-clause-makes
make_try-requires-clause-makes c = ap (λ (p : Progress). call_to_make (whole_of c.args.self.now).state p c.args.instr.now) (sym c.progress-progress.ensures) ∙ sym c.call_to_make.ensures ∙ c.in-Some.is

pub make_try-requires-clause-unspent : goal.make_try-requires-clause-unspent
make_try-requires-clause-unspent c = ne_eqb _ _ (λ e. c.if-progress-allowance.false (ap (λ (p : Progress). p.tries) (c.progress.view_is ∙ c.progress-progress.ensures) ∙ e ∙ sym c.allowance.ensures))

pub returns-then-progress-allowance : goal.returns-then-progress-allowance
returns-then-progress-allowance c =
    let makes : call_to_make (whole_of c.args.self.now).state (progress_of (whole_of c.args.self.now).state c.args.id) c.args.instr.now ≡ Some c.in-Some.call =
    ap (λ (p : Progress). call_to_make (whole_of c.args.self.now).state p c.args.instr.now) (sym c.progress-progress.ensures) ∙ sym c.call_to_make.ensures ∙ c.in-Some.is in
    spent (whole_of c.args.self.now) c.args.id c.args.instr.now c.requires.at c.args.passage c.in-Some.call c.requires.call makes
    (eq-eqb _ _ (sym (ap (λ (p : Progress). p.tries) (c.progress.view_is ∙ c.progress-progress.ensures)) ∙ c.if-progress-allowance.true ∙ c.allowance.ensures))
