-- Why it is not closed.
use Rattle.std.proofs.Common.{◌≡◌, ◌∙◌, arith, true, false, length, sym, ap, subst}
use Rattle.std.specs.Prelude.{vec_len}
use Rattle.std.proofs.lemmas.Bool.{eqb-true, eqb-false}
use Rattle.sm_protocol.specs.Laws.{AreDone}
use Rattle.sm_machine.specs.State.{state_of}
use Rattle.sm_executor.specs.Closed.{unfinished_streams}
use Rattle.sm_executor.specs.Views.{HeldModel, state_in}
use Rattle.sm_executor.proofs.StillRunning.{all_done}
use Rattle.sm_executor.proofs.WhyNotClosed.{some_left}
use Rattle.sm_executor.proofs.held.Held.close_fault.Goals as goal

pub returns-then-not-is_empty-clause-some : goal.returns-then-not-is_empty-clause-some
returns-then-not-is_empty-clause-some g c =
    let w = state_of c.self.inside.machine in
    let p = c.list_unfinished.new.positions in
    let ok = p.ok in
    let more = eqb-false (vec_len p) 0 (sym c.is_empty.ensures ∙ c.if-not-is_empty.true) in
    let some : ¬ (length (unfinished_streams w) ≡ 0) = λ none. let e : length p.items ≡ 0 = ap length c.list_unfinished.ensures.items ∙ none in more (omega arith) in
    subst (λ (h : HeldModel). (p.items ≡ unfinished_streams (state_in h)) × ¬ AreDone (state_in h)) c.self.view_is (c.list_unfinished.ensures.items, some_left w some)

pub returns-then-are_all_back-clause-none : goal.returns-then-are_all_back-clause-none
returns-then-are_all_back-clause-none g c =
    let w = state_of c.self.inside.machine in
    let p = c.list_unfinished.new.positions in
    let ok = p.ok in
    let empty = eqb-true (vec_len p) 0 (sym c.is_empty.ensures ∙ c.if-not-is_empty.false) in
    let none : length (unfinished_streams w) ≡ 0 = ap length (sym c.list_unfinished.ensures.items) ∙ (omega arith) in
    (subst (λ (h : HeldModel). AreDone (state_in h)) c.self.view_is (all_done w none), c.are_all_back.ensures.0 c.if-are_all_back.true)

pub returns-else-are_all_back-clause-some : goal.returns-else-are_all_back-clause-some
returns-else-are_all_back-clause-some g c =
    let w = state_of c.self.inside.machine in
    let p = c.list_unfinished.new.positions in
    let ok = p.ok in
    let empty = eqb-true (vec_len p) 0 (sym c.is_empty.ensures ∙ c.if-not-is_empty.false) in
    let none : length (unfinished_streams w) ≡ 0 = ap length (sym c.list_unfinished.ensures.items) ∙ (omega arith) in (
      subst (λ (h : HeldModel). AreDone (state_in h)) c.self.view_is (all_done w none),
      λ back. let all : true ≡ false = sym (c.are_all_back.ensures.1 back) ∙ c.if-are_all_back.false in cc,
    )
