-- The server that has a permit.
use Rattle.std.proofs.Common.{◌∙◌, ◌<◌, ℕ, Option, Some, None, length, sym, ap, subst}
use Rattle.std.specs.Prelude.{if◌then◌else◌}
use Rattle.laws_network.specs.Controller.{is_permitted}
use Rattle.sm_machine.proofs.Engaged.{found, passed}
use Rattle.sm_driver.specs.Permits.{permit_of}
use Rattle.sm_driver.proofs.permits.Permits.server.Goals as goal

pub returns-then-is_permitted : goal.returns-then-is_permitted
returns-then-is_permitted c =
    let f : ℕ → Option ℕ = λ v. if is_permitted (permit_of c.args.self.now v) c.args.permit then Some v else None in
    let n : ℕ = c.loop-number.number in
    let l = c.loop-number-test.true in
    ap Some c.new.ensures
    ∙ found f (length c.args.self.now) n n c.loop-number.invariant (subst (λ k. n < k) (sym c.requires) l)
    (ap (λ b. if b then Some n else None) (sym c.is_permitted.ensures ∙ c.if-is_permitted.true))

pub loop-number-preserved : goal.loop-number-preserved
loop-number-preserved c =
    let f : ℕ → Option ℕ = λ v. if is_permitted (permit_of c.args.self.now v) c.args.permit then Some v else None in
    let n : ℕ = c.loop-number.number in
    let l = c.loop-number-test.true in
    passed f (length c.args.self.now) n c.loop-number.invariant (subst (λ k. n < k) (sym c.requires) l)
    (ap (λ b. if b then Some n else None) (sym c.is_permitted.ensures ∙ c.if-is_permitted.false))
