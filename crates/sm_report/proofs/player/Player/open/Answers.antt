-- No plan has begun at first.
use Rattle.std.proofs.Common.{length, sym, ap, ◌∙◌, subst, arith}
use Rattle.sm_machine.specs.Hand.{AreFor}
use Rattle.sm_report.proofs.player.Player.open.Goals as goal

pub returns-clause-ready : goal.returns-clause-ready
returns-clause-ready c =
    let none = ap length c.new.ensures.items in
    let made = c.in_ok-director.ensures in
    record {
      places = none ∙ sym (ap (λ w. length w.plans) made.state);
      few = omega (arith, none);
      checked = subst (λ s. AreFor s c.args.waiting.items) (sym made.setup) c.requires.checked;
    }
