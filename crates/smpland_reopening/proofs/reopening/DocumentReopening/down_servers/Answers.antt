-- One server after the other is called down.
use Rattle.std.proofs.Common.{◌∙◌, ap, arith}
use Rattle.smpland_reopening.specs.Reopening.{ReopeningModel}
use Rattle.smpland_reopening.proofs.Settled.{called_all, called_by_all, called_more, marks_count, none_called}
use Rattle.smpland_reopening.proofs.reopening.DocumentReopening.down_servers.Goals as goal

pub loop-server-init : goal.loop-server-init
loop-server-init c = record {
  count = marks_count c.args.self.now c.in_ok-down.down.items c.in_ok-down.ensures;
  marked = none_called c.args.self.now c.in_ok-down.down.items c.in_ok-down.ensures;
}

pub loop-server-preserved : goal.loop-server-preserved
loop-server-preserved c = record {
  count = c.call_down.ensures.length ∙ c.loop-server.invariant.count;
  marked = λ v l.
      called_more c.args.self.now c.loop-server.down.items c.call_down.new.down.items c.loop-server.server-index c.server-item.result v c.deref-server-items.result.now
      (c.deref-server-items.ensures.value ∙ ap (λ (r : ReopeningModel). r.document.down.items) c.self.view_is) c.loop-server-test.true c.server-item.is
      (c.loop-server.invariant.marked v l) (c.call_down.ensures.marked v (omega (arith, l, c.loop-server.invariant.count)));
}

pub returns : goal.returns
returns c =
    called_all c.args.self.now c.loop-server.down.items c.loop-server.invariant.count
    (λ v l.
    c.loop-server.invariant.marked v l
    ∙ called_by_all c.args.self.now c.deref-server-items.result.now c.loop-server.server-index v
    (c.deref-server-items.ensures.value ∙ ap (λ (r : ReopeningModel). r.document.down.items) c.self.view_is) c.loop-server-test.false)
