-- A reopening whose server has told is one.
use Rattle.std.proofs.Common.{◌∙◌, ap}
use Rattle.laws_network.specs.Reopening.{Server, Told, entered}
use Rattle.sm_reopening.specs.Ongoing.{net_reopening, copies_after}
use Rattle.sm_reopening.specs.States.{net_inventory}
use Rattle.smpland_reopening.proofs.Frames.{still_told}
use Rattle.smpland_reopening.proofs.reopening.DocumentReopening.tell.Goals as goal

pub invariant_of-self : goal.invariant_of-self
invariant_of-self c = still_told _ c.fenced.new.self (Server c.args.server) c.args.base (net_inventory c.args.inventory) c.self.invariant c.fenced.ensures.reopening c.fenced.ensures.same

pub returns-clause-reopening : goal.returns-clause-reopening
returns-clause-reopening c =
    c.fenced.ensures.reopening ∙ ap (λ r. entered (Told (Server c.args.server) c.args.base (net_inventory c.args.inventory)) (net_reopening r.ongoing)) c.self.view_is

pub returns-clause-copies : goal.returns-clause-copies
returns-clause-copies c =
    c.fenced.ensures.copies ∙ ap (λ r. copies_after r.ongoing c.args.server c.args.base c.args.inventory) c.self.view_is
