use Rattle.sm_placement.specs.Setup.{sizes_of}
use Rattle.sm_plan_code.proofs.change.exchange.Goals as goal

pub returns-in-Add-clause-own : goal.returns-in-Add-clause-own
returns-in-Add-clause-own c = λ signals own. rw c.in-Add.is (c.add.ensures signals)

pub returns-in-Drop-clause-own : goal.returns-in-Drop-clause-own
returns-in-Drop-clause-own c = λ signals own. rw c.in-Drop.is (c.drop.ensures signals)

pub returns-in-Change-clause-own : goal.returns-in-Change-clause-own
returns-in-Change-clause-own c = λ signals own. rw c.in-Change.is (c.change.ensures (sizes_of c.args.config.now) signals)
