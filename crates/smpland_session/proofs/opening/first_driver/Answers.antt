use Rattle.json_tree.specs.View.{view}
use Rattle.smpland_session.proofs.Openings.{driver_opened}
use Rattle.smpland_session.proofs.opening.first_driver.Goals as goal

-- The driver is over the placement that the document names.
pub returns-in-Ok-open-clause-asked : goal.returns-in-Ok-open-clause-asked
returns-in-Ok-open-clause-asked c =
    driver_opened c.in-Ok-open.driver c.in_ok-document.document c.in-Ok.placement (view c.args.line.document.now) c.args.line.journal c.args.line.epoch
    c.in_ok-document.ensures c.in-Ok.ensures.setup c.in-Ok.ensures.ok c.in-Ok-open.ensures.state c.in-Ok-open.ensures.setup
    c.in-Ok-open.ensures.journal c.in-Ok-open.ensures.epoch
    (record {
      fence = c.in-Ok-open.ensures.fence;
      permits = c.in-Ok-open.ensures.permits;
      carried = c.in-Ok-open.ensures.carried;
      restores = c.in-Ok-open.ensures.restores;
      copies = c.in-Ok-open.ensures.copies;
    })
