-- The law is the lemma on openings.
use Rattle.laws_driver.proofs.Opening.{opened_controls}
use Rattle.laws_driver.proofs.driven.opened_controls.Goals as goal

pub returns : goal.returns
returns g = opened_controls
