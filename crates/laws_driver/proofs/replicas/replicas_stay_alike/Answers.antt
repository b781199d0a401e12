-- The law is the lemma on a list of commands.
use Rattle.laws_driver.proofs.StayAlike.{stay_alike}
use Rattle.laws_driver.proofs.replicas.replicas_stay_alike.Goals as goal

pub returns : goal.returns
returns c d e is cs new next x y = stay_alike c.drivers_go_alike.ensures cs d e new next is x y
