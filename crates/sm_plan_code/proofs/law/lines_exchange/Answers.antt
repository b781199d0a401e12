use Rattle.sm_plan_code.proofs.Exchanges.{lines_exchange}
use Rattle.sm_plan_code.proofs.law.lines_exchange.Goals as goal

pub returns : goal.returns
returns g = λ c signals h h' i own e. lines_exchange c signals h h' i own e
