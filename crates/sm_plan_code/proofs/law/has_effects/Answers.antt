-- The law is the lemma on all lines.
use Rattle.sm_plan_code.proofs.Effects.{effect}
use Rattle.sm_plan_code.proofs.law.has_effects.Goals as goal

pub returns : goal.returns
returns g = λ c p leads numbers signals h h' i sc at own e. effect c p leads numbers signals h sc i h' at own e
