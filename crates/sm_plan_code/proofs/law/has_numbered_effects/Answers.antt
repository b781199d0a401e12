use Rattle.sm_plan_code.proofs.Numbered.{numbered_effect}
use Rattle.sm_plan_code.proofs.law.has_numbered_effects.Goals as goal

pub returns : goal.returns
returns g = λ c p leads numbers signals h h' i x number sc at e call apart. numbered_effect c p leads numbers signals h h' i x number sc at e call apart
