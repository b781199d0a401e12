-- What is numbered is so under the document.
use Rattle.std.proofs.Common.{refl}
use Rattle.smpland_reopening.proofs.Written.{numbers_under}
use Rattle.smpland_reopening.proofs.reopening.DocumentReopening.new.Goals as goal

pub returns-clause-numbered : goal.returns-clause-numbered
returns-clause-numbered c numbered ground = numbers_under numbered c.args.opened.epoch c.args.begun _ c.requires.begun ground refl refl refl refl refl
