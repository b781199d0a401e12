use Rattle.std.proofs.Common.{◌∙◌, Bool, ap}
use Rattle.smpland_session.specs.Changes.{count_after}
use Rattle.smpland_session.proofs.session.Session.count.Goals as goal

pub returns-clause-place : goal.returns-clause-place
returns-clause-place c = c.count_after-self.ensures ∙ ap (λ (b : Bool). count_after b c.args.self.now.place) c.has_changed.ensures
