use Rattle.std.proofs.Common.{◌∙◌, ap, map, option_map, sym}
use Rattle.smpland_session.proofs.Unknowns.{none_unknown, unknown_among}
use Rattle.smpland_session.proofs.lost.unknown_lost.Goals as goal

pub returns-in-Some : goal.returns-in-Some
returns-in-Some c =
    unknown_among _ c.in-Some.config.now c.args.lost.now _ (ap (option_map (λ config. config.now)) (sym c.in-Some.is) ∙ c.numbered.ensures)
    c.first_unknown.ensures

pub returns-in-None : goal.returns-in-None
returns-in-None c =
    none_unknown _ (map (λ name. name.now) c.args.lost.now) (ap (option_map (λ config. config.now)) (sym c.in-None.is) ∙ c.numbered.ensures)
