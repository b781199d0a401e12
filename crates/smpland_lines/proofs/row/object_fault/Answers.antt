use Rattle.std.proofs.Common.{◌∙◌, ap, option_map, refl, sym}
use Rattle.smpland_lines.specs.Reading.{may_stand}
use Rattle.smpland_lines.proofs.Unknown.{first_fails}
use Rattle.smpland_lines.proofs.row.object_fault.Goals as goal

pub returns : goal.returns
returns c =
    let told = ap (option_map (λ name. name.now)) (sym c.in_ok-name.was) ∙ c.first_unknown.ensures in
    (refl, first_fails (λ m. m.0.now) (may_stand c.args.part c.args.names.now) c.in-Some.members.now c.in_ok-name.name.now told)
