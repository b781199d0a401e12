use Rattle.std.proofs.Common.{◌∙◌, ap, sym}
use Rattle.std.specs.String.{string_bytes}
use Rattle.sm_placement.specs.Setup.{server_named}
use Rattle.smpland_reopening.proofs.Numbers.{server_found}
use Rattle.smpland_reopening.proofs.numbering.server_number.Goals as goal

-- the name has the number that was found, and keeps it
pub returns-in-Some-clause-number : goal.returns-in-Some-clause-number
returns-in-Some-clause-number c =
    let name = string_bytes c.args.server.now.name in
    c.requires c.in-Some.number name
    (server_found c.args.recorded.now name c.in-Some.number (ap (λ n. server_named c.args.recorded.now n) (sym c.deref.ensures) ∙ sym c.in-Some.ensures.named))
