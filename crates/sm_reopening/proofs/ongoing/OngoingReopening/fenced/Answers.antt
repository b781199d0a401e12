-- A first answer is recorded.
use Rattle.std.proofs.Common.{◌≡◌, ◌∙◌, ℕ, Bool, true, Some, sym, ap}
use Rattle.std.specs.Prelude.{if◌then◌else◌}
use Rattle.laws_network.specs.Reopening.{Reopening, Server, is_first, put_party}
use Rattle.sm_reopening.specs.States.{net_inventory}
use Rattle.sm_reopening.specs.Ongoing.{told_copies, put_copy, net_reopening}
use Rattle.sm_reopening.proofs.Firsts.{first_parts}
use Rattle.sm_reopening.proofs.ongoing.OngoingReopening.fenced.Goals as goal

pub tell-requires-clause-known : goal.tell-requires-clause-known
tell-requires-clause-known c =
    let e : is_first (net_reopening c.args.self.now) (Server c.args.server) c.args.base ≡ true = cc in
    (first_parts c.args.self.now c.args.server c.args.base e).0

pub tell-requires-clause-open : goal.tell-requires-clause-open
tell-requires-clause-open c =
    let e : is_first (net_reopening c.args.self.now) (Server c.args.server) c.args.base ≡ true = cc in
    (first_parts c.args.self.now c.args.server c.args.base e).1

pub returns-clause-reopening : goal.returns-clause-reopening
returns-clause-reopening c =
    let r : Reopening = net_reopening c.args.self.now in
    let e : is_first (net_reopening c.args.self.now) (Server c.args.server) c.args.base ≡ true = cc in
    c.tell.ensures.reopening ∙ ap (λ (t : Bool). if t then record r { told = put_party r.told (Server c.args.server) (Some (net_inventory c.args.inventory)) } else r) (sym e)

pub returns-clause-copies : goal.returns-clause-copies
returns-clause-copies c =
    let e : is_first (net_reopening c.args.self.now) (Server c.args.server) c.args.base ≡ true = cc in
    c.tell.ensures.copies ∙ ap (λ (t : Bool). if t then put_copy (told_copies c.args.self.now) c.args.server c.args.inventory else told_copies c.args.self.now) (sym e)
