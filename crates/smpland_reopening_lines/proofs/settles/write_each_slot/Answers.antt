use Rattle.std.proofs.Common.{◌++◌, ◌∙◌, ℕ, List, ap}
use Rattle.json.specs.Token.{Token}
use Rattle.sm_placement.specs.Layout.{place_of}
use Rattle.smpland_reopening_lines.specs.Settles.{given_slot_text}
use Rattle.smpland_reopening_lines.proofs.Written.{number_written}
use Rattle.smpland_reopening_lines.proofs.settles.write_each_slot.Goals as goal

-- The shards so far, and the next.
pub loop-number-preserved : goal.loop-number-preserved
loop-number-preserved c =
    let f : ℕ → List Token = given_slot_text c.args.reopening.now c.args.settlement.now.setup (place_of c.args.settlement.now) c.args.server in
    (rw c.new.ensures at c.in_ok-write_slot.ensures)
    ∙ ap (λ xs. xs ++ f c.loop-number.number) c.loop-number.invariant
    ∙ number_written f c.args.writer.now.tokens c.loop-number.number
