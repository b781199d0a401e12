use Rattle.std.proofs.Common.{◌≡◌, drop}
use Rattle.sm_placement.specs.Layout.{place_of}
use Rattle.sm_verifier.specs.Downs.{down_in_code}
use Rattle.sm_verifier.proofs.downs.down_in.Given as goal

-- the instructions still to come lead to what the whole code leads to
abbrev pub invariant-loop-instr : goal.invariant-loop-instr
invariant-loop-instr l = down_in_code (place_of l.placement).down l.lowest (drop l.instr-index l.code) ≡ down_in_code (place_of l.placement).down l.fn.before l.code
