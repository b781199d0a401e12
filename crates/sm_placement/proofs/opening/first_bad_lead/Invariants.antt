use Rattle.std.proofs.Common.{◌≡◌, ◌-◌, length}
use Rattle.std.specs.List.{find, range_with_len}
use Rattle.sm_placement.specs.Opening.{cell_named, has_bad_lead, first_below}
use Rattle.sm_placement.proofs.opening.first_bad_lead.Given as goal

abbrev pub invariant-loop-number : goal.invariant-loop-number
invariant-loop-number l =
    find (λ s. has_bad_lead (length l.config.servers) (cell_named l.cells s)) (range_with_len l.number (length l.config.shards - l.number)) ≡ first_below (length l.config.shards) (λ s. has_bad_lead (length l.config.servers) (cell_named l.cells s))
