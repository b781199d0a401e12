-- No block is written.
use Rattle.std.proofs.Common.{◌≡◌, ◌+◌, ◌/◌, ◌∙◌, None, length, replicate, ap, arith, rules}
use Rattle.std.proofs.lemmas.List.{length-replicate}
use Rattle.sm_placement.proofs.Blocks.{IsBlocks-empty}
use Rattle.sm_placement.proofs.parties.Parties.new.Goals as goal

pub invariant_of-result : goal.invariant_of-result
invariant_of-result c =
    let e : c.in_ok-vec.field-0.items ≡ replicate (c.args.count / 256 + 1) None = c.in_ok-vec.ensures.items_if_clones_equal (λ y h. search rules) in
    let n : length c.in_ok-vec.field-0.items ≡ c.args.count / 256 + 1 = ap length e ∙ length-replicate (c.args.count / 256 + 1) None in
    record {
      blocks = rw (e, c.in_ok-with_capacity.ensures.items) (IsBlocks-empty (c.args.count / 256 + 1));
      room = omega (arith, n, c.in_ok-with_capacity.ensures.exact);
    }
