-- The first shard whose entry in the list is bad.
use Rattle.std.proofs.Common.{◌≡◌, ◌<◌, ◌∙◌, true, false, length, None, sym, ap, arith}
use Rattle.sm_placement.specs.Setup.{Setup}
use Rattle.sm_placement.specs.Layout.{entries_of}
use Rattle.sm_placement.specs.Grid.{cells_of}
use Rattle.sm_placement.specs.Opening.{has_bad_listing}
use Rattle.sm_placement.proofs.GridLemmas.{entries_of-read}
use Rattle.sm_placement.proofs.Searches.{find_here, find_next}
use Rattle.sm_placement.proofs.faults.first_bad_listing.Goals as goal

pub has_bad_listing-requires-clause-listed : goal.has_bad_listing-requires-clause-listed
has_bad_listing-requires-clause-listed c =
    let l : c.loop-number.number < length c.args.table.now.setup.shards = let n : c.shard_count-number-end.result ≡ length c.args.table.now.setup.shards = c.shard_count-number-end.ensures.count ∙ ap (λ (s : Setup). length s.shards) c.config.ensures.setup in omega arith in
    let read : c.index-listed-number.result ≡ entries_of None c.args.listed.now c.loop-number.number = entries_of-read None c.args.listed.now c.loop-number.number (length c.args.table.now.setup.shards) c.index-listed-number.result c.requires.len l c.index-listed-number.is in
    λ v e. c.requires.known c.loop-number.number v (sym read ∙ e)

pub returns-then-has_bad_listing : goal.returns-then-has_bad_listing
returns-then-has_bad_listing c =
    let l : c.loop-number.number < length c.args.table.now.setup.shards = let n : c.shard_count-number-end.result ≡ length c.args.table.now.setup.shards = c.shard_count-number-end.ensures.count ∙ ap (λ (s : Setup). length s.shards) c.config.ensures.setup in omega arith in
    let read : c.index-listed-number.result ≡ entries_of None c.args.listed.now c.loop-number.number = entries_of-read None c.args.listed.now c.loop-number.number (length c.args.table.now.setup.shards) c.index-listed-number.result c.requires.len l c.index-listed-number.is in
    let bad : has_bad_listing (cells_of c.args.table.now c.loop-number.number) (entries_of None c.args.listed.now c.loop-number.number) ≡ true = rw (← read, ← c.new.ensures) (sym c.has_bad_listing.ensures ∙ c.if-has_bad_listing.true) in
    rw c.new-then-has_bad_listing.ensures (sym (find_here (λ s. has_bad_listing (cells_of c.args.table.now s) (entries_of None c.args.listed.now s)) c.loop-number.number (length c.args.table.now.setup.shards) l bad) ∙ c.loop-number.invariant)

pub loop-number-preserved : goal.loop-number-preserved
loop-number-preserved c =
    let l : c.loop-number.number < length c.args.table.now.setup.shards = let n : c.shard_count-number-end.result ≡ length c.args.table.now.setup.shards = c.shard_count-number-end.ensures.count ∙ ap (λ (s : Setup). length s.shards) c.config.ensures.setup in omega arith in
    let read : c.index-listed-number.result ≡ entries_of None c.args.listed.now c.loop-number.number = entries_of-read None c.args.listed.now c.loop-number.number (length c.args.table.now.setup.shards) c.index-listed-number.result c.requires.len l c.index-listed-number.is in
    let good : has_bad_listing (cells_of c.args.table.now c.loop-number.number) (entries_of None c.args.listed.now c.loop-number.number) ≡ false = rw (← read, ← c.new.ensures) (sym c.has_bad_listing.ensures ∙ c.if-has_bad_listing.false) in
    sym (find_next (λ s. has_bad_listing (cells_of c.args.table.now s) (entries_of None c.args.listed.now s)) c.loop-number.number (length c.args.table.now.setup.shards) l good) ∙ c.loop-number.invariant
