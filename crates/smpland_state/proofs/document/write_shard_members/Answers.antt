use Rattle.std.proofs.Common.{◌++◌, ◌∙◌, ap}
use Rattle.std.specs.Prelude.{codes, option_map, slice_index_or}
use Rattle.sm_placement.specs.Layout.{place_of}
use Rattle.sm_placement.specs.Setup.{Setup, ShardRow, no_shard}
use Rattle.smpland_lines.specs.Members.{name_member, server_text}
use Rattle.smpland_lines.proofs.Written.{next}
use Rattle.smpland_state.specs.Document.{listed_owner, owner_in, shard_numbers}
use Rattle.smpland_state.proofs.document.write_shard_members.Goals as goal

-- The row and the names of the configuration that the placement has.
pub returns : goal.returns
returns c =
    let o = c.args.writer.now.tokens in
    let numbered = c.write_shard_numbers.new.writer.tokens in
    let row = c.shard.ensures.row ∙ ap (λ (s : Setup). slice_index_or s.shards c.args.shard no_shard) c.config.ensures.setup in
    let numbers = c.in_ok-write_shard_numbers.ensures ∙ ap (λ (r : ShardRow). o ++ shard_numbers r) row in
    let place = place_of c.args.placement.now in
    let own = listed_owner (place.listed c.args.shard) (owner_in c.args.placement.now.setup (place.cells c.args.shard)) in
    let listed =
    (rw (c.listed.ensures.listed, c.owner_of-owner.ensures) at (rw c.listed_owner-listed.ensures at c.in_ok-write_listed.ensures))
    ∙ ap (λ (s : Setup). numbered ++ name_member (codes "listed") (option_map (server_text s) own)) c.config-2.ensures.setup in
    next o _ _ (next o _ _ numbers listed) c.in_ok-write_replica_rows.ensures
