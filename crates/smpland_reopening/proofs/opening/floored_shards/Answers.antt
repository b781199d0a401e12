use Rattle.std.proofs.Common.{◌≡◌, ◌∙◌, ◌<◌, length, get_or, ap, arith, map}
use Rattle.std.specs.List.{range_with_len}
use Rattle.sm_placement.specs.Setup.{ShardRow, no_shard}
use Rattle.smpland_reopening.proofs.Eased.{eased_next}
use Rattle.smpland_reopening.proofs.Floors.{good_more}
use Rattle.smpland_reopening.proofs.Numbers.{shard_names_next}
use Rattle.smpland_reopening.specs.RoleGrids.{role_at}
use Rattle.smpland_reopening.specs.Roles.{is_down_in}
use Rattle.smpland_reopening.specs.Settled.{live_by, shard_met, shard_with_live}
use Rattle.smpland_reopening.proofs.Settled.{met_next}
use Rattle.smpland_reopening.proofs.opening.floored_shards.Goals as goal

-- The shards so far, and the next.
pub loop-number-preserved : goal.loop-number-preserved
loop-number-preserved c =
    let i = c.loop-number.number in
    let setup = c.args.config.now in
    let row = c.in_ok-floored.field-0 in
    let is = c.shard.ensures.row ∙ ap (λ k. get_or setup.shards k no_shard) c.new-shard.ensures in
    let within : i < length setup.shards = omega (arith, c.loop-number-test.true, c.shard_count-number-end.ensures.count) in
    record {
      names = shard_names_next setup c.loop-number.rows.items c.push.new.self.items row i c.loop-number.invariant.names within c.in_ok-push.ensures.items
          (c.in_ok-floored.ensures.name ∙ ap (λ (r : ShardRow). r.name) is);
      eased = eased_next setup.shards c.loop-number.rows.items c.push.new.self.items row _ i c.loop-number.invariant.eased c.in_ok-push.ensures.items is c.in_ok-floored.ensures.eased;
      met = met_next (shard_met setup (role_at c.args.roles.now) (is_down_in c.args.down.now)) c.loop-number.rows.items c.push.new.self.items row i c.loop-number.invariant.met
          c.in_ok-push.ensures.items
          (c.in_ok-floored.ensures.row ∙ ap (λ (r : ShardRow). shard_with_live r c.live.result) is
          ∙ ap (shard_with_live (get_or setup.shards i no_shard))
          (c.live.ensures
          ∙ ap (live_by c.args.roles.now.servers (role_at c.args.roles.now) (is_down_in c.args.down.now)) c.new-shard.ensures
          ∙ ap (λ n. live_by n (role_at c.args.roles.now) (is_down_in c.args.down.now) i) c.requires));
      good = good_more c.loop-number.rows.items c.push.new.self.items row c.loop-number.invariant.good c.in_ok-push.ensures.items c.in_ok-floored.ensures.good;
    }

-- all shards are done
pub returns-clause-met : goal.returns-clause-met
returns-clause-met c =
    let all : c.loop-number.number ≡ length c.args.config.now.shards = omega (arith, c.loop-number-test.false, c.loop-number.auto.number-end, c.shard_count-number-end.ensures.count) in
    c.loop-number.invariant.met ∙ ap (λ n. map (shard_met c.args.config.now (role_at c.args.roles.now) (is_down_in c.args.down.now)) (range_with_len 0 n)) all
