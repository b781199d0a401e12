-- All that is numbered takes part.
use Rattle.std.proofs.Common.{◌∙◌, arith, length, map, subst}
use Rattle.laws_network.specs.ReopeningLaws.{no_reopening}
use Rattle.smpland_reopening.specs.Begun.{IsGround, IsNumberedGround}
use Rattle.smpland_reopening.proofs.Begun.{begun_all, begun_over, members_count}
use Rattle.smpland_reopening.proofs.Numbers.{keeps_servers, keeps_shards}
use Rattle.smpland_reopening.proofs.beginning.begin_over.Goals as goal

pub begin-requires-clause-servers : goal.begin-requires-clause-servers
begin-requires-clause-servers c =
    let g = c.in_ok-ground.ground in
    let ground = subst (λ s. IsGround s c.args.document.now.config g) c.config.ensures.setup c.in_ok-ground.ensures.ground in
    let count = members_count g.numbering c.args.document.now.config (map (λ n. n.now) c.args.lost.now) c.deref.result.now (c.deref.ensures.value ∙ c.in_ok-ground.ensures.members) in
    omega (arith, count, keeps_servers c.args.placement.now.setup g.numbering ground.servers)

pub begin-requires-clause-few : goal.begin-requires-clause-few
begin-requires-clause-few c =
    let g = c.in_ok-ground.ground in
    let count = members_count g.numbering c.args.document.now.config (map (λ n. n.now) c.args.lost.now) c.deref.result.now (c.deref.ensures.value ∙ c.in_ok-ground.ensures.members) in
    omega (arith, count, c.shard_count-shards.ensures.setup.servers)

pub begin-requires-clause-shards : goal.begin-requires-clause-shards
begin-requires-clause-shards c =
    let g = c.in_ok-ground.ground in
    let ground = subst (λ s. IsGround s c.args.document.now.config g) c.config.ensures.setup c.in_ok-ground.ensures.ground in
    omega (arith, c.shard_count-shards.ensures.count, keeps_shards c.args.placement.now.setup g.numbering ground.shards)

pub returns-clause-begun : goal.returns-clause-begun
returns-clause-begun c =
    let g = c.in_ok-ground.ground in
    let ground = subst (λ s. IsGround s c.args.document.now.config g) c.config.ensures.setup c.in_ok-ground.ensures.ground in
    begun_all c.args.placement.now.setup c.args.document.now.config (map (λ n. n.now) c.args.lost.now) c.deref.result.now c.args.epoch g c.in_ok-ongoing.ongoing
    (no_reopening (length c.args.placement.now.setup.servers)) ground (c.deref.ensures.value ∙ c.in_ok-ground.ensures.members) c.in_ok-ongoing.ensures.reopening
    (keeps_servers c.args.placement.now.setup g.numbering ground.servers) (c.in_ok-ongoing.ensures.shards ∙ c.shard_count-shards.ensures.count)

pub returns-clause-over : goal.returns-clause-over
returns-clause-over c =
    let g = c.in_ok-ground.ground in
    let ground = subst (λ s. IsGround s c.args.document.now.config g) c.config.ensures.setup c.in_ok-ground.ensures.ground in
    begun_over c.args.placement.now.setup c.args.document.now.config (map (λ n. n.now) c.args.lost.now) c.deref.result.now c.args.epoch g c.in_ok-ongoing.ongoing
    (no_reopening (length c.args.placement.now.setup.servers)) ground (c.deref.ensures.value ∙ c.in_ok-ground.ensures.members) c.in_ok-ongoing.ensures.reopening c.in_ok-ongoing.ensures.left_out

pub returns-clause-numbered : goal.returns-clause-numbered
returns-clause-numbered c =
    let g = c.in_ok-ground.ground in
    subst (λ s. IsNumberedGround s c.args.document.now.config c.args.document.now.cells.items g) c.config.ensures.setup c.in_ok-ground.ensures.numbered

pub returns-clause-recorded : goal.returns-clause-recorded
returns-clause-recorded c = record {
  setup = c.in_ok-ongoing.ensures.setup;
  place = c.in_ok-ongoing.ensures.place;
  shards = c.in_ok-ongoing.ensures.shards ∙ c.shard_count-shards.ensures.count;
  copies = c.in_ok-ongoing.ensures.copies;
}
