-- All that is numbered takes part.
use Rattle.std.proofs.Common.{◌∙◌, List, ℕ, ap, arith, map, subst}
use Rattle.sm_reopening.specs.Ongoing.{net_reopening, recorded_place, recorded_setup}
use Rattle.smpland_reopening.specs.Begun.{BeginsUnder, IsNumberedGround}
use Rattle.smpland_reopening.specs.Reopening.{ReopeningModel}
use Rattle.smpland_reopening.proofs.Begun.{begun_all, begun_over, members_count}
use Rattle.smpland_reopening.proofs.Numbers.{keeps_servers, keeps_shards}
use Rattle.smpland_reopening.proofs.reopening.DocumentReopening.replaced.Goals as goal

pub replace-requires-clause-servers : goal.replace-requires-clause-servers
replace-requires-clause-servers c =
    let g = c.in_ok-ground.ground in
    let count = members_count g.numbering c.args.document.now.config (map (λ n. n.now) c.args.lost.now) c.deref.result.now (c.deref.ensures.value ∙ c.in_ok-ground.ensures.members) in
    omega (arith, count, c.self.invariant.servers, keeps_servers c.self.inside.numbering g.numbering c.in_ok-ground.ensures.ground.servers)

pub replace-requires-clause-few : goal.replace-requires-clause-few
replace-requires-clause-few c =
    let g = c.in_ok-ground.ground in
    let count = members_count g.numbering c.args.document.now.config (map (λ n. n.now) c.args.lost.now) c.deref.result.now (c.deref.ensures.value ∙ c.in_ok-ground.ensures.members) in
    omega (arith, count, c.shard_count-shards.ensures.setup.servers)

pub replace-requires-clause-shards : goal.replace-requires-clause-shards
replace-requires-clause-shards c =
    omega (arith, c.self.inside.ongoing.known_shards, c.self.invariant.shards, c.shard_count-shards.ensures.count, keeps_shards c.self.inside.numbering c.in_ok-ground.ground.numbering c.in_ok-ground.ensures.ground.shards)

pub returns-clause-begun : goal.returns-clause-begun
returns-clause-begun c =
    let g = c.in_ok-ground.ground in
    begun_all c.self.inside.numbering c.args.document.now.config (map (λ n. n.now) c.args.lost.now) c.deref.result.now c.args.epoch g c.in_ok-ongoing.ongoing (net_reopening c.self.inside.ongoing)
    c.in_ok-ground.ensures.ground (c.deref.ensures.value ∙ c.in_ok-ground.ensures.members) c.in_ok-ongoing.ensures.reopening
    (omega (arith, c.self.invariant.servers, keeps_servers c.self.inside.numbering g.numbering c.in_ok-ground.ensures.ground.servers)) (c.in_ok-ongoing.ensures.shards ∙ c.shard_count-shards.ensures.count)

pub returns-clause-over : goal.returns-clause-over
returns-clause-over c =
    let g = c.in_ok-ground.ground in
    let lost : List (List ℕ) = map (λ n. n.now) c.args.lost.now in
    subst (λ (r : ReopeningModel). BeginsUnder (net_reopening r.ongoing) r.numbering c.args.document.now.config g.numbering lost c.args.epoch c.in_ok-ongoing.ongoing) c.self.view_is
    (begun_over c.self.inside.numbering c.args.document.now.config lost c.deref.result.now c.args.epoch g c.in_ok-ongoing.ongoing (net_reopening c.self.inside.ongoing)
    c.in_ok-ground.ensures.ground (c.deref.ensures.value ∙ c.in_ok-ground.ensures.members) c.in_ok-ongoing.ensures.reopening c.in_ok-ongoing.ensures.left_out)

pub returns-clause-numbered : goal.returns-clause-numbered
returns-clause-numbered c =
    let g = c.in_ok-ground.ground in
    subst (λ (r : ReopeningModel). IsNumberedGround r.numbering c.args.document.now.config c.args.document.now.cells.items g) c.self.view_is c.in_ok-ground.ensures.numbered

pub returns-clause-recorded : goal.returns-clause-recorded
returns-clause-recorded c = record {
  setup = c.in_ok-ongoing.ensures.setup ∙ ap (λ (r : ReopeningModel). recorded_setup r.ongoing) c.self.view_is;
  place = c.in_ok-ongoing.ensures.place ∙ ap (λ (r : ReopeningModel). recorded_place r.ongoing) c.self.view_is;
  shards = c.in_ok-ongoing.ensures.shards ∙ c.shard_count-shards.ensures.count;
  copies = c.in_ok-ongoing.ensures.copies;
}
