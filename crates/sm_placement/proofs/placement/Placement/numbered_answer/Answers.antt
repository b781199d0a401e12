-- An answer keeps what every placement keeps.
use Rattle.std.proofs.Common.{◌≡◌, rules}
use Rattle.sm_placement.specs.Setup.{sizes_of}
use Rattle.sm_placement.specs.Layout.{place_of}
use Rattle.sm_placement.specs.Place.{numbered_answer_at}
use Rattle.sm_placement.proofs.Layouts.{placement_read}
use Rattle.sm_placement.proofs.Calls.{numbered_kept, numbered_before}
use Rattle.sm_placement.proofs.placement.Placement.numbered_answer.Goals as goal

pub returns-clause-kept : goal.returns-clause-kept
returns-clause-kept c =
    let same : c.serve_numbered.result ≡ numbered_answer_at (sizes_of c.args.self.now.setup) (place_of c.args.self.now) c.args.shard c.args.server c.args.call c.args.number = search rules in
    numbered_kept (sizes_of c.args.self.now.setup) (place_of c.args.self.now) c.args.shard c.args.server c.args.call c.args.number c.serve_numbered.result (placement_read c.self.invariant.placement c.self.view_is) c.requires.shard c.requires.server c.requires.party same

pub returns-clause-again : goal.returns-clause-again
returns-clause-again c =
    let same : c.serve_numbered.result ≡ numbered_answer_at (sizes_of c.args.self.now.setup) (place_of c.args.self.now) c.args.shard c.args.server c.args.call c.args.number = search rules in
    numbered_before (sizes_of c.args.self.now.setup) (place_of c.args.self.now) c.args.shard c.args.server c.args.call c.args.number c.serve_numbered.result same
