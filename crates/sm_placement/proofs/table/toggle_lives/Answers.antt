-- One shard more has its new count.
use Rattle.std.proofs.Common.{◌≡◌, ℕ, ◌+◌, ◌-◌, ◌<◌, ◌≤◌, ◌∙◌, Bool, List, not, length, get_or, sym, ap, arith}
use Rattle.sm_placement.specs.Layout.{entries_of}
use Rattle.sm_placement.specs.Counts.{part_of, CanToggle}
use Rattle.sm_placement.specs.Replicas.{ReplicasModel, replicas_by}
use Rattle.sm_placement.specs.declared.limits.TheConstants.{MOST_SERVERS}
use Rattle.sm_placement.proofs.GridLemmas.{entries_of-is, entries_of-done, entries_of-rest}
use Rattle.sm_placement.proofs.table.toggle_lives.Goals as goal

-- what the loop reads for a shard: the old count, and whether the server has a replica
read : (old lives : List ℕ) (s v n : ℕ) (has down : Bool) (replicas : ReplicasModel) → s < length old → s < length lives → CanToggle old down (replicas_by replicas v) →
    ((r : ℕ) → s ≤ r → r < length lives → entries_of 0 lives r ≡ entries_of 0 old r) → n ≡ v → has ≡ replicas_by replicas n s →
    ((get_or lives s 0 ≡ entries_of 0 old s) × (has ≡ replicas_by replicas v s)) × ((part_of (not down) has ≤ get_or lives s 0) × (get_or lives s 0 ≤ MOST_SERVERS))
read old lives s v n has down replicas l m can rest e h =
    let live : get_or lives s 0 ≡ entries_of 0 old s = sym (entries_of-is 0 lives s) ∙ rest s (omega arith) m in
    let is : has ≡ replicas_by replicas v s = h ∙ ap (λ (k : ℕ). replicas_by replicas k s) e in
    ((live, is), rw (live, is) (can s l))

pub live_toggled-requires-clause-part : goal.live_toggled-requires-clause-part
live_toggled-requires-clause-part c =
    (read c.args.lives.now c.loop-shard.lives c.loop-shard.shard c.args.server c.number.result c.get-has_replica.result c.args.down c.args.replicas.now (omega arith) (omega arith) c.requires.lives
    c.loop-shard.invariant.rest c.number.ensures c.get-has_replica.ensures).1.0

pub live_toggled-requires-clause-bound : goal.live_toggled-requires-clause-bound
live_toggled-requires-clause-bound c =
    (read c.args.lives.now c.loop-shard.lives c.loop-shard.shard c.args.server c.number.result c.get-has_replica.result c.args.down c.args.replicas.now (omega arith) (omega arith) c.requires.lives
    c.loop-shard.invariant.rest c.number.ensures c.get-has_replica.ensures).1.1

pub loop-shard-preserved : goal.loop-shard-preserved
loop-shard-preserved c =
    let s : ℕ = c.loop-shard.shard in
    let new : ℕ → ℕ = λ r. entries_of 0 c.args.lives.now r + part_of c.args.down (replicas_by c.args.replicas.now c.args.server r) - part_of (not c.args.down) (replicas_by c.args.replicas.now c.args.server r) in
    let facts = read c.args.lives.now c.loop-shard.lives c.loop-shard.shard c.args.server c.number.result c.get-has_replica.result c.args.down c.args.replicas.now (omega arith) (omega arith) c.requires.lives
    c.loop-shard.invariant.rest c.number.ensures c.get-has_replica.ensures in
    let live : get_or c.loop-shard.lives c.loop-shard.shard 0 ≡ entries_of 0 c.args.lives.now c.loop-shard.shard = facts.0.0 in
    let sum : c.live_toggled.result + part_of (not c.args.down) (replicas_by c.args.replicas.now c.args.server c.loop-shard.shard)
    ≡ entries_of 0 c.args.lives.now c.loop-shard.shard + part_of c.args.down (replicas_by c.args.replicas.now c.args.server c.loop-shard.shard) = rw (← live, ← facts.0.1) c.live_toggled.ensures in
    record {
      done = entries_of-done c.loop-shard.lives s c.live_toggled.result new (omega arith) c.loop-shard.invariant.done (omega (arith, sum));
      rest = entries_of-rest c.loop-shard.lives s c.live_toggled.result (entries_of 0 c.args.lives.now) (omega arith) c.loop-shard.invariant.rest;
    }

pub returns : goal.returns
returns c = λ s l. let e = c.loop-shard.invariant.done s (omega arith) in let can = (c.requires.lives s l).0 in omega (arith, e, can)
