-- The first so far stays, or the next one takes its place.
use Rattle.std.proofs.Common.{◌∙◌, ◌+◌, Bor, Option, arith, option_map, subst, sym, take}
use Rattle.smpland_reopening.specs.Unknown.{IsFirstUnknown}
use Rattle.smpland_reopening.specs.declared.unknown_shard.UnknownShard.{UnknownShard}
use Rattle.smpland_reopening.proofs.Unknown.{becomes_first, begins, stays_first}
use Rattle.smpland_reopening.proofs.answers.first_of_lowest.Goals as goal
use Rattle.smpland_reopening.proofs.answers.first_of_lowest.Goals.{in-Some, in_default, in_default-via-in-Some+else-number, in_default-via-in_default}

pub loop-unknown_shard-preserved : goal.loop-unknown_shard-preserved
loop-unknown_shard-preserved c =
    let i = c.loop-unknown_shard.unknown_shard-index in
    let shards = c.args.unknown_shards.now in
    let next = c.unknown_shard-item.result in
    let IsAt : Option (Bor UnknownShard) → Type 0 = λ f. IsFirstUnknown (take i shards) (option_map (λ first. first.now) f) in
    let IsNext : Option (Bor UnknownShard) → Type 0 = λ f. IsFirstUnknown (take (i + 1) shards) (option_map (λ first. first.now) f) in
    elim c.match-first.branch [
      | in-Some w ↦
          subst IsNext (sym (w.first-is ∙ w.in-Some.is))
          (stays_first shards i next c.loop-unknown_shard-test.true c.unknown_shard-item.is _ (subst IsAt w.in-Some.is c.loop-unknown_shard.invariant)
          (grind arith))
      | in_default w ↦
          subst IsNext (sym w.first-is)
          (elim w.in_default.branch [
            | in_default-via-in-Some+else-number w' ↦
                becomes_first shards i next c.loop-unknown_shard-test.true c.unknown_shard-item.is _ (subst IsAt w'.in-Some.is c.loop-unknown_shard.invariant)
                (grind arith)
            | in_default-via-in_default w' ↦
                begins shards i next c.loop-unknown_shard-test.true c.unknown_shard-item.is (subst IsAt w'.in_default.is c.loop-unknown_shard.invariant)
          ])
    ]
