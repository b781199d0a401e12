-- The best of the servers below the loop's number is known.
use Rattle.std.proofs.Common.{IfSome, ◌≡◌, ◌∙◌, ◌+◌, ◌<◌, ◌≤◌, ℕ, true, false, Option, Some, None, length, refl, sym, ap, subst, arith}
use Rattle.sm_reopening.specs.declared.ongoing.OngoingReopening.{OngoingReopening}
use Rattle.sm_reopening.specs.declared.survivors.Standing.{Standing}
use Rattle.sm_reopening.specs.Survivors.{IsSuccessorOf, standing_of, stands_above}
use Rattle.sm_reopening.proofs.Successors.{IsBestBelow, better_next, inherits, none_inherits, same_next}
use Rattle.sm_reopening.proofs.ongoing.OngoingReopening.successor.Goals.{then-is_above, else-is_above}
use Rattle.sm_reopening.proofs.ongoing.OngoingReopening.successor.Goals as goal

pub loop-number-preserved : goal.loop-number-preserved
loop-number-preserved c =
    let x : OngoingReopening = c.args.self.now in
    let n : ℕ = c.loop-number.number in
    let new : Standing = c.standing-standing.result in
    let e : new ≡ standing_of x c.args.shard n = c.standing-standing.ensures.standing ∙ ap (standing_of x c.args.shard) c.new-server.ensures in
    let view : new.copy.view ≤ 18446744073709551615 = omega (arith, c.standing-standing.ensures.view) in
    let position : new.copy.position ≤ 18446744073709551615 = omega (arith, c.standing-standing.ensures.position) in
    elim c.if-is_above.branch [
      | then-is_above w ↦
          let above : stands_above new c.loop-number.best ≡ true = cc in
          let more : IsBestBelow x c.args.shard (n + 1) (Some n) new = better_next x c.args.shard n c.loop-number.successor c.loop-number.best new e view position c.loop-number.invariant above in
          let top : new ≡ c.if-is_above.best = cc in
          let successor : Some n ≡ c.if-is_above.successor = cc in
          subst (λ (h : Option ℕ). IsBestBelow x c.args.shard (n + 1) h c.if-is_above.best) successor (subst (λ (b : Standing). IsBestBelow x c.args.shard (n + 1) (Some n) b) top more)
      | else-is_above w ↦
          let below : stands_above new c.loop-number.best ≡ false = cc in
          let less : stands_above (standing_of x c.args.shard n) c.loop-number.best ≡ false = subst (λ (t : Standing). stands_above t c.loop-number.best ≡ false) e below in
          let more : IsBestBelow x c.args.shard (n + 1) c.loop-number.successor c.loop-number.best = same_next x c.args.shard n c.loop-number.successor c.loop-number.best c.loop-number.invariant less in
          let top : c.loop-number.best ≡ c.if-is_above.best = cc in
          let successor : c.loop-number.successor ≡ c.if-is_above.successor = cc in
          subst (λ (h : Option ℕ). IsBestBelow x c.args.shard (n + 1) h c.if-is_above.best) successor (subst (λ (b : Standing). IsBestBelow x c.args.shard (n + 1) c.loop-number.successor b) top more)
    ]

best_of_all : (x : OngoingReopening) (s n : ℕ) (successor : Option ℕ) (top : Standing) → IsBestBelow x s n successor top → n ≡ length x.servers.items → IsBestBelow x s (length x.servers.items) successor top
best_of_all x s n successor top b e = subst (λ (i : ℕ). IsBestBelow x s i successor top) e b

pub returns-clause-successor : goal.returns-clause-successor
returns-clause-successor c = go c.loop-number.successor refl
  where
    at_end : c.loop-number.number ≡ length c.args.self.now.servers.items
    at_end = omega (arith, c.server_count-number-end.ensures)

    go : (o : Option ℕ) → c.loop-number.successor ≡ o → IfSome o (IsSuccessorOf c.args.self.now c.args.shard)
    go None e = tt
    go (Some u) e = inherits c.args.self.now c.args.shard u c.loop-number.successor c.loop-number.best (best_of_all c.args.self.now c.args.shard c.loop-number.number c.loop-number.successor c.loop-number.best c.loop-number.invariant at_end) e

pub returns-clause-none : goal.returns-clause-none
returns-clause-none c =
    let at_end : c.loop-number.number ≡ length c.args.self.now.servers.items = omega (arith, c.server_count-number-end.ensures) in
    none_inherits c.args.self.now c.args.shard c.loop-number.successor c.loop-number.best (best_of_all c.args.self.now c.args.shard c.loop-number.number c.loop-number.successor c.loop-number.best c.loop-number.invariant at_end)
