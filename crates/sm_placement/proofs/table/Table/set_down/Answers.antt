-- The counts of live replicas and of servers that are down are corrected.
use Rattle.std.proofs.Common.{◌≡◌, ◌+◌, ◌-◌, ◌≤◌, ℕ, List, length, not, refl, sym, subst, ◌∙◌, arith}
use Rattle.std.specs.Vec.{with_items}
use Rattle.std.proofs.lemmas.List.{with_items_is}
use Rattle.sm_placement.specs.Sums.{bit}
use Rattle.sm_placement.specs.Counts.{AreToggled}
use Rattle.sm_placement.specs.Replicas.{replicas_by}
use Rattle.sm_placement.specs.Grid.{down_of}
use Rattle.sm_placement.proofs.Sums.{put-same}
use Rattle.sm_placement.proofs.ReplicaLemmas.{replicas_within}
use Rattle.sm_placement.proofs.Toggles.{same-from_beq, not-from_beq, down-toggled, down_count-small, down_of-set, CanToggle-counted, IsCounted-toggle}
use Rattle.sm_placement.proofs.table.Table.set_down.Goals as goal

pub toggle_lives-requires-clause-shards : goal.toggle_lives-requires-clause-shards
toggle_lives-requires-clause-shards c = omega (arith, c.self.invariant.lives_length, c.self.invariant.replicas_shards)

pub toggle_lives-requires-clause-server : goal.toggle_lives-requires-clause-server
toggle_lives-requires-clause-server c = replicas_within c.args.server c.self.invariant c.self.view_is c.requires

pub toggle_lives-requires-clause-lives : goal.toggle_lives-requires-clause-lives
toggle_lives-requires-clause-lives c =
    rw c.as_mut_slice.ensures.value
    (CanToggle-counted c.args.server c.args.down c.is_down.result c.self.invariant c.self.view_is c.requires c.is_down.ensures (not-from_beq c.is_down.result c.args.down c.if-is_down-down.false))

pub overflow_add-self : goal.overflow_add-self
overflow_add-self c = let few : c.self.inside.down_count ≤ 1024 = down_count-small c.self.invariant in omega arith

pub overflow_sub-self : goal.overflow_sub-self
overflow_sub-self c =
    let k = down-toggled c.args.server c.args.down c.is_down.result c.self.invariant c.self.view_is c.requires c.is_down.ensures (not-from_beq c.is_down.result c.args.down c.if-is_down-down.false) in
    let e : bit (not c.args.down) ≡ 1 = rw c.if-down.false refl in
    let o : bit c.args.down ≡ 0 = rw c.if-down.false refl in
    omega (arith, k)

pub invariant_of-self : goal.invariant_of-self
invariant_of-self c =
    let fits : length c.toggle_lives.new.lives ≡ c.self.inside.lives.len = omega arith in
    let same : length c.toggle_lives.new.lives ≡ length c.self.inside.lives.items = omega arith in
    let w : (with_items c.self.inside.lives c.toggle_lives.new.lives).items ≡ c.toggle_lives.new.lives = with_items_is c.self.inside.lives c.toggle_lives.new.lives fits in
    let e : bit (not c.args.down) ≡ 0 = rw c.if-down.true refl in
    let o : bit c.args.down ≡ 1 = rw c.if-down.true refl in
    let count : c.self.inside.down_count + 1 + bit (not c.args.down) ≡ c.self.inside.down_count + bit c.args.down = omega arith in
    let are : AreToggled c.self.inside.lives.items c.toggle_lives.new.lives c.args.down (replicas_by c.self.inside.replicas c.args.server) =
    subst (λ (xs : List ℕ). AreToggled xs c.toggle_lives.new.lives c.args.down (replicas_by c.self.inside.replicas c.args.server)) c.as_mut_slice.ensures.value c.toggle_lives.ensures in
    rw (w, c.number.ensures)
    (IsCounted-toggle c.args.server c.args.down c.is_down.result c.toggle_lives.new.lives (c.self.inside.down_count + 1) c.self.invariant c.self.view_is c.requires c.is_down.ensures
    (not-from_beq c.is_down.result c.args.down c.if-is_down-down.false) same are count)

pub invariant_of-self-else-down : goal.invariant_of-self-else-down
invariant_of-self-else-down c =
    let fits : length c.toggle_lives.new.lives ≡ c.self.inside.lives.len = omega arith in
    let same : length c.toggle_lives.new.lives ≡ length c.self.inside.lives.items = omega arith in
    let w : (with_items c.self.inside.lives c.toggle_lives.new.lives).items ≡ c.toggle_lives.new.lives = with_items_is c.self.inside.lives c.toggle_lives.new.lives fits in
    let e : bit (not c.args.down) ≡ 1 = rw c.if-down.false refl in
    let o : bit c.args.down ≡ 0 = rw c.if-down.false refl in
    let some : 1 ≤ c.self.inside.down_count = let k = down-toggled c.args.server c.args.down c.is_down.result c.self.invariant c.self.view_is c.requires c.is_down.ensures (not-from_beq c.is_down.result c.args.down c.if-is_down-down.false) in omega (arith, k) in
    let count : c.self.inside.down_count - 1 + bit (not c.args.down) ≡ c.self.inside.down_count + bit c.args.down = omega arith in
    let are : AreToggled c.self.inside.lives.items c.toggle_lives.new.lives c.args.down (replicas_by c.self.inside.replicas c.args.server) =
    subst (λ (xs : List ℕ). AreToggled xs c.toggle_lives.new.lives c.args.down (replicas_by c.self.inside.replicas c.args.server)) c.as_mut_slice.ensures.value c.toggle_lives.ensures in
    rw (w, c.number.ensures)
    (IsCounted-toggle c.args.server c.args.down c.is_down.result c.toggle_lives.new.lives (c.self.inside.down_count - 1) c.self.invariant c.self.view_is c.requires c.is_down.ensures
    (not-from_beq c.is_down.result c.args.down c.if-is_down-down.false) same are count)

pub returns-then-is_down-down-clause-down : goal.returns-then-is_down-down-clause-down
returns-then-is_down-down-clause-down c =
    sym (put-same (down_of c.args.self.now) c.args.server c.args.down (sym c.is_down.ensures ∙ same-from_beq c.is_down.result c.args.down c.if-is_down-down.true))

pub returns-then-down-clause-down : goal.returns-then-down-clause-down
returns-then-down-clause-down c = rw c.number.ensures (down_of-set c.args.server c.args.down c.self.invariant c.self.view_is c.requires)

pub returns-else-down-clause-down : goal.returns-else-down-clause-down
returns-else-down-clause-down c = rw c.number.ensures (down_of-set c.args.server c.args.down c.self.invariant c.self.view_is c.requires)
