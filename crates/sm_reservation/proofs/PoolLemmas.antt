-- A pool's lists: what is read in them by key, and what a write makes of the rights in them.
use Rattle.std.proofs.Common.{◌≡◌, ℕ, ◌+◌, ◌*◌, ◌-◌, ◌<◌, ◌≤◌, length, set, get_or, replicate, refl, sym, ap, subst, ◌∙◌, arith, inl, inr, Option, None, Bor, List, Some}
use Rattle.std.specs.Slice.{IsItemAt}
use Rattle.std.specs.Option.{option_copied, option_flatten, option_map, unwrap_or}
use Rattle.std.proofs.lemmas.Bool.{cases_lt}
use Rattle.sm_placement.specs.declared.lead.Lead.{Lead}
use Rattle.sm_placement.specs.Sums.{put, put2}
use Rattle.sm_placement.specs.Layout.{grid_of, entries_of}
use Rattle.sm_placement.proofs.Sums.{put-same, put2-same}
use Rattle.sm_placement.proofs.GridLemmas.{grid_of-beside, grid_of-below, grid_of-empty, grid_of-read, grid_of-set, place_within, entries_of-past, entries_of-set, entries_of-empty, entries_of-read, entries_of-is}
use Rattle.sm_reservation.specs.declared.right.PlainCell.{PlainCell}
use Rattle.sm_reservation.specs.Hold.{Hold, no_hold, with_cell, without_crown, pay_room, pay_spare}
use Rattle.sm_reservation.specs.Pool.{PoolModel, IsStocked, IsKnownHold, pool_hold}

-- ---- what every pool keeps

-- the rights of a pool are of known shards and servers
pub stocked_within : (k : PoolModel) → IsStocked k → IsKnownHold k.shards k.servers (pool_hold k)
unfolding pool_hold
stocked_within k h = record {
  no_shard = λ s v l. grid_of-below k.servers k.shards None k.cells s v h.cells l;
  no_server = λ s v l. grid_of-beside k.servers None k.cells s v l;
  crowns = λ s l. entries_of-past None k.crowns s (omega (arith, h.crowns));
  room = λ v l. entries_of-past 0 k.room v (omega (arith, h.room));
  spare = λ s l. entries_of-past 0 k.spare s (omega (arith, h.spare));
}

-- as its callers see it, a pool has all entries of its lists too
pub stocked_now : {k now : PoolModel} → IsStocked k → k ≡ now → IsStocked now
stocked_now {k} {now} h e = subst (λ (n : PoolModel). IsStocked n) e h

-- ---- reads

-- what is read at the slot of a shard and a server is the right to that cell, if there is one
pub cell_read : {k now : PoolModel} (s v : ℕ) (x : Option PlainCell) → IsStocked k → k ≡ now → s < now.shards → v < now.servers → x ≡ get_or k.cells (s * now.servers + v) x → x ≡ (pool_hold now).cells s v
unfolding pool_hold
cell_read {k} {now} s v x h e = subst (λ (n : PoolModel). s < n.shards → v < n.servers → x ≡ get_or k.cells (s * n.servers + v) x → x ≡ (pool_hold n).cells s v) e
    (λ l m r. grid_of-read k.servers k.shards None k.cells s v x h.cells l m r)

-- what is read at a server is its room
pub room_read : {k now : PoolModel} (v x : ℕ) → IsStocked k → k ≡ now → v < length k.room → x ≡ get_or k.room v x → x ≡ (pool_hold now).room v
unfolding pool_hold
room_read {k} {now} v x h e l r = subst (λ (n : PoolModel). x ≡ (pool_hold n).room v) e (entries_of-read 0 k.room v (length k.room) x refl l r)

-- what is read at a shard is its spare replicas
pub spare_read : {k now : PoolModel} (s x : ℕ) → IsStocked k → k ≡ now → s < length k.spare → x ≡ get_or k.spare s x → x ≡ (pool_hold now).spare s
unfolding pool_hold
spare_read {k} {now} s x h e l r = subst (λ (n : PoolModel). x ≡ (pool_hold n).spare s) e (entries_of-read 0 k.spare s (length k.spare) x refl l r)

-- what `get` finds in a list of entries
entry_got : {A : Type 0} (none : A) (xs : List A) (k : ℕ) (r : Option (Bor A)) → IsItemAt xs k r → unwrap_or (option_copied r) none ≡ entries_of none xs k
entry_got {A} none xs k r item = ap (λ (o : Option A). unwrap_or o none) (copied_is r) ∙ item.4 (omega arith) none ∙ sym (entries_of-is none xs k)
  where
    copied_is : (r : Option (Bor A)) → option_copied r ≡ option_map (λ x. x.now) r
    copied_is None = refl
    copied_is (Some x) = refl

flatten_is : {A : Type 0} (o : Option (Option A)) → option_flatten o ≡ unwrap_or o None
flatten_is None = refl
flatten_is (Some o) = refl

-- what is got at a shard is its crown, if there is one
pub crown_got : {k now : PoolModel} (s : ℕ) (r : Option (Bor (Option (Lead × Option ℕ)))) → k ≡ now → IsItemAt k.crowns s r → option_flatten (option_copied r) ≡ (pool_hold now).crowns s
unfolding pool_hold
crown_got {k} {now} s r e item = flatten_is (option_copied r) ∙ entry_got None k.crowns s r item ∙ ap (λ (n : PoolModel). (pool_hold n).crowns s) e

-- what is got at a server is its room, 0 beyond the list
pub room_got : {k now : PoolModel} (v : ℕ) (r : Option (Bor ℕ)) → k ≡ now → IsItemAt k.room v r → unwrap_or (option_copied r) 0 ≡ (pool_hold now).room v
unfolding pool_hold
room_got {k} {now} v r e item = entry_got 0 k.room v r item ∙ ap (λ (n : PoolModel). (pool_hold n).room v) e

-- what is got at a shard is its spare replicas, 0 beyond the list
pub spare_got : {k now : PoolModel} (s : ℕ) (r : Option (Bor ℕ)) → k ≡ now → IsItemAt k.spare s r → unwrap_or (option_copied r) 0 ≡ (pool_hold now).spare s
unfolding pool_hold
spare_got {k} {now} s r e item = entry_got 0 k.spare s r item ∙ ap (λ (n : PoolModel). (pool_hold n).spare s) e

-- no right is of a pair that isn't known
pub cell_unknown : (shards servers : ℕ) (h : Hold) (s v : ℕ) → IsKnownHold shards servers h → (s < shards → servers ≤ v) → h.cells s v ≡ None
cell_unknown shards servers h s v is out = elim (cases_lt s shards) [
  | inl l ↦ is.no_server s v (out l)
  | inr l ↦ is.no_shard s v l
]

-- ---- one entry written. `now` is the pool as its callers see it, `slot` the entry's slot in the list

-- a write at the slot of a shard and a server changes the right to that cell alone
pub cell_put : {k now : PoolModel} (s v slot : ℕ) (o : Option PlainCell) → IsStocked k → k ≡ now → s < now.shards → v < now.servers → slot ≡ s * now.servers + v →
    pool_hold (record k { cells = set k.cells slot o }) ≡ with_cell (pool_hold now) s v o
unfolding pool_hold
cell_put {k} {now} s v slot o h e = subst (λ (n : PoolModel). s < n.shards → v < n.servers → slot ≡ s * n.servers + v → pool_hold (record k { cells = set k.cells slot o }) ≡ with_cell (pool_hold n) s v o) e
    (λ l m d. ap (λ (f : ℕ → ℕ → Option PlainCell). record (pool_hold k) { cells = f })
    (ap (λ (i : ℕ). grid_of k.servers None (set k.cells i o)) d ∙ grid_of-set k.servers None k.cells s v o m (place_within k.cells k.servers k.shards s v h.cells l m)))

-- a write at a shard changes its crown alone
pub crown_put : {k now : PoolModel} (s slot : ℕ) (o : Option (Lead × Option ℕ)) → k ≡ now → slot ≡ s → slot < length k.crowns →
    pool_hold (record k { crowns = set k.crowns slot o }) ≡ record (pool_hold now) { crowns = put (pool_hold now).crowns s o }
unfolding pool_hold
crown_put {k} {now} s slot o e d l = subst (λ (n : PoolModel). pool_hold (record k { crowns = set k.crowns slot o }) ≡ record (pool_hold n) { crowns = put (pool_hold n).crowns s o }) e
    (ap (λ (f : ℕ → Option (Lead × Option ℕ)). record (pool_hold k) { crowns = f })
    (entries_of-set None k.crowns slot o l ∙ ap (λ (i : ℕ). put (entries_of None k.crowns) i o) d))

-- a write at a server changes its room alone
pub room_put : {k now : PoolModel} (n v slot x y : ℕ) → k ≡ now → n ≡ k.servers → slot ≡ v → slot < length k.room → x ≡ y →
    pool_hold (record k { servers = n; room = set k.room slot x }) ≡ record (pool_hold now) { room = put (pool_hold now).room v y }
unfolding pool_hold
room_put {k} {now} n v slot x y e m d l f = subst (λ (w : PoolModel). pool_hold (record k { servers = n; room = set k.room slot x }) ≡ record (pool_hold w) { room = put (pool_hold w).room v y }) e
    (ap (λ (i : ℕ). record (pool_hold k) { cells = grid_of i None k.cells; room = entries_of 0 (set k.room slot x) }) m
    ∙ ap (λ (g : ℕ → ℕ). record (pool_hold k) { room = g })
    (entries_of-set 0 k.room slot x l ∙ ap (λ (i : ℕ). put (entries_of 0 k.room) i x) d ∙ ap (λ (z : ℕ). put (entries_of 0 k.room) v z) f))

-- a write at a shard changes its spare replicas alone
pub spare_put : {k now : PoolModel} (n s slot x y : ℕ) → k ≡ now → slot ≡ s → slot < length k.spare → x ≡ y →
    pool_hold (record k { shards = n; spare = set k.spare slot x }) ≡ record (pool_hold now) { spare = put (pool_hold now).spare s y }
unfolding pool_hold
spare_put {k} {now} n s slot x y e d l f = subst (λ (w : PoolModel). pool_hold (record k { shards = n; spare = set k.spare slot x }) ≡ record (pool_hold w) { spare = put (pool_hold w).spare s y }) e
    (ap (λ (g : ℕ → ℕ). record (pool_hold k) { spare = g })
    (entries_of-set 0 k.spare slot x l ∙ ap (λ (i : ℕ). put (entries_of 0 k.spare) i x) d ∙ ap (λ (z : ℕ). put (entries_of 0 k.spare) s z) f))

-- ---- what isn't there is taken out

-- a hold without the right to a cell stays as it is when that is taken out
pub no_cell : (h : Hold) (s v : ℕ) → h.cells s v ≡ None → h ≡ with_cell h s v None
no_cell h s v e = ap (λ (f : ℕ → ℕ → Option PlainCell). record h { cells = f }) (sym (put2-same h.cells s v None e))

-- a hold without a crown stays as it is when that is taken out
pub no_crown : (h : Hold) (s : ℕ) → h.crowns s ≡ None → h ≡ without_crown h s
no_crown h s e = ap (λ (f : ℕ → Option (Lead × Option ℕ)). record h { crowns = f }) (sym (put-same h.crowns s None e))

-- a hold without room of a server stays as it is when it pays some
pub no_room : (h : Hold) (v n : ℕ) → h.room v ≡ 0 → h ≡ pay_room h v n
no_room h v n e = ap (λ (f : ℕ → ℕ). record h { room = f }) (sym (put-same h.room v (h.room v - n) (omega arith)))

-- a hold without spare replicas of a shard stays as it is when it pays some
pub no_spare : (h : Hold) (s n : ℕ) → h.spare s ≡ 0 → h ≡ pay_spare h s n
no_spare h s n e = ap (λ (f : ℕ → ℕ). record h { spare = f }) (sym (put-same h.spare s (h.spare s - n) (omega arith)))

-- ---- a pool with nothing in it

-- a pool whose entries are all empty has no rights
pub hold-empty : (a b shards servers n : ℕ) →
    pool_hold (record { shards = a; servers = b; cells = replicate n None; crowns = replicate shards None; room = replicate servers 0; spare = replicate shards 0 }) ≡ no_hold
unfolding pool_hold
hold-empty a b shards servers n =
    ap (λ (f : ℕ → ℕ → Option PlainCell). record { cells = f; crowns = entries_of None (replicate shards None); room = entries_of 0 (replicate servers 0); spare = entries_of 0 (replicate shards 0) }) (grid_of-empty b None n)
    ∙ ap (λ (f : ℕ → Option (Lead × Option ℕ)). record no_hold { crowns = f; room = entries_of 0 (replicate servers 0); spare = entries_of 0 (replicate shards 0) }) (entries_of-empty None shards)
    ∙ ap (λ (f : ℕ → ℕ). record no_hold { room = f; spare = entries_of 0 (replicate shards 0) }) (entries_of-empty 0 servers)
    ∙ ap (λ (f : ℕ → ℕ). record no_hold { spare = f }) (entries_of-empty 0 shards)
