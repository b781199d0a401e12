-- A table's totals once a server comes up or goes down.
use Rattle.std.proofs.Common.{◌≡◌, ℕ, ◌+◌, ◌<◌, ◌≤◌, Bool, true, false, not, List, length, set, refl, sym, ap, subst, ◌∙◌, arith}
use Rattle.std.specs.Bool.{beq}
use Rattle.std.proofs.lemmas.Bool.{true≢false}
use Rattle.std.proofs.lemmas.List.{length-set}
use Rattle.sm_placement.specs.Counts.{has_replica, part_of, AreToggled, CanToggle}
use Rattle.sm_placement.specs.Replicas.{replicas_by}
use Rattle.sm_placement.specs.Sums.{put, bit, count_below}
use Rattle.sm_placement.specs.Rows.{live_in}
use Rattle.sm_placement.specs.Layout.{entries_of}
use Rattle.sm_placement.specs.Grid.{TableModel, Totals, IsCounted, cells_of, down_of}
use Rattle.sm_placement.specs.declared.limits.TheConstants.{MOST_SERVERS}
use Rattle.sm_placement.proofs.Sums.{put-here, put-apart, sum_apart}
use Rattle.sm_placement.proofs.GridLemmas.{entries_of-set}
use Rattle.sm_placement.proofs.RowLemmas.{live_in-toggle, part_within}
use Rattle.sm_placement.proofs.TableLemmas.{down-small, live-small}

count_below-toggle : (n : ℕ) (down : ℕ → Bool) (v : ℕ) (b : Bool) → v < n → down v ≡ not b → count_below n (put down v b) + bit (not b) ≡ count_below n down + bit b
count_below-toggle n down v b l e =
    sum_apart n (λ q. bit (put down v b q)) (λ q. bit (down q)) v (bit (not b)) (bit b) l (λ q d. ap bit (put-apart down v b q d))
    (let x : bit (put down v b v) ≡ bit b = ap bit (put-here down v b v refl) in let y : bit (down v) ≡ bit (not b) = ap bit e in omega arith)

-- a write at a server's number changes whether that server is down, and no other
pub down_of-set : {g old : TableModel} {t : Totals} (v : ℕ) (b : Bool) → IsCounted g t → g ≡ old → v < length old.setup.servers → down_of (record g { down = set g.down v b }) ≡ put (down_of old) v b
down_of-set {g} {old} {t} v b h e = subst (λ (n : TableModel). v < length n.setup.servers → down_of (record g { down = set g.down v b }) ≡ put (down_of n) v b) e
    (λ l. entries_of-set false g.down v b (omega (arith, h.down_length)))

-- two truth values that compare as equal are equal
pub same-from_beq : (a b : Bool) → beq a b ≡ true → a ≡ b
same-from_beq true true e = refl
same-from_beq true false e = absurd (true≢false (sym e))
same-from_beq false true e = absurd (true≢false (sym e))
same-from_beq false false e = refl

-- of two truth values that don't compare as equal the first is the other's negation
pub not-from_beq : (was b : Bool) → beq was b ≡ false → was ≡ not b
not-from_beq true true e = absurd (true≢false e)
not-from_beq true false e = refl
not-from_beq false true e = refl
not-from_beq false false e = absurd (true≢false e)

-- the count of the servers that are down, where a server's state turns
pub down-toggled : {g old : TableModel} {t : Totals} (v : ℕ) (b was : Bool) → IsCounted g t → g ≡ old → v < length old.setup.servers → was ≡ down_of old v → was ≡ not b →
    count_below (length g.setup.servers) (put (down_of g) v b) + bit (not b) ≡ t.down + bit b
down-toggled {g} {old} {t} v b was h e l r w =
    let m : v < length g.setup.servers = omega (arith, ap (λ (n : TableModel). length n.setup.servers) e) in
    let d : down_of g v ≡ not b = ap (λ (n : TableModel). down_of n v) e ∙ sym r ∙ w in
    let k : count_below (length g.setup.servers) (put (down_of g) v b) + bit (not b) ≡ count_below (length g.setup.servers) (down_of g) + bit b = count_below-toggle (length g.setup.servers) (down_of g) v b m d in
    k ∙ ap (λ (n : ℕ). n + bit b) (sym h.down)

-- in a counted table at most 1,024 servers are down
pub down_count-small : {g : TableModel} {t : Totals} → IsCounted g t → t.down ≤ MOST_SERVERS
down_count-small {g} {t} h = rw h.down (down-small g.setup (down_of g) h.setup)

-- a server's entries say what it adds to each count, before it goes down or comes up
pub CanToggle-counted : {g old : TableModel} {t : Totals} (v : ℕ) (b was : Bool) → IsCounted g t → g ≡ old → v < length old.setup.servers → was ≡ down_of old v → was ≡ not b →
    CanToggle t.lives b (replicas_by t.replicas v)
CanToggle-counted {g} {old} {t} v b was h e l r w = λ s k.
    let m : v < length g.setup.servers = omega (arith, ap (λ (n : TableModel). length n.setup.servers) e) in
    let d : down_of g v ≡ not b = ap (λ (n : TableModel). down_of n v) e ∙ sym r ∙ w in
    let live : entries_of 0 t.lives s ≡ live_in (length g.setup.servers) (cells_of g s) (down_of g) = h.lives s (omega (arith, h.lives_length)) in
    let has : replicas_by t.replicas v s ≡ has_replica (cells_of g s) v = ap (λ (f : ℕ → ℕ → Bool). f v s) h.replicas in
    rw (live, has) (part_within (length g.setup.servers) (cells_of g s) (down_of g) v (not b) m d, live-small g.setup (cells_of g s) (down_of g) h.setup)

-- the table with corrected counts
pub IsCounted-toggle : {g old : TableModel} {t : Totals} (v : ℕ) (b was : Bool) (lives : List ℕ) (count : ℕ) → IsCounted g t → g ≡ old → v < length old.setup.servers →
    was ≡ down_of old v → was ≡ not b → length lives ≡ length t.lives →
    AreToggled t.lives lives b (replicas_by t.replicas v) →
    count + bit (not b) ≡ t.down + bit b →
    IsCounted (record g { down = set g.down v b }) (record t { lives = lives; down = count })
IsCounted-toggle {g} {old} {t} v b was lives count h e l r w le are counted = record {
  setup = h.setup;
  cells_length = h.cells_length;
  lasts_length = h.lasts_length;
  down_length = length-set g.down v b ∙ h.down_length;
  loads_length = h.loads_length;
  lives_length = le ∙ h.lives_length;
  servings_length = h.servings_length;
  replicas_length = h.replicas_length;
  replicas_shards = h.replicas_shards;
  known = h.known;
  loads = h.loads;
  lives = λ s k. rw written (turned s k);
  servings = h.servings;
  replicas = h.replicas;
  down = rw written (let k : count_below (length g.setup.servers) (put (down_of g) v b) + bit (not b) ≡ t.down + bit b = down-toggled v b was h e l r w in omega arith);
}
  where
    m : v < length g.setup.servers
    m = omega (arith, ap (λ (n : TableModel). length n.setup.servers) e)

    d : down_of g v ≡ not b
    d = ap (λ (n : TableModel). down_of n v) e ∙ sym r ∙ w

    written : entries_of false (set g.down v b) ≡ put (down_of g) v b
    written = entries_of-set false g.down v b (omega (arith, h.down_length, m))

    turned : (s : ℕ) → s < length g.setup.shards → entries_of 0 lives s ≡ live_in (length g.setup.servers) (cells_of g s) (put (down_of g) v b)
    turned s k =
        let has : replicas_by t.replicas v s ≡ has_replica (cells_of g s) v = ap (λ (f : ℕ → ℕ → Bool). f v s) h.replicas in
        let now : entries_of 0 lives s + part_of (not b) (has_replica (cells_of g s) v) ≡ entries_of 0 t.lives s + part_of b (has_replica (cells_of g s) v) = rw (← has) (are s (omega (arith, h.lives_length))) in
        let was : entries_of 0 t.lives s ≡ live_in (length g.setup.servers) (cells_of g s) (down_of g) = h.lives s k in
        let moved : live_in (length g.setup.servers) (cells_of g s) (put (down_of g) v b) + part_of (not b) (has_replica (cells_of g s) v) ≡ live_in (length g.setup.servers) (cells_of g s) (down_of g) + part_of b (has_replica (cells_of g s) v) =
        live_in-toggle (length g.setup.servers) (cells_of g s) (down_of g) v b m d in
        omega arith
