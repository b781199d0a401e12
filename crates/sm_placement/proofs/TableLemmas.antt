-- A table's totals: that they fit, where nothing stands anywhere, and after a write.
use Rattle.std.proofs.Common.{◌≡◌, ◌≢◌, ℕ, ◌+◌, ◌-◌, ◌*◌, ◌^◌, ◌<◌, ◌≤◌, Bool, false, List, length, set, get_or, replicate, refl, sym, ap, subst, ◌∙◌, arith, inl, inr}
use Rattle.std.proofs.lemmas.Bool.{cases_eq}
use Rattle.std.proofs.lemmas.List.{length-replicate, length-set}
use Rattle.std.proofs.lemmas.Nat.{row_fits}
use Rattle.sm_server.specs.declared.call.Cell.{Cell}
use Rattle.sm_server.specs.declared.call.Cell.TheVariants.{Absent}
use Rattle.sm_placement.specs.declared.row.Counts.{Counts}
use Rattle.sm_placement.specs.Counts.{counts_in}
use Rattle.sm_placement.specs.Replicas.{ReplicasModel, replicas_by}
use Rattle.sm_placement.specs.Sums.{put, put2, count_below}
use Rattle.sm_placement.specs.Setup.{Setup, Sizes, IsSetup, sizes_of}
use Rattle.sm_placement.specs.Rows.{live_in, serving_in, serves, is_live, IsKnownCell}
use Rattle.sm_placement.specs.Place.{weight, load_of}
use Rattle.sm_placement.specs.Layout.{grid_of, entries_of}
use Rattle.sm_placement.specs.Grid.{TableModel, Totals, IsCounted, IsGrid, cells_of, lasts_of, down_of}
use Rattle.sm_placement.specs.declared.limits.TheConstants.{MOST_LOAD, MOST_SERVERS, MOST_SHARDS}
use Rattle.sm_placement.proofs.Sums.{put-here, put-apart, put2-here, put2-row, put2-apart, count-le, sum-le, sum_zero}
use Rattle.sm_placement.proofs.Calls.{load_of-put, load_of-apart, weight_within}
use Rattle.sm_placement.proofs.SizesLemmas.{load_small}
use Rattle.sm_placement.proofs.ReplicaLemmas.{AreSet, held-set}
use Rattle.sm_placement.proofs.GridLemmas.{grid_of-within, entries_of-is, grid_of-beside, grid_of-below, grid_of-empty, grid_of-set, place_within, entries_of-past, entries_of-set, entries_of-empty, entries_of-read}

-- no server has a load of 2 ^ 45
pub load-small : (setup : Setup) (cells : ℕ → ℕ → Cell) (v : ℕ) → IsSetup setup → load_of (sizes_of setup) cells v < 2 ^ 45
load-small setup cells v h =
    let c = sizes_of setup in
    let a : load_of c cells v ≤ length setup.shards * 2 ^ 32 = sum-le (length setup.shards) (2 ^ 32) (λ s. weight (cells s v) (c.load s))
    (λ s l. let p : c.load s ≤ MOST_LOAD = load_small setup s h in let q : weight (cells s v) (c.load s) ≤ c.load s = weight_within (cells s v) (c.load s) in omega arith) in
    let b : length setup.shards ≤ MOST_SHARDS = h.shards in
    omega arith

-- of the servers of a configuration at most 1,024 pass a test
pub down-small : (setup : Setup) (down : ℕ → Bool) → IsSetup setup → count_below (length setup.servers) down ≤ MOST_SERVERS
down-small setup down h =
    let a : count_below (length setup.servers) down ≤ length setup.servers = count-le (length setup.servers) down in
    let b : length setup.servers ≤ MOST_SERVERS = h.servers in
    omega arith

-- a shard of a configuration has at most 1,024 live replicas
pub live-small : (setup : Setup) (row : ℕ → Cell) (down : ℕ → Bool) → IsSetup setup → live_in (length setup.servers) row down ≤ MOST_SERVERS
live-small setup row down h = down-small setup (is_live row down) h

pub serving-small : (setup : Setup) (row : ℕ → Cell) → IsSetup setup → serving_in (length setup.servers) row ≤ MOST_SERVERS
serving-small setup row h = down-small setup (serves row) h

-- what callers know of each table
pub IsGrid-from_counted : (g : TableModel) (t : Totals) → IsCounted g t → IsGrid g
IsGrid-from_counted g t h = record {
  no_server = λ s v l. grid_of-beside (length g.setup.servers) Absent g.cells s v l;
  no_shard = λ s v l. grid_of-below (length g.setup.servers) (length g.setup.shards) Absent g.cells s v h.cells_length l;
  known = h.known;
  up = λ v l. entries_of-past false g.down v (omega (arith, h.down_length));
}

-- the lists of a table with nothing in each cell
abbrev pub empty_grid : Setup → TableModel
empty_grid setup = record {
  setup = setup;
  cells = replicate (length setup.shards * length setup.servers) Absent;
  lasts = replicate (length setup.shards * length setup.servers) 0;
  down = replicate (length setup.servers) false;
}

abbrev pub empty_totals : Setup → Totals
empty_totals setup = record {
  loads = replicate (length setup.servers) 0;
  lives = replicate (length setup.shards) 0;
  servings = replicate (length setup.shards) 0;
  replicas = record { held = replicate (length setup.servers * length setup.shards) false; shards = length setup.shards };
  down = 0;
}

-- in the empty table each cell is absent
pub cells_of-empty : (setup : Setup) → cells_of (empty_grid setup) ≡ (λ s v. Absent)
cells_of-empty setup = grid_of-empty (length setup.servers) Absent (length setup.shards * length setup.servers)

-- in the empty table each last number is 0
pub lasts_of-empty : (setup : Setup) → lasts_of (empty_grid setup) ≡ (λ s v. 0)
lasts_of-empty setup = grid_of-empty (length setup.servers) 0 (length setup.shards * length setup.servers)

-- in the empty table each server is up
pub down_of-empty : (setup : Setup) → down_of (empty_grid setup) ≡ (λ v. false)
down_of-empty setup = entries_of-empty false (length setup.servers)

-- totals of 0 are those of the empty table
pub IsCounted-empty : (setup : Setup) → IsSetup setup → IsCounted (empty_grid setup) (empty_totals setup)
IsCounted-empty setup h = record {
  setup = h;
  cells_length = length-replicate (length setup.shards * length setup.servers) Absent;
  lasts_length = length-replicate (length setup.shards * length setup.servers) 0;
  down_length = length-replicate (length setup.servers) false;
  loads_length = length-replicate (length setup.servers) 0;
  lives_length = length-replicate (length setup.shards) 0;
  servings_length = length-replicate (length setup.shards) 0;
  replicas_length = length-replicate (length setup.servers * length setup.shards) false;
  replicas_shards = refl;
  known = λ s v. rw (cells_of-empty setup) tt;
  loads = λ v l. rw (cells_of-empty setup, entries_of-empty {A = ℕ} 0 (length setup.servers)) (sym (sum_zero (length setup.shards) (λ s. 0) (λ s. refl)));
  lives = λ s l. rw (cells_of-empty setup, down_of-empty setup, entries_of-empty {A = ℕ} 0 (length setup.shards)) (sym (sum_zero (length setup.servers) (λ v. 0) (λ v. refl)));
  servings = λ s l. rw (cells_of-empty setup, entries_of-empty {A = ℕ} 0 (length setup.shards)) (sym (sum_zero (length setup.servers) (λ v. 0) (λ v. refl)));
  replicas = rw (cells_of-empty setup) (grid_of-empty (length setup.shards) false (length setup.servers * length setup.shards));
  down = rw (down_of-empty setup) (sym (sum_zero (length setup.servers) (λ v. 0) (λ v. refl)));
}

-- A reader finds in the lists what the table says. `now` is the table as its callers see it.
pub cells_of-read : {g now : TableModel} {t : Totals} (s v : ℕ) (x : Cell) → IsCounted g t → g ≡ now → s < length now.setup.shards → v < length now.setup.servers →
    x ≡ entries_of Absent g.cells (s * length now.setup.servers + v) → x ≡ cells_of now s v
cells_of-read {g} {now} {t} s v x h e = subst (λ (n : TableModel). s < length n.setup.shards → v < length n.setup.servers → x ≡ entries_of Absent g.cells (s * length n.setup.servers + v) → x ≡ cells_of n s v) e
    (λ l m r. r ∙ entries_of-is Absent g.cells (s * length g.setup.servers + v) ∙ sym (grid_of-within (length g.setup.servers) Absent g.cells s v m))

-- what is read in a pair's slot is the pair's last number
pub lasts_of-read : {g now : TableModel} {t : Totals} (s v x : ℕ) → IsCounted g t → g ≡ now → s < length now.setup.shards → v < length now.setup.servers →
    x ≡ entries_of 0 g.lasts (s * length now.setup.servers + v) → x ≡ lasts_of now s v
lasts_of-read {g} {now} {t} s v x h e = subst (λ (n : TableModel). s < length n.setup.shards → v < length n.setup.servers → x ≡ entries_of 0 g.lasts (s * length n.setup.servers + v) → x ≡ lasts_of n s v) e
    (λ l m r. r ∙ entries_of-is 0 g.lasts (s * length g.setup.servers + v) ∙ sym (grid_of-within (length g.setup.servers) 0 g.lasts s v m))

-- what is read at a server's number is whether the server is down
pub down_of-read : {g now : TableModel} {t : Totals} (v : ℕ) (x : Bool) → IsCounted g t → g ≡ now → v < length now.setup.servers → x ≡ get_or g.down v x → x ≡ down_of now v
down_of-read {g} {now} {t} v x h e = subst (λ (n : TableModel). v < length n.setup.servers → x ≡ get_or g.down v x → x ≡ down_of n v) e
    (λ l r. entries_of-read false g.down v (length g.setup.servers) x h.down_length l r)

-- the total that is read at a server's number is its load
pub load_of-read : {g now : TableModel} {t : Totals} (v x : ℕ) → IsCounted g t → g ≡ now → v < length now.setup.servers → x ≡ get_or t.loads v x → x ≡ load_of (sizes_of now.setup) (cells_of now) v
load_of-read {g} {now} {t} v x h e = subst (λ (n : TableModel). v < length n.setup.servers → x ≡ get_or t.loads v x → x ≡ load_of (sizes_of n.setup) (cells_of n) v) e
    (λ l r. entries_of-read 0 t.loads v (length g.setup.servers) x h.loads_length l r ∙ h.loads v l)

-- the row of a shard
pub row_of-read : {g now : TableModel} {t : Totals} (s k w : ℕ) (xs : List Cell) → IsCounted g t → g ≡ now → k ≡ s → w ≡ length g.down → xs ≡ g.cells →
    grid_of w Absent xs k ≡ cells_of now s
row_of-read {g} {now} {t} s k w xs h e d f b = rw (d, f ∙ h.down_length, b) (ap (λ (n : TableModel). cells_of n s) e)

-- a shard's row lies within the list
pub row_within : {g now : TableModel} {t : Totals} (s k w : ℕ) → IsCounted g t → g ≡ now → s < length now.setup.shards → k ≡ s → w ≡ length g.down → k * w + w ≤ length g.cells
row_within {g} {now} {t} s k w h e l d f =
    let m : s < length g.setup.shards = omega (arith, ap (λ (n : TableModel). length n.setup.shards) e) in
    let r : s * w + w ≤ length g.setup.shards * length g.setup.servers = row_fits s w (length g.setup.shards) (length g.setup.servers) m (omega (arith, h.down_length)) in
    rw (d, h.cells_length) r

-- the total that is read at a shard's number is how many of its replicas are live
pub live_in-read : {g now : TableModel} {t : Totals} (s x : ℕ) → IsCounted g t → g ≡ now → s < length now.setup.shards → x ≡ get_or t.lives s x → x ≡ live_in (length now.setup.servers) (cells_of now s) (down_of now)
live_in-read {g} {now} {t} s x h e = subst (λ (n : TableModel). s < length n.setup.shards → x ≡ get_or t.lives s x → x ≡ live_in (length n.setup.servers) (cells_of n s) (down_of n)) e
    (λ l r. entries_of-read 0 t.lives s (length g.setup.shards) x h.lives_length l r ∙ h.lives s l)

-- the total that is read at a shard's number is how many servers serve it
pub serving_in-read : {g now : TableModel} {t : Totals} (s x : ℕ) → IsCounted g t → g ≡ now → s < length now.setup.shards → x ≡ get_or t.servings s x → x ≡ serving_in (length now.setup.servers) (cells_of now s)
serving_in-read {g} {now} {t} s x h e = subst (λ (n : TableModel). s < length n.setup.shards → x ≡ get_or t.servings s x → x ≡ serving_in (length n.setup.servers) (cells_of n s)) e
    (λ l r. entries_of-read 0 t.servings s (length g.setup.shards) x h.servings_length l r ∙ h.servings s l)

-- a counted table has nothing beyond its servers and shards, and each server that its cells name is known
pub IsGrid-read : {g now : TableModel} {t : Totals} → IsCounted g t → g ≡ now → IsGrid now
IsGrid-read {g} {now} {t} h e = subst (λ (n : TableModel). IsGrid n) e (IsGrid-from_counted g t h)

-- a counted table is of a configuration
pub IsSetup-read : {g now : TableModel} {t : Totals} → IsCounted g t → g ≡ now → IsSetup now.setup
IsSetup-read {g} {now} {t} h e = subst (λ (n : TableModel). IsSetup n.setup) e h.setup

-- a table with the same parts is the same, with the same totals
pub same_table : {setup others : Setup} {cells more : List Cell} {lasts numbers : List ℕ} {down states : List Bool} → setup ≡ others → cells ≡ more → lasts ≡ numbers → down ≡ states →
    ◌≡◌ {A = TableModel} (record { setup = setup; cells = cells; lasts = lasts; down = down }) (record { setup = others; cells = more; lasts = numbers; down = states })
same_table a b d e = rw (a, b, d, e) refl

-- totals of the same lists are the same
pub same_totals : {loads a lives b servings d : List ℕ} {replicas r : ReplicasModel} (down : ℕ) → loads ≡ a → lives ≡ b → servings ≡ d → replicas ≡ r →
    ◌≡◌ {A = Totals} (record { loads = loads; lives = lives; servings = servings; replicas = replicas; down = down }) (record { loads = a; lives = b; servings = d; replicas = r; down = down })
same_totals down e f k l = rw (e, f, k, l) refl

-- a table that is the same as a counted one is counted by the same totals
pub IsCounted-same : {g h : TableModel} {t u : Totals} → IsCounted g t → h ≡ g → u ≡ t → IsCounted h u
IsCounted-same is e f = rw (e, f) is

-- other last numbers leave the totals as they are
pub IsCounted-with_lasts : {g : TableModel} {t : Totals} (lasts : List ℕ) → IsCounted g t → length lasts ≡ length g.lasts → IsCounted (record g { lasts = lasts }) t
IsCounted-with_lasts {g} {t} lasts h e = record {
  setup = h.setup;
  cells_length = h.cells_length;
  lasts_length = e ∙ h.lasts_length;
  down_length = h.down_length;
  loads_length = h.loads_length;
  lives_length = h.lives_length;
  servings_length = h.servings_length;
  replicas_length = h.replicas_length;
  replicas_shards = h.replicas_shards;
  known = h.known;
  loads = h.loads;
  lives = h.lives;
  servings = h.servings;
  replicas = h.replicas;
  down = h.down;
}

-- a write to a list is the write to the table. `old` is the table as its callers saw it
pub lasts_of-set : {g old : TableModel} {t : Totals} (s v x : ℕ) → IsCounted g t → g ≡ old → s < length old.setup.shards → v < length old.setup.servers →
    lasts_of (record g { lasts = set g.lasts (s * length old.setup.servers + v) x }) ≡ put2 (lasts_of old) s v x
lasts_of-set {g} {old} {t} s v x h e = subst (λ (n : TableModel). s < length n.setup.shards → v < length n.setup.servers → lasts_of (record g { lasts = set g.lasts (s * length n.setup.servers + v) x }) ≡ put2 (lasts_of n) s v x) e
    (λ l m. grid_of-set (length g.setup.servers) 0 g.lasts s v x m (place_within g.lasts (length g.setup.servers) (length g.setup.shards) s v h.lasts_length l m))

-- ---- one cell changed ----

-- a property of each cell
known-put : (n : ℕ) (cells : ℕ → ℕ → Cell) (s v : ℕ) (next : Cell) → ((r u : ℕ) → IsKnownCell n (cells r u)) → IsKnownCell n next → (r u : ℕ) → IsKnownCell n (put2 cells s v next r u)
known-put n cells s v next h k r u = elim (cases_eq r s) [
  | inl e ↦ elim (cases_eq u v) [
    | inl d ↦ rw (e, d, put2-here cells s v next) k
    | inr d ↦ rw (e, put2-row cells s v next u d) (h s u)
  ]
  | inr e ↦ rw (put2-apart cells s v next r u e) (h r u)
]

-- a list of totals, where one total and what it stands for change
total-set : (xs : List ℕ) (f g : ℕ → ℕ) (n k x : ℕ) → length xs ≡ n → k < n → ((j : ℕ) → j < n → entries_of 0 xs j ≡ f j) → ((j : ℕ) → j ≢ k → g j ≡ f j) → x ≡ g k →
    (j : ℕ) → j < n → entries_of 0 (set xs k x) j ≡ g j
total-set xs f g n k x e l h others here j m = ap (λ (q : ℕ → ℕ). q j) (entries_of-set 0 xs k x (omega arith)) ∙ elim (cases_eq j k) [
  | inl d ↦ put-here (entries_of 0 xs) k x j d ∙ here ∙ ap g (sym d)
  | inr d ↦ put-apart (entries_of 0 xs) k x j d ∙ h j m ∙ sym (others j d)
]

-- a table whose totals are corrected with the cell
pub IsCounted-set : {g : TableModel} {t : Totals} (s v : ℕ) (next : Cell) (load : ℕ) (counts : Counts) (replicas : ReplicasModel) → IsCounted g t → s < length g.setup.shards → v < length g.setup.servers →
    IsKnownCell (length g.setup.servers) next →
    load ≡ load_of (sizes_of g.setup) (put2 (cells_of g) s v next) v →
    counts ≡ counts_in (length g.setup.servers) (put (cells_of g s) v next) (down_of g) →
    AreSet g t s v next replicas →
    IsCounted (record g { cells = set g.cells (s * length g.setup.servers + v) next })
    (record { loads = set t.loads v load; lives = set t.lives s counts.live; servings = set t.servings s counts.serving; replicas = replicas; down = t.down })
IsCounted-set {g} {t} s v next load counts replicas h l m known by_load by_counts are_set = record {
  setup = h.setup;
  cells_length = length-set g.cells (s * n + v) next ∙ h.cells_length;
  lasts_length = h.lasts_length;
  down_length = h.down_length;
  loads_length = length-set t.loads v load ∙ h.loads_length;
  lives_length = length-set t.lives s counts.live ∙ h.lives_length;
  servings_length = length-set t.servings s counts.serving ∙ h.servings_length;
  replicas_length = are_set.same_length ∙ h.replicas_length;
  replicas_shards = are_set.same_shards ∙ h.replicas_shards;
  known = λ r u. rw written (known-put n (cells_of g) s v next h.known known r u);
  loads = λ u k. rw written (total-set t.loads (λ j. load_of c (cells_of g) j) (λ j. load_of c cells j) n v load h.loads_length m h.loads (λ j d. load_of-apart c (cells_of g) s v next j d) by_load u k);
  lives = λ r k. rw written (total-set t.lives (λ j. live_in n (cells_of g j) (down_of g)) (λ j. live_in n (cells j) (down_of g)) (length g.setup.shards) s counts.live h.lives_length l h.lives
      (λ j d. ap (λ (f : ℕ → Cell). live_in n f (down_of g)) (other j d)) (ap (λ (q : Counts). q.live) by_counts ∙ ap (λ (f : ℕ → Cell). live_in n f (down_of g)) (sym own)) r k);
  servings = λ r k. rw written (total-set t.servings (λ j. serving_in n (cells_of g j)) (λ j. serving_in n (cells j)) (length g.setup.shards) s counts.serving h.servings_length l h.servings
      (λ j d. ap (λ (f : ℕ → Cell). serving_in n f) (other j d)) (ap (λ (q : Counts). q.serving) by_counts ∙ ap (λ (f : ℕ → Cell). serving_in n f) (sym own)) r k);
  replicas = rw written (held-set (replicas_by t.replicas) (replicas_by replicas) (cells_of g) s v next h.replicas are_set.held);
  down = h.down;
}
  where
    n : ℕ
    n = length g.setup.servers

    c : Sizes
    c = sizes_of g.setup

    cells : ℕ → ℕ → Cell
    cells = put2 (cells_of g) s v next

    written : grid_of (length g.setup.servers) Absent (set g.cells (s * length g.setup.servers + v) next) ≡ put2 (cells_of g) s v next
    written = grid_of-set (length g.setup.servers) Absent g.cells s v next m (place_within g.cells (length g.setup.servers) (length g.setup.shards) s v h.cells_length l m)

    own : put2 (cells_of g) s v next s ≡ put (cells_of g s) v next
    own = put-here (cells_of g) s (put (cells_of g s) v next) s refl

    other : (j : ℕ) → j ≢ s → put2 (cells_of g) s v next j ≡ cells_of g j
    other j d = put-apart (cells_of g) s (put (cells_of g s) v next) j d

-- ---- what the code reads and writes for it, over the lists of the table ----

-- the totals of a shard are the counts of its row
pub counts_in-read : {g : TableModel} {t : Totals} (s live serving : ℕ) (down : List Bool) → IsCounted g t → s < length g.setup.shards → down ≡ g.down →
    live ≡ get_or t.lives s live → serving ≡ get_or t.servings s serving →
    ◌≡◌ {A = Counts} (record { live = live; serving = serving }) (counts_in (length down) (grid_of (length down) Absent g.cells s) (entries_of false down))
counts_in-read {g} {t} s live serving down h l de a b =
    let n : ℕ = length g.setup.servers in
    let x : live ≡ live_in n (cells_of g s) (down_of g) = entries_of-read 0 t.lives s (length g.setup.shards) live h.lives_length l a ∙ h.lives s l in
    let y : serving ≡ serving_in n (cells_of g s) = entries_of-read 0 t.servings s (length g.setup.shards) serving h.servings_length l b ∙ h.servings s l in
    rw (x, y, de, h.down_length) refl

-- the list and the counts after a cell is set in its row
pub row_set-is : {g : TableModel} {t : Totals} (s v : ℕ) (next : Cell) (counts : Counts) (now : List Cell) (down : List Bool) → IsCounted g t → down ≡ g.down →
    now ≡ set g.cells (s * length down + v) next → counts ≡ counts_in (length down) (put (grid_of (length down) Absent g.cells s) v next) (entries_of false down) →
    (now ≡ set g.cells (s * length g.setup.servers + v) next) × (counts ≡ counts_in (length g.setup.servers) (put (cells_of g s) v next) (down_of g))
row_set-is {g} {t} s v next counts now down h de a b =
    let l : length down ≡ length g.setup.servers = ap length de ∙ h.down_length in
    let P : ℕ → List Bool → Type 0 = λ (n : ℕ) (ds : List Bool). (now ≡ set g.cells (s * n + v) next) × (counts ≡ counts_in n (put (grid_of n Absent g.cells s) v next) (entries_of false ds)) in
    subst (λ (ds : List Bool). P (length g.setup.servers) ds) de (subst (λ (n : ℕ). P n down) l (a, b))

-- the load of the cell's server, corrected
pub record IsCorrected (load added removed after : ℕ) : Type 0 where
  pub fits : load + added < 2 ^ 64
  pub enough : removed ≤ load + added
  pub is : load + added - removed ≡ after

-- the load of a server once a cell of it is changed: the new cell's weight comes to it, the old one's goes
pub load_of-corrected : {g : TableModel} {t : Totals} (s v : ℕ) (next : Cell) (load added removed : ℕ) → IsCounted g t → s < length g.setup.shards → v < length g.setup.servers →
    load ≡ get_or t.loads v load → added ≡ weight next ((sizes_of g.setup).load s) → removed ≡ weight (cells_of g s v) ((sizes_of g.setup).load s) →
    IsCorrected load added removed (load_of (sizes_of g.setup) (put2 (cells_of g) s v next) v)
load_of-corrected {g} {t} s v next load added removed h l m a b d =
    let c : Sizes = sizes_of g.setup in
    let x : load ≡ load_of c (cells_of g) v = entries_of-read 0 t.loads v (length g.setup.servers) load h.loads_length m a ∙ h.loads v m in
    let e : load_of c (put2 (cells_of g) s v next) v + weight (cells_of g s v) (c.load s) ≡ load_of c (cells_of g) v + weight next (c.load s) = load_of-put c (cells_of g) s v next l in
    let p : load_of c (cells_of g) v < 2 ^ 45 = load-small g.setup (cells_of g) v h.setup in
    let q : weight next (c.load s) ≤ c.load s = weight_within next (c.load s) in
    let r : c.load s ≤ MOST_LOAD = load_small g.setup s h.setup in
    record { fits = omega arith; enough = omega arith; is = omega arith }

-- a write in a pair's slot changes the cell of that pair alone
pub cells_of-set : {g old : TableModel} {t : Totals} (s v : ℕ) (next : Cell) → IsCounted g t → g ≡ old → s < length old.setup.shards → v < length old.setup.servers →
    grid_of (length g.setup.servers) Absent (set g.cells (s * length g.setup.servers + v) next) ≡ put2 (cells_of old) s v next
cells_of-set {g} {old} {t} s v next h e = subst (λ (n : TableModel). s < length n.setup.shards → v < length n.setup.servers → grid_of (length g.setup.servers) Absent (set g.cells (s * length g.setup.servers + v) next) ≡ put2 (cells_of n) s v next) e
    (λ l m. grid_of-set (length g.setup.servers) Absent g.cells s v next m (place_within g.cells (length g.setup.servers) (length g.setup.shards) s v h.cells_length l m))
