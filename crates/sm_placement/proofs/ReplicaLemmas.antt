-- A table's entries tell which servers have replicas: how they are read, and how they change when one cell is set.
use Rattle.std.proofs.Common.{◌≡◌, ℕ, ◌+◌, ◌*◌, ◌<◌, ◌≤◌, Bool, List, length, refl, sym, ap, ◌∙◌, arith, inl, inr}
use Rattle.std.proofs.Math.Path.{fun_ext}
use Rattle.std.proofs.lemmas.Bool.{cases_eq}
use Rattle.std.proofs.lemmas.Nat.{row_fits}
use Rattle.sm_server.specs.declared.call.Cell.{Cell}
use Rattle.sm_server.specs.declared.call.Cell.TheVariants.{Absent}
use Rattle.sm_placement.specs.Counts.{has_replica}
use Rattle.sm_placement.specs.Replicas.{ReplicasModel, replicas_by}
use Rattle.sm_placement.specs.Sums.{put, put2}
use Rattle.sm_placement.specs.Layout.{grid_of}
use Rattle.sm_placement.specs.Grid.{TableModel, Totals, IsCounted, cells_of}
use Rattle.sm_placement.proofs.Sums.{put-here, put-apart}

-- the entry of a pair says whether the server has a replica of the shard
pub has_replica-read : {g now : TableModel} {t : Totals} (s v : ℕ) (x : Bool) → IsCounted g t → g ≡ now → x ≡ replicas_by t.replicas v s → x ≡ has_replica (cells_of now s) v
has_replica-read {g} {now} {t} s v x h e r = r ∙ ap (λ (f : ℕ → ℕ → Bool). f v s) h.replicas ∙ ap (λ (n : TableModel). has_replica (cells_of n s) v) e

-- the entries are those of the table's shards
pub replicas_shard : {g now : TableModel} {t : Totals} (s : ℕ) → IsCounted g t → g ≡ now → s < length now.setup.shards → s < t.replicas.shards
replicas_shard {g} {now} {t} s h e l = omega (arith, h.replicas_shards, ap (λ (n : TableModel). length n.setup.shards) e)

-- a server's entries are within the list
pub replicas_within : {g now : TableModel} {t : Totals} (v : ℕ) → IsCounted g t → g ≡ now → v < length now.setup.servers → v * t.replicas.shards + t.replicas.shards ≤ length t.replicas.held
replicas_within {g} {now} {t} v h e l =
    let m : v < length g.setup.servers = omega (arith, ap (λ (n : TableModel). length n.setup.servers) e) in
    rw (h.replicas_length, h.replicas_shards) (row_fits v (length g.setup.shards) (length g.setup.servers) (length g.setup.shards) m (omega arith))

-- ---- one cell changed ----

-- the entries after a cell is set: in the column of its shard they are those of the new row
pub record AreSet (g : TableModel) (t : Totals) (s v : ℕ) (next : Cell) (replicas : ReplicasModel) : Type 0 where
  pub held : replicas_by replicas ≡ (λ q. put (replicas_by t.replicas q) s (has_replica (put (cells_of g s) v next) q))
  pub same_length : length replicas.held ≡ length t.replicas.held
  pub same_shards : replicas.shards ≡ t.replicas.shards

-- then they say who has a replica
pub held-set : (held after : ℕ → ℕ → Bool) (cells : ℕ → ℕ → Cell) (s v : ℕ) (next : Cell) → held ≡ (λ q r. has_replica (cells r) q) → after ≡ (λ q. put (held q) s (has_replica (put (cells s) v next) q)) →
    after ≡ (λ q r. has_replica (put2 cells s v next r) q)
held-set held after cells s v next h a = a ∙ fun_ext (λ q. fun_ext (λ r. at q r))
  where
    at : (q r : ℕ) → put (held q) s (has_replica (put (cells s) v next) q) r ≡ has_replica (put2 cells s v next r) q
    at q r = elim (cases_eq r s) [
      | inl e ↦ put-here (held q) s (has_replica (put (cells s) v next) q) r e ∙ ap (λ (f : ℕ → Cell). has_replica f q) (sym (put-here cells s (put (cells s) v next) r e))
      | inr e ↦ put-apart (held q) s (has_replica (put (cells s) v next) q) r e ∙ ap (λ (f : ℕ → ℕ → Bool). f q r) h ∙ ap (λ (f : ℕ → Cell). has_replica f q) (sym (put-apart cells s (put (cells s) v next) r e))
    ]

-- ---- what the code reads and writes for it, over the lists of the table ----

-- the column of a shard says who has a replica by its row, as the code names the row
pub replicas_by-column : {g : TableModel} {t : Totals} (s : ℕ) (down : List Bool) → IsCounted g t → down ≡ g.down →
    (v : ℕ) → replicas_by t.replicas v s ≡ has_replica (grid_of (length down) Absent g.cells s) v
replicas_by-column {g} {t} s down h de v =
    ap (λ (f : ℕ → ℕ → Bool). f v s) h.replicas ∙ ap (λ (n : ℕ). has_replica (grid_of n Absent g.cells s) v) (sym (ap length de ∙ h.down_length))

-- there are as many entries as the code knows of
pub replicas_count : {g : TableModel} {t : Totals} (down : List Bool) → IsCounted g t → down ≡ g.down → length t.replicas.held ≡ length down * t.replicas.shards
replicas_count {g} {t} down h de = rw (h.replicas_length, h.replicas_shards, de, h.down_length) refl

-- the entries after a cell is set in its row
pub AreSet-is : {g : TableModel} {t : Totals} (s v : ℕ) (next : Cell) (replicas : ReplicasModel) (down : List Bool) → IsCounted g t → down ≡ g.down →
    replicas_by replicas ≡ (λ q. put (replicas_by t.replicas q) s (has_replica (put (grid_of (length down) Absent g.cells s) v next) q)) → length replicas.held ≡ length t.replicas.held → replicas.shards ≡ t.replicas.shards →
    AreSet g t s v next replicas
AreSet-is {g} {t} s v next replicas down h de a b c = record {
  held = a ∙ ap (λ (n : ℕ). λ (q : ℕ). put (replicas_by t.replicas q) s (has_replica (put (grid_of n Absent g.cells s) v next) q)) (ap length de ∙ h.down_length);
  same_length = b;
  same_shards = c;
}
