-- Cells, last numbers and bases of a fleet in which one server is another one.
use Rattle.std.proofs.Common.{◌≡◌, ◌≢◌, ℕ, refl, sym, ap, ◌∙◌, Bool, true, false}
use Rattle.std.specs.Prelude.{◌==◌, if◌then◌else◌}
use Rattle.std.proofs.Math.Path.{fun_ext}
use Rattle.std.proofs.lemmas.Bool.{eq-eqb, eqb-true}
use Rattle.sm_server.specs.declared.call.Cell.{Cell}
use Rattle.sm_server.specs.declared.call.Cell.TheVariants.{Absent}
use Rattle.sm_placement.specs.Sums.{put, put2}
use Rattle.sm_agent.specs.declared.base.Base.{Base as AgentBase}
use Rattle.sm_agent.specs.Base.{lacks_slots}
use Rattle.laws_network.specs.Fleet.{Entry, Fleet, Server as AgentServer}
use Rattle.laws_network.specs.FleetLaws.{real_cells}
use Rattle.laws_network.specs.FleetReopening.{base_seen, real_lasts}
use Rattle.laws_network.specs.Reopening.{Base, MapOwner, Party, Server, put_party}
use Rattle.laws_agent.specs.Cluster.{base_kept, with_server}

-- ---- tables

-- what stands at v is what was put there
pub put_here : {A : Type 0} (f : ℕ → A) (v : ℕ) (x : A) → put f v x v ≡ x
put_here f v x = ap (λ b. if b then x else f v) (eq-eqb v v refl)

-- a column that is as before changes nothing
pub same_column : {A : Type 0} (C : ℕ → ℕ → A) (v : ℕ) (D : ℕ → A) → ((s : ℕ) → D s ≡ C s v) → (λ s u. if u == v then D s else C s u) ≡ C
same_column C v D same = fun_ext (λ s. fun_ext (λ u. go s u (u == v) refl))
  where
    go : (s u : ℕ) (b : Bool) → (u == v) ≡ b → (if b then D s else C s u) ≡ C s u
    go s u true e = same s ∙ ap (C s) (sym (eqb-true u v e))
    go s u false e = refl

-- a column that differs at one place changes one cell
pub one_place : {A : Type 0} (C : ℕ → ℕ → A) (s v : ℕ) (x : A) (D : ℕ → A) → D s ≡ x → ((r : ℕ) → r ≢ s → D r ≡ C r v) → (λ r u. if u == v then D r else C r u) ≡ put2 C s v x
one_place C s v x D there others = fun_ext (λ r. fun_ext (λ u. go r u (r == s) refl (u == v) refl))
  where
    go : (r u : ℕ) (a : Bool) → (r == s) ≡ a → (b : Bool) → (u == v) ≡ b → (if b then D r else C r u) ≡ (if a then put (C s) v x else C r) u
    go r u true e true d = ap D (eqb-true r s e) ∙ there ∙ sym (ap (λ c. if c then x else C s u) d)
    go r u true e false d = ap (λ q. C q u) (eqb-true r s e) ∙ sym (ap (λ c. if c then x else C s u) d)
    go r u false e true d = others r (λ q. let z = eq-eqb r s q in cc) ∙ ap (C r) (sym (eqb-true u v d))
    go r u false e false d = refl

-- ---- servers

-- what a server has of a shard
abbrev pub cell_of : AgentServer → ℕ → Cell
cell_of y s = if lacks_slots y.base then Absent else (y.slots s).cell

-- the last number there
abbrev pub last_of : AgentServer → ℕ → ℕ
last_of y s = if lacks_slots y.base then 0 else (y.slots s).last

-- the bases of all parties
abbrev pub bases_seen : Fleet → Party → Base
bases_seen f p = base_seen (base_kept f p)

module _ (f : Fleet) (v : ℕ) (y : AgentServer) where
  -- the cells, with that server's column
  pub cells_column : real_cells (with_server f v y) ≡ (λ s u. if u == v then cell_of y s else real_cells f s u)
  cells_column = fun_ext (λ s. fun_ext (λ u. go s u (u == v)))
    where
      go : (s u : ℕ) (b : Bool) → cell_of (if b then y else f.servers u) s ≡ (if b then cell_of y s else cell_of (f.servers u) s)
      go s u true = refl
      go s u false = refl

  -- the last numbers
  pub lasts_column : real_lasts (with_server f v y) ≡ (λ s u. if u == v then last_of y s else real_lasts f s u)
  lasts_column = fun_ext (λ s. fun_ext (λ u. go s u (u == v)))
    where
      go : (s u : ℕ) (b : Bool) → last_of (if b then y else f.servers u) s ≡ (if b then last_of y s else last_of (f.servers u) s)
      go s u true = refl
      go s u false = refl

  -- the bases
  pub bases_column : bases_seen (with_server f v y) ≡ put_party (bases_seen f) (Server v) (base_seen y.base)
  bases_column = fun_ext by
    where
      go : (u : ℕ) (b : Bool) → base_seen (if b then y else f.servers u).base ≡ (if b then base_seen y.base else base_seen (f.servers u).base)
      go u true = refl
      go u false = refl

      by : (p : Party) → bases_seen (with_server f v y) p ≡ put_party (bases_seen f) (Server v) (base_seen y.base) p
      by (Server u) = go u (u == v)
      by MapOwner = refl

  -- a server that has the same cells
  pub same_cells : ((s : ℕ) → cell_of y s ≡ cell_of (f.servers v) s) → real_cells (with_server f v y) ≡ real_cells f
  same_cells same = cells_column ∙ same_column (real_cells f) v (cell_of y) same

  -- a server that has the same last numbers
  pub same_lasts : ((s : ℕ) → last_of y s ≡ last_of (f.servers v) s) → real_lasts (with_server f v y) ≡ real_lasts f
  same_lasts same = lasts_column ∙ same_column (real_lasts f) v (last_of y) same

  -- and the same base
  pub same_bases : base_seen y.base ≡ base_seen (f.servers v).base → bases_seen (with_server f v y) ≡ bases_seen f
  same_bases same = fun_ext by
    where
      go : (u : ℕ) (b : Bool) → (u == v) ≡ b → base_seen (if b then y else f.servers u).base ≡ base_seen (f.servers u).base
      go u true e = same ∙ ap (λ q. base_seen (f.servers q).base) (sym (eqb-true u v e))
      go u false e = refl

      by : (p : Party) → bases_seen (with_server f v y) p ≡ bases_seen f p
      by (Server u) = go u (u == v) refl
      by MapOwner = refl

-- the map's owner has another base
pub owner_column : (f : Fleet) (base : AgentBase) (shown : ℕ → Entry) → bases_seen (record f { owner = base; shown = shown }) ≡ put_party (bases_seen f) MapOwner (base_seen base)
owner_column f base shown = fun_ext by
  where
    by : (p : Party) → bases_seen (record f { owner = base; shown = shown }) p ≡ put_party (bases_seen f) MapOwner (base_seen base) p
    by (Server u) = refl
    by MapOwner = refl

-- what a party has already may be put there
pub put_same : (B : Party → Base) (p : Party) → put_party B p (B p) ≡ B
put_same B p = fun_ext (by p)
  where
    go : (v u : ℕ) (b : Bool) → (u == v) ≡ b → (if b then B (Server v) else B (Server u)) ≡ B (Server u)
    go v u true e = ap (λ q. B (Server q)) (sym (eqb-true u v e))
    go v u false e = refl

    by : (p q : Party) → put_party B p (B p) q ≡ B q
    by (Server v) (Server u) = go v u (u == v) refl
    by (Server v) MapOwner = refl
    by MapOwner (Server u) = refl
    by MapOwner MapOwner = refl
