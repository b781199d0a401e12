-- The roles that a document's cells give.
use Rattle.std.proofs.Common.{◌≡◌, ◌∙◌, ◌+◌, ◌<◌, ◌++◌, ◌∷◌, [], ℕ, Bool, true, false, List, Option, Some, None, ap, get_or, inl, inr, length, refl, subst, subst₂, sym, take}
use Rattle.std.specs.Prelude.{◌&&◌, if◌then◌else◌, nat_lt, slice_get}
use Rattle.std.specs.Option.{option_map_or}
use Rattle.std.proofs.Math.Path.{fun_ext}
use Rattle.std.proofs.lemmas.Bool.{cases_lt, le-ltb, lt-ltb}
use Rattle.std.proofs.lemmas.List.{take_more}
use Rattle.sm_server.specs.declared.call.Role.{Role}
use Rattle.sm_placement.specs.Opening.{NamedCell}
use Rattle.sm_placement.specs.Layout.{grid_of}
use Rattle.sm_placement.specs.Setup.{IsSetup, Setup, names_of_servers, names_of_shards}
use Rattle.sm_placement.proofs.GridLemmas.{grid_of-below, grid_of-beside}
use Rattle.smpland_reopening.specs.declared.roles.Roles.{Roles}
use Rattle.sm_reopening.specs.declared.ongoing.OngoingReopening.{OngoingReopening}
use Rattle.sm_reopening.specs.Ongoing.{net_reopening}
use Rattle.smpland_reopening.specs.declared.beginning.Begun.{Begun}
use Rattle.smpland_reopening.specs.Begun.{IsBegun, IsNumberedGround, NumbersUnder, is_cell_at, role_written, roles_by}
use Rattle.smpland_reopening.specs.Chosen.{last_that}
use Rattle.smpland_reopening.specs.Numbers.{AreNumbered}
use Rattle.smpland_reopening.specs.Reopening.{ReopeningModel}
use Rattle.smpland_reopening.specs.RoleGrids.{role_at}
use Rattle.smpland_reopening.specs.Roles.{role_by_cell}
use Rattle.smpland_reopening.proofs.Chosen.{last_more}

-- one more cell gives its pair a role
written_more : (shards servers : List ℕ) (cells : List NamedCell) (named : NamedCell) (s v : ℕ) → role_written shards servers (cells ++ named ∷ []) s v
    ≡ (if is_cell_at shards servers s v named then role_by_cell named.2 else role_written shards servers cells s v)
written_more shards servers cells named s v =
    ap (λ o. option_map_or (λ (n : NamedCell). role_by_cell n.2) o None) (last_more (is_cell_at shards servers s v) cells named) ∙ by_test (is_cell_at shards servers s v named)
  where
    by_test : (b : Bool) → option_map_or (λ (n : NamedCell). role_by_cell n.2) (if b then Some named else last_that (is_cell_at shards servers s v) cells) None
        ≡ (if b then role_by_cell named.2 else role_written shards servers cells s v)
    by_test true = refl
    by_test false = refl

-- the cells so far, and one more
pub written_step : (shards servers : List ℕ) (cells : List NamedCell) (n : ℕ) (x : NamedCell) (g h : ℕ → ℕ → Option Role) (s v : ℕ) → n < length cells → x ≡ get_or cells n x →
    g s v ≡ role_written shards servers (take n cells) s v →
    h s v ≡ (if is_cell_at shards servers s v x then role_by_cell x.2 else g s v) →
    h s v ≡ role_written shards servers (take (n + 1) cells) s v
written_step shards servers cells n x g h s v l is before now =
    now ∙ ap (λ o. if is_cell_at shards servers s v x then role_by_cell x.2 else o) before
    ∙ sym (written_more shards servers (take n cells) x s v)
    ∙ ap (λ xs. role_written shards servers xs s v) (ap (λ y. take n cells ++ y ∷ []) is ∙ sym (take_more cells n x l))

-- what has no number has no role
pub roles_all : (roles : Roles) (numbering : Setup) (shards servers : List ℕ) (cells : List NamedCell) → roles.shards ≡ length numbering.shards →
    roles.servers ≡ length numbering.servers →
    ((s v : ℕ) → s < length numbering.shards → v < length numbering.servers → role_at roles s v ≡ role_written shards servers cells s v) →
    role_at roles ≡ roles_by numbering shards servers cells
roles_all roles numbering shards servers cells rows width is = fun_ext (λ s. fun_ext (λ v. at s v))
  where
    given : (s v : ℕ) (a b : Bool) → nat_lt s (length numbering.shards) ≡ a → nat_lt v (length numbering.servers) ≡ b →
        role_at roles s v ≡ (if a && b then role_written shards servers cells s v else None) → role_at roles s v ≡ roles_by numbering shards servers cells s v
    given s v a b e f h =
        h ∙ sym (ap (λ (t : Bool). if t && b then role_written shards servers cells s v else None) e)
        ∙ sym (ap (λ (t : Bool). if nat_lt s (length numbering.shards) && t then role_written shards servers cells s v else None) f)

    at : (s v : ℕ) → role_at roles s v ≡ roles_by numbering shards servers cells s v
    at s v = elim (cases_lt s (length numbering.shards)) [
      | inl k ↦ elim (cases_lt v (length numbering.servers)) [
        | inl l ↦ given s v true true (lt-ltb s (length numbering.shards) k) (lt-ltb v (length numbering.servers) l) (is s v k l)
        | inr l ↦ given s v true false (lt-ltb s (length numbering.shards) k) (le-ltb v (length numbering.servers) l)
            (grid_of-beside roles.servers None roles.list.items s v (rw width l))
      ]
      | inr k ↦ given s v false (nat_lt v (length numbering.servers)) (le-ltb s (length numbering.shards) k) refl
          (grid_of-below roles.servers roles.shards None roles.list.items s v roles.full (rw rows k))
    ]

-- what a reopening numbers, as it begins
pub numbers_under : (numbered : Setup) (epoch : ℕ) (b : Begun) (r : ReopeningModel) → IsBegun r.document.config epoch b →
    IsNumberedGround numbered r.document.config r.document.cells.items b.ground → r.ongoing ≡ b.ongoing → r.numbering ≡ b.ground.numbering →
    r.servers ≡ b.ground.servers.items → r.shards ≡ b.ground.shards.items → r.documented ≡ b.ground.documented → NumbersUnder numbered r
numbers_under numbered epoch b r begun ground ongoing numbering servers shards documented = record {
  numbering = numbering ∙ ground.numbering;
  apart = subst IsSetup (sym numbering) ground.apart;
  servers = subst₂ (λ (n : Setup) (vs : List ℕ). AreNumbered (names_of_servers n) vs (names_of_servers r.document.config)) (sym numbering) (sym servers) begun.named_servers;
  shards = subst₂ (λ (n : Setup) (ks : List ℕ). AreNumbered (names_of_shards n) ks (names_of_shards r.document.config)) (sym numbering) (sym shards) begun.named_shards;
  roles =
      ap (λ (x : OngoingReopening). grid_of (net_reopening x).servers None r.documented.list.items) ongoing
      ∙ ap (λ (x : Roles). grid_of (net_reopening b.ongoing).servers None x.list.items) documented
      ∙ ap (λ n. grid_of n None b.ground.documented.list.items) (sym begun.servers ∙ sym ground.width)
      ∙ ground.roles
      ∙ ap (λ (n : Setup). roles_by n b.ground.shards.items b.ground.servers.items r.document.cells.items) (sym numbering)
      ∙ ap (λ (ks : List ℕ). roles_by r.numbering ks b.ground.servers.items r.document.cells.items) (sym shards)
      ∙ ap (λ (vs : List ℕ). roles_by r.numbering r.shards vs r.document.cells.items) (sym servers);
}
