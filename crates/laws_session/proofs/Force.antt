-- Drivers that come of reopenings that are alike.
use Rattle.std.proofs.Common.{◌≡◌, ◌∙◌, ℕ, Bool, List, Option, Some, None, ap, ap₂, length, map, option_map, refl, replicate, sym}
use Rattle.std.specs.Prelude.{is_some, not}
use Rattle.sm_placement.specs.Layout.{PlacementModel, place_of}
use Rattle.sm_placement.specs.Place.{Place}
use Rattle.sm_placement.specs.Setup.{Setup, sizes_of}
use Rattle.sm_protocol.specs.State.{opened}
use Rattle.laws_network.specs.Reopening.{Reopening, Server}
use Rattle.sm_plan_text.specs.Documents.{DocumentModel}
use Rattle.sm_driver.specs.Alike.{AreAlike}
use Rattle.sm_driver.specs.Carried.{carried_down}
use Rattle.sm_driver.specs.Driver.{DriverModel}
use Rattle.sm_driver.specs.Orders.{epoch_base}
use Rattle.sm_driver.specs.Permits.{opening_permits, permit_of}
use Rattle.sm_driver.specs.Restores.{RestoreModel}
use Rattle.sm_reopening.specs.Settles.{settled_of}
use Rattle.smpland_reopening.specs.InForce.{IsOpenedFrom, IsOpenedOver, permits_kept, silent_servers}
use Rattle.smpland_reopening.specs.Reopening.{ReopeningModel}
use Rattle.laws_session.specs.Alike.{AreReopeningsAlike}
use Rattle.laws_session.proofs.Commands.{one_value}
use Rattle.laws_session.proofs.Ongoing.{ap₃}

-- no server was restored
abbrev none_restored : ℕ → List (Option RestoreModel)
none_restored servers = replicate servers None

-- each shard has 1 copy
abbrev single_copies : ℕ → List ℕ
single_copies shards = replicate shards 1

-- A driver is determined by the reopening that it comes of.
pub drivers_come_alike : (r s : ReopeningModel) (d e : DriverModel) → AreReopeningsAlike r s → IsOpenedFrom r d → IsOpenedFrom s e → AreAlike d e
drivers_come_alike r s d e is x y = record {
  recorded = b.state ∙ ap₃ (λ (c : Setup) (w : Place) (n : ℕ). opened (sizes_of c) w n) setup place (ap (λ (m : DocumentModel). m.log) is.document) ∙ sym a.state;
  setup = b.setup ∙ setup ∙ sym a.setup;
  journal = b.journal_kept ∙ is.journal ∙ sym a.journal_kept;
  epoch = at;
  fence = b.fence ∙ ap epoch_base at ∙ sym a.fence;
  permits =
      b.given
      ∙ ap₂ (λ (n : ℕ) (ps : List (Option ℕ)). opening_permits (epoch_base n) ps (length q.setup.servers) (place_of q).down) at permits
      ∙ ap₂ (λ (c : Setup) (w : Place). opening_permits (epoch_base d.epoch) (permits_kept r) (length c.servers) w.down) setup place
      ∙ sym a.given;
  carried = b.carried ∙ ap₃ (λ (ms : List Bool) (c : Setup) (w : Place). carried_down ms (length c.servers) w.down) silent setup place ∙ sym a.carried;
  restores = b.restored ∙ ap (λ (c : Setup). none_restored (length c.servers)) setup ∙ sym a.restored;
  copies = b.copies ∙ ap (λ (c : Setup). single_copies (length c.shards)) setup ∙ sym a.copies;
}
  where
    p : PlacementModel
    p = x.placement

    q : PlacementModel
    q = y.placement

    a : IsOpenedOver p r.document.log r.journal r.epoch (permits_kept r) (silent_servers r) d
    a = x.opened_over

    b : IsOpenedOver q s.document.log s.journal s.epoch (permits_kept s) (silent_servers s) e
    b = y.opened_over

    both : settled_of q ≡ settled_of p
    both = one_value (Some (settled_of p)) (settled_of p) (settled_of q) refl
        (sym (sym (ap (option_map settled_of) y.kept) ∙ is.next ∙ ap (option_map settled_of) x.kept))

    setup : q.setup ≡ p.setup
    setup = ap (λ (z : Setup × Place). z.0) both

    place : place_of q ≡ place_of p
    place = ap (λ (z : Setup × Place). z.1) both

    at : e.epoch ≡ d.epoch
    at = b.epoch_opened ∙ is.epoch ∙ sym a.epoch_opened

    permits : permits_kept s ≡ permits_kept r
    permits = ap₂ (λ (ps : List (Option ℕ)) (vs : List ℕ). map (permit_of ps) vs) is.permits is.servers

    silent : silent_servers s ≡ silent_servers r
    silent = ap₂ (λ (n : Reopening) (vs : List ℕ). map (λ v. not (is_some (n.told (Server v)))) vs) is.ongoing.reopening is.servers
