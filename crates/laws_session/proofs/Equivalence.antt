-- Being alike is an equivalence.
use Rattle.std.proofs.Common.{◌∙◌, Option, Some, None, refl, sym}
use Rattle.sm_driver.specs.Alike.{AreAlike}
use Rattle.sm_driver.specs.Driver.{DriverModel}
use Rattle.sm_reopening.specs.declared.ongoing.OngoingReopening.{OngoingReopening}
use Rattle.smpland_reopening.specs.Reopening.{ReopeningModel}
use Rattle.smpland_session.specs.Changes.{driver_of, reopening_under_way}
use Rattle.laws_session.specs.Alike.{AreDriversAlike, AreOngoingAlike, AreReopeningsAlike, AreSessionsAlike, AreUnderAlike, IsEquivalence}

-- ---- drivers

driver_itself : (d : DriverModel) → AreAlike d d
driver_itself d = record { recorded = refl; setup = refl; journal = refl; epoch = refl; fence = refl; permits = refl; carried = refl; restores = refl; copies = refl }

driver_back : (d e : DriverModel) → AreAlike d e → AreAlike e d
driver_back d e x = record {
  recorded = sym x.recorded;
  setup = sym x.setup;
  journal = sym x.journal;
  epoch = sym x.epoch;
  fence = sym x.fence;
  permits = sym x.permits;
  carried = sym x.carried;
  restores = sym x.restores;
  copies = sym x.copies;
}

driver_along : (d e f : DriverModel) → AreAlike d e → AreAlike e f → AreAlike d f
driver_along d e f x y = record {
  recorded = y.recorded ∙ x.recorded;
  setup = y.setup ∙ x.setup;
  journal = y.journal ∙ x.journal;
  epoch = y.epoch ∙ x.epoch;
  fence = y.fence ∙ x.fence;
  permits = y.permits ∙ x.permits;
  carried = y.carried ∙ x.carried;
  restores = y.restores ∙ x.restores;
  copies = y.copies ∙ x.copies;
}

drivers_itself : (o : Option DriverModel) → AreDriversAlike o o
drivers_itself None = tt
drivers_itself (Some d) = driver_itself d

drivers_back : (o p : Option DriverModel) → AreDriversAlike o p → AreDriversAlike p o
drivers_back None None x = tt
drivers_back (Some d) (Some e) x = driver_back d e x
drivers_back None (Some e) x = absurd x
drivers_back (Some d) None x = absurd x

drivers_along : (o p q : Option DriverModel) → AreDriversAlike o p → AreDriversAlike p q → AreDriversAlike o q
drivers_along None None q x y = y
drivers_along (Some d) (Some e) (Some f) x y = driver_along d e f x y
drivers_along (Some d) (Some e) None x y = absurd y
drivers_along None (Some e) q x y = absurd x
drivers_along (Some d) None q x y = absurd x

-- ---- reopenings

ongoing_itself : (x : OngoingReopening) → AreOngoingAlike x x
ongoing_itself x = record { reopening = refl; copies = refl; rest = record { left_out = refl; setup = refl; place = refl; shards = refl } }

ongoing_back : (x y : OngoingReopening) → AreOngoingAlike x y → AreOngoingAlike y x
ongoing_back x y a = record {
  reopening = sym a.reopening;
  copies = sym a.copies;
  rest = record { left_out = sym a.rest.left_out; setup = sym a.rest.setup; place = sym a.rest.place; shards = sym a.rest.shards };
}

ongoing_along : (x y z : OngoingReopening) → AreOngoingAlike x y → AreOngoingAlike y z → AreOngoingAlike x z
ongoing_along x y z a b = record {
  reopening = b.reopening ∙ a.reopening;
  copies = b.copies ∙ a.copies;
  rest = record {
    left_out = b.rest.left_out ∙ a.rest.left_out;
    setup = b.rest.setup ∙ a.rest.setup;
    place = b.rest.place ∙ a.rest.place;
    shards = b.rest.shards ∙ a.rest.shards;
  };
}

reopening_itself : (r : ReopeningModel) → AreReopeningsAlike r r
reopening_itself r = record {
  ongoing = ongoing_itself r.ongoing;
  journal = refl;
  epoch = refl;
  document = refl;
  numbering = refl;
  servers = refl;
  shards = refl;
  roles = refl;
  permits = refl;
  kept = refl;
  next = refl;
}

reopening_back : (r s : ReopeningModel) → AreReopeningsAlike r s → AreReopeningsAlike s r
reopening_back r s x = record {
  ongoing = ongoing_back r.ongoing s.ongoing x.ongoing;
  journal = sym x.journal;
  epoch = sym x.epoch;
  document = sym x.document;
  numbering = sym x.numbering;
  servers = sym x.servers;
  shards = sym x.shards;
  roles = sym x.roles;
  permits = sym x.permits;
  kept = sym x.kept;
  next = sym x.next;
}

reopening_along : (r s t : ReopeningModel) → AreReopeningsAlike r s → AreReopeningsAlike s t → AreReopeningsAlike r t
reopening_along r s t x y = record {
  ongoing = ongoing_along r.ongoing s.ongoing t.ongoing x.ongoing y.ongoing;
  journal = y.journal ∙ x.journal;
  epoch = y.epoch ∙ x.epoch;
  document = y.document ∙ x.document;
  numbering = y.numbering ∙ x.numbering;
  servers = y.servers ∙ x.servers;
  shards = y.shards ∙ x.shards;
  roles = y.roles ∙ x.roles;
  permits = y.permits ∙ x.permits;
  kept = y.kept ∙ x.kept;
  next = y.next ∙ x.next;
}

under_itself : (r : Option ReopeningModel) → AreUnderAlike r r
under_itself None = tt
under_itself (Some r) = reopening_itself r

-- being alike goes both ways
pub under_back : (r s : Option ReopeningModel) → AreUnderAlike r s → AreUnderAlike s r
under_back None None x = tt
under_back (Some r) (Some s) x = reopening_back r s x
under_back None (Some s) x = absurd x
under_back (Some r) None x = absurd x

under_along : (r s t : Option ReopeningModel) → AreUnderAlike r s → AreUnderAlike s t → AreUnderAlike r t
under_along None None t x y = y
under_along (Some r) (Some s) (Some t) x y = reopening_along r s t x y
under_along (Some r) (Some s) None x y = absurd y
under_along None (Some s) t x y = absurd x
under_along (Some r) None t x y = absurd x

-- ---- sessions

-- Being alike is an equivalence of sessions.
pub alike_is_equivalence : IsEquivalence AreSessionsAlike
alike_is_equivalence = record {
  itself = λ a. record { drivers = drivers_itself (driver_of a.opened); under = under_itself (reopening_under_way a.under_way) };
  back = λ a b x. record {
    drivers = drivers_back (driver_of a.opened) (driver_of b.opened) x.drivers;
    under = under_back (reopening_under_way a.under_way) (reopening_under_way b.under_way) x.under;
  };
  along = λ a b c x y. record {
    drivers = drivers_along (driver_of a.opened) (driver_of b.opened) (driver_of c.opened) x.drivers y.drivers;
    under = under_along (reopening_under_way a.under_way) (reopening_under_way b.under_way) (reopening_under_way c.under_way) x.under y.under;
  };
}
