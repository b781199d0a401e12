-- A driver that has just been opened is the controller of a fleet that opens.
use Rattle.std.proofs.Common.{◌≡◌, ◌≤◌, ◌<◌, ◌⊎◌, ◌∙◌, [], ℕ, Bool, true, false, Option, Some, None, List, length, refl, sym, ap, subst, arith, inl, inr}
use Rattle.std.specs.Prelude.{replicate, if◌then◌else◌}
use Rattle.std.specs.Option.{option_or}
use Rattle.std.proofs.lemmas.Bool.{cases_lt}
use Rattle.std.proofs.lemmas.List.{get_or_past, get_or-replicate, length-replicate}
use Rattle.std.proofs.lemmas.List.FromFn.{length-map-range_with_len, get_or-map-range_with_len}
use Rattle.sm_placement.specs.Setup.{Setup}
use Rattle.sm_placement.specs.Place.{Place, entry_at}
use Rattle.sm_placement.specs.declared.limits.TheConstants.{MOST_SERVERS}
use Rattle.sm_agent.specs.declared.base.Base.{Base}
use Rattle.sm_agent.specs.Order.{cell_load}
use Rattle.sm_protocol.specs.State.{State}
use Rattle.sm_protocol.specs.Laws.{IsOpening}
use Rattle.laws_network.specs.WorldLaws.{IsWorldOpening}
use Rattle.laws_network.specs.Fleet.{Fleet}
use Rattle.laws_network.specs.FleetLaws.{ArePermits, IsFleetOpening, world_of}
use Rattle.sm_driver.specs.Driver.{DriverModel, base, record_of}
use Rattle.sm_driver.specs.Permits.{AreEarlierPermits, new_permit, opening_permit, opening_permits, permit_of}
use Rattle.sm_driver.specs.Restores.{RestoreModel, restore_at}
use Rattle.laws_driver.specs.Control.{IsControllerOf}
use Rattle.laws_driver.specs.DrivenLaws.{DriversOpen, IsJustOpened, OpenedControls}
use Rattle.laws_driver.proofs.Controls.{controller_of}

-- a server's base that turns nothing away
abbrev first_base : ℕ → Base
first_base journal = record { journal = journal; number = 0; fenced = false; nonce = None }

module _ (setup : Setup) (place : Place) (room : ℕ) (before : List (Option ℕ)) (d : DriverModel) (is : IsJustOpened setup place room before d) where
  -- a permit of the opening is one of before, or a new one of a server that is known
  origin : (v permit : ℕ) → permit_of d.permits v ≡ Some permit → (permit_of before v ≡ Some permit) ⊎ ((v < length setup.servers) × (permit ≡ new_permit (base d) v))
  origin v permit e = elim (cases_lt v (length setup.servers)) [
    | inl l ↦ by_down l (place.down v) (sym (get_or-map-range_with_len (opening_permit (base d) before place.down) 0 (length setup.servers) v v None l (omega arith)) ∙ same)
    | inr past ↦ absurd (
        let none = get_or_past (opening_permits (base d) before (length setup.servers) place.down) v None
        (let n = length-map-range_with_len (opening_permit (base d) before place.down) 0 (length setup.servers) in omega arith) in cc
        )
  ]
    where
      same : permit_of (opening_permits (base d) before (length setup.servers) place.down) v ≡ Some permit
      same = sym (ap (λ ps. permit_of ps v) is.permits) ∙ e

      by_before : v < length setup.servers → (o : Option ℕ) → permit_of before v ≡ o → option_or o (Some (new_permit (base d) v)) ≡ Some permit →
          (permit_of before v ≡ Some permit) ⊎ ((v < length setup.servers) × (permit ≡ new_permit (base d) v))
      by_before l None f g = inr (l, (cc))
      by_before l (Some old) f g = inl (f ∙ g)

      by_down : v < length setup.servers → (b : Bool) → (if b then option_or (permit_of before v) (Some (new_permit (base d) v)) else None) ≡ Some permit →
          (permit_of before v ≡ Some permit) ⊎ ((v < length setup.servers) × (permit ≡ new_permit (base d) v))
      by_down l true g = by_before l (permit_of before v) refl g
      by_down l false g = absurd (cc)

  -- so the permits are below all that will be given, or beside them
  permits_are : length setup.servers ≤ MOST_SERVERS → AreEarlierPermits (base d) before → ArePermits (controller_of d [])
  permits_are few earlier = record {
    range = λ v permit e. elim (origin v permit e) [
      | inl old ↦ inl (earlier.earlier v permit old)
      | inr new ↦ inr (let l = new.0 in let n = new.1 in (omega arith, omega arith))
    ];
    apart = λ u v permit e f. elim (origin u permit e) [
      | inl old ↦ elim (origin v permit f) [ inl past ↦ earlier.apart u v permit old past | inr new ↦ absurd (is_new u permit v new.1 old) ]
      | inr new ↦ elim (origin v permit f) [ inl old ↦ absurd (is_new v permit u new.1 old) | inr also ↦ let n = new.1 in let m = also.1 in omega arith ]
    ];
  }
    where
      is_new : (v permit u : ℕ) → permit ≡ new_permit (base d) u → permit_of before v ≡ Some permit → ⊥
      is_new v permit u n old = let l = earlier.earlier v permit old in omega arith

  -- no server was told anything
  none_told : (v : ℕ) (told : RestoreModel) → restore_at d.restores v ≡ Some told → ⊥
  none_told v told e = elim (cases_lt v (length setup.servers)) [
    | inl l ↦ conflict (get_or-replicate (length setup.servers) v None None l)
    | inr past ↦ conflict (get_or_past (replicate (length setup.servers) None) v None (let n = length-replicate (length setup.servers) none_yet in omega arith))
  ]
    where
      none_yet : Option RestoreModel
      none_yet = None

      conflict : restore_at (replicate (length setup.servers) None) v ≡ None → ⊥
      conflict none = let some : None ≡ Some told = sym none ∙ sym (ap (λ rs. restore_at rs v) is.restores) ∙ e in absurd (cc)

  control_is : IsControllerOf d (controller_of d [])
  control_is = record {
    journal = refl;
    fence = refl;
    base = refl;
    recorded = refl;
    servers = ap length is.permits ∙ length-map-range_with_len (opening_permit (base d) before place.down) 0 (length setup.servers) ∙ ap (λ (w : State). w.sizes.servers) (sym is.state);
    permits = λ v. refl;
    restores = λ v told e. absurd (none_told v told e);
  }

-- ---- the first driver

module _ (setup : Setup) (place : Place) (room : ℕ) (d : DriverModel) (rows : IsOpening setup place room) (is : IsJustOpened setup place room [] d) (fence_is : d.fence ≡ 0) where
  abbrev first : Fleet
  first = record {
    start = controller_of d [];
    journal = [];
    servers = λ v. record {
      base = first_base d.journal;
      slots = λ s. record { cell = place.cells s v; last = 0; at_work = None; load = cell_load (place.cells s v) ((record_of d).sizes.load s); cut = None };
    };
    had = place.cells;
    owner = first_base d.journal;
    shown = entry_at place;
    sent = [];
    answers = [];
    published = [];
    stored = [];
    passes = [];
    asks = [];
  }

  world_opens : IsWorldOpening setup (world_of first (λ s v. 0))
  world_opens = record {
    net = record { place = place; room = room; opening = rows; w = is.state; cells = refl; lasts = λ s v. omega arith; sent = tt; answers = tt; passes = tt };
    servers = λ s. ap (λ (w : State). w.place.listed s) (sym is.state);
    versions = λ s. let e = ap (λ (w : State). w.place.version s) is.state in omega arith;
    published = tt;
    stored = tt;
  }

  none_before : AreEarlierPermits (base d) []
  none_before = record { earlier = λ v permit e. absurd (cc); apart = λ u v permit e f. absurd (cc) }

  fleet_opens : IsFleetOpening setup first
  fleet_opens = record {
    journal = refl;
    last = λ s v. 0;
    world = world_opens;
    fence = omega (arith, fence_is);
    restores = refl;
    servers = λ v h. record { journal = refl; taken = refl; fence = omega (arith, fence_is); number = omega arith; lasts = λ s. inr ((omega arith), (omega arith)); loads = λ s. refl };
    nonces = λ v nonce h. absurd (cc);
    owner = record { known = refl; journal = refl; taken = refl; fence = omega (arith, fence_is); number = omega arith };
    permits = permits_are setup place room [] d is rows.rows.servers none_before;
  }

-- it opens
pub drivers_open : DriversOpen
drivers_open setup place room d rows is fence = (
  first setup place room d rows is fence,
  record { fleet = subst (λ s. IsFleetOpening s (first setup place room d rows is fence)) (sym is.setup) (fleet_opens setup place room d rows is fence); control = control_is setup place room [] d is },
  λ s v. refl,
)

-- ---- after a reopening

-- with permits of before it is a controller, too
pub opened_controls : OpenedControls
opened_controls setup p room before d rows is earlier = (controller_of d [], control_is setup p room before d is, refl, permits_are setup p room before d is rows.rows.servers earlier)
