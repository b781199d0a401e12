-- Permits that were given under names.
use Rattle.std.specs.Prelude.{◌≡◌, ◌==◌, ◌∷◌, ◌++◌, ℕ, List, [], Option, find, if◌then◌else◌, length, option_map}
use Rattle.std.specs.Prelude.{slice_get, string_bytes}
use Rattle.std.specs.Option.{option_or}
use Rattle.smpland_state.specs.declared.given_permits.GivenAt.{GivenAt}
use Rattle.smpland_state.specs.declared.given_permits.GivenPermit.{GivenPermit}

-- The permits that were given in the present epoch and in the one before, each in the order in which they were given.
pub record GivenPermitsModel : Type 0 where
  pub epoch : ℕ
  pub present : List GivenPermit
  pub before : List GivenPermit

-- the permit that a name stands for, if it has not been forgotten
abbrev pub given_at : GivenPermitsModel → GivenAt → Option GivenPermit
given_at given at = slice_get (if at.epoch == given.epoch then given.present else given.before) at.index

-- the name under which a permit was given, if it is among these
abbrev pub name_among : List GivenPermit → ℕ → Option (List ℕ)
name_among given permit = option_map (λ g. string_bytes g.by) (find (λ g. g.permit == permit) given)

-- the same, if it has not been forgotten
abbrev pub given_by : GivenPermitsModel → ℕ → Option (List ℕ)
given_by permits permit = option_or (name_among permits.present permit) (name_among permits.before permit)

-- no permits, in an epoch
abbrev pub none_given : ℕ → GivenPermitsModel
none_given epoch = record { epoch = epoch; present = []; before = [] }

-- the permits in the next epoch, in which none was given yet: those of the epoch before the last one are forgotten
abbrev pub given_in_next_epoch : ℕ → GivenPermitsModel → GivenPermitsModel
given_in_next_epoch epoch given = record { epoch = epoch; present = []; before = given.present }

-- a permit was given to a server under a name
pub record IsPermitGiven (server : List ℕ) (permit : ℕ) (by : List ℕ) (given : GivenPermit) : Type 0 where
  pub to : string_bytes given.server ≡ server
  pub is : given.permit ≡ permit
  pub under : string_bytes given.by ≡ by

-- Such a permit stands behind the others of the epoch, at this place; the others stay.
pub record HasGivenPermit (server : List ℕ) (permit : ℕ) (by : List ℕ) (old new : GivenPermitsModel) (at : GivenAt) : Type 0 where
  pub last : GivenPermit
  pub given : IsPermitGiven server permit by last
  pub others : new ≡ record old { present = old.present ++ last ∷ [] }
  pub place : at ≡ record { epoch = old.epoch; index = length old.present }
