-- Sessions that are alike: a session and its replay, or two replicas.
use Rattle.std.specs.Prelude.{◌≡◌, Option, Some, None, option_map}
use Rattle.sm_plan_text.specs.Reading.{rows_of}
use Rattle.sm_driver.specs.Alike.{AreAlike}
use Rattle.sm_driver.specs.Driver.{DriverModel}
use Rattle.sm_reopening.specs.Ongoing.{IsSameButTold, net_reopening, told_copies}
use Rattle.sm_reopening.specs.Settles.{settled_of}
use Rattle.sm_reopening.specs.declared.ongoing.OngoingReopening.{OngoingReopening}
use Rattle.smpland_reopening.specs.Proposal.{documented_roles}
use Rattle.smpland_reopening.specs.Reopening.{ReopeningModel}
use Rattle.smpland_session.specs.Changes.{driver_of, reopening_under_way}
use Rattle.smpland_session.specs.declared.session.Session.{Session}

-- Either no journal is open in both, or their drivers are alike.
abbrev pub AreDriversAlike : Option DriverModel → Option DriverModel → Type 0
AreDriversAlike None None = Unit {0}
AreDriversAlike (Some d) (Some e) = AreAlike d e
AreDriversAlike _ _ = ⊥

-- To the laws of the network both reopenings are one. The same copies were told, the same is recorded, and the same
-- servers are left out.
pub record AreOngoingAlike (x y : OngoingReopening) : Type 0 where
  pub reopening : net_reopening y ≡ net_reopening x
  pub copies : told_copies y ≡ told_copies x
  pub rest : IsSameButTold x y

-- So they are with what they are under: journal, epoch, rows of the document, numbers, roles, permits and kept copies.
-- Once a settlement is confirmed, the next driver opens with the same setup and the same place.
pub record AreReopeningsAlike (r s : ReopeningModel) : Type 0 where
  pub ongoing : AreOngoingAlike r.ongoing s.ongoing
  pub journal : s.journal ≡ r.journal
  pub epoch : s.epoch ≡ r.epoch
  pub document : rows_of s.document ≡ rows_of r.document
  pub numbering : s.numbering ≡ r.numbering
  pub servers : s.servers ≡ r.servers
  pub shards : s.shards ≡ r.shards
  pub roles : documented_roles s ≡ documented_roles r
  pub permits : s.permits ≡ r.permits
  pub kept : s.kept ≡ r.kept
  pub next : option_map settled_of s.next ≡ option_map settled_of r.next

-- Either no reopening is under way in both, or they are alike.
abbrev pub AreUnderAlike : Option ReopeningModel → Option ReopeningModel → Type 0
AreUnderAlike None None = Unit {0}
AreUnderAlike (Some r) (Some s) = AreReopeningsAlike r s
AreUnderAlike _ _ = ⊥

-- Sessions are alike in the driver of what is open, and in the reopening under way.
pub record AreSessionsAlike (a b : Session) : Type 0 where
  pub drivers : AreDriversAlike (driver_of a.opened) (driver_of b.opened)
  pub under : AreUnderAlike (reopening_under_way a.under_way) (reopening_under_way b.under_way)

-- A relation is one of being alike: each is like itself, and so on.
pub record IsEquivalence {A : Type 0} (R : A → A → Type 0) : Type 0 where
  pub itself : (a : A) → R a a
  pub back : (a b : A) → R a b → R b a
  pub along : (a b c : A) → R a b → R b c → R a c

-- so it is of all sessions that are alike
abbrev pub EachSessionAlike : (Session → Session → Type 0) → Type 0
EachSessionAlike P = (a b : Session) → AreSessionsAlike a b → P a b
