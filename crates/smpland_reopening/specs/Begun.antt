-- How a reopening under a document begins.
-- `IsGround`, `IsNumberedGround` and `IsBegun` are internal: you need not read them for the public contracts.
use Rattle.std.specs.Prelude.{◌≡◌, ◌&&◌, ℕ, Bool, List, Option, None, length, map, slice_get}
use Rattle.std.specs.List.{range_with_len}
use Rattle.std.specs.Option.{option_map_or}
use Rattle.sm_server.specs.declared.call.Role.{Role}
use Rattle.sm_placement.specs.Opening.{NamedCell}
use Rattle.sm_placement.specs.Place.{Place}
use Rattle.sm_placement.specs.Setup.{IsSetup, Setup, names_of_servers, names_of_shards}
use Rattle.laws_network.specs.Reopening.{Reopen, Reopening, entered}
use Rattle.sm_reopening.specs.declared.ongoing.OngoingReopening.{OngoingReopening}
use Rattle.sm_reopening.specs.declared.party.Membership.{Membership}
use Rattle.sm_reopening.specs.States.{is_left_out, no_copies, says_lost}
use Rattle.sm_reopening.specs.Ongoing.{left_out_of, net_reopening, recorded_place, recorded_setup, shards_of}
use Rattle.sm_reopening.specs.Ongoing.{told_copies}
use Rattle.sm_reopening.specs.Proposal.{is_the}
use Rattle.sm_driver.specs.Orders.{epoch_base}
use Rattle.smpland_reopening.specs.declared.beginning.Begun.{Begun}
use Rattle.smpland_reopening.specs.declared.beginning.Ground.{Ground}
use Rattle.smpland_reopening.specs.Members.{membership_at}
use Rattle.smpland_reopening.specs.Chosen.{last_that}
use Rattle.smpland_reopening.specs.Numbers.{AreNumbered, KeepsNames, numbered_under}
use Rattle.smpland_reopening.specs.Proposal.{documented_roles}
use Rattle.smpland_reopening.specs.Reopening.{ReopeningModel}
use Rattle.smpland_reopening.specs.RoleGrids.{role_at}
use Rattle.smpland_reopening.specs.Roles.{role_by_cell}
use Rattle.smpland_reopening.specs.Settled.{roles_within}

-- what becomes of all servers that have numbers, under a document
abbrev pub members_under : Setup → Setup → List (List ℕ) → List Membership
members_under numbering document lost = map (membership_at numbering document lost) (range_with_len 0 (length numbering.servers))

-- A reopening has begun under a document: names that had numbers keep them, each server that has one takes part, and
-- those that were said to be lost are lost.
pub record BeginsUnder (before : Reopening) (numbered document numbering : Setup) (lost : List (List ℕ)) (epoch : ℕ) (o : OngoingReopening) : Type 0 where
  pub reopening : net_reopening o ≡ entered (Reopen (epoch_base epoch) (length numbering.servers) (says_lost (members_under numbering document lost))) before
  pub left_out : left_out_of o ≡ is_left_out (members_under numbering document lost)
  pub servers : KeepsNames (names_of_servers numbered) (names_of_servers numbering)
  pub shards : KeepsNames (names_of_shards numbered) (names_of_shards numbering)

-- ---- the document's roles

-- the cell is of the shard and the server that have these numbers
abbrev pub is_cell_at : List ℕ → List ℕ → ℕ → ℕ → NamedCell → Bool
is_cell_at shards servers s v named = is_the (slice_get shards named.0) s && is_the (slice_get servers named.1) v

-- the role that cells give a server for a shard: of two cells of one pair the last would count
abbrev pub role_written : List ℕ → List ℕ → List NamedCell → ℕ → ℕ → Option Role
role_written shards servers cells s v =
    option_map_or (λ (named : NamedCell). role_by_cell named.2) (last_that (is_cell_at shards servers s v) cells) None

-- the roles that cells give by these numbers; what has no number has none
abbrev pub roles_by : Setup → List ℕ → List ℕ → List NamedCell → ℕ → ℕ → Option Role
roles_by numbering shards servers cells s v =
    roles_within (length numbering.shards) (length numbering.servers) (role_written shards servers cells) s v

-- ---- what a reopening begins with

-- A reopening numbers what had numbers, and behind it what is new in its document. Names are apart, and those of the
-- document have these numbers. The roles are those of the document's cells.
pub record NumbersUnder (numbered : Setup) (r : ReopeningModel) : Type 0 where
  pub numbering : r.numbering ≡ numbered_under numbered r.document.config
  pub apart : IsSetup r.numbering
  pub servers : AreNumbered (names_of_servers r.numbering) r.servers (names_of_servers r.document.config)
  pub shards : AreNumbered (names_of_shards r.numbering) r.shards (names_of_shards r.document.config)
  pub roles : documented_roles r ≡ roles_by r.numbering r.shards r.servers r.document.cells.items

-- A reopening has this configuration and this place recorded of the epoch before. This many shards have numbers, and no
-- copy is told yet.
pub record HasRecorded (before : Setup) (p : Place) (n : ℕ) (o : OngoingReopening) : Type 0 where
  pub setup : recorded_setup o ≡ before
  pub place : recorded_place o ≡ p
  pub shards : shards_of o ≡ n
  pub copies : told_copies o ≡ no_copies

-- ---- on the way

-- the numbers are those under the document, and the roles are those of its cells
pub record IsNumberedGround (numbered document : Setup) (cells : List NamedCell) (g : Ground) : Type 0 where
  pub numbering : g.numbering ≡ numbered_under numbered document
  pub apart : IsSetup g.numbering
  pub roles : role_at g.documented ≡ roles_by g.numbering g.shards.items g.servers.items cells
  pub width : g.documented.servers ≡ length g.numbering.servers

-- what is numbered, and what of it is the document's
pub record IsGround (numbered document : Setup) (g : Ground) : Type 0 where
  pub servers : KeepsNames (names_of_servers numbered) (names_of_servers g.numbering)
  pub shards : KeepsNames (names_of_shards numbered) (names_of_shards g.numbering)
  pub named_servers : AreNumbered (names_of_servers g.numbering) g.servers.items (names_of_servers document)
  pub named_shards : AreNumbered (names_of_shards g.numbering) g.shards.items (names_of_shards document)

-- a reopening of all that is numbered, with nothing confirmed
pub record IsBegun (document : Setup) (epoch : ℕ) (b : Begun) : Type 0 where
  pub servers : length b.ground.numbering.servers ≡ (net_reopening b.ongoing).servers
  pub shards : length b.ground.numbering.shards ≡ shards_of b.ongoing
  pub base : (net_reopening b.ongoing).base ≡ epoch_base epoch
  pub named_servers : AreNumbered (names_of_servers b.ground.numbering) b.ground.servers.items (names_of_servers document)
  pub named_shards : AreNumbered (names_of_shards b.ground.numbering) b.ground.shards.items (names_of_shards document)
  pub unconfirmed : (net_reopening b.ongoing).settlement ≡ None
