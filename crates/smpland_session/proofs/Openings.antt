-- The first opening of a journal: as its line says, and told.
use Rattle.std.proofs.Common.{◌≡◌, ◌∙◌, ◌++◌, Bool, false, ℕ, List, Option, Some, None, Ok, ap, subst, sym}
use Rattle.std.specs.Prelude.{IfSome, length}
use Rattle.json.specs.Token.{Token}
use Rattle.serde_json.specs.Data.{Data}
use Rattle.json_tree.specs.View.{view}
use Rattle.sm_placement.specs.Layout.{PlacementModel, place_of}
use Rattle.sm_placement.specs.Opening.{opened_place}
use Rattle.sm_placement.specs.Place.{Place}
use Rattle.sm_placement.specs.Setup.{Setup, sizes_of}
use Rattle.sm_plan_text.specs.Opened.{opening_of}
use Rattle.sm_plan_text.specs.Reading.{read_data, rows_of}
use Rattle.sm_plan_text.specs.declared.document.Document.{Document}
use Rattle.sm_protocol.specs.State.{opened}
use Rattle.sm_driver.specs.Driver.{DriverModel, record_of}
use Rattle.smpland_lines.specs.BadLines.{told_bad}
use Rattle.smpland_lines.specs.declared.bad_line.BadLine.TheVariants as bad
use Rattle.smpland_lines.specs.declared.command_member.CommandMember.TheVariants as member
use Rattle.smpland_state.specs.Permits.{opened_member}
use Rattle.smpland_state.specs.declared.journal_state.JournalState.{JournalState}
use Rattle.smpland_session.specs.Asked.{IsFirstOpened, IsOpenedBy, OpensOver}
use Rattle.smpland_session.specs.Changes.{HasOpened, driver_of}
use Rattle.smpland_session.specs.Declines.{Bad, Declines, Refused}
use Rattle.smpland_session.specs.Openings.{DoesOpen, TellsNotOpened}
use Rattle.smpland_session.specs.Replies.{TellsOpened}
use Rattle.smpland_session.specs.declared.opening.NotOpened.{NotOpened}
use Rattle.smpland_session.specs.declared.opening.NotOpened.TheVariants as not_opened
use Rattle.smpland_session.specs.declared.opening.OpenLine.{OpenLine}
use Rattle.smpland_session.specs.declared.opening.OpenOutcome.TheVariants as opens

-- a driver is over the document that a value says
pub driver_opened : (driver : DriverModel) (document : Document) (placement : PlacementModel) (value : Data) (journal epoch : ℕ) →
    read_data (Some value) ≡ Ok (rows_of document) → placement.setup ≡ document.config →
    place_of placement ≡ opened_place (opening_of (rows_of document)) →
    record_of driver ≡ opened (sizes_of placement.setup) (place_of placement) document.log →
    driver.machine.placement.setup ≡ placement.setup → driver.journal ≡ journal → driver.epoch ≡ epoch →
    IsFirstOpened (length placement.setup.servers) (length placement.setup.shards) (place_of placement).down driver → IsOpenedBy value journal epoch driver
driver_opened driver document placement value journal epoch said setup place state same of_journal of_epoch first = (
  rows_of document,
  said,
  same ∙ setup,
  state ∙ ap (λ (s : Setup). opened (sizes_of s) (place_of placement) document.log) setup
      ∙ ap (λ (p : Place). opened (sizes_of document.config) p document.log) place,
  of_journal,
  of_epoch,
  subst (λ (p : Place). IsFirstOpened (length document.config.servers) (length document.config.shards) p.down driver) place
      (subst (λ (s : Setup). IsFirstOpened (length s.servers) (length s.shards) (place_of placement).down driver) setup first),
)

-- it is the one that is open now
opens_first : (before after : Option JournalState) (driver : DriverModel) (value : Data) (journal epoch : ℕ) →
    before ≡ None → driver_of after ≡ Some driver → IsOpenedBy value journal epoch driver → OpensOver value journal epoch before after
opens_first (Some b) after driver value journal epoch none is_new is_open = absurd (let z = none in cc)
opens_first None None driver value journal epoch none is_new is_open = absurd (let z = is_new in cc)
opens_first None (Some o) driver value journal epoch none is_new is_open =
    let same : o.driver ≡ driver = (let z = is_new in cc) in
    subst (IsOpenedBy value journal epoch) (sym same) is_open

-- so a line has opened a journal
pub opens_by : (line : OpenLine) (is_reopening : Bool) (before after : Option JournalState) (driver : DriverModel) → is_reopening ≡ false → before ≡ None →
    driver_of after ≡ Some driver → HasOpened driver → IsOpenedBy (view line.document.now) line.journal line.epoch driver →
    DoesOpen line is_reopening before opens.Opened after
opens_by line is_reopening before after driver free none is_new settled asked =
    (free, rw (none, is_new) settled, opens_first before after driver (view line.document.now) line.journal line.epoch none is_new asked)

-- the journal that has opened is told
pub tells_opened : (value : Data) (journal epoch : ℕ) (old new : Option JournalState) (before after : List Token) → OpensOver value journal epoch old new →
    IfSome new (λ (o : JournalState). after ≡ before ++ opened_member o.driver) → TellsOpened new before after
tells_opened value journal epoch None (Some new) before after over told = told
tells_opened value journal epoch None None before after over told = absurd over
tells_opened value journal epoch (Some old) new before after over told = absurd over

-- that none has opened declines the line
pub not_opened_declines : (why : NotOpened) (before after : List Token) → TellsNotOpened why before after → Declines before after
not_opened_declines not_opened.NoMemory before after told = Refused told
not_opened_declines not_opened.AlreadyOpened before after told = Refused told
not_opened_declines (not_opened.Malformed fault) before after told = Bad (bad.Within member.Document fault, told)
not_opened_declines (not_opened.Refused document fault) before after told = Refused told
not_opened_declines not_opened.LogFull before after told = Refused told
