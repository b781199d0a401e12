-- Replies to servers that have lost all they had.
-- `last_told`, `told_to`, `told_in_epoch`, `was_told` and `latest_told` are internal: you need not read them for the
-- public contracts.
use Rattle.std.specs.Prelude.{◌≡◌, ◌==◌, ◌&&◌, ℕ, List, [], ◌∷◌, ◌++◌, Bool, IfSome, Option, Some, None, bytes_eq}
use Rattle.std.specs.Prelude.{codes, if◌then◌else◌, is_some, length, not, option_map}
use Rattle.std.specs.List.{filter, find, flat_map, list_any, range_with_len}
use Rattle.std.specs.Option.{option_map_or}
use Rattle.json.specs.Token.{Token, key}
use Rattle.sm_driver.specs.Driver.{DriverModel}
use Rattle.sm_driver.specs.Restores.{RestoreModel, restore_at}
use Rattle.smpland_lines.specs.Members.{number_member, object, server_text, text_member}
use Rattle.smpland_state.specs.Bits.{bits_member}
use Rattle.smpland_state.specs.Cells.{slots_member}
use Rattle.smpland_state.specs.Copies.{good_tokens}
use Rattle.smpland_state.specs.Told.{ToldModel}
use Rattle.smpland_state.specs.declared.journal_state.JournalState.{JournalState}

-- what a server is told: its name, the nonce under which it asked, the journal with its fence, its base (orders up to
-- this number are old to it), and its slots
abbrev pub restore_members : DriverModel → ℕ → RestoreModel → List Token
restore_members d v restore =
    text_member (codes "server") (server_text d.machine.placement.setup v)
    ++ bits_member (codes "nonce") restore.nonce
    ++ bits_member (codes "journal") d.journal
    ++ number_member (codes "fence") d.fence
    ++ number_member (codes "base") restore.number
    ++ slots_member d.machine.placement.setup restore.cells

-- these as an object
abbrev pub restore_object : DriverModel → ℕ → RestoreModel → List Token
restore_object d v restore = object (restore_members d v restore)

-- behind what was written a server is told, as a member, what the driver keeps for it, if it keeps something
abbrev pub TellsKept : DriverModel → ℕ → List Token → List Token → Type 0
TellsKept d v before after =
    IfSome (restore_at d.restores v) (λ restore. after ≡ before ++ key (codes "restore") ∷ restore_object d v restore)

-- ---- what is kept of it in the next epoch

-- the restore that a server is told, under the server's name: its tokens up to the first that is bad
abbrev pub last_told : DriverModel → ℕ → RestoreModel → ToldModel
last_told d v restore = record {
  server = server_text d.machine.placement.setup v;
  nonce = restore.nonce;
  restore = good_tokens (restore_object d v restore);
}

-- what a server was told last in the driver's epoch, if it was told something
abbrev pub told_to : DriverModel → ℕ → List ToldModel
told_to d v = option_map_or (λ restore. last_told d v restore ∷ []) (restore_at d.restores v) []

-- the same of all servers
abbrev pub told_in_epoch : DriverModel → List ToldModel
told_in_epoch d = flat_map (told_to d) (range_with_len 0 (length d.machine.placement.setup.servers))

-- one of these restores is of the server of this name
abbrev pub was_told : List ToldModel → List ℕ → Bool
was_told told name = list_any (λ t. bytes_eq t.server name) told

-- of each server the latest restore: one of the present epoch, or otherwise one before
abbrev pub latest_told : List ToldModel → List ToldModel → List ToldModel
latest_told now before = now ++ filter (λ t. not (was_told now t.server)) before

-- ---- what is told again

-- the restore that a server of this name was told under this nonce in an earlier epoch
abbrev pub told_under : List ToldModel → List ℕ → ℕ → Option ToldModel
told_under told name nonce = find (λ t. bytes_eq t.server name && (t.nonce == nonce)) told

-- what a server is told again that asks under this nonce, by what the driver keeps for it
abbrev pub restore_told : JournalState → ℕ → ℕ → Option RestoreModel → Option (List Token)
restore_told o v nonce (Some restore) = if restore.nonce == nonce then Some (restore_object o.driver v restore) else None
restore_told o v nonce None = option_map (λ t. t.restore) (told_under o.told.items (server_text o.driver.machine.placement.setup v) nonce)

-- What a server was told last, if that was under this nonce: the restore that the driver keeps for it, or if it keeps
-- none the one of an earlier epoch.
abbrev pub told_again : JournalState → ℕ → ℕ → Option (List Token)
told_again o v nonce = restore_told o v nonce (restore_at o.driver.restores v)

-- a server was told under this nonce last
abbrev pub is_told : JournalState → ℕ → ℕ → Bool
is_told o v nonce = is_some (told_again o v nonce)

-- behind what was written a server is told this again
abbrev pub TellsAgain : JournalState → ℕ → ℕ → List Token → List Token → Type 0
TellsAgain o v nonce before after = IfSome (told_again o v nonce) (λ restore. after ≡ before ++ key (codes "restore") ∷ restore)
