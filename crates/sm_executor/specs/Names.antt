-- The name of a board: what it is opened with.
-- `no_words`, `no_setup`, `no_place` and `no_state` are of a name of none, which no contract cites: you need not read
-- them for the public contracts.
use Rattle.std.specs.Prelude.{◌≡◌, ℕ, [], false, None}
use Rattle.sm_server.specs.declared.call.Cell.TheVariants.{Absent}
use Rattle.sm_placement.specs.Setup.{Setup, sizes_of}
use Rattle.sm_placement.specs.Place.{Place}
use Rattle.sm_map.specs.Models.{WordsModel, words_model}
use Rattle.sm_protocol.specs.State.{State, opened}
use Rattle.sm_executor.specs.declared.limits.TheConstants.{PARTS}

-- what stands for the words of a map if there is no board
abbrev pub no_words : WordsModel
no_words = words_model (record { words = 0; slots = 0; views_name = 0; atom = 0; block = 0; offset = 0; slot_names = [] }) 0 []

-- what stands for a configuration if there is no board
abbrev pub no_setup : Setup
no_setup = record { servers = []; shards = [] }

-- what stands for a placement if there is no board
abbrev pub no_place : Place
no_place = record { cells = λ s v. Absent; last = λ s v. 0; down = λ v. false; listed = λ s. None; version = λ s. 0; limit = 0 }

-- what stands for the state of an opened board if there is none
abbrev pub no_state : State
no_state = opened (sizes_of no_setup) no_place 0

-- what a board is opened with: the words of its map, the configuration, and the names of its ledgers
pub record Bases : Type 0 where
  pub words : WordsModel
  pub setup : Setup
  pub steps : ℕ
  pub executed : ℕ
  pub refused : ℕ

-- a board that is opened with these
abbrev pub bases : WordsModel → Setup → ℕ → ℕ → ℕ → Bases
bases words setup steps executed refused = record { words = words; setup = setup; steps = steps; executed = executed; refused = refused }

-- this ledger of a ground has the name, and all the parts that a ledger is cut into
abbrev pub IsLedgerOf : ℕ → ℕ → ℕ → Type 0
IsLedgerOf ledger name parts = (ledger ≡ name) × (parts ≡ PARTS)
