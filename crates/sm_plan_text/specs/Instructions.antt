-- The instructions of a plan's streams.
use Rattle.std.specs.Prelude.{ℕ, List, [], ◌∷◌, codes, Option, Some, None, option_and_then, if◌then◌else◌}
use Rattle.std.specs.Str.{bytes_eq}
use Rattle.serde_json.specs.Data.{Data}
use Rattle.sm_plan_code.specs.declared.instruction.Instr.{Instr}
use Rattle.sm_plan_code.specs.declared.instruction.Instr.TheVariants as instr
use Rattle.sm_plan_text.specs.declared.fault.TextFault.{TextFault}
use Rattle.sm_plan_text.specs.declared.member.Member.TheVariants.{Code, Do, Shard, Server, Other, Role, To}
use Rattle.sm_plan_text.specs.declared.member.Member.TheVariants.{Signal as SignalMember}
use Rattle.sm_plan_text.specs.Values.{text_found, id_in, role_in, number_below}
use Rattle.sm_plan_text.specs.Tables.{Row, one, known, role, below, worded_faults}

-- the word that says which instruction it is
pub data InstrWord : Type 0 where
  PrepareAdd : InstrWord
  PrepareDrop : InstrWord
  Add : InstrWord
  Drop : InstrWord
  Change : InstrWord
  Publish : InstrWord
  Unlist : InstrWord
  Signal : InstrWord
  Wait : InstrWord

-- the instruction that a word says
abbrev pub instr_word : List ℕ → Option InstrWord
instr_word text =
    if bytes_eq text (codes "prepare_add") then Some PrepareAdd
    else if bytes_eq text (codes "prepare_drop") then Some PrepareDrop
    else if bytes_eq text (codes "add") then Some Add
    else if bytes_eq text (codes "drop") then Some Drop
    else if bytes_eq text (codes "change") then Some Change
    else if bytes_eq text (codes "publish") then Some Publish
    else if bytes_eq text (codes "unlist") then Some Unlist
    else if bytes_eq text (codes "signal") then Some Signal
    else if bytes_eq text (codes "wait") then Some Wait
    else None

-- the members that an instruction has by its word, in a plan with this many signals
abbrev pub instr_table : List (List ℕ) → List (List ℕ) → ℕ → InstrWord → List Row
instr_table shards servers signals PrepareAdd = one Shard (known shards) ∷ one Server (known servers) ∷ one Other (known servers) ∷ []
instr_table shards servers signals PrepareDrop = one Shard (known shards) ∷ one Server (known servers) ∷ one Other (known servers) ∷ []
instr_table shards servers signals Add = one Shard (known shards) ∷ one Server (known servers) ∷ one Role role ∷ []
instr_table shards servers signals Drop = one Shard (known shards) ∷ one Server (known servers) ∷ []
instr_table shards servers signals Change = one Shard (known shards) ∷ one Server (known servers) ∷ one To role ∷ []
instr_table shards servers signals Publish = one Shard (known shards) ∷ []
instr_table shards servers signals Unlist = one Shard (known shards) ∷ []
instr_table shards servers signals Signal = one SignalMember (below signals) ∷ []
instr_table shards servers signals Wait = one SignalMember (below signals) ∷ []

-- the faults of an instruction in a plan with this many signals, whatever stands before it in the code
abbrev pub instr_faults : List (List ℕ) → List (List ℕ) → ℕ → List Data → Data → List TextFault
instr_faults shards servers signals before d = worded_faults Code Do instr_word (instr_table shards servers signals) d

-- the instruction that an object says by its word
abbrev pub instr_of : List (List ℕ) → List (List ℕ) → ℕ → Data → InstrWord → Instr
instr_of shards servers signals d PrepareAdd = instr.PrepareAdd (id_in shards Shard d) (id_in servers Server d) (id_in servers Other d)
instr_of shards servers signals d PrepareDrop = instr.PrepareDrop (id_in shards Shard d) (id_in servers Server d) (id_in servers Other d)
instr_of shards servers signals d Add = instr.Add (id_in shards Shard d) (id_in servers Server d) (role_in Role d)
instr_of shards servers signals d Drop = instr.Drop (id_in shards Shard d) (id_in servers Server d)
instr_of shards servers signals d Change = instr.Change (id_in shards Shard d) (id_in servers Server d) (role_in To d)
instr_of shards servers signals d Publish = instr.Publish (id_in shards Shard d)
instr_of shards servers signals d Unlist = instr.Unlist (id_in shards Shard d)
instr_of shards servers signals d Signal = instr.Signal (number_below signals SignalMember d)
instr_of shards servers signals d Wait = instr.Wait (number_below signals SignalMember d)

-- an instruction by its word; if that says no instruction, what stands for it in a plan that is refused
abbrev pub instr_by : List (List ℕ) → List (List ℕ) → ℕ → Data → Option InstrWord → Instr
instr_by shards servers signals d None = instr.Signal 0
instr_by shards servers signals d (Some w) = instr_of shards servers signals d w

-- an instruction, as its object says it
abbrev pub instr_in : List (List ℕ) → List (List ℕ) → ℕ → Data → Instr
instr_in shards servers signals d = instr_by shards servers signals d (option_and_then instr_word (text_found Do d))
