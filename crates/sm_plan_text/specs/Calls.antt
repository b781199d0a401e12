-- The calls of a document.
use Rattle.std.specs.Prelude.{ℕ, List, [], ◌∷◌, codes, Option, Some, None, option_and_then, if◌then◌else◌}
use Rattle.std.specs.Str.{bytes_eq}
use Rattle.serde_json.specs.Data.{Data}
use Rattle.sm_server.specs.declared.call.Call.{Call}
use Rattle.sm_server.specs.declared.call.Call.TheVariants as call
use Rattle.sm_plan_text.specs.declared.fault.TextFault.{TextFault}
use Rattle.sm_plan_text.specs.declared.member.Member.TheVariants.{Calls, Call as CallMember, Shard, Server, Role, From}
use Rattle.sm_plan_text.specs.declared.member.Member.TheVariants.{To, Other, Number}
use Rattle.sm_plan_text.specs.Values.{text_found, number_in, id_in, role_in}
use Rattle.sm_plan_text.specs.Tables.{Row, one, whole, known, role, worded_faults}
use Rattle.sm_plan_code.specs.declared.limits.TheConstants.{MOST_NUMBER}

-- the word that says which call it is
pub data CallWord : Type 0 where
  Add : CallWord
  Drop : CallWord
  Change : CallWord
  PrepareAdd : CallWord
  PrepareDrop : CallWord

-- the call that a word says
abbrev pub call_word : List ℕ → Option CallWord
call_word text =
    if bytes_eq text (codes "add") then Some Add
    else if bytes_eq text (codes "drop") then Some Drop
    else if bytes_eq text (codes "change") then Some Change
    else if bytes_eq text (codes "prepare_add") then Some PrepareAdd
    else if bytes_eq text (codes "prepare_drop") then Some PrepareDrop
    else None

-- the members that a call has by its word
abbrev pub word_table : List (List ℕ) → CallWord → List Row
word_table servers Add = one Role role ∷ []
word_table servers Drop = []
word_table servers Change = one From role ∷ one To role ∷ []
word_table servers PrepareAdd = one Other (known servers) ∷ one Number (whole MOST_NUMBER) ∷ []
word_table servers PrepareDrop = one Other (known servers) ∷ one Number (whole MOST_NUMBER) ∷ []

-- the members that a call has beside its word
abbrev pub call_table : List (List ℕ) → List (List ℕ) → CallWord → List Row
call_table shards servers w = one Shard (known shards) ∷ one Server (known servers) ∷ word_table servers w

-- the faults of a call, whatever stands before it in the list
abbrev pub call_faults : List (List ℕ) → List (List ℕ) → List Data → Data → List TextFault
call_faults shards servers before d = worded_faults Calls CallMember call_word (call_table shards servers) d

-- the call that an object says by its word
abbrev pub call_worded : List (List ℕ) → Data → CallWord → Call
call_worded servers d Add = call.Add (role_in Role d)
call_worded servers d Drop = call.Drop
call_worded servers d Change = call.Change (role_in From d) (role_in To d)
call_worded servers d PrepareAdd = call.PrepareAdd (id_in servers Other d) (number_in Number MOST_NUMBER d)
call_worded servers d PrepareDrop = call.PrepareDrop (id_in servers Other d) (number_in Number MOST_NUMBER d)

-- a call, with the shard that it is for and the server that it is made at
abbrev pub NamedCall : Type 0
NamedCall = ℕ × ℕ × Call

-- a call of the list by its word; if that says no call, what stands for it in a document that is refused
abbrev pub call_by : List (List ℕ) → List (List ℕ) → Data → Option CallWord → NamedCall
call_by shards servers d None = (0, 0, call.Drop)
call_by shards servers d (Some w) = (id_in shards Shard d, id_in servers Server d, call_worded servers d w)

-- a call of the list, as its object says it
abbrev pub call_in : List (List ℕ) → List (List ℕ) → Data → NamedCall
call_in shards servers d = call_by shards servers d (option_and_then call_word (text_found CallMember d))
