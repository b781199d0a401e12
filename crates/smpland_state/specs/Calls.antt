-- The calls of orders and publications in replies.
use Rattle.std.specs.Prelude.{ℕ, List, [], ◌++◌, None, codes, option_map}
use Rattle.json.specs.Token.{Token}
use Rattle.sm_server.specs.declared.call.Role.{Role}
use Rattle.sm_server.specs.declared.call.Role.TheVariants.{Primary, Secondary}
use Rattle.sm_server.specs.declared.call.Call.{Call}
use Rattle.sm_server.specs.declared.call.Call.TheVariants.{Add, Drop, Change, PrepareAdd, PrepareDrop}
use Rattle.sm_placement.specs.declared.entry.Entry.{Entry}
use Rattle.sm_placement.specs.Setup.{Setup}
use Rattle.sm_plan_code.specs.declared.call.ServerCall.{ServerCall}
use Rattle.smpland_lines.specs.Members.{name_member, number_member, server_text, shard_text, text_member}

-- the word for a role
abbrev pub word_of_role : Role → List ℕ
word_of_role Primary = codes "primary"
word_of_role Secondary = codes "secondary"

-- the word for a call
abbrev pub word_of_call : Call → List ℕ
word_of_call (Add role) = codes "add"
word_of_call Drop = codes "drop"
word_of_call (Change from to) = codes "change"
word_of_call (PrepareAdd owner number) = codes "prepare_add"
word_of_call (PrepareDrop new_owner number) = codes "prepare_drop"

-- the other server of a handover, and its number
abbrev pub handover_members : Setup → List ℕ → ℕ → ℕ → List Token
handover_members setup end other number = text_member end (server_text setup other)
    ++ number_member (codes "handover") number

-- the roles of a change
abbrev pub change_members : Role → Role → List Token
change_members from to = text_member (codes "from") (word_of_role from) ++ text_member (codes "to") (word_of_role to)

-- what a call says beside its word
abbrev pub call_members : Setup → Call → List Token
call_members setup (Add role) = text_member (codes "role") (word_of_role role)
call_members setup Drop = []
call_members setup (Change from to) = change_members from to
call_members setup (PrepareAdd owner number) = handover_members setup (codes "from") owner number
call_members setup (PrepareDrop new_owner number) = handover_members setup (codes "to") new_owner number

-- what is asked of whom: the server, the call and the shard
abbrev pub asked_members : Setup → ServerCall → List Token
asked_members setup x =
    text_member (codes "server") (server_text setup x.server)
    ++ text_member (codes "call") (word_of_call x.call)
    ++ text_member (codes "shard") (shard_text setup x.shard)
    ++ call_members setup x.call

-- the load of its shard, and the room of its server
abbrev pub size_members : ℕ → ℕ → List Token
size_members load room = number_member (codes "load") load ++ number_member (codes "room") room

-- what a publication asks of the map's owner: which server the map is to name of a shard, or none, in which version
abbrev pub published_members : Setup → ℕ → Entry → List Token
published_members setup s entry =
    name_member (codes "server") None
    ++ text_member (codes "call") (codes "publish")
    ++ text_member (codes "shard") (shard_text setup s)
    ++ name_member (codes "to") (option_map (server_text setup) entry.server)
    ++ number_member (codes "version") entry.version
