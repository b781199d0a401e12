-- The rules of the code as rows of a table, over the names that a scope has.
-- Internal definitions: you need not read them for the public contracts.
use Rattle.std.specs.Prelude.{ℕ, Bool, false, ◌&&◌, not, List, [], ◌∷◌, Option, Some, None, is_some}
use Rattle.serde_json.specs.Data.{Num}
use Rattle.sm_placement.specs.Names.{is_name}
use Rattle.sm_plan_text.specs.declared.fault.TextFault.{TextFault}
use Rattle.sm_plan_text.specs.declared.fault.TextFault.TheVariants.{Shape, Number}
use Rattle.sm_plan_text.specs.declared.member.Member.{Member}
use Rattle.sm_plan_text.specs.declared.member.Member.TheVariants as members
use Rattle.sm_plan_text.specs.declared.cursor.Scope.{Scope}
use Rattle.sm_plan_text.specs.declared.rule.Form.{Form}
use Rattle.sm_plan_text.specs.declared.rule.Form.TheVariants as form
use Rattle.sm_plan_text.specs.declared.rule.Rule.{Rule}
use Rattle.sm_plan_text.specs.declared.rule.Rule.TheVariants as rule
use Rattle.sm_plan_text.specs.Values.{role_named, after_named}
use Rattle.sm_plan_text.specs.Tables.{Want, whole, flag, text, known, known_or_null, list, known_list, keyed, below}
use Rattle.sm_plan_text.specs.Tables.{format, object, number_fault, index_fault, format_fault, is_among, Row, one}
use Rattle.sm_plan_text.specs.Tables.{maybe}
use Rattle.sm_plan_text.specs.Parcels.{HaveIds, plain_named}
use Rattle.sm_plan_text.specs.declared.limits.TheConstants.{MOST_ASKS}
use Rattle.sm_plan_code.specs.declared.limits.TheConstants.{MOST_RIGHTS}

-- the texts of a form, which are none if it asks for no text of its own. A new name is one that the scope hasn't
abbrev pub has_form : Scope → Form → List ℕ → Bool
has_form scope form.Name s = is_name s
has_form scope form.NewServer s = is_name s && not (is_among scope.servers.now s)
has_form scope form.NewShard s = is_name s && not (is_among scope.shards.now s)
has_form scope form.Role s = is_some (role_named s)
has_form scope form.When s = is_some (after_named s)
has_form scope form.State s = is_some (plain_named s)
has_form scope _ s = false

-- the faults of what is to be a number of the form
abbrev pub number_faults : Scope → Form → Member → Option Num → List TextFault
number_faults scope (form.Whole limit) m n = number_fault m limit n
number_faults scope form.Signal m n = index_fault m scope.signals n
number_faults scope form.Format m n = format_fault m n
number_faults scope _ m None = Shape m ∷ []
number_faults scope _ m (Some n) = Number m ∷ []

-- what a member of this form is to be
abbrev pub want_of : Scope → Form → Want
want_of scope (form.Whole limit) = whole limit
want_of scope form.Flag = flag
want_of scope form.Name = text (has_form scope form.Name)
want_of scope form.NewServer = text (has_form scope form.NewServer)
want_of scope form.NewShard = text (has_form scope form.NewShard)
want_of scope form.Role = text (has_form scope form.Role)
want_of scope form.When = text (has_form scope form.When)
want_of scope form.State = text (has_form scope form.State)
want_of scope form.Shard = known scope.shards.now
want_of scope form.Server = known scope.servers.now
want_of scope form.ServerOrNull = known_or_null scope.servers.now
want_of scope (form.List limit) = list limit
want_of scope form.Asks = known_list MOST_ASKS scope.shards.now
want_of scope form.ByCell = keyed MOST_RIGHTS (members.Shard ∷ members.Server ∷ [])
want_of scope form.ByShard = keyed MOST_RIGHTS (members.Shard ∷ [])
want_of scope form.ByServer = keyed MOST_RIGHTS (members.Server ∷ [])
want_of scope form.Signal = below scope.signals
want_of scope form.Format = format
want_of scope form.Object = object

-- the member that a rule is of
abbrev pub member_of : Rule → Member
member_of (rule.One member form) = member
member_of (rule.Maybe member form) = member

-- a rule of the code, as a row of a table
abbrev pub row_of : Scope → Rule → Row
row_of scope (rule.One member form) = one member (want_of scope form)
row_of scope (rule.Maybe member form) = maybe member (want_of scope form)

-- a scope has so few names that the number of each is an id
abbrev pub HasIds : Scope → Type 0
HasIds scope = HaveIds scope.shards.now scope.servers.now
