-- Replies that say no: that a line is refused, or that it is no command.
use Rattle.std.specs.Prelude.{◌≡◌, ℕ, List, [], ◌∷◌, ◌++◌, Option, Some, None, codes, decimal}
use Rattle.std.specs.List.{flat_map}
use Rattle.json.specs.Token.{Token, number}
use Rattle.smpland_lines.specs.Members.{list_member, name_member, number_member, object_member, text_member}
use Rattle.sm_task_controller.specs.declared.decision.Denied.{Denied}
use Rattle.sm_task_controller.specs.declared.decision.Denied.TheVariants as denied
use Rattle.sm_refusals.specs.declared.field.Field.{Field}
use Rattle.sm_refusals.specs.Refusals.{FieldModel, MapOwner, Name, Number, Numbers, Word, RefusalModel, field_of}
use Rattle.sm_refusals.specs.Refusals.{field_words, refusal_words}

-- a number in a list of them
abbrev pub number_item : ℕ → List Token
number_item n = number (decimal n) ∷ []

-- what is refused, as a member
abbrev pub field_member : FieldModel → List Token
field_member (Name label name) = text_member label name
field_member (MapOwner label) = name_member label None
field_member (Number label n) = number_member label n
field_member (Numbers label ns) = list_member label (flat_map number_item ns)
field_member (Word label word) = text_member label word

-- a refusal: its kind, its number if `smplan` has it too, the members of what is refused, and all of it in words
pub record RefusedLine : Type 0 where
  pub kind : List ℕ
  pub number : Option ℕ
  pub fields : List Token
  pub text : List ℕ

-- the number of a refusal, if it has one
abbrev pub refusal_number_members : Option ℕ → List Token
refusal_number_members (Some n) = number_member (codes "number") n
refusal_number_members None = []

-- the members of a refusal
abbrev pub refusal_members : RefusedLine → List Token
refusal_members r = text_member (codes "kind") r.kind ++ refusal_number_members r.number ++ r.fields
    ++ text_member (codes "text") r.text

-- the same as a member
abbrev pub refused_member : RefusedLine → List Token
refused_member r = object_member (codes "refused") (refusal_members r)

-- a refusal that `smplan` has not
abbrev pub own_refusal : List ℕ → List Field → RefusedLine
own_refusal kind fields = record {
  kind = kind;
  number = None;
  fields = flat_map (λ f. field_member (field_of f)) fields;
  text = codes "refused: " ++ kind ++ flat_map (λ f. field_words (field_of f)) fields;
}

-- one that `smplan` has too, with its very words
abbrev pub shared_refusal : RefusalModel → RefusedLine
shared_refusal r = record {
  kind = r.kind;
  number = Some r.number;
  fields = flat_map field_member r.fields;
  text = refusal_words r;
}

-- the plan whose stream denies a restart
abbrev pub plan_denying : Denied → Option ℕ
plan_denying (denied.Engaged stream) = Some stream.plan
plan_denying why = None

-- behind what was written is told, as a member, that a line is refused
abbrev pub TellsRefused : List Token → List Token → Type 0
TellsRefused before after = (r : RefusedLine) × (after ≡ before ++ refused_member r)

-- the members of what is wrong with a line: its kind, where it is, and the same in words
abbrev pub bad_members : List ℕ → List ℕ → List ℕ → List Token
bad_members kind at text = text_member (codes "kind") kind ++ text_member (codes "at") at
    ++ text_member (codes "text") text
