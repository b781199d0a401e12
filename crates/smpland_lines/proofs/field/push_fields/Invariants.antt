use Rattle.std.proofs.Common.{◌≡◌, ◌++◌, string_bytes, drop}
use Rattle.std.specs.List.{flat_map}
use Rattle.sm_refusals.specs.Refusals.{field_of, field_words}
use Rattle.smpland_lines.proofs.field.push_fields.Given as goal

-- what is added, and what is left
abbrev pub invariant-loop-field : goal.invariant-loop-field
invariant-loop-field l = string_bytes l.out ++ flat_map (λ f. field_words (field_of f)) (drop l.field-index l.fields)
    ≡ string_bytes l.fn.out ++ flat_map (λ f. field_words (field_of f)) l.fields
