use Rattle.std.proofs.Common.{◌≡◌, ◌++◌, drop}
use Rattle.std.specs.List.{flat_map}
use Rattle.sm_refusals.specs.Refusals.{field_of}
use Rattle.smpland_lines.specs.Refusals.{field_member}
use Rattle.smpland_lines.proofs.field.write_each_field.Given as goal

-- what is written, and what is left
abbrev pub invariant-loop-field : goal.invariant-loop-field
invariant-loop-field l = l.writer.tokens ++ flat_map (λ f. field_member (field_of f)) (drop l.field-index l.fields)
    ≡ l.fn.writer.tokens ++ flat_map (λ f. field_member (field_of f)) l.fields
