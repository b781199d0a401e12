-- Faults of plans, part after part.
use Rattle.std.proofs.Common.{◌≡◌, ◌∙◌, List, [], Option, Some, None, All, refl, sym, arith}
use Rattle.std.proofs.lemmas.List.Elements.{All-nil}
use Rattle.sm_plan_code.specs.Plan.{StreamModel, IsSmallParcel, IsSmallStream, KnowsSignal, IsOrderedParcel, IsPlan}
use Rattle.sm_plan_text.specs.declared.fault.TextFault.{TextFault}
use Rattle.sm_plan_text.specs.Faults.{noted}
use Rattle.sm_plan_text.proofs.Faultless.{noted_some, none_noted}

-- where nothing is answered now, nothing was before
pub none_before : (best next : Option TextFault) (faults : List TextFault) → next ≡ noted best faults → next ≡ None → best ≡ None
none_before None next faults is none = refl
none_before (Some best) next faults is none = absurd (noted_some best faults (sym is ∙ none))

-- and there are no faults
pub none_at_all : (best next : Option TextFault) (faults : List TextFault) → next ≡ noted best faults → next ≡ None → faults ≡ []
none_at_all None next faults is none = none_noted faults (sym is ∙ none)
none_at_all (Some best) next faults is none = absurd (noted_some best faults (sym is ∙ none))

-- a plan may have no streams
pub empty_is_plan : IsPlan (record { budget = 0; streams = []; signals = [] })
empty_is_plan = record {
  small = record {
    budget = omega arith;
    stream_count = omega arith;
    signal_count = omega arith;
    streams = All-nil IsSmallStream;
    signals = All-nil IsSmallParcel;
  };
  signals = All-nil (λ (s : StreamModel). All (KnowsSignal 0) s.code);
  parcels = record { streams = All-nil (λ (s : StreamModel). IsOrderedParcel s.holds); signals = All-nil IsOrderedParcel };
}
