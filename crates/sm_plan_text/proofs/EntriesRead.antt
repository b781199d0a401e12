-- A list that is read entry by entry, one entry on.
use Rattle.std.proofs.Common.{◌≡◌, ◌∙◌, ◌+◌, ◌-◌, ◌<◌, ◌≤◌, ℕ, List, [], ◌∷◌, ◌++◌, length, map, Option, Some, None, ap, sym, arith}
use Rattle.std.proofs.lemmas.List.{map_push, length_push}
use Rattle.json.specs.Token.{Token}
use Rattle.json.specs.Json.{Json, Parse, items, parse_map, after_end_array}
use Rattle.serde_json.specs.Data.{Data}
use Rattle.serde_json.specs.Read.{of_json, of_items, converted}
use Rattle.json_tree.proofs.Turns.{item_read}
use Rattle.sm_plan_text.specs.declared.fault.TextFault.{TextFault}
use Rattle.sm_plan_text.specs.Faults.{noted, answered}
use Rattle.sm_plan_text.specs.Tables.{walked}
use Rattle.sm_plan_text.proofs.WalkLemmas.{noted_append}
use Rattle.sm_plan_text.proofs.PlanLemmas.{none_before}
use Rattle.sm_plan_text.proofs.OutlineLemmas.{before, one_more, walked_push}

-- what has been read of a list: its first entries, what is wrong with them, and their values where nothing is
abbrev pub HaveRead : {V : Type 0} → (Data → List TextFault) → (Data → V) → Type 0 → Parse Json → List Token → List Token → Option TextFault → List V → Type 0
HaveRead faults value_of ids p start now lowest values =
    (done : List Data) × (n : ℕ) × (length now ≤ n)
    × (converted of_items (items p (length start) start) ≡ parse_map (before done) (converted of_items (items p n now)))
    × (length now ≤ length start)
    × (lowest ≡ answered (walked (λ _ entry. faults entry) [] done))
    × (length values ≡ length done)
    × (ids → lowest ≡ None → values ≡ map value_of done)

-- with an entry more
pub one_more_read : {V : Type 0} (faults : Data → List TextFault) (value_of : Data → V) (ids : Type 0) (p : Parse Json) (start now rest : List Token) (best next : Option TextFault) (old new : List V) (d : Data) (v : V)
    → HaveRead faults value_of ids p start now best old → after_end_array now ≡ None → converted of_json (p now) ≡ Some (d, rest) → length rest < length now
    → next ≡ noted best (faults d) → (ids → next ≡ None → v ≡ value_of d) → new ≡ old ++ v ∷ []
    → HaveRead faults value_of ids p start rest next new
one_more_read faults value_of ids p start now rest best next old new d v so_far going read less is value pushed =
    let done : List Data = so_far.0 in
    let n : ℕ = so_far.1 in
    let few : length now ≤ n = so_far.2 in
    let within : length now ≤ length start = so_far.4 in
    let turn = item_read p n now rest d (omega arith) going read in
    let all : List Data → Data → List TextFault = λ _ entry. faults entry in (
      done ++ d ∷ [],
      n - 1,
      omega arith,
      so_far.3 ∙ ap (parse_map (before done)) turn ∙ one_more done d _,
      omega arith,
      is ∙ ap (λ lowest. noted lowest (faults d)) so_far.5 ∙ sym (noted_append None (walked all [] done) (faults d)) ∙ ap answered (sym (walked_push all [] done d)),
      ap length pushed ∙ length_push old v ∙ ap (λ k. k + 1) so_far.6 ∙ sym (length_push done d),
      λ known none. pushed ∙ ap (λ values. values ++ v ∷ []) (so_far.7 known (none_before _ _ (faults d) is none))
          ∙ ap (λ value. map value_of done ++ value ∷ []) (value known none) ∙ sym (map_push value_of done d),
    )
