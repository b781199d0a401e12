-- Replies to `moves` and `drain`: what a planner has answered, and the text of a plan.
use Rattle.std.proofs.Common.{◌≡◌, ◌∙◌, ◌++◌, ◌∷◌, [], ℕ, Bool, true, false, IsUtf8, List, Option, Some, None, Result, Ok, Err, IfOk, OnOk, ap, refl, subst, sym}
use Rattle.std.specs.Prelude.{IfErr, codes, if◌then◌else◌}
use Rattle.std.specs.Str.{is_utf8}
use Rattle.std.proofs.lemmas.Str.{IsUtf8-from_is_utf8}
use Rattle.json.specs.Lex.{tokens}
use Rattle.json.specs.Token.{Token, key}
use Rattle.serde_json.specs.Data.{Data}
use Rattle.serde_json.specs.Read.{read}
use Rattle.sm_placement.specs.Setup.{Setup, names_of_servers, names_of_shards}
use Rattle.sm_plan_code.specs.Plan.{PlanModel}
use Rattle.sm_plan_code.specs.declared.moves.Move.{Move}
use Rattle.sm_verifier.specs.Checked.{CheckedModel}
use Rattle.sm_plan_text.specs.PlanTexts.{plan_text}
use Rattle.sm_plan_text.specs.Reading.{read_plan, read_plan_data}
use Rattle.sm_machine.specs.Machine.{MachineModel}
use Rattle.sm_planner.specs.Basis.{basis_now}
use Rattle.sm_planner.specs.Drain.{IsDrainPlan, IsNoDrainFor}
use Rattle.sm_planner.specs.Refusal.{IsNoPlanFor, IsPlanOf}
use Rattle.sm_planner.specs.declared.refusal.NoPlan.{NoPlan}
use Rattle.smpland_lines.proofs.Written.{next}
use Rattle.smpland_lines.specs.BadLines.{told_bad}
use Rattle.smpland_lines.specs.declared.bad_line.BadLine.{BadLine}
use Rattle.smpland_state.specs.Copies.{good_tokens}
use Rattle.smpland_session.specs.Planned.{Made, Malformed, NotMade, Planned, TellsDrain, TellsMade, TellsMoves, TellsPlanned, plan_member}

-- what is read as a plan is UTF-8
read_is_utf8 : (shards servers : List (List ℕ)) (bytes : List ℕ) (plan : PlanModel) → read_plan shards servers bytes ≡ Ok plan → IsUtf8 bytes
read_is_utf8 shards servers bytes plan is = by_test (is_utf8 bytes) refl is
  where
    by_test : (b : Bool) → is_utf8 bytes ≡ b → read_plan_data shards servers (if b then read bytes else None) ≡ Ok plan → IsUtf8 bytes
    by_test true utf8 is = IsUtf8-from_is_utf8 bytes utf8
    by_test false utf8 is = absurd (let z = is in cc)

-- a plan is written by way of its text
pub plan_written : {A E : Type 0} (r : Result A E) (setup : Setup) (plan : PlanModel) (text : List ℕ) (before mid after : List Token) →
    read_plan (names_of_shards setup) (names_of_servers setup) text ≡ Ok plan → text ≡ plan_text (names_of_shards setup) (names_of_servers setup) plan →
    mid ≡ before ++ key (codes "plan") ∷ [] → OnOk r (IsUtf8 text → after ≡ mid ++ good_tokens (tokens text)) →
    OnOk r (after ≡ before ++ plan_member setup plan)
plan_written (Ok x) setup plan text before mid after reads is e told =
    next before (key (codes "plan") ∷ []) _ e
    (told (read_is_utf8 (names_of_shards setup) (names_of_servers setup) text plan reads) ∙ ap (λ (t : List ℕ). mid ++ good_tokens (tokens t)) is)
plan_written (Err x) setup plan text before mid after reads is e told = tt

-- what a planner has answered is a plan of the kind that was asked for, or why there is none
planned : (setup : Setup) (IsMade : PlanModel → Type 0) (IsNone : NoPlan → Type 0) (answer : Result CheckedModel NoPlan) (before after : List Token) →
    IfOk answer (λ checked. IsMade checked.plan) → IfErr answer IsNone → TellsMade setup answer before after → TellsPlanned setup IsMade IsNone before after
planned setup IsMade IsNone (Ok checked) before after made none told = Made checked.plan made told
planned setup IsMade IsNone (Err why) before after made none told = NotMade why none told

module _ {A E : Type 0} (r : Result A E) (m n : MachineModel) (config : Setup) (answer : Result CheckedModel NoPlan) (before after : List Token) (same : n ≡ m)
    (is : config ≡ n.placement.setup) where
  -- so it is with the moves of a line
  pub moves_told : (moves : List Move) → IfOk answer (λ checked. IsPlanOf (basis_now n) moves checked.plan) → IfErr answer (IsNoPlanFor (basis_now n) moves) →
      OnOk r (TellsMade config answer before after) → OnOk r (TellsMoves m before after)
  moves_told moves made none told = subst (λ (k : MachineModel). OnOk r (TellsMoves k before after)) same (by_answer r told)
    where
      by_answer : (r : Result A E) → OnOk r (TellsMade config answer before after) → OnOk r (TellsMoves n before after)
      by_answer (Ok x) told = Planned moves (planned n.placement.setup (IsPlanOf (basis_now n) moves) (IsNoPlanFor (basis_now n) moves) answer before after made none
          (subst (λ (s : Setup). TellsMade s answer before after) is told))
      by_answer (Err x) told = tt

  -- and with a server
  pub drain_told : (v : ℕ) → IfOk answer (λ checked. IsDrainPlan (basis_now n) v checked.plan) → IfErr answer (IsNoDrainFor (basis_now n) v) →
      OnOk r (TellsMade config answer before after) → OnOk r (TellsDrain m (Some v) before after)
  drain_told v made none told = subst (λ (k : MachineModel). OnOk r (TellsDrain k (Some v) before after)) same (by_answer r told)
    where
      by_answer : (r : Result A E) → OnOk r (TellsMade config answer before after) → OnOk r (TellsDrain n (Some v) before after)
      by_answer (Ok x) told = planned n.placement.setup (IsDrainPlan (basis_now n) v) (IsNoDrainFor (basis_now n) v) answer before after made none
          (subst (λ (s : Setup). TellsMade s answer before after) is told)
      by_answer (Err x) told = tt

-- what is wrong with moves is told
pub bad_moves_told : {A E : Type 0} (r : Result A E) (m : MachineModel) (fault : BadLine) (before after : List Token) → OnOk r (after ≡ before ++ told_bad fault) →
    OnOk r (TellsMoves m before after)
bad_moves_told (Ok x) m fault before after told = Malformed fault told
bad_moves_told (Err x) m fault before after told = tt
