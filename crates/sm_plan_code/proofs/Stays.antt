-- The parts of a placement that an instruction leaves as they are.
use Rattle.std.proofs.Common.{◌≡◌, ◌≢◌, ℕ, suc, ◌+◌, refl, sym, ap, ◌∙◌, inl, inr, Option, Some, None, Result, Ok, Err}
use Rattle.std.proofs.lemmas.Bool.{cases_eq}
use Rattle.sm_server.specs.declared.call.Cell.{Cell}
use Rattle.sm_server.specs.declared.call.Call.{Call}
use Rattle.sm_server.specs.declared.call.Call.TheVariants as call
use Rattle.sm_server.specs.declared.call.Refusal.{Refusal}
use Rattle.sm_placement.specs.declared.lead.Lead.{Lead}
use Rattle.sm_placement.specs.Setup.{Sizes}
use Rattle.sm_placement.specs.Place.{Place, set_cell, answer_at, called, publish}
use Rattle.sm_placement.specs.Lead.{lead_of}
use Rattle.sm_placement.proofs.Sums.{put-here, put-apart, put2-row, put2-apart}
use Rattle.sm_plan_code.specs.declared.instruction.Instr.{Instr}
use Rattle.sm_plan_code.specs.declared.instruction.Instr.TheVariants.{PrepareAdd, PrepareDrop, Add, Drop, Change, Publish, Unlist, Signal, Wait}
use Rattle.sm_plan_code.specs.After.{to_list}
use Rattle.sm_plan_code.specs.Acts.{acts, publishes, moved, other_role, numbers_after}
use Rattle.sm_plan_code.specs.Effects.{touched, published_shard, Stays}

-- a call that is served changes one cell
module _ (c : Sizes) (p q : Place) (s v : ℕ) (call : Call) (i : Instr) (here : touched i ≡ Some (s, v)) (quiet : published_shard i ≡ None) where
  by_answer : (r : Result Cell Refusal) → answer_at c p s v call ≡ r → called c p s v call ≡ Ok q → Stays p q i
  by_answer (Err why) a e = absurd (let wrong = rw a at e in cc)
  by_answer (Ok next) a e =
      let same : set_cell p s v next ≡ q = (let k = rw a at e in cc) in
      rw (← same) (record {
        cells = λ t w apart. elim (cases_eq t s) [
          | inl d ↦ elim (cases_eq w v) [
            | inl f ↦ absurd (apart (rw (d, f) here))
            | inr f ↦ rw d (put2-row p.cells s v next w f)
          ]
          | inr d ↦ put2-apart p.cells s v next t w d
        ];
        last = refl;
        limit = refl;
        entries = λ t apart. (refl, refl);
        version = λ t e. absurd (let wrong = sym quiet ∙ e in cc);
      })

  pub by_call : (numbers next : ℕ → ℕ) → moved (called c p s v call) numbers ≡ Some (q, next) → (numbers ≡ next) × Stays p q i
  by_call numbers next e = go (called c p s v call) refl
    where
      go : (r : Result Place Refusal) → called c p s v call ≡ r → (numbers ≡ next) × Stays p q i
      go (Err why) f = absurd (let wrong = rw f at e in cc)
      go (Ok x) f =
          let k : ◌≡◌ {A = Option (Place × (ℕ → ℕ))} (Some (x, numbers)) (Some (q, next)) = rw f at e in
          let pair : ◌≡◌ {A = Place × (ℕ → ℕ)} (x, numbers) (q, next) = cc in
          (ap (λ (z : Place × (ℕ → ℕ)). z.1) pair, by_answer (answer_at c p s v call) refl (f ∙ ap (λ (z : Place × (ℕ → ℕ)). Ok z.0) pair))

-- a publication changes one entry
module _ (p q : Place) (s : ℕ) (listed : Option ℕ) (i : Instr) (here : published_shard i ≡ Some s) (numbers next : ℕ → ℕ) where
  by_publication : ◌≡◌ {A = Option (Place × (ℕ → ℕ))} (Some (publish p s listed, numbers)) (Some (q, next)) → (next ≡ numbers) × Stays p q i
  by_publication e =
      let pair : ◌≡◌ {A = Place × (ℕ → ℕ)} (publish p s listed, numbers) (q, next) = cc in
      let place : publish p s listed ≡ q = ap (λ (z : Place × (ℕ → ℕ)). z.0) pair in (
        sym (ap (λ (z : Place × (ℕ → ℕ)). z.1) pair),
        rw (← place) (record {
          cells = λ t w apart. refl;
          last = refl;
          limit = refl;
          entries = λ t apart. let other : t ≢ s = λ d. apart (here ∙ ap Some (sym d)) in (put-apart p.listed s listed t other, put-apart p.version s (suc (p.version s)) t other);
          version = λ t e. let same : s ≡ t = (let d = sym here ∙ e in cc) in rw (← same) (put-here p.version s (suc (p.version s)) s refl);
        }),
      )

by_publish : (p q : Place) (s : ℕ) (o : Option Lead) (numbers next : ℕ → ℕ) → publishes p s o numbers ≡ Some (q, next) → (next ≡ numbers) × Stays p q (Publish s)
by_publish p q s None numbers next e = cc
by_publish p q s (Some lead) numbers next e = by_publication p q s (to_list lead) (Publish s) refl numbers next e

-- a signal and a wait change nothing
unchanged : (p q : Place) (i : Instr) → published_shard i ≡ None → (numbers next : ℕ → ℕ) → ◌≡◌ {A = Option (Place × (ℕ → ℕ))} (Some (p, numbers)) (Some (q, next)) → (next ≡ numbers) × Stays p q i
unchanged p q i quiet numbers next e =
    let pair : ◌≡◌ {A = Place × (ℕ → ℕ)} (p, numbers) (q, next) = cc in
    let place : p ≡ q = ap (λ (z : Place × (ℕ → ℕ)). z.0) pair in (
      sym (ap (λ (z : Place × (ℕ → ℕ)). z.1) pair),
      rw (← place) (record {
        cells = λ t w apart. refl;
        last = refl;
        limit = refl;
        entries = λ t apart. (refl, refl);
        version = λ t e. absurd (let wrong = sym quiet ∙ e in cc);
      }),
    )

turned : {A B : Type 0} {x y : A} → (x ≡ y) × B → (y ≡ x) × B
turned h = (sym h.0, h.1)

-- what an instruction leaves as it is, and the highest handover numbers after it
pub acts_stay : (c : Sizes) (p q : Place) (numbers next : ℕ → ℕ) (i : Instr) → acts c p numbers i ≡ Some (q, next) → (next ≡ numbers_after numbers i) × Stays p q i
acts_stay c p q numbers next (PrepareAdd s v u) e = turned (by_call c p q s v (call.PrepareAdd u (numbers s + 1)) (PrepareAdd s v u) refl refl (numbers_after numbers (PrepareAdd s v u)) next e)
acts_stay c p q numbers next (PrepareDrop s u v) e = turned (by_call c p q s u (call.PrepareDrop v (numbers s)) (PrepareDrop s u v) refl refl numbers next e)
acts_stay c p q numbers next (Add s v role) e = turned (by_call c p q s v (call.Add role) (Add s v role) refl refl numbers next e)
acts_stay c p q numbers next (Drop s v) e = turned (by_call c p q s v call.Drop (Drop s v) refl refl numbers next e)
acts_stay c p q numbers next (Change s v to) e = turned (by_call c p q s v (call.Change (other_role to) to) (Change s v to) refl refl numbers next e)
acts_stay c p q numbers next (Publish s) e = by_publish p q s (lead_of c.servers (p.cells s)) numbers next e
acts_stay c p q numbers next (Unlist s) e = by_publication p q s None (Unlist s) refl numbers next e
acts_stay c p q numbers next (Signal k) e = unchanged p q (Signal k) refl numbers next e
acts_stay c p q numbers next (Wait k) e = unchanged p q (Wait k) refl numbers next e
