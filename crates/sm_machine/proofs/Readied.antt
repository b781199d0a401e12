-- Plans that are ready to start hold nothing.
use Rattle.std.proofs.Common.{◌≡◌, ◌<◌, ◌+◌, ◌++◌, ◌∷◌, [], ℕ, zero, suc, List, All, length, get_or, map, refl, sym, ap, ◌∙◌, subst, arith, inl, inr}
use Rattle.std.proofs.lemmas.List.Elements.{All-map, All-nil, All-cons, All-append}
use Rattle.std.proofs.lemmas.Bool.{cases_eq}
use Rattle.sm_protocol.proofs.Starts.{length_push, get_push_old, get_push_new}
use Rattle.sm_reservation.specs.Rights.{Rights}
use Rattle.std.specs.Prelude.{slice_index}
use Rattle.sm_placement.specs.Setup.{Sizes}
use Rattle.sm_verifier.specs.Checked.{CheckedModel}
use Rattle.sm_verifier.specs.Peak.{IsPeak}
use Rattle.sm_verifier.specs.Stream.{stream_at}
use Rattle.sm_machine.specs.Started.{ArePeaksOf}
use Rattle.sm_machine.specs.Course.{CourseModel}
use Rattle.sm_machine.specs.Begun.{CarriedModel}
use Rattle.sm_machine.specs.Starts.{ready_course, ready_signal, first_courses, IsEmptyCourse, IsEmptyCarried}

first_empty : (peaks : ℕ → ℕ) (n : ℕ) → All IsEmptyCourse (first_courses peaks n)
first_empty peaks zero = All-nil IsEmptyCourse
first_empty peaks (suc n) = All-append IsEmptyCourse (first_courses peaks n) (ready_course (peaks n) ∷ []) (first_empty peaks n) (All-cons IsEmptyCourse (ready_course (peaks n)) [] refl (All-nil IsEmptyCourse))

-- no stream of a plan that is ready to start holds anything
pub courses_empty : (xs : List CourseModel) (peaks : ℕ → ℕ) (n : ℕ) → xs ≡ first_courses peaks n → All IsEmptyCourse xs
courses_empty xs peaks n e = subst (All IsEmptyCourse) (sym e) (first_empty peaks n)

-- and no signal of it carries anything
pub signals_empty : (xs : List CarriedModel) (ps : List Rights) → xs ≡ map ready_signal ps → All IsEmptyCarried xs
signals_empty xs ps e = subst (All IsEmptyCarried) (sym e) (All-map IsEmptyCarried ready_signal ps (λ k d l. refl))

-- the list of the first n streams has n of them
pub first_count : (peaks : ℕ → ℕ) (n : ℕ) → length (first_courses peaks n) ≡ n
first_count peaks zero = refl
first_count peaks (suc n) = length_push (first_courses peaks n) (ready_course (peaks n)) ∙ ap suc (first_count peaks n)

-- so has a list that is equal to it
pub courses_count : (xs : List CourseModel) (peaks : ℕ → ℕ) (n : ℕ) → xs ≡ first_courses peaks n → length xs ≡ n
courses_count xs peaks n e = ap length e ∙ first_count peaks n

-- each of the first n streams has made nothing, holds nothing and has a capacity of its own
pub first_at : (peaks : ℕ → ℕ) (n i : ℕ) (d : CourseModel) → i < n → get_or (first_courses peaks n) i d ≡ ready_course (peaks i)
first_at peaks zero i d l = absurd (omega arith)
first_at peaks (suc n) i d l = elim (cases_eq i n) [
  | inl e ↦ rw e (ap (λ k. get_or (first_courses peaks n ++ ready_course (peaks n) ∷ []) k d) (sym (first_count peaks n)) ∙ get_push_new (first_courses peaks n) (ready_course (peaks n)) d)
  | inr e ↦ get_push_old (first_courses peaks n) (ready_course (peaks n)) i d (subst (λ k. i < k) (sym (first_count peaks n)) (omega arith)) ∙ first_at peaks n i d (omega arith)
]

-- one stream more
pub first_more : (peaks : ℕ → ℕ) (n peak : ℕ) (xs ys : List CourseModel) → xs ≡ first_courses peaks n → ys ≡ xs ++ ready_course peak ∷ [] → peak ≡ peaks n → ys ≡ first_courses peaks (n + 1)
first_more peaks n peak xs ys e f g =
    let one : suc n ≡ n + 1 = omega arith in
    subst (λ k. ys ≡ first_courses peaks k) one (f ∙ ap (λ zs. zs ++ ready_course peak ∷ []) e ∙ ap (λ k. first_courses peaks n ++ ready_course k ∷ []) g)

-- where the first n streams take their peaks, and the next one does, the first n + 1 do
pub peaks_more : (c : Sizes) (p : CheckedModel) (n peak : ℕ) → ArePeaksOf c p n → peak ≡ slice_index p.peaks n → IsPeak (stream_at c p.plan n) peak → ArePeaksOf c p (n + 1)
peaks_more c p n peak r e is i l = elim (cases_eq i n) [
  | inl here ↦ subst (λ k. IsPeak (stream_at c p.plan k) (slice_index p.peaks k)) (sym here) (subst (IsPeak (stream_at c p.plan n)) e is)
  | inr other ↦ r i (omega arith)
]
