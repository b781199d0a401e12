-- Laws of the decisions on copies.
use Rattle.std.specs.Prelude.{◌≡◌, ◌↔◌, ◌<◌, ◌≤◌, ◌⊎◌, ℕ, true, List, length}
use Rattle.sm_copies.specs.declared.order.ToldCopy.{ToldCopy}
use Rattle.sm_copies.specs.Order.{IsLesser}
use Rattle.sm_copies.specs.Views.{Resumes}
use Rattle.sm_copies.specs.Counting.{IsAcknowledged}
use Rattle.sm_copies.specs.Lists.{ListEntry, begins, told_of, view_of, views_of}

-- Copies stand in one order: none is less than itself, what is less than a lesser one is less, and of two that differ
-- one is less.
pub record ComparesInOneOrder : Type 0 where
  pub apart : (a : ToldCopy) → IsLesser a a → ⊥
  pub through : (a b c : ToldCopy) → IsLesser a b → IsLesser b c → IsLesser a c
  pub total : (a b : ToldCopy) → IsLesser a b ⊎ ((a ≡ b) ⊎ IsLesser b a)

-- A copy goes on behind a source exactly if it is a beginning of the source's list, as long as it is of one list with
-- each of the source's beginnings that has its view.
abbrev pub ResumesAtABeginning : Type 0
ResumesAtABeginning = (copy source : List ListEntry) → 0 < length copy →
    ((front : List ListEntry) → begins front source ≡ true → view_of front ≡ view_of copy → length copy ≤ length front
    → begins copy front ≡ true) →
    (Resumes (told_of copy) (views_of source) (length source) ↔ (begins copy source ≡ true))

-- There is one position up to which a primary acknowledges.
abbrev pub AcknowledgesOnePosition : Type 0
AcknowledgesOnePosition = (copies : ℕ) (own : ToldCopy) (told : List ToldCopy) (one other : ℕ) →
    IsAcknowledged copies own told one → IsAcknowledged copies own told other → one ≡ other
