-- The answer of `all`, if its test decides a property of each element.
use Rattle.std.proofs.Common.{◌↔◌, ◌<◌, ℕ, IsTrue, Bool, true, false, List, length, All, refl}
use Rattle.std.specs.Bool.{MatchBool}
use Rattle.std.specs.List.{AllWithin, HoldsAt}
use Rattle.std.proofs.lemmas.List.Elements.{All-from_all_within}
use Rattle.std.proofs.lemmas.Iterator.Search.{true_from_All}

-- it is true exactly where each element has the property
pub true_iff_All : {X : Type 0} (P : X → Type 0) (r : Bool) (xs : List X) → MatchBool r (AllWithin P xs 0 (length xs)) ((k : ℕ) × (k < length xs) × HoldsAt (λ x. ¬ P x) xs k) → IsTrue r ↔ All P xs
true_iff_All P true xs h = (λ _. All-from_all_within P xs h, λ _. refl)
true_iff_All P false xs h = (λ e. cc, λ each. true_from_All P (λ x. ¬ P x) false xs (λ x p q. q p) h each)
