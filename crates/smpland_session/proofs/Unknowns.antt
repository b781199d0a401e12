-- The first of some names that no server has.
use Rattle.std.proofs.Common.{◌≡◌, ◌∙◌, Bool, true, false, Bor, List, [], ◌∷◌, ℕ, Option, Some, None, ap, cond, find, map, option_map, refl}
use Rattle.std.specs.Prelude.{is_none}
use Rattle.sm_placement.specs.Setup.{Setup, server_named}
use Rattle.smpland_session.specs.Lost.{first_unknown_server}

module _ {A B : Type 0} (v : A → B) (test : B → Bool) where
  by_head : (b : Bool) (x : A) (found : Option A) (rest : Option B) → option_map v found ≡ rest → option_map v (cond b (Some x) found) ≡ cond b (Some (v x)) rest
  by_head true x found rest same = refl
  by_head false x found rest same = same

  -- what is found among items is found among what they stand for
  find_map : (xs : List A) → option_map v (find (λ x. test (v x)) xs) ≡ find test (map v xs)
  find_map [] = refl
  find_map (x ∷ xs) = by_head (test (v x)) x (find (λ y. test (v y)) xs) (find test (map v xs)) (find_map xs)

-- the first of these names that no server of the configuration has
pub unknown_among : (found : Option Setup) (setup : Setup) (names : List (Bor (List ℕ))) (name : Option (List ℕ)) → Some setup ≡ found →
    name ≡ option_map (λ name. name.now) (find (λ name. is_none (server_named setup name.now)) names) →
    name ≡ first_unknown_server found (map (λ name. name.now) names)
unknown_among found setup names name is told =
    told ∙ find_map (λ (name : Bor (List ℕ)). name.now) (λ name. is_none (server_named setup name)) names
    ∙ ap (λ s. first_unknown_server s (map (λ name. name.now) names)) is

-- without one each may be a server's
pub none_unknown : (found : Option Setup) (names : List (List ℕ)) → None ≡ found → None ≡ first_unknown_server found names
none_unknown found names is = ap (λ s. first_unknown_server s names) is
