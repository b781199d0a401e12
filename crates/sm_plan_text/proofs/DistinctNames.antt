-- Names of which none stands twice: a set keeps each of them, in their order.
use Rattle.std.proofs.Common.{◌≡◌, ◌++◌, ℕ, Bool, true, false, cond, List, [], ◌∷◌, ◌+◌, ◌<◌, length, take, drop, get_or, refl, ap, sym, ◌∙◌, append_assoc, true≢false}
use Rattle.std.specs.List.{list_any}
use Rattle.std.specs.Str.{bytes_eq}
use Rattle.std.proofs.lemmas.List.{drop_more, take_more, take-append-drop}
use Rattle.indexmap.specs.IndexSet.{insert_key}
use Rattle.sm_placement.specs.Names.{has_double}
use Rattle.sm_placement.specs.Setup.{Setup, IsSetup, names_of_servers, names_of_shards}
use Rattle.sm_placement.proofs.DoubleLemmas.{has_double_push, has_double_append}
use Rattle.sm_placement.proofs.NamedLemmas.{or_first as or_left, or_second as or_right}

single_front : (b : Bool) (front back : List (List ℕ)) → has_double front ≡ b → has_double (front ++ back) ≡ false → b ≡ false
single_front true front back e h = absurd (true≢false (sym (has_double_append front back e) ∙ h))
single_front false front back e h = refl

-- where a name comes next that none of these is, it is taken
pub new_taken : (names rest : List (List ℕ)) (name : List ℕ) → has_double (names ++ name ∷ rest) ≡ false → insert_key bytes_eq names name ≡ names ++ name ∷ []
new_taken names rest name h =
    let single : has_double (names ++ name ∷ []) ≡ false = single_front _ (names ++ name ∷ []) rest refl (ap has_double (append_assoc names (name ∷ []) rest) ∙ h) in
    ap (λ b. cond b names (names ++ name ∷ [])) (or_right (has_double names) (list_any (bytes_eq name) names) (sym (has_double_push names name) ∙ single))

-- the names so far, one name on
pub taken_more : (names : List (List ℕ)) (i : ℕ) (name : List ℕ) (old new : List (List ℕ)) → i < length names → name ≡ get_or names i name → has_double names ≡ false → old ≡ take i names → new ≡ insert_key bytes_eq old name → new ≡ take (i + 1) names
taken_more names i name old new h at single is_old is_new =
    let rest : List (List ℕ) = drop (i + 1) names in
    let split : take i names ++ name ∷ rest ≡ names =
    ap (λ n. take i names ++ n ∷ rest) at ∙ ap (λ ns. take i names ++ ns) (sym (drop_more names i name h)) ∙ take-append-drop i names in
    is_new ∙ ap (λ ns. insert_key bytes_eq ns name) is_old ∙
    new_taken (take i names) rest name (ap has_double split ∙ single) ∙
    ap (λ n. take i names ++ n ∷ []) at ∙
    sym (take_more names i name h)

-- no two servers of a configuration have one name
pub single_servers : (setup : Setup) → IsSetup setup → has_double (names_of_servers setup) ≡ false
single_servers setup is = or_left (has_double (names_of_servers setup)) (has_double (names_of_shards setup)) is.distinct_names

-- and no two shards
pub single_shards : (setup : Setup) → IsSetup setup → has_double (names_of_shards setup) ≡ false
single_shards setup is = or_right (has_double (names_of_servers setup)) (has_double (names_of_shards setup)) is.distinct_names
