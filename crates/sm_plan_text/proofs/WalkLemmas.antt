-- A walk over the entries of a list, one entry after another.
use Rattle.std.proofs.Common.{◌≡◌, ◌++◌, ◌+◌, ◌<◌, ◌≤◌, ℕ, List, [], ◌∷◌, length, take, drop, get_or, map, Option, Some, refl, ap, sym, ◌∙◌, subst, append_assoc, add-zero, arith}
use Rattle.std.specs.List.{enumerate_from, flat_map}
use Rattle.std.proofs.lemmas.List.{drop_more, take_more, drop_all, get_or-map, length-map, map_push}
use Rattle.serde_json.specs.Data.{Data}
use Rattle.json_tree.specs.View.{view}
use Rattle.json_tree.specs.declared.tree.Tree.{Tree}
use Rattle.sm_plan_text.specs.declared.fault.TextFault.{TextFault}
use Rattle.sm_plan_text.specs.Faults.{noted, lower_fault}
use Rattle.sm_plan_text.specs.Tables.{walked}

-- the faults of one part and then of the next
pub noted_append : (best : Option TextFault) (xs ys : List TextFault) → noted best (xs ++ ys) ≡ noted (noted best xs) ys
noted_append best [] ys = refl
noted_append best (x ∷ xs) ys = noted_append (Some (lower_fault best x)) xs ys

-- what is left of a walk, one entry on
pub walked_more : (faults : List Data → Data → List TextFault) (ds : List Data) (i : ℕ) (d : Data) (best next : Option TextFault) → i < length ds → d ≡ get_or ds i d → next ≡ noted best (faults (take i ds) d) → noted next (walked faults (take (i + 1) ds) (drop (i + 1) ds)) ≡ noted best (walked faults (take i ds) (drop i ds))
walked_more faults ds i d best next h is e =
    ap (λ b. noted b (walked faults (take (i + 1) ds) (drop (i + 1) ds))) e ∙
    ap (λ front. noted (noted best (faults (take i ds) d)) (walked faults front (drop (i + 1) ds))) (take_more ds i d h ∙ ap (λ x. take i ds ++ x ∷ []) (sym is)) ∙
    sym (noted_append best (faults (take i ds) d) (walked faults (take i ds ++ d ∷ []) (drop (i + 1) ds))) ∙
    sym (ap (λ rest. noted best (walked faults (take i ds) rest)) (drop_more ds i d h ∙ ap (λ x. x ∷ drop (i + 1) ds) (sym is)))

-- at the end of a walk
pub walked_all : (faults : List Data → Data → List TextFault) (before ds : List Data) (i : ℕ) (best : Option TextFault) → length ds ≤ i → noted best (walked faults before (drop i ds)) ≡ best
walked_all faults before ds i best h = ap (λ rest. noted best (walked faults before rest)) (drop_all i ds h)

-- the entry of a list that a loop has come to
pub entry_at : (items : List Tree) (i : ℕ) (item : Tree) → i < length items → item ≡ get_or items i item → view item ≡ get_or (map view items) i (view item)
entry_at items i item h is = ap view is ∙ sym (get_or-map view items i item (view item) h)

-- the entries before the next one
pub take_view : (items : List Tree) (i : ℕ) (item : Tree) → i < length items → item ≡ get_or items i item → take (i + 1) (map view items) ≡ take i (map view items) ++ view item ∷ []
take_view items i item h is =
    take_more (map view items) i (view item) (subst (λ n. i < n) (sym (length-map items view)) h) ∙
    ap (λ d. take i (map view items) ++ d ∷ []) (sym (entry_at items i item h is))

-- a function of the entries so far, one entry on
pub at_take_view : {A : Type 0} (f : List Data → A) (items : List Tree) (i : ℕ) (item : Tree) → i < length items → item ≡ get_or items i item → f (take (i + 1) (map view items)) ≡ f (take i (map view items) ++ view item ∷ [])
at_take_view f items i item h is = ap f (take_view items i item h is)

-- what is left of a walk over the items of a tree's list, one item on
pub walked_step : (faults : List Data → Data → List TextFault) (items : List Tree) (i : ℕ) (item : Tree) (best next : Option TextFault) → i < length items → item ≡ get_or items i item → next ≡ noted best (faults (take i (map view items)) (view item)) → noted next (walked faults (take (i + 1) (map view items)) (drop (i + 1) (map view items))) ≡ noted best (walked faults (take i (map view items)) (drop i (map view items)))
walked_step faults items i item best next h is e =
    walked_more faults (map view items) i (view item) best next (subst (λ n. i < n) (sym (length-map items view)) h) (entry_at items i item h is) e

-- the same where the faults of an entry do not depend on those before it
pub flat_step : (faults : Data → List TextFault) (items : List Tree) (i : ℕ) (item : Tree) (best next : Option TextFault) → i < length items → item ≡ get_or items i item → next ≡ noted best (faults (view item)) → noted next (flat_map faults (drop (i + 1) (map view items))) ≡ noted best (flat_map faults (drop i (map view items)))
flat_step faults items i item best next h is e =
    let rest : List Data = drop (i + 1) (map view items) in
    ap (λ b. noted b (flat_map faults rest)) e ∙
    sym (noted_append best (faults (view item)) (flat_map faults rest)) ∙
    sym (ap (λ ds. noted best (flat_map faults ds)) (drop_more (map view items) i (view item) (subst (λ n. i < n) (sym (length-map items view)) h) ∙ ap (λ d. d ∷ rest) (sym (entry_at items i item h is))))

-- with one entry more, it comes under the next number
pub enumerate_push : {A : Type 0} (n : ℕ) (xs : List A) (x : A) → enumerate_from n (xs ++ x ∷ []) ≡ enumerate_from n xs ++ (n + length xs, x) ∷ []
enumerate_push n [] x = ap (λ k. (k, x) ∷ []) (sym (add-zero n))
enumerate_push n (y ∷ ys) x = ap (λ zs. (n, y) ∷ zs) (enumerate_push (n + 1) ys x ∙ ap (λ k. enumerate_from (n + 1) ys ++ (k, x) ∷ []) (omega arith))

-- what a loop has made of the entries so far, one entry on
pub step_on : {A : Type 0} (f : List Data → A) (items : List Tree) (i : ℕ) (item : Tree) (new : A) → i < length items → item ≡ get_or items i item → new ≡ f (take i (map view items) ++ view item ∷ []) → new ≡ f (take (i + 1) (map view items))
step_on f items i item new h is e = e ∙ sym (at_take_view f items i item h is)

-- the same where each entry adds one
pub mapped_step : {A : Type 0} (f : Data → A) (items : List Tree) (i : ℕ) (item : Tree) (start old new : List A) → i < length items → item ≡ get_or items i item → new ≡ old ++ f (view item) ∷ [] → old ≡ start ++ map f (take i (map view items)) → new ≡ start ++ map f (take (i + 1) (map view items))
mapped_step f items i item start old new h is e inv =
    let front : List Data = take i (map view items) in
    step_on (λ ds. start ++ map f ds) items i item new h is
    (e ∙ ap (λ xs. xs ++ f (view item) ∷ []) inv ∙ append_assoc start (map f front) (f (view item) ∷ []) ∙ ap (λ xs. start ++ xs) (sym (map_push f front (view item))))

-- entries in which nothing can be wrong
pub none_walked : (best : Option TextFault) (before ds : List Data) → noted best (walked (λ _ _. []) before ds) ≡ best
none_walked best before [] = refl
none_walked best before (d ∷ ds) = none_walked best (before ++ d ∷ []) ds
