-- Doubled keys of the entries of a list, found one entry after another.
use Rattle.std.proofs.Common.{◌≡◌, ◌++◌, ◌+◌, ◌<◌, ℕ, Bool, true, false, cond, ◌&&◌, ◌||◌, List, [], ◌∷◌, length, drop, get_or, map, Option, Some, None, option_map, unwrap_or, Bor, refl, ap, sym, ◌∙◌, append_assoc, subst, true≢false}
use Rattle.std.specs.List.{list_any}
use Rattle.std.specs.Str.{bytes_eq}
use Rattle.std.proofs.lemmas.Bool.{or_right}
use Rattle.std.proofs.lemmas.Cmp.{nat_list_eq_equiv}
use Rattle.std.specs.Cmp.Lexicographic.{pointwise}
use Rattle.std.proofs.lemmas.List.{map_push, drop_more, length-map}
use Rattle.std.proofs.lemmas.List.Folds.{list_any-append}
use Rattle.indexmap.specs.IndexSet.{insert_key}
use Rattle.serde_json.specs.Data.{Data}
use Rattle.json_tree.specs.View.{view}
use Rattle.json_tree.specs.declared.tree.Tree.{Tree}
use Rattle.sm_plan_text.specs.declared.member.Member.{Member}
use Rattle.sm_plan_text.specs.Values.{found, entries_in, items_of}
use Rattle.sm_plan_text.specs.Tables.{maybe, list, keyed, texts_eq, is_same_key, has_double_key, double_faults, found_faults, row_faults}
use Rattle.sm_plan_text.proofs.WalkLemmas.{entry_at}
use Rattle.sm_placement.proofs.DoubleLemmas.{or_more, or_swap}

-- the texts that a key is made of
abbrev pub Texts : Type 0
Texts = List (List ℕ)

-- the texts of a key, with one text more
pub one_text_more : (done : Texts) (s : List ℕ) (rest : Option Texts) → option_map (λ texts. (done ++ s ∷ []) ++ texts) rest ≡ option_map (λ texts. done ++ texts) (option_map (λ texts. s ∷ texts) rest)
one_text_more done s None = refl
one_text_more done s (Some texts) = ap Some (append_assoc done (s ∷ []) texts)

texts_sym : (xs ys : Texts) → texts_eq xs ys ≡ texts_eq ys xs
texts_sym [] [] = refl
texts_sym [] (y ∷ ys) = refl
texts_sym (x ∷ xs) [] = refl
texts_sym (x ∷ xs) (y ∷ ys) = ap (λ b. b && texts_eq xs ys) (nat_list_eq_equiv.symm x y) ∙ ap (λ b. bytes_eq y x && b) (texts_sym xs ys)

same_sym : (j k : Option Texts) → is_same_key j k ≡ is_same_key k j
same_sym None None = refl
same_sym None (Some ys) = refl
same_sym (Some xs) None = refl
same_sym (Some xs) (Some ys) = texts_sym xs ys

not_same_none : (k : Option Texts) → is_same_key k None ≡ false
not_same_none None = refl
not_same_none (Some texts) = refl

none_among : (keys : List (Option Texts)) → list_any (is_same_key None) keys ≡ false
none_among [] = refl
none_among (None ∷ keys) = none_among keys
none_among (Some texts ∷ keys) = none_among keys

-- an entry without a key doubles none
pub drop_none : (front back : List (Option Texts)) → has_double_key (front ++ None ∷ back) ≡ has_double_key (front ++ back)
drop_none [] back = ap (λ b. b || has_double_key back) (none_among back)
drop_none (k ∷ front) back =
    ap (λ b. b || has_double_key (front ++ None ∷ back))
    (list_any-append (is_same_key k) front (None ∷ back)
    ∙ ap (λ b. list_any (is_same_key k) front || (b || list_any (is_same_key k) back)) (not_same_none k)
    ∙ sym (list_any-append (is_same_key k) front back)) ∙
    ap (λ b. list_any (is_same_key k) (front ++ back) || b) (drop_none front back)

-- with a key more, a key is doubled where one was, or where the new one stood before
pub double_push : (keys : List (Option Texts)) (k : Option Texts) → has_double_key (keys ++ k ∷ []) ≡ (has_double_key keys || list_any (is_same_key k) keys)
double_push [] k = refl
double_push (j ∷ keys) k =
    ap (λ b. b || has_double_key (keys ++ k ∷ [])) (list_any-append (is_same_key j) keys (k ∷ [])) ∙
    ap (λ b. (list_any (is_same_key j) keys || (is_same_key j k || false)) || b) (double_push keys k) ∙
    or_swap (list_any (is_same_key j) keys) (is_same_key j k) (has_double_key keys) (list_any (is_same_key k) keys) ∙
    ap (λ b. (list_any (is_same_key j) keys || has_double_key keys) || (b || list_any (is_same_key k) keys)) (same_sym j k)

-- a doubled key stays doubled when keys follow
pub double_more : (keys more : List (Option Texts)) → has_double_key keys ≡ true → has_double_key (keys ++ more) ≡ true
double_more [] more h = absurd (true≢false (sym h))
double_more (k ∷ keys) more h =
    ap (λ b. b || has_double_key (keys ++ more)) (list_any-append (is_same_key k) keys more) ∙
    or_more (list_any (is_same_key k) keys) (has_double_key keys) (list_any (is_same_key k) more) (has_double_key (keys ++ more)) h (double_more keys more)

-- ---- texts that stand in a value

-- keys as their Rust values compare them
pub borrowed_texts : (xs ys : List (Bor (List ℕ))) → pointwise (λ x y. bytes_eq x.now y.now) xs ys ≡ texts_eq (map (λ s. s.now) xs) (map (λ s. s.now) ys)
borrowed_texts [] [] = refl
borrowed_texts [] (y ∷ ys) = refl
borrowed_texts (x ∷ xs) [] = refl
borrowed_texts (x ∷ xs) (y ∷ ys) = ap (λ b. bytes_eq x.now y.now && b) (borrowed_texts xs ys)

-- what is left of a list, from the entry that a loop has come to
pub rest_at : {A : Type 0} (f : Data → A) (items : List Tree) (i : ℕ) (item : Tree) → i < length items → item ≡ get_or items i item → map f (drop i (map view items)) ≡ f (view item) ∷ map f (drop (i + 1) (map view items))
rest_at f items i item h is =
    ap (map f) (drop_more (map view items) i (view item) (subst (λ n. i < n) (sym (length-map items view)) h) ∙ ap (λ d. d ∷ drop (i + 1) (map view items)) (sym (entry_at items i item h is)))

-- ---- keys that a set holds

module _ {K : Type 0} (texts : K → Texts) where
  -- the keys that a set holds, each as its texts
  abbrev pub held : List K → List (Option Texts)
  held keys = map (λ key. Some (texts key)) keys

  module _ (eq : K → K → Bool) (is : (x y : K) → eq x y ≡ texts_eq (texts x) (texts y)) where
    held_any : (key : K) (keys : List K) → list_any (eq key) keys ≡ list_any (is_same_key (Some (texts key))) (held keys)
    held_any key [] = refl
    held_any key (k ∷ keys) = λ i. is key k i || held_any key keys i

    -- a key that the set holds comes again
    pub held_again : (keys : List K) (key : K) (rest : List (Option Texts)) → list_any (eq key) keys ≡ true → has_double_key (held keys ++ Some (texts key) ∷ rest) ≡ true
    held_again keys key rest h =
        ap has_double_key (sym (append_assoc (held keys) (Some (texts key) ∷ []) rest)) ∙
        double_more (held keys ++ Some (texts key) ∷ []) rest
        (double_push (held keys) (Some (texts key)) ∙ ap (λ b. has_double_key (held keys) || b) (sym (held_any key keys) ∙ h) ∙ or_right (has_double_key (held keys)) true refl)

    -- the keys that a set holds, once it has a new one
    pub held_push : (keys : List K) (key : K) (rest : List (Option Texts)) → list_any (eq key) keys ≡ false → held (insert_key eq keys key) ++ rest ≡ held keys ++ Some (texts key) ∷ rest
    held_push keys key rest h =
        ap (λ b. held (cond b keys (keys ++ key ∷ [])) ++ rest) h ∙
        ap (λ ks. ks ++ rest) (map_push (λ k. Some (texts k)) keys key) ∙
        append_assoc (held keys) (Some (texts key) ∷ []) rest

    -- they stay single
    pub held_single : (keys : List K) (key : K) → list_any (eq key) keys ≡ false → has_double_key (held keys) ≡ false → has_double_key (held (insert_key eq keys key)) ≡ false
    held_single keys key h single =
        ap (λ b. has_double_key (held (cond b keys (keys ++ key ∷ [])))) h ∙
        ap has_double_key (map_push (λ k. Some (texts k)) keys key) ∙
        double_push (held keys) (Some (texts key)) ∙
        ap (λ b. b || list_any (is_same_key (Some (texts key))) (held keys)) single ∙
        sym (held_any key keys) ∙ h

    module _ (found : Data → Option Texts) (items : List Tree) (i : ℕ) (item : Tree) (keys : List K) (all : Bool) (here : i < length items) (at : item ≡ get_or items i item) (rest : has_double_key (held keys ++ map found (drop i (map view items))) ≡ all) where
      -- a loop meets a key that the set holds
      pub met_again : (key : K) → Some (texts key) ≡ found (view item) → list_any (eq key) keys ≡ true → true ≡ all
      met_again key is_key h =
          sym (held_again keys key (map found (drop (i + 1) (map view items))) h) ∙
          ap (λ k. has_double_key (held keys ++ k ∷ map found (drop (i + 1) (map view items)))) is_key ∙
          sym (ap (λ ks. has_double_key (held keys ++ ks)) (rest_at found items i item here at)) ∙
          rest

      -- a loop meets a new key
      pub met_new : (key : K) (new : List K) → Some (texts key) ≡ found (view item) → list_any (eq key) keys ≡ false → new ≡ insert_key eq keys key → has_double_key (held new ++ map found (drop (i + 1) (map view items))) ≡ all
      met_new key new is_key h is_new =
          ap (λ ks. has_double_key (held ks ++ map found (drop (i + 1) (map view items)))) is_new ∙
          ap has_double_key (held_push keys key (map found (drop (i + 1) (map view items))) h) ∙
          ap (λ k. has_double_key (held keys ++ k ∷ map found (drop (i + 1) (map view items)))) is_key ∙
          sym (ap (λ ks. has_double_key (held keys ++ ks)) (rest_at found items i item here at)) ∙
          rest

      -- a loop meets an entry without a key
      pub met_none : None ≡ found (view item) → has_double_key (held keys ++ map found (drop (i + 1) (map view items))) ≡ all
      met_none is_none =
          sym (drop_none (held keys) (map found (drop (i + 1) (map view items)))) ∙
          ap (λ k. has_double_key (held keys ++ k ∷ map found (drop (i + 1) (map view items)))) is_none ∙
          sym (ap (λ ks. has_double_key (held keys ++ ks)) (rest_at found items i item here at)) ∙
          rest

-- ---- the faults of a list with keys

keyed_at : (m : Member) (limit : ℕ) (key : List Member) (o : Option Data) → found_faults (maybe m (keyed limit key)) o ≡ found_faults (maybe m (list limit)) o ++ double_faults m key (unwrap_or (option_map items_of o) [])
keyed_at m limit key None = refl
keyed_at m limit key (Some d) = refl

-- a list's own faults, and then that of a doubled key
pub keyed_faults : (m : Member) (limit : ℕ) (key : List Member) (d : Data) → row_faults d (maybe m (keyed limit key)) ≡ row_faults d (maybe m (list limit)) ++ double_faults m key (entries_in m d)
keyed_faults m limit key d = keyed_at m limit key (found m d)
