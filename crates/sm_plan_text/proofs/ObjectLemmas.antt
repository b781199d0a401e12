-- The keys and entries of a JSON value, as its data and its tree have them.
use Rattle.std.proofs.Common.{◌≡◌, ◌||◌, ℕ, suc, Bool, true, false, List, [], ◌∷◌, length, map, not, Ordering, Less, Equal, Greater, is_eq, Bor, refl, sym, ap, ◌∙◌}
use Rattle.std.proofs.Math.Bool.{or-false}
use Rattle.std.proofs.lemmas.Map.Text.{is_eq-slice_cmp}
use Rattle.std.proofs.lemmas.Slice.Eq.{bytes_eq-Decides}
use Rattle.std.specs.Cmp.Lexicographic.{slice_cmp}
use Rattle.std.specs.List.{list_any}
use Rattle.std.specs.Ordering.{nat_cmp, match_ordering}
use Rattle.serde_json.specs.Data.{Data, Members, no_members, member, put}
use Rattle.json_tree.specs.View.{view, items_view, members_view, members_after}
use Rattle.json_tree.specs.declared.tree.Tree.{Tree}
use Rattle.sm_plan_text.specs.Values.{entries}
use Rattle.sm_plan_text.specs.Tables.{is_among, keys_of}

same_or : (a b : Bool) → (a || b) ≡ (a || (a || b))
same_or true b = refl
same_or false b = refl

next_or : (a b c : Bool) → (a || (b || c)) ≡ (b || (a || c))
next_or true true c = refl
next_or true false c = refl
next_or false b c = refl

or_next : (a b c : Bool) → (a || (b || c)) ≡ ((b || a) || c)
or_next true true c = refl
or_next true false c = refl
or_next false true c = refl
or_next false false c = refl

module _ (p : List ℕ → Bool) where
  any_put_at : (o : Ordering) (k l : List ℕ) (d e : Data) (ms : Members) → slice_cmp nat_cmp k l ≡ o → list_any p (keys_of (put k d ms)) ≡ (p k || list_any p (keys_of ms))
      → list_any p (keys_of (match_ordering o (member k d (member l e ms)) (member l d ms) (member l e (put k d ms)))) ≡ (p k || (p l || list_any p (keys_of ms)))
  any_put_at Less k l d e ms is later = refl
  any_put_at Equal k l d e ms is later =
      let same : k ≡ l = (bytes_eq-Decides k l).0 (sym (is_eq-slice_cmp k l) ∙ ap is_eq is) in
      same_or (p l) (list_any p (keys_of ms)) ∙ ap (λ key. p key || (p l || list_any p (keys_of ms))) (sym same)
  any_put_at Greater k l d e ms is later = ap (λ b. p l || b) later ∙ next_or (p l) (p k) (list_any p (keys_of ms))

  any_put : (k : List ℕ) (d : Data) (ms : Members) → list_any p (keys_of (put k d ms)) ≡ (p k || list_any p (keys_of ms))
  any_put k d no_members = refl
  any_put k d (member l e ms) = any_put_at (slice_cmp nat_cmp k l) k l d e ms refl (any_put k d ms)

  any_after : (found : Members) (ms : List (Bor (List ℕ) × Tree)) → list_any p (keys_of (members_after found (map (λ m. (m.0, view m.1)) ms))) ≡ (list_any (λ m. p m.0.now) ms || list_any p (keys_of found))
  any_after found [] = refl
  any_after found (m ∷ ms) = any_after (put m.0.now (view m.1) found) ms ∙ ap (λ b. list_any (λ e. p e.0.now) ms || b) (any_put m.0.now (view m.1) found) ∙ or_next (list_any (λ e. p e.0.now) ms) (p m.0.now) (list_any p (keys_of found))

-- an object has an unknown key in its tree exactly where it has one as a value
pub any_key : (known : List (List ℕ)) (members : List (Bor (List ℕ) × Tree)) → list_any (λ m. not (is_among known m.0.now)) members ≡ list_any (λ key. not (is_among known key)) (keys_of (members_view members))
any_key known members = sym (any_after (λ key. not (is_among known key)) no_members members ∙ or-false (list_any (λ m. not (is_among known m.0.now)) members))

-- the entries of a list in its value are the values of those in its tree
pub entries_view : (items : List Tree) → entries (items_view items) ≡ map view items
entries_view [] = refl
entries_view (item ∷ items) = ap (λ ds. view item ∷ ds) (entries_view items)

-- and there are as many
pub length_entries : (items : List Tree) → length (entries (items_view items)) ≡ length items
length_entries [] = refl
length_entries (item ∷ items) = ap suc (length_entries items)
