-- A tree, level by level, and lists that grow at their end.
use Rattle.std.proofs.Common.{◌≡◌, ℕ, Bool, true, false, cond, List, [], ◌∷◌, ◌++◌, map, Option, Some, None, refl, sym, ap, ◌∙◌, true≢false, bytes_eq, Bor, Vec, Global, rules}
use Rattle.std.proofs.lemmas.Slice.Eq.{bytes_eq-Decides}
use Rattle.json.specs.Token.{Token}
use Rattle.json.specs.Json.{parse_map}
use Rattle.serde_json.specs.Data.{array, object, Items, no_items, item, Members, no_members, put}
use Rattle.serde_json.specs.Find.{get_member}
use Rattle.serde_json.proofs.Views.{get_member-put, get_member-put_other}
use Rattle.json_tree.specs.View.{view, items_view, members_view, members_after}
use Rattle.json_tree.specs.declared.tree.Tree.{Tree, Array, Object, the_lemmas}

-- a member of an object: its name and its value
abbrev pub Member : Type 0
Member = Bor (List ℕ) × Tree

-- an array of trees is seen as the array of what its trees are seen as
pub view-Array : (v : Vec Tree Global) → view (Array v) ≡ array (items_view v.items)
view-Array v = search (rules, the_lemmas)

-- an object of trees is seen as the object of what its members are seen as
pub view-Object : (v : Vec Member Global) → view (Object v) ≡ object (members_view v.items)
view-Object v = search (rules, the_lemmas)

-- the items that these trees are seen as, and then the rest
abbrev pub items_before : List Tree → Items → Items
items_before [] rest = rest
items_before (t ∷ ts) rest = item (view t) (items_before ts rest)

-- without a rest they are the items of an array of these trees
pub items_before-no_items : (ts : List Tree) → items_before ts no_items ≡ items_view ts
items_before-no_items [] = refl
items_before-no_items (t ∷ ts) = ap (item (view t)) (items_before-no_items ts)

items_push : (ts : List Tree) (t : Tree) (rest : Items) → items_before ts (item (view t) rest) ≡ items_before (ts ++ t ∷ []) rest
items_push [] t rest = refl
items_push (u ∷ ts) t rest = ap (item (view u)) (items_push ts t rest)

-- to read an item before the rest is to have one more tree before the rest
pub one_more_item : (ts : List Tree) (t : Tree) (r : Option (Items × List Token)) → parse_map (items_before ts) (parse_map (item (view t)) r) ≡ parse_map (items_before (ts ++ t ∷ [])) r
one_more_item ts t None = refl
one_more_item ts t (Some p) = ap (λ ds. Some (ds, p.1)) (items_push ts t p.0)

after_push : (found : Members) (ms : List Member) (m : Member) → members_after found (map (λ e. (e.0, view e.1)) (ms ++ m ∷ [])) ≡ put m.0.now (view m.1) (members_after found (map (λ e. (e.0, view e.1)) ms))
after_push found [] m = refl
after_push found (e ∷ ms) m = after_push (put e.0.now (view e.1) found) ms m

-- one more member is put to the members before it
pub one_more_member : (ms : List Member) (m : Member) → members_view (ms ++ m ∷ []) ≡ put m.0.now (view m.1) (members_view ms)
one_more_member ms m = after_push no_members ms m

found_or_before : (b : Bool) (name : List ℕ) (ms : List Member) (m : Member) → bytes_eq m.0.now name ≡ b → get_member name (put m.0.now (view m.1) (members_view ms)) ≡ cond b (Some (view m.1)) (get_member name (members_view ms))
found_or_before true name ms m e =
    let same : m.0.now ≡ name = (bytes_eq-Decides m.0.now name).0 e in
    ap (λ k. get_member name (put k (view m.1) (members_view ms))) same ∙ get_member-put name (view m.1) (members_view ms)
found_or_before false name ms m e = get_member-put_other name m.0.now (view m.1) (members_view ms) (λ same. true≢false (sym ((bytes_eq-Decides m.0.now name).1 (sym same)) ∙ e))

-- the last member of a name is found
pub get_member-push : (name : List ℕ) (ms : List Member) (m : Member)
    → get_member name (members_view (ms ++ m ∷ [])) ≡ cond (bytes_eq m.0.now name) (Some (view m.1)) (get_member name (members_view ms))
get_member-push name ms m = ap (get_member name) (one_more_member ms m) ∙ found_or_before (bytes_eq m.0.now name) name ms m refl
