-- One server more.
use Rattle.std.proofs.Common.{◌≡◌, ◌++◌, Bool, true, false, cond, List, [], ◌∷◌, length, map, fold, Some, None, refl, ap, ◌∙◌, append-nil, zero-add}
use Rattle.std.specs.List.{enumerate_from, filter_map, cons_option}
use Rattle.std.specs.Str.{bytes_eq}
use Rattle.std.proofs.lemmas.List.{map_push}
use Rattle.std.proofs.lemmas.List.Elements.{filter_map-append}
use Rattle.std.proofs.lemmas.List.Sums.{fold_push}
use Rattle.indexmap.specs.IndexSet.{insert_key}
use Rattle.serde_json.specs.Data.{Data}
use Rattle.sm_plan_text.specs.declared.member.Member.TheVariants as members
use Rattle.sm_plan_text.specs.Values.{text_in, flag_in, names_in, id_of}
use Rattle.sm_plan_text.specs.Servers.{id_if_down, down_in}
use Rattle.sm_plan_text.proofs.WalkLemmas.{enumerate_push}

-- with one entry more its name comes into the set of names
pub names_in_push : (ds : List Data) (d : Data) → names_in (ds ++ d ∷ []) ≡ insert_key bytes_eq (names_in ds) (text_in members.Name d)
names_in_push ds d =
    ap (fold (insert_key bytes_eq) []) (map_push (text_in members.Name) ds d) ∙
    fold_push (insert_key bytes_eq) [] (map (text_in members.Name) ds) (text_in members.Name d)

-- with one server more its id comes behind those that are down, if it is down
pub down_in_push : (ds : List Data) (d : Data) → down_in (ds ++ d ∷ []) ≡ cond (flag_in members.Down d) (down_in ds ++ id_of (length ds) ∷ []) (down_in ds)
down_in_push ds d =
    ap (filter_map id_if_down) (enumerate_push 0 ds d ∙ ap (λ n. enumerate_from 0 ds ++ (n, d) ∷ []) (zero-add (length ds))) ∙
    filter_map-append id_if_down (enumerate_from 0 ds) ((length ds, d) ∷ []) ∙
    last (flag_in members.Down d)
  where
    last : (b : Bool) → down_in ds ++ cons_option (cond b (Some (id_of (length ds))) None) [] ≡ cond b (down_in ds ++ id_of (length ds) ∷ []) (down_in ds)
    last true = refl
    last false = append-nil (down_in ds)
