-- Names and their numbers.
use Rattle.std.proofs.Common.{◌≡◌, ◌∙◌, ◌+◌, ◌<◌, ◌≤◌, ◌-◌, ℕ, suc, List, [], ◌∷◌, ◌++◌, Some, None, Option, length, get_or, take, map, slice_get, zero, length-append, sym, ap, refl, inl, inr, ◌⊎◌, arith, add-one, append-nil, append_assoc, take_all, Bool}
use Rattle.std.specs.List.{filter, position}
use Rattle.std.specs.Str.{bytes_eq}
use Rattle.std.proofs.Math.Seq.{take-suc}
use Rattle.std.proofs.lemmas.Bool.{cases_lt}
use Rattle.std.proofs.lemmas.List.{get_or-map, map-append, take_more}
use Rattle.std.proofs.lemmas.List.Elements.{filter-append}
use Rattle.std.proofs.lemmas.List.Quantifiers.{position-Some}
use Rattle.std.proofs.lemmas.Option.{slice_get-get_or, slice_get_within, none-some}
use Rattle.std.specs.Option.{option_map_or, unwrap_or}
use Rattle.std.proofs.lemmas.Slice.Eq.{bytes_eq-Decides}
use Rattle.sm_placement.proofs.ConfigLemmas.{length_map}
use Rattle.sm_placement.specs.declared.config.Server.{Server}
use Rattle.sm_placement.specs.declared.config.Shard.{Shard}
use Rattle.sm_placement.specs.Config.{server_names, server_row, shard_names, shard_row}
use Rattle.sm_placement.specs.Setup.{ServerRow, Setup, ShardRow, names_of_servers, names_of_shards, no_server, no_shard, server_named, shard_named}
use Rattle.sm_protocol.proofs.Scripts.{slice_get_before, slice_get_last}
use Rattle.smpland_reopening.specs.Numbers.{AreNumberedBelow, KeepsNames, shard_as_documented}

-- a name that is found stands at its number
pub named_at : (names : List (List ℕ)) (name : List ℕ) (n : ℕ) → position (λ x. bytes_eq name x) names ≡ Some n → slice_get names n ≡ Some name
named_at names name n e =
    let found = position-Some (λ x. bytes_eq name x) names n [] e in
    slice_get-get_or names n [] found.0 ∙ ap (λ x. Some x) (sym ((bytes_eq-Decides name (get_or names n [])).0 found.1))

-- a server that is found
pub server_found : (setup : Setup) (name : List ℕ) (n : ℕ) → server_named setup name ≡ Some n → slice_get (names_of_servers setup) n ≡ Some name
server_found setup name n e = named_at (names_of_servers setup) name n e

-- a shard that is found
pub shard_found : (setup : Setup) (name : List ℕ) (n : ℕ) → shard_named setup name ≡ Some n → slice_get (names_of_shards setup) n ≡ Some name
shard_found setup name n e = named_at (names_of_shards setup) name n e

-- a server that is appended stands at the number that the rows had
pub server_appended : (rows : List Server) (names : List (List ℕ)) (name : List ℕ) → names ≡ server_names rows ++ name ∷ [] → slice_get names (length rows) ≡ Some name
server_appended rows names name e =
    ap (λ xs. slice_get xs (length rows)) e ∙
    ap (λ n. slice_get (server_names rows ++ name ∷ []) n) (sym (length_map (λ r. r.name) (map server_row rows) ∙ length_map server_row rows)) ∙ slice_get_last (server_names rows) name

-- a shard
pub shard_appended : (rows : List Shard) (names : List (List ℕ)) (name : List ℕ) → names ≡ shard_names rows ++ name ∷ [] → slice_get names (length rows) ≡ Some name
shard_appended rows names name e =
    ap (λ xs. slice_get xs (length rows)) e ∙
    ap (λ n. slice_get (shard_names rows ++ name ∷ []) n) (sym (length_map (λ r. r.name) (map shard_row rows) ∙ length_map shard_row rows)) ∙ slice_get_last (shard_names rows) name

-- names keep their places when more follow
pub keeps_before : (names more : List (List ℕ)) → KeepsNames names (names ++ more)
keeps_before names more k name e = slice_get_before names more k (slice_get_within names k name e) ∙ e

-- the names so far, and the next one
names_next : (names done now : List (List ℕ)) (name : List ℕ) (i : ℕ) → i < length names → done ≡ take i names → now ≡ done ++ name ∷ [] → name ≡ get_or names i [] → now ≡ take (i + 1) names
names_next names done now name i h e d n =
    d ∙ ap (λ xs. xs ++ name ∷ []) e ∙ ap (λ x. take i names ++ x ∷ []) n ∙ sym (take-suc names i [] h) ∙ ap (λ k. take k names) (sym (add-one i))

-- of servers that were pushed
pub server_names_next : (setup : Setup) (xs ys : List Server) (x : Server) (i : ℕ) → server_names xs ≡ take i (names_of_servers setup) → i < length setup.servers →
    ys ≡ xs ++ x ∷ [] → (server_row x).name ≡ (get_or setup.servers i no_server).name → server_names ys ≡ take (i + 1) (names_of_servers setup)
server_names_next setup xs ys x i e h d n =
    names_next (names_of_servers setup) (server_names xs) (server_names ys) (server_row x).name i (rw (length_map (λ r. r.name) setup.servers) h) e
    (ap server_names d ∙ ap (λ rows. map (λ r. r.name) rows) (map-append server_row xs (x ∷ [])) ∙ map-append (λ r. r.name) (map server_row xs) (server_row x ∷ []))
    (n ∙ sym (get_or-map (λ r. r.name) setup.servers i no_server [] h))

-- of shards that were pushed
pub shard_names_next : (setup : Setup) (xs ys : List Shard) (x : Shard) (i : ℕ) → shard_names xs ≡ take i (names_of_shards setup) → i < length setup.shards →
    ys ≡ xs ++ x ∷ [] → (shard_row x).name ≡ (get_or setup.shards i no_shard).name → shard_names ys ≡ take (i + 1) (names_of_shards setup)
shard_names_next setup xs ys x i e h d n =
    names_next (names_of_shards setup) (shard_names xs) (shard_names ys) (shard_row x).name i (rw (length_map (λ r. r.name) setup.shards) h) e
    (ap shard_names d ∙ ap (λ rows. map (λ r. r.name) rows) (map-append shard_row xs (x ∷ [])) ∙ map-append (λ r. r.name) (map shard_row xs) (shard_row x ∷ []))
    (n ∙ sym (get_or-map (λ r. r.name) setup.shards i no_shard [] h))

-- the name of a server
pub server_name_at : (setup : Setup) (i : ℕ) → i < length setup.servers → slice_get (names_of_servers setup) i ≡ Some (get_or setup.servers i no_server).name
server_name_at setup i h =
    slice_get-get_or (names_of_servers setup) i [] (rw (length_map (λ r. r.name) setup.servers) h) ∙ ap (λ x. Some x) (get_or-map (λ r. r.name) setup.servers i no_server [] h)

-- the name of a shard
pub shard_name_at : (setup : Setup) (i : ℕ) → i < length setup.shards → slice_get (names_of_shards setup) i ≡ Some (get_or setup.shards i no_shard).name
shard_name_at setup i h =
    slice_get-get_or (names_of_shards setup) i [] (rw (length_map (λ r. r.name) setup.shards) h) ∙ ap (λ x. Some x) (get_or-map (λ r. r.name) setup.shards i no_shard [] h)

-- no fewer names have numbers than had
pub keeps_longer : (old new : List (List ℕ)) → KeepsNames old new → length old ≤ length new
keeps_longer old new keeps = elim (cases_lt 0 (length old)) [
  | inl some ↦
      let last : length old - 1 < length old = omega arith in
      let there = slice_get_within new (length old - 1) _ (keeps (length old - 1) (get_or old (length old - 1) []) (slice_get-get_or old (length old - 1) [] last)) in
      omega (arith, there, some)
  | inr none ↦ omega (arith, none)
]

-- of servers
pub keeps_servers : (old new : Setup) → KeepsNames (names_of_servers old) (names_of_servers new) → length old.servers ≤ length new.servers
keeps_servers old new keeps = omega (arith, keeps_longer (names_of_servers old) (names_of_servers new) keeps, length_map (λ (r : ServerRow). r.name) old.servers, length_map (λ (r : ServerRow). r.name) new.servers)

-- of shards
pub keeps_shards : (old new : Setup) → KeepsNames (names_of_shards old) (names_of_shards new) → length old.shards ≤ length new.shards
keeps_shards old new keeps = omega (arith, keeps_longer (names_of_shards old) (names_of_shards new) keeps, length_map (λ (r : ShardRow). r.name) old.shards, length_map (λ (r : ShardRow). r.name) new.shards)

-- nothing is numbered yet
pub none_numbered : (names some : List (List ℕ)) → AreNumberedBelow 0 names [] some
none_numbered names some = record { count = refl; named = λ k number e. absurd (none-some number e) }

-- what stands in a list that was made longer by one
push_cases : {A : Type 0} (xs : List A) (y : A) (k : ℕ) (m : A) → slice_get (xs ++ y ∷ []) k ≡ Some m → (slice_get xs k ≡ Some m) ⊎ ((k ≡ length xs) × (m ≡ y))
push_cases [] y zero m e = inr (refl, ap (λ o. unwrap_or o m) (sym e))
push_cases [] y (suc k) m e = absurd (none-some m e)
push_cases (x ∷ xs) y zero m e = inl e
push_cases (x ∷ xs) y (suc k) m e = elim (push_cases xs y k m e) [ inl there ↦ inl there | inr here ↦ inr (omega (arith, here.0), here.1) ]

-- the next one is numbered, and names keep their places
pub numbered_next : (old new some : List (List ℕ)) (before after : List ℕ) (i n : ℕ) (name : List ℕ) → AreNumberedBelow i old before some → KeepsNames old new →
    after ≡ before ++ n ∷ [] → slice_get new n ≡ Some name → slice_get some i ≡ Some name → AreNumberedBelow (i + 1) new after some
numbered_next old new some before after i n name is keeps e at here = record {
  count = ap length e ∙ length-append before (n ∷ []) ∙ ap (λ k. k + 1) is.count;
  named = λ k m read. elim (push_cases before n k m (ap (λ xs. slice_get xs k) (sym e) ∙ read)) [
    | inl there ↦ kept k m there
    | inr last ↦ ap (λ x. slice_get new x) last.1 ∙ at ∙ sym here ∙ ap (λ x. slice_get some x) (sym is.count ∙ sym last.0)
  ];
}
  where
    kept : (k m : ℕ) → slice_get before k ≡ Some m → slice_get new m ≡ slice_get some k
    kept k m there =
        let within : k < length some = omega (arith, slice_get_within before k m there, is.count, slice_get_within some i name here) in
        let found = slice_get-get_or some k [] within in
        keeps m (get_or some k []) (is.named k m there ∙ found) ∙ sym found

-- ---- rows

-- the rows so far under a function, and the next one
pub mapped_next : {A B : Type 0} (f : A → B) (xs : List A) (d : A) (ys zs : List B) (y : B) (i : ℕ) → i < length xs → ys ≡ map f (take i xs) → zs ≡ ys ++ y ∷ [] →
    y ≡ f (get_or xs i d) → zs ≡ map f (take (i + 1) xs)
mapped_next f xs d ys zs y i l before now is =
    now ∙ ap (λ ws. ws ++ y ∷ []) before ∙ ap (λ w. map f (take i xs) ++ w ∷ []) is ∙ sym (map-append f (take i xs) (get_or xs i d ∷ []))
    ∙ ap (map f) (sym (take_more xs i d l))

-- the rows that pass so far, and the next one
pub filtered_next : {A : Type 0} (p : A → Bool) (front xs : List A) (d : A) (ys zs : List A) (y : A) (i : ℕ) → i < length xs → ys ≡ front ++ filter p (take i xs) →
    zs ≡ ys ++ filter p (y ∷ []) → y ≡ get_or xs i d → zs ≡ front ++ filter p (take (i + 1) xs)
filtered_next p front xs d ys zs y i l before now is =
    now ∙ ap (λ ws. ws ++ filter p (y ∷ [])) before ∙ append_assoc front (filter p (take i xs)) (filter p (y ∷ []))
    ∙ ap (λ ws. front ++ ws) (sym (filter-append p (take i xs) (y ∷ [])) ∙ ap (λ w. filter p (take i xs ++ w ∷ [])) is ∙ ap (filter p) (sym (take_more xs i d l)))

-- a function of all rows
pub mapped_all : {A B : Type 0} (f : A → B) (xs : List A) (n : ℕ) → length xs ≤ n → map f (take n xs) ≡ map f xs
mapped_all f xs n l = ap (map f) (take_all n xs l)

-- a shard keeps its name, whatever the document makes of it
pub shard_name_kept : (document : Setup) (row : ShardRow) → (shard_as_documented document row).name ≡ row.name
shard_name_kept document row = by_number (shard_named document row.name)
  where
    by_number : (n : Option ℕ) → (option_map_or (λ (s : ℕ). record (get_or document.shards s no_shard) { name = row.name }) n (record row { want = 0; cap = 0; spread = 0 })).name ≡ row.name
    by_number None = refl
    by_number (Some s) = refl
