-- The data written for the parts of a plan.
use Rattle.std.proofs.Common.{◌≡◌, ◌<◌, ◌≤◌, ◌+◌, ◌++◌, ◌∷◌, ℕ, List, [], length, get_or, drop, map, Bor, Result, OnOk, ap, sym, ◌∙◌, append_assoc}
use Rattle.std.proofs.lemmas.List.{get_or-map, at_drop_more, drop_all}
use Rattle.std.proofs.lemmas.Result.{on_ok_weaker}
use Rattle.json.specs.Token.{Token, begin_array, end_array, begin_object, end_object, key}
use Rattle.json.specs.Tree.{items_tokens, members_tokens}
use Rattle.json.specs.Print.{print}
use Rattle.serde_json.specs.Data.{Data, Members, object, no_members, member}
use Rattle.serde_json.specs.View.{items_of}
use Rattle.serde_json.specs.Written.{items_outline, members_outline, compact_text}
use Rattle.serde_json.proofs.Texts.{print-outline}
use Rattle.sm_placement.specs.Setup.{Setup, names_of_servers, names_of_shards, no_server, no_shard}
use Rattle.sm_plan_text.specs.declared.writing.Scalar.{Scalar}
use Rattle.sm_plan_text.specs.declared.writing.Scalar.TheVariants.{Null}
use Rattle.sm_plan_text.specs.PlanTexts.{name_at, scalar_data, scalars_said, tokens_of, list_data}

-- the name in the row of a shard
pub shard_name_at : (setup : Setup) (s : ℕ) → s < length setup.shards → (get_or setup.shards s no_shard).name ≡ name_at (names_of_shards setup) s
shard_name_at setup s h = sym (get_or-map (λ r. r.name) setup.shards s no_shard [] h)

-- the name in the row of a server
pub server_name_at : (setup : Setup) (v : ℕ) → v < length setup.servers → (get_or setup.servers v no_server).name ≡ name_at (names_of_servers setup) v
server_name_at setup v h = sym (get_or-map (λ r. r.name) setup.servers v no_server [] h)

-- the tokens of the items that are left of a list, with its end
abbrev pub items_left : {T : Type 0} → (T → Data) → List T → List Token
items_left f items = items_tokens (items_outline (items_of (map f items)))

-- a list whose start is written, with all items left
pub list_start : {T : Type 0} (f : T → Data) (items : List T) (old new : List Token) → new ≡ old ++ begin_array ∷ [] → new ++ items_left f items ≡ old ++ tokens_of (list_data (map f items))
list_start f items old new e = ap (λ ts. ts ++ items_left f items) e ∙ append_assoc old (begin_array ∷ []) (items_left f items)

-- with one item more written, the tokens and those that are left are the same in all
pub list_step : {T : Type 0} (f : T → Data) (items : List T) (i : ℕ) (item : T) (old new all : List Token) → i < length items → item ≡ get_or items i item → new ≡ old ++ tokens_of (f item) → old ++ items_left f (drop i items) ≡ all →
    new ++ items_left f (drop (i + 1) items) ≡ all
list_step f items i item old new all h is e so_far =
    ap (λ ts. ts ++ items_left f (drop (i + 1) items)) e
    ∙ append_assoc old (tokens_of (f item)) (items_left f (drop (i + 1) items))
    ∙ ap (λ x. old ++ (tokens_of (f x) ++ items_left f (drop (i + 1) items))) is
    ∙ ap (λ ts. old ++ ts) (sym (at_drop_more (items_left f) items i item h))
    ∙ so_far

-- with the end written, all are written
pub list_end : {T : Type 0} (f : T → Data) (items : List T) (i : ℕ) (old new all : List Token) → length items ≤ i → new ≡ old ++ end_array ∷ [] → old ++ items_left f (drop i items) ≡ all → new ≡ all
list_end f items i old new all h e so_far = e ∙ ap (λ xs. old ++ items_left f xs) (sym (drop_all i items h)) ∙ so_far

-- the tokens of the members that are left of an object, with its end
abbrev pub members_left : List (Bor (List ℕ) × Scalar) → List Token
members_left ms = members_tokens (members_outline (scalars_said ms))

-- what stands at no place of a list of members
abbrev pub no_scalar : Bor (List ℕ) × Scalar
no_scalar = (record { ref_ptr = (0, 0); now = [] }, Null)

-- an object whose start is written, with all members left
pub object_start : (ms : List (Bor (List ℕ) × Scalar)) (old new : List Token) → new ≡ old ++ begin_object ∷ [] → new ++ members_left ms ≡ old ++ tokens_of (object (scalars_said ms))
object_start ms old new e = ap (λ ts. ts ++ members_left ms) e ∙ append_assoc old (begin_object ∷ []) (members_left ms)

-- with one member more written, the tokens and those that are left are the same in all
pub object_step : (ms : List (Bor (List ℕ) × Scalar)) (i : ℕ) (old named new all : List Token) → i < length ms → named ≡ old ++ key (get_or ms i no_scalar).0.now ∷ [] → new ≡ named ++ tokens_of (scalar_data (get_or ms i no_scalar).1) → old ++ members_left (drop i ms) ≡ all →
    new ++ members_left (drop (i + 1) ms) ≡ all
object_step ms i old named new all h n e so_far =
    let m = get_or ms i no_scalar in
    let said : List Token = tokens_of (scalar_data m.1) in
    let left : List Token = members_left (drop (i + 1) ms) in
    ap (λ ts. ts ++ left) (e ∙ ap (λ ts. ts ++ said) n)
    ∙ append_assoc (old ++ key m.0.now ∷ []) said left
    ∙ append_assoc old (key m.0.now ∷ []) (said ++ left)
    ∙ ap (λ ts. old ++ ts) (sym (at_drop_more members_left ms i no_scalar h))
    ∙ so_far

-- with the end written, all are written
pub object_end : (ms : List (Bor (List ℕ) × Scalar)) (i : ℕ) (old new all : List Token) → length ms ≤ i → new ≡ old ++ end_object ∷ [] → old ++ members_left (drop i ms) ≡ all → new ≡ all
object_end ms i old new all h e so_far = e ∙ ap (λ xs. old ++ members_left xs) (sym (drop_all i ms h)) ∙ so_far

-- the tokens of members, with the end of their object
abbrev pub rest_of : Members → List Token
rest_of ms = members_tokens (members_outline ms)

-- with one member more written, the tokens and those of the rest are the same in all
member_done : (k : List ℕ) (d : Data) (rest : Members) (old new all : List Token) → new ≡ old ++ key k ∷ tokens_of d → old ++ rest_of (member k d rest) ≡ all → new ++ rest_of rest ≡ all
member_done k d rest old new all e so_far = ap (λ ts. ts ++ rest_of rest) e ∙ append_assoc old (key k ∷ tokens_of d) (rest_of rest) ∙ so_far

-- an object of four members is written if its start, each member and its end are
pub four_members_done : {E : Type 0} (r : Result (Unit {0}) E) (k l m n : List ℕ) (d e f g : Data) (old begun one two three four new : List Token) →
    begun ≡ old ++ begin_object ∷ [] → one ≡ begun ++ key k ∷ tokens_of d → two ≡ one ++ key l ∷ tokens_of e → three ≡ two ++ key m ∷ tokens_of f → four ≡ three ++ key n ∷ tokens_of g →
    OnOk r (new ≡ four ++ end_object ∷ []) → OnOk r (new ≡ old ++ tokens_of (object (member k d (member l e (member m f (member n g no_members))))))
four_members_done r k l m n d e f g old begun one two three four new h0 h1 h2 h3 h4 ended =
    let last = member n g no_members in
    let later = member m f last in
    let rest = member l e later in
    let all = old ++ tokens_of (object (member k d rest)) in
    let after0 : begun ++ rest_of (member k d rest) ≡ all = ap (λ ts. ts ++ rest_of (member k d rest)) h0 ∙ append_assoc old (begin_object ∷ []) (rest_of (member k d rest)) in
    let after1 = member_done k d rest begun one all h1 after0 in
    let after2 = member_done l e later one two all h2 after1 in
    let after3 = member_done m f last two three all h3 after2 in
    let after4 = member_done n g no_members three four all h4 after3 in
    on_ok_weaker r (λ written. written ∙ after4) ended

-- what is printed of a writer that has written a value, from its start on
pub printed_text : (d : Data) (start before after text : List ℕ) (none tokens : List Token) → start ≡ [] → before ≡ start → none ≡ [] → after ≡ before → tokens ≡ none ++ tokens_of d → text ≡ after ++ print tokens → text ≡ compact_text d
printed_text d start before after text none tokens s b n a t e =
    e ∙ rw (a, b, s, t, n) (print-outline d)
