-- Lists that are read entry by entry, and members that are put to what is kept of an object.
use Rattle.std.proofs.Common.{◌≡◌, ◌∙◌, ℕ, List, [], ◌∷◌, ◌++◌, length, map, Option, Some, None, Ordering, Less, Equal, Greater, nat_cmp, refl, ap, sym, append_assoc, append-nil, bytes_eq, true≢false, Bool, true, false, subst, unwrap_or, option_map, Vec, Global, cond, not, ◌≤◌, le-leb}
use Rattle.std.specs.List.{list_any}
use Rattle.std.specs.Ordering.{match_ordering}
use Rattle.std.specs.Cmp.Lexicographic.{slice_cmp}
use Rattle.json.specs.Token.{Token}
use Rattle.json.specs.Json.{parse_map}
use Rattle.std.proofs.lemmas.Slice.Eq.{bytes_eq-Decides}
use Rattle.serde_json.specs.Data.{Data, array, object, Items, no_items, item, Members, no_members, member, put}
use Rattle.serde_json.specs.Find.{get_member}
use Rattle.serde_json.proofs.Views.{get_member-put, get_member-put_other}
use Rattle.json_tree.specs.View.{members_view}
use Rattle.json_tree.specs.declared.tree.Tree.{Object}
use Rattle.json_tree.proofs.Trees.{view-Object}
use Rattle.json_tree.proofs.Trees.{Member as Kept}
use Rattle.sm_plan_text.specs.declared.fault.TextFault.{TextFault}
use Rattle.sm_protocol.specs.declared.event.Event.{Event}
use Rattle.sm_plan_text.specs.declared.member.Member.TheVariants as members
use Rattle.sm_plan_text.specs.declared.outline.EarlyList.{EarlyList}
use Rattle.sm_plan_text.specs.declared.outline.Early.{Early}
use Rattle.sm_plan_text.specs.Members.{text_of}
use Rattle.sm_plan_text.specs.declared.fault.TextFault.TheVariants.{Shape, TooMany}
use Rattle.sm_plan_text.specs.declared.member.Member.{Member}
use Rattle.sm_plan_text.specs.Documents.{document_table, shard_names_in, server_names_in}
use Rattle.sm_plan_text.specs.declared.limits.TheConstants.{MOST_EVENTS, MOST_ASKS}
use Rattle.sm_plan_code.specs.declared.limits.TheConstants.{MOST_MOVES, MOST_PLACES, MOST_PLANS}
use Rattle.sm_placement.specs.declared.limits.TheConstants.{MOST_SERVERS, MOST_SHARDS}
use Rattle.sm_plan_text.specs.Values.{found, entries, items_of, names_in}
use Rattle.sm_plan_text.specs.Parcels.{HaveIds}
use Rattle.sm_plan_text.specs.Calls.{NamedCall, call_faults, call_in}
use Rattle.sm_plan_text.specs.Events.{event_faults, event_in}
use Rattle.sm_plan_text.specs.Outlines.{IsEarlyList, IsKept, IsEarly, IsPartialOutline, IsOutline, IsOutlined, calls_of, events_of}
use Rattle.sm_plan_text.specs.Tables.{keys_of, walked, one, maybe, known_list, is_among, count_faults, found_faults, object_faults, own_faults}
use Rattle.sm_plan_text.specs.Tables.{whole as whole_number}
use Rattle.sm_plan_text.specs.Tables.{known as known_name}
use Rattle.sm_plan_text.specs.Tables.{object as an_object}
use Rattle.sm_plan_text.specs.Tables.{list as a_list}

-- these entries, and then the rest of the list
abbrev pub before : List Data → Items → Items
before [] rest = rest
before (d ∷ ds) rest = item d (before ds rest)

-- before the first entry nothing has been read
pub none_before : (r : Option (Items × List Token)) → r ≡ parse_map (before []) r
none_before None = refl
none_before (Some p) = refl

before_push : (done : List Data) (d : Data) (rest : Items) → before done (item d rest) ≡ before (done ++ d ∷ []) rest
before_push [] d rest = refl
before_push (e ∷ done) d rest = ap (item e) (before_push done d rest)

-- to read an entry before the rest is to have one more entry before the rest
pub one_more : (done : List Data) (d : Data) (r : Option (Items × List Token)) → parse_map (before done) (parse_map (item d) r) ≡ parse_map (before (done ++ d ∷ [])) r
one_more done d None = refl
one_more done d (Some p) = ap (λ ds. Some (ds, p.1)) (before_push done d p.0)

-- without a rest these are all entries
pub entries_before : (done : List Data) → entries (before done no_items) ≡ done
entries_before [] = refl
entries_before (d ∷ done) = ap (λ ds. d ∷ ds) (entries_before done)

-- the faults of a walk, with one entry more
pub walked_push : (faults : List Data → Data → List TextFault) (front done : List Data) (d : Data) → walked faults front (done ++ d ∷ []) ≡ walked faults front done ++ faults (front ++ done) d
walked_push faults front [] d = append-nil (faults front d) ∙ ap (λ f. faults f d) (sym (append-nil front))
walked_push faults front (e ∷ done) d =
    ap (λ more. faults front e ++ more) (walked_push faults (front ++ e ∷ []) done d) ∙ sym (append_assoc (faults front e) (walked faults (front ++ e ∷ []) done) _) ∙
    ap (λ f. (faults front e ++ walked faults (front ++ e ∷ []) done) ++ faults f d) (append_assoc front (e ∷ []) done)

keys_at : (o : Ordering) (k l : List ℕ) (d e a b : Data) (ms ns : Members) → keys_of ms ≡ keys_of ns → keys_of (put k d ms) ≡ keys_of (put k e ns)
    → keys_of (match_ordering o (member k d (member l a ms)) (member l d ms) (member l a (put k d ms))) ≡ keys_of (match_ordering o (member k e (member l b ns)) (member l e ns) (member l b (put k e ns)))
keys_at Less k l d e a b ms ns same later = ap (λ ks. k ∷ l ∷ ks) same
keys_at Equal k l d e a b ms ns same later = ap (λ ks. l ∷ ks) same
keys_at Greater k l d e a b ms ns same later = ap (λ ks. l ∷ ks) later

-- where the keys are the same, they are so with one member more
pub keys_put : (k : List ℕ) (d e : Data) (ms ns : Members) → keys_of ms ≡ keys_of ns → keys_of (put k d ms) ≡ keys_of (put k e ns)
keys_put k d e no_members no_members same = refl
keys_put k d e no_members (member l b ns) same = absurd (cc)
keys_put k d e (member l a ms) no_members same = absurd (cc)
keys_put k d e (member l a ms) (member m b ns) same =
    let key : l ≡ m = cc in
    let rest : keys_of ms ≡ keys_of ns = cc in
    subst (λ x. keys_of (put k d (member l a ms)) ≡ keys_of (put k e (member x b ns))) key (keys_at (slice_cmp nat_cmp k l) k l d e a b ms ns rest (keys_put k d e ms ns rest))

same_put_at : (b : Bool) (n k : List ℕ) (d : Data) (ms ns : Members) → bytes_eq n k ≡ b → get_member n ms ≡ get_member n ns → get_member n (put k d ms) ≡ get_member n (put k d ns)
same_put_at true n k d ms ns is same =
    subst (λ x. get_member x (put k d ms) ≡ get_member x (put k d ns)) (sym ((bytes_eq-Decides n k).0 is)) (get_member-put k d ms ∙ sym (get_member-put k d ns))
same_put_at false n k d ms ns is same =
    let other : n ≡ k → ⊥ = λ e. true≢false (sym ((bytes_eq-Decides n k).1 e) ∙ is) in
    get_member-put_other n k d ms other ∙ same ∙ sym (get_member-put_other n k d ns other)

-- where a name has the same value, it has so with one member more
pub same_put : (n k : List ℕ) (d : Data) (ms ns : Members) → get_member n ms ≡ get_member n ns → get_member n (put k d ms) ≡ get_member n (put k d ns)
same_put n k d ms ns same = same_put_at (bytes_eq n k) n k d ms ns refl same

-- texts that are told apart are two
pub differs : (a b : List ℕ) → bytes_eq a b ≡ false → a ≡ b → ⊥
differs a b is e = true≢false (sym ((bytes_eq-Decides a b).1 e) ∙ is)

-- what the names of a list's objects are, by what is found of the list
abbrev names_by : Option Data → List (List ℕ)
names_by found = names_in (unwrap_or (option_map items_of found) [])

-- a member more that is kept, is no list to be read early and has no names
pub early_put : (early : Early) (kept whole : Members) (k : List ℕ) (d : Data) → (k ≡ text_of members.Shards → ⊥) → (k ≡ text_of members.Servers → ⊥) → (k ≡ text_of members.Calls → ⊥) → (k ≡ text_of members.Events → ⊥)
    → IsEarly early kept whole → IsEarly early (put k d kept) (put k d whole)
early_put early kept whole k d shards servers calls events is =
    let stays : (n : List ℕ) (ms : Members) → (k ≡ n → ⊥) → get_member n ms ≡ get_member n (put k d ms) = λ n ms other. sym (get_member-put_other n k d ms (λ e. other (sym e))) in
    record {
      shards = is.shards ∙ ap names_by (stays (text_of members.Shards) kept shards);
      servers = is.servers ∙ ap names_by (stays (text_of members.Servers) kept servers);
      keys = keys_put k d d whole kept is.keys;
      others = λ n c e. same_put n k d whole kept (is.others n c e);
      calls = subst (λ found. IsKept (call_faults early.shards early.servers) (call_in early.shards early.servers) (HaveIds early.shards early.servers) early.calls found (get_member (text_of members.Calls) (put k d whole))) (stays (text_of members.Calls) kept calls)
          (subst (IsKept (call_faults early.shards early.servers) (call_in early.shards early.servers) (HaveIds early.shards early.servers) early.calls (get_member (text_of members.Calls) kept)) (stays (text_of members.Calls) whole calls) is.calls);
      events = subst (λ found. IsKept (event_faults early.shards early.servers) (event_in early.shards early.servers) (HaveIds early.shards early.servers) early.events found (get_member (text_of members.Events) (put k d whole))) (stays (text_of members.Events) kept events)
          (subst (IsKept (event_faults early.shards early.servers) (event_in early.shards early.servers) (HaveIds early.shards early.servers) early.events (get_member (text_of members.Events) kept)) (stays (text_of members.Events) whole events) is.events);
    }

-- the calls come, and are read early
pub calls_put : (early : Early) (list : EarlyList NamedCall) (ds : Items) (kept whole : Members)
    → IsEarlyList (call_faults early.shards early.servers) (call_in early.shards early.servers) (HaveIds early.shards early.servers) list (entries ds)
    → IsEarly early kept whole → IsEarly (record early { calls = Some list }) (put (text_of members.Calls) (array no_items) kept) (put (text_of members.Calls) (array ds) whole)
calls_put early list ds kept whole read is =
    let k : List ℕ = text_of members.Calls in
    let stays : (n : List ℕ) (d : Data) (ms : Members) → (n ≡ k → ⊥) → get_member n ms ≡ get_member n (put k d ms) = λ n d ms other. sym (get_member-put_other n k d ms other) in
    record {
      shards = is.shards ∙ ap names_by (stays (text_of members.Shards) (array no_items) kept (differs (text_of members.Shards) k refl));
      servers = is.servers ∙ ap names_by (stays (text_of members.Servers) (array no_items) kept (differs (text_of members.Servers) k refl));
      keys = keys_put k (array ds) (array no_items) whole kept is.keys;
      others = λ n c e. sym (stays n (array ds) whole c) ∙ is.others n c e ∙ stays n (array no_items) kept c;
      calls = (ds, get_member-put k (array no_items) kept, get_member-put k (array ds) whole, read);
      events = subst (λ found. IsKept (event_faults early.shards early.servers) (event_in early.shards early.servers) (HaveIds early.shards early.servers) early.events found (get_member (text_of members.Events) (put k (array ds) whole))) (stays (text_of members.Events) (array no_items) kept (differs (text_of members.Events) k refl))
          (subst (IsKept (event_faults early.shards early.servers) (event_in early.shards early.servers) (HaveIds early.shards early.servers) early.events (get_member (text_of members.Events) kept)) (stays (text_of members.Events) (array ds) whole (differs (text_of members.Events) k refl)) is.events);
    }

-- the events come, and are read early
pub events_put : (early : Early) (list : EarlyList Event) (ds : Items) (kept whole : Members)
    → IsEarlyList (event_faults early.shards early.servers) (event_in early.shards early.servers) (HaveIds early.shards early.servers) list (entries ds)
    → IsEarly early kept whole → IsEarly (record early { events = Some list }) (put (text_of members.Events) (array no_items) kept) (put (text_of members.Events) (array ds) whole)
events_put early list ds kept whole read is =
    let k : List ℕ = text_of members.Events in
    let stays : (n : List ℕ) (d : Data) (ms : Members) → (n ≡ k → ⊥) → get_member n ms ≡ get_member n (put k d ms) = λ n d ms other. sym (get_member-put_other n k d ms other) in
    record {
      shards = is.shards ∙ ap names_by (stays (text_of members.Shards) (array no_items) kept (differs (text_of members.Shards) k refl));
      servers = is.servers ∙ ap names_by (stays (text_of members.Servers) (array no_items) kept (differs (text_of members.Servers) k refl));
      keys = keys_put k (array ds) (array no_items) whole kept is.keys;
      others = λ n c e. sym (stays n (array ds) whole e) ∙ is.others n c e ∙ stays n (array no_items) kept e;
      calls = subst (λ found. IsKept (call_faults early.shards early.servers) (call_in early.shards early.servers) (HaveIds early.shards early.servers) early.calls found (get_member (text_of members.Calls) (put k (array ds) whole))) (stays (text_of members.Calls) (array no_items) kept (differs (text_of members.Calls) k refl))
          (subst (IsKept (call_faults early.shards early.servers) (call_in early.shards early.servers) (HaveIds early.shards early.servers) early.calls (get_member (text_of members.Calls) kept)) (stays (text_of members.Calls) (array ds) whole (differs (text_of members.Calls) k refl)) is.calls);
      events = (ds, get_member-put k (array no_items) kept, get_member-put k (array ds) whole, read);
    }

-- what the members of an object are a partial of, the object is an outline of
pub outline_of : (kept : Vec Kept Global) (early : Option Early) (whole : Members) → IsPartialOutline (record { members = kept; early = early }) whole → IsOutline (record { tree = Object kept; early = early }) (object whole)
outline_of kept None whole is = ap object is ∙ sym (view-Object kept)
outline_of kept (Some early) whole is = (members_view kept.items, whole, view-Object kept, refl, is)

-- a member of another name is kept
pub outlined_others : (early : Option Early) (kept d : Data) → IsOutlined early kept d → (m : Member) → (text_of m ≡ text_of members.Calls → ⊥) → (text_of m ≡ text_of members.Events → ⊥) → found m d ≡ found m kept
outlined_others None kept d is m c e = ap (found m) is
outlined_others (Some early) kept d is m c e = ap (found m) is.3 ∙ is.4.others (text_of m) c e ∙ sym (ap (found m) is.2)

few_count : (m : Member) (limit count : ℕ) → count ≤ limit → count_faults m limit count ≡ []
few_count m limit count few = ap (λ b. cond b [] (TooMany m ∷ [])) (le-leb count limit few)

-- a list that was read early, and what is kept of it, has not too many entries
kept_row : {V : Type 0} (faults_of : List Data → Data → List TextFault) (value_of : Data → V) (ids : Type 0) (m : Member) (early : Option (EarlyList V)) (kept whole : Option Data)
    → IsKept faults_of value_of ids early kept whole → found_faults (maybe m (a_list MOST_EVENTS)) whole ≡ found_faults (maybe m (a_list MOST_EVENTS)) kept
kept_row faults_of value_of ids m None kept whole is = ap (found_faults (maybe m (a_list MOST_EVENTS))) is
kept_row faults_of value_of ids m (Some early) kept whole is =
    ap (found_faults (maybe m (a_list MOST_EVENTS))) is.2 ∙ few_count m MOST_EVENTS (length (entries is.0)) is.3.few ∙ sym (ap (found_faults (maybe m (a_list MOST_EVENTS))) is.1)

-- the faults of a document itself are those of what is kept of it
pub outlined_own : (early : Option Early) (kept d : Data) → IsOutlined early kept d → (shards servers : List (List ℕ))
    → own_faults members.Document (document_table shards servers) d ≡ own_faults members.Document (document_table shards servers) kept
outlined_own None kept d is shards servers = ap (own_faults members.Document (document_table shards servers)) is
outlined_own (Some early) kept d is shards servers =
    let names : List (List ℕ) = map (λ row. text_of row.member) (document_table shards servers) in
    let unknown : object_faults members.Document names d ≡ object_faults members.Document names kept =
    ap (object_faults members.Document names) is.3 ∙ ap (λ keys. cond (list_any (λ key. not (is_among names key)) keys) (Shape members.Document ∷ []) []) is.4.keys ∙ sym (ap (object_faults members.Document names) is.2) in
    let same : (m : Member) → bytes_eq (text_of m) (text_of members.Calls) ≡ false → bytes_eq (text_of m) (text_of members.Events) ≡ false → found m d ≡ found m kept =
    λ m c e. outlined_others (Some early) kept d is m (differs (text_of m) (text_of members.Calls) c) (differs (text_of m) (text_of members.Events) e) in
    let calls : found_faults (maybe members.Calls (a_list MOST_EVENTS)) (found members.Calls d) ≡ found_faults (maybe members.Calls (a_list MOST_EVENTS)) (found members.Calls kept) =
    ap (λ (o : Data). found_faults (maybe members.Calls (a_list MOST_EVENTS)) (found members.Calls o)) is.3 ∙ kept_row _ _ _ members.Calls early.calls _ _ is.4.calls
    ∙ sym (ap (λ (o : Data). found_faults (maybe members.Calls (a_list MOST_EVENTS)) (found members.Calls o)) is.2) in
    let events : found_faults (maybe members.Events (a_list MOST_EVENTS)) (found members.Events d) ≡ found_faults (maybe members.Events (a_list MOST_EVENTS)) (found members.Events kept) =
    ap (λ (o : Data). found_faults (maybe members.Events (a_list MOST_EVENTS)) (found members.Events o)) is.3 ∙ kept_row _ _ _ members.Events early.events _ _ is.4.events
    ∙ sym (ap (λ (o : Data). found_faults (maybe members.Events (a_list MOST_EVENTS)) (found members.Events o)) is.2) in
    λ j. unknown j ++ (
    found_faults (one members.Limit (whole_number MOST_SERVERS)) (same members.Limit refl refl j)
    ++ (found_faults (one members.Servers (a_list MOST_SERVERS)) (same members.Servers refl refl j)
    ++ (found_faults (one members.Shards (a_list MOST_SHARDS)) (same members.Shards refl refl j)
    ++ (found_faults (maybe members.Log (whole_number MOST_PLACES)) (same members.Log refl refl j)
    ++ (calls j
    ++ (found_faults (maybe members.Plan an_object) (same members.Plan refl refl j)
    ++ (found_faults (maybe members.Plans (a_list MOST_PLANS)) (same members.Plans refl refl j)
    ++ (events j
    ++ (found_faults (maybe members.Moves (a_list MOST_MOVES)) (same members.Moves refl refl j)
    ++ (found_faults (maybe members.Drain (known_name servers)) (same members.Drain refl refl j)
    ++ (found_faults (maybe members.Asks (known_list MOST_ASKS shards)) (same members.Asks refl refl j) ++ [])))))))))))

kept_under : {V : Type 0} (faults_of : List (List ℕ) → List (List ℕ) → List Data → Data → List TextFault) (value_of : List (List ℕ) → List (List ℕ) → Data → V) (m : Member) (early : Option (EarlyList V))
    (a b s t : List (List ℕ)) (some whole : Members) (kept d : Data) → a ≡ s → b ≡ t → kept ≡ object some → d ≡ object whole
    → IsKept (faults_of a b) (value_of a b) (HaveIds a b) early (get_member (text_of m) some) (get_member (text_of m) whole) → IsKept (faults_of s t) (value_of s t) (HaveIds s t) early (found m kept) (found m d)
kept_under faults_of value_of m early a b s t some whole kept d p q k e is =
    subst (λ x. IsKept (faults_of x t) (value_of x t) (HaveIds x t) early (found m kept) (found m d)) p
    (subst (λ x. IsKept (faults_of a x) (value_of a x) (HaveIds a x) early (found m kept) (found m d)) q
    (subst (λ x. IsKept (faults_of a b) (value_of a b) (HaveIds a b) early (found m x) (found m d)) (sym k)
    (subst (λ x. IsKept (faults_of a b) (value_of a b) (HaveIds a b) early (found m (object some)) (found m x)) (sym e) is)))

-- where calls and events stand, beside what is kept, for the names that the document has
pub outlined_lists : (early : Option Early) (kept d : Data) → IsOutlined early kept d → (shards servers : List (List ℕ)) → shards ≡ shard_names_in kept → servers ≡ server_names_in kept
    → IsKept (call_faults shards servers) (call_in shards servers) (HaveIds shards servers) (calls_of early) (found members.Calls kept) (found members.Calls d)
    × IsKept (event_faults shards servers) (event_in shards servers) (HaveIds shards servers) (events_of early) (found members.Events kept) (found members.Events d)
outlined_lists None kept d is shards servers n s = (ap (found members.Calls) is, ap (found members.Events) is)
outlined_lists (Some early) kept d is shards servers n s =
    let a : early.shards ≡ shards = is.4.shards ∙ sym (ap shard_names_in is.2) ∙ sym n in
    let b : early.servers ≡ servers = is.4.servers ∙ sym (ap server_names_in is.2) ∙ sym s in (
      kept_under call_faults call_in members.Calls early.calls early.shards early.servers shards servers is.0 is.1 kept d a b is.2 is.3 is.4.calls,
      kept_under event_faults event_in members.Events early.events early.shards early.servers shards servers is.0 is.1 kept d a b is.2 is.3 is.4.events,
    )
