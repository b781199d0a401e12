-- The rules of the code, and the rows that they are.
use Rattle.std.proofs.Common.{◌≡◌, ◌∙◌, ◌+◌, ◌<◌, ◌++◌, ◌||◌, ℕ, cond, List, [], ◌∷◌, length, drop, get_or, Option, Some, None, IfSome, is_some, option_map, option_and_then, unwrap_or, map, Bor, refl, sym, ap, subst}
use Rattle.std.specs.List.{flat_map, list_any}
use Rattle.std.specs.Str.{bytes_eq}
use Rattle.std.proofs.lemmas.List.{drop_more}
use Rattle.serde_json.specs.Data.{Data}
use Rattle.serde_json.specs.Find.{as_object}
use Rattle.sm_plan_text.specs.declared.fault.TextFault.{TextFault}
use Rattle.sm_plan_text.specs.declared.fault.TextFault.TheVariants.{Shape}
use Rattle.sm_plan_text.specs.declared.member.Member.{Member}
use Rattle.sm_plan_text.specs.declared.cursor.Scope.{Scope}
use Rattle.sm_plan_text.specs.declared.rule.Rule.{Rule}
use Rattle.sm_plan_text.specs.declared.rule.Rule.TheVariants as rule
use Rattle.sm_plan_text.specs.Members.{text_of}
use Rattle.sm_plan_text.specs.Faults.{noted}
use Rattle.sm_plan_text.specs.Values.{text_found, text_in}
use Rattle.sm_plan_text.specs.Tables.{Row, is_among, object_faults, row_faults, own_faults, by_word, worded_faults}
use Rattle.sm_plan_text.specs.Rules.{member_of, row_of}
use Rattle.sm_plan_text.proofs.WalkLemmas.{noted_append}
use Rattle.sm_plan_text.proofs.DocumentLemmas.{two_noted}
use Rattle.sm_plan_text.proofs.PlanLemmas.{none_at_all}
use Rattle.sm_plan_text.proofs.Faultless.{nil_right}

-- rules name the members of their rows
pub names_of_rules : (scope : Scope) (rules : List Rule) → map (λ r. text_of (member_of r)) rules ≡ map (λ row. text_of row.member) (map (row_of scope) rules)
names_of_rules scope [] = refl
names_of_rules scope (rule.One m form ∷ rules) = ap (λ names. text_of m ∷ names) (names_of_rules scope rules)
names_of_rules scope (rule.Maybe m form ∷ rules) = ap (λ names. text_of m ∷ names) (names_of_rules scope rules)

-- a key is that of a rule, or of its member
pub any_rule : (key : List ℕ) (rules : List Rule) → list_any (λ r. bytes_eq key (text_of (member_of r))) rules ≡ is_among (map (λ r. text_of (member_of r)) rules) key
any_rule key [] = refl
any_rule key (r ∷ rules) = ap (λ b. bytes_eq key (text_of (member_of r)) || b) (any_rule key rules)

-- what is left of the rows, one rule on
pub rows_step : (scope : Scope) (d : Data) (rules : List Rule) (i : ℕ) (other : Rule) (best next : Option TextFault) → i < length rules → next ≡ noted best (row_faults d (row_of scope (get_or rules i other))) → noted next (flat_map (row_faults d) (map (row_of scope) (drop (i + 1) rules))) ≡ noted best (flat_map (row_faults d) (map (row_of scope) (drop i rules)))
rows_step scope d rules i other best next h e =
    let rest : List TextFault = flat_map (row_faults d) (map (row_of scope) (drop (i + 1) rules)) in
    ap (λ b. noted b rest) e ∙
    sym (noted_append best (row_faults d (row_of scope (get_or rules i other))) rest) ∙
    sym (ap (λ rs. noted best (flat_map (row_faults d) (map (row_of scope) rs))) (drop_more rules i other h))

-- the faults of an object: of its members' names, and then of its members
pub own_noted : (parent : Member) (scope : Scope) (rules : List Rule) (d : Data) (start opened end : Option TextFault)
    → opened ≡ noted start (object_faults parent (map (λ r. text_of (member_of r)) rules) d)
    → end ≡ noted opened (flat_map (row_faults d) (map (row_of scope) rules))
    → end ≡ noted start (own_faults parent (map (row_of scope) rules) d)
own_noted parent scope rules d start opened end is_opened is_end =
    two_noted start opened end (object_faults parent (map (λ row. text_of row.member) (map (row_of scope) rules)) d) (flat_map (row_faults d) (map (row_of scope) rules))
    (is_opened ∙ ap (λ names. noted start (object_faults parent names d)) (names_of_rules scope rules)) is_end

-- the same, where a word says which rules an object has
pub worded_noted : (parent word : Member) (scope : Scope) (rules : List Rule) (d : Data) (start opened end : Option TextFault)
    → opened ≡ noted start (object_faults parent (text_of word ∷ map (λ r. text_of (member_of r)) rules) d)
    → end ≡ noted opened (flat_map (row_faults d) (map (row_of scope) rules))
    → end ≡ noted start (by_word parent word (map (row_of scope)) d (Some rules))
worded_noted parent word scope rules d start opened end is_opened is_end =
    two_noted start opened end (object_faults parent (text_of word ∷ map (λ row. text_of row.member) (map (row_of scope) rules)) d) (flat_map (row_faults d) (map (row_of scope) rules))
    (is_opened ∙ ap (λ names. noted start (object_faults parent (text_of word ∷ names) d)) (names_of_rules scope rules)) is_end

-- rules found by a word are those of its table
same_faults : {W : Type 0} (parent word : Member) (table : W → List Row) (scope : Scope) (d : Data) (rules : Option (Bor (List Rule))) (o : Option W)
    → option_map (λ r. map (row_of scope) r.now) rules ≡ option_map table o
    → by_word parent word (map (row_of scope)) d (option_map (λ r. r.now) rules) ≡ by_word parent word table d o
same_faults parent word table scope d None None is = refl
same_faults parent word table scope d None (Some w) is = absurd (cc)
same_faults parent word table scope d (Some rules) None is = absurd (cc)
same_faults parent word table scope d (Some rules) (Some w) is =
    ap (λ rows. object_faults parent (text_of word ∷ map (λ (row : Row). text_of row.member) rows) d ++ flat_map (row_faults d) rows) (ap (λ o. unwrap_or o []) is)

-- a word that is missing says none of the tables
pub at_word : {W : Type 0} (named : List ℕ → Option W) (found : Option (List ℕ)) → named [] ≡ None → option_and_then named found ≡ named (unwrap_or found [])
at_word named None none = sym none
at_word named (Some text) none = refl

-- noting by the rules that the code gives an object's word notes what the definition says of such an object
pub worded_faults_noted : {W : Type 0} (parent word : Member) (named : List ℕ → Option W) (table : W → List Row) (scope : Scope) (d : Data) (text : List ℕ) (rules : Option (Bor (List Rule))) (start end : Option TextFault)
    → named [] ≡ None → text ≡ text_in word d
    → option_map (λ r. map (row_of scope) r.now) rules ≡ option_map table (named text)
    → end ≡ noted start (by_word parent word (map (row_of scope)) d (option_map (λ r. r.now) rules))
    → end ≡ noted start (worded_faults parent word named table d)
worded_faults_noted parent word named table scope d text rules start end none is_text is_table is_end =
    is_end ∙ ap (noted start) (same_faults parent word table scope d rules (named text) is_table ∙
    ap (by_word parent word table d) (ap named is_text ∙ sym (at_word named (text_found word d) none)))

-- what holds by each word that says a table holds by the word of an object without faults, which says one
by_its_word : {W : Type 0} (P : Option W → Type 0) (Q : W → Type 0) (parent word : Member) (table : W → List Row) (d : Data) (o : Option W)
    → ((w : W) → Q w → P (Some w)) → by_word parent word table d o ≡ [] → IfSome o Q → P o
by_its_word P Q parent word table d None holds faultless is =
    let some : (Shape word ∷ []) ≡ [] = nil_right (cond (is_some (as_object d)) [] (Shape parent ∷ [])) (Shape word ∷ []) faultless in
    absurd (cc)
by_its_word P Q parent word table d (Some w) holds faultless is = holds w is

-- what holds by each word that says a table holds of an object in which nothing is wrong
pub worded_value : {W : Type 0} (P : Option W → Type 0) (Q : W → Type 0) (parent word : Member) (named : List ℕ → Option W) (table : W → List Row) (d : Data) (text : List ℕ) (start end : Option TextFault)
    → named [] ≡ None → text ≡ text_in word d
    → ((w : W) → Q w → P (Some w)) → IfSome (named text) Q
    → end ≡ noted start (worded_faults parent word named table d) → end ≡ None
    → P (option_and_then named (text_found word d))
worded_value P Q parent word named table d text start end none is_text holds is is_end is_none =
    by_its_word P Q parent word table d (option_and_then named (text_found word d)) holds (none_at_all start end (worded_faults parent word named table d) is_end is_none)
    (subst (λ o. IfSome o Q) (ap named is_text ∙ sym (at_word named (text_found word d) none)) is)

-- the faults by the rules of a word that says a table are those by that table
by_its_rules : {W : Type 0} (table : W → List Row) (scope : Scope) (d : Data) (rules : List Rule) (opened end : Option TextFault) (o : Option W)
    → Some (map (row_of scope) rules) ≡ option_map table o
    → IfSome o (λ w. end ≡ noted opened (flat_map (row_faults d) (table w)))
    → end ≡ noted opened (flat_map (row_faults d) (map (row_of scope) rules))
by_its_rules table scope d rules opened end None is is_end = absurd (cc)
by_its_rules table scope d rules opened end (Some w) is is_end =
    is_end ∙ ap (λ rows. noted opened (flat_map (row_faults d) rows)) (sym (ap (λ o. unwrap_or o []) is))

-- noting what an object's members are, and then the faults by the table of its word, notes what the definition says of such an object
pub worded_taken : {W : Type 0} (parent word : Member) (named : List ℕ → Option W) (table : W → List Row) (scope : Scope) (d : Data) (text : List ℕ) (rules : Bor (List Rule)) (start opened end : Option TextFault)
    → named [] ≡ None → text ≡ text_in word d
    → Some (map (row_of scope) rules.now) ≡ option_map table (named text)
    → opened ≡ noted start (object_faults parent (text_of word ∷ map (λ r. text_of (member_of r)) rules.now) d)
    → IfSome (named text) (λ w. end ≡ noted opened (flat_map (row_faults d) (table w)))
    → end ≡ noted start (worded_faults parent word named table d)
worded_taken parent word named table scope d text rules start opened end none is_text is_table is_opened is_end =
    worded_faults_noted parent word named table scope d text (Some rules) start end none is_text is_table
    (worded_noted parent word scope rules.now d start opened end is_opened (by_its_rules table scope d rules.now opened end (named text) is_table is_end))

-- a word without rules says none of the tables
no_table : {W : Type 0} (table : W → List Row) (o : Option W) → None ≡ option_map table o → o ≡ None
no_table table None is = refl
no_table table (Some w) is = absurd (cc)

-- what an object says by a word without rules
pub wordless_value : {W V : Type 0} (word : Member) (named : List ℕ → Option W) (table : W → List Row) (by : Option W → V) (d : Data) (text : List ℕ)
    → named [] ≡ None → text ≡ text_in word d → None ≡ option_map table (named text)
    → by None ≡ by (option_and_then named (text_found word d))
wordless_value word named table by d text none is_text is_table =
    ap by (sym (at_word named (text_found word d) none ∙ sym (ap named is_text) ∙ no_table table (named text) is_table))

-- noting the faults of one member notes those of a table of it
pub one_row : (d : Data) (a : Row) (best end : Option TextFault) → end ≡ noted best (row_faults d a) → end ≡ noted best (flat_map (row_faults d) (a ∷ []))
one_row d a best end is = is ∙ sym (noted_append best (row_faults d a) [])

-- the same of two members
pub two_rows : (d : Data) (a b : Row) (best end : Option TextFault) → end ≡ noted best (row_faults d a ++ row_faults d b) → end ≡ noted best (flat_map (row_faults d) (a ∷ b ∷ []))
two_rows d a b best end is =
    one_row d b (noted best (row_faults d a)) end (is ∙ noted_append best (row_faults d a) (row_faults d b)) ∙
    sym (noted_append best (row_faults d a) (flat_map (row_faults d) (b ∷ [])))

-- the same of two members, and of one more behind them
pub three_rows : (d : Data) (a b c : Row) (best middle end : Option TextFault) → middle ≡ noted best (row_faults d a ++ row_faults d b) → end ≡ noted middle (row_faults d c) → end ≡ noted best (flat_map (row_faults d) (a ∷ b ∷ c ∷ []))
three_rows d a b c best middle end is_middle is_end =
    two_rows d b c (noted best (row_faults d a)) end
    (is_end ∙ ap (λ m. noted m (row_faults d c)) (is_middle ∙ noted_append best (row_faults d a) (row_faults d b)) ∙ sym (noted_append (noted best (row_faults d a)) (row_faults d b) (row_faults d c))) ∙
    sym (noted_append best (row_faults d a) (flat_map (row_faults d) (b ∷ c ∷ [])))
