-- Values whose text is read back as they are: their strings are texts, their numbers are whole, and the keys of each object
-- rise.
use Rattle.std.proofs.Common.{◌≡◌, ◌≤◌, ◌<◌, ◌^◌, ◌++◌, ℕ, suc, max, Bool, true, false, List, [], ◌∷◌, map, Some, option_map, option_and_then, IsUtf8, decimal, refl, sym, ap, ap₂, ◌∙◌, subst, append-nil}
use Rattle.std.specs.List.{AllByRecursion}
use Rattle.std.proofs.lemmas.Str.{IsUtf8-append, IsUtf8-from_ascii}
use Rattle.std.proofs.lemmas.Fmt.{IsAscii-decimal}
use Rattle.json.specs.Lex.{tokens}
use Rattle.json.specs.Json as json
use Rattle.json.specs.Tree as tree
use Rattle.json.proofs.Printed.Decimals.{IsNumber-decimal}
use Rattle.json.proofs.Printed.Tokens.{tokens-print}
use Rattle.json.proofs.Printed.Trees.{value-json_tokens, ArePrintable-json_tokens}
use Rattle.json.proofs.Printed.Utf8.{are_ascii, IsUtf8-are_ascii, IsUtf8-quoted}
use Rattle.serde_json.specs.Data.{Data, null, boolean, number, unsigned, string, array, object, Items, no_items, item, Members, no_members, member, put, depth, items_depth, members_depth}
use Rattle.serde_json.specs.Read.{read, of_json, of_items, of_members, max_depth}
use Rattle.serde_json.specs.View.{items_of}
use Rattle.serde_json.specs.Written.{outline, items_outline, members_outline, comma_if, compact_text, items_text, members_text}
use Rattle.serde_json.proofs.Numbers.{number_of-decimal}
use Rattle.serde_json.proofs.Texts.{print-outline}

-- the value's text is UTF-8, its numbers are numbers of JSON, and what is read from its outline is the value
pub record IsReadable (d : Data) : Type 0 where
  pub utf8 : IsUtf8 (compact_text d)
  pub numbers : tree.HasNumbers (outline d)
  pub same : of_json (outline d) ≡ Some d

pub record AreReadableItems (ds : Items) : Type 0 where
  pub utf8 : (later : Bool) → IsUtf8 (items_text later ds)
  pub numbers : tree.ItemsHaveNumbers (items_outline ds)
  pub same : of_items (items_outline ds) ≡ Some ds

-- the same of members, which make of those that were read before the ones that there are in all
pub record AreReadable (before ms all : Members) : Type 0 where
  pub utf8 : (later : Bool) → IsUtf8 (members_text later ms)
  pub numbers : tree.MembersHaveNumbers (members_outline ms)
  pub same : of_members (members_outline ms) before ≡ Some all

-- ---- strings, numbers and null

-- null is read back as it is
pub null_readable : IsReadable null
null_readable = record { utf8 = IsUtf8-are_ascii (compact_text null) refl; numbers = tt; same = refl }

-- so is a string that is UTF-8
pub string_readable : (s : List ℕ) → IsUtf8 s → IsReadable (string s)
string_readable s h = record { utf8 = IsUtf8-quoted s h; numbers = tt; same = refl }

-- and one that is ASCII
pub word_readable : (s : List ℕ) → are_ascii s ≡ true → IsReadable (string s)
word_readable s h = string_readable s (IsUtf8-are_ascii s h)

-- and a whole number below 2^64
pub whole_readable : (n : ℕ) → n < 2 ^ 64 → IsReadable (number (unsigned n))
whole_readable n h = record {
  utf8 = IsUtf8-from_ascii (decimal n) (IsAscii-decimal n h);
  numbers = IsNumber-decimal n h;
  same = ap (option_map number) (number_of-decimal n h);
}

-- ---- lists

comma_utf8 : (later : Bool) → IsUtf8 (comma_if later)
comma_utf8 true = IsUtf8-are_ascii (44 ∷ []) refl
comma_utf8 false = IsUtf8-are_ascii [] refl

no_items_readable : AreReadableItems no_items
no_items_readable = record { utf8 = λ later. IsUtf8-are_ascii (93 ∷ []) refl; numbers = tt; same = refl }

and_item : (d : Data) (ds : Items) → IsReadable d → AreReadableItems ds → AreReadableItems (item d ds)
and_item d ds h rest = record {
  utf8 = λ later. IsUtf8-append (comma_if later) _ (comma_utf8 later) (IsUtf8-append (compact_text d) _ h.utf8 (rest.utf8 true));
  numbers = (h.numbers, rest.numbers);
  same = ap (option_and_then (λ x. option_map (item x) (of_items (items_outline ds)))) h.same ∙ ap (option_map (item d)) rest.same;
}

-- entries of which each is read back as it is are read back together
pub items_readable : {T : Type 0} (f : T → Data) (P : T → Type 0) → ((x : T) → P x → IsReadable (f x)) → (xs : List T) → AllByRecursion P xs → AreReadableItems (items_of (map f xs))
items_readable f P each [] h = no_items_readable
items_readable f P each (x ∷ xs) h = and_item (f x) _ (each x h.0) (items_readable f P each xs h.1)

-- and so is the list of them
pub array_readable : (ds : Items) → AreReadableItems ds → IsReadable (array ds)
array_readable ds h = record {
  utf8 = IsUtf8-append (91 ∷ []) (items_text false ds) (IsUtf8-are_ascii (91 ∷ []) refl) (h.utf8 false);
  numbers = h.numbers;
  same = ap (option_map array) h.same;
}

-- ---- objects

-- at the end of an object, what was read before is what there is in all
pub no_more : (all : Members) → AreReadable all no_members all
no_more all = record { utf8 = λ later. IsUtf8-are_ascii (125 ∷ []) refl; numbers = tt; same = refl }

-- one member more, which is put among those that were read before
pub and_member : (k : List ℕ) (d : Data) (ms before next all : Members) → are_ascii k ≡ true → IsReadable d → put k d before ≡ next → AreReadable next ms all → AreReadable before (member k d ms) all
and_member k d ms before next all key h puts rest = record {
  utf8 = λ later. IsUtf8-append (comma_if later) _ (comma_utf8 later)
      (IsUtf8-append _ _ (IsUtf8-quoted k (IsUtf8-are_ascii k key))
      (IsUtf8-append (58 ∷ []) _ (IsUtf8-are_ascii (58 ∷ []) refl) (IsUtf8-append (compact_text d) _ h.utf8 (rest.utf8 true))));
  numbers = (h.numbers, rest.numbers);
  same = ap (option_and_then (λ x. of_members (members_outline ms) (put k x before))) h.same
      ∙ ap (of_members (members_outline ms)) puts ∙ rest.same;
}

-- an object whose members are read back as they are is read back as it is
pub object_readable : (ms : Members) → AreReadable no_members ms ms → IsReadable (object ms)
object_readable ms h = record {
  utf8 = IsUtf8-append (123 ∷ []) (members_text false ms) (IsUtf8-are_ascii (123 ∷ []) refl) (h.utf8 false);
  numbers = h.numbers;
  same = ap (option_map object) h.same;
}

-- ---- the text

mutual
  outline_depth : (d : Data) → tree.depth (outline d) ≡ depth d
  outline_depth null = refl
  outline_depth (boolean b) = refl
  outline_depth (number n) = refl
  outline_depth (string s) = refl
  outline_depth (array ds) = ap (λ n. suc n) (items_outline_depth ds)
  outline_depth (object ms) = ap (λ n. suc n) (members_outline_depth ms)

  items_outline_depth : (ds : Items) → tree.items_depth (items_outline ds) ≡ items_depth ds
  items_outline_depth no_items = refl
  items_outline_depth (item d ds) = ap₂ max (outline_depth d) (items_outline_depth ds)

  members_outline_depth : (ms : Members) → tree.members_depth (members_outline ms) ≡ members_depth ms
  members_outline_depth no_members = refl
  members_outline_depth (member k d ms) = ap₂ max (outline_depth d) (members_outline_depth ms)

-- the text of a readable value that does not nest too deep is read as that value
pub text_read : (d : Data) → IsReadable d → depth d ≤ max_depth → read (compact_text d) ≡ Some d
text_read d h shallow =
    let ts = tree.json_tokens (outline d) in
    let lexed : tokens (compact_text d) ≡ ts ++ [] =
    ap tokens (sym (print-outline d)) ∙ tokens-print ts (ArePrintable-json_tokens (outline d) h.numbers) ∙ sym (append-nil ts) in
    let within : tree.depth (outline d) ≤ max_depth = subst (λ n. n ≤ max_depth) (sym (outline_depth d)) shallow in
    ap (λ us. option_and_then of_json (option_and_then (λ p. json.if_last p.0 p.1) (json.value max_depth us))) lexed
    ∙ ap (λ o. option_and_then of_json (option_and_then (λ p. json.if_last p.0 p.1) o)) (value-json_tokens (outline d) max_depth [] within)
    ∙ h.same
