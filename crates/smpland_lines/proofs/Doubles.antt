-- A walk over the entries of a list, which holds the texts that it has met in a set.
use Rattle.std.proofs.Common.{◌≡◌, ◌∙◌, ◌<◌, ◌+◌, ◌++◌, ◌||◌, ◌⊎◌, ap, inl, inr, is_some, sym, true≢false, ℕ, List, [], ◌∷◌, Bool, true, false, Option, Some, None, Bor, arith, refl, unwrap_or}
use Rattle.std.specs.List.{list_any}
use Rattle.std.specs.Str.{bytes_eq}
use Rattle.std.proofs.lemmas.Bool.{cases_eq, or_cases, or_right}
use Rattle.std.proofs.lemmas.List.Folds.{list_any-append}
use Rattle.std.proofs.lemmas.Slice.Eq.{bytes_eq-Decides}
use Rattle.json_tree.specs.declared.tree.Tree.{Tree}
use Rattle.smpland_lines.specs.Entries.{AreSingle, IsDouble, text_in_entry}
use Rattle.smpland_lines.specs.declared.command_member.CommandMember.{CommandMember}

-- a set holds a text
abbrev pub has_text : List (Bor (List ℕ)) → List ℕ → Bool
has_text seen text = list_any (λ (held : Bor (List ℕ)). bytes_eq text held.now) seen

module _ (key : CommandMember) (entries : List Tree) where
  -- a set holds the texts that so many first entries have, and no others
  pub record Holds (seen : List (Bor (List ℕ))) (count : ℕ) : Type 0 where
    pub from : (text : List ℕ) → has_text seen text ≡ true → (earlier : ℕ) × (earlier < count) × (text_in_entry key entries earlier ≡ Some text)
    pub all : (earlier : ℕ) (text : List ℕ) → earlier < count → text_in_entry key entries earlier ≡ Some text → has_text seen text ≡ true

  -- at the start it holds none
  pub holds_none : Holds [] 0
  holds_none = record {
    from = λ text has. absurd (true≢false (sym has));
    all = λ earlier text before is. absurd (omega arith);
  }

  pub single_none : AreSingle key entries 0
  single_none at before double = absurd (omega arith)

  module _ (seen : List (Bor (List ℕ))) (at : ℕ) (held : Holds seen at) where
    -- an entry without a text
    module _ (none : text_in_entry key entries at ≡ None) where
      without : (i : ℕ) (text : List ℕ) → i ≡ at → text_in_entry key entries i ≡ Some text → ⊥
      without i text same is = true≢false (ap is_some (sym is ∙ (ap (text_in_entry key entries) same ∙ none)))

      -- behind it the set holds what it held
      pub holds_skip : Holds seen (at + 1)
      holds_skip = record {
        from = λ text has. let h = held.from text has in (h.0, omega (arith, h.1), h.2);
        all = λ earlier text before is. elim (cases_eq earlier at) [
          | inl same ↦ absurd (without earlier text same is)
          | inr other ↦ held.all earlier text (omega arith) is
        ];
      }

      -- it has the text of no earlier one
      pub single_skip : AreSingle key entries at → AreSingle key entries (at + 1)
      single_skip single i before double = elim (cases_eq i at) [
        | inl same ↦ without i double.text same double.here
        | inr other ↦ single i (omega arith) double
      ]

    -- an entry with a text
    module _ (found : Bor (List ℕ)) (is : text_in_entry key entries at ≡ Some found.now) where
      its_text : (i : ℕ) (text : List ℕ) → i ≡ at → text_in_entry key entries i ≡ Some text → text ≡ found.now
      its_text i text same here = ap (λ (o : Option (List ℕ)). unwrap_or o []) (sym here ∙ (ap (text_in_entry key entries) same ∙ is))

      -- it has the text of an earlier one if the set held that
      pub doubled : has_text seen found.now ≡ true → IsDouble key entries at
      doubled has = let h = held.from found.now has in record {
        text = found.now;
        here = is;
        earlier = h.0;
        before = h.1;
        there = h.2;
      }

      pushed : (text : List ℕ) → has_text (seen ++ found ∷ []) text ≡ (has_text seen text || (bytes_eq text found.now || false))
      pushed text = list_any-append (λ (held : Bor (List ℕ)). bytes_eq text held.now) seen (found ∷ [])

      newly : (text : List ℕ) → (has_text seen text ≡ true) ⊎ ((bytes_eq text found.now || false) ≡ true) → (earlier : ℕ) × (earlier < at + 1) × (text_in_entry key entries earlier ≡ Some text)
      newly text (inl has) = let h = held.from text has in (h.0, omega (arith, h.1), h.2)
      newly text (inr same) =
          let equal : text ≡ found.now = elim (or_cases _ _ same) [ inl e ↦ (bytes_eq-Decides text found.now).0 e | inr never ↦ absurd (true≢false (sym never)) ] in
          (at, omega arith, is ∙ ap Some (sym equal))

      -- behind it the set holds its text, too
      pub holds_push : Holds (seen ++ found ∷ []) (at + 1)
      holds_push = record {
        from = λ text has. newly text (or_cases _ _ (sym (pushed text) ∙ has));
        all = λ earlier text before here. elim (cases_eq earlier at) [
          | inl same ↦
              pushed text ∙ ap (λ b. has_text seen text || (b || false)) ((bytes_eq-Decides text found.now).1 (its_text earlier text same here))
              ∙ or_right (has_text seen text) true refl
          | inr other ↦
              pushed text ∙ ap (λ b. b || (bytes_eq text found.now || false)) (held.all earlier text (omega arith) here)
        ];
      }

      -- it has the text of no earlier one if the set did not hold that
      pub single_push : has_text seen found.now ≡ false → AreSingle key entries at → AreSingle key entries (at + 1)
      single_push new single i before double = elim (cases_eq i at) [
        | inl same ↦
            let has = held.all double.earlier double.text (omega (arith, double.before, same)) double.there in
            true≢false (sym has ∙ (ap (has_text seen) (its_text i double.text same double.here) ∙ new))
        | inr other ↦ single i (omega arith) double
      ]
