-- An append, call by call.
use Rattle.std.proofs.Common.{◌≡◌, ◌⊎◌, inl, inr, ⊎_elim, ℕ, ◌-◌, ◌≤◌, List, [], ◌∷◌, ◌++◌, length, take, drop, map, refl, sym, ◌∙◌, ap, subst, arith, length-append}
use Rattle.std.specs.List.{All}
use Rattle.std.proofs.lemmas.Bool.{cases_lt}
use Rattle.std.proofs.lemmas.List.{append-nil, map-append, take_rest}
use Rattle.std.proofs.lemmas.List.Elements.{All-nil, All-push}
use Rattle.journal_lines.specs.Objects.{behind_commas, listed, IsObject, IsBatch}
use Rattle.journal_lines.specs.Lines.{journal_line, sum_of, no_sum, IsRight}
use Rattle.journal_lines.specs.Journal.{last_sum, journal_of, HasBatches, HasNoForged}
use Rattle.journal_lines.proofs.Chains.{last_sum-push}
use Rattle.journal_lines.proofs.TornEnds.{append_recovers, journal_push}
use Rattle.journal_store.specs.Store.{written_now, MayLeave, IsSynced, Passes, IsTorn, StepsTo}
use Rattle.journal_serve.specs.declared.journal.Journal.{Journal}
use Rattle.journal_serve.specs.Moments.{EachLeft, RecoversToOneOf, RecoversToGrown, grown}
use Rattle.journal_serve.specs.Journal.{IsOnDisk}

-- the journal of these batches recovers to them
pub journal_recovers : (batches : List (List (List ℕ))) → All IsBatch batches → HasBatches (journal_of batches) batches
journal_recovers batches each = record { end = []; each = each; is = sym (append-nil (journal_of batches)); torn = All-nil (λ line. IsRight line → ⊥) }

module _ {D : Type 0} (moment : D → ℕ) (written_at : D → ℕ → List ℕ) (left_at : D → ℕ → List ℕ → Type 0) (journal : Journal D) (batches : List (List (List ℕ))) (commands : List (List ℕ))
    (rest : IsOnDisk moment written_at left_at journal batches) (batch : IsBatch commands) where
  -- before the first call
  pub left_at_first : EachLeft moment left_at journal.store journal.store (RecoversToOneOf batches commands)
  left_at_first n content from until left honest =
      let now : n ≡ moment journal.store = omega (arith, from, until) in
      let is : content ≡ journal_of batches = rest.synced content (subst (λ (m : ℕ). left_at journal.store m content) now left) ∙ rest.written in
      inl (subst (λ (c : List ℕ). HasBatches c batches) (sym is) (journal_recovers batches rest.each))

  -- the line that is appended, with its line feed
  abbrev pub appended_text : List ℕ
  appended_text = journal_line journal.sum.text (listed commands) ++ 10 ∷ []

  -- the journal with that line
  pub longer : journal_of batches ++ appended_text ≡ journal_of (batches ++ commands ∷ [])
  longer = ap (λ (a : List ℕ). journal_of batches ++ (journal_line a (listed commands) ++ 10 ∷ [])) rest.sum ∙ sym (journal_push batches commands)

  -- what is written with the text that is appended
  pub grows_by : (text : List ℕ) → text ≡ appended_text → written_now moment written_at journal.store ++ text ≡ journal_of (batches ++ commands ∷ [])
  grows_by text is = ap (λ (l : List ℕ). l ++ text) rest.written ∙ ap (λ (l : List ℕ). journal_of batches ++ l) is ∙ longer

  torn_recovers : (text : List ℕ) → text ≡ appended_text → (content : List ℕ) → StepsTo (MayLeave moment left_at journal.store) (IsTorn text) content → RecoversToOneOf batches commands content
  torn_recovers text is content (before, left, (torn, short, whole)) honest =
      let at : content ≡ journal_of batches ++ torn = whole ∙ ap (λ (l : List ℕ). l ++ torn) (rest.synced before left ∙ rest.written) in
      let long : length (journal_of batches ++ torn) ≤ length (journal_of (batches ++ commands ∷ [])) =
      omega (arith, short, ap length is, ap length longer, length-append (journal_of batches) torn, length-append (journal_of batches) appended_text) in
      ⊎_elim
      (λ one. inl (subst (λ (c : List ℕ). HasBatches c batches) (sym at) one))
      (λ one. inr (subst (λ (c : List ℕ). HasBatches c (batches ++ commands ∷ [])) (sym at) one))
      (append_recovers batches commands torn rest.each batch long (subst (λ (c : List ℕ). HasNoForged (journal_of (batches ++ commands ∷ [])) c) at honest))

  -- after the append
  pub left_by_append : (mid : D) (text : List ℕ) → text ≡ appended_text
      → Passes moment written_at left_at journal.store mid (written_now moment written_at journal.store ++ text) (StepsTo (MayLeave moment left_at journal.store) (IsTorn text))
      → EachLeft moment left_at journal.store mid (RecoversToOneOf batches commands)
  left_by_append mid text is passes n content from until left = ⊎_elim
      (λ later. torn_recovers text is content (passes.each n content later until left))
      (λ before. left_at_first n content from before (passes.before n content before left))
      (cases_lt (moment journal.store) n)

  -- what was written by then
  pub written_by_append : (mid : D) (text : List ℕ) → text ≡ appended_text → written_now moment written_at mid ≡ written_now moment written_at journal.store ++ text
      → written_now moment written_at mid ≡ journal_of (batches ++ commands ∷ [])
  written_by_append mid text is written = written ∙ ap (λ (l : List ℕ). l ++ text) rest.written ∙ ap (λ (l : List ℕ). journal_of batches ++ l) is ∙ longer

  -- after the sync
  pub left_by_sync : (mid new : D) (text : List ℕ) → text ≡ appended_text
      → Passes moment written_at left_at journal.store mid (written_now moment written_at journal.store ++ text) (StepsTo (MayLeave moment left_at journal.store) (IsTorn text))
      → written_now moment written_at mid ≡ written_now moment written_at journal.store ++ text
      → Passes moment written_at left_at mid new (written_now moment written_at mid) (λ content. MayLeave moment left_at mid content ⊎ (content ≡ written_now moment written_at mid))
      → EachLeft moment left_at journal.store new (RecoversToOneOf batches commands)
  left_by_sync mid new text is first written second n content from until left = ⊎_elim
      (λ later. ⊎_elim
      (λ old. left_by_append mid text is first (moment mid) content first.later (omega arith) old)
      (λ now honest. inr (subst (λ (c : List ℕ). HasBatches c (batches ++ commands ∷ [])) (sym (now ∙ written_by_append mid text is written))
      (journal_recovers (batches ++ commands ∷ []) (All-push IsBatch batches commands rest.each batch))))
      (second.each n content later until left))
      (λ before. left_by_append mid text is first n content from before (second.before n content before left))
      (cases_lt (moment mid) n)

  -- the journal is at rest again
  pub at_rest_again : (mid : D) (new : Journal D) (text : List ℕ) → text ≡ appended_text → written_now moment written_at mid ≡ written_now moment written_at journal.store ++ text
      → written_now moment written_at new.store ≡ written_now moment written_at mid → IsSynced moment written_at left_at new.store
      → new.sum.text ≡ sum_of journal.sum.text (listed commands) → IsOnDisk moment written_at left_at new (batches ++ commands ∷ [])
  at_rest_again mid new text is first second synced sum = record {
    each = All-push IsBatch batches commands rest.each batch;
    written = second ∙ written_by_append mid text is first;
    synced = synced;
    sum = sum ∙ ap (λ (a : List ℕ). sum_of a (listed commands)) rest.sum ∙ sym (last_sum-push no_sum (map listed batches) (listed commands))
        ∙ ap (last_sum no_sum) (sym (map-append listed batches (commands ∷ [])));
  }

module _ {D : Type 0} (moment : D → ℕ) (written_at : D → ℕ → List ℕ) (left_at : D → ℕ → List ℕ → Type 0) where
  -- where nothing was called, no time went on
  pub passes_not : (store : D) (text : List ℕ) (told : List ℕ → Type 0) → Passes moment written_at left_at store store text told
  passes_not store text told = record {
    later = omega arith;
    texts = λ n past. refl;
    before = λ n content past left. left;
    kept = λ n content past left. left;
    written = λ n after until. absurd (omega (arith, after, until));
    each = λ n content after until left. absurd (omega (arith, after, until));
  }

  -- one call, with what is told of each moment
  pub passes_once : (old new : D) (text text' : List ℕ) (told told' : List ℕ → Type 0) → Passes moment written_at left_at old new text' told' → text' ≡ text
      → EachLeft moment left_at old new told → Passes moment written_at left_at old new text told
  passes_once old new text text' told told' first is each = record {
    later = first.later;
    texts = first.texts;
    before = first.before;
    kept = first.kept;
    written = λ n after until. first.written n after until ∙ is;
    each = λ n content after until left. each n content (omega (arith, after)) until left;
  }

  -- two calls, one behind the other, after each of which the same text was written
  pub passes_twice : (old mid new : D) (text text' text'' : List ℕ) (told told' told'' : List ℕ → Type 0) → Passes moment written_at left_at old mid text' told'
      → Passes moment written_at left_at mid new text'' told'' → text' ≡ text → text'' ≡ text → EachLeft moment left_at old new told → Passes moment written_at left_at old new text told
  passes_twice old mid new text text' text'' told told' told'' first second is also each = record {
    later = omega (arith, first.later, second.later);
    texts = λ n past. second.texts n (omega (arith, past, first.later)) ∙ first.texts n past;
    before = λ n content past left. first.before n content past (second.before n content (omega (arith, past, first.later)) left);
    kept = λ n content past left. second.kept n content (omega (arith, past, first.later)) (first.kept n content past left);
    written = λ n after until. ⊎_elim
        (λ later. second.written n later until ∙ also)
        (λ past. second.texts n past ∙ first.written n after past ∙ is)
        (cases_lt (moment mid) n);
    each = λ n content after until left. each n content (omega (arith, after)) until left;
  }

-- no command stands behind no comma
no_commands : (changed : List (List ℕ)) → behind_commas changed ≡ [] → changed ≡ []
no_commands [] is = refl
no_commands (command ∷ changed) is = absurd (cc)

-- where there are commands, they are one batch more
pub grown_is : (batches : List (List (List ℕ))) (changed : List (List ℕ)) → (changed ≡ [] → ⊥) → grown batches changed ≡ batches ++ changed ∷ []
grown_is batches [] some = absurd (some refl)
grown_is batches (command ∷ changed) some = refl

module _ {D : Type 0} (moment : D → ℕ) (written_at : D → ℕ → List ℕ) (left_at : D → ℕ → List ℕ → Type 0) (journal : Journal D) (batches : List (List (List ℕ))) (changed : List (List ℕ))
    (rest : IsOnDisk moment written_at left_at journal batches) where
  -- where there are none, the journal is at rest as it was
  pub at_rest_without : behind_commas changed ≡ [] → IsOnDisk moment written_at left_at journal (grown batches changed)
  at_rest_without none = subst (λ (l : List (List ℕ)). IsOnDisk moment written_at left_at journal (grown batches l)) (sym (no_commands changed none)) rest

  -- and a crash leaves what is there
  pub left_without : behind_commas changed ≡ [] → EachLeft moment left_at journal.store journal.store (RecoversToGrown batches changed)
  left_without none n content from until left honest =
      let now : n ≡ moment journal.store = omega (arith, from, until) in
      let is : content ≡ journal_of batches = rest.synced content (subst (λ (m : ℕ). left_at journal.store m content) now left) ∙ rest.written in
      inl (subst (λ (c : List ℕ). HasBatches c batches) (sym is) (journal_recovers batches rest.each))

-- some commands stand behind commas
pub some_commands : (changed : List (List ℕ)) (text : List ℕ) → text ≡ behind_commas changed → (length text ≡ 0 → ⊥) → changed ≡ [] → ⊥
some_commands changed text is long none = long (ap length (is ∙ ap behind_commas none))

-- they are a batch
pub changed_batch : (changed : List (List ℕ)) → All IsObject changed → (changed ≡ [] → ⊥) → IsBatch changed
changed_batch changed each some = record { some = some; objects = each }

-- what stands behind the first comma is listed
pub behind_first : (changed : List (List ℕ)) (text : List ℕ) → text ≡ behind_commas changed → take (length text - 1) (drop 1 text) ≡ listed changed
behind_first changed text is = take_rest text 1 ∙ ap (drop 1) is
