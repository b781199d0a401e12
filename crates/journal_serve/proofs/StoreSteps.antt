-- The calls of a recovery, one behind the other.
use Rattle.std.proofs.Common.{◌≡◌, ◌⊎◌, inl, inr, ⊎_elim, ℕ, ◌≤◌, List, [], ◌++◌, length, take, refl, sym, ◌∙◌, ap, subst, arith, length-append}
use Rattle.std.proofs.lemmas.Bool.{cases_lt}
use Rattle.std.proofs.lemmas.List.{length-take, nil_from_length}
use Rattle.journal_lines.specs.Lines.{head}
use Rattle.journal_lines.specs.Journal.{journal_of, HasBatches}
use Rattle.journal_lines.proofs.TornEnds.{cut_recovers}
use Rattle.journal_store.specs.Store.{written_now, MayLeave, IsSynced, Passes, IsTorn, IsCut, StepsTo}
use Rattle.journal_serve.specs.Session.{commands_of}
use Rattle.journal_serve.specs.Recovery.{IsSameJournal, KeepsJournal, WasRead}

-- the content is no longer than the head
abbrev pub IsShort : List ℕ → Type 0
IsShort content = length content ≤ length head

-- two contents that are that short are journals that were not begun
pub short_is_same : (text : List ℕ) → IsShort text → (content : List ℕ) → IsShort content → IsSameJournal text content
short_is_same text short content other = inr ([], inl (short, refl), inl (other, refl))

-- two contents that have the same batches
pub batches_are_same : (batches : List (List (List ℕ))) (text : List ℕ) → HasBatches text batches → (content : List ℕ) → HasBatches content batches → IsSameJournal text content
batches_are_same batches text one content other = inr (commands_of batches, inr (batches, one, refl), inr (batches, other, refl))

module _ {D : Type 0} (moment : D → ℕ) (written_at : D → ℕ → List ℕ) (left_at : D → ℕ → List ℕ → Type 0) where
  -- what a crash may leave behind a call
  pub left_behind : (old new : D) (text : List ℕ) (told : List ℕ → Type 0) → Passes moment written_at left_at old new text told → (content : List ℕ) → MayLeave moment left_at new content
      → told content ⊎ MayLeave moment left_at old content
  left_behind old new text told passes content left = ⊎_elim
      (λ later. inl (passes.each (moment new) content later (omega arith) left))
      (λ past.
      let same : moment new ≡ moment old = omega (arith, past, passes.later) in
      inr (subst (λ m. left_at old m content) same (passes.before (moment new) content past left)))
      (cases_lt (moment old) (moment new))

  -- a store that was not read yet
  pub read_none : (store : D) → WasRead moment written_at left_at store store
  read_none store = record {
    same = refl;
    time = record {
      later = omega arith;
      texts = λ n past. refl;
      before = λ n content past left. left;
      kept = λ n content past left. left;
      written = λ n after until. absurd (omega (arith, after, until));
      each = λ n content after until left. absurd (omega (arith, after, until));
    };
  }

  -- what a crash may leave behind reads, it might have left before
  pub left_read : (old new : D) → WasRead moment written_at left_at old new → (content : List ℕ) → MayLeave moment left_at new content → MayLeave moment left_at old content
  left_read old new is content left = ⊎_elim (λ told. told) (λ before. before) (left_behind old new (written_now moment written_at old) (MayLeave moment left_at old) is.time content left)

  -- one read more
  pub read_more : (old mid new : D) → WasRead moment written_at left_at old mid → written_now moment written_at new ≡ written_now moment written_at mid
      → Passes moment written_at left_at mid new (written_now moment written_at mid) (MayLeave moment left_at mid) → WasRead moment written_at left_at old new
  read_more old mid new first same second = record {
    same = same ∙ first.same;
    time = record {
      later = omega (arith, first.time.later, second.later);
      texts = λ n past. second.texts n (omega (arith, past, first.time.later)) ∙ first.time.texts n past;
      before = λ n content past left. first.time.before n content past (second.before n content (omega (arith, past, first.time.later)) left);
      kept = λ n content past left. second.kept n content (omega (arith, past, first.time.later)) (first.time.kept n content past left);
      written = λ n after until. ⊎_elim
          (λ later. second.written n later until ∙ first.same)
          (λ past. second.texts n past ∙ first.time.written n after past)
          (cases_lt (moment mid) n);
      each = λ n content after until left. ⊎_elim
          (λ later. left_read old mid first content (second.each n content later until left))
          (λ past. first.time.each n content after past (second.before n content past left))
          (cases_lt (moment mid) n);
    };
  }

  -- more reads
  pub read_more_reads : (old mid new : D) → WasRead moment written_at left_at old mid → WasRead moment written_at left_at mid new → WasRead moment written_at left_at old new
  read_more_reads old mid new first second = read_more old mid new first second.same second.time

  -- a store that was synced still is when it was read
  pub synced_read : (old new : D) → WasRead moment written_at left_at old new → IsSynced moment written_at left_at old → IsSynced moment written_at left_at new
  synced_read old new is synced content left = synced content (left_read old new is content left) ∙ sym is.same

  -- no call
  pub keeps_none : (store : D) → KeepsJournal moment written_at left_at store store
  keeps_none store = record {
    later = omega arith;
    texts = λ n past. refl;
    before = λ n content past left. left;
    written = λ n after until. absurd (omega (arith, after, until));
    each = λ n content after until left. absurd (omega (arith, after, until));
  }

  -- one call more
  pub keeps_call : (old mid new : D) (text : List ℕ) (told : List ℕ → Type 0) → KeepsJournal moment written_at left_at old mid → Passes moment written_at left_at mid new text told
      → IsSameJournal (written_now moment written_at old) text
      → ((content : List ℕ) → told content → MayLeave moment left_at old content ⊎ IsSameJournal (written_now moment written_at old) content) → KeepsJournal moment written_at left_at old new
  keeps_call old mid new text told first second is each = record {
    later = omega (arith, first.later, second.later);
    texts = λ n past. second.texts n (omega (arith, past, first.later)) ∙ first.texts n past;
    before = λ n content past left. first.before n content past (second.before n content (omega (arith, past, first.later)) left);
    written = λ n after until. ⊎_elim
        (λ later. subst (IsSameJournal (written_now moment written_at old)) (sym (second.written n later until)) is)
        (λ past. subst (IsSameJournal (written_now moment written_at old)) (sym (second.texts n past)) (first.written n after past))
        (cases_lt (moment mid) n);
    each = λ n content after until left. ⊎_elim
        (λ later. each content (second.each n content later until left))
        (λ past. first.each n content after past (second.before n content past left))
        (cases_lt (moment mid) n);
  }

  -- calls from a store that was synced, with the text that was there at first
  pub keeps_join : (old mid new : D) → KeepsJournal moment written_at left_at old mid → KeepsJournal moment written_at left_at mid new
      → written_now moment written_at mid ≡ written_now moment written_at old → IsSynced moment written_at left_at mid → KeepsJournal moment written_at left_at old new
  keeps_join old mid new first second same synced = record {
    later = omega (arith, first.later, second.later);
    texts = λ n past. second.texts n (omega (arith, past, first.later)) ∙ first.texts n past;
    before = λ n content past left. first.before n content past (second.before n content (omega (arith, past, first.later)) left);
    written = λ n after until. ⊎_elim
        (λ later. subst (λ (text : List ℕ). IsSameJournal text (written_at new n)) same (second.written n later until))
        (λ past. subst (IsSameJournal (written_now moment written_at old)) (sym (second.texts n past)) (first.written n after past))
        (cases_lt (moment mid) n);
    each = λ n content after until left. ⊎_elim
        (λ later. inr (⊎_elim
        (λ before. inl (synced content before ∙ same))
        (λ is. subst (λ (text : List ℕ). IsSameJournal text content) same is)
        (second.each n content later until left)))
        (λ past. first.each n content after past (second.before n content past left))
        (cases_lt (moment mid) n);
  }

  -- reads
  pub keeps_read : (old mid new : D) → KeepsJournal moment written_at left_at old mid → WasRead moment written_at left_at mid new
      → written_now moment written_at mid ≡ written_now moment written_at old → IsSynced moment written_at left_at mid → KeepsJournal moment written_at left_at old new
  keeps_read old mid new first second same synced =
      keeps_call old mid new (written_now moment written_at mid) (MayLeave moment left_at mid) first second.time (inl same) (λ content left. inr (inl (synced content left ∙ same)))

  -- a first sync
  pub keeps_sync : (old new : D)
      → Passes moment written_at left_at old new (written_now moment written_at old) (λ content. MayLeave moment left_at old content ⊎ (content ≡ written_now moment written_at old))
      → KeepsJournal moment written_at left_at old new
  keeps_sync old new sync =
      keeps_call old old new (written_now moment written_at old) (λ content. MayLeave moment left_at old content ⊎ (content ≡ written_now moment written_at old)) (keeps_none old) sync (inl refl)
      (λ content told. ⊎_elim (λ left. inl left) (λ is. inr (inl is)) told)

  -- a first sync, and reads
  pub keeps_front : (old mid new : D)
      → Passes moment written_at left_at old mid (written_now moment written_at old) (λ content. MayLeave moment left_at old content ⊎ (content ≡ written_now moment written_at old))
      → written_now moment written_at mid ≡ written_now moment written_at old → IsSynced moment written_at left_at mid → WasRead moment written_at left_at mid new → KeepsJournal moment written_at left_at old new
  keeps_front old mid new sync same synced read = keeps_read old mid new (keeps_sync old mid sync) read same synced

  -- a crash leaves only contents of a kind
  abbrev pub Leaves : (List ℕ → Type 0) → D → Type 0
  Leaves P store = (content : List ℕ) → MayLeave moment left_at store content → P content

  -- a call that leaves only such contents
  pub leaves_call : (P : List ℕ → Type 0) (mid new : D) (text : List ℕ) (told : List ℕ → Type 0) → Leaves P mid → Passes moment written_at left_at mid new text told
      → ((content : List ℕ) → told content → P content) → Leaves P new
  leaves_call P mid new text told first passes each content left = ⊎_elim (λ now. each content now) (λ before. first content before) (left_behind mid new text told passes content left)

  -- where each content of the kind is the same journal
  pub keeps_kind : (P : List ℕ → Type 0) (old : D) → ((content : List ℕ) → P content → IsSameJournal (written_now moment written_at old) content) → (mid new : D) (text : List ℕ) (told : List ℕ → Type 0)
      → KeepsJournal moment written_at left_at old mid → Passes moment written_at left_at mid new text told → P text → ((content : List ℕ) → told content → P content)
      → KeepsJournal moment written_at left_at old new
  keeps_kind P old same mid new text told first passes is each = keeps_call old mid new text told first passes (same text is) (λ content now. inr (same content (each content now)))

  -- what a sync leaves
  pub sync_leaves : (P : List ℕ → Type 0) (mid : D) → Leaves P mid → P (written_now moment written_at mid) → (content : List ℕ)
      → MayLeave moment left_at mid content ⊎ (content ≡ written_now moment written_at mid) → P content
  sync_leaves P mid leaves is content told = ⊎_elim (λ left. leaves content left) (λ now. subst P (sym now) is) told

  -- The calls that begin a journal: a cut,
  module _ (s0 s1 : D) (synced : IsSynced moment written_at left_at s0) (short : IsShort (written_now moment written_at s0))
      (first : Passes moment written_at left_at s0 s1 (take 0 (written_now moment written_at s0)) (StepsTo (MayLeave moment left_at s0) (IsCut 0))) where
    same : (content : List ℕ) → IsShort content → IsSameJournal (written_now moment written_at s0) content
    same = short_is_same (written_now moment written_at s0) short

    none_is_short : IsShort (take 0 (written_now moment written_at s0))
    none_is_short = omega (arith, length-take 0 (written_now moment written_at s0))

    cut_each : (content : List ℕ) → StepsTo (MayLeave moment left_at s0) (IsCut 0) content → IsShort content
    cut_each content (before, left, (most, long, is)) = omega (arith, short, ap length is, length-take most before, ap length (synced before left))

    -- behind the cut
    pub begin_cut : KeepsJournal moment written_at left_at s0 s1
    begin_cut = keeps_kind IsShort s0 same s0 s1 (take 0 (written_now moment written_at s0)) (StepsTo (MayLeave moment left_at s0) (IsCut 0)) (keeps_none s0) first none_is_short cut_each

    cut_leaves : Leaves IsShort s1
    cut_leaves = leaves_call IsShort s0 s1 (take 0 (written_now moment written_at s0)) (StepsTo (MayLeave moment left_at s0) (IsCut 0))
        (λ content left. subst (λ (c : List ℕ). IsShort c) (sym (synced content left)) short) first cut_each

    -- a sync,
    module _ (s2 : D) (none : written_now moment written_at s1 ≡ take 0 (written_now moment written_at s0))
        (second : Passes moment written_at left_at s1 s2 (written_now moment written_at s1) (λ content. MayLeave moment left_at s1 content ⊎ (content ≡ written_now moment written_at s1))) where
      now_short : IsShort (written_now moment written_at s1)
      now_short = subst (λ (c : List ℕ). IsShort c) (sym none) none_is_short

      -- behind the sync
      pub begin_sync : KeepsJournal moment written_at left_at s0 s2
      begin_sync = keeps_kind IsShort s0 same s1 s2 (written_now moment written_at s1) (λ content. MayLeave moment left_at s1 content ⊎ (content ≡ written_now moment written_at s1))
          begin_cut second now_short (sync_leaves IsShort s1 cut_leaves now_short)

      -- an append of the head,
      module _ (s3 : D) (bytes : List ℕ) (settled : IsSynced moment written_at left_at s2) (still : written_now moment written_at s2 ≡ written_now moment written_at s1) (bytes_are : bytes ≡ head)
          (third : Passes moment written_at left_at s2 s3 (written_now moment written_at s2 ++ bytes) (StepsTo (MayLeave moment left_at s2) (IsTorn bytes))) where
        empty : written_now moment written_at s2 ≡ []
        empty = nil_from_length (written_now moment written_at s2) (omega (arith, ap length (still ∙ none), length-take 0 (written_now moment written_at s0)))

        append_each : (content : List ℕ) → StepsTo (MayLeave moment left_at s2) (IsTorn bytes) content → IsShort content
        append_each content (before, left, (torn, long, is)) = omega (arith, long, ap length bytes_are, ap length is, length-append before torn, ap length (settled before left ∙ empty))

        head_short : IsShort (written_now moment written_at s2 ++ bytes)
        head_short = omega (arith, length-append (written_now moment written_at s2) bytes, ap length empty, ap length bytes_are)

        -- behind the append
        pub begin_append : KeepsJournal moment written_at left_at s0 s3
        begin_append = keeps_kind IsShort s0 same s2 s3 (written_now moment written_at s2 ++ bytes) (StepsTo (MayLeave moment left_at s2) (IsTorn bytes)) begin_sync third head_short append_each

        append_leaves : Leaves IsShort s3
        append_leaves = leaves_call IsShort s2 s3 (written_now moment written_at s2 ++ bytes) (StepsTo (MayLeave moment left_at s2) (IsTorn bytes))
            (λ content left. omega (arith, ap length (settled content left ∙ empty))) third append_each

        -- and a sync
        module _ (s4 : D) (grown : written_now moment written_at s3 ≡ written_now moment written_at s2 ++ bytes)
            (fourth : Passes moment written_at left_at s3 s4 (written_now moment written_at s3) (λ content. MayLeave moment left_at s3 content ⊎ (content ≡ written_now moment written_at s3))) where
          -- behind all of them
          pub begin_done : KeepsJournal moment written_at left_at s0 s4
          begin_done =
              let now : IsShort (written_now moment written_at s3) = subst (λ (c : List ℕ). IsShort c) (sym grown) head_short in
              keeps_kind IsShort s0 same s3 s4 (written_now moment written_at s3) (λ content. MayLeave moment left_at s3 content ⊎ (content ≡ written_now moment written_at s3))
              begin_append fourth now (sync_leaves IsShort s3 append_leaves now)

  -- The calls that cut an end: a cut,
  module _ (s0 s1 : D) (synced : IsSynced moment written_at left_at s0) (batches : List (List (List ℕ))) (whole : ℕ) (one : HasBatches (written_now moment written_at s0) batches)
      (size : whole ≡ length (journal_of batches))
      (first : Passes moment written_at left_at s0 s1 (take whole (written_now moment written_at s0)) (StepsTo (MayLeave moment left_at s0) (IsCut whole))) where
    abbrev Has : List ℕ → Type 0
    Has content = HasBatches content batches

    cut_one : Has (take whole (written_now moment written_at s0))
    cut_one = cut_recovers (written_now moment written_at s0) batches whole one (omega (arith, size))

    end_each : (content : List ℕ) → StepsTo (MayLeave moment left_at s0) (IsCut whole) content → Has content
    end_each content (before, left, (most, long, is)) =
        subst (λ (c : List ℕ). HasBatches c batches) (sym is)
        (cut_recovers before batches most (subst (λ (c : List ℕ). HasBatches c batches) (sym (synced before left)) one) (omega (arith, long, size)))

    -- behind the cut
    pub end_cut : KeepsJournal moment written_at left_at s0 s1
    end_cut = keeps_kind Has s0 (batches_are_same batches (written_now moment written_at s0) one) s0 s1 (take whole (written_now moment written_at s0)) (StepsTo (MayLeave moment left_at s0) (IsCut whole))
        (keeps_none s0) first cut_one end_each

    end_leaves : Leaves Has s1
    end_leaves = leaves_call Has s0 s1 (take whole (written_now moment written_at s0)) (StepsTo (MayLeave moment left_at s0) (IsCut whole))
        (λ content left. subst (λ (c : List ℕ). HasBatches c batches) (sym (synced content left)) one) first end_each

    -- and a sync
    module _ (s2 : D) (none : written_now moment written_at s1 ≡ take whole (written_now moment written_at s0))
        (second : Passes moment written_at left_at s1 s2 (written_now moment written_at s1) (λ content. MayLeave moment left_at s1 content ⊎ (content ≡ written_now moment written_at s1))) where
      -- behind both
      pub end_synced : KeepsJournal moment written_at left_at s0 s2
      end_synced =
          let now : Has (written_now moment written_at s1) = subst (λ (c : List ℕ). HasBatches c batches) (sym none) cut_one in
          keeps_kind Has s0 (batches_are_same batches (written_now moment written_at s0) one) s1 s2 (written_now moment written_at s1)
          (λ content. MayLeave moment left_at s1 content ⊎ (content ≡ written_now moment written_at s1)) end_cut second now (sync_leaves Has s1 end_leaves now)
