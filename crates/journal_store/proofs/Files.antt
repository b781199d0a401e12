-- A store in a file, over the calls of a disk.
use Rattle.std.proofs.Common.{◌≡◌, ◌⊎◌, inl, inr, ⊎_elim, ℕ, ◌≤◌, ◌-◌, true, false, List, [], ◌++◌, length, take, drop, refl, sym, ◌∙◌, ap, subst, arith, length-append, take-append-drop}
use Rattle.std.proofs.lemmas.Bool.{cases_lt}
use Rattle.std.proofs.lemmas.List.{take-take, length-take, take-append-le}
use Rattle.journal_store.specs.declared.file.FileStore.{FileStore}
use Rattle.journal_store.specs.Store.{written_now, MayLeave, IsSynced, Passes, IsTorn, IsCut, StepsTo}
use Rattle.journal_store.specs.Disk.{DiskPasses, IsBrought, IsFirm, file_left}
use Rattle.journal_store.specs.FileStore.{KeepsFile}

-- what is the same up to a place is the same up to an earlier one
take_less : (less more : ℕ) (a b : List ℕ) → less ≤ more → take more a ≡ take more b → take less a ≡ take less b
take_less less more a b within same = sym (take-take less more a within) ∙ ap (take less) same ∙ take-take less more b within

-- a text that agrees with another one up to a place is that long
is_long : (place : ℕ) (content text : List ℕ) → take place content ≡ take place text → place ≤ length text → place ≤ length content
is_long place content text same within = omega (arith, ap length same, length-take place content, length-take place text, within)

-- Two calls that leave what was written: the second one is a sync.
module _ {D : Type 0} (moment : D → ℕ) (written_at : D → ℕ → List ℕ) (left_at : D → ℕ → List ℕ → Type 0) where
  pub sync_behind : (old mid new : D) → Passes moment written_at left_at old mid (written_now moment written_at old) (MayLeave moment left_at old) → written_now moment written_at mid ≡ written_now moment written_at old
      → Passes moment written_at left_at mid new (written_now moment written_at mid) (λ content. MayLeave moment left_at mid content ⊎ (content ≡ written_now moment written_at mid))
      → Passes moment written_at left_at old new (written_now moment written_at old) (λ content. MayLeave moment left_at old content ⊎ (content ≡ written_now moment written_at old))
  sync_behind old mid new first same second = record {
    later = omega (arith, first.later, second.later);
    texts = λ n past. second.texts n (omega (arith, past, first.later)) ∙ first.texts n past;
    before = λ n content past left. first.before n content past (second.before n content (omega (arith, past, first.later)) left);
    kept = λ n content past left. second.kept n content (omega (arith, past, first.later)) (first.kept n content past left);
    written = λ n after until. ⊎_elim
        (λ later. second.written n later until ∙ same)
        (λ past. second.texts n past ∙ first.written n after past)
        (cases_lt (moment mid) n);
    each = λ n content after until left. ⊎_elim
        (λ later. ⊎_elim (λ before. inl (was_left content before)) (λ is. inr (is ∙ same)) (second.each n content later until left))
        (λ past. inl (first.each n content after past (second.before n content past left)))
        (cases_lt (moment mid) n);
  }
    where
      was_left : (content : List ℕ) → MayLeave moment left_at mid content → MayLeave moment left_at old content
      was_left content left = ⊎_elim
          (λ later. first.each (moment mid) content later (omega arith) left)
          (λ past. subst (λ m. left_at old m content) (omega (arith, past, first.later)) (first.before (moment mid) content past left))
          (cases_lt (moment old) (moment mid))

module _ {D : Type 0} (moment : D → ℕ) (written_at : D → ℕ → List ℕ) (left_at : D → ℕ → List ℕ → Type 0) (nameless_at : D → ℕ → Type 0) where
  -- a crash at a moment may leave this of a store
  abbrev pub left_of : FileStore D → ℕ → List ℕ → Type 0
  left_of store = file_left left_at nameless_at store.disk

  -- time goes on for a store as for its disk
  pub store_passes : (old new : FileStore D) (text : List ℕ) (told told' : List ℕ → Type 0) → DiskPasses moment written_at left_at nameless_at old.disk new.disk text told
      → ((content : List ℕ) → told content → told' content) → (nameless_at old.disk (moment old.disk) → told' [])
      → Passes (λ (store : FileStore D). moment store.disk) (λ (store : FileStore D). written_at store.disk) left_of old new text told'
  store_passes old new text told told' passes each none = record {
    later = passes.bytes.later;
    texts = passes.bytes.texts;
    before = λ n content past left. ⊎_elim (λ one. inl (passes.bytes.before n content past one)) (λ (nameless, is). inr (passes.before n past nameless, is)) left;
    kept = λ n content past left. ⊎_elim (λ one. inl (passes.bytes.kept n content past one)) (λ (nameless, is). inr (passes.kept n past nameless, is)) left;
    written = passes.bytes.written;
    each = λ n content after until left. ⊎_elim
        (λ one. each content (passes.bytes.each n content after until one))
        (λ (nameless, is). subst told' (sym is) (none (passes.each n after until nameless)))
        left;
  }

  -- no call, no time
  pub store_rests : (store : FileStore D) (text : List ℕ) (told : List ℕ → Type 0)
      → Passes (λ (store : FileStore D). moment store.disk) (λ (store : FileStore D). written_at store.disk) left_of store store text told
  store_rests store text told = record {
    later = omega arith;
    texts = λ n past. refl;
    before = λ n content past left. left;
    kept = λ n content past left. left;
    written = λ n after until. absurd (omega (arith, after, until));
    each = λ n content after until left. absurd (omega (arith, after, until));
  }

  -- what a crash may leave behind a call
  left_behind : (old new : D) (text : List ℕ) (told : List ℕ → Type 0) → DiskPasses moment written_at left_at nameless_at old new text told → (content : List ℕ) → MayLeave moment left_at new content
      → told content ⊎ (MayLeave moment left_at old content × (written_now moment written_at new ≡ written_now moment written_at old))
  left_behind old new text told passes content left = ⊎_elim
      (λ later. inl (passes.bytes.each (moment new) content later (omega arith) left))
      (λ past.
      let same : moment new ≡ moment old = omega (arith, past, passes.bytes.later) in
      inr (subst (λ m. left_at old m content) same (passes.bytes.before (moment new) content past left), passes.bytes.texts (moment new) past ∙ ap (written_at old) same))
      (cases_lt (moment old) (moment new))

  -- a name that was on the disk is there behind a call
  pub named_behind : (old new : D) (text : List ℕ) (told : List ℕ → Type 0) → DiskPasses moment written_at left_at nameless_at old new text told → (nameless_at old (moment old) → ⊥)
      → nameless_at new (moment new) → ⊥
  named_behind old new text told passes named nameless = ⊎_elim
      (λ later. named (passes.each (moment new) later (omega arith) nameless))
      (λ past. named (subst (nameless_at old) (omega (arith, past, passes.bytes.later)) (passes.before (moment new) past nameless)))
      (cases_lt (moment old) (moment new))

  -- the front that was on the disk is there behind a call, up to an earlier place
  firm_behind : (old new : D) (text : List ℕ) (told : List ℕ → Type 0) (from from' : ℕ) → DiskPasses moment written_at left_at nameless_at old new text told
      → IsFirm moment written_at left_at old from → from' ≤ from → written_now moment written_at new ≡ text → ((content : List ℕ) → told content → take from' content ≡ take from' text)
      → IsFirm moment written_at left_at new from'
  firm_behind old new text told from from' passes firm less is each content left = ⊎_elim
      (λ now. each content now ∙ ap (take from') (sym is))
      (λ (before, same). take_less from' from content (written_now moment written_at old) less (firm content before) ∙ ap (take from') (sym same))
      (left_behind old new text told passes content left)

  -- behind a call that changes nothing
  pub firm_behind_same : (old new : D) (from from' : ℕ) → DiskPasses moment written_at left_at nameless_at old new (written_now moment written_at old) (MayLeave moment left_at old)
      → IsFirm moment written_at left_at old from → from' ≤ from → written_now moment written_at new ≡ written_now moment written_at old → IsFirm moment written_at left_at new from'
  firm_behind_same old new from from' passes firm less same =
      firm_behind old new (written_now moment written_at old) (MayLeave moment left_at old) from from' passes firm less same
      (λ content left. take_less from' from content (written_now moment written_at old) less (firm content left))

  -- behind an append
  pub firm_behind_append : (old new : D) (bytes : List ℕ) (from : ℕ)
      → DiskPasses moment written_at left_at nameless_at old new (written_now moment written_at old ++ bytes) (StepsTo (MayLeave moment left_at old) (IsTorn bytes))
      → IsFirm moment written_at left_at old from → from ≤ length (written_now moment written_at old)
      → written_now moment written_at new ≡ written_now moment written_at old ++ bytes → IsFirm moment written_at left_at new from
  firm_behind_append old new bytes from passes firm within is =
      firm_behind old new (written_now moment written_at old ++ bytes) (StepsTo (MayLeave moment left_at old) (IsTorn bytes)) from from passes firm (omega arith) is
      (λ content (before, left, (torn, each, whole)).
      ap (take from) whole ∙ take-append-le from before torn (is_long from before (written_now moment written_at old) (firm before left) within) ∙ firm before left
      ∙ sym (take-append-le from (written_now moment written_at old) bytes within))

  -- behind a cut
  pub firm_behind_cut : (old new : D) (least : ℕ) (from from' : ℕ)
      → DiskPasses moment written_at left_at nameless_at old new (take least (written_now moment written_at old)) (StepsTo (MayLeave moment left_at old) (IsCut least))
      → IsFirm moment written_at left_at old from → from' ≤ from → from' ≤ least → written_now moment written_at new ≡ take least (written_now moment written_at old)
      → IsFirm moment written_at left_at new from'
  firm_behind_cut old new least from from' passes firm less within is =
      firm_behind old new (take least (written_now moment written_at old)) (StepsTo (MayLeave moment left_at old) (IsCut least)) from from' passes firm less is
      (λ content (before, left, (most, more, whole)).
      ap (take from') whole ∙ take-take from' most before (omega (arith, within, more)) ∙ take_less from' from before (written_now moment written_at old) less (firm before left)
      ∙ sym (take-take from' least (written_now moment written_at old) within))

  -- what was brought to the disk is all that was written
  brought : (disk : D) (from : ℕ) → IsFirm moment written_at left_at disk from → (content : List ℕ)
      → StepsTo (MayLeave moment left_at disk) (IsBrought from (written_now moment written_at disk)) content → content ≡ written_now moment written_at disk
  brought disk from firm content (before, left, is) =
      is ∙ ap (λ l. l ++ drop from (written_now moment written_at disk)) (firm before left) ∙ take-append-drop from (written_now moment written_at disk)

  -- what a crash may leave in a sync, of a disk
  abbrev InSync : D → ℕ → List ℕ → Type 0
  InSync disk from content = MayLeave moment left_at disk content ⊎ StepsTo (MayLeave moment left_at disk) (IsBrought from (written_now moment written_at disk)) content

  -- and of a store
  in_sync : (store : FileStore D) (from : ℕ) → IsFirm moment written_at left_at store.disk from → (content : List ℕ) → InSync store.disk from content
      → left_of store (moment store.disk) content ⊎ (content ≡ written_now moment written_at store.disk)
  in_sync store from firm content told = ⊎_elim (λ left. inl (inl left)) (λ one. inr (brought store.disk from firm content one)) told

  -- behind the sync of a file
  pub firm_behind_sync : (old new : D) (from : ℕ) → DiskPasses moment written_at left_at nameless_at old new (written_now moment written_at old) (InSync old from)
      → IsFirm moment written_at left_at old from → written_now moment written_at new ≡ written_now moment written_at old → IsFirm moment written_at left_at new from
  firm_behind_sync old new from passes firm same =
      firm_behind old new (written_now moment written_at old) (InSync old from) from from passes firm (omega arith) same
      (λ content told. ⊎_elim (λ left. firm content left) (λ one. ap (take from) (brought old from firm content one)) told)

  pub passes_sync : (old new : FileStore D) (from : ℕ) → DiskPasses moment written_at left_at nameless_at old.disk new.disk (written_now moment written_at old.disk) (InSync old.disk from)
      → IsFirm moment written_at left_at old.disk from
      → Passes (λ (store : FileStore D). moment store.disk) (λ (store : FileStore D). written_at store.disk) left_of old new (written_now moment written_at old.disk)
      (λ content. left_of old (moment old.disk) content ⊎ (content ≡ written_now moment written_at old.disk))
  passes_sync old new from passes firm =
      store_passes old new (written_now moment written_at old.disk) (InSync old.disk from) (λ content. left_of old (moment old.disk) content ⊎ (content ≡ written_now moment written_at old.disk))
      passes (in_sync old from firm) (λ nameless. inl (inr (nameless, refl)))

  -- a sync of the file, and then one of the folder
  pub both_syncs : (old mid new : D) (from : ℕ) → DiskPasses moment written_at left_at nameless_at old mid (written_now moment written_at old) (InSync old from)
      → written_now moment written_at mid ≡ written_now moment written_at old
      → DiskPasses moment written_at left_at nameless_at mid new (written_now moment written_at mid) (MayLeave moment left_at mid)
      → DiskPasses moment written_at left_at nameless_at old new (written_now moment written_at old) (InSync old from)
  both_syncs old mid new from first same second = record {
    bytes = record {
      later = omega (arith, first.bytes.later, second.bytes.later);
      texts = λ n past. second.bytes.texts n (omega (arith, past, first.bytes.later)) ∙ first.bytes.texts n past;
      before = λ n content past left. first.bytes.before n content past (second.bytes.before n content (omega (arith, past, first.bytes.later)) left);
      kept = λ n content past left. second.bytes.kept n content (omega (arith, past, first.bytes.later)) (first.bytes.kept n content past left);
      written = λ n after until. ⊎_elim
          (λ later. second.bytes.written n later until ∙ same)
          (λ past. second.bytes.texts n past ∙ first.bytes.written n after past)
          (cases_lt (moment mid) n);
      each = λ n content after until left. ⊎_elim
          (λ later. ⊎_elim (λ told. told) (λ (before, is). inl before) (left_behind old mid (written_now moment written_at old) (InSync old from) first content (second.bytes.each n content later until left)))
          (λ past. first.bytes.each n content after past (second.bytes.before n content past left))
          (cases_lt (moment mid) n);
    };
    before = λ n past nameless. first.before n past (second.before n (omega (arith, past, first.bytes.later)) nameless);
    kept = λ n past nameless. second.kept n (omega (arith, past, first.bytes.later)) (first.kept n past nameless);
    each = λ n after until nameless. ⊎_elim
        (λ later. ⊎_elim
        (λ since. first.each (moment mid) since (omega arith) (second.each n later until nameless))
        (λ past. subst (nameless_at old) (omega (arith, past, first.bytes.later)) (first.before (moment mid) past (second.each n later until nameless)))
        (cases_lt (moment old) (moment mid)))
        (λ past. first.each n after past (second.before n past nameless))
        (cases_lt (moment mid) n);
  }

  -- once a file was synced, and has its name on the disk, a crash leaves what was written
  pub synced_with_name : (old : D) (new : FileStore D) (from : ℕ) → IsFirm moment written_at left_at old from
      → ((content : List ℕ) → MayLeave moment left_at new.disk content → StepsTo (MayLeave moment left_at old) (IsBrought from (written_now moment written_at old)) content)
      → written_now moment written_at new.disk ≡ written_now moment written_at old → (nameless_at new.disk (moment new.disk) → ⊥)
      → IsSynced (λ (store : FileStore D). moment store.disk) (λ (store : FileStore D). written_at store.disk) left_of new
  synced_with_name old new from firm each same named content left = ⊎_elim
      (λ one. brought old from firm content (each content one) ∙ sym same)
      (λ (nameless, is). absurd (named nameless))
      left

  -- the folder's sync leaves of the file what might be left before
  pub left_by_folder : (mid new : D) → DiskPasses moment written_at left_at nameless_at mid new (written_now moment written_at mid) (MayLeave moment left_at mid) → (content : List ℕ)
      → MayLeave moment left_at new content → MayLeave moment left_at mid content
  left_by_folder mid new passes content left = ⊎_elim (λ told. told) (λ (before, is). before) (left_behind mid new (written_now moment written_at mid) (MayLeave moment left_at mid) passes content left)

  -- a store whose last bytes were written anew, and which may have failed at that
  pub renew_passes : (old new : FileStore D) → DiskPasses moment written_at left_at nameless_at old.disk new.disk (written_now moment written_at old.disk) (MayLeave moment left_at old.disk)
      → Passes (λ (store : FileStore D). moment store.disk) (λ (store : FileStore D). written_at store.disk) left_of old new (written_now moment written_at old.disk)
      (λ content. left_of old (moment old.disk) content ⊎ (content ≡ written_now moment written_at old.disk))
  renew_passes old new passes =
      store_passes old new (written_now moment written_at old.disk) (MayLeave moment left_at old.disk) (λ content. left_of old (moment old.disk) content ⊎ (content ≡ written_now moment written_at old.disk))
      passes (λ content left. inl (inl left)) (λ nameless. inl (inr (nameless, refl)))

  -- and then a sync
  pub renewed_sync : (old mid new : FileStore D) → DiskPasses moment written_at left_at nameless_at old.disk mid.disk (written_now moment written_at old.disk) (MayLeave moment left_at old.disk)
      → written_now moment written_at mid.disk ≡ written_now moment written_at old.disk
      → Passes (λ (store : FileStore D). moment store.disk) (λ (store : FileStore D). written_at store.disk) left_of mid new (written_now moment written_at mid.disk)
      (λ content. left_of mid (moment mid.disk) content ⊎ (content ≡ written_now moment written_at mid.disk))
      → Passes (λ (store : FileStore D). moment store.disk) (λ (store : FileStore D). written_at store.disk) left_of old new (written_now moment written_at old.disk)
      (λ content. left_of old (moment old.disk) content ⊎ (content ≡ written_now moment written_at old.disk))
  renewed_sync old mid new first same second =
      sync_behind (λ (store : FileStore D). moment store.disk) (λ (store : FileStore D). written_at store.disk) left_of old mid new
      (store_passes old mid (written_now moment written_at old.disk) (MayLeave moment left_at old.disk) (left_of old (moment old.disk)) first (λ content left. inl left) (λ nameless. inr (nameless, refl)))
      same second

-- A store, call by call.
module _ {D : Type 0} (keeps_word : D → Type 0) (moment : D → ℕ) (written_at : D → ℕ → List ℕ) (left_at : D → ℕ → List ℕ → Type 0) (nameless_at : D → ℕ → Type 0) (own_from : D → ℕ) where
  abbrev Keeps : FileStore D → Type 0
  Keeps = KeepsFile keeps_word moment written_at left_at nameless_at own_from

  -- what was written is of the same length
  same_length : (old new : D) → written_now moment written_at new ≡ written_now moment written_at old → length (written_now moment written_at new) ≡ length (written_now moment written_at old)
  same_length old new same = ap length same

  -- a read
  pub keeps_read : (old new : FileStore D) → Keeps old → keeps_word new.disk → DiskPasses moment written_at left_at nameless_at old.disk new.disk (written_now moment written_at old.disk) (MayLeave moment left_at old.disk)
      → written_now moment written_at new.disk ≡ written_now moment written_at old.disk → own_from new.disk ≡ own_from old.disk → new.is_renewed ≡ old.is_renewed → new.is_named ≡ old.is_named → Keeps new
  keeps_read old new kept word passes same own renewed named = record {
    word = word;
    first = λ not. firm_behind_same moment written_at left_at nameless_at old.disk new.disk (length (written_now moment written_at old.disk) - 8388608) (length (written_now moment written_at new.disk) - 8388608)
        passes (kept.first (sym renewed ∙ not)) (omega (arith, same_length old.disk new.disk same)) same;
    firm = λ is. firm_behind_same moment written_at left_at nameless_at old.disk new.disk (own_from old.disk) (own_from new.disk) passes (kept.firm (sym renewed ∙ is)) (omega (arith, own)) same;
    within = λ is. omega (arith, own, same_length old.disk new.disk same, kept.within (sym renewed ∙ is));
    named = λ is. named_behind moment written_at left_at nameless_at old.disk new.disk (written_now moment written_at old.disk) (MayLeave moment left_at old.disk) passes (kept.named (sym named ∙ is));
  }

  -- an append
  pub keeps_append : (old new : FileStore D) (bytes : List ℕ) → Keeps old → keeps_word new.disk
      → DiskPasses moment written_at left_at nameless_at old.disk new.disk (written_now moment written_at old.disk ++ bytes) (StepsTo (MayLeave moment left_at old.disk) (IsTorn bytes))
      → written_now moment written_at new.disk ≡ written_now moment written_at old.disk ++ bytes → own_from new.disk ≡ own_from old.disk → old.is_renewed ≡ true → new.is_renewed ≡ true → new.is_named ≡ old.is_named → Keeps new
  keeps_append old new bytes kept word passes is own renewed still named = record {
    word = word;
    first = λ not. absurd (cc);
    firm = λ now. subst (IsFirm moment written_at left_at new.disk) (sym own)
        (firm_behind_append moment written_at left_at nameless_at old.disk new.disk bytes (own_from old.disk) passes (kept.firm renewed) (kept.within renewed) is);
    within = λ now. omega (arith, own, kept.within renewed, ap length is, length-append (written_now moment written_at old.disk) bytes);
    named = λ is. named_behind moment written_at left_at nameless_at old.disk new.disk (written_now moment written_at old.disk ++ bytes) (StepsTo (MayLeave moment left_at old.disk) (IsTorn bytes)) passes
        (kept.named (sym named ∙ is));
  }

  -- a cut
  pub keeps_cut : (old new : FileStore D) (least : ℕ) → Keeps old → keeps_word new.disk
      → DiskPasses moment written_at left_at nameless_at old.disk new.disk (take least (written_now moment written_at old.disk)) (StepsTo (MayLeave moment left_at old.disk) (IsCut least))
      → written_now moment written_at new.disk ≡ take least (written_now moment written_at old.disk) → own_from new.disk ≤ own_from old.disk → own_from new.disk ≤ least
      → old.is_renewed ≡ true → new.is_renewed ≡ true → new.is_named ≡ old.is_named → Keeps new
  keeps_cut old new least kept word passes is own short renewed still named = record {
    word = word;
    first = λ not. absurd (cc);
    firm = λ now. firm_behind_cut moment written_at left_at nameless_at old.disk new.disk least (own_from old.disk) (own_from new.disk) passes (kept.firm renewed) own short is;
    within = λ now. omega (arith, own, short, kept.within renewed, ap length is, length-take least (written_now moment written_at old.disk));
    named = λ is. named_behind moment written_at left_at nameless_at old.disk new.disk (take least (written_now moment written_at old.disk)) (StepsTo (MayLeave moment left_at old.disk) (IsCut least)) passes
        (kept.named (sym named ∙ is));
  }

  -- the last bytes, written anew
  pub keeps_renew : (old new : FileStore D) → Keeps old → keeps_word new.disk → DiskPasses moment written_at left_at nameless_at old.disk new.disk (written_now moment written_at old.disk) (MayLeave moment left_at old.disk)
      → written_now moment written_at new.disk ≡ written_now moment written_at old.disk → own_from new.disk ≤ length (written_now moment written_at old.disk) - 8388608
      → old.is_renewed ≡ false → new.is_renewed ≡ true → new.is_named ≡ old.is_named → Keeps new
  keeps_renew old new kept word passes same own not is named = record {
    word = word;
    first = λ still. absurd (cc);
    firm = λ now. firm_behind_same moment written_at left_at nameless_at old.disk new.disk (length (written_now moment written_at old.disk) - 8388608) (own_from new.disk) passes (kept.first not) own same;
    within = λ now. omega (arith, own, same_length old.disk new.disk same);
    named = λ is. named_behind moment written_at left_at nameless_at old.disk new.disk (written_now moment written_at old.disk) (MayLeave moment left_at old.disk) passes (kept.named (sym named ∙ is));
  }

  -- a sync of the file
  pub keeps_file_sync : (old new : FileStore D) → Keeps old → keeps_word new.disk
      → DiskPasses moment written_at left_at nameless_at old.disk new.disk (written_now moment written_at old.disk)
      (λ content. MayLeave moment left_at old.disk content ⊎ StepsTo (MayLeave moment left_at old.disk) (IsBrought (own_from old.disk) (written_now moment written_at old.disk)) content)
      → written_now moment written_at new.disk ≡ written_now moment written_at old.disk → own_from new.disk ≡ own_from old.disk → old.is_renewed ≡ true → new.is_renewed ≡ true → new.is_named ≡ old.is_named → Keeps new
  keeps_file_sync old new kept word passes same own renewed still named = record {
    word = word;
    first = λ not. absurd (cc);
    firm = λ now. subst (IsFirm moment written_at left_at new.disk) (sym own)
        (firm_behind_sync moment written_at left_at nameless_at old.disk new.disk (own_from old.disk) passes (kept.firm renewed) same);
    within = λ now. omega (arith, own, same_length old.disk new.disk same, kept.within renewed);
    named = λ is. named_behind moment written_at left_at nameless_at old.disk new.disk (written_now moment written_at old.disk) _ passes (kept.named (sym named ∙ is));
  }
