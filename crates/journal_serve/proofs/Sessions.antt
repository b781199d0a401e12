-- A session, turn by turn: what a crash leaves, and what was told.
use Rattle.std.proofs.Common.{◌≡◌, ◌⊎◌, inr, ⊎_elim, ℕ, ◌≤◌, ◌<◌, List, [], ◌∷◌, ◌++◌, length, take, Option, refl, sym, ◌∙◌, ap, subst, arith, append_assoc, length-append}
use Rattle.std.specs.List.{All}
use Rattle.std.proofs.lemmas.Bool.{cases_lt}
use Rattle.std.proofs.lemmas.List.{append-nil, take_at, take_all, take-append-le}
use Rattle.std.proofs.lemmas.List.Concat.{flat_map-append}
use Rattle.std.proofs.lemmas.List.Elements.{All-nil}
use Rattle.std.specs.Io.KnownBytes.{Appends, Keeps}
use Rattle.journal_lines.specs.Objects.{IsBatch}
use Rattle.journal_lines.specs.Lines.{IsRight}
use Rattle.journal_lines.specs.Journal.{journal_of, HasBatches, RecoversTo, HasNoForged}
use Rattle.journal_store.specs.Store.{Passes}
use Rattle.journal_serve.specs.declared.journal.Journal.{Journal}
use Rattle.journal_serve.specs.Journal.{IsOnDisk}
use Rattle.journal_serve.specs.Moments.{RecoversToGrown, grown}
use Rattle.journal_serve.specs.Trace.{Exchange, changes_in, replies_in}
use Rattle.journal_serve.specs.Session.{commands_of, GrowsWithin, RecoversBeyond, EachRecovers, AreSafe, HasChanges}
use Rattle.journal_serve.proofs.Turns.{changes_in-append, replies_in-append}
use Rattle.journal_serve.proofs.KnownBytes.{grows_all, grows_behind, appends_kept}

-- a journal recovers to its batches
journal_recovers : (batches : List (List (List ℕ))) → All IsBatch batches → HasBatches (journal_of batches) batches
journal_recovers batches each = record { end = []; each = each; is = sym (append-nil (journal_of batches)); torn = All-nil (λ line. IsRight line → ⊥) }

-- the commands of batches that grew
pub commands_grown : (batches : List (List (List ℕ))) (changed : List (List ℕ)) → commands_of (grown batches changed) ≡ commands_of batches ++ changed
commands_grown batches [] = sym (append-nil (commands_of batches))
commands_grown batches (command ∷ changed) =
    flat_map-append (λ (batch : List (List ℕ)). batch) batches ((command ∷ changed) ∷ []) ∙ ap (λ (l : List (List ℕ)). commands_of batches ++ l) (append-nil (command ∷ changed))

module _ {D : Type 0} (keeps_word : D → Type 0) (moment : D → ℕ) (written_at : D → ℕ → List ℕ) (left_at : D → ℕ → List ℕ → Type 0) (entries : List (List ℕ)) where
  -- a content that has what the first exchanges changed
  recovers_at : (done more : List Exchange) (batches : List (List (List ℕ))) (content : List ℕ) → commands_of batches ≡ entries ++ changes_in done
      → HasBatches content batches → RecoversBeyond entries (done ++ more) (length done) content
  recovers_at done more batches content are has =
      let front : take (length done) (done ++ more) ≡ done = take_at done more (length done) refl in
      (length done, omega arith, omega (arith, length-append done more), inr (batches, has, ap (λ (t : List Exchange). entries ++ changes_in t) front ∙ sym are))

  lower : (trace : List Exchange) (least less : ℕ) (content : List ℕ) → less ≤ least → RecoversBeyond entries trace least content → RecoversBeyond entries trace less content
  lower trace least less content le (k, from, within, is) = (k, omega (arith, le, from), within, is)

  -- more exchanges
  beyond_more : (done more : List Exchange) (least : ℕ) (content : List ℕ) → RecoversBeyond entries done least content → RecoversBeyond entries (done ++ more) least content
  beyond_more done more least content (k, from, within, is) =
      (k, from, omega (arith, within, length-append done more), subst (λ (t : List Exchange). RecoversTo content (entries ++ changes_in t)) (sym (take-append-le k done more within)) is)

  left_is : (journal : Journal D) (batches : List (List (List ℕ))) (content : List ℕ) → IsOnDisk moment written_at left_at journal batches → left_at journal.store (moment journal.store) content → HasBatches content batches
  left_is journal batches content rest left = subst (λ (c : List ℕ). HasBatches c batches) (sym (rest.synced content left ∙ rest.written)) (journal_recovers batches rest.each)

  all_of : (done : List Exchange) (least : ℕ) (content : List ℕ) → RecoversBeyond entries (done ++ []) least content → RecoversBeyond entries done least content
  all_of done least content is = subst (λ (t : List Exchange). RecoversBeyond entries t least content) (append-nil done) is

  -- before the first turn
  pub kept_begins : (journal : Journal D) (batches : List (List (List ℕ))) → keeps_word journal.store → IsOnDisk moment written_at left_at journal batches → commands_of batches ≡ entries
      → HasChanges keeps_word moment written_at left_at entries [] journal.store journal
  kept_begins journal batches word rest are = record {
    batches = batches;
    word = word;
    on_disk = rest;
    are = are ∙ sym (append-nil entries);
    later = omega arith;
    any_moment = λ n content from until left honest.
        let now : n ≡ moment journal.store = omega (arith, from, until) in
        recovers_at [] [] batches content (are ∙ sym (append-nil entries)) (left_is journal batches content rest (subst (λ m. left_at journal.store m content) now left));
    before = λ n content past left. left;
  }

  -- between two turns, the lines that were applied are safe
  pub safe_between : (old : D) (journal : Journal D) (done : List Exchange) (before after : Option (List ℕ))
      → HasChanges keeps_word moment written_at left_at entries done old journal → Appends before after (replies_in done)
      → AreSafe moment written_at left_at entries done before after old journal.store (length done)
  safe_between old journal done before after kept told =
      let front : take (length done) done ≡ done = take_all (length done) done (omega arith) in
      record {
        within = omega arith;
        told = subst (λ (t : List Exchange). GrowsWithin before after (replies_in t)) (sym front) (grows_all before after (replies_in done) told);
        now = λ content left honest. all_of done (length done) content (recovers_at done [] kept.batches content kept.are (left_is journal kept.batches content kept.on_disk left));
        any_moment = kept.any_moment;
        later = kept.later;
        past = kept.before;
      }

  module _ (old : D) (journal new : Journal D) (done more : List Exchange) (kept : HasChanges keeps_word moment written_at left_at entries done old journal) where
    abbrev changed : List (List ℕ)
    changed = changes_in more

    grown_are : commands_of (grown kept.batches changed) ≡ entries ++ changes_in (done ++ more)
    grown_are = commands_grown kept.batches changed ∙ ap (λ (l : List (List ℕ)). l ++ changed) kept.are ∙ append_assoc entries (changes_in done) changed
        ∙ ap (λ (l : List (List ℕ)). entries ++ l) (sym (changes_in-append done more))

    module _ (passes : Passes moment written_at left_at journal.store new.store (journal_of (grown kept.batches changed)) (RecoversToGrown kept.batches changed)) where
      after_turn : (n : ℕ) (content : List ℕ) → moment journal.store < n → n ≤ moment new.store → left_at new.store n content → HasNoForged (written_at new.store n) content
          → RecoversBeyond entries (done ++ more) (length done) content
      after_turn n content later until left honest = ⊎_elim
          (λ one. recovers_at done more kept.batches content kept.are one)
          (λ one. lower (done ++ more) (length (done ++ more)) (length done) content (omega (arith, length-append done more))
          (all_of (done ++ more) (length (done ++ more)) content (recovers_at (done ++ more) [] (grown kept.batches changed) content grown_are one)))
          (passes.each n content later until left (subst (λ (t : List ℕ). HasNoForged t content) (passes.written n later until) honest))

      each_turn : EachRecovers moment written_at left_at entries (done ++ more) old new.store
      each_turn n content from until left honest = ⊎_elim
          (λ later. lower (done ++ more) (length done) 0 content (omega arith) (after_turn n content later until left honest))
          (λ past. beyond_more done more 0 content (kept.any_moment n content from past (passes.before n content past left) (subst (λ (t : List ℕ). HasNoForged t content) (passes.texts n past) honest)))
          (cases_lt (moment journal.store) n)

      before_turn : (n : ℕ) (content : List ℕ) → n ≤ moment old → left_at new.store n content → left_at old n content
      before_turn n content past left = kept.before n content past (passes.before n content (omega (arith, past, kept.later)) left)

      now_has_done : (content : List ℕ) → left_at new.store (moment new.store) content → HasNoForged (written_at new.store (moment new.store)) content
          → RecoversBeyond entries (done ++ more) (length done) content
      now_has_done content left honest = ⊎_elim
          (λ later. after_turn (moment new.store) content later (omega arith) left honest)
          (λ past.
          let same : moment new.store ≡ moment journal.store = omega (arith, past, passes.later) in
          recovers_at done more kept.batches content kept.are
          (left_is journal kept.batches content kept.on_disk (subst (λ m. left_at journal.store m content) same (passes.before (moment new.store) content past left))))
          (cases_lt (moment journal.store) (moment new.store))

      -- the next turn begins
      pub kept_goes : keeps_word new.store → IsOnDisk moment written_at left_at new (grown kept.batches changed)
          → HasChanges keeps_word moment written_at left_at entries (done ++ more) old new
      kept_goes word rest = record {
        batches = grown kept.batches changed;
        word = word;
        on_disk = rest;
        are = grown_are;
        later = omega (arith, kept.later, passes.later);
        any_moment = each_turn;
        before = before_turn;
      }

      -- a turn, however it ends
      pub safe_turn : (before mid after : Option (List ℕ)) → Appends before mid (replies_in done) → GrowsWithin mid after (replies_in more)
          → Keeps mid after ⊎ IsOnDisk moment written_at left_at new (grown kept.batches changed)
          → (safe : ℕ) × AreSafe moment written_at left_at entries (done ++ more) before after old new.store safe
      safe_turn before mid after told more_told certain = ⊎_elim
          (λ still.
          let front : take (length done) (done ++ more) ≡ done = take_at done more (length done) refl in (
            length done,
            record {
              within = omega (arith, length-append done more);
              told = subst (λ (t : List Exchange). GrowsWithin before after (replies_in t)) (sym front)
                  (grows_all before after (replies_in done) (appends_kept before mid after (replies_in done) told still));
              now = now_has_done;
              any_moment = each_turn;
              later = omega (arith, kept.later, passes.later);
              past = before_turn;
            },
          ))
          (λ rest.
          let front : take (length (done ++ more)) (done ++ more) ≡ done ++ more = take_all (length (done ++ more)) (done ++ more) (omega arith) in (
            length (done ++ more),
            record {
              within = omega arith;
              told = subst (λ (t : List Exchange). GrowsWithin before after (replies_in t)) (sym front)
                  (subst (GrowsWithin before after) (sym (replies_in-append done more)) (grows_behind before mid after (replies_in done) (replies_in more) told more_told));
              now = λ content left honest. all_of (done ++ more) (length (done ++ more)) content
                  (recovers_at (done ++ more) [] (grown kept.batches changed) content grown_are (left_is new (grown kept.batches changed) content rest left));
              any_moment = each_turn;
              later = omega (arith, kept.later, passes.later);
              past = before_turn;
            },
          ))
          certain
