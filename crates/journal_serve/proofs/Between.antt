-- Between two reads of a session.
use Rattle.std.proofs.Common.{◌≡◌, ◌⊎◌, ℕ, List, [], ◌++◌, map, Option, refl, sym, ◌∙◌, ap, subst, arith}
use Rattle.std.specs.List.{All}
use Rattle.std.proofs.lemmas.List.{append-nil, map-append, take_all}
use Rattle.std.proofs.lemmas.List.Elements.{All-nil}
use Rattle.std.specs.Io.KnownBytes.{Appends, Keeps}
use Rattle.journal_lines.specs.Objects.{IsObject, behind_commas}
use Rattle.journal_lines.specs.Journal.{journal_of}
use Rattle.journal_store.specs.Store.{Passes}
use Rattle.journal_serve.specs.declared.journal.Journal.{Journal}
use Rattle.journal_serve.specs.Journal.{IsOnDisk}
use Rattle.journal_serve.specs.Moments.{RecoversToGrown, grown}
use Rattle.journal_serve.specs.declared.pending.Pending.{Pending}
use Rattle.journal_serve.specs.declared.turn.Turn.{Turn}
use Rattle.journal_serve.specs.Pieces.{Splits, lines_of}
use Rattle.journal_serve.specs.Trace.{Exchange, lines_in, changes_in, replies_in}
use Rattle.journal_serve.specs.Turn.{lines_taken, taken_line, Took, TookText}
use Rattle.journal_serve.specs.Session.{GrowsWithin, AreSafe, IsBetween, HasChanges}
use Rattle.journal_serve.proofs.Lines.{splits_begin, splits_join, lines_read}
use Rattle.journal_serve.proofs.Turns.{lines_in-append, replies_in-append, leads_on}
use Rattle.journal_serve.proofs.KnownBytes.{appends_none, appends_more, grows_behind}
use Rattle.journal_serve.proofs.Sessions.{safe_turn, kept_goes}

-- lines that were read, with those of what comes behind
pub all_so_far : (text left : List ℕ) (lines : List (List ℕ)) (open_line : List ℕ) → Splits text lines open_line
    → lines_taken (text ++ left) ≡ map taken_line lines ++ lines_taken (open_line ++ left)
all_so_far text left lines open_line splits = ap (map taken_line) (lines_read text left lines open_line splits) ∙ map-append taken_line lines (lines_of (open_line ++ left))

-- at the end
pub all_at_end : (text : List ℕ) (lines : List (List ℕ)) (open_line : List ℕ) → Splits text lines open_line → lines_taken text ≡ map taken_line lines ++ lines_taken open_line
all_at_end text lines open_line splits =
    ap lines_taken (sym (append-nil text)) ∙ all_so_far text [] lines open_line splits ∙ ap (λ (l : List ℕ). map taken_line lines ++ lines_taken l) (append-nil open_line)

-- the lines of exchanges, with more
pub lines_both : (a b : List Exchange) (lines more : List (List ℕ)) → lines_in a ≡ lines → lines_in b ≡ more → lines_in (a ++ b) ≡ lines ++ more
lines_both a b lines more one two = lines_in-append a b ∙ ap (λ (l : List (List ℕ)). l ++ lines_in b) one ∙ ap (λ (l : List (List ℕ)). lines ++ l) two

-- a turn that had nothing has its lines' replies
pub turn_replies : (more : List Exchange) (old new : Turn) → Took more old new → old.replies.items ≡ [] → new.replies.items ≡ replies_in more
turn_replies more old new took none = took.replies ∙ ap (λ (l : List ℕ). l ++ replies_in more) none

-- and what they changed
pub turn_changed : (more : List Exchange) (old new : Turn) → Took more old new → old.changed.items ≡ [] → new.changed.items ≡ behind_commas (changes_in more)
turn_changed more old new took none = took.changed ∙ ap (λ (l : List ℕ). l ++ behind_commas (changes_in more)) none

-- what is written of the replies of a turn
pub turn_told : (done more : List Exchange) (old new : Turn) (before mid after : Option (List ℕ)) → Took more old new
    → old.replies.items ≡ [] → Appends before mid (replies_in done) → GrowsWithin mid after new.replies.items → GrowsWithin before after (replies_in (done ++ more))
turn_told done more old new before mid after took none told part =
    subst (GrowsWithin before after) (sym (replies_in-append done more))
    (grows_behind before mid after (replies_in done) (replies_in more) told (subst (GrowsWithin mid after) (turn_replies more old new took none) part))

-- all of it, if all was written
pub turn_told_whole : (done more : List Exchange) (old new : Turn) (before mid after : Option (List ℕ)) → Took more old new
    → old.replies.items ≡ [] → Appends before mid (replies_in done) → Appends mid after new.replies.items → Appends before after (replies_in (done ++ more))
turn_told_whole done more old new before mid after took none told whole =
    subst (Appends before after) (sym (replies_in-append done more))
    (appends_more before mid after (replies_in done) (replies_in more) told (subst (Appends mid after) (turn_replies more old new took none) whole))

module _ {A : Type 0} (takes : A → Exchange → A → Type 0) where
  -- before the first read
  pub between_begins : (state : A) (before : Option (List ℕ)) (pending : Pending) (turn : Turn) → pending.text.items ≡ [] → turn.changed.items ≡ [] → turn.replies.items ≡ []
      → IsBetween takes [] [] [] [] state state before before pending turn
  between_begins state before pending turn none changed replies = record {
    splits = splits_begin [] (All-nil (λ b. b ≡ 10 → ⊥));
    held = none ∙ sym (take_all 67108865 [] (omega arith));
    are = refl;
    leads = refl;
    told = appends_none before;
    changed = changed;
    replies = replies;
  }

  -- after a turn
  pub between_goes : (text piece : List ℕ) (lines more : List (List ℕ)) (open_line next : List ℕ) (trace behind : List Exchange) (first state state' : A) (before mid after : Option (List ℕ))
      (pending pending' : Pending) (old new last : Turn) → IsBetween takes text lines open_line trace first state before mid pending old
      → TookText takes (open_line ++ piece) more next behind pending' state state' old new
      → Appends mid after new.replies.items → last.changed.items ≡ [] → last.replies.items ≡ []
      → IsBetween takes (text ++ piece) (lines ++ more) next (trace ++ behind) first state' before after pending' last
  between_goes text piece lines more open_line next trace behind first state state' before mid after pending pending' old new last now took whole changed replies = record {
    splits = splits_join text piece lines more open_line next now.splits took.splits;
    held = took.held;
    are = lines_both trace behind (map taken_line lines) (map taken_line more) now.are took.are ∙ sym (map-append taken_line lines more);
    leads = leads_on takes first state state' trace behind now.leads took.leads;
    told = turn_told_whole trace behind old new before mid after took.took now.replies now.told whole;
    changed = changed;
    replies = replies;
  }

module _ {D : Type 0} (keeps_word : D → Type 0) (moment : D → ℕ) (written_at : D → ℕ → List ℕ) (left_at : D → ℕ → List ℕ → Type 0) (entries : List (List ℕ))
    (old : D) (journal next : Journal D) (done more : List Exchange) (kept : HasChanges keeps_word moment written_at left_at entries done old journal)
    (turn took : Turn) (lines : Took more turn took) (none_changed : turn.changed.items ≡ [])
    (time : (batches : List (List (List ℕ))) (changed : List (List ℕ)) → IsOnDisk moment written_at left_at journal batches → All IsObject changed → took.changed.items ≡ behind_commas changed
    → Passes moment written_at left_at journal.store next.store (journal_of (grown batches changed)) (RecoversToGrown batches changed)) where
  has : took.changed.items ≡ behind_commas (changes_in more)
  has = turn_changed more turn took lines none_changed

  -- however a turn ends, its lines are safe
  pub turn_is_safe : (before mid after : Option (List ℕ)) → Appends before mid (replies_in done) → turn.replies.items ≡ [] → GrowsWithin mid after took.replies.items
      → ((batches : List (List (List ℕ))) (changed : List (List ℕ)) → IsOnDisk moment written_at left_at journal batches → All IsObject changed → took.changed.items ≡ behind_commas changed
      → Keeps mid after ⊎ IsOnDisk moment written_at left_at next (grown batches changed))
      → (count : ℕ) × AreSafe moment written_at left_at entries (done ++ more) before after old next.store count
  turn_is_safe before mid after told none_replied part certain =
      safe_turn keeps_word moment written_at left_at entries old journal next done more kept (time kept.batches (changes_in more) kept.on_disk lines.objects has)
      before mid after told (subst (GrowsWithin mid after) (turn_replies more turn took lines none_replied) part)
      (certain kept.batches (changes_in more) kept.on_disk lines.objects has)

  -- and kept, if it ends well
  pub turn_is_kept : ((batches : List (List (List ℕ))) (changed : List (List ℕ)) → IsOnDisk moment written_at left_at journal batches → All IsObject changed → took.changed.items ≡ behind_commas changed
      → keeps_word next.store × IsOnDisk moment written_at left_at next (grown batches changed))
      → HasChanges keeps_word moment written_at left_at entries (done ++ more) old next
  turn_is_kept ends =
      let end = ends kept.batches (changes_in more) kept.on_disk lines.objects has in
      kept_goes keeps_word moment written_at left_at entries old journal next done more kept (time kept.batches (changes_in more) kept.on_disk lines.objects has) end.0 end.1
