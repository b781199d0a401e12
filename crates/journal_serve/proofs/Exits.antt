-- The exits of a session.
use Rattle.std.proofs.Common.{◌≡◌, ℕ, List, [], ◌++◌, length, map, Option, sym, ◌∙◌, ap, subst}
use Rattle.std.specs.Prelude.{Result, Err, OnOk, IfSome}
use Rattle.std.proofs.lemmas.List.{append-nil, map-append}
use Rattle.std.specs.Io.KnownBytes.{Appends, Consumes}
use Rattle.journal_serve.specs.declared.journal.Journal.{Journal}
use Rattle.journal_serve.specs.declared.pending.Pending.{Pending}
use Rattle.journal_serve.specs.declared.turn.Turn.{Turn}
use Rattle.journal_serve.specs.Trace.{Exchange, lines_in, replies_in, LeadsThrough}
use Rattle.journal_serve.specs.Turn.{lines_taken, taken_line, Took, TookText}
use Rattle.journal_serve.specs.Session.{GrowsWithin, HasServed, IsServed, AreSafe, IsBetween, HasChanges}
use Rattle.journal_serve.proofs.Lines.{splits_join}
use Rattle.journal_serve.proofs.Turns.{leads_on}
use Rattle.journal_serve.proofs.KnownBytes.{grows_all, input_of}
use Rattle.journal_serve.proofs.Sessions.{safe_between}
use Rattle.journal_serve.proofs.Between.{all_so_far, all_at_end, lines_both, turn_told, turn_told_whole}

-- what is said of Ok alone
pub no_ok : {T E : Type 0} (r : Result T E) (why : E) (P : Type 0) → r ≡ Err why → OnOk r P
no_ok {T} {E} r why P is = subst (λ (s : Result T E). OnOk s P) (sym is) tt

-- what is said of all errors but this
pub other_fault : {T E : Type 0} (r : Result T E) (why one : E) (P : Type 0) → r ≡ Err why → why ≡ one → (r ≡ Err one → ⊥) → P
other_fault {T} {E} r why one P is same other = absurd (other (is ∙ ap (λ (e : E). Err e) same))

module _ {A : Type 0} (takes : A → Exchange → A → Type 0) (text : List ℕ) (lines : List (List ℕ)) (open_line : List ℕ) (trace : List Exchange) (first state : A)
    (before mid : Option (List ℕ)) (pending : Pending) (turn : Turn) (now : IsBetween takes text lines open_line trace first state before mid pending turn) where
  -- between two turns
  pub rest_served : (known read : Option (List ℕ)) → Consumes known read text → (input : List ℕ) × IfSome known (λ bytes. input ≡ bytes) × HasServed takes input before mid first state trace
  rest_served known read consumed =
      let left = input_of known read text consumed in (
        text ++ left.0,
        left.1,
        record {
          leads = now.leads;
          others = lines_taken (open_line ++ left.0);
          are = all_so_far text left.0 lines open_line now.splits ∙ ap (λ (l : List (List ℕ)). l ++ lines_taken (open_line ++ left.0)) (sym now.are);
          told = grows_all before mid (replies_in trace) now.told;
        },
      )

  -- their lines are safe
  pub rest_safe : {D : Type 0} (keeps_word : D → Type 0) (moment : D → ℕ) (written_at : D → ℕ → List ℕ) (left_at : D → ℕ → List ℕ → Type 0) (entries : List (List ℕ)) (old : D) (journal : Journal D)
      → HasChanges keeps_word moment written_at left_at entries trace old journal
      → (count : ℕ) × AreSafe moment written_at left_at entries trace before mid old journal.store count
  rest_safe keeps_word moment written_at left_at entries old journal kept =
      (length trace, safe_between keeps_word moment written_at left_at entries old journal trace before mid kept now.told)

  -- a turn of a piece
  pub piece_served : (piece next : List ℕ) (more : List (List ℕ)) (behind : List Exchange) (state' : A) (after : Option (List ℕ)) (pending' : Pending) (took : Turn)
      → TookText takes (open_line ++ piece) more next behind pending' state state' turn took → GrowsWithin mid after took.replies.items
      → (known read : Option (List ℕ)) → Consumes known read (text ++ piece)
      → (input : List ℕ) × IfSome known (λ bytes. input ≡ bytes) × HasServed takes input before after first state' (trace ++ behind)
  piece_served piece next more behind state' after pending' took lines' part known read consumed =
      let left = input_of known read (text ++ piece) consumed in (
        text ++ piece ++ left.0,
        left.1,
        record {
          leads = leads_on takes first state state' trace behind now.leads lines'.leads;
          others = lines_taken (next ++ left.0);
          are = all_so_far (text ++ piece) left.0 (lines ++ more) next (splits_join text piece lines more open_line next now.splits lines'.splits)
              ∙ ap (λ (l : List (List ℕ)). l ++ lines_taken (next ++ left.0)) (map-append taken_line lines more ∙ sym (lines_both trace behind (map taken_line lines) (map taken_line more) now.are lines'.are));
          told = turn_told trace behind turn took before mid after lines'.took now.replies now.told part;
        },
      )

  -- the last turn
  module _ (behind : List Exchange) (state' : A) (after : Option (List ℕ)) (took : Turn) (are : lines_in behind ≡ lines_taken open_line) (leads : LeadsThrough takes state behind state')
      (lines' : Took behind turn took) where
    all_lines : lines_taken text ≡ lines_in (trace ++ behind)
    all_lines = all_at_end text lines open_line now.splits ∙ sym (lines_both trace behind (map taken_line lines) (lines_taken open_line) now.are are)

    -- what was written is of the replies to all the exchanges
    pub end_served : GrowsWithin mid after took.replies.items → HasServed takes text before after first state' (trace ++ behind)
    end_served part = record {
      leads = leads_on takes first state state' trace behind now.leads leads;
      others = [];
      are = all_lines ∙ sym (append-nil (lines_in (trace ++ behind)));
      told = turn_told trace behind turn took before mid after lines' now.replies now.told part;
    }

    -- all of it, if all was written
    pub end_all : Appends mid after took.replies.items → IsServed text before after (trace ++ behind)
    end_all whole = record { are = all_lines; told = turn_told_whole trace behind turn took before mid after lines' now.replies now.told whole }
