-- Lines, applied one behind the other.
use Rattle.std.proofs.Common.{arith, ◌≡◌, ℕ, List, [], ◌∷◌, ◌++◌, length, take, map, refl, sym, ◌∙◌, ap, subst, append_assoc}
use Rattle.std.specs.List.{All}
use Rattle.std.proofs.lemmas.List.{append-nil, map-append, take_all}
use Rattle.std.proofs.lemmas.List.Elements.{All-nil, All-cons, All-append}
use Rattle.journal_lines.specs.Objects.{IsObject, behind_commas}
use Rattle.journal_serve.specs.declared.applies.Applied.{Applied}
use Rattle.journal_serve.specs.declared.applies.Applied.TheVariants.{Changed, Unchanged}
use Rattle.journal_serve.specs.declared.pending.Pending.{Pending}
use Rattle.journal_serve.specs.declared.turn.Turn.{Turn}
use Rattle.journal_serve.specs.Pieces.{IsOneLine, EndsLine}
use Rattle.journal_serve.specs.Trace.{Exchange, exchange, lines_in, changed_first, changes_in, replies_in, LeadsThrough, ReplaysCommands, IsDetermined}
use Rattle.journal_serve.specs.Turn.{bare_line, kept_line, taken_line, Took, TookText}
use Rattle.journal_serve.proofs.Lines.{splits_begin, splits_line, splits_open}

first_append : (effect : Applied) (line : List ℕ) (xs ys : List (List ℕ)) → changed_first effect line (xs ++ ys) ≡ changed_first effect line xs ++ ys
first_append Changed line xs ys = refl
first_append Unchanged line xs ys = refl

-- exchanges behind exchanges: their lines
pub lines_in-append : (a b : List Exchange) → lines_in (a ++ b) ≡ lines_in a ++ lines_in b
lines_in-append a b = map-append (λ (x : Exchange). x.line) a b

-- what they changed
pub changes_in-append : (a b : List Exchange) → changes_in (a ++ b) ≡ changes_in a ++ changes_in b
changes_in-append [] b = refl
changes_in-append (x ∷ a) b = ap (changed_first x.effect x.line) (changes_in-append a b) ∙ first_append x.effect x.line (changes_in a) (changes_in b)

-- their replies
pub replies_in-append : (a b : List Exchange) → replies_in (a ++ b) ≡ replies_in a ++ replies_in b
replies_in-append [] b = refl
replies_in-append (x ∷ a) b = ap (λ (l : List ℕ). x.reply ++ 10 ∷ l) (replies_in-append a b) ∙ sym (append_assoc x.reply (10 ∷ replies_in a) (replies_in b))

commas-append : (a b : List (List ℕ)) → behind_commas (a ++ b) ≡ behind_commas a ++ behind_commas b
commas-append [] b = refl
commas-append (x ∷ a) b = ap (λ (l : List ℕ). 44 ∷ (x ++ l)) (commas-append a b) ∙ ap (λ (l : List ℕ). 44 ∷ l) (sym (append_assoc x (behind_commas a) (behind_commas b)))

module _ {A : Type 0} (takes : A → Exchange → A → Type 0) where
  -- exchanges that lead on
  pub leads_on : (old mid new : A) (a b : List Exchange) → LeadsThrough takes old a mid → LeadsThrough takes mid b new → LeadsThrough takes old (a ++ b) new
  leads_on old mid new [] b one two = subst (λ (s : A). LeadsThrough takes s b new) one two
  leads_on old mid new (x ∷ a) b (next, step, rest) two = (next, step, leads_on next mid new a b rest two)

  -- one exchange
  pub leads_one : (old new : A) (x : Exchange) → takes old x new → LeadsThrough takes old (x ∷ []) new
  leads_one old new x step = (new, step, refl)

  -- no command was replayed
  pub replays_none : (state : A) → ReplaysCommands takes [] state state
  replays_none state = record { trace = []; leads = refl; are = refl; each = All-nil (λ (x : Exchange). x.effect ≡ Changed) }

  -- commands behind commands
  pub replays_on : (old mid new : A) (a b : List (List ℕ)) → ReplaysCommands takes a old mid → ReplaysCommands takes b mid new → ReplaysCommands takes (a ++ b) old new
  replays_on old mid new a b one two = record {
    trace = one.trace ++ two.trace;
    leads = leads_on old mid new one.trace two.trace one.leads two.leads;
    are = lines_in-append one.trace two.trace ∙ ap (λ (l : List (List ℕ)). l ++ lines_in two.trace) one.are ∙ ap (λ (l : List (List ℕ)). a ++ l) two.are;
    each = All-append (λ (x : Exchange). x.effect ≡ Changed) one.trace two.trace one.each two.each;
  }

  -- one command
  pub replays_one : (old new : A) (command reply : List ℕ) (effect : Applied) → takes old (exchange command effect reply) new → effect ≡ Changed → ReplaysCommands takes (command ∷ []) old new
  replays_one old new command reply effect step is = record {
    trace = exchange command effect reply ∷ [];
    leads = (new, step, refl);
    are = refl;
    each = All-cons (λ (x : Exchange). x.effect ≡ Changed) (exchange command effect reply) [] is (All-nil (λ (x : Exchange). x.effect ≡ Changed));
  }

  -- the same commands
  pub replays_same : (old new : A) (a b : List (List ℕ)) → a ≡ b → ReplaysCommands takes a old new → ReplaysCommands takes b old new
  replays_same old new a b is one = subst (λ (l : List (List ℕ)). ReplaysCommands takes l old new) is one

  -- where a state and a line determine what comes, the lines determine the exchanges
  pub lines_determine : IsDetermined takes → (old one other : A) (a b : List Exchange) (others : List (List ℕ)) → LeadsThrough takes old a one → LeadsThrough takes old b other
      → lines_in b ≡ lines_in a ++ others → take (length a) b ≡ a
  lines_determine fixed old one other [] b others leads leads' are = refl
  lines_determine fixed old one other (x ∷ a) [] others leads leads' are = absurd (cc)
  lines_determine fixed old one other (x ∷ a) (y ∷ b) others (next, step, rest) (next', step', rest') are =
      let line : y.line ≡ x.line = cc in
      let lines : lines_in b ≡ lines_in a ++ others = cc in
      let same = fixed old next next' x y step step' line in
      let from_next = subst (λ (s : A). LeadsThrough takes s b other) same.1 rest' in
      ap (λ (z : Exchange). z ∷ take (length a) b) same.0 ∙ ap (λ (l : List Exchange). x ∷ l) (lines_determine fixed next one other a b others rest from_next lines)

  -- and the state to which they lead
  pub lines_determine_all : IsDetermined takes → (old one other : A) (a b : List Exchange) → LeadsThrough takes old a one → LeadsThrough takes old b other → lines_in b ≡ lines_in a → (b ≡ a) × (other ≡ one)
  lines_determine_all fixed old one other [] [] leads leads' are = (refl, leads' ∙ sym leads)
  lines_determine_all fixed old one other [] (y ∷ b) leads leads' are = absurd (cc)
  lines_determine_all fixed old one other (x ∷ a) [] leads leads' are = absurd (cc)
  lines_determine_all fixed old one other (x ∷ a) (y ∷ b) (next, step, rest) (next', step', rest') are =
      let line : y.line ≡ x.line = cc in
      let lines : lines_in b ≡ lines_in a = cc in
      let same = fixed old next next' x y step step' line in
      let from_next = subst (λ (s : A). LeadsThrough takes s b other) same.1 rest' in
      let behind = lines_determine_all fixed next one other a b rest from_next lines in
      (ap (λ (z : Exchange). z ∷ b) same.0 ∙ ap (λ (l : List Exchange). x ∷ l) behind.0, behind.1)

-- no line
pub took_none : (turn : Turn) → Took [] turn turn
took_none turn = record {
  replies = sym (append-nil turn.replies.items);
  changed = sym (append-nil turn.changed.items);
  objects = All-nil IsObject;
}

-- lines behind lines
pub took_more : (a b : List Exchange) (old mid new : Turn) → Took a old mid → Took b mid new → Took (a ++ b) old new
took_more a b old mid new first second = record {
  replies = second.replies ∙ ap (λ (l : List ℕ). l ++ replies_in b) first.replies ∙ append_assoc old.replies.items (replies_in a) (replies_in b)
      ∙ ap (λ (l : List ℕ). old.replies.items ++ l) (sym (replies_in-append a b));
  changed = second.changed ∙ ap (λ (l : List ℕ). l ++ behind_commas (changes_in b)) first.changed
      ∙ append_assoc old.changed.items (behind_commas (changes_in a)) (behind_commas (changes_in b))
      ∙ ap (λ (l : List ℕ). old.changed.items ++ l) (sym (commas-append (changes_in a) (changes_in b)) ∙ ap behind_commas (sym (changes_in-append a b)));
  objects = subst (All IsObject) (sym (changes_in-append a b)) (All-append IsObject (changes_in a) (changes_in b) first.objects second.objects);
}

-- a line that changed nothing
pub took_unchanged : (line reply : List ℕ) (effect : Applied) (old new : Turn) → effect ≡ Unchanged → new.replies.items ≡ old.replies.items ++ reply ++ 10 ∷ []
    → new.changed.items ≡ old.changed.items → Took (exchange line effect reply ∷ []) old new
took_unchanged line reply effect old new is replies changed =
    let none : changes_in (exchange line effect reply ∷ []) ≡ [] = ap (λ (e : Applied). changed_first e line []) is in
    record {
      replies = replies ∙ append_assoc old.replies.items reply (10 ∷ []);
      changed = changed ∙ sym (append-nil old.changed.items) ∙ ap (λ (l : List (List ℕ)). old.changed.items ++ behind_commas l) (sym none);
      objects = subst (All IsObject) (sym none) (All-nil IsObject);
    }

-- a line that changed something
pub took_changed : (line reply : List ℕ) (effect : Applied) (old new : Turn) → effect ≡ Changed → IsObject line
    → new.replies.items ≡ old.replies.items ++ reply ++ 10 ∷ [] → new.changed.items ≡ old.changed.items ++ 44 ∷ [] ++ line → Took (exchange line effect reply ∷ []) old new
took_changed line reply effect old new is object replies changed =
    let one : changes_in (exchange line effect reply ∷ []) ≡ line ∷ [] = ap (λ (e : Applied). changed_first e line []) is in
    record {
      replies = replies ∙ append_assoc old.replies.items reply (10 ∷ []);
      changed = changed ∙ append_assoc old.changed.items (44 ∷ []) line ∙ ap (λ (l : List ℕ). old.changed.items ++ 44 ∷ l) (sym (append-nil line))
          ∙ ap (λ (l : List (List ℕ)). old.changed.items ++ behind_commas l) (sym one);
      objects = subst (All IsObject) (sym one) (All-cons IsObject line [] object (All-nil IsObject));
    }

module _ {A : Type 0} (takes : A → Exchange → A → Type 0) where
  -- before the first line
  pub text_begins : (raw : List ℕ) (pending : Pending) (state : A) (turn : Turn) → IsOneLine raw → pending.text.items ≡ kept_line raw
      → TookText takes raw [] raw [] pending state state turn turn
  text_begins raw pending state turn one_line is = record {
    splits = splits_begin raw one_line;
    held = is;
    are = refl;
    leads = refl;
    took = took_none turn;
  }

  -- a line that a piece ends
  pub text_line : (text rest part line : List ℕ) (used : ℕ) (lines : List (List ℕ)) (open_line : List ℕ) (trace : List Exchange) (pending next : Pending) (first state state' : A) (old mid new : Turn)
      → TookText takes text lines open_line trace pending first state old mid → EndsLine rest part used
      → line ≡ kept_line (open_line ++ part) → (one : Exchange) → one.line ≡ bare_line line → takes state one state' → Took (one ∷ []) mid new → next.text.items ≡ []
      → TookText takes (text ++ part ++ 10 ∷ []) (lines ++ (open_line ++ part) ∷ []) [] (trace ++ one ∷ []) next first state' old new
  text_line text rest part line used lines open_line trace pending next first state state' old mid new so_far ends is one its step takes_one none = record {
    splits = splits_line text lines open_line part so_far.splits ends.one_line;
    held = none ∙ sym (take_all 67108865 [] (omega arith));
    are = lines_in-append trace (one ∷ []) ∙ ap (λ (l : List (List ℕ)). l ++ one.line ∷ []) so_far.are ∙ ap (λ (l : List ℕ). map taken_line lines ++ l ∷ []) (its ∙ ap bare_line is)
        ∙ sym (map-append taken_line lines ((open_line ++ part) ∷ []));
    leads = leads_on takes first state state' trace (one ∷ []) so_far.leads (leads_one takes state state' one step);
    took = took_more trace (one ∷ []) old mid new so_far.took takes_one;
  }

  -- what a piece has of a line that goes on
  pub text_open : (text rest : List ℕ) (lines : List (List ℕ)) (open_line : List ℕ) (trace : List Exchange) (pending next : Pending) (first state : A) (old new : Turn)
      → TookText takes text lines open_line trace pending first state old new → IsOneLine rest → next.text.items ≡ kept_line (open_line ++ rest)
      → TookText takes (text ++ rest) lines (open_line ++ rest) trace next first state old new
  text_open text rest lines open_line trace pending next first state old new so_far one_line is = record {
    splits = splits_open text lines open_line rest so_far.splits one_line;
    held = is;
    are = so_far.are;
    leads = so_far.leads;
    took = so_far.took;
  }

  -- the same text
  pub text_same : (text other : List ℕ) (lines : List (List ℕ)) (open_line : List ℕ) (trace : List Exchange) (pending : Pending) (first state : A) (old new : Turn) → other ≡ text
      → TookText takes text lines open_line trace pending first state old new → TookText takes other lines open_line trace pending first state old new
  text_same text other lines open_line trace pending first state old new is took =
      subst (λ (t : List ℕ). TookText takes t lines open_line trace pending first state old new) (sym is) took
