-- The commands of a journal, one behind the other, and its lines.
use Rattle.std.proofs.Common.{◌≡◌, ℕ, ◌+◌, ◌-◌, ◌≤◌, ◌<◌, List, [], ◌∷◌, ◌++◌, length, take, drop, map, None, Some, refl, sym, ◌∙◌, ap, subst, arith, append_assoc, length-append}
use Rattle.std.specs.List.{All}
use Rattle.std.proofs.lemmas.List.{append-nil, length_push, take_at, drop_at, take_all, drop-drop, length-drop, take_rest}
use Rattle.std.proofs.lemmas.List.Concat.{flat_map-append}
use Rattle.std.proofs.lemmas.List.Elements.{All-head, All-tail}
use Rattle.std.proofs.lemmas.Option.{same_Some}
use Rattle.journal_lines.specs.Objects.{object_length, IsObject, behind_commas, listed, IsBatch}
use Rattle.journal_lines.specs.declared.reading.Reading.{Reading}
use Rattle.journal_lines.specs.Lines.{head, no_sum}
use Rattle.journal_lines.specs.Journal.{chain}
use Rattle.journal_lines.specs.Reading.{Reads}
use Rattle.journal_lines.proofs.ObjectTexts.{object_length-append}
use Rattle.journal_serve.specs.Pieces.{EndsLine}
use Rattle.journal_serve.specs.declared.applies.Applied.{Applied}
use Rattle.journal_serve.specs.declared.applies.Applied.TheVariants.{Changed, Unchanged}
use Rattle.journal_serve.specs.Trace.{Exchange, exchange, ReplaysCommands}
use Rattle.journal_serve.specs.Session.{commands_of}
use Rattle.journal_serve.specs.Recovery.{HasUnchanged, IsUnfit}
use Rattle.journal_serve.proofs.Turns.{replays_on, replays_one}

-- one batch more
pub commands_push : (batches : List (List (List ℕ))) (commands : List (List ℕ)) → commands_of (batches ++ commands ∷ []) ≡ commands_of batches ++ commands
commands_push batches commands =
    flat_map-append (λ (batch : List (List ℕ)). batch) batches (commands ∷ []) ∙ ap (λ (l : List (List ℕ)). commands_of batches ++ l) (append-nil commands)

-- the text of these commands begins with the first of them
pub record Begins (text : List ℕ) (n : ℕ) (commands : List (List ℕ)) : Type 0 where
  pub first : List ℕ
  pub others : List (List ℕ)
  pub are : commands ≡ first ∷ others
  pub front : take n text ≡ first
  pub behind : drop n text ≡ behind_commas others
  pub objects : All IsObject others

-- a batch begins with a command
pub batch_begins : (text : List ℕ) (n : ℕ) (commands : List (List ℕ)) → object_length text ≡ Some n → IsBatch commands → text ≡ listed commands → Begins text n commands
batch_begins text n [] found batch is = absurd (batch.some refl)
batch_begins text n (c ∷ cs) found batch is =
    let same : n ≡ length c = same_Some n (length c) (sym found ∙ ap object_length is ∙ object_length-append c (behind_commas cs) (length c) (All-head IsObject c cs batch.objects)) in
    record {
      first = c;
      others = cs;
      are = refl;
      front = ap (take n) is ∙ take_at c (behind_commas cs) n (sym same);
      behind = ap (drop n) is ∙ drop_at c (behind_commas cs) n (sym same);
      objects = All-tail IsObject c cs batch.objects;
    }

-- where nothing stands behind it, it is the only one
pub begins_last : (text : List ℕ) (n : ℕ) (commands : List (List ℕ)) → (b : Begins text n commands) → n ≡ length text → b.others ≡ []
begins_last text n commands b whole = none b.others (sym b.behind ∙ (drop_none text n whole))
  where
    drop_none : (xs : List ℕ) (n : ℕ) → n ≡ length xs → drop n xs ≡ []
    drop_none xs n is = ap (λ (l : List ℕ). drop n l) (sym (append-nil xs)) ∙ drop_at xs [] n (sym is)

    none : (others : List (List ℕ)) → behind_commas others ≡ [] → others ≡ []
    none [] is = refl
    none (c ∷ cs) is = absurd (cc)

-- otherwise the others are a batch behind a comma
pub begins_more : (text : List ℕ) (n : ℕ) (commands : List (List ℕ)) → (b : Begins text n commands) → n < length text
    → IsBatch b.others × (take (length text - (n + 1)) (drop (n + 1) text) ≡ listed b.others)
begins_more text n commands b within =
    (record { some = λ none. some b.others b.behind none; objects = b.objects }, take_rest text (n + 1) ∙ sym (drop-drop 1 n text) ∙ ap (drop 1) b.behind)
  where
    some : (others : List (List ℕ)) → drop n text ≡ behind_commas others → others ≡ [] → ⊥
    some others is none = absurd (omega (arith, within, ap length (is ∙ ap behind_commas none), length-drop n text))

-- the last command
pub applied_last : (done commands : List (List ℕ)) (text : List ℕ) (n : ℕ) (next : List (List ℕ)) → (b : Begins text n next) → commands ≡ done ++ next → n ≡ length text
    → done ++ take n text ∷ [] ≡ commands
applied_last done commands text n next b is whole =
    ap (λ (c : List ℕ). done ++ c ∷ []) b.front ∙ ap (λ (others : List (List ℕ)). done ++ b.first ∷ others) (sym (begins_last text n next b whole))
    ∙ ap (λ (l : List (List ℕ)). done ++ l) (sym b.are) ∙ sym is

-- the commands that are left
pub left_more : (done commands : List (List ℕ)) (text : List ℕ) (n : ℕ) (next : List (List ℕ)) → (b : Begins text n next) → commands ≡ done ++ next → commands ≡ done ++ take n text ∷ [] ++ b.others
left_more done commands text n next b is =
    is ∙ ap (λ (l : List (List ℕ)). done ++ l) b.are ∙ sym (append_assoc done (b.first ∷ []) b.others) ∙ ap (λ (c : List ℕ). done ++ c ∷ [] ++ b.others) (sym b.front)

-- one command more was replayed
pub replays_more : {A : Type 0} (takes : A → Exchange → A → Type 0) (first old new : A) (done : List (List ℕ)) (command reply : List ℕ) (effect : Applied) → ReplaysCommands takes done first old
    → takes old (exchange command effect reply) new → effect ≡ Changed → ReplaysCommands takes (done ++ command ∷ []) first new
replays_more takes first old new done command reply effect so_far step is = replays_on takes first old new done (command ∷ []) so_far (replays_one takes old new command reply effect step is)

-- a line that was taken whole
pub taken_whole : (most : ℕ) (old part new : List ℕ) → ((raw : List ℕ) → old ≡ take most raw → new ≡ take most (raw ++ part)) → length old + length part ≤ most → new ≡ old ++ part
taken_whole most old part new grows within =
    grows old (sym (take_all most old (omega (arith, within)))) ∙ take_all most (old ++ part) (omega (arith, within, length-append old part))

-- the text, where a line ends
pub text_replayed : (text held piece read now rest part : List ℕ) (used : ℕ) → text ++ (held ++ piece) ≡ read ++ (now ++ rest) → EndsLine rest part used
    → text ++ (held ++ piece) ≡ (read ++ (now ++ part) ++ 10 ∷ []) ++ take (length rest - used) (drop used rest)
text_replayed text held piece read now rest part used is ends =
    is ∙ ap (λ (l : List ℕ). read ++ (now ++ l)) ends.is ∙ regroup read now part (10 ∷ []) (drop used rest)
    ∙ ap (λ (l : List ℕ). (read ++ (now ++ part) ++ 10 ∷ []) ++ l) (sym (take_rest rest used))
  where
    regroup : (a b c d e : List ℕ) → a ++ (b ++ (c ++ (d ++ e))) ≡ (a ++ (b ++ c) ++ d) ++ e
    regroup a b c d e = simp append_assoc

-- the content, where a line ends
pub content_replayed : (text held piece more read now rest part : List ℕ) (used : ℕ) → text ++ (held ++ piece) ≡ read ++ (now ++ rest) → EndsLine rest part used
    → head ++ (read ++ (now ++ part) ++ 10 ∷ (drop used rest ++ more)) ≡ head ++ (text ++ (held ++ piece ++ more))
content_replayed text held piece more read now rest part used is ends =
    ap (λ (l : List ℕ). head ++ l) (regroup read now part (10 ∷ []) (drop used rest) more ∙ ap (λ (l : List ℕ). read ++ (now ++ l) ++ more) (sym ends.is) ∙ ap (λ (l : List ℕ). l ++ more) (sym is) ∙ behind text held piece more)
  where
    regroup : (a b c d e f : List ℕ) → a ++ (b ++ c) ++ (d ++ (e ++ f)) ≡ a ++ (b ++ (c ++ (d ++ e))) ++ f
    regroup a b c d e f = simp append_assoc

    behind : (a b c d : List ℕ) → a ++ (b ++ c) ++ d ≡ a ++ (b ++ c ++ d)
    behind a b c d = simp append_assoc

-- a batch has a command in front
pub batch_has_object : (text : List ℕ) (commands : List (List ℕ)) → IsBatch commands → text ≡ listed commands → object_length text ≡ None → ⊥
batch_has_object text [] batch is none = batch.some refl
batch_has_object text (c ∷ cs) batch is none =
    absurd (differ (length c) (sym none ∙ ap object_length is ∙ object_length-append c (behind_commas cs) (length c) (All-head IsObject c cs batch.objects)))
  where
    differ : (n : ℕ) → None ≡ Some n → ⊥
    differ n is = cc

-- a command that changed nothing
pub has_unchanged : {A : Type 0} (takes : A → Exchange → A → Type 0) (first old new : A) (done commands : List (List ℕ)) (text reply : List ℕ) (effect : Applied) (n : ℕ) (next : List (List ℕ))
    → Begins text n next → commands ≡ done ++ next → ReplaysCommands takes done first old → takes old (exchange (take n text) effect reply) new → effect ≡ Unchanged → HasUnchanged takes first [] commands
has_unchanged takes first old new done commands text reply effect n next b is so_far step same = record {
  front = done;
  command = take n text;
  others = b.others;
  are = is ∙ ap (λ (l : List (List ℕ)). done ++ l) b.are ∙ ap (λ (c : List ℕ). done ++ c ∷ b.others) (sym b.front);
  reached = old;
  replayed = so_far;
  reply = reply;
  next = new;
  unchanged = subst (λ (e : Applied). takes old (exchange (take n text) e reply) new) same step;
}

-- such a command behind others
pub unchanged_behind : {A : Type 0} (takes : A → Exchange → A → Type 0) (first mid : A) (entries commands : List (List ℕ)) → ReplaysCommands takes entries first mid → HasUnchanged takes mid [] commands
    → HasUnchanged takes first entries commands
unchanged_behind takes first mid entries commands so_far one = record {
  front = one.front;
  command = one.command;
  others = one.others;
  are = one.are;
  reached = one.reached;
  replayed = replays_on takes first mid one.reached entries one.front so_far one.replayed;
  reply = one.reply;
  next = one.next;
  unchanged = one.unchanged;
}

-- a line with such a command
pub unfit_line : {A : Type 0} (takes : A → Exchange → A → Type 0) (first : A) (old new : Reading) (text line more : List ℕ) (batches : List (List (List ℕ))) (commands : List (List ℕ)) (number : ℕ)
    → Reads old text batches → Reads new (text ++ line ++ 10 ∷ []) (batches ++ commands ∷ []) → IsBatch commands → number ≡ new.batches + 1 → HasUnchanged takes first (commands_of batches) commands
    → IsUnfit takes first (head ++ (text ++ line ++ 10 ∷ more)) number
unfit_line takes first old new text line more batches commands number before reads batch at one = record {
  batches = batches;
  commands = commands;
  rest = reads.bad ++ more;
  each = before.each;
  batch = batch;
  is = behind head text line (10 ∷ []) more ∙ ap (λ (l : List ℕ). head ++ (l ++ more)) reads.is ∙ regroup head (chain no_sum (map listed (batches ++ commands ∷ []))) reads.bad more;
  at = omega (arith, at, reads.count, length_push batches commands);
  one = one;
}
  where
    behind : (h a b c d : List ℕ) → h ++ (a ++ b ++ (c ++ d)) ≡ h ++ (a ++ b ++ c ++ d)
    behind h a b c d = simp append_assoc

    regroup : (h a b c : List ℕ) → h ++ (a ++ b ++ c) ≡ h ++ a ++ (b ++ c)
    regroup h a b c = simp append_assoc
