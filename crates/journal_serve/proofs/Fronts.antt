-- A text that is read from its front on: its head, its lines, and its end.
use Rattle.std.proofs.Common.{◌≡◌, inl, inr, ⊎_elim, ℕ, ◌+◌, ◌≤◌, ◌<◌, List, [], ◌++◌, length, take, drop, map, refl, sym, ◌∙◌, ap, subst, arith, append_assoc, length-append, take-append-drop, Result, Err}
use Rattle.std.proofs.Math.Seq.{take-add}
use Rattle.std.proofs.lemmas.List.{append-nil, nil_from_length, length-drop, length-take, take_all, take_at, take-take, take-append-le}
use Rattle.journal_lines.specs.declared.reading.Reading.{Reading}
use Rattle.journal_lines.specs.Objects.{listed}
use Rattle.journal_lines.specs.Lines.{head, no_sum}
use Rattle.journal_lines.specs.Journal.{chain, journal_of, HasBatches, IsForeign}
use Rattle.journal_lines.specs.Reading.{Reads}
use Rattle.journal_lines.proofs.ReadLines.{reads_recover}
use Rattle.journal_store.specs.declared.store.StoreFault.{StoreFault}
use Rattle.journal_store.specs.declared.store.StoreFault.TheVariants.{NoMemory, Failed}
use Rattle.journal_store.specs.Store.{IsPiece}
use Rattle.journal_serve.specs.declared.fault.RecoverFault.{RecoverFault}
use Rattle.journal_serve.specs.declared.fault.RecoverFault.TheVariants.{Damaged, Unfit, Foreign}
use Rattle.journal_serve.specs.Faults.{recover_fault_of}
use Rattle.journal_serve.specs.Pieces.{IsOneLine}
use Rattle.journal_serve.specs.Recovery.{ComesNext, IsFront, HasReplayed}

-- what was read next, of a text that is written otherwise, in a slice of it
pub next_same : (text other : List ℕ) (place at : ℕ) (bytes items : List ℕ) → text ≡ other → place ≡ at → ComesNext text place items → bytes ≡ items → ComesNext other at bytes
next_same text other place at bytes items is there next same =
    subst (λ (n : ℕ). ComesNext other n bytes) there (subst (λ (t : List ℕ). ComesNext t place bytes) is (subst (λ (b : List ℕ). ComesNext text place b) (sym same) next))

-- what a read brought into a piece that is cut to it
pub piece_next : (text : List ℕ) (at n len : ℕ) (piece items new : List ℕ) → IsPiece text at piece n → n ≤ length piece → n ≤ len → 0 < length piece
    → new ≡ take n (take len (piece ++ drop (length piece) items)) → ComesNext text at new
piece_next text at n len piece items new piece_is within short some cut = record {
  is = bytes ∙ ap (λ m. take m (drop at text)) (sym size);
  within = omega (arith, size, piece_is.within);
  last = λ none. piece_is.none (sym size ∙ none) some;
}
  where
    bytes : new ≡ take n (drop at text)
    bytes = cut ∙ take-take n len (piece ++ drop (length piece) items) short ∙ take-append-le n piece (drop (length piece) items) within ∙ piece_is.bytes

    size : length new ≡ n
    size = omega (arith, ap length bytes, length-take n (drop at text), piece_is.within)

-- no bytes are a front
pub front_begins : (text front : List ℕ) → front ≡ [] → front ≡ take (length front) text
front_begins text front none = nil_from_length front (ap length none) ∙ sym (nil_from_length (take (length front) text) (omega (arith, ap length none, length-take (length front) text)))

-- a front, with what is wanted written otherwise, in a slice of it
pub front_same : (text : List ℕ) (most other : ℕ) (items front : List ℕ) → IsFront text most items → most ≡ other → front ≡ items → IsFront text other front
front_same text most other items front is same equal = subst (λ (n : ℕ). IsFront text n front) same (subst (λ (l : List ℕ). IsFront text most l) (sym equal) is)

-- the front of a text with the bytes behind it
pub front_more : (text front bytes new : List ℕ) → front ≡ take (length front) text → ComesNext text (length front) bytes → new ≡ front ++ bytes → new ≡ take (length new) text
front_more text front bytes new is next grown =
    grown ∙ ap (λ (l : List ℕ). l ++ bytes) is ∙ ap (λ (l : List ℕ). take (length front) text ++ l) next.is ∙ sym (take-add (length front) (length bytes) text) ∙ ap (λ m. take m text) size
  where
    size : length front + length bytes ≡ length new
    size = omega (arith, length-append front bytes, ap length grown)

-- and it is within the text
pub front_within : (text front : List ℕ) → front ≡ take (length front) text → length front ≤ length text
front_within text front is = omega (arith, ap length is, length-take (length front) text)

-- where nothing is read behind a front, it is all of the text
pub front_all : (text front bytes : List ℕ) (most : ℕ) → front ≡ take (length front) text → ComesNext text (length front) bytes → length bytes ≡ 0 → IsFront text most front
front_all text front bytes most is next none = record { is = is; within = front_within text front is; long = inl (next.last none) }

-- a front that is longer than was wanted
pub front_long : (text front : List ℕ) (most : ℕ) → front ≡ take (length front) text → most < length front → IsFront text most front
front_long text front most is long = record { is = is; within = front_within text front is; long = inr long }

-- a front that begins with the head
pub head_in_front : (text front : List ℕ) (most : ℕ) → IsFront text most front → length head ≤ length front → front ≡ head ++ drop (length head) front → take (length head) text ≡ head
head_in_front text front most is long begins =
    sym (ap (take (length head)) is.is ∙ take-take (length head) (length front) text long) ∙ ap (take (length head)) begins ∙ take_at head (drop (length head) front) (length head) refl

-- a front that is longer than the head, and does not begin with it
pub front_is_foreign : (text front : List ℕ) → IsFront text (length head) front → ((rest : List ℕ) → front ≡ head ++ rest → ⊥) → length head < length front → IsForeign text
front_is_foreign text front is other long = record {
  longer = omega (arith, long, is.within);
  other = λ begins. other (drop (length head) front)
      (sym (take-append-drop (length head) front)
      ∙ ap (λ (l : List ℕ). l ++ drop (length head) front) (ap (take (length head)) is.is ∙ take-take (length head) (length front) text (omega (arith, long)) ∙ begins));
}

-- a front that is not longer than the head is all of the text
pub front_is_short : (text front : List ℕ) → IsFront text (length head) front → length front ≤ length head → length text ≤ length head
front_is_short text front is short = ⊎_elim (λ all. omega (arith, all, short)) (λ long. absurd (omega (arith, long, short))) is.long

-- the head, and what stands behind it
pub replay_begins : (text : List ℕ) (reading : Reading) (size : ℕ) (open_line : List ℕ) → take (length head) text ≡ head → size ≡ length head → open_line ≡ [] → Reads reading [] []
    → HasReplayed text size reading [] open_line
replay_begins text reading size open_line is long none reads = record {
  lines = [];
  reads = reads;
  is = ap (λ n. take n text) long ∙ is ∙ sym (append-nil head) ∙ ap (λ (l : List ℕ). head ++ l) (sym none);
  within = omega (arith, long, ap length is, length-take (length head) text);
}

-- one piece more
pub replay_goes : (text : List ℕ) (at n : ℕ) (old new : Reading) (batches next : List (List (List ℕ))) (open_line bytes open_next read : List ℕ) → (now : HasReplayed text at old batches open_line)
    → ComesNext text at bytes → n ≡ length bytes → now.lines ++ (open_line ++ bytes) ≡ read ++ open_next → Reads new read next → HasReplayed text (at + n) new next open_next
replay_goes text at n old new batches next open_line bytes open_next read now next_is size is reads = record {
  lines = read;
  reads = reads;
  is = ap (λ m. take (at + m) text) size ∙ take-add at (length bytes) text ∙ ap (λ (l : List ℕ). l ++ take (length bytes) (drop at text)) now.is
      ∙ ap (λ (l : List ℕ). head ++ (now.lines ++ open_line) ++ l) (sym next_is.is) ∙ regroup head now.lines open_line bytes ∙ ap (λ (l : List ℕ). head ++ l) is;
  within = omega (arith, now.within, next_is.within, size, length-drop at text);
}
  where
    regroup : (a b c d : List ℕ) → a ++ (b ++ c) ++ d ≡ a ++ (b ++ (c ++ d))
    regroup a b c d = simp append_assoc

-- where nothing is read behind it, it is all of the text
pub replay_ends : (text : List ℕ) (at : ℕ) (reading : Reading) (batches : List (List (List ℕ))) (open_line bytes : List ℕ) → HasReplayed text at reading batches open_line → ComesNext text at bytes
    → length bytes ≡ 0 → at ≡ length text
replay_ends text at reading batches open_line bytes now next none = omega (arith, now.within, next.last none)

-- the text, with the bytes that were read and what stands behind them
pub text_with_bytes : (text : List ℕ) (at : ℕ) (reading : Reading) (batches : List (List (List ℕ))) (open_line bytes : List ℕ) → (now : HasReplayed text at reading batches open_line)
    → ComesNext text at bytes → head ++ (now.lines ++ (open_line ++ bytes ++ drop (length bytes) (drop at text))) ≡ text
text_with_bytes text at reading batches open_line bytes now next_is =
    regroup head now.lines open_line bytes (drop (length bytes) (drop at text)) ∙ ap (λ (l : List ℕ). l ++ (bytes ++ drop (length bytes) (drop at text))) (sym now.is)
    ∙ ap (λ (l : List ℕ). take at text ++ (l ++ drop (length bytes) (drop at text))) next_is.is
    ∙ ap (λ (l : List ℕ). take at text ++ l) (take-append-drop (length bytes) (drop at text)) ∙ take-append-drop at text
  where
    regroup : (a b c d e : List ℕ) → a ++ (b ++ (c ++ d ++ e)) ≡ a ++ (b ++ c) ++ (d ++ e)
    regroup a b c d e = simp append_assoc

-- a text that was read to its end has its batches
pub replayed_has_batches : (text : List ℕ) (at : ℕ) (reading : Reading) (batches : List (List (List ℕ))) (open_line : List ℕ) → HasReplayed text at reading batches open_line → at ≡ length text
    → IsOneLine open_line → HasBatches text batches
replayed_has_batches text at reading batches open_line now all one_line =
    subst (λ (l : List ℕ). HasBatches l batches) (sym now.is ∙ take_all at text (omega (arith, all))) (reads_recover reading now.lines open_line batches now.reads one_line)

-- how long their journal is
pub journal_size : (reading : Reading) (lines : List ℕ) (batches : List (List (List ℕ))) → Reads reading lines batches → length head + reading.end ≡ length (journal_of batches)
journal_size reading lines batches reads = omega (arith, reads.end, length-append head (chain no_sum (map listed batches)))

-- what is left of the text where its end is cut
pub cut_is_journal : (text : List ℕ) (batches : List (List (List ℕ))) (whole : ℕ) → HasBatches text batches → whole ≡ length (journal_of batches) → take whole text ≡ journal_of batches
cut_is_journal text batches whole one size = ap (take whole) one.is ∙ take_at (journal_of batches) one.end whole (sym size)

-- a text with no end is the journal
pub whole_is_journal : (text : List ℕ) (batches : List (List (List ℕ))) (whole : ℕ) → HasBatches text batches → whole ≡ length (journal_of batches) → length text ≤ whole → text ≡ journal_of batches
whole_is_journal text batches whole one size long =
    one.is ∙ ap (λ (l : List ℕ). journal_of batches ++ l) (nil_from_length one.end (omega (arith, long, size, ap length one.is, length-append (journal_of batches) one.end))) ∙ append-nil (journal_of batches)

-- a fault of a store is told as no damage,
pub never_damaged : {T : Type 0} (result : Result T RecoverFault) (why : RecoverFault) (fault : StoreFault) → result ≡ Err why → why ≡ recover_fault_of fault → (number : ℕ)
    → result ≡ Err (Damaged number) → ⊥
never_damaged result why NoMemory is told number other = cc
never_damaged result why (Failed failure) is told number other = cc

-- not as a command that does not fit,
pub never_unfit : {T : Type 0} (result : Result T RecoverFault) (why : RecoverFault) (fault : StoreFault) → result ≡ Err why → why ≡ recover_fault_of fault → (number : ℕ)
    → result ≡ Err (Unfit number) → ⊥
never_unfit result why NoMemory is told number other = cc
never_unfit result why (Failed failure) is told number other = cc

-- and not as what is no journal
pub never_foreign : {T : Type 0} (result : Result T RecoverFault) (why : RecoverFault) (fault : StoreFault) → result ≡ Err why → why ≡ recover_fault_of fault → result ≡ Err Foreign → ⊥
never_foreign result why NoMemory is told other = cc
never_foreign result why (Failed failure) is told other = cc
