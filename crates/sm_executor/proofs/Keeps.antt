-- The words stay tied to the machine, and the books are its counts.
use Rattle.std.proofs.Common.{◌≡◌, ◌<◌, ℕ, suc, ◌+◌, ◌≤◌, Bool, true, false, refl, sym, ap, ◌∙◌, inl, inr, subst, arith, cond, List, [], ◌∷◌, ◌++◌, length, Some, length-append}
use Rattle.std.specs.Prelude.{zero, count_by, slice_get}
use Rattle.std.proofs.lemmas.List.{append_assoc, append-nil}
use Rattle.std.proofs.lemmas.List.Sums.{sum_by-append}
use Rattle.sm_placement.specs.declared.entry.Entry.{Entry}
use Rattle.sm_placement.specs.Sums.{bit}
use Rattle.sm_placement.specs.Place.{entry_at}
use Rattle.sm_map.specs.Entry.{IsInRange}
use Rattle.sm_map.specs.History.{newest, opened_at, entries_of_shard}
use Rattle.sm_map.specs.Models.{WordsModel, PublisherModel}
use Rattle.sm_protocol.specs.declared.event.Played.{Played}
use Rattle.sm_protocol.specs.declared.event.Logged.{Logged}
use Rattle.sm_protocol.specs.State.{State}
use Rattle.sm_protocol.specs.Steps.{Answered}
use Rattle.sm_executor.specs.Counting.{is_step, is_executed, is_refused, IsBooked, Counts}
use Rattle.sm_executor.specs.Tied.{IsPublished, IsMapOf, IsQuiet, IsBehind}
use Rattle.sm_executor.specs.Views.{recorded_more}
use Rattle.sm_executor.proofs.Effects.{Asked, Made, Uncounted}

-- ---- the books

count_push : (p : Logged → Bool) (xs : List Logged) (x : Logged) → count_by p (xs ++ x ∷ []) ≡ count_by p xs + bit (p x)
count_push p xs x = sum_by-append (λ y. cond (p y) 1 0) xs (x ∷ []) ∙ ap (λ n. count_by p xs + n) (one (p x))
  where
    one : (b : Bool) → 0 + cond b 1 0 ≡ bit b
    one true = refl
    one false = refl

-- nothing was recorded
pub counted_same : (opened old new : State) (a b c : ℕ) → new.log ≡ old.log → IsBooked opened old a b c → IsBooked opened new a b c
counted_same opened old new a b c e k = record { since = k.since; log = e ∙ k.log; steps_are = k.steps_are; executed_are = k.executed_are; refused_are = k.refused_are }

-- the books rise with what was recorded
pub counted_more : (opened old new : State) (x : Logged) (a b c : ℕ) → new.log ≡ old.log ++ x ∷ [] → IsBooked opened old a b c →
    IsBooked opened new (a + bit (is_step x.event)) (b + bit (is_executed x.answer)) (c + bit (is_refused x.answer))
counted_more opened old new x a b c e k = record {
  since = k.since ++ x ∷ [];
  log = e ∙ ap (λ l. l ++ x ∷ []) k.log ∙ append_assoc opened.log k.since (x ∷ []);
  steps_are = ap (λ n. n + bit (is_step x.event)) k.steps_are ∙ sym (count_push (λ y. is_step y.event) k.since x);
  executed_are = ap (λ n. n + bit (is_executed x.answer)) k.executed_are ∙ sym (count_push (λ y. is_executed y.answer) k.since x);
  refused_are = ap (λ n. n + bit (is_refused x.answer)) k.refused_are ∙ sym (count_push (λ y. is_refused y.answer) k.since x);
}

-- when a board is opened
pub counted_opened : (opened : State) → IsBooked opened opened 0 0 0
counted_opened opened = record { since = []; log = sym (append-nil opened.log); steps_are = refl; executed_are = refl; refused_are = refl }

-- ---- the words

-- when a board is opened
opened_newest : (es : List Entry) (s : ℕ) (e : Entry) → slice_get es s ≡ Some e → newest (opened_at es s) ≡ Some e
opened_newest [] s e h = absurd (cc)
opened_newest (x ∷ xs) zero e h = h
opened_newest (x ∷ xs) (suc s) e h = opened_newest xs s e h

-- a list of what stands at each number, with one more
pub one_more : {X : Type 0} (f : ℕ → X) (xs : List X) (x : X) → ((s : ℕ) → s < length xs → slice_get xs s ≡ Some (f s)) → x ≡ f (length xs) →
    (s : ℕ) → s < length xs + 1 → slice_get (xs ++ x ∷ []) s ≡ Some (f s)
one_more f [] x each e zero l = ap Some e
one_more f [] x each e (suc s) l = absurd (omega arith)
one_more f (y ∷ ys) x each e zero l = each zero (omega arith)
one_more f (y ∷ ys) x each e (suc s) l = one_more (λ s. f (suc s)) ys x (λ s l. each (suc s) (omega arith)) e s (omega arith)

-- when a board is opened, the words have its map and nothing is stored yet: they are tied to the machine
pub tied_opened : (words : WordsModel) (opened : State) (p : PublisherModel) → IsMapOf words opened → p.words ≡ words → p.stores ≡ [] → IsPublished words opened opened p
tied_opened words opened p k e f = record {
  words_are = e;
  shards = k.shards;
  servers = k.servers;
  stores = ap (λ l. l ++ opened.entries) (sym f);
  newest_is = λ s l. ap (λ (v : WordsModel). newest (entries_of_shard v.opening p.stores s)) e ∙ ap (λ st. newest (entries_of_shard words.opening st s)) f ∙ opened_newest words.opening s (entry_at opened.place s) (k.entries s l);
}

-- what publishes nothing leaves them tied
pub tied_quiet : (words : WordsModel) (opened old new : State) (p : PublisherModel) → IsQuiet old new → IsPublished words opened old p → IsPublished words opened new p
tied_quiet words opened old new p q k = record {
  words_are = k.words_are;
  shards = k.shards ∙ sym (ap (λ c. c.shards) q.sizes);
  servers = k.servers ∙ sym (ap (λ c. c.servers) q.sizes);
  stores = q.entries ∙ k.stores;
  newest_is = λ s l. k.newest_is s (subst (λ c. s < c.shards) q.sizes l)
      ∙ (λ j. Some (let e : Entry = record { server = sym q.listed j s; version = sym q.version j s } in e));
}

-- ---- events

-- the words are tied and the books count, behind an event
pub record IsKept (words : WordsModel) (opened now : State) (p : PublisherModel) (steps executed refused : ℕ) : Type 0 where
  pub tied : IsPublished words opened now p
  pub counted : IsBooked opened now steps executed refused

-- a request leaves them so, and the books rise by what its answer counts
pub asked_kept : (words : WordsModel) (opened old new : State) (p : PublisherModel) (a b c : ℕ) (answer : Played) → Asked old (Answered answer) new → IsPublished words opened old p → IsBooked opened old a b c →
    IsKept words opened new p a (b + bit (is_executed answer)) (c + bit (is_refused answer))
asked_kept words opened old new p a b c answer (inl u) t k = record {
  tied = subst (λ w. IsPublished words opened w p) (sym u.same) t;
  counted =
      let m = counted_same opened old new a b c (ap (λ (w : State). w.log) u.same) k in
      let x : b + bit (is_executed answer) ≡ b = ap (λ z. b + bit z) u.executed ∙ (omega arith) in
      let y : c + bit (is_refused answer) ≡ c = ap (λ z. c + bit z) u.refused ∙ (omega arith) in
      subst (IsBooked opened new a (b + bit (is_executed answer))) (sym y) (subst (λ n. IsBooked opened new a n c) (sym x) m);
}
asked_kept words opened old new p a b c answer (inr n) t k = record {
  tied = tied_quiet words opened old new p n.quiet t;
  counted =
      let m = counted_more opened old new n.line a b c n.log k in
      let z : a + bit (is_step n.line.event) ≡ a = ap (λ z. a + bit z) n.step ∙ (omega arith) in
      subst (λ x. IsBooked opened new a (b + bit (is_executed x)) (c + bit (is_refused x))) n.answer_is (subst (λ x. IsBooked opened new x (b + bit (is_executed n.line.answer)) (c + bit (is_refused n.line.answer))) z m);
}

-- the log is no shorter after a step, the book of steps rises with it, and so does the runner's count
pub record IsStepped (ended : Bool) (words : WordsModel) (opened old new : State) (p : PublisherModel) (a b c : ℕ) (answer : Played) : Type 0 where
  pub longer : length old.log ≤ length new.log
  pub counted : IsBooked opened new (a + recorded_more old new) b c
  pub counts : (n : ℕ) → Counts ended answer n (n + recorded_more old new)
  pub behind : ((s : ℕ) → s < new.sizes.shards → IsInRange new.sizes.servers (entry_at new.place s)) → IsBehind words opened new p

-- by a step the books and the runner's count rise as the log does; the words are one event behind at most
pub stepped : (ended : Bool) (words : WordsModel) (opened old new : State) (p : PublisherModel) (a b c : ℕ) (answer : Played) → Made ended old (Answered answer) new → IsPublished words opened old p → IsBooked opened old a b c →
    IsStepped ended words opened old new p a b c answer
stepped ended words opened old new p a b c answer (inl u) t k =
    let l : length new.log ≡ length old.log = ap (λ (w : State). length w.log) u.same in
    let m : recorded_more old new ≡ 0 = omega arith in
    record {
      longer = omega arith;
      counted = subst (λ n. IsBooked opened new n b c) (omega arith) (counted_same opened old new a b c (ap (λ (w : State). w.log) u.same) k);
      counts = λ n. let z : n ≡ n + recorded_more old new = omega arith in subst (Counts ended answer n) z (u.counts n);
      behind = λ r. record { before = old; tied = t; in_range = r; event = inl (record { sizes = ap (λ (w : State). w.sizes) u.same; entries = ap (λ (w : State). w.entries) u.same; listed = ap (λ (w : State). w.place.listed) u.same; version = ap (λ (w : State). w.place.version) u.same }) };
    }
stepped ended words opened old new p a b c answer (inr x) t k =
    let l : length new.log ≡ length old.log + 1 = ap length x.log ∙ length-append old.log (x.line ∷ []) in
    let m : recorded_more old new ≡ 1 = omega arith in
    record {
      longer = omega arith;
      counted =
          let y = counted_more opened old new x.line a b c x.log k in
          let e : a + bit (is_step x.line.event) ≡ a + recorded_more old new = ap (λ z. a + bit z) x.step ∙ (omega arith) in
          let f : b + bit (is_executed x.line.answer) ≡ b = ap (λ z. b + bit z) x.executed ∙ (omega arith) in
          let g : c + bit (is_refused x.line.answer) ≡ c = ap (λ z. c + bit z) x.refused ∙ (omega arith) in
          subst (λ n. IsBooked opened new n b c) e (subst (λ n. IsBooked opened new (a + bit (is_step x.line.event)) n c) f (subst (IsBooked opened new (a + bit (is_step x.line.event)) (b + bit (is_executed x.line.answer))) g y));
      counts = λ n. let z : n + 1 ≡ n + recorded_more old new = omega arith in subst (Counts ended answer n) z (x.counts n);
      behind = λ r. record { before = old; tied = t; in_range = r; event = x.map };
    }

-- what is not counted leaves the words tied and the books as they are
pub plain_kept : (words : WordsModel) (opened old new : State) (p : PublisherModel) (a b c : ℕ) → Uncounted old new → IsPublished words opened old p → IsBooked opened old a b c → IsKept words opened new p a b c
plain_kept words opened old new p a b c (inl e) t k = record {
  tied = subst (λ w. IsPublished words opened w p) (sym e) t;
  counted = counted_same opened old new a b c (ap (λ (w : State). w.log) e) k;
}
plain_kept words opened old new p a b c (inr x) t k = record {
  tied = tied_quiet words opened old new p x.quiet t;
  counted =
      let y = counted_more opened old new x.line a b c x.log k in
      let e : a + bit (is_step x.line.event) ≡ a = ap (λ z. a + bit z) x.step ∙ (omega arith) in
      let f : b + bit (is_executed x.line.answer) ≡ b = ap (λ z. b + bit z) x.executed ∙ (omega arith) in
      let g : c + bit (is_refused x.line.answer) ≡ c = ap (λ z. c + bit z) x.refused ∙ (omega arith) in
      subst (λ n. IsBooked opened new n b c) e (subst (λ n. IsBooked opened new (a + bit (is_step x.line.event)) n c) f (subst (IsBooked opened new (a + bit (is_step x.line.event)) (b + bit (is_executed x.line.answer))) g y));
}

-- and so does the halt flag
pub flag_kept : (words : WordsModel) (opened old new : State) (p : PublisherModel) (a b c : ℕ) (flag : Bool) → new ≡ record old { halted = flag } → IsPublished words opened old p → IsBooked opened old a b c → IsKept words opened new p a b c
flag_kept words opened old new p a b c flag e t k = record {
  tied = tied_quiet words opened old new p (record { sizes = ap (λ (w : State). w.sizes) e; entries = ap (λ (w : State). w.entries) e; listed = ap (λ (w : State). w.place.listed) e; version = ap (λ (w : State). w.place.version) e }) t;
  counted = counted_same opened old new a b c (ap (λ (w : State). w.log) e) k;
}
