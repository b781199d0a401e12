-- A recovery, and the session behind it.
use Rattle.std.proofs.Common.{◌≡◌, ◌⊎◌, inl, inr, ⊎_elim, ℕ, ◌-◌, ◌≤◌, List, [], ◌++◌, take, drop, Option, sym, ◌∙◌, ap, subst, arith, append_assoc}
use Rattle.std.proofs.Math.Seq.{take-add}
use Rattle.std.proofs.lemmas.Bool.{cases_lt}
use Rattle.std.proofs.lemmas.List.{append-nil}
use Rattle.std.specs.Io.KnownBytes.{Keeps}
use Rattle.journal_lines.specs.Journal.{RecoversTo, HasNoForged}
use Rattle.journal_lines.proofs.Chains.{recovers_once}
use Rattle.journal_store.specs.Store.{written_now, MayLeave}
use Rattle.journal_serve.specs.Trace.{Exchange, changes_in}
use Rattle.journal_serve.specs.Session.{RecoversBeyond, AreSafe}
use Rattle.journal_serve.specs.Recovery.{IsSameJournal, KeepsJournal}
use Rattle.journal_serve.specs.Resume.{HasAtLeast, HasResumed}
use Rattle.journal_serve.proofs.Turns.{changes_in-append}
use Rattle.journal_serve.proofs.KnownBytes.{keeps_appends, grows_all}

-- the same journal recovers to the same commands
pub same_recovers : (text content : List ℕ) (found : List (List ℕ)) → RecoversTo text found → IsSameJournal text content → RecoversTo content found
same_recovers text content found is same = ⊎_elim
    (λ equal. subst (λ (c : List ℕ). RecoversTo c found) (sym equal) is)
    (λ both. subst (λ (es : List (List ℕ)). RecoversTo content es) (sym (recovers_once text found both.0 is both.1)) both.2)
    same

-- what was found, with what no line changed
pub found_beyond : (found : List (List ℕ)) (trace : List Exchange) (content : List ℕ) → RecoversTo content found → RecoversBeyond found trace 0 content
found_beyond found trace content is = (0, omega arith, omega arith, subst (λ (es : List (List ℕ)). RecoversTo content es) (sym (append-nil found)) is)

-- where more lines are safe, what the first changed is there
pub beyond_has : (found : List (List ℕ)) (trace : List Exchange) (safe : ℕ) (content : List ℕ) → RecoversBeyond found trace safe content
    → HasAtLeast (found ++ changes_in (take safe trace)) content
beyond_has found trace safe content (k, from, within, is) =
    let first = take safe trace in
    let more = take (k - safe) (drop safe trace) in
    let split : take k trace ≡ first ++ more = ap (λ n. take n trace) (omega (arith, from)) ∙ take-add safe (k - safe) trace in
    let all : found ++ changes_in (take k trace) ≡ found ++ changes_in first ++ changes_in more =
    ap (λ (t : List Exchange). found ++ changes_in t) split ∙ ap (λ (l : List (List ℕ)). found ++ l) (changes_in-append first more) ∙ sym (append_assoc found (changes_in first) (changes_in more)) in
    (changes_in more, subst (λ (es : List (List ℕ)). RecoversTo content es) all is)

-- what has more than that has that
pub has_more : (told more : List (List ℕ)) (trace : List Exchange) (content : List ℕ) → RecoversBeyond (told ++ more) trace 0 content → HasAtLeast told content
has_more told more trace content (k, from, within, is) =
    let changed = changes_in (take k trace) in
    (more ++ changed, subst (λ (es : List (List ℕ)). RecoversTo content es) (append_assoc told more changed) is)

module _ {D : Type 0} (moment : D → ℕ) (written_at : D → ℕ → List ℕ) (left_at : D → ℕ → List ℕ → Type 0) (found : List (List ℕ)) (trace : List Exchange)
    (old : D) (is : RecoversTo (written_now moment written_at old) found) where
  -- what a crash leaves of a recovery
  left_by_recovery : (new : D) → KeepsJournal moment written_at left_at old new → (n : ℕ) (content : List ℕ) → moment old ≤ n → n ≤ moment new → left_at new n content
      → RecoversBeyond found trace 0 content ⊎ MayLeave moment left_at old content
  left_by_recovery new keeps n content from until left = ⊎_elim
      (λ later. ⊎_elim
      (λ before. inr before)
      (λ same. inl (found_beyond found trace content (same_recovers (written_now moment written_at old) content found is same)))
      (keeps.each n content later until left))
      (λ past.
      let now : n ≡ moment old = omega (arith, from, past) in
      inr (subst (λ m. left_at old m content) now (keeps.before n content past left)))
      (cases_lt (moment old) n)

  -- where the recovery failed
  pub resumed_not : (new : D) (before after : Option (List ℕ)) → KeepsJournal moment written_at left_at old new → Keeps before after
      → (safe : ℕ) × HasResumed moment written_at left_at found trace before after old new safe
  resumed_not new before after keeps still = (
    0,
    record {
      within = omega arith;
      told = grows_all before after [] (keeps_appends before after still);
      now = λ content left honest. ⊎_elim (λ beyond. inl beyond) (λ earlier. inr (still, earlier)) (left_by_recovery new keeps (moment new) content keeps.later (omega arith) left);
      any_moment = λ n content from until left honest. left_by_recovery new keeps n content from until left;
    },
  )

  -- where lines were served
  pub resumed : (entries : List (List ℕ)) (mid new : D) (before after : Option (List ℕ)) → entries ≡ found → KeepsJournal moment written_at left_at old mid
      → (safe : ℕ) × AreSafe moment written_at left_at entries trace before after mid new safe
      → (safe : ℕ) × HasResumed moment written_at left_at found trace before after old new safe
  resumed entries mid new before after same keeps served =
      let lines_are = subst (λ (es : List (List ℕ)). AreSafe moment written_at left_at es trace before after mid new served.0) same served.1 in (
        served.0,
        record {
          within = lines_are.within;
          told = lines_are.told;
          now = λ content left honest. inl (lines_are.now content left honest);
          any_moment = λ n content from until left honest. ⊎_elim
              (λ past. left_by_recovery mid keeps n content from (omega (arith, past)) (lines_are.past n content (omega (arith, past)) left))
              (λ later. inl (lines_are.any_moment n content later until left honest))
              (cases_lt n (moment mid));
        },
      )

-- what was told before is never lost
pub resumed_keeps : {D : Type 0} (moment : D → ℕ) (written_at : D → ℕ → List ℕ) (left_at : D → ℕ → List ℕ → Type 0) (told more : List (List ℕ)) (trace : List Exchange)
    (before after : Option (List ℕ)) (old new : D) → (safe : ℕ) × HasResumed moment written_at left_at (told ++ more) trace before after old new safe
    → ((content : List ℕ) → MayLeave moment left_at old content → HasAtLeast told content)
    → (n : ℕ) (content : List ℕ) → moment old ≤ n → n ≤ moment new → left_at new n content → HasNoForged (written_at new n) content → HasAtLeast told content
resumed_keeps moment written_at left_at told more trace before after old new (safe, has) each n content from until left honest = ⊎_elim
    (λ beyond. has_more told more trace content beyond)
    (λ earlier. each content earlier)
    (has.any_moment n content from until left honest)
