-- The script of a log that grows by a line, and of one more start.
use Rattle.sm_protocol.proofs.Below.{◌≡◌, ℕ, zero, suc, ◌+◌, ◌<◌, ◌≤◌, Bool, false, refl, sym, ap, ◌∙◌, inl, inr, subst, arith, Option, Some, None, List, [], ◌∷◌, ◌++◌, append_assoc, length-append, ◌==◌, length, if◌then◌else◌, slice_get, slice_index_or, AllByRecursion, ne_eqb, eq-eqb, cases_lt, append-nil, get_or_append_left, get_or_past, get_or-append_seam}
use Rattle.sm_protocol.proofs.Words.{Event, Played, Logged, Ticket, pass_of, passes_from, passes, State, Start, Happening, Begin, happening_of, starts_at, lines_at, script_to, script}
use Rattle.sm_protocol.specs.declared.event.Event.TheVariants as event
use Rattle.sm_protocol.specs.declared.event.Played.TheVariants as played

-- ---- lists

-- what stands in a list stands there when more follows
pub slice_get_before : {T : Type 0} (xs ys : List T) (n : ℕ) → n < length xs → slice_get (xs ++ ys) n ≡ slice_get xs n
slice_get_before [] ys n l = absurd (omega arith)
slice_get_before (x ∷ xs) ys zero l = refl
slice_get_before (x ∷ xs) ys (suc n) l = slice_get_before xs ys n (omega arith)

-- and what is added stands behind it
pub slice_get_last : {T : Type 0} (xs : List T) (y : T) → slice_get (xs ++ y ∷ []) (length xs) ≡ Some y
slice_get_last [] y = refl
slice_get_last (x ∷ xs) y = slice_get_last xs y

-- ---- passes

-- a log with a line more has the passes from before, and that of the line or none
pub passes_push : (before : List (Option Ticket)) (log : List Logged) (x : Logged) →
    passes_from before (log ++ x ∷ []) ≡ passes_from before log ++ pass_of (passes_from before log) x.answer x.event ∷ []
passes_push before [] x = refl
passes_push before (y ∷ log) x = passes_push (before ++ pass_of before y.answer y.event ∷ []) log x

-- each line of the log adds one to the list of passes
pub length_passes : (before : List (Option Ticket)) (log : List Logged) → length (passes_from before log) ≡ length before + length log
length_passes before [] = omega arith
length_passes before (y ∷ log) =
    let a = length_passes (before ++ pass_of before y.answer y.event ∷ []) log in
    let b = length-append before (pass_of before y.answer y.event ∷ []) in
    omega arith

-- the earlier passes stay
pub passes_before : (log : List Logged) (x : Logged) (n : ℕ) → n < length log → slice_index_or (passes (log ++ x ∷ [])) n None ≡ slice_index_or (passes log) n None
passes_before log x n l =
    let a = length_passes [] log in
    ap (λ ts. slice_index_or ts n None) (passes_push [] log x) ∙ get_or_append_left (passes log) _ None n (omega arith)

-- a place with a pass is within the log
pub pass_below : (log : List Logged) (n : ℕ) (t : Ticket) → slice_index_or (passes log) n None ≡ Some t → n < length log
pass_below log n t e = elim (cases_lt n (length log)) [
  | inl l ↦ l
  | inr l ↦ let m = length_passes [] log in absurd (let f : slice_index_or (passes log) n None ≡ None = get_or_past (passes log) n None (omega arith) in cc)
]

-- what holds of all recorded passes, and of that of one more line
pub pass_push : (log : List Logged) (x : Logged) (P : ℕ → Ticket → Type 0) → ((n : ℕ) (t : Ticket) → slice_index_or (passes log) n None ≡ Some t → P n t) →
    ((t : Ticket) → pass_of (passes log) x.answer x.event ≡ Some t → P (length log) t) → (n : ℕ) (t : Ticket) → slice_index_or (passes (log ++ x ∷ [])) n None ≡ Some t → P n t
pass_push log x P all last n t e = elim (cases_lt n (length log)) [
  | inl l ↦ all n t (sym (passes_before log x n l) ∙ e)
  | inr l ↦
      let k = pass_below (log ++ x ∷ []) n t e in
      let m = length-append log (x ∷ []) in
      let here : n ≡ length (passes log) = omega (arith, length_passes [] log) in
      let new = pass_of (passes log) x.answer x.event in
      let f : slice_index_or (passes log ++ new ∷ []) n None ≡ Some t = ap (λ ts. slice_index_or ts n None) (sym (passes_push [] log x)) ∙ e in
      let same : length log ≡ n = omega (arith, length_passes [] log) in
      subst (λ k. P k t) same (last t (sym (get_or-append_seam (passes log) new [] None) ∙ subst (λ k. slice_index_or (passes log ++ new ∷ []) k None ≡ Some t) here f))
]

-- ---- starts

-- each plan was begun when the log was no longer than this
abbrev pub AreBegunBy : ℕ → List Start → Type 0
AreBegunBy n plans = AllByRecursion (λ (x : Start). x.since ≤ n) plans

-- so it is of each greater length too
pub begun_by_more : (n m : ℕ) (plans : List Start) → n ≤ m → AreBegunBy n plans → AreBegunBy m plans
begun_by_more n m [] l a = tt
begun_by_more n m (x ∷ xs) l a = (omega (arith, a.0), begun_by_more n m xs l a.1)

-- and with one plan more that was begun so
pub begun_by_push : (n : ℕ) (plans : List Start) (y : Start) → AreBegunBy n plans → y.since ≤ n → AreBegunBy n (plans ++ y ∷ [])
begun_by_push n [] y a l = (l, tt)
begun_by_push n (x ∷ xs) y a l = (a.0, begun_by_push n xs y a.1 l)

-- none was begun later
pub no_starts : (number n : ℕ) (plans : List Start) → AreBegunBy n plans → starts_at number plans (n + 1) ≡ []
no_starts number n [] a = refl
no_starts number n (x ∷ xs) a =
    let e : (x.since == (n + 1)) ≡ false = ne_eqb x.since (n + 1) (λ q. let l = a.0 in omega arith) in
    rw e (no_starts (number + 1) n xs a.1)

-- the line of a start
abbrev pub start_line : ℕ → Start → List (Happening × Played)
start_line number y = (Begin y.plan, played.Begun number) ∷ []

abbrev pub start_if : Bool → ℕ → Start → List (Happening × Played)
start_if b number y = if b then start_line number y else []

starts_push : (number : ℕ) (plans : List Start) (y : Start) (n m : ℕ) → m ≡ number + length plans →
    starts_at number (plans ++ y ∷ []) n ≡ starts_at number plans n ++ start_if (y.since == n) m y
starts_push number [] y n m e =
    let f : number ≡ m = omega arith in
    subst (λ k. starts_at number (y ∷ []) n ≡ start_if (y.since == n) k y) f (append-nil (start_if (y.since == n) number y))
starts_push number (x ∷ xs) y n m e =
    ap (λ r. start_if (x.since == n) number x ++ r) (starts_push (number + 1) xs y n m (omega arith))
    ∙ sym (append_assoc (start_if (x.since == n) number x) (starts_at (number + 1) xs n) (start_if (y.since == n) m y))

-- ---- scripts

-- the script of a log with these passes and starts
pub script_parts : List (Option Ticket) → List Logged → List Start → ℕ → List (Happening × Played)
script_parts tickets log plans zero = starts_at 0 plans 0
script_parts tickets log plans (suc n) = script_parts tickets log plans n ++ lines_at tickets (slice_get log n) ++ starts_at 0 plans (suc n)

script_to_is : (w : State) (n : ℕ) → script_to w n ≡ script_parts (passes w.log) w.log w.plans n
unfolding script_parts
script_to_is w zero = refl
script_to_is w (suc n) = ap (λ xs. xs ++ lines_at (passes w.log) (slice_get w.log n) ++ starts_at 0 w.plans (suc n)) (script_to_is w n)

-- the script of a state is that of its log, with the log's passes, and of its starts
pub script_is : (w : State) → script w ≡ script_parts (passes w.log) w.log w.plans (length w.log)
script_is w = script_to_is w (length w.log)

-- what is passed on in a log was passed before
abbrev pub AreOfEarlier : List Logged → Type 0
AreOfEarlier log = (n : ℕ) (x : Logged) (place : ℕ) → slice_get log n ≡ Some x → x.event ≡ event.PassOn place → place < n

same_happening : (log : List Logged) (x : Logged) (y : Event) → ((place : ℕ) → y ≡ event.PassOn place → place < length log) →
    happening_of (passes (log ++ x ∷ [])) y ≡ happening_of (passes log) y
same_happening log x (event.PassOn place) l = rw (passes_before log x place (l place refl)) refl
same_happening log x _ l = refl

same_entries : (log : List Logged) (x : Logged) (n : ℕ) → n < length log → AreOfEarlier log → (o : Option Logged) → slice_get log n ≡ o →
    lines_at (passes (log ++ x ∷ [])) o ≡ lines_at (passes log) o
same_entries log x n l earlier None e = refl
same_entries log x n l earlier (Some y) e =
    rw (same_happening log x y.event (λ place f. let a = earlier n y place e f in omega arith)) refl

-- the script of what was recorded before
same_script : (log : List Logged) (x : Logged) (plans : List Start) → AreOfEarlier log → (n : ℕ) → n ≤ length log →
    script_parts (passes (log ++ x ∷ [])) (log ++ x ∷ []) plans n ≡ script_parts (passes log) log plans n
unfolding script_parts
same_script log x plans earlier zero l = refl
same_script log x plans earlier (suc n) l =
    let a = same_script log x plans earlier n (omega arith) in
    let b = slice_get_before log (x ∷ []) n (omega arith) in
    let d = same_entries log x n (omega arith) earlier (slice_get log n) refl in
    rw (b, a, d) refl

-- one more recorded event is one line more
pub script_of_line : (log : List Logged) (x : Logged) (plans : List Start) → AreOfEarlier log → AreBegunBy (length log) plans →
    script_parts (passes (log ++ x ∷ [])) (log ++ x ∷ []) plans (length (log ++ x ∷ [])) ≡ script_parts (passes log) log plans (length log) ++ lines_at (passes (log ++ x ∷ [])) (Some x)
unfolding script_parts
script_of_line log x plans earlier begun =
    let e : length (log ++ x ∷ []) ≡ suc (length log) = omega (arith, length-append log (x ∷ [])) in
    let a = same_script log x plans earlier (length log) (omega arith) in
    let b = slice_get_last log x in
    let d : starts_at 0 plans (suc (length log)) ≡ [] = ap (starts_at 0 plans) (omega arith) ∙ no_starts 0 (length log) plans begun in
    rw (e, b, a, d) (append-nil (script_parts (passes log) log plans (length log) ++ lines_at (passes (log ++ x ∷ [])) (Some x)))

-- ---- starts in a script

same_starts : (tickets : List (Option Ticket)) (log : List Logged) (plans : List Start) (y : Start) (n : ℕ) → n < y.since →
    script_parts tickets log (plans ++ y ∷ []) n ≡ script_parts tickets log plans n
unfolding script_parts
same_starts tickets log plans y zero l = starts_push 0 plans y 0 (0 + length plans) refl ∙ rw (ne_eqb y.since 0 (λ q. omega arith)) (append-nil _)
same_starts tickets log plans y (suc n) l =
    let a = same_starts tickets log plans y n (omega arith) in
    let b : starts_at 0 (plans ++ y ∷ []) (suc n) ≡ starts_at 0 plans (suc n) = starts_push 0 plans y (suc n) (0 + length plans) refl ∙ rw (ne_eqb y.since (suc n) (λ q. omega arith)) (append-nil _) in
    rw (a, b) refl

-- one more start is one line more
pub script_of_start : (tickets : List (Option Ticket)) (log : List Logged) (plans : List Start) (y : Start) (n : ℕ) → n ≡ y.since →
    script_parts tickets log (plans ++ y ∷ []) n ≡ script_parts tickets log plans n ++ start_line (length plans) y
unfolding script_parts
script_of_start tickets log plans y zero e = starts_push 0 plans y 0 (length plans) (omega arith) ∙ rw (eq-eqb y.since 0 (sym e)) refl
script_of_start tickets log plans y (suc n) e =
    let a = same_starts tickets log plans y n (omega arith) in
    let b : starts_at 0 (plans ++ y ∷ []) (suc n) ≡ starts_at 0 plans (suc n) ++ start_line (length plans) y =
    starts_push 0 plans y (suc n) (length plans) (omega arith) ∙ rw (eq-eqb y.since (suc n) (sym e)) refl in
    rw (a, b) (sym (append_assoc (script_parts tickets log plans n ++ lines_at tickets (slice_get log n)) (starts_at 0 plans (suc n)) (start_line (length plans) y)))
