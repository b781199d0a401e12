-- A row of cells with one cell changed: whose part changes, and the counts.
use Rattle.std.proofs.Common.{◌≡◌, ◌≢◌, ℕ, ◌+◌, ◌-◌, ◌<◌, ◌≤◌, Bool, false, not, ◌&&◌, ◌||◌, Some, refl, sym, ap, subst, ◌∙◌, arith, inl, inr}
use Rattle.std.specs.Option.{unwrap_or}
use Rattle.std.proofs.Math.Path.{fun_ext}
use Rattle.std.proofs.lemmas.Bool.{cases_eq, eq-eqb, ne_eqb}
use Rattle.std.proofs.lemmas.Option.{none-some, same_Some}
use Rattle.sm_server.specs.declared.call.Cell.{Cell}
use Rattle.sm_server.specs.declared.call.Cell.TheVariants.{Absent, Prepared, Secondary, Primary, Forwarding}
use Rattle.sm_server.specs.Cell.{is_secondary, is_forwarding}
use Rattle.sm_placement.specs.declared.row.Counts.{Counts}
use Rattle.sm_placement.specs.Sums.{put, put2, sum_below, bit}
use Rattle.sm_placement.specs.Rows.{IsKnownCell, forwards, serves_as, serves, is_live, live_in, serving_in}
use Rattle.sm_placement.specs.Counts.{has_replica, part_of, target_of, party_of, at_both, counts_at, counts_in, CanCorrect, corrected}
use Rattle.sm_placement.specs.declared.limits.TheConstants.{MOST_SERVERS}
use Rattle.sm_placement.proofs.Sums.{put-here, put-apart, put2-here, put2-row, put2-apart, part_of_sum, count-le, sum_apart, sum_two_apart, bit-le-one}

-- a cell that doesn't forward to a server doesn't forward to it under any number
forwards-apart : (x : Cell) (q number : ℕ) → target_of x ≢ Some q → forwards x q number ≡ false
forwards-apart Absent q number h = refl
forwards-apart (Prepared from own) q number h = refl
forwards-apart Secondary q number h = refl
forwards-apart Primary q number h = refl
forwards-apart (Forwarding to own) q number h = rw (ne_eqb to q (λ e. h (ap Some e))) refl

serves_as-put : (row : ℕ → Cell) (v : ℕ) (next : Cell) (q : ℕ) (x : Cell) → target_of (row v) ≢ Some q → target_of next ≢ Some q → serves_as (put row v next) q x ≡ serves_as row q x
serves_as-put row v next q Absent h k = refl
serves_as-put row v next q (Prepared from number) h k = elim (cases_eq from v) [
  | inl e ↦ ap (λ c. forwards c q number) (put-here row v next from e) ∙ forwards-apart next q number k ∙ sym (ap (λ u. forwards (row u) q number) e ∙ forwards-apart (row v) q number h)
  | inr e ↦ ap (λ c. forwards c q number) (put-apart row v next from e)
]
serves_as-put row v next q Secondary h k = refl
serves_as-put row v next q Primary h k = refl
serves_as-put row v next q (Forwarding to number) h k = refl

-- who is neither the cell's server nor forwarded to by the old or the new cell serves as before
pub serves-put : (row : ℕ → Cell) (v : ℕ) (next : Cell) (q : ℕ) → q ≢ v → target_of (row v) ≢ Some q → target_of next ≢ Some q → serves (put row v next) q ≡ serves row q
serves-put row v next q d h k = ap (λ c. serves_as (put row v next) q c) (put-apart row v next q d) ∙ serves_as-put row v next q (row q) h k

pub has_replica-put : (row : ℕ → Cell) (v : ℕ) (next : Cell) (q : ℕ) → q ≢ v → target_of (row v) ≢ Some q → target_of next ≢ Some q → has_replica (put row v next) q ≡ has_replica row q
has_replica-put row v next q d h k =
    ap (λ c. is_secondary c || serves (put row v next) q) (put-apart row v next q d) ∙ ap (λ b. is_secondary (row q) || b) (serves-put row v next q d h k)

target_of-apart : (x : Cell) (v q : ℕ) → q ≢ unwrap_or (target_of x) v → target_of x ≢ Some q
target_of-apart Absent v q h = none-some q
target_of-apart (Prepared from number) v q h = none-some q
target_of-apart Secondary v q h = none-some q
target_of-apart Primary v q h = none-some q
target_of-apart (Forwarding to number) v q h = λ e. h (sym (same_Some to q e))

-- where only one of two cells forwards, the party is whom it forwards to
party_of-apart : (old next : Cell) (v q : ℕ) → (is_forwarding old && is_forwarding next) ≡ false → q ≢ v → q ≢ party_of old next v → (target_of old ≢ Some q) × (target_of next ≢ Some q)
party_of-apart Absent next v q o d h = (none-some q, target_of-apart next v q h)
party_of-apart (Prepared from number) next v q o d h = (none-some q, target_of-apart next v q h)
party_of-apart Secondary next v q o d h = (none-some q, target_of-apart next v q h)
party_of-apart Primary next v q o d h = (none-some q, target_of-apart next v q h)
party_of-apart (Forwarding to number) Absent v q o d h = (λ e. h (sym (same_Some to q e)), none-some q)
party_of-apart (Forwarding to number) (Prepared from n) v q o d h = (λ e. h (sym (same_Some to q e)), none-some q)
party_of-apart (Forwarding to number) Secondary v q o d h = (λ e. h (sym (same_Some to q e)), none-some q)
party_of-apart (Forwarding to number) Primary v q o d h = (λ e. h (sym (same_Some to q e)), none-some q)
party_of-apart (Forwarding to number) (Forwarding t n) v q o d h = absurd (cc)

target_of-known : (n : ℕ) (x : Cell) (v : ℕ) → v < n → IsKnownCell n x → unwrap_or (target_of x) v < n
target_of-known n Absent v l h = l
target_of-known n (Prepared from number) v l h = l
target_of-known n Secondary v l h = l
target_of-known n Primary v l h = l
target_of-known n (Forwarding to number) v l h = h

-- the party is a known server
pub party_of-known : (n : ℕ) (old next : Cell) (v : ℕ) → v < n → IsKnownCell n old → IsKnownCell n next → party_of old next v < n
party_of-known n Absent next v l h k = target_of-known n next v l k
party_of-known n (Prepared from number) next v l h k = target_of-known n next v l k
party_of-known n Secondary next v l h k = target_of-known n next v l k
party_of-known n Primary next v l h k = target_of-known n next v l k
party_of-known n (Forwarding to number) next v l h k = h

-- two sums whose functions differ at no more than two numbers
pub sum_at_both : (n : ℕ) (f g : ℕ → ℕ) (v u : ℕ) → v < n → u < n → ((q : ℕ) → q ≢ v → q ≢ u → f q ≡ g q) →
    sum_below n f + at_both g v u ≡ sum_below n g + at_both f v u
sum_at_both n f g v u l m others = elim (cases_eq u v) [
  | inl e ↦ rw (eq-eqb u v e) (sum_apart n f g v (g v) (f v) l (λ q d. others q d (λ s. d (s ∙ e))) (omega arith))
  | inr e ↦ rw (ne_eqb u v e) (sum_two_apart n f g v u l m (λ s. e (sym s)) others)
]

pub at_both-le : (t : ℕ → Bool) (v u : ℕ) → at_both (λ q. bit (t q)) v u ≤ 2
at_both-le t v u =
    let a : bit (t v) ≤ 1 = bit-le-one (t v) in
    let b : bit (t u) ≤ 1 = bit-le-one (t u) in
    elim (cases_eq u v) [
      | inl e ↦ rw (eq-eqb u v e) (omega arith)
      | inr e ↦ rw (ne_eqb u v e) (omega arith)
    ]

-- how the counts of a row change with a cell
pub live_in-put : (n : ℕ) (row : ℕ → Cell) (down : ℕ → Bool) (v : ℕ) (next : Cell) → v < n → IsKnownCell n (row v) → IsKnownCell n next → (is_forwarding (row v) && is_forwarding next) ≡ false →
    live_in n row down + (counts_at (put row v next) down v (party_of (row v) next v)).live ≡ live_in n (put row v next) down + (counts_at row down v (party_of (row v) next v)).live
live_in-put n row down v next l h k o =
    sum_at_both n (λ q. bit (is_live row down q)) (λ q. bit (is_live (put row v next) down q)) v (party_of (row v) next v) l (party_of-known n (row v) next v l h k)
    (λ q d m. let p = party_of-apart (row v) next v q o d m in sym (ap (λ b. bit (not (down q) && b)) (has_replica-put row v next q d p.0 p.1)))

pub serving_in-put : (n : ℕ) (row : ℕ → Cell) (down : ℕ → Bool) (v : ℕ) (next : Cell) → v < n → IsKnownCell n (row v) → IsKnownCell n next → (is_forwarding (row v) && is_forwarding next) ≡ false →
    serving_in n row + (counts_at (put row v next) down v (party_of (row v) next v)).serving ≡ serving_in n (put row v next) + (counts_at row down v (party_of (row v) next v)).serving
serving_in-put n row down v next l h k o =
    sum_at_both n (λ q. bit (serves row q)) (λ q. bit (serves (put row v next) q)) v (party_of (row v) next v) l (party_of-known n (row v) next v l h k)
    (λ q d m. let p = party_of-apart (row v) next v q o d m in sym (ap bit (serves-put row v next q d p.0 p.1)))

same_counts : (a b c d : ℕ) → a ≡ b → c ≡ d → ◌≡◌ {A = Counts} (record { live = a; serving = c }) (record { live = b; serving = d })
same_counts a b c d e f = cc

-- the counts of a row are exchanged with the parts: the parts of the cell's server and of the other party are exchanged
pub CanCorrect-put : (n : ℕ) (row : ℕ → Cell) (down : ℕ → Bool) (v : ℕ) (next : Cell) (counts before after : Counts) → n ≤ MOST_SERVERS → v < n →
    IsKnownCell n (row v) → IsKnownCell n next → (is_forwarding (row v) && is_forwarding next) ≡ false →
    counts ≡ counts_in n row down →
    before ≡ counts_at row down v (party_of (row v) next v) →
    after ≡ counts_at (put row v next) down v (party_of (row v) next v) →
    CanCorrect counts before after × (corrected counts before after ≡ counts_in n (put row v next) down)
CanCorrect-put n row down v next counts before after b l h k o e d a =
    let now : ℕ → Cell = put row v next in
    let p : ℕ = party_of (row v) next v in
    let al : after.live ≡ (counts_at now down v p).live = ap (λ (q : Counts). q.live) a in
    let ase : after.serving ≡ (counts_at now down v p).serving = ap (λ (q : Counts). q.serving) a in
    let bl : before.live ≡ (counts_at row down v p).live = ap (λ (q : Counts). q.live) d in
    let bs : before.serving ≡ (counts_at row down v p).serving = ap (λ (q : Counts). q.serving) d in
    let cl : counts.live ≡ live_in n row down = ap (λ (q : Counts). q.live) e in
    let cs : counts.serving ≡ serving_in n row = ap (λ (q : Counts). q.serving) e in
    let live : live_in n row down + (counts_at now down v p).live ≡ live_in n now down + (counts_at row down v p).live = live_in-put n row down v next l h k o in
    let serving : serving_in n row + (counts_at now down v p).serving ≡ serving_in n now + (counts_at row down v p).serving = serving_in-put n row down v next l h k o in
    let few : (counts_at now down v p).live ≤ 2 = at_both-le (is_live now down) v p in
    let few' : (counts_at now down v p).serving ≤ 2 = at_both-le (serves now) v p in
    let most : live_in n row down ≤ n = count-le n (is_live row down) in
    let most' : serving_in n row ≤ n = count-le n (serves row) in (
      record { live = omega arith; serving = omega arith; live_fits = omega arith; serving_fits = omega arith },
      same_counts (counts.live + after.live - before.live) (live_in n now down) (counts.serving + after.serving - before.serving) (serving_in n now) (omega arith) (omega arith),
    )

-- the same, from what each step of the code gives: the row that is read, the old cell, the other party, and the row that is there then
pub CanCorrect-steps : (n : ℕ) (row read now : ℕ → Cell) (down : ℕ → Bool) (v u : ℕ) (old next : Cell) (counts before after : Counts) → n ≤ MOST_SERVERS → v < n →
    IsKnownCell n (row v) → IsKnownCell n next → (is_forwarding (row v) && is_forwarding next) ≡ false →
    counts ≡ counts_in n row down →
    read ≡ row → now ≡ put row v next →
    old ≡ read v → u ≡ party_of old next v →
    before ≡ counts_at read down v u →
    after ≡ counts_at now down v u →
    CanCorrect counts before after × (corrected counts before after ≡ counts_in n (put row v next) down)
CanCorrect-steps n row read now down v u old next counts before after b l h k o e re ne oe ue d a =
    let f : u ≡ party_of (row v) next v = ue ∙ ap (λ (x : Cell). party_of x next v) (oe ∙ ap (λ (g : ℕ → Cell). g v) re) in
    CanCorrect-put n row down v next counts before after b l h k o e
    (d ∙ ap (λ (g : ℕ → Cell). counts_at g down v u) re ∙ ap (λ (w : ℕ). counts_at row down v w) f)
    (a ∙ ap (λ (g : ℕ → Cell). counts_at g down v u) ne ∙ ap (λ (w : ℕ). counts_at (put row v next) down v w) f)

-- a server that comes up or goes down: only its own replica counts or stops to count
pub live_in-toggle : (n : ℕ) (row : ℕ → Cell) (down : ℕ → Bool) (v : ℕ) (b : Bool) → v < n → down v ≡ not b →
    live_in n row (put down v b) + part_of (not b) (has_replica row v) ≡ live_in n row down + part_of b (has_replica row v)
live_in-toggle n row down v b l e =
    sum_apart n (λ q. bit (is_live row (put down v b) q)) (λ q. bit (is_live row down q)) v (part_of (not b) (has_replica row v)) (part_of b (has_replica row v)) l
    (λ q d. ap (λ c. bit (not c && has_replica row q)) (put-apart down v b q d))
    (let x : bit (is_live row (put down v b) v) ≡ part_of b (has_replica row v) = ap (λ c. part_of c (has_replica row v)) (put-here down v b v refl) in
    let y : bit (is_live row down v) ≡ part_of (not b) (has_replica row v) = ap (λ c. part_of c (has_replica row v)) e in
    omega arith)

-- a server's part is among the live replicas of a row
pub part_within : (n : ℕ) (row : ℕ → Cell) (down : ℕ → Bool) (v : ℕ) (b : Bool) → v < n → down v ≡ b → part_of b (has_replica row v) ≤ live_in n row down
part_within n row down v b l e =
    let x : bit (is_live row down v) ≤ live_in n row down = part_of_sum n (λ q. bit (is_live row down q)) v l in
    let y : bit (is_live row down v) ≡ part_of b (has_replica row v) = ap (λ c. part_of c (has_replica row v)) e in
    omega arith

-- ---- who has a replica, in a row with one cell changed ----

-- where only two entries of a column differ from what they should be, setting these two is enough
set_two : (held : ℕ → ℕ → Bool) (v u s : ℕ) (has : ℕ → Bool) → ((q : ℕ) → q ≢ v → q ≢ u → held q s ≡ has q) → put2 (put2 held v s (has v)) u s (has u) ≡ (λ q. put (held q) s (has q))
set_two held v u s has others = fun_ext (λ q. fun_ext (λ r. at q r))
  where
    first : ℕ → ℕ → Bool
    first = put2 held v s (has v)

    first_here : (q : ℕ) → q ≢ u → first q s ≡ has q
    first_here q d = elim (cases_eq q v) [
      | inl e ↦ rw e (put2-here held v s (has v))
      | inr e ↦ put2-apart held v s (has v) q s e ∙ others q e d
    ]

    first_beside : (q r : ℕ) → r ≢ s → first q r ≡ held q r
    first_beside q r d = elim (cases_eq q v) [
      | inl e ↦ rw e (put2-row held v s (has v) r d)
      | inr e ↦ put2-apart held v s (has v) q r e
    ]

    here : (q : ℕ) → put2 first u s (has u) q s ≡ has q
    here q = elim (cases_eq q u) [
      | inl e ↦ rw e (put2-here first u s (has u))
      | inr e ↦ put2-apart first u s (has u) q s e ∙ first_here q e
    ]

    beside : (q r : ℕ) → r ≢ s → put2 first u s (has u) q r ≡ held q r
    beside q r d = elim (cases_eq q u) [
      | inl e ↦ rw e (put2-row first u s (has u) r d ∙ first_beside u r d)
      | inr e ↦ put2-apart first u s (has u) q r e ∙ first_beside q r d
    ]

    at : (q r : ℕ) → put2 first u s (has u) q r ≡ put (held q) s (has q) r
    at q r = elim (cases_eq r s) [
      | inl e ↦ ap (λ k. put2 first u s (has u) q k) e ∙ here q ∙ sym (put-here (held q) s (has q) r e)
      | inr e ↦ beside q r e ∙ sym (put-apart (held q) s (has q) r e)
    ]

-- the other party is a known server, from what each step of the code gives
pub party_of-steps : (n : ℕ) (row read : ℕ → Cell) (v u : ℕ) (old next : Cell) → v < n → IsKnownCell n (row v) → IsKnownCell n next → read ≡ row → old ≡ read v → u ≡ party_of old next v → u < n
party_of-steps n row read v u old next l h k re oe ue =
    subst (λ (w : ℕ). w < n) (sym (ue ∙ ap (λ (x : Cell). party_of x next v) (oe ∙ ap (λ (g : ℕ → Cell). g v) re))) (party_of-known n (row v) next v l h k)

-- The entries of the cell's server and of the other party are set, from what each step of the code gives: the old cell, the
-- other party, the row that is there then, and the entries that are set by it.
pub held-steps : (row read now : ℕ → Cell) (v u s k : ℕ) (old next : Cell) (held after : ℕ → ℕ → Bool) → (is_forwarding (row v) && is_forwarding next) ≡ false →
    ((q : ℕ) → held q s ≡ has_replica row q) →
    read ≡ row → now ≡ put row v next →
    old ≡ read v → u ≡ party_of old next v → k ≡ s →
    after ≡ put2 (put2 held v k (has_replica now v)) u k (has_replica now u) →
    after ≡ (λ q. put (held q) s (has_replica (put row v next) q))
held-steps row read now v u s k old next held after o h re ne oe ue ke ae =
    let f : u ≡ party_of (row v) next v = ue ∙ ap (λ (x : Cell). party_of x next v) (oe ∙ ap (λ (g : ℕ → Cell). g v) re) in
    ae ∙ ap (λ (i : ℕ). put2 (put2 held v i (has_replica now v)) u i (has_replica now u)) ke ∙ ap (λ (g : ℕ → Cell). put2 (put2 held v s (has_replica g v)) u s (has_replica g u)) ne
    ∙ set_two held v u s (has_replica (put row v next))
    (λ q d m. let p = party_of-apart (row v) next v q o d (λ e. m (e ∙ sym f)) in h q ∙ sym (has_replica-put row v next q d p.0 p.1))
