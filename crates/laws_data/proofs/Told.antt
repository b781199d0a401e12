-- Whom a primary counts, by what it has heard.
use Rattle.std.proofs.Common.{◌≡◌, ℕ, zero, suc, ◌+◌, ◌<◌, ◌≤◌, ◌==◌, Bool, true, false, not, ◌&&◌, leb-true, List, ◌∷◌, cond, count_by, length, refl, sym, ap, ◌∙◌, subst, arith, inl, inr, if◌then◌else◌}
use Rattle.std.specs.Prelude.{nat_le, nat_lt}
use Rattle.std.proofs.lemmas.Bool.{and_from, and_parts, both_ways, cases_Bool, eq-eqb, eqb-true, ltb-true}
use Rattle.sm_placement.specs.Sums.{bit, count_below}
use Rattle.sm_copies.specs.declared.order.ToldCopy.{ToldCopy}
use Rattle.sm_copies.specs.Counting.{counts}
use Rattle.sm_copies.specs.Lists.{ListEntry, begins, view_of}
use Rattle.sm_copies.proofs.Counts.{count-step}
use Rattle.laws_data.specs.Shard.{HasHeardEnough, HasPrimary, Shard, lacks, told, told_below}
use Rattle.laws_data.proofs.Lists.{lacks-nothing}
use Rattle.laws_data.proofs.Counts.{count-more, count-one-more}
use Rattle.laws_data.proofs.Invariant.{IsKept, primary-front}

-- of whom a beginning of the primary's list was heard in its view, that has it
heard-has : (w : Shard) → IsKept w → HasPrimary w → (list : List ListEntry) → begins list (w.lists w.view) ≡ true → (s : ℕ) → (w.heard s).view ≡ w.view →
    length list ≤ (w.heard s).position → not (lacks list (w.copies s)) ≡ true
heard-has w k p list b s v l = lacks-nothing list (w.copies s) (λ copy e. ((k.heard s).has p v).part copy list e b l)

-- of whom something was heard in its view, and whom the primary counts, that is a replica which stays
heard-stays : (w : Shard) → IsKept w → HasPrimary w → (s : ℕ) → (w.heard s).view ≡ w.view → w.known s ≡ true → (w.replicas s && not (w.leaving s)) ≡ true
heard-stays w k p s v known = elim (cases_Bool (w.leaving s)) [
  | inl l ↦ absurd (both_ways (w.known s && w.leaving s) ((k.heard s).has p v).there (and_from (w.known s) (w.leaving s) known l))
  | inr l ↦ and_from (w.replicas s) (not (w.leaving s)) (k.member s known l) (ap not l)
]

adds : (b : Bool) → cond b 1 0 ≡ bit b
adds true = refl
adds false = refl

count-kept : (test : ToldCopy → Bool) (b : Bool) (c : ToldCopy) (cs : List ToldCopy) → count_by test (if b then c ∷ cs else cs) ≡ bit (b && test c) + count_by test cs
count-kept test true c cs =
    let n : count_by test (c ∷ cs) ≡ cond (test c) 1 0 + count_by test cs = count-step test c cs in
    let m : cond (test c) 1 0 ≡ bit (test c) = adds (test c) in
    omega arith
count-kept test false c cs = omega arith

-- a count of what was heard counts servers
count-told : (w : Shard) (test : ToldCopy → Bool) (n : ℕ) →
    count_by test (told_below w n) ≡ count_below n (λ s. (w.known s && not (s == w.primary)) && test (w.heard s))
count-told w test zero = refl
count-told w test (suc n) =
    let i : count_by test (told_below w n) ≡ count_below n (λ s. (w.known s && not (s == w.primary)) && test (w.heard s)) = count-told w test n in
    let m : count_by test (told_below w (suc n)) ≡ bit ((w.known n && not (n == w.primary)) && test (w.heard n)) + count_by test (told_below w n) =
    count-kept test (w.known n && not (n == w.primary)) (w.heard n) (told_below w n) in
    omega arith

none : (a b : Bool) → ((a && false) && b) ≡ false
none true b = refl
none false b = refl

not-itself : (a b : Bool) (n : ℕ) → ((a && not (n == n)) && b) ≡ false
not-itself a b n = subst (λ (c : Bool). ((a && not c) && b) ≡ false) (sym (eq-eqb n n refl)) (none a b)

-- If a primary has heard of enough, and counts itself if it is a replica that stays, enough pass.
enough-counted : (w : Shard) (itself : Bool) (needed : ℕ) (test : ToldCopy → Bool) (p : ℕ → Bool) →
    (if itself then needed else suc needed) ≤ suc (count_by test (told w)) →
    ((s : ℕ) → ((w.known s && not (s == w.primary)) && test (w.heard s)) ≡ true → p s ≡ true) →
    (itself ≡ true → (w.primary < w.servers) × (p w.primary ≡ true)) → needed ≤ count_below w.servers p
enough-counted w false needed test p e others own =
    let q = λ (s : ℕ). (w.known s && not (s == w.primary)) && test (w.heard s) in
    let c : count_by test (told w) ≡ count_below w.servers q = count-told w test w.servers in
    let m : count_below w.servers q ≤ count_below w.servers p = count-more w.servers q p others in
    let f : suc needed ≤ suc (count_by test (told w)) = e in
    omega arith
enough-counted w true needed test p e others own =
    let q = λ (s : ℕ). (w.known s && not (s == w.primary)) && test (w.heard s) in
    let o = own refl in
    let c : count_by test (told w) ≡ count_below w.servers q = count-told w test w.servers in
    let m : suc (count_below w.servers q) ≤ count_below w.servers p =
    count-one-more w.servers q p w.primary o.0 others (not-itself (w.known w.primary) (test (w.heard w.primary)) w.primary) o.1 in
    let f : needed ≤ suc (count_by test (told w)) = e in
    omega arith

-- who counts, and lacks nothing
counted-has : (r l : Bool) (o : Bool) → (r && l) ≡ true → o ≡ true → (r && (l && o)) ≡ true
counted-has r l o h e = (let a = and_parts r l h in and_from r (l && o) a.0 (and_from l o a.1 e))

-- If enough copies have a beginning of the primary's list, by what it has heard, as many replicas that stay lack nothing of it.
pub told-enough : (w : Shard) → IsKept w → (leaving known : ℕ → Bool) (needed : ℕ) (list : List ListEntry) → begins list (w.lists w.view) ≡ true →
    ((s : ℕ) → known s ≡ true → (w.known s ≡ true) × (leaving s ≡ w.leaving s)) → HasHeardEnough (record w { leaving = leaving; known = known }) needed (length list) →
    needed ≤ count_below w.servers (λ t. w.replicas t && (not (leaving t) && not (lacks list (w.copies t))))
told-enough w k leaving known needed list b only (source, is, have, there) =
    enough-counted (record w { leaving = leaving; known = known }) (nat_lt w.primary w.servers && (w.replicas w.primary && not (leaving w.primary))) needed
    (counts (view_of source) (length list)) (λ t. w.replicas t && (not (leaving t) && not (lacks list (w.copies t)))) have.1 others own
  where
    view : view_of source ≡ w.view
    view = ap view_of (primary-front w k there source is) ∙ k.own

    has : not (lacks list (w.copies w.primary)) ≡ true
    has = lacks-nothing list (w.copies w.primary) (λ copy q. subst (λ (ys : List ListEntry). begins list ys ≡ true) (sym (primary-front w k there copy q)) b)

    own : (nat_lt w.primary w.servers && (w.replicas w.primary && not (leaving w.primary))) ≡ true →
        (w.primary < w.servers) × ((w.replicas w.primary && (not (leaving w.primary) && not (lacks list (w.copies w.primary)))) ≡ true)
    own h =
        let a = and_parts (nat_lt w.primary w.servers) (w.replicas w.primary && not (leaving w.primary)) h in
        (ltb-true w.primary w.servers a.0, counted-has (w.replicas w.primary) (not (leaving w.primary)) (not (lacks list (w.copies w.primary))) a.1 has)

    others : (s : ℕ) → ((known s && not (s == w.primary)) && counts (view_of source) (length list) (w.heard s)) ≡ true →
        (w.replicas s && (not (leaving s) && not (lacks list (w.copies s)))) ≡ true
    others s h =
        let a = and_parts (known s && not (s == w.primary)) (counts (view_of source) (length list) (w.heard s)) h in
        let c = and_parts ((w.heard s).view == view_of source) (nat_le (length list) (w.heard s).position) a.1 in
        let e : (w.heard s).view ≡ view_of source = eqb-true (w.heard s).view (view_of source) c.0 in
        let l : length list ≤ (w.heard s).position = leb-true (length list) (w.heard s).position c.1 in
        let o = only s ((and_parts (known s) (not (s == w.primary)) a.0).0) in
        let stays : (w.replicas s && not (leaving s)) ≡ true =
        subst (λ (x : Bool). (w.replicas s && not x) ≡ true) (sym o.1) (heard-stays w k there s (e ∙ view) o.0) in
        counted-has (w.replicas s) (not (leaving s)) (not (lacks list (w.copies s))) stays (heard-has w k there list b s (e ∙ view) l)
