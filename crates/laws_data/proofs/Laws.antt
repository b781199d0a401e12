-- The laws, of all schedules.
use Rattle.std.proofs.Common.{◌≡◌, ℕ, ◌≤◌, Bool, true, false, not, ◌&&◌, List, [], ◌∷◌, Option, Some, None, refl, sym, subst, arith, inl, inr, if◌then◌else◌}
use Rattle.std.specs.List.{AllByRecursion}
use Rattle.std.proofs.lemmas.Bool.{and_from, false≢true}
use Rattle.sm_placement.specs.Sums.{count_below, put}
use Rattle.sm_placement.proofs.Sums.{put-apart}
use Rattle.sm_copies.specs.Lists.{ListEntry, begins, beginning, view_of}
use Rattle.sm_copies.proofs.Lists.{begins-self, begins-shorter, begins-through}
use Rattle.laws_data.specs.Shard.{Word, with_heard, MayHappenInTurn, Event, Acknowledges, Changes, Chooses, Copies, Ends, Executes, Follows, Goes, Hands, MayHappen, IsShardReached, Joins, Leave, Loses, Lowers, Raises, Releases, Removes, Restarts, Shard, Stays, Succeeds, Takes, Tells, Hears, left_by, lacks, names, new_shard, all_left}
use Rattle.laws_data.specs.Laws.{AcknowledgedWritesStay, EnoughHaveThem, GreatestHasAll}
use Rattle.laws_data.proofs.Lists.{lacks-nothing, put-cases}
use Rattle.laws_data.proofs.Counts.{count-more}
use Rattle.laws_data.proofs.Growth.{grown-copies, grown-lists}
use Rattle.laws_data.proofs.Events.{and-none, kept, unheard}
use Rattle.laws_data.proofs.Invariant.{AreCopies, AreLists, IsKept, greatest-has-all, is_away, primary-front, primary-has-all}

-- a new shard
new-kept : (servers : ℕ) (replicas : ℕ → Bool) (primary needed : ℕ) → needed ≤ count_below servers replicas → IsKept (new_shard servers replicas primary needed)
new-kept servers replicas primary needed enough =
    let none : AreLists (λ _. []) = record { matched = λ u xs b. b; views = λ u xs b. empty-view xs b } in
    let no-copies : AreCopies (λ _. []) (λ _. None) = λ s xs h. absurd (let e : None ≡ Some xs = h in cc) in
    let l : count_below servers replicas ≤ count_below servers (λ s. replicas s && (not false && not (lacks [] (put (λ _. None) primary (Some (beginning 0 ∷ [])) s)))) =
    count-more servers replicas (λ s. replicas s && (not false && not (lacks [] (put (λ _. None) primary (Some (beginning 0 ∷ [])) s)))) (λ s h.
    and_from (replicas s) (not false && not (lacks [] (put (λ _. None) primary (Some (beginning 0 ∷ [])) s))) h
    (lacks-nothing [] (put (λ _. None) primary (Some (beginning 0 ∷ [])) s) (λ copy q. refl))) in
    record {
      lists = grown-lists (λ _. []) none 0 [] (beginning 0) refl refl refl (omega arith);
      copies = grown-copies (λ _. []) none 0 [] (beginning 0) refl refl refl (omega arith) (λ _. None) primary no-copies;
      front = λ s xs lead h. elim (put-cases (λ _. None) primary (Some (beginning 0 ∷ [])) s (Some xs) h) [
        | inl p ↦ (let x : beginning 0 ∷ [] ≡ xs = cc in sym x)
        | inr p ↦ absurd (let e : None ≡ Some xs = p.1 in cc)
      ];
      earlier = λ s. omega arith;
      lost = λ s h. refl;
      unbegun = λ u l. put-apart (λ _. []) 0 (beginning 0 ∷ []) u (λ q. absurd (omega arith));
      present = omega arith;
      own = refl;
      below = omega arith;
      whole = λ u some low. refl;
      enough = omega arith;
      heard = λ t. unheard 0 0 (put (λ _. []) 0 (beginning 0 ∷ []) 0) (is_away replicas (λ _. false)) (put (λ _. None) primary (Some (beginning 0 ∷ []))) t
          (λ p z. and-none (replicas t));
      words = tt;
      member = λ t h l. h;
      first = λ z t. and-none (replicas t);
    }
  where
    empty-view : (xs : List ListEntry) → {u : ℕ} → begins xs [] ≡ true → view_of xs ≤ u
    empty-view [] b = omega arith
    empty-view (x ∷ xs) b = absurd (false≢true b)

-- a whole schedule keeps what holds
all-kept : (w : Shard) (es : List Event) → IsKept w → MayHappenInTurn w es → IsKept (all_left es w)
all-kept w [] k a = k
all-kept w (e ∷ es) k a = all-kept (left_by w e) es (kept w k e a.0) a.1

reached-kept : (w : Shard) → IsShardReached w → IsKept w
reached-kept w r = subst IsKept r.is (all-kept (new_shard r.servers r.replicas r.primary r.needed) r.events (new-kept r.servers r.replicas r.primary r.needed r.enough) r.allowed)

-- what is acknowledged stays so, unless the shard is named as lost
stays-acknowledged : (w : Shard) → IsKept w → (e : Event) → MayHappen w e → names e ≡ false → begins w.acknowledged (left_by w e).acknowledged ≡ true
stays-acknowledged w k (Executes write) a n = begins-self w.acknowledged
stays-acknowledged w k (Copies s) a n = begins-self w.acknowledged
stays-acknowledged w k (Follows s list) a n = begins-self w.acknowledged
stays-acknowledged w k (Tells s) a n = begins-self w.acknowledged
stays-acknowledged w k (Hears which) a n = subst (λ (o : Option Word). begins w.acknowledged (with_heard w o).acknowledged ≡ true) (sym a.1) (begins-self w.acknowledged)
stays-acknowledged w k (Acknowledges list) a n =
    begins-shorter w.acknowledged list a.0 (subst (λ (ys : List ListEntry). begins w.acknowledged ys ≡ true) (sym (primary-front w k a.8 a.0 a.2)) (primary-has-all w k)) a.3 a.5
stays-acknowledged w k (Joins s) a n = begins-self w.acknowledged
stays-acknowledged w k (Leave s) a n = begins-self w.acknowledged
stays-acknowledged w k (Goes s) a n = begins-self w.acknowledged
stays-acknowledged w k (Stays s) a n = begins-self w.acknowledged
stays-acknowledged w k (Loses s) a n = begins-self w.acknowledged
stays-acknowledged w k (Hands s) a n = begins-self w.acknowledged
stays-acknowledged w k (Restarts v) a n = begins-self w.acknowledged
stays-acknowledged w k (Raises needed) a n = begins-self w.acknowledged
stays-acknowledged w k (Lowers needed) a n = begins-self w.acknowledged
stays-acknowledged w k (Removes gone needed) a n = begins-self w.acknowledged
stays-acknowledged w k (Changes s v answered) a n = begins-self w.acknowledged
stays-acknowledged w k (Ends number) a n = begins-self w.acknowledged
stays-acknowledged w k (Succeeds s v former) a n = begins-self w.acknowledged
stays-acknowledged w k (Releases s others) a n = begins-self w.acknowledged
stays-acknowledged w k (Takes s source) a n = begins-self w.acknowledged
stays-acknowledged w k (Chooses c) a n = subst (λ (b : Bool). begins w.acknowledged (if b then [] else w.acknowledged) ≡ true) (sym n) (begins-self w.acknowledged)

all-acknowledged : (w : Shard) (es : List Event) → IsKept w → MayHappenInTurn w es → AllByRecursion (λ e. names e ≡ false) es → begins w.acknowledged (all_left es w).acknowledged ≡ true
all-acknowledged w [] k a n = begins-self w.acknowledged
all-acknowledged w (e ∷ es) k a n =
    begins-through w.acknowledged (left_by w e).acknowledged (all_left es (left_by w e)).acknowledged
    (stays-acknowledged w k e a.0 n.0)
    (all-acknowledged (left_by w e) es (kept w k e a.0) a.1 n.1)

-- acknowledged writes stay with the primary
pub acknowledged-writes-stay : AcknowledgedWritesStay
acknowledged-writes-stay w es copy r a n there is =
    let k : IsKept w = reached-kept w r in
    let l : IsKept (all_left es w) = all-kept w es k a in
    begins-through w.acknowledged (all_left es w).acknowledged copy (all-acknowledged w es k a n)
    (subst (λ (ys : List ListEntry). begins (all_left es w).acknowledged ys ≡ true) (sym (primary-front (all_left es w) l there copy is)) (primary-has-all (all_left es w) l))

-- enough replicas have them
pub enough-have-them : EnoughHaveThem
enough-have-them w r = (reached-kept w r).enough

-- the greatest copy has them
pub greatest-copy-has-all : GreatestHasAll
greatest-copy-has-all w answered successor copy r is greatest few = greatest-has-all w (reached-kept w r) answered successor copy is greatest few
