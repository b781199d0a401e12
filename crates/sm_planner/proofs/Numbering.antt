-- Regions by numbers: in which of them servers lie that pass, one server further.
use Rattle.std.proofs.Common.{◌≡◌, ◌<◌, ◌≤◌, ◌+◌, ◌∙◌, inl, inr, ℕ, zero, suc, Bool, true, false, ◌&&◌, ◌||◌, ◌==◌, List, [], ◌∷◌, ◌++◌, length, get_or, set, sym, ap, subst, refl, arith, add-one}
use Rattle.std.specs.Prelude.{not}
use Rattle.std.specs.Bool.{Decides}
use Rattle.std.proofs.lemmas.Bool.{cases_Bool, cases_eq, cases_lt, eq-eqb, ne_eqb, both_ways, or_parts}
use Rattle.std.proofs.lemmas.Slice.Eq.{bytes_eq-Decides}
use Rattle.std.proofs.lemmas.List.{get_or-set_same, get_or-set_other, get_or_append_left}
use Rattle.std.proofs.Math.Seq.{get_or-append_seam}
use Rattle.sm_placement.specs.Sums.{count_below, any_below, bit}
use Rattle.sm_placement.specs.Setup.{Setup, no_server}
use Rattle.sm_placement.proofs.Searches.{any_none, any_none_from, count_none}
use Rattle.sm_placement.proofs.Sums.{sum_apart}
use Rattle.sm_planner.specs.Spread.{same_region, region_count}
use Rattle.sm_planner.specs.Regions.{IsRegionOf, AreRegions, IsOccupied, is_occupied}
use Rattle.sm_planner.proofs.Regions.{same_any, same_regions}

-- ---- numbers

abbrev region_at : Setup → ℕ → List ℕ
region_at setup v = (get_or setup.servers v no_server).region

same_decides : (setup : Setup) (u v : ℕ) → Decides (same_region setup u v) (region_at setup u ≡ region_at setup v)
same_decides setup u v = bytes_eq-Decides (region_at setup u) (region_at setup v)

-- of two servers of one region the region's number is not below the other one's
not_below : (setup : Setup) (u v r s : ℕ) → IsRegionOf setup u r → IsRegionOf setup v s → region_at setup u ≡ region_at setup v → s ≤ r
not_below setup u v r s one other e = elim (cases_lt r s) [
  | inl l ↦
      let same : region_at setup r ≡ region_at setup u = (same_decides setup r u).0 one.same in
      absurd (both_ways (same_region setup r v) (other.lowest r l) ((same_decides setup r v).1 (same ∙ e)))
  | inr l ↦ l
]

-- two servers have one region exactly where its numbers are the same
numbers_alike : (setup : Setup) (u v r s : ℕ) → IsRegionOf setup u r → IsRegionOf setup v s → (r == s) ≡ same_region setup u v
numbers_alike setup u v r s one other = elim (cases_Bool (same_region setup u v)) [
  | inl e ↦
      let same : region_at setup u ≡ region_at setup v = (same_decides setup u v).0 e in
      let low : s ≤ r = not_below setup u v r s one other same in
      let high : r ≤ s = not_below setup v u s r other one (sym same) in
      eq-eqb r s (omega arith) ∙ sym e
  | inr e ↦ ne_eqb r s (λ d.
      let from : region_at setup u ≡ region_at setup r = sym ((same_decides setup r u).0 one.same) in
      let to : region_at setup s ≡ region_at setup v = (same_decides setup s v).0 other.same in
      both_ways (same_region setup u v) e ((same_decides setup u v).1 (from ∙ ap (region_at setup) d ∙ to))) ∙ sym e
]

-- a server is the number of its region, where the lower ones stand in others
pub own_region : (setup : Setup) (v r : ℕ) → r ≡ v → ((u : ℕ) → u < v → same_region setup u v ≡ false) → IsRegionOf setup v r
own_region setup v r e apart = record {
  within = omega arith;
  same = ap (λ k. same_region setup k v) e ∙ (same_decides setup v v).1 refl;
  lowest = λ u l. apart u (omega arith);
}

-- a number for one server more
pub regions_pushed : (setup : Setup) (old new : List ℕ) (n r : ℕ) → new ≡ old ++ r ∷ [] → IsRegionOf setup n r → length old ≡ n → ((v : ℕ) → v < n → IsRegionOf setup v (get_or old v 0)) → (v : ℕ) → v < n + 1 →
    IsRegionOf setup v (get_or new v 0)
regions_pushed setup old new n r e is long each v l = elim (cases_eq v n) [
  | inl d ↦
      let at : get_or new v 0 ≡ r = ap (λ k. get_or new k 0) (d ∙ sym long) ∙ ap (λ xs. get_or xs (length old) 0) e ∙ get_or-append_seam old r [] 0 in
      subst (λ x. IsRegionOf setup v x) (sym at) (subst (λ k. IsRegionOf setup k r) (sym d) is)
  | inr d ↦ subst (λ x. IsRegionOf setup v x) (sym (ap (λ xs. get_or xs v 0) e ∙ get_or_append_left old (r ∷ []) 0 v (omega arith))) (each v (omega arith))
]

-- the lowest servers are numbers of the regions
pub are_regions : (setup : Setup) (regions : List ℕ) → length regions ≡ length setup.servers → ((v : ℕ) → v < length setup.servers → IsRegionOf setup v (get_or regions v 0)) → AreRegions setup regions
are_regions setup regions wide each = record {
  wide = wide;
  known = λ v l. let r = (each v l).within in omega arith;
  alike = λ u v l m. numbers_alike setup u v (get_or regions u 0) (get_or regions v 0) (each u l) (each v m);
}

-- ---- regions in which servers lie that pass

-- the lowest of the servers that pass in its region
abbrev pub lowest : Setup → (ℕ → Bool) → ℕ → Bool
lowest setup has v = has v && not (any_below v (λ u. has u && same_region setup u v))

other_region : (x y z : Bool) → y ≡ false → ((x && y) || z) ≡ z
other_region true y z e = rw e refl
other_region false y z e = refl

this_region : (x y z : Bool) → y ≡ true → bit ((x && y) || z) + 0 ≡ bit z + bit (x && not z)
this_region true y true e = rw e refl
this_region true y false e = rw e refl
this_region false y true e = refl
this_region false y false e = refl

module _ (setup : Setup) (regions : List ℕ) (are : AreRegions setup regions) (has : ℕ → Bool) where
  -- a server is the lowest of its region that passes, where the region has no number so far
  lowest_is : (n : ℕ) → n < length setup.servers → lowest setup has n ≡ (has n && not (is_occupied regions has n (get_or regions n 0)))
  lowest_is n l = ap (λ x. has n && not x)
      (same_any n (λ u. has u && same_region setup u n) (λ u. has u && (get_or regions u 0 == get_or regions n 0)) (λ k m. ap (λ x. has k && x) (sym (are.alike k n (omega arith) l))))

  pub count_further : (n : ℕ) → n < length setup.servers →
      count_below (n + 1) (lowest setup has) ≡ count_below n (lowest setup has) + bit (has n && not (is_occupied regions has n (get_or regions n 0)))
  count_further n l = ap (λ k. count_below k (lowest setup has)) (add-one n) ∙ ap (λ x. count_below n (lowest setup has) + bit x) (lowest_is n l)

  -- the lowest servers of regions are as many as their numbers
  counted : (n : ℕ) → n ≤ length setup.servers → count_below n (lowest setup has) ≡ count_below (length setup.servers) (is_occupied regions has n)
  counted zero l = sym (count_none (length setup.servers) (is_occupied regions has 0) (λ k m. refl))
  counted (suc n) l =
      let k : ℕ = get_or regions n 0 in
      let before : count_below n (lowest setup has) ≡ count_below (length setup.servers) (is_occupied regions has n) = counted n (omega arith) in
      let here : bit (lowest setup has n) ≡ bit (has n && not (is_occupied regions has n k)) = ap bit (lowest_is n (omega arith)) in
      let more : count_below (length setup.servers) (is_occupied regions has (suc n)) + 0 ≡ count_below (length setup.servers) (is_occupied regions has n) + bit (has n && not (is_occupied regions has n k)) =
      sum_apart (length setup.servers) (λ r. bit (is_occupied regions has (suc n) r)) (λ r. bit (is_occupied regions has n r)) k 0 (bit (has n && not (is_occupied regions has n k))) (are.known n (omega arith))
      (λ j d. ap bit (other_region (has n) (k == j) (is_occupied regions has n j) (ne_eqb k j (λ e. d (sym e)))))
      (this_region (has n) (k == k) (is_occupied regions has n k) (eq-eqb k k refl)) in
      omega arith

-- with one server more that passes, its region is one in which servers lie
occupied_with : (regions : List ℕ) (has : ℕ → Bool) (to n r : ℕ) → to < n →
    is_occupied regions (λ w. (w == to) || has w) n r ≡ ((get_or regions to 0 == r) || is_occupied regions has n r)
occupied_with regions has to n r l = elim (cases_Bool ((get_or regions to 0 == r) || is_occupied regions has n r)) [
  | inl e ↦ elim (cases_Bool (is_occupied regions (λ w. (w == to) || has w) n r)) [
    | inl d ↦ d ∙ sym e
    | inr d ↦ absurd (
        let none = any_none n (λ w. ((w == to) || has w) && (get_or regions w 0 == r)) d in
        let this : (get_or regions to 0 == r) ≡ false = sym (ap (λ x. (x || has to) && (get_or regions to 0 == r)) (eq-eqb to to refl)) ∙ none to l in
        let others : is_occupied regions has n r ≡ false = any_none_from n (λ w. has w && (get_or regions w 0 == r)) (λ w m. weaker (w == to) (has w) (get_or regions w 0 == r) (none w m)) in
        both_ways ((get_or regions to 0 == r) || is_occupied regions has n r) (neither (get_or regions to 0 == r) (is_occupied regions has n r) this others) e)
  ]
  | inr e ↦
      let both = or_parts (get_or regions to 0 == r) (is_occupied regions has n r) e in
      let none = any_none n (λ w. has w && (get_or regions w 0 == r)) both.1 in
      any_none_from n (λ w. ((w == to) || has w) && (get_or regions w 0 == r)) (λ w m. elim (cases_eq w to) [
        | inl d ↦ ap (λ x. ((w == to) || has w) && (get_or regions x 0 == r)) d ∙ ap (λ x. ((w == to) || has w) && x) both.0 ∙ never ((w == to) || has w)
        | inr d ↦ ap (λ x. (x || has w) && (get_or regions w 0 == r)) (ne_eqb w to d) ∙ none w m
      ]) ∙ sym e
]
  where
    weaker : (x y z : Bool) → ((x || y) && z) ≡ false → (y && z) ≡ false
    weaker true true z e = e
    weaker true false z e = refl
    weaker false y z e = e

    neither : (x y : Bool) → x ≡ false → y ≡ false → (x || y) ≡ false
    neither x y e d = rw (e, d) refl

    never : (x : Bool) → (x && false) ≡ false
    never true = refl
    never false = refl

-- with one server more that passes they lie in one region more, or in as many where its region is one of them
pub count_with_one : (setup : Setup) (regions : List ℕ) → AreRegions setup regions → (has : ℕ → Bool) (to : ℕ) → to < length setup.servers →
    region_count setup (λ w. (w == to) || has w) ≡ region_count setup has + bit (not (is_occupied regions has (length setup.servers) (get_or regions to 0)))
count_with_one setup regions are has to l =
    let n : ℕ = length setup.servers in
    let k : ℕ = get_or regions to 0 in
    let more : ℕ → Bool = λ w. (w == to) || has w in
    let before : region_count setup has ≡ count_below n (is_occupied regions has n) = counted setup regions are has n (omega arith) in
    let after : region_count setup more ≡ count_below n (is_occupied regions more n) = counted setup regions are more n (omega arith) in
    let apart : count_below n (is_occupied regions more n) + 0 ≡ count_below n (is_occupied regions has n) + bit (not (is_occupied regions has n k)) =
    sum_apart n (λ r. bit (is_occupied regions more n r)) (λ r. bit (is_occupied regions has n r)) k 0 (bit (not (is_occupied regions has n k))) (are.known to l)
    (λ j d. ap bit (occupied_with regions has to n j l ∙ ap (λ x. x || is_occupied regions has n j) (ne_eqb k j (λ e. d (sym e)))))
    (ap (λ x. bit x + 0) (occupied_with regions has to n k l ∙ ap (λ x. x || is_occupied regions has n k) (eq-eqb k k refl)) ∙ filled (is_occupied regions has n k)) in
    omega arith
  where
    filled : (x : Bool) → bit true + 0 ≡ bit x + bit (not x)
    filled true = refl
    filled false = refl

-- servers that pass either of two tests that agree lie in the same regions
pub occupied_same : (setup : Setup) (regions : List ℕ) (f g : ℕ → Bool) (marks : List Bool) (count : ℕ) → ((v : ℕ) → v < length setup.servers → f v ≡ g v) → IsOccupied setup regions f marks count → IsOccupied setup regions g marks count
occupied_same setup regions f g marks count h is = record {
  wide = is.wide;
  marked = λ r l. is.marked r l ∙ same_any (length setup.servers) (λ u. f u && (get_or regions u 0 == r)) (λ u. g u && (get_or regions u 0 == r)) (λ u m. ap (λ x. x && (get_or regions u 0 == r)) (h u m));
  count = is.count ∙ same_regions setup f g h;
  few = is.few;
}

-- ---- marks

-- a region is marked, where it is one that has no mark
pub mark_entered : (old : List Bool) (region r : ℕ) (is_there : Bool) → region < length old → is_there ≡ true →
    get_or (set old region true) r false ≡ ((is_there && (region == r)) || get_or old r false)
mark_entered old region r is_there l e = elim (cases_eq r region) [
  | inl d ↦
      let marked : get_or (set old region true) r false ≡ true = ap (λ k. get_or (set old region true) k false) d ∙ get_or-set_same old region true false l in
      marked ∙ sym (rw (e, eq-eqb region r (sym d)) refl)
  | inr d ↦ get_or-set_other old region r true false d ∙ sym (rw (e, ne_eqb region r (λ q. d (sym q))) refl)
]

-- the marks stay, where it has one
pub mark_stands : (old : List Bool) (region r : ℕ) (is_there : Bool) → get_or old region false ≡ true → get_or old r false ≡ ((is_there && (region == r)) || get_or old r false)
mark_stands old region r false e = refl
mark_stands old region r true e = elim (cases_eq r region) [
  | inl d ↦ ap (λ k. get_or old k false) d ∙ e ∙ sym (ap (λ x. x || get_or old r false) (eq-eqb region r (sym d)))
  | inr d ↦ sym (ap (λ x. x || get_or old r false) (ne_eqb region r (λ q. d (sym q))))
]

-- ---- one server further

-- the regions in which servers lie that pass, where one more is entered
pub occupied_further : (regions : List ℕ) (has : ℕ → Bool) (n region : ℕ) (is_there : Bool) (old new : List Bool) (r : ℕ) → is_there ≡ has n → region ≡ get_or regions n 0 →
    get_or new r false ≡ ((is_there && (region == r)) || get_or old r false) → get_or old r false ≡ is_occupied regions has n r → get_or new r false ≡ is_occupied regions has (n + 1) r
occupied_further regions has n region is_there old new r there at entered before =
    entered ∙ rw (there, at, before) refl ∙ ap (λ k. is_occupied regions has k r) (sym (add-one n))

-- how many they are, where one more is entered
pub count_entered : (setup : Setup) (regions : List ℕ) → AreRegions setup regions → (has : ℕ → Bool) (n region count later : ℕ) (is_there : Bool) (old : List Bool) → n < length setup.servers →
    is_there ≡ has n → region ≡ get_or regions n 0 → get_or old (get_or regions n 0) false ≡ is_occupied regions has n (get_or regions n 0) → later ≡ count + bit (is_there && not (get_or old region false)) →
    count ≡ count_below n (lowest setup has) → later ≡ count_below (n + 1) (lowest setup has)
count_entered setup regions are has n region count later is_there old l there at before entered is =
    let more = count_further setup regions are has n l in
    entered ∙ rw (there, at, before, is) (sym more)

-- how many regions they are with one server more, by the marks
pub counted_with : (setup : Setup) (regions : List ℕ) → AreRegions setup regions → (has : ℕ → Bool) (marks : List Bool) (total to region count : ℕ) → IsOccupied setup regions has marks total →
    to < length setup.servers → region ≡ get_or regions to 0 → count ≡ total + bit (not (get_or marks region false)) → count ≡ region_count setup (λ w. (w == to) || has w)
counted_with setup regions are has marks total to region count is l at e =
    let marked : get_or marks region false ≡ is_occupied regions has (length setup.servers) (get_or regions to 0) = ap (λ k. get_or marks k false) at ∙ is.marked (get_or regions to 0) (are.known to l) in
    e ∙ ap (λ k. k + bit (not (get_or marks region false))) is.count ∙ ap (λ x. region_count setup has + bit (not x)) marked ∙ sym (count_with_one setup regions are has to l)
