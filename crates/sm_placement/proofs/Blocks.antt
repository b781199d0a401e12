-- Blocks of parties: none at first, one more, and one party set.
use Rattle.std.proofs.Common.{◌≡◌, ◌≢◌, ℕ, ◌+◌, ◌-◌, ◌*◌, ◌/◌, ◌%◌, ◌<◌, ◌≤◌, List, [], ◌++◌, length, set, get_or, take, replicate, Option, Some, None, is_some, refl, sym, ap, ◌∙◌, arith, inl, inr}
use Rattle.std.proofs.Math.Path.{fun_ext}
use Rattle.std.proofs.lemmas.Bool.{cases_eq, cases_lt}
use Rattle.std.proofs.lemmas.List.{length-set, length-replicate, length-append, get_or_append_left, get_or-append_right, get_or-replicate, take_all}
use Rattle.std.proofs.lemmas.Option.{none-some, same_Some}
use Rattle.sm_placement.specs.declared.parties.Party.{Party}
use Rattle.sm_placement.specs.Sums.{put, bit, count_below}
use Rattle.sm_placement.specs.Layout.{entries_of}
use Rattle.sm_placement.specs.Parties.{PartiesModel, no_party, party_in, party_at, IsBlocks}
use Rattle.sm_placement.proofs.Sums.{put-here, put-apart, sum_apart, sum_zero, count-le}
use Rattle.sm_placement.proofs.GridLemmas.{entries_of-is, entries_of-set, entries_of-empty, entries_of-past, entries_of-read}

-- a block that was not written
abbrev unwritten : Option ℕ
unwritten = None

no_block : (n b : ℕ) → entries_of unwritten (replicate n unwritten) b ≡ unwritten
no_block n b = ap (λ (f : ℕ → Option ℕ). f b) (entries_of-empty unwritten n)

-- blocks of which none is written have no parties
pub IsBlocks-empty : (n : ℕ) → IsBlocks (replicate n None) []
IsBlocks-empty n = record {
  written = let e : count_below (length (replicate n unwritten)) (λ b. is_some (entries_of None (replicate n unwritten) b)) ≡ 0 =
      sum_zero (length (replicate n unwritten)) (λ b. bit (is_some (entries_of None (replicate n unwritten) b))) (λ b. ap (λ (o : Option ℕ). bit (is_some o)) (no_block n b)) in omega arith;
  within = λ b x e. absurd (none-some x (sym (no_block n b) ∙ e));
  apart = λ b d x y i j e f l m s. absurd (none-some x (sym (no_block n b) ∙ e));
}

-- a block that begins at the list's end
module _ (starts : List (Option ℕ)) (parties : List Party) (block : ℕ) (h : IsBlocks starts parties) (l : block < length starts) (none : entries_of None starts block ≡ None) where
  abbrev now : List (Option ℕ)
  now = set starts block (Some (length parties))

  -- it stands where the list ended
  pub block_here : entries_of None now block ≡ Some (length parties)
  block_here = ap (λ (f : ℕ → Option ℕ). f block) (entries_of-set None starts block (Some (length parties)) l) ∙ put-here (entries_of None starts) block (Some (length parties)) block refl

  beside : (b : ℕ) → b ≢ block → entries_of None now b ≡ entries_of None starts b
  beside b d = ap (λ (f : ℕ → Option ℕ). f b) (entries_of-set None starts block (Some (length parties)) l) ∙ put-apart (entries_of None starts) block (Some (length parties)) b d

  counted : count_below (length starts) (λ b. is_some (entries_of None now b)) ≡ count_below (length starts) (λ b. is_some (entries_of None starts b)) + 1
  counted =
      let e : count_below (length starts) (λ b. is_some (entries_of None now b)) + 0 ≡ count_below (length starts) (λ b. is_some (entries_of None starts b)) + 1 =
      sum_apart (length starts) (λ b. bit (is_some (entries_of None now b))) (λ b. bit (is_some (entries_of None starts b))) block 0 1 l (λ b d. ap (λ (o : Option ℕ). bit (is_some o)) (beside b d)) (rw (block_here, none) refl) in
      omega arith

  -- there is room for it
  pub block_fits : length parties + 256 ≤ length starts * 256
  block_fits =
      let few : count_below (length starts) (λ b. is_some (entries_of None now b)) ≤ length starts = count-le (length starts) (λ b. is_some (entries_of None now b)) in
      let w : length parties ≡ count_below (length starts) (λ b. is_some (entries_of None starts b)) * 256 = h.written in
      let e = counted in
      omega arith

  abbrev after : List Party
  after = parties ++ replicate 256 no_party

  longer : length (parties ++ replicate 256 no_party) ≡ length parties + 256
  longer = length-append parties (replicate 256 no_party) ∙ ap (λ (k : ℕ). length parties + k) (length-replicate 256 no_party)

  start_of : (b x : ℕ) → entries_of None now b ≡ Some x → (b ≢ block → entries_of None starts b ≡ Some x)
  start_of b x e d = sym (beside b d) ∙ e

  -- with it each block that was written stands in the list, beside no other
  pub IsBlocks-more : IsBlocks (set starts block (Some (length parties))) (parties ++ replicate 256 no_party)
  IsBlocks-more = record {
    written =
        let w : length parties ≡ count_below (length starts) (λ b. is_some (entries_of None starts b)) * 256 = h.written in
        let e = counted in
        let n : length now ≡ length starts = length-set starts block (Some (length parties)) in
        let c : count_below (length now) (λ b. is_some (entries_of None now b)) ≡ count_below (length starts) (λ b. is_some (entries_of None now b)) = ap (λ (k : ℕ). count_below k (λ b. is_some (entries_of None now b))) n in
        let z = longer in
        omega arith;
    within = λ b x e. elim (cases_eq b block) [
      | inl d ↦ let s : length parties ≡ x = same_Some (length parties) x (sym block_here ∙ ap (entries_of None now) (sym d) ∙ e) in let z = longer in omega arith
      | inr d ↦ let w : x + 256 ≤ length parties = h.within b x (start_of b x e d) in let z = longer in omega arith
    ];
    apart = λ b d x y i j e f li lj s. elim (cases_eq b block) [
      | inl p ↦ elim (cases_eq d block) [
        | inl q ↦ p ∙ sym q
        | inr q ↦
            let a : length parties ≡ x = same_Some (length parties) x (sym block_here ∙ ap (entries_of None now) (sym p) ∙ e) in
            let w : y + 256 ≤ length parties = h.within d y (start_of d y f q) in
            absurd (omega arith)
      ]
      | inr p ↦ elim (cases_eq d block) [
        | inl q ↦
            let a : length parties ≡ y = same_Some (length parties) y (sym block_here ∙ ap (entries_of None now) (sym q) ∙ f) in
            let w : x + 256 ≤ length parties = h.within b x (start_of b x e p) in
            absurd (omega arith)
        | inr q ↦ h.apart b d x y i j (start_of b x e p) (start_of d y f q) li lj s
      ]
    ];
  }

  -- what has no party keeps none
  fresh : (k : ℕ) → entries_of no_party (parties ++ replicate 256 no_party) (length parties + k) ≡ no_party
  fresh k = elim (cases_lt k 256) [
    | inl m ↦ entries_of-is no_party after (length parties + k) ∙ get_or-append_right parties (replicate 256 no_party) (length parties) (length parties + k) no_party refl (omega arith)
        ∙ get_or-replicate 256 (length parties + k - length parties) no_party no_party (omega arith)
    | inr m ↦ entries_of-past no_party after (length parties + k) (let z = longer in omega arith)
  ]

  kept : (o : Option ℕ) (k : ℕ) → k < 256 → ((x : ℕ) → o ≡ Some x → x + 256 ≤ length parties) → party_in o (parties ++ replicate 256 no_party) k ≡ party_in o parties k
  kept None k m w = refl
  kept (Some x) k m w =
      let z : x + 256 ≤ length parties = w x refl in
      entries_of-is no_party after (x + k) ∙ get_or_append_left parties (replicate 256 no_party) no_party (x + k) (omega arith) ∙ sym (entries_of-is no_party parties (x + k))

  -- with it each slot still has the party that it had
  pub party_at-more : party_at (set starts block (Some (length parties))) (parties ++ replicate 256 no_party) ≡ party_at starts parties
  party_at-more = fun_ext (λ k. elim (cases_eq (k / 256) block) [
    | inl e ↦ ap (λ (b : ℕ). party_in (entries_of None now b) after (k % 256)) e ∙ ap (λ (o : Option ℕ). party_in o after (k % 256)) block_here ∙ fresh (k % 256)
        ∙ sym (ap (λ (b : ℕ). party_in (entries_of None starts b) parties (k % 256)) e ∙ ap (λ (o : Option ℕ). party_in o parties (k % 256)) none)
    | inr d ↦ ap (λ (o : Option ℕ). party_in o after (k % 256)) (beside (k / 256) d) ∙ kept (entries_of None starts (k / 256)) (k % 256) (omega arith) (λ x e. h.within (k / 256) x e)
  ])

-- a slot stands within its block
pub within_block : (starts : List (Option ℕ)) (parties : List Party) (slot start : ℕ) → IsBlocks starts parties → entries_of None starts (slot / 256) ≡ Some start → start + slot % 256 < length parties
within_block starts parties slot start h is = let w : start + 256 ≤ length parties = h.within (slot / 256) start is in let m : slot % 256 < 256 = omega arith in omega arith

-- a party is set
module _ (starts : List (Option ℕ)) (parties : List Party) (slot start : ℕ) (party : Party) (h : IsBlocks starts parties) (is : entries_of None starts (slot / 256) ≡ Some start) where
  pub IsBlocks-set : IsBlocks starts (set parties (start + slot % 256) party)
  IsBlocks-set =
      let e : length (set parties (start + slot % 256) party) ≡ length parties = length-set parties (start + slot % 256) party in
      record {
        written = e ∙ h.written;
        within = λ b x f. let w : x + 256 ≤ length parties = h.within b x f in omega arith;
        apart = h.apart;
      }

  at_slot : start + slot % 256 < length parties
  at_slot = within_block starts parties slot start h is

  same_slot : (k x : ℕ) → entries_of None starts (k / 256) ≡ Some x → x + k % 256 ≡ start + slot % 256 → k ≡ slot
  same_slot k x e s =
      let b : k / 256 ≡ slot / 256 = h.apart (k / 256) (slot / 256) x start (k % 256) (slot % 256) e is (omega arith) (omega arith) s in
      let o : x ≡ start = same_Some x start (sym e ∙ ap (entries_of None starts) b ∙ is) in
      omega arith

  other : (k : ℕ) (o : Option ℕ) → entries_of None starts (k / 256) ≡ o → k ≢ slot → party_in o (set parties (start + slot % 256) party) (k % 256) ≡ party_in o parties (k % 256)
  other k None e d = refl
  other k (Some x) e d =
      ap (λ (f : ℕ → Party). f (x + k % 256)) (entries_of-set no_party parties (start + slot % 256) party at_slot)
      ∙ put-apart (entries_of no_party parties) (start + slot % 256) party (x + k % 256) (λ s. d (same_slot k x e s))

  -- its slot has that party then, and each other slot the one that it had
  pub party_at-set : party_at starts (set parties (start + slot % 256) party) ≡ put (party_at starts parties) slot party
  party_at-set = fun_ext (λ k. elim (cases_eq k slot) [
    | inl e ↦ ap (λ (q : ℕ). party_at starts (set parties (start + slot % 256) party) q) e
        ∙ ap (λ (o : Option ℕ). party_in o (set parties (start + slot % 256) party) (slot % 256)) is
        ∙ ap (λ (f : ℕ → Party). f (start + slot % 256)) (entries_of-set no_party parties (start + slot % 256) party at_slot)
        ∙ put-here (entries_of no_party parties) (start + slot % 256) party (start + slot % 256) refl
        ∙ sym (put-here (party_at starts parties) slot party k e)
    | inr d ↦ other k (entries_of None starts (k / 256)) refl d ∙ sym (put-apart (party_at starts parties) slot party k d)
  ])

-- what the code reads: where a block starts, and a party of it. `now` is the model as its callers see it
pub start_read : {starts : List (Option ℕ)} {parties : List Party} {now : PartiesModel} (block : ℕ) (x : Option ℕ) → ◌≡◌ {A = PartiesModel} (record { starts = starts; parties = parties }) now → block < length now.starts →
    x ≡ get_or starts block x → entries_of None starts block ≡ x
start_read {starts} {parties} {now} block x e l r = sym (entries_of-read None starts block (length starts) x refl (omega (arith, ap (λ (m : PartiesModel). length m.starts) e)) r)

-- what is read in the block of a slot is the party of the slot
pub party_read : {starts : List (Option ℕ)} {parties : List Party} {now : PartiesModel} (slot start : ℕ) (x : Party) → ◌≡◌ {A = PartiesModel} (record { starts = starts; parties = parties }) now →
    entries_of None starts (slot / 256) ≡ Some start → start + slot % 256 < length parties → x ≡ get_or parties (start + slot % 256) x → x ≡ party_at now.starts now.parties slot
party_read {starts} {parties} {now} slot start x e is l r =
    entries_of-read no_party parties (start + slot % 256) (length parties) x refl l r
    ∙ ap (λ (o : Option ℕ). party_in o parties (slot % 256)) (sym is)
    ∙ ap (λ (m : PartiesModel). party_at m.starts m.parties slot) e

-- a slot whose block was not written has no party
pub no_party_read : {starts : List (Option ℕ)} {parties : List Party} {now : PartiesModel} (slot : ℕ) (x : Party) → ◌≡◌ {A = PartiesModel} (record { starts = starts; parties = parties }) now →
    entries_of None starts (slot / 256) ≡ None → x ≡ no_party → x ≡ party_at now.starts now.parties slot
no_party_read {starts} {parties} {now} slot x e is n =
    n ∙ ap (λ (o : Option ℕ). party_in o parties (slot % 256)) (sym is)
    ∙ ap (λ (m : PartiesModel). party_at m.starts m.parties slot) e

-- the list after a block is added to it
pub grown : (xs ys : List Party) (n k : ℕ) (x : Party) → n ≡ length xs → k ≡ length xs → x ≡ no_party → ys ≡ take (n + 256) xs ++ replicate (n + 256 - k) x → ys ≡ xs ++ replicate 256 no_party
grown xs ys n k x ne ke xe e =
    let c : n + 256 - k ≡ 256 = omega arith in
    e ∙ ap (λ (zs : List Party). zs ++ replicate (n + 256 - k) x) (take_all (n + 256) xs (omega arith))
    ∙ ap (λ (j : ℕ). xs ++ replicate j x) c ∙ ap (λ (y : Party). xs ++ replicate 256 y) xe
