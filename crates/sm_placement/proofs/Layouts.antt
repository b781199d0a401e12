-- A placement's lists: what is read in them, and what a write makes of the placement.
use Rattle.std.proofs.Common.{◌≡◌, ℕ, suc, ◌+◌, ◌<◌, length, get_or, set, refl, sym, ap, ◌∙◌, arith, inl, inr, subst, Bool, Option, Some, None}
use Rattle.std.specs.Option.{ForSome, IfSome}
use Rattle.std.proofs.lemmas.Bool.{cases_eq}
use Rattle.sm_placement.specs.Setup.{Sizes, sizes_of}
use Rattle.sm_placement.specs.Sums.{put}
use Rattle.sm_placement.specs.Place.{Place, set_down, publish}
use Rattle.sm_placement.specs.Layout.{PlacementModel, place_of, entries_of, IsPlacement}
use Rattle.sm_placement.proofs.Sums.{put-here, put-apart}
use Rattle.sm_placement.proofs.GridLemmas.{entries_of-read, entries_of-set}

-- A reader finds in the lists what the placement says. `now` is the placement as its callers see it.
pub version_read : {l now : PlacementModel} (s x : ℕ) → length l.versions ≡ length l.setup.shards → l ≡ now → s < length now.setup.shards → x ≡ get_or l.versions s x → x ≡ (place_of now).version s
version_read {l} {now} s x len e = subst (λ (n : PlacementModel). s < length n.setup.shards → x ≡ get_or l.versions s x → x ≡ (place_of n).version s) e
    (λ m r. entries_of-read 0 l.versions s (length l.setup.shards) x len m r)

-- what is read at a shard's number is the server that is listed for it
pub listed_read : {l now : PlacementModel} (s : ℕ) (x : Option ℕ) → length l.listed ≡ length l.setup.shards → l ≡ now → s < length now.setup.shards → x ≡ get_or l.listed s x → x ≡ (place_of now).listed s
listed_read {l} {now} s x len e = subst (λ (n : PlacementModel). s < length n.setup.shards → x ≡ get_or l.listed s x → x ≡ (place_of n).listed s) e
    (λ m r. entries_of-read None l.listed s (length l.setup.shards) x len m r)

-- what every placement keeps is kept by the same lists as they are seen
pub placement_read : {l now : PlacementModel} → IsPlacement (sizes_of l.setup) (place_of l) → l ≡ now → IsPlacement (sizes_of now.setup) (place_of now)
placement_read {l} {now} is e = subst (λ (n : PlacementModel). IsPlacement (sizes_of n.setup) (place_of n)) e is

-- a listed server is known
pub listed_known : (c : Sizes) (p : Place) (s : ℕ) (x : Option ℕ) → IsPlacement c p → x ≡ p.listed s → IfSome x (λ v. v < c.servers)
listed_known c p s None is e = tt
listed_known c p s (Some v) is e = is.listed s v (sym e)

-- another entry of the map keeps what every placement keeps
pub published_placement : (c : Sizes) (p : Place) (s : ℕ) (x : Option ℕ) → s < c.shards → IsPlacement c p → ForSome x (λ v. v < c.servers) → IsPlacement c (publish p s x)
published_placement c p s x l is known = record {
  no_server = is.no_server;
  no_shard = is.no_shard;
  no_entry = λ r m. put-apart p.listed s x r (λ d. absurd (omega arith)) ∙ is.no_entry r m;
  no_down = is.no_down;
  known = is.known;
  listed = λ r u e. elim (cases_eq r s) [
    | inl d ↦ known u (sym (put-here p.listed s x r d) ∙ e)
    | inr d ↦ is.listed r u (sym (put-apart p.listed s x r d) ∙ e)
  ];
  rooms = is.rooms;
}

-- the two lists after a publication
pub layout_published : (l : PlacementModel) (s b : ℕ) (x : Option ℕ) → length l.listed ≡ length l.setup.shards → length l.versions ≡ length l.setup.shards → s < length l.setup.shards → b ≡ get_or l.versions s b →
    place_of (record l { listed = set l.listed s x; versions = set l.versions s (b + 1) }) ≡ publish (place_of l) s x
layout_published l s b x many long m r =
    let listed : entries_of None (set l.listed s x) ≡ put (entries_of None l.listed) s x = entries_of-set None l.listed s x (rw many m) in
    let read : b ≡ entries_of 0 l.versions s = entries_of-read 0 l.versions s (length l.setup.shards) b long m r in
    let more : b + 1 ≡ suc (entries_of 0 l.versions s) = omega arith in
    let versions : entries_of 0 (set l.versions s (b + 1)) ≡ put (entries_of 0 l.versions) s (suc (entries_of 0 l.versions s)) = rw more (entries_of-set 0 l.versions s (suc (entries_of 0 l.versions s)) (rw long m)) in
    ap (λ (f : ℕ → Option ℕ). record (place_of l) { listed = f; version = entries_of 0 (set l.versions s (b + 1)) }) listed
    ∙ ap (λ (g : ℕ → ℕ). record (place_of l) { listed = put (entries_of None l.listed) s x; version = g }) versions

-- the same, as a writer has it: `place` is the shard's place in the lists
pub published_here : {l now : PlacementModel} (s place b : ℕ) (x : Option ℕ) → length l.listed ≡ length l.setup.shards → length l.versions ≡ length l.setup.shards → l ≡ now → place ≡ s → s < length now.setup.shards →
    b ≡ get_or l.versions place b → place_of (record l { listed = set l.listed place x; versions = set l.versions place (b + 1) }) ≡ publish (place_of now) s x
published_here {l} {now} s place b x many long e d = subst (λ (n : PlacementModel). s < length n.setup.shards → b ≡ get_or l.versions place b → place_of (record l { listed = set l.listed place x; versions = set l.versions place (b + 1) }) ≡ publish (place_of n) s x) e
    (subst (λ k. s < length l.setup.shards → b ≡ get_or l.versions k b → place_of (record l { listed = set l.listed k x; versions = set l.versions k (b + 1) }) ≡ publish (place_of l) s x) (sym d)
    (λ m r. layout_published l s b x many long m r))

-- a publication that names a known server or none leaves true what every placement keeps
pub published_keeps : {l now : PlacementModel} (s place b : ℕ) (x : Option ℕ) → length l.listed ≡ length l.setup.shards → length l.versions ≡ length l.setup.shards → IsPlacement (sizes_of l.setup) (place_of l) → l ≡ now → place ≡ s → s < length now.setup.shards →
    ForSome x (λ v. v < length now.setup.servers) → b ≡ get_or l.versions place b →
    IsPlacement (sizes_of l.setup) (place_of (record l { listed = set l.listed place x; versions = set l.versions place (b + 1) }))
published_keeps {l} {now} s place b x many long is e d m known r =
    let known' : ForSome x (λ v. v < length l.setup.servers) = subst (λ (n : PlacementModel). ForSome x (λ v. v < length n.setup.servers)) (sym e) known in
    let m' : s < length l.setup.shards = subst (λ (n : PlacementModel). s < length n.setup.shards) (sym e) m in
    let at : place_of (record l { listed = set l.listed place x; versions = set l.versions place (b + 1) }) ≡ publish (place_of l) s x = published_here {l = l} {now = l} s place b x many long refl d m' r in
    subst (λ (p : Place). IsPlacement (sizes_of l.setup) p) (sym at) (published_placement (sizes_of l.setup) (place_of l) s x m' is known')

-- a server down or up keeps it too
pub downed_placement : (c : Sizes) (p : Place) (v : ℕ) (down : Bool) → v < c.servers → IsPlacement c p → IsPlacement c (set_down p v down)
downed_placement c p v down l is = record {
  no_server = is.no_server;
  no_shard = is.no_shard;
  no_entry = is.no_entry;
  no_down = λ w m. put-apart p.down v down w (λ d. absurd (omega arith)) ∙ is.no_down w m;
  known = is.known;
  listed = is.listed;
  rooms = is.rooms;
}
