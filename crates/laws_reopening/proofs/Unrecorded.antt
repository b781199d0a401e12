-- If each server that is asked has told, none is carried over: so nothing rests on the record.
use Rattle.std.proofs.Common.{◌≡◌, ◌<◌, ◌≤◌, ℕ, refl, sym, ap, ◌∙◌, inl, subst, Bool, true, false, Option, Some, None}
use Rattle.std.specs.Prelude.{◌&&◌, not, is_none, is_some, if◌then◌else◌}
use Rattle.laws_network.specs.Words.{State}
use Rattle.laws_network.specs.Reopening.{Inventory, Reopening, Server, is_asked}
use Rattle.laws_network.specs.ReopeningLaws.{claim, claim_of, claim_told, is_carried}
use Rattle.laws_reopening.specs.Adopting.{SettlesWithoutRecord}

-- each that is asked has told
abbrev HaveTold : Reopening → Type 0
HaveTold r = (v : ℕ) → is_asked r (Server v) ≡ true → is_some (r.told (Server v)) ≡ true

some_there : (o : Option Inventory) → is_some o ≡ true → is_none o ≡ false
some_there None e = absurd (cc)
some_there (Some x) e = refl

none_carried : (r : Reopening) (w : State) → HaveTold r → (v : ℕ) → is_carried r w v ≡ false
none_carried r w all v = go (is_asked r (Server v)) refl
  where
    rest : Bool
    rest = w.place.down v && not (r.promised v)

    go : (b : Bool) → is_asked r (Server v) ≡ b → is_carried r w v ≡ false
    go true e = ap (λ a. a && (is_none (r.told (Server v)) && rest)) e ∙ ap (λ b. b && rest) (some_there (r.told (Server v)) (all v e))
    go false e = ap (λ a. a && (is_none (r.told (Server v)) && rest)) e

claim_is : (r : Reopening) (w : State) → HaveTold r → (k v : ℕ) → claim_of r w k v ≡ claim_told (r.told (Server v)) k
claim_is r w all k v = ap (λ b. if b then claim (w.place.cells k v) false else claim_told (r.told (Server v)) k) (none_carried r w all v)

-- a carried server would be one that none is
pub settles_without_record : SettlesWithoutRecord
settles_without_record r w other s all may = record {
  first = may.first;
  opening = may.opening;
  servers = may.servers;
  map = may.map;
  answered = λ v asked. inl (all v asked);
  kept = may.kept;
  carried = λ k v c. let z = sym c ∙ none_carried r other all v in absurd (cc);
  down = λ v c small. let z = sym c ∙ none_carried r other all v in absurd (cc);
  lost = may.lost;
  claims = λ k u v primary some. subst (λ (n : ℕ). 0 < n) (claim_is r w all k v ∙ sym (claim_is r other all k v))
      (may.claims k u v primary (subst (λ (n : ℕ). 0 < n) (claim_is r other all k u ∙ sym (claim_is r w all k u)) some));
  handed = may.handed;
}
