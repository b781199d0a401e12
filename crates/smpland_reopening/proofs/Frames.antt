-- Parts that stay while answers come.
use Rattle.std.proofs.Common.{◌≡◌, ◌∙◌, ◌&&◌, ◌==◌, ℕ, List, Bool, true, false, Some, is_some, sym, ap, refl, subst, ◌⊎◌, inl, inr}
use Rattle.std.specs.Option.{unwrap_or}
use Rattle.sm_placement.specs.Layout.{PlacementModel}
use Rattle.laws_network.specs.Reopening.{Confirm, Inventory, Party, Reopening, Settlement, Told, Took, entered}
use Rattle.laws_network.specs.Reopening.{is_first}
use Rattle.sm_reopening.specs.declared.ongoing.OngoingReopening.{OngoingReopening}
use Rattle.sm_reopening.specs.Ongoing.{IsSameButTold, net_reopening}
use Rattle.smpland_reopening.specs.declared.unknown_shard.UnknownShard.{UnknownShard}
use Rattle.smpland_reopening.specs.Reopening.{IsNextOpening, IsReopening, ReopeningModel}

-- number, servers and settlement are the same
pub record IsFramed (new old : Reopening) : Type 0 where
  pub base : new.base ≡ old.base
  pub servers : new.servers ≡ old.servers
  pub settlement : new.settlement ≡ old.settlement

-- an answer to a fence
pub told_framed : (p : Party) (base : ℕ) (inventory : Inventory) (r : Reopening) → IsFramed (entered (Told p base inventory) r) r
told_framed p base inventory r = by_first (is_first r p base) refl
  where
    by_first : (b : Bool) → is_first r p base ≡ b → IsFramed (entered (Told p base inventory) r) r
    by_first true e = rw e (record { base = refl; servers = refl; settlement = refl })
    by_first false e = rw e (record { base = refl; servers = refl; settlement = refl })

-- an answer to a settle
pub took_framed : (p : Party) (base : ℕ) (r : Reopening) → IsFramed (entered (Took p base) r) r
took_framed p base r = by_due (base == r.base && is_some r.settlement) refl
  where
    by_due : (b : Bool) → (base == r.base && is_some r.settlement) ≡ b → IsFramed (entered (Took p base) r) r
    by_due true e = rw e (record { base = refl; servers = refl; settlement = refl })
    by_due false e = rw e (record { base = refl; servers = refl; settlement = refl })

-- a reopening whose servers tell more is one
pub still_reopening : (r : ReopeningModel) (o : OngoingReopening) → IsReopening r → IsFramed (net_reopening o) (net_reopening r.ongoing) → IsSameButTold r.ongoing o → IsReopening (record r { ongoing = o })
still_reopening r o is framed same = record {
  servers = is.servers ∙ sym framed.servers;
  shards = is.shards ∙ sym same.shards;
  base = framed.base ∙ is.base;
  named_servers = is.named_servers;
  named_shards = is.named_shards;
  permits = is.permits;
  confirmed = is.confirmed ∙ ap is_some (sym framed.settlement);
  next = λ p s e f. is.next p s e (sym framed.settlement ∙ f);
}

-- once a server, or the map's owner, has told what it has
pub still_told : (r : ReopeningModel) (o : OngoingReopening) (p : Party) (base : ℕ) (inventory : Inventory) → IsReopening r →
    net_reopening o ≡ entered (Told p base inventory) (net_reopening r.ongoing) → IsSameButTold r.ongoing o → IsReopening (record r { ongoing = o })
still_told r o p base inventory is e same =
    still_reopening r o is (subst (λ x. IsFramed x (net_reopening r.ongoing)) (sym e) (told_framed p base inventory (net_reopening r.ongoing))) same

-- once a party has taken its settle
pub still_took : (P : Type 0) (r : ReopeningModel) (o : OngoingReopening) (p : Party) (base : ℕ) → IsReopening r → (P → o ≡ r.ongoing) →
    P ⊎ (net_reopening o ≡ entered (Took p base) (net_reopening r.ongoing)) → IsSameButTold r.ongoing o → IsReopening (record r { ongoing = o })
still_took P r o p base is old e same = still_reopening r o is (elim e [
  | inl none ↦ subst (λ x. IsFramed (net_reopening x) (net_reopening r.ongoing)) (sym (old none)) (record { base = refl; servers = refl; settlement = refl })
  | inr took ↦ subst (λ x. IsFramed x (net_reopening r.ongoing)) (sym took) (took_framed p base (net_reopening r.ongoing))
]) same

-- once a settlement is confirmed
pub now_confirmed : (r : ReopeningModel) (o : OngoingReopening) (s : Settlement) (p : PlacementModel) → IsReopening r →
    net_reopening o ≡ entered (Confirm s) (net_reopening r.ongoing) → IsSameButTold r.ongoing o → IsNextOpening r.document r.shards r.servers s p → IsReopening (record r { ongoing = o; next = Some p })
now_confirmed r o s p is e same next = record {
  servers = is.servers ∙ sym (ap (λ x. x.servers) e);
  shards = is.shards ∙ sym same.shards;
  base = ap (λ x. x.base) e ∙ is.base;
  named_servers = is.named_servers;
  named_shards = is.named_shards;
  permits = is.permits;
  confirmed = sym (ap (λ x. is_some x.settlement) e);
  next = λ q t f g.
      let there : s ≡ t = ap (λ x. unwrap_or x s) (sym (ap (λ x. x.settlement) e) ∙ g) in
      subst (λ x. IsNextOpening r.document r.shards r.servers x q) there (subst (λ x. IsNextOpening r.document r.shards r.servers s x) (ap (λ x. unwrap_or x p) f) next);
}

-- which unknown shards are noted makes no difference
pub still_unknown_shard : (r : ReopeningModel) (unknown_shards : List UnknownShard) → IsReopening r → IsReopening (record r { unknown_shards = unknown_shards })
still_unknown_shard r unknown_shards is = record {
  servers = is.servers;
  shards = is.shards;
  base = is.base;
  named_servers = is.named_servers;
  named_shards = is.named_shards;
  permits = is.permits;
  confirmed = is.confirmed;
  next = is.next;
}
