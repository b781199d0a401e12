-- Reopenings that begin.
use Rattle.std.proofs.Common.{◌≡◌, ◌∙◌, ◌≤◌, ℕ, List, length, max, sym, ap, arith, Option}
use Rattle.std.specs.List.{range_with_len}
use Rattle.std.proofs.lemmas.List.FromFn.{length-range_with_len}
use Rattle.sm_placement.proofs.ConfigLemmas.{length_map}
use Rattle.sm_placement.specs.Setup.{Setup}
use Rattle.laws_network.specs.Reopening.{Reopen, Reopening, entered}
use Rattle.sm_reopening.specs.declared.ongoing.OngoingReopening.{OngoingReopening}
use Rattle.sm_reopening.specs.declared.party.Membership.{Membership}
use Rattle.sm_reopening.specs.States.{is_left_out, says_lost}
use Rattle.sm_reopening.specs.Ongoing.{left_out_of, net_reopening, shards_of}
use Rattle.sm_driver.specs.Orders.{epoch_base}
use Rattle.sm_driver.specs.Permits.{AreEarlierPermits}
use Rattle.smpland_reopening.specs.declared.beginning.Ground.{Ground}
use Rattle.smpland_reopening.specs.Begun.{BeginsUnder, IsBegun, IsGround, members_under}
use Rattle.smpland_reopening.specs.Members.{membership_at}

-- each server that has a number takes part
pub members_count : (numbering document : Setup) (lost : List (List ℕ)) (members : List Membership) → members ≡ members_under numbering document lost → length members ≡ length numbering.servers
members_count numbering document lost members e =
    ap length e ∙ length_map (membership_at numbering document lost) (range_with_len 0 (length numbering.servers)) ∙ length-range_with_len 0 (length numbering.servers)

-- what has begun over what was numbered
pub begun_over : (numbered document : Setup) (lost : List (List ℕ)) (members : List Membership) (epoch : ℕ) (g : Ground) (o : OngoingReopening) (before : Reopening) →
    IsGround numbered document g → members ≡ members_under g.numbering document lost →
    net_reopening o ≡ entered (Reopen (epoch_base epoch) (length members) (says_lost members)) before → left_out_of o ≡ is_left_out members →
    BeginsUnder before numbered document g.numbering lost epoch o
begun_over numbered document lost members epoch g o before ground e net out = record {
  reopening = net ∙ ap (λ n. entered (Reopen (epoch_base epoch) n (says_lost members)) before) (members_count g.numbering document lost members e)
      ∙ ap (λ ms. entered (Reopen (epoch_base epoch) (length g.numbering.servers) (says_lost ms)) before) e;
  left_out = out ∙ ap is_left_out e;
  servers = ground.servers;
  shards = ground.shards;
}

-- a reopening of all that is numbered
pub begun_all : (numbered document : Setup) (lost : List (List ℕ)) (members : List Membership) (epoch : ℕ) (g : Ground) (o : OngoingReopening) (before : Reopening) →
    IsGround numbered document g → members ≡ members_under g.numbering document lost →
    net_reopening o ≡ entered (Reopen (epoch_base epoch) (length members) (says_lost members)) before → before.servers ≤ length g.numbering.servers →
    shards_of o ≡ length g.numbering.shards → IsBegun document epoch (record { ongoing = o; ground = g })
begun_all numbered document lost members epoch g o before ground e net fewer shards = record {
  servers = sym (ap (λ x. x.servers) net ∙ ap (λ n. max before.servers n) (members_count g.numbering document lost members e) ∙ larger before.servers (length g.numbering.servers) fewer);
  shards = sym shards;
  base = ap (λ x. x.base) net;
  named_servers = ground.named_servers;
  named_shards = ground.named_shards;
  unconfirmed = ap (λ x. x.settlement) net;
}
  where
    larger : (a b : ℕ) → a ≤ b → max a b ≡ b
    larger a b h = omega arith

-- permits of an earlier epoch
pub earlier_permits : (base later : ℕ) (permits : List (Option ℕ)) → AreEarlierPermits base permits → base ≤ later → AreEarlierPermits later permits
earlier_permits base later permits are h = record { earlier = λ v permit e. omega (arith, are.earlier v permit e); apart = are.apart }
