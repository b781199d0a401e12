-- First answers to a fence.
use Rattle.std.proofs.Common.{◌≡◌, ◌<◌, Bool, true, false, Option, Some, None, ℕ, length, refl}
use Rattle.std.specs.Prelude.{◌&&◌, ◌==◌, is_none, is_some, nat_lt, not}
use Rattle.std.proofs.lemmas.Bool.{and_parts, ltb-true}
use Rattle.laws_network.specs.Reopening.{Server, is_asked, is_first}
use Rattle.sm_reopening.specs.declared.ongoing.OngoingReopening.{OngoingReopening}
use Rattle.sm_reopening.specs.Ongoing.{net_reopening}

-- a first answer is one of a server that has a number, while nothing is confirmed
pub first_parts : (x : OngoingReopening) (v base : ℕ) → is_first (net_reopening x) (Server v) base ≡ true → (v < length x.servers.items) × (is_some (net_reopening x).settlement ≡ false)
first_parts x v base e =
    let a = and_parts (base == x.base) (is_none (net_reopening x).settlement && (is_asked (net_reopening x) (Server v) && is_none ((net_reopening x).told (Server v)))) e in
    let b = and_parts (is_none (net_reopening x).settlement) (is_asked (net_reopening x) (Server v) && is_none ((net_reopening x).told (Server v))) a.1 in
    let d = and_parts (is_asked (net_reopening x) (Server v)) (is_none ((net_reopening x).told (Server v))) b.1 in
    let n = and_parts (nat_lt v (length x.servers.items)) (not ((net_reopening x).lost v)) d.0 in
    (ltb-true v (length x.servers.items) n.0, open_if (net_reopening x).settlement b.0)
  where
    open_if : {A : Type 0} (o : Option A) → is_none o ≡ true → is_some o ≡ false
    open_if None e = refl
    open_if (Some y) e = absurd (cc)
