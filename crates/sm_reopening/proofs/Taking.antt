-- The parties that have taken their settles.
use Rattle.std.proofs.Common.{◌≡◌, ◌∙◌, ◌<◌, ℕ, Bool, true, false, Option, Some, None, length, refl, sym, ap, arith}
use Rattle.std.specs.Prelude.{◌&&◌, ◌==◌, is_some, not, if◌then◌else◌}
use Rattle.std.proofs.lemmas.Bool.{and_from, and_parts}
use Rattle.sm_placement.specs.Opening.{first_below}
use Rattle.sm_placement.proofs.Searches.{first_none, first_none_from}
use Rattle.laws_network.specs.Reopening.{MapOwner, Party, Reopening, Server, Took, entered, put_party}
use Rattle.laws_network.specs.ReopeningLaws.{AllTook}
use Rattle.sm_reopening.specs.declared.ongoing.OngoingReopening.{OngoingReopening}
use Rattle.sm_reopening.specs.Ongoing.{net_reopening}
use Rattle.sm_reopening.specs.Settles.{first_unsettled, is_due_settle, is_unsettled}
use Rattle.sm_reopening.proofs.Updates.{told_is_known}

-- the first, and not the second, is not so
pub unsettled_parts : (t s : Bool) → (t && not s) ≡ false → t ≡ true → s ≡ true
unsettled_parts true true e h = refl
unsettled_parts true false e h = absurd (cc)
unsettled_parts false s e h = absurd (cc)

-- if all have taken it, a party has
pub took_settled : (r : Reopening) (p : Party) → AllTook r → is_unsettled r p ≡ false
took_settled r p all = go (is_some (r.told p)) (r.settled p) (all p)
  where
    go : (t s : Bool) → (t ≡ true → s ≡ true) → (t && not s) ≡ false
    go true true f = refl
    go true false f = absurd (let z = f refl in cc)
    go false s f = refl

-- if no party has not taken it, all have
pub all_took : (x : OngoingReopening) → is_unsettled (net_reopening x) MapOwner ≡ false → first_unsettled (net_reopening x) ≡ None → AllTook (net_reopening x)
all_took x map none MapOwner told = unsettled_parts (is_some ((net_reopening x).told MapOwner)) ((net_reopening x).settled MapOwner) map told
all_took x map none (Server v) told =
    unsettled_parts (is_some ((net_reopening x).told (Server v))) ((net_reopening x).settled (Server v))
    (first_none (length x.servers.items) (λ u. is_unsettled (net_reopening x) (Server u)) none v (told_is_known x.servers.items x.map_told v told)) told

-- and no server has not
pub none_unsettled : (x : OngoingReopening) → AllTook (net_reopening x) → first_unsettled (net_reopening x) ≡ None
none_unsettled x all = first_none_from (length x.servers.items) (λ u. is_unsettled (net_reopening x) (Server u)) (λ v l. took_settled (net_reopening x) (Server v) all)

-- an answer that is due is entered
pub due_is_entered : (r : Reopening) (p : Party) (base : ℕ) → is_due_settle r p base ≡ true → entered (Took p base) r ≡ record r { settled = put_party r.settled p true }
due_is_entered r p base e =
    let a = and_parts (base == r.base) (is_some r.settlement && is_unsettled r p) e in
    let b = and_parts (is_some r.settlement) (is_unsettled r p) a.1 in
    ap (λ (t : Bool). if t then record r { settled = put_party r.settled p true } else r) (and_from (base == r.base) (is_some r.settlement) a.0 b.0)

-- it is of a party that was asked, to a settlement
pub due_parts : (r : Reopening) (p : Party) (base : ℕ) → is_due_settle r p base ≡ true → (is_some r.settlement ≡ true) × (is_some (r.told p) ≡ true)
due_parts r p base e =
    let a = and_parts (base == r.base) (is_some r.settlement && is_unsettled r p) e in
    let b = and_parts (is_some r.settlement) (is_unsettled r p) a.1 in
    (b.0, (and_parts (is_some (r.told p)) (not (r.settled p)) b.1).0)
