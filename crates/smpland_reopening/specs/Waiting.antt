-- Awaited answers.
use Rattle.std.specs.Prelude.{ℕ, ◌&&◌, Bool, List, ◌∷◌, is_some, map, not}
use Rattle.std.specs.List.{filter, range_with_len}
use Rattle.laws_network.specs.Reopening.{Party, Reopening, is_asked}
use Rattle.sm_reopening.specs.Settles.{is_unsettled, net_party}
use Rattle.sm_reopening.specs.declared.party.Party.{Party as ToldParty}
use Rattle.sm_reopening.specs.declared.party.Party.TheVariants as party

-- the parties of a reopening, in their order: the map's owner, and then the servers by their numbers
abbrev pub parties_in_order : ℕ → List ToldParty
parties_in_order servers = party.MapOwner ∷ map party.Server (range_with_len 0 servers)

-- the party is asked, and has not answered the fence
abbrev pub is_unanswered : Reopening → Party → Bool
is_unanswered r p = is_asked r p && not (is_some (r.told p))

-- those that have not answered the fence
abbrev pub unanswered_parties : Reopening → List ToldParty
unanswered_parties r = filter (λ p. is_unanswered r (net_party p)) (parties_in_order r.servers)

-- those that were sent a settle, or will be, and have not taken it
abbrev pub unsettled_parties : Reopening → List ToldParty
unsettled_parties r = filter (λ p. is_unsettled r (net_party p)) (parties_in_order r.servers)
