-- Settles and the answers to them, as the network's laws speak of them.
use Rattle.std.specs.Prelude.{◌≡◌, ℕ, ◌&&◌, ◌==◌, Bool, true, false, not, Option, Some, None, List, [], ◌∷◌, is_some}
use Rattle.sm_placement.specs.Layout.{PlacementModel, place_of}
use Rattle.sm_placement.specs.Opening.{first_below}
use Rattle.sm_placement.specs.Place.{Place}
use Rattle.sm_placement.specs.Setup.{Setup}
use Rattle.laws_network.specs.Reopening.{Inventory, MapOwner, Message, Party, Reopening, Server, Settle, Settlement}
use Rattle.laws_network.specs.Reopening.{Unknown, settle_by}
use Rattle.sm_reopening.specs.declared.party.Party.{Party as ToldParty}
use Rattle.sm_reopening.specs.declared.party.Party.TheVariants as party
use Rattle.sm_reopening.specs.declared.settling.Settle.{Settle as SentSettle}

-- the configuration and the placement that a settlement settles
abbrev pub what_settles : Settlement → Setup × Place
what_settles s = (s.setup, s.place)

-- those of a placement
abbrev pub settled_of : PlacementModel → Setup × Place
settled_of p = (p.setup, place_of p)

-- a party as the network's laws speak of it
abbrev pub net_party : ToldParty → Party
net_party (party.Server v) = Server v
net_party party.MapOwner = MapOwner

-- the nonce of an inventory, if it is that of an Unknown server
abbrev pub nonce_of : Option Inventory → Option ℕ
nonce_of (Some (Unknown nonce)) = Some nonce
nonce_of _ = None

-- a settle as the network's message: it brings what was confirmed
abbrev pub settle_messages : Option Settlement → Option SentSettle → List Message
settle_messages (Some s) (Some m) = Settle (net_party m.party) m.base m.nonce s ∷ []
settle_messages _ _ = []

-- the settle that the controller sends to a party
abbrev pub settle_sent : Reopening → Party → List Message
settle_sent r p = sent r.settlement
  where
    sent : Option Settlement → List Message
    sent None = []
    sent (Some s) = settle_by r.base s p (r.told p)

-- the party was sent a settle, or will be, and has not taken it
abbrev pub is_unsettled : Reopening → Party → Bool
is_unsettled r p = is_some (r.told p) && not (r.settled p)

-- the lowest server that has not taken its settle
abbrev pub first_unsettled : Reopening → Option ℕ
first_unsettled r = first_below r.servers (λ v. is_unsettled r (Server v))

-- the answer is the first one of its party to a settle of this reopening
abbrev pub is_due_settle : Reopening → Party → ℕ → Bool
is_due_settle r p base = base == r.base && (is_some r.settlement && is_unsettled r p)
