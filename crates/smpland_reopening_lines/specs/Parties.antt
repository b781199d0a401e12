-- The parties of a reopening in replies.
use Rattle.std.specs.Prelude.{◌≡◌, ℕ, List, [], ◌∷◌, ◌++◌, Option, Some, None, codes}
use Rattle.std.specs.List.{flat_map}
use Rattle.json.specs.Token.{Token, null, string}
use Rattle.sm_placement.specs.Setup.{Setup}
use Rattle.sm_reopening.specs.Ongoing.{net_reopening}
use Rattle.sm_reopening.specs.declared.party.Party.{Party}
use Rattle.sm_reopening.specs.declared.party.Party.TheVariants.{MapOwner, Server}
use Rattle.smpland_reopening.specs.Reopening.{ReopeningModel}
use Rattle.smpland_reopening.specs.Waiting.{unanswered_parties}
use Rattle.smpland_lines.specs.Members.{list_member, name_member, number_member, object, server_text, text_member}

-- the name of a party; the map's owner has none
abbrev pub party_name : Setup → Party → Option (List ℕ)
party_name numbering (Server v) = Some (server_text numbering v)
party_name numbering MapOwner = None

-- the party that a message goes to, with the journal and the base of its reopening
abbrev pub addressed_members : List ℕ → ReopeningModel → Party → List Token
addressed_members journal r p =
    name_member (codes "server") (party_name r.numbering p)
    ++ text_member (codes "journal") journal
    ++ number_member (codes "base") (net_reopening r.ongoing).base

-- the fence to a party
abbrev pub fence_text : List ℕ → ReopeningModel → Party → List Token
fence_text journal r p = object (addressed_members journal r p)

-- those to the parties that have not answered it, as a member
abbrev pub fences_member : List ℕ → ReopeningModel → List Token
fences_member journal r = list_member (codes "fence") (flat_map (fence_text journal r) (unanswered_parties (net_reopening r.ongoing)))

-- a party by its name; the map's owner is null
abbrev pub party_text : Setup → Party → List Token
party_text numbering (Server v) = string (server_text numbering v) ∷ []
party_text numbering MapOwner = null ∷ []

-- whose answers are missing, as a member
abbrev pub waiting_member : Setup → List Party → List Token
waiting_member numbering parties = list_member (codes "waiting") (flat_map (party_text numbering) parties)
