-- Texts that are written one after another, and settles.
use Rattle.std.proofs.Common.{◌≡◌, ◌∙◌, ◌+◌, ◌++◌, ◌∷◌, [], ℕ, List, Option, Some, None, ap, arith, refl, sym}
use Rattle.std.specs.Prelude.{option_map}
use Rattle.std.specs.List.{flat_map, range_with_len}
use Rattle.std.proofs.lemmas.List.{append-nil, flat_map_more, map-id}
use Rattle.std.proofs.lemmas.List.FromFn.{map-range_with_len_more}
use Rattle.json.specs.Token.{Token}
use Rattle.sm_placement.specs.Place.{Place}
use Rattle.sm_placement.specs.Setup.{Setup}
use Rattle.laws_network.specs.Reopening.{Message, Settlement}
use Rattle.sm_reopening.specs.Ongoing.{net_reopening}
use Rattle.sm_reopening.specs.Settles.{net_party, settle_messages, settle_sent, what_settles}
use Rattle.sm_reopening.specs.declared.party.Party.{Party}
use Rattle.sm_reopening.specs.declared.settling.Settle.{Settle as SentSettle}
use Rattle.smpland_reopening.specs.Reopening.{ReopeningModel}
use Rattle.smpland_lines.specs.Members.{object}
use Rattle.smpland_reopening_lines.specs.Parties.{addressed_members}
use Rattle.smpland_reopening_lines.specs.Settles.{brought_members, settle_text, settle_to}

-- the numbers below n + 1 are those below n, and n
range_more : (n : ℕ) → range_with_len 0 (n + 1) ≡ range_with_len 0 n ++ n ∷ []
range_more n =
    sym (map-id (range_with_len 0 (n + 1))) ∙ map-range_with_len_more (λ x. x) 0 n n (omega arith) ∙ ap (λ xs. xs ++ n ∷ []) (map-id (range_with_len 0 n))

-- what is written for the numbers below n, and for n
pub number_written : {A : Type 0} (f : ℕ → List A) (before : List A) (n : ℕ) →
    (before ++ flat_map f (range_with_len 0 n)) ++ f n ≡ before ++ flat_map f (range_with_len 0 (n + 1))
number_written f before n = flat_map_more f before (range_with_len 0 n) n ∙ ap (λ xs. before ++ flat_map f xs) (sym (range_more n))

-- ---- settles

-- a party of a settlement is sent what it brings
pub settle_is : (journal : List ℕ) (r : ReopeningModel) (p : Party) (settled : Setup × Place) (m : SentSettle) →
    Some settled ≡ option_map what_settles (net_reopening r.ongoing).settlement →
    settle_messages (net_reopening r.ongoing).settlement (Some m) ≡ settle_sent (net_reopening r.ongoing) (net_party p) →
    object (addressed_members journal r p ++ brought_members r settled.0 settled.1 p m.nonce) ≡ settle_to journal r p
settle_is journal r p settled m is sent = go (net_reopening r.ongoing).settlement is sent
  where
    text : List Message → List Token
    text = flat_map (settle_text journal r p)

    go : (o : Option Settlement) → Some settled ≡ option_map what_settles o → settle_messages o (Some m) ≡ settle_sent (net_reopening r.ongoing) (net_party p) →
        object (addressed_members journal r p ++ brought_members r settled.0 settled.1 p m.nonce) ≡ settle_to journal r p
    go None is sent = absurd (let z = is in cc)
    go (Some s) is sent =
        let same : settled ≡ (s.setup, s.place) = (let z = is in cc) in
        ap (λ (x : Setup × Place). object (addressed_members journal r p ++ brought_members r x.0 x.1 p m.nonce)) same
        ∙ sym (append-nil (object (addressed_members journal r p ++ brought_members r s.setup s.place p m.nonce)))
        ∙ ap text sent

-- before a settlement is confirmed no party is sent one
pub none_settled : (journal : List ℕ) (r : ReopeningModel) (p : Party) → None ≡ option_map what_settles (net_reopening r.ongoing).settlement → [] ≡ settle_to journal r p
none_settled journal r p none = go (net_reopening r.ongoing).settlement none refl
  where
    go : (o : Option Settlement) → None ≡ option_map what_settles o → (net_reopening r.ongoing).settlement ≡ o → [] ≡ settle_to journal r p
    go None none is = rw is refl
    go (Some s) none is = absurd (let z = none in cc)

-- nor is one that has not answered
pub none_sent : (journal : List ℕ) (r : ReopeningModel) (p : Party) →
    settle_messages (net_reopening r.ongoing).settlement None ≡ settle_sent (net_reopening r.ongoing) (net_party p) → [] ≡ settle_to journal r p
none_sent journal r p sent = go (net_reopening r.ongoing).settlement sent
  where
    go : (o : Option Settlement) → settle_messages o None ≡ settle_sent (net_reopening r.ongoing) (net_party p) → [] ≡ settle_to journal r p
    go None sent = ap (flat_map (settle_text journal r p)) sent
    go (Some s) sent = ap (flat_map (settle_text journal r p)) sent
