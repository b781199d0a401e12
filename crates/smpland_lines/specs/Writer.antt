-- The part of a reply that is written.
use Rattle.std.specs.Prelude.{◌≢◌, ℕ, List, All, refl}
use Rattle.std.specs.Coded.{Coded, code_by}
use Rattle.json.specs.Token.{Token, tokens_code}

-- its members, as far as they are written
pub record Written : Type 0 where
  pub tokens : List Token

-- it is stored as its tokens
abbrev pub written_code : Coded Written
written_code = code_by (List Token) tokens_code (λ w. w.tokens) (λ tokens. record { tokens = tokens }) (λ _. refl)

-- no byte of the text is a line feed
abbrev pub HasNoLineFeed : List ℕ → Type 0
HasNoLineFeed text = All (λ b. b ≢ 10) text
