-- Restores that were told in earlier epochs.
use Rattle.std.specs.Prelude.{ℕ, List}
use Rattle.json.specs.Token.{Token}

-- The last restore of a server in an earlier epoch: the server's name, the nonce under which it asked, and what it was
-- told.
pub record ToldModel : Type 0 where
  pub server : List ℕ
  pub nonce : ℕ
  pub restore : List Token
