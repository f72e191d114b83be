-- A word of a text.
use Rattle.std.specs.Prelude.{ℕ, List}
use Rattle.mau_tokens.specs.declared.token.Token.{Token}

-- a token, and what it reads
pub record Word : Type 0 where
  pub text : List ℕ
  pub token : Token
