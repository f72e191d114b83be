-- Why a text has a fault.
use Rattle.std.proofs.Common.{◌≡◌, ◌≢◌, ℕ, List, Result, Ok, Err, subst}
use Rattle.std.specs.Prelude.{IfErr}
use Rattle.mau_tokens.specs.declared.token.Token.{Token}
use Rattle.mau_tokens.specs.declared.token.TokenFault.{TokenFault}
use Rattle.mau_tokens.specs.declared.token.TokenFault.TheVariants.{NotUtf8, OpenComment, OpenString, TokenTooLong, NoMemory}
use Rattle.mau_tokens.specs.Lexeme.{block_comment, string}
use Rattle.mau_tokens.specs.Ending.{IsOpen, IsTooLong}
use Rattle.mau_tokens.specs.TokensOf.{before, TokensFrom, text_ends, passes, takes, too_long, comment_open, string_open}

-- what stands at the place of a fault
abbrev pub Cause : List ℕ → TokenFault → Type 0
Cause bs (NotUtf8 at) = ⊥
Cause bs (OpenComment at) = IsOpen bs block_comment at
Cause bs (OpenString at) = IsOpen bs string at
Cause bs (TokenTooLong at) = IsTooLong bs at
Cause bs NoMemory = ⊥

cause_behind : (bs : List ℕ) (t : Token) (r : Result (List Token) TokenFault) → IfErr r (Cause bs) → IfErr (before t r) (Cause bs)
cause_behind bs t (Ok ts) h = tt
cause_behind bs t (Err f) h = h

pub cause_of : (bs : List ℕ) (i : ℕ) (r : Result (List Token) TokenFault) → TokensFrom 1024 bs i r → IfErr r (Cause bs)
cause_of bs i r (text_ends _ e) = tt
cause_of bs i r (passes l _ e _ t piece rest) = cause_of bs e r rest
cause_of bs i r (takes l _ e q t piece short rest) = cause_behind bs _ q (cause_of bs e q rest)
cause_of bs i r (too_long l _ e t piece long) = record { lexeme = l; end = e; token = t; piece = piece; long = long }
cause_of bs i r (comment_open _ open') = open'
cause_of bs i r (string_open _ open') = open'

-- of an answer r
pub cause_in : {T : Type 0} (bs : List ℕ) (r : Result T TokenFault) (f : TokenFault) → IfErr r (λ g. g ≢ NoMemory → TokensFrom 1024 bs 0 (Err g)) → r ≡ Err f → f ≢ NoMemory → Cause bs f
cause_in bs r f h e other = cause_of bs 0 (Err f) (let P : Result _ TokenFault → Type 0 = λ s. IfErr s (λ g. g ≢ NoMemory → TokensFrom 1024 bs 0 (Err g)) in subst P e h other)
