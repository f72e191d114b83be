-- The bound of a command, the number of `continue`, and which run a rewrite command asks for.
use Rattle.std.specs.Prelude.{ℕ, ◌==◌, List, length, Bool, ◌&&◌, not, nat_le, Option, None, Some, Result, Ok, Err, if◌then◌else◌}
use Rattle.std.specs.Char.{is_ascii_digit}
use Rattle.std.specs.List.{list_all}
use Rattle.std.specs.Str.Parse.{digits_value}
use Rattle.mau_tokens.specs.declared.token.Token.{Token}
use Rattle.mau_modtext.specs.Word.{Word}
use Rattle.mau_modtext.specs.declared.raw.RawCommand.{RawCommand}
use Rattle.mau_declare.specs.Words.{token_text}
use Rattle.mau_results.specs.declared.kind.RunKind.{RunKind}
use Rattle.mau_results.specs.declared.kind.RunKind.TheVariants.{Rewriting, Fair}
use Rattle.mau_session.specs.declared.asked_run.AskedRun.{AskedRun}
use Rattle.mau_session.specs.declared.refusal.Refusal.{Refusal}
use Rattle.mau_session.specs.declared.refusal.Refusal.TheVariants.{BadBound}
use Rattle.mau_session.specs.Built.{is_fair}

-- a number from 1 to 1,000,000,000,000
abbrev pub is_in_range : ℕ → Bool
is_in_range n = nat_le 1 n && nat_le n 1000000000000

-- decimal digits, one at least
abbrev pub are_digits : List ℕ → Bool
are_digits w = not (length w == 0) && list_all is_ascii_digit w

-- the number in this range that a text is
abbrev pub bound_in : List ℕ → Option ℕ
bound_in w = if are_digits w && is_in_range (digits_value 10 w) then Some (digits_value 10 w) else None

abbrev pub bound_or_refusal : Option ℕ → Result (Option ℕ) Refusal
bound_or_refusal (Some n) = Ok (Some n)
bound_or_refusal None = Err BadBound

-- how many solutions are asked for at most: all, where no number stands there
abbrev pub bound_of : List Word → Option Token → Result (Option ℕ) Refusal
bound_of ws None = Ok None
bound_of ws (Some t) = bound_or_refusal (bound_in (token_text ws t))

-- ---- rule runs

-- up to so many rewrites are made at each top, or one where no number stands there
abbrev pub fair_by : Result (Option ℕ) Refusal → Result RunKind Refusal
fair_by (Ok None) = Ok (Fair 1)
fair_by (Ok (Some g)) = Ok (Fair g)
fair_by (Err r) = Err r

abbrev pub kind_of : List Word → RawCommand → Result RunKind Refusal
kind_of ws c = if is_fair c.kind then fair_by (bound_of ws c.gas) else Ok Rewriting

abbrev pub of_at_most : Option ℕ → Result RunKind Refusal → Result AskedRun Refusal
of_at_most most (Ok kind) = Ok (record { kind = kind; most = most })
of_at_most most (Err r) = Err r

abbrev pub asked_by : Result (Option ℕ) Refusal → Result RunKind Refusal → Result AskedRun Refusal
asked_by (Ok most) kind = of_at_most most kind
asked_by (Err r) kind = Err r

-- the kind of a rewrite command's run, and how many rewrites are asked for at most
abbrev pub asked_run : List Word → RawCommand → Result AskedRun Refusal
asked_run ws c = asked_by (bound_of ws c.bound) (kind_of ws c)
