-- Commands and settings.
use Rattle.std.specs.Prelude.{ℕ, ◌+◌, ◌==◌, List, [], ◌∷◌, take, drop, Bool, true, false, ◌&&◌, ◌||◌, Option, Some, None, Ok, Err, if◌then◌else◌, codes}
use Rattle.mau_numerals.specs.Numerals.{is_numeral}
use Rattle.mau_tokens.specs.declared.token.Token.{Token}
use Rattle.mau_modtext.specs.Word.{Word}
use Rattle.mau_modtext.specs.Words.{is_word, place}
use Rattle.mau_modtext.specs.Faults.{OrFault, and_then}
use Rattle.mau_modtext.specs.Brackets.{begins, first_outside}
use Rattle.mau_modtext.specs.Signs.{stands}
use Rattle.mau_modtext.specs.Sides.{place_or, unexpected, some_tokens, sides, condition}
use Rattle.mau_modtext.specs.Statements.{first_token}
use Rattle.mau_modtext.specs.declared.fault.Fault.TheVariants.{Unsupported}
use Rattle.mau_modtext.specs.declared.fault.Feature.TheVariants.{SetInclude, SetProtect, SetExtend}
use Rattle.mau_modtext.specs.declared.brackets.Sign.TheVariants.{Subject, Condition, Using}
use Rattle.mau_modtext.specs.declared.raw.CommandKind.{CommandKind}
use Rattle.mau_modtext.specs.declared.raw.CommandKind.TheVariants.{Match, Xmatch, Reduce, Frewrite, Dsrewrite, Continue}
use Rattle.mau_modtext.specs.declared.raw.RawFragment.{RawFragment}
use Rattle.mau_modtext.specs.declared.raw.RawCommand.{RawCommand}
use Rattle.mau_modtext.specs.declared.raw.Setting.{Setting}
use Rattle.mau_modtext.specs.declared.raw.Setting.TheVariants.{Trace, Select, Ignored}

abbrev pub begins_numeral : List Word → Bool
begins_numeral [] = false
begins_numeral (w ∷ ws) = is_numeral w.text

-- the words begin with `[`, a numeral and `]`
abbrev pub begins_bound : List Word → Bool
begins_bound ws = begins (codes "[") ws && begins_numeral (drop 1 ws) && begins (codes "]") (drop 2 ws)

-- or with two numerals, parted by a comma
abbrev pub begins_two_bounds : List Word → Bool
begins_two_bounds ws =
    begins (codes "[") ws && begins_numeral (drop 1 ws) && begins (codes ",") (drop 2 ws) && begins_numeral (drop 3 ws) && begins (codes "]") (drop 4 ws)

abbrev pub has_bound : CommandKind → Bool
has_bound Reduce = false
has_bound _ = true

abbrev pub has_two_bounds : CommandKind → Bool
has_two_bounds Frewrite = true
has_two_bounds _ = false

-- of how many words the bound is with which the words begin: none, three, or five with a second number
abbrev pub bound_length : CommandKind → List Word → ℕ
bound_length kind ws =
    if has_bound kind && begins_bound ws then 3
    else (if has_two_bounds kind && begins_two_bounds ws then 5 else 0)

abbrev pub bound_of : ℕ → List Word → Option Token
bound_of n ws = if n == 0 then None else first_token (drop 1 ws)

abbrev pub gas_of : ℕ → List Word → Option Token
gas_of n ws = if n == 5 then first_token (drop 3 ws) else None

-- the words begin with `in`, one word and `:`
abbrev pub begins_module : List Word → Bool
begins_module ws = begins (codes "in") ws && begins (codes ":") (drop 2 ws)

abbrev pub module_of : List Word → Option Token
module_of ws = if begins_module ws then first_token (drop 1 ws) else None

abbrev pub behind_module : List Word → List Word
behind_module ws = if begins_module ws then drop 3 ws else ws

-- what a command works on
abbrev pub Body : Type 0
Body = List Token × List Token × List RawFragment

-- behind the subject: of how many words the sign of a condition is
abbrev pub condition_length : List Word → ℕ
condition_length ws = if begins (codes "s.t.") ws then 1 else 2

-- the subject, and the condition whose sign stands at i
abbrev pub subject_at : ℕ → List Word → Option ℕ → OrFault (List Token × List RawFragment)
subject_at stop ws None = and_then (some_tokens stop ws) (λ subject. Ok (subject, []))
subject_at stop ws (Some i) =
    and_then (some_tokens (place_or stop (drop i ws)) (take i ws)) (λ subject.
    and_then (condition false stop (drop (condition_length (drop i ws)) (drop i ws))) (λ cond.
    Ok (subject, cond)))

abbrev pub subject : ℕ → List Word → OrFault (List Token × List RawFragment)
subject stop ws = subject_at stop ws (first_outside (stands Condition) ws)

-- pattern and subject, parted by `<=?` at i
abbrev pub match_at : ℕ → List Word → Option ℕ → OrFault Body
match_at stop ws None = unexpected stop
match_at stop ws (Some i) =
    and_then (some_tokens (place_or stop (drop i ws)) (take i ws)) (λ pattern.
    and_then (subject stop (drop (i + 1) ws)) (λ s.
    Ok (pattern, s.0, s.1)))

abbrev pub match_body : ℕ → List Word → OrFault Body
match_body stop ws = match_at stop ws (first_outside (stands Subject) ws)

abbrev pub term_body : ℕ → List Word → OrFault Body
term_body stop ws = and_then (some_tokens stop ws) (λ t. Ok (t, [], []))

abbrev pub using_body : ℕ → List Word → OrFault Body
using_body stop ws = and_then (sides stop stop Using ws) (λ s. Ok (s.0, s.1, []))

abbrev pub body : CommandKind → ℕ → List Word → OrFault Body
body Match stop ws = match_body stop ws
body Xmatch stop ws = match_body stop ws
body Dsrewrite stop ws = using_body stop ws
body _ stop ws = term_body stop ws

abbrev pub raw_command : CommandKind → ℕ → ℕ → List Word → List Word → Body → RawCommand
raw_command kind at n ws behind b =
    record { at = at; kind = kind; bound = bound_of n ws; gas = gas_of n ws; «module» = module_of behind; first = b.0; second = b.1; cond = b.2 }

-- the command with a bound of n words; ws are the words between keyword and full stop
abbrev pub command_behind : CommandKind → ℕ → ℕ → List Word → ℕ → OrFault RawCommand
command_behind kind at stop ws n =
    and_then (body kind stop (behind_module (drop n ws))) (λ b. Ok (raw_command kind at n ws (drop n ws) b))

abbrev pub command : CommandKind → ℕ → ℕ → List Word → OrFault RawCommand
command kind at stop ws = command_behind kind at stop ws (bound_length kind ws)

-- ---- continue

abbrev pub raw_continue : ℕ → Option Token → RawCommand
raw_continue at bound = record { at = at; kind = Continue; bound = bound; gas = None; «module» = None; first = []; second = []; cond = [] }

-- the word behind which nothing stands
abbrev pub only : {X : Type 0} → X → List Word → OrFault X
only x [] = Ok x
only x (w ∷ ws) = unexpected (place w)

-- an optional number
abbrev pub continue : ℕ → List Word → OrFault RawCommand
continue at [] = Ok (raw_continue at None)
continue at (w ∷ ws) = if is_numeral w.text then only (raw_continue at (Some w.token)) ws else unexpected (place w)

-- ---- settings

abbrev pub select : ℕ → List Word → OrFault Setting
select stop [] = unexpected stop
select stop (w ∷ ws) = only (Select w.text) ws

abbrev pub trace : ℕ → List Word → OrFault Setting
trace stop [] = unexpected stop
trace stop (w ∷ ws) =
    if is_word (codes "on") w then only (Trace true) ws
    else (if is_word (codes "off") w then only (Trace false) ws else unexpected (place w))

-- `set`, which stands at `at`
abbrev pub setting : ℕ → ℕ → List Word → OrFault Setting
setting at stop [] = unexpected stop
setting at stop (w ∷ ws) =
    if is_word (codes "trace") w then trace stop ws
    else (if is_word (codes "show") w || is_word (codes "print") w then Ok Ignored
    else (if is_word (codes "include") w then Err (Unsupported SetInclude at)
    else (if is_word (codes "protect") w then Err (Unsupported SetProtect at)
    else (if is_word (codes "extend") w then Err (Unsupported SetExtend at)
    else unexpected (place w)))))
