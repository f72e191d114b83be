-- Statements: a label, two sides, a condition and attributes.
use Rattle.std.specs.Prelude.{ℕ, ◌+◌, ◌-◌, ◌==◌, List, [], ◌∷◌, ◌++◌, length, take, drop, Bool, true, false, ◌&&◌, ◌||◌, Option, Some, None, Ok, Err, if◌then◌else◌, codes}
use Rattle.std.specs.Option.{option_or}
use Rattle.mau_tokens.specs.declared.token.Token.{Token}
use Rattle.mau_modtext.specs.Word.{Word}
use Rattle.mau_modtext.specs.Words.{is_word, place, tokens, is_string}
use Rattle.mau_modtext.specs.Faults.{OrFault, and_then, both}
use Rattle.mau_modtext.specs.Brackets.{begins, first_outside, depth_behind}
use Rattle.mau_modtext.specs.Signs.{stands}
use Rattle.mau_modtext.specs.Parts.{parts}
use Rattle.mau_modtext.specs.Sides.{place_or, unexpected, sides, condition}
use Rattle.mau_modtext.specs.declared.fault.Feature.TheVariants.{Print, Variant}
use Rattle.mau_modtext.specs.declared.fault.Fault.TheVariants.{Unsupported}
use Rattle.mau_modtext.specs.declared.brackets.Sign.{Sign}
use Rattle.mau_modtext.specs.declared.brackets.Sign.TheVariants.{Equals, Colon, Arrow, Assigns, Attributes}
use Rattle.mau_modtext.specs.declared.statements.Head.{Head}
use Rattle.mau_modtext.specs.declared.raw.StatementKind.{StatementKind}
use Rattle.mau_modtext.specs.declared.raw.StatementKind.TheVariants.{Equation, Membership, Rule, Definition}
use Rattle.mau_modtext.specs.declared.raw.RawAttr.{RawAttr}
use Rattle.mau_modtext.specs.declared.raw.RawFragment.{RawFragment}
use Rattle.mau_modtext.specs.declared.raw.RawStatement.{RawStatement}

-- ---- attributes of a statement

-- an attribute of n words: its name is the first of them
abbrev pub attribute : List Word → ℕ → RawAttr × ℕ
attribute ws n = (record { name = tokens (take 1 ws); value = tokens (take (n - 1) (drop 1 ws)) }, n)

-- an attribute of two words, the second of which passes the test
abbrev pub with_word : (Word → Bool) → ℕ → List Word → List Word → OrFault (RawAttr × ℕ)
with_word test behind ws [] = unexpected behind
with_word test behind ws (v ∷ vs) = if test v then Ok (attribute ws 2) else unexpected (place v)

abbrev pub is_equation : StatementKind → Bool
is_equation Equation = true
is_equation _ = false

abbrev pub is_definition : StatementKind → Bool
is_definition Definition = true
is_definition _ = false

-- the attribute with which the words begin, where `behind` is the place of the closing bracket
abbrev pub statement_attribute : StatementKind → ℕ → List Word → OrFault (RawAttr × ℕ)
statement_attribute kind behind [] = unexpected behind
statement_attribute kind behind (w ∷ ws) =
    if is_word (codes "label") w then with_word (λ _. true) behind (w ∷ ws) ws
    else (if is_word (codes "metadata") w then with_word is_string behind (w ∷ ws) ws
    else (if is_word (codes "owise") w || is_word (codes "otherwise") w then (if is_equation kind then Ok (attribute (w ∷ ws) 1) else unexpected (place w))
    else (if is_word (codes "nonexec") w then (if is_definition kind then unexpected (place w) else Ok (attribute (w ∷ ws) 1))
    else (if is_word (codes "print") w then Err (Unsupported Print (place w))
    else (if is_word (codes "variant") w then Err (Unsupported Variant (place w))
    else unexpected (place w))))))

-- the name that the first `label` gives; `label` and `metadata` take the word behind them
abbrev pub label_given : List Word → Option Token
label_given [] = None
label_given (w ∷ []) = None
label_given (w ∷ v ∷ ws) =
    if is_word (codes "label") w then Some v.token
    else (if is_word (codes "metadata") w then label_given ws else label_given (v ∷ ws))

-- ---- the parts of a statement

abbrev pub first_token : List Word → Option Token
first_token [] = None
first_token (w ∷ ws) = Some w.token

-- the label `[NAME] :` with which the words behind the keyword begin
abbrev pub label_before : List Word → Option Token
label_before ws =
    if begins (codes "[") ws && begins (codes "]") (drop 2 ws) && begins (codes ":") (drop 3 ws)
    then first_token (drop 1 ws) else None

abbrev pub behind_label : List Word → Option Token → List Word
behind_label ws None = ws
behind_label ws (Some _) = drop 4 ws

-- the words before the attributes, which begin at a
abbrev pub before_attributes : List Word → Option ℕ → List Word
before_attributes ws None = ws
before_attributes ws (Some a) = take a ws

abbrev pub without_last : List Word → List Word
without_last ws = take (length ws - 1) ws

-- the words between the brackets of the attributes
abbrev pub in_attributes : List Word → Option ℕ → List Word
in_attributes ws None = []
in_attributes ws (Some a) = without_last (drop (a + 1) ws)

-- the place behind the words before the attributes
abbrev pub behind_core : ℕ → List Word → Option ℕ → ℕ
behind_core stop ws None = stop
behind_core stop ws (Some a) = place_or stop (drop a ws)

-- ---- conditions: what begins with the one `if` that stays open

-- the places of the `if`s that are open behind a word at i: a `fi` closes the latest
abbrev pub with_if : ℕ → List ℕ → Word → List ℕ
with_if i open_ones w =
    if is_word (codes "if") w then open_ones ++ i ∷ []
    else (if is_word (codes "fi") w then take (length open_ones - 1) open_ones else open_ones)

-- the same behind all words, of which the first stands at i with d brackets open before it; only those outside brackets count
abbrev pub open_ifs : ℕ → ℕ → List ℕ → List Word → List ℕ
open_ifs d i open_ones [] = open_ones
open_ifs d i open_ones (w ∷ ws) = open_ifs (depth_behind d w) (i + 1) (if d == 0 then with_if i open_ones w else open_ones) ws

abbrev pub only_one : List ℕ → Option ℕ
only_one [] = None
only_one (i ∷ []) = Some i
only_one (i ∷ j ∷ is) = None

-- the place of the `if` with which the condition begins
abbrev pub condition_place : List Word → Option ℕ
condition_place ws = only_one (open_ifs 0 0 [] ws)

-- ---- statements

abbrev pub is_rule : StatementKind → Bool
is_rule Rule = true
is_rule _ = false

abbrev pub sign_of : StatementKind → Sign
sign_of Equation = Equals
sign_of Membership = Colon
sign_of Rule = Arrow
sign_of Definition = Assigns

-- what stands before the attributes: the sides, and the condition. The first sign before the `if` parts the sides; where it
-- is missing, the full stop is at fault. Of several faults the earliest is named.
abbrev pub Core : Type 0
Core = (List Token × List Token) × List RawFragment

abbrev pub unconditional : Head → ℕ → List Word → OrFault Core
unconditional h behind ws = and_then (sides h.stop behind (sign_of h.kind) ws) (λ s. Ok (s, []))

-- where no `if` stays open, or several do, the keyword is at fault
abbrev pub conditional : Head → ℕ → List Word → Option ℕ → OrFault Core
conditional h behind ws None = unexpected h.at
conditional h behind ws (Some i) =
    both (sides h.stop (place_or behind (drop i ws)) (sign_of h.kind) (take i ws)) (condition (is_rule h.kind) behind (drop (i + 1) ws))

abbrev pub core : Head → ℕ → List Word → OrFault Core
core h behind ws = if h.has_if then conditional h behind ws (condition_place ws) else unconditional h behind ws

-- the place of the last word
abbrev pub last_place : ℕ → List Word → ℕ
last_place stop ws = place_or stop (drop (length ws - 1) ws)

abbrev pub raw_statement : Head → Option Token → List Word → Core × List RawAttr → RawStatement
raw_statement h label attrs p =
    record { at = h.at; kind = h.kind; label = option_or label (label_given attrs); left = p.0.0.0; right = p.0.0.1; cond = p.0.1; attrs = p.1 }

-- the statement whose words behind keyword and label are these; its attributes begin at a
abbrev pub statement_at : Head → Option Token → List Word → Option ℕ → OrFault RawStatement
statement_at h label ws a =
    and_then (both (core h (behind_core h.stop ws a) (before_attributes ws a))
    (parts (statement_attribute h.kind (last_place h.stop ws)) (in_attributes ws a))) (λ p.
    Ok (raw_statement h label (in_attributes ws a) p))

abbrev pub statement_behind : Head → Option Token → List Word → OrFault RawStatement
statement_behind h label ws = statement_at h label ws (first_outside (stands Attributes) ws)

-- the statement of the words between its keyword and its full stop
abbrev pub statement : Head → List Word → OrFault RawStatement
statement h ws = statement_behind h (label_before ws) (behind_label ws (label_before ws))
