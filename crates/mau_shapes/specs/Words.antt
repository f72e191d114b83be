-- What single words are in texts of strategies.
use Rattle.std.specs.Prelude.{ℕ, suc, ◌-◌, List, Bool, true, false, ◌||◌, if◌then◌else◌, codes, bytes_eq}
pub use Rattle.mau_shapes.specs.declared.words.Beginning.{Beginning}
pub use Rattle.mau_shapes.specs.declared.words.Beginning.TheVariants.{Parenthesis as of_bracket, All as of_all, Form as of_form, Test as of_test, Top as of_top, Wrapper as of_wrapper, Nothing as of_nothing, Name as of_name}
pub use Rattle.mau_shapes.specs.declared.words.Role.{Role}
pub use Rattle.mau_shapes.specs.declared.words.Role.TheVariants.{Mark as mark, Joint as joint, Question as question, Colon as colon, Condition as condition, Such as such, Conjunction as conjunction, Comma as comma, Arrow as arrow, OpeningRound as opening_round, OpeningSquare as opening_square, OpeningCurly as opening_curly, ClosingRound as closing_round, ClosingSquare as closing_square, ClosingCurly as closing_curly, Other as no_role}

abbrev pub Word : Type 0
Word = List ℕ

-- the words of a term or of a fragment, as they stand
abbrev pub Words : Type 0
Words = List Word

abbrev pub is : Word → Word → Bool
is v w = bytes_eq v w

-- ---- words with which a strategy may begin: `(`; `all`; `idle`, `fail`; a test; `top`; `not`, `try`, `test`; names

-- the words of forms that are none yet, the signs that stand behind a strategy, and closing brackets
abbrev pub begins_nothing : Word → Bool
begins_nothing w =
    is w (codes "matchrew") || (is w (codes "xmatchrew") || (is w (codes "amatchrew") || (is w (codes ";") || (is w (codes "|")
    || (is w (codes "?") || (is w (codes ":") || (is w (codes ")") || (is w (codes "]") || is w (codes "}")))))))))

unfoldable pub beginning : Word → Beginning
beginning w =
    if is w (codes "(") then of_bracket else
    (if is w (codes "all") then of_all else
    (if is w (codes "idle") || is w (codes "fail") then of_form else
    (if is w (codes "match") || (is w (codes "xmatch") || is w (codes "amatch")) then of_test else
    (if is w (codes "top") then of_top else
    (if is w (codes "not") || (is w (codes "try") || is w (codes "test")) then of_wrapper else
    (if begins_nothing w then of_nothing else of_name))))))

-- a word that is a name where no `(` follows
abbrev pub names : Beginning → Bool
names of_top = true
names of_wrapper = true
names of_name = true
names _ = false

-- a strategy by itself
abbrev pub stands_alone : Beginning → Bool
stands_alone of_all = true
stands_alone of_form = true
stands_alone b = names b

-- ---- words behind these: marks, signs with the levels of their forms, brackets

unfoldable pub role : Word → Role
role w =
    if is w (codes "(") then opening_round else
    (if is w (codes ")") then closing_round else
    (if is w (codes "[") then opening_square else
    (if is w (codes "]") then closing_square else
    (if is w (codes "{") then opening_curly else
    (if is w (codes "}") then closing_curly else
    (if is w (codes ",") then comma else
    (if is w (codes ";") then joint 3 else
    (if is w (codes "|") then joint 4 else
    (if is w (codes "or-else") then joint 5 else
    (if is w (codes "?") then question else
    (if is w (codes ":") then colon else
    (if is w (codes "*") || (is w (codes "+") || is w (codes "!")) then mark else
    (if is w (codes "s.t.") then condition else
    (if is w (codes "such") then such else
    (if is w (codes "/\\") then conjunction else
    (if is w (codes "<-") then arrow else no_role))))))))))))))))

-- ---- brackets

abbrev pub closes : Role → Bool
closes closing_round = true
closes closing_square = true
closes closing_curly = true
closes _ = false

-- how many brackets are open behind a word, where d are open before: a closing one closes the latest open one, of whatever kind
abbrev pub behind : ℕ → Role → ℕ
behind d opening_round = suc d
behind d opening_square = suc d
behind d opening_curly = suc d
behind d closing_round = d - 1
behind d closing_square = d - 1
behind d closing_curly = d - 1
behind d _ = d

-- what the term of a test, and each fragment of its condition, runs to
abbrev pub ends_test : Role → Bool
ends_test (joint n) = true
ends_test question = true
ends_test colon = true
ends_test condition = true
ends_test such = true
ends_test _ = false

abbrev pub ends_fragment : Role → Bool
ends_fragment conjunction = true
ends_fragment r = ends_test r

abbrev pub ends_variable : Role → Bool
ends_variable arrow = true
ends_variable comma = true
ends_variable _ = false

abbrev pub ends_term : Role → Bool
ends_term comma = true
ends_term _ = false
