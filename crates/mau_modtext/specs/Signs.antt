-- What is looked for outside brackets.
use Rattle.std.specs.Prelude.{ℕ, ◌+◌, ◌==◌, List, [], ◌∷◌, length, drop, Bool, false, ◌&&◌, ◌||◌, Option, Some, None, codes}
use Rattle.mau_modtext.specs.Word.{Word}
use Rattle.mau_modtext.specs.Words.{is_word}
use Rattle.mau_modtext.specs.Brackets.{begins, closing}
use Rattle.mau_modtext.specs.declared.brackets.Sign.{Sign}
use Rattle.mau_modtext.specs.declared.brackets.Sign.TheVariants.{Stop, Subject, Condition, Using, And, Equals, Colon, Arrow, Assigns, Attributes, OperatorAttribute}

-- the words begin with `s.t.` or `such that`
abbrev pub begins_condition : List Word → Bool
begins_condition [] = false
begins_condition (w ∷ ws) = is_word (codes "s.t.") w || (is_word (codes "such") w && begins (codes "that") ws)

-- the words with which an attribute of a statement begins
abbrev pub begins_attribute : List Word → Bool
begins_attribute [] = false
begins_attribute (w ∷ ws) =
    is_word (codes "label") w || is_word (codes "owise") w || is_word (codes "otherwise") w || is_word (codes "nonexec") w
    || is_word (codes "metadata") w || is_word (codes "print") w || is_word (codes "variant") w

-- the bracket closed at e is a group of all the words
abbrev pub is_group : List Word → Option ℕ → Bool
is_group ws None = false
is_group ws (Some e) = e + 1 == length ws && begins (codes "]") (drop e ws)

-- the words are a group in `[` and `]` whose first word is one of an attribute
abbrev pub begins_attributes : List Word → Bool
begins_attributes ws = begins (codes "[") ws && begins_attribute (drop 1 ws) && is_group ws (closing ws)

-- the words with which an attribute of an operator begins
abbrev pub begins_operator_attribute : List Word → Bool
begins_operator_attribute [] = false
begins_operator_attribute (w ∷ ws) =
    is_word (codes "assoc") w || is_word (codes "comm") w || is_word (codes "id:") w || is_word (codes "prec") w
    || is_word (codes "gather") w || is_word (codes "strat") w || is_word (codes "frozen") w || is_word (codes "ctor") w
    || is_word (codes "memo") w || is_word (codes "ditto") w || is_word (codes "format") w || is_word (codes "metadata") w
    || is_word (codes "idem") w || is_word (codes "iter") w || is_word (codes "poly") w || is_word (codes "special") w
    || is_word (codes "config") w || is_word (codes "object") w || is_word (codes "msg") w || is_word (codes "portal") w
    || is_word (codes "pconst") w || is_word (codes "left") w || is_word (codes "right") w

-- the words begin with the sign; with attributes, where they are the rest of the words
abbrev pub stands : Sign → List Word → Bool
stands Stop ws = begins (codes ".") ws
stands Subject ws = begins (codes "<=?") ws
stands Condition ws = begins_condition ws
stands Using ws = begins (codes "using") ws
stands And ws = begins (codes "/\\") ws
stands Equals ws = begins (codes "=") ws
stands Colon ws = begins (codes ":") ws
stands Arrow ws = begins (codes "=>") ws
stands Assigns ws = begins (codes ":=") ws
stands Attributes ws = begins_attributes ws
stands OperatorAttribute ws = begins_operator_attribute ws
