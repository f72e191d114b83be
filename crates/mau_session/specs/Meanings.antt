-- What the words of the command line mean.
use Rattle.std.specs.Prelude.{ℕ, nat_le, ◌==◌, List, [], ◌∷◌, Bool, true, false, Option, Some, None, codes, slice_index, if◌then◌else◌}
use Rattle.std.specs.Option.{option_map}
use Rattle.std.specs.Str.{bytes_eq}
use Rattle.mau_session.specs.declared.meaning.Meaning.{Meaning}
use Rattle.mau_session.specs.declared.meaning.Meaning.TheVariants.{Run, Prove, Check, Make}
use Rattle.mau_session.specs.Bounds.{bound_in}

-- the budget of rewrites of each item where none is given
abbrev pub default_budget : ℕ
default_budget = 1000000

-- a budget that is given: decimal digits without a leading 0, a number from 1 to 1,000,000,000,000
abbrev pub budget_in : List ℕ → Option ℕ
budget_in w = if slice_index w 0 == 48 then None else bound_in w

-- the number of a session that is to be made, in the same digits: from 1 to 16
abbrev pub if_session : Option ℕ → Option ℕ
if_session (Some n) = if nat_le n 16 then Some n else None
if_session None = None

abbrev pub session_in : List ℕ → Option ℕ
session_in w = if_session (budget_in w)

-- the budget, by the words behind `run` or `prove`: there are none, or `--limit` and a budget
abbrev pub budget_of : List (List ℕ) → Option ℕ
budget_of [] = Some default_budget
budget_of (v ∷ []) = None
budget_of (v ∷ d ∷ []) = if bytes_eq v (codes "--limit") then budget_in d else None
budget_of (v ∷ d ∷ x ∷ ws) = None

-- the number of a session, by the words behind `make`
abbrev pub session_of : List (List ℕ) → Option ℕ
session_of [] = None
session_of (d ∷ []) = session_in d
session_of (d ∷ x ∷ ws) = None

-- the check of a document, where no word stands behind `check`
abbrev pub check_of : List (List ℕ) → Option Meaning
check_of [] = Some Check
check_of (x ∷ ws) = None

-- what a word asks for, with the words behind it
abbrev pub asked_for : List ℕ → List (List ℕ) → Option Meaning
asked_for w ws =
    if bytes_eq w (codes "run") then option_map Run (budget_of ws)
    else (if bytes_eq w (codes "prove") then option_map Prove (budget_of ws)
    else (if bytes_eq w (codes "make") then option_map Make (session_of ws)
    else (if bytes_eq w (codes "check") then check_of ws else None)))

-- what the words ask for, if they have a meaning
abbrev pub meaning_of : List (List ℕ) → Option Meaning
meaning_of [] = None
meaning_of (w ∷ ws) = asked_for w ws

-- a session is asked for; what other words ask for is not answered yet
abbrev pub is_session : Option Meaning → Bool
is_session (Some (Run budget)) = true
is_session _ = false
