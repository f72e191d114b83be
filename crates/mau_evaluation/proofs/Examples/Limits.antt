-- Levels, depths and overflows, and how often an evaluation must spend.
use Rattle.std.proofs.Common.{◌≡◌, ℕ, zero, suc, [], ◌∷◌, refl, inl, inr}
use Rattle.mau_terms.specs.Tree.{Tree, numeral, node}
use Rattle.mau_evaluation.specs.Run.{stopped, too_deep, overflowed, done, ended}
use Rattle.mau_evaluation.specs.Program.{Program}
use Rattle.mau_evaluation.specs.Evaluation.{admit, eval}
use Rattle.mau_evaluation.specs.Kept.{with_values, to_replaced, due_next, Due, Rebuilt, Spends}
use Rattle.mau_evaluation.proofs.Examples.Signature.{signature, program, eq, a, d, l, g, reduce}

abbrev Plain : Program
Plain = program [] []

-- s over the greatest numeral, which has depth 2
abbrev beyond : Tree
beyond = node 1 (numeral 340282366920938463463374607431768211455 ∷ [])

-- n more above t
abbrev under : ℕ → Tree → Tree
under zero t = t
under (suc n) t = g (under n t)

an_overflow : reduce Plain beyond ≡ ended overflowed
an_overflow = refl

-- at a depth of 1,000 it is still one, and one deeper the depth comes first
overflow_at_depth : reduce Plain (under 998 beyond) ≡ ended overflowed
overflow_at_depth = refl

overflow_below_depth : reduce Plain (under 999 beyond) ≡ ended too_deep
overflow_below_depth = refl

-- a depth of 1,000 is allowed
within_depth : admit signature.theory (under 999 a) 0 ≡ done (under 999 a) 0 0
within_depth = refl

too_deep_alone : reduce Plain (under 1000 a) ≡ ended too_deep
too_deep_alone = refl

-- the normal form is meant: s over a numeral is a numeral
normal_form_counts : reduce Plain (node 1 (numeral 4 ∷ [])) ≡ done (numeral 5) 0 1000000
normal_form_counts = refl

-- no level at all
no_level : eval Plain 0 9 a 9 ≡ ended too_deep
no_level = refl

-- each argument needs a level more
arguments_need_levels : eval Plain 3 9 (g (g a)) 9 ≡ done (g (g a)) 0 9
arguments_need_levels = refl

one_level_missing : eval Plain 2 9 (g (g a)) 9 ≡ ended too_deep
one_level_missing = refl

-- eq d = g(d) . goes down one level with each application
going_down : eval (program (eq d (g d) ∷ []) []) 9 9 d 99 ≡ ended too_deep
going_down = refl

going_down_without_budget : eval (program (eq d (g d) ∷ []) []) 9 9 d 3 ≡ ended stopped
going_down_without_budget = refl

-- eq d = l . eq l = d . stays on its level, whatever the levels
going_round : eval (program (eq d l ∷ eq l d ∷ []) []) 2 9 d 99 ≡ ended stopped
going_round = refl

-- ---- eq l = l . must spend any budget, even where results are remembered: l is due from itself

abbrev Loop : Program
Loop = program (eq l l ∷ []) []

stays_there : Rebuilt Loop l l
stays_there = with_values 17 [] [] 9 9 9 0 9 refl refl refl

due_from_itself : Due Loop l l
due_from_itself = due_next l l (to_replaced l l 9 9 9 0 9 stays_there refl)

must_spend : (b : ℕ) → Spends Loop l b
must_spend b = inr (l, inl refl, (l, stays_there, l, 0, record { level = 9; each = 9; budget = 9; left = 9; comes = refl }), due_from_itself)
