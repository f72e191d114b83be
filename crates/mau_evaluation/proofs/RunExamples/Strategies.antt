-- Runs of strategies.
use Rattle.std.proofs.Common.{◌≡◌, ℕ, List, [], ◌∷◌, Bool, true, false, refl}
use Rattle.mau_terms.specs.Tree.{Tree}
use Rattle.mau_evaluation.specs.Program.{Program, equals}
use Rattle.mau_evaluation.specs.Engine.{Engine}
use Rattle.mau_evaluation.specs.Strategy.{at_top, Strategy, idle, fail, every_rule, call, test, star, plus, to_normal, in_turn, either, or_else, branch, negation, attempt, test_of, StratDef}
use Rattle.mau_evaluation.proofs.Walk.{run_of, solutions_in}
use Rattle.mau_evaluation.proofs.RunExamples.Programs.{vending, cycle, endless, dollar, q, a, b, c, d, e, together, x, name, by, engine, short}

-- the solutions among the first 100 entries of a run, and whether it has ended there
abbrev run_with : Program → Engine → List StratDef → ℕ → Tree → Strategy → List Tree × Bool
run_with P L defs calls t s = let w = run_of P L defs 99 t (record { form = s; calls = calls; values = [] }) in (solutions_in w.0, w.1)

abbrev run : Program → Tree → Strategy → List Tree × Bool
run P t s = run_with P (engine P) [] 200 t s

-- ---- the vending machine

abbrev two : Tree
two = together (dollar ∷ dollar ∷ [])

-- buy-c ; buy-a
one_of_each : run vending two (in_turn (by 1) (by 2)) ≡ (together (q ∷ a ∷ c ∷ []) ∷ [], true)
one_of_each = refl

nothing : run vending two fail ≡ ([], true)
nothing = refl

-- idle *: the configuration comes again, and is not entered twice
once : run vending two (star idle) ≡ (two ∷ [], true)
once = refl

-- (change | buy-c) ? idle : buy-a: that the first of the two fails is no reason for buy-a
one_fails : run vending dollar (branch (either (by 3) (by 1)) idle (by 2)) ≡ (c ∷ [], true)
one_fails = refl

-- change ? idle : buy-a: nothing comes from the test, so buy-a
none_inside : run vending dollar (branch (by 3) idle (by 2)) ≡ (together (q ∷ a ∷ []) ∷ [], true)
none_inside = refl

-- all !
to_the_end : run vending two (to_normal every_rule) ≡ (together (c ∷ c ∷ []) ∷ together (q ∷ a ∷ c ∷ []) ∷ together (q ∷ q ∷ a ∷ a ∷ []) ∷ [], true)
to_the_end = refl

-- or-else, not, try and test
other : run vending dollar (or_else (by 3) (by 1)) ≡ (c ∷ [], true)
other = refl

fails : run vending dollar (negation (by 3)) ≡ (dollar ∷ [], true)
fails = refl

tried : run vending dollar (in_turn (attempt (by 3)) (attempt (by 1))) ≡ (c ∷ [], true)
tried = refl

tested : run vending dollar (test_of (by 1)) ≡ (dollar ∷ [], true)
tested = refl

-- ---- order: rl a => b . rl a => c . rl b => a . rl b => e .

-- all +: depth first over configurations, none entered twice. Behind b comes a again, and with it all * on a, which is open already; so e comes before c.
in_order_of_entry : run cycle a (plus every_rule) ≡ (b ∷ a ∷ e ∷ c ∷ [], true)
in_order_of_entry = refl

-- ---- runs that cannot go on

-- a test whose condition does not end: eq d = d
stops : run_with endless (short endless) [] 200 a (test at_top x (equals d d ∷ [])) ≡ ([], false)
stops = refl

-- idle | that test: a solution comes before
stops_behind : run_with endless (short endless) [] 200 a (either idle (test at_top x (equals d d ∷ []))) ≡ (a ∷ [], false)
stops_behind = refl

-- that test inside ? : a test that is cut gives no way to G
stops_inside : run_with endless (short endless) [] 200 a (branch (test at_top x (equals d d ∷ [])) idle idle) ≡ ([], false)
stops_inside = refl

-- sd 1 := 1 . with 3 calls left: the fourth goes too deep
abbrev loop : List StratDef
loop = record { name = name 1; args = []; body = call (name 1) []; cond = [] } ∷ []

calls_too_deep : run_with vending (engine vending) loop 3 dollar (call (name 1) []) ≡ ([], false)
calls_too_deep = refl
