-- Ordered lists of results, and of bodies.
use Rattle.std.proofs.Common.{◌≡◌, List, [], ◌∷◌, refl}
use Rattle.mau_terms.specs.Tree.{Tree}
use Rattle.mau_evaluation.specs.Run.{stopped}
use Rattle.mau_evaluation.specs.Program.{equals, matches, reaches, Program}
use Rattle.mau_evaluation.specs.Strategy.{at_top, within_top, anywhere, Assign, Strategy, idle, fail, every_rule, label, top_only, test, StratDef}
use Rattle.mau_evaluation.specs.Answers.{Answers, no_more, ends_by, answer}
use Rattle.mau_evaluation.specs.OrderedLists.{results_of, bodies_of}
use Rattle.mau_evaluation.proofs.RunExamples.Programs.{system, endless, a, b, c, d, pair, together, h, g, x, y, name, rl, crl, nonexec, by, engine, short}

abbrev lists : Program → Strategy → Tree → Answers Tree
lists P s t = results_of P (engine P) [] s t

-- ---- rules: rl [1] a => b . rl [1] a => c . rl [2] c => b .

abbrev P : Program
P = system [] (rl 1 a b ∷ rl 1 a c ∷ rl 2 c b ∷ [])

-- each place in pre-order, each rule in module order; not below the frozen argument
each_rule : lists P every_rule (h a a) ≡ answer (h b a) (answer (h c a) no_more)
each_rule = refl

by_label : lists P (by 1) (h c a) ≡ no_more
by_label = refl

by_other_label : lists P (by 2) (h c a) ≡ answer (h b a) no_more
by_other_label = refl

-- the root alone
at_the_root : lists P (top_only every_rule) (h a a) ≡ no_more
at_the_root = refl

no_such_label : lists P (by 3) a ≡ no_more
no_such_label = refl

-- ---- which rules may be used

abbrev x_gets : Tree → Assign
x_gets t = record { name = name 120; sort = 3; term = t }

-- rl [1] a => X [nonexec]: only where X is assigned
abbrev Q : Program
Q = system [] (nonexec (rl 1 a x) ∷ [])

not_determined : lists Q every_rule a ≡ no_more
not_determined = refl

assigned : lists Q (label (name 1) (x_gets b ∷ [])) a ≡ answer b no_more
assigned = refl

-- the same value twice, and two values
assigned_twice : lists Q (label (name 1) (x_gets b ∷ x_gets b ∷ [])) a ≡ answer b no_more
assigned_twice = refl

assigned_two : lists Q (label (name 1) (x_gets b ∷ x_gets c ∷ [])) a ≡ no_more
assigned_two = refl

-- Y is no variable of the rule
not_its_own : lists Q (label (name 1) (record { name = name 121; sort = 3; term = b } ∷ [])) a ≡ no_more
not_its_own = refl

-- rl [1] g(X) => X [nonexec]: the left side determines X, so it is used by a label and by all
abbrev R : Program
R = system [] (nonexec (rl 1 (g x) x) ∷ [])

determined : lists R (by 1) (g a) ≡ answer a no_more
determined = refl

determined_for_all : lists R every_rule (g a) ≡ answer a no_more
determined_for_all = refl

-- crl [1] a => X if X := b [nonexec]: so does a matching fragment; and crl [1] a => b if X = X [nonexec] has a variable that nothing determines
by_a_fragment : lists (system [] (nonexec (crl 1 a x (matches x b ∷ [])) ∷ [])) every_rule a ≡ answer b no_more
by_a_fragment = refl

by_nothing : lists (system [] (nonexec (crl 1 a b (equals x x ∷ [])) ∷ [])) every_rule a ≡ no_more
by_nothing = refl

-- a rule with a rewriting fragment is left out
rewriting : lists (system [] (crl 1 a b (reaches a c ∷ []) ∷ [])) every_rule a ≡ no_more
rewriting = refl

-- ---- conditions

-- crl [1] a => X if X := b, X = c, and crl [1] a => X if X := b
failing : lists (system [] (crl 1 a x (matches x b ∷ equals x c ∷ []) ∷ [])) every_rule a ≡ no_more
failing = refl

holding : lists (system [] (crl 1 a x (matches x b ∷ []) ∷ [])) every_rule a ≡ answer b no_more
holding = refl

-- crl [1] a => X if X Y := b c: each solution of the condition, in order
each_solution : lists (system [] (crl 1 a x (matches (pair x y) (pair b c) ∷ []) ∷ [])) every_rule a ≡ answer c (answer b no_more)
each_solution = refl

-- ---- tests

-- match at the root without extension, xmatch with it, amatch at any place with it, also below a frozen argument
matched : lists P (test at_top (h x c) []) (h a c) ≡ answer (h a c) no_more
matched = refl

not_matched : lists P (test at_top c []) (h a c) ≡ no_more
not_matched = refl

not_whole : lists P (test at_top (pair a b) []) (together (a ∷ c ∷ b ∷ [])) ≡ no_more
not_whole = refl

in_part : lists P (test within_top (pair a b) []) (together (a ∷ c ∷ b ∷ [])) ≡ answer (together (a ∷ c ∷ b ∷ [])) no_more
in_part = refl

matched_below : lists P (test anywhere c []) (h a c) ≡ answer (h a c) no_more
matched_below = refl

-- a variable that a call bound is fixed
fixed : results_of P (engine P) (((0, 3), b) ∷ []) (test at_top (h x y) []) (h a c) ≡ no_more
fixed = refl

-- ---- tests whose condition does not end: eq g(a) = a . eq g(c) = g(c) . eq d = d .

stops : results_of endless (short endless) [] (test at_top x (equals d d ∷ [])) a ≡ ends_by stopped
stops = refl

-- X Y in a c has the solutions a, c and c, a. g(X) = a holds for the first, so nothing is asked for the second, where g(c) would not end; g(Y) = a is asked for c first.
holds_first : results_of endless (short endless) [] (test at_top (pair x y) (equals (g x) a ∷ [])) (together (a ∷ c ∷ [])) ≡ answer (together (a ∷ c ∷ [])) no_more
holds_first = refl

stops_first : results_of endless (short endless) [] (test at_top (pair x y) (equals (g y) a ∷ [])) (together (a ∷ c ∷ [])) ≡ ends_by stopped
stops_first = refl

-- ---- calls: sd 2(X) := idle . sd 2 := fail .

abbrev defs : List StratDef
defs = record { name = name 2; args = x ∷ []; body = idle; cond = [] } ∷ record { name = name 2; args = []; body = fail; cond = [] } ∷ []

-- by the number of arguments, with the values of the variables
called : bodies_of P (engine P) defs 4 [] (name 2) (b ∷ []) ≡ answer (record { form = idle; calls = 4; values = ((0, 3), b) ∷ [] }) no_more
called = refl

called_bare : bodies_of P (engine P) defs 4 [] (name 2) [] ≡ answer (record { form = fail; calls = 4; values = [] }) no_more
called_bare = refl
