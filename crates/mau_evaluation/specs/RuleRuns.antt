-- The runs of rewrite and frewrite, over an evaluation, sorts, and the first solution of a condition.
use Rattle.std.specs.Prelude.{ℕ, zero, suc, List, [], ◌∷◌, ◌++◌, drop, take, Bool, true, false, ◌==◌, if◌then◌else◌, Option, Some, None}
use Rattle.mau_terms.specs.Tree.{Tree, variable, numeral, apply, Trees, no_trees, tree, node}
use Rattle.mau_terms.specs.Subst.{variables, instance}
use Rattle.mau_evaluation.specs.Run.{Run, gives, ends, stopped, and_then, and_try, spending, first_of, choose, where_true}
use Rattle.mau_evaluation.specs.Program.{Fragment, Rule, Program}
use Rattle.mau_evaluation.specs.Listing.{Solution, solutions_within}
use Rattle.mau_evaluation.specs.Evaluation.{Binding, look_up, have_sorts, binding_of, in_context, solve, levels, admit}
use Rattle.mau_evaluation.specs.Rules.{Place, places_of}

-- ---- which rule is tried first

-- of each operator, how many rules stand before the one that is tried first: those up to the one that was last applied at a place with this operator at its
-- top, or none
abbrev pub Turns : Type 0
Turns = ℕ → ℕ

abbrev pub numbered : ℕ → List Rule → List (ℕ × Rule)
numbered n [] = []
numbered n (q ∷ qs) = (n, q) ∷ numbered (suc n) qs

-- the rules behind the first n, and then those
abbrev pub cyclically : ℕ → List (ℕ × Rule) → List (ℕ × Rule)
cyclically n qs = drop n qs ++ take n qs

-- at a variable or a numeral from the first on
abbrev pub rules_at : List (ℕ × Rule) → Turns → Tree → List (ℕ × Rule)
rules_at qs g (apply f ts) = cyclically (g f) qs
rules_at qs g t = qs

abbrev pub turn_to : Turns → Tree → ℕ → Turns
turn_to g (apply f ts) n = λ h. if h == f then n else g h
turn_to g t n = g

-- ---- what a run has, and how it ends

-- where a run stands: its term, and the turns of the rules
pub record Stand : Type 0 where
  pub term : Tree
  pub turns : Turns

pub data RuleEnd : Type 0 where
  -- no place has a rewrite
  normal : RuleEnd
  -- as many rewrites as were asked for were made
  bound : RuleEnd

abbrev pub PassEnd : Type 0
PassEnd = Stand × RuleEnd

-- within a pass of frewrite: where it stands, the rewrites that may still be made (none: any number), and whether the pass made one
pub record Pass : Type 0 where
  pub stand : Stand
  pub left : Option ℕ
  pub made : Bool

-- the terms that a pass gave for some arguments
pub record PassList : Type 0 where
  pub items : List Tree
  pub state : Pass

abbrev pub one_less : Option ℕ → Option ℕ
one_less None = None
one_less (Some zero) = Some zero
one_less (Some (suc n)) = Some n

-- as many as may be were made
abbrev pub is_out : Option ℕ → Bool
is_out (Some zero) = true
is_out _ = false

abbrev pub with_term : Pass → Tree → Pass
with_term s t = record { stand = record { term = t; turns = s.stand.turns }; left = s.left; made = s.made }

module _ (P : Program) (ev : Tree → Run Tree) (sorts : Tree → Run (List ℕ)) (ask : List Fragment → Binding → Run (Option Binding)) where
  -- ---- one rewrite

  -- the whole term with the rule's right side in the place of the matched part, where its condition gave a binding; the next turn is behind this rule
  abbrev pub result_of : Turns → Place → ℕ × Rule → Solution → Option Binding → Option Stand
  result_of g s q x None = None
  result_of g s q x (Some σ) =
      Some (record { term = s.around (in_context P.sign.theory s.term x.left x.right (instance (look_up σ) q.1.right)); turns = turn_to g s.term (suc q.0) })

  -- an executable rule at a place: its least solution, with extension, whose values have their variables' sorts and whose condition holds
  abbrev pub by_rule : Turns → Place → ℕ × Rule → Run (Option Stand)
  by_rule g s q =
      where_true q.1.exec (first_of (λ x. and_try (have_sorts sorts (variables q.1.left) x.values) λ ok.
      where_true ok (and_try (ask q.1.cond (binding_of q.1.left x)) λ o. gives (result_of g s q x o))) (solutions_within P.sign q.1.left s.term))

  -- the first rule by turn that applies at a place
  abbrev pub at_place : Turns → Place → Run (Option Stand)
  at_place g s = first_of (by_rule g s) (rules_at (numbered 0 P.rules) g s.term)

  -- the first place in pre-order, outside frozen arguments, at which a rule applies
  abbrev pub one_rewrite : Stand → Run (Option Stand)
  one_rewrite s = first_of (at_place s.turns) (places_of P s.term)

  abbrev pub evaluated : Stand → Run Stand
  evaluated s = and_then (ev s.term) λ v. gives (record { term = v; turns = s.turns })

  -- ---- rewrite

  -- a rewrite counts one, in the result and against the budget, and then the whole term is evaluated; where there was none the run ends
  abbrev pub go_on_from : (Stand → Run PassEnd) → Stand → Option Stand → Run PassEnd
  go_on_from next s None = gives (s, normal)
  go_on_from next s (Some u) = spending (and_then (evaluated u) next)

  -- from an evaluated term: Bound where no rewrite is left to be made, and else one rewrite, or Normal; n is how many may be made, none for any number
  abbrev pub rewriting_on : (Stand → Run PassEnd) → Option ℕ → Stand → Run PassEnd
  rewriting_on next n s = choose (is_out n) (gives (s, bound)) (and_then (one_rewrite s) (go_on_from next s))

  -- at most m + 1 rewrites one after the other
  abbrev pub rewrites : ℕ → Option ℕ → Stand → Run PassEnd
  rewrites zero n s = rewriting_on (λ u. ends stopped) n s
  rewrites (suc m) n s = rewriting_on (rewrites m (one_less n)) n s

  -- any number: each takes one from the budget, so there are no more than there is budget
  abbrev pub rewriting : Option ℕ → Stand → Run PassEnd
  rewriting n s = λ b. rewrites b n s b

  -- the rewrite run of n rewrites, or of any number: the term is evaluated first
  abbrev pub rewrite_run : Option ℕ → Stand → Run PassEnd
  rewrite_run n s = and_then (evaluated s) (rewriting n)

  -- ---- frewrite

  abbrev pub top_from : (Pass → Run Pass) → Pass → Option Stand → Run Pass
  top_from next s None = gives s
  top_from next s (Some u) = spending (and_then (evaluated u) λ v. next (record { stand = v; left = one_less s.left; made = true }))

  -- up to g rewrites at the top, each followed by evaluation
  abbrev pub at_top_up_to : ℕ → Pass → Run Pass
  at_top_up_to zero s = gives s
  at_top_up_to (suc g) s =
      choose (is_out s.left) (gives s) (and_then (at_place s.stand.turns (record { term = s.stand.term; around = λ v. v })) (top_from (at_top_up_to g) s))

  -- a term whose arguments were passed over: it is evaluated and rewritten at its top; but once as many rewrites as may be were made it is left as it is
  abbrev pub top_of_pass : ℕ → Pass → Run Pass
  top_of_pass g s = choose (is_out s.left) (gives s) (and_then (ev s.stand.term) λ v. at_top_up_to g (with_term s v))

  abbrev mutual
    -- a pass over t with up to g rewrites at each top; s has the turns and what may still be made
    pub pass : ℕ → Tree → Pass → Run Pass
    pass g (variable i r) s = top_of_pass g (with_term s (variable i r))
    pass g (numeral n) s = top_of_pass g (with_term s (numeral n))
    pass g (apply f ts) s = and_then (pass_list g f 0 ts s) λ p. top_of_pass g (with_term p.state (node f p.items))

    -- over the arguments from the n-th on, from left to right; frozen ones stay
    pub pass_list : ℕ → ℕ → ℕ → Trees → Pass → Run PassList
    pass_list g f n no_trees s = gives (record { items = []; state = s })
    pass_list g f n (tree t ts) s =
        and_then (choose (P.frozen f n) (gives (with_term s t)) (pass g t s)) λ q.
        and_then (pass_list g f (suc n) ts q) λ p. gives (record { items = q.stand.term ∷ p.items; state = p.state })

  -- behind a pass: where as many rewrites as may be were made, the whole term is evaluated and the run ends; else another pass follows one that made a rewrite
  abbrev pub after_pass : (Option ℕ → Stand → Run PassEnd) → Pass → Run PassEnd
  after_pass next s =
      choose (is_out s.left) (and_then (evaluated s.stand) λ v. gives (v, bound)) (choose s.made (next s.left s.stand) (gives (s.stand, normal)))

  -- a pass over the whole term, with up to g rewrites at each top
  abbrev pub passing_on : (Option ℕ → Stand → Run PassEnd) → ℕ → Option ℕ → Stand → Run PassEnd
  passing_on next g n s = and_then (pass g s.term (record { stand = s; left = n; made = false })) (after_pass next)

  -- at most m + 1 passes one after the other
  abbrev pub passes : ℕ → ℕ → Option ℕ → Stand → Run PassEnd
  passes g zero n s = passing_on (λ k u. ends stopped) g n s
  passes g (suc m) n s = passing_on (passes g m) g n s

  -- any number: one that another follows takes one at least from the budget
  abbrev pub passing : ℕ → Option ℕ → Stand → Run PassEnd
  passing g n s = λ b. passes g b n s b

  -- the frewrite run of n rewrites, or of any number. `admitted` gives the normal form where it is within the limits of depth and of numerals.
  abbrev pub frewrite_run : (Tree → Run Tree) → ℕ → Option ℕ → Stand → Run PassEnd
  frewrite_run admitted g n s = and_then (admitted s.term) λ t. passing g n (record { term = t; turns = s.turns })

-- ---- under limits: terms are evaluated with k + 1 levels and conditions asked with k, B is the budget of each membership's condition

abbrev pub rewrite_at : Program → ℕ → ℕ → Option ℕ → Stand → Run PassEnd
rewrite_at P k B n s = rewrite_run P (levels P B (suc k)).eval (levels P B (suc k)).sorts (solve P (levels P B k)) n s

abbrev pub frewrite_at : Program → ℕ → ℕ → ℕ → Option ℕ → Stand → Run PassEnd
frewrite_at P k B g n s = frewrite_run P (levels P B (suc k)).eval (levels P B (suc k)).sorts (solve P (levels P B k)) (admit P.sign.theory) g n s
