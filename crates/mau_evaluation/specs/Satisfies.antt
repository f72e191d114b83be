-- Which terms satisfy a strategy from a term, and where it is cut.
use Rattle.std.specs.Prelude.{◌≡◌, ℕ, zero, suc, List, [], ◌∷◌, map, Bool, true, false, not, ◌==◌, ◌&&◌, ◌||◌, if◌then◌else◌, Option, Some, None, ◌⊎◌}
use Rattle.mau_terms.specs.Tree.{Tree, variable}
use Rattle.mau_terms.specs.Subst.{Variable, variables, instance}
use Rattle.mau_terms.specs.Finite.{IsIn, each_of}
use Rattle.mau_evaluation.specs.Run.{End, done, ended}
use Rattle.mau_evaluation.specs.Program.{Fragment, equals, matches, has_sort, reaches, Rule, Program}
use Rattle.mau_evaluation.specs.Listing.{same_tree, Solution, solutions, solutions_within}
use Rattle.mau_evaluation.specs.Evaluation.{have_sorts, Binding, look_up, binds, extend, agree}
use Rattle.mau_evaluation.specs.Engine.{Engine}
use Rattle.mau_evaluation.specs.Rules.{Place, places, places_of, root_of, Evaluates, EvaluationEnds, HaveSorts, Shows, AskingEnds, has_reach, Rewrites, RewritingEnds}
use Rattle.mau_evaluation.specs.Strategy.{TestKind, at_top, within_top, anywhere, Assign, Strategy, idle, fail, every_rule, label, top_only, call, test, star, plus, to_normal, in_turn, either, or_else, branch, negation, attempt, test_of, part_rewrite, label_by, StratDef}

-- ---- meanings, and how the forms put them together

-- what a strategy means on evaluated terms: `sat t u`, u satisfies it from t; `cut t`, it is cut from t, since something that it asks for there ends by Stopped,
-- Too deep or Overflow, or a call goes too deep
pub record Meaning : Type 1 where
  pub sat : Tree → Tree → Type 0
  pub cut : Tree → Type 0

-- a finite chain from one term to another, of length 0 or more
pub data Chain (R : Tree → Tree → Type 0) : Tree → Tree → Type 0 where
  none_more : {t : Tree} → Chain R t t
  one_more : {t u v : Tree} → R t u → Chain R u v → Chain R t v

-- u is t
abbrev pub idle_is : Meaning
idle_is = record { sat = λ t u. u ≡ t; cut = λ t. ⊥ }

-- never
abbrev pub fail_is : Meaning
fail_is = record { sat = λ t u. ⊥; cut = λ t. ⊥ }

-- `E ; F`: some v with E from t to v and F from v to u. Cut where E is cut from t, or F from some v with E from t to v.
abbrev pub turn : Meaning → Meaning → Meaning
turn m k = record {
  sat = λ t u. (v : Tree) × m.sat t v × k.sat v u;
  cut = λ t. m.cut t ⊎ ((v : Tree) × m.sat t v × k.cut v);
}

-- `E | F`: one of them. Cut where one of them is cut.
abbrev pub one_of : Meaning → Meaning → Meaning
one_of m k = record { sat = λ t u. m.sat t u ⊎ k.sat t u; cut = λ t. m.cut t ⊎ k.cut t }

-- `E *`: a chain of E from t to u. Cut where E is cut from a term that a chain reaches.
abbrev pub again : Meaning → Meaning
again m = record { sat = Chain m.sat; cut = λ t. (v : Tree) × Chain m.sat t v × m.cut v }

-- no v satisfies the strategy from t
abbrev pub HasNone : Meaning → Tree → Type 0
HasNone m t = (v : Tree) → m.sat t v → ⊥

-- `E ? F : G`: some v with E from t to v and F from v to u; or no v satisfies E from t, E is not cut from t, and G leads from t to u. Cut where E is cut from t,
-- or F from some v with E from t to v, or there is no such v and G is cut from t.
abbrev pub where_some : Meaning → Meaning → Meaning → Meaning
where_some m k n = record {
  sat = λ t u. ((v : Tree) × m.sat t v × k.sat v u) ⊎ (HasNone m t × (m.cut t → ⊥) × n.sat t u);
  cut = λ t. m.cut t ⊎ (((v : Tree) × m.sat t v × k.cut v) ⊎ (HasNone m t × n.cut t));
}

-- `not(E)` is `E ? fail : idle`
abbrev pub not_so : Meaning → Meaning
not_so m = where_some m fail_is idle_is

-- ---- what is assigned to a rule's variables, and which rules may be used

-- the variable of a name and a sort in a list of them
abbrev pub index_of : (List ℕ → List ℕ → Bool) → List (List ℕ × ℕ) → ℕ → List ℕ → ℕ → Option Variable
index_of eq [] n x s = None
index_of eq (e ∷ es) n x s = if eq e.0 x && (e.1 == s) then Some (n, s) else index_of eq es (suc n) x s

abbrev pub same_name : List ℕ → List ℕ → Bool
same_name [] [] = true
same_name [] (y ∷ ys) = false
same_name (x ∷ xs) [] = false
same_name (x ∷ xs) (y ∷ ys) = (x == y) && same_name xs ys

abbrev pub binds_all : Binding → List (List ℕ × ℕ) → ℕ → Bool
binds_all σ [] n = true
binds_all σ (e ∷ es) n = binds σ (n, e.1) && binds_all σ es (suc n)

-- x has no other value yet
abbrev pub may_add : Binding → Variable → Tree → Bool
may_add σ x v = not (binds σ x) || same_tree (look_up σ x) v

abbrev pub with_itself : Binding → List Variable → Binding
with_itself σ xs = extend σ xs (map (λ x. variable x.0 x.1) xs)

-- what the patterns of matching fragments determine besides
abbrev pub with_patterns : List Fragment → Binding → Binding
with_patterns [] σ = σ
with_patterns (matches p u ∷ c) σ = with_patterns c (with_itself σ (variables p))
with_patterns (equals t u ∷ c) σ = with_patterns c σ
with_patterns (has_sort t s ∷ c) σ = with_patterns c σ
with_patterns (reaches t u ∷ c) σ = with_patterns c σ

-- a binding of the variables that are determined: by q's left side, by what is assigned, and by the patterns of its condition
abbrev pub determined : Rule → Binding → Binding
determined q σ = with_patterns q.cond (with_itself σ (variables q.left))

-- ---- what a test looks at

-- the places at which it looks: the root, and for `amatch` all, frozen arguments too
abbrev pub test_places : TestKind → Tree → List Place
test_places at_top t = root_of t
test_places within_top t = root_of t
test_places anywhere t = places (λ f n. false) (λ v. v) t

-- the solutions that a test looks at in a term: without extension for `match`, with it for the others
abbrev pub listed_for : Program → TestKind → Tree → Tree → List Solution
listed_for P at_top p t = solutions P.sign p t
listed_for P within_top p t = solutions_within P.sign p t
listed_for P anywhere p t = solutions_within P.sign p t

-- all these solutions in order: place after place, at each in their order
abbrev pub candidates_for : Program → TestKind → Tree → Tree → List Solution
candidates_for P k p t = each_of (λ s. listed_for P k p s.term) (test_places k t)

module _ (P : Program) (L : Engine) where
  -- `X <- t, Y <- u`: the terms are evaluated, under the values ρ that a call gave, and q's variables of these names and sorts are bound to them. There is none
  -- where q has no such variable, where a value has not its variable's sort, or where a variable is given two values.
  abbrev pub Assigned : Rule → Binding → List Assign → Binding → Type 0
  Assigned q ρ [] σ = σ ≡ []
  Assigned q ρ (a ∷ more) σ =
      (x : Variable) × (v : Tree) × (σ' : Binding) × (index_of same_name q.vars 0 a.name a.sort ≡ Some x) × Evaluates P L (instance (look_up ρ) a.term) v ×
      HaveSorts P L (x ∷ []) (v ∷ []) × Assigned q ρ more σ' × (σ ≡ (x, v) ∷ σ') × (may_add σ' x v ≡ true)

  -- the evaluation of one of the assigned terms ends
  abbrev pub SomeAssignEnds : Binding → List Assign → Type 0
  SomeAssignEnds ρ [] = ⊥
  SomeAssignEnds ρ (g ∷ gs) = EvaluationEnds P L (instance (look_up ρ) g.term) ⊎ SomeAssignEnds ρ gs

  -- q is a rule of the program without rewriting fragments; and it is executable, or else all its variables are determined where σ is assigned
  pub record MayUse (q : Rule) (σ : Binding) : Type 0 where
    pub listed : IsIn q P.rules
    pub plain : has_reach q.cond ≡ false
    pub determines : (q.exec ≡ true) ⊎ (binds_all (determined q σ) q.vars 0 ≡ true)

  -- ---- labels, `all` and `top`

  -- u is the value of t with an instance of such a rule, one that Q takes, replaced at one of the places, where the condition is shown. Cut where an evaluation or
  -- a condition that such a rule asks for at such a place ends.
  abbrev pub by_rules : (Rule → Binding → Type 0) → (Tree → List Place) → Meaning
  by_rules Q places = record {
    sat = λ t u. (q : Rule) × (σ : Binding) × (s : Place) × MayUse q σ × Q q σ × IsIn s (places t) × Rewrites P L q σ s u;
    cut = λ t. (q : Rule) × (σ : Binding) × (s : Place) × MayUse q σ × Q q σ × IsIn s (places t) × RewritingEnds P L q σ s;
  }

  -- by the rules with this label. The assigned terms are evaluated first, so it is cut too where such an evaluation ends.
  abbrev pub labelled : (Tree → List Place) → Binding → List ℕ → List Assign → Meaning
  labelled places ρ n gs =
      let m = by_rules (λ q σ. (q.label ≡ Some n) × Assigned q ρ gs σ) places in
      record { sat = m.sat; cut = λ t. SomeAssignEnds ρ gs ⊎ m.cut t }

  -- by any rule
  abbrev pub with_any : (Tree → List Place) → Meaning
  with_any places = by_rules (λ q σ. σ ≡ []) places

  -- `top(A)`: at the root alone
  abbrev pub top_of : Binding → Strategy → Meaning
  top_of ρ every_rule = with_any root_of
  top_of ρ (label n gs) = labelled root_of ρ n gs
  top_of ρ _ = fail_is

  -- ---- tests

  -- p has a solution of the stated kind in t whose condition is shown; variables that are bound outside, by ρ, are fixed
  abbrev pub Holds : TestKind → Tree → List Fragment → Binding → Tree → Type 0
  Holds k p c ρ t =
      (s : Place) × (x : Solution) × (σ : Binding) × IsIn s (test_places k t) × IsIn x (listed_for P k p s.term) × (agree P.sign.theory ρ (variables p) x.values ≡ true) ×
      HaveSorts P L (variables p) x.values × Shows P L c (extend ρ (variables p) x.values) σ

  -- for this one the condition is asked
  abbrev pub IsTried : Tree → Binding → Solution → Type 0
  IsTried p ρ x = (agree P.sign.theory ρ (variables p) x.values ≡ true) × HaveSorts P L (variables p) x.values

  -- this one is none: it does not agree with what is bound, or a value has not its variable's sort
  abbrev pub IsSkipped : Tree → Binding → Solution → Type 0
  IsSkipped p ρ x =
      (agree P.sign.theory ρ (variables p) x.values ≡ false) ⊎
      ((r : ℕ) × (b : ℕ) × (have_sorts L.level.sorts (variables p) x.values L.budget ≡ done false r b))

  -- the condition ends for one of these, and for none before it does the condition hold; so nothing is asked for behind the first one that holds
  abbrev pub EndsFirst : Tree → List Fragment → Binding → List Solution → Type 0
  EndsFirst p c ρ [] = ⊥
  EndsFirst p c ρ (x ∷ xs) =
      (IsTried p ρ x × ((e : End) × (L.ask c (extend ρ (variables p) x.values) L.budget ≡ ended e))) ⊎
      ((IsTried p ρ x × ((r : ℕ) × (b : ℕ) × (L.ask c (extend ρ (variables p) x.values) L.budget ≡ done None r b)) × EndsFirst p c ρ xs) ⊎
      (IsSkipped p ρ x × EndsFirst p c ρ xs))

  -- a test: u is t, and the test holds there
  abbrev pub tested : TestKind → Tree → List Fragment → Binding → Meaning
  tested k p c ρ = record { sat = λ t u. (u ≡ t) × Holds k p c ρ t; cut = λ t. EndsFirst p c ρ (candidates_for P k p t) }

  -- ---- all forms, where calls have a meaning

  -- The strategy's meaning under the values ρ, by its text. `E + = E ; E *`, `E ! = E * ; not(E)`, `E or-else F = E ? idle : F`, `not(E) = E ? fail : idle`,
  -- `try(E) = E ? idle : idle`, `test(E) = not(E) ? fail : idle`. The forms that open parts of a term or of a rule's condition are read by no reader yet: they
  -- have no results.
  abbrev pub meaning_with : (Binding → List ℕ → List Tree → Meaning) → Binding → Strategy → Meaning
  meaning_with calls ρ idle = idle_is
  meaning_with calls ρ fail = fail_is
  meaning_with calls ρ every_rule = with_any (places_of P)
  meaning_with calls ρ (label n gs) = labelled (places_of P) ρ n gs
  meaning_with calls ρ (top_only e) = top_of ρ e
  meaning_with calls ρ (call n ts) = calls ρ n ts
  meaning_with calls ρ (test k p c) = tested k p c ρ
  meaning_with calls ρ (star e) = again (meaning_with calls ρ e)
  meaning_with calls ρ (plus e) = turn (meaning_with calls ρ e) (again (meaning_with calls ρ e))
  meaning_with calls ρ (to_normal e) = turn (again (meaning_with calls ρ e)) (not_so (meaning_with calls ρ e))
  meaning_with calls ρ (in_turn e f) = turn (meaning_with calls ρ e) (meaning_with calls ρ f)
  meaning_with calls ρ (either e f) = one_of (meaning_with calls ρ e) (meaning_with calls ρ f)
  meaning_with calls ρ (or_else e f) = where_some (meaning_with calls ρ e) idle_is (meaning_with calls ρ f)
  meaning_with calls ρ (branch e f g) = where_some (meaning_with calls ρ e) (meaning_with calls ρ f) (meaning_with calls ρ g)
  meaning_with calls ρ (negation e) = not_so (meaning_with calls ρ e)
  meaning_with calls ρ (attempt e) = where_some (meaning_with calls ρ e) idle_is idle_is
  meaning_with calls ρ (test_of e) = where_some (not_so (meaning_with calls ρ e)) fail_is idle_is
  meaning_with calls ρ (part_rewrite k p c xs) = fail_is
  meaning_with calls ρ (label_by n gs es) = fail_is

-- ---- calls

module _ (P : Program) (L : Engine) (defs : List StratDef) where
  -- vs are the values of the arguments, under the values ρ of the variables that a call outside gave
  abbrev pub AreValues : Binding → List Tree → List Tree → Type 0
  AreValues ρ [] vs = vs ≡ []
  AreValues ρ (t ∷ ts) vs = (v : Tree) × (vs' : List Tree) × Evaluates P L (instance (look_up ρ) t) v × AreValues ρ ts vs' × (vs ≡ v ∷ vs')

  abbrev pub SomeArgumentEnds : Binding → List Tree → Type 0
  SomeArgumentEnds ρ [] = ⊥
  SomeArgumentEnds ρ (t ∷ ts) = EvaluationEnds P L (instance (look_up ρ) t) ⊎ SomeArgumentEnds ρ ts

  -- the argument patterns, as many as there are values, are solved on the values one after the other, which gives σ' from σ
  abbrev pub Match : List Tree → List Tree → Binding → Binding → Type 0
  Match [] [] σ σ' = σ' ≡ σ
  Match [] (v ∷ vs) σ σ' = ⊥
  Match (p ∷ ps) [] σ σ' = ⊥
  Match (p ∷ ps) (v ∷ vs) σ σ' =
      (x : Solution) × IsIn x (solutions P.sign p v) × (agree P.sign.theory σ (variables p) x.values ≡ true) × HaveSorts P L (variables p) x.values × Match ps vs (extend σ (variables p) x.values) σ'

  -- d is a definition of this name with so many arguments, and σ a solution of its argument patterns on the evaluated arguments
  pub record Called (ρ : Binding) (n : List ℕ) (ts : List Tree) (d : StratDef) (σ : Binding) : Type 0 where
    pub listed : IsIn d defs
    pub named : d.name ≡ n
    pub values : List Tree
    pub are_values : AreValues ρ ts values
    pub match : Match d.args values [] σ

  -- A call, where m gives the meaning of bodies: such a definition, its condition shown, and its body, in which the values σ' are fixed. Cut where the evaluation
  -- of an argument ends, an asking of such a definition's condition ends, or such a body is cut.
  abbrev pub call_by : (Binding → Strategy → Meaning) → Binding → List ℕ → List Tree → Meaning
  call_by m ρ n ts = record {
    sat = λ t u. (d : StratDef) × (σ : Binding) × (σ' : Binding) × Called ρ n ts d σ × Shows P L d.cond σ σ' × (m σ' d.body).sat t u;
    cut = λ t. SomeArgumentEnds ρ ts ⊎ ((d : StratDef) × (σ : Binding) × Called ρ n ts d σ × (AskingEnds P L d.cond σ ⊎ ((σ' : Binding) × Shows P L d.cond σ σ' × (m σ' d.body).cut t)));
  }

  -- with no calls left a call leads nowhere and is cut at once, whatever it names; else its body has one call less
  abbrev pub calls_at : ℕ → Binding → List ℕ → List Tree → Meaning
  calls_at zero ρ n ts = record { sat = λ t u. ⊥; cut = λ t. Unit {0} }
  calls_at (suc k) ρ n ts = call_by (meaning_with P L (calls_at k)) ρ n ts

  abbrev pub meaning : ℕ → Binding → Strategy → Meaning
  meaning k = meaning_with P L (calls_at k)

  -- u satisfies e from t with at most k nested calls, where a call gave the values ρ to the variables in e, which are fixed
  abbrev pub Sat : ℕ → Binding → Strategy → Tree → Tree → Type 0
  Sat k ρ e t u = (meaning k ρ e).sat t u

  -- e is cut from t
  abbrev pub Cut : ℕ → Binding → Strategy → Tree → Type 0
  Cut k ρ e t = (meaning k ρ e).cut t
