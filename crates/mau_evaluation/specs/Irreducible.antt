-- Terms that admit no equation at active places.
use Rattle.std.specs.Prelude.{◌≡◌, ℕ, suc, ◌≤◌, List, [], true}
use Rattle.mau_terms.specs.Tree.{Tree, variable, numeral, apply, Trees, no_trees, tree, list_of}
use Rattle.mau_terms.specs.Finite.{IsIn}
use Rattle.mau_terms.specs.Lawful.{AreLawful}
use Rattle.mau_evaluation.specs.Program.{Equation, Membership, no_value, Program}
use Rattle.mau_evaluation.specs.Listing.{Solution, solutions_within}
use Rattle.mau_evaluation.specs.Evaluation.{has_number, solve_at, binding_of, native, order_of, eval, size}
use Rattle.mau_evaluation.specs.Run.{done}
use Rattle.mau_evaluation.specs.Laws.{IsNo}
use Rattle.mau_evaluation.specs.HasSort.{HaveThese, variable_sorts, HasHeads, DeclaredGrow}

-- where the values have their variables' sorts, the condition is No for some limits
abbrev pub IsRefused : Program → Equation → Solution → Type 0
IsRefused P e x = HaveThese P x.values (variable_sorts e.left) → IsNo (λ k B. solve_at P k B e.cond (binding_of e.left x))

-- no built-in and no executable equation applies at the top of a normal form
pub record IsIrreducibleTop (P : Program) (t : Tree) : Type 0 where
  pub no_native : native P t ≡ no_value
  pub refused : (e : Equation) → IsIn e P.equations → e.exec ≡ true → (x : Solution) → IsIn x (solutions_within P.sign e.left t) → IsRefused P e x

-- t is irreducible: none applies at the top, nor at any place to which only arguments lead that strategies name
abbrev mutual
  pub IsIrreducible : Program → Tree → Type 0
  IsIrreducible P (variable i s) = IsIrreducibleTop P (variable i s)
  IsIrreducible P (numeral n) = IsIrreducibleTop P (numeral n)
  IsIrreducible P (apply f ts) = IsIrreducibleTop P (apply f ts) × AreIrreducible P (order_of P f (list_of ts)) 0 ts

  pub AreIrreducible : Program → List ℕ → ℕ → Trees → Type 0
  AreIrreducible P is n no_trees = Unit {0}
  AreIrreducible P is n (tree t ts) = (has_number is n ≡ true → IsIrreducible P t) × AreIrreducible P is (suc n) ts

-- no executable equation and no executable membership has a condition
pub record IsUnconditional (P : Program) : Type 0 where
  pub equations : (e : Equation) → IsIn e P.equations → e.exec ≡ true → e.cond ≡ []
  pub memberships : (m : Membership) → IsIn m P.memberships → m.exec ≡ true → m.cond ≡ []

-- in such a module a value evaluates to itself, with count 0 and nothing taken from the budget, where its size many levels are there
abbrev pub ValuesStay : Type 0
ValuesStay = (P : Program) → AreLawful P.sign.theory → IsUnconditional P → (k B b : ℕ) (t u : Tree) (r b' : ℕ) → eval P k B t b ≡ done u r b' → (k' B' c : ℕ) → size u ≤ k' → eval P k' B' u c ≡ done u 0 c

-- what an evaluation gives admits no equation
abbrev pub ValuesAreIrreducible : Type 0
ValuesAreIrreducible = (P : Program) → HasHeads P → DeclaredGrow P → (k B b : ℕ) (t u : Tree) (r b' : ℕ) → eval P k B t b ≡ done u r b' → IsIrreducible P u
