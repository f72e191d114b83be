-- The axioms of operators, and one use of an axiom.
use Rattle.std.specs.Prelude.{◌≡◌, ℕ, ◌+◌, ◌<◌, true, Some}
use Rattle.mau_terms.specs.Tree.{Tree, numeral, apply, Trees, no_trees, tree}
use Rattle.mau_terms.specs.Norm.{greatest_numeral, unit_tree}
use Rattle.mau_terms.specs.declared.theory.Identity.{Identity}
use Rattle.mau_terms.specs.declared.theory.Theory.{Theory}

-- f over two arguments
abbrev pub binary : ℕ → Tree → Tree → Tree
binary f t u = apply f (tree t (tree u no_trees))

-- the two sides of an axiom, where th gives the axioms of each operator: f(f(t, u), v) = f(t, f(u, v)), f(t, u) = f(u, t),
-- f(e, t) = t, f(t, e) = t, and f(n) = n + 1 for a numeral n that is not the greatest
pub data Axiom (th : ℕ → Theory) : Tree → Tree → Type 0 where
  associativity : (f : ℕ) (t u v : Tree) → (th f).assoc ≡ true →
      Axiom th (binary f (binary f t u) v) (binary f t (binary f u v))
  commutativity : (f : ℕ) (t u : Tree) → (th f).comm ≡ true → Axiom th (binary f t u) (binary f u t)
  left_identity : (f : ℕ) (i : Identity) (t : Tree) → (th f).id ≡ Some i →
      Axiom th (binary f (unit_tree i) t) t
  right_identity : (f : ℕ) (i : Identity) (t : Tree) → (th f).id ≡ Some i →
      Axiom th (binary f t (unit_tree i)) t
  successor_of_numeral : (f n : ℕ) → (th f).succ ≡ true → n < greatest_numeral →
      Axiom th (apply f (tree (numeral n) no_trees)) (numeral (n + 1))

-- one use of an axiom, in either direction and at any place: one subterm is one side, and the other side stands in its place
mutual
  pub data AxiomStep (th : ℕ → Theory) : Tree → Tree → Type 0 where
    left_to_right : {t u : Tree} → Axiom th t u → AxiomStep th t u
    right_to_left : {t u : Tree} → Axiom th t u → AxiomStep th u t
    under_operator : (f : ℕ) {ts us : Trees} → AxiomStepIn th ts us → AxiomStep th (apply f ts) (apply f us)

  -- the same in one tree of a list
  pub data AxiomStepIn (th : ℕ → Theory) : Trees → Trees → Type 0 where
    in_first : {t u : Tree} (ts : Trees) → AxiomStep th t u → AxiomStepIn th (tree t ts) (tree u ts)
    in_later : (t : Tree) {ts us : Trees} → AxiomStepIn th ts us → AxiomStepIn th (tree t ts) (tree t us)
