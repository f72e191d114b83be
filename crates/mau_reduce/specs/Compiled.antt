-- Equations that were compiled.
use Rattle.std.specs.Prelude.{◌≡◌, true, map, IfSome}
use Rattle.mau_terms.specs.Tree.{Tree}
use Rattle.mau_terms.specs.Subst.{variables}
use Rattle.mau_terms.specs.View.{tree_of, variable_of}
use Rattle.mau_signature.specs.Signature.{SignatureOf, theory_at}
use Rattle.mau_program.specs.declared.program.Program as Typed
use Rattle.mau_program.specs.declared.statements.Equation.{Equation}
use Rattle.mau_trial.specs.Tried.{HoldsAtEach}
use Rattle.mau_syntactic.specs.Free.{has_free_operators}
use Rattle.mau_reduce.specs.declared.compiling.CompiledEquation.{CompiledEquation}
use Rattle.mau_reduce.specs.declared.compiling.Compiled.{Compiled}
use Rattle.mau_reduce.specs.ByTop.{AreOrders}

-- the pattern is the left side of the equation, and none of its operators has axioms
pub record IsPatternOf (s : SignatureOf) (e : Equation) (t : Tree) : Type 0 where
  pub tree : t ≡ tree_of e.left
  pub free : has_free_operators (theory_at s) t ≡ true

-- c has the variables of the left side, its pattern, if it has one, and the right side
pub record IsCompiledEquation (s : SignatureOf) (e : Equation) (c : CompiledEquation) : Type 0 where
  pub variables : map variable_of c.variables.items ≡ variables (tree_of e.left)
  pub pattern : IfSome c.pattern (IsPatternOf s e)
  pub right : c.right.0 ≡ tree_of e.right

-- each equation is compiled, and for each top there is the order of those that may apply under it
pub record IsCompiled (p : Typed.Program) (c : Compiled) : Type 0 where
  pub equations : HoldsAtEach (IsCompiledEquation p.sig) p.equations c.equations.items
  pub orders : AreOrders p (map (λ list. list.items) c.orders.items)
