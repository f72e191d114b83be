-- Statements that are read one after another, and the first one at fault.
use Rattle.std.proofs.Common.{◌≡◌, ◌<◌, ℕ, suc, ◌+◌, List, ◌∷◌, length, get_or, drop, Some, None, sym, ap, subst, ◌∙◌, add-one}
use Rattle.std.specs.Prelude.{Result, Ok, Err}
use Rattle.std.proofs.Math.Seq.{drop-cons}
use Rattle.mau_modtext.specs.declared.raw.RawElement.{RawElement}
use Rattle.mau_modtext.specs.declared.raw.RawStatement.{RawStatement}
use Rattle.mau_definition.specs.Definitions.{Around}
use Rattle.mau_statement.specs.Faults.{IfFault as IfFaultOfStatement}
use Rattle.mau_statement.specs.declared.fault.StatementFault.{StatementFault}
use Rattle.mau_statement.specs.declared.fault.StatementFault.TheVariants.{LimitExceeded, Parse, UnknownSort, LhsVariable, MembershipHead, UnboundVariable, NoMemory as NoMemoryOfStatement}
use Rattle.mau_definition.specs.Faults.{IfFault, of_statement}
use Rattle.mau_definition.specs.declared.fault.DefinitionFault.{DefinitionFault}
use Rattle.mau_definition.specs.declared.fault.DefinitionFault.TheVariants.{Statement as OfStatement, Strategy as OfStrategy, NoMemory}
use Rattle.mau_module.specs.declared.fault.ModuleFault.{ModuleFault}
use Rattle.mau_module.specs.declared.statements.Stated.{Stated}
use Rattle.mau_module.specs.Faults.{IfStated, statement_fault}
use Rattle.mau_module.specs.Modules.{StatementsOf}
use Rattle.mau_module.specs.Stated.{StatedRead, OwnRead, no_statement, at_fault, one_more, with_statement, statement_in}

module _ (a : Around) (es : List RawElement) (own : StatementsOf) (before i : ℕ) (e : RawElement) (l : i < length es) (here : e ≡ get_or es i e) where
  front : drop i es ≡ e ∷ drop (suc i) es
  front = drop-cons es i e l ∙ ap (λ x. x ∷ drop (suc i) es) (sym here)

  module _ (r : Result StatementsOf (ℕ × DefinitionFault)) (next : StatementsOf) (count : ℕ) where
    -- an element that is no statement
    pub passed : statement_in e ≡ None → next ≡ own → count ≡ before → OwnRead a next (count + 1) (drop (i + 1) es) r → OwnRead a own (before + 1) (drop i es) r
    passed q p n o = subst (λ xs. OwnRead a own (before + 1) xs r) (sym front) (no_statement own (before + 1) e (drop (suc i) es) r q
        (subst (λ k. OwnRead a own (before + 1) (drop k es) r) (add-one i) (subst (λ k. OwnRead a own (k + 1) (drop (i + 1) es) r) n (subst (λ b. OwnRead a b (count + 1) (drop (i + 1) es) r) p o))))

    -- one that is
    pub read : (raw : RawStatement) (x : Stated) → statement_in e ≡ Some raw → StatedRead a raw (Ok x) → next ≡ with_statement own x → count ≡ before + 1
        → OwnRead a next (count + 1) (drop (i + 1) es) r → OwnRead a own (before + 1) (drop i es) r
    read raw x q s p n o = subst (λ xs. OwnRead a own (before + 1) xs r) (sym front) (one_more own (before + 1) e (drop (suc i) es) raw x r q s
        (subst (λ k. OwnRead a (with_statement own x) (suc (before + 1)) (drop k es) r) (add-one i) (subst (λ k. OwnRead a (with_statement own x) k (drop (i + 1) es) r) (ap (λ k. k + 1) n ∙ add-one (before + 1))
        (subst (λ b. OwnRead a b (count + 1) (drop (i + 1) es) r) p o))))

  -- one at fault
  pub refused : (raw : RawStatement) (f : DefinitionFault) → statement_in e ≡ Some raw → StatedRead a raw (Err f) → OwnRead a own (before + 1) (drop i es) (Err (before + 1, f))
  refused raw f q s = subst (λ xs. OwnRead a own (before + 1) xs (Err (before + 1, f))) (sym front) (at_fault own (before + 1) e (drop (suc i) es) raw f q s)

-- a fault that is handed on
pub handed_on : (P Q : DefinitionFault → Type 0) → ((f : DefinitionFault) → P f → Q f) → (f : DefinitionFault) → IfFault P f → IfFault Q f
handed_on P Q h (OfStatement f) p = h (OfStatement f) p
handed_on P Q h (OfStrategy f) p = h (OfStrategy f) p
handed_on P Q h NoMemory p = p

-- that of a statement which defines no strategy
pub of_plain : (P : StatementFault → Type 0) (Q : DefinitionFault → Type 0) → ((f : StatementFault) → P f → Q (OfStatement f)) → (f : StatementFault) (g : DefinitionFault)
    → g ≡ of_statement f → IfFaultOfStatement P f → IfFault Q g
of_plain P Q h f g e p = subst (IfFault Q) (sym e) (by f p)
  where
    by : (f : StatementFault) → IfFaultOfStatement P f → IfFault Q (of_statement f)
    by (LimitExceeded l) p = h (LimitExceeded l) p
    by (Parse x) p = h (Parse x) p
    by (UnknownSort n) p = h (UnknownSort n) p
    by LhsVariable p = h LhsVariable p
    by MembershipHead p = h MembershipHead p
    by UnboundVariable p = h UnboundVariable p
    by NoMemoryOfStatement p = p

-- a fault with its number
module _ (n : ℕ) (Q : DefinitionFault → Type 0) (P : ℕ → DefinitionFault → Type 0) (then : (f : DefinitionFault) → Q f → P n f) where
  told : (f : DefinitionFault) → IfFault Q f → IfStated P (statement_fault n f)
  told (OfStatement f) q = then (OfStatement f) q
  told (OfStrategy f) q = then (OfStrategy f) q
  told NoMemory q = q

  pub numbered : (f : DefinitionFault) (g : ModuleFault) → g ≡ statement_fault n f → IfFault Q f → IfStated P g
  numbered f g e q = subst (IfStated P) (sym e) (told f q)
