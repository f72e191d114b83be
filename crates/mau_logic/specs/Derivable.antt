-- What facts say that can stand in a justified section: by terms in place of their numbers.
use Rattle.std.specs.Prelude.{◌≡◌, ℕ, ◌<◌, List, [], ◌∷◌, All, Bool, true, false, Some}
use Rattle.mau_terms.specs.Tree.{Tree}
use Rattle.mau_terms.specs.Reading.{reading}
use Rattle.mau_terms.specs.Bare.{IsBareIn, EqualModulo}
use Rattle.mau_signature.specs.Signature.{theory_at, terms_over}
use Rattle.mau_formula.specs.Operator.{Operator}
use Rattle.mau_program.specs.declared.statements.Equation.{Equation}
use Rattle.mau_program.specs.declared.statements.Rule.{Rule}
use Rattle.mau_program.specs.declared.statements.Membership.{Membership}
use Rattle.mau_program.specs.declared.program.Program.{Program}
use Rattle.mau_api.specs.Variables.{numbered}
use Rattle.mau_api.specs.Terms.{IsBareWithin, IsNormalTerm}
use Rattle.mau_logic.specs.Says.{Says, leads, of_sort, all_equational, start_of, end_of}
use Rattle.mau_logic.specs.Shown.{HasSortBy}
use Rattle.mau_logic.specs.Justified.{UsesEquation, UsesRule, UsesBuilt, IsUnder, LeadOn, IsMember}

-- one fact more, which uses the facts us
pub data Follows (p : Program) (hooks : List Operator) (us : List Says) : Says → Type 0 where
  same : (t u : Tree) → IsBareWithin p.sig t → IsBareWithin p.sig u → EqualModulo (terms_over p.sig) t u → Follows p hooks us (leads true t u)
  by_equation : (n : ℕ) (e : Equation) (c t u : Tree) (vs : List Tree) → numbered p.equations n ≡ Some e →
      IsBareWithin p.sig c → IsBareWithin p.sig t → IsBareWithin p.sig u → All (IsBareWithin p.sig) vs → UsesEquation p.sig e c t u vs us →
      Follows p hooks us (leads true t u)
  by_rule : (n : ℕ) (q : Rule) (c t u : Tree) (vs : List Tree) → numbered p.rules n ≡ Some q →
      IsBareWithin p.sig c → IsBareWithin p.sig t → IsBareWithin p.sig u → All (IsBareWithin p.sig) vs → UsesRule p.sig q c t u vs us →
      Follows p hooks us (leads false t u)
  by_built_in : (f : ℕ) (c t u : Tree) (ts : List Tree) →
      IsBareWithin p.sig c → IsBareWithin p.sig t → IsBareWithin p.sig u → All (IsBareWithin p.sig) ts → UsesBuilt p.sig hooks f c t u ts →
      Follows p hooks us (leads true t u)
  under : (f : ℕ) (t u : Tree) → IsBareWithin p.sig t → IsBareWithin p.sig u → IsUnder p.sig f us t u → Follows p hooks us (leads (all_equational us) t u)
  chain : (t u : Tree) → LeadOn p.sig us → start_of us ≡ Some t → end_of us ≡ Some u → Follows p hooks us (leads (all_equational us) t u)
  declared : (t : Tree) (r : ℕ) → IsBareWithin p.sig t → r < p.sig.hierarchy.sorts → HasSortBy p.sig us r t → Follows p hooks us (of_sort t r)
  member : (n : ℕ) (m : Membership) (t : Tree) (r : ℕ) (vs : List Tree) → numbered p.memberships n ≡ Some m →
      IsBareWithin p.sig t → r < p.sig.hierarchy.sorts → All (IsBareWithin p.sig) vs → IsMember p.sig m r t vs us → Follows p hooks us (of_sort t r)

-- by facts that follow from facts
mutual
  pub data Derivable (p : Program) (hooks : List Operator) : Says → Type 0 where
    derives : {x : Says} (us : List Says) → AreDerivable p hooks us → Follows p hooks us x → Derivable p hooks x

  pub data AreDerivable (p : Program) (hooks : List Operator) : List Says → Type 0 where
    no_facts : AreDerivable p hooks []
    one_fact : {x : Says} {xs : List Says} → Derivable p hooks x → AreDerivable p hooks xs → AreDerivable p hooks (x ∷ xs)

-- ---- what is led to

-- what some derivable facts tell gives the normal form t the sort r
pub record IsSorted (p : Program) (hooks : List Operator) (r : ℕ) (t : Tree) : Type 0 where
  pub uses : List Says
  pub derivable : AreDerivable p hooks uses
  pub sorted : HasSortBy p.sig uses r (reading (theory_at p.sig) t)

-- a derivable fact leads from the normal form t to u, by equations alone where r is false
pub record IsLed (p : Program) (hooks : List Operator) (r : Bool) (t u : Tree) : Type 0 where
  pub by_equations : Bool
  pub kind : r ≡ false → by_equations ≡ true
  pub from : IsNormalTerm p.sig t
  pub to : IsNormalTerm p.sig u
  pub same_kind : (k : ℕ) → IsBareIn (terms_over p.sig) (reading (theory_at p.sig) t) k → IsBareIn (terms_over p.sig) (reading (theory_at p.sig) u) k
  pub fact : Derivable p hooks (leads by_equations (reading (theory_at p.sig) t) (reading (theory_at p.sig) u))
