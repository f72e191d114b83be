-- Facts about sorts, and what facts say.
use Rattle.std.proofs.Common.{◌≡◌, ℕ, zero, suc, ◌-◌, ◌<◌, ◌≤◌, List, Bool, Option, Some, None, refl, sym, ap, ◌∙◌, subst, arith}
use Rattle.std.specs.Prelude.{All}
use Rattle.mau_poset.specs.Order.{kind_of}
use Rattle.mau_terms.specs.Tree.{Tree}
use Rattle.mau_terms.specs.Bare.{IsBareIn}
use Rattle.mau_signature.specs.Signature.{SignatureOf, terms_over}
use Rattle.mau_store.specs.Node.{Node}
use Rattle.mau_formula.specs.Operator.{Operator}
use Rattle.mau_program.specs.declared.statements.Membership.{Membership}
use Rattle.mau_program.specs.declared.program.Program.{Program}
use Rattle.mau_facts.specs.declared.document.SortFact.{SortFact}
use Rattle.mau_facts.specs.declared.document.MbFact.{MbFact}
use Rattle.mau_facts.specs.declared.document.Fact.TheVariants.{SortDecl, SortMb}
use Rattle.mau_api.specs.Terms.{IsBareWithin}
use Rattle.mau_api.specs.Variables.{numbered}
use Rattle.mau_logic.specs.Lines.{all_numbered, term_at, terms_at}
use Rattle.mau_logic.specs.Says.{Says, leads, leads_if, of_sort_if}
use Rattle.mau_logic.specs.Shown.{HasSortBy}
use Rattle.mau_logic.specs.Justified.{With, WithTerms, IsMember, IsSortNumber, IsJustified}
use Rattle.mau_check.specs.declared.kept.Kept.{Kept}
use Rattle.mau_check.specs.declared.said.Said.TheVariants.{Leads, Sorted}
use Rattle.mau_check.specs.declared.named.Bound.{Bound}
use Rattle.mau_check.specs.Kept.{IsKeptFor}
use Rattle.mau_check.specs.Said.{IsSaid}
use Rattle.mau_check.specs.Named.{IsBoundBy, BindsAll}
use Rattle.mau_check.proofs.Naming.{with_is, with_at, some_is}
use Rattle.mau_check.proofs.UseOf.{kept_within}

-- ---- what facts say

pub said_leads : (s : SignatureOf) (nodes : List Node) (e : Bool) (a b : Kept) (o p : Option Tree) (t u : Tree) → o ≡ Some t → p ≡ Some u → IsKeptFor s nodes a t → IsKeptFor s nodes b u → IsSaid s nodes (Leads e a b) (leads_if e o p)
said_leads s nodes e a b o p t u x y h g =
    subst (λ z. IsSaid s nodes (Leads e a b) (leads_if e z p)) (sym x) (subst (λ z. IsSaid s nodes (Leads e a b) (leads_if e (Some t) z)) (sym y) (refl, h, g))

pub said_sort : (s : SignatureOf) (nodes : List Node) (a : Kept) (o : Option Tree) (t : Tree) (n : ℕ) → o ≡ Some t → (n ≡ 0 → ⊥) → IsKeptFor s nodes a t → n - 1 < s.hierarchy.sorts →
    IsBareIn (terms_over s) t (kind_of s.hierarchy (n - 1)) → IsSaid s nodes (Sorted a (n - 1)) (of_sort_if o n)
said_sort s nodes a o t zero x z h l b = absurd (z refl)
said_sort s nodes a o t (suc r) x z h l b =
    let e : suc r - 1 ≡ r = omega arith in
    subst (λ y. IsSaid s nodes (Sorted a (suc r - 1)) (of_sort_if y (suc r))) (sym x)
    (e, h, subst (λ q. q < s.hierarchy.sorts) e l, subst (λ q. IsBareIn (terms_over s) t (kind_of s.hierarchy q)) e b)

-- ---- sorts by declarations

pub record IsDeclared (p : Program) (terms : List (Option Tree)) (before : List Says) (f : SortFact) : Type 0 where
  pub term : Tree
  pub at_term : term_at terms f.term ≡ Some term
  pub within : IsBareWithin p.sig term
  pub number : IsSortNumber p.sig f.sort
  pub uses : List Says
  pub at_uses : all_numbered before f.uses ≡ Some uses
  pub has : HasSortBy p.sig uses (f.sort - 1) term

module _ (p : Program) (hooks : List Operator) (terms : List (Option Tree)) (before : List Says) (f : SortFact) where
  abbrev HasIn : Tree → Type 0
  HasIn t = IsSortNumber p.sig f.sort × With (all_numbered before f.uses) (λ us. HasSortBy p.sig us (f.sort - 1) t)

  pub declared_parts : IsJustified p hooks terms before (SortDecl f) → IsDeclared p terms before f
  declared_parts w =
      let t = some_is (term_at terms f.term) (λ t. IsBareWithin p.sig t × HasIn t) w in
      let us = some_is (all_numbered before f.uses) (λ us. HasSortBy p.sig us (f.sort - 1) t.0) t.2.1.1 in
      record { term = t.0; at_term = t.1; within = t.2.0; number = t.2.1.0; uses = us.0; at_uses = us.1; has = us.2 }

  pub declared_made : IsDeclared p terms before f → IsJustified p hooks terms before (SortDecl f)
  declared_made d =
      with_is (term_at terms f.term) d.term (λ t. IsBareWithin p.sig t × HasIn t) d.at_term
      (d.within, (d.number, with_is (all_numbered before f.uses) d.uses (λ us. HasSortBy p.sig us (f.sort - 1) d.term) d.at_uses d.has))

-- ---- sorts by memberships

module _ (p : Program) (hooks : List Operator) (terms : List (Option Tree)) (before : List Says) (f : MbFact) where
  -- the membership gives the term the sort
  abbrev pub GivesSort : Tree → List Tree → List Says → Type 0
  GivesSort t vs us = With (numbered p.memberships f.membership) (λ m. IsMember p.sig m (f.sort - 1) t vs us)

  abbrev GivesBy : Tree → List Tree → Type 0
  GivesBy t vs = With (all_numbered before f.uses) (GivesSort t vs)

  abbrev GivesIn : Tree → Type 0
  GivesIn t = IsSortNumber p.sig f.sort × WithTerms p.sig terms f.bind (GivesBy t)

  pub member_number : IsJustified p hooks terms before (SortMb f) → IsSortNumber p.sig f.sort
  member_number w = (some_is (term_at terms f.term) (λ t. IsBareWithin p.sig t × GivesIn t) w).2.1.0

  pub binds_all : IsJustified p hooks terms before (SortMb f) → BindsAll p.sig terms before f.term f.bind f.uses
  binds_all w =
      let t = some_is (term_at terms f.term) (λ t. IsBareWithin p.sig t × GivesIn t) w in
      let vs = some_is (terms_at terms f.bind) (λ vs. All (IsBareWithin p.sig) vs × GivesBy t.0 vs) t.2.1.1 in
      let us = some_is (all_numbered before f.uses) (GivesSort t.0 vs.0) vs.2.1 in
      record {
        of_term = with_is (term_at terms f.term) t.0 (IsBareWithin p.sig) t.1 t.2.0;
        values = with_is (terms_at terms f.bind) vs.0 (All (IsBareWithin p.sig)) vs.1 vs.2.0;
        told = us.0;
        at_uses = us.1;
      }

  module _ (nodes : List Node) (x : Bound) (h : IsBoundBy p.sig nodes terms before f.term f.bind f.uses x) where
    pub member_gives : IsJustified p hooks terms before (SortMb f) → GivesSort h.of_term h.values h.told
    member_gives w =
        let t = with_at (term_at terms f.term) h.of_term (λ t. IsBareWithin p.sig t × GivesIn t) h.at_term w in
        let vs = with_at (terms_at terms f.bind) h.values (λ vs. All (IsBareWithin p.sig) vs × GivesBy h.of_term vs) h.at_values t.1.1 in
        with_at (all_numbered before f.uses) h.told (GivesSort h.of_term h.values) h.at_uses vs.1

    pub member_is : IsSortNumber p.sig f.sort → GivesSort h.of_term h.values h.told → IsJustified p hooks terms before (SortMb f)
    member_is n g =
        with_is (term_at terms f.term) h.of_term (λ t. IsBareWithin p.sig t × GivesIn t) h.at_term (
          h.is_term.within,
          (
            n,
            with_is (terms_at terms f.bind) h.values (λ vs. All (IsBareWithin p.sig) vs × GivesBy h.of_term vs) h.at_values
                (kept_within p.sig nodes x.values.items h.values h.are_values, with_is (all_numbered before f.uses) h.told (GivesSort h.of_term h.values) h.at_uses g),
          ),
        )
