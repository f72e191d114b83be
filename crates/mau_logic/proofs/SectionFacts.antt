-- Each fact of a justified section follows from facts before it, so all that it says is derivable.
use Rattle.std.proofs.Common.{◌≡◌, ℕ, zero, suc, ◌<◌, ◌-◌, List, [], ◌∷◌, ◌++◌, length, Bool, true, false, not, Option, Some, None, refl, sym, ap, subst, arith}
use Rattle.std.specs.Prelude.{All, fold, take, slice_get}
use Rattle.std.specs.Option.{option_map, option_and_then}
use Rattle.mau_terms.specs.Tree.{Tree}
use Rattle.mau_terms.specs.Bare.{EqualModulo}
use Rattle.mau_signature.specs.Signature.{terms_over}
use Rattle.mau_formula.specs.Operator.{Operator}
use Rattle.mau_program.specs.declared.statements.Membership.{Membership}
use Rattle.mau_program.specs.declared.program.Program.{Program}
use Rattle.mau_program.specs.declared.statements.Equation.{Equation}
use Rattle.mau_program.specs.declared.statements.Rule.{Rule}
use Rattle.mau_facts.specs.declared.document.Fact.{Fact}
use Rattle.mau_facts.specs.declared.document.Fact.TheVariants.{Same, Step, Built, Under, Chain, SortDecl, SortMb}
use Rattle.mau_api.specs.Variables.{numbered}
use Rattle.mau_api.specs.Terms.{IsBareWithin}
use Rattle.mau_logic.specs.Lines.{all_numbered, term_at, terms_at, section_terms}
use Rattle.mau_logic.specs.Says.{Says, leads, of_sort, says_nothing, leads_if, of_sort_if, all_equational, start_of, end_of, or_none, facts_at, said}
use Rattle.mau_logic.specs.Shown.{HasSortBy}
use Rattle.mau_logic.specs.Justified.{With, UsesEquation, UsesRule, UsesStatement, UsesBuilt, IsUnder, LeadOn, IsMember, IsSortNumber, IsJustified}
use Rattle.mau_logic.specs.Derivable.{Follows, same, by_equation, by_rule, by_built_in, under, chain, declared, member, Derivable, derives, AreDerivable, no_facts, one_fact}
use Rattle.mau_logic.specs.Laws.{Each, SectionsAreDerivable}

-- ---- facts with numbers

each_at : (P : Says → Type 0) (xs : List Says) → Each P xs → (n : ℕ) (y : Says) → slice_get xs n ≡ Some y → P y
each_at P [] h n y e = cc
each_at P (x ∷ xs) h zero y e = subst P (let d : x ≡ y = cc in d) h.0
each_at P (x ∷ xs) h (suc n) y e = each_at P xs h.1 n y e

each_numbered : (P : Says → Type 0) (before : List Says) → Each P before → (ns : List ℕ) (us : List Says) → all_numbered before ns ≡ Some us → Each P us
each_numbered P before h [] us e = subst (Each P) (let d : [] ≡ us = cc in d) tt
each_numbered P before h (n ∷ ns) us e = by (λ ys d. each_numbered P before h ns ys d) (numbered before n) refl (all_numbered before ns) refl e
  where
    at : (n : ℕ) (y : Says) → numbered before n ≡ Some y → P y
    at zero y q = cc
    at (suc n) y q = each_at P before h n y q

    by : ((ys : List Says) → all_numbered before ns ≡ Some ys → Each P ys) → (o : Option Says) → numbered before n ≡ o → (r : Option (List Says)) → all_numbered before ns ≡ r →
        option_and_then (λ y. option_map (λ ys. y ∷ ys) r) o ≡ Some us → Each P us
    by rest None q r d w = cc
    by rest (Some y) q None d w = cc
    by rest (Some y) q (Some ys) d w = subst (Each P) (let k : y ∷ ys ≡ us = cc in k) (at n y q, rest ys d)

-- ---- a justified fact

-- a fact says what follows from what facts before it say
pub record FollowsFrom (p : Program) (hooks : List Operator) (before : List Says) (x : Says) : Type 0 where
  pub numbers : List ℕ
  pub uses : List Says
  pub at : all_numbered before numbers ≡ Some uses
  pub follows : Follows p hooks uses x

module _ (p : Program) (hooks : List Operator) (terms : List (Option Tree)) (before : List Says) where
  of_none : (x : Says) → Follows p hooks [] x → FollowsFrom p hooks before x
  of_none x f = record { numbers = []; uses = []; at = refl; follows = f }

  facts_are : (ns : List ℕ) (us : List Says) → all_numbered before ns ≡ Some us → facts_at before ns ≡ us
  facts_are ns us e = ap or_none e

  same_follows : (x y : Option Tree) → With x (λ t. IsBareWithin p.sig t × With y (λ u. IsBareWithin p.sig u × EqualModulo (terms_over p.sig) t u)) → FollowsFrom p hooks before (leads_if true x y)
  same_follows None y h = absurd h
  same_follows (Some t) None h = absurd h.1
  same_follows (Some t) (Some u) h = of_none (leads true t u) (same t u h.0 h.1.0 h.1.1)

  statement_follows : (r : Bool) (n : ℕ) (c t u : Tree) (vs : List Tree) (us : List Says) → IsBareWithin p.sig c → IsBareWithin p.sig t → IsBareWithin p.sig u → All (IsBareWithin p.sig) vs →
      UsesStatement p r n c t u vs us → Follows p hooks us (leads (not r) t u)
  statement_follows true n c t u vs us bc bt bu bvs h = by (numbered p.rules n) refl h
    where
      by : (o : Option Rule) → numbered p.rules n ≡ o → With o (λ q. UsesRule p.sig q c t u vs us) → Follows p hooks us (leads false t u)
      by None e k = absurd k
      by (Some q) e k = by_rule n q c t u vs e bc bt bu bvs k
  statement_follows false n c t u vs us bc bt bu bvs h = by (numbered p.equations n) refl h
    where
      by : (o : Option Equation) → numbered p.equations n ≡ o → With o (λ e. UsesEquation p.sig e c t u vs us) → Follows p hooks us (leads true t u)
      by None e k = absurd k
      by (Some q) e k = by_equation n q c t u vs e bc bt bu bvs k

  step_follows : (r : Bool) (n : ℕ) (ns : List ℕ) (x y z : Option Tree) (ws : Option (List Tree)) (us : Option (List Says)) → all_numbered before ns ≡ us →
      With x (λ c. IsBareWithin p.sig c × With y (λ t. IsBareWithin p.sig t × With z (λ u. IsBareWithin p.sig u × With ws (λ vs. All (IsBareWithin p.sig) vs × With us (λ us. UsesStatement p r n c t u vs us))))) →
      FollowsFrom p hooks before (leads_if (not r) y z)
  step_follows r n ns None y z ws us e h = absurd h
  step_follows r n ns (Some c) None z ws us e h = absurd h.1
  step_follows r n ns (Some c) (Some t) None ws us e h = absurd h.1.1
  step_follows r n ns (Some c) (Some t) (Some u) None us e h = absurd h.1.1.1
  step_follows r n ns (Some c) (Some t) (Some u) (Some vs) None e h = absurd h.1.1.1.1
  step_follows r n ns (Some c) (Some t) (Some u) (Some vs) (Some us) e h =
      record { numbers = ns; uses = us; at = e; follows = statement_follows r n c t u vs us h.0 h.1.0 h.1.1.0 h.1.1.1.0 h.1.1.1.1 }

  built_follows : (f : ℕ) (x y z : Option Tree) (ws : Option (List Tree)) →
      With x (λ c. IsBareWithin p.sig c × With y (λ t. IsBareWithin p.sig t × With z (λ u. IsBareWithin p.sig u × With ws (λ ts. All (IsBareWithin p.sig) ts × UsesBuilt p.sig hooks f c t u ts)))) →
      FollowsFrom p hooks before (leads_if true y z)
  built_follows f None y z ws h = absurd h
  built_follows f (Some c) None z ws h = absurd h.1
  built_follows f (Some c) (Some t) None ws h = absurd h.1.1
  built_follows f (Some c) (Some t) (Some u) None h = absurd h.1.1.1
  built_follows f (Some c) (Some t) (Some u) (Some ts) h = of_none (leads true t u) (by_built_in f c t u ts h.0 h.1.0 h.1.1.0 h.1.1.1.0 h.1.1.1.1)

  under_follows : (f : ℕ) (ns : List ℕ) (y z : Option Tree) (us : Option (List Says)) → all_numbered before ns ≡ us →
      With y (λ t. IsBareWithin p.sig t × With z (λ u. IsBareWithin p.sig u × With us (λ xs. IsUnder p.sig f xs t u))) → FollowsFrom p hooks before (leads_if (all_equational (facts_at before ns)) y z)
  under_follows f ns None z us e h = absurd h
  under_follows f ns (Some t) None us e h = absurd h.1
  under_follows f ns (Some t) (Some u) None e h = absurd h.1.1
  under_follows f ns (Some t) (Some u) (Some xs) e h =
      subst (λ ys. FollowsFrom p hooks before (leads (all_equational ys) t u)) (sym (facts_are ns xs e)) (record { numbers = ns; uses = xs; at = e; follows = under f t u h.0 h.1.0 h.1.1 })

  -- a chain says where it begins and ends
  chain_says : (us : List Says) → LeadOn p.sig us → (t u : Option Tree) → start_of us ≡ t → end_of us ≡ u → Follows p hooks us (leads_if (all_equational us) t u)
  chain_says us on (Some t) (Some u) e d = chain t u on e d
  chain_says us on None u e d = absurd (begins us on e)
    where
      begins : (us : List Says) → LeadOn p.sig us → start_of us ≡ None → ⊥
      begins [] on e = on
      begins (leads b t u ∷ us) on e = cc
      begins (of_sort t r ∷ us) on e = on
      begins (says_nothing ∷ us) on e = on
  chain_says us on (Some t) None e d = absurd (ends us on d)
    where
      ends : (us : List Says) → LeadOn p.sig us → end_of us ≡ None → ⊥
      ends [] on e = on
      ends (leads b t u ∷ []) on e = cc
      ends (leads b t u ∷ leads c v w ∷ us) on e = ends (leads c v w ∷ us) on.1 e
      ends (leads b t u ∷ of_sort v r ∷ us) on e = on
      ends (leads b t u ∷ says_nothing ∷ us) on e = on
      ends (of_sort t r ∷ us) on e = on
      ends (says_nothing ∷ us) on e = on

  chain_follows : (ns : List ℕ) (us : Option (List Says)) → all_numbered before ns ≡ us → With us (LeadOn p.sig) →
      FollowsFrom p hooks before (leads_if (all_equational (facts_at before ns)) (start_of (facts_at before ns)) (end_of (facts_at before ns)))
  chain_follows ns None e h = absurd h
  chain_follows ns (Some us) e h =
      subst (λ ys. FollowsFrom p hooks before (leads_if (all_equational ys) (start_of ys) (end_of ys))) (sym (facts_are ns us e))
      (record { numbers = ns; uses = us; at = e; follows = chain_says us h (start_of us) (end_of us) refl refl })

  declared_follows : (r : ℕ) (ns : List ℕ) (x : Option Tree) (us : Option (List Says)) → all_numbered before ns ≡ us →
      With x (λ t. IsBareWithin p.sig t × (IsSortNumber p.sig r × With us (λ us. HasSortBy p.sig us (r - 1) t))) → FollowsFrom p hooks before (of_sort_if x r)
  declared_follows r ns None us e h = absurd h
  declared_follows r ns (Some t) None e h = absurd h.1.1
  declared_follows zero ns (Some t) (Some us) e h = absurd (let l = h.1.0.0 in omega arith)
  declared_follows (suc r) ns (Some t) (Some us) e h = record { numbers = ns; uses = us; at = e; follows = declared t r h.0 (omega (arith, h.1.0.1)) (subst (λ q. HasSortBy p.sig us q t) (omega arith) h.1.1) }

  member_follows : (r n : ℕ) (ns : List ℕ) (x : Option Tree) (ws : Option (List Tree)) (us : Option (List Says)) (o : Option Membership) → all_numbered before ns ≡ us → numbered p.memberships n ≡ o →
      With x (λ t. IsBareWithin p.sig t × (IsSortNumber p.sig r × With ws (λ vs. All (IsBareWithin p.sig) vs × With us (λ us. With o (λ m. IsMember p.sig m (r - 1) t vs us))))) → FollowsFrom p hooks before (of_sort_if x r)
  member_follows r n ns None ws us o e d h = absurd h
  member_follows r n ns (Some t) None us o e d h = absurd h.1.1
  member_follows r n ns (Some t) (Some vs) None o e d h = absurd h.1.1.1
  member_follows r n ns (Some t) (Some vs) (Some us) None e d h = absurd h.1.1.1
  member_follows zero n ns (Some t) (Some vs) (Some us) (Some m) e d h = absurd (let l = h.1.0.0 in omega arith)
  member_follows (suc r) n ns (Some t) (Some vs) (Some us) (Some m) e d h =
      record { numbers = ns; uses = us; at = e; follows = member n m t r vs d h.0 (omega (arith, h.1.0.1)) h.1.1.0 (subst (λ q. IsMember p.sig m q t vs us) (omega arith) h.1.1.1) }

  pub justified_follows : (f : Fact) → IsJustified p hooks terms before f → FollowsFrom p hooks before (said terms before f)
  justified_follows (Same t u axioms) h = same_follows (term_at terms t) (term_at terms u) h
  justified_follows (Step f) h =
      step_follows f.rule f.number f.uses (term_at terms f.context) (term_at terms f.from) (term_at terms f.to) (terms_at terms f.bind) (all_numbered before f.uses) refl h
  justified_follows (Built f) h = built_follows f.op (term_at terms f.context) (term_at terms f.from) (term_at terms f.to) (terms_at terms f.args) h
  justified_follows (Under f) h = under_follows f.op f.facts (term_at terms f.from) (term_at terms f.to) (all_numbered before f.facts) refl h
  justified_follows (Chain ns) h = chain_follows ns (all_numbered before ns) refl h
  justified_follows (SortDecl f) h = declared_follows f.sort f.uses (term_at terms f.term) (all_numbered before f.uses) refl h
  justified_follows (SortMb f) h =
      member_follows f.sort f.membership f.uses (term_at terms f.term) (terms_at terms f.bind) (all_numbered before f.uses) (numbered p.memberships f.membership) refl refl h

-- ---- sections

module _ (p : Program) (hooks : List Operator) where
  all_derivable : (us : List Says) → Each (Derivable p hooks) us → AreDerivable p hooks us
  all_derivable [] h = no_facts
  all_derivable (u ∷ us) h = one_fact h.0 (all_derivable us h.1)

  each_push : (xs : List Says) (x : Says) → Each (Derivable p hooks) xs → Derivable p hooks x → Each (Derivable p hooks) (xs ++ x ∷ [])
  each_push [] x h d = (d, tt)
  each_push (y ∷ xs) x h d = (h.0, each_push xs x h.1 d)

  -- from what is said so far and the facts that are left
  from_here : (terms : List (Option Tree)) (xs : List Says) (fs : List Fact) → Each (Derivable p hooks) xs →
      ((i : ℕ) (f : Fact) → i < length fs → slice_get fs i ≡ Some f → IsJustified p hooks terms (fold (λ ys g. ys ++ said terms ys g ∷ []) xs (take i fs)) f) →
      Each (Derivable p hooks) (fold (λ ys g. ys ++ said terms ys g ∷ []) xs fs)
  from_here terms xs [] h j = h
  from_here terms xs (f ∷ fs) h j =
      let k = justified_follows p hooks terms xs f (j 0 f (omega arith) refl) in
      let d = derives k.uses (all_derivable k.uses (each_numbered (Derivable p hooks) xs h k.numbers k.uses k.at)) k.follows in
      from_here terms (xs ++ said terms xs f ∷ []) fs (each_push xs (said terms xs f) h d) (λ i g l e. j (suc i) g (omega arith) e)

pub sections_are_derivable : SectionsAreDerivable
sections_are_derivable p hooks x j = from_here p hooks (section_terms p x) [] x.facts tt j
