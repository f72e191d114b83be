-- What a derivable fact says of a term's sort says what is in the term's kind.
use Rattle.std.proofs.Common.{◌≡◌, ℕ, zero, suc, List, [], ◌∷◌, Some, sym, ap, ◌∙◌, subst, arith}
use Rattle.std.specs.Prelude.{All}
use Rattle.std.proofs.lemmas.List.Elements.{All-head, All-tail}
use Rattle.mau_poset.specs.Order.{kind_of}
use Rattle.mau_terms.specs.Tree.{Tree}
use Rattle.mau_terms.specs.Norm.{norm}
use Rattle.mau_terms.specs.Reading.{reading}
use Rattle.mau_terms.specs.Bare.{IsBareIn, IsLawful}
use Rattle.mau_terms.specs.Subst.{Variable, value_at, instance}
use Rattle.mau_terms.specs.Solution.{HaveSorts}
use Rattle.mau_terms.specs.View.{tree_of}
use Rattle.mau_terms.proofs.Law.{equal_norm}
use Rattle.mau_terms.proofs.Normal.{norm_normal}
use Rattle.mau_terms.proofs.Taken.{one_kind, equal_kind}
use Rattle.mau_signature.specs.Signature.{SignatureOf, theory_at, terms_over}
use Rattle.mau_sigcheck.specs.Built.{IsBuiltAndAccepted}
use Rattle.mau_formula.specs.Operator.{Operator}
use Rattle.mau_program.specs.declared.statements.Membership.{Membership}
use Rattle.mau_program.specs.declared.program.Program.{Program}
use Rattle.mau_api.specs.Variables.{numbered}
use Rattle.mau_api.specs.Terms.{IsBareWithin}
use Rattle.mau_logic.specs.Says.{Says, leads, of_sort, says_nothing}
use Rattle.mau_logic.specs.Shown.{known_by, HasSortBy}
use Rattle.mau_logic.specs.Justified.{membership_variables}
use Rattle.mau_logic.specs.Derivable.{Follows, same, by_equation, by_rule, by_built_in, under, chain, declared, member, Derivable, derives, AreDerivable, no_facts, one_fact}
use Rattle.mau_logic.proofs.SortKinds.{below_kind, AreInKinds, sort_kind}
use Rattle.mau_built_ins.proofs.NormalTerms.{read_bare}
use Rattle.mau_logic.proofs.Instances.{instance_in, have_values}

-- a term that has a sort by a fact lies in its kind
abbrev pub IsKinded : SignatureOf → Says → Type 0
IsKinded s (leads e t u) = Unit {0}
IsKinded s (of_sort t r) = IsBareIn (terms_over s) t (kind_of s.hierarchy r)
IsKinded s says_nothing = Unit {0}

abbrev pub AreKinded : SignatureOf → List Says → Type 0
AreKinded s [] = Unit {0}
AreKinded s (x ∷ xs) = IsKinded s x × AreKinded s xs

module _ (s : SignatureOf) (accepted : IsBuiltAndAccepted s) (lawful : IsLawful (terms_over s)) where
  known_kinds : (us : List Says) → AreKinded s us → AreInKinds s accepted (known_by s us)
  known_kinds [] h t r k (i, l, e) b = absurd (omega arith)
  known_kinds (leads d u v ∷ us) h t r k c b = known_kinds us h.1 t r k c b
  known_kinds (says_nothing ∷ us) h t r k c b = known_kinds us h.1 t r k c b
  known_kinds (of_sort u q ∷ us) h t r k (zero, l, e) b =
      let et : norm (theory_at s) u ≡ t = ap (λ (z : Tree × ℕ). z.0) e in
      let er : q ≡ r = ap (λ (z : Tree × ℕ). z.1) e in
      one_kind (terms_over s) (reading (theory_at s) t) (kind_of s.hierarchy r) k (subst (λ v. IsBareIn (terms_over s) (reading (theory_at s) v) (kind_of s.hierarchy r)) et (read_bare s lawful u (kind_of s.hierarchy r) (subst (λ z. IsBareIn (terms_over s) u (kind_of s.hierarchy z)) er h.0))) b
  known_kinds (of_sort u q ∷ us) h t r k (suc i, l, e) b = known_kinds us h.1 t r k (i, omega arith, e) b

  -- a term with a sort that facts give lies in the sort's kind
  pub sorted_kind : (us : List Says) → AreKinded s us → (t : Tree) (r k : ℕ) → IsBareIn (terms_over s) t k → HasSortBy s us r t → IsBareIn (terms_over s) t (kind_of s.hierarchy r)
  sorted_kind us h t r k b has =
      subst (IsBareIn (terms_over s) t)
      (sym (sort_kind s accepted (known_by s us) (known_kinds us h) (norm (theory_at s) t) r k (norm_normal (theory_at s) lawful.theories t) (read_bare s lawful t k b) has)) b

  pub values_kinds : (us : List Says) → AreKinded s us → (xs : List Variable) (vs : List Tree) → All (IsBareWithin s) vs → HaveSorts (HasSortBy s us) xs vs →
      HaveSorts (λ r v. IsBareIn (terms_over s) v (kind_of s.hierarchy r)) xs vs
  values_kinds us h [] vs w has = tt
  values_kinds us h (x ∷ xs) [] w has = absurd has
  values_kinds us h (x ∷ xs) (v ∷ vs) w has =
      let bare = All-head (IsBareWithin s) v vs w in
      (sorted_kind us h v x.1 bare.0.0 bare.0.1 has.0, values_kinds us h xs vs (All-tail (IsBareWithin s) v vs w) has.1)

-- the head of each membership is of the kind of its sort
abbrev pub HaveKindedHeads : Program → Type 0
HaveKindedHeads p = (n : ℕ) (m : Membership) → numbered p.memberships n ≡ Some m → IsBareIn (terms_over p.sig) (tree_of m.left) (kind_of p.sig.hierarchy m.sort)

module _ (p : Program) (hooks : List Operator) (accepted : IsBuiltAndAccepted p.sig) (lawful : IsLawful (terms_over p.sig)) (heads : HaveKindedHeads p) where
  follows_kind : (us : List Says) → AreKinded p.sig us → (x : Says) → Follows p hooks us x → IsKinded p.sig x
  follows_kind us h _ (same t u bt bu e) = tt
  follows_kind us h _ (by_equation n e c t u vs at bc bt bu bvs is) = tt
  follows_kind us h _ (by_rule n q c t u vs at bc bt bu bvs is) = tt
  follows_kind us h _ (by_built_in f c t u ts bc bt bu bts is) = tt
  follows_kind us h _ (under f t u bt bu is) = tt
  follows_kind us h _ (chain t u on e d) = tt
  follows_kind us h _ (declared t r b low has) = sorted_kind p.sig accepted lawful us h t r b.0.0 b.0.1 has
  follows_kind us h _ (member n m t r vs at b low bvs is) =
      let left = instance_in (terms_over p.sig) (value_at (membership_variables m) vs)
      (have_values (terms_over p.sig) (membership_variables m) vs (values_kinds p.sig accepted lawful us h (membership_variables m) vs bvs is.sorted))
      (tree_of m.left) (kind_of p.sig.hierarchy m.sort) (heads n m at) in
      let kind = equal_kind (terms_over p.sig) lawful t (instance (value_at (membership_variables m) vs) (tree_of m.left)) b.0.0 (kind_of p.sig.hierarchy m.sort) b.0.1 left (equal_norm (terms_over p.sig) lawful is.head) in
      subst (IsBareIn (terms_over p.sig) t) (kind ∙ sym (below_kind p.sig accepted m.sort r is.sort)) b.0.1

  mutual
    pub fact_kind : {x : Says} → Derivable p hooks x → IsKinded p.sig x
    fact_kind {x} (derives us d f) = follows_kind us (facts_kind d) x f

    pub facts_kind : {us : List Says} → AreDerivable p hooks us → AreKinded p.sig us
    facts_kind no_facts = tt
    facts_kind (one_fact d ds) = (fact_kind d, facts_kind ds)
