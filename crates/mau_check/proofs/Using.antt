-- Uses of statements, by the values of their variables.
use Rattle.std.proofs.Common.{◌≡◌, ◌↔◌, ℕ, List, [], ◌∷◌, length, map, refl, sym, ap, ◌∙◌, subst}
use Rattle.std.specs.List.{AllZip}
use Rattle.mau_poset.specs.Order.{kind_of, IsAtOrBelow}
use Rattle.mau_terms.specs.Tree.{Tree}
use Rattle.mau_terms.specs.Bare.{IsBareIn, IsBare, EqualModulo, IsLawful}
use Rattle.mau_terms.specs.Subst.{Variable, instance, value_at}
use Rattle.mau_terms.specs.Solution.{HaveSorts}
use Rattle.mau_terms.specs.View.{tree_of}
use Rattle.mau_terms.specs.declared.ids.VarId.{VarId}
use Rattle.mau_terms.proofs.Law.{equal_norm}
use Rattle.mau_terms.proofs.Taken.{equal_kind}
use Rattle.mau_signature.specs.Signature.{SignatureOf, theory_at, terms_over}
use Rattle.mau_sigcheck.specs.Built.{IsBuiltAndAccepted}
use Rattle.mau_store.specs.Node.{Node}
use Rattle.mau_store.specs.Trees.{trees_at}
use Rattle.mau_store.specs.View.{numbers}
use Rattle.mau_program.specs.declared.statements.Fragment.{Fragment}
use Rattle.mau_program.specs.declared.statements.Membership.{Membership}
use Rattle.mau_canon.specs.Within.{IsWithin}
use Rattle.mau_terms.specs.Norm.{norm}
use Rattle.mau_api.specs.Terms.{IsBareWithin, fill, IsContextFor}
use Rattle.mau_logic.specs.Says.{Says}
use Rattle.mau_logic.specs.Shown.{HasSortBy, ShowsAll}
use Rattle.mau_logic.specs.Justified.{Uses, IsMember, membership_variables}
use Rattle.mau_logic.proofs.SortKinds.{below_kind}
use Rattle.mau_check.specs.declared.instances.Values.{Values}
use Rattle.mau_check.specs.declared.kept.Kept.{Kept}
use Rattle.mau_check.specs.declared.said.Said.{Said}
use Rattle.mau_check.specs.Kept.{IsKeptFor, AreKeptFor}
use Rattle.mau_check.specs.Said.{IsSaid, AreSaid}
use Rattle.mau_check.specs.Variables.{variables_in}
use Rattle.mau_check.specs.Instances.{AreBound, IsBinding}
use Rattle.mau_check.proofs.Filled.{instance_bare}
use Rattle.mau_check.proofs.Numbers.{zip_length}
use Rattle.mau_check.proofs.Overs.{kept_trees}
use Rattle.mau_check.proofs.UseOf.{bound_kinds}

-- ---- values of variables

pub binding_made : (s : SignatureOf) → IsBuiltAndAccepted s → IsLawful (terms_over s) → (nodes : List Node) (uses : List Said) (us : List Says) (ks : List Kept) (vs : List Tree) (x : Values) → AreSaid s nodes uses us → AreKeptFor s nodes ks vs →
    length (variables_in x.variables.items) ≡ length ks → x.ids.items ≡ map (λ k. k.id) ks → HaveSorts (HasSortBy s us) (variables_in x.variables.items) vs → IsBinding s nodes us vs x
binding_made s accepted lawful nodes uses us ks vs x said kept many ids sorted = record {
  one_each = sym (zip_length (IsKeptFor s nodes) ks vs kept) ∙ sym many;
  sorted = sorted;
  bound = record {
    values = ap (λ is. trees_at nodes (numbers is)) ids ∙ kept_trees s nodes ks vs kept;
    kinds = bound_kinds s accepted lawful nodes uses us said (variables_in x.variables.items) ks vs kept sorted;
  };
}

-- ---- statements

module _ (s : SignatureOf) (left right : Tree) (cond : List Fragment) (c t u : Tree) (vs : List Tree) (us : List Says) where
  -- both ends, by these variables
  abbrev pub Ends : List Variable → Type 0
  Ends xs = EqualModulo (terms_over s) t (fill c (instance (value_at xs vs) left)) × EqualModulo (terms_over s) (fill c (instance (value_at xs vs) right)) u

  pub uses_made : (xs ys : List Variable) → xs ≡ ys → IsContextFor (terms_over s) left c → length vs ≡ length xs → HaveSorts (HasSortBy s us) xs vs → Ends xs → ShowsAll s us (value_at xs vs) cond → Uses s ys left right cond c t u vs us
  uses_made xs ys e context one sorted ends shown = subst (λ zs. Uses s zs left right cond c t u vs us) e (record {
    context = context;
    one_each = one;
    from = ends.0;
    to = ends.1;
    sorted = sorted;
    shown = shown;
  })

  pub uses_by : (xs ys : List Variable) → xs ≡ ys → Uses s ys left right cond c t u vs us → Uses s xs left right cond c t u vs us
  uses_by xs ys e h = subst (λ zs. Uses s zs left right cond c t u vs us) (sym e) h

-- ---- memberships

module _ (s : SignatureOf) (m : Membership) (r : ℕ) (t : Tree) (vs : List Tree) (us : List Says) where
  -- the head, by these variables
  abbrev pub IsHead : List Variable → Type 0
  IsHead xs = EqualModulo (terms_over s) t (instance (value_at xs vs) (tree_of m.left))

  pub member_made : (xs : List Variable) → xs ≡ membership_variables m → length vs ≡ length xs → IsHead xs → IsAtOrBelow s.hierarchy m.sort r → HaveSorts (HasSortBy s us) xs vs →
      ShowsAll s us (value_at xs vs) m.cond → IsMember s m r t vs us
  member_made xs e one head low sorted shown = record {
    one_each = one ∙ ap length e;
    head = subst IsHead e head;
    sort = low;
    sorted = subst (λ zs. HaveSorts (HasSortBy s us) zs vs) e sorted;
    shown = subst (λ zs. ShowsAll s us (value_at zs vs) m.cond) e shown;
  }

  pub member_head : (xs : List Variable) → xs ≡ membership_variables m → IsMember s m r t vs us → IsHead xs
  member_head xs e h = subst IsHead (sym e) h.head

  pub member_one_each : (xs : List Variable) → xs ≡ membership_variables m → IsMember s m r t vs us → length vs ≡ length xs
  member_one_each xs e h = h.one_each ∙ sym (ap length e)

  pub member_sorted : (xs : List Variable) → xs ≡ membership_variables m → IsMember s m r t vs us → HaveSorts (HasSortBy s us) xs vs
  member_sorted xs e h = subst (λ zs. HaveSorts (HasSortBy s us) zs vs) (sym e) h.sorted

  pub member_shown : (xs : List Variable) → xs ≡ membership_variables m → IsMember s m r t vs us → ShowsAll s us (value_at xs vs) m.cond
  member_shown xs e h = subst (λ zs. ShowsAll s us (value_at zs vs) m.cond) (sym e) h.shown

  -- the term lies in the kind of the sort
  pub member_kind : IsBuiltAndAccepted s → IsLawful (terms_over s) → HaveSorts (λ q v. IsBareIn (terms_over s) v (kind_of s.hierarchy q)) (membership_variables m) vs → IsBareIn (terms_over s) (tree_of m.left) (kind_of s.hierarchy m.sort) →
      (k : ℕ) → IsBareIn (terms_over s) t k → IsMember s m r t vs us → IsBareIn (terms_over s) t (kind_of s.hierarchy r)
  member_kind accepted lawful kinds head k b h =
      let left = instance_bare s lawful (membership_variables m) vs kinds (tree_of m.left) (kind_of s.hierarchy m.sort) head in
      let same = equal_kind (terms_over s) lawful t (instance (value_at (membership_variables m) vs) (tree_of m.left)) k (kind_of s.hierarchy m.sort) b left (equal_norm (terms_over s) lawful h.head) in
      subst (IsBareIn (terms_over s) t) (same ∙ sym (below_kind s accepted m.sort r h.sort)) b

-- what is equal to a term within the limits is within the limits
pub head_within : (s : SignatureOf) → IsLawful (terms_over s) → (t u : Tree) → IsBareWithin s t → EqualModulo (terms_over s) t u → IsWithin (theory_at s) (norm (theory_at s) u)
head_within s lawful t u w e = subst (IsWithin (theory_at s)) (equal_norm (terms_over s) lawful e) w.1
