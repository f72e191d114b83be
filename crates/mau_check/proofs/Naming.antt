-- What facts name, and what is said of it.
use Rattle.std.proofs.Common.{◌≡◌, ℕ, zero, suc, ◌-◌, ◌<◌, ◌≤◌, List, [], ◌∷◌, length, get_or, Option, Some, None, ◌⊎◌, inl, inr, refl, sym, ap, ◌∙◌, subst, arith}
use Rattle.std.proofs.lemmas.Option.{slice_get_read, slice_get_past, slice_get_within, get_or_from_slice_get}
use Rattle.mau_api.specs.Variables.{numbered}
use Rattle.std.specs.Prelude.{All}
use Rattle.mau_terms.specs.Tree.{Tree}
use Rattle.mau_signature.specs.Signature.{SignatureOf}
use Rattle.mau_store.specs.Node.{Node}
use Rattle.mau_api.specs.Terms.{IsBareWithin}
use Rattle.mau_logic.specs.Lines.{all_numbered, term_at, terms_at}
use Rattle.mau_logic.specs.Says.{Says}
use Rattle.mau_logic.specs.Justified.{With, WithTerm, WithTerms}
use Rattle.mau_check.specs.declared.kept.Kept.{Kept}
use Rattle.mau_check.specs.declared.said.Said.{Said}
use Rattle.mau_check.specs.declared.named.Named.{Named}
use Rattle.mau_check.specs.declared.named.Bound.{Bound}
use Rattle.mau_check.specs.Kept.{IsKeptFor, AreKeptFor}
use Rattle.mau_check.specs.Said.{AreSaid}
use Rattle.mau_check.specs.Named.{Numbers, AreNamed, IsNamed, IsNamedBy, NameAll, IsBoundBy, BindsAll}
use Rattle.mau_check.proofs.UseOf.{kept_within}

pub with_is : {A : Type 0} (o : Option A) (x : A) (P : A → Type 0) → o ≡ Some x → P x → With o P
with_is o x P e h = subst (λ z. With z P) (sym e) h

pub with_at : {A : Type 0} (o : Option A) (x : A) (P : A → Type 0) → o ≡ Some x → With o P → P x
with_at o x P e h = subst (λ z. With z P) e h

pub some_is : {A : Type 0} (o : Option A) (P : A → Type 0) → With o P → (x : A) × (o ≡ Some x) × P x
some_is None P h = absurd h
some_is (Some x) P h = (x, refl, h)

pub no_with : {A : Type 0} (o : Option A) (P : A → Type 0) → o ≡ None → With o P → ⊥
no_with o P e h = subst (λ z. With z P) e h

-- ---- facts in a context

module _ (s : SignatureOf) (terms : List (Option Tree)) (before : List Says) (n : Numbers) (P : Tree → Tree → Tree → List Tree → List Says → Type 0) where
  -- P holds of what the numbers name
  abbrev pub OfNamed : Type 0
  OfNamed =
      WithTerm s terms n.context λ c. WithTerm s terms n.from λ t. WithTerm s terms n.to λ u. WithTerms s terms n.values λ vs. With (all_numbered before n.uses) λ us. P c t u vs us

  abbrev OfUses : Tree → Tree → Tree → List Tree → Type 0
  OfUses c t u vs = With (all_numbered before n.uses) λ us. P c t u vs us

  abbrev OfValues : Tree → Tree → Tree → Type 0
  OfValues c t u = WithTerms s terms n.values (OfUses c t u)

  abbrev OfTo : Tree → Tree → Type 0
  OfTo c t = WithTerm s terms n.to (OfValues c t)

  abbrev OfFrom : Tree → Type 0
  OfFrom c = WithTerm s terms n.from (OfTo c)

  module _ (nodes : List Node) (x : Named) (h : IsNamedBy s nodes terms before n x) where
    pub named_holds : P h.context h.from h.to h.values h.uses → OfNamed
    named_holds p =
        with_is (term_at terms n.context) h.context (λ c. IsBareWithin s c × OfFrom c) h.at_context (
          h.are.context.within,
          with_is (term_at terms n.from) h.from (λ t. IsBareWithin s t × OfTo h.context t) h.at_from (
            h.are.from.within,
            with_is (term_at terms n.to) h.to (λ u. IsBareWithin s u × OfValues h.context h.from u) h.at_to (
              h.are.to.within,
              with_is (terms_at terms n.values) h.values (λ vs. All (IsBareWithin s) vs × OfUses h.context h.from h.to vs) h.at_values (
                kept_within s nodes x.values.items h.values h.are.values,
                with_is (all_numbered before n.uses) h.uses (P h.context h.from h.to h.values) h.at_uses p,
              ),
            ),
          ),
        )

    pub holds_named : OfNamed → P h.context h.from h.to h.values h.uses
    holds_named w =
        let a = with_at (term_at terms n.context) h.context (λ c. IsBareWithin s c × OfFrom c) h.at_context w in
        let b = with_at (term_at terms n.from) h.from (λ t. IsBareWithin s t × OfTo h.context t) h.at_from a.1 in
        let d = with_at (term_at terms n.to) h.to (λ u. IsBareWithin s u × OfValues h.context h.from u) h.at_to b.1 in
        let e = with_at (terms_at terms n.values) h.values (λ vs. All (IsBareWithin s) vs × OfUses h.context h.from h.to vs) h.at_values d.1 in
        with_at (all_numbered before n.uses) h.uses (P h.context h.from h.to h.values) h.at_uses e.1

  pub names_all : OfNamed → NameAll s terms before n
  names_all w =
      let c = some_is (term_at terms n.context) (λ c. IsBareWithin s c × OfFrom c) w in
      let t = some_is (term_at terms n.from) (λ t. IsBareWithin s t × OfTo c.0 t) c.2.1 in
      let u = some_is (term_at terms n.to) (λ u. IsBareWithin s u × OfValues c.0 t.0 u) t.2.1 in
      let vs = some_is (terms_at terms n.values) (λ vs. All (IsBareWithin s) vs × OfUses c.0 t.0 u.0 vs) u.2.1 in
      let us = some_is (all_numbered before n.uses) (P c.0 t.0 u.0 vs.0) vs.2.1 in
      record {
        context = with_is (term_at terms n.context) c.0 (IsBareWithin s) c.1 c.2.0;
        from = with_is (term_at terms n.from) t.0 (IsBareWithin s) t.1 t.2.0;
        to = with_is (term_at terms n.to) u.0 (IsBareWithin s) u.1 u.2.0;
        values = with_is (terms_at terms n.values) vs.0 (All (IsBareWithin s)) vs.1 vs.2.0;
        uses = us.0;
        at_uses = us.1;
      }

-- P holds of some
pub record HoldsOfSome (P : Tree → Tree → Tree → List Tree → List Says → Type 0) : Type 0 where
  pub context : Tree
  pub from : Tree
  pub to : Tree
  pub values : List Tree
  pub uses : List Says
  pub holds : P context from to values uses

pub some_holds : (s : SignatureOf) (terms : List (Option Tree)) (before : List Says) (n : Numbers) (P : Tree → Tree → Tree → List Tree → List Says → Type 0) → OfNamed s terms before n P → HoldsOfSome P
some_holds s terms before n P w =
    let c = some_is (term_at terms n.context) (λ c. IsBareWithin s c × OfFrom s terms before n P c) w in
    let t = some_is (term_at terms n.from) (λ t. IsBareWithin s t × OfTo s terms before n P c.0 t) c.2.1 in
    let u = some_is (term_at terms n.to) (λ u. IsBareWithin s u × OfValues s terms before n P c.0 t.0 u) t.2.1 in
    let vs = some_is (terms_at terms n.values) (λ vs. All (IsBareWithin s) vs × OfUses s terms before n P c.0 t.0 u.0 vs) u.2.1 in
    let us = some_is (all_numbered before n.uses) (P c.0 t.0 u.0 vs.0) vs.2.1 in
    record { context = c.0; from = t.0; to = u.0; values = vs.0; uses = us.0; holds = us.2 }

-- what was found by the numbers
pub named_made : (s : SignatureOf) (nodes : List Node) (terms : List (Option Tree)) (before : List Says) (n : Numbers) (x : Named) → With (term_at terms n.context) (IsKeptFor s nodes x.context) →
    With (term_at terms n.from) (IsKeptFor s nodes x.from) → With (term_at terms n.to) (IsKeptFor s nodes x.to) → With (terms_at terms n.values) (AreKeptFor s nodes x.values.items) →
    With (all_numbered before n.uses) (AreSaid s nodes x.uses.items) → IsNamedBy s nodes terms before n x
named_made s nodes terms before n x hc ht hu hv hs =
    let c = some_is (term_at terms n.context) (IsKeptFor s nodes x.context) hc in
    let t = some_is (term_at terms n.from) (IsKeptFor s nodes x.from) ht in
    let u = some_is (term_at terms n.to) (IsKeptFor s nodes x.to) hu in
    let vs = some_is (terms_at terms n.values) (AreKeptFor s nodes x.values.items) hv in
    let us = some_is (all_numbered before n.uses) (AreSaid s nodes x.uses.items) hs in
    record {
      context = c.0;
      from = t.0;
      to = u.0;
      values = vs.0;
      uses = us.0;
      at_context = c.1;
      at_from = t.1;
      at_to = u.1;
      at_values = vs.1;
      at_uses = us.1;
      are = record { context = c.2; from = t.2; to = u.2; values = vs.2; uses = us.2 };
    }

pub is_named : (s : SignatureOf) (nodes : List Node) (terms : List (Option Tree)) (before : List Says) (n : Numbers) (x : Named) → IsNamedBy s nodes terms before n x → IsNamed s nodes x
is_named s nodes terms before n x h = record { context = h.context; from = h.from; to = h.to; values = h.values; uses = h.uses; are = h.are }

-- ---- facts about a term with values

pub bound_made : (s : SignatureOf) (nodes : List Node) (terms : List (Option Tree)) (before : List Says) (term : ℕ) (bind uses : List ℕ) (x : Bound) → With (term_at terms term) (IsKeptFor s nodes x.term) →
    With (terms_at terms bind) (AreKeptFor s nodes x.values.items) → With (all_numbered before uses) (AreSaid s nodes x.uses.items) → IsBoundBy s nodes terms before term bind uses x
bound_made s nodes terms before term bind uses x ht hv hs =
    let t = some_is (term_at terms term) (IsKeptFor s nodes x.term) ht in
    let vs = some_is (terms_at terms bind) (AreKeptFor s nodes x.values.items) hv in
    let us = some_is (all_numbered before uses) (AreSaid s nodes x.uses.items) hs in
    record {
      of_term = t.0;
      values = vs.0;
      told = us.0;
      at_term = t.1;
      at_values = vs.1;
      at_uses = us.1;
      is_term = t.2;
      are_values = vs.2;
      are_told = us.2;
    }

-- ---- what stands in a list under a number

pub numbered_is : {A : Type 0} (xs : List A) (n : ℕ) (x : A) → (n ≡ 0 → ⊥) → n ≤ length xs → x ≡ get_or xs (n - 1) x → numbered xs n ≡ Some x
numbered_is xs zero x z l e = absurd (z refl)
numbered_is xs (suc n) x z l e =
    let d : suc n - 1 ≡ n = omega arith in
    slice_get_read xs (length xs) n x refl (omega arith) (subst (λ k. x ≡ get_or xs k x) d e)

pub not_numbered : {A : Type 0} (xs : List A) (n : ℕ) → (n ≡ 0) ⊎ (length xs < n) → numbered xs n ≡ None
not_numbered xs zero h = refl
not_numbered xs (suc n) (inl e) = absurd (omega arith)
not_numbered xs (suc n) (inr l) = slice_get_past xs n (omega arith)

pub numbered_all : {A : Type 0} (P : A → Type 0) (xs : List A) (n : ℕ) (x : A) → All P xs → numbered xs n ≡ Some x → P x
numbered_all P xs zero x all e = absurd cc
numbered_all P xs (suc n) x all e = subst P (get_or_from_slice_get xs n x x e) (all n x (slice_get_within xs n x e))
