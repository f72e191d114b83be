-- What a fact names.
use Rattle.std.specs.Prelude.{◌≡◌, ℕ, List, All, Option, Some}
use Rattle.mau_terms.specs.Tree.{Tree}
use Rattle.mau_signature.specs.Signature.{SignatureOf}
use Rattle.mau_store.specs.Node.{Node}
use Rattle.mau_api.specs.Terms.{IsBareWithin}
use Rattle.mau_logic.specs.Lines.{all_numbered, term_at, terms_at}
use Rattle.mau_logic.specs.Says.{Says}
use Rattle.mau_logic.specs.Justified.{With}
use Rattle.mau_check.specs.declared.named.Named.{Named}
use Rattle.mau_check.specs.declared.named.Bound.{Bound}
use Rattle.mau_check.specs.Kept.{IsKeptFor, AreKeptFor}
use Rattle.mau_check.specs.Said.{AreSaid}

-- ---- facts in a context

-- the numbers of what such a fact names: a context, two terms, further terms, and the facts in use
pub record Numbers : Type 0 where
  pub context : ℕ
  pub from : ℕ
  pub to : ℕ
  pub values : List ℕ
  pub uses : List ℕ

-- the context c, the terms t and u, the values vs, and what the facts in use say
pub record AreNamed (s : SignatureOf) (nodes : List Node) (x : Named) (c t u : Tree) (vs : List Tree) (us : List Says) : Type 0 where
  pub context : IsKeptFor s nodes x.context c
  pub from : IsKeptFor s nodes x.from t
  pub to : IsKeptFor s nodes x.to u
  pub values : AreKeptFor s nodes x.values.items vs
  pub uses : AreSaid s nodes x.uses.items us

-- there are such
pub record IsNamed (s : SignatureOf) (nodes : List Node) (x : Named) : Type 0 where
  pub context : Tree
  pub from : Tree
  pub to : Tree
  pub values : List Tree
  pub uses : List Says
  pub are : AreNamed s nodes x context from to values uses

-- they are what the numbers n name
pub record IsNamedBy (s : SignatureOf) (nodes : List Node) (terms : List (Option Tree)) (before : List Says) (n : Numbers) (x : Named) : Type 0 where
  pub context : Tree
  pub from : Tree
  pub to : Tree
  pub values : List Tree
  pub uses : List Says
  pub at_context : term_at terms n.context ≡ Some context
  pub at_from : term_at terms n.from ≡ Some from
  pub at_to : term_at terms n.to ≡ Some to
  pub at_values : terms_at terms n.values ≡ Some values
  pub at_uses : all_numbered before n.uses ≡ Some uses
  pub are : AreNamed s nodes x context from to values uses

-- the numbers n name what is there
pub record NameAll (s : SignatureOf) (terms : List (Option Tree)) (before : List Says) (n : Numbers) : Type 0 where
  pub context : With (term_at terms n.context) (IsBareWithin s)
  pub from : With (term_at terms n.from) (IsBareWithin s)
  pub to : With (term_at terms n.to) (IsBareWithin s)
  pub values : With (terms_at terms n.values) (All (IsBareWithin s))
  pub uses : List Says
  pub at_uses : all_numbered before n.uses ≡ Some uses

-- ---- facts about a term with values

-- the term t, the values vs, and what the facts in use say, by their numbers
pub record IsBoundBy (s : SignatureOf) (nodes : List Node) (terms : List (Option Tree)) (before : List Says) (term : ℕ) (bind uses : List ℕ) (x : Bound) : Type 0 where
  pub of_term : Tree
  pub values : List Tree
  pub told : List Says
  pub at_term : term_at terms term ≡ Some of_term
  pub at_values : terms_at terms bind ≡ Some values
  pub at_uses : all_numbered before uses ≡ Some told
  pub is_term : IsKeptFor s nodes x.term of_term
  pub are_values : AreKeptFor s nodes x.values.items values
  pub are_told : AreSaid s nodes x.uses.items told

-- the numbers name what is there
pub record BindsAll (s : SignatureOf) (terms : List (Option Tree)) (before : List Says) (term : ℕ) (bind uses : List ℕ) : Type 0 where
  pub of_term : With (term_at terms term) (IsBareWithin s)
  pub values : With (terms_at terms bind) (All (IsBareWithin s))
  pub told : List Says
  pub at_uses : all_numbered before uses ≡ Some told
