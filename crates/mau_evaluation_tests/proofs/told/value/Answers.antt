use Rattle.std.proofs.Common.{◌≡◌, ◌∙◌, refl, sym, ap, subst, is_some, rules}
use Rattle.mau_terms.specs.Bare.{IsBareIn}
use Rattle.mau_terms.specs.Norm.{norm}
use Rattle.mau_terms.specs.Reading.{reading}
use Rattle.mau_terms.specs.View.{tree_of, variable_of}
use Rattle.mau_terms.proofs.Chains.{chain_end}
use Rattle.mau_terms.proofs.Readings.{lead_norm}
use Rattle.mau_signature.specs.Signature.{theory_at, terms_over}
use Rattle.mau_store.specs.Trees.{tree_at}
use Rattle.mau_poset.specs.Order.{kind_of}
use Rattle.mau_sorts.specs.SortSets.{IsIn}
use Rattle.mau_evaluation_tests.proofs.told.value.Given.{Over}
use Rattle.mau_evaluation_tests.proofs.told.value.Goals as goal

-- the value is of the kind of its term
kind : (g : Over) (c : goal.Joined-constant-3 g) → IsBareIn (terms_over c.args.sig.now) (reading (theory_at c.args.sig.now) (tree_at c.build_bare.new.store c.in_ok-id.id.0)) c.kind.result
kind g c =
    let s = c.args.sig.now in
    subst (λ u. IsBareIn (terms_over s) (reading (theory_at s) u) c.kind.result) (sym c.in_ok-id.ensures.ok)
    (chain_end (lead_norm (terms_over s) c.is_lawful.ensures.lawful c.kind.result (tree_of c.constant-constant.result) c.kind.ensures.value))

-- which is that of the sort 0
of_sort : (g : Over) (c : goal.Joined-constant-3 g) → c.kind.result ≡ (terms_over c.args.sig.now).kind_of (variable_of c.variable.result).1
of_sort g c =
    let h = c.args.sig.now.hierarchy in
    let same : c.kind.result ≡ c.kind_of.result = search rules in
    let zero : c.kind_of.result ≡ kind_of h 0 = c.kind_of.ensures.value ∙ ap (λ p. kind_of p 0) c.poset-2.ensures.value in
    same ∙ (zero ∙ ap (kind_of h) (sym c.variable.ensures))

pub returns-clause-value : goal.returns-clause-value
returns-clause-value g c =
    let s = c.args.sig.now in
    let e = c.in_ok-assert_sort.ensures in
    record {
      term = record { within = c.in_ok-id.ensures.within; bare = (c.kind.result, kind g c) };
      kind = subst (IsBareIn (terms_over s) (reading (theory_at s) (tree_at c.build_bare.new.store c.in_ok-id.id.0))) (of_sort g c) (kind g c);
      sort = record {
        number = c.in_ok-id.id.0;
        there = c.in_ok-id.ensures.within.there;
        tree = refl;
        entry = e.0;
        at = e.1;
        has = subst (IsIn s.hierarchy e.0) (sym c.variable.ensures) e.2;
      };
    }

pub returns-clause-told : goal.returns-clause-told
returns-clause-told g c =
    (record { within = c.in_ok-id.ensures.within; bare = (c.kind.result, kind g c) }, ap is_some c.in_ok-assert_sort.ensures.1)
