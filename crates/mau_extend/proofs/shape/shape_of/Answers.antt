use Rattle.std.proofs.Common.{◌≡◌, ◌+◌, List, true, refl, sym, ◌∙◌, arith, subst, lt-ltb}
use Rattle.mau_poset.specs.Order.{kinds}
use Rattle.mau_signature.specs.Signature.{terms_over}
use Rattle.mau_trial.specs.Tried.{asked_in}
use Rattle.mau_terms.specs.declared.ids.TermId.{TermId}
use Rattle.mau_terms.specs.declared.ids.VarId.{VarId}
use Rattle.mau_extend.specs.Extended.{IsUnused, AreUsedUp}
use Rattle.mau_extend.proofs.Unused.{other_index, unused_is_fresh}
use Rattle.mau_extend.proofs.shape.shape_of.Goals as goal

pub returns-in_default-clause-used_up : goal.returns-in_default-clause-used_up
returns-in_default-clause-used_up c =
    subst (λ (bs : List (VarId × TermId)). AreUsedUp c.args.places.now bs) c.deref.ensures.value (c.in_default.ensures.none refl)

pub returns-clause-shape : goal.returns-clause-shape
returns-clause-shape c = λ nodes.
    let s = c.args.sig.now in
    let kind = c.result_kind-kind.result in
    let a = asked_in c.args.trial.now in
    let e = c.in-Some.ensures in
    let sort : (terms_over s).has_sort kind ≡ true = lt-ltb kind (s.hierarchy.sorts + kinds s.hierarchy) c.result_kind-kind.ensures.kind in
    let own : (terms_over s).kind_of kind ≡ (terms_over s).result c.args.op.0 = c.result_kind-kind.ensures.own ∙ c.result_kind-kind.ensures.value in
    let first = c.in-Some.first in
    let last = c.in-Some.last in
    record {
      operator = c.requires.operator;
      can = record {
        pattern = c.requires.pattern;
        top = c.requires.top;
        first = unused_is_fresh s nodes a c.args.places.now c.requires.places.variables ((terms_over s).result c.args.op.0) first (subst (λ (bs : List (VarId × TermId)). IsUnused c.args.places.now bs first.index) c.deref.ensures.value e.first) (omega (arith, e.apart, e.small))
            (subst (λ n. (terms_over s).has_sort n ≡ true) (sym e.sorts.0) sort) (subst (λ n. (terms_over s).kind_of n ≡ (terms_over s).result c.args.op.0) (sym e.sorts.0) own);
        last = unused_is_fresh s nodes a c.args.places.now c.requires.places.variables ((terms_over s).result c.args.op.0) last (subst (λ (bs : List (VarId × TermId)). IsUnused c.args.places.now bs last.index) c.deref.ensures.value e.last) e.small
            (subst (λ n. (terms_over s).has_sort n ≡ true) (sym e.sorts.1) sort) (subst (λ n. (terms_over s).kind_of n ≡ (terms_over s).result c.args.op.0) (sym e.sorts.1) own);
        apart = other_index first last (λ same. omega (arith, same, e.apart));
        rest_alone = c.requires.alone;
      };
      first_sort = e.sorts.0 ∙ c.result_kind-kind.ensures.value;
      last_sort = e.sorts.1 ∙ c.result_kind-kind.ensures.value;
    }
