use Rattle.std.proofs.Common.{[], sym, ap, subst}
use Rattle.mau_api.specs.Terms.{IsBareWithin}
use Rattle.mau_reduce.specs.BuiltOperators.{constant_tree}
use Rattle.mau_check.specs.Kept.{IsKeptFor}
use Rattle.mau_check.proofs.BuiltOf.{over_none, none_over, no_constant}
use Rattle.mau_check.proofs.Results.{some_then, none_then}
use Rattle.mau_check.proofs.built.constant.Goals as goal

pub build_over-requires : goal.build_over-requires
build_over-requires c = ([], tt)

pub returns-in-Some-clause-some : goal.returns-in-Some-clause-some
returns-in-Some-clause-some c =
    some_then _ _ (λ k h. subst (IsKeptFor c.args.sig.now c.build_over.new.store k) (sym (ap constant_tree c.in-Some.is)) (over_none c.args.sig.now c.in-Some.op.0 (IsKeptFor c.args.sig.now c.build_over.new.store k) h))
    c.build_over.result (c.build_over.ensures.some [] tt)

pub returns-in-Some-clause-none : goal.returns-in-Some-clause-none
returns-in-Some-clause-none c =
    none_then _ _ (λ f w. f (none_over c.args.sig.now c.operators.ensures.lawful c.in-Some.op.0 (subst (IsBareWithin c.args.sig.now) (ap constant_tree c.in-Some.is) w)))
    c.build_over.result (c.build_over.ensures.none [] tt)

pub returns-in-None-clause-none : goal.returns-in-None-clause-none
returns-in-None-clause-none c w = no_constant c.args.sig.now (subst (IsBareWithin c.args.sig.now) (ap constant_tree c.in-None.is) w)
