use Rattle.std.proofs.Common.{inr, subst}
use Rattle.mau_signature.specs.Signature.{theory_at}
use Rattle.mau_store.specs.Trees.{tree_at, trees_at}
use Rattle.mau_store.specs.View.{numbers}
use Rattle.mau_store.proofs.Growth.{trees_at-extends}
use Rattle.mau_store.proofs.Standing.{tree_at-extends}
use Rattle.mau_canon.proofs.Standing.{stands_within_extended, stand_there}
use Rattle.mau_match.specs.Skipped.{IsFurther}
use Rattle.mau_match.proofs.skip.value_over.Goals as goal

pub is_further-requires-clause-value : goal.is_further-requires-clause-value
is_further-requires-clause-value c = stands_within_extended (theory_at c.args.sig.now) c.args.store.now c.from_list.new.store c.from_list.ensures.extends c.args.value.0 c.requires.value

pub returns-then-is_further-clause-over : goal.returns-then-is_further-clause-over
returns-then-is_further-clause-over c =
    let th = theory_at c.args.sig.now in
    let old = c.args.store.now in
    let new = c.from_list.new.store in
    let e = c.from_list.ensures.extends in
    let v = tree_at-extends old new c.args.value.0 e c.requires.value.there in
    let l = trees_at-extends old new (numbers c.args.list.now) e (stand_there th old (numbers c.args.list.now) c.requires.list) in
    inr
    (subst (λ w. IsFurther th c.args.op.0 w (trees_at old (numbers c.args.list.now)) (tree_at new c.in-Ok.id.0)) v
    (subst (λ ts. IsFurther th c.args.op.0 (tree_at new c.args.value.0) ts (tree_at new c.in-Ok.id.0)) l (c.is_further.ensures c.if-is_further.true)))

pub returns-else-is_further-clause-within : goal.returns-else-is_further-clause-within
returns-else-is_further-clause-within c = stands_within_extended (theory_at c.args.sig.now) c.args.store.now c.from_list.new.store c.from_list.ensures.extends c.args.value.0 c.requires.value

pub returns-in-Err-TooDeep-clause-within : goal.returns-in-Err-TooDeep-clause-within
returns-in-Err-TooDeep-clause-within c = stands_within_extended (theory_at c.args.sig.now) c.args.store.now c.from_list.new.store c.from_list.ensures.extends c.args.value.0 c.requires.value

pub returns-in-Err-Overflow-clause-within : goal.returns-in-Err-Overflow-clause-within
returns-in-Err-Overflow-clause-within c = stands_within_extended (theory_at c.args.sig.now) c.args.store.now c.from_list.new.store c.from_list.ensures.extends c.args.value.0 c.requires.value
