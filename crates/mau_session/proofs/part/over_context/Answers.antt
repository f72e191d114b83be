use Rattle.std.proofs.Common.{◌<◌, length, ◌∙◌, sym, arith, subst}
use Rattle.mau_terms.specs.Tree.{node}
use Rattle.mau_terms.specs.Norm.{norm}
use Rattle.mau_signature.specs.Signature.{theory_at}
use Rattle.mau_store.specs.Trees.{trees_at}
use Rattle.mau_store.specs.View.{numbers}
use Rattle.mau_canon.specs.Within.{IsWithin, IsCause}
use Rattle.mau_listing.proofs.Growth.{trees_long}
use Rattle.mau_session.proofs.Around.{norm_of_list, not_too_deep, no_overflow}
use Rattle.mau_session.proofs.part.over_context.Goals as goal

pub unreachable-requires : goal.unreachable-requires
unreachable-requires c =
    let th = theory_at c.args.sig.now in
    let f = c.args.op.0 in
    let ts = trees_at c.args.store.now (numbers c.args.items.now) in
    let some : 0 < length ts = omega (arith, c.requires.some, trees_long c.args.store.now c.args.items.now) in
    not_too_deep th (norm th (node f ts)) (subst (IsWithin th) (sym (norm_of_list th f ts c.requires.context.list.pieces)) (c.requires.context.within some))
    (subst (IsCause th (norm th (node f ts))) c.in-Err-TooDeep.field-0-is c.in-Err-TooDeep.ensures.refused)

pub unreachable-requires-in-Err-Overflow : goal.unreachable-requires-in-Err-Overflow
unreachable-requires-in-Err-Overflow c =
    let th = theory_at c.args.sig.now in
    let f = c.args.op.0 in
    let ts = trees_at c.args.store.now (numbers c.args.items.now) in
    let some : 0 < length ts = omega (arith, c.requires.some, trees_long c.args.store.now c.args.items.now) in
    no_overflow th (norm th (node f ts)) (subst (IsWithin th) (sym (norm_of_list th f ts c.requires.context.list.pieces)) (c.requires.context.within some))
    (subst (IsCause th (norm th (node f ts))) c.in-Err-Overflow.field-0-is c.in-Err-Overflow.ensures.refused)

pub returns-in-Ok-clause-list : goal.returns-in-Ok-clause-list
returns-in-Ok-clause-list c =
    let ts = trees_at c.args.store.now (numbers c.args.items.now) in
    record {
      there = c.in-Ok.ensures.within.there;
      tree = c.in-Ok.ensures.ok ∙ norm_of_list (theory_at c.args.sig.now) c.args.op.0 ts c.requires.context.list.pieces;
    }
