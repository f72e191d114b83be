use Rattle.std.proofs.Common.{◌≡◌, false, ap, ◌∙◌, All, subst, get_or, ◌<◌, ◌++◌, length}
use Rattle.mau_signature.specs.Faults.{HasSorts, is_successor}
use Rattle.mau_declare.specs.Flattened.{declarations_in}
use Rattle.mau_declare.proofs.Counting.{flat_added, flat_all}
use Rattle.mau_declare.proofs.flatten.add_declarations.Goals as goal

pub loop-ops-preserved : goal.loop-ops-preserved
loop-ops-preserved c =
    let f = declarations_in c.args.poset.now c.args.numerals in
    let os = c.args.elements.now.operators in
    let i = c.loop-ops.ops-index in
    let o = c.ops-item.result in
    let all = c.deref-ops-items.ensures.value ∙ ap (λ e. e.operators) c.elements.view_is in
    let within : i < length os = subst (λ xs. i < length xs) all c.loop-ops-test.true in
    let this : f o ≡ f (get_or os i o) = ap f (c.ops-item.is ∙ ap (λ xs. get_or xs i o) all) in
    record {
      value = flat_added f os i o within c.args.decls.now.items c.loop-ops.decls.items _ c.loop-ops.invariant.value (c.in_ok-add_declarations_in.ensures.value ∙ ap (λ ds. c.loop-ops.decls.items ++ ds) this);
      sorts = flat_all f os i o within (HasSorts c.args.poset.now) c.loop-ops.invariant.sorts (subst (All (HasSorts c.args.poset.now)) this c.in_ok-add_declarations_in.ensures.sorts);
      no_hooks = flat_all f os i o within (λ d. is_successor d.attrs ≡ false) c.loop-ops.invariant.no_hooks
          (subst (All (λ d. is_successor d.attrs ≡ false)) this c.in_ok-add_declarations_in.ensures.no_hooks);
    }
