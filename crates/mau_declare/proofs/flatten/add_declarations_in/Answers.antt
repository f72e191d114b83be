use Rattle.std.proofs.Common.{◌≡◌, false, ap, ◌∙◌}
use Rattle.mau_signature.specs.Faults.{HasSorts, is_successor}
use Rattle.mau_declare.specs.Flattened.{declaration_at}
use Rattle.mau_declare.proofs.Counting.{added_more, mapped_all}
use Rattle.mau_declare.proofs.flatten.add_declarations_in.Goals as goal

pub loop-form-preserved : goal.loop-form-preserved
loop-form-preserved c =
    let one = declaration_at c.args.poset.now c.args.numerals c.args.ops.now in
    let i = c.loop-form.form-index in
    let this = c.in_ok-declaration.ensures.value ∙ ap one c.form-item.is in
    rw (← c.items-form-items.ensures) (record {
      value = added_more one c.items-form-items.result.now i c.form-item.result c.args.decls.now.items c.loop-form.decls.items _ _ c.loop-form-test.true
          (rw c.items-form-items.ensures c.loop-form.invariant.value) c.in_ok-push.ensures.items this;
      sorts = mapped_all (HasSorts c.args.poset.now) one c.items-form-items.result.now i c.form-item.result _ c.loop-form-test.true
          (rw c.items-form-items.ensures c.loop-form.invariant.sorts) c.in_ok-declaration.ensures.sorts this;
      no_hooks = mapped_all (λ d. is_successor d.attrs ≡ false) one c.items-form-items.result.now i c.form-item.result _ c.loop-form-test.true
          (rw c.items-form-items.ensures c.loop-form.invariant.no_hooks) c.in_ok-declaration.ensures.no_hooks this;
    })
