use Rattle.std.proofs.Common.{◌≡◌, ◌+◌, ◌++◌, ◌∙◌, length, refl, sym, ap, arith}
use Rattle.std.specs.List.{flat_map, range_with_len}
use Rattle.mau_terms.specs.Finite.{units_of}
use Rattle.mau_signature.specs.Signature.{theory_at}
use Rattle.mau_store.proofs.Growth.{extension_is_preorder}
use Rattle.mau_settling.proofs.Units.{units_more}
use Rattle.mau_settling.proofs.beginning.identities.Goals as goal

pub loop-number-preserved : goal.loop-number-preserved
loop-number-preserved c = record {
  trees = c.in_ok-add_identity.ensures.trees
      ∙ (ap (λ us. us ++ units_of (theory_at c.args.sig.now (c.loop-number.number + 1)).id) c.loop-number.invariant.trees ∙ sym (units_more c.args.sig.now c.loop-number.number (c.loop-number.number + 1) refl));
  terms = c.in_ok-add_identity.ensures.terms;
  extends = extension_is_preorder.transitive c.args.store.now c.loop-number.store c.add_identity.new.store c.loop-number.invariant.extends c.add_identity.ensures.extends;
}

pub returns-clause-trees : goal.returns-clause-trees
returns-clause-trees c =
    let same : c.loop-number.number ≡ length c.args.sig.now.declarations = omega (arith, c.loop-number-test.false, c.operators-number-end.ensures.value, c.loop-number.auto.number-end) in
    c.loop-number.invariant.trees ∙ ap (λ n. flat_map (λ f. units_of (theory_at c.args.sig.now f).id) (range_with_len 1 n)) same
