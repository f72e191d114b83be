use Rattle.std.proofs.Common.{◌≡◌, sym, ap, ◌∙◌, eqb-true}
use Rattle.mau_terms.specs.Norm.{norm}
use Rattle.mau_terms.specs.View.{tree_of}
use Rattle.mau_signature.specs.Signature.{theory_at}
use Rattle.mau_store.specs.Trees.{tree_at}
use Rattle.mau_store.proofs.Standing.{tree_at-extends}
use Rattle.mau_reduce.proofs.Stepped.{filled_in}
use Rattle.mau_reduce.proofs.stepping.fills.Goals as goal

pub returns-in-Ok-clause-fills : goal.returns-in-Ok-clause-fills
returns-in-Ok-clause-fills c = λ does.
    let same : c.in-Ok.id.0 ≡ c.args.whole.0 = eqb-true c.in-Ok.id.0 c.args.whole.0 (sym c.eq.ensures ∙ does) in
    ap (norm (theory_at c.args.sig.now)) (sym (filled_in c.args.store.now c.args.hole.index c.args.hole.sort c.args.inner (tree_of c.args.context.now) c.requires.index c.requires.one))
    ∙ (sym c.in-Ok.ensures.ok
    ∙ (ap (tree_at c.build_instance.new.store) same
    ∙ tree_at-extends c.args.store.now c.build_instance.new.store c.args.whole.0 c.in-Ok.ensures.extends c.requires.whole))
