use Rattle.mau_module.proofs.Knowns.{all_known}
use Rattle.mau_module.proofs.frame.frame_over.Goals as goal

pub returns-clause-known : goal.returns-clause-known
returns-clause-known c = λ k d l j e m.
    rw c.in_ok-add_declared_sorts.ensures (rw (c.in_ok-names.ensures.value, c.deref.ensures.value) (all_known c.args.library.now c.args.words.now c.args.elements.now c.in_ok-parts.parts.items k d l j e m))
