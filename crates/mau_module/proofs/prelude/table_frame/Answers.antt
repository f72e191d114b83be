use Rattle.mau_module.proofs.Knowns.{more_known}
use Rattle.mau_module.proofs.prelude.table_frame.Goals as goal

pub returns-clause-known : goal.returns-clause-known
returns-clause-known c = λ k d l j e m.
    rw c.in_ok-add_texts.ensures (rw (c.in_ok-names.ensures.value, c.deref.ensures.value) (more_known c.args.library.now c.args.sorts.now c.in_ok-parts.parts.items k d l j e m))
