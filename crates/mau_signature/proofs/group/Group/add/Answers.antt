use Rattle.std.proofs.Common.{◌∙◌, sym, ap}
use Rattle.mau_signature.specs.Attributes.{unite, united}
use Rattle.mau_signature.proofs.United.{united-end}
use Rattle.mau_signature.proofs.group.Group.add.Goals as goal

pub invariant_of-self-2 : goal.invariant_of-self-2
invariant_of-self-2 c =
    c.requires
    ∙ ap (λ ds. unite (united ds) c.args.decl.attrs) (sym c.self.view_is)
    ∙ sym (united-end c.self.inside.decls.items c.args.decl)
    ∙ ap united (sym c.in_ok-push.ensures.items)
