use Rattle.std.proofs.Common.{◌+◌, ◌++◌, ap, ◌∙◌}
use Rattle.std.specs.Prelude.{codes, decimal}
use Rattle.mau_making.proofs.Made.{more_elements}
use Rattle.mau_making.proofs.session.write_elements.Goals as goal

pub loop-i-preserved : goal.loop-i-preserved
loop-i-preserved c =
    c.in_ok-write_number.ensures
    ∙ ap (λ k. c.write_text.new.out.items ++ decimal (k + 1)) c.from.ensures
    ∙ ap (λ zs. zs ++ decimal (c.loop-i.i + 1)) (c.in_ok-write_text.ensures ∙ ap (λ zs. zs ++ codes " e") c.loop-i.invariant)
    ∙ more_elements c.args.out.now.items c.loop-i.i
