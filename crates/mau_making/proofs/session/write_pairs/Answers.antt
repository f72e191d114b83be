use Rattle.std.proofs.Common.{◌+◌, ◌++◌, ap, ◌∙◌}
use Rattle.mau_making.specs.MadeSession.{made_pair}
use Rattle.mau_making.proofs.Made.{more_pairs}
use Rattle.mau_making.proofs.session.write_pairs.Goals as goal

pub loop-j-preserved : goal.loop-j-preserved
loop-j-preserved c =
    c.in_ok-write_pair.ensures
    ∙ ap (λ zs. zs ++ made_pair (c.loop-j.j + 1)) c.loop-j.invariant
    ∙ more_pairs c.args.out.now.items c.loop-j.j
