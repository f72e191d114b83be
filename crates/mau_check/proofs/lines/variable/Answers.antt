use Rattle.std.proofs.Common.{ap, ◌∙◌, arith}
use Rattle.mau_poset.specs.Order.{Hierarchy, kind_of}
use Rattle.mau_check.proofs.Lined.{kept_variable}
use Rattle.mau_check.proofs.lines.variable.Goals as goal

pub returns-clause-kept : goal.returns-clause-kept
returns-clause-kept c =
    kept_variable c.args.sig.now c.intern.new.self _ c.in_ok-id.id c.kind_of.result c.args.index c.args.sort c.args.hole (omega (arith, c.ranges.index.fits)) c.requires.sort
    (c.kind_of.ensures.value ∙ ap (λ (h : Hierarchy). kind_of h c.args.sort) c.poset.ensures.value) c.requires.holes c.in_ok-id.ensures.ok c.in_ok-id.ensures.tree
