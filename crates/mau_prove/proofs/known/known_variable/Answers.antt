use Rattle.std.proofs.Common.{ap, ◌∙◌, arith}
use Rattle.mau_poset.specs.Order.{Hierarchy, kind_of, kinds}
use Rattle.mau_terms.specs.Tree.{variable}
use Rattle.mau_signature.specs.Faults.{IsSort}
use Rattle.mau_check.specs.declared.kept.Holes.TheVariants.{Absent}
use Rattle.mau_check.proofs.Lined.{kept_variable, absent_holes}
use Rattle.mau_prove.proofs.known.known_variable.Goals as goal

pub returns-clause-one : goal.returns-clause-one
returns-clause-one c =
    let v = c.args.variable in
    let h = c.args.sig.now.hierarchy in
    let sort : IsSort h v.sort =
    omega (arith, c.if-variable-sorts.false, c.sorts.ensures.value, c.kinds.ensures.value, ap (λ (z : Hierarchy). z.sorts) c.poset-poset.ensures.value, ap kinds c.poset-poset.ensures.value) in (
      variable v.index v.sort,
      kept_variable c.args.sig.now c.intern.new.self _ c.in_ok-id.id c.kind_of.result v.index v.sort Absent (omega (arith, c.if-variable-ge-HOLE.false)) sort
          (c.kind_of.ensures.value ∙ ap (λ (z : Hierarchy). kind_of z v.sort) c.poset.ensures.value) (absent_holes v.index v.sort (omega (arith, c.if-variable-ge-HOLE.false))) c.in_ok-id.ensures.ok c.in_ok-id.ensures.tree,
    )
