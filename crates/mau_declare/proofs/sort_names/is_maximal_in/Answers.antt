use Rattle.std.proofs.Common.{sym, ap, ◌∙◌, not, ◌&&◌, arith, nat_eq}
use Rattle.std.specs.List.{list_any}
use Rattle.std.proofs.lemmas.Bool.{eq-eqb}
use Rattle.mau_declare.proofs.sort_names.is_maximal_in.Goals as goal

pub bounds-lower-sort : goal.bounds-lower-sort
bounds-lower-sort c = omega (arith, c.requires.lower.len, c.requires.sort)

pub returns-then-kind_of-kind : goal.returns-then-kind_of-kind
returns-then-kind_of-kind c =
    ap not (c.requires.lower.each c.args.sort _ c.requires.sort)
    ∙ ap (λ b. b && not (list_any (λ p. nat_eq p.0 c.args.sort) c.args.poset.now.pairs)) (sym (eq-eqb _ _ (sym c.kind_of.ensures.value ∙ c.if-kind_of-kind.true)))
