use Rattle.std.proofs.Common.{Some, sym, ap, ◌∙◌}
use Rattle.std.specs.Option.{option_map}
use Rattle.mau_poset.specs.Order.{Hierarchy, kind_of}
use Rattle.mau_check.proofs.written.kind_named.Goals as goal

pub returns-in-Some-clause-some : goal.returns-in-Some-clause-some
returns-in-Some-clause-some c =
    ap (option_map (kind_of c.args.sig.now.hierarchy)) c.in-Some.ensures.some
    ∙ ap Some (sym (c.kind_of.ensures.value ∙ ap (λ (h : Hierarchy). kind_of h c.in-Some.sort) c.poset.ensures.value))
