use Rattle.std.proofs.Common.{ℕ, Some, ap, ◌∙◌}
use Rattle.std.specs.Option.{option_map}
use Rattle.mau_poset.specs.Order.{Hierarchy, kind_of}
use Rattle.mau_check.proofs.lines.kind_of_numerals.Goals as goal

pub returns-in-Some : goal.returns-in-Some
returns-in-Some c =
    ap Some (c.kind_of.ensures.value ∙ ap (λ (h : Hierarchy). kind_of h c.in-Some.zero) c.poset.ensures.value) ∙ ap (option_map (λ (p : ℕ × ℕ). kind_of c.args.sig.now.hierarchy p.0)) c.in-Some.ensures.value

pub returns-in-None : goal.returns-in-None
returns-in-None c = ap (option_map (λ (p : ℕ × ℕ). kind_of c.args.sig.now.hierarchy p.0)) c.in-None.ensures.value
