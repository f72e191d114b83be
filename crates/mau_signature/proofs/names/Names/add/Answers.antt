use Rattle.std.proofs.Common.{◌≡◌, map, ap, subst, sym, ◌∙◌}
use Rattle.mau_signature.specs.Names.{with_operator, same_operator}
use Rattle.mau_signature.specs.Keys.{operator_of_key}
use Rattle.mau_signature.specs.Distinct.{AreDistinct}
use Rattle.mau_signature.proofs.Same.{same_key, AreDistinct-with}
use Rattle.mau_terms.proofs.Keyed.{insert-keyed}
use Rattle.mau_signature.proofs.names.Names.add.Goals as goal

-- the operators after the call
operators : (c : goal.In_ok-insert_full) → map operator_of_key c.insert_full.new.self.keys ≡ with_operator c.args.self.now (operator_of_key c.args.key)
operators c =
    ap (map operator_of_key) c.in_ok-insert_full.ensures.keys
    ∙ insert-keyed operator_of_key _ (same_operator (operator_of_key c.args.key)) (same_key c.args.key) c.self.inside.keys.keys c.args.key
    ∙ ap (λ fs. with_operator fs (operator_of_key c.args.key)) c.self.view_is

pub invariant_of-self-2 : goal.invariant_of-self-2
invariant_of-self-2 c =
    let d : AreDistinct c.args.self.now = subst AreDistinct c.self.view_is c.self.invariant in
    subst AreDistinct (sym (operators c)) (AreDistinct-with c.args.self.now (operator_of_key c.args.key) d)

pub returns-clause-names : goal.returns-clause-names
returns-clause-names c = operators c
