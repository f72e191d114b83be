use Rattle.std.specs.List.{list_any}
use Rattle.std.proofs.Common.{ap, ◌∙◌}
use Rattle.mau_signature.specs.Names.{place_of, same_operator}
use Rattle.mau_signature.specs.Keys.{operator_of_key}
use Rattle.mau_signature.proofs.Same.{same_key}
use Rattle.mau_terms.proofs.Keyed.{any-keyed, position-keyed}
use Rattle.mau_signature.proofs.names.Names.place.Goals as goal

pub returns-clause-value : goal.returns-clause-value
returns-clause-value c =
    c.get_index_of.ensures.index
    ∙ position-keyed operator_of_key _ (same_operator (operator_of_key c.args.key.now)) (same_key c.args.key.now) c.self.inside.keys.keys
    ∙ ap (λ fs. place_of fs (operator_of_key c.args.key.now)) c.self.view_is

pub returns-clause-found : goal.returns-clause-found
returns-clause-found c =
    c.get_index_of.ensures.found
    ∙ any-keyed operator_of_key _ (same_operator (operator_of_key c.args.key.now)) (same_key c.args.key.now) c.self.inside.keys.keys
    ∙ ap (list_any (same_operator (operator_of_key c.args.key.now))) c.self.view_is
