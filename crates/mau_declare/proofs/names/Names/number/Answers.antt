use Rattle.std.proofs.Common.{ap, ◌∙◌, refl}
use Rattle.std.specs.Prelude.{string_bytes, bytes_eq}
use Rattle.mau_declare.specs.Names.{number_of}
use Rattle.mau_terms.proofs.Keyed.{position-keyed}
use Rattle.mau_declare.proofs.names.Names.number.Goals as goal

pub returns-clause-number : goal.returns-clause-number
returns-clause-number c =
    c.get_index_of.ensures.index
    ∙ position-keyed string_bytes _ (bytes_eq c.args.name.now) (λ k. refl) c.self.inside.names.keys
    ∙ ap (λ xs. number_of xs c.args.name.now) c.self.view_is
