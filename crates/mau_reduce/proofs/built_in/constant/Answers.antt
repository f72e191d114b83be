use Rattle.std.proofs.Common.{ap, ◌∙◌}
use Rattle.mau_signature.specs.Names.{operator_of}
use Rattle.mau_signature.specs.Signature.{number_of}
use Rattle.mau_reduce.proofs.BuiltTables.{constant_found}
use Rattle.mau_reduce.proofs.built_in.constant.Goals as goal

pub returns : goal.returns
returns c = constant_found c.args.sig.now c.args.kind c.args.word.now c.requires.low c.in_ok-operator.field-0 (c.in_ok-operator.ensures.number ∙ ap (λ d. number_of c.args.sig.now.names (operator_of c.args.sig.now.hierarchy d)) c.in_ok-decl.ensures)
