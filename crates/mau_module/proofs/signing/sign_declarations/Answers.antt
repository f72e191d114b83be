use Rattle.std.proofs.Common.{◌++◌, ◌∷◌, [], length}
use Rattle.mau_module.specs.Declarations.{all_declarations}
use Rattle.mau_module.proofs.Numerals.{some_names}
use Rattle.mau_module.proofs.signing.sign_declarations.Goals as goal

pub numerals_of-numerals-requires-clause-some : goal.numerals_of-numerals-requires-clause-some
numerals_of-numerals-requires-clause-some c =
    let ms = c.args.library.now in
    some_names c.args.poset (all_declarations ms c.args.parts.now c.args.names.now c.args.poset c.args.own.now) c.args.names.now (c.args.parts.now ++ length ms ∷ []) c.requires.numerals c.requires.named
