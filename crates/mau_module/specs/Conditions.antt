-- What the conditions of commands over a module are read over.
use Rattle.std.specs.Prelude.{ℕ, List, [], ◌∷◌, Option, codes}
use Rattle.mau_terms.specs.declared.ids.OpId.{OpId}
use Rattle.mau_poset.specs.Order.{kind_of}
use Rattle.mau_signature.specs.declared.form.Piece.TheVariants.{Word}
use Rattle.mau_signature.specs.Names.{constant_of}
use Rattle.mau_signature.specs.Signature.{SignatureOf, number_of}
use Rattle.mau_statement.specs.Context.{ContextOf}
use Rattle.mau_module.specs.Modules.{ModuleOf}
use Rattle.mau_module.specs.Numbering.{number_in}

-- the constant `true` of the kind of Bool, if there is one, where the sorts have these names
abbrev pub true_among : List (List ℕ) → SignatureOf → Option OpId
true_among names s = number_of s.names (constant_of (Word (codes "true") ∷ []) (kind_of s.hierarchy (number_in names (codes "Bool"))))

-- its signature and sorts, how its terms are written, and that constant
abbrev pub context_of : ModuleOf → ContextOf
context_of m = record { signature = m.signature; grammar = m.grammar; sorts = m.sorts; truth = true_among m.sorts m.signature }
