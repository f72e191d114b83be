-- What a module of a text is, over the library: a module with all that it includes, or why it is none.
use Rattle.std.specs.Prelude.{◌≡◌, ℕ, ◌+◌, ◌<◌, ◌≤◌, List, [], ◌∷◌, ◌++◌, map, Option, Some, None, option_map, Result, Ok, Err, codes, if◌then◌else◌}
use Rattle.mau_terms.specs.declared.ids.OpId.{OpId}
use Rattle.mau_poset.specs.Order.{Hierarchy, kind_of}
use Rattle.mau_signature.specs.declared.decl.Decl.{Decl}
use Rattle.mau_signature.specs.declared.form.Piece.TheVariants.{Word as OneWord}
use Rattle.mau_signature.specs.Faults.{Given}
use Rattle.mau_signature.specs.Names.{constant_of}
use Rattle.mau_signature.specs.Signature.{SignatureOf, number_of}
use Rattle.mau_grammar.specs.Grammar.{GrammarOf, grammar_of}
use Rattle.mau_modtext.specs.Word.{Word}
use Rattle.mau_modtext.specs.declared.raw.RawModule.{RawModule}
use Rattle.mau_declare.specs.Words.{token_text}
use Rattle.mau_declare.specs.Imports.{imports}
use Rattle.mau_declare.specs.Elements.{Elements, elements_of}
use Rattle.mau_declare.specs.Flattened.{declarations, first_conflict, variable_at}
use Rattle.mau_statement.specs.Context.{ContextOf}
use Rattle.mau_statement.specs.declared.fault.StatementFault.{StatementFault}
use Rattle.mau_definition.specs.Definitions.{Around}
use Rattle.mau_definition.specs.declared.fault.DefinitionFault.{DefinitionFault}
use Rattle.mau_signing.specs.Signed.{SignatureRead}
use Rattle.mau_module.specs.declared.fault.Limit.{Limit}
use Rattle.mau_module.specs.declared.fault.ModuleFault.{ModuleFault}
use Rattle.mau_module.specs.declared.fault.ModuleFault.TheVariants.{UnknownModule, ImportTooDeep, TooLarge, UnknownSort, Signed, Statement}
use Rattle.mau_module.specs.declared.TheConstants.{MAX_DEPTH}
use Rattle.mau_module.specs.Modules.{StatementsOf, and_more, ModuleOf}
use Rattle.mau_module.specs.Numbering.{number_in}
use Rattle.mau_module.specs.Included.{first_unknown, numerals_of, numeral_kind, has_truth}
use Rattle.mau_module.specs.Framed.{Frame, all_parts, frame_of, included_declarations, limit_passed}
use Rattle.mau_module.specs.Declarations.{hierarchy_over, given_over}
use Rattle.mau_module.specs.Carried.{carried}
use Rattle.mau_module.specs.Stated.{AreLawful, HasCarriedFault, OwnRead, only_strats}
use Rattle.mau_module.specs.Named.{labels_of, own_labels, own_strats}
use Rattle.mau_module.specs.Faults.{statement_fault}

-- ---- its signature

-- the sorts in their order
abbrev pub hierarchy_in : List ModuleOf → Frame → Elements → Hierarchy
hierarchy_in ms f e = hierarchy_over ms f.parts f.names e.pairs

-- what the elements declare
abbrev pub own_in : List ModuleOf → Frame → Elements → List Decl
own_in ms f e =
    let h = hierarchy_in ms f e in declarations h (numeral_kind h (numerals_of f.names (all_parts ms f.parts))) e.operators

-- what the signature is built from
abbrev pub given_in : List ModuleOf → Frame → Elements → Given
given_in ms f e = given_over ms f.parts f.names (hierarchy_in ms f e) (own_in ms f e)

-- of all declarations, the first one that gives an attribute two values
abbrev pub conflict_in : List ModuleOf → Frame → Elements → Option ℕ
conflict_in ms f e = option_map (λ i. included_declarations ms f.parts + i) (first_conflict e.operators)

abbrev pub grammar_in : List Word → Frame → Elements → SignatureOf → GrammarOf
grammar_in ws f e s = grammar_of s f.names (map (variable_at ws s.hierarchy) e.variables)

-- ---- modules

-- all names of imports are known, none is too deep, and no limit is passed
pub record IsFramed (ms : List ModuleOf) (ws : List Word) (raw : RawModule) : Type 0 where
  pub known : first_unknown ms (imports ws raw.elements) ≡ None
  pub shallow : (frame_of ms ws raw).depth ≤ MAX_DEPTH
  pub small : limit_passed ms (frame_of ms ws raw) raw ≡ None

-- it is, and these are what the elements declare and the signature
pub record IsSigned (ms : List ModuleOf) (ws : List Word) (raw : RawModule) (e : Elements) (s : SignatureOf) : Type 0 where
  pub framed : IsFramed ms ws raw
  pub elements : elements_of ws (frame_of ms ws raw).names raw.elements ≡ Ok e
  pub signature : SignatureRead (frame_of ms ws raw).names (given_in ms (frame_of ms ws raw) e) (conflict_in ms (frame_of ms ws raw) e) (Ok s)

-- the statements of its parts
abbrev pub carried_in : List ModuleOf → Frame → SignatureOf → StatementsOf
carried_in ms f s = carried ms f.names s f.parts

-- the constant `true`, where there are truth values
abbrev pub truth_in : List ModuleOf → Frame → SignatureOf → Option OpId
truth_in ms f s = if has_truth (all_parts ms f.parts) then number_of s.names (constant_of (OneWord (codes "true") ∷ []) (kind_of s.hierarchy (number_in f.names (codes "Bool")))) else None

-- what its own statements are read over, where its terms are written so
abbrev pub context_over : List ModuleOf → Frame → SignatureOf → GrammarOf → ContextOf
context_over ms f s g = record { signature = s; grammar = g; sorts = f.names; truth = truth_in ms f s }

abbrev pub context_in : List ModuleOf → List Word → Frame → Elements → SignatureOf → ContextOf
context_in ms ws f e s = context_over ms f s (grammar_in ws f e s)

-- beside it: the labels of its rules, and the strategies that are declared, those of its parts first
abbrev pub around_in : List ModuleOf → List Word → RawModule → Frame → Elements → SignatureOf → Around
around_in ms ws raw f e s = record {
  words = ws;
  context = context_in ms ws f e s;
  labels = labels_of (carried_in ms f s).rules ++ own_labels ws raw.elements;
  names = (carried_in ms f s).strats ++ own_strats ws f.names raw.elements;
}

-- the strategies that it declares itself; what it states is read behind these
abbrev pub declared_in : List Word → RawModule → Frame → StatementsOf
declared_in ws raw f = only_strats (own_strats ws f.names raw.elements)

-- the statements of its own, or the first one at fault
abbrev pub OwnAs : List ModuleOf → List Word → RawModule → Frame → Elements → SignatureOf → Result StatementsOf (ℕ × DefinitionFault) → Type 0
OwnAs ms ws raw f e s r = OwnRead (around_in ms ws raw f e s) (declared_in ws raw f) 1 raw.elements r

-- the module with these statements of its own
abbrev pub module_in : List ModuleOf → List Word → RawModule → Elements → SignatureOf → StatementsOf → ModuleOf
module_in ms ws raw e s own = let f = frame_of ms ws raw in record {
  name = token_text ws raw.name;
  depth = f.depth;
  parts = all_parts ms f.parts;
  sorts = f.names;
  signature = s;
  grammar = grammar_in ws f e s;
  statements = and_more (carried_in ms f s) own;
  own = record { pairs = e.pairs; declarations = own_in ms f e; statements = own };
}

-- What a module of a text is over the modules of a library, or the first fault: an import that no module is, or that is too deep; a
-- limit that is passed; a sort that no sort is; sorts, declarations or operators at fault; a statement of its parts that has become
-- unlawful; and its own statements, in the order of the text.
pub data FlattenedAs (ms : List ModuleOf) (ws : List Word) (raw : RawModule) : Result ModuleOf ModuleFault → Type 0 where
  module_unknown : (name : List ℕ) → first_unknown ms (imports ws raw.elements) ≡ Some name → FlattenedAs ms ws raw (Err (UnknownModule name))
  import_too_deep : first_unknown ms (imports ws raw.elements) ≡ None → MAX_DEPTH < (frame_of ms ws raw).depth
      → FlattenedAs ms ws raw (Err ImportTooDeep)
  too_large : (limit : Limit) → first_unknown ms (imports ws raw.elements) ≡ None → (frame_of ms ws raw).depth ≤ MAX_DEPTH
      → limit_passed ms (frame_of ms ws raw) raw ≡ Some limit → FlattenedAs ms ws raw (Err (TooLarge limit))
  sort_unknown : (at : ℕ) → IsFramed ms ws raw → elements_of ws (frame_of ms ws raw).names raw.elements ≡ Err at
      → FlattenedAs ms ws raw (Err (UnknownSort at))
  not_signed : (e : Elements) (text : List ℕ) → IsFramed ms ws raw → elements_of ws (frame_of ms ws raw).names raw.elements ≡ Ok e
      → SignatureRead (frame_of ms ws raw).names (given_in ms (frame_of ms ws raw) e) (conflict_in ms (frame_of ms ws raw) e) (Err text)
      → FlattenedAs ms ws raw (Err (Signed text))
  carried_at_fault : (e : Elements) (s : SignatureOf) (f : StatementFault) → IsSigned ms ws raw e s
      → HasCarriedFault s (carried_in ms (frame_of ms ws raw) s) f → FlattenedAs ms ws raw (Err (Statement 0 f))
  own_at_fault : (e : Elements) (s : SignatureOf) (i : ℕ) (f : DefinitionFault) → IsSigned ms ws raw e s
      → AreLawful s (carried_in ms (frame_of ms ws raw) s)
      → OwnAs ms ws raw (frame_of ms ws raw) e s (Err (i, f)) → FlattenedAs ms ws raw (Err (statement_fault i f))
  flattened : (e : Elements) (s : SignatureOf) (own : StatementsOf) → IsSigned ms ws raw e s
      → AreLawful s (carried_in ms (frame_of ms ws raw) s)
      → OwnAs ms ws raw (frame_of ms ws raw) e s (Ok own)
      → FlattenedAs ms ws raw (Ok (module_in ms ws raw e s own))
