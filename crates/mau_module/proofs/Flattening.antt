-- A module of a text, or the fault of one of its statements, from what was read of it in turn.
use Rattle.std.proofs.Common.{◌≡◌, ◌<◌, ◌≤◌, ℕ, List, ◌++◌, length, sym, ap, ap₂, subst, ◌∙◌, arith}
use Rattle.std.specs.Prelude.{All, Result, Ok, Err}
use Rattle.std.proofs.Math.Seq.{drop-append_seam}
use Rattle.std.proofs.lemmas.List.Elements.{All-push}
use Rattle.mau_modtext.specs.Word.{Word}
use Rattle.mau_modtext.specs.declared.raw.RawModule.{RawModule}
use Rattle.mau_signature.specs.declared.decl.Decl.{Decl}
use Rattle.mau_signature.specs.Signature.{SignatureOf}
use Rattle.mau_grammar.specs.Grammar.{GrammarOf}
use Rattle.mau_declare.specs.Words.{token_text}
use Rattle.mau_declare.specs.Elements.{Elements}
use Rattle.mau_statement.specs.declared.fault.StatementFault.{StatementFault}
use Rattle.mau_module.specs.declared.fault.ModuleFault.{ModuleFault}
use Rattle.mau_module.specs.declared.fault.ModuleFault.TheVariants.{UnknownModule, ImportTooDeep, TooLarge, UnknownSort, Signed, Statement, Strategy, NoMemory}
use Rattle.mau_program.specs.declared.definitions.StratDecl.{StratDecl}
use Rattle.mau_definition.specs.Definitions.{around}
use Rattle.mau_definition.specs.declared.fault.DefinitionFault.{DefinitionFault}
use Rattle.mau_definition.specs.declared.fault.DefinitionFault.TheVariants.{Statement as OfStatement, Strategy as OfStrategy}
use Rattle.mau_module.specs.Faults.{IfFault, IfOwn, IfStated, statement_fault}
use Rattle.mau_module.specs.Modules.{ModuleOf, StatementsOf, and_more}
use Rattle.mau_module.specs.Behind.{behind, counts_of}
use Rattle.mau_module.specs.declared.statements.Counts.{Counts}
use Rattle.mau_module.specs.Framed.{Frame, all_parts, frame_of}
use Rattle.mau_module.specs.Stated.{AreLawful, HasCarriedFault, OwnRead, only_strats}
use Rattle.mau_module.specs.Named.{labels_of, own_labels, own_strats}
use Rattle.mau_module.specs.Flattened.{FlattenedAs, IsSigned, carried_in, OwnAs, context_over, grammar_in, own_in, carried_at_fault, own_at_fault, flattened}
use Rattle.mau_module.specs.Gathered.{AreStatements}

-- the fault of a statement, as one of a module
pub statement_told : (P : ℕ → StatementFault → Type 0) (Q : ModuleFault → Type 0) → ((i : ℕ) (f : StatementFault) → P i f → Q (Statement i f))
    → (g : ModuleFault) → IfOwn P g → IfFault Q g
statement_told P Q h (UnknownModule name) w = absurd w
statement_told P Q h ImportTooDeep w = absurd w
statement_told P Q h (TooLarge limit) w = absurd w
statement_told P Q h (UnknownSort at) w = absurd w
statement_told P Q h (Signed text) w = absurd w
statement_told P Q h (Statement i f) w = h i f w
statement_told P Q h (Strategy i f) w = absurd w
statement_told P Q h NoMemory w = w

-- the fault of one of its own, as one of a module
pub stated_told : (P : ℕ → DefinitionFault → Type 0) (Q : ModuleFault → Type 0) → ((i : ℕ) (f : DefinitionFault) → P i f → Q (statement_fault i f))
    → (g : ModuleFault) → IfStated P g → IfFault Q g
stated_told P Q h (UnknownModule name) w = absurd w
stated_told P Q h ImportTooDeep w = absurd w
stated_told P Q h (TooLarge limit) w = absurd w
stated_told P Q h (UnknownSort at) w = absurd w
stated_told P Q h (Signed text) w = absurd w
stated_told P Q h (Statement i f) w = h i (OfStatement f) w
stated_told P Q h (Strategy i f) w = h i (OfStrategy f) w
stated_told P Q h NoMemory w = w

-- what holds of a fault of its own holds of it by way of what it says
pub stated_moved : (P Q : ℕ → DefinitionFault → Type 0) → ((i : ℕ) (f : DefinitionFault) → P i f → Q i f) → (g : ModuleFault) → IfStated P g → IfStated Q g
stated_moved P Q h (UnknownModule name) w = absurd w
stated_moved P Q h ImportTooDeep w = absurd w
stated_moved P Q h (TooLarge limit) w = absurd w
stated_moved P Q h (UnknownSort at) w = absurd w
stated_moved P Q h (Signed text) w = absurd w
stated_moved P Q h (Statement i f) w = h i (OfStatement f) w
stated_moved P Q h (Strategy i f) w = h i (OfStrategy f) w
stated_moved P Q h NoMemory w = w

-- its own statements, read over what is known of it
pub own_as : (ms : List ModuleOf) (ws : List Word) (raw : RawModule) (f : Frame) (e : Elements) (s : SignatureOf) (g : GrammarOf) (labels : List (List ℕ)) (names strats : List StratDecl)
    → g ≡ grammar_in ws f e s → labels ≡ labels_of (carried_in ms f s).rules ++ own_labels ws raw.elements → names ≡ (carried_in ms f s).strats ++ own_strats ws f.names raw.elements
    → strats ≡ own_strats ws f.names raw.elements → (r : Result StatementsOf (ℕ × DefinitionFault))
    → OwnRead (around ws (context_over ms f s g) labels names) (only_strats strats) 1 raw.elements r → OwnAs ms ws raw f e s r
own_as ms ws raw f e s g labels names strats p q d c r w =
    let all = labels_of (carried_in ms f s).rules ++ own_labels ws raw.elements in
    let known = (carried_in ms f s).strats ++ own_strats ws f.names raw.elements in
    subst (λ y. OwnRead (around ws (context_over ms f s (grammar_in ws f e s)) all known) (only_strats y) 1 raw.elements r) c
    (subst (λ y. OwnRead (around ws (context_over ms f s (grammar_in ws f e s)) all y) (only_strats strats) 1 raw.elements r) d
    (subst (λ y. OwnRead (around ws (context_over ms f s (grammar_in ws f e s)) y names) (only_strats strats) 1 raw.elements r) q
    (subst (λ y. OwnRead (around ws (context_over ms f s y) labels names) (only_strats strats) 1 raw.elements r) p w)))

-- the statements behind those of the parts
pub behind_parts : (a b : StatementsOf) → behind (counts_of a) (and_more a b) ≡ b
behind_parts a b =
    λ i. record {
      equations = drop-append_seam a.equations b.equations i;
      memberships = drop-append_seam a.memberships b.memberships i;
      rules = drop-append_seam a.rules b.rules i;
      strategies = drop-append_seam a.strategies b.strategies i;
      strats = drop-append_seam a.strats b.strats i;
    }

-- what is read over the frame of the text
module _ (ms : List ModuleOf) (ws : List Word) (raw : RawModule) (f : Frame) (q : f ≡ frame_of ms ws raw) (e : Elements) (s : SignatureOf) (signed : IsSigned ms ws raw e s) where
  -- a statement of the parts at fault
  pub parts_at_fault : (g : ModuleFault) → IfOwn (λ i x. (i ≡ 0) × HasCarriedFault s (carried_in ms f s) x) g → IfFault (λ x. FlattenedAs ms ws raw (Err x)) g
  parts_at_fault = statement_told (λ i x. (i ≡ 0) × HasCarriedFault s (carried_in ms f s) x) (λ x. FlattenedAs ms ws raw (Err x))
      (λ i x w. subst (λ k. FlattenedAs ms ws raw (Err (Statement k x))) (sym w.0)
      (carried_at_fault e s x signed (subst (λ (y : Frame). HasCarriedFault s (carried_in ms y s) x) q w.1)))

  module _ (lawful : AreLawful s (carried_in ms f s)) where
    lawful_there : AreLawful s (carried_in ms (frame_of ms ws raw) s)
    lawful_there = subst (λ (y : Frame). AreLawful s (carried_in ms y s)) q lawful

    -- one of the module itself
    pub its_at_fault : (g : ModuleFault) → IfStated (λ i x. OwnAs ms ws raw f e s (Err (i, x))) g → IfFault (λ x. FlattenedAs ms ws raw (Err x)) g
    its_at_fault = stated_told (λ i x. OwnAs ms ws raw f e s (Err (i, x))) (λ x. FlattenedAs ms ws raw (Err x))
        (λ i x w. own_at_fault e s i x signed lawful_there (subst (λ (y : Frame). OwnAs ms ws raw y e s (Err (i, x))) q w))

  -- the module
  abbrev pub made : Frame → GrammarOf → List Decl → StatementsOf → StatementsOf → ModuleOf
  made y g decls all its = record {
    name = token_text ws raw.name;
    depth = y.depth;
    parts = all_parts ms y.parts;
    sorts = y.names;
    signature = s;
    grammar = g;
    statements = all;
    own = record { pairs = e.pairs; declarations = decls; statements = its };
  }

  pub made_of_text : (g : GrammarOf) (decls : List Decl) (n : Counts) (all : StatementsOf) → g ≡ grammar_in ws f e s → decls ≡ own_in ms f e → AreStatements ms ws raw f e s n all
      → (m : ModuleOf) → m ≡ made f g decls all (behind n all) → FlattenedAs ms ws raw (Ok m)
  made_of_text g decls n all r d are m is =
      let its : behind n all ≡ are.own = ap₂ behind are.counted are.whole ∙ behind_parts (carried_in ms f s) are.own in
      subst (λ x. FlattenedAs ms ws raw (Ok x)) (sym (is
      ∙ ap₂ (λ x y. made f x y all (behind n all)) r d
      ∙ ap₂ (λ x y. made f (grammar_in ws f e s) (own_in ms f e) x y) are.whole its
      ∙ ap (λ (y : Frame). made y (grammar_in ws y e s) (own_in ms y e) (and_more (carried_in ms y s) are.own) are.own) q))
      (flattened e s are.own signed (lawful_there are.lawful) (subst (λ (y : Frame). OwnAs ms ws raw y e s (Ok are.own)) q are.read))

-- it includes modules that are there, and itself
pub parts_are_next : (ms : List ModuleOf) (parts : List ℕ) → All (λ p. p < length ms) parts → All (λ p. p ≤ length ms) (all_parts ms parts)
parts_are_next ms parts within = All-push (λ p. p ≤ length ms) parts (length ms) (λ k d l. omega (arith, within k d l)) (omega arith)
