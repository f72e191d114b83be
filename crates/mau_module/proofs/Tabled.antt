-- The signature of a table, and its module, from what was made of it in turn.
use Rattle.std.proofs.Common.{◌≡◌, ◌++◌, ◌∷◌, [], ℕ, List, None, length, ap, ap₂, ◌∙◌}
use Rattle.std.specs.Prelude.{Result, Ok, Err, IfOk}
use Rattle.mau_poset.specs.Order.{Hierarchy}
use Rattle.mau_signature.specs.declared.decl.Decl.{Decl}
use Rattle.mau_signature.specs.Signature.{SignatureOf}
use Rattle.mau_grammar.specs.Grammar.{GrammarOf, grammar_of}
use Rattle.mau_prelude.specs.Tables.{TableOf}
use Rattle.mau_signing.specs.Signed.{SignatureRead, signature_over}
use Rattle.mau_signing.proofs.OneSignature.{signature_is}
use Rattle.mau_module.specs.declared.statements.Counts.{Counts}
use Rattle.mau_module.specs.Modules.{ModuleOf, StatementsOf, and_more}
use Rattle.mau_module.specs.Behind.{behind, counts_of}
use Rattle.mau_module.specs.Included.{pairs_of}
use Rattle.mau_module.specs.Framed.{Frame}
use Rattle.mau_module.specs.Declarations.{hierarchy_over, given_over}
use Rattle.mau_module.specs.Carried.{carried}
use Rattle.mau_module.specs.Prelude.{table_given, table_statements, table_module}
use Rattle.mau_module.proofs.Flattening.{behind_parts}

-- what is given is one module, and so another one that it equals
pub if_ok_is : {E : Type 0} (r : Result ModuleOf E) (x y : ModuleOf) → IfOk r (λ m. m ≡ x) → x ≡ y → IfOk r (λ m. m ≡ y)
if_ok_is (Ok m) x y e s = e ∙ s
if_ok_is (Err f) x y e s = e

module _ (ms : List ModuleOf) (names : List (List ℕ)) (parts : List ℕ) (pairs all : List (ℕ × ℕ)) (a : all ≡ pairs_of ms names parts ++ pairs)
    (h : Hierarchy) (o : h ≡ record { sorts = length names; pairs = all }) where
  pub ordered_as : h ≡ hierarchy_over ms parts names pairs
  ordered_as = let over : List (ℕ × ℕ) → Hierarchy = λ ps. record { sorts = length names; pairs = ps } in o ∙ ap over a

  pub signed_as : (own ds : List Decl) → ds ≡ own → (s : SignatureOf) → SignatureRead names (given_over ms parts names h ds) None (Ok s)
      → s ≡ signature_over (given_over ms parts names (hierarchy_over ms parts names pairs) own)
  signed_as own ds e s r =
      signature_is names (given_over ms parts names h ds) None r ∙ ap₂ (λ x y. signature_over (given_over ms parts names x y)) ordered_as e

-- the module of a table over a frame
module _ (ms : List ModuleOf) (f : Frame) (t : TableOf) where
  pub given_as : (names : List (List ℕ)) (parts : List ℕ) (ps : List (ℕ × ℕ)) (ds : List Decl) → names ≡ f.names → parts ≡ f.parts → ps ≡ t.pairs → ds ≡ t.declarations
      → given_over ms parts names (hierarchy_over ms parts names ps) ds ≡ table_given ms f t
  given_as names parts ps ds n p q d =
      ap₂ (λ x y. given_over ms y x (hierarchy_over ms y x ps) ds) n p ∙ ap₂ (λ x y. given_over ms f.parts f.names (hierarchy_over ms f.parts f.names x) y) q d

  pub carried_as : (names : List (List ℕ)) (parts : List ℕ) (s : SignatureOf) → names ≡ f.names → parts ≡ f.parts → carried ms names s parts ≡ carried ms f.names s f.parts
  carried_as names parts s n p = ap₂ (λ x y. carried ms x s y) n p

  abbrev pub made : ℕ → SignatureOf → GrammarOf → List Decl → StatementsOf → StatementsOf → ModuleOf
  made number s g decls all its = record {
    name = t.name;
    depth = f.depth;
    parts = f.parts ++ number ∷ [];
    sorts = f.names;
    signature = s;
    grammar = g;
    statements = all;
    own = record { pairs = t.pairs; declarations = decls; statements = its };
  }

  pub made_of_table : (number : ℕ) (s : SignatureOf) (g : GrammarOf) (decls : List Decl) (n : Counts) (all : StatementsOf) → number ≡ length ms
      → s ≡ signature_over (table_given ms f t) → g ≡ grammar_of s f.names t.variables → decls ≡ t.declarations → n ≡ counts_of (carried ms f.names s f.parts)
      → all ≡ and_more (carried ms f.names s f.parts) (table_statements t) → made number s g decls all (behind n all) ≡ table_module ms f t
  made_of_table number s g decls n all l e r d c w =
      let its : behind n all ≡ table_statements t = ap₂ behind c w ∙ behind_parts (carried ms f.names s f.parts) (table_statements t) in
      ap (λ x. made x s g decls all (behind n all)) l
      ∙ ap₂ (λ x y. made (length ms) s x y all (behind n all)) r d
      ∙ ap₂ (λ x y. made (length ms) s (grammar_of s f.names t.variables) t.declarations x y) w its
      ∙ ap (λ x. made (length ms) x (grammar_of x f.names t.variables) t.declarations (and_more (carried ms f.names x f.parts) (table_statements t)) (table_statements t)) e
