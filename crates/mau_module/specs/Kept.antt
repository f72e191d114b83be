-- What holds of each accepted module.
use Rattle.std.specs.Prelude.{◌≡◌, ℕ, ◌≤◌, List, All, length, Bool}
use Rattle.mau_poset.specs.Order.{IsWithin}
use Rattle.mau_poset.specs.declared.TheConstants.{MAX_SORTS}
use Rattle.mau_signature.specs.Faults.{HasSorts}
use Rattle.mau_signature.specs.Signature.{SignatureOf}
use Rattle.mau_grammar.specs.Grammar.{GrammarOf}
use Rattle.mau_program.specs.BuiltIns.{HasTruth}
use Rattle.mau_declare.specs.Flattened.{AreLower}
use Rattle.mau_statement.specs.Context.{IsItsGrammar}
use Rattle.mau_signature.specs.declared.decl.Decl.{Decl}
use Rattle.mau_module.specs.declared.TheConstants.{MAX_DEPTH}

-- there is a name for each sort, and a flag, whether it is a lower one
pub record AreKept (sorts : List (List ℕ)) (lower : List Bool) (s : SignatureOf) : Type 0 where
  pub sorts_named : length sorts ≡ s.hierarchy.sorts
  pub flags : AreLower s.hierarchy.sorts s.hierarchy.pairs lower
  pub few_sorts : length sorts ≤ MAX_SORTS

-- what a module declares itself is over its sorts
pub record IsOver (s : SignatureOf) (pairs : List (ℕ × ℕ)) (decls : List Decl) : Type 0 where
  pub within : IsWithin pairs s.hierarchy.sorts
  pub sorts : All (HasSorts s.hierarchy) decls

pub record IsKept (sorts : List (List ℕ)) (lower : List Bool) (s : SignatureOf) (g : GrammarOf) (pairs : List (ℕ × ℕ)) (decls : List Decl) (depth : ℕ) : Type 0 where
  pub kept : AreKept sorts lower s
  pub grammar : IsItsGrammar sorts s g
  pub over : IsOver s pairs decls
  pub shallow : depth ≤ MAX_DEPTH
  pub truth : HasTruth sorts s
