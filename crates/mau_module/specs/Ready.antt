-- The modules of the prelude, each over the modules before it.
use Rattle.std.specs.Prelude.{◌≡◌, ◌≤◌, ℕ, List, [], ◌∷◌, ◌++◌, All, Ok, None, length}
use Rattle.mau_poset.specs.Order.{IsWithin}
use Rattle.mau_poset.specs.declared.TheConstants.{MAX_SORTS}
use Rattle.mau_terms.specs.Finite.{IsIn}
use Rattle.mau_signature.specs.declared.TheConstants.{MAX_DECLARATIONS}
use Rattle.mau_signature.specs.declared.decl.Decl.{Decl}
use Rattle.mau_signature.specs.Faults.{HasSorts, IsSort, AreNumerals}
use Rattle.mau_prelude.specs.declared.module.PreludeModule.{PreludeModule}
use Rattle.mau_prelude.specs.Tables.{table_of}
use Rattle.mau_signing.specs.Signed.{SignatureRead, signature_over}
use Rattle.mau_program.specs.BuiltIns.{HasTruth}
use Rattle.mau_module.specs.declared.TheConstants.{MAX_DEPTH}
use Rattle.mau_module.specs.Modules.{ModuleOf}
use Rattle.mau_module.specs.Included.{numerals_of, depth_over, parts_of}
use Rattle.mau_module.specs.Declarations.{hierarchy_over, all_declarations, given_over}
use Rattle.mau_module.specs.Carried.{carried}
use Rattle.mau_module.specs.Stated.{AreLawful}
use Rattle.mau_module.specs.Prelude.{table_frame, table_given, table_module}
use Rattle.mau_module.specs.Made.{IsMadeOver, AreMade, IsClosed, IsSignedOver}

-- none of these declares something built in
abbrev pub AreNotBuiltIn : List Decl → Type 0
AreNotBuiltIn ds = (d : Decl) → IsIn d ds → d.attrs.builtin ≡ None

-- What is declared over some parts, with these names and pairs, is a signature: its sorts are there and are few, the numerals and the
-- successor suit each other, and nothing is at fault.
pub record IsSignable (ms : List ModuleOf) (parts : List ℕ) (names : List (List ℕ)) (pairs : List (ℕ × ℕ)) (own : List Decl) : Type 0 where
  pub few : length names ≤ MAX_SORTS
  pub within : IsWithin pairs (length names)
  pub sorts : All (HasSorts (hierarchy_over ms parts names pairs)) (all_declarations ms parts names (hierarchy_over ms parts names pairs) own)
  pub short : length (all_declarations ms parts names (hierarchy_over ms parts names pairs) own) ≤ MAX_DECLARATIONS
  pub numerals : AreNumerals (hierarchy_over ms parts names pairs) (all_declarations ms parts names (hierarchy_over ms parts names pairs) own) (numerals_of names (parts ++ length ms ∷ []))
  pub read : SignatureRead names (given_over ms parts names (hierarchy_over ms parts names pairs) own) None
      (Ok (signature_over (given_over ms parts names (hierarchy_over ms parts names pairs) own)))

-- the module of a table, where it imports these
abbrev pub module_of : List ModuleOf → List ℕ → PreludeModule → ModuleOf
module_of ms imports p = table_module ms (table_frame ms imports (table_of p)) (table_of p)

-- The table of a module of the prelude is that of a module over those before it: what it declares is a signature, its variables have sorts
-- that are there, and so are left sides of what it carries, and truth values; once it is signed, the module is one over those before it.
pub record IsReady (ms : List ModuleOf) (imports : List ℕ) (p : PreludeModule) : Type 0 where
  pub shallow : depth_over ms imports ≤ MAX_DEPTH
  pub signable : IsSignable ms (parts_of ms imports) (table_frame ms imports (table_of p)).names (table_of p).pairs (table_of p).declarations
  pub variables : All (λ alias. IsSort (table_given ms (table_frame ms imports (table_of p)) (table_of p)).hierarchy alias.sort) (table_of p).variables
  pub tops : AreMade ms → IsClosed ms (table_frame ms imports (table_of p)).names (parts_of ms imports)
      → AreLawful (module_of ms imports p).signature (carried ms (table_frame ms imports (table_of p)).names (module_of ms imports p).signature (parts_of ms imports))
  pub truth : AreMade ms → IsClosed ms (table_frame ms imports (table_of p)).names (parts_of ms imports)
      → HasTruth (table_frame ms imports (table_of p)).names (signature_over (table_given ms (table_frame ms imports (table_of p)) (table_of p)))
  pub made : AreMade ms → IsSignedOver ms (module_of ms imports p) (parts_of ms imports) → IsMadeOver ms (module_of ms imports p)
