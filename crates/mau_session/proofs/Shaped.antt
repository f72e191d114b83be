-- The productions of each module of a session have their shape, so that none reads no tokens.
use Rattle.std.proofs.Common.{◌≡◌, ℕ, zero, suc, List, [], ◌∷◌, ◌++◌, map, All, Some, Ok, slice_get, refl, subst}
use Rattle.mau_grammar.specs.Production.{IsShaped}
use Rattle.mau_modtext.specs.Word.{Word}
use Rattle.mau_modtext.specs.declared.raw.RawModule.{RawModule}
use Rattle.mau_prelude.specs.declared.module.PreludeModule.{PreludeModule}
use Rattle.mau_prelude.specs.declared.module.PreludeModule.TheVariants.{TruthValue, Truth, Bool, Nat}
use Rattle.mau_prelude.specs.Tables.{table_of}
use Rattle.mau_signing.specs.Signed.{signature_over}
use Rattle.mau_statement.proofs.OneStatement.{shaped_of}
use Rattle.mau_module.specs.Modules.{ModuleOf}
use Rattle.mau_module.specs.Library.{truth_value, truth, bool}
use Rattle.mau_module.specs.Framed.{frame_of}
use Rattle.mau_module.specs.Prelude.{table_frame, table_given, table_module, with_table, prelude}
use Rattle.mau_declare.specs.Flattened.{variable_at}
use Rattle.mau_module.specs.Flattened.{FlattenedAs, flattened}

abbrev pub IsShapedIn : ModuleOf → Type 0
IsShapedIn m = All IsShaped m.grammar.productions

abbrev pub AreShaped : List ModuleOf → Type 0
AreShaped ms = (i : ℕ) (m : ModuleOf) → slice_get ms i ≡ Some m → IsShapedIn m

pub one_more_shaped : (ms : List ModuleOf) (m : ModuleOf) → AreShaped ms → IsShapedIn m → AreShaped (ms ++ m ∷ [])
one_more_shaped [] m all its zero o e = let same : m ≡ o = cc in subst IsShapedIn same its
one_more_shaped [] m all its (suc i) o e = absurd (cc e)
one_more_shaped (n ∷ ms) m all its zero o e = all zero o e
one_more_shaped (n ∷ ms) m all its (suc i) o e = one_more_shaped ms m (λ j p h. all (suc j) p h) its i o e

-- an accepted module
pub flattened_shaped : (ms : List ModuleOf) (ws : List Word) (raw : RawModule) {m : ModuleOf} → FlattenedAs ms ws raw (Ok m) → IsShapedIn m
flattened_shaped ms ws raw (flattened e s own signed lawful read) = shaped_of s (frame_of ms ws raw).names (map (variable_at ws s.hierarchy) e.variables)

-- the modules of the prelude
table_shaped : (ms : List ModuleOf) (imports : List ℕ) (p : PreludeModule) → IsShapedIn (table_module ms (table_frame ms imports (table_of p)) (table_of p))
table_shaped ms imports p =
    let f = table_frame ms imports (table_of p) in
    shaped_of (signature_over (table_given ms f (table_of p))) f.names (table_of p).variables

with_shaped : (ms : List ModuleOf) (imports : List ℕ) (p : PreludeModule) → AreShaped ms → AreShaped (with_table ms imports p)
with_shaped ms imports p all = one_more_shaped ms (table_module ms (table_frame ms imports (table_of p)) (table_of p)) all (table_shaped ms imports p)

none_shaped : AreShaped []
none_shaped i m e = absurd (cc e)

pub prelude_shaped : AreShaped prelude
unfolding prelude
prelude_shaped =
    with_shaped (with_table (with_table (with_table [] [] TruthValue) (truth_value ∷ []) Truth) (truth ∷ []) Bool) (bool ∷ []) Nat
    (with_shaped (with_table (with_table [] [] TruthValue) (truth_value ∷ []) Truth) (truth ∷ []) Bool
    (with_shaped (with_table [] [] TruthValue) (truth_value ∷ []) Truth (with_shaped [] [] TruthValue none_shaped)))
