-- A library with one module more is one, and its modules are lawful.
use Rattle.std.proofs.Common.{◌≡◌, ◌+◌, ◌<◌, ℕ, Option, Some, None, List, [], ◌∷◌, ◌++◌, length, arith, length-append}
use Rattle.std.specs.Prelude.{All, IfSome}
use Rattle.std.proofs.lemmas.List.Elements.{All-nil, All-push}
use Rattle.mau_module.specs.Modules.{ModuleOf}
use Rattle.mau_module.specs.Libraries.{IsLibrary, IsNext, IsLawfulAt, AreLawfulModules}
use Rattle.mau_module.proofs.MadeOver.{one_more_made}

module _ (ms : List ModuleOf) (m : ModuleOf) (lib : IsLibrary ms) (next : IsNext ms m) where
  longer : length (ms ++ m ∷ []) ≡ length ms + 1
  longer = length-append ms (m ∷ [])

  pub entered : IsLibrary (ms ++ m ∷ [])
  entered = record {
    parts = All-push (λ (n : ModuleOf). All (λ p. p < length (ms ++ m ∷ [])) n.parts) ms m (λ k d l j e r. omega (arith, lib.parts k d l j e r, longer)) (λ j e r. omega (arith, next.parts j e r, longer));
    made = one_more_made ms m lib.made next.made;
  }

-- no modules are a library
pub no_library : IsLibrary []
no_library = record { parts = All-nil (λ (n : ModuleOf). All (λ p. p < 0) n.parts); made = λ i m e. absurd cc }

-- each module of a library is lawful, and so is one that is found
pub lawful_at : (ms : List ModuleOf) → IsLibrary ms → (i : ℕ) → IsLawfulAt ms i
lawful_at ms lib i m e = (lib.made i m e).lawful

pub lawful_there : (ms : List ModuleOf) → IsLibrary ms → AreLawfulModules ms
lawful_there ms lib = record { each = lawful_at ms lib }

pub found_lawful : (ms : List ModuleOf) → IsLibrary ms → (o : Option ℕ) → IfSome o (IsLawfulAt ms)
found_lawful ms lib (Some i) = lawful_at ms lib i
found_lawful ms lib None = tt
