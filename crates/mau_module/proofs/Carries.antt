-- Declarations, sorts and operators in the numbers of tables.
use Rattle.std.proofs.Common.{◌≡◌, ◌+◌, ℕ, List, length, get_or, arith, sym, ap, ap₂, subst, ◌∙◌}
use mathlib.Core.Path.{fun_ext}
use Rattle.std.specs.Prelude.{All}
use Rattle.std.proofs.lemmas.List.Elements.{All-map}
use Rattle.mau_poset.specs.Order.{Hierarchy, kinds}
use Rattle.mau_signature.specs.declared.decl.Decl.{Decl}
use Rattle.mau_signature.specs.Signature.{SignatureOf}
use Rattle.mau_signature.specs.Faults.{IsSort, HasSorts}
use Rattle.mau_renumber.specs.declared.carry.Tables.{Tables}
use Rattle.mau_renumber.specs.Tables.{numbers_in}
use Rattle.mau_renumber.specs.Carried.{Numbers, declaration_to, operator_to}
use Rattle.mau_module.specs.Modules.{ModuleOf}
use Rattle.mau_module.specs.Included.{number_from}
use Rattle.mau_module.specs.Carried.{numbers_from}

-- a declaration whose sorts and kinds are in the table has sorts and kinds behind it
module _ (old new : Hierarchy) (t : List ℕ) (len : length t ≡ old.sorts + kinds old) (all : All (IsSort new) t) where
  pub has_sorts_to : (d e : Decl) → HasSorts old d → e ≡ declaration_to (λ a. get_or t a 0) d → HasSorts new e
  has_sorts_to d e has q = subst (HasSorts new) (sym q) (record {
    arguments = All-map (IsSort new) (λ a. get_or t a 0) d.args (λ k x l. all (get_or d.args k x) 0 (omega (arith, has.arguments k x l, len)));
    result = all d.result 0 (omega (arith, has.result, len));
  })

pub tables_are : (t : Tables) (m : ModuleOf) (names : List (List ℕ)) (s : SignatureOf)
    → ((a : ℕ) → get_or t.sorts.items a 0 ≡ number_from m names s.hierarchy a)
    → ((n : ℕ) → get_or t.operators.items n 0 ≡ operator_to (λ a. get_or t.sorts.items a 0) m.signature s n)
    → numbers_in t ≡ numbers_from m names s
tables_are t m names s sorts operators =
    let number : ℕ → ℕ = number_from m names s.hierarchy in
    let same : (λ (a : ℕ). get_or t.sorts.items a 0) ≡ number = fun_ext sorts in
    let both : (ℕ → ℕ) → (ℕ → ℕ) → Numbers = λ a b. record { sort = a; operator = b } in
    ap₂ both same (fun_ext operators ∙ ap (λ (f : ℕ → ℕ). operator_to f m.signature s) same)
