-- Operators in other numbers.
use Rattle.std.proofs.Common.{◌≡◌, ℕ, ◌+◌, List, [], ◌∷◌, All, Option, Some, ◌&&◌, if◌then◌else◌, length, get_or, slice_get, sym, ap, ap₂, ◌∙◌, arith, lt-ltb}
use Rattle.std.proofs.lemmas.Bool.{le-leb}
use Rattle.std.proofs.lemmas.List.Elements.{All-map, All-get_or}
use Rattle.mau_poset.specs.Order.{Hierarchy, kinds}
use Rattle.mau_terms.specs.declared.ids.OpId.{OpId}
use Rattle.mau_signature.specs.declared.decl.Decl.{Decl}
use Rattle.mau_signature.specs.Faults.{IsSort, HasSorts}
use Rattle.mau_signature.specs.Names.{operator_of}
use Rattle.mau_signature.specs.Signature.{SignatureOf, IsOperator, declarations_at, number_of}
use Rattle.mau_renumber.specs.Carried.{declaration_to, op_or_zero, operator_like, operator_to}

-- the sorts of a declaration in the numbers of a table are there
pub carried_sorts : (old new : Hierarchy) (table : List ℕ) (d : Decl)
    → length table ≡ old.sorts + kinds old → All (IsSort new) table → HasSorts old d → HasSorts new (declaration_to (λ a. get_or table a 0) d)
carried_sorts old new table d e all h = record {
  arguments = All-map (IsSort new) (λ a. get_or table a 0) d.args (λ i x w. one (get_or d.args i x) (h.arguments i x w));
  result = one d.result h.result;
}
  where
    one : (a : ℕ) → IsSort old a → IsSort new (get_or table a 0)
    one a w = All-get_or (IsSort new) table a 0 (omega (arith, e, w)) all

-- an operator is told by its first declaration
first_like : (sort : ℕ → ℕ) (new : SignatureOf) (ds : List Decl) (d : Decl) → slice_get ds 0 ≡ Some d
    → op_or_zero (number_of new.names (operator_of new.hierarchy (declaration_to sort d))) ≡ operator_like sort new ds
first_like sort new [] d e = absurd cc
first_like sort new (x ∷ xs) d e =
    let same : x ≡ d = cc in ap (λ d. op_or_zero (number_of new.names (operator_of new.hierarchy (declaration_to sort d)))) (sym same)

pub carried_operator : (sort : ℕ → ℕ) (old new : SignatureOf) (n : ℕ) (d c : Decl) (r : Option OpId)
    → IsOperator old n → slice_get (declarations_at old n) 0 ≡ Some d → c ≡ declaration_to sort d
    → r ≡ number_of new.names (operator_of new.hierarchy c) → op_or_zero r ≡ operator_to sort old new n
carried_operator sort old new n d c r op first e w =
    ap op_or_zero (w ∙ ap (λ c. number_of new.names (operator_of new.hierarchy c)) e)
    ∙ first_like sort new (declarations_at old n) d first
    ∙ sym (ap (λ b. if b then operator_like sort new (declarations_at old n) else 0)
    (ap₂ (λ x y. x && y) (lt-ltb 0 n op.0) (le-leb n (length old.declarations) op.1)))
