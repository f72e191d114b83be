-- What is kept of the built-ins of a signature.
use Rattle.std.proofs.Common.{◌≡◌, ℕ, suc, ◌+◌, ◌<◌, ◌≤◌, List, [], ◌∷◌, Bool, false, map, drop, length, get_or, slice_get, Option, Some, None, if◌then◌else◌, refl, sym, ap, ap₂, ◌∙◌, arith, bytes_eq, codes}
use Rattle.std.specs.Option.{option_map}
use Rattle.std.proofs.Math.Seq.{drop-cons}
use Rattle.mau_terms.specs.Tree.{apply, no_trees}
use Rattle.mau_terms.specs.declared.ids.OpId.{OpId}
use Rattle.mau_poset.proofs.Orders.{kind_of-kind}
use Rattle.mau_signature.specs.declared.form.Piece.TheVariants.{Word}
use Rattle.mau_signature.specs.Names.{constant_of, place_of, operator_of}
use Rattle.mau_signature.specs.Attributes.{no_attributes}
use Rattle.mau_signature.specs.declared.decl.Decl.{Decl}
use Rattle.mau_signature.specs.Signature.{SignatureOf, number_of, attributes_of}
use Rattle.mau_formula.specs.Operator.{Operator, operator_named}
use Rattle.mau_formula.specs.Expr.{value}
use Rattle.mau_formula.specs.Native.{natives, native_operator, name_of, gives_of}
use Rattle.mau_formula.specs.declared.native.Native.{Native}
use Rattle.mau_evaluation.specs.Program.{BuiltIn, on_numerals, choice, equality}
use Rattle.mau_api.specs.BuiltIns.{constant_in, true_in, false_in, first_kind, result_kind, answer_in, same_gives, as_wanted, built_in_named}
use Rattle.mau_reduce.specs.BuiltOperators.{constant_tree, native_kept}
use Rattle.mau_reduce.specs.declared.built_in.Truths.{Truths}

-- ---- constants

constant_at : (p : Option ℕ) → elim p [ Some i ↦ apply (suc i) no_trees | None ↦ apply 0 no_trees ] ≡ constant_tree (option_map (λ i. let o : OpId = record { 0 = i + 1 } in o) p)
constant_at (Some i) = ap (λ n. apply n no_trees) (more i)
  where
    more : (i : ℕ) → suc i ≡ i + 1
    more i = omega arith
constant_at None = refl

pub constant_found : (s : SignatureOf) (kind : ℕ) (w : List ℕ) → s.hierarchy.sorts ≤ kind → (op : Option OpId) →
    op ≡ number_of s.names (operator_of s.hierarchy (record { form = Word w ∷ []; args = []; result = kind; attrs = no_attributes })) → constant_in s kind w ≡ constant_tree op
constant_found s kind w low op e =
    constant_at (place_of s.names (constant_of (Word w ∷ []) kind))
    ∙ sym (ap constant_tree (e ∙ ap (λ k. number_of s.names (constant_of (Word w ∷ []) k)) (kind_of-kind s.hierarchy kind low)))

-- ---- native operators by name

pub native_past : (ns : List Native) (i : ℕ) (d : Native) (name : List ℕ) → i < length ns → bytes_eq (name_of (get_or ns i d)) name ≡ false →
    operator_named (map native_operator (drop i ns)) name ≡ operator_named (map native_operator (drop (i + 1) ns)) name
native_past ns i d name h e =
    ap (λ xs. operator_named (map native_operator xs) name) (drop-cons ns i d h)
    ∙ (ap (λ b. if b then Some (native_operator (get_or ns i d)) else operator_named (map native_operator (drop (suc i) ns)) name) e
    ∙ ap (λ m. operator_named (map native_operator (drop m ns)) name) (more i))
  where
    more : (i : ℕ) → suc i ≡ i + 1
    more i = omega arith

-- of a name that is none of the three others
pub native_is_kept : (s : SignatureOf) (hooks : List Operator) (f : ℕ) (name : List ℕ) (w : Native) (t : Truths) →
    bytes_eq name (codes "branch") ≡ false → bytes_eq name (codes "same") ≡ false → bytes_eq name (codes "differ") ≡ false →
    Some (native_operator w) ≡ operator_named (map native_operator natives) name → true_in s (result_kind s f) ≡ constant_tree t.yes → false_in s (result_kind s f) ≡ constant_tree t.no →
    built_in_named s hooks f name ≡ native_kept (gives_of w) t (operator_named hooks name)
native_is_kept s hooks f name w t b m d is for_true for_false =
    other (bytes_eq name (codes "branch")) (Some (choice (true_in s (first_kind s f)) (false_in s (first_kind s f)))) (if bytes_eq name (codes "same") then Some (equality (true_in s (result_kind s f)) (false_in s (result_kind s f))) else (if bytes_eq name (codes "differ") then Some (equality (false_in s (result_kind s f)) (true_in s (result_kind s f))) else (as_wanted s f (operator_named (map native_operator natives) name) (operator_named hooks name)))) b
    ∙ (other (bytes_eq name (codes "same")) (Some (equality (true_in s (result_kind s f)) (false_in s (result_kind s f)))) (if bytes_eq name (codes "differ") then Some (equality (false_in s (result_kind s f)) (true_in s (result_kind s f))) else (as_wanted s f (operator_named (map native_operator natives) name) (operator_named hooks name))) m
    ∙ (other (bytes_eq name (codes "differ")) (Some (equality (false_in s (result_kind s f)) (true_in s (result_kind s f)))) (as_wanted s f (operator_named (map native_operator natives) name) (operator_named hooks name)) d
    ∙ (ap (λ o. as_wanted s f o (operator_named hooks name)) (sym is) ∙ by (operator_named hooks name))))
  where
    other : (z : Bool) (x y : Option BuiltIn) → z ≡ false → (if z then x else y) ≡ y
    other z x y e = ap (λ w. if w then x else y) e

    by : (o : Option Operator) → as_wanted s f (Some (native_operator w)) o ≡ native_kept (gives_of w) t o
    by None = refl
    by (Some o) = ap₂ (λ y n. if same_gives (gives_of w) o.gives then Some (on_numerals (λ i j. answer_in o.gives y n (value o.formula i j))) else None) for_true for_false

-- the attributes of the first declaration
pub first_attributes : (ds : List Decl) (d : Decl) → Some d ≡ slice_get ds 0 → attributes_of ds ≡ d.attrs
first_attributes [] d e = cc
first_attributes (x ∷ ds) d e = let same : d ≡ x = cc in ap (λ (y : Decl). y.attrs) (sym same)
