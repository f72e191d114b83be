-- Texts that several things have, and constants with their sorts.
use Rattle.std.proofs.Common.{◌≡◌, ℕ, ◌<◌, ◌≤◌, ◌==◌, if◌then◌else◌, length, Some, slice_get, List, ◌++◌, Bool, true, false, cond, ◌||◌, nat_lt, codes, sym, ap, ap₂, ◌∙◌, append_assoc, arith}
use Rattle.std.specs.Prelude.{count_by, bytes_eq}
use Rattle.std.proofs.lemmas.Bool.Decides.{nat_tests}
use Rattle.mau_poset.specs.Order.{Hierarchy, kind_of}
use Rattle.mau_signature.specs.declared.decl.Decl.{Decl}
use Rattle.mau_signature.specs.Form.{holes}
use Rattle.mau_grammar.specs.declared.production.Production.{Production}
use Rattle.mau_grammar.specs.Parts.{parts_in_order}
use Rattle.mau_grammar.specs.Productions.{argument_kinds, level}
use Rattle.mau_grammar.specs.Grammar.{GrammarOf}
use Rattle.mau_print.specs.declared.layout.Layout.{Layout}
use Rattle.mau_print.specs.declared.layout.Layout.TheVariants.{Constant, Prefix, Form, Chain}
use Rattle.mau_print.specs.Printed.{with_sort, unambiguous}
use Rattle.mau_print.specs.Layouts.{is_numeral_in, is_shared, as_constant, first_sort_name, head_text, layout_by}
use Rattle.mau_print.specs.Beforehand.{IsProductionFor, production_layout}

pub shared_many : (g : GrammarOf) (owned : List (List ℕ)) (w : List ℕ) (n : ℕ) → n ≡ count_by (bytes_eq w) owned → 1 < n → true ≡ is_shared g owned w
shared_many g owned w n e h = let t : nat_lt 1 n ≡ true = grind (arith, nat_tests) in sym (ap (λ m. nat_lt 1 m || is_numeral_in g w) (sym e) ∙ ap (λ b. b || is_numeral_in g w) t)

pub shared_few : (g : GrammarOf) (owned : List (List ℕ)) (w : List ℕ) (n : ℕ) → n ≡ count_by (bytes_eq w) owned → n ≤ 1 → is_numeral_in g w ≡ is_shared g owned w
shared_few g owned w n e h = let t : nat_lt 1 n ≡ false = grind (arith, nat_tests) in sym (ap (λ m. nat_lt 1 m || is_numeral_in g w) (sym e) ∙ ap (λ b. b || is_numeral_in g w) t)

pub unmarked : (b : Bool) (sort w v : List ℕ) → b ≡ false → v ≡ w → Constant 1 v ≡ as_constant (unambiguous b sort w)
unmarked true sort w v e f = cc
unmarked false sort w v e f = ap (Constant 1) f

pub marked : (b : Bool) (sort w v : List ℕ) → b ≡ true → v ≡ with_sort w sort → Constant 0 v ≡ as_constant (unambiguous b sort w)
marked true sort w v e f = ap (Constant 0) f
marked false sort w v e f = cc

pub with_sort-is : (w sort : List ℕ) → (((codes "(" ++ w) ++ codes ").") ++ sort) ≡ with_sort w sort
with_sort-is w sort = simp append_assoc

-- ---- the layout of an operator, by the cases of its first declaration

abbrev with_holes : Hierarchy → Decl → Layout
with_holes h d = if d.attrs.assoc then Chain (level d) (parts_in_order d (argument_kinds h d)) else Form (level d) (parts_in_order d (argument_kinds h d))

abbrev with_arguments : Hierarchy → Decl → Layout
with_arguments h d = if holes d.form == 0 then Prefix (head_text d) else with_holes h d

pub by_constant : (h : Hierarchy) (g : GrammarOf) (owned : List (List ℕ)) (d : Decl) (k : ℕ) (w : List ℕ) → (length d.args == 0) ≡ true → k ≡ kind_of h d.result → w ≡ head_text d
    → as_constant (unambiguous (is_shared g owned w) (first_sort_name g.sorts k) w) ≡ layout_by h g owned d
by_constant h g owned d k w e ek ew =
    ap₂ (λ k w. as_constant (unambiguous (is_shared g owned w) (first_sort_name g.sorts k) w)) ek ew
    ∙ sym (ap (λ b. cond b (as_constant (unambiguous (is_shared g owned (head_text d)) (first_sort_name g.sorts (kind_of h d.result)) (head_text d))) (with_arguments h d)) e)

pub by_words : (h : Hierarchy) (g : GrammarOf) (owned : List (List ℕ)) (d : Decl) (w : List ℕ) → (length d.args == 0) ≡ false → (holes d.form == 0) ≡ true → w ≡ head_text d → Prefix w ≡ layout_by h g owned d
by_words h g owned d w e eh ew =
    ap Prefix ew
    ∙ sym (ap (λ b. cond b (as_constant (unambiguous (is_shared g owned (head_text d)) (first_sort_name g.sorts (kind_of h d.result)) (head_text d))) (with_arguments h d)) e
    ∙ ap (λ b. cond b (Prefix (head_text d)) (with_holes h d)) eh)

pub by_production : (h : Hierarchy) (g : GrammarOf) (owned : List (List ℕ)) (d : Decl) (at : ℕ) (p : Production) → (length d.args == 0) ≡ false → (holes d.form == 0) ≡ false → IsProductionFor h g d at → slice_get g.productions at ≡ Some p
    → production_layout d.attrs.assoc p ≡ layout_by h g owned d
by_production h g owned d at p e eh i there =
    let same : p ≡ i.production = let q : Some p ≡ Some i.production = sym there ∙ i.there in cc in
    ap (production_layout d.attrs.assoc) same
    ∙ ap₂ (λ q ps. cond d.attrs.assoc (Chain q ps) (Form q ps)) i.level i.parts
    ∙ sym (ap (λ b. cond b (as_constant (unambiguous (is_shared g owned (head_text d)) (first_sort_name g.sorts (kind_of h d.result)) (head_text d))) (with_arguments h d)) e
    ∙ ap (λ b. cond b (Prefix (head_text d)) (with_holes h d)) eh)
