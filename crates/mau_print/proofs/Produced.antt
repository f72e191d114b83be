-- The production of an operator with holes, among all productions of its signature.
use Rattle.std.proofs.Common.{◌≡◌, ◌≢◌, ℕ, zero, suc, ◌+◌, ◌-◌, ◌<◌, ◌==◌, ◌⊎◌, inl, inr, List, [], ◌∷◌, ◌++◌, Bool, true, false, cond, not, ◌&&◌, ◌||◌, Some, length, get_or, slice_get, refl, sym, ap, ◌∙◌, subst, append_assoc, add-one, arith, ap₂, map, take, drop, eq-eqb}
use Rattle.std.proofs.lemmas.List.{append-nil, length-append, map-append, take_more}
use Rattle.std.specs.Option.{option_map}
use Rattle.std.proofs.lemmas.Bool.Decides.{nat_tests}
use Rattle.mau_poset.specs.Order.{Hierarchy, kind_of, kinds}
use Rattle.mau_signature.specs.declared.decl.Decl.{Decl}
use Rattle.mau_signature.specs.declared.form.Piece.{Piece}
use Rattle.mau_signature.specs.Form.{holes}
use Rattle.mau_signature.specs.Signature.{SignatureOf, declarations_at}
use Rattle.mau_grammar.specs.declared.production.Production.{Production}
use Rattle.mau_grammar.specs.Production.{production}
use Rattle.mau_grammar.specs.Productions.{operator, argument_kinds, level, is_written, written, prefixed, of_operator, of_operators, of_kinds, sorted, sort_names}
use Rattle.mau_grammar.specs.Parts.{parts_in_order}
use Rattle.mau_grammar.specs.Grammar.{GrammarOf}
use Rattle.mau_grammar.proofs.Shapes.{operators_more}
use Rattle.mau_print.specs.Layouts.{layout_of, layout_by}
use Rattle.mau_print.specs.FirstSorts.{IsGrammarFor}
use Rattle.mau_print.specs.declared.layout.Layout.{Layout}
use Rattle.mau_print.specs.Beforehand.{IsProductionFor}
use Rattle.mau_parse.proofs.LeavesListed.{below_suc}

-- those of the operator i + 1, and what stands around them
abbrev pub Around : SignatureOf → ℕ → List Production → Type 0
Around s i ps = (more : List Production) × (ps ≡ of_operators s i ++ (of_operator s.hierarchy (i + 1) (declarations_at s (i + 1)) ++ more))

around_by : (s : SignatureOf) (n i : ℕ) → (i < n) ⊎ (i ≡ n) → (i < n → Around s i (of_operators s n)) → Around s i (of_operators s (suc n))
around_by s n i (inl l) rec =
    let r = rec l in
    let a = of_operators s i in
    let b = of_operator s.hierarchy (i + 1) (declarations_at s (i + 1)) in
    let x = of_operator s.hierarchy (suc n) (declarations_at s (suc n)) in
    (r.0 ++ x, ap (λ ps. ps ++ x) r.1 ∙ append_assoc a (b ++ r.0) x ∙ ap (λ ps. a ++ ps) (append_assoc b r.0 x))
around_by s n i (inr e) rec =
    let last : Around s n (of_operators s (suc n)) =
    ([], ap (λ m. of_operators s n ++ of_operator s.hierarchy m (declarations_at s m)) (sym (add-one n)) ∙ ap (λ ps. of_operators s n ++ ps) (sym (append-nil (of_operator s.hierarchy (n + 1) (declarations_at s (n + 1)))))) in
    subst (λ m. Around s m (of_operators s (suc n))) (sym e) last

pub around : (s : SignatureOf) (n i : ℕ) → i < n → Around s i (of_operators s n)
around s zero i h = absurd (omega arith)
around s (suc n) i h = around_by s n i (below_suc i n h) (λ l. around s n i l)

seam : (xs : List Production) (y : Production) (ys : List Production) → slice_get (xs ++ y ∷ ys) (length xs) ≡ Some y
seam [] y ys = refl
seam (x ∷ xs) y ys = seam xs y ys

-- the production in which an operator with holes is written
pub written-is : (h : Hierarchy) (f : ℕ) (d : Decl) → is_written d ≡ true → written h f d ≡ production (kind_of h d.result) (level d) (operator f) (parts_in_order d (argument_kinds h d)) ∷ []
written-is h f d e = ap (λ b. cond b (production (kind_of h d.result) (level d) (operator f) (parts_in_order d (argument_kinds h d)) ∷ []) []) e

pub written_there : (s : SignatureOf) (g : GrammarOf) (i : ℕ) (d : Decl) (ds : List Decl) → IsGrammarFor s g → i < length s.declarations → declarations_at s (i + 1) ≡ d ∷ ds → is_written d ≡ true
    → IsProductionFor s.hierarchy g d (length (of_operators s i))
written_there s g i d ds made low e w =
    let h = s.hierarchy in
    let r = around s (length s.declarations) i low in
    let p = production (kind_of h d.result) (level d) (operator (i + 1)) (parts_in_order d (argument_kinds h d)) in
    let a = of_operators s i in
    let rest = of_kinds h (kinds h) ++ map sorted (sort_names h 0 made.0) in
    let one : of_operator h (i + 1) (declarations_at s (i + 1)) ≡ p ∷ prefixed h (i + 1) d =
    ap (of_operator h (i + 1)) e ∙ ap (λ ps. ps ++ prefixed h (i + 1) d) (written-is h (i + 1) d w) in
    let all : g.productions ≡ a ++ p ∷ ((prefixed h (i + 1) d ++ r.0) ++ rest) =
    ap (λ x. x.productions) made.2
    ∙ ap (λ ps. ps ++ rest) (r.1 ∙ ap (λ ps. a ++ (ps ++ r.0)) one)
    ∙ append_assoc a (p ∷ (prefixed h (i + 1) d ++ r.0)) rest in
    record { production = p; there = ap (λ ps. slice_get ps (length a)) all ∙ seam a p _; level = refl; parts = refl }

-- ---- a form with holes is written

both : (x y z : Bool) → x ≡ false → y ≡ false → (not x && (not y || z)) ≡ true
both true y z e f = cc
both false true z e f = cc
both false false z e f = refl

not_zero : (n : ℕ) → n ≢ 0 → (n == 0) ≡ false
not_zero n h = grind (arith, nat_tests)

some_piece : (form : List Piece) → holes form ≢ 0 → length form ≢ 0
some_piece [] h e = h refl
some_piece (p ∷ ps) h e = absurd (omega (arith, e))

tested : (n : ℕ) → n ≡ 0 → (n == 0) ≡ false → ⊥
tested n e b = let t = eq-eqb n 0 e in cc

pub some_hole : (d : Decl) → (holes d.form == 0) ≡ false → is_written d ≡ true
some_hole d b = both (length d.form == 0) (holes d.form == 0) (length d.args == 0) (not_zero (length d.form) (some_piece d.form (λ e. tested (holes d.form) e b))) b

-- ---- the first declaration

pub first_of : (ds : List Decl) (d : Decl) → ds ≢ [] → d ≡ get_or ds 0 d → ds ≡ d ∷ drop 1 ds
first_of [] d h e = absurd (h refl)
first_of (x ∷ ds) d h e = ap (λ y. y ∷ ds) (sym e)

-- ---- one operator more

pub count_more : (s : SignatureOf) (i : ℕ) (d : Decl) (ds : List Decl) → declarations_at s (i + 1) ≡ d ∷ ds → length (of_operators s (i + 1)) ≡ length (of_operators s i) + length (of_operator s.hierarchy (i + 1) (d ∷ ds))
count_more s i d ds e =
    ap length (operators_more s i) ∙ length-append (of_operators s i) (of_operator s.hierarchy (i + 1) (declarations_at s (i + 1))) ∙ ap (λ xs. length (of_operators s i) + length (of_operator s.hierarchy (i + 1) xs)) e

pub layouts_more : (s : SignatureOf) (g : GrammarOf) (owned : List (List ℕ)) (i : ℕ) (d : Decl) (ds : List Decl) (ls : List Layout) (l : Layout) → i < length s.declarations → declarations_at s (i + 1) ≡ d ∷ ds
    → ls ≡ map (layout_of s.hierarchy g owned) (take i s.declarations) → l ≡ layout_by s.hierarchy g owned d → ls ++ l ∷ [] ≡ map (layout_of s.hierarchy g owned) (take (i + 1) s.declarations)
layouts_more s g owned i d ds ls l low e old new =
    let f = layout_of s.hierarchy g owned in
    let at : get_or s.declarations i [] ≡ d ∷ ds = ap (λ n. get_or s.declarations n []) (let k : i ≡ i + 1 - 1 = omega arith in k) ∙ e in
    ap₂ (λ xs x. xs ++ x ∷ []) old (new ∙ sym (ap f at))
    ∙ sym (map-append f (take i s.declarations) (get_or s.declarations i [] ∷ []))
    ∙ sym (ap (map f) (take_more s.declarations i [] low))

-- ---- numerals

pub numerals_some : (s : SignatureOf) (g : GrammarOf) (z n : ℕ) → IsGrammarFor s g → s.numerals ≡ Some (z, n) → g.numerals ≡ Some (kind_of s.hierarchy z)
numerals_some s g z n made e = ap (λ x. x.numerals) made.2 ∙ ap (option_map (λ p. kind_of s.hierarchy p.0)) e
