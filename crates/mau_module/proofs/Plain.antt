-- No attribute of a text makes an operator native.
use Rattle.std.proofs.Common.{◌≡◌, ℕ, List, [], ◌∷◌, ◌++◌, Bool, true, false, cond, map, length, Option, Some, None, refl, sym, ◌∙◌, ap, subst, inl, inr}
use Rattle.std.specs.Prelude.{Result, Ok, Err, fold, bytes_eq, codes}
use Rattle.mau_terms.specs.Finite.{IsIn}
use Rattle.mau_tokens.specs.declared.token.Token.{Token}
use Rattle.mau_signature.specs.declared.attributes.Attrs.{Attrs}
use Rattle.mau_signature.specs.declared.decl.Decl.{Decl}
use Rattle.mau_signature.specs.Attributes.{no_attributes, first_given, unite}
use Rattle.mau_poset.specs.Order.{Hierarchy}
use Rattle.mau_modtext.specs.Word.{Word}
use Rattle.mau_modtext.specs.declared.raw.RawAttr.{RawAttr}
use Rattle.mau_modtext.specs.declared.raw.RawOps.{RawOps}
use Rattle.mau_modtext.specs.declared.raw.RawElement.{RawElement}
use Rattle.mau_modtext.specs.declared.raw.RawElement.TheVariants.{Import, Sorts, Subsorts, Ops, Vars, Statement, Strats}
use Rattle.mau_declare.specs.declared.element.Operators.{Operators}
use Rattle.mau_declare.specs.Words.{token_text}
use Rattle.mau_declare.specs.Attributes.{given_by, given}
use Rattle.mau_declare.specs.Elements.{Elements, no_elements, sort_use, subsort_pairs, argument_step, operators_over, operators, variables, with_operators, behind_statement, element_step, elements_of}
use Rattle.mau_declare.specs.Statements.{unknown_in_statement, unknown_in_strats}
use Rattle.mau_declare.specs.Flattened.{declarations, declarations_in, declaration_at}
use Rattle.mau_declare.specs.Readings.{and_then, read_all}
use Rattle.mau_module.proofs.Members.{in_both, in_mapped, in_flattened}

abbrev IsPlain : Attrs → Type 0
IsPlain a = a.builtin ≡ None

-- ---- lists of attributes

pick : (b : Bool) (x y : Attrs) → IsPlain x → IsPlain y → IsPlain (cond b x y)
pick true x y e f = e
pick false x y e f = f

by_name : (ws : List Word) (n : ℕ) (name : List ℕ) (value : List Token) → IsPlain (given_by ws n name value)
by_name ws n name value =
    pick (bytes_eq name (codes "assoc")) _ _ refl (pick (bytes_eq name (codes "comm")) _ _ refl (pick (bytes_eq name (codes "id:")) _ _ refl
    (pick (bytes_eq name (codes "prec")) _ _ refl (pick (bytes_eq name (codes "gather")) _ _ refl (pick (bytes_eq name (codes "strat")) _ _ refl
    (pick (bytes_eq name (codes "frozen")) _ _ refl refl))))))

one_given : (ws : List Word) (n : ℕ) (raw : RawAttr) → IsPlain (given ws n raw)
one_given ws n raw = by raw.name
  where
    by : (ts : List Token) → IsPlain (elim ts [ [] ↦ no_attributes | t ∷ us ↦ given_by ws n (token_text ws t) raw.value ])
    by [] = refl
    by (t ∷ us) = by_name ws n (token_text ws t) raw.value

both_plain : (a b : Option (List ℕ)) → a ≡ None → b ≡ None → first_given a b ≡ None
both_plain a b e f = ap (λ x. first_given x b) e ∙ f

all_given : (ws : List Word) (n : ℕ) (a : Attrs) (raws : List RawAttr) → IsPlain a → IsPlain (fold unite a (map (given ws n) raws))
all_given ws n a [] e = e
all_given ws n a (raw ∷ raws) e = all_given ws n (unite a (given ws n raw)) raws (both_plain a.builtin (given ws n raw).builtin e (one_given ws n raw))

-- ---- elements

passed : {X Y : Type 0} (r : Result X ℕ) (f : X → Result Y ℕ) (y : Y) → and_then r f ≡ Ok y → (x : X) × (r ≡ Ok x) × (f x ≡ Ok y)
passed (Ok x) f y e = (x, refl, e)
passed (Err at) f y e = absurd cc

abbrev ArePlain : List Operators → Type 0
ArePlain os = (o : Operators) → IsIn o os → IsPlain o.attrs

one_more : (os : List Operators) (o : Operators) → ArePlain os → IsPlain o.attrs → ArePlain (os ++ o ∷ [])
one_more os o a e x i = elim (in_both x os (o ∷ []) i) [ inl j ↦ a x j | inr j ↦ last j ]
  where
    last : IsIn x (o ∷ []) → IsPlain x.attrs
    last (inl s) = subst (λ (y : Operators). IsPlain y.attrs) (sym s) e
    last (inr s) = absurd s

operators_plain : (ws : List Word) (sorts : List (List ℕ)) (o : RawOps) (ops : Operators) → operators ws sorts o ≡ Ok ops → IsPlain ops.attrs
operators_plain ws sorts o ops e =
    let p = passed (read_all (argument_step ws sorts) [] o.args) (λ args. and_then (sort_use ws sorts o.result) (λ result. Ok (operators_over ws o args result))) ops e in
    let q = passed (sort_use ws sorts o.result) (λ result. Ok (operators_over ws o p.0 result)) ops p.2 in
    let is : operators_over ws o p.0 q.0 ≡ ops = let w = q.2 in cc in
    subst (λ (x : Operators). IsPlain x.attrs) is (all_given ws (length o.args) no_attributes o.attrs refl)

behind_plain : (e f : Elements) (u : Option ℕ) → behind_statement e u ≡ Ok f → ArePlain e.operators → ArePlain f.operators
behind_plain e f None w a = let is : e ≡ f = cc in subst (λ (y : Elements). ArePlain y.operators) is a
behind_plain e f (Some at) w a = absurd cc

step_plain : (ws : List Word) (sorts : List (List ℕ)) (e f : Elements) (x : RawElement) → element_step ws sorts e x ≡ Ok f → ArePlain e.operators → ArePlain f.operators
step_plain ws sorts e f (Import name) s a = let is : e ≡ f = cc in subst (λ (y : Elements). ArePlain y.operators) is a
step_plain ws sorts e f (Sorts names) s a = let is : e ≡ f = cc in subst (λ (y : Elements). ArePlain y.operators) is a
step_plain ws sorts e f (Subsorts lists) s a =
    let p = passed (subsort_pairs ws sorts lists) (λ pairs. Ok (Rattle.mau_declare.specs.Elements.with_pairs e pairs)) f s in
    let is : Rattle.mau_declare.specs.Elements.with_pairs e p.0 ≡ f = let w = p.2 in cc in subst (λ (y : Elements). ArePlain y.operators) is a
step_plain ws sorts e f (Vars v) s a =
    let p = passed (variables ws sorts v) (λ vs. Ok (Rattle.mau_declare.specs.Elements.with_variables e vs)) f s in
    let is : Rattle.mau_declare.specs.Elements.with_variables e p.0 ≡ f = let w = p.2 in cc in subst (λ (y : Elements). ArePlain y.operators) is a
step_plain ws sorts e f (Ops o) s a =
    let p = passed (operators ws sorts o) (λ ops. Ok (with_operators e ops)) f s in
    let is : with_operators e p.0 ≡ f = let w = p.2 in cc in
    subst (λ (y : Elements). ArePlain y.operators) is (one_more e.operators p.0 a (operators_plain ws sorts o p.0 p.1))
step_plain ws sorts e f (Statement st) s a = behind_plain e f (unknown_in_statement ws sorts st) s a
step_plain ws sorts e f (Strats st) s a = behind_plain e f (unknown_in_strats ws sorts st) s a

all_plain : (ws : List Word) (sorts : List (List ℕ)) (e f : Elements) (xs : List RawElement) → read_all (element_step ws sorts) e xs ≡ Ok f → ArePlain e.operators → ArePlain f.operators
all_plain ws sorts e f [] s a = let is : e ≡ f = cc in subst (λ (y : Elements). ArePlain y.operators) is a
all_plain ws sorts e f (x ∷ xs) s a =
    let p = passed (element_step ws sorts e x) (λ y. read_all (element_step ws sorts) y xs) f s in
    all_plain ws sorts p.0 f xs p.2 (step_plain ws sorts e p.0 x p.1 a)

none_plain : ArePlain []
none_plain o i = absurd i

-- what elements declare has nothing built in
pub declared_plain : (ws : List Word) (sorts : List (List ℕ)) (xs : List RawElement) (e : Elements) → elements_of ws sorts xs ≡ Ok e
    → (h : Hierarchy) (numerals : Option ℕ) (d : Decl) → IsIn d (declarations h numerals e.operators) → d.attrs.builtin ≡ None
declared_plain ws sorts xs e s h numerals d i =
    let f = in_flattened (declarations_in h numerals) e.operators d i in
    let g = in_mapped (declaration_at h numerals f.0) f.0.forms d f.2 in
    ap (λ (x : Decl). x.attrs.builtin) g.2 ∙ all_plain ws sorts no_elements e xs s none_plain f.0 f.1
