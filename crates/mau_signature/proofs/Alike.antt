-- The declarations of one operator are alike.
use Rattle.std.proofs.Common.{◌≡◌, ℕ, ◌-◌, ◌<◌, ◌≤◌, List, [], ◌∷◌, ◌++◌, Bool, true, false, length, map, get_or, All, refl, sym, ◌∙◌, ap, subst, arith}
use Rattle.std.proofs.lemmas.List.Elements.{All-nil, All-cons, All-map, All-filter, All-same, All-head, All-tail, All-get_or, filter_passes}
use Rattle.std.proofs.lemmas.List.{length-map}
use Rattle.std.proofs.lemmas.Bool.{or_parts}
use Rattle.mau_poset.specs.Order.{Hierarchy, kind_of}
use Rattle.mau_signature.specs.declared.decl.Decl.{Decl}
use Rattle.mau_signature.specs.declared.operator.Entry.{Entry}
use Rattle.mau_signature.specs.declared.TheConstants.{MAX_ARITY}
use Rattle.mau_signature.specs.Names.{Operator, operator_of, same_operator, operators_of, declarations_of}
use Rattle.mau_signature.specs.Attributes.{united, with_attributes, with_united}
use Rattle.mau_signature.specs.Signature.{SignatureOf, IsAlike, IsOperator}
use Rattle.mau_signature.specs.Faults.{Given, IsFaultless, no_declaration, one_more, has_wrong_arity, has_other_kind, mismatches_kind, is_at_fault}
use Rattle.mau_signature.specs.Kinds.{HaveOneKind}
use Rattle.mau_signature.specs.Built.{AreAlike, declarations_in}
use Rattle.mau_signature.proofs.Same.{same_operator-is}
use Rattle.mau_signature.proofs.KindLemmas.{HaveOneKind-end}
use Rattle.mau_signature.proofs.Grouped.{passes, fails}
use Rattle.mau_signature.proofs.Whole.{few_arguments}

-- ---- results

right_kind : (g : Given) (earlier : List Decl) (d : Decl) → is_at_fault g earlier d ≡ false → has_other_kind g.hierarchy earlier (kind_of g.hierarchy d.result) ≡ false
right_kind g earlier d e = (or_parts (mismatches_kind g earlier d) _ ((or_parts (has_wrong_arity d) _ e).1)).0

step_kinds : (g : Given) (f : Operator) (ds : List Decl) (d : Decl) → HaveOneKind g.hierarchy (declarations_of g.hierarchy ds f) → is_at_fault g (declarations_of g.hierarchy ds (operator_of g.hierarchy d)) d ≡ false → HaveOneKind g.hierarchy (declarations_of g.hierarchy (ds ++ d ∷ []) f)
step_kinds g f ds d one e = by (same_operator f (operator_of h d)) refl
  where
    h : Hierarchy
    h = g.hierarchy

    by : (b : Bool) → same_operator f (operator_of h d) ≡ b → HaveOneKind h (declarations_of h (ds ++ d ∷ []) f)
    by false k = subst (HaveOneKind h) (sym (fails (λ x. same_operator f (operator_of h x)) ds d k)) one
    by true k =
        let f_is : operator_of h d ≡ f = sym (same_operator-is f (operator_of h d) k) in
        let other : has_other_kind h (declarations_of h ds f) (kind_of h d.result) ≡ false =
        subst (λ x. has_other_kind h (declarations_of h ds x) (kind_of h d.result) ≡ false) f_is
        (right_kind g (declarations_of h ds (operator_of h d)) d e) in
        subst (HaveOneKind h) (sym (passes (λ x. same_operator f (operator_of h x)) ds d k)) (HaveOneKind-end h (declarations_of h ds f) d one other)

one_kind : (g : Given) (f : Operator) (ds : List Decl) → IsFaultless g ds → HaveOneKind g.hierarchy (declarations_of g.hierarchy ds f)
one_kind g f _ no_declaration = tt
one_kind g f _ (one_more {ds} d before e) = step_kinds g f ds d (one_kind g f ds before) e

-- ---- alike

alike_group : (h : Hierarchy) (f : Operator) (group : List Decl) → All (λ d. same_operator f (operator_of h d) ≡ true) group → HaveOneKind h group → All (IsAlike h (with_united group)) (with_united group)
alike_group h f [] a one = All-nil (IsAlike h [])
alike_group h f (d ∷ rest) a one =
    All-map (IsAlike h (with_united (d ∷ rest))) (with_attributes (united (d ∷ rest))) (d ∷ rest)
    (λ i x lt.
    let P : Decl → Type 0 = λ e. kind_of h e.result ≡ kind_of h d.result in
    let y : Decl = get_or (d ∷ rest) i x in
    let same : operator_of h y ≡ operator_of h d = sym (same_operator-is f (operator_of h y) (a i x lt)) ∙ same_operator-is f (operator_of h d) (All-head (λ e. same_operator f (operator_of h e) ≡ true) d rest a) in
    record {
      form = ap (λ (o : Operator). o.form) same;
      arguments = ap (λ (o : Operator). o.arguments) same;
      result = All-cons P d rest refl one i x lt;
      attributes = refl;
    })

-- the declarations of each operator of a signature are alike, and have 16 arguments at most
abbrev IsAlikeAll : Hierarchy → List Decl → Type 0
IsAlikeAll h ds = All (IsAlike h ds) ds × All (λ d. length d.args ≤ MAX_ARITY) ds

each_alike : (g : Given) → IsFaultless g g.declarations → (f : Operator) → IsAlikeAll g.hierarchy (with_united (declarations_of g.hierarchy g.declarations f))
each_alike g faultless f =
    let h : Hierarchy = g.hierarchy in
    let group : List Decl = declarations_of h g.declarations f in (
      alike_group h f group (filter_passes (λ d. same_operator f (operator_of h d)) g.declarations) (one_kind g f g.declarations faultless),
      All-map (λ d. length d.args ≤ MAX_ARITY) (with_attributes (united group)) group
          (All-filter (λ d. same_operator f (operator_of h d)) (λ d. length d.args ≤ MAX_ARITY) g.declarations (few_arguments g g.declarations faultless)),
    )

in_entries : (h : Hierarchy) (entries : List Entry) → All (IsAlikeAll h) (map declarations_in entries) → All (AreAlike h) entries
in_entries h [] a = All-nil (AreAlike h)
in_entries h (e ∷ entries) a =
    let here : IsAlikeAll h e.decls.items = All-head (IsAlikeAll h) e.decls.items (map declarations_in entries) a in
    All-cons (AreAlike h) e entries (record { alike = here.0; arity = here.1 }) (in_entries h entries (All-tail (IsAlikeAll h) e.decls.items (map declarations_in entries) a))

pub entries_alike : (g : Given) (entries : List Entry) → IsFaultless g g.declarations →
    map declarations_in entries ≡ map (λ f. with_united (declarations_of g.hierarchy g.declarations f)) (operators_of g.hierarchy g.declarations) → All (AreAlike g.hierarchy) entries
entries_alike g entries faultless e =
    let D : Operator → List Decl = λ f. with_united (declarations_of g.hierarchy g.declarations f) in
    in_entries g.hierarchy entries
    (All-same (IsAlikeAll g.hierarchy) (map declarations_in entries) (map D (operators_of g.hierarchy g.declarations)) e
    (All-map (IsAlikeAll g.hierarchy) D (operators_of g.hierarchy g.declarations) (λ i f lt. each_alike g faultless (get_or (operators_of g.hierarchy g.declarations) i f))))

-- ---- the declarations of one entry, as they are read

pub read_alike : (view s : SignatureOf) (entries : List Entry) (op : ℕ) (e : Entry) (read : List Decl) → view ≡ s → view.declarations ≡ map declarations_in entries → IsOperator s op →
    All (AreAlike view.hierarchy) entries → e ≡ get_or entries (op - 1) e → read ≡ e.decls.items → All (IsAlike s.hierarchy read) read × All (λ d. length d.args ≤ MAX_ARITY) read
read_alike view s entries op e read view_is entries_are within a e_is read_is =
    let n : length s.declarations ≡ length entries = ap (λ (v : SignatureOf). length v.declarations) (sym view_is) ∙ ap length entries_are ∙ length-map entries declarations_in in
    let lt : op - 1 < length entries = let from = within.0 in let to = within.1 in omega arith in
    let it : AreAlike view.hierarchy e = subst (AreAlike view.hierarchy) (sym e_is) (All-get_or (AreAlike view.hierarchy) entries (op - 1) e lt a) in (
      subst (λ (v : SignatureOf). All (IsAlike v.hierarchy read) read) view_is (subst (λ xs. All (IsAlike view.hierarchy xs) xs) (sym read_is) it.alike),
      subst (λ xs. All (λ d. length d.args ≤ MAX_ARITY) xs) (sym read_is) it.arity,
    )
