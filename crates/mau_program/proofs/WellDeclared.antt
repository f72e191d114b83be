-- Signatures that were built and accepted: their declarations are there, over their sorts, and alike.
use Rattle.std.proofs.Common.{◌≡◌, ◌≢◌, ◌<◌, ℕ, ◌-◌, List, [], ◌∷◌, ◌++◌, Bool, true, false, map, length, get_or, Option, Some, None, refl, sym, ◌∙◌, ap, subst, arith}
use Rattle.std.specs.Prelude.{All, filter}
use Rattle.std.proofs.lemmas.Bool.{or_parts}
use Rattle.std.proofs.lemmas.List.{get_or-map, length-map}
use Rattle.std.proofs.lemmas.List.Elements.{All-nil, All-map, All-head, All-cons, All-filter, filter_passes}
use Rattle.mau_poset.specs.Order.{Hierarchy, IsPoset, kind_of}
use Rattle.mau_signature.specs.declared.decl.Decl.{Decl}
use Rattle.mau_signature.specs.Attributes.{united, with_attributes, with_united}
use Rattle.mau_signature.specs.Faults.{Given, given, HasSorts, is_at_fault, has_wrong_arity, mismatches_kind, has_other_kind, IsFaultless, no_declaration, one_more}
use Rattle.mau_signature.specs.Kinds.{HaveOneKind}
use Rattle.mau_signature.specs.Made.{IsSignature}
use Rattle.mau_signature.specs.Names.{Operator, operator_of, same_operator, operators_of, declarations_of}
use Rattle.mau_signature.specs.Signature.{SignatureOf, signature_of, IsOperator, IsAlike, declarations_at}
use Rattle.mau_signature.proofs.Same.{same_operator-is}
use Rattle.mau_signature.proofs.KindLemmas.{HaveOneKind-end}
use Rattle.mau_signature.proofs.Grouped.{passes, fails}
use Rattle.mau_signature.proofs.Whole.{some_kept, all_declared, zero_there, others_there}
use Rattle.mau_sigcheck.specs.Accepted.{IsAccepted}
use Rattle.mau_sigcheck.specs.Built.{IsWellDeclared, IsBuiltAndAccepted}

-- ---- the results of one operator are in one kind

right_kind : (g : Given) (earlier : List Decl) (d : Decl) → is_at_fault g earlier d ≡ false → has_other_kind g.hierarchy earlier (kind_of g.hierarchy d.result) ≡ false
right_kind g earlier d e = (or_parts (mismatches_kind g earlier d) _ ((or_parts (has_wrong_arity d) _ e).1)).0

one_kind_more : (g : Given) (f : Operator) (ds : List Decl) (d : Decl) → HaveOneKind g.hierarchy (declarations_of g.hierarchy ds f)
    → is_at_fault g (declarations_of g.hierarchy ds (operator_of g.hierarchy d)) d ≡ false → HaveOneKind g.hierarchy (declarations_of g.hierarchy (ds ++ d ∷ []) f)
one_kind_more g f ds d one e = by (same_operator f (operator_of g.hierarchy d)) refl
  where
    by : (b : Bool) → same_operator f (operator_of g.hierarchy d) ≡ b → HaveOneKind g.hierarchy (declarations_of g.hierarchy (ds ++ d ∷ []) f)
    by false k = subst (HaveOneKind g.hierarchy) (sym (fails (λ x. same_operator f (operator_of g.hierarchy x)) ds d k)) one
    by true k =
        let is : operator_of g.hierarchy d ≡ f = sym (same_operator-is f (operator_of g.hierarchy d) k) in
        let other : has_other_kind g.hierarchy (declarations_of g.hierarchy ds f) (kind_of g.hierarchy d.result) ≡ false =
        subst (λ x. has_other_kind g.hierarchy (declarations_of g.hierarchy ds x) (kind_of g.hierarchy d.result) ≡ false) is (right_kind g (declarations_of g.hierarchy ds (operator_of g.hierarchy d)) d e) in
        subst (HaveOneKind g.hierarchy) (sym (passes (λ x. same_operator f (operator_of g.hierarchy x)) ds d k)) (HaveOneKind-end g.hierarchy (declarations_of g.hierarchy ds f) d one other)

one_kind : (g : Given) (f : Operator) (ds : List Decl) → IsFaultless g ds → HaveOneKind g.hierarchy (declarations_of g.hierarchy ds f)
one_kind g f _ no_declaration = tt
one_kind g f _ (one_more {ds} d before e) = one_kind_more g f ds d (one_kind g f ds before) e

-- ---- the declarations of one operator are alike

alike_all : (h : Hierarchy) (f : Operator) (group : List Decl) → All (λ d. same_operator f (operator_of h d) ≡ true) group → HaveOneKind h group → All (IsAlike h (with_united group)) (with_united group)
alike_all h f [] a one = All-nil (IsAlike h [])
alike_all h f (d ∷ rest) a one =
    All-map (IsAlike h (with_united (d ∷ rest))) (with_attributes (united (d ∷ rest))) (d ∷ rest)
    (λ i x lt.
    let y : Decl = get_or (d ∷ rest) i x in
    let same : operator_of h y ≡ operator_of h d = sym (same_operator-is f (operator_of h y) (a i x lt)) ∙ same_operator-is f (operator_of h d) (All-head (λ e. same_operator f (operator_of h e) ≡ true) d rest a) in
    record {
      form = ap (λ (o : Operator). o.form) same;
      arguments = ap (λ (o : Operator). o.arguments) same;
      result = All-cons (λ (e : Decl). kind_of h e.result ≡ kind_of h d.result) d rest refl one i x lt;
      attributes = refl;
    })

-- ---- signatures

module _ (h : Hierarchy) (ds : List Decl) (numerals : Option (ℕ × ℕ)) (sorts : All (HasSorts h) ds) (faultless : IsFaultless (given h ds numerals) ds) where
  abbrev group : Operator → List Decl
  group f = declarations_of h ds f

  -- what holds of the declarations of an operator that some declare
  abbrev IsRight : List Decl → Type 0
  IsRight xs = (xs ≢ []) × All (HasSorts h) xs × All (IsAlike h xs) xs

  united_some : (xs : List Decl) → xs ≢ [] → with_united xs ≢ []
  united_some [] n = absurd (n refl)
  united_some (x ∷ xs) n = λ e. cc

  group_right : (f : Operator) → group f ≢ [] → IsRight (with_united (group f))
  group_right f some = (
    united_some (group f) some,
    All-map (HasSorts h) (with_attributes (united (group f))) (group f)
        (λ i x lt. let has = All-filter (λ d. same_operator f (operator_of h d)) (HasSorts h) ds sorts i x lt in record { arguments = has.arguments; result = has.result }),
    alike_all h f (group f) (filter_passes (λ d. same_operator f (operator_of h d)) ds) (one_kind (given h ds numerals) f ds faultless),
  )

  none : Operator
  none = record { form = []; arguments = []; constant = None }

  at_number : (n : ℕ) → IsOperator (signature_of h ds numerals) n → IsRight (declarations_at (signature_of h ds numerals) n)
  at_number n o =
      let fs = operators_of h ds in
      let lt : n - 1 < length fs = let from = o.0 in let to = o.1 in omega (arith, length-map fs (λ f. with_united (group f))) in
      let f = get_or fs (n - 1) none in
      subst IsRight (sym (get_or-map (λ f. with_united (group f)) fs (n - 1) none [] lt))
      (group_right f (some_kept (λ d. same_operator f (operator_of h d)) ds (all_declared h ds (n - 1) none lt)))

pub built_and_accepted : (s : SignatureOf) → IsSignature s → IsPoset s.hierarchy → IsAccepted s → IsBuiltAndAccepted s
built_and_accepted s made poset accepted = record {
  poset = poset;
  accepted = accepted;
  declared = λ n o.
      let r = at_number s.hierarchy made.source s.numerals made.sorts made.faultless n (subst (λ (t : SignatureOf). IsOperator t n) made.made o) in
      let right = subst (λ (t : SignatureOf). IsRight s.hierarchy made.source s.numerals made.sorts made.faultless (declarations_at t n)) (sym made.made) r in
      record { some = right.0; sorts = right.1; alike = right.2 };
  numerals = λ p e. let others = others_there s.hierarchy made.source s.numerals made.numerals p e in (zero_there s.hierarchy made.source s.numerals made.numerals p e, others.0, others.1);
}
