-- What is built in, by name; and that over readings it gives what it gives of a normal form.
use Rattle.std.proofs.Common.{◌≡◌, ℕ, suc, List, [], ◌∷◌, map, Bool, true, false, Option, Some, None, Contains, find, refl, sym, ap, ◌∙◌, subst, arith, if◌then◌else◌}
use Rattle.std.specs.Prelude.{bytes_eq, codes}
use Rattle.std.proofs.lemmas.Slice.Eq.{bytes_eq-Decides}
use Rattle.mau_terms.specs.Tree.{Tree, node, trees_of, list_of}
use Rattle.mau_terms.specs.Norm.{norm, arrange, all_pieces}
use Rattle.mau_terms.specs.Laws.{AreNorms}
use Rattle.mau_terms.specs.Reading.{reading}
use Rattle.mau_terms.specs.declared.theory.Theory.{Theory}
use Rattle.mau_terms.proofs.Normal.{IsNormal, AreNormal, normal_fixed, norm_normal, pieces_all}
use Rattle.mau_terms.proofs.Pieces.{list_of-trees_of}
use Rattle.mau_signature.specs.Signature.{SignatureOf, theory_at}
use Rattle.mau_formula.specs.Operator.{Operator, operator_named}
use Rattle.mau_formula.specs.Native.{natives, native_operator, name_of, gives_of}
use Rattle.mau_formula.specs.declared.native.Native.{Native}
use Rattle.mau_formula.specs.declared.native.Native.TheVariants.{Sum, Product, Difference, Quotient, Remainder, Power, GreatestCommonDivisor, Minimum, Maximum, Less, LessOrEqual, Greater, GreaterOrEqual}
use Rattle.mau_formula.specs.declared.formula.Gives.{Gives}
use Rattle.mau_formula.specs.declared.formula.Gives.TheVariants.{Nat as Numbers, Bool as Truths}
use Rattle.mau_evaluation.specs.Program.{BuiltIn, on_numerals, choice, equality}
use Rattle.mau_evaluation.specs.Evaluation.{native_on, native_by}
use Rattle.mau_evaluation.proofs.BareTerms.{norms-readings}
use Rattle.mau_api.specs.BuiltIns.{true_in, false_in, first_kind, result_kind, function_of, same_gives, as_wanted, built_in_named, name_at, built_in_by, IsBuiltIn, is_branch, is_same, is_differ, is_native, BuiltInsAreNamed, answer_by, AnswersOfReadings}

-- ---- kinds of answer

same_gives_is : (a b : Gives) → same_gives a b ≡ true → a ≡ b
same_gives_is Numbers Numbers e = refl
same_gives_is Truths Truths e = refl
same_gives_is Numbers Truths e = cc
same_gives_is Truths Numbers e = cc

same_gives_of : (a b : Gives) → a ≡ b → same_gives a b ≡ true
same_gives_of a b e = subst (λ c. same_gives a c ≡ true) e (itself a)
  where
    itself : (a : Gives) → same_gives a a ≡ true
    itself Numbers = refl
    itself Truths = refl

-- ---- names

found_native : (ns : List Native) (name : List ℕ) (w : Operator) → find (λ o. bytes_eq o.name name) (map native_operator ns) ≡ Some w → (n : Native) × Contains ns n × (native_operator n ≡ w) × (name_of n ≡ name)
found_native [] name w e = cc
found_native (n ∷ ns) name w e = by (found_native ns name w) (bytes_eq (name_of n) name) refl e
  where
    Found : List Native → Type 0
    Found ms = (n : Native) × Contains ms n × (native_operator n ≡ w) × (name_of n ≡ name)

    by : (find (λ o. bytes_eq o.name name) (map native_operator ns) ≡ Some w → (n : Native) × Contains ns n × (native_operator n ≡ w) × (name_of n ≡ name)) → (b : Bool) → bytes_eq (name_of n) name ≡ b →
        (if b then Some (native_operator n) else find (λ o. bytes_eq o.name name) (map native_operator ns)) ≡ Some w → (m : Native) × Contains (n ∷ ns) m × (native_operator m ≡ w) × (name_of m ≡ name)
    by rest true h k = (n, (0, omega arith, refl), cc, (bytes_eq-Decides (name_of n) name).0 h)
    by rest false h k = let r = rest k in (r.0, (suc r.1.0, omega (arith, r.1.1), r.1.2), r.2, r.3)

module _ (s : SignatureOf) (hooks : List Operator) (f : ℕ) where
  -- the name of a native operator is none of the others
  native_name : (n : Native) → built_in_named s hooks f (name_of n) ≡ as_wanted s f (Some (native_operator n)) (operator_named hooks (name_of n))
  native_name Sum = refl
  native_name Product = refl
  native_name Difference = refl
  native_name Quotient = refl
  native_name Remainder = refl
  native_name Power = refl
  native_name GreatestCommonDivisor = refl
  native_name Minimum = refl
  native_name Maximum = refl
  native_name Less = refl
  native_name LessOrEqual = refl
  native_name Greater = refl
  native_name GreaterOrEqual = refl

  from_relation : (b : BuiltIn) → IsBuiltIn s hooks f b → built_in_by s hooks f (name_at s f) ≡ Some b
  from_relation _ (is_branch e) = ap (built_in_by s hooks f) e
  from_relation _ (is_same e) = ap (built_in_by s hooks f) e
  from_relation _ (is_differ e) = ap (built_in_by s hooks f) e
  from_relation _ (is_native o n) =
      ap (built_in_by s hooks f) n.named
      ∙ (native_name n.native
      ∙ (ap (as_wanted s f (Some (native_operator n.native))) n.hook
      ∙ ap (λ c. if c then Some (function_of s f o) else None) (same_gives_of (gives_of n.native) o.gives n.gives)))

  wanted : (name : List ℕ) → name_at s f ≡ Some name → (b : BuiltIn) (w o : Option Operator) → operator_named (map native_operator natives) name ≡ w → operator_named hooks name ≡ o →
      as_wanted s f w o ≡ Some b → IsBuiltIn s hooks f b
  wanted name at b None o ew eo e = cc
  wanted name at b (Some w) None ew eo e = cc
  wanted name at b (Some w) (Some o) ew eo e = by (same_gives w.gives o.gives) refl e
    where
      by : (c : Bool) → same_gives w.gives o.gives ≡ c → (if c then Some (function_of s f o) else None) ≡ Some b → IsBuiltIn s hooks f b
      by false h k = cc
      by true h k =
          let n = found_native natives name w ew in
          let same : function_of s f o ≡ b = cc in
          subst (IsBuiltIn s hooks f) same (is_native o (record {
            native = n.0;
            listed = n.1;
            named = at ∙ ap Some (sym n.3);
            hook = ap (operator_named hooks) n.3 ∙ eo;
            gives = ap (λ (x : Operator). x.gives) n.2 ∙ same_gives_is w.gives o.gives h;
          }))

  named : (name : List ℕ) → name_at s f ≡ Some name → (b : BuiltIn) → built_in_named s hooks f name ≡ Some b → IsBuiltIn s hooks f b
  named name at b e = one (bytes_eq name (codes "branch")) refl e
    where
      is_name : (w : List ℕ) → bytes_eq name w ≡ true → name_at s f ≡ Some w
      is_name w h = at ∙ ap Some ((bytes_eq-Decides name w).0 h)

      three : (c : Bool) → bytes_eq name (codes "differ") ≡ c →
          (if c then Some (equality (false_in s (result_kind s f)) (true_in s (result_kind s f))) else as_wanted s f (operator_named (map native_operator natives) name) (operator_named hooks name)) ≡ Some b → IsBuiltIn s hooks f b
      three true h k = let same : equality (false_in s (result_kind s f)) (true_in s (result_kind s f)) ≡ b = cc in subst (IsBuiltIn s hooks f) same (is_differ (is_name (codes "differ") h))
      three false h k = wanted name at b (operator_named (map native_operator natives) name) (operator_named hooks name) refl refl k

      two : (c : Bool) → bytes_eq name (codes "same") ≡ c →
          (if c then Some (equality (true_in s (result_kind s f)) (false_in s (result_kind s f))) else if bytes_eq name (codes "differ") then Some (equality (false_in s (result_kind s f)) (true_in s (result_kind s f)))
          else as_wanted s f (operator_named (map native_operator natives) name) (operator_named hooks name)) ≡ Some b → IsBuiltIn s hooks f b
      two true h k = let same : equality (true_in s (result_kind s f)) (false_in s (result_kind s f)) ≡ b = cc in subst (IsBuiltIn s hooks f) same (is_same (is_name (codes "same") h))
      two false h k = three (bytes_eq name (codes "differ")) refl k

      one : (c : Bool) → bytes_eq name (codes "branch") ≡ c →
          (if c then Some (choice (true_in s (first_kind s f)) (false_in s (first_kind s f))) else if bytes_eq name (codes "same") then Some (equality (true_in s (result_kind s f)) (false_in s (result_kind s f)))
          else if bytes_eq name (codes "differ") then Some (equality (false_in s (result_kind s f)) (true_in s (result_kind s f)))
          else as_wanted s f (operator_named (map native_operator natives) name) (operator_named hooks name)) ≡ Some b → IsBuiltIn s hooks f b
      one true h k = let same : choice (true_in s (first_kind s f)) (false_in s (first_kind s f)) ≡ b = cc in subst (IsBuiltIn s hooks f) same (is_branch (is_name (codes "branch") h))
      one false h k = two (bytes_eq name (codes "same")) refl k

  to_relation : (o : Option (List ℕ)) → name_at s f ≡ o → (b : BuiltIn) → built_in_by s hooks f o ≡ Some b → IsBuiltIn s hooks f b
  to_relation None at b e = cc
  to_relation (Some name) at b e = named name at b e

pub built_ins_are_named : BuiltInsAreNamed
built_ins_are_named s hooks f b = (to_relation s hooks f (name_at s f) refl b, from_relation s hooks f b)

-- ---- over readings

norms_of : (th : ℕ → Theory) (ts : List Tree) → AreNormal th (trees_of ts) → AreNorms th ts
norms_of th [] n = tt
norms_of th (t ∷ ts) n = (normal_fixed th t n.0, norms_of th ts n.1)

pub answers_of_readings : AnswersOfReadings
answers_of_readings s lawful hooks f us normal = by (built_in_by s hooks f (name_at s f))
  where
    is : IsNormal (theory_at s) (node f us)
    is = subst (IsNormal (theory_at s)) normal (norm_normal (theory_at s) lawful.theories (node f us))

    back : map (norm (theory_at s)) (map (reading (theory_at s)) us) ≡ us
    back = norms-readings (theory_at s) lawful.theories us (norms_of (theory_at s) us is.0)

    listed : arrange (theory_at s f).comm (all_pieces (theory_at s f).assoc (theory_at s f).id f us) ≡ us
    listed = subst (λ ts. arrange (theory_at s f).comm (all_pieces (theory_at s f).assoc (theory_at s f).id f ts) ≡ ts) (list_of-trees_of us)
        (ap (arrange (theory_at s f).comm) (pieces_all (theory_at s) (theory_at s f).assoc (theory_at s f).id f (list_of (trees_of us)) is.1.whole) ∙ is.1.ordered)

    by : (o : Option BuiltIn) → answer_by o s f (map (reading (theory_at s)) us) ≡ native_by o (theory_at s f) f us
    by None = refl
    by (Some (on_numerals op)) = ap (native_on (on_numerals op) (theory_at s f) f) (ap (λ ts. arrange (theory_at s f).comm (all_pieces (theory_at s f).assoc (theory_at s f).id f ts)) back ∙ listed)
    by (Some (choice a b)) = ap (native_on (choice a b) (theory_at s f) f) back
    by (Some (equality a b)) = ap (native_on (equality a b) (theory_at s f) f) back
