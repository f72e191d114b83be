-- What built-ins give for arguments of a store.
use Rattle.std.proofs.Common.{◌≡◌, ℕ, zero, suc, All, ◌<◌, ◌≤◌, List, [], ◌∷◌, Bool, true, false, nat_eq, drop, length, get_or, Option, Some, None, if◌then◌else◌, refl, sym, ap, ap₂, ◌∙◌, subst, arith, eqb-true}
use Rattle.std.proofs.Math.ListN.{get_or-map}
use Rattle.std.proofs.lemmas.Bool.{eqb-false}
use Rattle.std.proofs.lemmas.List.{length-map}
use Rattle.std.proofs.lemmas.List.Elements.{All-head, All-tail}
use Rattle.mau_terms.specs.Tree.{Tree, variable, numeral, apply, no_trees, node, trees_of}
use Rattle.mau_terms.specs.declared.ids.TermId.{TermId}
use Rattle.mau_terms.specs.declared.theory.Theory.{Theory}
use Rattle.mau_terms.proofs.Pieces.{list_of-trees_of}
use Rattle.mau_formula.specs.Operator.{Operator, operator_named}
use Rattle.mau_formula.specs.declared.formula.Gives.{Gives}
use Rattle.mau_store.specs.Node.{Node, AreNodes, AreOf}
use Rattle.mau_store.specs.Trees.{tree_at, trees_at}
use Rattle.mau_store.specs.View.{numbers}
use Rattle.mau_store.proofs.Numbers.{one_number}
use Rattle.mau_evaluation.specs.Program.{Answer, no_value, value, BuiltIn, on_numerals, equality}
use Rattle.mau_evaluation.specs.Listing.{same_tree}
use Rattle.mau_evaluation.specs.Evaluation.{native_on, native_by, over_rest, before_rest}
use Rattle.mau_evaluation.proofs.Still.{same_tree_itself}
use Rattle.mau_signature.specs.Signature.{SignatureOf, theory_at}
use Rattle.mau_signature.specs.OverSignature.{IsTreeOver, AreTreesOver}
use Rattle.mau_api.specs.BuiltIns.{same_gives, built_in_at}
use Rattle.mau_reduce.specs.declared.built_in.BuiltIn.TheVariants.{Native}
use Rattle.mau_reduce.specs.declared.built_in.Truths.{Truths}
use Rattle.mau_reduce.specs.BuiltOperators.{native_kept, meaning_of, number_answer, built_gives}
use Rattle.mau_reduce.proofs.Tops.{same_tree_not}

-- ---- constants and equal terms

pub constant_same : (nodes : List Node) (f : ℕ) (ids : List TermId) (r : Bool) → r ≡ nat_eq (length ids) 0 → r ≡ same_tree (node f (trees_at nodes (numbers ids))) (apply f no_trees)
constant_same nodes f [] r e = e ∙ sym (same_tree_itself (apply f no_trees))
constant_same nodes f (i ∷ ids) r e = by r e ∙ sym (same_tree_not (node f (trees_at nodes (numbers (i ∷ ids)))) (apply f no_trees) (λ h. cc))
  where
    by : (r : Bool) → r ≡ nat_eq (length (i ∷ ids)) 0 → r ≡ false
    by true e = let h : length (i ∷ ids) ≡ 0 = eqb-true (length (i ∷ ids)) 0 (sym e) in absurd (omega (arith, h))
    by false e = refl

pub equal_two : (nodes : List Node) → AreNodes nodes → (ids : List TermId) (d : TermId) (a b : Tree) (h : Theory) (f : ℕ) (r : Bool) → length ids ≡ 2 → AreOf nodes (numbers ids) → r ≡ nat_eq (get_or ids 0 d).0 (get_or ids 1 d).0 →
    native_on (equality a b) h f (trees_at nodes (numbers ids)) ≡ value (if r then a else b)
equal_two nodes are [] d a b h f r two there e = absurd (omega (arith, two))
equal_two nodes are (x ∷ []) d a b h f r two there e = absurd (omega (arith, two))
equal_two nodes are (x ∷ y ∷ z ∷ ids) d a b h f r two there e = absurd (omega (arith, two))
equal_two nodes are (x ∷ y ∷ []) d a b h f r two there e = ap (λ w. value (if w then a else b)) (by r e)
  where
    by : (r : Bool) → r ≡ nat_eq x.0 y.0 → same_tree (tree_at nodes x.0) (tree_at nodes y.0) ≡ r
    by true k = ap (λ j. same_tree (tree_at nodes j) (tree_at nodes y.0)) (eqb-true x.0 y.0 (sym k)) ∙ same_tree_itself (tree_at nodes y.0)
    by false k =
        same_tree_not (tree_at nodes x.0) (tree_at nodes y.0)
        (λ q. eqb-false x.0 y.0 (sym k) (one_number nodes are x.0 y.0 (All-head (λ j. j < length nodes) x.0 (y.0 ∷ []) there) (All-head (λ j. j < length nodes) y.0 [] (All-tail (λ j. j < length nodes) x.0 (y.0 ∷ []) there)) q))

-- ---- native operators

-- of a native operator only a function of numerals is kept
pub data IsOnNumerals : Option BuiltIn → Type 0 where
  no_function : IsOnNumerals None
  function : (op : ℕ → ℕ → Answer) → IsOnNumerals (Some (on_numerals op))

pub kept_is_on_numerals : (hooks : List Operator) (name : Option (List ℕ)) (wanted : Gives) (t : Truths) → IsOnNumerals (meaning_of hooks name (Native wanted t))
kept_is_on_numerals hooks None wanted t = no_function
kept_is_on_numerals hooks (Some name) wanted t = by (operator_named hooks name)
  where
    at : (op : ℕ → ℕ → Answer) (b : Bool) → IsOnNumerals (if b then Some (on_numerals op) else None)
    at op true = function op
    at op false = no_function

    by : (o : Option Operator) → IsOnNumerals (native_kept wanted t o)
    by None = no_function
    by (Some o) = at _ (same_gives wanted o.gives)

pub over_no_value : (h : Theory) (f : ℕ) (ts : List Tree) → over_rest h f ts no_value ≡ no_value
over_no_value h f [] = refl
over_no_value h f (t ∷ ts) = by h.comm
  where
    by : (b : Bool) → (if b then no_value else no_value) ≡ no_value
    by true = refl
    by false = refl

pub on_two : (o : Option BuiltIn) → IsOnNumerals o → (h : Theory) (f m n : ℕ) (ts : List Tree) → native_by o h f (numeral m ∷ numeral n ∷ ts) ≡ over_rest h f ts (number_answer o m n)
on_two o no_function h f m n ts = sym (over_no_value h f ts)
on_two o (function op) h f m n ts = refl

-- other arguments
pub on_others : (o : Option BuiltIn) → IsOnNumerals o → (h : Theory) (f : ℕ) (ts : List Tree) → ((m n : ℕ) (us : List Tree) → ts ≡ numeral m ∷ numeral n ∷ us → ⊥) → native_by o h f ts ≡ no_value
on_others o no_function h f ts other = refl
on_others o (function op) h f [] other = refl
on_others o (function op) h f (variable i r ∷ ts) other = refl
on_others o (function op) h f (apply g us ∷ ts) other = refl
on_others o (function op) h f (numeral m ∷ []) other = refl
on_others o (function op) h f (numeral m ∷ variable i r ∷ ts) other = refl
on_others o (function op) h f (numeral m ∷ apply g us ∷ ts) other = refl
on_others o (function op) h f (numeral m ∷ numeral n ∷ ts) other = absurd (other m n ts refl)

-- by the numbers of a store
pub first_two : (nodes : List Node) (ids : List TermId) (d : TermId) (m n : ℕ) → 2 ≤ length ids → tree_at nodes (get_or ids 0 d).0 ≡ numeral m → tree_at nodes (get_or ids 1 d).0 ≡ numeral n →
    trees_at nodes (numbers ids) ≡ numeral m ∷ numeral n ∷ trees_at nodes (numbers (drop 2 ids))
first_two nodes [] d m n h a b = absurd (omega (arith, h))
first_two nodes (x ∷ []) d m n h a b = absurd (omega (arith, h))
first_two nodes (x ∷ y ∷ ids) d m n h a b = ap₂ (λ p q. p ∷ q ∷ trees_at nodes (numbers ids)) a b

-- of three or more the first two count, under a commutative operator, and of two both
module _ (o : Option BuiltIn) (is : IsOnNumerals o) (h : Theory) (f m n : ℕ) (ts us : List Tree) (e : ts ≡ numeral m ∷ numeral n ∷ us) where
  opened : native_by o h f ts ≡ over_rest h f us (number_answer o m n)
  opened = ap (native_by o h f) e ∙ on_two o is h f m n us

  pub two_numbers : length ts ≡ 2 → native_by o h f ts ≡ number_answer o m n
  two_numbers two = opened ∙ by us (ap length e)
    where
      by : (ws : List Tree) → length ts ≡ length (numeral m ∷ numeral n ∷ ws) → over_rest h f ws (number_answer o m n) ≡ number_answer o m n
      by [] k = refl
      by (w ∷ ws) k = absurd (omega (arith, k, two))

  pub more_numbers : (length ts ≡ 2 → ⊥) → h.comm ≡ true → native_by o h f ts ≡ before_rest h f us (number_answer o m n)
  more_numbers more c = opened ∙ by us (ap length e)
    where
      by : (ws : List Tree) → length ts ≡ length (numeral m ∷ numeral n ∷ ws) → over_rest h f ws (number_answer o m n) ≡ before_rest h f ws (number_answer o m n)
      by [] k = absurd (more (omega (arith, k)))
      by (w ∷ ws) k = ap (λ b. if b then before_rest h f (w ∷ ws) (number_answer o m n) else no_value) c

  pub no_numbers : (length ts ≡ 2 → ⊥) → h.comm ≡ false → native_by o h f ts ≡ no_value
  no_numbers more c = opened ∙ by us (ap length e)
    where
      by : (ws : List Tree) → length ts ≡ length (numeral m ∷ numeral n ∷ ws) → over_rest h f ws (number_answer o m n) ≡ no_value
      by [] k = absurd (more (omega (arith, k)))
      by (w ∷ ws) k = ap (λ b. if b then before_rest h f (w ∷ ws) (number_answer o m n) else no_value) c

-- ---- at the top of a term

pub built_at : (s : SignatureOf) (hooks : List Operator) (t : Tree) (f : ℕ) (ts : List Tree) (m : Option BuiltIn) → t ≡ node f ts → built_in_at s hooks f ≡ m → built_gives s hooks t ≡ native_by m (theory_at s f) f ts
built_at s hooks t f ts m e b = ap (built_gives s hooks) e ∙ ap₂ (λ o us. native_by o (theory_at s f) f us) b (list_of-trees_of ts)

pub not_zero : (s : SignatureOf) (nodes : List Node) (ids : List TermId) → AreTreesOver s (trees_of (trees_at nodes (numbers ids))) → (k : ℕ) (d : TermId) → k < length ids → tree_at nodes (get_or ids k d).0 ≡ apply 0 no_trees → ⊥
not_zero s nodes [] over k d h e = omega (arith, h)
not_zero s nodes (i ∷ ids) over zero d h e = let z : IsTreeOver s (apply 0 no_trees) = subst (IsTreeOver s) e over.0 in omega (arith, z.0.0)
not_zero s nodes (i ∷ ids) over (suc k) d h e = not_zero s nodes ids over.1 k d (omega (arith, h)) e

-- what holds of the numbers of all arguments holds of each
pub each_number : (P : ℕ → Type 0) (ids : List TermId) (i : ℕ) (d : TermId) → i < length ids → All P (numbers ids) → P (get_or ids i d).0
each_number P ids i d h all = subst P (get_or-map (λ (x : TermId). x.0) ids i d) (all i d.0 (subst (λ n. i < n) (sym (length-map ids (λ (x : TermId). x.0))) h))
