-- The values of listed solutions of a settled term are settled, or numerals, or lists of settled elements.
use Rattle.std.proofs.Common.{◌≡◌, ◌⊎◌, inl, inr, ℕ, ◌≤◌, List, [], ◌∷◌, ◌++◌, map, length, true, All, Option, Some, None, refl, sym, ap, ◌∙◌, subst, arith, length-append}
use Rattle.std.proofs.lemmas.List.Elements.{All-nil, All-cons}
use Rattle.mau_terms.specs.Tree.{Tree, variable, numeral, apply, Trees, no_trees, tree}
use Rattle.mau_terms.specs.Norm.{norm, arrange}
use Rattle.mau_terms.specs.Bare.{TermSignature, AreBareIn, IsBare, IsLawful}
use Rattle.mau_terms.specs.Reading.{reading}
use Rattle.mau_terms.specs.Laws.{AreNorms}
use Rattle.mau_terms.specs.Subst.{Variable, variables, with_values, value_at, instance, instances, Occurs, OccursIn}
use Rattle.mau_terms.specs.Solution.{FitsUnder, FitsAt, ArePieces, assoc_top, list_under}
use Rattle.mau_terms.specs.Finite.{IsIn}
use Rattle.mau_terms.specs.declared.theory.Theory.{Theory}
use Rattle.mau_terms.proofs.Chains.{first_bare}
use Rattle.mau_terms.proofs.Finite.{AllIn, AllIn-left, AllIn-right, AllIn-itself, AllIn-arrange, length-arrange, over_its_list}
use Rattle.mau_terms.proofs.Law.{equal_norm}
use Rattle.mau_terms.proofs.Normal.{norm_normal, whole_pieces}
use Rattle.mau_terms.proofs.Pieces.{Each, Each-append, IsPiece}
use Rattle.mau_terms.proofs.Solutions.{list_of_made, each_piece}
use Rattle.mau_terms.proofs.Variables.{EachVar, variables_occur, values_of_variables}
use Rattle.mau_signature.specs.Signature.{SignatureOf, theory_at, terms_over}
use Rattle.mau_store.specs.Node.{Node}
use Rattle.mau_sorts.specs.Table.{Table}
use Rattle.mau_listing.specs.Asked.{IsTreeSettled}
use Rattle.mau_listing.specs.Values.{IsPartUnder, list}
use Rattle.mau_listing.proofs.Alone.{top_assoc}
use Rattle.mau_listing.proofs.Readied.{IsFit, CanBeSettled, fit_value}
use Rattle.mau_listing.proofs.Valued.{value_may_be}
use Rattle.mau_evaluation.specs.Listing.{Solution, solutions_within}
use Rattle.mau_evaluation.proofs.Listed.{from_map}
use Rattle.mau_evaluation.proofs.Solved.{solutions_within_are_listed}
use Rattle.mau_evaluation.proofs.BareTerms.{norm-reading-is}
use Rattle.mau_api.specs.Answers.{AreSettled}
use Rattle.mau_evaluation.proofs.Heads.{each_in, norm_in}

-- ---- the matched part

all_in : (xs ys : List Tree) → AllIn xs ys → All (λ u. IsIn u ys) xs
all_in [] ys h = All-nil (λ u. IsIn u ys)
all_in (x ∷ xs) ys h = All-cons (λ u. IsIn u ys) x xs h.0 (all_in xs ys h.1)

-- it is f over a part of the list of the whole
part_under : (s : TermSignature) → IsLawful s → (f : ℕ) → (s.theory f).assoc ≡ true → (p t : Tree) (vs left right : List Tree) → FitsUnder s f p t vs left right →
    IsPartUnder s.theory f (norm s.theory t) (norm s.theory (with_values p vs))
part_under s lawful f assoc p t vs left right h =
    let th = s.theory in
    let made = norm th (with_values p vs) in
    let l = list_under (th f) f (norm th t) in
    let m = list_under (th f) f made in
    let all = left ++ (m ++ right) in
    let Piece = IsPiece (th f).assoc (th f).id f in
    let normal = norm_normal th lawful.theories (with_values p vs) in
    let e : l ≡ arrange (th f).comm all =
    ap (list_under (th f) f) h.whole
    ∙ list_of_made th f all assoc (Each-append Piece left (m ++ right) (each_piece th f left h.left_list.pieces) (Each-append Piece m right (whole_pieces th f made normal) (each_piece th f right h.right_list.pieces))) in
    let among : AllIn m l = subst (AllIn m) (sym e) (AllIn-arrange (th f).comm m all (AllIn-right m left (m ++ right) (AllIn-left m m right (AllIn-itself m)))) in
    let few : length m ≤ length l = omega (arith, ap length e, length-arrange (th f).comm all, length-append left (m ++ right), length-append m right) in
    list m assoc (all_in m l among) few (sym (over_its_list th f made assoc normal))

-- ---- values

-- a value is that of a variable of the pattern
value_of_one : (p : Tree) (vs : List Tree) → length vs ≡ length (variables p) → (v : Tree) → IsIn v vs → (y : Variable) × Occurs y p × (v ≡ value_at (variables p) vs y)
value_of_one p vs one_each v i =
    let m = from_map (value_at (variables p) vs) (variables p) v (subst (IsIn v) (sym (values_of_variables p vs one_each)) i) in
    (m.0, each_in (λ w. Occurs w p) (variables p) m.0 (variables_occur p) m.1, m.2)

module _ (s : TermSignature) (g : Variable → Tree) (y : Variable) where
  mutual
    -- the values of a bare instance are bare
    bare_value : (p : Tree) → Occurs y p → IsBare s (instance g p) → IsBare s (g y)
    bare_value (variable i r) o b = subst (λ w. IsBare s (g w)) (sym o) b
    bare_value (numeral n) o b = absurd o
    bare_value (apply f ps) o b = bare_values ps (s.arguments f) o b.1.2

    bare_values : (ps : Trees) (ks : List ℕ) → OccursIn y ps → AreBareIn s (instances g ps) ks → IsBare s (g y)
    bare_values no_trees ks o b = absurd o
    bare_values (tree p ps) [] o b = absurd b
    bare_values (tree p ps) (k ∷ ks) (inl o) b = bare_value p o (k, b.0)
    bare_values (tree p ps) (k ∷ ks) (inr o) b = bare_values ps ks o b.1

in_readings : (F : Tree → Tree) (vs : List Tree) (v : Tree) → IsIn v vs → IsIn (F v) (map F vs)
in_readings F [] v i = absurd i
in_readings F (u ∷ vs) v (inl e) = inl (ap F e)
in_readings F (u ∷ vs) v (inr i) = inr (in_readings F vs v i)

-- what is known of a value
pub record IsSettledValue (s : SignatureOf) (nodes : List Node) (table : Table) (v : Tree) : Type 0 where
  pub normal : norm (theory_at s) v ≡ v
  pub bare : IsBare (terms_over s) (reading (theory_at s) v)
  pub fits : CanBeSettled (theory_at s) nodes table v

module _ (s : SignatureOf) (lawful : IsLawful (terms_over s)) (nodes : List Node) (table : Table) (t : Tree) (normal : norm (theory_at s) t ≡ t) (bare : IsBare (terms_over s) (reading (theory_at s) t)) (settled : AreSettled s nodes table t) (p : Tree) where
  abbrev th : ℕ → Theory
  th = theory_at s

  abbrev Fit : Tree → Type 0
  Fit = IsFit (theory_at s) nodes table t settled.identities

  subject_fits : Fit t
  subject_fits = record { fits = inl refl; below = settled.below }

  -- so does a part of it
  part_fits : (f : ℕ) (z : Tree) → IsPartUnder (theory_at s) f t z → Fit z
  part_fits f z part = fit_value th nodes table t settled.identities (apply f (tree (variable 0 0) no_trees)) t z subject_fits (z, part, inl refl)

  -- what the instance stands for
  made_fits : (vs left right : List Tree) → (o : Option ℕ) → assoc_top (theory_at s) (norm (theory_at s) p) ≡ o → FitsAt (terms_over s) o p (reading (theory_at s) t) vs left right →
      Fit (norm (theory_at s) (with_values p vs)) × IsBare (terms_over s) (with_values p vs) × (length vs ≡ length (variables p))
  made_fits vs left right None e h = (
    subst Fit (sym (equal_norm (terms_over s) lawful h.0.equal ∙ norm-reading-is th lawful.theories t normal)) subject_fits,
    first_bare h.0.equal,
    h.0.one_each,
  )
  made_fits vs left right (Some f) e h = (
    part_fits f (norm th (with_values p vs))
        (subst (λ u. IsPartUnder th f u (norm th (with_values p vs))) (norm-reading-is th lawful.theories t normal) (part_under (terms_over s) lawful f (top_assoc th (norm th p) f e) p (reading th t) vs left right h)),
    h.bare,
    h.one_each,
  )

  pub values_settled : (x : Solution) → IsIn x (solutions_within (terms_over s) p t) → (v : Tree) → IsIn v x.values → IsSettledValue s nodes table v
  values_settled x i v j =
      let listed = (solutions_within_are_listed (terms_over s) lawful p (reading th t) bare).0 x
      (subst (λ u. IsIn x (solutions_within (terms_over s) p u)) (sym (norm-reading-is th lawful.theories t normal)) i) in
      let us = map (reading th) x.values in
      let made = made_fits us x.left x.right (assoc_top th (norm th p)) refl listed.1 in
      let g = value_at (variables p) us in
      let y = value_of_one p us made.2 (reading th v) (in_readings (reading th) x.values v j) in
      let n = norm_in th x.values v listed.0 j in
      let value : norm th (g y.0) ≡ v = ap (norm th) (sym y.2) ∙ norm-reading-is th lawful.theories v n in
      let fit : Fit v = subst Fit value (fit_value th nodes table t settled.identities p (norm th (with_values p us)) (norm th (g y.0)) made.0 (value_may_be th lawful.theories g y.0 p y.1)) in
      record {
        normal = n;
        bare = subst (IsBare (terms_over s)) (sym y.2) (bare_value (terms_over s) g y.0 p y.1 made.1);
        fits = by fit.fits;
      }
    where
      by : (v ≡ t) ⊎ CanBeSettled (theory_at s) nodes table v → CanBeSettled (theory_at s) nodes table v
      by (inl e) = inl (subst (IsTreeSettled nodes table) (sym e) settled.itself)
      by (inr c) = c
