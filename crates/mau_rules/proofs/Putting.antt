-- A term that is put back in its place: the whole turns on its normal form alone, and is no less deep.
use Rattle.std.proofs.Common.{◌≡◌, ◌⊎◌, inl, inr, ◌≤◌, ◌<◌, ◌-◌, ◌++◌, ◌∷◌, [], List, ℕ, zero, suc, Bool, true, false, Some, length, get_or, take, drop, map, slice_get, nat_lt, refl, sym, ap, ap₂, ◌∙◌, subst, arith, le_trans}
use Rattle.std.proofs.Math.ListN.{set}
use Rattle.std.proofs.lemmas.Bool.{lt-ltb, ltb-true}
use Rattle.std.proofs.lemmas.List.{map-append, map-set, length-map, set_split}
use Rattle.std.proofs.lemmas.Option.{slice_get_within}
use Rattle.mau_terms.specs.Tree.{Tree, variable, numeral, apply, node, list_of}
use Rattle.mau_terms.specs.Norm.{norm, build, holds_overflow}
use Rattle.mau_terms.specs.Depth.{depth}
use Rattle.mau_terms.specs.Bare.{IsBareIn, IsLawful}
use Rattle.mau_terms.specs.Reading.{reading}
use Rattle.mau_terms.specs.declared.ids.TermId.{TermId}
use Rattle.mau_terms.specs.Lawful.{AreLawful}
use Rattle.mau_terms.specs.declared.theory.Theory.{Theory}
use Rattle.mau_terms.proofs.Induction.{norm-node}
use Rattle.mau_terms.proofs.Normal.{IsNormal, norm_normal}
use Rattle.mau_terms.proofs.Pieces.{Each, list_of-trees_of}
use Rattle.mau_signature.specs.Signature.{SignatureOf, theory_at, terms_over}
use Rattle.mau_store.specs.Node.{Node, AreNodes, operator_node}
use Rattle.mau_store.specs.Trees.{tree_at, trees_at}
use Rattle.mau_store.specs.View.{numbers}
use Rattle.mau_store.proofs.Standing.{tree_of_node}
use Rattle.mau_canon.proofs.Depths.{arguments_depth}
use Rattle.mau_evaluation.specs.Run.{too_deep, ended}
use Rattle.mau_evaluation.specs.Evaluation.{depth_limit, admitted, admit}
use Rattle.mau_api.specs.Terms.{IsTerm}
use Rattle.mau_api.specs.declared.results.EvalEnd.{EvalEnd}
use Rattle.mau_api.specs.declared.results.EvalEnd.TheVariants.{TooDeep, NoMemory}
use Rattle.mau_reduce.specs.Ends.{IsEnd}
use Rattle.mau_reduce.specs.Kinds.{IsTermIn, AreUnder}
use Rattle.mau_reduce.proofs.KindsKept.{under_term, under_put, built_in_kind}
use Rattle.mau_rules.specs.declared.walk.Open.{Open}
use Rattle.mau_rules.specs.Walk.{Opened, around_last, around_all, IsStep, MayReplace}
use Rattle.mau_rules.proofs.Walking.{around_inside}

-- ---- one argument of an operator

module _ (th : ℕ → Theory) (f : ℕ) (ls rs : List Tree) where
  put_norm : (a b : Tree) → norm th a ≡ norm th b → norm th (node f (ls ++ a ∷ rs)) ≡ norm th (node f (ls ++ b ∷ rs))
  put_norm a b e =
      norm-node th f (ls ++ a ∷ rs)
      ∙ (ap (build (th f) f) (map-append (norm th) ls (a ∷ rs) ∙ (ap (λ v. map (norm th) ls ++ v ∷ map (norm th) rs) e ∙ sym (map-append (norm th) ls (b ∷ rs)))) ∙ sym (norm-node th f (ls ++ b ∷ rs)))

  each_norm : AreLawful th → (ts : List Tree) → Each (IsNormal th) (map (norm th) ts)
  each_norm lawful [] = tt
  each_norm lawful (t ∷ ts) = (norm_normal th lawful t, each_norm lawful ts)

  one_of : (P : Tree → Type 0) (xs : List Tree) (a : Tree) (ys : List Tree) → Each P (xs ++ a ∷ ys) → P a
  one_of P [] a ys h = h.0
  one_of P (x ∷ xs) a ys h = one_of P xs a ys h.1

  put_deep : AreLawful th → (a : Tree) → depth (norm th a) ≤ depth (norm th (node f (ls ++ a ∷ rs)))
  put_deep lawful a =
      let ts = map (norm th) (ls ++ a ∷ rs) in
      let all : Each (λ t. depth t ≤ depth (build (th f) f ts)) ts = arguments_depth th f ts (each_norm lawful (ls ++ a ∷ rs)) in
      subst (λ u. depth (norm th a) ≤ depth u) (sym (norm-node th f (ls ++ a ∷ rs)))
      (one_of (λ t. depth t ≤ depth (build (th f) f ts)) (map (norm th) ls) (norm th a) (map (norm th) rs) (subst (Each (λ t. depth t ≤ depth (build (th f) f ts))) (map-append (norm th) ls (a ∷ rs)) all))

-- ---- around the last of some open terms

module _ (th : ℕ → Theory) where
  last_norm : (t : Tree) (n : ℕ) (a b : Tree) → norm th a ≡ norm th b → norm th (around_last (λ v. v) t n a) ≡ norm th (around_last (λ v. v) t n b)
  last_norm (variable i s) n a b e = e
  last_norm (numeral m) n a b e = e
  last_norm (apply f ts) n a b e = put_norm th f (take (n - 1) (list_of ts)) (drop n (list_of ts)) a b e

  last_deep : AreLawful th → (t : Tree) (n : ℕ) (a : Tree) → depth (norm th a) ≤ depth (norm th (around_last (λ v. v) t n a))
  last_deep lawful (variable i s) n a = omega arith
  last_deep lawful (numeral m) n a = omega arith
  last_deep lawful (apply f ts) n a = put_deep th f (take (n - 1) (list_of ts)) (drop n (list_of ts)) lawful a

  all_inside : (os : List Opened) (around : Tree → Tree) (v : Tree) → around_all around os v ≡ around (around_all (λ w. w) os v)
  all_inside [] around v = refl
  all_inside (o ∷ os) around v =
      all_inside os (around_last around o.0 o.1) v
      ∙ (around_inside around o.0 o.1 (around_all (λ w. w) os v) ∙ ap around (sym (all_inside os (around_last (λ w. w) o.0 o.1) v)))

  pub one_around : (o : Opened) (os : List Opened) (v : Tree) → around_all (λ w. w) (o ∷ os) v ≡ around_last (λ w. w) o.0 o.1 (around_all (λ w. w) os v)
  one_around o os v = all_inside os (around_last (λ w. w) o.0 o.1) v

  pub all_norm : (os : List Opened) (a b : Tree) → norm th a ≡ norm th b → norm th (around_all (λ v. v) os a) ≡ norm th (around_all (λ v. v) os b)
  all_norm [] a b e = e
  all_norm (o ∷ os) a b e =
      ap (norm th) (one_around o os a)
      ∙ (last_norm o.0 o.1 (around_all (λ w. w) os a) (around_all (λ w. w) os b) (all_norm os a b e) ∙ sym (ap (norm th) (one_around o os b)))

  pub all_deep : AreLawful th → (os : List Opened) (a : Tree) → depth (norm th a) ≤ depth (norm th (around_all (λ v. v) os a))
  all_deep lawful [] a = omega arith
  all_deep lawful (o ∷ os) a =
      subst (λ u. depth (norm th a) ≤ depth (norm th u)) (sym (one_around o os a)) (le_trans (all_deep lawful os a) (last_deep lawful o.0 o.1 (around_all (λ w. w) os a)))

  -- ---- ends

  deep_so : (d o : Bool) (u : Tree) (b : ℕ) → admitted d o u b ≡ ended too_deep → d ≡ true
  deep_so true o u b e = refl
  deep_so false true u b e = cc
  deep_so false false u b e = cc

  -- where a part is too deep the whole is
  pub deep_around : AreLawful th → (os : List Opened) (a : Tree) (b : ℕ) → admit th a b ≡ ended too_deep → admit th (around_all (λ v. v) os a) b ≡ ended too_deep
  deep_around lawful os a b e =
      let deep : depth_limit < depth (norm th a) = ltb-true depth_limit (depth (norm th a)) (deep_so (nat_lt depth_limit (depth (norm th a))) (holds_overflow th (norm th a)) (norm th a) b e) in
      let whole = norm th (around_all (λ v. v) os a) in
      let low = all_deep lawful os a in
      ap (λ d. admitted d (holds_overflow th whole) whole b) (lt-ltb depth_limit (depth whole) (omega (arith, deep, low)))

  -- what an end of a part says of the whole
  pub end_around : AreLawful th → (os : List Opened) (a : Tree) (b : ℕ) (whole : Bool) → (whole ≡ true → os ≡ []) → (end result : EvalEnd) → (whole ≡ true → result ≡ end) →
      (whole ≡ false → ((result ≡ TooDeep) × (end ≡ TooDeep)) ⊎ (result ≡ NoMemory)) → IsEnd (admit th a b) end → IsEnd (admit th (around_all (λ v. v) os a) b) result
  end_around lawful os a b true all end result same part is =
      subst (λ ps. IsEnd (admit th (around_all (λ v. v) ps a) b) result) (sym (all refl)) (subst (IsEnd (admit th a b)) (sym (same refl)) is)
  end_around lawful os a b false all end result same part is = by (part refl)
    where
      by : ((result ≡ TooDeep) × (end ≡ TooDeep)) ⊎ (result ≡ NoMemory) → IsEnd (admit th (around_all (λ v. v) os a) b) result
      by (inl (r, e)) = subst (IsEnd (admit th (around_all (λ v. v) os a) b)) (sym r) (deep_around lawful os a b (subst (IsEnd (admit th a b)) e is))
      by (inr r) = subst (IsEnd (admit th (around_all (λ v. v) os a) b)) (sym r) tt

-- ---- an argument of a term of a store

module _ (s : SignatureOf) (lawful : IsLawful (terms_over s)) (nodes : List Node) (are : AreNodes nodes) (o : Open) (child v : ℕ) (term : IsTerm s nodes o.term.0) (step : IsStep nodes o child) (may : MayReplace s nodes child v) where
  abbrev f : ℕ
  f = step.operator

  abbrev ids : List ℕ
  ids = step.ids

  under : AreUnder s nodes f ids × ((terms_over s).result f ≡ term.bare.0)
  under = under_term s lawful nodes are o.term.0 f term.bare.0 ids step.at record { within = term.within; bare = term.bare.1 }

  there : step.place < length ids
  there = slice_get_within ids step.place child step.argument

  is_child : (ids : List ℕ) (i : ℕ) → slice_get ids i ≡ Some child → get_or ids i child ≡ child
  is_child [] i e = cc
  is_child (j ∷ ids) zero e = cc
  is_child (j ∷ ids) (suc i) e = is_child ids i e

  pub put_under : AreUnder s nodes f (set ids step.place v)
  put_under = under_put s nodes f may.0 ids step.place child v there (subst (IsTermIn s nodes may.0) (sym (is_child ids step.place step.argument)) may.1) may.2 under.0

  -- the term itself, and what stands in its place, are of the kind of its operator
  pub put_kind : IsTermIn s nodes ((terms_over s).result f) o.term.0
  put_kind = record { within = term.within; bare = subst (IsBareIn (terms_over s) (reading (theory_at s) (tree_at nodes o.term.0))) (sym under.1) term.bare.1 }

  pub put_bare : IsBareIn (terms_over s) (reading (theory_at s) (norm (theory_at s) (node f (trees_at nodes (set ids step.place v))))) ((terms_over s).result f)
  put_bare = built_in_kind s lawful nodes f (set ids step.place v) put_under

  pub put_tree : node f (trees_at nodes (set ids step.place v)) ≡ around_last (λ w. w) (tree_at nodes o.term.0) o.next (tree_at nodes v)
  put_tree =
      let us = trees_at nodes ids in
      ap (node f) (map-set (tree_at nodes) ids step.place v ∙ set_split us step.place (tree_at nodes v) (omega (arith, there, length-map ids (tree_at nodes))))
      ∙ (ap (λ k. node f (take k us ++ tree_at nodes v ∷ drop (suc step.place) us)) (less step.place)
      ∙ (ap (λ ts. node f (take (suc step.place - 1) ts ++ tree_at nodes v ∷ drop (suc step.place) ts)) (sym (list_of-trees_of us))
      ∙ (ap (λ t. around_last (λ w. w) t (suc step.place) (tree_at nodes v)) (sym (tree_of_node nodes are o.term.0 (operator_node f ids) step.at))
      ∙ ap (λ n. around_last (λ w. w) (tree_at nodes o.term.0) n (tree_at nodes v)) (sym step.next))))
    where
      less : (n : ℕ) → n ≡ suc n - 1
      less n = omega arith

pub same_ids : (f g : ℕ) (xs ys : List ℕ) → Some (operator_node f xs) ≡ Some (operator_node g ys) → xs ≡ ys
same_ids f g xs ys e = cc

-- a step by the operator and the arguments that are read
abbrev pub step_as : (nodes : List Node) (o : Open) (child f : ℕ) (ids : List ℕ) → slice_get nodes o.term.0 ≡ Some (operator_node f ids) → IsStep nodes o child → IsStep nodes o child
step_as nodes o child f ids at s = record { operator = f; ids = ids; at = at; place = s.place; next = s.next; argument = subst (λ xs. slice_get xs s.place ≡ Some child) (same_ids s.operator f s.ids ids (sym s.at ∙ at)) s.argument }

-- arguments that are written
pub written : (xs args out : List TermId) (i place : ℕ) (v : TermId) → out ≡ set args i v → args ≡ xs → i ≡ place → numbers out ≡ set (numbers xs) place v.0
written xs args out i place v e h k = ap numbers e ∙ (map-set (λ (t : TermId). t.0) args i v ∙ ap₂ (λ (ys : List TermId) (j : ℕ). set (numbers ys) j v.0) h k)
