-- How long the values of variables are in an answer, by the sorts of the variables.
use Rattle.std.proofs.Common.{◌≡◌, ◌⊎◌, ℕ, zero, suc, ◌≤◌, List, [], ◌∷◌, ◌++◌, Bool, true, false, ◌||◌, Option, Some, None, Contains, All, IfSome, map, length, inl, inr, refl, sym, ◌∙◌, ap, ap₂, subst, arith}
use Rattle.std.proofs.lemmas.Bool.{or_left, or_right}
use Rattle.std.proofs.lemmas.List.Elements.{All-weaker}
use Rattle.mau_terms.specs.Tree.{Tree, node, apply, Trees, no_trees, tree, trees_of, list_of}
use Rattle.mau_terms.specs.Norm.{norm, unit_tree, arrange, finish}
use Rattle.mau_terms.specs.Bare.{IsBare, IsLawful}
use Rattle.mau_terms.specs.Lawful.{AreLawful}
use Rattle.mau_terms.specs.Subst.{Variable, same_variable, has_variable, value_at, variables}
use Rattle.mau_terms.specs.Solution.{HaveSorts, list_under, over_list}
use Rattle.mau_terms.specs.View.{variable_of}
use Rattle.mau_terms.specs.declared.ids.VarId.{VarId}
use Rattle.mau_terms.specs.declared.theory.Identity.{Identity}
use Rattle.mau_terms.proofs.Variables.{same-is, same_itself}
use Rattle.mau_terms.proofs.Pieces.{Split, unit, many, one, split}
use Rattle.mau_terms.proofs.Finite.{over_its_list}
use Rattle.mau_signature.specs.Signature.{SignatureOf, terms_over, theory_at}
use Rattle.mau_sorts.specs.HasSort.{Known, HasSort}
use Rattle.mau_listing.specs.Question.{Question}
use Rattle.mau_listing.specs.Answers.{IsAnswer}
use Rattle.mau_listing.specs.Asked.{BySort}
use Rattle.mau_listing.proofs.Answered.{normal_is}
use Rattle.mau_match.specs.Limited.{IsLimitOf, IsNoUnit, IsWithinLimit, AreLimited}
use Rattle.mau_match.specs.Single.{IsSingle}
use Rattle.mau_match.specs.declared.part.Limit.{Limit}
use Rattle.mau_match.proofs.Answering.{sorts_at, value_normal, value_filled, there}
use Rattle.mau_match.proofs.Lengths.{one_more}

-- ---- a variable among others, and its value

record IsAt (xs : List Variable) (vs : List Tree) (y : Variable) : Type 0 where
  before : List Variable
  after : List Variable
  ps : List Tree
  v : Tree
  qs : List Tree
  names : xs ≡ before ++ y ∷ after
  values : vs ≡ ps ++ v ∷ qs
  as_many : length before ≡ length ps

at_place : (xs : List Variable) (vs : List Tree) → length xs ≡ length vs → (y : Variable) → has_variable xs y ≡ true → IsAt xs vs y
at_place [] vs l y h = cc
at_place (x ∷ xs) [] l y h = cc
at_place (x ∷ xs) (v ∷ vs) l y h = by (at_place xs vs (let k : length xs ≡ length vs = cc in k) y) (same_variable x y) refl
  where
    by : (has_variable xs y ≡ true → IsAt xs vs y) → (b : Bool) → same_variable x y ≡ b → IsAt (x ∷ xs) (v ∷ vs) y
    by ih true e = record { before = []; after = xs; ps = []; v = v; qs = vs; names = ap (λ z. z ∷ xs) (same-is x y e); values = refl; as_many = refl }
    by ih false e =
        let k = ih (sym (ap (λ b. b || has_variable xs y) e) ∙ h) in
        record {
          before = x ∷ k.before;
          after = k.after;
          ps = v ∷ k.ps;
          v = k.v;
          qs = k.qs;
          names = ap (λ z. x ∷ z) k.names;
          values = ap (λ z. v ∷ z) k.values;
          as_many = omega (arith, k.as_many);
        }

pub contains_has : (xs : List VarId) (x : VarId) → Contains xs x → has_variable (map variable_of xs) (variable_of x) ≡ true
contains_has [] x h = absurd (omega (arith, h.1))
contains_has (y ∷ xs) x (zero, l, e) = or_left (same_variable (variable_of y) (variable_of x)) (has_variable (map variable_of xs) (variable_of x)) (subst (λ z. same_variable (variable_of z) (variable_of x) ≡ true) (sym e) (same_itself (variable_of x)))
contains_has (y ∷ xs) x (suc k, l, e) = or_right (same_variable (variable_of y) (variable_of x)) (has_variable (map variable_of xs) (variable_of x)) (contains_has xs x (k, omega arith, e))

pub has_middle : (xs : List Variable) (x : Variable) (zs : List Variable) → has_variable (xs ++ x ∷ zs) x ≡ true
has_middle [] x zs = or_left (same_variable x x) (has_variable zs x) (same_itself x)
has_middle (y ∷ xs) x zs = or_right (same_variable y x) (has_variable (xs ++ x ∷ zs) x) (has_middle xs x zs)

-- ---- lists of a value

module _ (s : SignatureOf) (known : Known) (f r : ℕ) (v : Tree) (has : HasSort s known v r) where
  -- no list of the operator has the sort
  pub single_short : IsSingle s known f r → length (list_under (theory_at s f) f v) ≤ 1
  single_short single = by (split (theory_at s f).assoc (theory_at s f).id f v)
    where
      trees_of-list_of : (ts : Trees) → trees_of (list_of ts) ≡ ts
      trees_of-list_of no_trees = refl
      trees_of-list_of (tree t ts) = ap (tree t) (trees_of-list_of ts)

      at : (ts : List Tree) → v ≡ node f ts → length ts ≤ 1
      at [] e = omega arith
      at (t ∷ []) e = omega arith
      at (t ∷ u ∷ ts) e = absurd (single (t ∷ u ∷ ts) refl (subst (λ w. HasSort s known w r) e has))

      by : Split (theory_at s f).assoc (theory_at s f).id f v → length (list_under (theory_at s f) f v) ≤ 1
      by (unit i k q l) = omega (arith, ap length l)
      by (one l) = omega (arith, ap length l)
      by (many ts a e l) = omega (arith, ap length l, at (list_of ts) (e ∙ ap (apply f) (sym (trees_of-list_of ts))))

  -- the identity has not the sort
  pub not_empty : AreLawful (theory_at s) → (theory_at s f).assoc ≡ true → norm (theory_at s) v ≡ v → ((theory_at s f).id ≡ None → list_under (theory_at s f) f v ≡ [] → ⊥) → IsNoUnit s known f r → list_under (theory_at s f) f v ≡ [] → ⊥
  not_empty lawful a n filled none e = by (theory_at s f).id refl
    where
      arrange_none : (c : Bool) → arrange c [] ≡ []
      arrange_none true = refl
      arrange_none false = refl

      over : over_list (theory_at s f) f [] ≡ v
      over = ap (over_list (theory_at s f) f) (sym e) ∙ over_its_list (theory_at s) f v a (normal_is (theory_at s) lawful v n)

      by : (o : Option Identity) → (theory_at s f).id ≡ o → ⊥
      by None k = filled k e
      by (Some i) k =
          let h = theory_at s f in
          let same : over_list h f [] ≡ unit_tree i = ap (finish h.assoc h.id h.succ f) (arrange_none h.comm) ∙ ap₂ (λ b o. finish b o h.succ f []) a k in
          none i k (subst (λ w. HasSort s known w r) (sym over ∙ same) has)

-- ---- limits of an answer

module _ (s : SignatureOf) (lawful : IsLawful (terms_over s)) (known : Known) (q : Question) (bare : IsBare (terms_over s) q.pattern) (ws : List Tree) (a : IsAnswer s (BySort s known) q ws) (gg : Variable → Tree)
    (same : (y : Variable) → has_variable (variables q.pattern) y ≡ true → gg y ≡ value_at (variables q.pattern) ws y) where
  module _ (y : Variable) (at : IsAt (variables q.pattern) ws y) where
    answer : IsAnswer s (BySort s known) q (at.ps ++ at.v ∷ at.qs)
    answer = subst (IsAnswer s (BySort s known) q) at.values a

    value_is : value_at (variables q.pattern) ws y ≡ at.v
    value_is = ap (λ w. value_at (variables q.pattern) w y) at.values ∙ there s lawful (BySort s known) q bare at.before y at.after at.names at.ps at.as_many at.v at.qs answer

    normal : norm (theory_at s) at.v ≡ at.v
    normal = value_normal s lawful (BySort s known) q bare at.before y at.after at.names at.ps at.as_many at.v at.qs answer

    sort : HasSort s known at.v y.1
    sort = sorts_at (BySort s known) at.before y at.after at.ps at.v at.qs at.as_many (subst (λ ys. HaveSorts (BySort s known) ys (at.ps ++ at.v ∷ at.qs)) at.names answer.sorts)

    full : (f : ℕ) → (theory_at s f).assoc ≡ true → (theory_at s f).id ≡ None → list_under (theory_at s f) f at.v ≡ [] → ⊥
    full = value_filled s lawful (BySort s known) q bare at.before y at.after at.names at.ps at.as_many at.v at.qs answer

  -- a limit that follows from the sort of a variable of the pattern holds in each answer
  pub limit_holds : (xs : List VarId) → map variable_of xs ≡ variables q.pattern → (l : Limit) → IsLimitOf s known xs l → IsWithinLimit (theory_at s) gg l
  limit_holds xs names l limit =
      let y = variable_of l.variable in
      let f = l.op.0 in
      let h = theory_at s f in
      let has : has_variable (variables q.pattern) y ≡ true = subst (λ ys. has_variable ys y ≡ true) names (contains_has xs l.variable limit.variable) in
      let at = at_place (variables q.pattern) ws (sym a.one_each) y has in
      let list : list_under h f (norm (theory_at s) (gg y)) ≡ list_under h f at.v = ap (λ t. list_under h f (norm (theory_at s) t)) (same y has ∙ value_is y at) ∙ ap (list_under h f) (normal y at) in (
        low (length (list_under h f (norm (theory_at s) (gg y)))) limit.least
            (λ none. let m : 1 ≤ length (list_under h f at.v) = one_more (list_under h f at.v) (not_empty s known f l.variable.sort at.v (sort y at) lawful.theories limit.operator.assoc (normal y at) (full y at f limit.operator.assoc) none) in
            omega (arith, m, ap length list)),
        high (length (list_under h f (norm (theory_at s) (gg y)))) l.most limit.most
            (λ single. omega (arith, single_short s known f l.variable.sort at.v (sort y at) single, ap length list)),
      )
    where
      low : (n : ℕ) → (l.least ≡ 0) ⊎ ((l.least ≡ 1) × IsNoUnit s known l.op.0 l.variable.sort) → (IsNoUnit s known l.op.0 l.variable.sort → 1 ≤ n) → l.least ≤ n
      low n (inl e) h = omega (arith, e)
      low n (inr e) h = omega (arith, e.0, h e.1)

      high : (n : ℕ) (o : Option ℕ) → IfSome o (λ m. (m ≡ 1) × IsSingle s known l.op.0 l.variable.sort) → (IsSingle s known l.op.0 l.variable.sort → n ≤ 1) → IfSome o (λ m. n ≤ m)
      high n None e h = tt
      high n (Some m) e h = omega (arith, e.0, h e.1)

  pub limits_hold : (xs : List VarId) → map variable_of xs ≡ variables q.pattern → (ls : List Limit) → All (IsLimitOf s known xs) ls → AreLimited (theory_at s) ls gg
  limits_hold xs names ls = All-weaker (IsLimitOf s known xs) (IsWithinLimit (theory_at s) gg) (limit_holds xs names) ls
