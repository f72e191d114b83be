-- The kinds of widened terms, and of the contexts of a solution.
use Rattle.std.proofs.Common.{◌≡◌, ◌≤◌, ◌+◌, ◌⊎◌, ℕ, List, [], ◌∷◌, ◌++◌, length, length-append, Bool, true, false, if◌then◌else◌, Option, None, Some, inl, inr, refl, sym, ◌∙◌, ap, subst, arith}
use Rattle.mau_terms.specs.Tree.{Tree, variable, numeral, apply, Trees, no_trees, tree, node, list_of, trees_of}
use Rattle.mau_terms.specs.Axioms.{binary}
use Rattle.mau_terms.specs.Norm.{unit_tree, arrange, finish, norm}
use Rattle.mau_terms.specs.Bare.{TermSignature, IsBareIn, AreBareIn, IsBare, IsLawful}
use Rattle.mau_terms.specs.Reading.{nest, nest_from, reading, readings}
use Rattle.mau_terms.specs.Subst.{Variable, instance}
use Rattle.mau_terms.specs.Solution.{list_under, over_list, assoc_top, IsListOf}
use Rattle.mau_terms.specs.declared.theory.Identity.{Identity}
use Rattle.mau_terms.specs.declared.theory.Identity.TheVariants.{Const, Num}
use Rattle.mau_terms.specs.declared.theory.Theory.{Theory}
use Rattle.mau_terms.proofs.Pieces.{Split, unit, many, one, split, Each}
use Rattle.mau_terms.proofs.Normal.{IsNormal, norm_normal}
use Rattle.mau_terms.proofs.Chains.{chain_end}
use Rattle.mau_terms.proofs.Readings.{lead_norm}
use Rattle.mau_terms.proofs.Finite.{length-arrange}
use Rattle.mau_terms.proofs.Wholes.{reading_top, not_alone}
use Rattle.mau_extend.specs.Widened.{widened}
use Rattle.mau_extend.proofs.Lists.{arranged, both_parts}

-- the associative top of a tree
pub top_is : (th : ℕ → Theory) (f : ℕ) (t : Tree) → assoc_top th t ≡ Some f → (ts : Trees) × (t ≡ apply f ts) × ((th f).assoc ≡ true)
top_is th f (variable i r) e = cc
top_is th f (numeral n) e = cc
top_is th f (apply g ts) e = by (th g).assoc refl e
  where
    by : (b : Bool) → (th g).assoc ≡ b → (if b then Some g else None) ≡ Some f → (us : Trees) × (apply g ts ≡ apply f us) × ((th f).assoc ≡ true)
    by false k h = cc
    by true k h =
        let same : g ≡ f = cc in
        (ts, ap (λ o. apply o ts) same, subst (λ o. (th o).assoc ≡ true) same k)

module _ (s : TermSignature) (lawful : IsLawful s) (f : ℕ) (assoc : (s.theory f).assoc ≡ true) where
  abbrev Of : Tree → Type 0
  Of t = IsBareIn s t (s.result f)

  module _ (has : s.has_operator f ≡ true) where
    pub bare_binary : (t u : Tree) → IsBareIn s t (s.result f) → IsBareIn s u (s.result f) → IsBareIn s (binary f t u) (s.result f)
    bare_binary t u b d = (has, refl, subst (AreBareIn s (tree t (tree u no_trees))) (sym (lawful.assoc_kinds f assoc)) (b, (d, tt)))

    pub widened_bare : (h k : Bool) (u t w : Tree) → (h ≡ true → IsBareIn s u (s.result f)) → IsBareIn s t (s.result f) → (k ≡ true → IsBareIn s w (s.result f)) → IsBareIn s (widened h k f u t w) (s.result f)
    widened_bare false false u t w a b d = b
    widened_bare false true u t w a b d = bare_binary t w b (d refl)
    widened_bare true false u t w a b d = bare_binary u t (a refl) b
    widened_bare true true u t w a b d = bare_binary u (binary f t w) (a refl) (bare_binary t w b (d refl))

    -- a list of terms of the kind, nested
    nested_bare : (t : Tree) (ts : List Tree) → IsBareIn s t (s.result f) → Each (λ u. IsBareIn s u (s.result f)) ts → IsBareIn s (nest_from f t ts) (s.result f)
    nested_bare t [] b d = b
    nested_bare t (u ∷ us) b d = bare_binary t (nest_from f u us) b (nested_bare u us d.0 d.1)

    read_each : (ts : List Tree) → Each (λ u. IsBareIn s (reading s.theory u) (s.result f)) ts → Each (λ u. IsBareIn s u (s.result f)) (readings s.theory (trees_of ts))
    read_each [] d = tt
    read_each (t ∷ ts) d = (d.0, read_each ts d.1)

    long_bare : (t u : Tree) (ts : List Tree) → Each (λ v. IsBareIn s (reading s.theory v) (s.result f)) (t ∷ u ∷ ts) → IsBareIn s (reading s.theory (node f (t ∷ u ∷ ts))) (s.result f)
    long_bare t u ts d =
        subst (λ b. IsBareIn s (nest b f (reading s.theory t ∷ reading s.theory u ∷ readings s.theory (trees_of ts))) (s.result f)) (sym assoc)
        (nested_bare (reading s.theory t) (reading s.theory u ∷ readings s.theory (trees_of ts)) d.0 (d.1.0, read_each ts d.1.1))

    unit_read : (i : Identity) → reading s.theory (unit_tree i) ≡ unit_tree i
    unit_read (Const c) = by (s.theory c.0).assoc
      where
        by : (b : Bool) → nest b c.0 [] ≡ node c.0 []
        by true = refl
        by false = refl
    unit_read (Num n) = refl

    finished_bare : (id : Option Identity) (ts : List Tree) → (s.theory f).id ≡ id → Each (λ v. IsBareIn s (reading s.theory v) (s.result f)) ts → (ts ≡ [] → (i : Identity) × (id ≡ Some i))
        → IsBareIn s (reading s.theory (finish true id (s.theory f).succ f ts)) (s.result f)
    finished_bare None [] e d some = let i = some refl in let k = i.1 in cc
    finished_bare (Some i) [] e d some = subst (λ t. IsBareIn s t (s.result f)) (sym (unit_read i)) (lawful.unit_kinds f i e).1
    finished_bare None (t ∷ []) e d some = d.0
    finished_bare (Some i) (t ∷ []) e d some = d.0
    finished_bare None (t ∷ u ∷ ts) e d some = long_bare t u ts d
    finished_bare (Some i) (t ∷ u ∷ ts) e d some = long_bare t u ts d

    -- f over a list of elements of its kind
    pub over_bare : (ts : List Tree) → IsListOf s.theory f ts → Each (λ v. IsBareIn s (reading s.theory v) (s.result f)) ts → (ts ≡ [] → (i : Identity) × ((s.theory f).id ≡ Some i))
        → IsBareIn s (reading s.theory (over_list (s.theory f) f ts)) (s.result f)
    over_bare ts l d some =
        subst (λ us. IsBareIn s (reading s.theory (finish (s.theory f).assoc (s.theory f).id (s.theory f).succ f us)) (s.result f)) (sym l.ordered)
        (subst (λ b. IsBareIn s (reading s.theory (finish b (s.theory f).id (s.theory f).succ f ts)) (s.result f)) (sym assoc) (finished_bare (s.theory f).id ts refl d some))

  -- ---- back

  pub binary_bare : (t u : Tree) (k : ℕ) → IsBareIn s (binary f t u) k → IsBareIn s t (s.result f) × IsBareIn s u (s.result f)
  binary_bare t u k b = let d = subst (AreBareIn s (tree t (tree u no_trees))) (lawful.assoc_kinds f assoc) b.2 in (d.0, d.1.0)

  pub bare_within : (h k : Bool) (u t w : Tree) → IsBare s (widened h k f u t w) → IsBare s t
  bare_within false false u t w b = b
  bare_within false true u t w b = (s.result f, (binary_bare t w b.0 b.1).0)
  bare_within true false u t w b = (s.result f, (binary_bare u t b.0 b.1).1)
  bare_within true true u t w b = (s.result f, (binary_bare t w (s.result f) (binary_bare u (binary f t w) b.0 b.1).1).0)

  nested_each : (t : Tree) (ts : List Tree) (k : ℕ) → IsBareIn s (nest_from f t ts) k → (ts ≡ [] → ⊥) → Each (λ u. IsBareIn s u (s.result f)) (t ∷ ts)
  nested_each t [] k b n = absurd (n refl)
  nested_each t (u ∷ []) k b n = let d = binary_bare t u k b in (d.0, (d.1, tt))
  nested_each t (u ∷ v ∷ us) k b n = let d = binary_bare t (nest_from f u (v ∷ us)) k b in (d.0, nested_each u (v ∷ us) (s.result f) d.1 (λ e. cc))

  read_back : (ts : Trees) → Each (λ u. IsBareIn s u (s.result f)) (readings s.theory ts) → Each (λ v. IsBareIn s (reading s.theory v) (s.result f)) (list_of ts)
  read_back no_trees d = tt
  read_back (tree t ts) d = (d.0, read_back ts d.1)

  each_of_many : (ts : Trees) (k : ℕ) → IsNormal s.theory (apply f ts) → IsBareIn s (reading s.theory (apply f ts)) k → Each (λ v. IsBareIn s (reading s.theory v) (s.result f)) (list_of ts)
  each_of_many no_trees k n b = tt
  each_of_many (tree t no_trees) k n b = absurd (not_alone (s.theory f).id (s.theory f).succ f t (subst (λ c. finish c (s.theory f).id (s.theory f).succ f (t ∷ []) ≡ node f (t ∷ [])) assoc n.1.long))
  each_of_many (tree t (tree u us)) k n b =
      read_back (tree t (tree u us))
      (nested_each (reading s.theory t) (reading s.theory u ∷ readings s.theory us) k (subst (λ c. IsBareIn s (nest c f (reading s.theory t ∷ reading s.theory u ∷ readings s.theory us)) k) assoc b) (λ e. cc))

  -- the elements of a list of two or more in a bare term are of the kind
  each_long : (v : Tree) → IsNormal s.theory v → IsBare s (reading s.theory v) → 2 ≤ length (list_under (s.theory f) f v) → Each (λ u. IsBareIn s (reading s.theory u) (s.result f)) (list_under (s.theory f) f v)
  each_long v n b long = by (split (s.theory f).assoc (s.theory f).id f v)
    where
      Q : List Tree → Type 0
      Q ts = Each (λ u. IsBareIn s (reading s.theory u) (s.result f)) ts

      by : Split (s.theory f).assoc (s.theory f).id f v → Each (λ u. IsBareIn s (reading s.theory u) (s.result f)) (list_under (s.theory f) f v)
      by (unit i u e p) = subst (λ ts. Each (λ w. IsBareIn s (reading s.theory w) (s.result f)) ts) (sym p) tt
      by (many ts a e p) =
          subst (λ us. Each (λ w. IsBareIn s (reading s.theory w) (s.result f)) us) (sym p)
          (each_of_many ts b.0 (subst (IsNormal s.theory) e n) (subst (λ t. IsBareIn s (reading s.theory t) b.0) e b.1))
      by (one p) = absurd (let l : length (list_under (s.theory f) f v) ≡ 1 = ap length p in omega (arith, l, long))

  -- ---- contexts

  -- the elements of the contexts are of the kind
  pub contexts_bare : (subject : Tree) → IsNormal s.theory subject → IsBare s (reading s.theory subject) → (left m right : List Tree) → list_under (s.theory f) f subject ≡ arrange (s.theory f).comm (left ++ (m ++ right))
      → (2 ≤ length m) ⊎ ((left ≡ []) × (right ≡ [])) → Each (λ u. IsBareIn s (reading s.theory u) (s.result f)) left × Each (λ u. IsBareIn s (reading s.theory u) (s.result f)) right
  contexts_bare subject n b left m right e (inr none) =
      (subst (λ ts. Each (λ u. IsBareIn s (reading s.theory u) (s.result f)) ts) (sym none.0) tt, subst (λ ts. Each (λ u. IsBareIn s (reading s.theory u) (s.result f)) ts) (sym none.1) tt)
  contexts_bare subject n b left m right e (inl long) =
      let all = left ++ (m ++ right) in
      let count : length (list_under (s.theory f) f subject) ≡ length left + (length m + length right) =
      ap length e ∙ length-arrange (s.theory f).comm all ∙ length-append left (m ++ right) ∙ ap (λ x. length left + x) (length-append m right) in
      let each = arranged (λ u. IsBareIn s (reading s.theory u) (s.result f)) (s.theory f).comm all
      (subst (λ ts. Each (λ u. IsBareIn s (reading s.theory u) (s.result f)) ts) e (each_long subject n b (omega (arith, count, long)))) in
      let two = both_parts (λ u. IsBareIn s (reading s.theory u) (s.result f)) left (m ++ right) each in
      (two.0, (both_parts (λ u. IsBareIn s (reading s.theory u) (s.result f)) m right two.1).1)

-- ---- patterns

module _ (s : TermSignature) (lawful : IsLawful s) (f : ℕ) (p : Tree) (bare : IsBare s p) (top : assoc_top s.theory (norm s.theory p) ≡ Some f) where
  top_read : (s.has_operator f ≡ true) × (s.result f ≡ bare.0)
  top_read =
      let t = top_is s.theory f (norm s.theory p) top in
      reading_top s f t.0 bare.0 (subst (IsNormal s.theory) t.1 (norm_normal s.theory lawful.theories p))
      (subst (λ u. IsBareIn s (reading s.theory u) bare.0) t.1 (chain_end (lead_norm s lawful bare.0 p bare.1)))

  pub top_operator : s.has_operator f ≡ true
  top_operator = top_read.0

  pub top_assoc : (s.theory f).assoc ≡ true
  top_assoc = (top_is s.theory f (norm s.theory p) top).2

  pub pattern_bare : IsBareIn s p (s.result f)
  pattern_bare = subst (IsBareIn s p) (sym top_read.1) bare.1

  -- the pattern is an operator over arguments
  pub pattern_applied : (g : ℕ) × (ps : Trees) × (p ≡ apply g ps)
  pattern_applied = by p refl
    where
      by : (t : Tree) → p ≡ t → (g : ℕ) × (ps : Trees) × (p ≡ apply g ps)
      by (variable i r) e = let k : assoc_top s.theory (norm s.theory (variable i r)) ≡ Some f = subst (λ t. assoc_top s.theory (norm s.theory t) ≡ Some f) e top in cc
      by (numeral n) e = let k : assoc_top s.theory (norm s.theory (numeral n)) ≡ Some f = subst (λ t. assoc_top s.theory (norm s.theory t) ≡ Some f) e top in cc
      by (apply g ps) e = (g, ps, e)

  -- each bare instance is of the kind
  pub instance_of_kind : (G : Variable → Tree) → IsBare s (instance G p) → IsBareIn s (instance G p) (s.result f)
  instance_of_kind G b =
      let a = pattern_applied in
      let own : IsBareIn s (apply a.0 a.1) (s.result f) = subst (λ t. IsBareIn s t (s.result f)) a.2 pattern_bare in
      let there : IsBareIn s (instance G (apply a.0 a.1)) b.0 = subst (λ t. IsBareIn s (instance G t) b.0) a.2 b.1 in
      subst (λ t. IsBareIn s (instance G t) (s.result f)) (sym a.2) (there.0, own.1, there.2)
