-- The normal form of a bare term is a term over the signature.
use Rattle.std.proofs.Common.{◌≡◌, ℕ, ◌≤◌, ◌+◌, List, [], ◌∷◌, length, Bool, true, false, Option, Some, None, refl, ap, subst, arith, is_some}
use Rattle.std.proofs.lemmas.Bool.{ltb-true}
use Rattle.std.specs.Option.{option_map}
use Rattle.mau_terms.specs.Tree.{Tree, variable, numeral, apply, Trees, no_trees, tree, node, list_of, trees_of}
use Rattle.mau_terms.specs.Norm.{finish, norm}
use Rattle.mau_terms.specs.Bare.{IsBareIn, AreBareIn, IsBare, IsLawful}
use Rattle.mau_terms.specs.Reading.{nest, nest_from, reading, readings}
use Rattle.mau_terms.proofs.Normal.{IsSettled, IsNormal, AreNormal, norm_normal}
use Rattle.mau_terms.proofs.Wholes.{not_alone}
use Rattle.mau_poset.specs.Order.{kinds, kind_of}
use Rattle.mau_signature.specs.Signature.{SignatureOf, IsOperator, theory_at, terms_over}
use Rattle.mau_signature.proofs.Operators.{is_operator}
use Rattle.mau_signature.specs.OverSignature.{IsTreeOver, AreTreesOver}

some_mapped : {A B : Type 0} (f : A → B) (o : Option A) (b : B) → option_map f o ≡ Some b → is_some o ≡ true
some_mapped f None b e = absurd (cc e)
some_mapped f (Some a) b e = refl

module _ (s : SignatureOf) (lawful : IsLawful (terms_over s)) where
  -- each, read as a bare term, is bare
  abbrev EachBare : Trees → Type 0
  EachBare no_trees = Unit {0}
  EachBare (tree t ts) = IsBare (terms_over s) (reading (theory_at s) t) × EachBare ts

  -- what the top of a normal form has, where that is bare
  record HasParts (f : ℕ) (a : Bool) (ts : Trees) : Type 0 where
    operator : IsOperator s f
    two : a ≡ true → 2 ≤ length (list_of ts)
    parts : EachBare ts

  plain_parts : (ts : Trees) (ks : List ℕ) → AreBareIn (terms_over s) (trees_of (readings (theory_at s) ts)) ks → EachBare ts
  plain_parts no_trees ks b = tt
  plain_parts (tree t ts) [] b = absurd b
  plain_parts (tree t ts) (k ∷ ks) b = ((k, b.0), plain_parts ts ks b.1)

  list_parts : (f : ℕ) → (theory_at s f).assoc ≡ true → (t : Tree) (ts : Trees) (k : ℕ) → IsBareIn (terms_over s) (nest_from f (reading (theory_at s) t) (readings (theory_at s) ts)) k
      → IsBare (terms_over s) (reading (theory_at s) t) × EachBare ts
  list_parts f a t no_trees k b = ((k, b), tt)
  list_parts f a t (tree u us) k b =
      let r = (terms_over s).result f in
      let rest = nest_from f (reading (theory_at s) u) (readings (theory_at s) us) in
      let both = subst (AreBareIn (terms_over s) (tree (reading (theory_at s) t) (tree rest no_trees))) (lawful.assoc_kinds f a) b.2 in
      ((r, both.0), list_parts f a u us r both.1.0)

  top_parts : (a : Bool) (f : ℕ) (ts : Trees) → (theory_at s f).assoc ≡ a → IsSettled (theory_at s f) f (list_of ts) → (k : ℕ) → IsBareIn (terms_over s) (nest a f (readings (theory_at s) ts)) k
      → HasParts f a ts
  top_parts false f ts a n k b = record { operator = is_operator s f b.0; two = λ e. absurd (cc e); parts = plain_parts ts ((terms_over s).arguments f) b.2 }
  top_parts true f no_trees a n k b = absurd (subst (AreBareIn (terms_over s) no_trees) (lawful.assoc_kinds f a) b.2)
  top_parts true f (tree t no_trees) a n k b =
      absurd (not_alone (theory_at s f).id (theory_at s f).succ f t (subst (λ x. finish x (theory_at s f).id (theory_at s f).succ f (t ∷ []) ≡ node f (t ∷ [])) a n.long))
  top_parts true f (tree t (tree u us)) a n k b =
      let p = list_parts f a t (tree u us) k b in
      record { operator = is_operator s f b.0; two = λ e. omega arith; parts = (p.0, p.1) }

  mutual
    normal_over : (t : Tree) → IsNormal (theory_at s) t → IsBare (terms_over s) (reading (theory_at s) t) → IsTreeOver s t
    normal_over (variable i p) n bare = ltb-true p (s.hierarchy.sorts + kinds s.hierarchy) bare.1.1
    normal_over (numeral v) n bare = some_mapped (λ p. kind_of s.hierarchy p.0) s.numerals bare.0 bare.1.1
    normal_over (apply f ts) n bare =
        let p = top_parts (theory_at s f).assoc f ts refl n.1 bare.0 bare.1 in
        (p.operator, p.two, normals_over ts n.0 p.parts)

    normals_over : (ts : Trees) → AreNormal (theory_at s) ts → EachBare ts → AreTreesOver s ts
    normals_over no_trees n b = tt
    normals_over (tree t ts) n b = (normal_over t n.0 b.0, normals_over ts n.1 b.1)

  pub norm_over : (t : Tree) → IsBare (terms_over s) (reading (theory_at s) (norm (theory_at s) t)) → IsTreeOver s (norm (theory_at s) t)
  norm_over t bare = normal_over (norm (theory_at s) t) (norm_normal (theory_at s) lawful.theories t) bare
