-- Normal forms, and that equal trees have one.
use Rattle.std.proofs.Common.{◌≡◌, ℕ, ◌+◌, List, [], ◌∷◌, ◌++◌, Bool, true, false, ◌&&◌, if◌then◌else◌, nat_lt, Option, Some, None, refl, sym, ◌∙◌, ap, ap₂, subst}
use Rattle.mau_terms.specs.Tree.{Tree, variable, numeral, apply, Trees, no_trees, tree, node, list_of, trees_of}
use Rattle.mau_terms.specs.Norm.{greatest_numeral, unit_tree, pieces, all_pieces, arrange, finish, over_one, build, norm, norms}
use Rattle.mau_terms.specs.Lawful.{AreLawful}
use Rattle.mau_terms.specs.declared.theory.Identity.{Identity}
use Rattle.mau_terms.specs.declared.theory.Identity.TheVariants.{Const, Num}
use Rattle.mau_terms.specs.declared.theory.Theory.{Theory}
use Rattle.mau_terms.proofs.Pieces.{list_of-trees_of, trees_of-list_of, Split, unit, many, one, split, Each, Each-append, Each-arrange, arrange-arrange, arrange_one, arrange_none, IsPiece, alone_element}

-- what a normal form with the top f and the list ts has: each element is one piece, they stand in order, and no axiom shortens them
pub record IsSettled (h : Theory) (f : ℕ) (ts : List Tree) : Type 0 where
  pub whole : Each (IsPiece h.assoc h.id f) ts
  pub ordered : arrange h.comm ts ≡ ts
  pub long : finish h.assoc h.id h.succ f ts ≡ node f ts

settled_by : (h : Theory) (f : ℕ) (ts : List Tree) (a : Bool) (u : Option Identity) → h.assoc ≡ a → h.id ≡ u → Each (IsPiece a u f) ts → arrange h.comm ts ≡ ts → finish a u h.succ f ts ≡ node f ts → IsSettled h f ts
settled_by h f ts a u ea eu w o l = record {
  whole = subst (λ a'. Each (IsPiece a' h.id f) ts) (sym ea) (subst (λ u'. Each (IsPiece a u' f) ts) (sym eu) w);
  ordered = o;
  long = subst (λ a'. finish a' h.id h.succ f ts ≡ node f ts) (sym ea) (subst (λ u'. finish a u' h.succ f ts ≡ node f ts) (sym eu) l);
}

pub finish_long : (a : Bool) (u : Option Identity) (s : Bool) (f : ℕ) (t v : Tree) (ts : List Tree) → finish a u s f (t ∷ v ∷ ts) ≡ node f (t ∷ v ∷ ts)
finish_long true None s f t v ts = refl
finish_long true (Some i) s f t v ts = refl
finish_long false None s f t v ts = refl
finish_long false (Some i) s f t v ts = refl

module _ (th : ℕ → Theory) where
  abbrev mutual
    pub IsNormal : Tree → Type 0
    IsNormal (variable i s) = Unit {0}
    IsNormal (numeral n) = Unit {0}
    IsNormal (apply f ts) = AreNormal ts × IsSettled (th f) f (list_of ts)

    pub AreNormal : Trees → Type 0
    AreNormal no_trees = Unit {0}
    AreNormal (tree t ts) = IsNormal t × AreNormal ts

  pub each_normal : (ts : Trees) → AreNormal ts → Each IsNormal (list_of ts)
  each_normal no_trees p = tt
  each_normal (tree t ts) p = (p.0, each_normal ts p.1)

  pub all_normal : (ts : List Tree) → Each IsNormal ts → AreNormal (trees_of ts)
  all_normal [] p = tt
  all_normal (t ∷ ts) p = (p.0, all_normal ts p.1)

  -- the pieces of a normal form
  pub whole_pieces : (f : ℕ) (t : Tree) → IsNormal t → Each (IsPiece (th f).assoc (th f).id f) (pieces (th f).assoc (th f).id f t)
  whole_pieces f t n = by (split (th f).assoc (th f).id f t)
    where
      by : Split (th f).assoc (th f).id f t → Each (IsPiece (th f).assoc (th f).id f) (pieces (th f).assoc (th f).id f t)
      by (unit i u e p) = subst (λ ts. Each (IsPiece (th f).assoc (th f).id f) ts) (sym p) tt
      by (many ts b e p) =
          let m : IsNormal (apply f ts) = subst IsNormal e n in
          subst (λ ts. Each (IsPiece (th f).assoc (th f).id f) ts) (sym p) (m.1.whole)
      by (one p) = subst (λ ts. Each (IsPiece (th f).assoc (th f).id f) ts) (sym p) (p, tt)

  pub normal_pieces : (f : ℕ) (t : Tree) → IsNormal t → Each IsNormal (pieces (th f).assoc (th f).id f t)
  normal_pieces f t n = by (split (th f).assoc (th f).id f t)
    where
      by : Split (th f).assoc (th f).id f t → Each IsNormal (pieces (th f).assoc (th f).id f t)
      by (unit i u e p) = subst (λ ts. Each IsNormal ts) (sym p) tt
      by (many ts b e p) =
          let m : IsNormal (apply f ts) = subst IsNormal e n in
          subst (λ ts. Each IsNormal ts) (sym p) (each_normal ts m.0)
      by (one p) = subst (λ ts. Each IsNormal ts) (sym p) (n, tt)

  pub normal_all_pieces : (f : ℕ) (ts : List Tree) → Each IsNormal ts → Each IsNormal (all_pieces (th f).assoc (th f).id f ts)
  normal_all_pieces f [] p = tt
  normal_all_pieces f (t ∷ ts) p = Each-append IsNormal (pieces (th f).assoc (th f).id f t) (all_pieces (th f).assoc (th f).id f ts) (normal_pieces f t p.0) (normal_all_pieces f ts p.1)

  pub whole_all_pieces : (f : ℕ) (ts : List Tree) → Each IsNormal ts → Each (IsPiece (th f).assoc (th f).id f) (all_pieces (th f).assoc (th f).id f ts)
  whole_all_pieces f [] p = tt
  whole_all_pieces f (t ∷ ts) p =
      Each-append (IsPiece (th f).assoc (th f).id f) (pieces (th f).assoc (th f).id f t) (all_pieces (th f).assoc (th f).id f ts) (whole_pieces f t p.0) (whole_all_pieces f ts p.1)

  -- ---- what is built is normal

  -- one argument, under an operator with neither associativity nor an identity
  over_one_normal : (f : ℕ) (t : Tree) → (th f).assoc ≡ false → (th f).id ≡ None → IsNormal t → IsNormal (over_one (th f).succ f t)
  over_one_normal f t a u n = by t n
    where
      kept : (v : Tree) → IsNormal v → over_one (th f).succ f v ≡ node f (v ∷ []) → IsNormal (node f (v ∷ []))
      kept v m e = ((m, tt), settled_by (th f) f (v ∷ []) false None a u (alone_element f v, tt) (arrange_one (th f).comm v) e)

      by : (v : Tree) → IsNormal v → IsNormal (over_one (th f).succ f v)
      by (variable i s) m = kept (variable i s) m refl
      by (numeral k) m = at ((th f).succ && nat_lt k greatest_numeral) refl
        where
          at : (b : Bool) → ((th f).succ && nat_lt k greatest_numeral) ≡ b → IsNormal (if b then numeral (k + 1) else node f (numeral k ∷ []))
          at true e = tt
          at false e = kept (numeral k) tt (ap (λ b. if b then numeral (k + 1) else node f (numeral k ∷ [])) e)
      by (apply g ts) m = kept (apply g ts) m refl

  module _ (lawful : AreLawful th) where
    pub unit_normal : (f : ℕ) (i : Identity) → (th f).id ≡ Some i → IsNormal (unit_tree i)
    unit_normal f (Const c) e = (tt, by (th c.0).assoc refl)
      where
        by : (a : Bool) → (th c.0).assoc ≡ a → IsSettled (th c.0) c.0 []
        by true ea = settled_by (th c.0) c.0 [] true None ea (lawful.plain_unit f c e) tt (arrange_none (th c.0).comm) refl
        by false ea = settled_by (th c.0) c.0 [] false None ea (lawful.plain_unit f c e) tt (arrange_none (th c.0).comm) refl
    unit_normal f (Num n) e = tt

    finish_normal : (f : ℕ) (ts : List Tree) → Each IsNormal ts → Each (IsPiece (th f).assoc (th f).id f) ts → arrange (th f).comm ts ≡ ts → IsNormal (finish (th f).assoc (th f).id (th f).succ f ts)
    finish_normal f ts n w o = by (th f).assoc (th f).id refl refl ts n w o
      where
        by : (a : Bool) (u : Option Identity) → (th f).assoc ≡ a → (th f).id ≡ u → (zs : List Tree) → Each IsNormal zs → Each (IsPiece (th f).assoc (th f).id f) zs → arrange (th f).comm zs ≡ zs → IsNormal (finish a u (th f).succ f zs)
        by true None ea eu [] m v q = (tt, settled_by (th f) f [] true None ea eu tt q refl)
        by false None ea eu [] m v q = (tt, settled_by (th f) f [] false None ea eu tt q refl)
        by true (Some i) ea eu [] m v q = unit_normal f i eu
        by false (Some i) ea eu [] m v q = unit_normal f i eu
        by true None ea eu (t ∷ []) m v q = m.0
        by true (Some i) ea eu (t ∷ []) m v q = m.0
        by false (Some i) ea eu (t ∷ []) m v q = m.0
        by false None ea eu (t ∷ []) m v q = over_one_normal f t ea eu m.0
        by a u ea eu (t ∷ t' ∷ zs) m v q =
            subst IsNormal (sym (finish_long a u (th f).succ f t t' zs)) (
              all_normal (t ∷ t' ∷ zs) m,
              subst (λ ws. IsSettled (th f) f ws) (sym (list_of-trees_of (t ∷ t' ∷ zs))) (record {
                whole = v;
                ordered = q;
                long = finish_long (th f).assoc (th f).id (th f).succ f t t' zs;
              }),
            )

    pub build_normal : (f : ℕ) (ts : List Tree) → Each IsNormal ts → IsNormal (build (th f) f ts)
    build_normal f ts n =
        let all = all_pieces (th f).assoc (th f).id f ts in
        finish_normal f (arrange (th f).comm all)
        (Each-arrange IsNormal (th f).comm all (normal_all_pieces f ts n))
        (Each-arrange (IsPiece (th f).assoc (th f).id f) (th f).comm all (whole_all_pieces f ts n))
        (arrange-arrange (th f).comm all)

    mutual
      pub norm_normal : (t : Tree) → IsNormal (norm th t)
      norm_normal (variable i s) = tt
      norm_normal (numeral n) = tt
      norm_normal (apply f ts) = build_normal f (norms th ts) (norms_normal ts)

      pub norms_normal : (ts : Trees) → Each IsNormal (norms th ts)
      norms_normal no_trees = tt
      norms_normal (tree t ts) = (norm_normal t, norms_normal ts)

  -- ---- a normal form is its own

  pub pieces_all : (a : Bool) (u : Option Identity) (f : ℕ) (ts : List Tree) → Each (IsPiece a u f) ts → all_pieces a u f ts ≡ ts
  pieces_all a u f [] p = refl
  pieces_all a u f (t ∷ ts) p = ap₂ (λ v w. v ++ w) p.0 (pieces_all a u f ts p.1)

  mutual
    pub normal_fixed : (t : Tree) → IsNormal t → norm th t ≡ t
    normal_fixed (variable i s) n = refl
    normal_fixed (numeral k) n = refl
    normal_fixed (apply f ts) n =
        ap (build (th f) f) (normals_fixed ts n.0)
        ∙ ap (λ w. finish (th f).assoc (th f).id (th f).succ f (arrange (th f).comm w)) (pieces_all (th f).assoc (th f).id f (list_of ts) n.1.whole)
        ∙ ap (finish (th f).assoc (th f).id (th f).succ f) n.1.ordered
        ∙ n.1.long
        ∙ ap (apply f) (trees_of-list_of ts)

    normals_fixed : (ts : Trees) → AreNormal ts → norms th ts ≡ list_of ts
    normals_fixed no_trees n = refl
    normals_fixed (tree t ts) n = ap₂ (λ v w. v ∷ w) (normal_fixed t n.0) (normals_fixed ts n.1)

  pub norm-norm : AreLawful th → (t : Tree) → norm th (norm th t) ≡ norm th t
  norm-norm lawful t = normal_fixed (norm th t) (norm_normal lawful t)
