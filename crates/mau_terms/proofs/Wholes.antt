-- A normal form that is read as a bare term has itself for its normal form; and what it means that a term is an operator over a list.
use Rattle.std.proofs.Common.{◌≡◌, ℕ, List, [], ◌∷◌, Bool, true, false, Option, Some, None, refl, sym, ◌∙◌, ap, ap₂, subst, map, arith}
use Rattle.mau_terms.specs.Tree.{Tree, variable, numeral, apply, Trees, no_trees, tree, node, list_of}
use Rattle.mau_terms.specs.Norm.{arrange, finish, build, norm}
use Rattle.mau_terms.specs.Depth.{depth}
use Rattle.mau_terms.specs.Lawful.{AreLawful}
use Rattle.mau_terms.specs.Bare.{TermSignature, IsBareIn}
use Rattle.mau_terms.specs.Reading.{nest, reading, readings}
use Rattle.mau_terms.specs.Solution.{over_list, ArePieces}
use Rattle.mau_terms.specs.Laws.{NormIsEqual, OverListIsEqual}
use Rattle.mau_terms.specs.declared.theory.Identity.{Identity}
use Rattle.mau_terms.specs.declared.theory.Theory.{Theory}
use Rattle.mau_terms.proofs.Pieces.{trees_of-list_of, Each, IsPiece}
use Rattle.mau_terms.proofs.Normal.{IsSettled, IsNormal, AreNormal, build_normal, pieces_all, norm_normal}
use Rattle.mau_terms.proofs.Induction.{norm-node}
use Rattle.mau_terms.proofs.Taken.{norm-nest_from}
use Rattle.mau_terms.proofs.Law.{equal_norm, equal_reading, norm_equal}

-- what is settled is what is built of it
build-settled : (th : ℕ → Theory) (f : ℕ) (ts : List Tree) → IsSettled (th f) f ts → build (th f) f ts ≡ node f ts
build-settled th f ts n =
    let h = th f in
    ap (λ w. finish h.assoc h.id h.succ f (arrange h.comm w)) (pieces_all th h.assoc h.id f ts n.whole)
    ∙ ap (finish h.assoc h.id h.succ f) n.ordered
    ∙ n.long

-- no tree is its own only argument
not_within_itself : (f : ℕ) (x : Tree) → x ≡ node f (x ∷ []) → ⊥
not_within_itself f x e = omega (arith, ap depth e)

-- so a list of one element isn't settled under an associative operator
pub not_alone : (u : Option Identity) (s : Bool) (f : ℕ) (x : Tree) → finish true u s f (x ∷ []) ≡ node f (x ∷ []) → ⊥
not_alone None s f x e = not_within_itself f x e
not_alone (Some i) s f x e = not_within_itself f x e

module _ (th : ℕ → Theory) (lawful : AreLawful th) where
  -- the normal form of f over terms, nested where f is associative, whose normal forms are settled
  norm-nest-settled : (a : Bool) (f : ℕ) → (th f).assoc ≡ a → (rs ts : List Tree) → map (norm th) rs ≡ ts → IsSettled (th f) f ts → norm th (nest a f rs) ≡ node f ts
  norm-nest-settled false f a rs ts e n = norm-node th f rs ∙ ap (build (th f) f) e ∙ build-settled th f ts n
  norm-nest-settled true f a [] ts e n = norm-node th f [] ∙ ap (build (th f) f) e ∙ build-settled th f ts n
  norm-nest-settled true f a (r ∷ []) [] e n = cc
  norm-nest-settled true f a (r ∷ []) (t ∷ u ∷ ts) e n = cc
  norm-nest-settled true f a (r ∷ []) (t ∷ []) e n =
      absurd (not_alone (th f).id (th f).succ f t (subst (λ b. finish b (th f).id (th f).succ f (t ∷ []) ≡ node f (t ∷ [])) a n.long))
  norm-nest-settled true f a (r ∷ q ∷ rs) ts e n = norm-nest_from th lawful f a r q rs ∙ ap (build (th f) f) e ∙ build-settled th f ts n

  mutual
    pub norm-reading : (t : Tree) → IsNormal th t → norm th (reading th t) ≡ t
    norm-reading (variable i s) n = refl
    norm-reading (numeral k) n = refl
    norm-reading (apply f ts) n =
        norm-nest-settled (th f).assoc f refl (readings th ts) (list_of ts) (norms-readings ts n.0) n.1 ∙ ap (apply f) (trees_of-list_of ts)

    norms-readings : (ts : Trees) → AreNormal th ts → map (norm th) (readings th ts) ≡ list_of ts
    norms-readings no_trees n = refl
    norms-readings (tree t ts) n = ap₂ (λ v w. v ∷ w) (norm-reading t n.0) (norms-readings ts n.1)

  -- f over a list of its pieces is normal
  pub over_list_normal : (f : ℕ) (ts : List Tree) → ArePieces th f ts → IsNormal th (over_list (th f) f ts)
  over_list_normal f ts p =
      subst (λ w. IsNormal th (over_list (th f) f w)) (pieces_all th (th f).assoc (th f).id f ts (whole ts p)) (build_normal th lawful f ts (normal ts p))
    where
      whole : (us : List Tree) → ArePieces th f us → Each (IsPiece (th f).assoc (th f).id f) us
      whole [] q = tt
      whole (u ∷ us) q = (q.1, whole us q.2)

      normal : (us : List Tree) → ArePieces th f us → Each (IsNormal th) us
      normal [] q = tt
      normal (u ∷ us) q = (subst (IsNormal th) q.0 (norm_normal th lawful u), normal us q.2)

-- ---- bare terms

-- the top of a normal form that is read as a bare term is an operator, and its kind is the term's
pub reading_top : (s : TermSignature) (f : ℕ) (ts : Trees) (k : ℕ) → IsNormal s.theory (apply f ts) → IsBareIn s (reading s.theory (apply f ts)) k → (s.has_operator f ≡ true) × (s.result f ≡ k)
reading_top s f ts k n b = by (s.theory f).assoc refl ts n.1.long (λ a e. subst (λ c. IsBareIn s (nest c f (readings s.theory a)) k) e) b
  where
    by : (c : Bool) → (s.theory f).assoc ≡ c → (us : Trees) → finish (s.theory f).assoc (s.theory f).id (s.theory f).succ f (list_of us) ≡ node f (list_of us)
        → ((a : Trees) → (s.theory f).assoc ≡ c → IsBareIn s (nest (s.theory f).assoc f (readings s.theory a)) k → IsBareIn s (nest c f (readings s.theory a)) k)
        → IsBareIn s (nest (s.theory f).assoc f (readings s.theory us)) k → (s.has_operator f ≡ true) × (s.result f ≡ k)
    by false e us l read w = let d = read us e w in (d.0, d.1)
    by true e no_trees l read w = let d = read no_trees e w in (d.0, d.1)
    by true e (tree t no_trees) l read w = absurd (not_alone (s.theory f).id (s.theory f).succ f t (subst (λ c. finish c (s.theory f).id (s.theory f).succ f (t ∷ []) ≡ node f (t ∷ [])) e l))
    by true e (tree t (tree u us)) l read w = let d = read (tree t (tree u us)) e w in (d.0, d.1)

pub norm_is_equal : NormIsEqual
norm_is_equal = equal_reading

pub over_list_is_equal : OverListIsEqual
over_list_is_equal s lawful f t ts b p bare =
    let th = s.theory in
    let w = reading th (over_list (th f) f ts) in
    let back : norm th w ≡ over_list (th f) f ts = norm-reading th lawful.theories (over_list (th f) f ts) (over_list_normal th lawful.theories f ts p) in
    (λ x. equal_norm s lawful x ∙ back, λ e. norm_equal s lawful t w b bare (e ∙ sym back))
