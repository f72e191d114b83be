-- What is known of the instance of a pattern by the values of some of its variables.
use Rattle.std.proofs.Common.{◌≡◌, ℕ, List, [], ◌∷◌, ◌++◌, Bool, true, false, ◌==◌, if◌then◌else◌, refl, sym, ◌∙◌, ap, ap₂, subst, append_assoc, append-nil, eqb-true}
use Rattle.std.proofs.lemmas.Bool.{and_parts}
use Rattle.mau_terms.specs.Tree.{Tree, variable, numeral, apply, Trees, no_trees, tree}
use Rattle.mau_terms.specs.Order.{sort_trees}
use Rattle.mau_terms.specs.Norm.{all_pieces, arrange, build, norm, norms}
use Rattle.mau_terms.specs.Lawful.{AreLawful}
use Rattle.mau_terms.specs.Subst.{Variable, has_variable, instance, instances}
use Rattle.mau_terms.specs.Solution.{list_under}
use Rattle.mau_terms.specs.declared.theory.Theory.{Theory}
use Rattle.mau_terms.proofs.Sorting.{sort-sort}
use Rattle.mau_terms.proofs.Normal.{norms_normal}
use Rattle.mau_match.specs.Parts.{is_bound, are_bound, known, known_in}
use Rattle.mau_match.specs.Possible.{free, frees}
use Rattle.mau_match.proofs.Removal.{more_right}
use Rattle.mau_match.proofs.Builds.{list_of_built}
use Rattle.mau_domains.proofs.Reached.{more_left, past}

-- two lists, each of what is known and more
joined : (a b k m l n : List Tree) → sort_trees a ≡ sort_trees (k ++ m) → sort_trees b ≡ sort_trees (l ++ n) → sort_trees (a ++ b) ≡ sort_trees ((k ++ l) ++ (m ++ n))
joined a b k m l n e h =
    more_left a (k ++ m) b e
    ∙ more_right (k ++ m) b (l ++ n) h
    ∙ ap sort_trees (append_assoc k m (l ++ n))
    ∙ more_right k (m ++ (l ++ n)) (l ++ (m ++ n)) (past m l n)
    ∙ ap sort_trees (sym (append_assoc k l (m ++ n)))

sort_arranged : (c : Bool) (ts : List Tree) → sort_trees (arrange c ts) ≡ sort_trees ts
sort_arranged true ts = sort-sort ts
sort_arranged false ts = refl

module _ (th : ℕ → Theory) (bound : List Variable) (g gg : Variable → Tree) (x : Variable) (agree : (y : Variable) → has_variable bound y ≡ true → norm th (g y) ≡ norm th (gg y)) where
  mutual
    pub bound_norm : (p : Tree) → is_bound bound p ≡ true → norm th (instance g p) ≡ norm th (instance gg p)
    bound_norm (variable i s) b = agree (i, s) b
    bound_norm (numeral n) b = refl
    bound_norm (apply f ts) b = ap (build (th f) f) (bound_norms ts b)

    pub bound_norms : (ps : Trees) → are_bound bound ps ≡ true → norms th (instances g ps) ≡ norms th (instances gg ps)
    bound_norms no_trees b = refl
    bound_norms (tree p ps) b =
        let e = and_parts (is_bound bound p) (are_bound bound ps) b in
        ap₂ (λ v w. v ∷ w) (bound_norm p e.0) (bound_norms ps e.1)

  pub bound_known : (f : ℕ) (p : Tree) → is_bound bound p ≡ true → known th bound g x f p ≡ list_under (th f) f (norm th (instance gg p))
  bound_known f (variable i s) b = ap (λ w. if w then list_under (th f) f (norm th (g (i, s))) else []) b ∙ ap (list_under (th f) f) (agree (i, s) b)
  bound_known f (numeral n) b = refl
  bound_known f (apply h ts) b =
      ap (λ w. if w then list_under (th f) f (norm th (instance g (apply h ts))) else if h == f then known_in th bound g x f ts else []) b
      ∙ ap (list_under (th f) f) (bound_norm (apply h ts) b)

  -- the list ys has the elements ks, and those of ms, which are none where it is bound
  pub record HasKnown (b : Bool) (ks ys : List Tree) : Type 0 where
    pub more : List Tree
    pub same : sort_trees ys ≡ sort_trees (ks ++ more)
    pub none : b ≡ true → more ≡ []

  exact : (b : Bool) (ks ys : List Tree) → ks ≡ ys → HasKnown b ks ys
  exact b ks ys e = record { more = []; same = ap sort_trees (sym e ∙ sym (append-nil ks)); none = λ h. refl }

  nothing : (ys : List Tree) → HasKnown false [] ys
  nothing ys = record { more = ys; same = refl; none = λ h. cc }

  module _ (lawful : AreLawful th) (f : ℕ) (a : (th f).assoc ≡ true) where
    list_of_node : (ps : Trees) → sort_trees (list_under (th f) f (norm th (instance gg (apply f ps)))) ≡ sort_trees (all_pieces (th f).assoc (th f).id f (norms th (instances gg ps)))
    list_of_node ps =
        let zs = norms th (instances gg ps) in
        let all = all_pieces (th f).assoc (th f).id f zs in
        ap sort_trees (list_of_built th f zs a (norms_normal th lawful (instances gg ps))) ∙ sort_arranged (th f).comm all

    mutual
      pub has_known : (p : Tree) → HasKnown (is_bound bound p) (known th bound g x f p) (list_under (th f) f (norm th (instance gg p)))
      has_known (variable i s) = by (has_variable bound (i, s)) refl
        where
          by : (b : Bool) → has_variable bound (i, s) ≡ b → HasKnown b (if b then list_under (th f) f (norm th (g (i, s))) else []) (list_under (th f) f (norm th (gg (i, s))))
          by true e = exact true _ _ (ap (list_under (th f) f) (agree (i, s) e))
          by false e = nothing (list_under (th f) f (norm th (gg (i, s))))
      has_known (numeral n) = exact true _ _ refl
      has_known (apply h ps) = by (have_known ps) (are_bound bound ps) refl (h == f) refl
        where
          by : HasKnown (are_bound bound ps) (known_in th bound g x f ps) (all_pieces (th f).assoc (th f).id f (norms th (instances gg ps))) → (b : Bool) → are_bound bound ps ≡ b → (d : Bool) → (h == f) ≡ d → HasKnown b (if b then list_under (th f) f (norm th (instance g (apply h ps))) else if d then known_in th bound g x f ps else []) (list_under (th f) f (norm th (instance gg (apply h ps))))
          by ih true e d j = exact true _ _ (ap (list_under (th f) f) (bound_norm (apply h ps) e))
          by ih false e false j = nothing (list_under (th f) f (norm th (instance gg (apply h ps))))
          by ih false e true j = record {
            more = ih.more;
            same = subst (λ k. sort_trees (list_under (th f) f (norm th (instance gg (apply k ps)))) ≡ sort_trees (known_in th bound g x f ps ++ ih.more)) (sym (eqb-true h f j)) (list_of_node ps ∙ ih.same);
            none = λ k. cc;
          }

      pub have_known : (ps : Trees) → HasKnown (are_bound bound ps) (known_in th bound g x f ps) (all_pieces (th f).assoc (th f).id f (norms th (instances gg ps)))
      have_known no_trees = exact true [] [] refl
      have_known (tree p ps) =
          let h = has_known p in
          let k = have_known ps in
          record {
            more = h.more ++ k.more;
            same = joined (list_under (th f) f (norm th (instance gg p))) (all_pieces (th f).assoc (th f).id f (norms th (instances gg ps))) (known th bound g x f p) h.more (known_in th bound g x f ps) k.more h.same k.same;
            none = λ b. let e = and_parts (is_bound bound p) (are_bound bound ps) b in ap₂ (λ v w. v ++ w) (h.none e.0) (k.none e.1);
          }

    -- a list has what is known of it and what is not
    mutual
      pub free_known : (p : Tree) → sort_trees (list_under (th f) f (norm th (instance gg p))) ≡ sort_trees (known th bound g x f p ++ free th bound gg f p)
      free_known (variable i s) = by (has_variable bound (i, s)) refl
        where
          by : (b : Bool) → has_variable bound (i, s) ≡ b → sort_trees (list_under (th f) f (norm th (gg (i, s)))) ≡ sort_trees ((if b then list_under (th f) f (norm th (g (i, s))) else []) ++ (if b then [] else list_under (th f) f (norm th (gg (i, s)))))
          by true e = ap sort_trees (ap (list_under (th f) f) (sym (agree (i, s) e)) ∙ sym (append-nil (list_under (th f) f (norm th (g (i, s))))))
          by false e = refl
      free_known (numeral n) = ap sort_trees (sym (append-nil (list_under (th f) f (numeral n))))
      free_known (apply h ps) = by (frees_known ps) (are_bound bound ps) refl (h == f) refl
        where
          by : sort_trees (all_pieces (th f).assoc (th f).id f (norms th (instances gg ps))) ≡ sort_trees (known_in th bound g x f ps ++ frees th bound gg f ps) → (b : Bool) → are_bound bound ps ≡ b → (d : Bool) → (h == f) ≡ d
              → sort_trees (list_under (th f) f (norm th (instance gg (apply h ps)))) ≡ sort_trees ((if b then list_under (th f) f (norm th (instance g (apply h ps))) else if d then known_in th bound g x f ps else []) ++ (if b then [] else if d then frees th bound gg f ps else list_under (th f) f (norm th (instance gg (apply h ps)))))
          by ih true e d j = ap sort_trees (ap (list_under (th f) f) (sym (bound_norm (apply h ps) e)) ∙ sym (append-nil (list_under (th f) f (norm th (instance g (apply h ps))))))
          by ih false e false j = refl
          by ih false e true j = subst (λ k. sort_trees (list_under (th f) f (norm th (instance gg (apply k ps)))) ≡ sort_trees (known_in th bound g x f ps ++ frees th bound gg f ps)) (sym (eqb-true h f j)) (list_of_node ps ∙ ih)

      pub frees_known : (ps : Trees) → sort_trees (all_pieces (th f).assoc (th f).id f (norms th (instances gg ps))) ≡ sort_trees (known_in th bound g x f ps ++ frees th bound gg f ps)
      frees_known no_trees = refl
      frees_known (tree p ps) =
          joined (list_under (th f) f (norm th (instance gg p))) (all_pieces (th f).assoc (th f).id f (norms th (instances gg ps))) (known th bound g x f p) (free th bound gg f p) (known_in th bound g x f ps) (frees th bound gg f ps) (free_known p) (frees_known ps)

-- where a pattern is bound, all elements of its instance are known
pub known_of_bound : (th : ℕ → Theory) (bound : List Variable) (g : Variable → Tree) (x : Variable) (f : ℕ) (p : Tree) → is_bound bound p ≡ true → known th bound g x f p ≡ list_under (th f) f (norm th (instance g p))
known_of_bound th bound g x f (variable i s) b = ap (λ w. if w then list_under (th f) f (norm th (g (i, s))) else []) b
known_of_bound th bound g x f (numeral n) b = refl
known_of_bound th bound g x f (apply h ts) b = ap (λ w. if w then list_under (th f) f (norm th (instance g (apply h ts))) else if h == f then known_in th bound g x f ts else []) b
