-- The values of a pattern's variables are among those that they may have.
use Rattle.std.proofs.Common.{◌≡◌, ℕ, ◌+◌, ◌≤◌, List, [], ◌∷◌, length, Bool, true, false, ◌&&◌, nat_lt, if◌then◌else◌, Option, Some, None, All, inl, inr, refl, sym, ◌∙◌, ap, subst, arith}
use Rattle.std.proofs.lemmas.List.Elements.{All-nil, All-cons}
use Rattle.mau_terms.specs.Tree.{Tree, variable, numeral, apply, Trees, no_trees, tree, node}
use Rattle.mau_terms.specs.Norm.{greatest_numeral, pieces, all_pieces, arrange, finish, over_one, made, build, norm, norms}
use Rattle.mau_terms.specs.Lawful.{AreLawful}
use Rattle.mau_terms.specs.Subst.{Variable, instance, instances, Occurs, OccursIn}
use Rattle.mau_terms.specs.Solution.{list_under}
use Rattle.mau_terms.specs.Finite.{IsIn, arguments_of}
use Rattle.mau_terms.specs.declared.theory.Identity.{Identity}
use Rattle.mau_terms.specs.declared.theory.Theory.{Theory}
use Rattle.mau_terms.proofs.Pieces.{list_of-trees_of, Split, unit, many, one, split, Each, IsPiece, pieces-finish, Each-arrange}
use Rattle.mau_terms.proofs.Normal.{IsNormal, norms_normal, whole_all_pieces}
use Rattle.mau_terms.proofs.Finite.{AllIn, AllIn-itself, AllIn-arrange, in_arrange, length-arrange, pieces_within, length_within, over_its_list, each_in}
use Rattle.mau_listing.specs.Values.{IsPartUnder, identity, itself, argument, one_less, list, MayBeValue, MayBeValueOfOne}

all_in : (xs ys : List Tree) → AllIn xs ys → All (λ u. IsIn u ys) xs
all_in [] ys h = All-nil (λ u. IsIn u ys)
all_in (x ∷ xs) ys h = All-cons (λ u. IsIn u ys) x xs h.0 (all_in xs ys h.1)

module _ (th : ℕ → Theory) (f : ℕ) where
  -- an argument of an associative operator has a part of the list
  assoc_part : (th f).assoc ≡ true → (z : Tree) (zs : List Tree) → Each (IsNormal th) zs → IsIn z zs → IsPartUnder th f (build (th f) f zs) z
  assoc_part a z zs n h =
      let u = (th f).id in
      let l = list_under (th f) f (build (th f) f zs) in
      let all = all_pieces (th f).assoc u f zs in
      let e : l ≡ arrange (th f).comm all = by (th f).assoc a (whole_all_pieces th f zs n) in
      let p : AllIn (list_under (th f) f z) l = subst (λ w. AllIn (list_under (th f) f z) w) (sym e) (AllIn-arrange (th f).comm (list_under (th f) f z) all (pieces_within (th f).assoc u f z zs h)) in
      let k : length (list_under (th f) f z) ≤ length l = omega (arith, ap length e, length-arrange (th f).comm all, length_within (th f).assoc u f z zs h) in
      list (list_under (th f) f z) a (all_in (list_under (th f) f z) l p) k (sym (over_its_list th f z a (each_in th (IsNormal th) z zs n h)))
    where
      by : (b : Bool) → b ≡ true → Each (IsPiece b (th f).id f) (all_pieces b (th f).id f zs) → pieces b (th f).id f (finish b (th f).id (th f).succ f (arrange (th f).comm (all_pieces b (th f).id f zs))) ≡ arrange (th f).comm (all_pieces b (th f).id f zs)
      by true eb w = pieces-finish (th f).id (th f).succ f (arrange (th f).comm (all_pieces true (th f).id f zs)) (Each-arrange (IsPiece true (th f).id f) (th f).comm (all_pieces true (th f).id f zs) w)
      by false eb w = cc

  among_args : (t : Tree) (ys : List Tree) (z : Tree) → t ≡ node f ys → IsIn z ys → IsPartUnder th f t z
  among_args t ys z e h = argument (subst (IsIn z) (sym (list_of-trees_of ys) ∙ ap arguments_of (sym e)) h)

  -- one of another operator is the whole, an argument, or the numeral before
  finish_part : (u : Option Identity) (s : Bool) (ys : List Tree) (z : Tree) → IsIn z ys → IsPartUnder th f (finish false u s f ys) z
  finish_part u s [] z h = absurd h
  finish_part (Some i) s (y ∷ []) z (inl e) = itself e
  finish_part (Some i) s (y ∷ []) z (inr h) = absurd h
  finish_part None s (y ∷ []) z (inr h) = absurd h
  finish_part None s (y ∷ []) z (inl e) = by y e
    where
      by : (v : Tree) → z ≡ v → IsPartUnder th f (over_one s f v) z
      by (variable i r) k = among_args (node f (variable i r ∷ [])) (variable i r ∷ []) z refl (inl k)
      by (apply g ts) k = among_args (node f (apply g ts ∷ [])) (apply g ts ∷ []) z refl (inl k)
      by (numeral n) k = at (s && nat_lt n greatest_numeral)
        where
          at : (b : Bool) → IsPartUnder th f (if b then numeral (n + 1) else node f (numeral n ∷ [])) z
          at true = one_less n refl k
          at false = among_args (node f (numeral n ∷ [])) (numeral n ∷ []) z refl (inl k)
  finish_part None s (y ∷ y' ∷ ys) z h = among_args (node f (y ∷ y' ∷ ys)) (y ∷ y' ∷ ys) z refl h
  finish_part (Some i) s (y ∷ y' ∷ ys) z h = among_args (node f (y ∷ y' ∷ ys)) (y ∷ y' ∷ ys) z refl h

  other_part : (th f).assoc ≡ false → (z : Tree) (zs : List Tree) → IsIn z zs → IsPartUnder th f (build (th f) f zs) z
  other_part a z zs h = by (split false (th f).id f z)
    where
      by : Split false (th f).id f z → IsPartUnder th f (build (th f) f zs) z
      by (unit i e k p) = identity i e k
      by (many ts e k p) = cc
      by (one p) =
          let within : AllIn (z ∷ []) (all_pieces false (th f).id f zs) = subst (λ w. AllIn w (all_pieces false (th f).id f zs)) p (pieces_within false (th f).id f z zs h) in
          subst (λ b. IsPartUnder th f (made b (th f).comm (th f).id (th f).succ f zs) z) (sym a)
          (finish_part (th f).id (th f).succ (arrange (th f).comm (all_pieces false (th f).id f zs)) z (in_arrange (th f).comm z (all_pieces false (th f).id f zs) within.0))

  pub part_of_built : (z : Tree) (zs : List Tree) → Each (IsNormal th) zs → IsIn z zs → IsPartUnder th f (build (th f) f zs) z
  part_of_built z zs n h = by (th f).assoc refl
    where
      by : (a : Bool) → (th f).assoc ≡ a → IsPartUnder th f (build (th f) f zs) z
      by true e = assoc_part e z zs n h
      by false e = other_part e z zs h

module _ (th : ℕ → Theory) (lawful : AreLawful th) (g : Variable → Tree) (x : Variable) where
  mutual
    -- the normal form of the value of a variable of a pattern
    pub value_may_be : (p : Tree) → Occurs x p → MayBeValue th p (norm th (instance g p)) (norm th (g x))
    value_may_be (variable i s) o = ap (λ y. norm th (g y)) o
    value_may_be (numeral n) o = absurd o
    value_may_be (apply f ps) o =
        value_of_one ps o (norms th (instances g ps)) (AllIn-itself (norms th (instances g ps))) f (norm th (instance g (apply f ps)))
        (λ z h. part_of_built th f z (norms th (instances g ps)) (norms_normal th lawful (instances g ps)) h)

    value_of_one : (ps : Trees) → OccursIn x ps → (zs : List Tree) → AllIn (norms th (instances g ps)) zs → (f : ℕ) (t : Tree) → ((z : Tree) → IsIn z zs → IsPartUnder th f t z)
        → (z : Tree) × IsPartUnder th f t z × MayBeValueOfOne th ps z (norm th (g x))
    value_of_one no_trees o zs w f t h = absurd o
    value_of_one (tree p ps) (inl o) zs w f t h = (norm th (instance g p), h (norm th (instance g p)) w.0, inl (value_may_be p o))
    value_of_one (tree p ps) (inr o) zs w f t h =
        let one = value_of_one ps o zs w.1 f t h in (one.0, one.1, inr one.2)
