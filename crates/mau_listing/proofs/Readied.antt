-- The sorts of what may be a value are settled, or can be, but for the subject.
use Rattle.std.proofs.Common.{◌≡◌, ℕ, List, [], ◌∷◌, true, Some, ◌⊎◌, inl, inr, ⊎_elim, refl, sym, subst}
use Rattle.mau_terms.specs.Tree.{Tree, variable, numeral, apply, Trees, no_trees, tree, node, list_of, trees_of}
use Rattle.mau_terms.specs.Norm.{unit_tree}
use Rattle.mau_terms.specs.Finite.{IsIn, arguments_of}
use Rattle.mau_terms.specs.declared.theory.Identity.{Identity}
use Rattle.mau_terms.specs.declared.theory.Identity.TheVariants.{Const, Num}
use Rattle.mau_terms.specs.declared.theory.Theory.{Theory}
use Rattle.mau_terms.proofs.Pieces.{Each}
use Rattle.mau_store.specs.Node.{Node}
use Rattle.mau_sorts.specs.Table.{Table}
use Rattle.mau_listing.specs.Asked.{IsTreeSettled, IsBelow, IsBelowOne}
use Rattle.mau_listing.specs.Values.{IsPartUnder, MayBeValue, MayBeValueOfOne}
use Rattle.mau_listing.proofs.Parts.{each_at, holds_of_part}

-- ---- terms whose sorts can be settled

-- t is settled, or it is a numeral or a list of an associative operator, and its arguments are settled
abbrev pub AreSettled : List Node → Table → Trees → Type 0
AreSettled nodes table no_trees = Unit {0}
AreSettled nodes table (tree t ts) = IsTreeSettled nodes table t × AreSettled nodes table ts

abbrev pub HasSettledArguments : (ℕ → Theory) → List Node → Table → Tree → Type 0
HasSettledArguments th nodes table (variable i s) = ⊥
HasSettledArguments th nodes table (numeral n) = Unit {0}
HasSettledArguments th nodes table (apply f ts) = ((th f).assoc ≡ true) × AreSettled nodes table ts

abbrev pub CanBeSettled : (ℕ → Theory) → List Node → Table → Tree → Type 0
CanBeSettled th nodes table t = IsTreeSettled nodes table t ⊎ HasSettledArguments th nodes table t

-- ---- subterms

-- an argument is below, and all that is below it
arg_below : (z : Tree) (ts : Trees) → IsIn z (list_of ts) → IsBelowOne z ts
arg_below z no_trees h = absurd h
arg_below z (tree t ts) (inl e) = inl e
arg_below z (tree t ts) (inr h) = inr (inr (arg_below z ts h))

arg_lower : (u z : Tree) (ts : Trees) → IsIn z (list_of ts) → IsBelow u z → IsBelowOne u ts
arg_lower u z no_trees h b = absurd h
arg_lower u z (tree t ts) (inl e) b = inr (inl (subst (IsBelow u) e b))
arg_lower u z (tree t ts) (inr h) b = inr (inr (arg_lower u z ts h b))

pub argument_below : (t z : Tree) → IsIn z (arguments_of t) → IsBelow z t
argument_below (variable i s) z h = absurd h
argument_below (numeral n) z h = absurd h
argument_below (apply f ts) z h = arg_below z ts h

pub argument_lower : (t z u : Tree) → IsIn z (arguments_of t) → IsBelow u z → IsBelow u t
argument_lower (variable i s) z u h b = absurd h
argument_lower (numeral n) z u h b = absurd h
argument_lower (apply f ts) z u h b = arg_lower u z ts h b

nothing_below_unit : (i : Identity) (u : Tree) → IsBelow u (unit_tree i) → ⊥
nothing_below_unit (Const c) u b = b
nothing_below_unit (Num n) u b = b

-- what is below a node is one of its arguments, or below one
pub below_node : (f : ℕ) (ts : List Tree) (u : Tree) → IsBelow u (node f ts) → (z : Tree) × IsIn z ts × ((u ≡ z) ⊎ IsBelow u z)
below_node f [] u b = absurd b
below_node f (t ∷ ts) u (inl e) = (t, inl refl, inl e)
below_node f (t ∷ ts) u (inr (inl b)) = (t, inl refl, inr b)
below_node f (t ∷ ts) u (inr (inr b)) = let one = below_node f ts u b in (one.0, inr one.1, one.2)

module _ (th : ℕ → Theory) (nodes : List Node) (table : Table) (subject : Tree) (identities : (f : ℕ) (i : Identity) → (th f).id ≡ Some i → IsTreeSettled nodes table (unit_tree i)) where
  -- the subject, or what can be settled; and all below is settled
  pub record IsFit (t : Tree) : Type 0 where
    pub fits : (t ≡ subject) ⊎ CanBeSettled th nodes table t
    pub below : (u : Tree) → IsBelow u t → IsTreeSettled nodes table u

  fit_unit : (f : ℕ) (i : Identity) → (th f).id ≡ Some i → IsFit (unit_tree i)
  fit_unit f i e = record { fits = inr (inl (identities f i e)); below = λ u b. absurd (nothing_below_unit i u b) }

  fit_argument : (t z : Tree) → IsFit t → IsIn z (arguments_of t) → IsFit z
  fit_argument t z fit h = record {
    fits = inr (inl (fit.below z (argument_below t z h)));
    below = λ u b. fit.below u (argument_lower t z u h b);
  }

  are_settled : (ts : List Tree) → Each (IsTreeSettled nodes table) ts → AreSettled nodes table (trees_of ts)
  are_settled [] h = tt
  are_settled (t ∷ ts) h = (h.0, are_settled ts h.1)

  -- a list over arguments
  fit_list : (f : ℕ) → (th f).assoc ≡ true → (t : Tree) → IsFit t → (ts : List Tree) → Each (λ u. IsIn u (arguments_of t)) ts → IsFit (node f ts)
  fit_list f a t fit ts within = record {
    fits = inr (inr (a, are_settled ts (all ts within)));
    below = λ u b. at u (below_node f ts u b);
  }
    where
      all : (us : List Tree) → Each (λ u. IsIn u (arguments_of t)) us → Each (IsTreeSettled nodes table) us
      all [] h = tt
      all (u ∷ us) h = (fit.below u (argument_below t u h.0), all us h.1)

      at : (u : Tree) → ((z : Tree) × IsIn z ts × ((u ≡ z) ⊎ IsBelow u z)) → IsTreeSettled nodes table u
      at u (z, i, how) =
          let in_args = each_at (λ w. IsIn w (arguments_of t)) z ts within i in
          ⊎_elim
          (λ (e : u ≡ z). subst (IsTreeSettled nodes table) (sym e) (fit.below z (argument_below t z in_args)))
          (λ (b : IsBelow u z). fit.below u (argument_lower t z u in_args b))
          how

  fit_part : (f : ℕ) (t z : Tree) → IsFit t → IsPartUnder th f t z → IsFit z
  fit_part f t z fit part =
      holds_of_part th f t IsFit (record {
        unit = fit_unit f;
        number = λ n. record { fits = inr (inr tt); below = λ u b. absurd b };
        itself = fit;
        argument = λ w h. fit_argument t w fit h;
        list = λ a ts within. fit_list f a t fit ts within;
      }) z part

  mutual
    pub fit_value : (p t v : Tree) → IsFit t → MayBeValue th p t v → IsFit v
    fit_value (variable i s) t v fit e = subst IsFit (sym e) fit
    fit_value (numeral n) t v fit h = absurd h
    fit_value (apply f ps) t v fit h = fit_values ps h.0 v (fit_part f t h.0 fit h.1) h.2

    fit_values : (ps : Trees) (t v : Tree) → IsFit t → MayBeValueOfOne th ps t v → IsFit v
    fit_values no_trees t v fit h = absurd h
    fit_values (tree p ps) t v fit (inl h) = fit_value p t v fit h
    fit_values (tree p ps) t v fit (inr h) = fit_values ps t v fit h
