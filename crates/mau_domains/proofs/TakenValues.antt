-- The next of what a term can take is the next value of a part, or the one behind the whole.
use Rattle.std.proofs.Common.{◌≡◌, ◌&&◌, ℕ, Bool, true, false, Option, Some, None, is_none, inl, inr, refl, sym, ◌∙◌, ap, subst}
use Rattle.std.specs.declared.cmp.Ordering.{Ordering}
use Rattle.std.specs.declared.cmp.Ordering.TheVariants.{Less, Equal, Greater}
use Rattle.std.specs.Ordering.{is_eq}
use Rattle.std.specs.Cmp.{tied_itself}
use Rattle.std.proofs.lemmas.Bool.{and_parts}
use Rattle.mau_terms.specs.Tree.{Tree}
use Rattle.mau_terms.specs.Order.{tree_cmp}
use Rattle.mau_terms.specs.Norm.{norm}
use Rattle.mau_terms.specs.Bare.{TermSignature, IsBareIn, IsLawful}
use Rattle.mau_terms.specs.Reading.{reading}
use Rattle.mau_terms.specs.CanTake.{CanTakeNormal}
use Rattle.mau_terms.specs.declared.theory.Identity.{Identity}
use Rattle.mau_terms.proofs.Orders.{tree_total, tree_tied}
use Rattle.mau_domains.specs.Search.{IsValueBehind, IsLeastOrNone}
use Rattle.mau_domains.specs.Values.{IsValueOf, by_key}
use Rattle.mau_domains.specs.Taken.{inside_part, is_tree}
use Rattle.mau_domains.proofs.Keys.{key_total}
use Rattle.mau_domains.proofs.Least.{Given}
use Rattle.mau_domains.proofs.TakenLists.{taken_value, taken_less, value_taken}

pub eq_equal : (o : Ordering) → is_eq o ≡ true → o ≡ Equal
eq_equal Less e = cc
eq_equal Equal e = refl
eq_equal Greater e = cc

module _ (s : TermSignature) (lawful : IsLawful s) (f : ℕ) (a : (s.theory f).assoc ≡ true) (h : s.has_operator f ≡ true) (t : Tree) (n : norm s.theory t ≡ t) (b : IsBareIn s (reading s.theory t) (s.result f)) (after : Option Tree) where
  abbrev Taken : Tree → Type 0
  Taken = CanTakeNormal s f t

  abbrev Value : Tree → Type 0
  Value = IsValueOf s.theory (inside_part s.theory f t)

  abbrev cmp : ℕ → Tree → Tree → Ordering
  cmp = by_key s.theory (Some f)

  -- all of its values can be taken, but for the term itself where there is no identity
  kept : (o : Option Tree) → IsLeastOrNone (by_key s.theory (Some f)) (IsValueOf s.theory (inside_part s.theory f t)) 0 after o → Given (IsValueOf s.theory (inside_part s.theory f t)) o
      → ((v : Tree) → o ≡ Some v → (s.theory f).id ≡ None → v ≡ t → ⊥)
      → IsLeastOrNone (by_key s.theory (Some f)) (CanTakeNormal s f t) 0 after o × Given (CanTakeNormal s f t) o
  kept None l g m = (λ v x k. l v (taken_value s lawful f a t v x) k, tt)
  kept (Some w) l g m = ((l.0, λ v x k. l.1 v (taken_value s lawful f a t v x) k), value_taken s lawful f a h t w n b g (m w refl))

  both_false : (c d : Bool) → (c && d) ≡ false → c ≡ true → d ≡ true → ⊥
  both_false true true e g h = cc
  both_false true false e g h = cc
  both_false false d e g h = cc

  pub taken_first : (o : Option Tree) → IsLeastOrNone (by_key s.theory (Some f)) (IsValueOf s.theory (inside_part s.theory f t)) 0 after o → Given (IsValueOf s.theory (inside_part s.theory f t)) o
      → (is_none (s.theory f).id && is_tree o t) ≡ false
      → IsLeastOrNone (by_key s.theory (Some f)) (CanTakeNormal s f t) 0 after o × Given (CanTakeNormal s f t) o
  taken_first o l g m = kept o l g (λ v e k j. both_false (is_none (s.theory f).id) (is_tree o t) m (ap is_none k) (ap (λ w. is_tree w t) e ∙ ap (λ w. is_eq (tree_cmp w t)) j ∙ ap is_eq (tied_itself tree_total t)))

  -- behind the term itself
  pub taken_second : (o p : Option Tree) → IsLeastOrNone (by_key s.theory (Some f)) (IsValueOf s.theory (inside_part s.theory f t)) 0 after o
      → (is_none (s.theory f).id && is_tree o t) ≡ true
      → IsLeastOrNone (by_key s.theory (Some f)) (IsValueOf s.theory (inside_part s.theory f t)) 0 (Some t) p → Given (IsValueOf s.theory (inside_part s.theory f t)) p
      → IsLeastOrNone (by_key s.theory (Some f)) (CanTakeNormal s f t) 0 after p × Given (CanTakeNormal s f t) p
  taken_second None p l m lp gp = absurd (let k = and_parts (is_none (s.theory f).id) false m in let j : false ≡ true = k.1 in cc)
  taken_second (Some w) p l m lp gp = by p lp gp
    where
      same : w ≡ t
      same = tree_tied w t (eq_equal (tree_cmp w t) (and_parts (is_none (s.theory f).id) (is_eq (tree_cmp w t)) m).1)

      none : (u : Option Identity) → is_none u ≡ true → u ≡ None
      none None e = refl
      none (Some i) e = cc

      no_unit : (s.theory f).id ≡ None
      no_unit = none (s.theory f).id (and_parts (is_none (s.theory f).id) (is_eq (tree_cmp w t)) m).0

      -- what is behind `after` and can be taken is behind the term
      behind : (v : Tree) → CanTakeNormal s f t v → IsValueBehind (by_key s.theory (Some f)) 0 after v → by_key s.theory (Some f) 0 t v ≡ Less
      behind v x k = elim (l.1 v (taken_value s lawful f a t v x) k) [
        | inl m ↦ subst (λ y. by_key s.theory (Some f) 0 y v ≡ Less) same m
        | inr e ↦ absurd (taken_less s lawful f a t v x no_unit (sym e ∙ same))
      ]

      onward : (v : Tree) → (o : Option Tree) → IsValueBehind (by_key s.theory (Some f)) 0 o w → by_key s.theory (Some f) 0 t v ≡ Less → IsValueBehind (by_key s.theory (Some f)) 0 o v
      onward v None m k = tt
      onward v (Some y) m k = (key_total s.theory (Some f) 0).trans y t v (subst (λ z. by_key s.theory (Some f) 0 y z ≡ Less) same m) k

      by : (p : Option Tree) → IsLeastOrNone (by_key s.theory (Some f)) (IsValueOf s.theory (inside_part s.theory f t)) 0 (Some t) p → Given (IsValueOf s.theory (inside_part s.theory f t)) p
          → IsLeastOrNone (by_key s.theory (Some f)) (CanTakeNormal s f t) 0 after p × Given (CanTakeNormal s f t) p
      by None m g = (λ v x k. m v (taken_value s lawful f a t v x) (behind v x k), tt)
      by (Some y) m g = (
        (onward y after l.0 m.0, λ v x k. m.1 v (taken_value s lawful f a t v x) (behind v x k)),
        value_taken s lawful f a h t y n b g (λ k e. not_itself (subst (λ z. by_key s.theory (Some f) 0 t z ≡ Less) e m.0)),
      )
        where
          not_itself : by_key s.theory (Some f) 0 t t ≡ Less → ⊥
          not_itself k = let j : by_key s.theory (Some f) 0 t t ≡ Equal = tied_itself (key_total s.theory (Some f) 0) t in let z : Less ≡ Equal = sym k ∙ j in absurd (cc)
