-- What may be an argument of an operator, by cases: what holds of each case holds of it.
use Rattle.std.proofs.Common.{◌≡◌, ℕ, ◌≤◌, List, [], ◌∷◌, length, true, Option, Some, None, All, inl, inr, ⊎_elim, refl, sym, ap, subst, arith}
use Rattle.std.proofs.lemmas.List.Elements.{All-head, All-tail}
use Rattle.mau_terms.specs.Tree.{Tree, numeral, node}
use Rattle.mau_terms.specs.Norm.{unit_tree, arrange, finish}
use Rattle.mau_terms.specs.Solution.{list_under}
use Rattle.mau_terms.specs.Finite.{IsIn, arguments_of}
use Rattle.mau_terms.specs.declared.theory.Identity.{Identity}
use Rattle.mau_terms.specs.declared.theory.Theory.{Theory}
use Rattle.mau_terms.proofs.Pieces.{Split, unit, many, one, split, Each, Each-arrange}
use Rattle.mau_terms.proofs.Finite.{length-arrange}
use Rattle.mau_listing.specs.Values.{IsPartUnder, identity, itself, argument, one_less, list}

each_is : (P : Tree → Type 0) (ts : List Tree) → All P ts → Each P ts
each_is P [] h = tt
each_is P (t ∷ ts) h = (All-head P t ts h, each_is P ts (All-tail P t ts h))

pub each_at : (P : Tree → Type 0) (z : Tree) (ts : List Tree) → Each P ts → IsIn z ts → P z
each_at P z [] h i = absurd i
each_at P z (t ∷ ts) h (inl e) = subst P (sym e) h.0
each_at P z (t ∷ ts) h (inr i) = each_at P z ts h.1 i

-- Q holds of what may be an argument of f, where the normal form of f is t
pub record HoldsOfParts (th : ℕ → Theory) (f : ℕ) (t : Tree) (Q : Tree → Type 0) : Type 0 where
  pub unit : (i : Identity) → (th f).id ≡ Some i → Q (unit_tree i)
  pub number : (n : ℕ) → Q (numeral n)
  pub itself : Q t
  pub argument : (z : Tree) → IsIn z (arguments_of t) → Q z
  pub list : (th f).assoc ≡ true → (ts : List Tree) → Each (λ u. IsIn u (arguments_of t)) ts → Q (node f ts)

module _ (th : ℕ → Theory) (f : ℕ) (t : Tree) (Q : Tree → Type 0) (holds : HoldsOfParts th f t Q) where
  -- ws stands in order, and its elements are in the list of t
  holds_of_finish : (th f).assoc ≡ true → (ws : List Tree) → Each (λ u. IsIn u (list_under (th f) f t)) ws → length ws ≤ length (list_under (th f) f t)
      → (id : Option Identity) → (th f).id ≡ id → Q (finish true id (th f).succ f ws)
  holds_of_finish a [] within short None e = holds.list a [] tt
  holds_of_finish a [] within short (Some i) e = holds.unit i e
  holds_of_finish a (y ∷ []) within short id e = by id (split (th f).assoc (th f).id f t)
    where
      found : Split (th f).assoc (th f).id f t → Q y
      found (unit i u k p) = absurd (subst (IsIn y) p within.0)
      found (many ts b k p) = holds.argument y (subst (IsIn y) (ap arguments_of (sym k)) (subst (IsIn y) p within.0))
      found (one p) = ⊎_elim (λ (h : y ≡ t). subst Q (sym h) holds.itself) (λ h. absurd h) (subst (IsIn y) p within.0)

      by : (o : Option Identity) → Split (th f).assoc (th f).id f t → Q (finish true o (th f).succ f (y ∷ []))
      by None s = found s
      by (Some i) s = found s
  holds_of_finish a (y ∷ y' ∷ ys) within short id e = by id (split (th f).assoc (th f).id f t)
    where
      found : Split (th f).assoc (th f).id f t → Q (node f (y ∷ y' ∷ ys))
      found (unit i u k p) = absurd (subst (IsIn y) p within.0)
      found (many ts b k p) = holds.list a (y ∷ y' ∷ ys) (each (y ∷ y' ∷ ys) within)
        where
          each : (us : List Tree) → Each (λ u. IsIn u (list_under (th f) f t)) us → Each (λ u. IsIn u (arguments_of t)) us
          each [] h = tt
          each (u ∷ us) h = (subst (IsIn u) (ap arguments_of (sym k)) (subst (IsIn u) p h.0), each us h.1)
      found (one p) = absurd (omega (arith, short, ap length p))

      by : (o : Option Identity) → Split (th f).assoc (th f).id f t → Q (finish true o (th f).succ f (y ∷ y' ∷ ys))
      by None s = found s
      by (Some i) s = found s

  pub holds_of_part : (z : Tree) → IsPartUnder th f t z → Q z
  holds_of_part z (identity i u e) = subst Q (sym e) (holds.unit i u)
  holds_of_part z (itself e) = subst Q (sym e) holds.itself
  holds_of_part z (argument h) = holds.argument z h
  holds_of_part z (one_less n k e) = subst Q (sym e) (holds.number n)
  holds_of_part z (list ts a within short e) =
      subst Q (sym e)
      (subst (λ b. Q (finish b (th f).id (th f).succ f (arrange (th f).comm ts))) (sym a)
      (holds_of_finish a (arrange (th f).comm ts)
      (Each-arrange (λ u. IsIn u (list_under (th f) f t)) (th f).comm ts (each_is (λ u. IsIn u (list_under (th f) f t)) ts within))
      (omega (arith, short, length-arrange (th f).comm ts)) (th f).id refl))
