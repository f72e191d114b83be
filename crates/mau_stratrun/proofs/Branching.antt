-- The successors of `E ? F : G`.
use Rattle.std.proofs.Common.{◌≡◌, ◌≤◌, List, [], ◌∷◌, ◌++◌, length, inl, inr, refl, sym, ap, ◌∙◌, subst, arith, length-append, append-nil}
use Rattle.mau_terms.specs.Tree.{Tree}
use Rattle.mau_evaluation.specs.Engine.{Engine, engine_of}
use Rattle.mau_evaluation.specs.Strategy.{Strategy, branch}
use Rattle.mau_evaluation.specs.Configs.{Todo, Frame, Config, on, with_form, inside, NextBy}
use Rattle.mau_evaluation.specs.OrderedLists.{LeafList, BodyList}
use Rattle.mau_evaluation.specs.Entries.{IsFront, OpensBy, LeafFront, BodyFront, NextOf, BeginsWith}
use Rattle.mau_stratrun.specs.Settings.{Fixed}
use Rattle.mau_stratrun.specs.Yields.{BeginsBy, NextBy as AllBy}
use Rattle.mau_stratrun.proofs.Answering.{then_so, always}

-- a list that is no shorter than one that it begins is that one
whole_front : {A : Type 0} (xs ys : List A) → IsFront xs ys → length ys ≤ length xs → ys ≡ xs
whole_front {A = A} xs ys h l = by h.0 h.1
  where
    by : (zs : List A) → ys ≡ xs ++ zs → ys ≡ xs
    by [] e = e ∙ append-nil xs
    by (z ∷ zs) e = absurd (omega (arith, length-append xs (z ∷ zs), ap length e))

module _ (f : Fixed) (t : Tree) (d : Todo) (e g h : Strategy) (q : d.form ≡ branch e g h) (ds : List Todo) (xs : List Frame) where
  abbrev pub into : Config
  into = on t (with_form d e ∷ []) (inside d g t ds ∷ xs)

  abbrev pub behind : Config
  behind = on t (with_form d h ∷ ds) xs

  abbrev pub whole : Config
  whole = on t (d ∷ ds) xs

  empty : {A : Type 0} (zs : List A) → length zs ≡ 0 → zs ≡ []
  empty [] k = refl
  empty (z ∷ zs) k = absurd (omega arith)

  -- the first successor
  pub goes_inside : (given : List Config) → length given ≡ 0 → BeginsBy f whole (given ++ into ∷ [])
  goes_inside given n = subst (λ w. BeginsBy f whole (w ++ into ∷ [])) (sym (empty given n)) (always (engine_of f.program) (λ L. inr (inl (subst (λ z. OpensBy z t d ds xs (into ∷ [])) (sym q) refl))))

  -- where two were given they are all
  both_by : (L : Engine) (given : List Config) → 2 ≤ length given → BeginsWith f.program L f.definitions whole given → NextOf f.program L f.definitions whole given
  both_by L given l (inl n) = absurd (omega (arith, ap length n))
  both_by L given l (inr (inl o)) = absurd (one (subst (λ z. OpensBy z t d ds xs given) q o))
    where
      one : given ≡ into ∷ [] → ⊥
      one k = omega (arith, ap length k)
  both_by L given l (inr (inr a)) = by (subst (λ z. NextBy f.program L f.definitions (LeafFront f.program L f.definitions) (BodyFront f.program L f.definitions) z t d ds xs a.0) q a.1)
    where
      by : NextBy f.program L f.definitions (LeafFront f.program L f.definitions) (BodyFront f.program L f.definitions) (branch e g h) t d ds xs a.0 → NextOf f.program L f.definitions whole given
      by (inl n) = absurd (short n.2)
        where
          short : a.0 ≡ into ∷ [] → ⊥
          short k = omega (arith, ap length k, ap length (a.2).1, length-append given (a.2).0)
      by (inr n) = subst (λ z. NextBy f.program L f.definitions (LeafList f.program L) (BodyList f.program L f.definitions) z t d ds xs given) (sym q) (inr (n.0, n.1, sym (same n.2) ∙ n.2))
        where
          same : a.0 ≡ into ∷ behind ∷ [] → a.0 ≡ given
          same k = whole_front given a.0 a.2 (omega (arith, ap length k))

  pub both_given : (given : List Config) → 2 ≤ length given → BeginsBy f whole given → AllBy f whole given
  both_given given l b = then_so (engine_of f.program) (λ L p. both_by L given l p) b
