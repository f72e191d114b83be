-- Lists that are compared element by element.
use Rattle.std.proofs.Common.{◌≡◌, ◌↔◌, ℕ, zero, suc, ◌<◌, List, [], ◌∷◌, length, map, get_or, refl, ap, sym, ◌∙◌, arith}
use Rattle.mau_terms.specs.Subst.{Variable}
use Rattle.mau_terms.specs.View.{tree_of, variable_of}
use Rattle.mau_terms.specs.declared.bare.Bare.{Bare}
use Rattle.mau_api.specs.Programs.{fragment_of}
use Rattle.mau_evaluation.specs.Strategy as Meant
use Rattle.mau_evaluation.specs.Strategy.{Strategy, PartUses, no_parts, part_use, Strategies, no_strategies, strategy}
use Rattle.mau_program.specs.Trees.{StrategyOf, part_rewrite, label_by}
use Rattle.mau_program.specs.declared.statements.Fragment.{Fragment}
use Rattle.mau_program.specs.declared.strategies.TestKind.{TestKind}
use Rattle.mau_program.specs.declared.strategies.Assign.{Assign}
use Rattle.mau_program.specs.Strategies.{strategies_of, uses_of}
use Rattle.mau_program.specs.declared.strategies.PartUse.{PartUse}
use Rattle.mau_stratforms.specs.Meanings.{kind_of, assign_of, meaning_of, meanings_of, parts_of}
use Rattle.mau_stratforms.specs.Parts.{part_of}

module _ {A B : Type 0} (f : A → B) where
  view_at : (xs : List A) (i : ℕ) (x : A) (d : B) → i < length xs → get_or (map f xs) i d ≡ f (get_or xs i x)
  view_at [] i x d h = absurd (omega arith)
  view_at (y ∷ xs) zero x d h = refl
  view_at (y ∷ xs) (suc i) x d h = view_at xs i x d (omega arith)

  pub same_at : (xs ys : List A) (i : ℕ) (x y : A) → i < length xs → i < length ys → x ≡ get_or xs i x → y ≡ get_or ys i y → map f xs ≡ map f ys → f x ≡ f y
  same_at xs ys i x y h k p q e = ap f p ∙ (sym (view_at xs i x (f x) h) ∙ (ap (λ l. get_or l i (f x)) e ∙ (view_at ys i y (f x) k ∙ ap f (sym q))))

-- ---- lists of strategies, and of uses of parts: they are one where the lists of what they mean are

abbrev from_list : List Strategy → Strategies
from_list [] = no_strategies
from_list (s ∷ ss) = strategy s (from_list ss)

abbrev to_list : Strategies → List Strategy
to_list no_strategies = []
to_list (strategy s ss) = s ∷ to_list ss

forth : (xs : List StrategyOf) → meanings_of (strategies_of xs) ≡ from_list (map meaning_of xs)
forth [] = refl
forth (x ∷ xs) = ap (strategy (meaning_of x)) (forth xs)

back : (xs : List StrategyOf) → to_list (meanings_of (strategies_of xs)) ≡ map meaning_of xs
back [] = refl
back (x ∷ xs) = ap (λ ss. meaning_of x ∷ ss) (back xs)

pub strategies_same : (xs ys : List StrategyOf) → map meaning_of xs ≡ map meaning_of ys → meanings_of (strategies_of xs) ≡ meanings_of (strategies_of ys)
strategies_same xs ys e = forth xs ∙ (ap from_list e ∙ sym (forth ys))

pub same_strategies : (xs ys : List StrategyOf) → meanings_of (strategies_of xs) ≡ meanings_of (strategies_of ys) → map meaning_of xs ≡ map meaning_of ys
same_strategies xs ys e = sym (back xs) ∙ (ap to_list e ∙ back ys)

abbrev from_parts : List (Variable × Strategy) → PartUses
from_parts [] = no_parts
from_parts (p ∷ ps) = part_use p.0 p.1 (from_parts ps)

abbrev to_parts : PartUses → List (Variable × Strategy)
to_parts no_parts = []
to_parts (part_use v s us) = (v, s) ∷ to_parts us

parts_forth : (us : List PartUse) → parts_of (uses_of us) ≡ from_parts (map part_of us)
parts_forth [] = refl
parts_forth (u ∷ us) = ap (part_use (variable_of u.var) (meaning_of u.strategy)) (parts_forth us)

parts_back : (us : List PartUse) → to_parts (parts_of (uses_of us)) ≡ map part_of us
parts_back [] = refl
parts_back (u ∷ us) = ap (λ ps. part_of u ∷ ps) (parts_back us)

pub parts_same : (us vs : List PartUse) → map part_of us ≡ map part_of vs → parts_of (uses_of us) ≡ parts_of (uses_of vs)
parts_same us vs e = parts_forth us ∙ (ap from_parts e ∙ sym (parts_forth vs))

pub same_parts : (us vs : List PartUse) → parts_of (uses_of us) ≡ parts_of (uses_of vs) → map part_of us ≡ map part_of vs
same_parts us vs e = sym (parts_back us) ∙ (ap to_parts e ∙ parts_back vs)

-- ---- forms with strategies inside

pub part_rewrites_same : (k l : TestKind) (p q : Bare) (c d : List Fragment) (us vs : List PartUse) → (kind_of k ≡ kind_of l) × (tree_of p ≡ tree_of q) × (map fragment_of c ≡ map fragment_of d) →
    (map part_of us ≡ map part_of vs) ↔ (meaning_of (part_rewrite k p c (uses_of us)) ≡ meaning_of (part_rewrite l q d (uses_of vs)))
part_rewrites_same k l p q c d us vs h = (
  λ e. let m = parts_same us vs e in λ i. Meant.part_rewrite (h.0 i) (h.1 i) (h.2 i) (m i),
  λ e. let m : parts_of (uses_of us) ≡ parts_of (uses_of vs) = cc in same_parts us vs m,
)

pub label_bys_same : (l m : List ℕ) (xs ys : List Assign) (ss ts : List StrategyOf) → (l ≡ m) × (map assign_of xs ≡ map assign_of ys) →
    (map meaning_of ss ≡ map meaning_of ts) ↔ (meaning_of (label_by l xs (strategies_of ss)) ≡ meaning_of (label_by m ys (strategies_of ts)))
label_bys_same l m xs ys ss ts h = (
  λ e. let n = strategies_same ss ts e in λ i. Meant.label_by (h.0 i) (h.1 i) (n i),
  λ e. let n : meanings_of (strategies_of ss) ≡ meanings_of (strategies_of ts) = cc in same_strategies ss ts n,
)
