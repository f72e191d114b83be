-- Allowed answers: what an evaluator answers is one, and where nothing is remembered and nothing derived there is one alone.
use Rattle.std.proofs.Common.{◌≡◌, ◌<◌, ◌≤◌, ◌+◌, ◌-◌, ℕ, List, Bool, true, false, Ok, Err, ⊎_elim, refl, sym, ◌∙◌, ap, subst, arith}
use Rattle.std.proofs.Math.Nat.{add-sub_of_le, le_refl, add_comm}
use Rattle.std.proofs.lemmas.Bool.{cases_lt}
use Rattle.mau_terms.specs.Tree.{Tree}
use Rattle.mau_store.specs.Node.{Node}
use Rattle.mau_store.specs.Trees.{tree_at}
use Rattle.mau_evaluation.specs.Run.{End, stopped, too_deep, overflowed, Run, Outcome, done, ended}
use Rattle.mau_evaluation.specs.Irreducible.{IsUnconditional}
use Rattle.mau_evaluation.specs.Kept.{Spends}
use Rattle.mau_evaluation.specs.Higher.{with_more}
use Rattle.mau_api.specs.Meanings.{Meanings, AreMeanings, StaysUnderLimits, program_of}
use Rattle.mau_api.specs.Answers.{IsAnswered, IsExact, IsAllowed}
use Rattle.mau_api.specs.declared.results.EvalEnd.{EvalEnd}
use Rattle.mau_api.specs.declared.results.EvalEnd.TheVariants.{Stopped, TooDeep, Overflow}
use Rattle.mau_api.specs.declared.results.Reduced.{Reduced}
use Rattle.mau_results.specs.Results.{HasShownSort, item_levels, shown_count, DerivesNothing, AnswerOf, gives_value, ends_by, PlainAnswer, plain_value, plain_end, HasCause, MayAnswer}
use Rattle.mau_results.specs.Laws.{AnswersAreOne}
use Rattle.mau_results.proofs.ShownSorts.{shown_sort_once}

-- ---- ends and values exclude each other

-- a value stands under K levels
module _ {A : Type 0} (f : ℕ → ℕ → Run A) (stays : StaysUnderLimits f) (K each b : ℕ) (x : A) (r left : ℕ) (given : f K each b ≡ done x r left) where
  -- the same value is given under larger limits
  pub under_larger : (k B c : ℕ) → K ≤ k → each ≤ B → b ≤ c → f k B c ≡ done x r (left + (c - b))
  under_larger k B c i j l = subst (λ n. f k B n ≡ done x r (left + (c - b))) (add-sub_of_le l) ((stays.stays K k each B b (c - b) i j).0 x r left given)

  not_stopped : (k : ℕ) → f k each b ≡ ended stopped → ⊥
  not_stopped k e = ⊎_elim lower higher (cases_lt k K)
    where
      lower : k < K → ⊥
      lower i = ⊎_elim (λ (d : f k each b ≡ ended too_deep). cc) (λ (same : f k each b ≡ f K each b). cc) (stays.levels k K each (omega arith) b)

      higher : K ≤ k → ⊥
      higher i = let d : f k each b ≡ done x r (left + (b - b)) = under_larger k each b i (le_refl each) (le_refl b) in cc

  pub not_too_deep : (B c : ℕ) → f K B c ≡ ended too_deep → ⊥
  not_too_deep B c e = ⊎_elim (λ (s : f K B c ≡ ended stopped). cc) more (stays.budgets K B (B + each) (omega arith) c b)
    where
      d : f K (B + each) (b + c) ≡ done x r (left + c)
      d = (stays.stays K K each (B + each) b c (le_refl K) (omega arith)).0 x r left given

      more : f K (B + each) (c + b) ≡ with_more b (f K B c) → ⊥
      more m =
          let m' : f K (B + each) (c + b) ≡ ended too_deep = m ∙ ap (with_more b) e in
          let d' : f K (B + each) (c + b) ≡ done x r (left + c) = subst (λ n. f K (B + each) n ≡ done x r (left + c)) (add_comm b c) d in cc

  pub not_overflowed : (k B c : ℕ) → K ≤ k → each ≤ B → b ≤ c → f k B c ≡ ended overflowed → ⊥
  not_overflowed k B c i j l e = let d = under_larger k B c i j l in cc

-- so no end has a cause
no_cause : (f : ℕ → ℕ → Run Tree) → StaysUnderLimits f → (b : ℕ) (x : Tree) (r left : ℕ) → f item_levels b b ≡ done x r left → (e : End) → HasCause f b e → ⊥
no_cause f stays b x r left given stopped (k, is) = not_stopped f stays item_levels b b x r left given k is
no_cause f stays b x r left given too_deep (B, c, is) = not_too_deep f stays item_levels b b x r left given B c is
no_cause f stays b x r left given overflowed (k, B, c, i, j, l, is) = not_overflowed f stays item_levels b b x r left given k B c i j l is

-- the end of an evaluator
abbrev pub evaluator_end : End → EvalEnd
evaluator_end stopped = Stopped
evaluator_end too_deep = TooDeep
evaluator_end overflowed = Overflow

-- ---- plain answers

module _ (m : Meanings) (laws : AreMeanings m) (t : Tree) where
  -- what a plain value is
  record IsValue (k B b : ℕ) (v : Tree) (s n : ℕ) : Type 0 where
    count : ℕ
    left : ℕ
    given : m.evaluation k B t b ≡ done v count left
    sort : HasShownSort m v s
    shown : n ≡ shown_count count

  value_of : (k B b : ℕ) (v : Tree) (s n : ℕ) → PlainAnswer m t k B b (gives_value v s n) → IsValue k B b v s n
  value_of k B b v s n (plain_value v' s' r left given sort) = record { count = r; left = left; given = given; sort = sort; shown = refl }

  end_of : (k B b : ℕ) (e : End) → PlainAnswer m t k B b (ends_by e) → m.evaluation k B t b ≡ ended e
  end_of k B b e (plain_end e' is) = is

  -- two values are one
  values_once : (v w : Tree) (s q n o r r' : ℕ) → (v ≡ w) × (r ≡ r') → HasShownSort m v s → HasShownSort m w q → n ≡ shown_count r → o ≡ shown_count r' → gives_value v s n ≡ gives_value w q o
  values_once v w s q n o r r' (e, k) a b i j =
      let sorts : s ≡ q = shown_sort_once m laws v s q a (subst (λ u. HasShownSort m u q) (sym e) b) in
      let counts : n ≡ o = i ∙ ap shown_count k ∙ sym j in cc

  pub plain_once : (k B b : ℕ) (a c : AnswerOf) → PlainAnswer m t k B b a → PlainAnswer m t k B b c → a ≡ c
  plain_once k B b (gives_value v s n) (gives_value w q o) x y =
      let i = value_of k B b v s n x in
      let j = value_of k B b w q o y in
      let same : done v i.count i.left ≡ done w j.count j.left = sym i.given ∙ j.given in
      let e : v ≡ w = cc in
      let c : i.count ≡ j.count = cc in
      values_once v w s q n o i.count j.count (e, c) i.sort j.sort i.shown j.shown
  plain_once k B b (gives_value v s n) (ends_by e) x y = let i = (value_of k B b v s n x).given in let j = end_of k B b e y in absurd cc
  plain_once k B b (ends_by e) (gives_value w q o) x y = let j = (value_of k B b w q o y).given in let i = end_of k B b e x in absurd cc
  plain_once k B b (ends_by e) (ends_by e') x y = let i = end_of k B b e x in let j = end_of k B b e' y in let same : ended e ≡ ended e' = sym i ∙ j in cc

  -- ---- what an evaluator answers

  pub may_value : (remembered : Bool) (nodes : List Node) (x : Reduced) (s after : ℕ) → HasShownSort m (tree_at nodes x.term.0) s →
      IsAllowed m remembered t m.limit nodes (Ok x) → (remembered ≡ false → IsExact m t m.limit nodes (Ok x) after) →
      MayAnswer m remembered t (gives_value (tree_at nodes x.term.0) s x.rewrites)
  may_value remembered nodes x s after sort (r, (k, B, b, left, i, j, l, given), count) exact = record {
    caused = (k, B, b, i, j, l, subst (λ n. PlainAnswer m t k B b (gives_value v s n)) (sym count) (plain_value v s r left given sort));
    just = λ w q o plain.
        let p = value_of item_levels m.limit m.limit w q o plain in
        let given' = under_larger (λ k B. m.evaluation k B t) (laws.evaluation t) item_levels m.limit m.limit w p.count p.left p.given k B b i j l in
        let same : done v r left ≡ done w p.count (p.left + (b - m.limit)) = sym given ∙ given' in
        let e : v ≡ w = cc in
        let c : r ≡ p.count = cc in
        values_once v w s q x.rewrites o r p.count (e, c) sort p.sort count p.shown;
    exact = λ none. let e = exact none in exact_value e.levels e.enough e.just e.is;
  }
    where
      v : Tree
      v = tree_at nodes x.term.0

      exact_value : (k : ℕ) → item_levels ≤ k → (DerivesNothing m → k ≡ item_levels) → IsAnswered (m.evaluation k m.limit t m.limit) nodes (Ok x) after →
          (k : ℕ) × (item_levels ≤ k) × (DerivesNothing m → k ≡ item_levels) × PlainAnswer m t k m.limit m.limit (gives_value v s x.rewrites)
      exact_value k enough just (q, is, shown) = (k, enough, just, subst (λ n. PlainAnswer m t k m.limit m.limit (gives_value v s n)) (sym shown) (plain_value v s q after is sort))

  ended_so : (nodes : List Node) (o : Outcome Tree) (e : End) (after : ℕ) → IsAnswered o nodes (Err (evaluator_end e)) after → o ≡ ended e
  ended_so nodes o stopped after is = is
  ended_so nodes o too_deep after is = is
  ended_so nodes o overflowed after is = is

  cause_of : (remembered : Bool) (nodes : List Node) (e : End) → IsAllowed m remembered t m.limit nodes (Err (evaluator_end e)) →
      HasCause (λ k B. m.evaluation k B t) m.limit e × (e ≡ stopped → remembered ≡ true → IsUnconditional (program_of m) → Spends (program_of m) t m.limit)
  cause_of remembered nodes stopped a = (a.0, λ is. a.1)
  cause_of remembered nodes too_deep a = (a, λ is. cc)
  cause_of remembered nodes overflowed a = (a, λ is. cc)

  pub may_end : (remembered : Bool) (nodes : List Node) (e : End) (after : ℕ) →
      IsAllowed m remembered t m.limit nodes (Err (evaluator_end e)) → (remembered ≡ false → IsExact m t m.limit nodes (Err (evaluator_end e)) after) →
      MayAnswer m remembered t (ends_by e)
  may_end remembered nodes e after allowed exact = record {
    caused = cause_of remembered nodes e allowed;
    just = λ w q o plain.
        let p = value_of item_levels m.limit m.limit w q o plain in
        absurd (no_cause (λ k B. m.evaluation k B t) (laws.evaluation t) m.limit w p.count p.left p.given e (cause_of remembered nodes e allowed).0);
    exact = λ none. let x = exact none in (x.levels, x.enough, x.just, plain_end e (ended_so nodes (m.evaluation x.levels m.limit t m.limit) e after x.is));
  }

-- ---- one answer

pub answers_are_one : AnswersAreOne
answers_are_one m laws derives t a b x y =
    let i = x.exact refl in
    let j = y.exact refl in
    let at : (k : ℕ) → k ≡ item_levels → (c : AnswerOf) → PlainAnswer m t k m.limit m.limit c → PlainAnswer m t item_levels m.limit m.limit c =
    λ k e c p. subst (λ n. PlainAnswer m t n m.limit m.limit c) e p in
    plain_once m laws t item_levels m.limit m.limit a b (at i.0 (i.2 derives) a i.3) (at j.0 (j.2 derives) b j.3)
