-- Terms that are evaluated in turn, one after another; and what f gives for what is left.
use Rattle.std.proofs.Common.{◌≡◌, ◌+◌, ◌≤◌, ℕ, zero, suc, List, [], ◌∷◌, ◌++◌, length, map, drop, All, Some, slice_get, refl, sym, ap, ◌∙◌, subst, arith, append-nil}
use Rattle.std.specs.Option.{option_map}
use Rattle.std.proofs.lemmas.List.{length-append, length-map}
use Rattle.std.proofs.lemmas.List.Elements.{All-nil, All-cons, All-head, All-tail}
use Rattle.mau_terms.specs.Tree.{Tree}
use Rattle.mau_terms.specs.Bare.{IsLawful}
use Rattle.mau_terms.specs.declared.ids.TermId.{TermId}
use Rattle.mau_signature.specs.Signature.{theory_at}
use Rattle.mau_formula.specs.Operator.{Operator}
use Rattle.mau_store.specs.Node.{Node, Extends}
use Rattle.mau_store.specs.Trees.{tree_at, trees_at}
use Rattle.mau_store.specs.View.{numbers}
use Rattle.mau_sorts.specs.Table.{Table, KeepsEntries}
use Rattle.mau_program.specs.declared.program.Program as Typed
use Rattle.mau_evaluation.specs.Run.{End, done, ended}
use Rattle.mau_evaluation.specs.Program.{Program}
use Rattle.mau_evaluation.specs.Engine.{Engine, engine_of}
use Rattle.mau_evaluation.specs.Answers.{Answers, no_more, ends_by, answer, and_those, for_each, from_outcome}
use Rattle.mau_evaluation.specs.OrderedLists.{put_first, values_of}
use Rattle.mau_evaluation.specs.Questions.{evaluates}
use Rattle.mau_cond.proofs.Grown.{each}
use Rattle.mau_reduce.proofs.KindsKept.{tree_kept}
use Rattle.mau_api.specs.Programs.{program_over}
use Rattle.mau_rules.specs.Runnable.{IsRunnable}
use Rattle.mau_api.specs.declared.results.EvalEnd.{EvalEnd}
use Rattle.mau_leaves.specs.Steps.{Gives, IsOver, Passes, EndsNow, Throughout}
use Rattle.mau_leaves.specs.Answers.{ComesTo, QuestionEnds, IsDueBy}
use Rattle.mau_leaves.specs.InTurn.{just, IsEvaluated, and_then_those, values_behind, left_of_values, only_one, AreNextValues}
use Rattle.mau_leaves.proofs.Steps.{through_always, none_passed, then_pass}
use Rattle.mau_leaves.proofs.Searching.{term_grown, settled_later}
use Rattle.mau_leaves.proofs.Throughs.{valued_through, valued_due}

-- ---- with one engine

in_row : (vs ws : List Tree) (v : Tree) → vs ++ (v ∷ ws) ≡ (vs ++ v ∷ []) ++ ws
in_row [] ws v = refl
in_row (u ∷ vs) ws v = ap (λ us. u ∷ us) (in_row vs ws v)

behind_first : (vs : List Tree) (v : Tree) (p : Answers (List Tree)) → for_each (and_then_those vs) (for_each (put_first v) p) ≡ for_each (and_then_those (vs ++ v ∷ [])) p
behind_first vs v no_more = refl
behind_first vs v (ends_by e) = refl
behind_first vs v (answer ws p) = ap (λ us. answer us (for_each (and_then_those vs) (for_each (put_first v) p))) (in_row vs ws v) ∙ ap (answer ((vs ++ v ∷ []) ++ ws)) (behind_first vs v p)

-- the values of all, where none has its value yet
pub behind_none : (p : Answers (List Tree)) → for_each (and_then_those []) p ≡ p
behind_none no_more = refl
behind_none (ends_by e) = refl
behind_none (answer ws p) = ap (answer ws) (behind_none p)

drop_none_more : {A : Type 0} (xs : List A) → drop 0 xs ≡ xs
drop_none_more [] = refl
drop_none_more (x ∷ xs) = refl

drop_more : {A : Type 0} (xs : List A) (n : ℕ) (x : A) (ys : List A) → drop n xs ≡ x ∷ ys → drop (suc n) xs ≡ ys
drop_more [] zero x ys e = cc
drop_more [] (suc n) x ys e = cc
drop_more (z ∷ xs) zero x ys e = drop_none_more xs ∙ by e
  where
    by : z ∷ xs ≡ x ∷ ys → xs ≡ ys
    by k = cc
drop_more (z ∷ xs) (suc n) x ys e = drop_more xs n x ys e

pub one_more : {A : Type 0} (xs : List A) (x : A) → length (xs ++ x ∷ []) ≡ suc (length xs)
one_more xs x = length-append xs (x ∷ []) ∙ sum (length xs)
  where
    sum : (n : ℕ) → n + 1 ≡ suc n
    sum n = omega arith

module _ (P : Program) (L : Engine) (ts vs : List Tree) where
  next_valued : (t : Tree) (rest : List Tree) → drop (length vs) ts ≡ t ∷ rest → (v : Tree) (r l : ℕ) → L.level.eval t L.budget ≡ done v r l → values_behind P L ts vs ≡ values_behind P L ts (vs ++ v ∷ [])
  next_valued t rest at v r l e =
      ap (λ us. for_each (and_then_those vs) (values_of P L us)) at
      ∙ (ap (λ o. for_each (and_then_those vs) (from_outcome (λ w. for_each (put_first w) (values_of P L rest)) o)) e
      ∙ (behind_first vs v (values_of P L rest)
      ∙ ap (λ us. for_each (and_then_those (vs ++ v ∷ [])) (values_of P L us)) (sym (ap (λ n. drop n ts) (one_more vs v) ∙ drop_more ts (length vs) t rest at))))

  next_ends : (t : Tree) (rest : List Tree) → drop (length vs) ts ≡ t ∷ rest → (f : End) → L.level.eval t L.budget ≡ ended f → values_behind P L ts vs ≡ ends_by f
  next_ends t rest at f e =
      ap (λ us. for_each (and_then_those vs) (values_of P L us)) at
      ∙ ap (λ o. for_each (and_then_those vs) (from_outcome (λ w. for_each (put_first w) (values_of P L rest)) o)) e

  all_valued : drop (length vs) ts ≡ [] → values_behind P L ts vs ≡ answer vs no_more
  all_valued none = ap (λ us. for_each (and_then_those vs) (values_of P L us)) none ∙ ap (λ us. answer us no_more) (append-nil vs)

-- ---- throughout

module _ (P : Program) (lawful : IsLawful P.sign) (ts vs : List Tree) (t : Tree) (rest : List Tree) (at : drop (length vs) ts ≡ t ∷ rest) where
  ends_so : (L : Engine) (f : End) → L.level.eval t L.budget ≡ ended f → EndsNow (left_of_values P ts vs L) f
  ends_so L f e q n = n ∙ next_ends P L ts vs t rest at f e

  pub value_passes : (v : Tree) → ComesTo P (λ L. L.level.eval t) v → Throughout (engine_of P) (left_of_values P ts vs) (λ L. Passes (left_of_values P ts vs L) (left_of_values P ts (vs ++ v ∷ []) L))
  value_passes v comes =
      valued_through P lawful (left_of_values P ts vs) t ends_so v (λ L. Passes (left_of_values P ts vs L) (left_of_values P ts (vs ++ v ∷ []) L))
      (λ L r l e q n. n ∙ next_valued P L ts vs t rest at v r l e) comes

  pub value_due : (b : ℕ) (e : EvalEnd) → QuestionEnds P b (evaluates t) e → IsDueBy P b (left_of_values P ts vs) e
  value_due b e h = valued_due P lawful (left_of_values P ts vs) t ends_so b e h

pub values_all : (P : Program) (ts vs : List Tree) → drop (length vs) ts ≡ [] → Throughout (engine_of P) (left_of_values P ts vs) (λ L. Passes (left_of_values P ts vs L) (only_one vs L))
values_all P ts vs none =
    through_always (engine_of P) (left_of_values P ts vs) {H = λ L. Passes (left_of_values P ts vs L) (only_one vs L)} (λ L q n. n ∙ all_valued P L ts vs none)

-- ---- in a store that has grown

module _ (p : Typed.Program) (old new : List Node) (before after : Table) (extends : Extends old new) (kept : KeepsEntries before after) where
  pub evaluated_grown : (id : TermId) → IsEvaluated p.sig old before id → IsEvaluated p.sig new after id
  evaluated_grown id h = record { term = term_grown p old new before after extends kept id.0 h.term; settled = settled_later p old new before after extends kept id.0 h.term h.settled }

  pub all_evaluated : (ids : List TermId) → All (IsEvaluated p.sig old before) ids → All (IsEvaluated p.sig new after) ids
  all_evaluated ids h = each (IsEvaluated p.sig old before) (IsEvaluated p.sig new after) evaluated_grown ids h

  pub values_kept : (ids : List TermId) → All (IsEvaluated p.sig old before) ids → trees_at new (numbers ids) ≡ trees_at old (numbers ids)
  values_kept [] h = refl
  values_kept (id ∷ ids) h =
      let first = All-head (IsEvaluated p.sig old before) id ids h in
      ap (λ t. t ∷ trees_at new (numbers ids)) (tree_kept (theory_at p.sig) old new id.0 extends first.term.within)
      ∙ ap (λ ts. tree_at old id.0 ∷ ts) (values_kept ids (All-tail (IsEvaluated p.sig old before) id ids h))

-- values in a row
pub more_values : (nodes : List Node) (ids : List TermId) (id : TermId) → trees_at nodes (numbers (ids ++ id ∷ [])) ≡ trees_at nodes (numbers ids) ++ tree_at nodes id.0 ∷ []
more_values nodes [] id = refl
more_values nodes (x ∷ ids) id = ap (λ ts. tree_at nodes x.0 ∷ ts) (more_values nodes ids id)

pub as_many : (nodes : List Node) (ids : List TermId) → length (trees_at nodes (numbers ids)) ≡ length ids
as_many nodes [] = refl
as_many nodes (x ∷ ids) = ap suc (as_many nodes ids)

-- ---- the term that is next

pub slice_mapped : {A B : Type 0} (f : A → B) (xs : List A) (i : ℕ) (x : A) → slice_get xs i ≡ Some x → slice_get (map f xs) i ≡ Some (f x)
slice_mapped f [] i x e = cc
slice_mapped f (y ∷ xs) zero x e = ap (option_map f) e
slice_mapped f (y ∷ xs) (suc i) x e = slice_mapped f xs i x e

drop_at : {A : Type 0} (xs : List A) (i : ℕ) (x : A) → slice_get xs i ≡ Some x → (ys : List A) × (drop i xs ≡ x ∷ ys)
drop_at [] i x e = cc
drop_at (y ∷ xs) zero x e = (xs, ap (λ z. z ∷ xs) (one y x e))
  where
    one : {A : Type 0} (y x : A) → Some y ≡ Some x → y ≡ x
    one y x k = cc
drop_at (y ∷ xs) (suc i) x e = drop_at xs i x e

drop_all : {A : Type 0} (xs : List A) (i : ℕ) → length xs ≤ i → drop i xs ≡ []
drop_all [] zero h = refl
drop_all [] (suc i) h = refl
drop_all (x ∷ xs) zero h = absurd (omega (arith, h))
drop_all (x ∷ xs) (suc i) h = drop_all xs i (omega (arith, h))

-- one step of the loop over the terms xs of some kind, the values of whose first are at hand
module _ {X : Type 0} (tree : X → Tree) (p : Typed.Program) (run : IsRunnable p) (hooks : List Operator) (g : Tree → Tree) (xs : List X) (nodes new : List Node) (before after : Table) (extends : Extends nodes new) (kept : KeepsEntries before after)
    (ids : List TermId) (evaluated : All (IsEvaluated p.sig nodes before) ids) (x : X) (at : slice_get xs (length ids) ≡ Some x) where
  abbrev Q : Program
  Q = program_over p hooks

  abbrev ts : List Tree
  ts = map g (map tree xs)

  abbrev us : List Tree
  us = trees_at nodes (numbers ids)

  next_term : (rest : List Tree) × (drop (length us) ts ≡ g (tree x) ∷ rest)
  next_term =
      subst (λ n. (rest : List Tree) × (drop n ts ≡ g (tree x) ∷ rest)) (sym (as_many nodes ids))
      (drop_at ts (length ids) (g (tree x)) (slice_mapped g (map tree xs) (length ids) (tree x) (slice_mapped tree xs (length ids) x at)))

  new_values : (id : TermId) → trees_at new (numbers (ids ++ id ∷ [])) ≡ us ++ tree_at new id.0 ∷ []
  new_values id = more_values new ids id ∙ ap (λ (vs : List Tree). vs ++ tree_at new id.0 ∷ []) (values_kept p nodes new before after extends kept ids evaluated)

  pub one_valued : (id : TermId) → ComesTo (program_over p hooks) (λ L. L.level.eval (g (tree x))) (tree_at new id.0) →
      Throughout (engine_of (program_over p hooks)) (left_of_values (program_over p hooks) (map g (map tree xs)) (trees_at nodes (numbers ids))) (λ L.
      Passes (left_of_values (program_over p hooks) (map g (map tree xs)) (trees_at nodes (numbers ids)) L) (left_of_values (program_over p hooks) (map g (map tree xs)) (trees_at new (numbers (ids ++ id ∷ []))) L))
  one_valued id comes =
      subst (λ (vs : List Tree). Throughout (engine_of Q) (left_of_values Q ts us) (λ L. Passes (left_of_values Q ts us L) (left_of_values Q ts vs L))) (sym (new_values id))
      (value_passes Q run.reducible.lawful ts us (g (tree x)) next_term.0 next_term.1 (tree_at new id.0) comes)

  -- memory is wanting, or an end
  pub none_valued : Throughout (engine_of (program_over p hooks)) (left_of_values (program_over p hooks) (map g (map tree xs)) (trees_at nodes (numbers ids))) (λ L.
      Passes (left_of_values (program_over p hooks) (map g (map tree xs)) (trees_at nodes (numbers ids)) L) (left_of_values (program_over p hooks) (map g (map tree xs)) (trees_at new (numbers ids)) L))
  none_valued =
      subst (λ (vs : List Tree). Throughout (engine_of Q) (left_of_values Q ts us) (λ L. Passes (left_of_values Q ts us L) (left_of_values Q ts vs L))) (sym (values_kept p nodes new before after extends kept ids evaluated))
      (none_passed Q (left_of_values Q ts us))

  pub one_due : (b : ℕ) (e : EvalEnd) → QuestionEnds (program_over p hooks) b (evaluates (g (tree x))) e → IsDueBy (program_over p hooks) b (left_of_values (program_over p hooks) (map g (map tree xs)) (trees_at nodes (numbers ids))) e
  one_due b e h = value_due Q run.reducible.lawful ts us (g (tree x)) next_term.0 next_term.1 b e h

-- all have their values
pub none_behind : {X : Type 0} (tree : X → Tree) (P : Program) (g : Tree → Tree) (xs : List X) (nodes : List Node) (ids : List TermId) → length xs ≤ length ids →
    Throughout (engine_of P) (left_of_values P (map g (map tree xs)) (trees_at nodes (numbers ids))) (λ L.
    Passes (left_of_values P (map g (map tree xs)) (trees_at nodes (numbers ids)) L) (only_one (trees_at nodes (numbers ids)) L))
none_behind tree P g xs nodes ids h =
    values_all P (map g (map tree xs)) (trees_at nodes (numbers ids))
    (drop_all (map g (map tree xs)) (length (trees_at nodes (numbers ids))) (let a = length-map (map tree xs) g in let b = length-map xs tree in let n = as_many nodes ids in omega (arith, a, b, n, h)))

-- steps in a row
pub values_then : (P : Program) (old now new : Engine → Answers (List Tree) → Type 0) → Throughout (engine_of P) old (λ L. Passes (old L) (now L)) → Throughout (engine_of P) now (λ L. Passes (now L) (new L)) →
    Throughout (engine_of P) old (λ L. Passes (old L) (new L))
values_then P old now new h k = then_pass (engine_of P) old now h new k

pub and_one : {A : Type 0} (Q : A → Type 0) (xs : List A) (x : A) → All Q xs → Q x → All Q (xs ++ x ∷ [])
and_one Q [] x h k = All-cons Q x [] k (All-nil Q)
and_one Q (y ∷ xs) x h k = All-cons Q y (xs ++ x ∷ []) (All-head Q y xs h) (and_one Q xs x (All-tail Q y xs h) k)
