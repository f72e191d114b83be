-- Answers of a listing and of an evaluator, as the search for a rule has them.
use Rattle.std.proofs.Common.{◌≡◌, [], List, ℕ, Bool, true, Option, Some, Ok, Err, refl, sym, ap, ◌∙◌, subst}
use Rattle.std.specs.Option.{option_map}
use Rattle.mau_terms.specs.Tree.{Tree}
use Rattle.mau_terms.specs.Norm.{norm}
use Rattle.mau_terms.specs.Bare.{IsBare}
use Rattle.mau_terms.specs.Reading.{reading}
use Rattle.mau_terms.specs.declared.ids.TermId.{TermId}
use Rattle.mau_terms.specs.declared.ids.VarId.{VarId}
use Rattle.mau_signature.specs.Signature.{SignatureOf, theory_at, terms_over}
use Rattle.mau_store.specs.Node.{Node}
use Rattle.mau_store.specs.Trees.{tree_at, trees_at}
use Rattle.mau_store.specs.View.{numbers}
use Rattle.mau_sorts.specs.HasSort.{Known}
use Rattle.mau_sorts.specs.Table.{Table}
use Rattle.mau_listing.specs.Asked.{Asked, asks, question_in, matcher_in, BySort}
use Rattle.mau_listing.specs.Next.{matcher_cmp, IsNext}
use Rattle.mau_listing.specs.Question.{IsSolution}
use Rattle.mau_listing.specs.declared.solution.Solution as Listed
use Rattle.mau_program.specs.declared.program.Program as Typed
use Rattle.mau_program.specs.declared.statements.Rule as Written
use Rattle.mau_evaluation.specs.Run.{stopped, too_deep, overflowed}
use Rattle.mau_evaluation.specs.Evaluation.{binding_of}
use Rattle.mau_evaluation.specs.Rules.{Place}
use Rattle.mau_evaluation.specs.RuleRuns.{Turns, Stand}
use Rattle.mau_api.specs.Remaining.{as_matcher}
use Rattle.mau_api.specs.Programs.{rule_of, program_over}
use Rattle.mau_api.specs.Meanings.{Meanings, meanings_by}
use Rattle.mau_api.specs.Answers.{IsDerivedTable, binding_in}
use Rattle.mau_api.specs.declared.results.EvalEnd.{EvalEnd}
use Rattle.mau_api.specs.declared.results.EvalEnd.TheVariants.{Stopped, TooDeep, Overflow, NoMemory}
use Rattle.mau_reduce.specs.Trying.{solution_in}
use Rattle.mau_reduce.proofs.Candidates.{matchers_of}
use Rattle.mau_rules.specs.declared.attempt.Found.{Found}
use Rattle.mau_rules.specs.Runnable.{IsRunnable, GoesBy}
use Rattle.mau_rules.specs.Known.{Item, Gives}
use Rattle.mau_rules.specs.Found.{KnownSolving, KnownSearch, rule_at, solving_by, stand_by, stand_with}
use Rattle.mau_rules.proofs.Rounds.{HasNext, comes_to, ends_so}

-- an evaluator's table
pub derived_as : (p : Typed.Program) (m : Meanings) → GoesBy p m → (nodes : List Node) (table : Table) → IsDerivedTable m nodes table → IsDerivedTable (meanings_by p m.hooks m.limit m.remembers) nodes table
derived_as p m goes nodes table d = subst (λ (n : Meanings). IsDerivedTable n nodes table) goes.defined d

-- what a listing answers
module _ (p : Typed.Program) (s : SignatureOf) (same : s ≡ p.sig) (c : Bool) (w : c ≡ true) (a : Asked) (left : Tree) (term : TermId) (g : a ≡ asks left [] term) (now new : List Node) (t : Tree) (subject : tree_at now term.0 ≡ t)
    (given answer : Option Listed.Solution) (known : Known) where
  pub next_as : IsNext (IsSolution c s (BySort s known) (question_in now a)) (matcher_cmp (theory_at s) a.pattern) (option_map (matcher_in now) given) (option_map (matcher_in new) answer) →
      IsNext (IsSolution true p.sig (BySort p.sig known) (record { pattern = left; bound = []; subject = t })) (matcher_cmp (theory_at p.sig) left) (option_map (matcher_in now) given) (option_map as_matcher (option_map (solution_in new) answer))
  next_as is =
      let one = subst (λ z. IsNext (IsSolution z s (BySort s known) (question_in now a)) (matcher_cmp (theory_at s) a.pattern) (option_map (matcher_in now) given) (option_map (matcher_in new) answer)) w is in
      let two = subst (λ (z : Asked). IsNext (IsSolution true s (BySort s known) (question_in now z)) (matcher_cmp (theory_at s) z.pattern) (option_map (matcher_in now) given) (option_map (matcher_in new) answer)) g one in
      let three = subst (λ z. IsNext (IsSolution true z (BySort z known) (question_in now (asks left [] term))) (matcher_cmp (theory_at z) left) (option_map (matcher_in now) given) (option_map (matcher_in new) answer)) same two in
      let four = subst (λ (z : Tree). IsNext (IsSolution true p.sig (BySort p.sig known) (record { pattern = left; bound = []; subject = z })) (matcher_cmp (theory_at p.sig) left) (option_map (matcher_in now) given) (option_map (matcher_in new) answer)) subject three in
      subst (λ z. IsNext (IsSolution true p.sig (BySort p.sig known) (record { pattern = left; bound = []; subject = t })) (matcher_cmp (theory_at p.sig) left) (option_map (matcher_in now) given) z) (matchers_of new answer) four

-- what the condition of a rule answers says of the rule at a place
module _ (p : Typed.Program) (run : IsRunnable p) (m : Meanings) (rule : Written.Rule) (t : Tree) (normal : norm (theory_at p.sig) t ≡ t) (bare : IsBare (terms_over p.sig) (reading (theory_at p.sig) t)) (I : Item) (n : ℕ)
    (b0 b : ℕ) (now new : List Node) (x : Listed.Solution) (next : HasNext p run m.hooks (rule_of rule) t normal bare I n b0 b (solution_in now x)) (g : Turns) (around : Tree → Tree) where
  abbrev place : Place
  place = record { term = t; around = around }

  -- it ends
  pub answer_ends : (e : EvalEnd) (after : ℕ) → KnownSolving I (solving_by (program_over p m.hooks) (rule_of rule).cond (binding_of (rule_of rule).left (solution_in now x))) b new (Err e) after →
      (stand : Found → Option Stand) → KnownSearch I (rule_at (program_over p m.hooks) g place (n, rule_of rule)) b0 stand (Err e) after
  answer_ends Stopped after k stand = ends_so p run m.hooks (rule_of rule) t normal bare I n b0 b (solution_in now x) next stopped k g place refl
  answer_ends TooDeep after k stand = ends_so p run m.hooks (rule_of rule) t normal bare I n b0 b (solution_in now x) next too_deep k g place refl
  answer_ends Overflow after k stand = ends_so p run m.hooks (rule_of rule) t normal bare I n b0 b (solution_in now x) next overflowed k g place refl
  answer_ends NoMemory after k stand = tt

  -- it holds
  pub answer_holds : (bound : List (VarId × TermId)) (rewrites after : ℕ) → KnownSolving I (solving_by (program_over p m.hooks) (rule_of rule).cond (binding_of (rule_of rule).left (solution_in now x))) b new (Ok (Some (bound, rewrites))) after →
      (y : Found) → y.number ≡ n → y.solution ≡ x → y.bound.items ≡ bound → y.rewrites ≡ rewrites → trees_at new (numbers x.left) ≡ trees_at now (numbers x.left) → trees_at new (numbers x.right) ≡ trees_at now (numbers x.right) →
      KnownSearch I (rule_at (program_over p m.hooks) g place (n, rule_of rule)) b0 (λ z. stand_with (program_over p m.hooks) g place new z (Some rule)) (Ok (Some y)) after
  answer_holds bound rewrites after k y e f h i l r =
      let P = program_over p m.hooks in
      let q = rule_of rule in
      let G = comes_to p run m.hooks q t normal bare I n b0 b (solution_in now x) next (binding_in new bound) k.0 after k.2 g place refl in
      let one = subst (λ (j : ℕ). Gives I (rule_at P g place (n, q)) b0 (Some (stand_by P g place (j, q) (trees_at now (numbers x.left)) (trees_at now (numbers x.right)) (binding_in new bound))) k.0 after) (sym e) G in
      let two = subst (λ (ls : List Tree). Gives I (rule_at P g place (n, q)) b0 (Some (stand_by P g place (y.number, q) ls (trees_at now (numbers x.right)) (binding_in new bound))) k.0 after) (sym (ap (λ (z : Listed.Solution). trees_at new (numbers z.left)) f ∙ l)) one in
      let three = subst (λ (rs : List Tree). Gives I (rule_at P g place (n, q)) b0 (Some (stand_by P g place (y.number, q) (trees_at new (numbers y.solution.left)) rs (binding_in new bound))) k.0 after) (sym (ap (λ (z : Listed.Solution). trees_at new (numbers z.right)) f ∙ r)) two in
      let four = subst (λ (bs : List (VarId × TermId)). Gives I (rule_at P g place (n, q)) b0 (Some (stand_by P g place (y.number, q) (trees_at new (numbers y.solution.left)) (trees_at new (numbers y.solution.right)) (binding_in new bs))) k.0 after) (sym h) three in
      (k.0, i ∙ k.1, four)
