-- The condition of a rule, asked for a solution of its left side.
use Rattle.std.proofs.Common.{◌≡◌, ◌<◌, ◌∷◌, [], List, length, map, ℕ, Bool, true, false, Option, Some, None, Result, Ok, Err, OnOk, All, slice_get, inl, inr, refl, sym, ap, ◌∙◌, subst, arith}
use Rattle.std.proofs.lemmas.List.Elements.{All-nil, All-cons, All-head, All-tail}
use Rattle.std.proofs.lemmas.List.{length-map}
use Rattle.std.proofs.lemmas.Bool.{and_parts}
use Rattle.std.specs.List.{zip}
use Rattle.mau_terms.specs.Tree.{Tree}
use Rattle.mau_terms.specs.Finite.{IsIn}
use Rattle.mau_terms.specs.Subst.{variables}
use Rattle.mau_terms.specs.View.{tree_of, variable_of}
use Rattle.mau_terms.specs.declared.ids.VarId.{VarId}
use Rattle.mau_terms.specs.declared.ids.TermId.{TermId}
use Rattle.mau_terms.proofs.Variables.{distinct}
use Rattle.mau_signature.specs.Faults.{IsSort}
use Rattle.mau_signature.specs.Signature.{SignatureOf}
use Rattle.mau_store.specs.Node.{Node}
use Rattle.mau_store.specs.Trees.{tree_at, trees_at}
use Rattle.mau_store.specs.View.{numbers}
use Rattle.mau_listing.specs.declared.solution.Solution as Listed
use Rattle.mau_program.specs.Binding.{are_bound}
use Rattle.mau_program.specs.LawfulStatements.{IsLawfulFragment, IsLawfulRule}
use Rattle.mau_program.specs.declared.program.Program as Typed
use Rattle.mau_program.specs.declared.statements.Fragment as WrittenFragment
use Rattle.mau_program.specs.declared.statements.Fragment.TheVariants as Part
use Rattle.mau_program.specs.declared.statements.Rule as Written
use Rattle.mau_evaluation.specs.Run.{Run}
use Rattle.mau_evaluation.specs.Program.{Fragment}
use Rattle.mau_evaluation.specs.Evaluation.{Binding, binding_of}
use Rattle.mau_evaluation.specs.Rules.{has_reach}
use Rattle.mau_api.specs.Programs.{fragment_of, rule_of, program_over}
use Rattle.mau_api.specs.Meanings.{Meanings, AreMeanings}
use Rattle.mau_api.specs.Answers.{uses_results, levels_of_condition, LeavesEnough, binding_in, IsFragment, IsAskable, solving_from, IsSolvedExactly, MaySolve, mapped}
use Rattle.mau_api.specs.declared.results.EvalEnd.{EvalEnd}
use Rattle.mau_reduce.specs.Bindings.{paired}
use Rattle.mau_reduce.specs.Trying.{solution_in}
use Rattle.mau_reduce.proofs.AttemptsLeft.{binding_paired}
use Rattle.mau_reduce.proofs.Numbered.{one_at, is_among}
use Rattle.mau_rules.specs.Runnable.{IsRunnable, GoesBy}
use Rattle.mau_rules.specs.Found.{IsExecutable, item_of, KnownSolving, solving_by}
use Rattle.mau_rules.proofs.Solving.{same_solving, solving_known}

-- ---- rules by their numbers

pub all_in : {A : Type 0} (P : A → Type 0) (xs : List A) (x : A) → All P xs → IsIn x xs → P x
all_in P [] x h i = absurd i
all_in P (y ∷ ys) x h (inl e) = subst P (sym e) (All-head P y ys h)
all_in P (y ∷ ys) x h (inr i) = all_in P ys x (All-tail P y ys h) i

in_mapped : {A B : Type 0} (f : A → B) (xs : List A) (x : A) → IsIn x xs → IsIn (f x) (map f xs)
in_mapped f [] x i = absurd i
in_mapped f (y ∷ ys) x (inl e) = inl (ap f e)
in_mapped f (y ∷ ys) x (inr i) = inr (in_mapped f ys x i)

-- ---- conditions of executable rules

a_sort : (s : SignatureOf) (r : ℕ) → r < s.hierarchy.sorts → IsSort s.hierarchy r
a_sort s r h = omega arith

fragments : (s : SignatureOf) (cond : List WrittenFragment.Fragment) → All (IsLawfulFragment s) cond → has_reach (map fragment_of cond) ≡ false → All (IsFragment s) cond
fragments s [] h e = All-nil (IsFragment s)
fragments s (Part.Equal t u ∷ cs) h e =
    let f = All-head (IsLawfulFragment s) (Part.Equal t u) cs h in
    All-cons (IsFragment s) (Part.Equal t u) cs ((f.kind, f.first), (f.kind, f.second)) (fragments s cs (All-tail (IsLawfulFragment s) (Part.Equal t u) cs h) e)
fragments s (Part.Match t u ∷ cs) h e =
    let f = All-head (IsLawfulFragment s) (Part.Match t u) cs h in
    All-cons (IsFragment s) (Part.Match t u) cs ((f.kind, f.first), (f.kind, f.second)) (fragments s cs (All-tail (IsLawfulFragment s) (Part.Match t u) cs h) e)
fragments s (Part.Sort t r ∷ cs) h e =
    All-cons (IsFragment s) (Part.Sort t r) cs (let f = All-head (IsLawfulFragment s) (Part.Sort t r) cs h in (f.0, a_sort s r f.1)) (fragments s cs (All-tail (IsLawfulFragment s) (Part.Sort t r) cs h) e)
fragments s (Part.Reach t u ∷ cs) h e = cc

module _ (p : Typed.Program) (run : IsRunnable p) (i : ℕ) (rule : Written.Rule) (at : slice_get p.rules i ≡ Some rule) where
  pub lawful_rule : IsLawfulRule p.sig rule
  lawful_rule = all_in (IsLawfulRule p.sig) p.rules rule run.rules (is_among p.rules i rule at)

  pub executable_here : IsExecutable p i → rule.exec ≡ true
  executable_here x = subst (λ (r : Written.Rule). r.exec ≡ true) (one_at p.rules i x.rule rule x.at at) x.exec

  pub fragments_here : rule.exec ≡ true → All (IsFragment p.sig) rule.cond
  fragments_here e = fragments p.sig rule.cond lawful_rule.parts.condition (run.no_reach (rule_of rule) (in_mapped rule_of p.rules rule (is_among p.rules i rule at)) e)

-- ---- values

pub zip_variables : (xs : List VarId) (ids : List TermId) → length ids ≡ length xs → map (λ (b : VarId × TermId). variable_of b.0) (zip xs ids) ≡ map variable_of xs
zip_variables [] ids e = refl
zip_variables (x ∷ xs) [] e = absurd (omega (arith, e))
zip_variables (x ∷ xs) (i ∷ ids) e = ap (λ ys. variable_of x ∷ ys) (zip_variables xs ids (omega (arith, e)))

-- the condition of an executable rule may be asked where the variables of its left side have values
pub askable_here : (s : SignatureOf) (rule : Written.Rule) → IsLawfulRule s rule → rule.exec ≡ true → All (IsFragment s) rule.cond → (xs : List VarId) (ids : List TermId) → map variable_of xs ≡ variables (tree_of rule.left) →
    length ids ≡ length (variables (tree_of rule.left)) → IsAskable s (map (λ (b : VarId × TermId). variable_of b.0) (zip xs ids)) rule.cond
askable_here s rule lawful exec fragments xs ids e many =
    let same : map (λ (b : VarId × TermId). variable_of b.0) (zip xs ids) ≡ variables (tree_of rule.left) = zip_variables xs ids (many ∙ (ap length (sym e) ∙ length-map xs variable_of)) ∙ e in
    subst (λ ys. IsAskable s ys rule.cond) (sym same)
    (record { fragments = fragments; bound = (and_parts (are_bound (variables (tree_of rule.left)) rule.cond) _ (lawful.bound exec)).0; apart = distinct (tree_of rule.left) [] tt })

binding_zipped : (nodes : List Node) (xs : List VarId) (ids : List TermId) → binding_in nodes (zip xs ids) ≡ paired (map variable_of xs) (trees_at nodes (numbers ids))
binding_zipped nodes [] ids = refl
binding_zipped nodes (x ∷ xs) [] = refl
binding_zipped nodes (x ∷ xs) (i ∷ ids) = ap (λ bs. (variable_of x, tree_at nodes i.0) ∷ bs) (binding_zipped nodes xs ids)

pub binding_here : (nodes : List Node) (xs : List VarId) (p : Tree) (x : Listed.Solution) (bound : List (VarId × TermId)) → map variable_of xs ≡ variables p → bound ≡ zip xs x.values → binding_in nodes bound ≡ binding_of p (solution_in nodes x)
binding_here nodes xs p x bound e h =
    ap (binding_in nodes) h ∙ (binding_zipped nodes xs x.values ∙ (ap (λ vs. paired vs (trees_at nodes (numbers x.values))) e ∙ sym (binding_paired p (trees_at nodes (numbers x.values)))))

-- ---- what is answered

pub on_mapped : {A B E : Type 0} (f : A → B) (r : Result A E) (X : Type 0) → OnOk r X → OnOk (mapped f r) X
on_mapped f (Ok x) X h = h
on_mapped f (Err e) X h = h

module _ (p : Typed.Program) (run : IsRunnable p) (m : Meanings) (goes : GoesBy p m) (laws : AreMeanings m) (wanted : Bool) (c : List Fragment) (σ τ : Binding) (same : σ ≡ τ) where
  pub shown_known : (before : ℕ) (nodes : List Node) (r : Result (Option (List (VarId × TermId) × ℕ)) EvalEnd) (after : ℕ) → MaySolve m (solving_from m None c σ) before nodes r →
      (uses_results m wanted ≡ false → IsSolvedExactly m (solving_from m None c σ) before nodes r after) → OnOk r (LeavesEnough (m.solving levels_of_condition m.limit c σ before) after) →
      KnownSolving (item_of m wanted) (solving_by (program_over p m.hooks) c τ) before nodes r after
  shown_known before nodes r after allowed exact left =
      subst (λ (z : Binding). KnownSolving (item_of m wanted) (solving_by (program_over p m.hooks) c z) before nodes r after) same
      (subst (λ (f : ℕ → ℕ → Run (Option Binding)). KnownSolving (item_of m wanted) f before nodes r after) (same_solving p run m goes laws wanted c σ) (solving_known p run m goes laws wanted c σ before nodes r after allowed exact left))

-- as the code has it
module _ (p : Typed.Program) (run : IsRunnable p) (m : Meanings) (goes : GoesBy p m) (laws : AreMeanings m) (wanted : Bool) (i : ℕ) (actual rule : Written.Rule) (at : slice_get p.rules i ≡ Some actual) (there : slice_get p.rules i ≡ Some rule)
    (nodes : List Node) (x : Listed.Solution) (xs : List VarId) (vars : map variable_of xs ≡ variables (tree_of actual.left)) (asked bound : List (VarId × TermId)) (same : asked ≡ bound) (zipped : bound ≡ zip xs x.values)
    (conds : List WrittenFragment.Fragment) (written : conds ≡ actual.cond) where
  pub shown_at : {X : Type 0} (f : X → Option (List (VarId × TermId) × ℕ)) (before after : ℕ) (new : List Node) (r : Result X EvalEnd) → MaySolve m (solving_from m None (map fragment_of conds) (binding_in nodes asked)) before new (mapped f r) →
      (uses_results m wanted ≡ false → IsSolvedExactly m (solving_from m None (map fragment_of conds) (binding_in nodes asked)) before new (mapped f r) after) →
      OnOk r (LeavesEnough (m.solving levels_of_condition m.limit (map fragment_of conds) (binding_in nodes asked) before) after) →
      KnownSolving (item_of m wanted) (solving_by (program_over p m.hooks) (rule_of rule).cond (binding_of (rule_of rule).left (solution_in nodes x))) before new (mapped f r) after
  shown_at f before after new r allowed exact left =
      subst (λ (z : Written.Rule). KnownSolving (item_of m wanted) (solving_by (program_over p m.hooks) (rule_of z).cond (binding_of (rule_of z).left (solution_in nodes x))) before new (mapped f r) after) (one_at p.rules i actual rule at there)
      (subst (λ (cs : List WrittenFragment.Fragment). KnownSolving (item_of m wanted) (solving_by (program_over p m.hooks) (map fragment_of cs) (binding_of (rule_of actual).left (solution_in nodes x))) before new (mapped f r) after) written
      (shown_known p run m goes laws wanted (map fragment_of conds) (binding_in nodes asked) (binding_of (tree_of actual.left) (solution_in nodes x)) (binding_here nodes xs (tree_of actual.left) x asked vars (same ∙ zipped)) before new (mapped f r) after
      allowed exact (on_mapped f r (LeavesEnough (m.solving levels_of_condition m.limit (map fragment_of conds) (binding_in nodes asked) before) after) left)))
