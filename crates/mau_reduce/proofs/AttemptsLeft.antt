-- What is left of all that may be applied.
use Rattle.std.proofs.Common.{◌≡◌, ℕ, suc, ◌≤◌, List, [], ◌∷◌, ◌++◌, Bool, true, false, ◌||◌, if◌then◌else◌, Option, Some, None, IfSome, IsSome, length, map, slice_get, refl, sym, ap, ap₂, ◌∙◌, subst, append_assoc, append-nil, arith}
use Rattle.std.specs.Option.{option_map}
use Rattle.std.proofs.lemmas.Bool.{or_parts}
use Rattle.std.proofs.lemmas.List.{length-map}
use Rattle.std.proofs.lemmas.Option.{slice_get_past}
use Rattle.mau_terms.specs.Tree.{Tree, apply, variable, numeral}
use Rattle.mau_terms.specs.Subst.{Variable, same_variable, has_variable, variables}
use Rattle.mau_terms.specs.View.{tree_of, variable_of}
use Rattle.mau_terms.proofs.Variables.{Distinct, distinct, same-is, same_itself}
use Rattle.mau_signature.specs.Signature.{theory_at}
use Rattle.mau_formula.specs.Operator.{Operator}
use Rattle.mau_store.specs.Node.{Node}
use Rattle.mau_store.specs.Trees.{trees_at}
use Rattle.mau_store.specs.View.{numbers}
use Rattle.mau_canon.specs.Standing.{StandWithin}
use Rattle.mau_listing.specs.declared.solution.Solution as Given
use Rattle.mau_program.specs.declared.program.Program as Typed
use Rattle.mau_evaluation.specs.Program.{Equation, Program, Answer, no_value, value, too_large}
use Rattle.mau_evaluation.specs.Run.{Outcome, done, ended, Run, gives, counted_if, try_on, or_go_on, or_else, first_of}
use Rattle.mau_evaluation.specs.Evaluation.{Binding, binds, extend, native, levels, solve, applied, by_answer, by_equations, binding_of, replaced}
use Rattle.mau_api.specs.Programs.{program_over, equation_of}
use Rattle.mau_reduce.specs.declared.given.Given.{Given as BuiltIn}
use Rattle.mau_reduce.specs.declared.trying.Found.{Found}
use Rattle.mau_reduce.specs.declared.binding.Binding.{Binding as Kept}
use Rattle.mau_reduce.specs.BuiltOperators.{answer_of, built_gives}
use Rattle.mau_reduce.specs.Bindings.{paired, bound_in, HaveKinds, AreValues}
use Rattle.mau_reduce.specs.Trying.{solution_in, left_by, applied_number, number_gives, order_of_all, IsFound}
use Rattle.mau_reduce.specs.Attempting.{untried_by, cond_in, cond_at, made_by_one, made_by, made_of, makes_of}
use Rattle.mau_reduce.specs.Lasts.{left_variables_of, left_variables}
use Rattle.mau_reduce.specs.Comes.{ComesTo}
use Rattle.mau_reduce.proofs.Comes.{comes_same, comes_as}
use Rattle.mau_reduce.proofs.Numbered.{by_order, gives_at, equation_there}

pub native_over : (p : Typed.Program) (hooks : List Operator) (t : Tree) → native (program_over p hooks) t ≡ built_gives p.sig hooks t
native_over p hooks (apply f ts) = refl
native_over p hooks (variable i s) = refl
native_over p hooks (numeral n) = refl

-- at the beginning all is left
module _ (p : Typed.Program) (hooks : List Operator) (B k : ℕ) (t : Tree) where
  abbrev P : Program
  P = program_over p hooks

  abbrev in_order : Run (Option Tree)
  in_order = first_of (applied_number P B k t) (order_of_all P.equations)

  abbrev by_all : Answer → Run (Option Tree) → Run (Option Tree)
  by_all a m = by_answer P (levels P B k) (levels P B (suc k)).sorts a m

  by_same : (a : Answer) (b : ℕ) → by_all a in_order b ≡ by_all a (by_equations P (levels P B k) (levels P B (suc k)).sorts t) b
  by_same no_value b = sym (by_order P B k t b)
  by_same (value v) b = refl
  by_same too_large b = refl

  pub all_left : (nodes : List Node) (given : BuiltIn) → built_gives p.sig hooks t ≡ answer_of nodes P.sign.theory t given →
      (b : ℕ) → untried_by P B k nodes t given None (order_of_all P.equations) b ≡ applied P (levels P B k) (levels P B (suc k)).sorts t b
  all_left nodes given e b = ap (λ a. by_all a in_order b) (sym (native_over p hooks t ∙ e)) ∙ by_same (native P t) b

-- ---- bindings

same_back : (x y : Variable) → same_variable x y ≡ false → same_variable y x ≡ false
same_back x y h = by (same_variable y x) refl
  where
    by : (b : Bool) → same_variable y x ≡ b → b ≡ false
    by false e = refl
    by true e = let k : same_variable x y ≡ true = subst (λ w. same_variable x w ≡ true) (sym (same-is y x e)) (same_itself x) in cc

-- σ binds none of these variables
abbrev Unbound : Binding → List Variable → Type 0
Unbound σ [] = Unit {0}
Unbound σ (x ∷ xs) = (binds σ x ≡ false) × Unbound σ xs

binds_end : (σ : Binding) (x y : Variable) (v : Tree) → binds σ y ≡ false → same_variable x y ≡ false → binds (σ ++ (x, v) ∷ []) y ≡ false
binds_end [] x y v h k = ap (λ b. b || false) k
binds_end (e ∷ es) x y v h k =
    let p = or_parts (same_variable e.0 y) (binds es y) h in
    ap₂ (λ a b. a || b) p.0 (binds_end es x y v p.1 k)

unbound_end : (σ : Binding) (x : Variable) (v : Tree) (xs : List Variable) → Unbound σ xs → has_variable xs x ≡ false → Unbound (σ ++ (x, v) ∷ []) xs
unbound_end σ x v [] u h = tt
unbound_end σ x v (y ∷ xs) u h =
    let p = or_parts (same_variable y x) (has_variable xs x) h in
    (binds_end σ x y v u.0 (same_back y x p.0), unbound_end σ x v xs u.1 p.1)

extended : (σ : Binding) (xs : List Variable) (vs : List Tree) → Distinct xs → Unbound σ xs → extend σ xs vs ≡ σ ++ paired xs vs
extended σ [] vs d u = sym (append-nil σ)
extended σ (x ∷ xs) [] d u = sym (append-nil σ)
extended σ (x ∷ xs) (v ∷ vs) d u =
    ap (λ b. extend (if b then σ else σ ++ (x, v) ∷ []) xs vs) u.0
    ∙ (extended (σ ++ (x, v) ∷ []) xs vs d.1 (unbound_end σ x v xs u.1 d.0)
    ∙ append_assoc σ ((x, v) ∷ []) (paired xs vs))

nothing_bound : (xs : List Variable) → Unbound [] xs
nothing_bound [] = tt
nothing_bound (x ∷ xs) = (refl, nothing_bound xs)

pub binding_paired : (p : Tree) (vs : List Tree) → extend [] (variables p) vs ≡ paired (variables p) vs
binding_paired p vs = extended [] (variables p) vs (distinct p [] tt) (nothing_bound (variables p))

-- ---- candidates

pub at_some : {A : Type 0} (P : A → Type 0) (o : Option A) (x : A) → o ≡ Some x → IfSome o P → P x
at_some P o x e h = subst (λ w. IfSome w P) e h

same_tried : {A B : Type 0} (f g : A → Option B) → ((x : A) → f x ≡ g x) → (o : Outcome A) → try_on (λ x. gives (f x)) o ≡ try_on (λ x. gives (g x)) o
same_tried f g h (done x r b) = ap (λ y. counted_if r (done y 0 b)) (h x)
same_tried f g h (ended e) = refl

module _ (P : Program) (B k : ℕ) (nodes : List Node) (t : Tree) (b : ℕ) where
  -- what an equation gives, by its condition and by what it makes
  pub gives_made : (y : Found) (e : Equation) → slice_get P.equations y.number ≡ Some e → (σ : Binding) → σ ≡ binding_of e.left (solution_in nodes y.solution) →
      number_gives P B k t y.number (solution_in nodes y.solution) b
      ≡ try_on (λ o. gives (option_map (made_by P nodes t (Some y)) o)) (solve P (levels P B k) (cond_at P y.number) σ b)
  gives_made y e at σ is =
      ap (λ r. r b) (gives_at P B k t y.number e at (solution_in nodes y.solution))
      ∙ (same_tried (replaced P.sign.theory e t (solution_in nodes y.solution)) (option_map (made_by P nodes t (Some y))) each (solve P (levels P B k) e.cond (binding_of e.left (solution_in nodes y.solution)) b)
      ∙ (ap (λ c. try_on (λ o. gives (option_map (made_by P nodes t (Some y)) o)) (solve P (levels P B k) c (binding_of e.left (solution_in nodes y.solution)) b)) (sym (ap cond_in at))
      ∙ ap (λ τ. try_on (λ o. gives (option_map (made_by P nodes t (Some y)) o)) (solve P (levels P B k) (cond_at P y.number) τ b)) (sym is)))
    where
      each : (o : Option Binding) → replaced P.sign.theory e t (solution_in nodes y.solution) o ≡ option_map (made_by P nodes t (Some y)) o
      each (Some τ) = ap (λ q. Some (made_by_one P.sign.theory t (solution_in nodes y.solution) τ q)) (sym at)
      each None = refl

  pub cond_past : cond_at P (length P.equations) ≡ []
  cond_past = ap cond_in (slice_get_past P.equations (length P.equations) (le_self (length P.equations)))
    where
      le_self : (n : ℕ) → n ≤ n
      le_self n = omega arith

  -- a value that the built-in gives
  pub value_tried : (v : Tree) (last : Option Found) (m n : Run (Option Tree)) (σ : Binding) (i : ℕ) → i ≡ length P.equations →
      by_answer P (levels P B k) (levels P B (suc k)).sorts (value v) m b ≡ or_go_on n (try_on (λ o. gives (option_map (made_of P nodes t (value v) last) o)) (solve P (levels P B k) (cond_at P i) σ b))
  value_tried v last m n σ i is = ap (λ c. or_go_on n (try_on (λ o. gives (option_map (made_of P nodes t (value v) last) o)) (solve P (levels P B k) c σ b))) (sym (ap (cond_at P) is ∙ cond_past))

-- what a built-in gives is tried
pub given_tried : (P : Program) (B : ℕ) (nodes : List Node) (t : Tree) (given : BuiltIn) (v : Tree) → answer_of nodes P.sign.theory t given ≡ value v →
    (last : Option Found) (tried : Option (ℕ × Option Given.Solution)) (is : List ℕ) (n : ℕ → Run (Option Tree)) (σ : Binding) (i : ℕ) → i ≡ length P.equations →
    ComesTo P (λ k. untried_by P B k nodes t given tried is) (λ k. or_else (λ b. try_on (λ o. gives (option_map (makes_of P nodes t given last) o)) (solve P (levels P B k) (cond_at P i) σ b)) (n k))
given_tried P B nodes t given v e last tried is n σ i h =
    comes_same (λ k b.
    subst (λ (a : Answer). by_answer P (levels P B k) (levels P B (suc k)).sorts a (left_by P B k nodes t tried is) b
    ≡ or_go_on (n k) (try_on (λ o. gives (option_map (made_of P nodes t a last) o)) (solve P (levels P B k) (cond_at P i) σ b)))
    (sym e) (value_tried P B k nodes t b v last (left_by P B k nodes t tried is) (n k) σ i h))

-- it has no variables
pub none_left : (p : Typed.Program) (i : ℕ) → i ≡ length p.equations → left_variables p i ≡ []
none_left p i h = ap left_variables_of (ap (slice_get p.equations) h ∙ slice_get_past p.equations (length p.equations) (omega arith))

pub bound_as : (nodes : List Node) (s : Kept) (p : Tree) (x : Given.Solution) → map variable_of s.variables.items ≡ variables p → s.values.items ≡ x.values → bound_in nodes s ≡ binding_of p (solution_in nodes x)
bound_as nodes s p x e h =
    ap₂ (λ xs ids. paired xs (trees_at nodes (numbers ids))) e h ∙ sym (binding_paired p (trees_at nodes (numbers x.values)))

-- the next candidate of the equations
module _ (p : Typed.Program) (hooks : List Operator) (B : ℕ) (old new : List Node) (t : Tree) (last : Option Found) (i : ℕ) (s : Kept) where
  abbrev Asked : ℕ → Option Found → ℕ → Run (Option Tree)
  Asked j w k b = try_on (λ q. gives (option_map (made_by (program_over p hooks) new t w) q)) (solve (program_over p hooks) (levels (program_over p hooks) B k) (cond_at (program_over p hooks) j) (bound_in new s) b)

  pub equation_tried : (l n : ℕ → Run (Option Tree)) →
      IfSome last (λ y. ComesTo (program_over p hooks) l (λ k. or_else (number_gives (program_over p hooks) B k t y.number (solution_in new y.solution)) (n k))) →
      IsSome last → IfSome last (λ y. i ≡ y.number) → IfSome last (λ y. s.values.items ≡ y.solution.values) →
      IfSome last (λ y. IsFound p new t y.number y.solution) → IfSome (slice_get p.equations i) (λ e. map variable_of s.variables.items ≡ variables (tree_of e.left)) →
      ComesTo (program_over p hooks) l
      (λ k. or_else (λ b. try_on (λ o. gives (option_map (made_by (program_over p hooks) new t last) o)) (solve (program_over p hooks) (levels (program_over p hooks) B k) (cond_at (program_over p hooks) i) (bound_in new s) b)) (n k))
  equation_tried l n h some number values found vars = by last refl h some number values found
    where
      by : (o : Option Found) → last ≡ o →
          IfSome o (λ y. ComesTo (program_over p hooks) l (λ k. or_else (number_gives (program_over p hooks) B k t y.number (solution_in new y.solution)) (n k))) →
          IsSome o → IfSome o (λ y. i ≡ y.number) → IfSome o (λ y. s.values.items ≡ y.solution.values) →
          IfSome o (λ y. IsFound p new t y.number y.solution) →
          ComesTo (program_over p hooks) l
          (λ k. or_else (λ b. try_on (λ q. gives (option_map (made_by (program_over p hooks) new t last) q)) (solve (program_over p hooks) (levels (program_over p hooks) B k) (cond_at (program_over p hooks) i) (bound_in new s) b)) (n k))
      by None e h some number values found = cc
      by (Some y) e h some number values found =
          let own = subst (λ j. IfSome (slice_get p.equations j) (λ d. map variable_of s.variables.items ≡ variables (tree_of d.left))) number vars in
          let mine : map variable_of s.variables.items ≡ variables (tree_of found.equation.left) = subst (λ o. IfSome o (λ d. map variable_of s.variables.items ≡ variables (tree_of d.left))) found.at own in
          comes_as h (λ k b.
          ap (or_go_on (n k)) (gives_made (program_over p hooks) B k new t b y (equation_of found.equation) (equation_there p hooks y.number found.equation found.at) (bound_in new s) (bound_as new s (tree_of found.equation.left) y.solution mine values))
          ∙ (ap (λ w. or_go_on (n k) (Asked y.number w k b)) (sym e)
          ∙ ap (λ j. or_go_on (n k) (Asked j last k b)) (sym number)))

  -- the values are those of the variables
  pub values_given : IsSome last → IfSome last (λ y. i ≡ y.number) → IfSome last (λ y. s.values.items ≡ y.solution.values) →
      IfSome last (λ y. IsFound p new t y.number y.solution) → IfSome (slice_get p.equations i) (λ e. map variable_of s.variables.items ≡ variables (tree_of e.left)) → AreValues p.sig new s
  values_given some number values found vars = by last some number values found
    where
      by : (o : Option Found) → IsSome o → IfSome o (λ y. i ≡ y.number) → IfSome o (λ y. s.values.items ≡ y.solution.values) → IfSome o (λ y. IsFound p new t y.number y.solution) → AreValues p.sig new s
      by None some number values found = cc
      by (Some y) some number values found =
          let own = subst (λ j. IfSome (slice_get p.equations j) (λ d. map variable_of s.variables.items ≡ variables (tree_of d.left))) number vars in
          let mine : map variable_of s.variables.items ≡ variables (tree_of found.equation.left) = subst (λ o. IfSome o (λ d. map variable_of s.variables.items ≡ variables (tree_of d.left))) found.at own in
          record {
            one_each = ap length values ∙ (found.candidate.one_each ∙ (sym (ap length mine) ∙ length-map s.variables.items variable_of));
            within = subst (λ ids. StandWithin (theory_at p.sig) new (numbers ids)) (sym values) found.candidate.within;
            kinds = subst (λ xs. HaveKinds p.sig xs (trees_at new (numbers s.values.items))) (sym mine) (subst (λ ids. HaveKinds p.sig (variables (tree_of found.equation.left)) (trees_at new (numbers ids))) (sym values) found.candidate.kinds);
          }
