-- What the parts of an asking and of a telling do, over plain paths.
use Rattle.std.proofs.Common.{◌≡◌, ℕ, suc, ◌+◌, ◌≤◌, List, [], ◌∷◌, ◌++◌, Bool, true, false, Option, Some, None, All, map, take, drop, length, slice_get, refl, sym, ap, ◌∙◌, subst, arith, inl, inr, Result, Ok, Err, IfOk, IfErr, eqb, eq-eqb}
use Rattle.std.specs.Prelude.{◌⊎◌, ◌↔◌, IsTrue, OnErr, OnOk, is_some}
use Rattle.std.proofs.lemmas.Bool.{eqb-true}
use Rattle.std.proofs.lemmas.List.{length-take-le, take-map}
use Rattle.std.proofs.lemmas.List.Elements.{All-head, All-tail, All-nil, All-cons, All-take, All-append}
use Rattle.std.proofs.lemmas.Option.{slice_get_past}
use Rattle.mau_terms.specs.Tree.{Tree}
use Rattle.mau_terms.specs.Norm.{norm}
use Rattle.mau_terms.specs.Subst.{instance}
use Rattle.mau_terms.specs.View.{tree_of, variable_of}
use Rattle.mau_terms.specs.declared.bare.Bare.{Bare}
use Rattle.mau_terms.specs.declared.ids.VarId.{VarId}
use Rattle.mau_terms.specs.declared.ids.TermId.{TermId}
use Rattle.mau_signature.specs.Signature.{SignatureOf, theory_at}
use Rattle.mau_store.specs.Node.{Node, IsOf, AreNodes}
use Rattle.mau_store.proofs.Numbers.{one_number}
use Rattle.mau_store.specs.Trees.{tree_at}
use Rattle.mau_canon.specs.Within.{IsCause}
use Rattle.mau_canon.specs.declared.fault.BuildFault.{BuildFault}
use Rattle.mau_canon.specs.declared.fault.BuildFault.TheVariants as Fault
use Rattle.mau_sorts.specs.SortSets.{SortsOf, IsIn}
use Rattle.mau_sorts.specs.Table.{Table, entry_at}
use Rattle.mau_program.specs.declared.statements.Fragment as Written
use Rattle.mau_program.specs.declared.statements.Fragment.TheVariants as Part
use Rattle.mau_evaluation.specs.Run.{Outcome, done, try_on, counted_if, where_true}
use Rattle.mau_evaluation.specs.Program.{Fragment, equals, matches, has_sort, Program}
use Rattle.mau_evaluation.specs.Listing.{same_tree}
use Rattle.mau_evaluation.specs.Evaluation.{Binding, Level, look_up, has_number}
use Rattle.mau_evaluation.proofs.Still.{same_tree_itself}
use Rattle.mau_evaluation.proofs.Reduced.{same_tree_true}
use Rattle.mau_api.specs.Programs.{fragment_of}
use Rattle.mau_api.specs.Terms.{IsTerm}
use Rattle.mau_api.specs.Answers.{binding_in, IsValueOf}
use Rattle.mau_cond.specs.declared.stage.Station.{Station}
use Rattle.mau_cond.specs.declared.stage.Stage.{Stage}
use Rattle.mau_cond.specs.declared.stage.Stage.TheVariants.{Open, First, Both, Due, Failed}
use Rattle.mau_cond.specs.declared.stage.Ask.{Ask}
use Rattle.mau_cond.specs.declared.stage.Ask.TheVariants.{Evaluate, Match, Holds, Fails}
use Rattle.mau_cond.specs.Path.{Path, due_at, all_stations, IsMatching, AreNested, IsPath, IsToldOf, term_by, AwaitsValue, AwaitsSolution, IsOver}
use Rattle.mau_cond.specs.Meaning.{Left, total, evaluated, solve_from, with_first, with_both, at_stage, at_value, through, whole, whole_with, found, answered, IsEndBy, Ends, SameWhole}
use Rattle.mau_cond.specs.Known.{IsToldValue, IsKnown, IsLevelOf}
use Rattle.mau_cond.specs.Steps.{opened, failing, decided, IsWaiting, due_ask, IsAnswered}
use Rattle.mau_cond.proofs.Lists.{take_twice, no_end}
use Rattle.mau_cond.proofs.Stations.{from_place, from_end, nested_push, nested_pop, nested_more, counted_twice, through_ended, through_some, through_same, through_evaluated}
use Rattle.mau_cond.proofs.Levels.{level_evaluates, level_refuses, try_refused}

-- ---- lists

all_left : {A : Type 0} (P : A → Type 0) (xs ys : List A) → All P (xs ++ ys) → All P xs
all_left P [] ys h = All-nil P
all_left P (x ∷ xs) ys h = All-cons P x xs (All-head P x (xs ++ ys) h) (all_left P xs ys (All-tail P x (xs ++ ys) h))

pub all_last : {A : Type 0} (P : A → Type 0) (xs : List A) (y : A) → All P (xs ++ y ∷ []) → P y
all_last P [] y h = All-head P y [] h
all_last P (x ∷ xs) y h = all_last P xs y (All-tail P x (xs ++ y ∷ []) h)

pub all_front : (P : Station → Type 0) (ss : List Station) (k : Stage) → All P (ss ++ due_at k) → All P ss
all_front P ss k h = all_left P ss (due_at k) h

pub all_same : (P : Station → Type 0) (ss : List Station) → All P ss → All P (ss ++ [])
all_same P ss h = subst (All P) (sym (no_end ss)) h

pub nested_front : (low : ℕ) (ss : List Station) (k : Stage) (n : ℕ) → AreNested low (ss ++ due_at k) n → AreNested low ss n
nested_front low ss Open n h = subst (λ z. AreNested low z n) (no_end ss) h
nested_front low ss (First v) n h = subst (λ z. AreNested low z n) (no_end ss) h
nested_front low ss (Both v w) n h = subst (λ z. AreNested low z n) (no_end ss) h
nested_front low ss (Due s) n h = let q = nested_pop low ss s n h in nested_more low ss s.bound n q.0 q.1
nested_front low ss Failed n h = subst (λ z. AreNested low z n) (no_end ss) h

due_is : (s z : Station) → Due s ≡ Due z → s ≡ z
due_is s z e = cc

pub some_is : {A : Type 0} (x y : A) → Some x ≡ Some y → x ≡ y
some_is x y e = cc

binding_take : (nodes : List Node) (n : ℕ) (bound : List (VarId × TermId)) → binding_in nodes (take n bound) ≡ take n (binding_in nodes bound)
binding_take nodes n bound = sym (take-map (λ b. (variable_of b.0, tree_at nodes b.1.0)) n bound)

-- ---- paths that are known

module _ (s : SignatureOf) (nodes : List Node) (table : Table) where
  pub known_failing : (p : Path) → IsKnown s nodes table p → IsKnown s nodes table (failing p)
  known_failing p h = record {
    fragments = h.fragments;
    bound = h.bound;
    stations = all_same (λ k. IsToldValue s nodes table k.value) p.stations (all_front (λ k. IsToldValue s nodes table k.value) p.stations p.stage h.stations);
    told = tt;
  }

  pub known_opened : (p : Path) (i : ℕ) → IsKnown s nodes table p → IsKnown s nodes table (opened p i)
  known_opened p i h = record {
    fragments = h.fragments;
    bound = h.bound;
    stations = all_same (λ k. IsToldValue s nodes table k.value) p.stations (all_front (λ k. IsToldValue s nodes table k.value) p.stations p.stage h.stations);
    told = tt;
  }

  pub known_decided : (p : Path) (b : Bool) → IsKnown s nodes table p → IsKnown s nodes table (decided p b)
  known_decided p true h = known_opened p (suc p.at) h
  known_decided p false h = known_failing p h

-- ---- going back

abbrev pub back_to : Path → List (VarId × TermId) → List Station → Station → Path
back_to p bound ss s = record { cond = p.cond; bound = bound; stations = ss; at = p.at; stage = Due s }

module _ (p : Path) (w : IsPath p) (ss : List Station) (s : Station) (e : p.stations ≡ ss ++ s ∷ []) (bound : List (VarId × TermId)) (f : bound ≡ take s.bound p.bound) where
  popped : AreNested 0 ss s.bound × (s.bound ≤ length p.bound)
  popped = nested_pop 0 ss s (length p.bound) (subst (λ z. AreNested 0 z (length p.bound)) e (nested_front 0 p.stations p.stage (length p.bound) w.nested))

  same_number : (n : ℕ) → n ≤ n
  same_number n = omega arith

  long : s.bound ≡ length bound
  long = sym (ap length f ∙ length-take-le s.bound p.bound popped.1)

  pub went_back : (nodes : List Node) → SameWhole nodes (failing p) (back_to p bound ss s)
  went_back nodes P l last lefts r b =
      let c = map fragment_of p.cond in
      let σ = binding_in nodes p.bound in
      let τ = binding_in nodes bound in
      let same : τ ≡ take s.bound σ = ap (binding_in nodes) f ∙ binding_take nodes s.bound p.bound in
      ap (λ z. through P l c σ z lefts (done None 0 b)) (no_end p.stations ∙ e)
      ∙ through_same P l c 0 s.bound σ τ (ss ++ s ∷ []) lefts (done None 0 b) (nested_push 0 ss s s.bound popped.0 (same_number s.bound))
      (sym (ap (take s.bound) same ∙ take_twice s.bound σ))

  pub back_path : IsPath (back_to p bound ss s)
  back_path = record {
    few = w.few;
    matching = subst (All (λ (k : Station). IsMatching (slice_get p.cond k.at))) e (all_front (λ k. IsMatching (slice_get p.cond k.at)) p.stations p.stage w.matching);
    nested = nested_push 0 ss s (length bound) popped.0 (subst (λ n. s.bound ≤ n) long (same_number s.bound));
    due = λ z q. ap (λ (k : Station). k.bound) (sym (due_is s z q)) ∙ long;
    told = tt;
    over = λ q. absurd (no_due q);
  }
    where
      no_due : Due s ≡ Failed → ⊥
      no_due q = cc

  pub known_back : (sig : SignatureOf) (nodes : List Node) (table : Table) → IsKnown sig nodes table (failing p) → IsKnown sig nodes table (back_to p bound ss s)
  known_back sig nodes table h = record {
    fragments = h.fragments;
    bound = subst (All (IsValueOf sig nodes table)) (sym f) (All-take (IsValueOf sig nodes table) s.bound p.bound h.bound);
    stations = subst (All (λ (k : Station). IsToldValue sig nodes table k.value)) (no_end p.stations ∙ e) h.stations;
    told = tt;
  }

-- ---- what is due

module _ (s : SignatureOf) (nodes : List Node) (table : Table) where
  pub due_answered : (before : Path) (cond : List Written.Fragment) (bound : List (VarId × TermId)) (ss : List Station) (i : ℕ) (k : Stage) →
      IsPath (record { cond = cond; bound = bound; stations = ss; at = i; stage = k }) → IsWaiting k →
      SameWhole nodes before (record { cond = cond; bound = bound; stations = ss; at = i; stage = k }) →
      IsKnown s nodes table (record { cond = cond; bound = bound; stations = ss; at = i; stage = k }) → (AwaitsValue before → ⊥) →
      ss ++ due_at k ≡ all_stations before →
      IsAnswered s nodes table before (record { cond = cond; bound = bound; stations = ss; at = i; stage = k }) (due_ask k)
  due_answered before cond bound ss i Open w h same known none st = absurd h
  due_answered before cond bound ss i (First v) w h same known none st = absurd h
  due_answered before cond bound ss i (Both v u) w h same known none st = absurd h
  due_answered before cond bound ss i (Due z) w h same known none st = record {
    goes = λ P l of last lefts r b. same P l last lefts r b;
    asked = ((z, refl, refl, refl), all_last (λ (x : Station). IsMatching (slice_get cond x.at)) ss z w.matching);
    stations = st;
    known = known;
    given = all_last (λ (x : Station). IsToldValue s nodes table x.value) ss z known.stations;
    again = λ a. absurd (none a);
  }
  due_answered before cond bound ss i Failed w h same known none st = record {
    goes = λ P l of last lefts r b. same P l last lefts r b ∙ ap (λ z. through P l (map fragment_of cond) (binding_in nodes bound) (z ++ []) lefts (done None 0 b)) (w.over refl);
    asked = refl;
    stations = st;
    known = known;
    given = tt;
    again = λ a. absurd (none a);
  }

  pub waiting_is : (cond : List Written.Fragment) (bound : List (VarId × TermId)) (ss : List Station) (i : ℕ) (k : Stage) → IsWaiting k →
      ((j : ℕ) × (v : TermId) × AwaitsSolution (record { cond = cond; bound = bound; stations = ss; at = i; stage = k }) j v) ⊎ IsOver (record { cond = cond; bound = bound; stations = ss; at = i; stage = k })
  waiting_is cond bound ss i Open h = absurd h
  waiting_is cond bound ss i (First v) h = absurd h
  waiting_is cond bound ss i (Both v w) h = absurd h
  waiting_is cond bound ss i (Due z) h = inl (z.at, z.value, (z, refl, refl, refl))
  waiting_is cond bound ss i Failed h = inr refl

  -- ---- the condition holds

  more : (r : ℕ) → r + 0 ≡ r
  more r = omega arith

  no_term : (o : Option Written.Fragment) (t : Bare) → o ≡ None → term_by Open o ≡ Some t → ⊥
  no_term None t e q = cc
  no_term (Some f) t e q = cc

  pub held : (p new : Path) (at : ℕ) (values : List (VarId × TermId)) → length p.cond ≤ at → values ≡ p.bound → SameWhole nodes (failing p) new →
      (P : Program) (l : Level) (last : Option Binding) (lefts : List Left) (r b : ℕ) →
      whole P l nodes (opened p at) last lefts r b ≡ found P l nodes (opened p at) new last lefts r (binding_in nodes values) b
  held p new at values h e same P l None lefts r b =
      let c = map fragment_of p.cond in
      let σ = binding_in nodes p.bound in
      ap (λ z. through P l c σ (p.stations ++ []) lefts (counted_if r (solve_from P l None z σ b))) (from_end p.cond at h)
      ∙ (through_some P l c σ (p.stations ++ []) lefts σ (r + 0) b
      ∙ (ap (λ n. done (Some σ) (total (p.stations ++ []) lefts n) b) (more r)
      ∙ ap (λ vs. done (Some (binding_in nodes vs)) (total (p.stations ++ []) lefts r) b) (sym e)))
  held p new at values h e same P l (Some last) lefts r b =
      let c = map fragment_of p.cond in
      let σ = binding_in nodes p.bound in
      ap (λ z. through P l c σ (p.stations ++ []) lefts (counted_if r (solve_from P l (Some last) z σ b))) (from_end p.cond at h)
      ∙ same P l (Some last) lefts r b

  pub no_more_terms : (p : Path) (at : ℕ) → length p.cond ≤ at → AwaitsValue (opened p at) → ⊥
  no_more_terms p at h a = no_term (slice_get p.cond at) a.0 (slice_get_past p.cond at h) a.1

-- ---- a term is evaluated

at_fragment : (k : Stage) (o : Option Written.Fragment) (t : Bare) → term_by k o ≡ Some t → (f : Written.Fragment) × (o ≡ Some f)
at_fragment k (Some f) t e = (f, refl)
at_fragment Open None t e = cc
at_fragment (First v) None t e = cc
at_fragment (Both v w) None t e = cc
at_fragment (Due z) None t e = cc
at_fragment Failed None t e = cc

module _ (P : Program) (l : Level) where
  abbrev Evaluates : Option Binding → Written.Fragment → Bare → List Fragment → Binding → (ℕ → Tree) → Stage → ℕ → Type 0
  Evaluates last f t rest σ tree k b =
      at_stage P l last (fragment_of f ∷ rest) σ tree k b ≡ try_on (at_value P l last (fragment_of f ∷ rest) σ tree k) (l.eval (instance (look_up σ) (tree_of t)) b)

  stage_by : (last : Option Binding) (k : Stage) (f : Written.Fragment) (t : Bare) (rest : List Fragment) (σ : Binding) (tree : ℕ → Tree) (b : ℕ) → term_by k (Some f) ≡ Some t →
      Evaluates last f t rest σ tree k b
  stage_by None Open (Part.Equal x y) t rest σ tree b e = ap (λ z. try_on (at_value P l None (equals (tree_of x) (tree_of y) ∷ rest) σ tree Open) (l.eval (instance (look_up σ) (tree_of z)) b)) (some_is x t e)
  stage_by (Some last) Open (Part.Equal x y) t rest σ tree b e = ap (λ z. try_on (at_value P l (Some last) (equals (tree_of x) (tree_of y) ∷ rest) σ tree Open) (l.eval (instance (look_up σ) (tree_of z)) b)) (some_is x t e)
  stage_by None Open (Part.Match x y) t rest σ tree b e = ap (λ z. try_on (at_value P l None (matches (tree_of x) (tree_of y) ∷ rest) σ tree Open) (l.eval (instance (look_up σ) (tree_of z)) b)) (some_is y t e)
  stage_by (Some last) Open (Part.Match x y) t rest σ tree b e = ap (λ z. try_on (at_value P l (Some last) (matches (tree_of x) (tree_of y) ∷ rest) σ tree Open) (l.eval (instance (look_up σ) (tree_of z)) b)) (some_is y t e)
  stage_by None Open (Part.Sort x y) t rest σ tree b e = ap (λ z. try_on (at_value P l None (has_sort (tree_of x) y ∷ rest) σ tree Open) (l.eval (instance (look_up σ) (tree_of z)) b)) (some_is x t e)
  stage_by (Some last) Open (Part.Sort x y) t rest σ tree b e = ap (λ z. try_on (at_value P l (Some last) (has_sort (tree_of x) y ∷ rest) σ tree Open) (l.eval (instance (look_up σ) (tree_of z)) b)) (some_is x t e)
  stage_by last Open (Part.Reach x y) t rest σ tree b e = cc
  stage_by last (First v) (Part.Equal x y) t rest σ tree b e = ap (λ z. try_on (at_value P l last (equals (tree_of x) (tree_of y) ∷ rest) σ tree (First v)) (l.eval (instance (look_up σ) (tree_of z)) b)) (some_is y t e)
  stage_by last (First v) (Part.Match x y) t rest σ tree b e = cc
  stage_by last (First v) (Part.Sort x y) t rest σ tree b e = cc
  stage_by last (First v) (Part.Reach x y) t rest σ tree b e = cc
  stage_by last (Both v w) f t rest σ tree b e = cc
  stage_by last (Due z) f t rest σ tree b e = cc
  stage_by last Failed f t rest σ tree b e = cc

  pub stage_evaluates : (last : Option Binding) (cond : List Written.Fragment) (i : ℕ) (k : Stage) (t : Bare) (σ : Binding) (tree : ℕ → Tree) (b : ℕ) → term_by k (slice_get cond i) ≡ Some t →
      at_stage P l last (drop i (map fragment_of cond)) σ tree k b
      ≡ try_on (at_value P l last (drop i (map fragment_of cond)) σ tree k) (l.eval (instance (look_up σ) (tree_of t)) b)
  stage_evaluates last cond i k t σ tree b e =
      let a = at_fragment k (slice_get cond i) t e in
      subst (λ (c : List Fragment). at_stage P l last c σ tree k b ≡ try_on (at_value P l last c σ tree k) (l.eval (instance (look_up σ) (tree_of t)) b))
      (sym (from_place cond i a.0 a.1)) (stage_by last k a.0 t (drop (suc i) (map fragment_of cond)) σ tree b (subst (λ o. term_by k o ≡ Some t) a.1 e))

  pub ends_through : (c : List Fragment) (σ : Binding) (ss : List Station) (xs : List Left) (o : Outcome (Option Binding)) (fault : BuildFault) → IsEndBy o fault → IsEndBy (through P l c σ ss xs o) fault
  ends_through c σ ss xs o Fault.TooDeep h = ap (through P l c σ ss xs) h ∙ through_ended P l c σ ss xs _
  ends_through c σ ss xs o Fault.Overflow h = ap (through P l c σ ss xs) h ∙ through_ended P l c σ ss xs _
  ends_through c σ ss xs o Fault.NoMemory h = tt

module _ (s : SignatureOf) (nodes : List Node) (table : Table) (q : Path) (t : Bare) (e : term_by q.stage (slice_get q.cond q.at) ≡ Some t) where
  abbrev built : Tree
  built = instance (look_up (binding_in nodes q.bound)) (tree_of t)

  pub evaluate_answered : IsKnown s nodes table q → (id : TermId) → tree_at nodes id.0 ≡ norm (theory_at s) built → IsTerm s nodes id.0 → IsAnswered s nodes table q q (Evaluate id)
  evaluate_answered known id same term = record {
    goes = λ P l of last lefts r b.
        let c = map fragment_of q.cond in
        let σ = binding_in nodes q.bound in
        ap (λ o. through P l c σ (all_stations q) lefts (counted_if r o)) (stage_evaluates P l last q.cond q.at q.stage t σ (tree_at nodes) b e)
        ∙ (through_evaluated P l c σ (all_stations q) lefts r (at_value P l last (drop q.at c) σ (tree_at nodes) q.stage) (l.eval built b)
        ∙ ap (evaluated (λ v n. whole_with P l nodes q last lefts (r + n) v)) (level_evaluates s nodes table l of built (tree_at nodes id.0) same term.within.within b));
    asked = (t, e);
    stations = refl;
    known = known;
    given = term;
    again = λ a. (refl, tt);
  }

  pub evaluate_ends : (fault : BuildFault) → IsCause (theory_at s) (norm (theory_at s) built) fault → Ends s nodes table q fault
  evaluate_ends fault cause P l of last lefts r b =
      let c = map fragment_of q.cond in
      let σ = binding_in nodes q.bound in
      ends_through P l c σ (all_stations q) lefts (counted_if r (at_stage P l last (drop q.at c) σ (tree_at nodes) q.stage b)) fault
      (subst (λ o. IsEndBy (counted_if r o) fault) (sym (stage_evaluates P l last q.cond q.at q.stage t σ (tree_at nodes) b e))
      (try_refused (at_value P l last (drop q.at c) σ (tree_at nodes) q.stage) (l.eval built b) r fault (level_refuses s nodes table l of built fault cause b)))

none_is : (t : Bare) → None ≡ Some t → ⊥
none_is t e = cc

pub failing_awaits : (p : Path) → AwaitsValue (failing p) → ⊥
failing_awaits p a = none_is a.0 a.1

-- ---- paths of which nothing is due

first_told : (v : TermId) (o : Option Written.Fragment) (t : Bare) → term_by (First v) o ≡ Some t → IsToldOf (First v) o
first_told v None t e = absurd (none_is t e)
first_told v (Some (Part.Equal x y)) t e = tt
first_told v (Some (Part.Match x y)) t e = absurd (none_is t e)
first_told v (Some (Part.Sort x y)) t e = tt
first_told v (Some (Part.Reach x y)) t e = absurd (none_is t e)

module _ (p : Path) (w : IsPath p) where
  pub plain_path : (i : ℕ) (k : Stage) → due_at k ≡ [] → IsToldOf k (slice_get p.cond i) → ((z : Station) → k ≡ Due z → ⊥) → (k ≡ Failed → ⊥) →
      IsPath (record { cond = p.cond; bound = p.bound; stations = p.stations; at = i; stage = k })
  plain_path i k none told due over = record {
    few = w.few;
    matching = subst (λ z. All (λ (x : Station). IsMatching (slice_get p.cond x.at)) (p.stations ++ z)) (sym none)
        (all_same (λ x. IsMatching (slice_get p.cond x.at)) p.stations (all_front (λ x. IsMatching (slice_get p.cond x.at)) p.stations p.stage w.matching));
    nested = subst (λ z. AreNested 0 (p.stations ++ z) (length p.bound)) (sym none)
        (subst (λ z. AreNested 0 z (length p.bound)) (sym (no_end p.stations)) (nested_front 0 p.stations p.stage (length p.bound) w.nested));
    due = λ z q. absurd (due z q);
    told = told;
    over = λ q. absurd (over q);
  }

  pub asked_path : (i : ℕ) (k : Stage) (t : Bare) → term_by k (slice_get p.cond i) ≡ Some t →
      IsPath (record { cond = p.cond; bound = p.bound; stations = p.stations; at = i; stage = k })
  asked_path i Open t e = plain_path i Open refl tt open_due open_over
    where
      open_due : (z : Station) → Open ≡ Due z → ⊥
      open_due z q = cc

      open_over : Open ≡ Failed → ⊥
      open_over q = cc
  asked_path i (First v) t e = plain_path i (First v) refl (first_told v (slice_get p.cond i) t e) first_due first_over
    where
      first_due : (z : Station) → First v ≡ Due z → ⊥
      first_due z q = cc

      first_over : First v ≡ Failed → ⊥
      first_over q = cc
  asked_path i (Both v u) t e = absurd (none_is t e)
  asked_path i (Due z) t e = absurd (none_is t e)
  asked_path i Failed t e = absurd (none_is t e)

  pub first_path : (v : TermId) → IsToldOf (First v) (slice_get p.cond p.at) → IsPath (record { cond = p.cond; bound = p.bound; stations = p.stations; at = p.at; stage = First v })
  first_path v told = plain_path p.at (First v) refl told first_due first_over
    where
      first_due : (z : Station) → First v ≡ Due z → ⊥
      first_due z q = cc

      first_over : First v ≡ Failed → ⊥
      first_over q = cc

-- ---- a fragment is decided

-- over each level the paths have the same to compute
abbrev pub SameOver : SignatureOf → List Node → Table → Path → Path → Type 0
SameOver s nodes table p q =
    (P : Program) (l : Level) → IsLevelOf s nodes table l → (last : Option Binding) (lefts : List Left) (r b : ℕ) → whole P l nodes p last lefts r b ≡ whole P l nodes q last lefts r b

module _ (s : SignatureOf) (nodes : List Node) (table : Table) where
  answered_same : (P : Program) (l : Level) (p q new : Path) (a : Ask) → all_stations q ≡ all_stations p → (last : Option Binding) (lefts : List Left) (r b : ℕ) →
      answered P l nodes q new a last lefts r b ≡ answered P l nodes p new a last lefts r b
  answered_same P l p q new (Evaluate t) e last lefts r b = refl
  answered_same P l p q new (Match i v) e last lefts r b = refl
  answered_same P l p q new (Holds values) e None lefts r b = ap (λ z. done (Some (binding_in nodes values.items)) (total z lefts r) b) e
  answered_same P l p q new (Holds values) e (Some last) lefts r b = refl
  answered_same P l p q new Fails e last lefts r b = refl

  pub answered_as : (p q new : Path) (a : Ask) → SameOver s nodes table p q → all_stations q ≡ all_stations p → (AwaitsValue p → ⊥) → IsAnswered s nodes table q new a → IsAnswered s nodes table p new a
  answered_as p q new a same e none h = record {
    goes = λ P l of last lefts r b. same P l of last lefts r b ∙ (h.goes P l of last lefts r b ∙ answered_same P l p q new a e last lefts r b);
    asked = h.asked;
    stations = h.stations ∙ e;
    known = h.known;
    given = h.given;
    again = λ w. absurd (none w);
  }

  pub ends_as : (p q : Path) (fault : BuildFault) → SameOver s nodes table p q → Ends s nodes table q fault → Ends s nodes table p fault
  ends_as p q fault same h P l of last lefts r b = subst (λ o. IsEndBy o fault) (sym (same P l of last lefts r b)) (h P l of last lefts r b)

  module _ (p : Path) (v w : TermId) (e : p.stage ≡ Both v w) (t u : Bare) (f : slice_get p.cond p.at ≡ Some (Part.Equal t u)) where
    abbrev mk : Stage → Path
    mk k = record { cond = p.cond; bound = p.bound; stations = p.stations; at = p.at; stage = k }

    pub both_same : (holds : Bool) → holds ≡ same_tree (tree_at nodes v.0) (tree_at nodes w.0) → SameOver s nodes table p (decided p holds)
    both_same holds h P l of last lefts r b =
        let c = map fragment_of p.cond in
        let σ = binding_in nodes p.bound in
        ap (λ k. whole P l nodes (mk k) last lefts r b) e
        ∙ (ap (λ z. through P l c σ (p.stations ++ []) lefts (counted_if r (with_both P l last z σ (tree_at nodes v.0) (tree_at nodes w.0) b))) (from_place p.cond p.at (Part.Equal t u) f)
        ∙ (ap (λ z. through P l c σ (p.stations ++ []) lefts (counted_if r (where_true z (solve_from P l last (drop (suc p.at) c) σ) b))) (sym h)
        ∙ by holds))
      where
        by : (z : Bool) → through P l (map fragment_of p.cond) (binding_in nodes p.bound) (p.stations ++ []) lefts (counted_if r (where_true z (solve_from P l last (drop (suc p.at) (map fragment_of p.cond)) (binding_in nodes p.bound)) b))
            ≡ whole P l nodes (decided p z) last lefts r b
        by true = refl
        by false = refl

    pub both_stations : (holds : Bool) → all_stations (decided p holds) ≡ all_stations p
    both_stations true = ap (λ k. p.stations ++ due_at k) (sym e)
    both_stations false = ap (λ k. p.stations ++ due_at k) (sym e)

    pub both_awaits : AwaitsValue p → ⊥
    both_awaits a = none_is a.0 (subst (λ k. term_by k (slice_get p.cond p.at) ≡ Some a.0) e a.1)

-- a fact goes over from what a result holds
pub if_ok : {A E : Type 0} (P Q : A → Type 0) → ((x : A) → P x → Q x) → (r : Result A E) → IfOk r P → IfOk r Q
if_ok P Q f (Ok x) h = f x h
if_ok P Q f (Err e) h = tt

pub if_err : {A E : Type 0} (P Q : E → Type 0) → ((x : E) → P x → Q x) → (r : Result A E) → IfErr r P → IfErr r Q
if_err P Q f (Ok x) h = tt
if_err P Q f (Err e) h = f e h

both_is : (v w : TermId) (o : Option Written.Fragment) → IsToldOf (Both v w) o → (t : Bare) × (u : Bare) × (o ≡ Some (Part.Equal t u))
both_is v w None h = absurd h
both_is v w (Some (Part.Equal t u)) h = (t, u, refl)
both_is v w (Some (Part.Match t u)) h = absurd h
both_is v w (Some (Part.Sort t u)) h = absurd h
both_is v w (Some (Part.Reach t u)) h = absurd h

-- the fragment of which both values were told is an equality
pub both_equal : (p : Path) → IsPath p → (v w : TermId) → p.stage ≡ Both v w → (t : Bare) × (u : Bare) × (slice_get p.cond p.at ≡ Some (Part.Equal t u))
both_equal p h v w e = both_is v w (slice_get p.cond p.at) (subst (λ k. IsToldOf k (slice_get p.cond p.at)) e h.told)

-- ---- what was told has terms

open_reach : (k : Stage) (o : Option Written.Fragment) (a b t : Bare) → k ≡ Open → o ≡ Some (Part.Reach a b) → term_by k o ≡ Some t → ⊥
open_reach k o a b t e f h = none_is t (subst (λ z. term_by Open z ≡ Some t) f (subst (λ z. term_by z o ≡ Some t) e h))

pub awaits_reach : (p : Path) (a b : Bare) → p.stage ≡ Open → slice_get p.cond p.at ≡ Some (Part.Reach a b) → AwaitsValue p → ⊥
awaits_reach p a b e f h = open_reach p.stage (slice_get p.cond p.at) a b h.0 e f h.1

pub awaits_end : (p : Path) → p.stage ≡ Open → slice_get p.cond p.at ≡ None → AwaitsValue p → ⊥
awaits_end p e f h = none_is h.0 (subst (λ z. term_by Open z ≡ Some h.0) f (subst (λ z. term_by z (slice_get p.cond p.at) ≡ Some h.0) e h.1))

first_is : (v : TermId) (o : Option Written.Fragment) (t : Bare) → term_by (First v) o ≡ Some t → (a : Bare) × (b : Bare) × (o ≡ Some (Part.Equal a b))
first_is v None t e = absurd (none_is t e)
first_is v (Some (Part.Equal a b)) t e = (a, b, refl)
first_is v (Some (Part.Match a b)) t e = absurd (none_is t e)
first_is v (Some (Part.Sort a b)) t e = absurd (none_is t e)
first_is v (Some (Part.Reach a b)) t e = absurd (none_is t e)

-- the right side of an equality is awaited
pub awaits_second : (p : Path) (v : TermId) → p.stage ≡ First v → AwaitsValue p → (a : Bare) × (b : Bare) × (slice_get p.cond p.at ≡ Some (Part.Equal a b))
awaits_second p v e h = first_is v (slice_get p.cond p.at) h.0 (subst (λ z. term_by z (slice_get p.cond p.at) ≡ Some h.0) e h.1)

-- ---- u in p := u has a value

module _ (p : Path) (w : IsPath p) (v : TermId) (n : ℕ) (e : n ≡ length p.bound) (m : IsMatching (slice_get p.cond p.at)) where
  abbrev station : Station
  station = record { at = p.at; value = v; bound = n }

  abbrev Matching : Station → Type 0
  Matching x = IsMatching (slice_get p.cond x.at)

  pub station_path : IsPath (record { cond = p.cond; bound = p.bound; stations = p.stations; at = p.at; stage = Due station })
  station_path = record {
    few = w.few;
    matching = All-append Matching p.stations (station ∷ []) (all_front Matching p.stations p.stage w.matching) (All-cons Matching station [] m (All-nil Matching));
    nested = nested_push 0 p.stations station (length p.bound) (subst (λ z. AreNested 0 p.stations z) (sym e) (nested_front 0 p.stations p.stage (length p.bound) w.nested)) less;
    due = λ z q. ap (λ (k : Station). k.bound) (sym (due_is station z q)) ∙ e;
    told = tt;
    over = λ q. absurd (no_due q);
  }
    where
      less : n ≤ length p.bound
      less = omega (arith, e)

      no_due : Due station ≡ Failed → ⊥
      no_due q = cc

  pub station_known : (s : SignatureOf) (nodes : List Node) (table : Table) → IsKnown s nodes table p → IsToldValue s nodes table v →
      IsKnown s nodes table (record { cond = p.cond; bound = p.bound; stations = p.stations; at = p.at; stage = Due station })
  station_known s nodes table h k =
      let Q : Station → Type 0 = λ x. IsToldValue s nodes table x.value in
      record {
        fragments = h.fragments;
        bound = h.bound;
        stations = All-append Q p.stations (station ∷ []) (all_front Q p.stations p.stage h.stations) (All-cons Q station [] k (All-nil Q));
        told = tt;
      }

-- ---- equal terms

pub numbers_same : (nodes : List Node) → AreNodes nodes → (i j : ℕ) → IsOf nodes i → IsOf nodes j → (w : Bool) → w ≡ eqb i j → w ≡ same_tree (tree_at nodes i) (tree_at nodes j)
numbers_same nodes are i j h k w e = e ∙ by (eqb i j) refl
  where
    other : eqb i j ≡ false → (v : Bool) → same_tree (tree_at nodes i) (tree_at nodes j) ≡ v → false ≡ same_tree (tree_at nodes i) (tree_at nodes j)
    other f false q = sym q
    other f true q =
        let p : true ≡ false = sym (eq-eqb i j (one_number nodes are i j h k (same_tree_true (tree_at nodes i) (tree_at nodes j) q))) ∙ f in cc

    by : (v : Bool) → eqb i j ≡ v → v ≡ same_tree (tree_at nodes i) (tree_at nodes j)
    by true f = sym (same_tree_itself (tree_at nodes i)) ∙ ap (λ n. same_tree (tree_at nodes i) (tree_at nodes n)) (eqb-true i j f)
    by false f = other f (same_tree (tree_at nodes i) (tree_at nodes j)) refl

-- ---- t : s is decided

both_ways : (a b : Bool) → (a ≡ true → b ≡ true) → (b ≡ true → a ≡ true) → a ≡ b
both_ways true b f g = sym (f refl)
both_ways false true f g = g refl
both_ways false false f g = refl

pub some_of : {A : Type 0} (o : Option A) → is_some o ≡ true → (x : A) × (o ≡ Some x)
some_of None e = cc
some_of (Some x) e = (x, refl)

module _ (s : SignatureOf) (nodes : List Node) (table : Table) (p : Path) (v : TermId) (e : p.stage ≡ First v) (t : Bare) (n : ℕ) (f : slice_get p.cond p.at ≡ Some (Part.Sort t n)) where
  abbrev stands : Stage → Path
  stands k = record { cond = p.cond; bound = p.bound; stations = p.stations; at = p.at; stage = k }

  pub sort_same : IsTerm s nodes v.0 → (holds : Bool) (sorts : SortsOf) → entry_at table v.0 ≡ Some sorts → IsTrue holds ↔ IsIn s.hierarchy sorts n → SameOver s nodes table p (decided p holds)
  sort_same term holds sorts at iff P l of last lefts r b =
      let c = map fragment_of p.cond in
      let σ = binding_in nodes p.bound in
      let k = of.entries v.0 sorts at term in
      let rest = solve_from P l last (drop (suc p.at) c) σ in
      let same : has_number k.sorts n ≡ holds = both_ways (has_number k.sorts n) holds (λ h. iff.1 ((k.exact n).1 h)) (λ h. (k.exact n).0 (iff.0 h)) in
      ap (λ z. whole P l nodes (stands z) last lefts r b) e
      ∙ (ap (λ z. through P l c σ (p.stations ++ []) lefts (counted_if r (with_first P l last z σ (tree_at nodes v.0) b))) (from_place p.cond p.at (Part.Sort t n) f)
      ∙ (ap (λ o. through P l c σ (p.stations ++ []) lefts (counted_if r (try_on (λ ss. where_true (has_number ss n) rest) o))) (k.known b)
      ∙ (ap (through P l c σ (p.stations ++ []) lefts) (counted_twice r 0 (where_true (has_number k.sorts n) rest b))
      ∙ (ap (λ m. through P l c σ (p.stations ++ []) lefts (counted_if m (where_true (has_number k.sorts n) rest b))) (zero_more r)
      ∙ (ap (λ z. through P l c σ (p.stations ++ []) lefts (counted_if r (where_true z rest b))) same
      ∙ by holds)))))
    where
      zero_more : (r : ℕ) → r + 0 ≡ r
      zero_more r = omega arith

      by : (z : Bool) → through P l (map fragment_of p.cond) (binding_in nodes p.bound) (p.stations ++ []) lefts (counted_if r (where_true z (solve_from P l last (drop (suc p.at) (map fragment_of p.cond)) (binding_in nodes p.bound)) b))
          ≡ whole P l nodes (decided p z) last lefts r b
      by true = refl
      by false = refl

  pub sort_stations : (holds : Bool) → all_stations (decided p holds) ≡ all_stations p
  sort_stations true = ap (λ k. p.stations ++ due_at k) (sym e)
  sort_stations false = ap (λ k. p.stations ++ due_at k) (sym e)

  pub sort_awaits : AwaitsValue p → ⊥
  sort_awaits a = none_is a.0 (subst (λ o. term_by (First v) o ≡ Some a.0) f (subst (λ k. term_by k (slice_get p.cond p.at) ≡ Some a.0) e a.1))

-- ---- what stays known

pub known_after : (s : SignatureOf) (nodes : List Node) (table : Table) (q old after : Path) (r : Result Ask BuildFault) → IfOk r (IsAnswered s nodes table q after) → OnErr r (after ≡ old) →
    IsKnown s nodes table old → IsKnown s nodes table after
known_after s nodes table q old after (Ok a) h e k = h.known
known_after s nodes table q old after (Err f) h e k = subst (IsKnown s nodes table) (sym e) k

pub stations_after : (s : SignatureOf) (nodes : List Node) (table : Table) (q old after : Path) (r : Result Ask BuildFault) → all_stations q ≡ all_stations old → IfOk r (IsAnswered s nodes table q after) →
    OnOk r (all_stations after ≡ all_stations old)
stations_after s nodes table q old after (Ok a) e h = h.stations ∙ e
stations_after s nodes table q old after (Err f) e h = tt
