-- The value of the whole term that a use of a rule leads to, and the round that this makes.
use Rattle.std.proofs.Common.{◌≡◌, inl, inr, ◌≤◌, ◌+◌, ◌-◌, ◌^◌, min, List, ℕ, suc, Bool, false, Option, Some, None, Result, Ok, Err, slice_get, sym, ap, ◌∙◌, subst, arith}
use Rattle.mau_terms.specs.Tree.{Tree}
use Rattle.mau_terms.specs.Norm.{norm}
use Rattle.mau_store.specs.Node.{Node}
use Rattle.mau_store.specs.Trees.{tree_at}
use Rattle.mau_signature.specs.Signature.{theory_at}
use Rattle.mau_formula.specs.Operator.{Operator}
use Rattle.mau_program.specs.declared.program.Program as Typed
use Rattle.mau_program.specs.declared.statements.Rule as Written
use Rattle.mau_evaluation.specs.Run.{End, stopped, too_deep, overflowed, Outcome, ended, Run, go_on}
use Rattle.mau_evaluation.specs.Program.{Program}
use Rattle.mau_evaluation.specs.Evaluation.{levels, eval, on_normal, admit}
use Rattle.mau_evaluation.specs.RuleRuns.{Turns, Stand, turn_to, is_out}
use Rattle.mau_evaluation.proofs.Falls.{one_round}
use Rattle.mau_results.proofs.Normals.{norm_evaluates}
use Rattle.mau_api.specs.Told.{shown_count}
use Rattle.mau_api.specs.Programs.{program_over}
use Rattle.mau_api.specs.Meanings.{Meanings, AreMeanings}
use Rattle.mau_api.specs.declared.results.Reduced.{Reduced}
use Rattle.mau_api.specs.declared.results.EvalEnd.{EvalEnd}
use Rattle.mau_api.specs.declared.results.EvalEnd.TheVariants.{Stopped, TooDeep, Overflow, NoMemory}
use Rattle.mau_reduce.specs.Ends.{IsEnd}
use Rattle.mau_rules.specs.declared.attempt.Found.{Found}
use Rattle.mau_rules.specs.Runnable.{IsRunnable, GoesBy}
use Rattle.mau_rules.specs.Known.{Item, Gives, Fails, Got, got, fails, Known}
use Rattle.mau_rules.specs.Found.{item_of, KnownEvaluation, KnownSearch, one_by, found_stand, stand_with, tree_with, found_tree}
use Rattle.mau_rules.specs.Rounds.{value_by, KnownUse, rest_by, IsRound, KnownRound}
use Rattle.mau_rules.proofs.Composed.{always_fails, same_known}
use Rattle.mau_rules.proofs.Solving.{same_evaluation}
use Rattle.mau_rules.proofs.Running.{stand_at, normal_reached, search_ends, budget_used_up, value_ends, goes_further}

-- counts as they are shown, one after another
pub shown_sum : (s p r a b : ℕ) → s ≡ min (p + r) (2 ^ 64 - 1) → p ≡ shown_count a → r ≡ shown_count b → s ≡ shown_count (a + b)
shown_sum s p r a b e f g = by (2 ^ 64 - 1) e f g
  where
    by : (G : ℕ) → s ≡ min (p + r) G → p ≡ min a G → r ≡ min b G → s ≡ min (a + b) G
    by G e f g = grind (arith, e, f, g)

pub shown_more : (s r a : ℕ) → s ≡ min (r + 1) (2 ^ 64 - 1) → r ≡ shown_count a → s ≡ shown_count (1 + a)
shown_more s r a e f = by (2 ^ 64 - 1) (omega arith) e f
  where
    by : (G : ℕ) → 1 ≤ G → s ≡ min (r + 1) G → r ≡ min a G → s ≡ min (1 + a) G
    by G h e f = grind (arith, h, e, f)

-- ---- the value of a whole term, by that of its normal form

module _ (p : Typed.Program) (run : IsRunnable p) (m : Meanings) (goes : GoesBy p m) (laws : AreMeanings m) (wanted : Bool) (t u : Tree) (normal : u ≡ norm (theory_at p.sig) t) where
  abbrev P : Program
  P = program_over p m.hooks

  abbrev I : Item
  I = item_of m wanted

  abbrev pub own : ℕ → ℕ → Run Tree
  own k B = m.evaluation (suc k) B u

  value_is : (k B b : ℕ) → value_by P t k B b ≡ own k B b
  value_is k B b =
      sym (norm_evaluates P run.reducible.lawful.theories t (suc k) B b)
      ∙ (ap (λ v. eval P (suc k) B v b) (sym normal) ∙ sym (ap (λ (f : ℕ → ℕ → Run Tree). f k B b) (same_evaluation p run m goes laws wanted u)))

  pub as_own : (b : ℕ) (o : Got Tree) (after : ℕ) → Known I own b o after → Known I (value_by P t) b o after
  as_own b o after h = same_known I (value_by P t) own value_is b o after h

  module _ (b c : ℕ) (one : b ≡ suc c) (nodes : List Node) (after : ℕ) where
    pub use_value : (x y : Reduced) → y.term ≡ x.term → y.rewrites ≡ min (x.rewrites + 1) (2 ^ 64 - 1) → KnownEvaluation I own c nodes (Ok x) after → KnownUse I P t b nodes (Ok y) after
    use_value x y same count k =
        (c, k.0, one, shown_more y.rewrites x.rewrites k.0 count k.1, subst (λ i. Gives I (value_by P t) c (tree_at nodes i) k.0 after) (sym (ap (λ z. z.0) same)) (as_own c (got (tree_at nodes x.term.0) k.0) after k.2))

    pub use_ends : (e : EvalEnd) → KnownEvaluation I own c nodes (Err e) after → KnownUse I P t b nodes (Err e) after
    use_ends Stopped k = inr (c, one, as_own c (fails stopped) after k)
    use_ends TooDeep k = (c, one, as_own c (fails too_deep) after k)
    use_ends Overflow k = (c, one, as_own c (fails overflowed) after k)
    use_ends NoMemory k = tt

-- a term whose normal form is beyond the limits
module _ (p : Typed.Program) (P : Program) (same : P.sign.theory ≡ theory_at p.sig) (I : Item) (t : Tree) where
  pub ends_so : (e : End) → ((b : ℕ) → admit (theory_at p.sig) t b ≡ ended e) → (k B b : ℕ) → value_by P t k B b ≡ ended e
  ends_so e h k B b =
      one_round P B k t b
      ∙ ap (λ (o : Outcome Tree). go_on (on_normal P (levels P B k) (levels P B (suc k)).sorts (levels P B (suc k)).eval) o) (subst (λ th. admit th t b ≡ ended e) (sym same) (h b))

  pub built_ends : (b c : ℕ) → b ≡ suc c → (nodes : List Node) (after : ℕ) (e : EvalEnd) → ((d : ℕ) → IsEnd (admit (theory_at p.sig) t d) e) → KnownUse I P t b nodes (Err e) after
  built_ends b c one nodes after Stopped h = inr (c, one, always_fails I (value_by P t) c stopped (ends_so stopped h))
  built_ends b c one nodes after TooDeep h = (c, one, always_fails I (value_by P t) c too_deep (ends_so too_deep h))
  built_ends b c one nodes after Overflow h = (c, one, always_fails I (value_by P t) c overflowed (ends_so overflowed h))
  built_ends b c one nodes after NoMemory h = tt

-- ---- the round

module _ (P : Program) (I : Item) (s : Stand) (b : ℕ) where
  pub round_none : (stand : Found → Option Stand) (v : Stand) (after : ℕ) → KnownSearch I (one_by P s) b stand (Ok None) after → KnownRound I P s b v (Ok None) after
  round_none stand v after k = λ n out. normal_reached P I n s out b after k

  pub round_search_ends : (stand : Found → Option Stand) (v : Stand) (after : ℕ) (e : EvalEnd) → KnownSearch I (one_by P s) b stand (Err e) after → KnownRound I P s b v (Err e) after
  round_search_ends stand v after Stopped k = λ n out. search_ends P I n s out b stopped k
  round_search_ends stand v after TooDeep k = λ n out. search_ends P I n s out b too_deep k
  round_search_ends stand v after Overflow k = λ n out. search_ends P I n s out b overflowed k
  round_search_ends stand v after NoMemory k = tt

  module _ (x : Found) (stand : Found → Option Stand) (u : Stand) (is : stand x ≡ Some u) (mid : ℕ) (k : KnownSearch I (one_by P s) b stand (Ok (Some x)) mid) where
    found : Gives I (one_by P s) b (Some u) k.0 mid
    found = subst (λ (o : Option Stand). Gives I (one_by P s) b o k.0 mid) is k.2

    found_at : (c : ℕ) → mid ≡ c → Gives I (one_by P s) b (Some u) k.0 c
    found_at c e = subst (Gives I (one_by P s) b (Some u) k.0) e found

    pub round_value : (nodes : List Node) (y : Reduced) (after count : ℕ) (v : Stand) → count ≡ min (x.rewrites + y.rewrites) (2 ^ 64 - 1) → v ≡ stand_at (tree_at nodes y.term.0) u.turns → KnownUse I P u.term mid nodes (Ok y) after →
        KnownRound I P s b v (Ok (Some count)) after
    round_value nodes y after count v sum at h = (
      k.0 + (1 + h.1),
      shown_sum count x.rewrites y.rewrites k.0 (1 + h.1) sum k.1 h.3,
      subst (λ (w : Stand). IsRound I P s b w (k.0 + (1 + h.1)) after) (sym at)
          (record { known = λ n out o l K. goes_further P I n s out b u k.0 h.0 (found_at (suc h.0) h.2) (tree_at nodes y.term.0) h.1 after h.4 o l K }),
    )

    pub round_value_ends : (nodes : List Node) (after : ℕ) (v : Stand) (e : EvalEnd) → KnownUse I P u.term mid nodes (Err e) after → KnownRound I P s b v (Err e) after
    round_value_ends nodes after v Stopped h = λ n out. by n out h
      where
        by : (n : Option ℕ) → is_out n ≡ false → KnownUse I P u.term mid nodes (Err Stopped) after → Fails I (rest_by P n s) b stopped
        by n out (inl e) = budget_used_up P I n s out b u k.0 (found_at 0 e)
        by n out (inr (c, e, f)) = value_ends P I n s out b u k.0 c (found_at (suc c) e) stopped f
    round_value_ends nodes after v TooDeep h = λ n out. value_ends P I n s out b u k.0 h.0 (found_at (suc h.0) h.1) too_deep h.2
    round_value_ends nodes after v Overflow h = λ n out. value_ends P I n s out b u k.0 h.0 (found_at (suc h.0) h.1) overflowed h.2
    round_value_ends nodes after v NoMemory h = tt

-- as the code has it: for an evaluator that goes by the same meanings
pub use_so : (p : Typed.Program) (m n : Meanings) (v w : Bool) → n ≡ m → v ≡ w → (t : Tree) (b : ℕ) (nodes : List Node) (r : Result Reduced EvalEnd) (after : ℕ) → KnownUse (item_of n v) (program_over p n.hooks) t b nodes r after →
    KnownUse (item_of m w) (program_over p m.hooks) t b nodes r after
use_so p m n v w e k t b nodes r after h =
    subst (λ z. KnownUse (item_of m z) (program_over p m.hooks) t b nodes r after) k (subst (λ (z : Meanings). KnownUse (item_of z v) (program_over p z.hooks) t b nodes r after) e h)

pub round_so : (p : Typed.Program) (m n : Meanings) (v w : Bool) → n ≡ m → v ≡ w → (s : Stand) (b : ℕ) (u : Stand) (r : Result (Option ℕ) EvalEnd) (after : ℕ) → KnownRound (item_of n v) (program_over p n.hooks) s b u r after →
    KnownRound (item_of m w) (program_over p m.hooks) s b u r after
round_so p m n v w e k s b u r after h =
    subst (λ z. KnownRound (item_of m z) (program_over p m.hooks) s b u r after) k (subst (λ (z : Meanings). KnownRound (item_of z v) (program_over p z.hooks) s b u r after) e h)

-- the stand that a use of a rule leads to
pub found_is : (p : Typed.Program) (hooks : List Operator) (g : Turns) (around : Tree → Tree) (nodes : List Node) (x : Found) (rule : Written.Rule) → slice_get p.rules x.number ≡ Some rule →
    found_stand p (program_over p hooks) g (record { term = tree_at nodes x.term.0; around = around }) nodes x ≡ Some (stand_at (around (found_tree p nodes x)) (turn_to g (tree_at nodes x.term.0) (suc x.number)))
found_is p hooks g around nodes x rule at =
    ap (stand_with (program_over p hooks) g (record { term = tree_at nodes x.term.0; around = around }) nodes x) at
    ∙ ap (λ (t : Tree). Some (stand_at (around t) (turn_to g (tree_at nodes x.term.0) (suc x.number)))) (sym (ap (tree_with p nodes x) at))
