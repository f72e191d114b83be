-- Pass after pass: how a run of frewrite begins, goes on and ends.
use Rattle.std.proofs.Common.{◌≡◌, ◌+◌, ◌-◌, ◌^◌, min, List, ℕ, suc, Bool, true, false, Option, Result, Ok, Err, IfOk, IfErr, refl, sym, ap, ◌∙◌}
use Rattle.mau_terms.specs.Tree.{Tree}
use Rattle.mau_terms.specs.declared.ids.TermId.{TermId}
use Rattle.mau_reduce.specs.Ends.{IsEnd}
use Rattle.mau_terms.specs.declared.theory.Theory.{Theory}
use Rattle.mau_signature.specs.Signature.{theory_at}
use Rattle.mau_formula.specs.Operator.{Operator}
use Rattle.mau_store.specs.Node.{Node}
use Rattle.mau_store.specs.Trees.{tree_at, StandsFor}
use Rattle.mau_canon.specs.Standing.{StandsWithin}
use Rattle.mau_program.specs.declared.program.Program as Typed
use Rattle.mau_evaluation.specs.Run.{Outcome, done, Run, gives, go_on, and_then, choose}
use Rattle.mau_evaluation.specs.Program.{Fragment, Program}
use Rattle.mau_evaluation.specs.Evaluation.{Binding, levels, solve, within_limits, admit}
use Rattle.mau_evaluation.specs.RuleRuns.{Turns, Stand, PassEnd, normal, bound, is_out, evaluated}
use Rattle.mau_evaluation.proofs.RunsFall.{rule_runs_go_on}
use Rattle.mau_api.specs.Told.{shown_count}
use Rattle.mau_api.specs.Programs.{program_over}
use Rattle.mau_api.specs.Meanings.{Meanings}
use Rattle.mau_api.specs.declared.results.EvalEnd.{EvalEnd}
use Rattle.mau_reduce.proofs.Limits.{within_given}
use Rattle.mau_rules.specs.declared.tops.Tally.{Tally}
use Rattle.mau_rules.specs.Known.{Item, Gives}
use Rattle.mau_rules.specs.Counted.{IsCounted, KnownEnd}
use Rattle.mau_rules.specs.Rounds.{value_by}
use Rattle.mau_rules.specs.Runs.{frewriting_by}
use Rattle.mau_rules.specs.Opened.{from_open}
use Rattle.mau_rules.specs.Passes.{open_by, passing_by, behind_pass, pass_with, KnownWhole}
use Rattle.mau_rules.proofs.Composed.{always_gives}
use Rattle.mau_rules.proofs.Counting.{counted_first, counted_as, counted_on, counted_value}
use Rattle.mau_rules.proofs.PassLaws.{gives_then, then_then, then_same, enter, out_open}
use Rattle.mau_rules.proofs.PassSteps.{end_of_part, value_beyond}
use Rattle.mau_rules.proofs.Running.{stand_at}

-- ---- a run begins

within_is : (th : ℕ → Theory) (nodes : List Node) (i b : ℕ) → StandsWithin th nodes i → admit th (tree_at nodes i) b ≡ done (tree_at nodes i) 0 b
within_is th nodes i b is = ap (λ t. within_limits th t b) is.normal ∙ within_given th (tree_at nodes i) b is.within

pub run_begins : (p : Typed.Program) (m : Meanings) (I : Item) (g : ℕ) (n : Option ℕ) (turns : Turns) (nodes : List Node) (i b : ℕ) → StandsWithin (theory_at p.sig) nodes i →
    IsCounted I (frewriting_by p m g n (stand_at (tree_at nodes i) turns)) b 0 (passing_by (program_over p m.hooks) g n (stand_at (tree_at nodes i) turns)) b
run_begins p m I g n turns nodes i b is =
    let P = program_over p m.hooks in
    counted_first I (frewriting_by p m g n (stand_at (tree_at nodes i) turns)) (passing_by P g n (stand_at (tree_at nodes i) turns))
    (λ k E c. ap (λ (o : Outcome Tree). go_on (λ t. passing_by P g n (stand_at t turns) k E) o) (within_is (theory_at p.sig) nodes i c is)
    ∙ gives_then (tree_at nodes i) (λ t. passing_by P g n (stand_at t turns) k E) c) b

module _ (p : Typed.Program) (hooks : List Operator) (I : Item) (g : ℕ) (f : ℕ → ℕ → Run PassEnd) (b0 shown : ℕ) where
  abbrev P : Program
  P = program_over p hooks

  abbrev Ev : ℕ → ℕ → Tree → Run Tree
  Ev k E = (levels P E (suc k)).eval

  abbrev So : ℕ → ℕ → Tree → Run (List ℕ)
  So k E = (levels P E (suc k)).sorts

  abbrev As : ℕ → ℕ → List Fragment → Binding → Run (Option Binding)
  As k E = solve P (levels P E k)

  -- ---- a pass begins

  module _ (s : Stand) (y : Tally) (none : y.made ≡ false) (b : ℕ) (h : IsCounted I f b0 shown (passing_by P g y.left s) b) where
    pub pass_begins : IsCounted I f b0 shown (open_by P g (s.term, 0) (pass_with s.term s.turns y) (behind_pass P g)) b
    pass_begins =
        counted_as I f b0 shown (passing_by P g y.left s) (open_by P g (s.term, 0) (pass_with s.term s.turns y) (behind_pass P g)) b
        (λ k E c. (rule_runs_go_on P k E).1 g y.left s c
        ∙ (enter P (Ev k E) (So k E) (As k E) g s.term (record { stand = s; left = y.left; made = false }) (behind_pass P g k E) c
        ∙ ap (λ z. from_open P (Ev k E) (So k E) (As k E) g s.term 0 (record { stand = s; left = y.left; made = z }) (behind_pass P g k E) c) (sym none))) h

    -- and changes nothing, where no rewrite may be made
    pub pass_idle : is_out y.left ≡ true → IsCounted I f b0 shown (λ k E. behind_pass P g k E (pass_with s.term s.turns y)) b
    pass_idle out =
        counted_as I f b0 shown (open_by P g (s.term, 0) (pass_with s.term s.turns y) (behind_pass P g)) (λ k E. behind_pass P g k E (pass_with s.term s.turns y)) b
        (λ k E c. out_open P (Ev k E) (So k E) (As k E) g s.term 0 (pass_with s.term s.turns y) (behind_pass P g k E) c out) pass_begins

  -- ---- behind a pass

  module _ (t : Tree) (turns : Turns) (y : Tally) (b : ℕ) (h : IsCounted I f b0 shown (λ k E. behind_pass P g k E (pass_with t turns y)) b) where
    abbrev s : Stand
    s = stand_at t turns

    abbrev value : ℕ → ℕ → Run Stand
    value k E = evaluated P (Ev k E) (So k E) (As k E) s

    abbrev last : ℕ → ℕ → Run PassEnd
    last k E = and_then (value k E) λ v. gives (v, bound)

    abbrev more : ℕ → ℕ → Bool → Run PassEnd
    more k E z = choose z (passing_by P g y.left s k E) (gives (s, normal))

    -- the whole term is evaluated, and the run ends
    last_begun : is_out y.left ≡ true → IsCounted I f b0 shown (λ k E. and_then (value_by P t k E) (λ v. gives (stand_at v turns, bound))) b
    last_begun out =
        counted_as I f b0 shown (λ k E. behind_pass P g k E (pass_with t turns y)) (λ k E. and_then (value_by P t k E) (λ v. gives (stand_at v turns, bound))) b
        (λ k E c. ap (λ z. choose z (last k E) (more k E y.made) c) out
        ∙ (then_then (value_by P t k E) (λ v. gives (stand_at v turns)) (λ v. gives (v, bound)) c
        ∙ then_same (value_by P t k E) (λ v. and_then (gives (stand_at v turns)) (λ w. gives (w, bound))) (λ v. gives (stand_at v turns, bound)) (λ v d. gives_then (stand_at v turns) (λ w. gives (w, bound)) d) c)) h

    pub last_given : is_out y.left ≡ true → (v : Tree) (r after q sum : ℕ) → Gives I (value_by P t) b v r after → q ≡ shown_count r → sum ≡ min (shown + q) (2 ^ 64 - 1) →
        (n : ℕ) × (sum ≡ shown_count n) × Gives I f b0 (stand_at v turns, bound) n after
    last_given out v r after q sum G shows e =
        let on = counted_on I f b0 shown (value_by P t) (λ k E w. gives (stand_at w turns, bound)) b (last_begun out) v r after q sum G shows e in
        (on.count, on.shows, counted_value I f b0 sum (λ k E. gives (stand_at v turns, bound)) after on (stand_at v turns, bound) after (always_gives I (λ k E. gives (stand_at v turns, bound)) after (stand_at v turns, bound) (λ k E c. refl)))

    pub last_ends : is_out y.left ≡ true → (e : EvalEnd) → KnownEnd I (value_by P t) b e → KnownEnd I f b0 e
    last_ends out e k = end_of_part I f b0 shown (value_by P t) (λ k E w. gives (stand_at w turns, bound)) b (last_begun out) e k

    -- another one follows
    pub next_pass : is_out y.left ≡ false → y.made ≡ true → IsCounted I f b0 shown (passing_by P g y.left (stand_at t turns)) b
    next_pass out made =
        counted_as I f b0 shown (λ k E. behind_pass P g k E (pass_with t turns y)) (passing_by P g y.left s) b
        (λ k E c. ap (λ z. choose z (last k E) (more k E y.made) c) out ∙ ap (λ z. more k E z c) made) h

    -- or the run ends
    pub no_pass : is_out y.left ≡ false → y.made ≡ false → (n : ℕ) × (shown ≡ shown_count n) × Gives I f b0 (stand_at t turns, normal) n b
    no_pass out made =
        let on = counted_as I f b0 shown (λ k E. behind_pass P g k E (pass_with t turns y)) (λ k E. gives (s, normal)) b
        (λ k E c. ap (λ z. choose z (last k E) (more k E y.made) c) out ∙ ap (λ z. more k E z c) made) h in
        (on.count, on.shows, counted_value I f b0 shown (λ k E. gives (s, normal)) b on (s, normal) b (always_gives I (λ k E. gives (s, normal)) b (s, normal) (λ k E c. refl)))

-- ---- the whole term once as many rewrites as may be were made

module _ (p : Typed.Program) (hooks : List Operator) (I : Item) (g : ℕ) (f : ℕ → ℕ → Run PassEnd) (b0 : ℕ) (t : Tree) (turns : Turns) (y : Tally) (b : ℕ)
    (h : IsCounted I f b0 y.rewrites (λ k E. behind_pass (program_over p hooks) g k E (pass_with t turns y)) b) (out : is_out y.left ≡ true) (nodes : List Node) where
  pub whole_closed : (r : Result TermId EvalEnd) → IfOk r (λ id. StandsFor (theory_at p.sig) nodes id.0 t) → ((d : ℕ) → IfErr r (IsEnd (admit (theory_at p.sig) t d))) →
      KnownWhole I f b0 (behind_pass (program_over p hooks) g) p.sig nodes turns y r b
  whole_closed (Ok id) stands ends = (t, stands, λ more. absurd (clash (is_out y.left) out more), h)
    where
      clash : (z : Bool) → z ≡ true → z ≡ false → ⊥
      clash z a c = cc
  whole_closed (Err e) stands ends = last_ends p hooks I g f b0 y.rewrites t turns y b h out e (value_beyond p (program_over p hooks) refl I t b e ends)
