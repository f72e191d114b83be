-- A pass, step by step, by the nodes of a store: what is left of a run.
use Rattle.std.proofs.Common.{◌≡◌, ◌<◌, ◌+◌, ◌-◌, ◌^◌, ◌++◌, ◌∷◌, [], min, List, ℕ, suc, Bool, true, false, Option, Some, None, Ok, Err, length, slice_get, sym, ap, ap₂, ◌∙◌, arith}
use Rattle.std.proofs.lemmas.List.{length-map}
use Rattle.std.proofs.lemmas.Option.{slice_get_within}
use Rattle.mau_terms.specs.Tree.{Tree, apply, trees_of}
use Rattle.mau_terms.specs.Norm.{norm}
use Rattle.mau_signature.specs.Signature.{theory_at}
use Rattle.mau_formula.specs.Operator.{Operator}
use Rattle.mau_store.specs.Node.{Node, numeral_node, variable_node, operator_node, AreNodes}
use Rattle.mau_store.specs.Trees.{tree_at, trees_at}
use Rattle.mau_store.specs.View.{numbers}
use Rattle.mau_store.proofs.Standing.{tree_of_node}
use Rattle.mau_program.specs.declared.program.Program as Typed
use Rattle.mau_evaluation.specs.Run.{stopped, too_deep, overflowed, Run, and_then}
use Rattle.mau_evaluation.specs.Program.{Fragment, Program}
use Rattle.mau_evaluation.specs.Evaluation.{Binding, levels, solve, admit}
use Rattle.mau_evaluation.specs.RuleRuns.{Turns, Stand, PassEnd, Pass, with_term, one_less, is_out}
use Rattle.mau_api.specs.Told.{shown_count}
use Rattle.mau_api.specs.Programs.{program_over}
use Rattle.mau_api.specs.Meanings.{Meanings, AreMeanings}
use Rattle.mau_api.specs.declared.results.Reduced.{Reduced}
use Rattle.mau_api.specs.declared.results.EvalEnd.{EvalEnd}
use Rattle.mau_api.specs.declared.results.EvalEnd.TheVariants.{Stopped, TooDeep, Overflow, NoMemory}
use Rattle.mau_reduce.specs.Ends.{IsEnd}
use Rattle.mau_rules.specs.declared.frames.Frame.{Frame}
use Rattle.mau_rules.specs.declared.tops.Tally.{Tally}
use Rattle.mau_rules.specs.Runnable.{IsRunnable, GoesBy}
use Rattle.mau_rules.specs.Known.{Item, Gives, got, fails}
use Rattle.mau_rules.specs.Counted.{IsCounted, KnownEnd}
use Rattle.mau_rules.specs.Found.{item_of, KnownEvaluation}
use Rattle.mau_rules.specs.Rounds.{value_by}
use Rattle.mau_rules.specs.Walk.{Opened, around_last, around_all}
use Rattle.mau_rules.specs.Opened.{Goes, after_once, from_open, behind}
use Rattle.mau_rules.specs.Passes.{over, frame_in, IsNext, HasNoNext, Onward, once_by, tops_by, top_by, open_by, through_by, pass_with, KnownOnce}
use Rattle.mau_rules.proofs.Placed.{get_mapped, get_there}
use Rattle.mau_rules.proofs.Composed.{always_fails}
use Rattle.mau_rules.proofs.Uses.{own, as_own, ends_so}
use Rattle.mau_rules.proofs.Counting.{counted_as, counted_on, counted_past, counted_end}
use Rattle.mau_rules.proofs.PassLaws.{top_in, tops_none, tops_out, tops_once}
use Rattle.mau_rules.proofs.Skipping.{last_passed, next_entered, none_entered, out_through, through_last}
use Rattle.mau_rules.proofs.OpenTerms.{over_node}

-- what a call says of a part ends the run
pub end_of_part : (I : Item) (f : ℕ → ℕ → Run PassEnd) (b0 shown : ℕ) {A : Type 0} (m : ℕ → ℕ → Run A) (next : ℕ → ℕ → A → Run PassEnd) (b : ℕ) → IsCounted I f b0 shown (λ k E. and_then (m k E) (next k E)) b →
    (e : EvalEnd) → KnownEnd I m b e → KnownEnd I f b0 e
end_of_part I f b0 shown m next b h Stopped k = counted_end I f b0 shown m next b h stopped k
end_of_part I f b0 shown m next b h TooDeep k = counted_end I f b0 shown m next b h too_deep k
end_of_part I f b0 shown m next b h Overflow k = counted_end I f b0 shown m next b h overflowed k
end_of_part I f b0 shown m next b h NoMemory k = tt

module _ (p : Typed.Program) (hooks : List Operator) (I : Item) (g : ℕ) (f : ℕ → ℕ → Run PassEnd) (b0 shown : ℕ) where
  abbrev P : Program
  P = program_over p hooks

  abbrev Ev : ℕ → ℕ → Tree → Run Tree
  Ev k E = (levels P E (suc k)).eval

  abbrev So : ℕ → ℕ → Tree → Run (List ℕ)
  So k E = (levels P E (suc k)).sorts

  abbrev As : ℕ → ℕ → List Fragment → Binding → Run (Option Binding)
  As k E = solve P (levels P E k)

  -- ---- an argument is entered

  module _ (nodes : List Node) (are : AreNodes nodes) (x : Frame) (turns : Turns) (y : Tally) (K : Onward) (b : ℕ) (u : Tree) (h : IsCounted I f b0 shown (open_by P g (frame_in nodes x) (pass_with u turns y) K) b) where
    abbrev us : List Tree
    us = trees_at nodes (numbers x.args.items)

    -- the argument before the one that is entered, or what was there
    abbrev last : ℕ → Tree
    last place = last_passed us (place - x.next) x.next u

    pub counted_entered : (n child : ℕ) → IsNext p.sig nodes x n child →
        (v : Tree) × IsCounted I f b0 shown (open_by P g (tree_at nodes child, 0) (pass_with v turns y) (through_by P g (((frame_in nodes x).0, n) ∷ []) K)) b
    counted_entered n child i = (
      last i.place,
      counted_as I f b0 shown (open_by P g (frame_in nodes x) (pass_with u turns y) K) (open_by P g (tree_at nodes child, 0) (pass_with (last i.place) turns y) (through_by P g (((frame_in nodes x).0, n) ∷ []) K)) b same h,
    )
      where
        tree : (frame_in nodes x).0 ≡ apply i.operator (trees_of us)
        tree = over_node p.sig nodes are x.term.0 i.operator i.ids i.at us

        low : i.place < length us
        low = omega (arith, slice_get_within (numbers x.args.items) i.place child i.argument, length-map (numbers x.args.items) (tree_at nodes))

        same : (k E c : ℕ) → open_by P g (frame_in nodes x) (pass_with u turns y) K k E c ≡ open_by P g (tree_at nodes child, 0) (pass_with (last i.place) turns y) (through_by P g (((frame_in nodes x).0, n) ∷ []) K) k E c
        same k E c =
            ap (λ t. from_open P (Ev k E) (So k E) (As k E) g t x.next (pass_with u turns y) (K k E) c) tree
            ∙ (next_entered P (Ev k E) (So k E) (As k E) g i.operator us (K k E) x.next i.place (pass_with u turns y) u (tree_at nodes child) i.from low
            (get_mapped (tree_at nodes) (numbers x.args.items) i.place child (tree_at nodes child) i.argument) i.frozen i.free c
            ∙ (ap (λ m. from_open P (Ev k E) (So k E) (As k E) g (tree_at nodes child) 0 (pass_with (last i.place) turns y) (behind P (Ev k E) (So k E) (As k E) g (apply i.operator (trees_of us)) m (K k E)) c) (sym i.next)
            ∙ ap (λ t. from_open P (Ev k E) (So k E) (As k E) g (tree_at nodes child) 0 (pass_with (last i.place) turns y) (behind P (Ev k E) (So k E) (As k E) g t n (K k E)) c) (sym tree)))

    -- no argument is left
    pub counted_top : x.term.0 < length nodes → HasNoNext p.sig nodes x → IsCounted I f b0 shown (top_by P g (pass_with (frame_in nodes x).0 turns y) K) b
    counted_top there none = let here = get_there nodes x.term.0 there in counted_as I f b0 shown (open_by P g (frame_in nodes x) (pass_with u turns y) K) (top_by P g (pass_with (frame_in nodes x).0 turns y) K) b (same here.0 here.1) h
      where
        same : (m : Node) → slice_get nodes x.term.0 ≡ Some m → (k E c : ℕ) → open_by P g (frame_in nodes x) (pass_with u turns y) K k E c ≡ top_by P g (pass_with (frame_in nodes x).0 turns y) K k E c
        same (numeral_node m) at k E c =
            let e = tree_of_node nodes are x.term.0 (numeral_node m) at in
            ap (λ t. from_open P (Ev k E) (So k E) (As k E) g (over t us) x.next (pass_with u turns y) (K k E) c) e
            ∙ sym (ap (λ t. top_by P g (pass_with (over t us) turns y) K k E c) e)
        same (variable_node i r) at k E c =
            let e = tree_of_node nodes are x.term.0 (variable_node i r) at in
            ap (λ t. from_open P (Ev k E) (So k E) (As k E) g (over t us) x.next (pass_with u turns y) (K k E) c) e
            ∙ sym (ap (λ t. top_by P g (pass_with (over t us) turns y) K k E c) e)
        same (operator_node o ids) at k E c =
            let e = over_node p.sig nodes are x.term.0 o ids at us in
            ap (λ t. from_open P (Ev k E) (So k E) (As k E) g t x.next (pass_with u turns y) (K k E) c) e
            ∙ (none_entered P (Ev k E) (So k E) (As k E) g o us (K k E) x.next (pass_with u turns y) c (λ i from low. none o ids at i from (less i low))
            ∙ sym (ap (λ t. top_by P g (pass_with t turns y) K k E c) e))
          where
            less : (i : ℕ) → i < length us → i < length x.args.items
            less i low = omega (arith, low, length-map (numbers x.args.items) (tree_at nodes), length-map x.args.items (λ t. t.0))

  -- ---- the term itself

  module _ (turns : Turns) (y : Tally) (K : Onward) (b : ℕ) where
    pub counted_value_of : (t : Tree) → is_out y.left ≡ false → IsCounted I f b0 shown (top_by P g (pass_with t turns y) K) b →
        IsCounted I f b0 shown (λ k E. and_then (value_by P t k E) (λ v. tops_by P g (pass_with v turns y) K k E)) b
    counted_value_of t out h =
        counted_as I f b0 shown (top_by P g (pass_with t turns y) K) (λ k E. and_then (value_by P t k E) (λ v. tops_by P g (pass_with v turns y) K k E)) b
        (λ k E c. top_in P (Ev k E) (So k E) (As k E) g (pass_with t turns y) (K k E) c out) h

    pub counted_done : (j : ℕ) (t : Tree) → j ≡ 0 → IsCounted I f b0 shown (tops_by P j (pass_with t turns y) K) b → IsCounted I f b0 shown (λ k E. K k E (pass_with t turns y)) b
    counted_done j t e h =
        counted_as I f b0 shown (tops_by P j (pass_with t turns y) K) (λ k E. K k E (pass_with t turns y)) b
        (λ k E c. ap (λ i. tops_by P i (pass_with t turns y) K k E c) e ∙ tops_none P (Ev k E) (So k E) (As k E) g (pass_with t turns y) (K k E) c) h

    pub counted_out : (j : ℕ) (t : Tree) → is_out y.left ≡ true → IsCounted I f b0 shown (tops_by P j (pass_with t turns y) K) b → IsCounted I f b0 shown (λ k E. K k E (pass_with t turns y)) b
    counted_out j t out h =
        counted_as I f b0 shown (tops_by P j (pass_with t turns y) K) (λ k E. K k E (pass_with t turns y)) b
        (λ k E c. tops_out P (Ev k E) (So k E) (As k E) g j (pass_with t turns y) (K k E) c out) h

    -- one more rewrite
    module _ (i j : ℕ) (less : i ≡ suc j) (t : Tree) (out : is_out y.left ≡ false) (h : IsCounted I f b0 shown (tops_by P i (pass_with t turns y) K) b) where
      abbrev stand : Stand
      stand = record { term = t; turns = turns }

      abbrev After : ℕ → ℕ → Option Stand → Run PassEnd
      After k E o = after_once P (Ev k E) (So k E) (As k E) g j (pass_with t turns y) (K k E) o

      split : IsCounted I f b0 shown (λ k E. and_then (once_by P stand k E) (After k E)) b
      split =
          counted_as I f b0 shown (tops_by P i (pass_with t turns y) K) (λ k E. and_then (once_by P stand k E) (After k E)) b
          (λ k E c. ap (λ n. tops_by P n (pass_with t turns y) K k E c) less ∙ tops_once P (Ev k E) (So k E) (As k E) g j (pass_with t turns y) (K k E) c out) h

      pub counted_once : (after : Turns) (nodes : List Node) (x : Reduced) (mid sum : ℕ) (z : Tally) → sum ≡ min (shown + x.rewrites) (2 ^ 64 - 1) → z.left ≡ one_less y.left → z.made ≡ true →
          KnownOnce I P stand b after nodes (Ok (Some x)) mid → IsCounted I f b0 sum (tops_by P j (pass_with (tree_at nodes x.term.0) after z) K) mid
      counted_once after nodes x mid sum z e l m k =
          counted_as I f b0 sum (λ k E. After k E (Some (record { term = tree_at nodes x.term.0; turns = after }))) (tops_by P j (pass_with (tree_at nodes x.term.0) after z) K) mid
          (λ k E c. ap₂ (λ (o : Option ℕ) (d : Bool). tops_by P j (record { stand = record { term = tree_at nodes x.term.0; turns = after }; left = o; made = d }) K k E c) (sym l) (sym m))
          (counted_on I f b0 shown (once_by P stand) After b split (Some (record { term = tree_at nodes x.term.0; turns = after })) k.0 mid x.rewrites sum k.2 k.1 e)

      pub counted_never : (after : Turns) (nodes : List Node) (mid : ℕ) → KnownOnce I P stand b after nodes (Ok None) mid → IsCounted I f b0 shown (λ k E. K k E (pass_with t turns y)) mid
      counted_never after nodes mid k = counted_past I f b0 shown (once_by P stand) After b split None mid k

      pub counted_once_ends : (after : Turns) (nodes : List Node) (mid : ℕ) (e : EvalEnd) → KnownOnce I P stand b after nodes (Err e) mid → KnownEnd I f b0 e
      counted_once_ends after nodes mid e k = end_of_part I f b0 shown (once_by P stand) After b split e k

  -- ---- behind a term

  -- as many rewrites as may be were made
  pub counted_left : (os : List Opened) (K : Onward) (q : Pass) (b : ℕ) → is_out q.left ≡ true → IsCounted I f b0 shown (λ k E. through_by P g os K k E q) b →
      IsCounted I f b0 shown (λ k E. K k E (with_term q (around_all (λ v. v) os q.stand.term))) b
  counted_left os K q b out h =
      counted_as I f b0 shown (λ k E. through_by P g os K k E q) (λ k E. K k E (with_term q (around_all (λ v. v) os q.stand.term))) b
      (λ k E c. out_through P (Ev k E) (So k E) (As k E) g (theory_at p.sig) os (K k E) q c out) h

  -- back in the last one of the open terms
  pub counted_back : (os : List Opened) (o : Opened) (K : Onward) (q : Pass) (b : ℕ) → IsCounted I f b0 shown (λ k E. through_by P g (os ++ o ∷ []) K k E q) b →
      IsCounted I f b0 shown (open_by P g (around_last (λ v. v) o.0 o.1 q.stand.term, o.1) q (through_by P g os K)) b
  counted_back os o K q b h =
      counted_as I f b0 shown (λ k E. through_by P g (os ++ o ∷ []) K k E q) (open_by P g (around_last (λ v. v) o.0 o.1 q.stand.term, o.1) q (through_by P g os K)) b
      (λ k E c. ap (λ (L : Goes). L q c) (through_last P (Ev k E) (So k E) (As k E) g os o (K k E))) h

  -- one more term is open
  pub counted_deeper : (os : List Opened) (o w : Opened) (K : Onward) (q : Pass) (b : ℕ) → IsCounted I f b0 shown (open_by P g w q (through_by P g (o ∷ []) (through_by P g os K))) b →
      IsCounted I f b0 shown (open_by P g w q (through_by P g (os ++ o ∷ []) K)) b
  counted_deeper os o w K q b h =
      counted_as I f b0 shown (open_by P g w q (through_by P g (o ∷ []) (through_by P g os K))) (open_by P g w q (through_by P g (os ++ o ∷ []) K)) b
      (λ k E c. ap (λ (L : Goes). from_open P (Ev k E) (So k E) (As k E) g w.0 w.1 q L c) (sym (through_last P (Ev k E) (So k E) (As k E) g os o (K k E)))) h

-- ---- the value of a term, by that of its normal form

module _ (p : Typed.Program) (run : IsRunnable p) (m : Meanings) (goes : GoesBy p m) (laws : AreMeanings m) (wanted : Bool) (t u : Tree) (normal : u ≡ norm (theory_at p.sig) t) (b : ℕ) (nodes : List Node) (after : ℕ) where
  pub value_given : (x : Reduced) → KnownEvaluation (item_of m wanted) (own p run m goes laws wanted t u normal) b nodes (Ok x) after →
      (r : ℕ) × (x.rewrites ≡ shown_count r) × Gives (item_of m wanted) (value_by (program_over p m.hooks) t) b (tree_at nodes x.term.0) r after
  value_given x k = (k.0, k.1, as_own p run m goes laws wanted t u normal b (got (tree_at nodes x.term.0) k.0) after k.2)

  pub value_not_given : (e : EvalEnd) → KnownEvaluation (item_of m wanted) (own p run m goes laws wanted t u normal) b nodes (Err e) after → KnownEnd (item_of m wanted) (value_by (program_over p m.hooks) t) b e
  value_not_given Stopped k = as_own p run m goes laws wanted t u normal b (fails stopped) after k
  value_not_given TooDeep k = as_own p run m goes laws wanted t u normal b (fails too_deep) after k
  value_not_given Overflow k = as_own p run m goes laws wanted t u normal b (fails overflowed) after k
  value_not_given NoMemory k = tt

-- a term whose normal form is beyond the limits
pub value_beyond : (p : Typed.Program) (P : Program) (same : P.sign.theory ≡ theory_at p.sig) (I : Item) (t : Tree) (b : ℕ) (e : EvalEnd) → ((d : ℕ) → IsEnd (admit (theory_at p.sig) t d) e) → KnownEnd I (value_by P t) b e
value_beyond p P same I t b Stopped h = always_fails I (value_by P t) b stopped (ends_so p P same I t stopped h)
value_beyond p P same I t b TooDeep h = always_fails I (value_by P t) b too_deep (ends_so p P same I t too_deep h)
value_beyond p P same I t b Overflow h = always_fails I (value_by P t) b overflowed (ends_so p P same I t overflowed h)
value_beyond p P same I t b NoMemory h = tt
