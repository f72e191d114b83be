-- The search for the solutions of one argument pattern: what it found, and the same in a store that has grown.
use Rattle.std.proofs.Common.{◌≡◌, ◌≤◌, ℕ, suc, List, [], ◌∷◌, length, map, All, Vec, Global, Bool, true, Option, Some, None, IfSome, Result, refl, sym, ap, ◌∙◌, subst, arith}
use Rattle.std.proofs.lemmas.List.Elements.{All-nil}
use Rattle.std.specs.Option.{option_map}
use Rattle.std.proofs.lemmas.List.{length-map}
use Rattle.mau_terms.specs.Tree.{Tree}
use Rattle.mau_terms.specs.Subst.{Variable, variables, add_variables}
use Rattle.mau_terms.specs.View.{tree_of, variable_of}
use Rattle.mau_terms.specs.declared.ids.TermId.{TermId}
use Rattle.mau_terms.specs.declared.ids.VarId.{VarId}
use Rattle.mau_terms.specs.Bare.{IsBare, IsBareIn}
use Rattle.mau_terms.proofs.Variables.{distinct}
use Rattle.mau_signature.specs.Signature.{SignatureOf, theory_at, terms_over}
use Rattle.mau_store.specs.Node.{Node, Extends}
use Rattle.mau_store.specs.Trees.{tree_at, trees_at}
use Rattle.mau_store.specs.View.{numbers}
use Rattle.mau_sorts.specs.Table.{Table, KeepsEntries, AreOver}
use Rattle.mau_listing.specs.Asked.{Asked}
use Rattle.mau_listing.specs.declared.solution.Solution as Listed
use Rattle.mau_program.specs.declared.program.Program as Typed
use Rattle.mau_program.specs.declared.statements.Rule as Written
use Rattle.mau_evaluation.specs.Program.{Program}
use Rattle.mau_evaluation.specs.Evaluation.{Binding, extend}
use Rattle.mau_evaluation.specs.Engine.{Engine}
use Rattle.mau_evaluation.specs.Answers.{Answers}
use Rattle.mau_choices.proofs.Agreeing.{bound_variables}
use Rattle.mau_choices.proofs.Added.{variables_extended}
use Rattle.mau_choices.proofs.Numbered.{variables_bound}
use Rattle.mau_cond.proofs.Grown.{bound_grown}
use Rattle.mau_api.specs.Programs.{rule_of, fragment_of, program_over}
use Rattle.mau_api.specs.Meanings.{Meanings}
use Rattle.mau_api.specs.Answers.{binding_in, IsValueOf, IsFragment, AreApart, IsAskable}
use Rattle.mau_api.specs.declared.results.EvalEnd.{EvalEnd}
use Rattle.mau_reduce.specs.Trying.{solution_in}
use Rattle.mau_reduce.proofs.KindsKept.{tree_kept}
use Rattle.mau_rules.specs.Runnable.{GoesBy}
use Rattle.mau_leaves.specs.Uses.{Use}
use Rattle.mau_leaves.specs.Searches.{stand_of, left_in, use_in, found_in, last_in, variables_in, bound_at, IsUsable, IsAtSolution, IsShownFor, StandsAt, IsSearch, IsNextOne}
use Rattle.mau_leaves.specs.InTurn.{just}
use Rattle.mau_leaves.specs.declared.uses.RuleUses.{RuleUses}
use Rattle.mau_leaves.specs.Arguments.{left_matched, matched_left, IsPatternRule, IsPatternSearch}
use Rattle.mau_leaves.specs.declared.uses.Standing.{Standing}
use Rattle.mau_leaves.specs.declared.uses.Standing.TheVariants.{Behind, Before, Within}
use Rattle.mau_leaves.specs.declared.arguments.PatternSearch.{PatternSearch}
use Rattle.mau_leaves.proofs.Matching.{AsksPlainly, IsOwn, solved_plainly, next_matched}
use Rattle.mau_leaves.proofs.Searching.{search_grown, stand_same, of_store}

module _ {K : Type 0} (asked : K → Asked) (given : K → Option Listed.Solution) (is_for : K → SignatureOf → Type 0) (c : Bool) (p : Typed.Program) (m : Meanings) where
  -- the rule has no condition
  pub nothing_asked : (nodes : List Node) (table : Table) (xs : List Variable) (q : Tree) (v : TermId) (w : PatternSearch K) → IsPatternSearch asked given is_for c p m nodes table xs q v w → (rule_of w.rule).cond ≡ []
  nothing_asked nodes table xs q v w is = ap (map fragment_of) is.rule.plain

  pub left_side : (nodes : List Node) (table : Table) (xs : List Variable) (q : Tree) (v : TermId) (w : PatternSearch K) → IsPatternSearch asked given is_for c p m nodes table xs q v w → (rule_of w.rule).left ≡ q
  left_side nodes table xs q v w is = is.rule.left

  module _ (goes : GoesBy p m) (nodes : List Node) (table : Table) (xs : List Variable) (q : Tree) (v : TermId) (w : PatternSearch K) (is : IsPatternSearch asked given is_for c p m nodes table xs q v w) where
    abbrev bs : List (VarId × TermId)
    bs = w.uses.bound.items

    -- what it found
    pub record IsFoundBy (found : List (VarId × TermId)) : Type 0 where
      pub solution : Listed.Solution
      pub gave : given w.uses.listing ≡ Some solution
      pub values : All (IsValueOf p.sig nodes table) found
      pub is_own : binding_in nodes found ≡ bound_at nodes w.rule w.uses.bound.items solution

    pub found_by : (found : List (VarId × TermId)) → found_in w.uses.standing ≡ Some found → IsFoundBy found
    found_by found at = by (given w.uses.listing) refl w.uses.standing is.search.stands at
      where
        there : (o : Option Listed.Solution) → given w.uses.listing ≡ o → (k : Standing) → StandsAt m p.sig w.rule bs nodes table o k → (x : Listed.Solution) → o ≡ Some x → (f : List (VarId × TermId)) → found_in k ≡ Some f →
            IsShownFor m p.sig w.rule bs nodes table x f → IsFoundBy f
        there o e k stands x f found h shown = record {
          solution = x;
          gave = e ∙ f;
          values = shown.values;
          is_own = solved_plainly p m goes (rule_of w.rule).cond (nothing_asked nodes table xs q v w is) (bound_at nodes w.rule bs x) (binding_in nodes found) shown.solution;
        }

        one : (f g : List (VarId × TermId)) → Some f ≡ Some g → f ≡ g
        one f g e = cc

        by : (o : Option Listed.Solution) → given w.uses.listing ≡ o → (k : Standing) → StandsAt m p.sig w.rule bs nodes table o k → found_in k ≡ Some found → IsFoundBy found
        by None e Behind stands h = cc
        by None e Before stands h = absurd stands
        by None e (Within f) stands h = absurd stands
        by (Some x) e Behind stands h = cc
        by (Some x) e Before stands h = cc
        by (Some x) e (Within f) stands h = subst IsFoundBy (one f.items found h) (there (Some x) e (Within f) stands x refl f.items refl stands)

    as_many_values : (x : Listed.Solution) → length x.values ≡ length (variables (tree_of w.rule.left)) → length (solution_in nodes x).values ≡ length (variables (tree_of w.rule.left))
    as_many_values x e = length-map (numbers x.values) (tree_at nodes) ∙ (length-map x.values (λ (id : TermId). id.0) ∙ e)

    -- the variables that have values then
    pub found_variables : (found : List (VarId × TermId)) → found_in w.uses.standing ≡ Some found → variables_in found ≡ add_variables xs q
    found_variables found at =
        let f = found_by found at in
        let at = subst (λ (o : Option Listed.Solution). IfSome o (λ x. length x.values ≡ length (variables (tree_of w.rule.left)))) f.gave (one_each (given w.uses.listing) is.search.at) in
        sym (variables_bound nodes found)
        ∙ (ap bound_variables f.is_own
        ∙ (variables_extended (tree_of w.rule.left) (solution_in nodes f.solution).values (binding_in nodes bs) (as_many_values f.solution at)
        ∙ (ap (λ ys. add_variables ys (tree_of w.rule.left)) (variables_bound nodes bs ∙ is.bound) ∙ ap (add_variables xs) is.rule.left)))
      where
        one_each : (o : Option Listed.Solution) → IfSome o (λ x. IsAtSolution p.sig w.rule (tree_at nodes (asked w.uses.listing).subject.0) nodes table x) → IfSome o (λ x. length x.values ≡ length (variables (tree_of w.rule.left)))
        one_each None h = tt
        one_each (Some x) h = h.valued.one_each

    -- where it stands what was found is the binding of the solution
    pub found_own : (x : Listed.Solution) → given w.uses.listing ≡ Some x → (found : List (VarId × TermId)) → found_in w.uses.standing ≡ Some found → binding_in nodes found ≡ bound_at nodes w.rule w.uses.bound.items x
    found_own x e found at =
        let f = found_by found at in
        f.is_own ∙ ap (bound_at nodes w.rule bs) (one f.solution (sym f.gave ∙ e))
      where
        one : (y : Listed.Solution) → Some y ≡ Some x → y ≡ x
        one y k = cc

    -- where it stands is at a solution with its own binding
    pub own_stand : (L : Engine) (plain : AsksPlainly L) → IsOwn (program_over p m.hooks) L plain (rule_of w.rule) (nothing_asked nodes table xs q v w is) (binding_in nodes w.uses.bound.items) (stand_of nodes (given w.uses.listing) w.uses.standing)
    own_stand L plain = by (given w.uses.listing) refl w.uses.standing refl
      where
        by : (o : Option Listed.Solution) → given w.uses.listing ≡ o → (k : Standing) → w.uses.standing ≡ k →
            IsOwn (program_over p m.hooks) L plain (rule_of w.rule) (nothing_asked nodes table xs q v w is) (binding_in nodes w.uses.bound.items) (stand_of nodes o k)
        by None e k h = tt
        by (Some x) e Behind h = tt
        by (Some x) e Before h = tt
        by (Some x) e (Within f) h = found_own x e f.items (ap found_in h)

-- ---- in a store that has grown

module _ {K : Type 0} (asked : K → Asked) (given : K → Option Listed.Solution) (is_for : K → SignatureOf → Type 0) (c : Bool) (p : Typed.Program) (m : Meanings) (old new : List Node) (before after : Table) (extends : Extends old new)
    (kept : KeepsEntries before after) (xs : List Variable) (q : Tree) (v : TermId) (w : PatternSearch K) (is : IsPatternSearch asked given is_for c p m old before xs q v w) where
  pub pattern_grown : AreOver p.sig.hierarchy after → IsPatternSearch asked given is_for c p m new after xs q v w
  pattern_grown over = record {
    rule = is.rule;
    bound = is.bound;
    usable = is.usable;
    whole = is.whole;
    subject = is.subject;
    search = search_grown p old new before after extends kept m w.rule w.uses.bound.items c (asked w.uses.listing) (given w.uses.listing) w.uses.standing over is.search;
    signature = is.signature;
  }

  pub matched_same : matched_left asked given p m.hooks new w ≡ matched_left asked given p m.hooks old w
  matched_same =
      let subject : tree_at new (asked w.uses.listing).subject.0 ≡ tree_at old (asked w.uses.listing).subject.0 = tree_kept (theory_at p.sig) old new (asked w.uses.listing).subject.0 extends is.search.ready.askable.subject in
      let bound : binding_in new w.uses.bound.items ≡ binding_in old w.uses.bound.items = bound_grown p.sig old new before after extends kept w.uses.bound.items is.search.values in
      let stand = stand_same p old new before after extends kept m w.rule w.uses.bound.items c (asked w.uses.listing) (given w.uses.listing)
      (of_store p old new before after extends kept m w.rule w.uses.bound.items c (asked w.uses.listing) (given w.uses.listing) is.search.ready) w.uses.standing is.search.stands in
      λ i L. left_matched (program_over p m.hooks) L (rule_of w.rule) (bound i) (subject i) (stand i)

  -- what it found is the same
  pub last_same : last_in new w.uses.standing ≡ last_in old w.uses.standing
  last_same = by (given w.uses.listing) w.uses.standing is.search.stands
    where
      by : (o : Option Listed.Solution) (k : Standing) → StandsAt m p.sig w.rule w.uses.bound.items old before o k → last_in new k ≡ last_in old k
      by o Behind h = refl
      by o Before h = refl
      by None (Within f) h = absurd h
      by (Some x) (Within f) h = ap Some (bound_grown p.sig old new before after extends kept f.items h.values)

-- ---- the next solution

pub last_used : (rule : Written.Rule) (nodes : List Node) (o : Option Listed.Solution) (k : Standing) (u : Use) → use_in rule nodes o k ≡ Some u → last_in nodes k ≡ Some u.values
last_used rule nodes None k u e = cc
last_used rule nodes (Some x) Behind u e = cc
last_used rule nodes (Some x) Before u e = cc
last_used rule nodes (Some x) (Within f) u e = ap (option_map (λ (z : Use). z.values)) e

module _ {K : Type 0} (asked : K → Asked) (given : K → Option Listed.Solution) (is_for : K → SignatureOf → Type 0) (c : Bool) (p : Typed.Program) (m : Meanings) (goes : GoesBy p m) (old new : List Node) (before after : Table)
    (w : PatternSearch K) (u : RuleUses K) where
  abbrev P : Program
  P = program_over p m.hooks

  module _ (xs : List Variable) (q : Tree) (v : TermId) (is : IsPatternSearch asked given is_for c p m old before xs q v w) where
    pub next_pattern : (b : ℕ) (r : Result Bool EvalEnd) → u.whole ≡ true →
        IsNextOne (program_over p m.hooks) b (left_in p m.hooks w.rule w.uses.whole w.uses.bound.items old (asked w.uses.listing) (given w.uses.listing) w.uses.standing)
        (left_in p m.hooks w.rule u.whole u.bound.items new (asked u.listing) (given u.listing) u.standing) (use_in w.rule new (given u.listing) u.standing) r →
        IsNextOne (program_over p m.hooks) b (just (matched_left asked given p m.hooks old w)) (just (matched_left asked given p m.hooks new (record { rule = w.rule; uses = u }))) (last_in new u.standing) r
    next_pattern b r whole h =
        next_matched P (rule_of w.rule) (nothing_asked asked given is_for c p m old before xs q v w is) (binding_in old w.uses.bound.items) (tree_at old (asked w.uses.listing).subject.0) (stand_of old (given w.uses.listing) w.uses.standing)
        (own_stand asked given is_for c p m goes old before xs q v w is) (binding_in new u.bound.items) (tree_at new (asked u.listing).subject.0) (stand_of new (given u.listing) u.standing) b (use_in w.rule new (given u.listing) u.standing)
        (last_in new u.standing) (last_used w.rule new (given u.listing) u.standing) r
        (subst (λ z. IsNextOne P b (left_in p m.hooks w.rule true w.uses.bound.items old (asked w.uses.listing) (given w.uses.listing) w.uses.standing) (left_in p m.hooks w.rule z u.bound.items new (asked u.listing) (given u.listing) u.standing)
        (use_in w.rule new (given u.listing) u.standing) r) whole
        (subst (λ z. IsNextOne P b (left_in p m.hooks w.rule z w.uses.bound.items old (asked w.uses.listing) (given w.uses.listing) w.uses.standing) (left_in p m.hooks w.rule u.whole u.bound.items new (asked u.listing) (given u.listing) u.standing)
        (use_in w.rule new (given u.listing) u.standing) r) is.whole h))

    pub pattern_then : u.bound ≡ w.uses.bound → u.whole ≡ w.uses.whole → asked u.listing ≡ asked w.uses.listing → IsSearch c p m w.rule u.bound.items new after (asked u.listing) (given u.listing) u.standing → is_for u.listing p.sig →
        IsPatternSearch asked given is_for c p m new after xs q v (record { rule = w.rule; uses = u })
    pattern_then bound whole same search signature = record {
      rule = is.rule;
      bound = ap (λ (bs : Vec (VarId × TermId) Global). variables_in bs.items) bound ∙ is.bound;
      usable = is.usable;
      whole = whole ∙ is.whole;
      subject = ap (λ (a : Asked). a.subject) same ∙ is.subject;
      search = search;
      signature = signature;
    }

-- ---- the beginning

pub pattern_usable : (s : SignatureOf) (xs : List Variable) → AreApart xs → (q : Tree) → IsBare (terms_over s) q → (rule : Written.Rule) → IsPatternRule q rule → IsUsable s xs rule
pattern_usable s xs apart q bare rule is = record {
  sides = record { kind = bare.0; first = subst (λ t. IsBareIn (terms_over s) t bare.0) (sym is.left) bare.1; second = subst (λ t. IsBareIn (terms_over s) t bare.0) (sym is.right) bare.1 };
  condition = subst (IsAskable s (add_variables xs (tree_of rule.left))) (sym is.plain) (record { fragments = All-nil (IsFragment s); bound = refl; apart = distinct (tree_of rule.left) xs apart });
  apart = apart;
}
