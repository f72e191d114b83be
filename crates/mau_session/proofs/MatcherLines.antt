-- The lines of a solution that a query shows.
use Rattle.std.proofs.Common.{◌≡◌, ℕ, ◌+◌, List, ◌++◌, length, take, codes, decimal, sym, ap, ap₂, ◌∙◌, append_assoc}
use Rattle.mau_terms.specs.Tree.{Tree}
use Rattle.mau_terms.specs.Subst.{Variable, variables}
use Rattle.mau_terms.specs.View.{tree_of}
use Rattle.mau_terms.specs.declared.ids.TermId.{TermId}
use Rattle.mau_store.specs.Node.{Node, Extends}
use Rattle.mau_store.specs.Trees.{trees_at}
use Rattle.mau_store.specs.View.{numbers}
use Rattle.mau_store.proofs.Growth.{trees_at-extends}
use Rattle.mau_listing.specs.declared.solution.Solution.{Solution}
use Rattle.mau_sorts.specs.Table.{Table}
use Rattle.mau_listing.specs.Asked.{matcher_in, IsGiven}
use Rattle.mau_module.specs.Modules.{ModuleOf}
use Rattle.mau_session.specs.Terms.{Pairs}
use Rattle.mau_session.specs.Matching.{numbered_from}
use Rattle.mau_session.specs.Answers.{substitution_lines, part_lines, matcher_lines}
use Rattle.mau_session.specs.KeptQuery.{id_trees, asked_for, IsQueryOver}
use Rattle.mau_session.specs.declared.query.Query.{Query}
use Rattle.mau_session.proofs.Listed.{given_there, given_each}

three_parts : (o a b c : List ℕ) → ((o ++ a) ++ b) ++ c ≡ o ++ ((a ++ b) ++ c)
three_parts o a b c = ap (λ w. w ++ c) (append_assoc o a b) ∙ append_assoc o (a ++ b) c

-- the line above a solution
abbrev heading : ℕ → List ℕ
heading n = codes "Matcher " ++ decimal n ++ codes "\n"

module _ (m : ModuleOf) (q : Query) (over : IsQueryOver m.signature q) (table : Table) (x : Solution) (given : IsGiven q.with_context m.signature q.store table (asked_for q) x) (store : List Node)
    (extends : Extends q.store store) where
  abbrev p : Tree
  p = tree_of q.pattern

  -- the values, which stand behind the lines of the part
  abbrev values : List TermId → Pairs → List ℕ
  values ids ns = substitution_lines m ns (numbered_from 0 (take (length ids) ns)) (id_trees store ids)

  same_variables : numbered_from 0 (take (length x.values) q.vars) ≡ variables p
  same_variables = ap (λ n. numbered_from 0 (take n q.vars)) (given_each m q over table x given) ∙ sym over.numbered

  pub matcher_written : (ns : Pairs) (ids : List TermId) (n : ℕ) (o a b c : List ℕ) → ns ≡ q.vars → ids ≡ x.values → n ≡ q.shown + 1 → a ≡ o ++ codes "Matcher " ++ decimal n ++ codes "\n"
      → b ≡ a ++ part_lines m q.vars q.with_context p (matcher_in q.store x) → c ≡ b ++ values ids ns
      → c ≡ o ++ matcher_lines m q.vars q.with_context p (q.shown + 1) (matcher_in q.store x)
  matcher_written ns ids n o a b c same_vars same_ids number first second third =
      let part = part_lines m q.vars q.with_context p (matcher_in q.store x) in
      let lines = substitution_lines m q.vars (variables p) (trees_at q.store (numbers x.values)) in
      third
      ∙ ap₂ (λ (w : List ℕ) (vs : List ℕ). w ++ vs) (second ∙ ap (λ w. w ++ part) (first ∙ three_parts o (codes "Matcher ") (decimal n) (codes "\n") ∙ ap (λ n. o ++ heading n) number))
      (ap₂ values same_ids same_vars ∙ ap₂ (λ (xs : List Variable) (vs : List Tree). substitution_lines m q.vars xs vs) same_variables (trees_at-extends q.store store (numbers x.values) extends (given_there m q over table x given)))
      ∙ three_parts o (heading (q.shown + 1)) part lines
