use Rattle.std.proofs.Common.{◌≡◌, ◌≤◌, ◌+◌, ◌++◌, ◌∷◌, [], List, length, map, take, get_or, sym, ◌∙◌, ap, ap₂, subst, arith}
use Rattle.std.proofs.lemmas.List.{map-append}
use Rattle.mau_terms.specs.Tree.{Tree, variable, trees_of}
use Rattle.mau_terms.specs.Vars.{place_of}
use Rattle.mau_terms.specs.View.{tree_of}
use Rattle.mau_chart.specs.Nodes.{tree_at, trees_at}
use Rattle.mau_chart.proofs.Lists.{below_at}
use Rattle.mau_parse.specs.Terms.{pair_at, pairs_in, all_pairs, added, renamed, all_renamed, AreGiven}
use Rattle.mau_parse.proofs.Renamed.{place_with, few_added, added_more, renamed_more, given_at, room_at, trees_step}
use Rattle.mau_parse.proofs.terms.+term.Goals as goal

pub term_of-requires : goal.term_of-requires
term_of-requires t c =
    let ps = c.args.pairs.now in
    let s = c.args.trees.now in
    let ids = c.in-App.ids.now in
    let i = c.loop-id.id-index in
    let below = below_at c.args.id.0 ids i (record { 0 = 0 }) c.in-App.ensures.older c.loop-id-test.true in
    let room = room_at ps s ids i (record { 0 = 0 }) c.loop-id-test.true in
    let few = few_added c.args.vars.now (all_pairs ps (trees_of (trees_at s (take i ids)))) in
    let long = ap length c.loop-id.invariant.vars in
    let whole = subst (λ (t : Tree). length c.args.vars.now + length (pairs_in ps t) ≤ 4294967295) c.in-App.ensures.tree c.requires.room in (
      omega (arith, below),
      (omega (arith, below), (given_at ps s ids i (record { 0 = 0 }) c.loop-id-test.true (subst (AreGiven ps) c.in-App.ensures.tree c.requires.given), omega (arith, room, few, long, whole))),
    )

pub loop-id-preserved : goal.loop-id-preserved
loop-id-preserved t c =
    let ps = c.args.pairs.now in
    let s = c.args.trees.now in
    let ids = c.in-App.ids.now in
    let i = c.loop-id.id-index in
    let ts = trees_at s (take i ids) in
    let u = tree_at s (get_or ids i (record { 0 = 0 })).0 in
    let step = sym (trees_step s ids i (record { 0 = 0 }) c.loop-id-test.true) in
    let term = c.in_ok-term_of-in-App.field-0 in
    let pushed : map tree_of c.push.new.self.items ≡ map tree_of c.loop-id.terms.items ++ tree_of term ∷ [] = ap (map tree_of) c.in_ok-push-in-App.ensures.items ∙ map-append tree_of c.loop-id.terms.items (term ∷ []) in
    record {
      vars = subst (λ (us : List Tree). c.term_of.new.vars ≡ added c.args.vars.now (all_pairs ps (trees_of us))) step
          (added_more ps c.args.vars.now c.loop-id.vars c.term_of.new.vars ts u c.loop-id.invariant.vars c.in_ok-term_of-in-App.ensures.vars);
      terms = subst (λ (us : List Tree). trees_of (map tree_of c.push.new.self.items) ≡ all_renamed ps c.term_of.new.vars (trees_of us)) step
          (ap trees_of pushed
          ∙ renamed_more ps c.args.vars.now c.loop-id.vars c.term_of.new.vars ts (map tree_of c.loop-id.terms.items) u (tree_of term)
          c.loop-id.invariant.vars c.in_ok-term_of-in-App.ensures.vars c.loop-id.invariant.terms c.in_ok-term_of-in-App.ensures.term);
    }

pub returns-in_ok-variable_of-in-Var-clause-term : goal.returns-in_ok-variable_of-in-Var-clause-term
returns-in_ok-variable_of-in-Var-clause-term t c =
    let ps = c.args.pairs.now in
    let x = pair_at ps c.in-Var.v.index in
    let e = c.in_ok-variable_of-in-Var.ensures in
    ap₂ variable (e.ok ∙ sym (place_with c.args.vars.now x) ∙ ap (λ xs. place_of xs x) (sym e.vars)) e.sort
    ∙ ap (renamed ps c.variable_of.new.vars) (sym c.in-Var.ensures.tree)
