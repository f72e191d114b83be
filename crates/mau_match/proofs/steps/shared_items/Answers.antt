use Rattle.std.proofs.Common.{◌≡◌, ◌+◌, [], All, Contains, map, sym, ◌∙◌, ap, subst, arith}
use Rattle.std.proofs.lemmas.List.Elements.{All-contains_itself}
use Rattle.std.proofs.lemmas.Result.{IfOk-weaker}
use Rattle.mau_terms.specs.Tree.{trees_of}
use Rattle.mau_terms.specs.View.{tree_of}
use Rattle.mau_store.specs.Trees.{trees_at}
use Rattle.mau_store.specs.View.{numbers}
use Rattle.mau_match.specs.Parts.{every, copies_in}
use Rattle.mau_match.specs.Walked.{bound_of, target_of}
use Rattle.mau_match.proofs.Taking.{every_one}
use Rattle.mau_match.proofs.steps.shared_items.Goals as goal

pub returns-then-len-eq1-clause-value : goal.returns-then-len-eq1-clause-value
returns-then-len-eq1-clause-value c =
    let nodes = c.args.store.now in
    let ts = trees_at nodes (numbers c.args.items.now) in
    let k = copies_in (bound_of c.args.given.now) (target_of c.args.given.now) c.args.op.0 (trees_of (map tree_of c.args.patterns.now)) in
    let one : 1 + k ≡ 1 = omega (arith, c.in_ok-copies.ensures, c.if-len-eq1.true, c.len.ensures, c.in_ok-copies.copies.ok.0) in
    IfOk-weaker c.copy_of.result _ _ (λ out e. ap (λ l. trees_at nodes (numbers l)) e ∙ sym (ap (λ n. every n [] [] ts) one ∙ every_one [] ts)) c.copy_of.ensures

pub returns-then-len-eq1-clause-among : goal.returns-then-len-eq1-clause-among
returns-then-len-eq1-clause-among c =
    IfOk-weaker c.copy_of.result _ _ (λ out e. subst (All (Contains c.args.items.now)) (sym e) (All-contains_itself c.args.items.now)) c.copy_of.ensures
