use Rattle.std.proofs.Common.{◌≡◌, [], ◌∷◌, ◌++◌, sym, ◌∙◌, ap, subst}
use Rattle.std.proofs.lemmas.List.Elements.{Contains-push}
use Rattle.mau_strat.specs.Walks.{IsRun}
use Rattle.mau_strat.proofs.Turns.{begin_run}
use Rattle.mau_strat.proofs.walk.Walk.start.Goals as goal

pub returns-clause-run : goal.returns-clause-run
returns-clause-run g c =
    let B = g.S.Successors.begins c.args.engine.now in
    let N = g.S.Successors.next c.args.engine.now in
    let listed : c.add.new.self ≡ c.args.config ∷ [] = c.in_ok-add.ensures.ok ∙ ap (λ xs. xs ++ c.args.config ∷ []) c.new-listed.ensures in
    let stack : c.push.new.self.items ≡ record { entry = 0; at = 0 } ∷ [] = c.in_ok-push.ensures.items ∙ ap (λ xs. xs ++ record { entry = 0; at = 0 } ∷ []) c.new-stack.ensures.items in
    let none = g.met.S.Successors.none_given c.args.engine.now (c.args.config ∷ []) c.args.config c.requires (Contains-push [] c.args.config) in
    subst (λ ps. IsRun B N c.add.new.self ps c.push.new.self.items) (sym c.in_ok-trace.ensures.parents)
    (subst (λ xs. IsRun B N xs [] c.push.new.self.items) (sym listed) (subst (λ os. IsRun B N (c.args.config ∷ []) [] os) (sym stack) (begin_run B N c.args.config none)))
