use Rattle.std.proofs.Common.{All, Contains, subst, get_or, eqb-true, ap}
use Rattle.std.proofs.lemmas.List.{take_all}
use Rattle.std.proofs.lemmas.List.Elements.{All-more}
use Rattle.mau_listing_tests.proofs.norms.terms.are_among.Goals as goal

pub loop-term-preserved : goal.loop-term-preserved
loop-term-preserved c =
    All-more (Contains c.args.ids.now) c.args.terms.now c.loop-term.term-index (record { 0 = 0 }) c.loop-term-test.true c.loop-term.invariant
    (let w = c.if-not-contains.ensures.cases in
    let t = get_or c.args.terms.now c.loop-term.term-index (record { 0 = 0 }) in
    (w.0, w.1, ap (λ n. record { 0 = n }) (eqb-true _ _ (w.2 t))))

pub returns : goal.returns
returns c e = subst (All (Contains c.args.ids.now)) (take_all c.loop-term.term-index c.args.terms.now c.loop-term-test.false) c.loop-term.invariant
