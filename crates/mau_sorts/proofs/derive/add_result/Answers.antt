use Rattle.std.proofs.Common.{arith}
use Rattle.mau_sorts.specs.Derived.{AllIn, sets}
use Rattle.mau_sorts.proofs.Derivations.{adds_kind, adds_unsuited, adds_sort}
use Rattle.mau_sorts.proofs.derive.add_result.Goals as goal

pub returns-then-decl-sorts-clause-added : goal.returns-then-decl-sorts-clause-added
returns-then-decl-sorts-clause-added c =
    adds_kind c.args.poset.now c.args.decl.now (AllIn c.args.poset.now (sets c.args.args.now)) c.args.minimal.now.items c.sorts.ensures.poset (omega (arith, c.sorts.ensures.value, c.if-decl-sorts.true))

pub returns-then-not-suits-clause-added : goal.returns-then-not-suits-clause-added
returns-then-not-suits-clause-added c =
    adds_unsuited c.args.poset.now c.args.decl.now (AllIn c.args.poset.now (sets c.args.args.now)) c.args.minimal.now.items
    (λ suits. absurd (let e = c.suits.ensures.1 suits in let f = c.if-not-suits.true in cc (e, f)))

pub returns-clause-added : goal.returns-clause-added
returns-clause-added c =
    adds_sort c.args.poset.now c.args.decl.now (AllIn c.args.poset.now (sets c.args.args.now)) c.args.minimal.now.items c.add.new.minimal.items
    (c.suits.ensures.0 c.if-not-suits.false) c.in_ok-add.ensures.above
