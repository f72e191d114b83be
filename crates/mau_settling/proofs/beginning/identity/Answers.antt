use Rattle.std.proofs.Common.{◌≡◌, Some, [], ◌∷◌, sym, ap, ◌∙◌, rules}
use Rattle.std.proofs.lemmas.Option.{slice_get_within}
use Rattle.mau_terms.specs.Finite.{units_of}
use Rattle.mau_terms.specs.declared.theory.Identity.{Identity}
use Rattle.mau_terms.specs.declared.theory.Identity.TheVariants.{Const, Num}
use Rattle.mau_signature.specs.Signature.{theory_at}
use Rattle.mau_store.specs.Node.{numeral_node, operator_node}
use Rattle.mau_settling.proofs.Units.{unit_term}
use Rattle.mau_settling.proofs.beginning.identity.Goals as goal

pub returns-in_ok-id-in-Some-Const-clause-is : goal.returns-in_ok-id-in-Some-Const-clause-is
returns-in_ok-id-in-Some-Const-clause-is c =
    let unit : Identity = Const c.in-Some-Const.constant in
    let e : (theory_at c.args.sig.now c.args.op.0).id ≡ Some unit = search rules in
    let there = slice_get_within c.intern.new.self c.in_ok-id-in-Some-Const.id.0 (operator_node c.in-Some-Const.constant.0 []) c.in_ok-id-in-Some-Const.ensures.ok in (
      ap units_of e ∙ ap (λ t. t ∷ []) (sym c.in_ok-id-in-Some-Const.ensures.tree),
      unit_term c.args.sig.now c.requires.lawful c.intern.new.self c.in_ok-id-in-Some-Const.id.0 c.args.op.0 unit e there c.in_ok-id-in-Some-Const.ensures.tree,
    )

pub returns-in_ok-id-in-Some-Num-clause-is : goal.returns-in_ok-id-in-Some-Num-clause-is
returns-in_ok-id-in-Some-Num-clause-is c =
    let unit : Identity = Num c.in-Some-Num.number in
    let e : (theory_at c.args.sig.now c.args.op.0).id ≡ Some unit = search rules in
    let there = slice_get_within c.intern-in-Some-Num.new.self c.in_ok-id-in-Some-Num.id.0 (numeral_node c.in-Some-Num.number) c.in_ok-id-in-Some-Num.ensures.ok in (
      ap units_of e ∙ ap (λ t. t ∷ []) (sym c.in_ok-id-in-Some-Num.ensures.tree),
      unit_term c.args.sig.now c.requires.lawful c.intern-in-Some-Num.new.self c.in_ok-id-in-Some-Num.id.0 c.args.op.0 unit e there c.in_ok-id-in-Some-Num.ensures.tree,
    )
