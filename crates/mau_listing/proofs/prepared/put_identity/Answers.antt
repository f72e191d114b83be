use Rattle.std.proofs.Common.{◌≡◌, [], Some, sym, ◌∙◌, subst, rules}
use Rattle.std.proofs.lemmas.Option.{slice_get_within}
use Rattle.mau_terms.specs.Norm.{unit_tree}
use Rattle.mau_terms.specs.declared.theory.Identity.{Identity}
use Rattle.mau_terms.specs.declared.theory.Identity.TheVariants.{Const, Num}
use Rattle.mau_signature.specs.Signature.{theory_at}
use Rattle.mau_store.specs.Node.{numeral_node, operator_node}
use Rattle.mau_canon.specs.Standing.{IsNumberOf}
use Rattle.mau_listing.proofs.Stored.{unit_over, terms_more}
use Rattle.mau_listing.proofs.prepared.put_identity.Goals as goal

pub returns-in_ok-intern-in-Some-Const-clause-terms : goal.returns-in_ok-intern-in-Some-Const-clause-terms
returns-in_ok-intern-in-Some-Const-clause-terms c =
    let s = c.args.sig.now in
    let unit : Identity = Const c.in-Some-Const.constant in
    let e : (theory_at s c.args.op.0).id ≡ Some unit = search rules in
    let new = c.intern.new.self in
    let id = c.in_ok-intern-in-Some-Const.field-0.0 in
    terms_more s c.args.store.now new (operator_node c.in-Some-Const.constant.0 []) id (unit_tree unit) c.in_ok-intern-in-Some-Const.ensures.added c.intern.ensures.extends c.intern.ensures.nodes c.in_ok-intern-in-Some-Const.ensures.ok c.in_ok-intern-in-Some-Const.ensures.tree
    (unit_over s c.theory.ensures.lawful c.args.op.0 unit e)

pub returns-in_ok-intern-in-Some-Num-clause-there : goal.returns-in_ok-intern-in-Some-Num-clause-there
returns-in_ok-intern-in-Some-Num-clause-there c = λ i known.
    let s = c.args.sig.now in
    let unit : Identity = Num c.in-Some-Num.number in
    let e : (theory_at s c.args.op.0).id ≡ Some unit = search rules in
    let id = c.in_ok-intern-in-Some-Num.field-0.0 in
    let same : unit ≡ i = (let both : Some unit ≡ Some i = sym e ∙ known in cc) in
    (id, subst (λ j. IsNumberOf c.intern-in-Some-Num.new.self id (unit_tree j)) same (record { there = slice_get_within c.intern-in-Some-Num.new.self id (numeral_node c.in-Some-Num.number) c.in_ok-intern-in-Some-Num.ensures.ok; tree = c.in_ok-intern-in-Some-Num.ensures.tree }))

pub returns-in_ok-intern-in-Some-Num-clause-terms : goal.returns-in_ok-intern-in-Some-Num-clause-terms
returns-in_ok-intern-in-Some-Num-clause-terms c =
    let s = c.args.sig.now in
    let unit : Identity = Num c.in-Some-Num.number in
    let e : (theory_at s c.args.op.0).id ≡ Some unit = search rules in
    let new = c.intern-in-Some-Num.new.self in
    let id = c.in_ok-intern-in-Some-Num.field-0.0 in
    terms_more s c.args.store.now new (numeral_node c.in-Some-Num.number) id (unit_tree unit) c.in_ok-intern-in-Some-Num.ensures.added c.intern-in-Some-Num.ensures.extends c.intern-in-Some-Num.ensures.nodes c.in_ok-intern-in-Some-Num.ensures.ok c.in_ok-intern-in-Some-Num.ensures.tree
    (unit_over s c.theory.ensures.lawful c.args.op.0 unit e)
