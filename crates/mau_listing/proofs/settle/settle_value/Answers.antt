use Rattle.std.proofs.Common.{◌≡◌, rules, tests}
use Rattle.mau_signature.specs.Signature.{theory_at}
use Rattle.mau_store.specs.Trees.{tree_at}
use Rattle.mau_sorts.specs.Table.{IsReady}
use Rattle.mau_listing.specs.Asked.{IsNumeralOrList}
use Rattle.mau_listing.proofs.Entered.{settles_one}
use Rattle.mau_listing.proofs.settle.settle_value.Goals as goal

pub returns-clause-entries : goal.returns-clause-entries
returns-clause-entries c =
    let ready : IsReady c.args.sig.now c.args.store.now c.args.sorts.now c.args.id.0 = c.is_ready.ensures.0 (search rules) in
    let list : IsNumeralOrList (theory_at c.args.sig.now) (tree_at c.args.store.now c.args.id.0) = c.is_numeral_or_list.ensures.value.0 (search rules) in
    let other : c.args.id.0 ≡ c.args.subject.0 → ⊥ = search (rules, tests) in
    settles_one c.args.store.now c.is_numeral_or_list.ensures.nodes c.args.sig.now c.args.sorts.now c.settle_ready.new.sorts c.args.subject.0 c.args.id.0
    c.requires.subject ready.there c.settle_ready.ensures.others other list
