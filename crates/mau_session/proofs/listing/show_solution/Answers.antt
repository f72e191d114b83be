use Rattle.std.proofs.Common.{◌≡◌, ◌+◌, List, length, Some, sym, ap, subst, arith, rules}
use Rattle.mau_terms.specs.declared.ids.TermId.{TermId}
use Rattle.mau_store.specs.Node.{AreOf}
use Rattle.mau_store.specs.View.{numbers}
use Rattle.mau_store.proofs.Growth.{AreOf-extends}
use Rattle.mau_session.specs.KeptQuery.{IsQueryOver}
use Rattle.mau_session.specs.declared.query.Query.{Query}
use Rattle.mau_session.proofs.Listed.{given_there, given_each, advanced_over}
use Rattle.mau_session.proofs.MatcherLines.{matcher_written}
use Rattle.mau_session.proofs.listing.show_solution.Goals as goal

pub write_substitution-requires-clause-few : goal.write_substitution-requires-clause-few
write_substitution-requires-clause-few c =
    let each = given_each c.args.module.now c.args.query.now c.requires.query c.requires.given.0 c.args.solution c.requires.given.1 in
    omega (arith, each, c.requires.query.few, ap length c.items.ensures, ap (λ (k : Query). length k.vars) c.write_part.ensures.query)

pub write_substitution-requires-clause-there : goal.write_substitution-requires-clause-there
write_substitution-requires-clause-there c =
    let q = c.args.query.now in
    let new = c.write_part.new.query.store in
    subst (λ (l : List TermId). AreOf new (numbers l)) (sym c.items.ensures)
    (AreOf-extends q.store new (numbers c.args.solution.values) c.write_part.ensures.extends (given_there c.args.module.now q c.requires.query c.requires.given.0 c.args.solution c.requires.given.1))

pub returns-clause-gained : goal.returns-clause-gained
returns-clause-gained c =
    let number : c.in_ok-number.number ≡ c.args.query.now.shown + 1 = search rules in
    matcher_written c.args.module.now c.args.query.now c.requires.query c.requires.given.0 c.args.solution c.requires.given.1 c.write_part.new.query.store c.write_part.ensures.extends c.write_part.new.query.vars c.items.result.now
    c.in_ok-number.number c.args.out.now.items c.write_matcher.new.out.items c.write_part.new.out.items c.write_substitution.new.out.items (ap (λ (k : Query). k.vars) c.write_part.ensures.query) c.items.ensures number
    c.in_ok-write_matcher.ensures c.in_ok-write_part.ensures.gained c.in_ok-write_substitution.ensures

pub returns-clause-query : goal.returns-clause-query
returns-clause-query c =
    let number = c.in_ok-number.number in
    subst (λ (k : Query). IsQueryOver c.args.module.now.signature (record k { last = Some c.args.solution; shown = number })) (sym c.write_part.ensures.query)
    (advanced_over c.args.module.now c.args.query.now c.requires.query c.requires.given.0 c.args.solution c.requires.given.1 c.write_part.new.query.store c.write_part.ensures.extends number)
