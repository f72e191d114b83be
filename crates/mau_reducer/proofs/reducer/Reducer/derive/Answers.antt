use Rattle.std.proofs.Common.{refl, ap, ◌∙◌, subst}
use Rattle.mau_terms.specs.declared.ids.TermId.{TermId}
use Rattle.mau_store.specs.Trees.{tree_at}
use Rattle.mau_api.specs.Answers.{AreSettled}
use Rattle.mau_reducer.specs.Worlds.{basis_of}
use Rattle.mau_reducer.specs.LaterStates.{term_later, comes_with}
use Rattle.mau_reducer.proofs.Settlings.{low_place, asking, binding, ends}
use Rattle.mau_reducer.proofs.reducer.Reducer.derive.Goals as goal

pub number_of_member-requires : goal.number_of_member-requires
number_of_member-requires g c = low_place c.args.self.now.program.now c.advance.new.self c.in-Some.at c.in-Some.question.now c.in-Some.ensures.asks (c.in_ok-asks.ensures.asks c.if-asks.true)

pub unreachable-requires : goal.unreachable-requires
unreachable-requires g c = let k = c.in_ok-asks.ensures.asks c.if-asks.true in c.in-None.ensures.none (k.0, k.1, k.2)

pub returns-then-asks-clause-binding : goal.returns-then-asks-clause-binding
returns-then-asks-clause-binding g c =
    let w = c.args.self.now in
    let b = basis_of g.N.Natives.operators w in
    let fit = c.requires.fit in
    let known = c.requires.settling in
    binding b fit.basis c.advance.new.store c.advance.new.table c.args.term.0 c.advance.new.self
    (record {
      own = ap (λ (x : TermId). x.0) c.advance.ensures.term ∙ known.own;
      settling = c.in_ok-asks.ensures.settling;
      derives = c.in_ok-asks.ensures.derives b.hooks b.limit fit.derived known.derives;
    })
    c.in-Some.at c.in-Some.question.now c.in-Some.ensures.asks (low_place b.program c.advance.new.self c.in-Some.at c.in-Some.question.now c.in-Some.ensures.asks (c.in_ok-asks.ensures.asks c.if-asks.true))
    c.in_ok-binding-in-Some.binding (c.in_ok-binding-in-Some.ensures.pairs ∙ c.items.ensures) c.in_ok-binding-in-Some.ensures.one_each c.number_of_member.result c.number_of_member.ensures

pub returns-then-asks-clause-asking : goal.returns-then-asks-clause-asking
returns-then-asks-clause-asking g c =
    let w = c.args.self.now in
    let b = basis_of g.N.Natives.operators w in
    let fit = c.requires.fit in
    let known = c.requires.settling in
    asking b fit.basis c.advance.new.store c.advance.new.table c.args.term.0 c.advance.new.self
    (record {
      own = ap (λ (x : TermId). x.0) c.advance.ensures.term ∙ known.own;
      settling = c.in_ok-asks.ensures.settling;
      derives = c.in_ok-asks.ensures.derives b.hooks b.limit fit.derived known.derives;
    })
    c.in-Some.at c.in-Some.question.now c.in-Some.ensures.asks (low_place b.program c.advance.new.self c.in-Some.at c.in-Some.question.now c.in-Some.ensures.asks (c.in_ok-asks.ensures.asks c.if-asks.true))
    c.in_ok-binding-in-Some.binding (c.in_ok-binding-in-Some.ensures.pairs ∙ c.items.ensures) c.in_ok-binding-in-Some.ensures.one_each c.number_of_member.result c.number_of_member.ensures

pub returns-then-asks-clause-ends : goal.returns-then-asks-clause-ends
returns-then-asks-clause-ends g c =
    let w = c.args.self.now in
    let b = basis_of g.N.Natives.operators w in
    let fit = c.requires.fit in
    let known = c.requires.settling in
    ends b fit.basis c.advance.new.store c.advance.new.table c.args.term.0 c.advance.new.self
    (record {
      own = ap (λ (x : TermId). x.0) c.advance.ensures.term ∙ known.own;
      settling = c.in_ok-asks.ensures.settling;
      derives = c.in_ok-asks.ensures.derives b.hooks b.limit fit.derived known.derives;
    })
    c.in-Some.at c.in-Some.question.now c.in-Some.ensures.asks (low_place b.program c.advance.new.self c.in-Some.at c.in-Some.question.now c.in-Some.ensures.asks (c.in_ok-asks.ensures.asks c.if-asks.true))
    c.in_ok-binding-in-Some.binding (c.in_ok-binding-in-Some.ensures.pairs ∙ c.items.ensures) c.in_ok-binding-in-Some.ensures.one_each c.number_of_member.result c.number_of_member.ensures
    (c.advance.ensures.derived b.hooks b.limit known.derives fit.derived) c.has_nodes.ensures

pub returns-then-asks-clause-grows : goal.returns-then-asks-clause-grows
returns-then-asks-clause-grows g c =
    let b = basis_of g.N.Natives.operators c.args.self.now in
    comes_with b c.args.store.now c.advance.new.store c.args.self.now.table c.advance.new.table c.args.self.now.begun c.requires.fit c.advance.ensures.later.extends c.advance.ensures.later.kept
    (c.advance.ensures.derived b.hooks b.limit c.requires.settling.derives c.requires.fit.derived)

pub returns-in_err-binding-in-Some-clause-grows : goal.returns-in_err-binding-in-Some-clause-grows
returns-in_err-binding-in-Some-clause-grows g c =
    let b = basis_of g.N.Natives.operators c.args.self.now in
    comes_with b c.args.store.now c.advance.new.store c.args.self.now.table c.advance.new.table c.args.self.now.begun c.requires.fit c.advance.ensures.later.extends c.advance.ensures.later.kept
    (c.advance.ensures.derived b.hooks b.limit c.requires.settling.derives c.requires.fit.derived)

pub returns-in_err-asks-clause-grows : goal.returns-in_err-asks-clause-grows
returns-in_err-asks-clause-grows g c =
    let b = basis_of g.N.Natives.operators c.args.self.now in
    comes_with b c.args.store.now c.advance.new.store c.args.self.now.table c.advance.new.table c.args.self.now.begun c.requires.fit c.advance.ensures.later.extends c.advance.ensures.later.kept
    (c.advance.ensures.derived b.hooks b.limit c.requires.settling.derives c.requires.fit.derived)

pub returns-clause-none : goal.returns-clause-none
returns-clause-none g c =
    let s = c.args.self.now.program.now.sig in
    let new = c.advance.new.store in
    let own = ap (λ (x : TermId). x.0) c.advance.ensures.term ∙ c.requires.settling.own in
    record {
      known = (term_later s c.args.store.now new c.advance.ensures.later.extends c.args.term.0 c.requires.term).0;
      settled = subst (λ i. AreSettled s new c.advance.new.table (tree_at new i)) own (c.in_ok-asks.ensures.settled c.if-asks.false);
    }

pub returns-clause-grows : goal.returns-clause-grows
returns-clause-grows g c =
    let b = basis_of g.N.Natives.operators c.args.self.now in
    record {
      basis = refl;
      extends = c.advance.ensures.later.extends;
      kept = c.advance.ensures.later.kept;
      derived = c.advance.ensures.derived b.hooks b.limit c.requires.settling.derives c.requires.fit.derived;
      identities = λ e. (c.in_ok-asks.ensures.settled c.if-asks.false).identities;
    }
