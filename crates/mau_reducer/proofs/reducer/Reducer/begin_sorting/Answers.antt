use Rattle.std.proofs.Common.{sym, ap, subst}
use Rattle.mau_terms.specs.declared.ids.TermId.{TermId}
use Rattle.mau_settling.proofs.States.{current_is}
use Rattle.mau_deriving.specs.Asking.{Derives}
use Rattle.mau_reducer.specs.Worlds.{basis_of}
use Rattle.mau_reducer.specs.Handles.{IsKnownSettling}
use Rattle.mau_reducer.specs.LaterStates.{term_later, store_grown, comes_with, identities_grown}
use Rattle.mau_reducer.proofs.Settlings.{settled_at_once}
use Rattle.mau_reducer.proofs.reducer.Reducer.begin_sorting.Goals as goal

pub returns-in_err-settling-clause-grows : goal.returns-in_err-settling-clause-grows
returns-in_err-settling-clause-grows g c =
    store_grown (basis_of g.N.Natives.operators c.args.self.now) c.args.store.now c.begin_settling.new.store c.args.self.now.table c.args.self.now.begun c.begin_settling.ensures.extends c.requires.fit

pub returns-in_err-way-clause-grows : goal.returns-in_err-way-clause-grows
returns-in_err-way-clause-grows g c =
    store_grown (basis_of g.N.Natives.operators c.args.self.now) c.args.store.now c.begin_settling.new.store c.args.self.now.table c.args.self.now.begun c.begin_settling.ensures.extends c.requires.fit

pub returns-then-not-self-clause-known : goal.returns-then-not-self-clause-known
returns-then-not-self-clause-known g c =
    let w = c.args.self.now in
    let b = basis_of g.N.Natives.operators w in
    let fit = c.requires.fit in
    subst (IsKnownSettling b c.begin_settling.new.store w.table c.args.term.0) (sym c.in_ok-way.ensures.ok)
    (record {
      own = ap (λ (x : TermId). x.0) c.in_ok-settling.ensures.term;
      settling = c.in_ok-settling.ensures.settling w.table fit.derived.over fit.derived.closed;
      derives = current_is (Derives b.program b.hooks b.limit c.begin_settling.new.store) c.in_ok-settling.settling.current c.in_ok-settling.ensures.none;
    })

pub returns-then-not-self-clause-grows : goal.returns-then-not-self-clause-grows
returns-then-not-self-clause-grows g c =
    store_grown (basis_of g.N.Natives.operators c.args.self.now) c.args.store.now c.begin_settling.new.store c.args.self.now.table c.args.self.now.begun c.begin_settling.ensures.extends c.requires.fit

pub returns-in_err-done-clause-grows : goal.returns-in_err-done-clause-grows
returns-in_err-done-clause-grows g c =
    comes_with (basis_of g.N.Natives.operators c.args.self.now) c.args.store.now c.settle_at_once-done.new.store c.args.self.now.table c.settle_at_once-done.new.table c.args.self.now.begun c.requires.fit
    c.settle_at_once-done.ensures.later.extends c.settle_at_once-done.ensures.later.kept
    (c.settle_at_once-done.ensures.derived (basis_of g.N.Natives.operators c.args.self.now).hooks c.args.self.now.limit c.requires.fit.derived)

pub returns-then-branch-clause-known : goal.returns-then-branch-clause-known
returns-then-branch-clause-known g c =
    let s = c.args.self.now.program.now.sig in
    let later = c.settle_at_once-done.ensures.later in
    let known = (term_later s c.args.store.now c.settle_at_once-done.new.store later.extends c.args.term.0 c.requires.term).0 in
    record {
      known = known;
      settled = settled_at_once s c.settle_at_once-done.new.store c.has_nodes.ensures c.settle_at_once-done.new.table later.closed
          (identities_grown s c.args.store.now c.settle_at_once-done.new.store c.args.self.now.table c.settle_at_once-done.new.table later.extends later.kept (c.requires.fit.identities c.if-not-self.false))
          c.args.term.0 known.term.within.there (c.in_ok-done.ensures.settled c.if-branch.true);
    }

pub returns-then-branch-clause-grows : goal.returns-then-branch-clause-grows
returns-then-branch-clause-grows g c =
    comes_with (basis_of g.N.Natives.operators c.args.self.now) c.args.store.now c.settle_at_once-done.new.store c.args.self.now.table c.settle_at_once-done.new.table c.args.self.now.begun c.requires.fit
    c.settle_at_once-done.ensures.later.extends c.settle_at_once-done.ensures.later.kept
    (c.settle_at_once-done.ensures.derived (basis_of g.N.Natives.operators c.args.self.now).hooks c.args.self.now.limit c.requires.fit.derived)

pub settle_term-requires : goal.settle_term-requires
settle_term-requires g c =
    record { term = (term_later c.args.self.now.program.now.sig c.args.store.now c.settle_at_once-done.new.store c.settle_at_once-done.ensures.later.extends c.args.term.0 c.requires.term).0.term }

pub returns-in_err-settling-2-clause-grows : goal.returns-in_err-settling-2-clause-grows
returns-in_err-settling-2-clause-grows g c =
    comes_with (basis_of g.N.Natives.operators c.args.self.now) c.args.store.now c.settle_at_once-done.new.store c.args.self.now.table c.settle_at_once-done.new.table c.args.self.now.begun c.requires.fit
    c.settle_at_once-done.ensures.later.extends c.settle_at_once-done.ensures.later.kept
    (c.settle_at_once-done.ensures.derived (basis_of g.N.Natives.operators c.args.self.now).hooks c.args.self.now.limit c.requires.fit.derived)

pub returns-in_err-way-2-clause-grows : goal.returns-in_err-way-2-clause-grows
returns-in_err-way-2-clause-grows g c =
    comes_with (basis_of g.N.Natives.operators c.args.self.now) c.args.store.now c.settle_at_once-done.new.store c.args.self.now.table c.settle_at_once-done.new.table c.args.self.now.begun c.requires.fit
    c.settle_at_once-done.ensures.later.extends c.settle_at_once-done.ensures.later.kept
    (c.settle_at_once-done.ensures.derived (basis_of g.N.Natives.operators c.args.self.now).hooks c.args.self.now.limit c.requires.fit.derived)

pub returns-clause-known : goal.returns-clause-known
returns-clause-known g c =
    let w = c.args.self.now in
    let b = basis_of g.N.Natives.operators w in
    let later = c.settle_at_once-done.ensures.later in
    let new = c.settle_at_once-done.new.store in
    let table = c.settle_at_once-done.new.table in
    subst (IsKnownSettling b new table c.args.term.0) (sym c.in_ok-way-2.ensures.ok)
    (record {
      own = ap (λ (x : TermId). x.0) c.in_ok-settling-2.ensures.term;
      settling = c.in_ok-settling-2.ensures.settling table later.over later.closed
          (identities_grown b.program.sig c.args.store.now new w.table table later.extends later.kept (c.requires.fit.identities c.if-not-self.false));
      derives = current_is (Derives b.program b.hooks b.limit new) c.in_ok-settling-2.settling.current c.in_ok-settling-2.ensures.none;
    })

pub returns-clause-grows : goal.returns-clause-grows
returns-clause-grows g c =
    comes_with (basis_of g.N.Natives.operators c.args.self.now) c.args.store.now c.settle_at_once-done.new.store c.args.self.now.table c.settle_at_once-done.new.table c.args.self.now.begun c.requires.fit
    c.settle_at_once-done.ensures.later.extends c.settle_at_once-done.ensures.later.kept
    (c.settle_at_once-done.ensures.derived (basis_of g.N.Natives.operators c.args.self.now).hooks c.args.self.now.limit c.requires.fit.derived)
