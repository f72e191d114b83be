use Rattle.std.proofs.Common.{false, refl, inl, ◌∙◌, subst}
use Rattle.mau_terms.specs.Tree.{Tree}
use Rattle.mau_store.specs.Trees.{tree_at}
use Rattle.mau_sorts.proofs.Settling.{kept_same}
use Rattle.mau_listing.proofs.Closed.{closed_stay}
use Rattle.mau_api.specs.Meanings.{meanings_by}
use Rattle.mau_api.specs.Answers.{AreSettled, MayEnd}
use Rattle.mau_deriving.proofs.Lawful.{heads}
use Rattle.mau_deriving.proofs.Asked.{only_store}
use Rattle.mau_settling.proofs.States.{derived_grown, later_on, tree_stays, current_is}
use Rattle.mau_settling.proofs.solving.settle_by.Goals as goal

pub returns-in-Err-clause-derived : goal.returns-in-Err-clause-derived
returns-in-Err-clause-derived g c = λ hooks limit right d.
    derived_grown c.args.program.now hooks limit (heads c.args.program.now c.requires.lawful c.requires.signature hooks) c.requires.lawful.accepted c.args.store.now c.begin_settling-begun.new.store c.has_nodes.ensures c.args.table.now
    c.args.table.now c.args.term.0 (only_store c.args.program.now.sig c.args.store.now c.begin_settling-begun.new.store c.args.table.now c.args.term.0 c.begin_settling-begun.ensures.extends c.requires.over) d

pub returns-in-Err-clause-ends : goal.returns-in-Err-clause-ends
returns-in-Err-clause-ends g c = λ hooks limit right d. (tree_at c.args.store.now c.args.term.0, inl refl, tt)

pub returns-in-Err-clause-later : goal.returns-in-Err-clause-later
returns-in-Err-clause-later g c = record {
  extends = c.begin_settling-begun.ensures.extends;
  kept = kept_same c.args.table.now;
  over = c.requires.over;
  closed = closed_stay c.args.store.now c.begin_settling-begun.new.store c.args.table.now c.begin_settling-begun.ensures.extends c.requires.closed;
}

pub loop-init : goal.loop-init
loop-init g c = record {
  settling = c.in-Ok.ensures.settling c.args.table.now c.requires.over c.requires.closed;
  derives = λ hooks limit right d. current_is _ c.in-Ok.settling.current c.in-Ok.ensures.none;
  derived = λ hooks limit right d.
      derived_grown c.args.program.now hooks limit (heads c.args.program.now c.requires.lawful c.requires.signature hooks) c.requires.lawful.accepted c.args.store.now c.begin_settling-begun.new.store c.has_nodes.ensures c.args.table.now
      c.args.table.now c.args.term.0 (only_store c.args.program.now.sig c.args.store.now c.begin_settling-begun.new.store c.args.table.now c.args.term.0 c.begin_settling-begun.ensures.extends c.requires.over) d;
  right = λ p hooks limit r. r;
  term = c.in-Ok.ensures.term;
  later = record {
    extends = c.begin_settling-begun.ensures.extends;
    kept = kept_same c.args.table.now;
    over = c.requires.over;
    closed = closed_stay c.args.store.now c.begin_settling-begun.new.store c.args.table.now c.begin_settling-begun.ensures.extends c.requires.closed;
  };
}

pub returns-in-Err-solve_next-clause-derived : goal.returns-in-Err-solve_next-clause-derived
returns-in-Err-solve_next-clause-derived g c = λ hooks limit right d.
    c.solve_next.ensures.derived hooks limit (c.loop.invariant.right c.args.program.now hooks limit right)
    (c.advance.ensures.derived hooks limit (c.loop.invariant.derives hooks limit right d) (c.loop.invariant.derived hooks limit right d))

pub returns-in-Err-solve_next-clause-ends : goal.returns-in-Err-solve_next-clause-ends
returns-in-Err-solve_next-clause-ends g c = λ hooks limit right d.
    subst (λ (u : Tree). MayEnd (meanings_by c.args.program.now hooks limit false) u c.in-Err-solve_next.end)
    (tree_stays c.args.program.now.sig c.args.store.now c.advance.new.store (later_on c.args.program.now c.args.store.now c.loop.store c.advance.new.store c.args.table.now c.loop.table c.advance.new.table c.loop.invariant.later c.advance.ensures.later).extends c.args.term c.advance.new.self.term (c.advance.ensures.term ∙ c.loop.invariant.term) c.requires.term)
    (c.in-Err-solve_next.ensures.ends hooks limit (c.loop.invariant.right c.args.program.now hooks limit right)
    (c.advance.ensures.derived hooks limit (c.loop.invariant.derives hooks limit right d) (c.loop.invariant.derived hooks limit right d))
    (c.in-Ok-true.ensures.derives hooks limit (c.loop.invariant.derived hooks limit right d) (c.loop.invariant.derives hooks limit right d)))

pub returns-in-Err-solve_next-clause-later : goal.returns-in-Err-solve_next-clause-later
returns-in-Err-solve_next-clause-later g c =
    later_on c.args.program.now c.args.store.now c.advance.new.store c.solve_next.new.store c.args.table.now c.advance.new.table c.solve_next.new.table
    (later_on c.args.program.now c.args.store.now c.loop.store c.advance.new.store c.args.table.now c.loop.table c.advance.new.table c.loop.invariant.later c.advance.ensures.later) c.solve_next.ensures.later

pub returns-in-Ok-false-clause-settled : goal.returns-in-Ok-false-clause-settled
returns-in-Ok-false-clause-settled g c =
    subst (AreSettled c.args.program.now.sig c.advance.new.store c.advance.new.table)
    (tree_stays c.args.program.now.sig c.args.store.now c.advance.new.store (later_on c.args.program.now c.args.store.now c.loop.store c.advance.new.store c.args.table.now c.loop.table c.advance.new.table c.loop.invariant.later c.advance.ensures.later).extends c.args.term c.advance.new.self.term (c.advance.ensures.term ∙ c.loop.invariant.term) c.requires.term)
    (c.in-Ok-false.ensures.settled c.in-Ok-false.field-0-test)

pub returns-in-Ok-false-clause-derived : goal.returns-in-Ok-false-clause-derived
returns-in-Ok-false-clause-derived g c = λ hooks limit right d. c.advance.ensures.derived hooks limit (c.loop.invariant.derives hooks limit right d) (c.loop.invariant.derived hooks limit right d)

pub returns-in-Ok-false-clause-later : goal.returns-in-Ok-false-clause-later
returns-in-Ok-false-clause-later g c = later_on c.args.program.now c.args.store.now c.loop.store c.advance.new.store c.args.table.now c.loop.table c.advance.new.table c.loop.invariant.later c.advance.ensures.later

pub returns-in-Err-advance-clause-derived : goal.returns-in-Err-advance-clause-derived
returns-in-Err-advance-clause-derived g c = λ hooks limit right d. c.advance.ensures.derived hooks limit (c.loop.invariant.derives hooks limit right d) (c.loop.invariant.derived hooks limit right d)

pub returns-in-Err-advance-clause-ends : goal.returns-in-Err-advance-clause-ends
returns-in-Err-advance-clause-ends g c = λ hooks limit right d. (tree_at c.args.store.now c.args.term.0, inl refl, tt)

pub returns-in-Err-advance-clause-later : goal.returns-in-Err-advance-clause-later
returns-in-Err-advance-clause-later g c = later_on c.args.program.now c.args.store.now c.loop.store c.advance.new.store c.args.table.now c.loop.table c.advance.new.table c.loop.invariant.later c.advance.ensures.later

pub loop-preserved : goal.loop-preserved
loop-preserved g c = record {
  settling = c.in-Ok-solve_next.ensures.settling;
  derives = λ hooks limit right d. c.in-Ok-solve_next.ensures.derives hooks limit (c.loop.invariant.right c.args.program.now hooks limit right)
      (c.advance.ensures.derived hooks limit (c.loop.invariant.derives hooks limit right d) (c.loop.invariant.derived hooks limit right d))
      (c.in-Ok-true.ensures.derives hooks limit (c.loop.invariant.derived hooks limit right d) (c.loop.invariant.derives hooks limit right d));
  derived = λ hooks limit right d. c.solve_next.ensures.derived hooks limit (c.loop.invariant.right c.args.program.now hooks limit right)
      (c.advance.ensures.derived hooks limit (c.loop.invariant.derives hooks limit right d) (c.loop.invariant.derived hooks limit right d));
  right = λ q hooks limit r. c.solve_next.ensures.right q hooks limit (c.loop.invariant.right q hooks limit r);
  term = c.solve_next.ensures.term ∙ (c.advance.ensures.term ∙ c.loop.invariant.term);
  later = later_on c.args.program.now c.args.store.now c.advance.new.store c.solve_next.new.store c.args.table.now c.advance.new.table c.solve_next.new.table
      (later_on c.args.program.now c.args.store.now c.loop.store c.advance.new.store c.args.table.now c.loop.table c.advance.new.table c.loop.invariant.later c.advance.ensures.later) c.solve_next.ensures.later;
}

pub returns-clause-ends : goal.returns-clause-ends
returns-clause-ends g c = λ hooks limit right d. (tree_at c.args.store.now c.args.term.0, inl refl, tt)
