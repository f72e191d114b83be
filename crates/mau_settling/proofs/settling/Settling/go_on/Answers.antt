use Rattle.std.proofs.Common.{◌<◌, length, refl, sym, subst, arith}
use Rattle.std.proofs.lemmas.Grind.{common_steps}
use Rattle.mau_terms.specs.declared.ids.TermId.{TermId}
use Rattle.mau_store.proofs.Growth.{extension_is_preorder}
use Rattle.mau_deriving.proofs.Kept.{at_place}
use Rattle.mau_deriving.proofs.Lawful.{heads}
use Rattle.mau_settling.specs.Due.{IsDueInFirst}
use Rattle.mau_settling.specs.Settlings.{left_of}
use Rattle.mau_settling.proofs.Due.{due_in_first}
use Rattle.mau_settling.proofs.States.{derived_grown, settling_stays}
use Rattle.mau_settling.proofs.settling.Settling.go_on.Goals as goal

pub returns-in_err-gone-clause-derived : goal.returns-in_err-gone-clause-derived
returns-in_err-gone-clause-derived g c = λ hooks limit k d.
    derived_grown c.args.program.now hooks limit (heads c.args.program.now c.requires.lawful c.requires.signature hooks) c.requires.lawful.accepted c.args.store.now c.advance-gone.new.store c.has_nodes.ensures
    c.args.table.now c.advance-gone.new.table c.args.derivation.term.0 c.advance-gone.ensures.grown d

pub returns-then-derivation-items-clause-derived : goal.returns-then-derivation-items-clause-derived
returns-then-derivation-items-clause-derived g c = λ hooks limit k d.
    derived_grown c.args.program.now hooks limit (heads c.args.program.now c.requires.lawful c.requires.signature hooks) c.requires.lawful.accepted c.args.store.now c.advance-gone.new.store c.has_nodes.ensures
    c.args.table.now c.advance-gone.new.table c.args.derivation.term.0 c.advance-gone.ensures.grown d

pub returns-then-derivation-items-clause-settling : goal.returns-then-derivation-items-clause-settling
returns-then-derivation-items-clause-settling g c =
    let grown = c.advance-gone.ensures.grown in
    let h = settling_stays c.args.program.now c.args.store.now c.advance-gone.new.store grown.extends c.args.table.now c.advance-gone.new.table grown.kept grown.over (grown.closed c.requires.settling.closed) c.args.self.now c.requires.settling in
    record {
      over = h.over;
      closed = h.closed;
      term = h.term;
      roots = h.roots;
      left = h.left;
      path = h.path;
      current = record {
        stands = c.in_ok-gone.ensures.stands;
        due = subst (λ (t : TermId). IsDueInFirst c.advance-gone.new.store c.advance-gone.new.table (left_of c.args.self.now) t.0) (sym c.advance-gone.ensures.term)
            (due_in_first c.args.store.now c.advance-gone.new.store grown.extends c.args.table.now c.advance-gone.new.table grown.kept (left_of c.args.self.now) c.args.derivation.term.0 c.requires.derivation.due);
      };
    }

pub returns-clause-settling : goal.returns-clause-settling
returns-clause-settling g c =
    let h = settling_stays c.args.program.now c.args.store.now c.args.store.now (extension_is_preorder.reflexive c.args.store.now) c.args.table.now c.enter.new.table c.enter.ensures.kept c.enter.ensures.over
    (c.enter.ensures.closed c.requires.settling.closed) c.args.self.now c.requires.settling in
    record { over = h.over; closed = h.closed; term = h.term; roots = h.roots; left = h.left; path = h.path; current = tt }

pub returns-then-derivation-len-clause-stage : goal.returns-then-derivation-len-clause-stage
returns-then-derivation-len-clause-stage g c =
    let low : c.args.derivation.asked < length c.args.derivation.questions.items = grind (arith, common_steps, c.len.ensures, c.if-derivation-len.true) in
    let z = at_place c.args.derivation.questions.items c.args.derivation.asked low in
    let there : c.args.derivation.at < length c.args.program.now.memberships = grind (arith, common_steps, c.items.ensures, c.if-derivation-items.true) in
    (c.args.derivation.at, z.0, record { derivation = c.args.derivation; is = refl; at_place = refl; question = z.1 }, there)
